use Rattle.lw_complete.specs.Typing.{grammar_of}
use Rattle.lw_complete.proofs.JudgedRead.{read_outwards, read_owner, read_root, read_want}
use Rattle.lw_complete.proofs.judging.leads.Goals as goal

pub finds-requires-clause-outwards : goal.finds-requires-clause-outwards
finds-requires-clause-outwards c = read_outwards (grammar_of c.args.typing.now) c.requires.read.0 c.args.tree.now c.requires.read.1

pub finds-requires-clause-root : goal.finds-requires-clause-root
finds-requires-clause-root c = read_root (grammar_of c.args.typing.now) c.requires.read.0 c.args.tree.now c.requires.read.1

pub finds-requires-clause-owner : goal.finds-requires-clause-owner
finds-requires-clause-owner c =
    read_owner (grammar_of c.args.typing.now) c.requires.read.0 c.args.tree.now c.requires.read.1 c.args.reference.now c.requires.among

pub finds-requires-clause-known : goal.finds-requires-clause-known
finds-requires-clause-known c =
    let g = grammar_of c.args.typing.now in
    (g, c.types-types.ensures, read_want g c.requires.read.0 c.args.tree.now c.requires.read.1 c.args.reference.now c.requires.among)

pub returns : goal.returns
returns c trees address among =
    c.finds.ensures (grammar_of c.args.typing.now) trees address c.types-types.ensures among.index among.number
