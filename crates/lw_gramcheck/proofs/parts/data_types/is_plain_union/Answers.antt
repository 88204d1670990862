use Rattle.std.proofs.lemmas.Bool.{false≢true}
use Rattle.lw_gramcheck.proofs.DataTypeLemmas.{no_plain_union}
use Rattle.lw_gramcheck.proofs.parts.data_types.is_plain_union.Goals as goal

pub returns-in-Interface : goal.returns-in-Interface
returns-in-Interface c =
    let none = no_plain_union c.args.checker.now.g.now c.args.name.now c.in-Interface.field-0 c.in-Interface.field-1.now c.in-Interface.ensures in
    (λ is. absurd (false≢true is), λ plain. absurd (none plain))
