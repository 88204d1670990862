use Rattle.std.proofs.lemmas.Bool.{iff_false}
use Rattle.lw_grammar.specs.Written.{IsInferredType}
use Rattle.lw_types.proofs.Deciding.{has_such, is_other}
use Rattle.lw_types.proofs.naming.names.KnownNames.is_known.Goals as goal

pub returns-else-is_declared : goal.returns-else-is_declared
returns-else-is_declared c =
    let names = c.args.self.now in
    is_other c.contains.result (iff_false (c.is_declared.ensures names.g.now c.requires.numbered) c.if-is_declared.false)
    (has_such (IsInferredType names.g.now) names.inferred.keys c.args.name.now c.contains.result c.contains.ensures (c.requires.inferred c.args.name.now))
