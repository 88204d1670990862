use Rattle.std.proofs.Common.{◌∷◌, ◌++◌, arith}
use Rattle.lw_gramlex.proofs.ValueLemmas.{inside_starts}
use Rattle.lw_gramlex.proofs.values.regex_text.Goals as goal

pub range-requires-clause-start_boundary : goal.range-requires-clause-start_boundary
range-requires-clause-start_boundary c =
    let r = c.requires in
    λ _. inside_starts c.args.token.now ((r.first ++ r.others) ++ 47 ∷ r.after) 47 c.utf8.token r.parts (omega arith)
