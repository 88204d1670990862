use Rattle.std.proofs.Common.{◌∷◌, ◌++◌, arith, inl, inr}
use Rattle.lw_gramlex.proofs.ValueLemmas.{inside_starts}
use Rattle.lw_gramlex.proofs.values.string_value.Goals as goal

pub range-requires-clause-start_boundary : goal.range-requires-clause-start_boundary
range-requires-clause-start_boundary c =
    let s = c.requires in
    λ _. inside_starts c.args.token.now (s.inside ++ s.quote ∷ s.after) s.quote c.utf8.token s.parts (elim s.is_quote [ inl single ↦ omega arith | inr double ↦ omega arith ])
