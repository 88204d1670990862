use Rattle.std.proofs.Common.{◌≡◌, false, drop}
use Rattle.lw_gramlex.proofs.StringLemmas.{inside_end}
use Rattle.lw_gramlex.proofs.string.string_length.Given as goal

abbrev pub invariant-inside : goal.invariant-inside
invariant-inside l = inside_end l.quote 0 false l.after ≡ inside_end l.quote l.at l.escaped (drop l.at l.after)
