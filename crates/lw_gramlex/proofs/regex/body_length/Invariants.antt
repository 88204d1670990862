use Rattle.std.proofs.Common.{◌≡◌, false, drop}
use Rattle.lw_gramlex.proofs.RegexLemmas.{body_end}
use Rattle.lw_gramlex.proofs.regex.body_length.Given as goal

abbrev pub invariant-body : goal.invariant-body
invariant-body l = body_end 0 false false l.body ≡ body_end l.at l.escaped l.in_class (drop l.at l.body)
