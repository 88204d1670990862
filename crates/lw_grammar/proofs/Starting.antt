-- What a start begins with is a start.
use Rattle.std.proofs.Common.{ℕ, List, ◌++◌, subst}
use Rattle.std.proofs.lemmas.List.{append_assoc}
use Rattle.lw_grammar.specs.declared.grammar.Grammar.{Grammar}
use Rattle.lw_grammar.specs.Kinds.{Kinds}
use Rattle.lw_grammar.specs.Sentences.{IsWhole, Starts}

pub Starts-front : (g : Grammar) (kinds : Kinds) (front more : List ℕ) → Starts g kinds (front ++ more) → Starts g kinds front
Starts-front g kinds front more (rest, whole) = (more ++ rest, subst (IsWhole g kinds) (append_assoc front more rest) whole)
