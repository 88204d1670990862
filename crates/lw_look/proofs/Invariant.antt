-- What the moves of a parser keep: the marks go on to sentences, no other sentence has these kinds, and what is still to do stands in its context.
use Rattle.std.proofs.Common.{◌≡◌, ℕ, List, [], ◌∷◌, ◌++◌}
use Rattle.lw_grammar.specs.declared.grammar.Grammar.{Grammar}
use Rattle.lw_grammar.specs.declared.rule.Op.{Op}
use Rattle.lw_grammar.specs.Kinds.{Kinds}
use Rattle.lw_grammar.specs.Marks.{Mark, kinds_of}
use Rattle.lw_grammar.specs.Sentences.{IsSentence}
use Rattle.lw_look.specs.Sites.{PartSite}
use Rattle.lw_look.specs.Looks.{After}
use Rattle.lw_look.specs.Things.{Thing, Do, Assigned, Again, Leave, RestGives}

module _ (g : Grammar) (kinds : Kinds) where
  -- what these things give follows, in some sentence, what is read at the site
  abbrev pub Behind : PartSite → List Thing → Type 0
  Behind s rest = (n : List Mark) → RestGives g kinds rest n → After g kinds s (kinds_of n)

  -- what the things below each one give follows what is read at its site
  pub data InContext : List Thing → Type 0 where
    nothing : InContext []
    element : {s : PartSite} {rest : List Thing} → Behind s rest → InContext rest → InContext (Do s ∷ rest)
    value_ : {p : List ℕ} {op : Op} {s : PartSite} {rest : List Thing} → Behind s rest → InContext rest → InContext (Assigned p op s ∷ rest)
    again : {s : PartSite} {rest : List Thing} → Behind s rest → InContext rest → InContext (Again s ∷ rest)
    leaves : {l : Mark} {rest : List Thing} → InContext rest → InContext (Leave l ∷ rest)

  -- whatever these things give, it makes a sentence of the marks
  abbrev pub MakesSentences : List Mark → List Thing → Type 0
  MakesSentences m rest = (n : List Mark) → RestGives g kinds rest n → IsSentence g kinds (m ++ n)

  -- after these marks, every sentence with exactly these kinds still to come goes on as what rest gives
  abbrev pub IsForced : List Mark → List ℕ → List Thing → Type 0
  IsForced m ks rest = (marks : List Mark) → IsSentence g kinds marks → kinds_of marks ≡ kinds_of m ++ ks → (n : List Mark) × RestGives g kinds rest n × (marks ≡ m ++ n)
