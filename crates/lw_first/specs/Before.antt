-- What may come where parts stand before given heads, and what is known of the heads of rules.
use Rattle.std.specs.Prelude.{ℕ, ◌≤◌, List}
use Rattle.lw_grammar.specs.declared.grammar.Grammar.{Grammar}
use Rattle.lw_grammar.specs.declared.rule.Element.{Element}
use Rattle.lw_grammar.specs.Kinds.{Kinds}
use Rattle.lw_look.specs.Sites.{Part}
use Rattle.lw_look.specs.Heads.{Can, RowCan, ManyCan}
use Rattle.lw_first.specs.declared.heads.head.Head.{Head}
use Rattle.lw_first.specs.Sets.{IsAmongHeads, IsInSet}
use Rattle.lw_first.specs.declared.first.First.{First}
use Rattle.lw_kinds.specs.LexiconKnown.{IsKnownLexicon}

-- `sets` has for each rule its heads, and `after` are those behind the part, the row, or the part that is read any number of times
module _ (g : Grammar) (kinds : Kinds) (k : ℕ) (sets : List (List Head)) where
  abbrev pub CanBefore : Part → List Head → List ℕ → Type 0
  CanBefore x after h = (a : List ℕ) × IsAmongHeads after a × Can g kinds k (IsInSet sets) x a h

  abbrev pub RowCanBefore : List Element → List Head → List ℕ → Type 0
  RowCanBefore parts after h = (a : List ℕ) × IsAmongHeads after a × RowCan g kinds k (IsInSet sets) parts a h

  abbrev pub ManyCanBefore : Element → List Head → List ℕ → Type 0
  ManyCanBefore part after h = (a : List ℕ) × IsAmongHeads after a × ManyCan g kinds k (IsInSet sets) part a h

-- names and kinds are known, and windows are of a size that heads may have
pub record IsReady (first : First) : Type 0 where
  pub lexicon : IsKnownLexicon first.lexicon
  pub most : first.k ≤ 3
