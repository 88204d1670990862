-- How the sets of rules grow where rules are done by rounds, in words of the code.
use Rattle.std.specs.Prelude.{ℕ, ◌≡◌, ◌<◌, ◌+◌, ◌-◌, ◌*◌, ◌≤◌, ◌⊎◌, ◌↔◌, Bool, true, false, List, [], Some, length, slice_get, slice_index_or, count_by}
use Rattle.std.specs.List.{sum_by}
use Rattle.lw_grammar.specs.declared.grammar.Grammar.{Grammar}
use Rattle.lw_grammar.specs.declared.rule.Rule.{Rule}
use Rattle.lw_grammar.specs.Kinds.{Kinds}
use Rattle.lw_look.specs.Sites.{Body}
use Rattle.lw_look.specs.Heads.{Can, AreTrueHeads}
use Rattle.lw_look.specs.Supplied.{NodesAreTold}
use Rattle.lw_first.specs.declared.heads.head.Head.{Head}
use Rattle.lw_first.specs.Sets.{IsInSet, most_heads}
use Rattle.lw_kinds.specs.LexiconKnown.{IsKnownLexicon}
use Rattle.lw_first.specs.declared.rounds.Work.{Work}
use Rattle.lw_first.specs.Calling.{HasAllCalls}

-- how many heads are not in a set, and in all sets
abbrev pub heads_missing_in : List Head → ℕ
heads_missing_in heads = most_heads - length heads

abbrev pub heads_missing : List (List Head) → ℕ
heads_missing = sum_by heads_missing_in

-- a set got a head, or all are as they were
abbrev pub GrewOrSame : List (List Head) → List (List Head) → Bool → Type 0
GrewOrSame old new true = heads_missing new < heads_missing old
GrewOrSame old new false = new ≡ old

module _ (g : Grammar) (kinds : Kinds) (k : ℕ) where
  -- the body of the rule of this number may have the head
  abbrev pub BodyCan : List (List Head) → ℕ → List ℕ → Type 0
  BodyCan sets r h = (rule : Rule) × (slice_get g.rules r ≡ Some rule) × Can g kinds k (IsInSet sets) (Body rule.body) [] h

  -- the rule of this number got what its body may have
  abbrev pub GrowsAt : ℕ → List (List Head) → List (List Head) → Type 0
  GrowsAt number old new = (r : ℕ) (h : List ℕ) → IsInSet new r h ↔ (IsInSet old r h ⊎ ((r ≡ number) × BodyCan old number h))

  -- no head came in that is not one of its rule's
  abbrev pub StaysTrue : List (List Head) → List (List Head) → Type 0
  StaysTrue old new = AreTrueHeads g kinds k (IsInSet old) → AreTrueHeads g kinds k (IsInSet new)

  -- the rules that do not wait have what their bodies may have
  abbrev pub AreRulesSettled : List Bool × List (List Head) → Type 0
  AreRulesSettled (waiting, sets) = (r : ℕ) (h : List ℕ) → slice_index_or waiting r false ≡ false → BodyCan sets r h → IsInSet sets r h

  -- and so it stays
  abbrev pub SettlesMore : List Bool × List (List Head) → List Bool × List (List Head) → Type 0
  SettlesMore old new = AreRulesSettled old → AreRulesSettled new

-- how much work may be left: each head that comes in may let each rule wait
abbrev pub rounds_left : List Bool × List (List Head) → ℕ
rounds_left (waiting, sets) = heads_missing sets * (length waiting + 1) + count_by (λ waits. waits) waiting

-- less work is left, or all is as it was
abbrev pub WorksOrRests : List Bool × List (List Head) → List Bool × List (List Head) → Bool → Type 0
WorksOrRests old new true = rounds_left new < rounds_left old
WorksOrRests old new false = new ≡ old

-- from this number on no rule waits
abbrev pub NoneWaits : ℕ → List Bool → Type 0
NoneWaits left waiting = (r : ℕ) → left ≤ r → slice_index_or waiting r false ≡ false

-- names are known, heads are of a size that they may have, and the callers are all there are
pub record IsWork (work : Work) : Type 0 where
  pub lexicon : IsKnownLexicon work.lexicon
  pub most : work.k ≤ 3
  pub told : NodesAreTold work.lexicon.g.now
  pub nodes : work.callers.now.nodes ≡ length work.lexicon.g.now.rules
  pub calls : HasAllCalls work.lexicon.g.now work.callers.now
