-- What marks with numbers mean: the numbers are places in the lists of what the grammar assigns, and of its actions.
use Rattle.std.specs.Prelude.{ℕ, ◌≡◌, List, [], ◌∷◌, Some, slice_get}
use Rattle.lw_base.specs.declared.token.Span.{Span}
use Rattle.lw_base.specs.declared.numbers.KindId.{KindId}
use Rattle.lw_base.specs.declared.numbers.RuleId.{RuleId}
use Rattle.lw_grammar.specs.declared.grammar.Grammar.{Grammar}
use Rattle.lw_grammar.specs.declared.rule.Action.{Action}
use Rattle.lw_grammar.specs.declared.rule.Element.TheOpen as layer
use Rattle.lw_grammar.specs.declared.rule.Op.{Op}
use Rattle.lw_grammar.specs.declared.rule.Value0.{Value0}
use Rattle.lw_grammar.specs.declared.rule.Value0.TheOpen as value
use Rattle.lw_grammar.specs.Marks.{Mark}
use Rattle.lw_grammar.specs.Marks as mark
use Rattle.lw_look.specs.Sites.{PartSite, ◌▸◌, Value, IsPartAt, ElementAt, ValueAt}
use Rattle.lw_program.specs.Numbered.{put_sites, act_sites}
use Rattle.lw_program.specs.declared.recipes.mark.TreeMark.{TreeMark}
use Rattle.lw_program.specs.declared.recipes.mark.TreeMark.TheVariants as numbered

module _ (g : Grammar) where
  -- the value at the site goes into this property by this operator, whether it is assigned itself or is one way of a choice that is
  pub data AssignedAt : PartSite → List ℕ → Op → Type 0 where
    whole : {s : PartSite} {p : List ℕ} {op : Op} {v : Value0} {span : Span} → ElementAt g s (layer.Assign p op v span) → AssignedAt (s ▸ 0) p op
    way : {s : PartSite} {p : List ℕ} {op : Op} {v : Value0} {vs : List Value0} {span : Span} (i : ℕ) → AssignedAt s p op →
        ValueAt g s v (value.Choice vs span) → AssignedAt (s ▸ i) p op

  pub data MeansMark : TreeMark → Mark → Type 0 where
    token : (k : KindId) → MeansMark (numbered.Token k) (mark.Token k.0)
    opens : (r : RuleId) → MeansMark (numbered.Open r) (mark.Open r.0)
    shuts : MeansMark numbered.Shut mark.Shut
    puts : {n : ℕ} {s : PartSite} {p : List ℕ} {op : Op} {v : Value0} → slice_get (put_sites g) n ≡ Some s → AssignedAt s p op →
        IsPartAt g s (Value v) → MeansMark (numbered.Put n) (mark.Put p op v)
    ends : MeansMark numbered.End mark.End
    acts : {n : ℕ} {s : PartSite} {a : Action} → slice_get (act_sites g) n ≡ Some s → ElementAt g s (layer.Act a) →
        MeansMark (numbered.Act n) (mark.Act a)

  -- each of these means one of those, in order
  pub data AreMeant : List TreeMark → List Mark → Type 0 where
    none : AreMeant [] []
    more : {x : TreeMark} {m : Mark} {xs : List TreeMark} {ms : List Mark} → MeansMark x m → AreMeant xs ms → AreMeant (x ∷ xs) (m ∷ ms)
