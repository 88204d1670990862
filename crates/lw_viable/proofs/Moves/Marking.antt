-- A mark with a number means one mark.
use Rattle.std.proofs.Common.{◌≡◌, ℕ, List, [], ◌∷◌, Some, slice_get, refl, sym, ◌∙◌, subst}
use Rattle.std.proofs.lemmas.Option.{same_Some}
use Rattle.lw_base.specs.declared.numbers.KindId.{KindId}
use Rattle.lw_base.specs.declared.numbers.RuleId.{RuleId}
use Rattle.lw_grammar.specs.declared.grammar.Grammar.{Grammar}
use Rattle.lw_grammar.specs.declared.rule.Action.{Action}
use Rattle.lw_grammar.specs.declared.rule.Element.{Element, out-Element}
use Rattle.lw_grammar.specs.declared.rule.Element.TheOpen as layer
use Rattle.lw_grammar.specs.declared.rule.Element.TheOpen.{Element-F}
use Rattle.lw_grammar.specs.declared.rule.Op.{Op}
use Rattle.lw_grammar.specs.declared.rule.Value0.{Value0}
use Rattle.lw_grammar.specs.declared.rule.Value0.TheOpen.{Value0-F}
use Rattle.lw_grammar.specs.Marks.{Mark}
use Rattle.lw_grammar.specs.Marks as mark
use Rattle.lw_look.specs.Sites.{PartSite, ◌▸◌, Value, IsPartAt, ElementAt, ValueAt}
use Rattle.lw_look.proofs.Standing.{same_body, same_value, no_body_is_value, one_stands}
use Rattle.lw_program.specs.Numbered.{put_sites, act_sites}
use Rattle.lw_program.specs.declared.recipes.mark.TreeMark.TheVariants as numbered
use Rattle.lw_program.specs.Meant.{AssignedAt, AreMeant}
use Rattle.lw_program.specs.Meant as meant
use Rattle.lw_viable.proofs.Moves.Doing.{element_form, value_form}

same_outer : {s t : PartSite} {i j : ℕ} → s ▸ i ≡ t ▸ j → s ≡ t
same_outer same = cc

module _ (g : Grammar) where
  -- one form of an element stands at a site, and no value
  pub one_form : {s : PartSite} {f h : Element-F Element} → ElementAt g s f → ElementAt g s h → f ≡ h
  one_form at other =
      let (a, stands, is) = element_form g at in
      let (b, stands', is') = element_form g other in
      let same : a ≡ b = same_body (one_stands g stands stands') in
      let both : out-Element a ≡ out-Element b = cc in
      sym is ∙ both ∙ is'

  no_value_there : {s : PartSite} {f : Element-F Element} {v : Value0} {h : Value0-F Value0} → ElementAt g s f → ValueAt g s v h → ⊥
  no_value_there at other =
      let (a, stands, is) = element_form g at in
      let (stands', is') = value_form g other in
      no_body_is_value (one_stands g stands stands')

  -- a value is put into one property by one operator
  one_put : {s t : PartSite} {p q : List ℕ} {op by : Op} → s ≡ t → AssignedAt g s p op → AssignedAt g t q by → (p ≡ q) × (op ≡ by)
  one_put same (meant.whole {p} {op} {v} {span} at) (meant.whole {s} {p = q} {op = by} {v = w} {span = there} other) =
      let forms : layer.Assign p op v span ≡ layer.Assign q by w there =
      one_form (subst (λ s. ElementAt g s (layer.Assign p op v span)) (same_outer same) at) other in
      let same_p : p ≡ q = cc in
      let same_op : op ≡ by = cc in
      (same_p, same_op)
  one_put same (meant.whole {p} {op} {v} {span} at) (meant.way i assigned other) =
      absurd (no_value_there (subst (λ s. ElementAt g s (layer.Assign p op v span)) (same_outer same) at) other)
  one_put same (meant.way i assigned other) (meant.whole {p} {op} {v} {span} at) =
      absurd (no_value_there (subst (λ s. ElementAt g s (layer.Assign p op v span)) (sym (same_outer same)) at) other)
  one_put same (meant.way i assigned at) (meant.way j other at') = one_put (same_outer same) assigned other

  -- the marks that one mark means
  pub token_meant : {k : KindId} {m : List Mark} → AreMeant g (numbered.Token k ∷ []) m → m ≡ mark.Token k.0 ∷ []
  token_meant (meant.more (meant.token k) meant.none) = refl

  pub open_meant : {r : RuleId} {m : List Mark} → AreMeant g (numbered.Open r ∷ []) m → m ≡ mark.Open r.0 ∷ []
  open_meant (meant.more (meant.opens r) meant.none) = refl

  pub shut_meant : {m : List Mark} → AreMeant g (numbered.Shut ∷ []) m → m ≡ mark.Shut ∷ []
  shut_meant (meant.more meant.shuts meant.none) = refl

  pub end_meant : {m : List Mark} → AreMeant g (numbered.End ∷ []) m → m ≡ mark.End ∷ []
  end_meant (meant.more meant.ends meant.none) = refl

  pub none_meant : {m : List Mark} → AreMeant g [] m → m ≡ []
  none_meant meant.none = refl

  pub act_meant : {n : ℕ} {s : PartSite} {a : Action} {m : List Mark} → slice_get (act_sites g) n ≡ Some s → ElementAt g s (layer.Act a) →
      AreMeant g (numbered.Act n ∷ []) m → m ≡ mark.Act a ∷ []
  act_meant {n} {s} {a} numbered at (meant.more (meant.acts {s = t} {a = b} is other) meant.none) =
      let there : t ≡ s = same_Some t s (sym is ∙ numbered) in
      let forms : layer.Act b ≡ layer.Act a = one_form (subst (λ s. ElementAt g s (layer.Act b)) there other) at in
      let same : b ≡ a = cc in
      cc

  pub put_meant : {n : ℕ} {s : PartSite} {p : List ℕ} {op : Op} {v : Value0} {m : List Mark} → slice_get (put_sites g) n ≡ Some s → AssignedAt g s p op →
      IsPartAt g s (Value v) → AreMeant g (numbered.Put n ∷ []) m → m ≡ mark.Put p op v ∷ []
  put_meant {s} {p} {op} {v} is at stands (meant.more (meant.puts {s = t} {p = q} {op = by} {v = w} other at' stands') meant.none) =
      let there : t ≡ s = same_Some t s (sym other ∙ is) in
      let (same_p, same_op) = one_put there at' at in
      let same_v : w ≡ v = same_value (one_stands g (subst (λ s. IsPartAt g s (Value w)) there stands') stands) in
      let property : q ≡ p = same_p in
      let operator : by ≡ op = same_op in
      cc
