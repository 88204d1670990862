-- Marks with numbers mean one thing.
use Rattle.std.proofs.Common.{◌≡◌, ℕ, List, ◌∷◌, Some, slice_get, refl, sym, ap, subst, ◌∙◌}
use Rattle.std.proofs.lemmas.Option.{same_Some}
use Rattle.lw_base.specs.declared.token.Span.{Span}
use Rattle.lw_grammar.specs.declared.grammar.Grammar.{Grammar}
use Rattle.lw_grammar.specs.declared.rule.Action.{Action}
use Rattle.lw_grammar.specs.declared.rule.Element.{Element, out-Element}
use Rattle.lw_grammar.specs.declared.rule.Element.TheOpen as layer
use Rattle.lw_grammar.specs.declared.rule.Element.TheOpen.{Element-F}
use Rattle.lw_grammar.specs.declared.rule.Op.{Op}
use Rattle.lw_grammar.specs.declared.rule.Value0.{Value0}
use Rattle.lw_grammar.specs.declared.rule.Value0.TheOpen.{Value0-F}
use Rattle.lw_look.specs.Sites.{PartSite, Body, Value, IsPartAt, ElementAt, ValueAt}
use Rattle.lw_look.specs.Sites as site
use Rattle.lw_look.proofs.Standing.{one_stands, same_body, same_value, no_body_is_value}
use Rattle.lw_program.specs.Numbered.{put_sites, act_sites}
use Rattle.lw_program.specs.declared.recipes.mark.TreeMark.{TreeMark}
use Rattle.lw_program.specs.Meant.{AreMeant, AssignedAt, MeansMark}
use Rattle.lw_program.specs.Meant as meant
use Rattle.lw_grammar.specs.Marks.{Mark}
use Rattle.lw_grammar.specs.Marks as mark

same_assigned : {p q : List ℕ} {op o : Op} {v w : Value0} {s t : Span} → ◌≡◌ {A = Element-F Element} (layer.Assign p op v s) (layer.Assign q o w t) → p ≡ q
same_assigned e = cc

same_operator : {p q : List ℕ} {op o : Op} {v w : Value0} {s t : Span} → ◌≡◌ {A = Element-F Element} (layer.Assign p op v s) (layer.Assign q o w t) → op ≡ o
same_operator e = cc

same_action : {a b : Action} → ◌≡◌ {A = Element-F Element} (layer.Act a) (layer.Act b) → a ≡ b
same_action e = cc

module _ (g : Grammar) where
  one_form : {s : PartSite} {f h : Element-F Element} → ElementAt g s f → ElementAt g s h → f ≡ h
  one_form (site.element_at at) (site.element_at was) = ap out-Element (same_body (one_stands g at was))

  no_value_there : {s : PartSite} {f : Element-F Element} {v : Value0} {h : Value0-F Value0} → ElementAt g s f → ValueAt g s v h → ⊥
  no_value_there (site.element_at at) (site.value_at was) = no_body_is_value (one_stands g at was)

  one_assigned : {s : PartSite} {p q : List ℕ} {op o : Op} → AssignedAt g s p op → AssignedAt g s q o → (p ≡ q) × (op ≡ o)
  one_assigned (meant.whole at) (meant.whole was) = (same_assigned (one_form at was), same_operator (one_form at was))
  one_assigned (meant.whole at) (meant.way i was value) = absurd (no_value_there at value)
  one_assigned (meant.way i is value) (meant.whole was) = absurd (no_value_there was value)
  one_assigned (meant.way i is value) (meant.way j was other) = one_assigned is was

  one_put : (n : ℕ) {s t : PartSite} {p q : List ℕ} {op o : Op} {v w : Value0} → slice_get (put_sites g) n ≡ Some s → slice_get (put_sites g) n ≡ Some t →
      AssignedAt g s p op → AssignedAt g t q o → IsPartAt g s (Value v) → IsPartAt g t (Value w) → mark.Put p op v ≡ mark.Put q o w
  one_put n {s} {t} {p} {q} {op} {o} {v} {w} at was is assigned stands stood =
      let same : t ≡ s = same_Some t s (sym was ∙ at) in
      let both = one_assigned is (subst (λ (u : PartSite). AssignedAt g u q o) same assigned) in
      let value : v ≡ w = same_value (one_stands g stands (subst (λ (u : PartSite). IsPartAt g u (Value w)) same stood)) in
      ap (λ (l : List ℕ). mark.Put l op v) both.0 ∙ ap (λ (l : Op). mark.Put q l v) both.1 ∙ ap (λ (l : Value0). mark.Put q o l) value

  one_act : (n : ℕ) {s t : PartSite} {a b : Action} → slice_get (act_sites g) n ≡ Some s → slice_get (act_sites g) n ≡ Some t → ElementAt g s (layer.Act a) →
      ElementAt g t (layer.Act b) → mark.Act a ≡ mark.Act b
  one_act n {s} {t} {a} {b} at was is stood =
      let same : t ≡ s = same_Some t s (sym was ∙ at) in
      ap mark.Act (same_action (one_form is (subst (λ (u : PartSite). ElementAt g u (layer.Act b)) same stood)))

  pub one_mark : {x : TreeMark} {m n : Mark} → MeansMark g x m → MeansMark g x n → m ≡ n
  one_mark (meant.token k) (meant.token j) = refl
  one_mark (meant.opens r) (meant.opens q) = refl
  one_mark meant.shuts meant.shuts = refl
  one_mark (meant.puts {n} at is stands) (meant.puts was assigned stood) = one_put n at was is assigned stands stood
  one_mark meant.ends meant.ends = refl
  one_mark (meant.acts {n} at is) (meant.acts was stood) = one_act n at was is stood

  pub one_meaning : {xs : List TreeMark} {m n : List Mark} → AreMeant g xs m → AreMeant g xs n → m ≡ n
  one_meaning meant.none meant.none = refl
  one_meaning (meant.more {m} is p) (meant.more {m = n} {ms = ns} was q) =
      ap (λ (l : List Mark). m ∷ l) (one_meaning p q) ∙ ap (λ (x : Mark). x ∷ ns) (one_mark is was)
