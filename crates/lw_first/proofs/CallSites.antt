-- What stands behind the calls in a rule follows the called rules, and nothing else does.
use Rattle.std.proofs.Common.{◌≡◌, ℕ, List, Option, Some, None, map, slice_get, option_map, refl, sym, ap, ◌∙◌, subst}
use Rattle.std.proofs.lemmas.Option.{same_Some, none-some, slice_get-map, slice_get_within}
use Rattle.lw_grammar.specs.declared.grammar.Grammar.{Grammar}
use Rattle.lw_grammar.specs.declared.rule.Element.{Element, out-Element}
use Rattle.lw_grammar.specs.declared.rule.Element.TheOpen.{Element-F}
use Rattle.lw_grammar.specs.declared.rule.Value0.{Value0, out-Value0}
use Rattle.lw_grammar.specs.declared.rule.Value0.TheOpen.{Value0-F}
use Rattle.lw_grammar.specs.declared.rule.Rule.{Rule}
use Rattle.lw_grammar.specs.Named.{IsRule}
use Rattle.lw_grammar.specs.Kinds.{Kinds}
use Rattle.lw_look.specs.Sites.{PartSite, body, ◌▸◌, Part, Body, Value, inner_parts, element_parts, value_parts, IsPartAt, ElementAt, ValueAt, CallsAt, ValueCallsAt}
use Rattle.lw_look.specs.Sites as site
use Rattle.lw_look.specs.Looks as look
use Rattle.lw_look.specs.ReadBy.{PartReadsBy}
use Rattle.lw_look.specs.ReadBy as read
use Rattle.lw_look.specs.Heads.{CanFollow}
use Rattle.lw_look.specs.Heads as head
use Rattle.lw_base.proofs.Lists.{place_of, among}
use Rattle.lw_look.proofs.Standing.{one_stands, layer_part_stands, row_part_stands, way_stands, option_stands, repeated_stands}
use Rattle.lw_first.specs.declared.heads.head.Head.{Head}
use Rattle.lw_first.specs.Sets.{IsInSet}
use Rattle.lw_first.specs.Calls.{BehindCall}
use Rattle.lw_first.specs.Calls as call

mapped : {A B : Type 0} (f : A → B) (o : Option A) (b : B) → option_map f o ≡ Some b → (a : A) × (o ≡ Some a) × (f a ≡ b)
mapped f None b is = absurd (none-some b is)
mapped f (Some a) b is = (a, refl, same_Some (f a) b is)

module _ (g : Grammar) where
  -- ---- what stands at a site

  element_here : {s : PartSite} {e : Element} {f : Element-F Element} → IsPartAt g s (Body e) → out-Element e ≡ f → ElementAt g s f
  element_here {s} at is = subst (ElementAt g s) is (site.element_at at)

  value_here : {s : PartSite} {v : Value0} {f : Value0-F Value0} → IsPartAt g s (Value v) → out-Value0 v ≡ f → ValueAt g s v f
  value_here {s} {v} at is = subst (ValueAt g s v) is (site.value_at at)

  pub element_of : {s : PartSite} {f : Element-F Element} → ElementAt g s f → (e : Element) × IsPartAt g s (Body e) × (out-Element e ≡ f)
  element_of (site.element_at {e} at) = (e, at, refl)

  pub value_of : {s : PartSite} {v : Value0} {f : Value0-F Value0} → ValueAt g s v f → IsPartAt g s (Value v) × (out-Value0 v ≡ f)
  value_of (site.value_at at) = (at, refl)

  -- what stands at a part of an element of this form
  part_of : {s : PartSite} {f : Element-F Element} {x : Part} {i : ℕ} → ElementAt g s f → IsPartAt g (s ▸ i) x →
      (e : Element) × IsPartAt g s (Body e) × (out-Element e ≡ f) × (slice_get (element_parts f) i ≡ Some x)
  part_of {i} at (site.part stands here) =
      let (e, stood, form) = element_of at in
      (e, stood, form, sym (ap (λ f. slice_get (element_parts f) i) form) ∙ sym (ap (λ y. slice_get (inner_parts y) i) (one_stands g stands stood)) ∙ here)

  -- and of a value
  part_of_value : {s : PartSite} {v : Value0} {f : Value0-F Value0} {x : Part} {i : ℕ} → ValueAt g s v f → IsPartAt g (s ▸ i) x →
      IsPartAt g s (Value v) × (out-Value0 v ≡ f) × (slice_get (value_parts f) i ≡ Some x)
  part_of_value {i} at (site.part stands here) =
      let (stood, form) = value_of at in
      (stood, form, sym (ap (λ f. slice_get (value_parts f) i) form) ∙ sym (ap (λ y. slice_get (inner_parts y) i) (one_stands g stands stood)) ∙ here)

  one_of : {X : Type 0} (inner : X → Part) (xs : List X) (x : Part) (i : ℕ) → slice_get (map inner xs) i ≡ Some x → (y : X) × (slice_get xs i ≡ Some y) × (inner y ≡ x)
  one_of inner xs x i is = mapped inner (slice_get xs i) x (sym (slice_get-map inner xs i) ∙ is)

  calls_here : {s : PartSite} {x : Part} {name : List ℕ} {r : ℕ} {rule : Rule} → IsPartAt g s x → PartReadsBy g x name → IsRule g name r rule → CallsAt g s r
  calls_here at (read.element is) means = site.calls (element_here at is) means
  calls_here at (read.value_ is) means = site.reads (site.calls (value_here at is)) means
  calls_here at (read.crosses is) means = site.reads (site.crosses (value_here at is)) means
  calls_here at (read.crosses_by_name {name} is named) means = site.reads (site.crosses_by_name name (value_here at is) named) means

  value_reads : {s : PartSite} {v : Value0} {name : List ℕ} → ValueCallsAt g s v name → IsPartAt g s (Value v) × PartReadsBy g (Value v) name
  value_reads (site.calls at) = let (here, form) = value_of at in (here, read.value_ form)
  value_reads (site.crosses at) = let (here, form) = value_of at in (here, read.crosses form)
  value_reads (site.crosses_by_name name at named) = let (here, form) = value_of at in (here, read.crosses_by_name form named)

  -- what calls a rule at a site
  pub caller : {s : PartSite} {r : ℕ} → CallsAt g s r → (x : Part) × (name : List ℕ) × (rule : Rule) × IsPartAt g s x × PartReadsBy g x name × IsRule g name r rule
  caller (site.calls {name} {rule} at means) = let (e, here, form) = element_of at in (Body e, name, rule, here, read.element form, means)
  caller (site.reads {v} {name} {rule} reads means) = let (here, by) = value_reads reads in (Value v, name, rule, here, by, means)

  module _ (kinds : Kinds) (k : ℕ) (heads : List (List Head)) (Afters : ℕ → List ℕ → Type 0) where
    abbrev Follows : PartSite → List ℕ → Type 0
    Follows = CanFollow g kinds k (IsInSet heads) Afters

    -- at the site a call of the rule stands, which the head may follow
    abbrev pub FollowsCall : ℕ → List ℕ → Type 0
    FollowsCall r h = (s : PartSite) × CallsAt g s r × Follows s h

    -- what stands behind a call in a part at a site follows that call
    pub follows_call : {x : Part} {a : List ℕ} {r : ℕ} {h : List ℕ} → BehindCall g kinds k heads x a r h → (s : PartSite) → IsPartAt g s x → Follows s a → FollowsCall r h
    follows_call (call.called reads means) s at follows = (s, calls_here at reads means, follows)
    follows_call (call.assigned is does) s at follows =
        let here = element_here at is in follows_call does (s ▸ 0) (layer_part_stands g here refl) (head.in_other (look.assigned here) follows)
    follows_call (call.in_row {es} i is there can does) s at follows =
        let here = element_here at is in
        follows_call does (s ▸ i) (row_part_stands g here there) (head.in_row (site.row here) (slice_get_within es i _ there) can follows)
    follows_call (call.chosen {f} {es} is has does) s at follows =
        let place = place_of es f has in
        let way = site.element (element_here at is) place.1 in follows_call does (s ▸ place.0) (way_stands g way) (head.in_other (look.alternative way) follows)
    follows_call (call.chosen_value {w} {vs} is has does) s at follows =
        let place = place_of vs w has in
        let way = site.assigned (value_here at is) place.1 in follows_call does (s ▸ place.0) (way_stands g way) (head.in_other (look.alternative way) follows)
    follows_call (call.optional is does) s at follows =
        let here = site.optional (element_here at is) in follows_call does (s ▸ 0) (option_stands g here) (head.in_other (look.optional here) follows)
    follows_call (call.any is can does) s at follows =
        let here = site.any (element_here at is) in follows_call does (s ▸ 0) (repeated_stands g here) (head.in_repeated here can follows)
    follows_call (call.some is can does) s at follows =
        let here = site.some (element_here at is) in follows_call does (s ▸ 0) (repeated_stands g here) (head.in_repeated here can follows)

    -- a head that follows a rule, and that the head h stands behind a call of r in the rule for
    abbrev pub StandsInRule : ℕ → List ℕ → Type 0
    StandsInRule r h = (q : ℕ) × (rule : Rule) × (a : List ℕ) × (slice_get g.rules q ≡ Some rule) × Afters q a × BehindCall g kinds k heads (Body rule.body) a r h

    -- what stands behind a call in a part at a site stands behind it in the rule
    pub stands_in_rule : {s : PartSite} {b : List ℕ} → Follows s b → (x : Part) → IsPartAt g s x → {r : ℕ} {h : List ℕ} → BehindCall g kinds k heads x b r h → StandsInRule r h
    stands_in_rule (head.whole holds) x (site.whole {r = q} {rule} at) does = (q, rule, _, at, holds, does)
    stands_in_rule (head.in_row {es} {i} {h = b} (site.row at) within can follows) x stands {r} {h} does =
        let (e, stood, form, here) = part_of at stands in
        let (f, there, same) = one_of Body es x i here in
        stands_in_rule follows (Body e) stood (call.in_row i form there can (subst (λ x. BehindCall g kinds k heads x b r h) (sym same) does))
    stands_in_rule (head.in_repeated {e = f} {h = b} (site.any at) can follows) x stands {r} {h} does =
        let (e, stood, form, here) = part_of at stands in
        stands_in_rule follows (Body e) stood (call.any form can (subst (λ x. BehindCall g kinds k heads x b r h) (sym (same_Some (Body f) x here)) does))
    stands_in_rule (head.in_repeated {e = f} {h = b} (site.some at) can follows) x stands {r} {h} does =
        let (e, stood, form, here) = part_of at stands in
        stands_in_rule follows (Body e) stood (call.some form can (subst (λ x. BehindCall g kinds k heads x b r h) (sym (same_Some (Body f) x here)) does))
    stands_in_rule (head.in_other {i} {h = b} (look.alternative (site.element {es} at is)) follows) x stands {r} {h} does =
        let (e, stood, form, here) = part_of at stands in
        let (f, there, same) = one_of Body es x i here in
        stands_in_rule follows (Body e) stood (call.chosen form (among es i f there) (subst (λ x. BehindCall g kinds k heads x b r h) (sym same) does))
    stands_in_rule (head.in_other {i} {h = b} (look.alternative (site.assigned {v} {vs} at is)) follows) x stands {r} {h} does =
        let (stood, form, here) = part_of_value at stands in
        let (w, there, same) = one_of Value vs x i here in
        stands_in_rule follows (Value v) stood (call.chosen_value form (among vs i w there) (subst (λ x. BehindCall g kinds k heads x b r h) (sym same) does))
    stands_in_rule (head.in_other {h = b} (look.optional (site.optional {e = f} at)) follows) x stands {r} {h} does =
        let (e, stood, form, here) = part_of at stands in
        stands_in_rule follows (Body e) stood (call.optional form (subst (λ x. BehindCall g kinds k heads x b r h) (sym (same_Some (Body f) x here)) does))
    stands_in_rule (head.in_other {h = b} (look.assigned {v} at) follows) x stands {r} {h} does =
        let (e, stood, form, here) = part_of at stands in
        stands_in_rule follows (Body e) stood (call.assigned form (subst (λ x. BehindCall g kinds k heads x b r h) (sym (same_Some (Value v) x here)) does))
