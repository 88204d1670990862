-- What may follow the parts of what stands at a site, and what may come next at its ways, by its form.
use Rattle.std.proofs.Common.{◌≡◌, ℕ, ◌+◌, ◌⊎◌, inl, inr, List, Some, drop, slice_get, refl, sym, ap, subst}
use Rattle.lw_base.specs.declared.token.Span.{Span}
use Rattle.lw_grammar.specs.declared.grammar.Grammar.{Grammar}
use Rattle.lw_grammar.specs.declared.rule.Element.{Element, out-Element}
use Rattle.lw_grammar.specs.declared.rule.Element.TheOpen as layer
use Rattle.lw_grammar.specs.declared.rule.Element.TheOpen.{Element-F}
use Rattle.lw_grammar.specs.declared.rule.Value0.{Value0, out-Value0}
use Rattle.lw_grammar.specs.declared.rule.Value0.TheOpen as value
use Rattle.lw_grammar.specs.declared.rule.Value0.TheOpen.{Value0-F}
use Rattle.lw_grammar.specs.Kinds.{Kinds}
use Rattle.lw_look.specs.Sites.{PartSite, ◌▸◌, Part, Body, Value, IsPartAt, ElementAt, ValueAt, AlternativeAt, RowAt, OptionalAt, RepeatedAt}
use Rattle.lw_look.specs.Sites as site
use Rattle.lw_look.specs.Looks.{EndsWithPart}
use Rattle.lw_look.specs.Looks as ends
use Rattle.lw_look.specs.Heads.{Can, RowCan, ManyCan, CanFollow, CanLook}
use Rattle.lw_look.specs.Heads as head
use Rattle.lw_look.proofs.Standing.{one_stands, same_body, same_value, no_body_is_value}

module _ (g : Grammar) where
  pub one_form : {s : PartSite} {f f' : Element-F Element} → ElementAt g s f → ElementAt g s f' → f ≡ f'
  one_form (site.element_at at) (site.element_at at') = ap out-Element (same_body (one_stands g at at'))

  pub one_value_form : {s : PartSite} {v v' : Value0} {w w' : Value0-F Value0} → ValueAt g s v w → ValueAt g s v' w' → w ≡ w'
  one_value_form (site.value_at at) (site.value_at at') = ap out-Value0 (same_value (one_stands g at at'))

  pub element_or_value : {s : PartSite} {f : Element-F Element} {v : Value0} {w : Value0-F Value0} → ElementAt g s f → ValueAt g s v w → ⊥
  element_or_value (site.element_at at) (site.value_at at') = no_body_is_value (one_stands g at at')

  -- ---- the form of what stands at a site

  module _ {s : PartSite} {f : Element-F Element} (there : ElementAt g s f) where
    pub form_of_row : {es : List Element} → RowAt g s es → (span : Span) × (f ≡ layer.Group es span)
    form_of_row (site.row {s = span} at) = (span, one_form there at)

    pub form_of_optional : {e : Element} → OptionalAt g s e → (span : Span) × (f ≡ layer.Maybe e span)
    form_of_optional (site.optional {s = span} at) = (span, one_form there at)

    pub form_of_repeated : {e : Element} → RepeatedAt g s e → (span : Span) × ((f ≡ layer.Many e span) ⊎ (f ≡ layer.Some1 e span))
    form_of_repeated (site.any {s = span} at) = (span, inl (one_form there at))
    form_of_repeated (site.some {s = span} at) = (span, inr (one_form there at))

    pub form_of_alternative : {i : ℕ} {x : Part} → AlternativeAt g s i x →
        (es : List Element) × (span : Span) × (e : Element) × (f ≡ layer.Choice es span) × (slice_get es i ≡ Some e) × (x ≡ Body e)
    form_of_alternative (site.element {es} {s = span} {e} at is) = (es, span, e, one_form there at, is, refl)
    form_of_alternative (site.assigned at is) = absurd (element_or_value there at)

  -- at a value stand alternatives of values alone
  module _ {s : PartSite} {v : Value0} {w : Value0-F Value0} (there : ValueAt g s v w) where
    pub no_row : {es : List Element} → RowAt g s es → ⊥
    no_row (site.row at) = element_or_value at there

    pub no_optional : {e : Element} → OptionalAt g s e → ⊥
    no_optional (site.optional at) = element_or_value at there

    pub no_repeated : {e : Element} → RepeatedAt g s e → ⊥
    no_repeated (site.any at) = element_or_value at there
    no_repeated (site.some at) = element_or_value at there

    pub form_of_value : {i : ℕ} {x : Part} → AlternativeAt g s i x →
        (vs : List Value0) × (span : Span) × (u : Value0) × (w ≡ value.Choice vs span) × (slice_get vs i ≡ Some u) × (x ≡ Value u)
    form_of_value (site.element at is) = absurd (element_or_value at there)
    form_of_value (site.assigned {w = u} {vs} {s = span} at is) = (vs, span, u, one_value_form there at, is, refl)

  -- neither a row nor a repetition
  pub record IsOther (s : PartSite) : Type 0 where
    pub row : (es : List Element) → RowAt g s es → ⊥
    pub repeated : (e : Element) → RepeatedAt g s e → ⊥

  abbrev IsPlain : Element-F Element → Type 0
  IsPlain (layer.Group es span) = ⊥
  IsPlain (layer.Many e span) = ⊥
  IsPlain (layer.Some1 e span) = ⊥
  IsPlain _ = Unit {0}

  other_form : {s : PartSite} {f : Element-F Element} → ElementAt g s f → IsPlain f → IsOther s
  other_form {s} {f} there plain = record { row = no_group; repeated = no_loop }
    where
      no_group : (es : List Element) → RowAt g s es → ⊥
      no_group es at = let found = form_of_row there at in subst IsPlain found.1 plain

      no_loop : (e : Element) → RepeatedAt g s e → ⊥
      no_loop e at = let found = form_of_repeated there at in elim found.1 [ inl is ↦ subst IsPlain is plain | inr is ↦ subst IsPlain is plain ]

  pub choice_is_other : {s : PartSite} {es : List Element} {span : Span} → ElementAt g s (layer.Choice es span) → IsOther s
  choice_is_other there = other_form there tt

  pub optional_is_other : {s : PartSite} {e : Element} {span : Span} → ElementAt g s (layer.Maybe e span) → IsOther s
  optional_is_other there = other_form there tt

  pub assigned_is_other : {s : PartSite} {p : List ℕ} {op : _} {v : Value0} {span : Span} → ElementAt g s (layer.Assign p op v span) → IsOther s
  assigned_is_other there = other_form there tt

  pub value_is_other : {s : PartSite} {v : Value0} {w : Value0-F Value0} → ValueAt g s v w → IsOther s
  value_is_other there = record { row = λ es at. no_row there at; repeated = λ e at. no_repeated there at }

  same_row : {s : PartSite} {es fs : List Element} → RowAt g s es → RowAt g s fs → es ≡ fs
  same_row (site.row at) at' = rows (form_of_row at at').1
    where
      rows : {es fs : List Element} {span span' : Span} → layer.Group es span ≡ layer.Group fs span' → es ≡ fs
      rows is = cc

  same_loop : {s : PartSite} {e f : Element} → RepeatedAt g s e → RepeatedAt g s f → e ≡ f
  same_loop (site.any at) at' = elim (form_of_repeated at at').1 [ inl is ↦ of is | inr is ↦ absurd (not is) ]
    where
      of : {e f : Element} {span span' : Span} → layer.Many e span ≡ layer.Many f span' → e ≡ f
      of is = cc

      not : {e f : Element} {span span' : Span} → layer.Many e span ≡ layer.Some1 f span' → ⊥
      not is = cc
  same_loop (site.some at) at' = elim (form_of_repeated at at').1 [ inl is ↦ absurd (not is) | inr is ↦ of is ]
    where
      of : {e f : Element} {span span' : Span} → layer.Some1 e span ≡ layer.Some1 f span' → e ≡ f
      of is = cc

      not : {e f : Element} {span span' : Span} → layer.Some1 e span ≡ layer.Many f span' → ⊥
      not is = cc

  same_option : {s : PartSite} {e f : Element} → OptionalAt g s e → OptionalAt g s f → e ≡ f
  same_option (site.optional at) at' = of (form_of_optional at at').1
    where
      of : {e f : Element} {span span' : Span} → layer.Maybe e span ≡ layer.Maybe f span' → e ≡ f
      of is = cc

  row_no_loop : {s : PartSite} {es : List Element} {e : Element} → RowAt g s es → RepeatedAt g s e → ⊥
  row_no_loop (site.row at) at' = elim (form_of_repeated at at').1 [ inl is ↦ not is | inr is ↦ nor is ]
    where
      not : {es : List Element} {f : Element} {span span' : Span} → layer.Group es span ≡ layer.Many f span' → ⊥
      not is = cc

      nor : {es : List Element} {f : Element} {span span' : Span} → layer.Group es span ≡ layer.Some1 f span' → ⊥
      nor is = cc

  abbrev IsEnding : Element-F Element → Type 0
  IsEnding (layer.Choice es span) = Unit {0}
  IsEnding (layer.Maybe e span) = Unit {0}
  IsEnding (layer.Assign p op v span) = Unit {0}
  IsEnding _ = ⊥

  module _ (kinds : Kinds) where
    -- what ends with its part is a choice, `?` or an assignment
    ends_so : {s : PartSite} {f : Element-F Element} {i : ℕ} → ElementAt g s f → EndsWithPart g kinds s i → IsEnding f
    ends_so there (ends.alternative at) = let found = form_of_alternative there at in subst IsEnding (sym found.3) tt
    ends_so there (ends.optional at) = let found = form_of_optional there at in subst IsEnding (sym found.1) tt
    ends_so there (ends.assigned at) = subst IsEnding (one_form at there) tt

    row_ends_not : {s : PartSite} {es : List Element} {i : ℕ} → RowAt g s es → EndsWithPart g kinds s i → ⊥
    row_ends_not (site.row at) at' = ends_so at at'

    loop_ends_not : {s : PartSite} {e : Element} {i : ℕ} → RepeatedAt g s e → EndsWithPart g kinds s i → ⊥
    loop_ends_not (site.any at) at' = ends_so at at'
    loop_ends_not (site.some at) at' = ends_so at at'

    module _ (k : ℕ) (Holds Afters : ℕ → List ℕ → Type 0) where
      -- ---- what follows a part

      pub row_follow : {s : PartSite} {es : List Element} {i : ℕ} {h : List ℕ} → RowAt g s es → CanFollow g kinds k Holds Afters (s ▸ i) h →
          (a : List ℕ) × RowCan g kinds k Holds (drop (i + 1) es) a h × CanFollow g kinds k Holds Afters s a
      row_follow {i} {h} there (head.in_row {a} at within can p) =
          (a, subst (λ es. RowCan g kinds k Holds (drop (i + 1) es) a h) (same_row at there) can, p)
      row_follow there (head.in_repeated at can p) = absurd (row_no_loop there at)
      row_follow there (head.in_other at p) = absurd (row_ends_not there at)

      pub repeated_follow : {s : PartSite} {e : Element} {i : ℕ} {h : List ℕ} → RepeatedAt g s e → CanFollow g kinds k Holds Afters (s ▸ i) h →
          (a : List ℕ) × ManyCan g kinds k Holds e a h × CanFollow g kinds k Holds Afters s a
      repeated_follow there (head.in_row at within can p) = absurd (row_no_loop at there)
      repeated_follow {h} there (head.in_repeated {a} at can p) = (a, subst (λ e. ManyCan g kinds k Holds e a h) (same_loop at there) can, p)
      repeated_follow there (head.in_other at p) = absurd (loop_ends_not there at)

      pub other_follow : {s : PartSite} {i : ℕ} {h : List ℕ} → IsOther s → CanFollow g kinds k Holds Afters (s ▸ i) h →
          CanFollow g kinds k Holds Afters s h
      other_follow other (head.in_row {es} at within can p) = absurd (other.row es at)
      other_follow other (head.in_repeated {e} at can p) = absurd (other.repeated e at)
      other_follow other (head.in_other at p) = p

      pub whole_follow : {r : ℕ} {h : List ℕ} → CanFollow g kinds k Holds Afters (site.body r) h → Afters r h
      whole_follow (head.whole after) = after

      -- ---- what comes next at a way

      pub choice_look : {s : PartSite} {way : ℕ} {h : List ℕ} → ((e : Element) → OptionalAt g s e → ⊥) → ((e : Element) → RepeatedAt g s e → ⊥) →
          CanLook g kinds k Holds Afters s way h →
          (i : ℕ) × (x : Part) × (a : List ℕ) × (way ≡ i + 1) × AlternativeAt g s i x × Can g kinds k Holds x a h × CanFollow g kinds k Holds Afters s a
      choice_look no_option no_loop (head.alternative {i} {x} {a} at can p) = (i, x, a, refl, at, can, p)
      choice_look no_option no_loop (head.enters_ {e} at can p) = absurd (no_option e at)
      choice_look no_option no_loop (head.passes_ {e} at p) = absurd (no_option e at)
      choice_look no_option no_loop (head.reads_again {e} at can first p) = absurd (no_loop e at)
      choice_look no_option no_loop (head.leaves {e} at p) = absurd (no_loop e at)

      pub optional_look : {s : PartSite} {e : Element} {span : Span} {way : ℕ} {h : List ℕ} → ElementAt g s (layer.Maybe e span) →
          CanLook g kinds k Holds Afters s way h →
          ((way ≡ 1) × ((a : List ℕ) × Can g kinds k Holds (Body e) a h × CanFollow g kinds k Holds Afters s a))
          ⊎ ((way ≡ 2) × CanFollow g kinds k Holds Afters s h)
      optional_look there (head.alternative at can p) = absurd (not (form_of_alternative there at).3)
        where
          not : {e : Element} {es : List Element} {span span' : Span} → layer.Maybe e span ≡ layer.Choice es span' → ⊥
          not is = cc
      optional_look {h} there (head.enters_ {a} at can p) =
          inl (refl, (a, subst (λ e. Can g kinds k Holds (Body e) a h) (same_option at (site.optional there)) can, p))
      optional_look there (head.passes_ at p) = inr (refl, p)
      optional_look there (head.reads_again {e} at can first p) = absurd ((optional_is_other there).repeated e at)
      optional_look there (head.leaves {e} at p) = absurd ((optional_is_other there).repeated e at)

      pub repeated_look : {s : PartSite} {e : Element} {way : ℕ} {h : List ℕ} → RepeatedAt g s e → CanLook g kinds k Holds Afters s way h →
          ((way ≡ 1) × ((a b : List ℕ) × ManyCan g kinds k Holds e a b × Can g kinds k Holds (Body e) b h × CanFollow g kinds k Holds Afters s a))
          ⊎ ((way ≡ 2) × CanFollow g kinds k Holds Afters s h)
      repeated_look there (head.alternative {i} {x} at can p) = absurd (loop_ends_not there (ends.alternative at))
      repeated_look there (head.enters_ at can p) = absurd (loop_ends_not there (ends.optional at))
      repeated_look there (head.passes_ at p) = absurd (loop_ends_not there (ends.optional at))
      repeated_look {h} there (head.reads_again {a} {b} at can first p) =
          inl (refl, (a, b, subst (λ e. ManyCan g kinds k Holds e a b) (same_loop at there) can, subst (λ e. Can g kinds k Holds (Body e) b h) (same_loop at there) first, p))
      repeated_look there (head.leaves at p) = inr (refl, p)
