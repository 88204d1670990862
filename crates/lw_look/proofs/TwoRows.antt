-- Grammars of one rule, `entry A: .. | ..;`, whose two ways are rows of keywords and of assignments of keywords: its body is its only choice, so
-- that what comes next at a way is what that row yields.
use Rattle.std.proofs.Common.{◌≡◌, ◌⊎◌, ◌+◌, inl, inr, ℕ, zero, suc, List, [], ◌∷◌, ◌++◌, Option, Some, true, false, map, codes, slice_get, refl, sym, ap, ◌∙◌, subst, arith}
use Rattle.std.proofs.lemmas.Option.{none-some, same_Some}
use Rattle.lw_base.specs.declared.token.Span.{Span}
use Rattle.lw_grammar.specs.declared.grammar.Grammar.{Grammar}
use Rattle.lw_grammar.specs.declared.rule.Element.{Element, out-Element}
use Rattle.lw_grammar.specs.declared.rule.Element.TheVariants.{Group, Choice, outs-Keyword, outs-Assign, outs-Group, outs-Choice}
use Rattle.lw_grammar.specs.declared.rule.Element.TheOpen as layer
use Rattle.lw_grammar.specs.declared.rule.Element.TheOpen.{Element-F}
use Rattle.lw_grammar.specs.declared.rule.Value0.{Value0, out-Value0}
use Rattle.lw_grammar.specs.declared.rule.Value0.TheVariants as value
use Rattle.lw_grammar.specs.declared.rule.Value0.TheOpen as value_layer
use Rattle.lw_grammar.specs.declared.rule.Value0.TheOpen.{Value0-F}
use Rattle.lw_grammar.specs.declared.rule.Op.TheVariants.{One}
use Rattle.lw_grammar.specs.declared.rule.Rule.{Rule}
use Rattle.lw_grammar.specs.Named.{IsEntry}
use Rattle.lw_grammar.specs.Kinds.{Kinds}
use Rattle.lw_grammar.specs.Marks.{Mark, kinds_of}
use Rattle.lw_grammar.specs.Worked.{nowhere, word, named_rule, rules_alone}
use Rattle.lw_grammar.specs.Yields.{Yields, Gives, YieldsAll, ValueYields, ValueGives}
use Rattle.lw_grammar.specs.Yields as y
use Rattle.lw_grammar.proofs.Every.{Every, every_at}
use Rattle.lw_look.specs.Sites.{PartSite, body, ◌▸◌, Part, Body, Value, inner_parts, element_parts, value_parts, IsPartAt, ElementAt, ValueAt, AlternativeAt, OptionalAt, RepeatedAt}
use Rattle.lw_look.specs.Sites as site
use Rattle.lw_look.specs.Looks.{After, Look, IsLL, window, PartYields}
use Rattle.lw_look.specs.Looks as look
use Rattle.lw_look.specs.Worked.{word_into}
use Rattle.lw_look.proofs.Reaching.{unmapped, one_item}
use Rattle.lw_look.proofs.Standing.{same_body}

pub data IsPlain : Element → Type 0 where
  a_keyword : (text : List ℕ) → IsPlain (word text)
  a_word : (p text : List ℕ) → IsPlain (word_into p text)

-- ---- the parts below the body, none of which asks

data Below : Part → Type 0 where
  a_row : (es : List Element) → Every IsPlain es → Below (Body (Group es nowhere))
  a_plain : (e : Element) → IsPlain e → Below (Body e)
  a_value : (text : List ℕ) → Below (Value (value.Keyword text nowhere))

abbrev pub Asks : Element-F Element → Type 0
Asks (layer.Choice es s) = Unit {0}
Asks (layer.Maybe e s) = Unit {0}
Asks (layer.Many e s) = Unit {0}
Asks (layer.Some1 e s) = Unit {0}
Asks _ = ⊥

abbrev pub AsksValue : Value0-F Value0 → Type 0
AsksValue (value_layer.Choice vs s) = Unit {0}
AsksValue _ = ⊥

abbrev PartAsks : Part → Type 0
PartAsks (Body e) = Asks (out-Element e)
PartAsks (Value v) = AsksValue (out-Value0 v)

no_plain_asks : {e : Element} → IsPlain e → Asks (out-Element e) → ⊥
no_plain_asks (a_keyword text) asks = subst Asks (outs-Keyword text nowhere) asks
no_plain_asks (a_word p text) asks = subst Asks (outs-Assign p One (value.Keyword text nowhere) nowhere) asks

none_asks : {x : Part} → Below x → PartAsks x → ⊥
none_asks (a_row es plain) asks = subst Asks (outs-Group es nowhere) asks
none_asks (a_plain e plain) asks = no_plain_asks plain asks
none_asks (a_value text) asks = subst AsksValue (value.outs-Keyword text nowhere) asks

below_plain : {e : Element} {z : Part} → IsPlain e → (i : ℕ) → slice_get (element_parts (out-Element e)) i ≡ Some z → Below z
below_plain {z} (a_keyword text) i is = absurd (none-some z (subst (λ f. slice_get (element_parts f) i ≡ Some z) (outs-Keyword text nowhere) is))
below_plain {z} (a_word p text) i is =
    subst Below (one_item i (subst (λ f. slice_get (element_parts f) i ≡ Some z) (outs-Assign p One (value.Keyword text nowhere) nowhere) is)) (a_value text)

below_below : {x z : Part} → Below x → (i : ℕ) → slice_get (inner_parts x) i ≡ Some z → Below z
below_below {z} (a_row es plain) i is =
    let (e, there, same) = unmapped Body es i z (subst (λ f. slice_get (element_parts f) i ≡ Some z) (outs-Group es nowhere) is) in
    subst Below same (a_plain e (every_at IsPlain es i e plain there))
below_below (a_plain e plain) i is = below_plain plain i is
below_below {z} (a_value text) i is = absurd (none-some z (subst (λ f. slice_get (value_parts f) i ≡ Some z) (value.outs-Keyword text nowhere) is))

-- ---- the grammar

abbrev pub row : List Element → Element
row es = Group es nowhere

abbrev pub two_rows : List Element → List Element → List Element
two_rows es fs = row es ∷ row fs ∷ []

abbrev pub rows_rule : List Element → List Element → Rule
rows_rule es fs = named_rule (codes "A") true false (Choice (two_rows es fs) nowhere)

abbrev pub rows_grammar : List ℕ → List Element → List Element → Grammar
rows_grammar name es fs = rules_alone name (rows_rule es fs ∷ []) []

module _ (name : List ℕ) (es fs : List Element) where
  abbrev G : Grammar
  G = rows_grammar name es fs

  pub is_entry : IsEntry G 0 (rows_rule es fs)
  is_entry = record { there = refl; does = (refl, refl); none_before = λ j other below. absurd (omega arith) }

  choice_at : ElementAt G (body 0) (layer.Choice (two_rows es fs) nowhere)
  choice_at = subst (ElementAt G (body 0)) (outs-Choice (two_rows es fs) nowhere) (site.element_at (site.whole refl))

  module _ (plain : Every IsPlain es) (others : Every IsPlain fs) where
    -- what stands anywhere is the body, at its start, or below it
    abbrev IsKnown : PartSite → Part → Type 0
    IsKnown s x = ((s ≡ body 0) × (x ≡ Body (rows_rule es fs).body)) ⊎ Below x

    of_rows : {z : Part} (i : ℕ) → slice_get (map Body (two_rows es fs)) i ≡ Some z → Below z
    of_rows {z} zero is = subst Below (same_Some (Body (row es)) z is) (a_row es plain)
    of_rows {z} (suc zero) is = subst Below (same_Some (Body (row fs)) z is) (a_row fs others)
    of_rows {z} (suc (suc i)) is = absurd (none-some z is)

    known : {s : PartSite} {x : Part} → IsPartAt G s x → IsKnown s x
    known (site.whole {r} {rule = found} is) = only r is
      where
        only : (r : ℕ) → slice_get (rows_rule es fs ∷ []) r ≡ Some found → IsKnown (body r) (Body found.body)
        only zero is = inl (refl, ap (λ rule. Body rule.body) (sym (same_Some (rows_rule es fs) found is)))
        only (suc r) is = absurd (none-some found is)
    known (site.part {s} {x} {y} {i} at is) = by (known at)
      where
        by : IsKnown s x → IsKnown (s ▸ i) y
        by (inl p) =
            inr (of_rows i (subst (λ f. slice_get (element_parts f) i ≡ Some y) (outs-Choice (two_rows es fs) nowhere) (subst (λ x. slice_get (inner_parts x) i ≡ Some y) p.1 is)))
        by (inr below) = inr (below_below below i is)

    -- where an element that asks stands, it is the body
    pub asked : {s : PartSite} {f : Element-F Element} → ElementAt G s f → Asks f → (s ≡ body 0) × (f ≡ layer.Choice (two_rows es fs) nowhere)
    asked {s} (site.element_at {e} stands) asks = by (known stands)
      where
        by : IsKnown s (Body e) → (s ≡ body 0) × (out-Element e ≡ layer.Choice (two_rows es fs) nowhere)
        by (inl p) = (p.0, ap out-Element (same_body p.1) ∙ outs-Choice (two_rows es fs) nowhere)
        by (inr below) = absurd (none_asks below asks)

    pub no_value_asks : {s : PartSite} {v : Value0} {f : Value0-F Value0} → ValueAt G s v f → AsksValue f → ⊥
    no_value_asks {s} (site.value_at {v} stands) asks = by (known stands)
      where
        differ : {e : Element} → Value v ≡ Body e → ⊥
        differ same = cc

        by : IsKnown s (Value v) → ⊥
        by (inl p) = differ p.1
        by (inr below) = none_asks below asks

    -- ---- what comes next

    module _ (kinds : Kinds) (k : ℕ) where
      -- a window of what this row yields, whatever follows
      pub data OfRow : List Element → List (Option ℕ) → Type 0 where
        of_row : {gs : List Element} {m : List Mark} (ks : List ℕ) → YieldsAll G kinds gs m → OfRow gs (window k (kinds_of m ++ ks))

      abbrev pub OfWay : ℕ → List (Option ℕ) → Type 0
      OfWay i w = ((i ≡ 1) × OfRow es w) ⊎ ((i ≡ 2) × OfRow fs w)

      yields_row : {gs : List Element} {m : List Mark} (ks : List ℕ) → Yields G kinds (row gs) m → OfRow gs (window k (kinds_of m ++ ks))
      yields_row {gs} {m} ks (y.yields gives) = inside (subst (λ f. Gives G kinds f m) (outs-Group gs nowhere) gives)
        where
          inside : {m : List Mark} → Gives G kinds (layer.Group gs nowhere) m → OfRow gs (window k (kinds_of m ++ ks))
          inside (y.grouped all) = of_row ks all

      by_place : (i : ℕ) (e : Element) {m : List Mark} (ks : List ℕ) → slice_get (two_rows es fs) i ≡ Some e → Yields G kinds e m →
          OfWay (i + 1) (window k (kinds_of m ++ ks))
      by_place zero e {m} ks is p = inl (refl, yields_row ks (subst (λ e. Yields G kinds e m) (sym (same_Some (row es) e is)) p))
      by_place (suc zero) e {m} ks is p = inr (refl, yields_row ks (subst (λ e. Yields G kinds e m) (sym (same_Some (row fs) e is)) p))
      by_place (suc (suc i)) e ks is p = absurd (none-some e is)

      same_ways : {gs hs : List Element} {s t : Span} → layer.Choice gs s ≡ layer.Choice hs t → gs ≡ hs
      same_ways same = cc

      never_repeated : {s : PartSite} {e : Element} → RepeatedAt G s e → ⊥
      never_repeated (site.any at) = no_choice ((asked at tt).1)
        where
          no_choice : {e : Element} {s t : Span} {gs : List Element} → layer.Many e s ≡ layer.Choice gs t → ⊥
          no_choice same = cc
      never_repeated (site.some at) = no_choice ((asked at tt).1)
        where
          no_choice : {e : Element} {s t : Span} {gs : List Element} → layer.Some1 e s ≡ layer.Choice gs t → ⊥
          no_choice same = cc

      never_optional : {s : PartSite} {e : Element} → OptionalAt G s e → ⊥
      never_optional (site.optional at) = no_choice ((asked at tt).1)
        where
          no_choice : {e : Element} {s t : Span} {gs : List Element} → layer.Maybe e s ≡ layer.Choice gs t → ⊥
          no_choice same = cc

      pub looks : {s : PartSite} {i : ℕ} {w : List (Option ℕ)} → Look G kinds k s i w → OfWay i w
      looks (look.alternative {i} {ks} (site.element {es = ways} {e} at is) (look.element p) after) =
          by_place i e ks (subst (λ ways. slice_get ways i ≡ Some e) (same_ways (asked at tt).1) is) p
      looks (look.alternative (site.assigned at is) (look.assigned r) after) = absurd (no_value_asks at tt)
      looks (look.enters at p after) = absurd (never_optional at)
      looks (look.passes at after) = absurd (never_optional at)
      looks (look.reads_again at p r after) = absurd (never_repeated at)
      looks (look.leaves at after) = absurd (never_repeated at)

      -- no window is of both rows
      pub is_LL : ((w : List (Option ℕ)) → OfRow es w → OfRow fs w → ⊥) → IsLL G kinds k
      is_LL apart s i j w p q = by (looks p) (looks q)
        where
          by : OfWay i w → OfWay j w → i ≡ j
          by (inl a) (inl b) = a.0 ∙ sym b.0
          by (inl a) (inr b) = absurd (apart w a.1 b.1)
          by (inr a) (inl b) = absurd (apart w b.1 a.1)
          by (inr a) (inr b) = a.0 ∙ sym b.0

  -- what both rows yield shows one window
  pub no_LL : (kinds : Kinds) (k : ℕ) {m n : List Mark} → Yields G kinds (row es) m → Yields G kinds (row fs) n → window k (kinds_of m ++ []) ≡ window k (kinds_of n ++ []) →
      ¬ IsLL G kinds k
  no_LL kinds k {m} {n} p q same apart = differ (apart (body 0) 1 2 (window k (kinds_of m ++ [])) one (subst (Look G kinds k (body 0) 2) (sym same) two))
    where
      at_end : After G kinds (body 0) []
      at_end = look.entry is_entry

      first_way : AlternativeAt G (body 0) 0 (Body (row es))
      first_way = site.element choice_at refl

      second_way : AlternativeAt G (body 0) 1 (Body (row fs))
      second_way = site.element choice_at refl

      one : Look G kinds k (body 0) 1 (window k (kinds_of m ++ []))
      one = look.alternative first_way (look.element p) at_end

      two : Look G kinds k (body 0) 2 (window k (kinds_of n ++ []))
      two = look.alternative second_way (look.element q) at_end

      differ : ◌≡◌ {A = ℕ} 1 2 → ⊥
      differ same = omega arith
