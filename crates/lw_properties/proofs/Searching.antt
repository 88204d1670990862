-- A search through the interfaces above a type that looks into each once: what it meets first is first in the type's lineage.
use Rattle.std.proofs.Common.{◌≡◌, ℕ, zero, suc, List, [], ◌∷◌, ◌++◌, Bool, map, Contains, Option, Some, None, slice_get, ◌⊎◌, inl, inr, refl, sym, ap, ap₂, ◌∙◌, subst, arith}
use Rattle.std.specs.List.{find}
use Rattle.std.specs.Option.{option_or}
use Rattle.std.proofs.lemmas.List.{append-nil, append_assoc, map-append}
use Rattle.std.proofs.lemmas.List.Concat.{flat_map-append}
use Rattle.std.proofs.lemmas.List.Folds.{find-append}
use Rattle.std.proofs.lemmas.List.Elements.{Contains-append_left, Contains-append_cases, Contains-push, Contains-push_cases}
use Rattle.std.proofs.lemmas.Option.{none-some, same_Some}
use Rattle.lw_grammar.specs.declared.grammar.Grammar.{Grammar}
use Rattle.lw_grammar.specs.declared.declared_types.Interface.{Interface}
use Rattle.lw_grammar.specs.declared.declared_types.Attribute.{Attribute}
use Rattle.lw_grammar.specs.Named.{IsInterface}
use Rattle.lw_grammar.proofs.FirstLemmas.{first_place}
use Rattle.lw_faults.specs.Attributes.{Lineage, Lineages}
use Rattle.lw_faults.specs.Attributes as above
use Rattle.lw_properties.specs.Search.{names_above, attributes_of, SameFirsts, Follows}
use Rattle.lw_properties.proofs.Lineages.{some_lineage}

-- a name that waits, and the interfaces that are open where it is written
record Wait : Type 0 where
  opened : List ℕ
  name : List ℕ

module _ (g : Grammar) where
  -- the interface of this number extends what has this name
  abbrev Extends : ℕ → List ℕ → Type 0
  Extends j name = (own : Interface) × (slice_get g.interfaces j ≡ Some own) × Contains (names_above own) name

  -- all that is met where these wait
  abbrev Covers : List Wait → List Interface → Type 0
  Covers [] all = all ≡ []
  Covers (w ∷ ws) all = (first : List Interface) × (others : List Interface) × Lineage g w.opened w.name first × Covers ws others × (all ≡ first ++ others)

  -- what was seen and is not open extends what was seen, or what waits before
  abbrev Closed : List ℕ → (List ℕ → Type 0) → List ℕ → Type 0
  Closed seen Before opened =
      (j : ℕ) (name : List ℕ) (i : ℕ) (own : Interface) → Contains seen j → ¬ Contains opened j → Extends j name → IsInterface g name i own →
      Contains seen i ⊎ Before name

  abbrev Within : List ℕ → List ℕ → Type 0
  Within one other = (k : ℕ) → Contains one k → Contains other k

  abbrev Closes : List ℕ → (List ℕ → Type 0) → List Wait → Type 0
  Closes seen Before [] = Unit {0}
  Closes seen Before (w ∷ ws) = Within w.opened seen × Closed seen Before w.opened × Closes seen (λ name. (w.name ≡ name) ⊎ Before name) ws

  -- ---- what was seen once has been met with all that it extends
  module _ (seen opened : List ℕ) (closed : (j : ℕ) (name : List ℕ) (i : ℕ) (own : Interface) → Contains seen j → ¬ Contains opened j → Extends j name → IsInterface g name i own → Contains seen i) where
    abbrev Seen : Interface → Type 0
    Seen own = (j : ℕ) × Contains seen j × (slice_get g.interfaces j ≡ Some own)

    mutual
      all_seen : {entered name : List ℕ} {found : List Interface} → Within opened entered → ((i : ℕ) (own : Interface) → IsInterface g name i own → Contains seen i) →
          Lineage g entered name found → (x : Interface) → Contains found x → Seen x
      all_seen within known (above.interface i own is fresh others) x (zero, inside, same) =
          (i, known i own is, is.first.there ∙ ap Some same)
      all_seen {entered} within known (above.interface {above} i own is fresh others) x (suc k, inside, same) =
          each_seen (λ n has. (suc (within n has).0, omega (arith, (within n has).1), (within n has).2))
          (λ name has j other meant. closed i name j other (known i own is) (λ begun. fresh (within i begun)) (own, is.first.there, has) meant)
          others x (k, omega arith, same)
      all_seen within known (above.looped i own is begun) x has = absurd (omega (arith, has.1))
      all_seen within known (above.no_interface none) x has = absurd (omega (arith, has.1))

      each_seen : {entered : List ℕ} {names : List (List ℕ)} {found : List Interface} → Within opened entered →
          ((name : List ℕ) → Contains names name → (i : ℕ) (own : Interface) → IsInterface g name i own → Contains seen i) → Lineages g entered names found →
          (x : Interface) → Contains found x → Seen x
      each_seen within known above.none x has = absurd (omega (arith, has.1))
      each_seen within known (above.more {name} {names} {first} {others} one all) x has = elim (Contains-append_cases first others x has) [
        | inl here ↦ all_seen within (known name (0, omega arith, refl)) one x here
        | inr there ↦ each_seen within (λ n among. known n (suc among.0, omega (arith, among.1), among.2)) all x there
      ]

  -- ---- what waits, with more seen
  closes_on : (seen now : List ℕ) → Within seen now → (Before After : List ℕ → Type 0) →
      ((name : List ℕ) (i : ℕ) (own : Interface) → IsInterface g name i own → Before name → Contains now i ⊎ After name) →
      ((j : ℕ) → Contains now j → Contains seen j ⊎ ((name : List ℕ) (i : ℕ) (own : Interface) → Extends j name → IsInterface g name i own → Contains now i ⊎ After name)) →
      (ws : List Wait) → Closes seen Before ws → Closes now After ws
  closes_on seen now more Before After keep new [] closes = tt
  closes_on seen now more Before After keep new (w ∷ ws) closes = (
    λ k has. more k (closes.0 k has),
    λ j name i own has apart extends_ meant. elim (new j has) [
      | inr by ↦ by name i own extends_ meant
      | inl was ↦ elim (closes.1 j name i own was apart extends_ meant) [
        | inl known ↦ inl (more i known)
        | inr before ↦ keep name i own meant before
      ]
    ],
    closes_on seen now more (λ name. (w.name ≡ name) ⊎ Before name) (λ name. (w.name ≡ name) ⊎ After name)
        (λ name i own meant before. elim before [
          | inl same ↦ inr (inl same)
          | inr old ↦ elim (keep name i own meant old) [ inl known ↦ inl known | inr after ↦ inr (inr after) ]
        ])
        (λ j has. elim (new j has) [
          | inl was ↦ inl was
          | inr by ↦ inr (λ name i own extends_ meant. elim (by name i own extends_ meant) [ inl known ↦ inl known | inr after ↦ inr (inr after) ])
        ])
        ws closes.2,
  )

  -- the names that an interface extends wait before the others
  abbrev waits_for : List ℕ → List (List ℕ) → List Wait
  waits_for opened names = map (λ name. record { opened = opened; name = name }) names

  closes_before : (seen opened : List ℕ) → Within opened seen →
      ((j : ℕ) (name : List ℕ) (i : ℕ) (own : Interface) → Contains seen j → ¬ Contains opened j → Extends j name → IsInterface g name i own → Contains seen i) →
      (names : List (List ℕ)) (Before : List ℕ → Type 0) (ws : List Wait) → Closes seen (λ name. Contains names name ⊎ Before name) ws →
      Closes seen Before (waits_for opened names ++ ws)
  closes_before seen opened within closed [] Before ws closes =
      closes_on seen seen (λ k has. has) (λ name. Contains [] name ⊎ Before name) Before
      (λ name i own meant before. elim before [ inl none ↦ absurd (omega (arith, none.1)) | inr old ↦ inr old ])
      (λ j has. inl has) ws closes
  closes_before seen opened within closed (m ∷ names) Before ws closes = (
    within,
    λ j name i own has apart extends_ meant. inl (closed j name i own has apart extends_ meant),
    closes_before seen opened within closed names (λ name. (m ≡ name) ⊎ Before name) ws
        (closes_on seen seen (λ k has. has) (λ name. Contains (m ∷ names) name ⊎ Before name) (λ name. Contains names name ⊎ ((m ≡ name) ⊎ Before name))
        (λ name i own meant before. inr (moved name before)) (λ j has. inl has) ws closes),
  )
    where
      among : (name : List ℕ) → Contains (m ∷ names) name → Contains names name ⊎ ((m ≡ name) ⊎ Before name)
      among name (zero, inside, is) = inr (inl is)
      among name (suc k, inside, is) = inl (k, omega arith, is)

      moved : (name : List ℕ) → Contains (m ∷ names) name ⊎ Before name → Contains names name ⊎ ((m ≡ name) ⊎ Before name)
      moved name (inl has) = among name has
      moved name (inr old) = inr (inr old)

  names_kept : (opened : List ℕ) (names : List (List ℕ)) → map (λ (x : Wait). x.name) (waits_for opened names) ≡ names
  names_kept opened [] = refl
  names_kept opened (m ∷ names) = ap (λ ms. m ∷ ms) (names_kept opened names)

  covers_parts : (opened : List ℕ) (names : List (List ℕ)) (ws : List Wait) (all : List Interface) → Covers (waits_for opened names ++ ws) all →
      (first : List Interface) × (others : List Interface) × Lineages g opened names first × Covers ws others × (all ≡ first ++ others)
  covers_parts opened [] ws all covers = ([], all, above.none, covers, refl)
  covers_parts opened (m ∷ names) ws all (one, rest, lineage, covers, is) =
      let found = covers_parts opened names ws rest covers in
      (one ++ found.0, found.1, above.more lineage found.2, found.3, is ∙ ap (λ xs. one ++ xs) found.4 ∙ sym (append_assoc one found.0 found.1))

  -- ---- what looks for the same finds the same
  find_known : (p : Attribute → Bool) (order first : List Interface) → ((x : Interface) → Contains first x → Contains order x) → find p (attributes_of order) ≡ None →
      find p (attributes_of first) ≡ None
  find_known p order [] known none = refl
  find_known p order (x ∷ first) known none =
      let here : find p x.attributes ≡ None = find_part p order x (known x (0, omega arith, refl)) none in
      let others = find_known p order first (λ y has. known y (suc has.0, omega (arith, has.1), has.2)) none in
      find-append p x.attributes (attributes_of first) ∙ ap₂ option_or here others
    where
      of_both : {A : Type 0} (a b : Option A) → option_or a b ≡ None → (a ≡ None) × (b ≡ None)
      of_both None b is = (refl, is)
      of_both (Some x) b is = absurd (none-some x (sym is))

      find_part : (p : Attribute → Bool) (order : List Interface) (x : Interface) → Contains order x → find p (attributes_of order) ≡ None → find p x.attributes ≡ None
      find_part p [] x has none = absurd (omega (arith, has.1))
      find_part p (y ∷ order) x (zero, inside, is) none =
          subst (λ (z : Interface). find p z.attributes ≡ None) is (of_both (find p y.attributes) _ (sym (find-append p y.attributes (attributes_of order)) ∙ none)).0
      find_part p (y ∷ order) x (suc k, inside, is) none =
          find_part p order x (k, omega arith, is) (of_both (find p y.attributes) _ (sym (find-append p y.attributes (attributes_of order)) ∙ none)).1

  -- what was met may be left out
  leave_out : (order first others : List Interface) → ((x : Interface) → Contains first x → Contains order x) →
      SameFirsts (attributes_of (order ++ (first ++ others))) (attributes_of (order ++ others))
  leave_out order first others known p =
      parts order (first ++ others) ∙ ap (λ o. option_or (find p (attributes_of order)) o) (parts first others)
      ∙ by (find p (attributes_of order)) refl ∙ sym (parts order others)
    where
      parts : (xs ys : List Interface) → find p (attributes_of (xs ++ ys)) ≡ option_or (find p (attributes_of xs)) (find p (attributes_of ys))
      parts xs ys = ap (find p) (flat_map-append (λ (i : Interface). i.attributes) xs ys) ∙ find-append p (attributes_of xs) (attributes_of ys)

      by : (found : Option Attribute) → find p (attributes_of order) ≡ found →
          option_or found (option_or (find p (attributes_of first)) (find p (attributes_of others))) ≡ option_or found (find p (attributes_of others))
      by None is = ap (λ o. option_or o (find p (attributes_of others))) (find_known p order first known is)
      by (Some x) is = refl

  -- ---- the search
  pub record IsSearching (type_name : List ℕ) (waiting : List (List ℕ)) (seen : List ℕ) (order : List Interface) : Type 0 where
    waits : List Wait
    names : map (λ w. w.name) waits ≡ waiting
    closes : Closes seen (λ _. ⊥) waits
    met : (i : ℕ) (own : Interface) → Contains seen i → slice_get g.interfaces i ≡ Some own → Contains order own
    goes_on : (others : List Interface) → Covers waits others →
        (lineage : List Interface) × Lineage g [] type_name lineage × SameFirsts (attributes_of lineage) (attributes_of (order ++ others))

  -- the same search, where its lists are given otherwise
  pub search_as : (type_name : List ℕ) {waiting then_waiting : List (List ℕ)} {seen then_seen : List ℕ} {order then_order : List Interface} → waiting ≡ then_waiting →
      seen ≡ then_seen → order ≡ then_order → IsSearching type_name waiting seen order → IsSearching type_name then_waiting then_seen then_order
  search_as type_name {waiting} {then_waiting} {seen} {then_seen} {order} {then_order} names keys items is =
      subst (λ xs. IsSearching type_name then_waiting then_seen xs) items
      (subst (λ ks. IsSearching type_name then_waiting ks order) keys (subst (λ ns. IsSearching type_name ns seen order) names is))

  pub search_begins : (type_name : List ℕ) → IsSearching type_name (type_name ∷ []) [] []
  search_begins type_name = record {
    waits = record { opened = []; name = type_name } ∷ [];
    names = refl;
    closes = (λ k has. absurd (omega (arith, has.1)), λ j name i own has apart extends_ meant. absurd (omega (arith, has.1)), tt);
    met = λ i own has there. absurd (omega (arith, has.1));
    goes_on = λ others covers.
        let is : others ≡ covers.0 = covers.4 ∙ ap (λ xs. covers.0 ++ xs) covers.3 ∙ append-nil covers.0 in
        (covers.0, covers.2, λ p. ap (λ xs. find p (attributes_of xs)) (sym is));
  }

  pub search_ends : (type_name : List ℕ) (seen : List ℕ) (order : List Interface) → IsSearching type_name [] seen order → Follows g type_name order
  search_ends type_name seen order is = by is.waits is.names is.goes_on
    where
      by : (waits : List Wait) → map (λ w. w.name) waits ≡ [] →
          ((others : List Interface) → Covers waits others →
          (lineage : List Interface) × Lineage g [] type_name lineage × SameFirsts (attributes_of lineage) (attributes_of (order ++ others))) → Follows g type_name order
      by [] names goes_on =
          let found = goes_on [] refl in
          record { lineage = found.0; all = found.1; same = λ p. found.2 p ∙ ap (λ xs. find p (attributes_of xs)) (append-nil order) }
      by (w ∷ ws) names goes_on = absurd cc

  module _ (type_name name : List ℕ) (waiting : List (List ℕ)) (seen : List ℕ) (order : List Interface) (is : IsSearching type_name (name ∷ waiting) seen order) where
    -- the first that waits, and the others
    record Next : Type 0 where
      first : Wait
      others : List Wait
      all : is.waits ≡ first ∷ others

    next : Next
    next = by is.waits refl (is.names)
      where
        by : (waits : List Wait) → is.waits ≡ waits → map (λ w. w.name) waits ≡ name ∷ waiting → Next
        by [] same names = absurd cc
        by (w ∷ ws) same names = record { first = w; others = ws; all = same }

    abbrev w : Wait
    w = next.first

    abbrev ws : List Wait
    ws = next.others

    names_of : map (λ w. w.name) (w ∷ ws) ≡ name ∷ waiting
    names_of = ap (λ all. map (λ (x : Wait). x.name) all) (sym next.all) ∙ is.names

    first_name : w.name ≡ name
    first_name = cc names_of

    other_names : map (λ w. w.name) ws ≡ waiting
    other_names = cc names_of

    closes_of : Closes seen (λ _. ⊥) (w ∷ ws)
    closes_of = subst (Closes seen (λ _. ⊥)) next.all is.closes

    goes_on_of : (others : List Interface) → Covers (w ∷ ws) others →
        (lineage : List Interface) × Lineage g [] type_name lineage × SameFirsts (attributes_of lineage) (attributes_of (order ++ others))
    goes_on_of others covers = is.goes_on others (subst (λ all. Covers all others) (sym next.all) covers)

    closed_here : (j : ℕ) (other : List ℕ) (i : ℕ) (own : Interface) → Contains seen j → ¬ Contains w.opened j → Extends j other → IsInterface g other i own → Contains seen i
    closed_here j other i own has apart extends_ meant = elim (closes_of.1 j other i own has apart extends_ meant) [ inl known ↦ known | inr none ↦ absurd none ]

    -- what was seen, or is no interface, is left out
    pub search_skips : ((i : ℕ) (own : Interface) → IsInterface g name i own → Contains seen i) → IsSearching type_name waiting seen order
    search_skips known = record {
      waits = ws;
      names = other_names;
      closes =
          closes_on seen seen (λ k has. has) (λ other. (w.name ≡ other) ⊎ ⊥) (λ _. ⊥)
          (λ other i own meant before. elim before [
            | inl same ↦ inl (known i own (subst (λ n. IsInterface g n i own) (sym same ∙ first_name) meant))
            | inr none ↦ absurd none
          ])
          (λ j has. inl has) ws closes_of.2;
      met = is.met;
      goes_on = λ others covers.
          let here = some_lineage g w.opened w.name in
          let found = goes_on_of (here.0 ++ others) (here.0, others, here.1, covers, refl) in
          let all = λ (x : Interface) (has : Contains here.0 x).
          let at = all_seen seen w.opened closed_here (λ k has. has) (λ i own meant. known i own (subst (λ n. IsInterface g n i own) first_name meant)) here.1 x has in
          is.met at.0 x at.1 at.2 in
          (found.0, found.1, λ p. found.2 p ∙ leave_out order here.0 others all p);
    }

    -- an interface that was not seen is looked into, and what it extends waits before the others
    pub search_enters : (i : ℕ) (own : Interface) → IsInterface g name i own → ¬ Contains seen i →
        IsSearching type_name (names_above own ++ waiting) (seen ++ i ∷ []) (order ++ own ∷ [])
    search_enters i own meant fresh = record {
      waits = waits_for (i ∷ w.opened) (names_above own) ++ ws;
      names = map-append (λ (x : Wait). x.name) (waits_for (i ∷ w.opened) (names_above own)) ws ∙ ap₂ (λ xs ys. xs ++ ys) (names_kept (i ∷ w.opened) (names_above own)) other_names;
      closes =
          closes_before (seen ++ i ∷ []) (i ∷ w.opened) within_now
          (λ j other k next_own has apart extends_ next_meant. elim (Contains-push_cases seen i j has) [
            | inl was ↦ Contains-append_left seen (i ∷ []) k (closed_here j other k next_own was (λ begun. apart (suc begun.0, omega (arith, begun.1), begun.2)) extends_ next_meant)
            | inr same ↦ absurd (apart (0, omega arith, same))
          ])
          (names_above own) (λ _. ⊥) ws
          (closes_on seen (seen ++ i ∷ []) (λ k has. Contains-append_left seen (i ∷ []) k has) (λ other. (w.name ≡ other) ⊎ ⊥) (λ other. Contains (names_above own) other ⊎ ⊥)
          (λ other k next_own next_meant before. elim before [
            | inl same ↦
                let here : IsInterface g name k next_own = subst (λ n. IsInterface g n k next_own) (sym same ∙ first_name) next_meant in
                inl (subst (Contains (seen ++ i ∷ [])) (first_place meant.first here.first) (Contains-push seen i))
            | inr none ↦ absurd none
          ])
          (λ j has. elim (Contains-push_cases seen i j has) [
            | inl was ↦ inl was
            | inr same ↦ inr (λ other k next_own extends_ next_meant. inr (inl (child j same other extends_)))
          ])
          ws closes_of.2);
      met = λ k next_own has there. elim (Contains-push_cases seen i k has) [
        | inl was ↦ Contains-append_left order (own ∷ []) next_own (is.met k next_own was there)
        | inr same ↦ subst (Contains (order ++ own ∷ [])) (same_Some own next_own (sym meant.first.there ∙ ap (slice_get g.interfaces) same ∙ there)) (Contains-push order own)
      ];
      goes_on = λ others covers.
          let found = covers_parts (i ∷ w.opened) (names_above own) ws others covers in
          let here : Lineage g w.opened w.name (own ∷ found.0) =
          above.interface i own (subst (λ n. IsInterface g n i own) (sym first_name) meant) (λ begun. fresh (closes_of.0 i begun)) found.2 in
          let all = goes_on_of ((own ∷ found.0) ++ found.1) (own ∷ found.0, found.1, here, found.3, refl) in
          (all.0, all.1, λ p. all.2 p ∙ ap (λ xs. find p (attributes_of xs)) (ap (λ xs. order ++ own ∷ xs) (sym found.4) ∙ sym (append_assoc order (own ∷ []) others)));
    }
      where
        within_now : Within (i ∷ w.opened) (seen ++ i ∷ [])
        within_now k (zero, inside, same) = subst (Contains (seen ++ i ∷ [])) same (Contains-push seen i)
        within_now k (suc n, inside, same) = Contains-append_left seen (i ∷ []) k (closes_of.0 k (n, omega arith, same))

        child : (j : ℕ) → i ≡ j → (other : List ℕ) → Extends j other → Contains (names_above own) other
        child j same other (x, there, has) =
            subst (λ (y : Interface). Contains (names_above y) other) (same_Some x own (sym there ∙ ap (slice_get g.interfaces) (sym same) ∙ meant.first.there)) has
