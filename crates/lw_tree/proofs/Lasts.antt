-- The last place of a key has the last value of a property of a node.
use Rattle.std.proofs.Common.{ℕ, suc, Bool, true, false, ◌≡◌, ◌≢◌, ◌+◌, ◌-◌, ◌<◌, ◌≤◌, Option, Some, None, List, [], ◌∷◌, ◌++◌, length, map, get_or, set, slice_get, take, ⊎_elim, refl, sym, subst, ap, ◌∙◌, arith}
use Rattle.std.proofs.lemmas.Bool.{cases_eq}
use Rattle.std.proofs.lemmas.Bool.Decides.{nat_tests}
use Rattle.std.proofs.lemmas.List.{get_or-map, get_or-set_other, get_or-set_same, length-map, length-set, length-take, take_more}
use Rattle.std.proofs.lemmas.List.FromFn.{fill_by_all, get_or-map-range_with_len}
use Rattle.std.specs.List.{range_with_len}
use Rattle.std.specs.Option.{option_and_then, option_map, option_or}
use Rattle.std.specs.Prelude.{if◌then◌else◌}
use Rattle.lw_base.specs.declared.numbers.NodeId.{NodeId}
use Rattle.lw_base.specs.declared.numbers.PropId.{PropId}
use Rattle.lw_tree.specs.declared.node.Value.{Value}
use Rattle.lw_tree.specs.Keyed.{Entries, key_of, keys_of, values_of}
use Rattle.lw_tree.specs.LastPlaces.{Places, is_same_key, last_place, name_places, place_before}
use Rattle.lw_tree.specs.Parts.{last_text, name_by, text_in, values_at}

-- the last of these values stands at this place among all
abbrev LastIs : Option ℕ → List Value → List Value → Type 0
LastIs None all these = these ≡ []
LastIs (Some place) all these = (0 < length these) × (slice_get these (length these - 1) ≡ slice_get all place)

one_before : (here : Bool) (v : Value) (place : Option ℕ) (all these : List Value) → LastIs place all these →
    LastIs (option_or (option_map suc place) (if here then Some 0 else None)) (v ∷ all) (if here then v ∷ these else these)
one_before true v None all these none = (omega arith, ap (λ l. slice_get (v ∷ l) (length (v ∷ l) - 1)) none)
one_before false v None all these none = none
one_before true v (Some place) all these last =
    let next : length (v ∷ these) - 1 ≡ suc (length these - 1) = omega (arith, last.0) in
    (omega arith, ap (λ i. slice_get (v ∷ these) i) next ∙ last.1)
one_before false v (Some place) all these last = last

lasts : (n p : ℕ) (entries : Entries) → LastIs (last_place (n, p) (keys_of entries)) (values_of entries) (values_at n p entries)
lasts n p [] = refl
lasts n p (e ∷ es) =
    one_before (is_same_key (n, p) (e.0.0, e.1.0)) e.2 (last_place (n, p) (keys_of es)) (values_of es) (values_at n p es) (lasts n p es)

last_says : (place : Option ℕ) (all these : List Value) → LastIs place all these →
    text_in (option_and_then (λ i. slice_get all i) place) ≡ last_text these
last_says None all these none = ap last_text (sym none)
last_says (Some place) all these last = ap text_in (sym last.1)

-- the value at the place of a node's name says the name
pub says_name : (name : Option PropId) (n count : ℕ) (entries : Entries) (names : Places) (place : Option ℕ) → n < count →
    names ≡ name_places name count (keys_of entries) → place ≡ get_or names n None →
    text_in (option_and_then (λ i. slice_get (values_of entries) i) place) ≡ name_by name n entries
says_name None n count entries names place lt all at =
    ap (λ p. text_in (option_and_then (λ i. slice_get (values_of entries) i) p)) (at ∙ ap (λ l. get_or l n None) all)
says_name (Some p) n count entries names place lt all at =
    let last : place ≡ last_place (n, p.0) (keys_of entries) =
    at ∙ ap (λ l. get_or l n None) all
    ∙ get_or-map-range_with_len (λ k. last_place (k, p.0) (keys_of entries)) 0 count n n None lt (omega arith) in
    ap (λ p. text_in (option_and_then (λ i. slice_get (values_of entries) i) p)) last
    ∙ last_says (last_place (n, p.0) (keys_of entries)) (values_of entries) (values_at n p.0 entries) (lasts n p.0 entries)

-- places that are those of all nodes' names
pub all_places : (p count : ℕ) (keys : List (ℕ × ℕ)) (behind : List ℕ) → length behind ≡ count →
    ((n : ℕ) → n < count → place_before (get_or behind n 0) ≡ last_place (n, p) keys) →
    map place_before behind ≡ map (λ n. last_place (n, p) keys) (range_with_len 0 count)
all_places p count keys behind long each =
    fill_by_all (λ n. last_place (n, p) keys) (map place_before behind) count None (length-map behind place_before ∙ long)
    (λ n lt. get_or-map place_before behind n 0 None (omega (arith, lt, long)) ∙ each n lt)

pushed : (here : Bool) (place : Option ℕ) (size : ℕ) (first : Option ℕ) →
    option_or (option_map suc (if here then Some size else place)) first ≡ (if here then Some (suc size) else option_or (option_map suc place) first)
pushed true place size first = refl
pushed false place size first = refl

last_push : (wanted : ℕ × ℕ) (e : NodeId × PropId × Value) (es : Entries) →
    last_place wanted (keys_of (es ++ e ∷ [])) ≡ (if is_same_key wanted (key_of e) then Some (length es) else last_place wanted (keys_of es))
last_push wanted e [] = refl
last_push wanted e (x ∷ es) =
    ap (λ place. option_or (option_map suc place) (if is_same_key wanted (key_of x) then Some 0 else None)) (last_push wanted e es)
    ∙ pushed (is_same_key wanted (key_of e)) (last_place wanted (keys_of es)) (length es) (if is_same_key wanted (key_of x) then Some 0 else None)

-- with one more value
last_more : (wanted : ℕ × ℕ) (es : Entries) (i : ℕ) (d e : NodeId × PropId × Value) → i < length es → e ≡ get_or es i d →
    last_place wanted (keys_of (take (i + 1) es)) ≡ (if is_same_key wanted (key_of e) then Some i else last_place wanted (keys_of (take i es)))
last_more wanted es i d e lt is =
    let front : length (take i es) ≡ i = omega (arith, length-take i es, lt) in
    ap (λ l. last_place wanted (keys_of l)) (take_more es i d lt) ∙ last_push wanted (get_or es i d) (take i es)
    ∙ ap (λ size. if is_same_key wanted (key_of (get_or es i d)) then Some size else last_place wanted (keys_of (take i es))) front
    ∙ ap (λ x. if is_same_key wanted (key_of x) then Some i else last_place wanted (keys_of (take i es))) (sym is)

-- behind the last place of each node's values among the first i
pub record AreLasts (p count : ℕ) (es : Entries) (i : ℕ) (behind : List ℕ) : Type 0 where
  pub long : length behind ≡ count
  pub places : (n : ℕ) → n < count → place_before (get_or behind n 0) ≡ last_place (n, p) (keys_of (take i es))

own_key : (n p : ℕ) (key : ℕ × ℕ) → n ≡ key.0 → key.1 ≡ p → is_same_key (n, p) key ≡ true
own_key n p key node prop = grind (arith, nat_tests)

other_node : (n p : ℕ) (key : ℕ × ℕ) → n ≢ key.0 → is_same_key (n, p) key ≡ false
other_node n p key node = grind (arith, nat_tests)

pub other_prop : (n p : ℕ) (key : ℕ × ℕ) → key.1 ≢ p → is_same_key (n, p) key ≡ false
other_prop n p key prop = grind (arith, nat_tests)

pub no_node : (n p count : ℕ) (key : ℕ × ℕ) → count ≤ key.0 → n < count → is_same_key (n, p) key ≡ false
no_node n p count key out lt = other_node n p key (λ e. omega (arith, e, out, lt))

-- one more value, of this property
pub one_last : (p count : ℕ) (es : Entries) (i : ℕ) (d e : NodeId × PropId × Value) (behind behind' : List ℕ) → i < length es →
    e ≡ get_or es i d → e.1.0 ≡ p → e.0.0 < count → behind' ≡ set behind e.0.0 (i + 1) → AreLasts p count es i behind →
    AreLasts p count es (i + 1) behind'
one_last p count es i d e behind behind' lt is prop within written before =
    let key : ℕ × ℕ = key_of e in
    let more : (n : ℕ) → last_place (n, p) (keys_of (take (i + 1) es))
    ≡ (if is_same_key (n, p) key then Some i else last_place (n, p) (keys_of (take i es))) = λ n. last_more (n, p) es i d e lt is in
    let choice : ℕ → Bool → Option ℕ = λ n here. if here then Some i else last_place (n, p) (keys_of (take i es)) in
    let next : i + 1 ≡ suc i = omega arith in
    subst (λ l. AreLasts p count es (i + 1) l) (sym written)
    (record {
      long = length-set behind key.0 (i + 1) ∙ before.long;
      places = λ n n_in. ⊎_elim
          (λ here.
          ap (λ m. place_before (get_or (set behind key.0 (i + 1)) m 0)) here
          ∙ ap place_before (get_or-set_same behind key.0 (i + 1) 0 (omega (arith, within, before.long)) ∙ next)
          ∙ sym (more n ∙ ap (choice n) (own_key n p key here prop)))
          (λ ne.
          ap place_before (get_or-set_other behind key.0 n (i + 1) 0 ne) ∙ before.places n n_in
          ∙ sym (more n ∙ ap (choice n) (other_node n p key ne)))
          (cases_eq n key.0);
    })

-- one more value, which is no such
pub no_last : (p count : ℕ) (es : Entries) (i : ℕ) (d e : NodeId × PropId × Value) (behind behind' : List ℕ) → i < length es →
    e ≡ get_or es i d → ((n : ℕ) → n < count → is_same_key (n, p) (key_of e) ≡ false) → behind' ≡ behind → AreLasts p count es i behind →
    AreLasts p count es (i + 1) behind'
no_last p count es i d e behind behind' lt is elsewhere same before =
    subst (λ l. AreLasts p count es (i + 1) l) (sym same)
    (record {
      long = before.long;
      places = λ n n_in.
          before.places n n_in
          ∙ sym (last_more (n, p) es i d e lt is
          ∙ ap (λ here. if here then Some i else last_place (n, p) (keys_of (take i es))) (elsewhere n n_in));
    })
