-- What is known of the attributes of types, one interface after the other, and that it is what they have.
use Rattle.std.proofs.Common.{◌≡◌, ℕ, zero, suc, ◌+◌, ◌<◌, List, [], ◌∷◌, ◌++◌, length, get_or, take, Bool, true, false, cond, map, Contains, Option, Some, None, MatchOption, option_map, option_and_then, slice_get, bytes_eq, inl, inr, refl, sym, ap, ◌∙◌, subst}
use Rattle.std.specs.Borrow.{Bor}
use Rattle.std.specs.List.{find}
use Rattle.std.specs.Map.{lookup}
use Rattle.std.specs.Option.{option_or, is_some}
use Rattle.std.proofs.lemmas.List.{append-nil, map-append, take_more}
use Rattle.std.proofs.lemmas.List.Concat.{flat_map-append}
use Rattle.std.proofs.lemmas.List.Folds.{find-append}
use Rattle.std.proofs.lemmas.List.Elements.{Contains-push_cases}
use Rattle.std.proofs.lemmas.Option.{none-some, same_Some, slice_get_within, get_or_from_slice_get}
use Rattle.std.proofs.lemmas.Slice.Eq.{bytes_eq-Decides}
use Rattle.std.proofs.lemmas.Bool.{true≢false}
use Rattle.lw_grammar.specs.declared.grammar.Grammar.{Grammar}
use Rattle.lw_grammar.specs.declared.declared_types.Interface.{Interface}
use Rattle.lw_grammar.specs.declared.declared_types.Attribute.{Attribute}
use Rattle.lw_grammar.specs.Named.{IsFirst, IsInterface}
use Rattle.lw_grammar.proofs.Every.{first_here, first_later}
use Rattle.lw_faults.specs.Attributes.{HasAttribute, HasNoAttribute}
use Rattle.lw_faults.specs.Attributes as above
use Rattle.lw_faults.proofs.LineageLemmas.{one_lineage}
use Rattle.lw_properties.specs.Known.{KnownAttributes, known_attribute, AreAttributesOf}
use Rattle.lw_properties.specs.Search.{attributes_of, is_named, AreFirsts, ServesFor}

-- ---- the first of each name

module _ (xs : List Attribute) (entries : List (List ℕ × Bor Attribute)) (a : Attribute) (are : AreFirsts xs entries) where
  -- its name is there
  pub firsts_kept : (b : Bor Attribute) → lookup (bytes_eq a.name) entries ≡ Some b → AreFirsts (xs ++ a ∷ []) entries
  firsts_kept b has p = are p ∙ by (find (is_named p) xs) refl ∙ sym (find-append (is_named p) xs (a ∷ []))
    where
      decides : (t : Bool) → bytes_eq a.name p ≡ t → find (is_named p) xs ≡ None → None ≡ cond t (Some a) None
      decides false e none = refl
      decides true e none =
          let same : a.name ≡ p = (bytes_eq-Decides a.name p).0 e in
          absurd (none-some b.now (sym (are p ∙ none) ∙ ap (λ q. option_map (λ (x : Bor Attribute). x.now) (lookup (bytes_eq q) entries)) (sym same) ∙ ap (option_map (λ (x : Bor Attribute). x.now)) has))

      by : (found : Option Attribute) → find (is_named p) xs ≡ found → find (is_named p) xs ≡ option_or (find (is_named p) xs) (cond (is_named p a) (Some a) None)
      by (Some x) e = e ∙ ap (λ o. option_or o (cond (is_named p a) (Some a) None)) (sym e)
      by None e = e ∙ decides (bytes_eq a.name p) refl e ∙ ap (λ o. option_or o (cond (is_named p a) (Some a) None)) (sym e)

  -- its name is put in
  pub firsts_put : (then : List (List ℕ × Bor Attribute)) (b : Bor Attribute) (key : List ℕ) → b.now ≡ a → key ≡ a.name → lookup (bytes_eq a.name) entries ≡ None →
      ((q : List ℕ) → lookup (bytes_eq q) then ≡ cond (bytes_eq key q) (Some b) (lookup (bytes_eq q) entries)) → AreFirsts (xs ++ a ∷ []) then
  firsts_put then b key is named none updates p =
      ap (option_map (λ (x : Bor Attribute). x.now)) (updates p ∙ ap (λ k. cond (bytes_eq k p) (Some b) (lookup (bytes_eq p) entries)) named) ∙ by (bytes_eq a.name p) refl ∙ sym (find-append (is_named p) xs (a ∷ []))
    where
      nothing_to : (o : Option Attribute) → option_or o None ≡ o
      nothing_to None = refl
      nothing_to (Some x) = refl

      by : (t : Bool) → bytes_eq a.name p ≡ t →
          option_map (λ (x : Bor Attribute). x.now) (cond t (Some b) (lookup (bytes_eq p) entries)) ≡ option_or (find (is_named p) xs) (cond (bytes_eq a.name p) (Some a) None)
      by true e =
          let same : a.name ≡ p = (bytes_eq-Decides a.name p).0 e in
          let before : find (is_named p) xs ≡ None = sym (are p) ∙ ap (option_map (λ (x : Bor Attribute). x.now)) (ap (λ q. lookup (bytes_eq q) entries) (sym same) ∙ none) in
          ap Some is ∙ ap (λ t. cond t (Some a) None) (sym e) ∙ ap (λ o. option_or o (cond (bytes_eq a.name p) (Some a) None)) (sym before)
      by false e = are p ∙ sym (nothing_to (find (is_named p) xs)) ∙ ap (λ t. option_or (find (is_named p) xs) (cond t (Some a) None)) (sym e)

-- the attributes of one interface more
pub attributes_more : (xs : List (Bor Interface)) (i : ℕ) (x : Bor Interface) → i < length xs → x ≡ get_or xs i x →
    attributes_of (map (λ y. y.now) (take i xs)) ++ x.now.attributes ≡ attributes_of (map (λ y. y.now) (take (i + 1) xs))
attributes_more xs i x inside is =
    let one : List (Bor Interface) = x ∷ [] in
    let longer : take (i + 1) xs ≡ take i xs ++ x ∷ [] = take_more xs i x inside ∙ ap (λ y. take i xs ++ y ∷ []) (sym is) in
    ap (λ ys. attributes_of (map (λ y. y.now) (take i xs)) ++ ys) (sym (append-nil x.now.attributes))
    ∙ sym (flat_map-append (λ (y : Interface). y.attributes) (map (λ y. y.now) (take i xs)) (map (λ y. y.now) one))
    ∙ ap attributes_of (sym (map-append (λ (y : Bor Interface). y.now) (take i xs) one)) ∙ ap (λ ys. attributes_of (map (λ y. y.now) ys)) (sym longer)

pub none_there : {A : Type 0} (o : Option A) → is_some o ≡ false → o ≡ None
none_there None e = refl
none_there (Some x) e = absurd (true≢false e)

pub one_there : {A : Type 0} (o : Option A) → is_some o ≡ true → (x : A) × (o ≡ Some x)
one_there None e = absurd (true≢false (sym e))
one_there (Some x) e = (x, refl)

-- ---- what is first

bytes_same : (a p : List ℕ) → a ≡ p → bytes_eq a p ≡ true
bytes_same a p e = (bytes_eq-Decides a p).1 e

bytes_apart : (a p : List ℕ) → bytes_eq a p ≡ false → a ≡ p → ⊥
bytes_apart a p e same = true≢false (sym (bytes_same a p same) ∙ e)

first_found : (p : List ℕ) (xs : List Attribute) (x : Attribute) → find (is_named p) xs ≡ Some x → (i : ℕ) × IsFirst (λ a. a.name ≡ p) xs i x
first_found p [] x is = absurd (none-some x is)
first_found p (y ∷ xs) x is = by (bytes_eq y.name p) refl (first_found p xs x)
  where
    by : (t : Bool) → bytes_eq y.name p ≡ t → (find (is_named p) xs ≡ Some x → (i : ℕ) × IsFirst (λ a. a.name ≡ p) xs i x) →
        (i : ℕ) × IsFirst (λ a. a.name ≡ p) (y ∷ xs) i x
    by true e later =
        let same : y ≡ x = same_Some y x (sym (ap (λ t. cond t (Some y) (find (is_named p) xs)) e) ∙ is) in
        subst (λ z. (i : ℕ) × IsFirst (λ (a : Attribute). a.name ≡ p) (y ∷ xs) i z) same (0, first_here ((bytes_eq-Decides y.name p).0 e))
    by false e later =
        let found = later (sym (ap (λ t. cond t (Some y) (find (is_named p) xs)) e) ∙ is) in
        (suc found.0, first_later (bytes_apart y.name p e) found.1)

-- nothing is found where none passes
none_found : (p : List ℕ) (xs : List Attribute) → find (is_named p) xs ≡ None → (i : ℕ) (x : Attribute) → slice_get xs i ≡ Some x → x.name ≡ p → ⊥
none_found p [] is i x there same = none-some x there
none_found p (y ∷ xs) is i x there same = by (bytes_eq y.name p) refl (none_found p xs) i there
  where
    by : (t : Bool) → bytes_eq y.name p ≡ t → (find (is_named p) xs ≡ None → (i : ℕ) (x : Attribute) → slice_get xs i ≡ Some x → x.name ≡ p → ⊥) → (i : ℕ) →
        slice_get (y ∷ xs) i ≡ Some x → ⊥
    by true e later i there = none-some y (sym is ∙ ap (λ t. cond t (Some y) (find (is_named p) xs)) e)
    by false e later zero there = bytes_apart y.name p e (ap (λ (a : Attribute). a.name) (same_Some y x there) ∙ same)
    by false e later (suc i) there = later (sym (ap (λ t. cond t (Some y) (find (is_named p) xs)) e) ∙ is) i x there same

-- ---- entries that are held in another form

module _ {V W : Type 0} (firsts_of : V → W) where
  lookup_mapped : (test : List ℕ → Bool) (entries : List (List ℕ × V)) → lookup test (map (λ e. (e.0, firsts_of e.1)) entries) ≡ option_map firsts_of (lookup test entries)
  lookup_mapped test [] = refl
  lookup_mapped test (e ∷ entries) = by (test e.0) (lookup_mapped test entries)
    where
      by : (t : Bool) → lookup test (map (λ e. (e.0, firsts_of e.1)) entries) ≡ option_map firsts_of (lookup test entries) →
          cond t (Some (firsts_of e.1)) (lookup test (map (λ e. (e.0, firsts_of e.1)) entries)) ≡ option_map firsts_of (cond t (Some e.1) (lookup test entries))
      by true later = refl
      by false later = later

  pub put_mapped : (entries then : List (List ℕ × V)) (v : V) (key : List ℕ) →
      ((q : List ℕ) → lookup (bytes_eq q) then ≡ cond (bytes_eq key q) (Some v) (lookup (bytes_eq q) entries)) → (q : List ℕ) →
      lookup (bytes_eq q) (map (λ e. (e.0, firsts_of e.1)) then) ≡ cond (bytes_eq key q) (Some (firsts_of v)) (lookup (bytes_eq q) (map (λ e. (e.0, firsts_of e.1)) entries))
  put_mapped entries then v key updates q =
      lookup_mapped (bytes_eq q) then ∙ ap (option_map firsts_of) (updates q) ∙ by (bytes_eq key q)
      ∙ ap (λ o. cond (bytes_eq key q) (Some (firsts_of v)) o) (sym (lookup_mapped (bytes_eq q) entries))
    where
      by : (t : Bool) → option_map firsts_of (cond t (Some v) (lookup (bytes_eq q) entries)) ≡ cond t (Some (firsts_of v)) (option_map firsts_of (lookup (bytes_eq q) entries))
      by true = refl
      by false = refl

module _ (g : Grammar) where
  serves : (type_name p : List ℕ) (firsts : List (List ℕ × Bor Attribute)) → ServesFor g type_name firsts →
      MatchOption (lookup (bytes_eq p) firsts) (HasNoAttribute g type_name p) (λ a. HasAttribute g type_name p a.now)
  serves type_name p firsts for = by (lookup (bytes_eq p) firsts) refl
    where
      in_lineage : find (is_named p) (attributes_of for.follows.lineage) ≡ option_map (λ (a : Bor Attribute). a.now) (lookup (bytes_eq p) firsts)
      in_lineage = for.follows.same (is_named p) ∙ sym (for.are p)

      by : (found : Option (Bor Attribute)) → lookup (bytes_eq p) firsts ≡ found → MatchOption found (HasNoAttribute g type_name p) (λ a. HasAttribute g type_name p a.now)
      by None is = λ attribute has.
          let none : find (is_named p) (attributes_of for.follows.lineage) ≡ None = in_lineage ∙ ap (option_map (λ (a : Bor Attribute). a.now)) is in
          let first : IsFirst (λ (a : Attribute). a.name ≡ p) (attributes_of for.follows.lineage) has.at attribute =
          subst (λ ls. IsFirst (λ (a : Attribute). a.name ≡ p) (attributes_of ls) has.at attribute) (one_lineage g has.all for.follows.all) has.first in
          none_found p (attributes_of for.follows.lineage) none has.at attribute first.there first.does
      by (Some a) is =
          let first = first_found p (attributes_of for.follows.lineage) a.now (in_lineage ∙ ap (option_map (λ (x : Bor Attribute). x.now)) is) in
          record { lineage = for.follows.lineage; all = for.follows.all; at = first.0; first = first.1 }

  no_lineage : (type_name p : List ℕ) → ((i : ℕ) (own : Interface) → ¬ IsInterface g type_name i own) → HasNoAttribute g type_name p
  no_lineage type_name p none attribute has =
      let first : IsFirst (λ (a : Attribute). a.name ≡ p) [] has.at attribute =
      subst (λ ls. IsFirst (λ (a : Attribute). a.name ≡ p) (attributes_of ls) has.at attribute) (one_lineage g has.all (above.no_interface none)) has.first in
      none-some attribute first.there

  abbrev Firsts : Type 0
  Firsts = List (List ℕ × Bor Attribute)

  -- the attributes of these interfaces' types, and of no other, are known
  abbrev pub KnowsOf : List Interface → KnownAttributes → Type 0
  KnowsOf xs entries =
      (type_name : List ℕ) → MatchOption (lookup (bytes_eq type_name) entries) ((x : Interface) → Contains xs x → x.name ≡ type_name → ⊥) (λ firsts. ServesFor g type_name firsts)

  pub knows_more : (xs : List Interface) (entries then : KnownAttributes) (x : Interface) (v : Firsts) → KnowsOf xs entries → ServesFor g x.name v →
      ((q : List ℕ) → lookup (bytes_eq q) then ≡ cond (bytes_eq x.name q) (Some v) (lookup (bytes_eq q) entries)) → KnowsOf (xs ++ x ∷ []) then
  knows_more xs entries then x v knows for updates type_name = subst Knows (sym (updates type_name)) (by (bytes_eq x.name type_name) refl)
    where
      Knows : Option Firsts → Type 0
      Knows o = MatchOption o ((y : Interface) → Contains (xs ++ x ∷ []) y → y.name ≡ type_name → ⊥) (λ firsts. ServesFor g type_name firsts)

      old : (o : Option Firsts) → bytes_eq x.name type_name ≡ false → MatchOption o ((y : Interface) → Contains xs y → y.name ≡ type_name → ⊥) (λ firsts. ServesFor g type_name firsts) → Knows o
      old None e none = λ y has same. elim (Contains-push_cases xs x y has) [
        | inl was ↦ none y was same
        | inr this ↦ bytes_apart x.name type_name e (ap (λ (z : Interface). z.name) this ∙ same)
      ]
      old (Some w) e is = is

      by : (t : Bool) → bytes_eq x.name type_name ≡ t → Knows (cond t (Some v) (lookup (bytes_eq type_name) entries))
      by true e = subst (λ n. ServesFor g n v) ((bytes_eq-Decides x.name type_name).0 e) for
      by false e = old (lookup (bytes_eq type_name) entries) e (knows type_name)

  pub knows_all : (entries : KnownAttributes) → KnowsOf g.interfaces entries → AreAttributesOf g entries
  knows_all entries knows type_name p = by (lookup (bytes_eq type_name) entries) refl (knows type_name)
    where
      Right : Option (Bor Attribute) → Type 0
      Right o = MatchOption o (HasNoAttribute g type_name p) (λ a. HasAttribute g type_name p a.now)

      found : Option Firsts → Option (Bor Attribute)
      found o = option_and_then (λ of_type. lookup (bytes_eq p) of_type) o

      by : (o : Option Firsts) → lookup (bytes_eq type_name) entries ≡ o →
          MatchOption o ((x : Interface) → Contains g.interfaces x → x.name ≡ type_name → ⊥) (λ firsts. ServesFor g type_name firsts) → Right (known_attribute entries type_name p)
      by None e none =
          subst Right (sym (ap found e))
          (no_lineage type_name p (λ i own is. none own (i, slice_get_within g.interfaces i own is.first.there, get_or_from_slice_get g.interfaces i own own is.first.there) is.first.does))
      by (Some v) e for = subst Right (sym (ap found e)) (serves type_name p v for)

  -- ---- the same, where the entries are held in another form
  module _ {V : Type 0} (firsts_of : V → Firsts) where
    pub known_none : (entries : List (List ℕ × V)) (type_name p : List ℕ) → None ≡ lookup (bytes_eq type_name) entries →
        known_attribute (map (λ e. (e.0, firsts_of e.1)) entries) type_name p ≡ None
    known_none entries type_name p is =
        ap (option_and_then (λ of_type. lookup (bytes_eq p) of_type)) (lookup_mapped firsts_of (bytes_eq type_name) entries ∙ ap (option_map firsts_of) (sym is))

    pub known_some : (entries : List (List ℕ × V)) (type_name p : List ℕ) (v : V) → Some v ≡ lookup (bytes_eq type_name) entries →
        known_attribute (map (λ e. (e.0, firsts_of e.1)) entries) type_name p ≡ lookup (bytes_eq p) (firsts_of v)
    known_some entries type_name p v is =
        ap (option_and_then (λ of_type. lookup (bytes_eq p) of_type)) (lookup_mapped firsts_of (bytes_eq type_name) entries ∙ ap (option_map firsts_of) (sym is))
