-- The documents by address, from the table and the numbers that keep them.
use Rattle.std.proofs.Common.{◌≡◌, ◌≢◌, ℕ, List, [], ◌∷◌, Bool, true, false, ◌&&◌, cond, map, length, T, Option, Some, None, refl, sym, ap, subst, ◌∙◌, ◌⊎◌, inl, inr}
use Rattle.std.specs.declared.cmp.Ordering.{Ordering}
use Rattle.std.specs.declared.cmp.Ordering.TheVariants.{Less, Equal, Greater}
use Rattle.std.specs.BTreeMap as tree
use Rattle.std.specs.BTreeMap.{IsOrdered, is_at}
use Rattle.std.specs.Cmp.Lexicographic.{slice_cmp}
use Rattle.std.specs.FinMap as all
use Rattle.std.specs.FinMap.{find, is_sorted, entries, get, len, get-from_sorted, entries-from_sorted, len-entries, empty_of_len, get-insert, get-remove, same_map, IsAntisymmetric, nat_cmp-IsAntisymmetric, slice_cmp-IsAntisymmetric}
use Rattle.std.specs.FinMap.Entries.{below_all}
use Rattle.std.specs.List.{AllByRecursion}
use Rattle.std.specs.List.Sorted.{IsStrictlySortedBy}
use Rattle.std.specs.Map.{keys_of, lookup}
use Rattle.std.specs.Option.{option_map, unwrap_or}
use Rattle.std.specs.Ordering.{nat_cmp, is_eq, is_lt, eq_by_cmp}
use Rattle.std.specs.Cmp.{eq_by_cmp_equiv}
use Rattle.std.proofs.lemmas.Cmp.{nat_list_cmp_total, tied_itself}
use Rattle.std.proofs.lemmas.Bool.{cases_eq, false≢true}
use Rattle.std.proofs.lemmas.List.{length-map}
use Rattle.std.proofs.lemmas.Option.{same_Some}
use Rattle.lw_base.specs.declared.numbers.DocId.{DocId}
use Rattle.lw_docs.specs.declared.doc.Doc.{Doc}
use Rattle.lw_docs.specs.Documents.{Numbered, AreNumbered, IsAt, numbered, changed}
use Rattle.lw_docs.specs.Table.{Slots, Numbers, doc_in, entry_in, held_in, AreNamed}
use Rattle.lw_docs.proofs.Spares.{SameBut}

abbrev pub address_cmp : List ℕ → List ℕ → Ordering
address_cmp = slice_cmp nat_cmp

pub same_address : IsAntisymmetric address_cmp
same_address = slice_cmp-IsAntisymmetric nat_cmp-IsAntisymmetric

-- ---- the entries are in order

is_less : (r : Ordering) → r ≡ Less → T (is_lt r)
is_less Less e = tt
is_less Equal e = cc
is_less Greater e = cc

both : (a b : Bool) → T a → T b → T (a && b)
both true b p q = q
both false b p q = p

below : (slots : Slots) (k : List ℕ) (es : List (List ℕ × DocId)) → AllByRecursion (λ y. address_cmp k y ≡ Less) (keys_of es) → T (below_all address_cmp k (map (entry_in slots) es))
below slots k [] h = tt
below slots k (e ∷ es) h = both _ _ (is_less _ h.0) (below slots k es h.1)

sorted : (slots : Slots) (es : List (List ℕ × DocId)) → IsStrictlySortedBy address_cmp (keys_of es) → T (is_sorted address_cmp (map (entry_in slots) es))
unfolding IsStrictlySortedBy
sorted slots [] h = tt
sorted slots (e ∷ es) h = both _ _ (below slots e.0 es h.0) (sorted slots es h.1)

-- what stands at an address, by the number there
abbrev pub held_at : Slots → Option DocId → Option Numbered
held_at slots = option_map (λ d. numbered d (unwrap_or (doc_in slots d.0) (changed [] [] None false)))

find_lookup : (slots : Slots) (q : List ℕ) (es : List (List ℕ × DocId)) → find address_cmp q (map (entry_in slots) es) ≡ held_at slots (lookup (is_at (address_cmp q)) es)
find_lookup slots q [] = refl
find_lookup slots q (e ∷ es) = by (eq_by_cmp address_cmp q e.0) (find_lookup slots q es)
  where
    by : (b : Bool) → find address_cmp q (map (entry_in slots) es) ≡ held_at slots (lookup (is_at (address_cmp q)) es) →
        cond b (Some (entry_in slots e).1) (find address_cmp q (map (entry_in slots) es)) ≡ held_at slots (cond b (Some e.1) (lookup (is_at (address_cmp q)) es))
    by true others = refl
    by false others = others

module _ (slots : Slots) (numbers : Numbers) (ordered : IsOrdered address_cmp numbers) where
  pub held_entries : entries (held_in slots numbers) ≡ map (entry_in slots) numbers.entries
  held_entries = entries-from_sorted address_cmp (map (entry_in slots) numbers.entries) (sorted slots numbers.entries ordered)

  pub held_get : (q : List ℕ) → get (held_in slots numbers) q ≡ held_at slots (tree.get address_cmp numbers q)
  held_get q = get-from_sorted address_cmp (map (entry_in slots) numbers.entries) q (sorted slots numbers.entries ordered) ∙ find_lookup slots q numbers.entries

  pub held_len : len (held_in slots numbers) ≡ length numbers.entries
  held_len = len-entries (held_in slots numbers) ∙ ap length held_entries ∙ length-map numbers.entries (entry_in slots)

-- the number at an address
back : (slots : Slots) (o : Option DocId) → o ≡ option_map (λ (h : Numbered). h.number) (held_at slots o)
back slots None = refl
back slots (Some d) = refl

pub number_at : (slots : Slots) (numbers : Numbers) → IsOrdered address_cmp numbers → (q : List ℕ) →
    tree.get address_cmp numbers q ≡ option_map (λ (h : Numbered). h.number) (get (held_in slots numbers) q)
number_at slots numbers ordered q = back slots (tree.get address_cmp numbers q) ∙ ap (option_map (λ (h : Numbered). h.number)) (sym (held_get slots numbers ordered q))

pub none_at : (slots : Slots) (numbers : Numbers) → IsOrdered address_cmp numbers → (q : List ℕ) → get (held_in slots numbers) q ≡ None → tree.get address_cmp numbers q ≡ None
none_at slots numbers ordered q none = number_at slots numbers ordered q ∙ ap (option_map (λ (h : Numbered). h.number)) none

-- the addresses with their numbers
numbers_back : (slots : Slots) (es : List (List ℕ × DocId)) → es ≡ map (λ (e : List ℕ × Numbered). (e.0, e.1.number)) (map (entry_in slots) es)
numbers_back slots [] = refl
numbers_back slots (e ∷ es) = ap (λ l. e ∷ l) (numbers_back slots es)

pub uris_are : (slots : Slots) (numbers : Numbers) → IsOrdered address_cmp numbers →
    numbers.entries ≡ map (λ (e : List ℕ × Numbered). (e.0, e.1.number)) (entries (held_in slots numbers))
uris_are slots numbers ordered = numbers_back slots numbers.entries ∙ ap (map (λ (e : List ℕ × Numbered). (e.0, e.1.number))) (sym (held_entries slots numbers ordered))

pub none_held : (slots : Slots) (numbers : Numbers) → IsOrdered address_cmp numbers → numbers.entries ≡ [] → held_in slots numbers ≡ all.empty
none_held slots numbers ordered none = empty_of_len (held_in slots numbers) (held_len slots numbers ordered ∙ ap length none)

is_Equal : (r : Ordering) → is_eq r ≡ true → r ≡ Equal
is_Equal Less e = absurd (false≢true e)
is_Equal Equal e = refl
is_Equal Greater e = absurd (false≢true e)

pub tied : (a b : List ℕ) → eq_by_cmp address_cmp a b ≡ true → a ≡ b
tied a b e = same_address a b (is_Equal _ e)

pub tied_with : (a b : List ℕ) → a ≡ b → eq_by_cmp address_cmp a b ≡ true
tied_with a b e = ap (λ c. is_eq (address_cmp a c)) (sym e) ∙ ap is_eq (tied_itself nat_list_cmp_total a)

turned_round : (a b : List ℕ) → eq_by_cmp address_cmp a b ≡ eq_by_cmp address_cmp b a
turned_round a b = (eq_by_cmp_equiv nat_list_cmp_total).symm a b

pub no_doc : (x : Doc) → None ≡ Some x → ⊥
no_doc x e = cc

pub no_number : (d : DocId) → None ≡ Some d → ⊥
no_number d e = cc

no_held : (h : Numbered) → None ≡ Some h → ⊥
no_held h e = cc

-- ---- what is held, and what the table has

module _ (slots : Slots) (numbers : Numbers) (names : AreNamed slots numbers) where
  at_number : (address : List ℕ) (d : DocId) (x : Doc) → tree.get address_cmp numbers address ≡ Some d → doc_in slots d.0 ≡ Some x → get (held_in slots numbers) address ≡ Some (numbered d x)
  at_number address d x is there =
      held_get slots numbers names.ordered address ∙ ap (held_at slots) is ∙ ap (λ o. Some (numbered d (unwrap_or o (changed [] [] None false)))) there

  -- a document of the table is held at its address
  pub stands_at : (d : DocId) (x : Doc) → doc_in slots d.0 ≡ Some x → IsAt (held_in slots numbers) d x
  stands_at d x is = at_number x.uri d x (names.held d x is) is

  -- what is held at an address stands in the table
  pub in_table : (address : List ℕ) (h : Numbered) → get (held_in slots numbers) address ≡ Some h → (doc_in slots h.number.0 ≡ Some h.doc) × (h.doc.uri ≡ address)
  in_table address h is = by (tree.get address_cmp numbers address) refl
    where
      by : (o : Option DocId) → tree.get address_cmp numbers address ≡ o → (doc_in slots h.number.0 ≡ Some h.doc) × (h.doc.uri ≡ address)
      by None none = absurd (no_held h (sym (held_get slots numbers names.ordered address ∙ ap (held_at slots) none) ∙ is))
      by (Some d) some =
          let x = names.named address d some in
          let same : numbered d x.0 ≡ h = same_Some (numbered d x.0) h (sym (at_number address d x.0 some x.1) ∙ is) in
          (subst (λ (k : Numbered). doc_in slots k.number.0 ≡ Some k.doc) same x.1, ap (λ (k : Numbered). k.doc.uri) (sym same) ∙ x.2)

  -- a document that has a number stands under it
  pub doc_of : (d : DocId) (x : Doc) → IsAt (held_in slots numbers) d x → doc_in slots d.0 ≡ Some x
  doc_of d x is = (in_table x.uri (numbered d x) is).0

  pub are_numbered : AreNumbered (held_in slots numbers)
  are_numbered = record {
    addresses = λ address h is. (in_table address h is).1;
    apart = λ address other a b is was same.
        let p = in_table address a is in
        let q = in_table other b was in
        let docs : a.doc ≡ b.doc = same_Some a.doc b.doc (sym p.0 ∙ ap (λ (d : DocId). doc_in slots d.0) same ∙ q.0) in
        sym p.1 ∙ ap (λ (x : Doc). x.uri) docs ∙ q.1;
  }

-- ---- the document of one number comes, goes or turns

module _ (slots after : Slots) (numbers later : Numbers) (names : AreNamed slots numbers) (d : DocId) (uri : List ℕ) (o : Option Doc)
    (same : SameBut d.0 slots after) (now : doc_in after d.0 ≡ o) (new_uri : (y : Doc) → o ≡ Some y → y.uri ≡ uri)
    (old_uri : (x : Doc) → doc_in slots d.0 ≡ Some x → x.uri ≡ uri) (old_number : (e : DocId) → tree.get address_cmp numbers uri ≡ Some e → e ≡ d)
    (ordered : IsOrdered address_cmp later)
    (at : (q : List ℕ) → tree.get address_cmp later q ≡ cond (eq_by_cmp address_cmp uri q) (option_map (λ (_ : Doc). d) o) (tree.get address_cmp numbers q)) where
  at_uri : (q : List ℕ) → eq_by_cmp address_cmp uri q ≡ true → tree.get address_cmp later q ≡ option_map (λ (_ : Doc). d) o
  at_uri q e = at q ∙ ap (λ b. cond b (option_map (λ (_ : Doc). d) o) (tree.get address_cmp numbers q)) e

  at_other : (q : List ℕ) → eq_by_cmp address_cmp uri q ≡ false → tree.get address_cmp later q ≡ tree.get address_cmp numbers q
  at_other q e = at q ∙ ap (λ b. cond b (option_map (λ (_ : Doc). d) o) (tree.get address_cmp numbers q)) e

  -- what stands at another address has another number
  other_number : (q : List ℕ) (e : DocId) → eq_by_cmp address_cmp uri q ≡ false → tree.get address_cmp numbers q ≡ Some e → e.0 ≢ d.0
  other_number q e apart is number =
      let x = names.named q e is in
      false≢true (sym apart ∙ tied_with uri q (sym (old_uri x.0 (sym (ap (doc_in slots) number) ∙ x.1)) ∙ x.2))

  known : (p : Option Doc) (e : DocId) → option_map (λ (_ : Doc). d) p ≡ Some e → (y : Doc) × (p ≡ Some y) × (d ≡ e)
  known None e is = absurd (no_number e is)
  known (Some y) e is = (y, refl, same_Some d e is)

  named_now : (q : List ℕ) (e : DocId) → tree.get address_cmp later q ≡ Some e → (b : Bool) → eq_by_cmp address_cmp uri q ≡ b →
      (x : Doc) × (doc_in after e.0 ≡ Some x) × (x.uri ≡ q)
  named_now q e is true here =
      let y = known o e (sym (at_uri q here) ∙ is) in
      (y.0, ap (λ (k : DocId). doc_in after k.0) (sym y.2) ∙ now ∙ y.1, new_uri y.0 y.1 ∙ tied uri q here)
  named_now q e is false away =
      let was : tree.get address_cmp numbers q ≡ Some e = sym (at_other q away) ∙ is in
      let x = names.named q e was in
      (x.0, same e.0 (other_number q e away was) ∙ x.1, x.2)

  held_now : (e : DocId) (x : Doc) → doc_in after e.0 ≡ Some x → (e.0 ≡ d.0) ⊎ (e.0 ≡ d.0 → ⊥) → tree.get address_cmp later x.uri ≡ Some e
  held_now e x is (inl own) =
      let some : o ≡ Some x = sym now ∙ ap (doc_in after) (sym own) ∙ is in
      let number : d ≡ e = λ i. record { 0 = sym own i } in
      at_uri x.uri (tied_with uri x.uri (sym (new_uri x some))) ∙ ap (option_map (λ (_ : Doc). d)) some ∙ ap (λ (k : DocId). Some k) number
  held_now e x is (inr other) =
      let was : tree.get address_cmp numbers x.uri ≡ Some e = names.held e x (sym (same e.0 other) ∙ is) in
      by (eq_by_cmp address_cmp uri x.uri) refl was
    where
      by : (b : Bool) → eq_by_cmp address_cmp uri x.uri ≡ b → tree.get address_cmp numbers x.uri ≡ Some e → tree.get address_cmp later x.uri ≡ Some e
      by true here was = absurd (other (ap (λ (k : DocId). k.0) (old_number e (ap (tree.get address_cmp numbers) (tied uri x.uri here) ∙ was))))
      by false away was = at_other x.uri away ∙ was

  pub named_after : AreNamed after later
  named_after = record {
    ordered = ordered;
    named = λ q e is. named_now q e is (eq_by_cmp address_cmp uri q) refl;
    held = λ e x is. held_now e x is (cases_eq e.0 d.0);
  }

  seen : (p : Option Doc) → doc_in after d.0 ≡ p → held_at after (option_map (λ (_ : Doc). d) p) ≡ option_map (numbered d) p
  seen None is = refl
  seen (Some y) is = ap (λ p. Some (numbered d (unwrap_or p (changed [] [] None false)))) is

  pub held_after : (q : List ℕ) → get (held_in after later) q ≡ cond (eq_by_cmp address_cmp q uri) (option_map (numbered d) o) (get (held_in slots numbers) q)
  held_after q = held_get after later ordered q ∙ by (eq_by_cmp address_cmp uri q) refl ∙ ap (λ b. cond b (option_map (numbered d) o) (get (held_in slots numbers) q)) (turned_round uri q)
    where
      others : (p : Option DocId) → eq_by_cmp address_cmp uri q ≡ false → tree.get address_cmp numbers q ≡ p → held_at after p ≡ held_at slots p
      others None away is = refl
      others (Some e) away is = ap (λ p. Some (numbered e (unwrap_or p (changed [] [] None false)))) (same e.0 (other_number q e away is))

      by : (b : Bool) → eq_by_cmp address_cmp uri q ≡ b → held_at after (tree.get address_cmp later q) ≡ cond b (option_map (numbered d) o) (get (held_in slots numbers) q)
      by true here = ap (held_at after) (at_uri q here) ∙ seen o now
      by false away =
          ap (held_at after) (at_other q away) ∙ others (tree.get address_cmp numbers q) away refl ∙ sym (held_get slots numbers names.ordered q)

  pub came : (y : Doc) → o ≡ Some y → held_in after later ≡ all.insert (held_in slots numbers) uri (numbered d y)
  came y is = same_map nat_list_cmp_total same_address _ _ (λ q. held_after q
      ∙ ap (λ p. cond (eq_by_cmp address_cmp q uri) (option_map (numbered d) p) (get (held_in slots numbers) q)) is
      ∙ sym (get-insert nat_list_cmp_total (held_in slots numbers) uri (numbered d y) q))

  pub went : o ≡ None → held_in after later ≡ all.remove (held_in slots numbers) uri
  went is = same_map nat_list_cmp_total same_address _ _ (λ q. held_after q
      ∙ ap (λ p. cond (eq_by_cmp address_cmp q uri) (option_map (numbered d) p) (get (held_in slots numbers) q)) is
      ∙ sym (get-remove nat_list_cmp_total (held_in slots numbers) uri q))

-- ---- a document turns at its address

module _ (slots after : Slots) (numbers : Numbers) (names : AreNamed slots numbers) (d : DocId) (x y : Doc) (was : doc_in slots d.0 ≡ Some x)
    (uri : y.uri ≡ x.uri) (same : SameBut d.0 slots after) (now : doc_in after d.0 ≡ Some y) where
  own_uri : (z w : Doc) → Some z ≡ Some w → w.uri ≡ z.uri
  own_uri z w e = ap (λ (v : Doc). v.uri) (sym (same_Some z w e))

  own_number : (e : DocId) → tree.get address_cmp numbers x.uri ≡ Some e → e ≡ d
  own_number e is = same_Some e d (sym is ∙ names.held d x was)

  stays : (q : List ℕ) → tree.get address_cmp numbers q ≡ cond (eq_by_cmp address_cmp x.uri q) (Some d) (tree.get address_cmp numbers q)
  stays q = by (eq_by_cmp address_cmp x.uri q) refl
    where
      by : (b : Bool) → eq_by_cmp address_cmp x.uri q ≡ b → tree.get address_cmp numbers q ≡ cond b (Some d) (tree.get address_cmp numbers q)
      by true here = ap (tree.get address_cmp numbers) (sym (tied x.uri q here)) ∙ names.held d x was
      by false away = refl

  pub turned_named : AreNamed after numbers
  turned_named = named_after slots after numbers numbers names d x.uri (Some y) same now (λ z e. own_uri y z e ∙ uri) (λ z e. own_uri x z (sym was ∙ e)) own_number names.ordered stays

  pub turned_held : held_in after numbers ≡ all.insert (held_in slots numbers) x.uri (numbered d y)
  turned_held = came slots after numbers numbers names d x.uri (Some y) same now (λ z e. own_uri y z e ∙ uri) (λ z e. own_uri x z (sym was ∙ e)) own_number names.ordered stays y refl

-- the same documents are held where the table has the same
pub held_alike : (slots after : Slots) (numbers : Numbers) → IsOrdered address_cmp numbers → ((n : ℕ) → doc_in after n ≡ doc_in slots n) → held_in after numbers ≡ held_in slots numbers
held_alike slots after numbers ordered same = same_map nat_list_cmp_total same_address _ _ (λ q.
    held_get after numbers ordered q ∙ by (tree.get address_cmp numbers q) ∙ sym (held_get slots numbers ordered q))
  where
    by : (o : Option DocId) → held_at after o ≡ held_at slots o
    by None = refl
    by (Some e) = ap (λ p. Some (numbered e (unwrap_or p (changed [] [] None false)))) (same e.0)

pub named_alike : (slots after : Slots) (numbers : Numbers) → AreNamed slots numbers → ((n : ℕ) → doc_in after n ≡ doc_in slots n) → AreNamed after numbers
named_alike slots after numbers names same = record {
  ordered = names.ordered;
  named = λ q e is. let x = names.named q e is in (x.0, same e.0 ∙ x.1, x.2);
  held = λ e x is. names.held e x (sym (same e.0) ∙ is);
}
