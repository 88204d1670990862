-- The documents of the machine that a workspace stands for, at each address, in their order and by their count.
use Rattle.std.proofs.Common.{◌≡◌, ℕ, List, [], ◌∷◌, map, Bool, true, false, cond, ◌&&◌, T, Option, Some, None, nat_cmp, refl, sym, ap, subst, ◌∙◌}
use Rattle.std.specs.Prelude.{if◌then◌else◌, option_map}
use Rattle.std.specs.Cmp.Lexicographic.{slice_cmp}
use Rattle.std.specs.Ordering.{eq_by_cmp, is_lt}
use Rattle.std.specs.FinMap.{FinMap, get, entries, find, from_sorted, is_sorted, entries_sorted, get-entries, get-from_sorted, entries-from_sorted}
use Rattle.std.specs.FinMap.Entries.{below_all}
use Rattle.lw_docs.specs.Documents.{ByAddress, Numbered}
use Rattle.lw_machine.specs.Documents.{Document, present_texts}
use Rattle.lw_machine.proofs.Places.{order}
use Rattle.lw_build.proofs.Maps.{same_at_addresses}
use Rattle.lw_build.specs.Readings.{present_texts_of}
use Rattle.lw_build.specs.View.{built_document, cleared_document, documents_of}

-- what one document is
abbrev pub document_of : Bool → Numbered → Document
document_of is_built held = if is_built then built_document held.doc else cleared_document held.doc

module _ {X Y : Type 0} (f : X → Y) where
  abbrev each : List (List ℕ × X) → List (List ℕ × Y)
  each = map (λ e. (e.0, f e.1))

  below_alike : (a : List ℕ) (es : List (List ℕ × X)) → below_all order a (each es) ≡ below_all order a es
  below_alike a [] = refl
  below_alike a (e ∷ es) = ap (λ b. is_lt (order a e.0) && b) (below_alike a es)

  sorted_alike : (es : List (List ℕ × X)) → is_sorted order (each es) ≡ is_sorted order es
  sorted_alike [] = refl
  sorted_alike (e ∷ es) = ap (λ b. b && is_sorted order (each es)) (below_alike e.0 es) ∙ ap (λ b. below_all order e.0 es && b) (sorted_alike es)

  find_each : (a : List ℕ) (es : List (List ℕ × X)) → find order a (each es) ≡ option_map f (find order a es)
  find_each a [] = refl
  find_each a (e ∷ es) = by (eq_by_cmp order a e.0) (find_each a es)
    where
      by : (b : Bool) → find order a (each es) ≡ option_map f (find order a es) →
          cond b (Some (f e.1)) (find order a (each es)) ≡ option_map f (cond b (Some e.1) (find order a es))
      by true rest = refl
      by false rest = rest

  module _ (m : FinMap (slice_cmp nat_cmp) X) where
    in_order : T (is_sorted order (each (entries m)))
    in_order = subst T (sym (sorted_alike (entries m))) (entries_sorted m)

    get_each : (a : List ℕ) → get (from_sorted {R = order} (each (entries m))) a ≡ option_map f (get m a)
    get_each a = get-from_sorted order (each (entries m)) a in_order ∙ find_each a (entries m) ∙ ap (option_map f) (sym (get-entries m a))

    entries_each : entries (from_sorted {R = order} (each (entries m))) ≡ each (entries m)
    entries_each = entries-from_sorted order (each (entries m)) in_order

-- at each address
pub get_document : (is_built : Bool) (kept : ByAddress) (address : List ℕ) →
    get (documents_of is_built kept) address ≡ option_map (document_of is_built) (get kept address)
unfolding documents_of
get_document is_built kept = get_each (document_of is_built) kept

-- in their order
pub entries_documents : (is_built : Bool) (kept : ByAddress) → entries (documents_of is_built kept) ≡ map (λ e. (e.0, document_of is_built e.1)) (entries kept)
unfolding documents_of
entries_documents is_built kept = entries_each (document_of is_built) kept

-- ---- at one address

pub present_here : (is_built : Bool) (kept : ByAddress) (address : List ℕ) → present_texts (documents_of is_built kept) address ≡ present_texts_of kept address
present_here is_built kept address = ap (option_map (λ (d : Document). d.text)) (get_document is_built kept address) ∙ by is_built (get kept address)
  where
    by : (b : Bool) (o : Option Numbered) → option_map (λ (d : Document). d.text) (option_map (document_of b) o) ≡ option_map (λ (h : Numbered). h.doc.text) o
    by b None = refl
    by true (Some held) = refl
    by false (Some held) = refl

pub document_here : (is_built : Bool) (kept : ByAddress) (address : List ℕ) (held : Numbered) → get kept address ≡ Some held →
    get (documents_of is_built kept) address ≡ Some (document_of is_built held)
document_here is_built kept address held is = get_document is_built kept address ∙ ap (option_map (document_of is_built)) is

-- what is held there is one of the workspace's
pub held_here : (is_built : Bool) (kept : ByAddress) (address : List ℕ) (d : Document) → get (documents_of is_built kept) address ≡ Some d →
    (held : Numbered) × (get kept address ≡ Some held) × (document_of is_built held ≡ d)
held_here is_built kept address d is = by (get kept address) refl
  where
    by : (o : Option Numbered) → get kept address ≡ o → (held : Numbered) × (o ≡ Some held) × (document_of is_built held ≡ d)
    by None none = absurd (let e = sym (get_document is_built kept address ∙ ap (option_map (document_of is_built)) none) ∙ is in cc)
    by (Some held) there = (held, refl, let e : Some (document_of is_built held) ≡ Some d = sym (document_here is_built kept address held there) ∙ is in cc)

-- ---- two maps in which the same stands at each address, as it is seen

pub alike_entries : {X Y : Type 0} (f : X → Y) (m n : FinMap (slice_cmp nat_cmp) X) → ((a : List ℕ) → option_map f (get m a) ≡ option_map f (get n a)) →
    map {B = List ℕ × Y} (λ e. (e.0, f e.1)) (entries m) ≡ map {B = List ℕ × Y} (λ e. (e.0, f e.1)) (entries n)
alike_entries {X} {Y} f m n same =
    sym (entries_each f m)
    ∙ ap entries (same_at_addresses (from_sorted {R = order} (each f (entries m))) (from_sorted {R = order} (each f (entries n)))
    (λ a. get_each f m a ∙ same a ∙ sym (get_each f n a)))
    ∙ entries_each f n
