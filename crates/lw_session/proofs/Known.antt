-- What is known of the documents that a workspace stands for, by what it keeps.
use Rattle.std.proofs.Common.{◌≡◌, ℕ, ℤ, List, [], ◌∷◌, map, length, Bool, true, false, cond, ◌&&◌, if◌then◌else◌, T, Option, Some, None, is_some, is_lt, is_eq, option_map, refl, sym, ap, ap₂, ◌∙◌, subst}
use Rattle.std.proofs.lemmas.List.{length-map}
use Rattle.std.proofs.lemmas.Option.{none-some, same_Some}
use Rattle.std.specs.Cmp.Lexicographic.{nat_list_cmp_total}
use Rattle.std.specs.FinMap.{FinMap, from_sorted, same_map, slice_cmp-IsAntisymmetric, nat_cmp-IsAntisymmetric, get, get-empty, get-entries, get-from_sorted, find, empty, len, len-entries, entries, entries_sorted, entries-from_sorted, is_sorted, contains_key}
use Rattle.std.specs.FinMap.Entries.{below_all}
use Rattle.lw_docs.specs.Documents.{ByAddress, Numbered}
use Rattle.lw_build.specs.Agreeing.{Agrees, Known, known, known_here}
use Rattle.lw_build.specs.View.{WorkspaceView, documents_of, built_document, cleared_document}
use Rattle.lw_conversation.specs.Editing.{IsOpenAt, IsUnknown}
use Rattle.lw_machine.specs.Documents.{Document, Documents}
use Rattle.lw_machine.specs.Validity.{content, HaveSameContent}
use Rattle.lw_machine.proofs.Places.{order, same_documents}

module _ {A B : Type 0} (f : A → B) where
  below_turned : (a : List ℕ) (es : List (List ℕ × A)) → below_all order a (map (λ e. (e.0, f e.1)) es) ≡ below_all order a es
  below_turned a [] = refl
  below_turned a (e ∷ es) = ap (λ b. is_lt (order a e.0) && b) (below_turned a es)

  sorted_turned : (es : List (List ℕ × A)) → is_sorted order (map (λ e. (e.0, f e.1)) es) ≡ is_sorted order es
  sorted_turned [] = refl
  sorted_turned (e ∷ es) = ap₂ (λ a b. a && b) (below_turned e.0 es) (sorted_turned es)

  find_turned : (a : List ℕ) (es : List (List ℕ × A)) → find order a (map (λ e. (e.0, f e.1)) es) ≡ option_map f (find order a es)
  find_turned a [] = refl
  find_turned a (e ∷ es) = by (is_eq (order a e.0)) (find_turned a es)
    where
      by : (b : Bool) → find order a (map (λ e. (e.0, f e.1)) es) ≡ option_map f (find order a es) →
          cond b (Some (f e.1)) (find order a (map (λ e. (e.0, f e.1)) es)) ≡ option_map f (cond b (Some e.1) (find order a es))
      by true rest = refl
      by false rest = rest

  -- what is held at each address, turned
  abbrev pub turned : FinMap order A → FinMap order B
  turned all = from_sorted (map (λ e. (e.0, f e.1)) (entries all))

  are_sorted : (all : FinMap order A) → T (is_sorted order (map (λ e. (e.0, f e.1)) (entries all)))
  are_sorted all = subst T (sym (sorted_turned (entries all))) (entries_sorted all)

  pub get_turned : (all : FinMap order A) (address : List ℕ) → get (turned all) address ≡ option_map f (get all address)
  get_turned all address =
      get-from_sorted order (map (λ e. (e.0, f e.1)) (entries all)) address (are_sorted all)
      ∙ find_turned address (entries all)
      ∙ ap (option_map f) (sym (get-entries all address))

  pub len_turned : (all : FinMap order A) → len (turned all) ≡ len all
  len_turned all =
      len-entries (turned all)
      ∙ ap length (entries-from_sorted order (map (λ e. (e.0, f e.1)) (entries all)) (are_sorted all))
      ∙ length-map (entries all) (λ e. (e.0, f e.1))
      ∙ sym (len-entries all)

-- the document that stands for one that is kept
abbrev pub turn : Bool → Numbered → Document
turn is_built held = if is_built then built_document held.doc else cleared_document held.doc

pub same_get : (is_built : Bool) (kept : ByAddress) (address : List ℕ) → get (documents_of is_built kept) address ≡ option_map (turn is_built) (get kept address)
unfolding documents_of
same_get is_built kept address = get_turned (turn is_built) kept address

pub none_kept : (is_built : Bool) → documents_of is_built empty ≡ empty
none_kept is_built =
    same_documents (documents_of is_built empty) empty
    (λ address. same_get is_built empty address ∙ ap (option_map (turn is_built)) (get-empty order address) ∙ sym (get-empty order address))

is_some_map : {A B : Type 0} (f : A → B) (o : Option A) → is_some (option_map f o) ≡ is_some o
is_some_map f None = refl
is_some_map f (Some x) = refl

module _ (v : WorkspaceView) (m : Documents) (agrees : Agrees v m) where
  -- there are as many as are kept
  pub same_len : len m ≡ len v.kept
  same_len =
      sym (len_turned known m)
      ∙ ap len
      (same_map nat_list_cmp_total (slice_cmp-IsAntisymmetric nat_cmp-IsAntisymmetric) (turned known m) (turned known_here v.kept)
      (λ a. get_turned known m a ∙ agrees.same a ∙ sym (get_turned known_here v.kept a)))
      ∙ len_turned known_here v.kept

module _ (v : WorkspaceView) (m : Documents) (agrees : Agrees v m) (address : List ℕ) where
  pub same_contains : contains_key m address ≡ contains_key v.kept address
  same_contains = sym (is_some_map known (get m address)) ∙ ap is_some (agrees.same address) ∙ is_some_map known_here (get v.kept address)

  -- what is kept is held, and what is held is kept
  pub is_held : (held : Numbered) → get v.kept address ≡ Some held → (d : Document) × (get m address ≡ Some d) × (known d ≡ known_here held)
  is_held held at = by (get m address) refl (agrees.same address ∙ ap (option_map known_here) at)
    where
      by : (o : Option Document) → get m address ≡ o → option_map known o ≡ Some (known_here held) → (d : Document) × (get m address ≡ Some d) × (known d ≡ known_here held)
      by None is same = absurd (none-some (known_here held) same)
      by (Some d) is same = (d, is, same_Some (known d) (known_here held) same)

  pub is_kept : (d : Document) → get m address ≡ Some d → (held : Numbered) × (get v.kept address ≡ Some held) × (known d ≡ known_here held)
  is_kept d at = by (get v.kept address) refl (sym (agrees.same address) ∙ ap (option_map known) at)
    where
      by : (o : Option Numbered) → get v.kept address ≡ o → option_map known_here o ≡ Some (known d) → (held : Numbered) × (get v.kept address ≡ Some held) ×
          (known d ≡ known_here held)
      by None is same = absurd (none-some (known d) same)
      by (Some held) is same = (held, is, sym (same_Some (known_here held) (known d) same))

  pub is_absent : get v.kept address ≡ None → get m address ≡ None
  is_absent none = by (get m address) refl (agrees.same address ∙ ap (option_map known_here) none)
    where
      by : (o : Option Document) → get m address ≡ o → option_map known o ≡ None → get m address ≡ None
      by None is same = is
      by (Some d) is same = absurd (none-some (known d) (sym same))

  -- which one an editor has open
  pub is_open : (held : Numbered) → get v.kept address ≡ Some held → held.doc.is_open ≡ true → (d : Document) × IsOpenAt m address d
  is_open held at on = let found = is_held held at in (found.0, record { held = found.1; is_open = ap (λ (k : Known). k.is_open) found.2 ∙ on })

  pub none_open : ¬ ((held : Numbered) × (get v.kept address ≡ Some held) × (held.doc.is_open ≡ true)) → IsUnknown m address
  none_open none d at =
      let found = is_kept d at in
      by d.is_open refl (λ on. none (found.0, found.1, ap (λ (k : Known). k.is_open) (sym found.2) ∙ on))
    where
      by : (b : Bool) → d.is_open ≡ b → ¬ (d.is_open ≡ true) → d.is_open ≡ false
      by true is not_open = absurd (not_open is)
      by false is not_open = is

-- documents that one workspace may stand for have the same content
content_known : Known → List ℕ × Option ℤ × Bool
content_known k = (k.text, k.version, k.is_open)

by_known : (o : Option Document) → option_map content o ≡ option_map content_known (option_map known o)
unfolding content_known
by_known None = refl
by_known (Some d) = refl

module _ (v : WorkspaceView) (m n : Documents) (agrees : Agrees v m) (also : Agrees v n) where
  pub same_content : HaveSameContent m n
  same_content address =
      by_known (get n address) ∙ ap (option_map content_known) (also.same address ∙ sym (agrees.same address)) ∙ sym (by_known (get m address))
