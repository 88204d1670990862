-- What a workspace stands for while its documents are put, and that there is room for each of them.
use Rattle.std.proofs.Common.{◌≡◌, ℕ, ◌+◌, ◌<◌, ◌≤◌, List, length, Bool, true, false, Option, Some, None, Ok, Err, option_map, refl, sym, ap, ◌∙◌, subst, subst₂, arith}
use Rattle.std.specs.FinMap.{empty, entries, get, get-empty, len, len-entries}
use Rattle.std.proofs.lemmas.List.{length-map}
use Rattle.std.proofs.lemmas.Option.{none-some, same_Some}
use Rattle.lw_base.specs.declared.limits.TheConstants.{LONGEST_TEXT}
use Rattle.lw_docs.specs.Documents.{ByAddress, Numbered}
use Rattle.lw_base.specs.declared.limits.TheConstants.{MOST_DOCUMENTS}
use Rattle.lw_machine.specs.Documents.{Documents, present_texts}
use Rattle.lw_machine.specs.Events.{put}
use Rattle.lw_machine.proofs.Places.{order, same_documents}
use Rattle.lw_build.specs.Agreeing.{Agrees, known, known_here}
use Rattle.lw_build.specs.Faults as fault
use Rattle.lw_build.specs.Faults.{HasNoRoom, IsEditFault, IsPutFault, bad_range, no_document, no_memory, too_long, too_many}
use Rattle.lw_build.specs.declared.fault.WorkFault.{WorkFault}
use Rattle.lw_build.specs.declared.fault.WorkFault.TheVariants.{NoMemory}
use Rattle.lw_build.specs.View.{WorkspaceView, documents, documents_of}
use Rattle.lw_build.proofs.Documents.{alike_entries, document_of, entries_documents, get_document, present_here}
use Rattle.lw_make.specs.Made.{made_address, made_text}
use Rattle.lw_text.specs.Changes.{Changes}
use Rattle.lw_text.specs.declared.change.Change.{Change}
use Rattle.lw_text.specs.declared.change.EditFault.{EditFault}
use Rattle.lw_text.specs.declared.change.EditFault.TheVariants as edit
use Rattle.lw_text.specs.declared.units.Encoding.TheVariants.{Utf16}
use Rattle.lw_text.proofs.Outcomes.{Changes-only}
use Rattle.lw_make.proofs.Putting.{made, made_len, made_more}

-- a workspace of no documents stands for none
pub none_documents : (is_built : Bool) (kept : ByAddress) → kept ≡ empty → documents_of is_built kept ≡ empty
none_documents is_built kept none =
    same_documents (documents_of is_built kept) empty
    (λ a. get_document is_built kept a ∙ ap (λ (k : ByAddress). option_map (document_of is_built) (get k a)) none
    ∙ ap (option_map (document_of is_built)) (get-empty order a) ∙ sym (get-empty order a))

-- it has as many documents as it stands for
known_of : (is_built : Bool) (o : Option Numbered) → option_map known (option_map (document_of is_built) o) ≡ option_map known_here o
known_of is_built None = refl
known_of true (Some held) = refl
known_of false (Some held) = refl

same_count : (v : WorkspaceView) (m : Documents) → Agrees v m → len m ≡ len v.kept
same_count v m agrees =
    len-entries m
    ∙ sym (length-map (entries m) (λ e. (e.0, known e.1)))
    ∙ ap length (alike_entries known m (documents v)
    (λ a. agrees.same a ∙ sym (ap (option_map known) (get_document v.is_built v.kept a) ∙ known_of v.is_built (get v.kept a))))
    ∙ length-map (entries (documents v)) (λ e. (e.0, known e.1))
    ∙ ap length (entries_documents v.is_built v.kept)
    ∙ length-map (entries v.kept) (λ e. (e.0, document_of v.is_built e.1))
    ∙ sym (len-entries v.kept)

pub has_room : (v : WorkspaceView) (count n : ℕ) (address : List ℕ) → n < MOST_DOCUMENTS → Agrees v (made count n) → ¬ HasNoRoom v address
has_room v count n address few agrees full = omega (arith, few, full.1, same_count v (made count n) agrees, made_len count n)

-- one document more is put
pub stands_more : (v w : WorkspaceView) (count n : ℕ) (address text : List ℕ) → address ≡ made_address n → text ≡ made_text n count →
    ((m : Documents) → Agrees v m → Agrees w (put m address text None false)) → Agrees v (made count n) → Agrees w (made count (n + 1))
stands_more v w count n address text at is puts stands =
    subst (Agrees w) (sym (made_more count n))
    (subst₂ (λ (a : List ℕ) (t : List ℕ). Agrees w (put (made count n) a t None false)) at is (puts (made count n) stands))

-- nothing but want of memory keeps one from being put
pub put_refused : (v : WorkspaceView) (count n : ℕ) (address text : List ℕ) (fault : WorkFault) → n < MOST_DOCUMENTS → Agrees v (made count n) →
    length text ≤ LONGEST_TEXT → IsPutFault v address text fault → fault ≡ NoMemory
put_refused v count n address text fault few stands fits (too_long long) = absurd (omega (arith, fits, long))
put_refused v count n address text fault few stands fits (too_many short full) = absurd (has_room v count n address few stands full)
put_refused v count n address text fault few stands fits no_memory = refl

-- nor one from being edited
held_so : (o : Option Numbered) (held : Numbered) (text : List ℕ) → o ≡ Some held → option_map (λ (h : Numbered). h.doc.text) o ≡ Some text → held.doc.text ≡ text
held_so o held text at is = same_Some held.doc.text text (sym (ap (option_map (λ (h : Numbered). h.doc.text)) at) ∙ is)

not_refused : (text new : List ℕ) (changes : List Change) (fault : EditFault) → Changes Utf16 text changes (Ok new) → Changes Utf16 text changes (Err fault) → ⊥
not_refused text new changes fault can cannot = let e = Changes-only Utf16 text changes (Ok new) (Err fault) can cannot in absurd (let same = e in cc)

module _ (v : WorkspaceView) (address text new : List ℕ) (changes : List Change) (there : present_texts (documents v) address ≡ Some text)
    (can : Changes Utf16 text changes (Ok new)) where
  here : option_map (λ (h : Numbered). h.doc.text) (get v.kept address) ≡ Some text
  here = sym (present_here v.is_built v.kept address) ∙ there

  pub edit_refused : (cause : WorkFault) → IsEditFault v address changes cause → cause ≡ NoMemory
  edit_refused cause (no_document none) = absurd (none-some text (sym (ap (option_map (λ (h : Numbered). h.doc.text)) none) ∙ here))
  edit_refused cause (bad_range {held = held} {number = number} at cannot) =
      absurd (not_refused text new changes (edit.BadRange number) can
      (subst (λ (t : List ℕ). Changes Utf16 t changes (Err (edit.BadRange number))) (held_so (get v.kept address) held text at here) cannot))
  edit_refused cause (fault.too_long {held = held} {size = size} at cannot) =
      absurd (not_refused text new changes (edit.TooLong size) can
      (subst (λ (t : List ℕ). Changes Utf16 t changes (Err (edit.TooLong size))) (held_so (get v.kept address) held text at here) cannot))
  edit_refused cause fault.no_memory = refl
