-- What opening and changing a document come to.
use Rattle.std.proofs.Common.{◌≡◌, ℕ, ◌<◌, ◌≤◌, ◌⊎◌, inl, inr, List, [], ◌∷◌, ◌++◌, length, map, Bool, true, false, Option, Some, Ok, Err, codes, decimal, refl, sym, ap, ◌∙◌, subst, true≢false, arith}
use Rattle.std.proofs.lemmas.Bool.{cases_lt}
use Rattle.std.proofs.lemmas.List.Elements.{All-nil}
use Rattle.std.specs.FinMap.{get, insert, len, contains_key}
use Rattle.lw_base.specs.declared.limits.TheConstants.{LONGEST_TEXT}
use Rattle.lw_docs.specs.Documents.{Numbered}
use Rattle.lw_base.specs.declared.limits.TheConstants.{MOST_DOCUMENTS}
use Rattle.lw_text.specs.Changes.{Changes}
use Rattle.lw_text.specs.declared.change.Change.{Change}
use Rattle.lw_text.specs.declared.change.EditFault.{EditFault}
use Rattle.lw_text.specs.declared.change.EditFault.TheVariants as edit
use Rattle.lw_text.specs.declared.units.Encoding.TheVariants.{Utf16}
use Rattle.lw_rpc.specs.declared.message.Id.{Id}
use Rattle.lw_io.specs.Store.{AnswersFile}
use Rattle.lw_rpc.specs.declared.file_change.FileChange.{FileChange}
use Rattle.lw_rpc.specs.declared.message.Message.{Message}
use Rattle.lw_rpc.specs.declared.message.Message.TheVariants.{DidClose, DidChangeWatchedFiles}
use Rattle.lw_rpc.specs.declared.reply.Reply.{Reply}
use Rattle.lw_rpc.specs.declared.reply.Reply.TheVariants.{Log}
use Rattle.lw_build.specs.Agreeing.{Agrees, Known}
use Rattle.lw_build.specs.Faults as faults
use Rattle.lw_build.specs.Faults.{HasNoRoom, IsPutFault, IsEditFault}
use Rattle.lw_build.specs.declared.fault.WorkFault.{WorkFault}
use Rattle.lw_build.specs.declared.fault.WorkFault.TheVariants as work
use Rattle.lw_build.specs.View.{WorkspaceView, documents}
use Rattle.lw_text.specs.declared.place.Pos.{Pos}
use Rattle.lw_machine.specs.Building.{BuildsToEnd}
use Rattle.lw_machine.specs.declared.published.Published.{Published}
use Rattle.lw_machine.specs.Documents.{Document, Documents}
use Rattle.lw_machine.specs.Events.{put}
use Rattle.lw_machine.specs.Events as event
use Rattle.lw_conversation.specs.Answered as answer
use Rattle.lw_conversation.specs.Asking.{RepliesTo}
use Rattle.lw_conversation.specs.Editing as editing
use Rattle.lw_conversation.specs.Editing.{IsOpenAt, IsUnknown}
use Rattle.lw_conversation.specs.Effects.{TakesEffect}
use Rattle.lw_conversation.specs.Effects as effect
use Rattle.lw_conversation.specs.Gate.{Passes, gate}
use Rattle.lw_conversation.specs.Opening as opening
use Rattle.lw_conversation.specs.Opening.{HasRoom, IsFull}
use Rattle.lw_conversation.specs.Publishing.{as_reply}
use Rattle.lw_conversation.specs.Reading as reads
use Rattle.lw_conversation.specs.declared.phase.Phase.{Phase}
use Rattle.lw_session.specs.Answering.{IsAnswered, IsAnsweredBy}
use Rattle.lw_session.specs.Moving.{IsDoneByReads}
use Rattle.lw_session.specs.Lifecycle.{IsLive, opened_message, edited_message, asked_message, question_message, passage_of, telling}
use Rattle.lw_session.specs.declared.lifecycle.Told.{Told}
use Rattle.lw_session.specs.declared.said.Asked.{Asked}
use Rattle.lw_session.specs.declared.said.Edited.{Edited}
use Rattle.lw_session.specs.declared.said.Question.{Question}
use Rattle.lw_session.specs.declared.said.Question.TheVariants as question
use Rattle.lw_session.specs.declared.said.Opened.{Opened}
use Rattle.lw_session.proofs.Known.{same_len, same_contains, is_held, is_kept, none_open}

-- what stops at the gate
pub stops : (v : WorkspaceView) (phase : Phase) (message : Message) (told : Told) → Agrees v (documents v) → gate phase message ≡ passage_of told →
    IsAnswered v v phase message [] told
stops v phase message told agrees is = record { changed = documents v; agrees = agrees; answered = answer.stops is; stays = λ off. refl }

-- what passes it, in a session that is live
module _ (v w : WorkspaceView) (phase : Phase) (live : IsLive phase) (message : Message) (through : gate phase message ≡ Passes) where
  pub effective : (asked : List reads.Asked) (n : Documents) (replies : List Reply) → Agrees w n → TakesEffect v.setting (documents v) message asked n replies →
      IsAnswered v w phase message asked (telling phase replies)
  effective asked n replies agrees effect = record {
    changed = n;
    agrees = agrees;
    answered = answer.passes through effect;
    stays = λ off. absurd (true≢false (sym live.0 ∙ off));
  }

-- what is answered where the store is not asked
pub unasked : (files : Option (List (List ℕ × List ℕ))) (count : ℕ) (v w : WorkspaceView) (phase : Phase) (message : Message) (told : Told) →
    IsAnswered v w phase message [] told → IsAnsweredBy files count count v w phase message told
unasked files count v w phase message told is =
    record { asked = []; answered = is; by_store = All-nil (λ a. AnswersFile files a.path a.answer); counted = refl }

-- and where it is
pub by_reads : (files : Option (List (List ℕ × List ℕ))) (before now : ℕ) (v w : WorkspaceView) (phase : Phase) → IsLive phase → (message : Message) →
    gate phase message ≡ Passes → (Does : Documents → List reads.Asked → Documents → List Reply → Type 0) →
    ((asked : List reads.Asked) (n : Documents) (replies : List Reply) → Does (documents v) asked n replies → TakesEffect v.setting (documents v) message asked n replies) →
    Agrees v (documents v) → (replies : List Reply) → IsDoneByReads files before now v w Does replies → IsAnsweredBy files before now v w phase message (telling phase replies)
by_reads files before now v w phase live message through Does effect agrees replies is =
    let to = is.moves (documents v) agrees in
    record {
      asked = is.asked;
      answered = effective v w phase live message through is.asked to.0 replies to.1 (effect is.asked to.0 replies to.2);
      by_store = is.by_store;
      counted = is.counted;
    }

pub closes : (phase : Phase) → IsLive phase → (address : List ℕ) → gate phase (DidClose address) ≡ Passes
closes phase live address = rw (live.0, live.1) refl

pub watches : (phase : Phase) → IsLive phase → (changes : List FileChange) → gate phase (DidChangeWatchedFiles changes) ≡ Passes
watches phase live changes = rw (live.0, live.1) refl

opens : (phase : Phase) → IsLive phase → (opened : Opened) → gate phase (opened_message opened) ≡ Passes
opens phase live opened = rw (live.0, live.1) refl

asks : (phase : Phase) → IsLive phase → (id : Id) (address : List ℕ) (at : Pos) (question : Question) → gate phase (question_message id address at question) ≡ Passes
asks phase live id address at question.Definition = rw (live.0, live.1) refl
asks phase live id address at (question.References declaration) = rw (live.0, live.1) refl
asks phase live id address at (question.Rename new) = rw (live.0, live.1) refl
asks phase live id address at question.Completion = rw (live.0, live.1) refl

edits : (phase : Phase) → IsLive phase → (edited : Edited) → gate phase (edited_message edited) ≡ Passes
edits phase live edited = rw (live.0, live.1) refl

-- the room that is left, by what is kept
module _ (v : WorkspaceView) (m : Documents) (agrees : Agrees v m) (address : List ℕ) where
  pub full : HasNoRoom v address → IsFull m address
  full full_up = (same_contains v m agrees address ∙ full_up.0, let same = same_len v m agrees in let all = full_up.1 in omega arith)

  pub room : len v.kept ≤ MOST_DOCUMENTS → ¬ (HasNoRoom v address) → HasRoom m address
  room few free = by (contains_key v.kept address) refl (cases_lt (len v.kept) MOST_DOCUMENTS)
    where
      by : (b : Bool) → contains_key v.kept address ≡ b → (len v.kept < MOST_DOCUMENTS) ⊎ (MOST_DOCUMENTS ≤ len v.kept) → HasRoom m address
      by true is either = inl (same_contains v m agrees address ∙ is)
      by false is (inl less) = inr (let same = same_len v m agrees in omega arith)
      by false is (inr most) = absurd (free (is, omega arith))

module _ (v w : WorkspaceView) (phase : Phase) (live : IsLive phase) (agrees : Agrees v (documents v)) where
  module _ (opened : Opened) where
    pub puts : Agrees w (put (documents v) opened.id.address opened.text (Some opened.id.version) true) → length opened.text ≤ LONGEST_TEXT →
        len v.kept ≤ MOST_DOCUMENTS → ¬ (HasNoRoom v opened.id.address) → IsAnswered v w phase (opened_message opened) [] (telling phase [])
    puts after short few free =
        effective v w phase live (opened_message opened) (opens phase live opened) [] _ _ after
        (effect.opens (opening.puts short (room v (documents v) agrees opened.id.address few free)))

  -- a question, where the build has come to its end
  pub answers : (asked : Asked) (lists : List Published) (reply : Reply) → Agrees w (documents w) → BuildsToEnd v.setting (documents v) (documents w) lists →
      RepliesTo v.setting (documents w) (asked_message asked) reply → IsAnswered v w phase (asked_message asked) [] (telling phase (map as_reply lists ++ reply ∷ []))
  answers asked lists reply after builds replies =
      effective v w phase live (asked_message asked) (asks phase live asked.id asked.address asked.at asked.question) [] _ _ after (effect.asks lists reply builds replies)

  module _ (edited : Edited) where
    pub changes : (d : Document) (text : List ℕ) (held : Numbered) → get (documents v) edited.id.address ≡ Some d → Changes Utf16 d.text edited.changes (Ok text) →
        Agrees w (insert (documents v) edited.id.address (event.edited d text edited.id.version)) → get v.kept edited.id.address ≡ Some held → held.doc.is_open ≡ true →
        IsAnswered v w phase (edited_message edited) [] (telling phase [])
    changes d text held at does after kept on =
        let found = is_kept v (documents v) agrees edited.id.address d at in
        let same : Some held ≡ Some found.0 = sym kept ∙ found.1 in
        let one : held ≡ found.0 = cc in
        let is_open : d.is_open ≡ true = ap (λ (k : Known). k.is_open) found.2 ∙ ap (λ (h : Numbered). h.doc.is_open) (sym one) ∙ on in
        effective v w phase live (edited_message edited) (edits phase live edited) [] _ _ after
        (effect.edits (editing.edits (record { held = at; is_open = is_open }) does))

module _ (v : WorkspaceView) (phase : Phase) (live : IsLive phase) (agrees : Agrees v (documents v)) where
  module _ (opened : Opened) where
    logged : (line : List ℕ) → opening.OpensDocument (documents v) opened.id.address opened.id.version opened.text (documents v) (Log line ∷ []) →
        IsAnswered v v phase (opened_message opened) [] (telling phase (Log line ∷ []))
    logged line does = effective v v phase live (opened_message opened) (opens phase live opened) [] _ _ agrees (effect.opens does)

    pub too_long : LONGEST_TEXT < length opened.text → IsAnswered v v phase (opened_message opened) [] (telling phase (Log (codes "text too long: " ++ opened.id.address) ∷ []))
    too_long long = logged _ (opening.too_long long)

    pub too_many : length opened.text ≤ LONGEST_TEXT → HasNoRoom v opened.id.address →
        IsAnswered v v phase (opened_message opened) [] (telling phase (Log (codes "too many documents: " ++ opened.id.address) ∷ []))
    too_many short full_up = logged _ (opening.too_many short (full v (documents v) agrees opened.id.address full_up))

  module _ (edited : Edited) where
    refused : (line : List ℕ) → editing.EditsDocument (documents v) edited.id.address edited.id.version edited.changes (documents v) (Log line ∷ []) →
        IsAnswered v v phase (edited_message edited) [] (telling phase (Log line ∷ []))
    refused line does = effective v v phase live (edited_message edited) (edits phase live edited) [] _ _ agrees (effect.edits does)

    pub unknown : ¬ ((held : Numbered) × (get v.kept edited.id.address ≡ Some held) × (held.doc.is_open ≡ true)) →
        IsAnswered v v phase (edited_message edited) [] (telling phase (Log (codes "unknown document: " ++ edited.id.address) ∷ []))
    unknown none = refused _ (editing.unknown (none_open v (documents v) agrees edited.id.address none))

    module _ (held other : Numbered) (kept : get v.kept edited.id.address ≡ Some held) (on : held.doc.is_open ≡ true) (at : get v.kept edited.id.address ≡ Some other) where
      one : held ≡ other
      one = let same : Some held ≡ Some other = sym kept ∙ at in cc

      opened_here : (d : Document) × IsOpenAt (documents v) edited.id.address d × (other.doc.text ≡ d.text)
      opened_here =
          let found = is_held v (documents v) agrees edited.id.address other at in (
            found.0,
            record {
              held = found.1;
              is_open = ap (λ (k : Known). k.is_open) found.2 ∙ ap (λ (h : Numbered). h.doc.is_open) (sym one) ∙ on;
            },
            ap (λ (k : Known). k.text) (sym found.2),
          )

      pub bad_range : (number : ℕ) → Changes Utf16 other.doc.text edited.changes (Err (edit.BadRange number)) →
          IsAnswered v v phase (edited_message edited) []
          (telling phase (Log (codes "bad range in change " ++ decimal number ++ codes " of " ++ edited.id.address) ∷ []))
      bad_range number fault =
          refused _
          (editing.bad_range opened_here.1
          (subst (λ (t : List ℕ). Changes Utf16 t edited.changes (Err (edit.BadRange number))) opened_here.2 fault))

      pub edit_too_long : (size : ℕ) → Changes Utf16 other.doc.text edited.changes (Err (edit.TooLong size)) →
          IsAnswered v v phase (edited_message edited) [] (telling phase (Log (codes "text too long: " ++ edited.id.address) ∷ []))
      edit_too_long size fault =
          refused _
          (editing.too_long opened_here.1 (subst (λ (t : List ℕ). Changes Utf16 t edited.changes (Err (edit.TooLong size))) opened_here.2 fault))

-- what a fault tells
pub too_long_put : (v : WorkspaceView) (address text : List ℕ) (fault : WorkFault) (size : ℕ) → fault ≡ work.TooLong size → IsPutFault v address text fault →
    LONGEST_TEXT < length text
too_long_put v address text fault size is (faults.IsPutFault.too_long long) = long
too_long_put v address text fault size is (faults.IsPutFault.too_many short none) = absurd cc
too_long_put v address text fault size is faults.IsPutFault.no_memory = absurd cc

pub too_many_put : (v : WorkspaceView) (address text : List ℕ) (fault : WorkFault) → fault ≡ work.TooMany → IsPutFault v address text fault →
    (length text ≤ LONGEST_TEXT) × HasNoRoom v address
too_many_put v address text fault is (faults.IsPutFault.too_long long) = absurd cc
too_many_put v address text fault is (faults.IsPutFault.too_many short none) = (short, none)
too_many_put v address text fault is faults.IsPutFault.no_memory = absurd cc

module _ (v : WorkspaceView) (address : List ℕ) (changes : List Change) where
  -- the document at the address has a text whose changes have this fault
  abbrev HasFault : EditFault → Type 0
  HasFault known = (held : Numbered) × (get v.kept address ≡ Some held) × Changes Utf16 held.doc.text changes (Err known)

  pub bad_range_edit : (fault : WorkFault) (number : ℕ) → fault ≡ work.BadRange number → IsEditFault v address changes fault → HasFault (edit.BadRange number)
  bad_range_edit fault number is (faults.IsEditFault.no_document none) = absurd cc
  bad_range_edit fault number is (faults.IsEditFault.bad_range {held = held} {number = other} at does) =
      let same : other ≡ number = cc in
      (held, at, subst (λ n. Changes Utf16 held.doc.text changes (Err (edit.BadRange n))) same does)
  bad_range_edit fault number is (faults.IsEditFault.too_long at does) = absurd cc
  bad_range_edit fault number is faults.IsEditFault.no_memory = absurd cc

  pub too_long_edit : (fault : WorkFault) (size : ℕ) → fault ≡ work.TooLong size → IsEditFault v address changes fault → HasFault (edit.TooLong size)
  too_long_edit fault size is (faults.IsEditFault.no_document none) = absurd cc
  too_long_edit fault size is (faults.IsEditFault.bad_range at does) = absurd cc
  too_long_edit fault size is (faults.IsEditFault.too_long {held = held} {size = other} at does) =
      let same : other ≡ size = cc in
      (held, at, subst (λ n. Changes Utf16 held.doc.text changes (Err (edit.TooLong n))) same does)
  too_long_edit fault size is faults.IsEditFault.no_memory = absurd cc
