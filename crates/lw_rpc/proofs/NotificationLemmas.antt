-- What a notification tells of a document that is closed, or of files, is what its parameters say by their shape.
use Rattle.std.proofs.Common.{◌≡◌, ℕ, List, codes, Option, Some, None, refl, sym, subst, unwrap_or}
use Rattle.serde_json.specs.Data.{Data, string, array, Items}
use Rattle.serde_json.specs.Find.{get}
use Rattle.lw_rpc.specs.Causes.{HasValue, IsCall, ClosesDocument, IsFileChange, TellsOfFiles, IsMessage, document_closed, not_document_closed, files_changed, not_files_changed}
use Rattle.lw_rpc.specs.FileChangeParams.{file_change_of, file_changes_of}
use Rattle.lw_rpc.specs.Params.{member_at, text_at, file_changes_at, did_close, did_change_watched_files}
use Rattle.lw_rpc.proofs.FileChangeLemmas.{file_change_of-IsFileChange, IsFileChange-file_change_of}
use Rattle.lw_rpc.proofs.ListedLemmas.{items_by-AreEach, AreEach-items_by}
use Rattle.lw_rpc.proofs.Found.{str_of, list_of, inside, mapped, none-and-some}
use Rattle.lw_rpc.specs.declared.file_change.FileChange.{FileChange}
use Rattle.lw_rpc.specs.declared.message.Message.{Message}
use Rattle.lw_rpc.specs.declared.message.Message.TheVariants.{BadParams, DidClose, DidChangeWatchedFiles}

-- ---- from the rules to the shape

pub did_close-ClosesDocument : (d : Data) (uri : List ℕ) → ClosesDocument d uri → did_close (get (codes "params") d) ≡ Some (DidClose uri)
did_close-ClosesDocument d uri is = rw (is.has_params, is.has_document, is.has_uri) refl

pub did_change_watched_files-TellsOfFiles : (d : Data) (changes : List FileChange) → TellsOfFiles d changes → did_change_watched_files (get (codes "params") d) ≡ Some (DidChangeWatchedFiles changes)
did_change_watched_files-TellsOfFiles d changes is = rw (is.has_params, is.has_changes, items_by-AreEach file_change_of IsFileChange file_change_of-IsFileChange is.values changes is.are_changes) refl

-- ---- from the shape to the rules

ClosesDocument-did_close : (d : Data) (m : Message) → did_close (get (codes "params") d) ≡ Some m → (u : List ℕ) × (m ≡ DidClose u) × ClosesDocument d u
ClosesDocument-did_close d m same =
    let document : Option Data = member_at (codes "textDocument") (get (codes "params") d) in
    let said = mapped DidClose (text_at (codes "uri") document) m same in
    let uri : (w : Data) × (document ≡ Some w) × (get (codes "uri") w ≡ Some (string said.0)) =
    inside (get (codes "uri")) document (string said.0) (str_of _ _ said.1) in
    let holder : (w : Data) × (get (codes "params") d ≡ Some w) × (get (codes "textDocument") w ≡ Some uri.0) =
    inside (get (codes "textDocument")) (get (codes "params") d) uri.0 uri.1 in
    (said.0, said.2, record { params = holder.0; document = uri.0; has_params = holder.1; has_document = holder.2; has_uri = uri.2 })

TellsOfFiles-did_change_watched_files : (d : Data) (m : Message) → did_change_watched_files (get (codes "params") d) ≡ Some m
    → (c : List FileChange) × (m ≡ DidChangeWatchedFiles c) × TellsOfFiles d c
TellsOfFiles-did_change_watched_files d m same =
    let given : Option Data = get (codes "params") d in
    let said = mapped DidChangeWatchedFiles (file_changes_at (codes "changes") given) m same in
    let list : (values : Items) × (member_at (codes "changes") given ≡ Some (array values)) × (file_changes_of values ≡ Some said.0) =
    list_of file_changes_of (member_at (codes "changes") given) said.0 said.1 in
    let holder : (w : Data) × (given ≡ Some w) × (get (codes "changes") w ≡ Some (array list.0)) =
    inside (get (codes "changes")) given (array list.0) list.1 in
    (said.0, said.2, record { params = holder.0; values = list.0; has_params = holder.1; has_changes = holder.2; are_changes = AreEach-items_by file_change_of IsFileChange IsFileChange-file_change_of list.0 said.0 list.2 })

-- ---- the rule that the parameters meet

module _ (body : List ℕ) (d : Data) (has : HasValue body d) where
  pub did_close-met : (found : Option Message) → IsCall d None (codes "textDocument/didClose") → did_close (get (codes "params") d) ≡ found
      → IsMessage body (unwrap_or found (BadParams None (codes "textDocument/didClose")))
  did_close-met (Some m) is e = let parts = ClosesDocument-did_close d m e in subst (IsMessage body) (sym parts.1) (document_closed d has is parts.2)
  did_close-met None is e = not_document_closed d has is (λ u closes. none-and-some e (did_close-ClosesDocument d u closes))

  pub did_change_watched_files-met : (found : Option Message) → IsCall d None (codes "workspace/didChangeWatchedFiles") → did_change_watched_files (get (codes "params") d) ≡ found
      → IsMessage body (unwrap_or found (BadParams None (codes "workspace/didChangeWatchedFiles")))
  did_change_watched_files-met (Some m) is e = let parts = TellsOfFiles-did_change_watched_files d m e in subst (IsMessage body) (sym parts.1) (files_changed d has is parts.2)
  did_change_watched_files-met None is e = not_files_changed d has is (λ c tells. none-and-some e (did_change_watched_files-TellsOfFiles d c tells))

-- ---- what is not of the shape

pub no_close : (d : Data) (found : Option Message) → did_close (get (codes "params") d) ≡ found → ((u : List ℕ) → ¬ ClosesDocument d u) → found ≡ None
no_close d (Some m) same unlike = let parts = ClosesDocument-did_close d m same in absurd (unlike parts.0 parts.2)
no_close d None same unlike = refl

pub no_file_changes : (d : Data) (found : Option Message) → did_change_watched_files (get (codes "params") d) ≡ found → ((c : List FileChange) → ¬ TellsOfFiles d c) → found ≡ None
no_file_changes d (Some m) same unlike = let parts = TellsOfFiles-did_change_watched_files d m same in absurd (unlike parts.0 parts.2)
no_file_changes d None same unlike = refl
