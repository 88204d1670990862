-- What a session asks of the store, and what it finds.
-- Language Server Protocol 3.17, "DidCloseTextDocument Notification": once a document is closed, its truth is the file; RFC 8089, "The file URI Scheme".
use Rattle.std.specs.Prelude.{ℕ, ◌≢◌, List, [], ◌∷◌, All, Option}
use Rattle.lw_io.specs.Store.{AnswersFile, FitsFile, file_at}
use Rattle.lw_io.specs.declared.store.Found.{Found}
use Rattle.lw_io.specs.declared.store.Found.TheVariants.{Absent, Failed}
use Rattle.lw_io.specs.Paths.{HasNoPath, IsPathOf}

-- the path of a file that is read, and what the store answers
pub record Asked : Type 0 where
  pub path : List ℕ
  pub answer : Found

-- what is found of the file at an address: one without a path is absent, and the store is not asked
pub data FindsFile (address : List ℕ) : List Asked → Found → Type 0 where
  no_path : HasNoPath address → FindsFile address [] Absent
  asked : {path : List ℕ} {found : Found} → IsPathOf address path → FindsFile address (record { path = path; answer = found } ∷ []) found

-- each answer is one that a store of these files may give, where it tells them
abbrev pub AreAnswered : Option (List (List ℕ × List ℕ)) → List Asked → Type 0
AreAnswered told = All (λ a. AnswersFile told a.path a.answer)

-- each answer is the one that these files give: none of the reads failed
abbrev pub AreOfFiles : List (List ℕ × List ℕ) → List Asked → Type 0
AreOfFiles files = All (λ a. FitsFile (file_at files a.path) a.answer × (a.answer ≢ Failed))
