-- The files that the words name behind a grammar: they are read in their order before anything else comes to the session, and each text is put at the
-- address of its file. The first that is not read stops the run.
-- Held against Langium's document lifecycle, "Workspace initialization"; RFC 8089, "The file URI Scheme".
use Rattle.std.specs.Prelude.{ℕ, ◌≡◌, List, ◌∷◌, ◌++◌}
use Rattle.std.specs.List.{AllZip}
use Rattle.lw_io.specs.Store.{FitsFile, file_at}
use Rattle.lw_io.specs.declared.store.Found.{Found}
use Rattle.lw_io.specs.declared.store.Found.TheVariants as found
use Rattle.lw_load.specs.Loading.{Files}
use Rattle.lw_io.specs.Paths.{address_of}
use Rattle.lw_commands.specs.declared.named.FileFault.{FileFault}
use Rattle.lw_commands.specs.declared.named.FileFault.TheVariants.{Absent, NotUtf8, TooLong, Failed}

-- a text by its address, which is that of the file at a path
pub record IsFileText (files : Files) (path : List ℕ) (put : List ℕ × List ℕ) : Type 0 where
  pub address : put.0 ≡ address_of path
  pub text : FitsFile (file_at files path) (found.Text put.1)

-- the texts of the files at these paths, by their addresses
abbrev pub AreFileTexts : Files → List (List ℕ) → List (List ℕ × List ℕ) → Type 0
AreFileTexts files = AllZip (IsFileText files)

-- the path of a file that is not read, and what the store answered for it
abbrev pub path_of_fault : FileFault → List ℕ
path_of_fault (Absent path) = path
path_of_fault (NotUtf8 path) = path
path_of_fault (TooLong path) = path
path_of_fault (Failed path) = path

abbrev pub answer_of_fault : FileFault → Found
answer_of_fault (Absent path) = found.Absent
answer_of_fault (NotUtf8 path) = found.NotUtf8
answer_of_fault (TooLong path) = found.TooLong
answer_of_fault (Failed path) = found.Failed

-- the first of the files at these paths that is not read, and why
pub record IsFirstUnread (files : Files) (paths : List (List ℕ)) (fault : FileFault) : Type 0 where
  pub before : List (List ℕ)
  pub behind : List (List ℕ)
  pub parts : paths ≡ before ++ path_of_fault fault ∷ behind
  pub texts : List (List ℕ × List ℕ)
  pub read : AreFileTexts files before texts
  pub unread : FitsFile (file_at files (path_of_fault fault)) (answer_of_fault fault)
