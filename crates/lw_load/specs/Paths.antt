-- The paths by which files of a grammar are found and compared.
-- Held against the Langium documentation, "Grammar language: imports": a path is relative to the importing file, and the extension is
-- left out. Segments are walked as in RFC 3986, section 5.2.4, "Remove Dot Segments".
use Rattle.std.specs.Prelude.{ℕ, ◌==◌, List, [], ◌∷◌, ◌++◌, Bool, true, false, if◌then◌else◌, codes, bytes_eq, reverse}

-- the segments of a path are what stands between its slashes
abbrev pub with_first : ℕ → List (List ℕ) → List (List ℕ)
with_first c [] = (c ∷ []) ∷ []
with_first c (s ∷ ss) = (c ∷ s) ∷ ss

abbrev pub segments : List ℕ → List (List ℕ)
segments [] = [] ∷ []
segments (c ∷ cs) = if c == 47 then [] ∷ segments cs else with_first c (segments cs)

-- segments with a slash between each two
abbrev pub slashed : List (List ℕ) → List ℕ
slashed [] = []
slashed (s ∷ []) = s
slashed (s ∷ t ∷ ss) = s ++ 47 ∷ slashed (t ∷ ss)

-- it begins with a slash
abbrev pub is_absolute : List ℕ → Bool
is_absolute [] = false
is_absolute (c ∷ cs) = c == 47

-- Kept segments, the last one first, behind a further `..`: it takes out the one before it, unless that is a `..` itself. With none
-- before it, it stays, but at the root of an absolute path it goes out.
abbrev pub back : Bool → List (List ℕ) → List (List ℕ)
back true [] = []
back false [] = codes ".." ∷ []
back absolute (s ∷ kept) = if bytes_eq s (codes "..") then codes ".." ∷ s ∷ kept else kept

-- kept segments behind any further one: empty ones and `.` go out
abbrev pub walk_on : Bool → List (List ℕ) → List ℕ → List (List ℕ)
walk_on absolute kept s =
    if bytes_eq s [] then kept else if bytes_eq s (codes ".") then kept else if bytes_eq s (codes "..") then back absolute kept else s ∷ kept

abbrev pub walk : Bool → List (List ℕ) → List (List ℕ) → List (List ℕ)
walk absolute kept [] = reverse kept
walk absolute kept (s ∷ ss) = walk absolute (walk_on absolute kept s) ss

-- the path without detours
abbrev pub walked : List ℕ → List ℕ
walked path = (if is_absolute path then codes "/" else []) ++ slashed (walk (is_absolute path) [] (segments path))

-- up to and including the last slash
abbrev pub folder : List ℕ → List ℕ
folder [] = []
folder (c ∷ cs) = if bytes_eq (folder cs) [] then (if c == 47 then c ∷ [] else []) else c ∷ folder cs

abbrev pub extension : List ℕ
extension = codes ".langium"

-- the text ends with the extension
abbrev pub has_extension : List ℕ → Bool
has_extension [] = false
has_extension (c ∷ cs) = if bytes_eq (c ∷ cs) extension then true else has_extension cs

-- with the extension, where it is left out
abbrev pub extended : List ℕ → List ℕ
extended path = if has_extension path then path else path ++ extension

-- The path of the file that an import of the file at `importer` names, in its walked form. Where it is not absolute it starts from the
-- importer's folder.
abbrev pub import_path : List ℕ → List ℕ → List ℕ
import_path importer path = walked (if is_absolute path then extended path else folder importer ++ extended path)
