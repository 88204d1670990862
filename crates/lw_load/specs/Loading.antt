-- Which grammar a root file and all that it imports say together.
-- Held against the Langium documentation, "Grammar language: imports". The load order is the root, then each import depth first in the
-- order of the text, each file once.
use Rattle.std.specs.Prelude.{ℕ, ◌≡◌, ◌≤◌, List, [], ◌∷◌, ◌++◌, Some, length, map, sum_by, Any}
use Rattle.std.specs.Str.{IsUtf8}
use Rattle.lw_base.specs.declared.limits.TheConstants.{LONGEST_TEXT}
use Rattle.lw_grammar.specs.declared.grammar.Grammar.{Grammar}
use Rattle.lw_grammar.specs.declared.grammar.Import.{Import}
use Rattle.lw_grammar.specs.declared.rule.Rule.{Rule}
use Rattle.lw_grammar.specs.declared.terminal.Terminal.{Terminal}
use Rattle.lw_grammar.specs.declared.declared_types.Interface.{Interface}
use Rattle.lw_grammar.specs.declared.declared_types.UnionDef.{UnionDef}
use Rattle.lw_grammar.specs.Size.{size}
use Rattle.lw_io.specs.Store.{file_at}
use Rattle.lw_gramread.specs.Syntax.{Syntax, bare_grammar}
use Rattle.lw_load.specs.declared.limits.TheConstants.{LARGEST_GRAMMAR}
use Rattle.lw_load.specs.declared.loader.Loaded.{Loaded}
use Rattle.lw_load.specs.Paths.{walked, import_path}

-- files as pairs of a path and its bytes
abbrev pub Files : Type 0
Files = List (List ℕ × List ℕ)

-- The path by which a file is read and told, and the one by which it is compared. The root's is taken as it is given.
pub record Address : Type 0 where
  pub path : List ℕ
  pub compared : List ℕ

abbrev pub root_address : List ℕ → Address
root_address path = record { path = path; compared = walked path }

abbrev pub import_address : List ℕ → Address
import_address path = record { path = path; compared = path }

-- a file that was loaded: where it was found, its text, and what that says
pub record LoadedFile : Type 0 where
  pub address : Address
  pub text : List ℕ
  pub says : Grammar

-- the files that it imports, in the order of the text
abbrev pub imports_of : LoadedFile → List Address
imports_of f = map (λ i. import_address (import_path f.address.path i.path)) f.says.imports

abbrev pub IsAmong : List LoadedFile → Address → Type 0
IsAmong loaded address = Any (λ f. f.address.compared ≡ address.compared) loaded

-- how large the files are together
abbrev pub size_of_all : List LoadedFile → ℕ
size_of_all loaded = sum_by (λ f. size f.says) loaded

-- the path holds this text
pub record HoldsText (files : Files) (path text : List ℕ) : Type 0 where
  pub held : file_at files path ≡ Some text
  pub short : length text ≤ LONGEST_TEXT
  pub utf8 : IsUtf8 text

module _ (files : Files) where
  -- behind those that were loaded, the file of this address says a grammar, and with it the grammar is not too large
  pub record LoadsNext (loaded : List LoadedFile) (address : Address) (f : LoadedFile) : Type 0 where
    pub fresh : ¬ IsAmong loaded address
    pub found : f.address ≡ address
    pub holds : HoldsText files address.path f.text
    pub says : Syntax f.text f.says
    pub fits : size_of_all (loaded ++ f ∷ []) ≤ LARGEST_GRAMMAR

  -- behind those that were loaded before, the files of these addresses were loaded in turn, each with all that it imports
  pub data Visits : List LoadedFile → List Address → List LoadedFile → Type 0 where
    none : {loaded : List LoadedFile} → Visits loaded [] loaded
    known : {before after : List LoadedFile} {address : Address} {others : List Address} → IsAmong before address → Visits before others after →
        Visits before (address ∷ others) after
    opened : {before inside after : List LoadedFile} {address : Address} {others : List Address} {f : LoadedFile} → LoadsNext before address f →
        Visits (before ++ f ∷ []) (imports_of f) inside → Visits inside others after → Visits before (address ∷ others) after

-- things of a file, with its number
abbrev pub rules_in : ℕ → List Rule → List Rule
rules_in n rules = map {A = Rule} (λ r. record r { file = n }) rules

abbrev pub terminals_in : ℕ → List Terminal → List Terminal
terminals_in n terminals = map {A = Terminal} (λ t. record t { file = n }) terminals

abbrev pub interfaces_in : ℕ → List Interface → List Interface
interfaces_in n interfaces = map {A = Interface} (λ i. record i { file = n }) interfaces

abbrev pub unions_in : ℕ → List UnionDef → List UnionDef
unions_in n unions = map {A = UnionDef} (λ u. record u { file = n }) unions

-- and each import with the path that it names
abbrev pub imports_in : ℕ → List ℕ → List Import → List Import
imports_in n importer imports = map {A = Import} (λ i. record { path = import_path importer i.path; file = n; span = i.span }) imports

-- a grammar with what the file at this path says, behind what it has
abbrev pub with_file : Grammar → List ℕ → Grammar → Grammar
with_file g path says = record {
  name = g.name;
  files = g.files ++ path ∷ [];
  rules = g.rules ++ rules_in (length g.files) says.rules;
  terminals = g.terminals ++ terminals_in (length g.files) says.terminals;
  interfaces = g.interfaces ++ interfaces_in (length g.files) says.interfaces;
  unions = g.unions ++ unions_in (length g.files) says.unions;
  imports = g.imports ++ imports_in (length g.files) path says.imports;
}

abbrev pub with_files : Grammar → List LoadedFile → Grammar
with_files g [] = g
with_files g (f ∷ fs) = with_files (with_file g f.address.path f.says) fs

-- the files as one grammar, which has the root's name
abbrev pub as_one : List LoadedFile → Grammar
as_one [] = bare_grammar [] []
as_one (f ∷ fs) = with_files (bare_grammar f.says.name []) (f ∷ fs)

-- what the root file and all that it imports say together, and the text of each file by its number
pub record Loads (files : Files) (root : List ℕ) (result : Loaded) : Type 0 where
  pub loaded : List LoadedFile
  pub visits : Visits files [] (root_address root ∷ []) loaded
  pub grammar : result.grammar ≡ as_one loaded
  pub texts : result.texts ≡ map (λ f. f.text) loaded
