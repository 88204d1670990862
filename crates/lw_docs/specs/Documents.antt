-- The documents of a workspace: by address, each with its number.
-- Held against Langium's workspace, whose documents are found by their URI; that they have numbers is this profile's.
use Rattle.std.specs.Prelude.{ℕ, ℤ, ◌≡◌, List, Bool, Option, None, Some}
use Rattle.std.specs.Cmp.Lexicographic.{slice_cmp}
use Rattle.std.specs.FinMap as map
use Rattle.std.specs.FinMap.{FinMap, get}
use Rattle.std.specs.Ordering.{nat_cmp}
use Rattle.lw_base.specs.declared.numbers.DocId.{DocId}
use Rattle.lw_docs.specs.declared.doc.Doc.{Doc}
use Rattle.lw_machine.specs.declared.state.State.TheVariants.{Changed}

-- a document, and its number
pub record Numbered : Type 0 where
  pub number : DocId
  pub doc : Doc

-- documents by address; addresses are compared by their bytes
abbrev pub ByAddress : Type 0
ByAddress = FinMap (slice_cmp nat_cmp) Numbered

-- a document with its number
abbrev pub numbered : DocId → Doc → Numbered
numbered d x = record { number = d; doc = x }

-- the document of a number, at its address
abbrev pub IsAt : ByAddress → DocId → Doc → Type 0
IsAt m d x = get m x.uri ≡ Some (numbered d x)

-- a document has this number
abbrev pub IsHeld : ByAddress → DocId → Type 0
IsHeld m d = (x : Doc) × IsAt m d x

-- each document has its address, and no two have one number
pub record AreNumbered (m : ByAddress) : Type 0 where
  pub addresses : (address : List ℕ) (held : Numbered) → get m address ≡ Some held → held.doc.uri ≡ address
  pub apart : (address other : List ℕ) (a b : Numbered) → get m address ≡ Some a → get m other ≡ Some b → a.number ≡ b.number →
      address ≡ other

-- a document that comes: nothing was done for it, and nothing was published of it
abbrev pub changed : List ℕ → List ℕ → Option ℤ → Bool → Doc
changed uri text version is_open =
    record { uri = uri; text = text; version = version; is_open = is_open; state = Changed; published = None }

-- the document of a number has turned into another, and all else stays
abbrev pub Turns : ByAddress → ByAddress → DocId → (Doc → Doc) → Type 0
Turns m n d turn = (x : Doc) → IsAt m d x → n ≡ map.insert m x.uri (numbered d (turn x))
