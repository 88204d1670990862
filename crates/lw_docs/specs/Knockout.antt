-- A knockout among the numbers of documents: each place holds, of the document of its own number and those that two places behind it hold,
-- the one that comes first in a build, and the first place holds the first of all.
-- Held against Langium's document lifecycle: a build takes all documents through the states in their order.
use Rattle.std.specs.Prelude.{ℕ, ◌≡◌, ◌≢◌, ◌+◌, ◌*◌, ◌<◌, List, length, Option, None, Some, slice_index_or, nat_lt, if◌then◌else◌}
use Rattle.std.specs.Cmp.Lexicographic.{slice_cmp}
use Rattle.std.specs.Ordering.{nat_cmp, ordering_then, is_gt}
use Rattle.std.specs.declared.cmp.Ordering.{Ordering}
use Rattle.lw_docs.specs.declared.doc.Doc.{Doc}
use Rattle.lw_docs.specs.declared.knockout.Entrant.{Entrant}
use Rattle.lw_machine.specs.Documents.{rank}
use Rattle.lw_docs.specs.Table.{doc_in, address_in}

-- a document that waits for the build, where it is not validated
abbrev pub waiting_of : ℕ → Option Doc → Option Entrant
waiting_of number None = None
waiting_of number (Some x) = if nat_lt (rank x.state) 6 then Some (record { rank = rank x.state; number = number }) else None

-- what a place holds
abbrev pub cell_at : List (Option Entrant) → ℕ → Option Entrant
cell_at cells place = slice_index_or cells place None

module _ (slots : List (Option Doc)) where
  -- by states, and at one state by addresses
  abbrev pub turn_cmp : Entrant → Entrant → Ordering
  turn_cmp a b = ordering_then (nat_cmp a.rank b.rank) (slice_cmp nat_cmp (address_in slots a.number) (address_in slots b.number))

  -- the one that comes first of two, where there are two
  abbrev pub earlier : Option Entrant → Option Entrant → Option Entrant
  earlier None b = b
  earlier (Some a) None = Some a
  earlier (Some a) (Some b) = if is_gt (turn_cmp a b) then Some b else Some a

  module _ (cells : List (Option Entrant)) where
    -- the first of a document and of those that two places hold
    unfoldable pub best : ℕ → Option Entrant
    best place = earlier (earlier (waiting_of place (doc_in slots place)) (cell_at cells (2 * place + 1))) (cell_at cells (2 * place + 2))

    abbrev pub IsKnockout : Type 0
    IsKnockout = (place : ℕ) → place < length cells → cell_at cells place ≡ best place

    -- all places but one hold what they should
    abbrev pub IsKnockoutBut : ℕ → Type 0
    IsKnockoutBut one = (place : ℕ) → place < length cells → place ≢ one → cell_at cells place ≡ best place
