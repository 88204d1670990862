-- Documents with the same lists that were published last, and documents of which all that was computed is forgotten.
-- Held against Langium's document lifecycle, "Document states": a document goes back to the state in which nothing is known of it.
use Rattle.std.specs.Prelude.{ℕ, ◌≡◌, List, option_map}
use Rattle.std.specs.FinMap.{get}
use Rattle.lw_machine.specs.Documents.{Documents}
use Rattle.lw_machine.specs.Events.{cleared}
use Rattle.lw_machine.specs.Laws.{last_list}

-- at each address the same list was published last
abbrev pub HaveSameLists : Documents → Documents → Type 0
HaveSameLists m n = (address : List ℕ) → last_list n address ≡ last_list m address

-- the documents m with nothing known of any but its text, and the list that was published last
abbrev pub AreCleared : Documents → Documents → Type 0
AreCleared m clean = (address : List ℕ) → get clean address ≡ option_map cleared (get m address)
