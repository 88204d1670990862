-- What is lent of a workspace that is built: its documents by address, what their texts were read as, and where their references lead.
-- Held against Langium's document lifecycle: what an editor asks is answered once all documents are linked.
use Rattle.std.specs.Prelude.{ℕ, ◌≡◌, ◌<◌, ◌^◌, List, Option, Some, IfSome, option_and_then, length, map}
use Rattle.std.specs.FinMap.{FinMap, from_entries, get}
use Rattle.std.specs.Ordering.{nat_cmp}
use Rattle.lw_base.specs.declared.numbers.DocId.{DocId}
use Rattle.lw_docs.specs.Documents.{AreNumbered, ByAddress, Numbered}
use Rattle.lw_index.specs.declared.parts.Answer.{Answer}
use Rattle.lw_query.specs.Built.{tree_seen}
use Rattle.lw_query.specs.declared.view.View.{View}
use Rattle.lw_index.specs.Led.{Led, answers_in}
use Rattle.lw_reading.specs.Within.{StandsInText}
use Rattle.lw_tree.specs.Parts.{Parts}
use Rattle.lw_build.specs.Linked.{StandsNumbered}
use Rattle.lw_build.specs.Readings.{AreAllRead, present_texts_of, reading_at, tree_numbered, tree_of}
use Rattle.lw_build.specs.declared.readings.Reading.{Reading}
use Rattle.lw_build.specs.declared.readings.Readings.{Readings}

-- the trees by the numbers of their documents; none where a text is broken
pub record SeenView : Type 0 where
  pub kept : ByAddress
  pub trees : FinMap nat_cmp (Option Parts)
  pub led : Led

-- what is seen of these documents, readings and answers
abbrev pub lent : ByAddress → Readings → Led → SeenView
lent kept readings led = record {
  kept = kept;
  trees = from_entries {R = nat_cmp} (map (λ e. (e.0, tree_of e.1)) readings.texts.entries);
  led = led;
}

-- the references of a tree have numbers
abbrev pub HasFewReferences : Parts → Type 0
HasFewReferences tree = length tree.refs < 2 ^ 32

-- a reading is that of a document, and its tree stands in the text
pub record IsReadingSeen (kept : ByAddress) (n : ℕ) (reading : Reading) : Type 0 where
  pub held : Numbered
  pub number : held.number.0 ≡ n
  pub here : get kept held.doc.uri ≡ Some held
  pub stands : IfSome (tree_of reading) (StandsInText held.doc.text)
  pub few : IfSome (tree_of reading) HasFewReferences

pub record AreReadingsSeen (kept : ByAddress) (readings : Readings) : Type 0 where
  pub numbered : AreNumbered kept
  pub each : (n : ℕ) (reading : Reading) → reading_at readings n ≡ Some reading → IsReadingSeen kept n reading
  pub all : AreAllRead kept readings

-- the tree of the document of a number, what is answered for its references, and where it stands
abbrev pub seen_tree : SeenView → ℕ → Option Parts
seen_tree v n = option_and_then (λ tree. tree) (get v.trees n)

abbrev pub seen_answers : SeenView → ℕ → List Answer
seen_answers v = answers_in v.led

abbrev pub StandsSeen : SeenView → ℕ → List ℕ → Type 0
StandsSeen v = StandsNumbered v.kept

-- the text of the document of a number, in which its tree stands
pub record IsTextSeen (v : SeenView) (n : ℕ) (text : List ℕ) : Type 0 where
  pub address : List ℕ
  pub stands : StandsSeen v n address
  pub is_text : present_texts_of v.kept address ≡ Some text
  pub within : IfSome (seen_tree v n) (StandsInText text)

-- a document as it is lent: the one of a number, at an address, with all that is kept of it
pub record IsViewOf (kept : ByAddress) (readings : Readings) (led : Led) (place : List ℕ × DocId) (view : View) : Type 0 where
  pub number : view.doc ≡ place.1
  pub address : view.uri.now ≡ place.0
  pub stands : StandsNumbered kept place.1.0 place.0
  pub text : present_texts_of kept place.0 ≡ Some view.text.now
  pub tree : tree_seen view ≡ tree_numbered readings place.1.0
  pub answers : view.answers.now ≡ answers_in led place.1.0
