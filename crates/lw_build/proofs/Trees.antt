-- The trees of all documents, and the index of what these export.
use Rattle.std.proofs.Common.{◌≡◌, ℕ, List, Option, Some, None, option_and_then, option_map, refl, sym, ap, subst, ◌∙◌}
use Rattle.std.specs.FinMap.{get}
use Rattle.std.proofs.lemmas.Option.{same_Some, none-some}
use Rattle.lw_base.specs.declared.numbers.DocId.{DocId}
use Rattle.lw_docs.specs.Documents.{AreNumbered, ByAddress, IsAt, Numbered, numbered}
use Rattle.lw_docs.specs.declared.doc.Doc.{Doc}
use Rattle.lw_grammar.specs.declared.grammar.Grammar.{Grammar}
use Rattle.lw_index.specs.declared.parts.Document.{Document}
use Rattle.lw_link.specs.Indexed.{AreEntriesAt, IsIndexOf}
use Rattle.lw_link.specs.Visible.{IsNumberAt}
use Rattle.lw_machine.specs.Readable.{IsReadable}
use Rattle.lw_reading.specs.Reading.{Reads}
use Rattle.lw_reading.specs.declared.parsed.Parsed.{Parsed}
use Rattle.lw_reading.specs.declared.parsed.Parsed.TheVariants as parsed
use Rattle.lw_link_rules.specs.Links as scope
use Rattle.lw_link_rules.specs.Links.{AreTreesOfTexts, IsTreeOfText}
use Rattle.lw_tree.specs.Parts.{Parts}
use Rattle.lw_build.specs.Readings.{AreAllRead, AreDocumentsRead, IsDocumentRead, IsReadingOfText, reading_at, present_texts_of, tree_of, trees_of}
use Rattle.lw_build.specs.Telling.{IsDocumentAs}
use Rattle.lw_build.specs.declared.readings.Reading.{Reading}
use Rattle.lw_build.specs.declared.readings.Reading.TheVariants.{Whole, Broken}
use Rattle.lw_build.specs.declared.readings.Readings.{Readings}
use Rattle.lw_build.proofs.Reading.{own_reading}

module _ (g : Grammar) (texts : List (List ℕ)) where
  tree_is : (text : List ℕ) (reading : Reading) → IsReadingOfText g texts text reading → IsTreeOfText g (Some text) (tree_of reading)
  tree_is text (Whole tree locals) is = scope.whole is.0
  tree_is text (Broken issue) is = scope.broken is.0

  readable : (text : List ℕ) (reading : Reading) → IsReadingOfText g texts text reading → (p : Parsed) × Reads g text p
  readable text (Whole tree locals) is = (parsed.Whole tree, is.0)
  readable text (Broken issue) is = (parsed.Broken issue, is.0)

  module _ (kept : ByAddress) (are : AreNumbered kept) (readings : Readings) (read : AreDocumentsRead g texts kept readings) where
    at_address : (address : List ℕ) (held : Numbered) → get kept address ≡ Some held → IsAt kept held.number held.doc
    at_address address held at = ap (get kept) (are.addresses address held at) ∙ at

    tree_here : (address : List ℕ) (held : Numbered) (reading : Reading) → get kept address ≡ Some held → reading_at readings held.number.0 ≡ Some reading →
        trees_of kept readings address ≡ tree_of reading
    tree_here address held reading at is =
        ap (option_and_then (λ (h : Numbered). option_and_then tree_of (reading_at readings h.number.0))) at ∙ ap (option_and_then tree_of) is

    -- what the index holds of a number
    record IsHeldIn (n : ℕ) (d : Document) : Type 0 where
      reading : Reading
      is : IsDocumentRead g texts kept readings.index n reading
      there : reading_at readings n ≡ Some reading
      document : record { uri = is.held.doc.uri; exports = is.exports } ≡ d

    held_in : (n : ℕ) (d : Document) → get readings.index n ≡ Some d → IsHeldIn n d
    held_in n d at = by (reading_at readings n) refl
      where
        by : (o : Option Reading) → reading_at readings n ≡ o → IsHeldIn n d
        by None none = absurd (none-some d (sym (read.nothing_else n none) ∙ at))
        by (Some reading) there =
            let is = read.each n reading there in
            record { reading = reading; is = is; there = there; document = same_Some _ d (sym is.indexed ∙ at) }

    -- of the documents that the index holds, the one of its number alone stands at an address
    pub is_number_at : (address : List ℕ) (held : Numbered) → get kept address ≡ Some held → IsNumberAt readings.index held.number.0 address
    is_number_at address held at other d there = (number_of, address_of)
      where
        h : IsHeldIn other d
        h = held_in other d there

        uri : h.is.held.doc.uri ≡ d.uri
        uri = ap (λ (x : Document). x.uri) h.document

        number_of : d.uri ≡ address → other ≡ held.number.0
        number_of same =
            let one : h.is.held ≡ held = same_Some h.is.held held (sym h.is.here ∙ ap (get kept) (uri ∙ same) ∙ at) in
            sym h.is.number ∙ ap (λ (x : Numbered). x.number.0) one

        address_of : other ≡ held.number.0 → d.uri ≡ address
        address_of same =
            let number : h.is.held.number.0 ≡ held.number.0 = h.is.number ∙ same in
            sym uri ∙ are.apart h.is.held.doc.uri address h.is.held held h.is.here at (λ i. record { 0 = number i })

    module _ (all : AreAllRead kept readings) where
      pub are_trees : AreTreesOfTexts g (present_texts_of kept) (trees_of kept readings)
      are_trees address = by (get kept address) refl
        where
          by : (o : Option Numbered) → get kept address ≡ o →
              IsTreeOfText g (option_map (λ (h : Numbered). h.doc.text) o) (option_and_then (λ (h : Numbered). option_and_then tree_of (reading_at readings h.number.0)) o)
          by None none = scope.no_text
          by (Some held) at =
              let (reading, is) = all address held at in
              let (r, same) = own_reading g texts kept are readings read held.number held.doc (at_address address held at) reading is in
              subst (λ o. IsTreeOfText g (Some held.doc.text) (option_and_then tree_of o)) (sym is)
              (tree_is held.doc.text reading (subst (λ (h : Numbered). IsReadingOfText g texts h.doc.text reading) same r.reads))

      pub are_readable : (address : List ℕ) (held : Numbered) → get kept address ≡ Some held → IsReadable g held.doc.text
      are_readable address held at =
          let (reading, is) = all address held at in
          let (r, same) = own_reading g texts kept are readings read held.number held.doc (at_address address held at) reading is in
          let own = readable r.held.doc.text reading r.reads in
          subst (λ (h : Numbered). IsReadable g h.doc.text) same (record { utf8 = r.utf8; parsed = own.0; reads = own.1 })

      pub is_index : IsIndexOf (trees_of kept readings) readings.index
      is_index = record {
        entries = λ n d at.
            let h = held_in n d at in
            let tree = tree_here h.is.held.doc.uri h.is.held h.reading h.is.here (ap (reading_at readings) h.is.number ∙ h.there) in
            subst (λ (x : Document). AreEntriesAt (trees_of kept readings x.uri) x.exports) h.document (subst (λ t. AreEntriesAt t h.is.exports) (sym tree) h.is.entered);
        held = held;
        apart = λ n other d e at there same.
            let h = held_in n d at in
            let k = held_in other e there in
            let uri : h.is.held.doc.uri ≡ k.is.held.doc.uri = ap (λ (x : Document). x.uri) h.document ∙ same ∙ ap (λ (x : Document). x.uri) (sym k.document) in
            let one : h.is.held ≡ k.is.held = same_Some h.is.held k.is.held (sym h.is.here ∙ ap (get kept) uri ∙ k.is.here) in
            sym h.is.number ∙ ap (λ (x : Numbered). x.number.0) one ∙ k.is.number;
      }
        where
          held : (address : List ℕ) (tree : Parts) → trees_of kept readings address ≡ Some tree →
              (n : ℕ) × (d : Document) × (get readings.index n ≡ Some d) × (d.uri ≡ address)
          held address tree is = by (get kept address) refl
            where
              by : (o : Option Numbered) → get kept address ≡ o → (n : ℕ) × (d : Document) × (get readings.index n ≡ Some d) × (d.uri ≡ address)
              by None none = absurd (none-some tree
                  (sym (ap (option_and_then (λ (h : Numbered). option_and_then tree_of (reading_at readings h.number.0))) none) ∙ is))
              by (Some h) at =
                  let (reading, there) = all address h at in
                  let (r, same) = own_reading g texts kept are readings read h.number h.doc (at_address address h at) reading there in
                  (h.number.0, _, r.indexed, ap (λ (x : Numbered). x.doc.uri) same ∙ are.addresses address h at)

      pub is_document : (d : DocId) (doc : Doc) → IsAt kept d doc → (reading : Reading) → reading_at readings d.0 ≡ Some reading →
          IsReadingOfText g texts doc.text reading × IsDocumentAs (trees_of kept readings) readings.index d.0 doc.uri reading
      is_document d doc at reading is =
          let (r, same) = own_reading g texts kept are readings read d doc at reading is in (
            subst (λ (h : Numbered). IsReadingOfText g texts h.doc.text reading) same r.reads,
            record {
              document = record { uri = r.held.doc.uri; exports = r.exports };
              there = r.indexed;
              here = ap (λ (h : Numbered). h.doc.uri) same;
              is_tree = tree_here doc.uri (numbered d doc) reading at is;
            },
          )
