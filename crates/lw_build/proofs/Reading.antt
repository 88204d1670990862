-- What is kept of texts, where one more is read, and where documents come, change and go.
use Rattle.std.proofs.Common.{◌≡◌, ◌≢◌, ℕ, List, Option, Some, None, refl, sym, ap, subst, ◌∙◌, inl, inr}
use Rattle.std.specs.FinMap as all
use Rattle.std.specs.FinMap.{get}
use Rattle.std.specs.Str.{IsUtf8}
use Rattle.std.proofs.lemmas.Bool.{cases_eq}
use Rattle.std.proofs.lemmas.Option.{same_Some, none-some}
use Rattle.lw_base.specs.declared.numbers.DocId.{DocId}
use Rattle.lw_docs.specs.Documents.{AreNumbered, ByAddress, IsAt, Numbered, numbered}
use Rattle.lw_docs.specs.declared.doc.Doc.{Doc}
use Rattle.lw_grammar.specs.declared.grammar.Grammar.{Grammar}
use Rattle.lw_index.specs.Indexed.{Indexed, IsFreeFor}
use Rattle.lw_index.specs.declared.parts.Document.{Document}
use Rattle.lw_index.specs.declared.parts.Export.{Export}
use Rattle.lw_link.specs.Indexed.{AreEntriesAt}
use Rattle.lw_machine.proofs.Places.{one_or_two}
use Rattle.lw_build.specs.Readings.{AreDocumentsRead, IsDocumentRead, IsReadingOfText, reading_at, tree_of}
use Rattle.lw_build.specs.declared.readings.Reading.{Reading}
use Rattle.lw_build.specs.declared.readings.Readings.{Readings}
use Rattle.lw_build.proofs.Maps.{number_put, number_stays, number_gone, number_left}

-- a document of the same number, address and text
pub record HasSameText (held now : Numbered) : Type 0 where
  pub number : held.number ≡ now.number
  pub uri : held.doc.uri ≡ now.doc.uri
  pub text : held.doc.text ≡ now.doc.text

module _ (g : Grammar) (texts : List (List ℕ)) where
  -- the same, where the index holds the same of this number, and the document is held
  pub moved : (kept after : ByAddress) (index later : Indexed) (n : ℕ) (reading : Reading) → (is : IsDocumentRead g texts kept index n reading) →
      get later n ≡ get index n → get after is.held.doc.uri ≡ Some is.held → IsDocumentRead g texts after later n reading
  moved kept after index later n reading is same there = record {
    held = is.held;
    number = is.number;
    here = there;
    utf8 = is.utf8;
    reads = is.reads;
    exports = is.exports;
    indexed = same ∙ is.indexed;
    entered = is.entered;
  }

  module _ (kept : ByAddress) where
    -- two that stand at one number
    same_number : AreNumbered kept → (a b : Numbered) → get kept a.doc.uri ≡ Some a → get kept b.doc.uri ≡ Some b → a.number.0 ≡ b.number.0 → a.doc.uri ≡ b.doc.uri
    same_number are a b at there same = are.apart a.doc.uri b.doc.uri a b at there (λ i. record { 0 = same i })

    pub free : AreNumbered kept → (readings : Readings) → AreDocumentsRead g texts kept readings → (d : DocId) (doc : Doc) → IsAt kept d doc →
        reading_at readings d.0 ≡ None → IsFreeFor readings.index d.0 doc.uri
    free are readings read d doc at none other document there same = by (reading_at readings other) refl
      where
        by : (o : Option Reading) → reading_at readings other ≡ o → other ≡ d.0
        by None nothing = absurd (none-some document (sym (read.nothing_else other nothing) ∙ there))
        by (Some reading) is =
            let r = read.each other reading is in
            let one : record { uri = r.held.doc.uri; exports = r.exports } ≡ document = same_Some _ document (sym r.indexed ∙ there) in
            let uri : r.held.doc.uri ≡ doc.uri = ap (λ (x : Document). x.uri) one ∙ same in
            let held : r.held ≡ numbered d doc = same_Some r.held (numbered d doc) (sym r.here ∙ ap (get kept) uri ∙ at) in
            sym r.number ∙ ap (λ (h : Numbered). h.number.0) held

    -- what is kept of a document
    pub own_reading : AreNumbered kept → (readings : Readings) → AreDocumentsRead g texts kept readings → (d : DocId) (doc : Doc) → IsAt kept d doc → (reading : Reading) →
        reading_at readings d.0 ≡ Some reading → (r : IsDocumentRead g texts kept readings.index d.0 reading) × (r.held ≡ numbered d doc)
    own_reading are readings read d doc at reading is =
        let r = read.each d.0 reading is in
        let uri : r.held.doc.uri ≡ doc.uri = same_number are r.held (numbered d doc) r.here at r.number in
        (r, same_Some r.held (numbered d doc) (sym r.here ∙ ap (get kept) uri ∙ at))

    -- nothing has changed
    pub alike : (readings after : Readings) → AreDocumentsRead g texts kept readings → ((n : ℕ) → reading_at after n ≡ reading_at readings n) →
        after.index ≡ readings.index → AreDocumentsRead g texts kept after
    alike readings after read same index = record {
      each = λ n reading is. let r = read.each n reading (sym (same n) ∙ is) in
          moved kept kept readings.index after.index n reading r (ap (λ m. get m n) index) r.here;
      nothing_else = λ n none. ap (λ m. get m n) index ∙ read.nothing_else n (sym (same n) ∙ none);
    }

    -- one more is read
    pub more : (readings after : Readings) → AreDocumentsRead g texts kept readings → (d : DocId) (doc : Doc) → IsAt kept d doc → (reading : Reading) (exports : List Export) →
        IsUtf8 doc.text → IsReadingOfText g texts doc.text reading → AreEntriesAt (tree_of reading) exports → reading_at after d.0 ≡ Some reading →
        ((n : ℕ) → n ≢ d.0 → reading_at after n ≡ reading_at readings n) →
        after.index ≡ all.insert readings.index d.0 (record { uri = doc.uri; exports = exports }) → AreDocumentsRead g texts kept after
    more readings after read d doc at reading exports utf8 reads entered here others index = record { each = each; nothing_else = nothing }
      where
        document : Document
        document = record { uri = doc.uri; exports = exports }

        own : IsDocumentRead g texts kept after.index d.0 reading
        own = record {
          held = numbered d doc;
          number = refl;
          here = at;
          utf8 = utf8;
          reads = reads;
          exports = exports;
          indexed = ap (λ m. get m d.0) index ∙ number_put readings.index d.0 document;
          entered = entered;
        }

        each : (n : ℕ) (r : Reading) → reading_at after n ≡ Some r → IsDocumentRead g texts kept after.index n r
        each n r is = elim (cases_eq n d.0) [
          | inl same ↦
              let one : reading ≡ r = same_Some reading r (sym here ∙ ap (reading_at after) (sym same) ∙ is) in
              subst (λ k. IsDocumentRead g texts kept after.index k r) (sym same) (subst (IsDocumentRead g texts kept after.index d.0) one own)
          | inr other ↦
              let was = read.each n r (sym (others n other) ∙ is) in
              moved kept kept readings.index after.index n r was
              (ap (λ m. get m n) index ∙ number_stays readings.index d.0 document n other) was.here
        ]

        nothing : (n : ℕ) → reading_at after n ≡ None → get after.index n ≡ None
        nothing n none = elim (cases_eq n d.0) [
          | inl same ↦ absurd (none-some reading (sym none ∙ ap (reading_at after) same ∙ here))
          | inr other ↦ ap (λ m. get m n) index ∙ number_stays readings.index d.0 document n other ∙ read.nothing_else n (sym (others n other) ∙ none)
        ]

  -- each document has become one of the same text
  pub read_still : (kept after : ByAddress) →
      ((q : List ℕ) (held : Numbered) → get kept q ≡ Some held → (now : Numbered) × (get after q ≡ Some now) × HasSameText held now) →
      (readings : Readings) → AreDocumentsRead g texts kept readings → AreDocumentsRead g texts after readings
  read_still kept after become readings read = record { each = each; nothing_else = read.nothing_else }
    where
      each : (n : ℕ) (reading : Reading) → reading_at readings n ≡ Some reading → IsDocumentRead g texts after readings.index n reading
      each n reading is =
          let r = read.each n reading is in
          let (now, there, like) = become r.held.doc.uri r.held r.here in
          record {
            held = now;
            number = ap (λ (d : DocId). d.0) (sym like.number) ∙ r.number;
            here = ap (get after) (sym like.uri) ∙ there;
            utf8 = subst IsUtf8 like.text r.utf8;
            reads = subst (λ t. IsReadingOfText g texts t reading) like.text r.reads;
            exports = r.exports;
            indexed = r.indexed ∙ ap (λ u. Some (record { uri = u; exports = r.exports })) like.uri;
            entered = r.entered;
          }

  -- the document at one address changes, and what is kept of it goes out
  module _ (kept after : ByAddress) (address : List ℕ) (others : (q : List ℕ) → q ≢ address → get after q ≡ get kept q) (readings : Readings)
      (read : AreDocumentsRead g texts kept readings) where
    stays : (n : ℕ) (reading : Reading) (is : IsDocumentRead g texts kept readings.index n reading) → ((held : Numbered) → get kept address ≡ Some held → held.number.0 ≢ n) →
        get after is.held.doc.uri ≡ Some is.held
    stays n reading is apart = elim (one_or_two is.held.doc.uri address) [
      | inl same ↦ absurd (apart is.held (ap (get kept) (sym same) ∙ is.here) is.number)
      | inr other ↦ others is.held.doc.uri other ∙ is.here
    ]

    pub forgotten : (d : DocId) (doc : Doc) → get kept address ≡ Some (numbered d doc) → (later : Readings) → reading_at later d.0 ≡ None →
        ((n : ℕ) → n ≢ d.0 → reading_at later n ≡ reading_at readings n) → later.index ≡ all.remove readings.index d.0 → AreDocumentsRead g texts after later
    forgotten d doc at later gone left index = record { each = each; nothing_else = nothing }
      where
        each : (n : ℕ) (r : Reading) → reading_at later n ≡ Some r → IsDocumentRead g texts after later.index n r
        each n r is = elim (cases_eq n d.0) [
          | inl same ↦ absurd (none-some r (sym gone ∙ ap (reading_at later) (sym same) ∙ is))
          | inr other ↦
              let was = read.each n r (sym (left n other) ∙ is) in
              moved kept after readings.index later.index n r was (ap (λ m. get m n) index ∙ number_left readings.index d.0 n other)
              (stays n r was (λ held there same. other (sym same ∙ ap (λ (h : Numbered). h.number.0) (same_Some held (numbered d doc) (sym there ∙ at)))))
        ]

        nothing : (n : ℕ) → reading_at later n ≡ None → get later.index n ≡ None
        nothing n none = elim (cases_eq n d.0) [
          | inl same ↦ ap (λ m. get m n) index ∙ ap (get (all.remove readings.index d.0)) same ∙ number_gone readings.index d.0
          | inr other ↦ ap (λ m. get m n) index ∙ number_left readings.index d.0 n other ∙ read.nothing_else n (sym (left n other) ∙ none)
        ]

    -- a document has come
    pub came : get kept address ≡ None → AreDocumentsRead g texts after readings
    came none = record {
      each = λ n r is. let was = read.each n r is in
          moved kept after readings.index readings.index n r was refl (stays n r was (λ held there. absurd (none-some held (sym none ∙ there))));
      nothing_else = read.nothing_else;
    }
