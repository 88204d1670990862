use Rattle.std.proofs.Common.{◌≡◌, ◌≢◌, ℕ, List, Some, None, Result, Ok, Err, OnOk, OnErr, MatchBool, subst}
use Rattle.std.specs.FinMap as all
use Rattle.std.specs.Str.{IsUtf8}
use Rattle.lw_base.specs.declared.numbers.DocId.{DocId}
use Rattle.lw_docs.specs.Documents.{ByAddress, IsAt}
use Rattle.lw_docs.specs.declared.doc.Doc.{Doc}
use Rattle.lw_grammar.specs.declared.grammar.Grammar.{Grammar}
use Rattle.lw_index.specs.declared.parts.Export.{Export}
use Rattle.lw_link.specs.Indexed.{AreEntriesAt}
use Rattle.lw_build.specs.Readings.{AreDocumentsRead, HasReading, IsReadingOfText, reading_at, tree_of}
use Rattle.lw_build.specs.declared.readings.Reading.{Reading}
use Rattle.lw_build.specs.declared.readings.Readings.{Readings}
use Rattle.lw_build.proofs.Reading.{alike, free, more}
use Rattle.lw_build.proofs.readings.Readings.read_one.Goals as goal

either : (g : Grammar) (texts : List (List ℕ)) (kept : ByAddress) (readings after : Readings) → AreDocumentsRead g texts kept readings → (d : DocId) (doc : Doc) →
    IsAt kept d doc → (reading : Reading) (exports : List Export) → IsUtf8 doc.text → IsReadingOfText g texts doc.text reading → AreEntriesAt (tree_of reading) exports →
    {E : Type 0} (r : Result (Unit {0}) E) → OnOk r (reading_at after d.0 ≡ Some reading) → OnOk r ((n : ℕ) → n ≢ d.0 → reading_at after n ≡ reading_at readings n) →
    OnOk r (after.index ≡ all.insert readings.index d.0 (record { uri = doc.uri; exports = exports })) →
    OnErr r ((n : ℕ) → reading_at after n ≡ reading_at readings n) → OnErr r (after.index ≡ readings.index) → AreDocumentsRead g texts kept after
either g texts kept readings after read d doc at reading exports utf8 reads entered (Ok x) here others index refused same =
    more g texts kept readings after read d doc at reading exports utf8 reads entered here others index
either g texts kept readings after read d doc at reading exports utf8 reads entered (Err e) here others index refused same =
    alike g texts kept readings after read refused same

pub keep-requires-clause-free : goal.keep-requires-clause-free
keep-requires-clause-free c =
    free c.args.language.now.grammar c.args.language.now.texts c.args.docs.now c.numbered.ensures c.args.self.now c.requires.kept c.args.d c.doc-doc.result.now
    c.doc-doc.ensures
    (subst (λ b. MatchBool b (HasReading c.args.self.now c.args.d.0) (reading_at c.args.self.now c.args.d.0 ≡ None)) c.if-has.false c.has.ensures)

pub returns-clause-kept : goal.returns-clause-kept
returns-clause-kept c =
    let of = c.args.language.now.grammar in
    let texts = c.args.language.now.texts in
    let entered = c.in_ok-entered.entered in
    either of texts c.args.docs.now c.args.self.now c.keep.new.self c.requires.kept c.args.d c.doc-doc.result.now c.doc-doc.ensures entered.reading entered.exports.items
    c.as_text.ensures.utf8 (subst (λ (t : List ℕ). IsReadingOfText of texts t entered.reading) c.as_name-text.ensures.text c.in_ok-entered.ensures.0) c.in_ok-entered.ensures.1
    c.keep.result c.keep.ensures.here c.keep.ensures.others c.keep.ensures.index c.keep.ensures.refused c.keep.ensures.stays
