use Rattle.std.proofs.Common.{◌≡◌, ◌≢◌, ◌∷◌, [], ap, refl, sym, ◌∙◌, true≢false}
use Rattle.std.proofs.lemmas.Result.{IfOk-weaker}
use Rattle.lw_program.specs.declared.recipes.mark.TreeMark.TheVariants as mark
use Rattle.lw_grammar.specs.Sentences.{IsSentence}
use Rattle.lw_tokens.specs.Cut.{kinds, visible}
use Rattle.lw_viable.specs.Aims.{Sentence}
use Rattle.lw_viable.specs.Marked.{MeanExactly, MeanSome}
use Rattle.lw_viable.specs.ReadSoFar.{IsReadSoFar}
use Rattle.lw_parse.specs.Readings.{MeanReadings}
use Rattle.lw_parse.proofs.AllHidden.{none_visible, some_kinds}
use Rattle.lw_parse.proofs.Found.{begun_are, ok_both, read_are}
use Rattle.lw_parse.proofs.opened.readings.readings_of.Goals as goal

pub returns-then-are_hidden : goal.returns-then-are_hidden
returns-then-are_hidden c g of k faultless are =
    let tokens = c.args.tokens.now in
    let entry = c.args.parser.now.entry in
    let none : kinds (visible tokens) ≡ [] = ap kinds (none_visible tokens (c.are_hidden.ensures.0 c.if-are_hidden.true)) in
    IfOk-weaker c.begun.result (λ found. found.items ≡ (mark.Open c.entry.result ∷ []) ∷ []) (λ found. MeanReadings g of entry (kinds (visible tokens)) found.items)
    (λ found same. begun_are g of entry c.entry.result c.entry.ensures (kinds (visible tokens)) found.items none same) c.begun.ensures

pub read_front-requires : goal.read_front-requires
read_front-requires c =
    let (g, of, k, faultless, are) = c.requires in
    let known = faultless.parser.known in
    (g, of, known.program.tasks, faultless.parser.rule, record { known = known; tasks_are = refl }, faultless.parser.entry, are)

pub readings-requires : goal.readings-requires
readings-requires c =
    let (g, of, k, faultless, are) = c.requires in
    let known = faultless.parser.known in
    let hold = c.in_ok-fronts.ensures g of known.program.tasks faultless.parser.rule (record { known = known; tasks_are = refl }) faultless.parser.entry are in
    record { known = (g, of, known.program.tasks, Sentence, kinds (visible c.args.tokens.now), hold) }

pub returns : goal.returns
returns c g of k faultless are =
    let tokens = c.args.tokens.now in
    let ks = kinds (visible tokens) in
    let entry = c.args.parser.now.entry in
    let known = faultless.parser.known in
    let tasks = known.program.tasks in
    let hold = c.in_ok-fronts.ensures g of tasks faultless.parser.rule (record { known = known; tasks_are = refl }) faultless.parser.entry are in
    let some : ks ≢ [] = some_kinds tokens (λ hidden. true≢false (sym (c.are_hidden.ensures.1 hidden) ∙ c.if-are_hidden.false)) in
    ok_both c.readings.result (λ found. MeanExactly g (IsReadSoFar (IsSentence g of) ks) found.items) (λ found. MeanSome g found.items)
    (λ found. MeanReadings g of entry ks found.items)
    (λ found exact each. read_are g of entry ks some found.items exact each)
    (c.readings.ensures.all g of tasks Sentence ks hold some faultless.supplied) (c.readings.ensures.each g of tasks Sentence ks hold)
