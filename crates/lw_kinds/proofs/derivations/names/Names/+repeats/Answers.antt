use Rattle.std.proofs.Common.{◌≡◌, length, Contains, OnOk, refl, subst}
use Rattle.std.proofs.lemmas.Option.{slice_get_read}
use Rattle.std.proofs.lemmas.Result.{on_ok_weaker}
use Rattle.lw_grammar.specs.declared.rule.Element.{Element}
use Rattle.lw_grammar.specs.declared.rule.Element.TheVariants.{outs-Keyword, outs-Call, outs-Assign, outs-Act, outs-Group, outs-Choice, outs-Maybe, outs-Many, outs-Some1}
use Rattle.lw_faults.specs.Faults.{fault}
use Rattle.lw_faults.specs.Reads.{MayRead}
use Rattle.lw_faults.specs.Finding.{Finds}
use Rattle.lw_kinds.specs.Telling.{TellsRepeats}
use Rattle.lw_kinds.proofs.BelowLemmas.{at_some_place}
use Rattle.lw_kinds.proofs.FindsLemmas.{Finds-none, Finds-same, Finds-then, Finds-more, Finds-all}
use Rattle.lw_kinds.proofs.RepeatForms.{tells_none, tells_parts, tells_part, tells_marked}
use Rattle.lw_kinds.proofs.derivations.names.Names.+repeats.Goals as goal

pub find_repeats-returns-in-Keyword : goal.find_repeats-returns-in-Keyword
find_repeats-returns-in-Keyword t c =
    let g = c.args.self.now.g.now in
    let rule = c.args.rule.now in
    Finds-none (TellsRepeats g rule c.args.element.now) (tells_none g rule c.in-Keyword.is (outs-Keyword _ _) (λ s no. no) (λ part no. no)) c.args.found.now

pub find_repeats-returns-in-Call : goal.find_repeats-returns-in-Call
find_repeats-returns-in-Call t c =
    let g = c.args.self.now.g.now in
    let rule = c.args.rule.now in
    Finds-none (TellsRepeats g rule c.args.element.now) (tells_none g rule c.in-Call.is (outs-Call _ _) (λ s no. no) (λ part no. no)) c.args.found.now

pub find_repeats-returns-in-Assign : goal.find_repeats-returns-in-Assign
find_repeats-returns-in-Assign t c =
    let g = c.args.self.now.g.now in
    let rule = c.args.rule.now in
    Finds-none (TellsRepeats g rule c.args.element.now) (tells_none g rule c.in-Assign.is (outs-Assign _ _ _ _) (λ s no. no) (λ part no. no)) c.args.found.now

pub find_repeats-returns-in-Act : goal.find_repeats-returns-in-Act
find_repeats-returns-in-Act t c =
    let g = c.args.self.now.g.now in
    let rule = c.args.rule.now in
    Finds-none (TellsRepeats g rule c.args.element.now) (tells_none g rule c.in-Act.is (outs-Act _) (λ s no. no) (λ part no. no)) c.args.found.now

pub find_repeats-returns-in-Group : goal.find_repeats-returns-in-Group
find_repeats-returns-in-Group t c =
    let g = c.args.self.now.g.now in
    let rule = c.args.rule.now in
    let found = c.find_each_repeats in
    on_ok_weaker found.result
    (Finds-same (λ f. (e : Element) × Contains c.in-Group.parts e × TellsRepeats g rule e f) (TellsRepeats g rule c.args.element.now)
    (tells_parts g rule c.in-Group.is (outs-Group _ _) (λ s no. no)) c.args.found.now found.new.found)
    (subst (λ es. OnOk found.result (Finds (λ f. (e : Element) × Contains es e × TellsRepeats g rule e f) c.args.found.now found.new.found)) c.as_slice.ensures found.ensures)

pub find_repeats-returns-in-Choice : goal.find_repeats-returns-in-Choice
find_repeats-returns-in-Choice t c =
    let g = c.args.self.now.g.now in
    let rule = c.args.rule.now in
    let found = c.find_each_repeats-in-Choice in
    on_ok_weaker found.result
    (Finds-same (λ f. (e : Element) × Contains c.in-Choice.parts e × TellsRepeats g rule e f) (TellsRepeats g rule c.args.element.now)
    (tells_parts g rule c.in-Choice.is (outs-Choice _ _) (λ s no. no)) c.args.found.now found.new.found)
    (subst (λ es. OnOk found.result (Finds (λ f. (e : Element) × Contains es e × TellsRepeats g rule e f) c.args.found.now found.new.found)) c.as_slice-in-Choice.ensures found.ensures)

pub find_repeats-returns-in-Maybe : goal.find_repeats-returns-in-Maybe
find_repeats-returns-in-Maybe t c =
    let g = c.args.self.now.g.now in
    let rule = c.args.rule.now in
    let found = c.find_repeats in
    on_ok_weaker found.result
    (Finds-same (TellsRepeats g rule c.in-Maybe.part) (TellsRepeats g rule c.args.element.now)
    (tells_part g rule c.in-Maybe.is (outs-Maybe _ _) (λ s no. no) (λ inner. (λ same. same, λ same. same))) c.args.found.now found.new.found)
    (subst (λ e. OnOk found.result (Finds (TellsRepeats g rule e) c.args.found.now found.new.found)) c.get.ensures found.ensures)

pub find_repeats-returns-in_ok-tell_repeated-in-Many : goal.find_repeats-returns-in_ok-tell_repeated-in-Many
find_repeats-returns-in_ok-tell_repeated-in-Many t c =
    let g = c.args.self.now.g.now in
    let rule = c.args.rule.now in
    let told = c.tell_repeated.new.found in
    let found = c.find_repeats-in-Many in
    on_ok_weaker found.result
    (Finds-then (λ f. MayRead g c.in-Many.part 0 × (f ≡ fault 9 rule.file c.in-Many.span rule.name)) (TellsRepeats g rule c.in-Many.part) (TellsRepeats g rule c.args.element.now)
    (tells_marked g rule c.in-Many.is (outs-Many _ _) (λ s. (λ both. both, λ both. both)) (λ inner. (λ same. same, λ same. same))) c.args.found.now told found.new.found
    (subst (λ e. Finds (λ f. MayRead g e 0 × (f ≡ fault 9 rule.file c.in-Many.span rule.name)) c.args.found.now told) c.get-in-Many.ensures c.in_ok-tell_repeated-in-Many.ensures))
    (subst (λ e. OnOk found.result (Finds (TellsRepeats g rule e) told found.new.found)) c.get-in-Many-2.ensures found.ensures)

pub find_repeats-returns-in_ok-tell_repeated-in-Some1 : goal.find_repeats-returns-in_ok-tell_repeated-in-Some1
find_repeats-returns-in_ok-tell_repeated-in-Some1 t c =
    let g = c.args.self.now.g.now in
    let rule = c.args.rule.now in
    let told = c.tell_repeated-in-Some1.new.found in
    let found = c.find_repeats-in-Some1 in
    on_ok_weaker found.result
    (Finds-then (λ f. MayRead g c.in-Some1.part 0 × (f ≡ fault 9 rule.file c.in-Some1.span rule.name)) (TellsRepeats g rule c.in-Some1.part) (TellsRepeats g rule c.args.element.now)
    (tells_marked g rule c.in-Some1.is (outs-Some1 _ _) (λ s. (λ both. both, λ both. both)) (λ inner. (λ same. same, λ same. same))) c.args.found.now told found.new.found
    (subst (λ e. Finds (λ f. MayRead g e 0 × (f ≡ fault 9 rule.file c.in-Some1.span rule.name)) c.args.found.now told) c.get-in-Some1.ensures c.in_ok-tell_repeated-in-Some1.ensures))
    (subst (λ e. OnOk found.result (Finds (TellsRepeats g rule e) told found.new.found)) c.get-in-Some1-2.ensures found.ensures)

pub find_each_repeats-loop-element-preserved : goal.find_each_repeats-loop-element-preserved
find_each_repeats-loop-element-preserved t c =
    let es = c.args.elements.now in
    let i = c.loop-element.element-index in
    let e = c.element-item.result in
    Finds-more (λ k e. TellsRepeats c.args.self.now.g.now c.args.rule.now e) es i e (slice_get_read es (length es) i e refl c.loop-element-test.true c.element-item.is)
    c.args.found.now c.loop-element.found c.find_repeats.new.found c.loop-element.invariant c.in_ok-find_repeats.ensures

pub find_each_repeats-returns : goal.find_each_repeats-returns
find_each_repeats-returns t c =
    let es = c.args.elements.now in
    let tells = TellsRepeats c.args.self.now.g.now c.args.rule.now in
    Finds-same _ (λ f. (e : Element) × Contains es e × tells e f) (λ f. at_some_place (λ e. tells e f) es) c.args.found.now c.loop-element.found
    (Finds-all (λ k e. tells e) es c.loop-element.element-index c.loop-element-test.false c.args.found.now c.loop-element.found c.loop-element.invariant)
