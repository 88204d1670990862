use Rattle.std.proofs.Common.{◌≤◌, ◌++◌, ◌∷◌, [], List, take, length, sym, ap, subst, ◌∙◌, arith}
use Rattle.lw_faults.specs.Finding.{Finds, OfSome}
use Rattle.lw_faults.proofs.Joining.{Finds-all, Finds-begin, Finds-iff, Finds-more}
use Rattle.lw_program.specs.declared.recipes.mark.TreeMark.{TreeMark}
use Rattle.lw_program.specs.declared.recipes.mark.TreeMark.TheVariants as mark
use Rattle.lw_complete.proofs.BlankFound.{IsFoundBy, IsName, found_more, names_of_sentences, one_grows, only_found}
use Rattle.lw_complete.proofs.starting.names_behind.Goals as goal

pub names_of_blank-requires : goal.names_of_blank-requires
names_of_blank-requires c =
    let (parser, ready, behind) = c.requires in
    let are =
    c.as_slice-in-sentences.ensures.value ∙ c.in_ok-marks.ensures
    ∙ ap (λ (ms : List TreeMark). c.args.start.now.marks ++ (mark.Put c.args.start.now.put ∷ mark.End ∷ ms)) c.as_slice.ensures in
    let (m, means, grows) =
    one_grows ready c.args.sentences.now behind c.sentences.after-index c.after-item.result c.sentences-test.true c.after-item.is c.as_slice-in-sentences.result.now are in
    (ready.lexicon, m, ready.is_blank, means, grows)

pub sentences-init : goal.sentences-init
sentences-init c parser ready trees address behind among =
    subst (Finds (OfSome (IsFoundBy ready trees address) (take 0 c.args.sentences.now)) []) (sym c.new-names.ensures.items)
    (Finds-begin (IsFoundBy ready trees address) [] c.args.sentences.now)

pub sentences-preserved : goal.sentences-preserved
sentences-preserved c parser ready trees address behind among =
    let sentences = c.args.sentences.now in
    let i = c.sentences.after-index in
    let x = c.after-item.result in
    let old = c.sentences.names.items in
    let are =
    c.as_slice-in-sentences.ensures.value ∙ c.in_ok-marks.ensures
    ∙ ap (λ (ms : List TreeMark). c.args.start.now.marks ++ (mark.Put c.args.start.now.put ∷ mark.End ∷ ms)) c.as_slice.ensures in
    Finds-more (IsFoundBy ready trees address) sentences i x c.sentences-test.true c.after-item.is
    (c.sentences.invariant parser ready trees address behind among)
    (subst (Finds (IsFoundBy ready trees address x) old) (sym c.in_ok-append.ensures.items)
    (found_more ready sentences behind i x c.sentences-test.true c.after-item.is c.as_slice-in-sentences.result.now are trees address old c.in_ok-found.found.items
    (λ m means grows. c.in_ok-found.ensures m trees address means grows among)))

pub returns : goal.returns
returns c parser ready trees address behind among =
    let sentences = c.args.sentences.now in
    let past : length sentences ≤ c.sentences.after-index = omega (arith, c.sentences-test.false) in
    only_found (IsName ready trees address) c.sentences.names.items
    (Finds-iff (names_of_sentences ready sentences behind trees address)
    (Finds-all (IsFoundBy ready trees address) sentences c.sentences.after-index past (c.sentences.invariant parser ready trees address behind among)))
