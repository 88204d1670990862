-- One that ends with a token, and one that does not.
use Rattle.std.proofs.Common.{List, [], ◌∷◌, get_or, map, take, sym, ap, ◌∙◌, subst, subst₂, true≢false}
use Rattle.std.proofs.lemmas.List.{map-append, take_all, take_more}
use Rattle.lw_program.specs.declared.recipes.mark.TreeMark.{TreeMark}
use Rattle.lw_viable.specs.Growing.{marks_of_each, read}
use Rattle.lw_viable.specs.Visiting.{AreEnded}
use Rattle.lw_viable.specs.declared.front.Front.{Front}
use Rattle.lw_viable.proofs.EndsNext.{ended_push, ended_pass}
use Rattle.lw_viable.proofs.lists.Lists.all_ended.Goals as goal
use Rattle.lw_viable.proofs.lists.Lists.all_ended.Goals.{then-ends_with_token+in_ok-ended+in_ok-push, else-ends_with_token}

none : Front
none = record { marks = record { 0 = 0 }; rest = record { 0 = 0 } }

pub loop-front-preserved : goal.loop-front-preserved
unfolding none
loop-front-preserved c =
    let fronts = c.args.fronts.now in
    let i = c.loop-front.front-index in
    let marks_of : Front → List TreeMark = λ front. (read c.args.self.now front).marks in
    let front = get_or fronts i none in
    let made = c.loop-front.all.items in
    let more = ap (map marks_of) (take_more fronts i none c.loop-front-test.true) ∙ map-append marks_of (take i fronts) (front ∷ []) in
    elim c.if-ends_with_token.branch [
      | then-ends_with_token+in_ok-ended+in_ok-push w ↦
          subst₂ AreEnded (sym more) (sym (ap (λ all. all.items) w.all-is ∙ w.in_ok-push.ensures.items))
          (ended_push (map marks_of (take i fronts)) made (marks_of front) c.loop-front.invariant w.in_ok-ended.field-0 (c.ends_with_token.ensures.0 w.if-ends_with_token.true)
          w.in_ok-ended.ensures)
      | else-ends_with_token w ↦
          subst₂ AreEnded (sym more) (sym (ap (λ all. all.items) w.all-is))
          (ended_pass (map marks_of (take i fronts)) made (marks_of front) c.loop-front.invariant
          (λ ends. true≢false (sym (c.ends_with_token.ensures.1 ends) ∙ w.if-ends_with_token.false)))
    ]

pub returns : goal.returns
returns c =
    subst (λ fronts. AreEnded (marks_of_each c.args.self.now fronts) c.loop-front.all.items)
    (take_all c.loop-front.front-index c.args.fronts.now c.loop-front-test.false) c.loop-front.invariant
