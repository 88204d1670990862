use Rattle.std.proofs.Common.{All, IfSome, Option, ap, subst, sym, ◌∙◌}
use Rattle.std.proofs.lemmas.List.Elements.{All-push}
use Rattle.lw_matchers.specs.TokenKinds.{TokenKinds}
use Rattle.lw_lexer.specs.Fronts.{IsFront}
use Rattle.lw_lexer.specs.declared.front.Front.{Front}
use Rattle.lw_lexer.proofs.fronts.Finder.starting_with.Goals as goal
use Rattle.lw_lexer.proofs.fronts.Finder.starting_with.Goals.{in-Some+in_ok-push, in_default}

pub loop-place-preserved : goal.loop-place-preserved
loop-place-preserved c = record {
  fronts = elim c.match-branch-3.branch [
    | in-Some+in_ok-push w ↦
        let is : IsFront c.args.self.now.lexicon w.in-Some.front =
        subst (λ (kinds : TokenKinds). IsFront kinds.lexicon w.in-Some.front) c.loop-place.invariant.same
        (subst (λ (found : Option Front). IfSome found (IsFront c.loop-place.self.lexicon)) w.in-Some.is c.in_ok-front.ensures.front) in
        subst (All (IsFront c.args.self.now.lexicon)) (sym (ap (λ v. v.items) w.fronts-is ∙ w.in_ok-push.ensures.items))
        (All-push (IsFront c.args.self.now.lexicon) c.loop-place.fronts.items w.in-Some.front c.loop-place.invariant.fronts is)
    | in_default w ↦ subst (All (IsFront c.args.self.now.lexicon)) (sym (ap (λ v. v.items) w.fronts-is)) c.loop-place.invariant.fronts
  ];
  same = c.front.ensures.same ∙ c.loop-place.invariant.same;
}
