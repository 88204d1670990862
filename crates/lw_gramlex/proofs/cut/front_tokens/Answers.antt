use Rattle.std.proofs.Common.{◌+◌, ◌++◌, ◌∷◌, [], length, ap, subst, inl, inr, arith, rules}
use Rattle.std.proofs.lemmas.Str.{IsCharBoundary-start}
use Rattle.lw_gramlex.specs.FileTokens.{IsHidden, IsFileToken}
use Rattle.lw_gramlex.specs.FileCut.{IsFileCutTo}
use Rattle.lw_gramlex.proofs.CutLemmas.{IsStep, hidden_step, token_step, token_from, placed}
use Rattle.lw_gramlex.proofs.cut.front_tokens.Goals as goal
use Rattle.lw_gramlex.proofs.cut.front_tokens.Goals.{In-Some, After-token_at-kind}

-- what is passed over ends in the text
stretch_ends : (c : In-Some) → IsStep c.text-text.result.now c.front.at c.in-Some.n
stretch_ends c =
    hidden_step c.text-text.result.now c.front.at c.in-Some.n c.range_from-rest.result.now c.text-text.utf8 (omega (arith, c.front-test.true)) c.front.invariant.ends c.range_from-rest.ensures.value c.in-Some.ensures

-- the token ends in the text
token_ends : (c : After-token_at-kind) → IsStep c.text-text.result.now c.front.at c.token_at-kind.result.1
token_ends c =
    token_step c.text-text.result.now c.front.at c.token_at-kind.result.1 c.token_at-kind.result.0 c.range_from-rest.result.now c.text-text.utf8 (omega (arith, c.front-test.true)) c.front.invariant.ends c.range_from-rest.ensures.value
    c.token_at-kind.ensures

-- the cut behind the token
pushed : (c : After-token_at-kind) → IsFileCutTo c.text-text.result.now (c.front.at + c.token_at-kind.result.1) (c.front.tokens.items ++ token_from c.front.at c.token_at-kind.result.1 c.token_at-kind.result.0 ∷ [])
pushed c =
    IsFileCutTo.then c.front.invariant.cut (omega (arith, c.front-test.true)) (subst (λ x. IsFileToken x c.token_at-kind.result.0 c.token_at-kind.result.1) c.range_from-rest.ensures.value c.token_at-kind.ensures)

pub front-init : goal.front-init
front-init c = record { cut = rw c.new-tokens.ensures.items IsFileCutTo.start; ends = IsCharBoundary-start c.text-text.result.now c.text-text.utf8 }

pub overflow_add-at : goal.overflow_add-at
overflow_add-at c = omega (arith, (stretch_ends (goal.at.overflow_add-at c).In-Some).fits, ap length c.text-text.ensures.text, c.requires)

pub front-smaller-in-Some : goal.front-smaller-in-Some
front-smaller-in-Some c = omega (arith, (stretch_ends (goal.at.front-smaller-in-Some c).In-Some).some, c.front-test.true)

pub front-preserved-in-Some : goal.front-preserved-in-Some
front-preserved-in-Some c = record {
  cut = IsFileCutTo.passed c.front.invariant.cut (omega arith) (subst (λ x. IsHidden x c.in-Some.n) c.range_from-rest.ensures.value c.in-Some.ensures);
  ends = (stretch_ends (goal.at.front-preserved-in-Some c).In-Some).ends;
}

pub overflow_add-span : goal.overflow_add-span
overflow_add-span c = omega (arith, (token_ends (goal.at.overflow_add-span c).After-token_at-kind).fits, ap length c.text-text.ensures.text, c.requires)

pub overflow_cast-span-in-None : goal.overflow_cast-span-in-None
overflow_cast-span-in-None c = omega (arith, (token_ends (goal.at.overflow_cast-span-in-None c).After-token_at-kind).fits, ap length c.text-text.ensures.text, c.requires)

pub overflow_add-at-in-None : goal.overflow_add-at-in-None
overflow_add-at-in-None c = omega (arith, (token_ends (goal.at.overflow_add-at-in-None c).After-token_at-kind).fits, ap length c.text-text.ensures.text, c.requires)

pub front-smaller : goal.front-smaller
front-smaller c = omega (arith, (token_ends (goal.at.front-smaller c).After-token_at-kind).some, c.front-test.true)

pub front-preserved : goal.front-preserved
front-preserved c = record { cut = rw c.in_ok-push-in-None.ensures.items (pushed (goal.at.front-preserved c).After-token_at-kind); ends = (token_ends (goal.at.front-preserved c).After-token_at-kind).ends }

pub returns-then-eq : goal.returns-then-eq
returns-then-eq c =
    let end = c.front.at + c.token_at-kind.result.1 in
    let own : IsFileCutTo c.args.text.now end c.push.new.self.items =
    subst (λ x. IsFileCutTo x end c.push.new.self.items) c.text-text.ensures.text (rw c.in_ok-push-in-None.ensures.items (pushed (goal.at.returns-then-eq c).After-token_at-kind)) in
    let p = placed c.args.text.now end c.push.new.self.items c.text-text.ensures.utf8 own in
    record {
      cut = (end, own, inr (c.front.tokens.items, token_from c.front.at c.token_at-kind.result.1 c.token_at-kind.result.0, c.in_ok-push-in-None.ensures.items, search rules));
      places = p.places;
      forms = p.forms;
    }

pub returns : goal.returns
returns c =
    let own : IsFileCutTo c.args.text.now c.front.at c.front.tokens.items = subst (λ x. IsFileCutTo x c.front.at c.front.tokens.items) c.text-text.ensures.text c.front.invariant.cut in
    let p = placed c.args.text.now c.front.at c.front.tokens.items c.text-text.ensures.utf8 own in
    record {
      cut = (c.front.at, own, inl (omega (arith, c.front-test.false, p.ends.0, ap length c.text-text.ensures.text)));
      places = p.places;
      forms = p.forms;
    }
