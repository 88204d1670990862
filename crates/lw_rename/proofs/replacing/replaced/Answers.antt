use Rattle.std.proofs.Common.{◌≤◌, ◌+◌, List, ℕ, length, drop, sym, ap, subst, subst₂}
use Rattle.lw_base.specs.declared.limits.TheConstants.{LONGEST_DOCUMENT}
use Rattle.lw_rename.specs.Adding.{IsAdded}
use Rattle.lw_rename.proofs.Pieces.{IsSoFar, end_long, end_whole, step_long, step_skipped, step_taken}
use Rattle.lw_rename.proofs.replacing.replaced.Goals as goal
use Rattle.lw_rename.proofs.replacing.replaced.Goals.{then-start-at+in_ok-add_both+else-not-branch, else-start-at}

pub returns-then-not-branch : goal.returns-then-not-branch
returns-then-not-branch c =
    step_long c.args.new.now c.args.text.now c.args.spans.now c.replacing.span-index _ c.replacing-test.true c.requires c.replacing.out.items c.add_both.new.out.items
    c.replacing.at c.replacing.invariant.so_far c.if-start-at.true (subst (IsAdded _ _ _) c.if-not-branch.true c.in_ok-add_both.ensures)

pub replacing-preserved : goal.replacing-preserved
replacing-preserved c = elim c.if-start-at.branch [
  | then-start-at+in_ok-add_both+else-not-branch w ↦
      let both = step_taken c.args.new.now c.args.text.now c.args.spans.now c.replacing.span-index _ c.replacing-test.true c.requires c.replacing.out.items
      w.add_both.new.out.items c.replacing.at c.replacing.invariant.so_far w.if-start-at.true (subst (IsAdded _ _ _) w.if-not-branch.false w.in_ok-add_both.ensures) in
      record {
        so_far = subst₂ (λ (x : List ℕ) (y : ℕ). IsSoFar c.args.new.now c.args.text.now x y (drop (c.replacing.span-index + 1) c.args.spans.now) c.args.spans.now)
            (sym (ap (λ v. v.items) w.out-is)) (sym w.at-is) both.0;
        short = subst (λ (x : List ℕ). length x ≤ LONGEST_DOCUMENT) (sym (ap (λ v. v.items) w.out-is)) both.1;
      }
  | else-start-at w ↦
      let rest = step_skipped c.args.new.now c.args.text.now c.args.spans.now c.replacing.span-index _ c.replacing-test.true c.requires c.replacing.out.items
      c.replacing.at c.replacing.invariant.so_far w.if-start-at.false in
      record {
        so_far = subst₂ (λ (x : List ℕ) (y : ℕ). IsSoFar c.args.new.now c.args.text.now x y (drop (c.replacing.span-index + 1) c.args.spans.now) c.args.spans.now)
            (sym (ap (λ v. v.items) w.out-is)) (sym w.at-is) rest;
        short = subst (λ (x : List ℕ). length x ≤ LONGEST_DOCUMENT) (sym (ap (λ v. v.items) w.out-is)) c.replacing.invariant.short;
      }
]

pub returns-then-not-branch-2 : goal.returns-then-not-branch-2
returns-then-not-branch-2 c =
    end_long c.args.new.now c.args.text.now c.args.spans.now c.replacing.span-index c.replacing-test.false c.replacing.out.items c.replacing.at c.replacing.invariant.so_far
    c.add.new.out.items (subst (IsAdded _ _ _) c.if-not-branch-2.true c.in_ok-add.ensures)

pub returns : goal.returns
returns c =
    end_whole c.args.new.now c.args.text.now c.args.spans.now c.replacing.span-index c.replacing-test.false c.replacing.out.items c.replacing.at c.replacing.invariant.so_far
    c.add.new.out.items (subst (IsAdded _ _ _) c.if-not-branch-2.false c.in_ok-add.ensures)
