use Rattle.std.proofs.Common.{subst}
use Rattle.lw_rename.specs.Adding.{IsAdded}
use Rattle.lw_rename.proofs.Pieces.{added_both, added_short}
use Rattle.lw_rename.proofs.replacing.add_both.Goals as goal

pub returns-then-not-branch : goal.returns-then-not-branch
returns-then-not-branch c =
    added_short c.args.out.now.items c.args.before.now c.args.new.now c.add.new.out.items
    (subst (IsAdded c.args.out.now.items c.args.before.now c.add.new.out.items) c.if-not-branch.true c.in_ok-add.ensures)

pub returns : goal.returns
returns c =
    added_both c.args.out.now.items c.args.before.now c.add.new.out.items c.args.new.now c.add-2.new.out.items c.add-2.result
    (subst (IsAdded c.args.out.now.items c.args.before.now c.add.new.out.items) c.if-not-branch.false c.in_ok-add.ensures) c.add-2.ensures
