use Rattle.std.proofs.Common.{[], sym, subst, arith}
use Rattle.lw_lang.specs.Telling.{AreToldAs, none}
use Rattle.lw_lang.proofs.Telling.{told_more}
use Rattle.lw_lang.proofs.told.told.told_faults.Goals as goal

pub loop-fault-init : goal.loop-fault-init
loop-fault-init c = subst (AreToldAs c.args.g.now c.args.texts.now []) (sym c.new-told.ensures) none

pub loop-fault-preserved : goal.loop-fault-preserved
loop-fault-preserved c =
    told_more c.args.g.now c.args.texts.now c.args.faults.now c.loop-fault.fault-index c.fault-item.result c.in_ok-told_fault.field-0 (omega arith) c.fault-item.is
    c.loop-fault.invariant c.in_ok-told_fault.ensures c.in_ok-push.ensures.ok
