use Rattle.std.proofs.Common.{refl}
use Rattle.lw_flow.proofs.SetLemmas.{copied_marks}
use Rattle.lw_flow.proofs.walking.put_visit.Goals as goal

pub returns : goal.returns
returns c = record {
  visit = record { enters = c.args.enters; marks = c.in_ok-marks.marks };
  is = c.in_ok-push.ensures.items;
  place = refl;
  exact = copied_marks c.in_ok-marks.marks.keys c.args.marks.now c.in_ok-marks.ensures;
}
