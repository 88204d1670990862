-- Each way is written out.
use Rattle.lw_faults.specs.Worked.{place}
use Rattle.lw_faults.proofs.ActsWorked.{behind, before, behind_keyword, repeated, optional, takes_none, takes_some, in_fragment}
use Rattle.lw_faults.proofs.laws.misplaced_actions.Goals as goal

pub returns : goal.returns
returns c = record {
  behind = behind (place 24 33);
  before = before;
  behind_keyword = behind_keyword;
  repeated = repeated;
  optional = optional;
  takes_none = takes_none (place 19 38);
  takes_some = takes_some;
  in_fragment = in_fragment;
}
