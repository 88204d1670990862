use Rattle.std.proofs.Common.{map, ap, ◌∙◌}
use Rattle.std.proofs.lemmas.Result.{on_ok_weaker}
use Rattle.lw_faults.proofs.Joining.{Finds-read}
use Rattle.lw_types.specs.NameUses.{use_of, uses}
use Rattle.lw_types.specs.Wrong.{TellsWrong}
use Rattle.lw_types.proofs.naming.names.KnownNames.find_wrong.Goals as goal

pub returns : goal.returns
returns c =
    let g = c.args.self.now.g.now in
    on_ok_weaker c.find_among.result
    (Finds-read use_of (TellsWrong g) c.as_slice.result.now (uses g) (ap (map use_of) c.as_slice.ensures.value ∙ c.requires.written)) c.find_among.ensures
