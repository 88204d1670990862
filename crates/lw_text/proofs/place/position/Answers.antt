use Rattle.lw_text.specs.declared.units.Encoding.TheVariants.{Utf16}
use Rattle.lw_text.proofs.Positions.{IsPositionIn-only}
use Rattle.lw_text.proofs.place.position.Goals as goal

pub returns-clause-only : goal.returns-clause-only
returns-clause-only c other p = IsPositionIn-only Utf16 c.args.text.now c.args.offset other _ p c.position_in.ensures
