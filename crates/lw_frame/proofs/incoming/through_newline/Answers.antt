use Rattle.std.proofs.Common.{◌∙◌, sym}
use Rattle.lw_frame.proofs.Places.{through_some, through_none}
use Rattle.lw_frame.proofs.incoming.through_newline.Goals as goal

pub returns-in-Some : goal.returns-in-Some
returns-in-Some c = through_some c.args.bytes.now c.in-Some.at (sym c.newline_in.ensures ∙ c.in-Some.is)

pub returns-in-None : goal.returns-in-None
returns-in-None c = through_none c.args.bytes.now (sym c.newline_in.ensures ∙ c.in-None.is) c.requires
