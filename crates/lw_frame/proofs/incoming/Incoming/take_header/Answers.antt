use Rattle.std.proofs.Common.{◌∙◌}
use Rattle.lw_frame.proofs.Cuts.{grown}
use Rattle.lw_frame.proofs.incoming.Incoming.take_header.Goals as goal

pub stage_of-self-requires-clause-grown : goal.stage_of-self-requires-clause-grown
stage_of-self-requires-clause-grown c =
    grown c.args.self.now.stage c.args.self.now.start c.args.line c.args.given c.args.self.now.header.items c.args.self.now.body.items _ c.through_newline-near.result.now c.as_slice.result.now
    c.requires.stage c.requires.read c.through_newline-near.ensures (c.as_slice.ensures.value ∙ c.in_ok-extend_from_slice.ensures.items)
