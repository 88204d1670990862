use Rattle.std.proofs.Common.{◌∙◌, None, Some}
use Rattle.lw_index.proofs.RefsView.{answers_held}
use Rattle.lw_index.proofs.refs.refs.RefIndex.answers.Goals as goal

pub returns-in-Some : goal.returns-in-Some
returns-in-Some c = c.answers.ensures ∙ answers_held c.self.inside.documents c.args.self.now c.self.view_is c.args.doc.0 (Some c.in-Some.leads.now) c.in-Some.ensures.value

pub returns-in-None : goal.returns-in-None
returns-in-None c = answers_held c.self.inside.documents c.args.self.now c.self.view_is c.args.doc.0 None c.in-None.ensures.value
