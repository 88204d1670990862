use Rattle.std.proofs.Common.{◌∙◌, None, Some}
use Rattle.lw_index.proofs.Asked.{exports_held}
use Rattle.lw_index.proofs.index.Index.of.Goals as goal

pub returns-in-Some : goal.returns-in-Some
returns-in-Some c = c.as_slice.ensures ∙ exports_held c.self.inside.documents c.args.self.now c.args.doc.0 (Some c.in-Some.document.now) c.self.view_is c.in-Some.ensures.value

pub returns-in-None : goal.returns-in-None
returns-in-None c = exports_held c.self.inside.documents c.args.self.now c.args.doc.0 None c.self.view_is c.in-None.ensures.value
