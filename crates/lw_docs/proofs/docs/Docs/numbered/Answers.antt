use Rattle.std.proofs.Common.{subst}
use Rattle.lw_docs.specs.Documents.{AreNumbered}
use Rattle.lw_docs.proofs.View.{are_numbered}
use Rattle.lw_docs.proofs.docs.Docs.numbered.Goals as goal

pub returns : goal.returns
returns c = subst AreNumbered c.self.view_is (are_numbered c.self.inside.slots.items c.self.inside.numbers c.self.invariant.names)
