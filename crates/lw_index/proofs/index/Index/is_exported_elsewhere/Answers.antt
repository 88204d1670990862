use Rattle.lw_index.proofs.Asked.{others_elsewhere, elsewhere_others}
use Rattle.lw_index.proofs.index.Index.is_exported_elsewhere.Goals as goal

pub returns : goal.returns
returns c = (
  λ yes. others_elsewhere c.self.inside.documents c.self.inside.names c.self.invariant c.args.self.now c.self.view_is c.args.name.now c.args.except c.args.types.now (c.is_of_others.ensures.0 yes),
  λ is. c.is_of_others.ensures.1 (elsewhere_others c.self.inside.documents c.self.inside.names c.self.invariant c.args.self.now c.self.view_is c.args.name.now c.args.except c.args.types.now is),
)
