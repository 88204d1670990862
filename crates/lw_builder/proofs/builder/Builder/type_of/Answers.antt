use Rattle.lw_builder.proofs.Beginning.{no_type}
use Rattle.lw_builder.proofs.builder.Builder.type_of.Goals as goal

pub unreachable-requires : goal.unreachable-requires
unreachable-requires c =
    let r = c.requires in
    no_type r.0 c.args.self.now c.args.rule.0 r.1.0 r.1.1 r.1.2 r.1.4 c.in-None.ensures
