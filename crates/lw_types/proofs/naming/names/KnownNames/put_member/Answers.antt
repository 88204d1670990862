use Rattle.std.proofs.Common.{OnOk, sym, subst}
use Rattle.lw_grammar.specs.declared.declared_types.Member.{Member}
use Rattle.lw_faults.specs.Finding.{Finds}
use Rattle.lw_types.specs.Rounds.{ByMember}
use Rattle.lw_types.proofs.naming.names.KnownNames.put_member.Goals as goal

pub returns-in-Named : goal.returns-in-Named
returns-in-Named c =
    let P : Member → Type 0 =
    λ m. OnOk c.put_union.result (Finds (ByMember c.args.self.now.g.now c.args.u m) c.args.edges.now.items c.put_union.new.edges.items) in
    subst P (sym c.in-Named.is) c.put_union.ensures
