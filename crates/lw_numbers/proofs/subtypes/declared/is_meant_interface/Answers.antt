use Rattle.std.proofs.Common.{sym, true≢false}
use Rattle.lw_grammar.specs.Named.{declared_interface, declared_union}
use Rattle.lw_numbers.proofs.SubtypesMeanings.{not_both}
use Rattle.lw_numbers.proofs.subtypes.declared.is_meant_interface.Goals as goal

pub returns-in-Union : goal.returns-in-Union
returns-in-Union c =
    let g = c.args.g.now in
    let x = c.args.interface.now in (
      λ told. absurd (true≢false (sym told)),
      λ meant. absurd (not_both declared_interface declared_union x.name g.interfaces g.unions c.args.number x c.in-Union.field-0 c.in-Union.field-1.now meant c.in-Union.ensures),
    )
