use Rattle.std.proofs.Common.{sym, true≢false}
use Rattle.lw_grammar.specs.Named.{declared_interface, declared_union}
use Rattle.lw_numbers.proofs.SubtypesMeanings.{not_both}
use Rattle.lw_numbers.proofs.subtypes.declared.is_meant_union.Goals as goal

pub returns-in-Interface : goal.returns-in-Interface
returns-in-Interface c =
    let g = c.args.g.now in
    let x = c.args.union.now in (
      λ told. absurd (true≢false (sym told)),
      λ meant. absurd (
          not_both declared_union declared_interface x.name g.unions g.interfaces c.args.number x c.in-Interface.field-0 c.in-Interface.field-1.now meant c.in-Interface.ensures
          ),
    )
