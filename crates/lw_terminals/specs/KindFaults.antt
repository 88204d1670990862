-- What speaks against kinds, whatever the terminals' patterns are.
use Rattle.lw_kinds.specs.Rows.{KindRow}
use Rattle.lw_terminals.specs.declared.fault.TermFault.{TermFault}
use Rattle.lw_terminals.specs.declared.fault.TermFault.TheVariants.{TooManyKinds, KeywordBlank}
use Rattle.lw_terminals.specs.Limits.{AreFew, AreTooMany, IsFirstBlank}

abbrev pub IsKindFault : KindRow → TermFault → Type 0
IsKindFault row (TooManyKinds n) = AreTooMany row n
IsKindFault row (KeywordBlank file span) = AreFew row × IsFirstBlank row (record { file = file; span = span })
IsKindFault row _ = ⊥
