-- The codes of diagnostics, as docs/protocol.md lists them.
use Rattle.std.specs.Prelude.{ℕ}
use Rattle.lw_check.specs.declared.code.Code.{Code}
use Rattle.lw_check.specs.declared.code.Code.TheVariants.{UnexpectedCharacter, Unexpected, Unresolved, Duplicate, AlsoExported, OutOfRange, TooLong}

abbrev pub code_number : Code → ℕ
code_number UnexpectedCharacter = 1
code_number Unexpected = 2
code_number Unresolved = 3
code_number Duplicate = 4
code_number AlsoExported = 5
code_number OutOfRange = 6
code_number TooLong = 7
