-- The numbers by which faults are told, as docs/faults.md lists them.
use Rattle.std.specs.Prelude.{ℕ}
use Rattle.lw_faults.specs.declared.kind.FaultKind.{FaultKind}
use Rattle.lw_faults.specs.declared.kind.FaultKind.TheVariants.{NoEntry, SecondEntry, EntryWithoutNode, Duplicate, UnknownRule, UnknownType, LeftRecursion, ReadsNothing, RepeatsNothing, NeverEnds, MisplacedAction, MisplacedCall, MixedDataType, UnknownProperty, WrongPropertyForm, MixedProperty, NotSubtype, NoNameRule, CircularType, CircularCall, BadCall, BadAssignment, TooManyRules}

abbrev pub number_of : FaultKind → ℕ
number_of NoEntry = 1
number_of SecondEntry = 2
number_of EntryWithoutNode = 3
number_of Duplicate = 4
number_of UnknownRule = 5
number_of UnknownType = 6
number_of LeftRecursion = 7
number_of ReadsNothing = 8
number_of RepeatsNothing = 9
number_of NeverEnds = 10
number_of MisplacedAction = 11
number_of MisplacedCall = 12
number_of MixedDataType = 13
number_of UnknownProperty = 14
number_of WrongPropertyForm = 15
number_of MixedProperty = 16
number_of NotSubtype = 17
number_of NoNameRule = 18
number_of CircularType = 19
number_of CircularCall = 20
number_of BadCall = 21
number_of BadAssignment = 22
number_of TooManyRules = 23
