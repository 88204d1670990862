-- What is wrong with a grammar that was loaded: its faults, by their numbers, in two phases, and each list of them in its order.
-- Held against the Langium documentation, "Grammar language" and "Semantic model: type inference and declared types".
use Rattle.std.specs.Prelude.{ℕ, ◌≡◌, ◌<◌, ◌↔◌, List, Contains, AllPairs}
use Rattle.std.specs.Ordering.{nat_cmp}
use Rattle.std.specs.declared.cmp.Ordering.TheVariants.{Less}
use Rattle.std.specs.Cmp.Lexicographic.{slice_cmp}
use Rattle.lw_base.specs.declared.token.Span.{Span}
use Rattle.lw_grammar.specs.declared.fault.GrammarFault.{GrammarFault}
use Rattle.lw_grammar.specs.declared.grammar.Grammar.{Grammar}
use Rattle.lw_faults.specs.Entries.{NoEntry, SecondEntry, EntryMakesNoNode, TooManyRules}
use Rattle.lw_faults.specs.Names.{Duplicate, UnknownRule, UnknownType, NoNameRule}
use Rattle.lw_faults.specs.Derivations.{LeftRecursion, ReadsNothing, RepeatsNothing, NeverEnds}
use Rattle.lw_faults.specs.Misplaced.{MisplacedAction, MisplacedCall}
use Rattle.lw_faults.specs.DataTypes.{MixedDataTypeRule}
use Rattle.lw_faults.specs.Properties.{UnknownProperty, WrongPropertyForm, MixedProperty, NotASubtype}
use Rattle.lw_faults.specs.Circles.{CircularType, CircularCall}
use Rattle.lw_faults.specs.BadCalls.{BadCall, BadAssignment}

abbrev pub fault : ℕ → ℕ → Span → List ℕ → GrammarFault
fault number file s name = record { number = number; file = file; span = s; name = name }

module _ (g : Grammar) where
  -- the faults of types and names, which are looked for first
  pub data IsTypeFault : GrammarFault → Type 0 where
    duplicate : {file : ℕ} {s : Span} {name : List ℕ} → Duplicate g file s name → IsTypeFault (fault 4 file s name)
    unknown_rule : {file : ℕ} {s : Span} {name : List ℕ} → UnknownRule g file s name → IsTypeFault (fault 5 file s name)
    unknown_type : {file : ℕ} {s : Span} {name : List ℕ} → UnknownType g file s name → IsTypeFault (fault 6 file s name)
    unknown_property : {file : ℕ} {s : Span} {name : List ℕ} → UnknownProperty g file s name → IsTypeFault (fault 14 file s name)
    wrong_property_form : {file : ℕ} {s : Span} {name : List ℕ} → WrongPropertyForm g file s name → IsTypeFault (fault 15 file s name)
    mixed_property : {file : ℕ} {s : Span} {name : List ℕ} → MixedProperty g file s name → IsTypeFault (fault 16 file s name)
    not_a_subtype : {file : ℕ} {s : Span} {name : List ℕ} → NotASubtype g file s name → IsTypeFault (fault 17 file s name)
    no_name_rule : {file : ℕ} {s : Span} {name : List ℕ} → NoNameRule g file s name → IsTypeFault (fault 18 file s name)
    circular_type : {file : ℕ} {s : Span} {name : List ℕ} → CircularType g file s name → IsTypeFault (fault 19 file s name)

  -- nothing calls itself without end, so what rules read can be looked at
  abbrev pub HasNoCircle : Type 0
  HasNoCircle = (file : ℕ) (s : Span) (name : List ℕ) → ¬ CircularCall g file s name

  -- the others, which are looked for where there is none of those
  pub data IsCheckFault : GrammarFault → Type 0 where
    no_entry : {file : ℕ} {s : Span} {name : List ℕ} → NoEntry g file s name → IsCheckFault (fault 1 file s name)
    second_entry : {file : ℕ} {s : Span} {name : List ℕ} → SecondEntry g file s name → IsCheckFault (fault 2 file s name)
    entry_makes_no_node : {file : ℕ} {s : Span} {name : List ℕ} → EntryMakesNoNode g file s name → IsCheckFault (fault 3 file s name)
    left_recursion : {file : ℕ} {s : Span} {name : List ℕ} → HasNoCircle → LeftRecursion g file s name → IsCheckFault (fault 7 file s name)
    reads_nothing : {file : ℕ} {s : Span} {name : List ℕ} → HasNoCircle → ReadsNothing g file s name → IsCheckFault (fault 8 file s name)
    repeats_nothing : {file : ℕ} {s : Span} {name : List ℕ} → HasNoCircle → RepeatsNothing g file s name → IsCheckFault (fault 9 file s name)
    never_ends : {file : ℕ} {s : Span} {name : List ℕ} → HasNoCircle → NeverEnds g file s name → IsCheckFault (fault 10 file s name)
    misplaced_action : {file : ℕ} {s : Span} {name : List ℕ} → HasNoCircle → MisplacedAction g file s name → IsCheckFault (fault 11 file s name)
    misplaced_call : {file : ℕ} {s : Span} {name : List ℕ} → HasNoCircle → MisplacedCall g file s name → IsCheckFault (fault 12 file s name)
    mixed_data_type_rule : {file : ℕ} {s : Span} {name : List ℕ} → MixedDataTypeRule g file s name → IsCheckFault (fault 13 file s name)
    circular_call : {file : ℕ} {s : Span} {name : List ℕ} → CircularCall g file s name → IsCheckFault (fault 20 file s name)
    bad_call : {file : ℕ} {s : Span} {name : List ℕ} → BadCall g file s name → IsCheckFault (fault 21 file s name)
    bad_assignment : {file : ℕ} {s : Span} {name : List ℕ} → BadAssignment g file s name → IsCheckFault (fault 22 file s name)
    too_many_rules : {file : ℕ} {s : Span} {name : List ℕ} → TooManyRules g file s name → IsCheckFault (fault 23 file s name)

-- The order of faults: by file, start, number, then end and name. No fault comes before itself, so one list in this order has no fault twice.
pub data ComesBefore (one other : GrammarFault) : Type 0 where
  by_file : one.file < other.file → ComesBefore one other
  by_start : one.file ≡ other.file → one.span.start < other.span.start → ComesBefore one other
  by_number : one.file ≡ other.file → one.span.start ≡ other.span.start → one.number < other.number → ComesBefore one other
  by_end : one.file ≡ other.file → one.span.start ≡ other.span.start → one.number ≡ other.number → one.span.end < other.span.end → ComesBefore one other
  by_name : one.file ≡ other.file → one.span ≡ other.span → one.number ≡ other.number → slice_cmp nat_cmp one.name other.name ≡ Less → ComesBefore one other

-- exactly these faults, in their order
pub record AreFaults (IsOne : GrammarFault → Type 0) (list : List GrammarFault) : Type 0 where
  pub all : (f : GrammarFault) → Contains list f ↔ IsOne f
  pub sorted : AllPairs ComesBefore list

-- by a grammar, in each of the two phases
abbrev pub AreTypeFaults : Grammar → List GrammarFault → Type 0
AreTypeFaults g = AreFaults (IsTypeFault g)

abbrev pub AreCheckFaults : Grammar → List GrammarFault → Type 0
AreCheckFaults g = AreFaults (IsCheckFault g)
