-- The code's own words of what is put into properties of types that are inferred, and of what comes first.
use Rattle.std.specs.Prelude.{ℕ, ◌≡◌, ◌<◌, ◌⊎◌, List, Option, Some, None, Bool, true, false, not, ◌&&◌, slice_get, Contains, MatchOption, bytes_eq}
use Rattle.std.specs.Borrow.{Bor}
use Rattle.std.specs.Bool.{beq}
use Rattle.std.specs.Map.{lookup}
use Rattle.lw_base.specs.declared.token.Span.{Span}
use Rattle.lw_grammar.specs.declared.fault.GrammarFault.{GrammarFault}
use Rattle.lw_grammar.specs.declared.grammar.Grammar.{Grammar}
use Rattle.lw_grammar.specs.declared.rule.Rule.{Rule}
use Rattle.lw_grammar.specs.declared.rule.RuleResult.{RuleResult}
use Rattle.lw_grammar.specs.declared.rule.RuleResult.TheVariants.{Own, Infers}
use Rattle.lw_grammar.specs.declared.rule.Action.{Action}
use Rattle.lw_grammar.specs.Leaves.{Leaf, Assign, Act}
use Rattle.lw_grammar.specs.Subtypes.{IsDeclared}
use Rattle.lw_grammar.specs.Written.{IsInferredType}
use Rattle.lw_faults.specs.Properties.{is_list}
use Rattle.lw_faults.specs.Faults.{fault}
use Rattle.lw_faults.specs.Finding.{OneIf}
use Rattle.lw_numbers.specs.Numbering.{type_names}
use Rattle.lw_flow.specs.declared.before.Before.{Before}
use Rattle.lw_properties.specs.Asked.{SomeType}
use Rattle.lw_properties.specs.Places.{Spot, IsComeTo}
use Rattle.lw_properties.specs.declared.puts.Put.{Put}
use Rattle.lw_properties.specs.declared.firsts.At.{At}

-- ---- types that are inferred

-- what the result of a rule infers
abbrev pub InfersByResult : RuleResult → List ℕ → List ℕ → Type 0
InfersByResult Own own name = name ≡ own
InfersByResult (Infers other s) own name = name ≡ other
InfersByResult _ own name = ⊥

abbrev pub RuleInfers : Rule → List ℕ → Type 0
RuleInfers rule name = (rule.is_fragment ≡ false) × InfersByResult rule.result rule.name name

abbrev pub LeafInfers : Leaf → List ℕ → Type 0
LeafInfers (Act a) = OneIf (a.infers ≡ true) a.type_name
LeafInfers _ = λ name. ⊥

abbrev pub InfersAt : Spot → List ℕ → Type 0
InfersAt spot = LeafInfers spot.leaf

-- ---- what is put in

-- something is put into this property of the type here, at the end of a list or not
pub record Putting : Type 0 where
  pub type_name : List ℕ
  pub property : List ℕ
  pub list : Bool
  pub file : ℕ
  pub span : Span

abbrev pub putting : List ℕ → List ℕ → Bool → ℕ → Span → Putting
putting type_name p list file s = record { type_name = type_name; property = p; list = list; file = file; span = s }

abbrev pub putting_of : Put → Putting
putting_of put = putting put.type_name.now put.property.now put.list put.file put.span

module _ (g : Grammar) where
  -- a type that is inferred and not declared
  abbrev pub IsFree : List ℕ → Type 0
  IsFree name = IsInferredType g name × ¬ IsDeclared g name

  -- into the type of this number, where it is one of those
  abbrev pub PutsIn : List ℕ → Bool → ℕ → Span → ℕ → Putting → Type 0
  PutsIn p list file s number put = (t : List ℕ) × (slice_get (type_names g) number ≡ Some t) × IsFree t × (put ≡ putting t p list file s)

  abbrev pub PutBy : Rule → Before → Action → Option (List ℕ × Bool) → Putting → Type 0
  PutBy rule before a None = λ put. ⊥
  PutBy rule before a (Some into) = OneIf (IsComeTo before × IsFree a.type_name) (putting a.type_name into.0 into.1 rule.file a.span)

  abbrev pub PutHere : Rule → Before → Leaf → Putting → Type 0
  PutHere rule before (Assign p op v s) = λ put. SomeType g (λ t. IsFree t × (put ≡ putting t p (is_list op) rule.file s)) before.current.items
  PutHere rule before (Act a) = PutBy rule before a a.put
  PutHere rule before _ = λ put. ⊥

  abbrev pub PutAt : Spot → Putting → Type 0
  PutAt spot = PutHere spot.rule spot.before spot.leaf

-- ---- what comes first

abbrev pub at_of : Putting → At
at_of put = record { file = put.file; start = put.span.start }

abbrev pub IsAheadOf : At → At → Type 0
IsAheadOf one other = (one.file < other.file) ⊎ ((one.file ≡ other.file) × (one.start < other.start))

-- the type, the property, and whether it is a list
abbrev pub Key : Type 0
Key = List ℕ × List ℕ × Bool

abbrev pub key_of : Putting → Key
key_of put = (put.type_name, put.property, put.list)

-- the same, but for the list
abbrev pub other_key : Putting → Key
other_key put = (put.type_name, put.property, not put.list)

-- a key of the map, whose names are lent
abbrev pub LentKey : Type 0
LentKey = Bor (List ℕ) × Bor (List ℕ) × Bool

abbrev pub plain_key : LentKey → Key
plain_key key = (key.0.now, key.1.now, key.2)

abbrev pub is_key : LentKey → LentKey → Bool
is_key one other = (bytes_eq one.0.now other.0.now && bytes_eq one.1.now other.1.now) && beq one.2 other.2

-- one of the puts is put in there, with this key, and none with this key further ahead
pub record IsFirstAt (puts : List Putting) (key : Key) (at : At) : Type 0 where
  pub put : Putting
  pub among : Contains puts put
  pub has : key_of put ≡ key
  pub there : at_of put ≡ at
  pub none_ahead : (other : Putting) → Contains puts other → key_of other ≡ key → ¬ IsAheadOf (at_of other) at

-- these entries have of each key where it is put in first
abbrev pub AreFirstPuts : List Putting → List (LentKey × At) → Type 0
AreFirstPuts puts entries =
    (key : LentKey) → MatchOption (lookup (is_key key) entries) ((put : Putting) → Contains puts put → ¬ (key_of put ≡ plain_key key)) (IsFirstAt puts (plain_key key))

-- one of the puts puts into the same property, a list where this one is none, or the other way round, and stands ahead
abbrev pub IsMixedWith : List Putting → Putting → Type 0
IsMixedWith puts put = (other : Putting) × Contains puts other × (key_of other ≡ other_key put) × IsAheadOf (at_of other) (at_of put)

abbrev pub MixedAt : List Putting → Putting → GrammarFault → Type 0
MixedAt puts put = OneIf (IsMixedWith puts put) (fault 16 put.file put.span put.property)
