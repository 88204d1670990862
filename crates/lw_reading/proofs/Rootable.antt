-- What a grammar without faults has, so that its sentences have trees.
use Rattle.std.proofs.Common.{◌≡◌, ◌≢◌, ℕ, List, Option, Some, None, Bool, true, false, Any, Contains, refl, sym, ◌∙◌, true≢false}
use Rattle.lw_base.specs.declared.token.Span.{Span}
use Rattle.lw_grammar.specs.declared.fault.GrammarFault.{GrammarFault}
use Rattle.lw_grammar.specs.declared.grammar.Grammar.{Grammar}
use Rattle.lw_grammar.specs.declared.rule.Op.{Op}
use Rattle.lw_grammar.specs.declared.rule.Rule.{Rule}
use Rattle.lw_grammar.specs.declared.rule.RuleResult.{RuleResult}
use Rattle.lw_grammar.specs.declared.rule.RuleResult.TheVariants as result
use Rattle.lw_grammar.specs.declared.rule.Value0.{Value0}
use Rattle.lw_grammar.specs.Leaves.{Assign, Call, leaves, Cross, value_leaves}
use Rattle.lw_grammar.specs.Named.{IsRule, IsEntry}
use Rattle.lw_grammar.specs.Nodes.{MakesNodes, IsDataType}
use Rattle.lw_grammar.specs.Reached.{ValueCalls}
use Rattle.lw_grammar.specs.Reached as reached
use Rattle.lw_grammar.specs.Subtypes.{HasType, ResultNames}
use Rattle.lw_faults.specs.BadCalls.{BadCall, BadAssignment}
use Rattle.lw_faults.specs.BadCalls as bad
use Rattle.lw_faults.specs.DataTypes as mixed
use Rattle.lw_faults.specs.Entries as entries
use Rattle.lw_faults.specs.Faults.{IsTypeFault, IsCheckFault, HasNoCircle, fault}
use Rattle.lw_faults.specs.Faults as list
use Rattle.lw_faults.specs.Misplaced.{FillsNode}
use Rattle.lw_faults.specs.Misplaced as misplaced
use Rattle.lw_faults.specs.Names.{UnknownType}
use Rattle.lw_faults.specs.Steps.{Step, step, IsBehind, CallsNode}
use Rattle.lw_grammar.specs.Written.{NamesType}
use Rattle.lw_grammar.specs.Written as written
use Rattle.lw_reading.specs.Numbers.{IsNumberOfType}
use Rattle.lw_reading.proofs.Numbered.{named_number}

-- a rule that makes nodes has a type; the type that a cross-reference wants has a number; a call of a rule that makes nodes comes where
-- nothing is in the node yet; no value is a fragment; the entry rule makes nodes
pub record IsRootable (g : Grammar) : Type 0 where
  pub type_of : (rule : Rule) → Contains g.rules rule → rule.is_fragment ≡ false → MakesNodes g rule → (name : List ℕ) × HasType g rule name
  pub wanted : (rule : Rule) (p : List ℕ) (op : Op) (v : Value0) (t : Span) (wanted : List ℕ) (by : Option (List ℕ)) (s : Span) → Contains g.rules rule →
      Contains (leaves rule.body) (Assign p op v t) → Contains (value_leaves v) (Cross wanted by s) → (n : ℕ) × IsNumberOfType g wanted n
  pub behind : (rule written called : Rule) (before : List Step) (name : List ℕ) (s : Span) → IsBehind g rule before (step written (Call name s)) →
      CallsNode g (Call name s) called → ¬ Any (λ x. FillsNode g x.leaf) before
  pub whole : (rule : Rule) (p : List ℕ) (op : Op) (v : Value0) (t : Span) (name : List ℕ) (r : ℕ) (called : Rule) → Contains g.rules rule →
      Contains (leaves rule.body) (Assign p op v t) → ValueCalls g v name → IsRule g name r called → called.is_fragment ≡ false
  pub entry : (r : ℕ) (rule : Rule) → IsEntry g r rule → (rule.is_fragment ≡ false) × ¬ IsDataType g rule

module _ (g : Grammar) (no_type_fault : (f : GrammarFault) → ¬ IsTypeFault g f) (no_check_fault : (f : GrammarFault) → ¬ IsCheckFault g f) where
  no_circle : HasNoCircle g
  no_circle file s name is = no_check_fault (fault 20 file s name) (list.circular_call is)

  no_unknown : (file : ℕ) (s : Span) (name : List ℕ) → ¬ UnknownType g file s name
  no_unknown file s name is = no_type_fault (fault 6 file s name) (list.unknown_type is)

  no_bad_call : (file : ℕ) (s : Span) (name : List ℕ) → ¬ BadCall g file s name
  no_bad_call file s name is = no_check_fault (fault 21 file s name) (list.bad_call is)

  no_bad_assignment : (file : ℕ) (s : Span) (name : List ℕ) → ¬ BadAssignment g file s name
  no_bad_assignment file s name is = no_check_fault (fault 22 file s name) (list.bad_assignment is)

  makes_typed : (rule : Rule) → Contains g.rules rule → rule.is_fragment ≡ false → MakesNodes g rule → (name : List ℕ) × HasType g rule name
  makes_typed rule has is makes = let (name, names) = by rule.result refl in (name, (is, names))
    where
      by : (r : RuleResult) → rule.result ≡ r → (name : List ℕ) × ResultNames g r rule.name name
      by result.Own same = (rule.name, refl)
      by (result.Returns name s) same = (name, refl)
      by (result.Gives p) same =
          absurd (no_check_fault (fault 13 rule.file rule.span rule.name) (list.mixed_data_type_rule (mixed.gives rule p has same (λ data_type. data_type.1 makes))))
      by (result.Infers name s) same = (name, refl)

  wanted_number : (rule : Rule) (p : List ℕ) (op : Op) (v : Value0) (t : Span) (wanted : List ℕ) (by : Option (List ℕ)) (s : Span) → Contains g.rules rule →
      Contains (leaves rule.body) (Assign p op v t) → Contains (value_leaves v) (Cross wanted by s) → (n : ℕ) × IsNumberOfType g wanted n
  wanted_number rule p op v t wanted None s has within is = named_number g wanted no_unknown (written.crossed rule p op v t has within is)
  wanted_number rule p op v t wanted (Some by) s has within is = named_number g wanted no_unknown (written.crossed_by rule p op v t by has within is)

  nothing_before : (rule written called : Rule) (before : List Step) (name : List ℕ) (s : Span) → IsBehind g rule before (step written (Call name s)) →
      CallsNode g (Call name s) called → ¬ Any (λ x. FillsNode g x.leaf) before
  nothing_before rule written called before name s behind calls fills =
      no_check_fault (fault 12 written.file s name)
      (list.misplaced_call no_circle (misplaced.misplaced_call rule written called before name s behind calls fills))

  no_fragment : (rule : Rule) (p : List ℕ) (op : Op) (v : Value0) (t : Span) (name : List ℕ) (r : ℕ) (called : Rule) → Contains g.rules rule →
      Contains (leaves rule.body) (Assign p op v t) → ValueCalls g v name → IsRule g name r called → called.is_fragment ≢ true
  no_fragment rule p op v t name r called has within (reached.calls s is) named same =
      no_bad_assignment rule.file t p (bad.fragment_ rule p op v t s name r called has within is named same)
  no_fragment rule p op v t name r called has within (reached.crosses wanted s is) named same =
      no_bad_call rule.file s name (bad.crossed rule r called has (bad.written p op v t wanted within is) named (λ data_type. true≢false (sym same ∙ data_type.0)))
  no_fragment rule p op v t name r called has within (reached.crosses_by_name wanted s is names) named same =
      no_bad_call rule.file s name
      (bad.crossed rule r called has (bad.by_name p op v t wanted within is names) named (λ data_type. true≢false (sym same ∙ data_type.0)))

  told : (b : Bool) → b ≢ true → b ≡ false
  told true not = absurd (not refl)
  told false not = refl

  entry_makes : (r : ℕ) (rule : Rule) → IsEntry g r rule → (rule.is_fragment ≡ false) × ¬ IsDataType g rule
  entry_makes r rule is = (
    told rule.is_fragment (λ same. no_check_fault (fault 3 rule.file rule.span rule.name) (list.entry_makes_no_node (entries.fragment_ r rule is same))),
    λ data_type. no_check_fault (fault 3 rule.file rule.span rule.name) (list.entry_makes_no_node (entries.data_type r rule is data_type)),
  )

  pub is_rootable : IsRootable g
  is_rootable = record {
    type_of = makes_typed;
    wanted = wanted_number;
    behind = nothing_before;
    whole = λ rule p op v t name r called has within calls named. told called.is_fragment (no_fragment rule p op v t name r called has within calls named);
    entry = entry_makes;
  }
