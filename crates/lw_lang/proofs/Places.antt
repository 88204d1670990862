-- Each fault has a place in the text of its file.
use Rattle.std.proofs.Common.{◌≡◌, ◌<◌, ◌⊎◌, inl, inr, ℕ, zero, suc, List, [], ◌∷◌, ◌++◌, Option, Some, None, Contains, All, length, map, slice_get, refl, sym, ap, subst, arith}
use Rattle.std.specs.List.{flat_map}
use Rattle.std.proofs.lemmas.Option.{slice_get_within, get_or_from_slice_get}
use Rattle.std.proofs.lemmas.List.Elements.{All-contains, All-nil, All-cons, Contains-append_left, Contains-append_right}
use Rattle.lw_base.specs.declared.token.Span.{Span}
use Rattle.lw_grammar.specs.declared.grammar.Grammar.{Grammar}
use Rattle.lw_grammar.specs.declared.fault.GrammarFault.{GrammarFault}
use Rattle.lw_grammar.specs.declared.rule.Rule.{Rule}
use Rattle.lw_grammar.specs.declared.rule.Op.{Op}
use Rattle.lw_grammar.specs.declared.rule.Value0.{Value0}
use Rattle.lw_grammar.specs.declared.rule.Action.{Action}
use Rattle.lw_grammar.specs.declared.rule.RuleResult.{RuleResult}
use Rattle.lw_grammar.specs.declared.rule.RuleResult.TheVariants as result
use Rattle.lw_grammar.specs.declared.terminal.Terminal.{Terminal}
use Rattle.lw_grammar.specs.declared.declared_types.Interface.{Interface}
use Rattle.lw_grammar.specs.declared.declared_types.Attribute.{Attribute}
use Rattle.lw_grammar.specs.declared.declared_types.UnionDef.{UnionDef}
use Rattle.lw_grammar.specs.declared.declared_types.Member.{Member}
use Rattle.lw_grammar.specs.Named.{Declaration, declared_rule, declared_terminal, declared_interface, declared_union}
use Rattle.lw_grammar.specs.Leaves as leaf
use Rattle.lw_grammar.specs.Leaves.{Leaf, leaves, ValueLeaf, value_leaves}
use Rattle.lw_grammar.specs.Written as writing
use Rattle.lw_grammar.specs.Written.{WritesCall, NamesType, InfersHere, MemberNames}
use Rattle.lw_faults.specs.Steps.{Step, step, IsBehind}
use Rattle.lw_faults.specs.Names as names
use Rattle.lw_faults.specs.Names.{IsDeclaredAgain, IsSecondDeclaration, Duplicate, UnknownRule, UnknownType, NoNameRule}
use Rattle.lw_faults.specs.Entries as entries
use Rattle.lw_faults.specs.Entries.{SecondEntry, EntryMakesNoNode}
use Rattle.lw_faults.specs.Derivations as derivations
use Rattle.lw_faults.specs.Derivations.{LeftRecursion, ReadsNothing, RepeatsNothing, NeverEnds}
use Rattle.lw_faults.specs.Misplaced as misplaced
use Rattle.lw_faults.specs.Misplaced.{MisplacedAction, MisplacedCall}
use Rattle.lw_faults.specs.DataTypes as data_types
use Rattle.lw_faults.specs.DataTypes.{MixedDataTypeRule}
use Rattle.lw_faults.specs.Properties as properties
use Rattle.lw_faults.specs.Properties.{UnknownProperty, WrongPropertyForm, PutsInto, MixedProperty, NotASubtype}
use Rattle.lw_faults.specs.Circles as circles
use Rattle.lw_faults.specs.Circles.{CircularType, CircularCall}
use Rattle.lw_faults.specs.BadCalls as bad
use Rattle.lw_faults.specs.BadCalls.{BadCall, BadAssignment, CrossesBy}
use Rattle.lw_faults.specs.Faults.{IsTypeFault, IsCheckFault}
use Rattle.lw_faults.specs.Faults as faults
use Rattle.lw_faults.proofs.StepLemmas.{written, inside_rule}
use Rattle.lw_gramread.specs.PlacesWithin.{IsWithin, rule_spans, result_spans, element_spans, value_spans, terminal_spans, term_spans, interface_spans, attribute_spans, union_spans, member_spans}
use Rattle.lw_load.specs.Standing.{Stands, AreIn}
use Rattle.lw_lang.specs.Placed.{HasPlace}
use Rattle.lw_lang.proofs.Spans.{at_front, behind_front, in_each, leaf_spans, leaf_stands, value_stands, part_stands, marked_stands, term_call_stands, term_range_stands}

module _ {X : Type 0} where
  at_its_number : (xs : List X) (i : ℕ) (x : X) → slice_get xs i ≡ Some x → Contains xs x
  at_its_number xs i x is = (i, slice_get_within xs i x is, get_or_from_slice_get xs i x x is)

  in_map : {Y : Type 0} (f : Y → X) (ys : List Y) (y : Y) → Contains ys y → Contains (map f ys) (f y)
  in_map f [] y (k, inside, is) = absurd (omega (arith, inside))
  in_map f (z ∷ zs) y (zero, inside, is) = subst (λ w. Contains (f z ∷ map f zs) (f w)) is (at_front (f z) (map f zs))
  in_map f (z ∷ zs) y (suc k, inside, is) = behind_front (f z) (map f zs) (in_map f zs y (k, omega (arith, inside), is))

module _ (texts : List (List ℕ)) (g : Grammar) (stands : Stands texts g) where
  abbrev At : ℕ → Span → Type 0
  At file s = AreIn texts file (s ∷ [])

  one : (text : List ℕ) (s : Span) → IsWithin text s → All (IsWithin text) (s ∷ [])
  one text s is = All-cons (IsWithin text) s [] is (All-nil (IsWithin text))

  placed : (file : ℕ) (spans : List Span) (s : Span) → AreIn texts file spans → Contains spans s → At file s
  placed file spans s are has = record { text = are.text; there = are.there; within = one are.text s (All-contains (IsWithin are.text) spans s are.within has) }

  -- ---- rules

  in_rule : (rule : Rule) (s : Span) → Contains g.rules rule → Contains (rule_spans rule) s → At rule.file s
  in_rule rule s has there = placed rule.file (rule_spans rule) s (All-contains (λ r. AreIn texts r.file (rule_spans r)) g.rules rule stands.rules has) there

  of_rule : (rule : Rule) → Contains g.rules rule → At rule.file rule.span
  of_rule rule has = in_rule rule rule.span has (at_front rule.span (result_spans rule.result ++ element_spans rule.body))

  of_result : (rule : Rule) (s : Span) → Contains g.rules rule → Contains (result_spans rule.result) s → At rule.file s
  of_result rule s has there = in_rule rule s has (behind_front rule.span _ (Contains-append_left (result_spans rule.result) (element_spans rule.body) s there))

  in_body : (rule : Rule) (s : Span) → Contains g.rules rule → Contains (element_spans rule.body) s → At rule.file s
  in_body rule s has there = in_rule rule s has (behind_front rule.span _ (Contains-append_right (result_spans rule.result) (element_spans rule.body) s there))

  of_leaf : (rule : Rule) (l : Leaf) (s : Span) → Contains g.rules rule → Contains (leaves rule.body) l → Contains (leaf_spans l) s → At rule.file s
  of_leaf rule l s has there is = in_body rule s has (leaf_stands rule.body l s there is)

  of_call : (rule : Rule) (name : List ℕ) (s : Span) → Contains g.rules rule → Contains (leaves rule.body) (leaf.Call name s) → At rule.file s
  of_call rule name s has there = of_leaf rule (leaf.Call name s) s has there (at_front s [])

  of_act : (rule : Rule) (a : Action) → Contains g.rules rule → Contains (leaves rule.body) (leaf.Act a) → At rule.file a.span
  of_act rule a has there = of_leaf rule (leaf.Act a) a.span has there (at_front a.span [])

  of_assignment : (rule : Rule) (p : List ℕ) (op : Op) (v : Value0) (s : Span) → Contains g.rules rule → Contains (leaves rule.body) (leaf.Assign p op v s) → At rule.file s
  of_assignment rule p op v s has there = of_leaf rule (leaf.Assign p op v s) s has there (at_front s (value_spans v))

  of_value : (rule : Rule) (p : List ℕ) (op : Op) (v : Value0) (t s : Span) → Contains g.rules rule → Contains (leaves rule.body) (leaf.Assign p op v t) →
      Contains (value_spans v) s → At rule.file s
  of_value rule p op v t s has there is = of_leaf rule (leaf.Assign p op v t) s has there (behind_front t (value_spans v) is)

  of_calls : (rule : Rule) (s : Span) (name : List ℕ) → Contains g.rules rule → WritesCall rule s name → At rule.file s
  of_calls rule s name has (writing.plain there) = of_call rule name s has there
  of_calls rule s name has (writing.assigned p op v t there is) = of_value rule p op v t s has there (value_stands v (leaf.Calls name s) s is refl)
  of_calls rule s name has (WritesCall.crossed p op v t wanted there is) = of_value rule p op v t s has there (value_stands v (leaf.Cross wanted (Some name) s) s is refl)

  of_step : (rule : Rule) (before : List Step) (at : Step) (s : Span) → IsBehind g rule before at → Contains (leaf_spans at.leaf) s → At at.written.file s
  of_step rule before at s is there = of_leaf at.written at.leaf s (inside_rule g is.begins) (written g is.comes) there

  -- ---- terminals

  in_terminal : (terminal : Terminal) (s : Span) → Contains g.terminals terminal → Contains (terminal_spans terminal) s → At terminal.file s
  in_terminal terminal s has there =
      placed terminal.file (terminal_spans terminal) s (All-contains (λ t. AreIn texts t.file (terminal_spans t)) g.terminals terminal stands.terminals has) there

  of_terminal : (terminal : Terminal) → Contains g.terminals terminal → At terminal.file terminal.span
  of_terminal terminal has = in_terminal terminal terminal.span has (at_front terminal.span (term_spans terminal.body))

  in_term : (terminal : Terminal) (s : Span) → Contains g.terminals terminal → Contains (term_spans terminal.body) s → At terminal.file s
  in_term terminal s has there = in_terminal terminal s has (behind_front terminal.span (term_spans terminal.body) there)

  -- ---- types

  in_interface : (interface : Interface) (s : Span) → Contains g.interfaces interface → Contains (interface_spans interface) s → At interface.file s
  in_interface interface s has there =
      placed interface.file (interface_spans interface) s (All-contains (λ i. AreIn texts i.file (interface_spans i)) g.interfaces interface stands.interfaces has) there

  of_interface : (interface : Interface) → Contains g.interfaces interface → At interface.file interface.span
  of_interface interface has = in_interface interface interface.span has (at_front interface.span _)

  of_attributes : (interface : Interface) (attribute : Attribute) (s : Span) → Contains g.interfaces interface → Contains interface.attributes attribute →
      Contains (attribute_spans attribute) s → At interface.file s
  of_attributes interface attribute s has among there =
      in_interface interface s has (behind_front interface.span _ (Contains-append_right (map (λ above. above.1) interface.above) (flat_map attribute_spans interface.attributes) s
      (in_each attribute_spans interface.attributes attribute s among there)))

  of_above : (interface : Interface) (name : List ℕ) (s : Span) → Contains g.interfaces interface → Contains interface.above (name, s) → At interface.file s
  of_above interface name s has among =
      in_interface interface s has (behind_front interface.span _ (Contains-append_left (map (λ above. above.1) interface.above) (flat_map attribute_spans interface.attributes) s
      (in_map (λ (above : List ℕ × Span). above.1) interface.above (name, s) among)))

  in_union : (union : UnionDef) (s : Span) → Contains g.unions union → Contains (union_spans union) s → At union.file s
  in_union union s has there =
      placed union.file (union_spans union) s (All-contains (λ u. AreIn texts u.file (union_spans u)) g.unions union stands.unions has) there

  of_union : (union : UnionDef) → Contains g.unions union → At union.file union.span
  of_union union has = in_union union union.span has (at_front union.span _)

  member_stands : (member : Member) (s : Span) (name : List ℕ) → MemberNames member s name → Contains (member_spans member) s
  member_stands _ s name writing.named = at_front s []
  member_stands _ s name writing.refers = at_front s []

  -- ---- the faults of names

  declared_again : {X Y : Type 0} (declared_by : X → Declaration) (other_by : Y → Declaration) (xs : List X) (others : List Y) →
      ((x : X) → Contains xs x → At (declared_by x).file (declared_by x).span) → {again : Declaration} → IsDeclaredAgain declared_by other_by xs others again →
      At again.file again.span
  declared_again declared_by other_by xs others each (names.in_list i j first second _ _ at _) = each second (at_its_number xs j second at)
  declared_again declared_by other_by xs others each (names.across second other has _ _ _) = each second has

  second_place : {again : Declaration} → IsSecondDeclaration g again → At again.file again.span
  second_place (names.rule_ is) = declared_again declared_rule declared_terminal g.rules g.terminals of_rule is
  second_place (names.terminal_ is) = declared_again declared_terminal declared_rule g.terminals g.rules of_terminal is
  second_place (names.interface_ is) = declared_again declared_interface declared_union g.interfaces g.unions of_interface is
  second_place (names.union_ is) = declared_again declared_union declared_interface g.unions g.interfaces of_union is

  inferred_place : (file : ℕ) (s : Span) (name : List ℕ) → InfersHere g file s name → At file s
  inferred_place _ _ _ (writing.own rule has _ _) = of_rule rule has
  inferred_place _ s name (writing.infers rule has _ is) = of_result rule s has (subst (λ r. Contains (result_spans r) s) (sym is) (at_front s []))
  inferred_place _ _ _ (InfersHere.acted rule a has there _) = of_act rule a has there

  duplicate_place : (file : ℕ) (s : Span) (name : List ℕ) → Duplicate g file s name → At file s
  duplicate_place _ _ _ (names.declared is) = second_place is
  duplicate_place file s name (names.inferred here _) = inferred_place file s name here
  duplicate_place _ _ _ (names.attribute interface i j first second has _ _ at _) =
      of_attributes interface second second.span has (at_its_number interface.attributes j second at) (at_front second.span _)

  unknown_rule_place : (file : ℕ) (s : Span) (name : List ℕ) → UnknownRule g file s name → At file s
  unknown_rule_place _ s name (names.in_rule rule has writes _) = of_calls rule s name has writes
  unknown_rule_place _ s name (names.in_terminal terminal has there _) = in_term terminal s has (term_call_stands terminal.body name s there)

  type_place : (file : ℕ) (s : Span) (name : List ℕ) → NamesType g file s name → At file s
  type_place _ s name (writing.returned rule has is) = of_result rule s has (subst (λ r. Contains (result_spans r) s) (sym is) (at_front s []))
  type_place _ s name (writing.extending_type interface has among) = of_above interface name s has among
  type_place _ s name (writing.in_attribute interface attribute member has among within is) =
      of_attributes interface attribute s has among (behind_front attribute.span _ (in_each member_spans attribute.members member s within (member_stands member s name is)))
  type_place _ s name (writing.in_union union member has within is) =
      in_union union s has (behind_front union.span _ (in_each member_spans union.members member s within (member_stands member s name is)))
  type_place _ s name (NamesType.crossed rule p op v t has there is) = of_value rule p op v t s has there (value_stands v (leaf.Cross name None s) s is refl)
  type_place _ s name (writing.crossed_by rule p op v t by has there is) = of_value rule p op v t s has there (value_stands v (leaf.Cross name (Some by) s) s is refl)
  type_place _ _ _ (NamesType.acted rule a has there _) = of_act rule a has there

  name_rule_place : (file : ℕ) (s : Span) (name : List ℕ) → NoNameRule g file s name → At file s
  name_rule_place _ s wanted (names.nameless rule p op v t has there is _) = of_value rule p op v t s has there (value_stands v (leaf.Cross wanted None s) s is refl)

  circular_type_place : (file : ℕ) (s : Span) (name : List ℕ) → CircularType g file s name → At file s
  circular_type_place _ _ _ (circles.interface i interface is _) = of_interface interface (at_its_number g.interfaces i interface is.first.there)
  circular_type_place _ _ _ (circles.union u union is _) = of_union union (at_its_number g.unions u union is.first.there)
  circular_type_place _ _ _ (circles.no_interface interface above has _ _ _) = of_interface interface has

  -- ---- the faults of properties

  unknown_property_place : (file : ℕ) (s : Span) (name : List ℕ) → UnknownProperty g file s name → At file s
  unknown_property_place _ _ _ (UnknownProperty.assigned rule w before p op v s type_name is _ _ _) = of_step rule before (step w (leaf.Assign p op v s)) s is (at_front s (value_spans v))
  unknown_property_place _ _ _ (UnknownProperty.acted rule w before a put is _ _ _) = of_step rule before (step w (leaf.Act a)) a.span is (at_front a.span [])

  form_place : (file : ℕ) (s : Span) (name : List ℕ) → WrongPropertyForm g file s name → At file s
  form_place _ _ _ (WrongPropertyForm.assigned rule w before p op v s type_name attribute is _ _ _ _) = of_step rule before (step w (leaf.Assign p op v s)) s is (at_front s (value_spans v))
  form_place _ _ _ (properties.put_as_other rule w before a put attribute is _ _ _ _) = of_step rule before (step w (leaf.Act a)) a.span is (at_front a.span [])
  form_place _ _ _ (properties.put_not_taken rule w before a put attribute type_name is _ _ _ _ _) = of_step rule before (step w (leaf.Act a)) a.span is (at_front a.span [])

  put_place : (type_name p : List ℕ) (list : _) (file : ℕ) (s : Span) → PutsInto g type_name p list file s → At file s
  put_place _ p _ _ s (PutsInto.assigned {op} rule w before v is _) = of_step rule before (step w (leaf.Assign p op v s)) s is (at_front s (value_spans v))
  put_place _ _ _ _ _ (PutsInto.acted rule w before a put is _) = of_step rule before (step w (leaf.Act a)) a.span is (at_front a.span [])

  mixed_place : (file : ℕ) (s : Span) (name : List ℕ) → MixedProperty g file s name → At file s
  mixed_place file s p (properties.mixed {type_name} {list} _ _ puts _ _ _) = put_place type_name p list file s puts

  subtype_place : (file : ℕ) (s : Span) (name : List ℕ) → NotASubtype g file s name → At file s
  subtype_place _ _ _ (NotASubtype.acted rule w before a type_name is _ _ _) = of_step rule before (step w (leaf.Act a)) a.span is (at_front a.span [])
  subtype_place _ _ _ (NotASubtype.called rule w called before name s type_name below is _ _ _ _ _) = of_step rule before (step w (leaf.Call name s)) s is (at_front s [])

  pub type_fault_placed : (f : GrammarFault) → IsTypeFault g f → HasPlace texts f
  type_fault_placed _ (faults.duplicate {file} {s} {name} is) = duplicate_place file s name is
  type_fault_placed _ (faults.unknown_rule {file} {s} {name} is) = unknown_rule_place file s name is
  type_fault_placed _ (faults.unknown_type {file} {s} {name} (names.unknown here _)) = type_place file s name here
  type_fault_placed _ (faults.unknown_property {file} {s} {name} is) = unknown_property_place file s name is
  type_fault_placed _ (faults.wrong_property_form {file} {s} {name} is) = form_place file s name is
  type_fault_placed _ (faults.mixed_property {file} {s} {name} is) = mixed_place file s name is
  type_fault_placed _ (faults.not_a_subtype {file} {s} {name} is) = subtype_place file s name is
  type_fault_placed _ (faults.no_name_rule {file} {s} {name} is) = name_rule_place file s name is
  type_fault_placed _ (faults.circular_type {file} {s} {name} is) = circular_type_place file s name is

  -- ---- the faults of what rules read and do

  of_number : (r : ℕ) (rule : Rule) → slice_get g.rules r ≡ Some rule → At rule.file rule.span
  of_number r rule there = of_rule rule (at_its_number g.rules r rule there)

  repeated_place : (file : ℕ) (s : Span) (name : List ℕ) → RepeatsNothing g file s name → At file s
  repeated_place _ s _ (derivations.repeats_nothing r rule e body reached part is _) =
      in_body rule s (at_its_number g.rules r rule reached.1) (part_stands s part (marked_stands e body s is))

  action_place : (file : ℕ) (s : Span) (name : List ℕ) → MisplacedAction g file s name → At file s
  action_place _ _ _ (misplaced.simple rule w before a is _ _) = of_step rule before (step w (leaf.Act a)) a.span is (at_front a.span [])
  action_place _ _ _ (misplaced.current rule w a put is _) = of_step rule [] (step w (leaf.Act a)) a.span is (at_front a.span [])

  call_place : (file : ℕ) (s : Span) (name : List ℕ) → MisplacedCall g file s name → At file s
  call_place _ _ _ (misplaced.misplaced_call rule w called before name s is _ _) = of_step rule before (step w (leaf.Call name s)) s is (at_front s [])

  data_type_place : (file : ℕ) (s : Span) (name : List ℕ) → MixedDataTypeRule g file s name → At file s
  data_type_place _ _ _ (data_types.gives rule p has _ _) = of_rule rule has
  data_type_place _ _ _ (data_types.infers rule name s has _ _) = of_rule rule has
  data_type_place _ _ _ (data_types.returns rule name s has _ _ _) = of_rule rule has

  circular_call_place : (file : ℕ) (s : Span) (name : List ℕ) → CircularCall g file s name → At file s
  circular_call_place _ _ _ (circles.fragment_ r fragment there _) = of_number r fragment there
  circular_call_place _ _ _ (circles.terminal t terminal there _) = of_terminal terminal (at_its_number g.terminals t terminal there)

  bad_call_place : (file : ℕ) (s : Span) (name : List ℕ) → BadCall g file s name → At file s
  bad_call_place _ s name (bad.hidden rule t terminal has writes _ _) = of_calls rule s name has writes
  bad_call_place _ s name (bad.crossed_hidden rule t terminal has (bad.written p op v u wanted there is) _ _) =
      of_value rule p op v u s has there (value_stands v (leaf.Cross wanted (Some name) s) s is refl)
  bad_call_place _ s name (bad.crossed_hidden rule t terminal has (bad.by_name p op v u wanted there is _) _ _) =
      of_value rule p op v u s has there (value_stands v (leaf.Cross wanted None s) s is refl)
  bad_call_place _ s name (bad.of_rule terminal r rule has there _) = in_term terminal s has (term_call_stands terminal.body name s there)
  bad_call_place _ s _ (bad.range terminal first last has there _) = in_term terminal s has (term_range_stands terminal.body first last s there)
  bad_call_place _ s name (BadCall.crossed rule r by has (bad.written p op v t wanted there is) _ _) =
      of_value rule p op v t s has there (value_stands v (leaf.Cross wanted (Some name) s) s is refl)
  bad_call_place _ s name (BadCall.crossed rule r by has (bad.by_name p op v t wanted there is _) _ _) =
      of_value rule p op v t s has there (value_stands v (leaf.Cross wanted None s) s is refl)

  bad_assignment_place : (file : ℕ) (s : Span) (name : List ℕ) → BadAssignment g file s name → At file s
  bad_assignment_place _ _ _ (bad.flag rule p v s t name r called has there _ _ _) = of_assignment rule p _ v s has there
  bad_assignment_place _ _ _ (BadAssignment.fragment_ rule p op v s t name r called has there _ _ _) = of_assignment rule p op v s has there

  -- the start of the root file
  root_place : 0 < length g.files → At 0 (record { start = 0; end = 0 })
  root_place some = by texts stands.files
    where
      by : (ts : List (List ℕ)) → length ts ≡ length g.files → AreIn ts 0 (record { start = 0; end = 0 } ∷ [])
      by [] are = absurd (omega (arith, some, are))
      by (t ∷ ts) are = record { text = t; there = refl; within = one t (record { start = 0; end = 0 }) (omega arith, omega arith) }

  pub check_fault_placed : 0 < length g.files → (f : GrammarFault) → IsCheckFault g f → HasPlace texts f
  check_fault_placed some _ (faults.no_entry (entries.no_entry _)) = root_place some
  check_fault_placed some _ (faults.second_entry (entries.second_entry q r first rule _ _ there _ _)) = of_number r rule there
  check_fault_placed some _ (faults.entry_makes_no_node (EntryMakesNoNode.fragment_ r rule is _)) = of_number r rule is.there
  check_fault_placed some _ (faults.entry_makes_no_node (entries.data_type r rule is _)) = of_number r rule is.there
  check_fault_placed some _ (faults.left_recursion _ (derivations.left_recursion r rule reached _)) = of_number r rule reached.1
  check_fault_placed some _ (faults.reads_nothing _ (derivations.reads_nothing r rule reached _ _ _)) = of_number r rule reached.1
  check_fault_placed some _ (faults.repeats_nothing {file} {s} {name} _ is) = repeated_place file s name is
  check_fault_placed some _ (faults.never_ends _ (derivations.never_ends r rule reached _)) = of_number r rule reached.1
  check_fault_placed some _ (faults.misplaced_action {file} {s} {name} _ is) = action_place file s name is
  check_fault_placed some _ (faults.misplaced_call {file} {s} {name} _ is) = call_place file s name is
  check_fault_placed some _ (faults.mixed_data_type_rule {file} {s} {name} is) = data_type_place file s name is
  check_fault_placed some _ (faults.circular_call {file} {s} {name} is) = circular_call_place file s name is
  check_fault_placed some _ (faults.bad_call {file} {s} {name} is) = bad_call_place file s name is
  check_fault_placed some _ (faults.bad_assignment {file} {s} {name} is) = bad_assignment_place file s name is
  check_fault_placed some _ (faults.too_many_rules (entries.too_many _)) = root_place some
