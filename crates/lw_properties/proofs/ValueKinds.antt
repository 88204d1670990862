-- What a call is to an attribute, from what it calls.
use Rattle.std.proofs.Common.{◌≡◌, ℕ, List, Bool, true, false, Option, Some, None, refl, sym, ap, ◌∙◌, subst, true≢false}
use Rattle.std.proofs.lemmas.Bool.{false_from_ne_true}
use Rattle.std.proofs.lemmas.Option.{none-some, same_Some}
use Rattle.lw_base.specs.declared.token.Span.{Span}
use Rattle.lw_grammar.specs.declared.grammar.Grammar.{Grammar}
use Rattle.lw_grammar.specs.declared.rule.Rule.{Rule}
use Rattle.lw_grammar.specs.declared.rule.RuleResult.{RuleResult}
use Rattle.lw_grammar.specs.declared.rule.RuleResult.TheVariants.{Own, Returns, Gives, Infers}
use Rattle.lw_grammar.specs.declared.terminal.Primitive.{Primitive}
use Rattle.lw_grammar.specs.declared.terminal.Primitive.TheVariants.{Text}
use Rattle.lw_grammar.specs.declared.terminal.Terminal.{Terminal}
use Rattle.lw_grammar.specs.Leaves.{Call, Literal, Calls, Cross}
use Rattle.lw_grammar.specs.Named.{IsRule, IsTerminal, declared_rule, declared_terminal}
use Rattle.lw_grammar.specs.Nodes.{MakesNodes}
use Rattle.lw_grammar.specs.Subtypes.{HasType, ResultNames}
use Rattle.lw_grammar.proofs.FirstLemmas.{first_item}
use Rattle.lw_faults.specs.Attributes.{Kind, Plain, TextsOf, NodesOf, ReferencesTo, IsKindOf}
use Rattle.lw_faults.specs.Attributes as known
use Rattle.lw_faults.specs.Steps.{CallsNode}
use Rattle.lw_faults.specs.Steps as steps
use Rattle.lw_numbers.specs.Numbering.{IsNumbered}
use Rattle.lw_numbers.specs.Numbering as numbered
use Rattle.lw_properties.specs.Kinds.{rule_kind, rule_type, typed_kind}
use Rattle.lw_properties.specs.Told.{CallsNodeOf}
use Rattle.lw_properties.proofs.Apart.{meant_apart}

module _ (g : Grammar) where
  -- ---- the type of a rule
  names_type : (fragment : Bool) (result : RuleResult) (own name : List ℕ) → fragment ≡ false → ResultNames g result own name → rule_type fragment result own ≡ Some name
  names_type true result own name whole names = absurd (true≢false whole)
  names_type false Own own name whole names = ap Some (sym names)
  names_type false (Returns other s) own name whole names = ap Some (sym names)
  names_type false (Gives primitive) own name whole names = absurd names
  names_type false (Infers other s) own name whole names = ap Some (sym names)

  type_names : (fragment : Bool) (result : RuleResult) (own name : List ℕ) → rule_type fragment result own ≡ Some name → (fragment ≡ false) × ResultNames g result own name
  type_names true result own name is = absurd (none-some name is)
  type_names false Own own name is = (refl, sym (same_Some own name is))
  type_names false (Returns other s) own name is = (refl, sym (same_Some other name is))
  type_names false (Gives primitive) own name is = absurd (none-some name is)
  type_names false (Infers other s) own name is = (refl, sym (same_Some other name is))

  pub has_type : (rule : Rule) (name : List ℕ) → HasType g rule name → rule_type rule.is_fragment rule.result rule.name ≡ Some name
  has_type rule name has = names_type rule.is_fragment rule.result rule.name name has.0 has.1

  pub type_had : (rule : Rule) (name : List ℕ) → rule_type rule.is_fragment rule.result rule.name ≡ Some name → HasType g rule name
  type_had rule name is = type_names rule.is_fragment rule.result rule.name name is

  -- ---- a call of a rule
  typed : (fragment makes : Bool) (result : RuleResult) (own name : List ℕ) → fragment ≡ false → ResultNames g result own name →
      rule_kind fragment makes result own ≡ Some (typed_kind makes name)
  typed true makes result own name whole names = absurd (true≢false whole)
  typed false makes Own own name whole names = ap (λ n. Some (typed_kind makes n)) (sym names)
  typed false makes (Returns other s) own name whole names = ap (λ n. Some (typed_kind makes n)) (sym names)
  typed false makes (Gives primitive) own name whole names = absurd names
  typed false makes (Infers other s) own name whole names = ap (λ n. Some (typed_kind makes n)) (sym names)

  plain : (fragment makes : Bool) (result : RuleResult) (own : List ℕ) (gives : Primitive) → fragment ≡ false → makes ≡ false → result ≡ Gives gives →
      rule_kind fragment makes result own ≡ Some (Plain gives)
  plain fragment makes result own gives whole none is =
      ap (λ f. rule_kind f makes result own) whole ∙ ap (λ m. rule_kind false m result own) none ∙ ap (λ r. rule_kind false false r own) is

  -- what a rule's kind says of it
  data Says (fragment makes : Bool) (result : RuleResult) (own : List ℕ) : Kind → Type 0 where
    primitive : {gives : Primitive} → fragment ≡ false → makes ≡ false → result ≡ Gives gives → Says fragment makes result own (Plain gives)
    text : {name : List ℕ} → fragment ≡ false → makes ≡ false → ResultNames g result own name → Says fragment makes result own (TextsOf name)
    node : {name : List ℕ} → fragment ≡ false → makes ≡ true → ResultNames g result own name → Says fragment makes result own (NodesOf name)

  says_typed : (makes : Bool) (result : RuleResult) (own name : List ℕ) → ResultNames g result own name → Says false makes result own (typed_kind makes name)
  says_typed true result own name names = node refl refl names
  says_typed false result own name names = text refl refl names

  says : (fragment makes : Bool) (result : RuleResult) (own : List ℕ) (kind : Kind) → rule_kind fragment makes result own ≡ Some kind → Says fragment makes result own kind
  says true makes result own kind is = absurd (none-some kind is)
  says false makes Own own kind is = subst (Says false makes Own own) (same_Some _ kind is) (says_typed makes Own own own refl)
  says false makes (Returns name s) own kind is = subst (Says false makes (Returns name s) own) (same_Some _ kind is) (says_typed makes (Returns name s) own name refl)
  says false true (Gives gives) own kind is = absurd (none-some kind is)
  says false false (Gives gives) own kind is = subst (Says false false (Gives gives) own) (same_Some _ kind is) (primitive refl refl refl)
  says false makes (Infers name s) own kind is = subst (Says false makes (Infers name s) own) (same_Some _ kind is) (says_typed makes (Infers name s) own name refl)

  module _ (name : List ℕ) (s : Span) (r : ℕ) (rule : Rule) (is : IsRule g name r rule) (makes : Bool) (told : MakesNodes g rule → makes ≡ true) (so : makes ≡ true → MakesNodes g rule) where
    makes_none : ¬ MakesNodes g rule → makes ≡ false
    makes_none none = false_from_ne_true makes (λ e. none (so e))

    pub called_rule : {kind : Kind} → IsKindOf g (Calls name s) kind → rule_kind rule.is_fragment makes rule.result rule.name ≡ Some kind
    called_rule (known.terminal t terminal meant) = absurd (meant_apart declared_rule declared_terminal name g.rules g.terminals r t rule terminal is meant)
    called_rule (known.primitive {gives} q other meant data_type is_result) =
        let same : other ≡ rule = first_item meant.first is.first in
        plain rule.is_fragment makes rule.result rule.name gives (ap (λ x. x.is_fragment) (sym same) ∙ data_type.0)
        (makes_none (λ does. data_type.1 (subst (MakesNodes g) (sym same) does))) (ap (λ x. x.result) (sym same) ∙ is_result)
    called_rule (known.text {type_name} q other meant data_type has) =
        let same : other ≡ rule = first_item meant.first is.first in
        let here : HasType g rule type_name = subst (λ x. HasType g x type_name) same has in
        typed rule.is_fragment makes rule.result rule.name type_name here.0 here.1
        ∙ ap (λ m. Some (typed_kind m type_name)) (makes_none (λ does. data_type.1 (subst (MakesNodes g) (sym same) does)))
    called_rule (known.node {type_name} q other meant does has) =
        let same : other ≡ rule = first_item meant.first is.first in
        let here : HasType g rule type_name = subst (λ x. HasType g x type_name) same has in
        typed rule.is_fragment makes rule.result rule.name type_name here.0 here.1 ∙ ap (λ m. Some (typed_kind m type_name)) (told (subst (MakesNodes g) same does))

    by_says : {kind : Kind} → Says rule.is_fragment makes rule.result rule.name kind → IsKindOf g (Calls name s) kind
    by_says (primitive whole none is_result) = known.primitive r rule is (whole, λ does. true≢false (sym (told does) ∙ none)) is_result
    by_says (text whole none names) = known.text r rule is (whole, λ does. true≢false (sym (told does) ∙ none)) (whole, names)
    by_says (node whole does names) = known.node r rule is (so does) (whole, names)

    pub rule_called : (kind : Kind) → rule_kind rule.is_fragment makes rule.result rule.name ≡ Some kind → IsKindOf g (Calls name s) kind
    rule_called kind e = by_says (says rule.is_fragment makes rule.result rule.name kind e)

  -- ---- a call of a terminal, and of nothing
  pub called_terminal : (name : List ℕ) (s : Span) (t : ℕ) (terminal : Terminal) → IsTerminal g name t terminal → {kind : Kind} → IsKindOf g (Calls name s) kind →
      Plain terminal.gives ≡ kind
  called_terminal name s t terminal is (known.terminal u other meant) = ap (λ (x : Terminal). Plain x.gives) (first_item is.first meant.first)
  called_terminal name s t terminal is (known.primitive r rule meant _ _) = absurd (meant_apart declared_rule declared_terminal name g.rules g.terminals r t rule terminal meant is)
  called_terminal name s t terminal is (known.text r rule meant _ _) = absurd (meant_apart declared_rule declared_terminal name g.rules g.terminals r t rule terminal meant is)
  called_terminal name s t terminal is (known.node r rule meant _ _) = absurd (meant_apart declared_rule declared_terminal name g.rules g.terminals r t rule terminal meant is)

  pub called_nothing : (name : List ℕ) (s : Span) → ((n : ℕ) → ¬ IsNumbered g name n) → {kind : Kind} → IsKindOf g (Calls name s) kind → ⊥
  called_nothing name s none (known.terminal t terminal meant) = none _ (numbered.terminal t terminal meant)
  called_nothing name s none (known.primitive r rule meant _ _) = none r (numbered.rule_ r rule meant)
  called_nothing name s none (known.text r rule meant _ _) = none r (numbered.rule_ r rule meant)
  called_nothing name s none (known.node r rule meant _ _) = none r (numbered.rule_ r rule meant)

  -- ---- the other parts of a value
  pub literal_kind : (text : List ℕ) (s : Span) {kind : Kind} → IsKindOf g (Literal text s) kind → Plain Text ≡ kind
  literal_kind word s known.literal = refl

  pub cross_kind : (wanted : List ℕ) (rule : Option (List ℕ)) (s : Span) {kind : Kind} → IsKindOf g (Cross wanted rule s) kind → ReferencesTo wanted ≡ kind
  cross_kind wanted rule s known.reference = refl
  cross_kind wanted rule s known.reference_by_name = refl

  pub kind_of_cross : (wanted : List ℕ) (rule : Option (List ℕ)) (s : Span) → IsKindOf g (Cross wanted rule s) (ReferencesTo wanted)
  kind_of_cross wanted None s = known.reference_by_name
  kind_of_cross wanted (Some name) s = known.reference

  -- ---- a call that makes nodes
  pub node_called : (name : List ℕ) (s : Span) (below : List ℕ) (r : ℕ) (rule : Rule) → IsRule g name r rule → CallsNodeOf g name s below →
      MakesNodes g rule × (rule_type rule.is_fragment rule.result rule.name ≡ Some below)
  node_called name s below r rule is (called, makes, has) = by makes has
    where
      by : {called : Rule} → CallsNode g (Call name s) called → HasType g called below → MakesNodes g rule × (rule_type rule.is_fragment rule.result rule.name ≡ Some below)
      by (steps.node q called meant whole does) typed =
          let same : called ≡ rule = first_item meant.first is.first in
          (subst (MakesNodes g) same does, has_type rule below (subst (λ x. HasType g x below) same typed))

  pub called_node : (name : List ℕ) (s : Span) (below : List ℕ) (r : ℕ) (rule : Rule) → IsRule g name r rule → MakesNodes g rule →
      rule_type rule.is_fragment rule.result rule.name ≡ Some below → CallsNodeOf g name s below
  called_node name s below r rule is does typed =
      let has = type_had rule below typed in (rule, steps.node r rule is has.0 does, has)

  pub no_node_called : (name : List ℕ) (s : Span) (below : List ℕ) → ((r : ℕ) (rule : Rule) → ¬ IsRule g name r rule) → ¬ CallsNodeOf g name s below
  no_node_called name s below none (called, makes, has) = by makes
    where
      by : {called : Rule} → CallsNode g (Call name s) called → ⊥
      by (steps.node q called meant _ _) = none q called meant
