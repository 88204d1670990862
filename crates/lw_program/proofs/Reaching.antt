-- The parts of a part in reach are in reach, and what they write is known.
use Rattle.std.proofs.Common.{◌≡◌, ℕ, ◌+◌, ◌<◌, ◌≤◌, List, Option, None, Some, option_map, length, slice_get, refl, ap, ◌∙◌, subst, arith}
use Rattle.std.proofs.lemmas.Option.{slice_get-map, slice_get_within}
use Rattle.lw_base.specs.declared.token.Span.{Span}
use Rattle.lw_grammar.specs.declared.grammar.Grammar.{Grammar}
use Rattle.lw_grammar.specs.declared.rule.Element.{Element, out-Element}
use Rattle.lw_grammar.specs.declared.rule.Element.TheOpen as layer
use Rattle.lw_grammar.specs.declared.rule.Element.TheOpen.{Element-F}
use Rattle.lw_grammar.specs.declared.rule.Op.{Op}
use Rattle.lw_grammar.specs.declared.rule.Rule.{Rule}
use Rattle.lw_grammar.specs.declared.rule.Value0.{Value0, out-Value0}
use Rattle.lw_grammar.specs.declared.rule.Value0.TheOpen as value
use Rattle.lw_grammar.specs.Kinds.{Kinds, AreKinds, IsKeywordKind, IsTerminalKind}
use Rattle.lw_grammar.specs.Named.{IsRule}
use Rattle.lw_grammar.specs.Size.{size, element_size}
use Rattle.lw_grammar.specs.Marks.{Mark}
use Rattle.lw_grammar.specs.Yields.{Calls}
use Rattle.lw_grammar.specs.Yields as yield
use Rattle.lw_look.specs.Sites.{◌▸◌, Part, Body, Value, element_parts, value_parts}
use Rattle.lw_look.specs.Sites as site
use Rattle.lw_look.specs.ReadBy.{PartKeyword, PartReadsBy}
use Rattle.lw_look.specs.ReadBy as read
use Rattle.lw_kinds.specs.Crossing.{IsReadBy}
use Rattle.lw_numbers.proofs.Sizes.{length-le-sum_by}
use Rattle.lw_program.specs.Reach.{IsComplete, IsInReach, AreInReach}
use Rattle.lw_program.proofs.Parts.{inner_elements}
use Rattle.lw_program.proofs.ElementForms.{inside_form}

abbrev rule_size : Rule → ℕ
rule_size rule = 1 + element_size rule.body

-- a grammar has no more rules than its size says
pub rules_few : (g : Grammar) → size g ≤ 65535 → length g.rules ≤ 65535
rules_few g small = omega (arith, length-le-sum_by rule_size (λ r. omega arith) g.rules, small)

module _ (g : Grammar) where
  pub inner_in_reach : {e : Element} (f : Element-F Element) → out-Element e ≡ f → IsInReach g (Body e) → AreInReach g Body (inner_elements f)
  inner_in_reach f is (s, reached, stands) i x at =
      (s ▸ i, reached, site.part stands (ap (λ f. slice_get (element_parts f) i) is ∙ inside_form f i x at))

  pub value_in_reach : {e : Element} {p : List ℕ} {op : Op} {v : Value0} {span : Span} → out-Element e ≡ layer.Assign p op v span → IsInReach g (Body e) →
      IsInReach g (Value v)
  value_in_reach is (s, reached, stands) = (s ▸ 0, reached, site.part stands (ap (λ f. slice_get (element_parts f) 0) is))

  pub ways_in_reach : {v : Value0} {vs : List Value0} {span : Span} → out-Value0 v ≡ value.Choice vs span → IsInReach g (Value v) → AreInReach g Value vs
  ways_in_reach {vs} is (s, reached, stands) i x at =
      (s ▸ i, reached, site.part stands (ap (λ f. slice_get (value_parts f) i) is ∙ (slice_get-map Value vs i ∙ ap (option_map Value) at)))

  pub knows_keyword : {x : Part} {text : List ℕ} → IsComplete g → IsInReach g x → PartKeyword x text → (kinds : Kinds) → AreKinds g kinds →
      (k : ℕ) × IsKeywordKind kinds text k
  knows_keyword complete (s, reached, stands) is kinds are = (complete.supplied kinds are).keyword s _ _ reached stands is

  pub knows_call : {x : Part} {name : List ℕ} → IsComplete g → IsInReach g x → PartReadsBy g x name → (kinds : Kinds) → AreKinds g kinds →
      (m : List Mark) × Calls g kinds name m
  knows_call complete (s, reached, stands) is kinds are = (complete.supplied kinds are).call s _ _ reached stands is

  -- what reads a cross-reference is known, and so is its call
  pub knows_cross : {v : Value0} {wanted : List ℕ} (written : Option (List ℕ)) {span : Span} → IsComplete g → IsInReach g (Value v) →
      out-Value0 v ≡ value.Cross wanted written span → (kinds : Kinds) → AreKinds g kinds → (name : List ℕ) × IsReadBy g wanted written name
  knows_cross None complete (s, reached, stands) is kinds are = (complete.supplied kinds are).cross s _ _ _ reached stands is
  knows_cross (Some name) complete in_reach is kinds are = (name, refl)

  pub crosses_read : {v : Value0} {wanted : List ℕ} (written : Option (List ℕ)) {span : Span} (name : List ℕ) →
      out-Value0 v ≡ value.Cross wanted written span → IsReadBy g wanted written name → PartReadsBy g (Value v) name
  crosses_read None name is by = read.crosses_by_name is by
  crosses_read {v} {wanted} (Some called) {span} name is by = subst (PartReadsBy g (Value v)) by (read.crosses is)

  -- a call of what no terminal and no rule is named gives nothing
  pub no_call : (kinds : Kinds) (name : List ℕ) (m : List Mark) → ((k : ℕ) → ¬ IsTerminalKind g kinds name k) → ((r : ℕ) (rule : Rule) → ¬ IsRule g name r rule) →
      Calls g kinds name m → ⊥
  no_call kinds name m no_terminal no_rule (yield.terminal is) = no_terminal _ is
  no_call kinds name m no_terminal no_rule (yield.rule_ r rule is gives) = no_rule r rule is

  pub rule_few : (name : List ℕ) (r : ℕ) (rule : Rule) → IsComplete g → IsRule g name r rule → r < 65536
  rule_few name r rule complete is = let below = slice_get_within g.rules r rule is.first.there in let few = complete.few in omega (arith, below, few)
