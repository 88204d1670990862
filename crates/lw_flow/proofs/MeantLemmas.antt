-- What a call does is settled, by what its name means.
use Rattle.std.proofs.Common.{◌≡◌, ℕ, List, Bool, true, false, Option, Some, None, slice_get, MatchOption, bytes_eq, inl, inr, ◌⊎◌, refl, sym, ap, ◌∙◌, subst, arith, true≢false, length, Contains}
use Rattle.std.specs.Map.{lookup}
use Rattle.std.proofs.lemmas.Bool.{cases_order}
use Rattle.std.proofs.lemmas.Option.{none-some, same_Some}
use Rattle.lw_base.specs.declared.token.Span.{Span}
use Rattle.lw_grammar.specs.declared.grammar.Grammar.{Grammar}
use Rattle.lw_grammar.specs.declared.rule.Rule.{Rule}
use Rattle.lw_grammar.specs.declared.terminal.Terminal.{Terminal}
use Rattle.lw_grammar.specs.Leaves as leaf
use Rattle.lw_grammar.specs.Leaves.{Leaf}
use Rattle.lw_grammar.specs.Named.{Declaration, StandsBefore, IsRule, IsTerminal, declared_rule, declared_terminal}
use Rattle.lw_grammar.specs.Nodes.{MakesNodes}
use Rattle.lw_grammar.proofs.FirstLemmas.{first_item}
use Rattle.lw_faults.specs.Steps.{PutsInFragment, IsNodeCall, CallsNode}
use Rattle.lw_faults.specs.Steps as steps
use Rattle.lw_numbers.specs.declared.standing.Place.{Place}
use Rattle.lw_numbers.specs.declared.standing.Standing.{Standing}
use Rattle.lw_numbers.specs.Standing.{IsBefore, StandsAs}
use Rattle.lw_numbers.specs.Tables.{Tables, AreNumbersOf}
use Rattle.lw_numbers.proofs.Meanings.{meant_before, meant_alone, before_where_meant, not_meant}
use Rattle.lw_flow.proofs.RowLemmas.{at_place}
use Rattle.lw_numbers.specs.Kinship.{AreNodeRules}
use Rattle.lw_flow.specs.declared.callee.Callee.{Callee}
use Rattle.lw_flow.specs.declared.callee.Callee.TheVariants.{Fragment, Step}
use Rattle.lw_flow.specs.declared.effect.Effect.{Effect}
use Rattle.lw_flow.specs.declared.effect.Effect.TheVariants.{Reads, Calls}
use Rattle.lw_flow.specs.Effects.{own_number, StepDoes}
use Rattle.lw_flow.specs.Effects as effect
use Rattle.lw_flow.specs.Callees.{IsCallee}
use Rattle.lw_flow.specs.Callees as call

module _ (g : Grammar) (name : List ℕ) where
  -- no rule is meant
  abbrev pub MeansNoRule : Type 0
  MeansNoRule = (r : ℕ) (rule : Rule) → ¬ IsRule g name r rule

  pub reads_no_rule : MeansNoRule → IsCallee g name (Step Reads)
  reads_no_rule none = call.step Reads (λ s (f, fragment, is). none f fragment is.0) (λ s. effect.reads (λ (called, is). not_called s called is))
    where
      not_called : (s : Span) (called : Rule) → ¬ CallsNode g (leaf.Call name s) called
      not_called s called (steps.node r _ is _ _) = none r called is

  module _ {r : ℕ} {rule : Rule} (is : IsRule g name r rule) where
    same_rule : {q : ℕ} {other : Rule} → IsRule g name q other → other ≡ rule
    same_rule was = first_item was.first is.first

    no_fragment : rule.is_fragment ≡ false → (s : Span) → ¬ PutsInFragment g (leaf.Call name s)
    no_fragment whole s (f, fragment, also) = true≢false (sym also.1 ∙ ap (λ (x : Rule). x.is_fragment) (same_rule also.0) ∙ whole)

    pub calls_node : rule.is_fragment ≡ false → MakesNodes g rule → IsCallee g name (Step (Calls (own_number g rule)))
    calls_node whole makes =
        call.step (Calls (own_number g rule)) (no_fragment whole) (λ s. effect.calls rule (steps.node r rule is whole makes))

    pub reads_text : rule.is_fragment ≡ false → ¬ MakesNodes g rule → IsCallee g name (Step Reads)
    reads_text whole none = call.step Reads (no_fragment whole) (λ s. effect.reads (λ (called, calls). not_called s called calls))
      where
        not_called : (s : Span) (called : Rule) → ¬ CallsNode g (leaf.Call name s) called
        not_called s called (steps.node q _ was _ makes) = none (subst (MakesNodes g) (same_rule was) makes)

  pub enters_fragment : {f : ℕ} → IsCallee g name (Fragment f) → (rule : Rule) × (IsRule g name f rule × (rule.is_fragment ≡ true))
  enters_fragment (call.fragment f rule is part) = (rule, (is, part))

  pub enters_none : {x : Effect} → IsCallee g name (Step x) → (s : Span) → ¬ PutsInFragment g (leaf.Call name s)
  enters_none (call.step x single may) s = single s

  apart : (a b : Declaration) → StandsBefore a b → ¬ StandsBefore b a
  apart a b (inl lt) (inl less) = omega (arith, lt, less)
  apart a b (inl lt) (inr (file, less)) = omega (arith, lt, file)
  apart a b (inr (file, lt)) (inl less) = omega (arith, less, file)
  apart a b (inr (_, lt)) (inr (_, less)) = omega (arith, lt, less)

  -- what means a terminal means no rule
  pub terminal_alone : (t : ℕ) (terminal : Terminal) → IsTerminal g name t terminal → MeansNoRule
  terminal_alone t terminal is r rule also =
      apart (declared_rule rule) (declared_terminal terminal) (also.sooner terminal (at_place g.terminals t terminal is.first.there) is.first.does)
      (is.sooner rule (at_place g.rules r rule also.first.there) also.first.does)

  -- ---- a name means a rule or none

  decide_before : (a b : Place) → IsBefore a b ⊎ (¬ IsBefore a b)
  decide_before a b = elim (cases_order a.file b.file) [
    | inl same ↦ elim (cases_order a.start b.start) [
      | inl here ↦ inr (λ before. elim before [ inl lt ↦ omega (arith, lt, same) | inr less ↦ omega (arith, less.1, here) ])
      | inr (inl less) ↦ inl (inr (same, less))
      | inr (inr more) ↦ inr (λ before. elim before [ inl lt ↦ omega (arith, lt, same) | inr less ↦ omega (arith, less.1, more) ])
    ]
    | inr (inl lt) ↦ inl (inl lt)
    | inr (inr gt) ↦ inr (λ before. elim before [ inl lt ↦ omega (arith, lt, gt) | inr less ↦ omega (arith, less.0, gt) ])
  ]

  module _ (tables : Tables) (are : AreNumbersOf g tables) where
    MeansRule : Type 0
    MeansRule = (r : ℕ) × (rule : Rule) × IsRule g name r rule

    rule_or_none : MeansRule ⊎ MeansNoRule
    unfolding MeansRule
    rule_or_none = by (lookup (bytes_eq name) tables.rules) (are.rules name) (lookup (bytes_eq name) tables.terminals) (are.terminals name)
      where
        by : (o : Option Standing) → MatchOption o ((x : Rule) → Contains g.rules x → ¬ (x.name ≡ name)) (StandsAs declared_rule 0 g.rules name) → (p : Option Standing) →
            MatchOption p ((x : Terminal) → Contains g.terminals x → ¬ (x.name ≡ name)) (StandsAs declared_terminal (length g.rules) g.terminals name) → MeansRule ⊎ MeansNoRule
        by None none p _ = inr (λ r rule is. not_meant declared_rule declared_terminal name 0 (length g.rules) g.rules g.terminals none r rule is)
        by (Some s) one None none =
            inl (one.at, one.item, meant_alone declared_rule declared_terminal name 0 (length g.rules) g.rules g.terminals s one none)
        by (Some s) one (Some t) two = elim (decide_before s.place t.earliest) [
          | inl before ↦ inl (one.at, one.item, meant_before declared_rule declared_terminal name 0 (length g.rules) g.rules g.terminals s t one two before)
          | inr not ↦ inr (λ r rule is. not (before_where_meant declared_rule declared_terminal name 0 (length g.rules) g.rules g.terminals s t one two r rule is))
        ]

    pub call_settled : (flags : List Bool) → AreNodeRules g flags → (c : Callee) × IsCallee g name c
    unfolding MeansRule
    call_settled flags nodes = elim rule_or_none [
      | inl meant ↦ by_form meant.0 meant.1 meant.2 meant.1.is_fragment refl
      | inr none ↦ (Step Reads, reads_no_rule none)
    ]
      where
        by_flag : (r : ℕ) (rule : Rule) → IsRule g name r rule → rule.is_fragment ≡ false → (o : Option Bool) → slice_get flags r ≡ o → (c : Callee) × IsCallee g name c
        by_flag r rule is whole (Some true) at = (Step (Calls (own_number g rule)), calls_node is whole ((nodes.exact r rule is.first.there).1 at))
        by_flag r rule is whole (Some false) at =
            (Step Reads, reads_text is whole (λ makes. true≢false (same_Some true false (sym ((nodes.exact r rule is.first.there).0 makes) ∙ at))))
        by_flag r rule is whole None at =
            (Step Reads, reads_text is whole (λ makes. none-some true (sym at ∙ (nodes.exact r rule is.first.there).0 makes)))

        by_form : (r : ℕ) (rule : Rule) → IsRule g name r rule → (b : Bool) → rule.is_fragment ≡ b → (c : Callee) × IsCallee g name c
        by_form r rule is true part = (Fragment r, call.fragment r rule is part)
        by_form r rule is false whole = by_flag r rule is whole (slice_get flags r) refl
