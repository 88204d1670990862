-- A rule that makes no nodes gives tokens alone.
use Rattle.std.proofs.Common.{ℕ, List, map, Contains, refl, sym, subst}
use Rattle.std.specs.List.{flat_map}
use Rattle.std.proofs.lemmas.List.Elements.{Contains-append_left, Contains-append_right}
use Rattle.lw_grammar.specs.declared.grammar.Grammar.{Grammar}
use Rattle.lw_grammar.specs.declared.rule.Element.{Element, out-Element}
use Rattle.lw_grammar.specs.declared.rule.Element.TheFolds.{map-Element}
use Rattle.lw_grammar.specs.declared.rule.Element.TheOpen.{Element-F}
use Rattle.lw_grammar.specs.declared.rule.Rule.{Rule}
use Rattle.lw_grammar.specs.Kinds.{Kinds}
use Rattle.lw_grammar.specs.Leaves.{Leaf, Keyword, Call, Assign, Act, leaves, layer_leaves}
use Rattle.lw_grammar.specs.Named.{IsRule}
use Rattle.lw_grammar.specs.Nodes.{MakesNodes}
use Rattle.lw_grammar.specs.Nodes as nodes
use Rattle.lw_grammar.proofs.LeafLemmas.{leaves_by}
use Rattle.lw_grammar.specs.Marks.{Mark}
use Rattle.lw_grammar.specs.Yields.{Yields, Gives, YieldsAll, Repeats, Calls, RuleGives}
use Rattle.lw_grammar.specs.Yields as y
use Rattle.lw_reading.proofs.GoesOn.{AllTokens, AllTokens-append}
use Rattle.lw_reading.proofs.GoesOn as on
use Rattle.lw_reading.proofs.Listed.{alone, in_flat, mapped}

module _ (g : Grammar) where
  -- the leaf puts nothing into a node, and calls no rule that does
  abbrev pub IsQuiet : Leaf → Type 0
  IsQuiet (Keyword t s) = Unit {0}
  IsQuiet (Call name s) = (r : ℕ) (rule : Rule) → IsRule g name r rule → ¬ MakesNodes g rule
  IsQuiet (Assign p op v s) = ⊥
  IsQuiet (Act a) = ⊥

  abbrev pub AreQuiet : List Leaf → Type 0
  AreQuiet ls = (l : Leaf) → Contains ls l → IsQuiet l

  pub makes_none_quiet : (rule : Rule) → ¬ MakesNodes g rule → AreQuiet (leaves rule.body)
  makes_none_quiet rule none (Keyword t s) has = tt
  makes_none_quiet rule none (Call name s) has = λ r called is makes. none (nodes.calls name s r called has is makes)
  makes_none_quiet rule none (Assign p op v s) has = none (nodes.assigns p op v s has)
  makes_none_quiet rule none (Act a) has = none (nodes.acts a has)

  abbrev RowLeaves : List Element → List Leaf
  RowLeaves es = flat_map (λ ls. ls) (map leaves es)

  module _ (kinds : Kinds) (text : List ℕ) where
    mutual
      pub tokens_of : {e : Element} {m : List Mark} → Yields g kinds e m → AreQuiet (leaves e) → AllTokens g text m
      tokens_of {e} (y.yields p) quiet =
          layer_tokens p (λ l has. quiet l (subst (λ ls. Contains ls l) (sym (leaves_by e (out-Element e) refl)) has))

      layer_tokens : {f : Element-F Element} {m : List Mark} → Gives g kinds f m → AreQuiet (layer_leaves (map-Element Element (List Leaf) leaves f)) →
          AllTokens g text m
      layer_tokens (y.keyword is) quiet = on.more on.none
      layer_tokens (y.called {name} {s} p) quiet = call_tokens p (quiet (Call name s) (alone (Call name s)))
      layer_tokens (y.assigned {p = q} {op} {v} {s} p) quiet = absurd (quiet (Assign q op v s) (alone (Assign q op v s)))
      layer_tokens (y.acted {a}) quiet = absurd (quiet (Act a) (alone (Act a)))
      layer_tokens (y.grouped p) quiet = row_tokens p quiet
      layer_tokens (y.chosen {es} {e} has p) quiet =
          tokens_of p (λ l within. quiet l (in_flat (λ ls. ls) (map leaves es) (leaves e) l (mapped leaves es e has) within))
      layer_tokens y.skipped quiet = on.none
      layer_tokens (y.taken p) quiet = tokens_of p quiet
      layer_tokens (y.repeated p) quiet = again_tokens p quiet
      layer_tokens (y.repeated_once p q) quiet = AllTokens-append g text (tokens_of p quiet) (again_tokens q quiet)

      row_tokens : {es : List Element} {m : List Mark} → YieldsAll g kinds es m → AreQuiet (RowLeaves es) → AllTokens g text m
      row_tokens y.none quiet = on.none
      row_tokens (y.more {e} {es} p q) quiet =
          AllTokens-append g text (tokens_of p (λ l has. quiet l (Contains-append_left (leaves e) (RowLeaves es) l has)))
          (row_tokens q (λ l has. quiet l (Contains-append_right (leaves e) (RowLeaves es) l has)))

      again_tokens : {e : Element} {m : List Mark} → Repeats g kinds e m → AreQuiet (leaves e) → AllTokens g text m
      again_tokens y.stop quiet = on.none
      again_tokens (y.again p q) quiet = AllTokens-append g text (tokens_of p quiet) (again_tokens q quiet)

      call_tokens : {name : List ℕ} {m : List Mark} → Calls g kinds name m → ((r : ℕ) (rule : Rule) → IsRule g name r rule → ¬ MakesNodes g rule) →
          AllTokens g text m
      call_tokens (y.terminal is) quiet = on.more on.none
      call_tokens (y.rule_ r rule is p) quiet = rule_tokens p (quiet r rule is)

      rule_tokens : {r : ℕ} {rule : Rule} {m : List Mark} → RuleGives g kinds r rule m → ¬ MakesNodes g rule → AllTokens g text m
      rule_tokens {rule} (y.fragment is p) none = tokens_of p (makes_none_quiet rule none)
      rule_tokens {rule} (y.data_type is not p) none = tokens_of p (makes_none_quiet rule none)
      rule_tokens (y.node is makes p) none = absurd (none makes)
