-- Whether a call is one of a rule that makes nodes, by what its name means.
use Rattle.std.proofs.Common.{◌≡◌, ℕ, ◌<◌, List, Some, Bool, true, false, length, get_or, ap, ◌∙◌, subst, arith}
use Rattle.std.proofs.lemmas.Option.{slice_get_within, slice_get-get_or, get_or_from_slice_get}
use Rattle.lw_base.specs.declared.token.Span.{Span}
use Rattle.lw_grammar.specs.declared.grammar.Grammar.{Grammar}
use Rattle.lw_grammar.specs.declared.rule.Rule.{Rule}
use Rattle.lw_grammar.specs.declared.terminal.Terminal.{Terminal}
use Rattle.lw_grammar.specs.Leaves as leaf
use Rattle.lw_grammar.specs.Named.{IsRule, IsTerminal, declared_rule, declared_terminal}
use Rattle.lw_grammar.specs.Nodes.{MakesNodes}
use Rattle.lw_grammar.proofs.FirstLemmas.{first_item}
use Rattle.lw_grammar.proofs.Meaning.{one_of_two}
use Rattle.lw_faults.specs.Steps.{node, IsNodeCall}
use Rattle.lw_numbers.specs.Numbering.{IsNumbered, rule_}
use Rattle.lw_numbers.specs.Kinship.{AreNodeRules}

module _ (g : Grammar) (name : List ℕ) (s : Span) where
  module _ (r : ℕ) (rule : Rule) (is : IsRule g name r rule) (flags : List Bool) (known : AreNodeRules g flags) where
    flag_inside : r < length flags
    flag_inside = omega (arith, known.all, slice_get_within g.rules r rule is.first.there)

    pub by_flag : rule.is_fragment ≡ false → get_or flags r false ≡ true → IsNodeCall g (leaf.Call name s)
    by_flag whole flagged =
        (rule, node r rule is whole ((known.exact r rule is.first.there).1 (slice_get-get_or flags r false flag_inside ∙ ap Some flagged)))

    pub has_flag : IsNodeCall g (leaf.Call name s) → get_or flags r false ≡ true
    has_flag (called, node q other was whole makes) =
        get_or_from_slice_get flags r true false ((known.exact r rule is.first.there).0 (subst (MakesNodes g) (first_item was.first is.first) makes))

  pub not_of_terminal : (t : ℕ) (x : Terminal) → IsTerminal g name t x → ¬ IsNodeCall g (leaf.Call name s)
  not_of_terminal t x is (called, node r other was whole makes) = one_of_two declared_rule declared_terminal name g.rules g.terminals r t other x was is

  pub not_of_nothing : ((n : ℕ) → ¬ IsNumbered g name n) → ¬ IsNodeCall g (leaf.Call name s)
  not_of_nothing none (called, node r other was whole makes) = none r (rule_ r other was)
