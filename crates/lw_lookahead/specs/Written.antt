-- Where a choice is written: the file of its rule, and the choice's own place there.
use Rattle.std.specs.Prelude.{ℕ, ◌≡◌, List, Some, slice_get}
use Rattle.lw_base.specs.declared.token.Span.{Span}
use Rattle.lw_grammar.specs.declared.grammar.Grammar.{Grammar}
use Rattle.lw_grammar.specs.declared.rule.Element.{Element}
use Rattle.lw_grammar.specs.declared.rule.Element.TheOpen as layer
use Rattle.lw_grammar.specs.declared.rule.Value0.{Value0}
use Rattle.lw_grammar.specs.declared.rule.Value0.TheOpen as value
use Rattle.lw_grammar.specs.declared.rule.Rule.{Rule}
use Rattle.lw_look.specs.Sites.{PartSite, rule_of, ElementAt, ValueAt}

module _ (g : Grammar) where
  pub data IsSpanOf (s : PartSite) (span : Span) : Type 0 where
    alternatives : (es : List Element) → ElementAt g s (layer.Choice es span) → IsSpanOf s span
    values : (v : Value0) (vs : List Value0) → ValueAt g s v (value.Choice vs span) → IsSpanOf s span
    optional : (e : Element) → ElementAt g s (layer.Maybe e span) → IsSpanOf s span
    any : (e : Element) → ElementAt g s (layer.Many e span) → IsSpanOf s span
    some : (e : Element) → ElementAt g s (layer.Some1 e span) → IsSpanOf s span

  pub record IsWrittenAt (s : PartSite) (file : ℕ) (span : Span) : Type 0 where
    pub rule : Rule
    pub at : slice_get g.rules (rule_of s) ≡ Some rule
    pub in_file : rule.file ≡ file
    pub spans : IsSpanOf s span
