-- The leaves of each form of a body, of a value and of a terminal's body, where the parts of a form give theirs one after another.
use Rattle.std.proofs.Common.{◌≡◌, List, ◌∙◌}
use Rattle.std.specs.List.{flat_map}
use Rattle.std.proofs.lemmas.List.Folds.{flat_map-map}
use Rattle.lw_base.specs.declared.token.Span.{Span}
use Rattle.lw_grammar.specs.declared.rule.Element.{Element}
use Rattle.lw_grammar.specs.declared.rule.Element.TheVariants as element
use Rattle.lw_grammar.specs.declared.rule.Value0.{Value0}
use Rattle.lw_grammar.specs.declared.rule.Value0.TheVariants as value
use Rattle.lw_grammar.specs.declared.terminal.TermElement.{TermElement}
use Rattle.lw_grammar.specs.declared.terminal.TermElement.TheVariants as term
use Rattle.lw_grammar.specs.Leaves.{leaves, value_leaves}
use Rattle.lw_grammar.proofs.LeafLemmas.{leaves-Group, leaves-Choice, values_by}
use Rattle.lw_grammar.specs.Written.{term_calls, term_ranges}
use Rattle.lw_grammar.proofs.TermLemmas.{calls_by, ranges_by}

pub leaves_of-Group : (parts : List Element) (s : Span) → leaves (element.Group parts s) ≡ flat_map leaves parts
leaves_of-Group parts s = leaves-Group parts s ∙ flat_map-map (λ ls. ls) leaves parts

pub leaves_of-Choice : (parts : List Element) (s : Span) → leaves (element.Choice parts s) ≡ flat_map leaves parts
leaves_of-Choice parts s = leaves-Choice parts s ∙ flat_map-map (λ ls. ls) leaves parts

pub ruleset leaves_of_forms = (leaves_of-Group, leaves_of-Choice)

pub values_of-Choice : (parts : List Value0) (s : Span) → value_leaves (value.Choice parts s) ≡ flat_map value_leaves parts
values_of-Choice parts s = values_by _ _ (value.outs-Choice parts s) ∙ flat_map-map (λ ls. ls) value_leaves parts

pub ruleset values_of_forms = (values_of-Choice)

pub calls_of-Group : (parts : List TermElement) → term_calls (term.Group parts) ≡ flat_map term_calls parts
calls_of-Group parts = calls_by _ _ (term.outs-Group parts) ∙ flat_map-map (λ calls. calls) term_calls parts

pub calls_of-Choice : (parts : List TermElement) → term_calls (term.Choice parts) ≡ flat_map term_calls parts
calls_of-Choice parts = calls_by _ _ (term.outs-Choice parts) ∙ flat_map-map (λ calls. calls) term_calls parts

pub ruleset calls_of_forms = (calls_of-Group, calls_of-Choice)

pub ranges_of-Group : (parts : List TermElement) → term_ranges (term.Group parts) ≡ flat_map term_ranges parts
ranges_of-Group parts = ranges_by _ _ (term.outs-Group parts) ∙ flat_map-map (λ ranges. ranges) term_ranges parts

pub ranges_of-Choice : (parts : List TermElement) → term_ranges (term.Choice parts) ≡ flat_map term_ranges parts
ranges_of-Choice parts = ranges_by _ _ (term.outs-Choice parts) ∙ flat_map-map (λ ranges. ranges) term_ranges parts

pub ruleset ranges_of_forms = (ranges_of-Group, ranges_of-Choice)
