-- The calls and the ranges of each form of a terminal's body.
use Rattle.std.proofs.Common.{◌≡◌, ℕ, List, [], ◌∷◌, map, ap, ◌∙◌}
use Rattle.std.specs.List.{flat_map}
use Rattle.lw_base.specs.declared.token.Span.{Span}
use Rattle.lw_grammar.specs.declared.terminal.TermElement.{TermElement, out-TermElement, fold_out-TermElement}
use Rattle.lw_grammar.specs.declared.terminal.TermElement.TheFolds.{map-TermElement}
use Rattle.lw_grammar.specs.declared.terminal.TermElement.TheOpen.{TermElement-F}
use Rattle.lw_grammar.specs.declared.terminal.TermElement.TheVariants as term
use Rattle.lw_grammar.specs.Written.{term_calls, term_layer_calls, Range, term_ranges, term_layer_ranges}

pub calls_by : (e : TermElement) (f : TermElement-F TermElement) → out-TermElement e ≡ f →
    term_calls e ≡ term_layer_calls (map-TermElement TermElement (List (List ℕ × Span)) term_calls f)
calls_by e f is =
    fold_out-TermElement (List (List ℕ × Span)) term_layer_calls e
    ∙ ap (λ f. term_layer_calls (map-TermElement TermElement (List (List ℕ × Span)) term_calls f)) is

pub calls-Literal : (text : List ℕ) (s : Span) → term_calls (term.Literal text s) ≡ []
calls-Literal text s = calls_by _ _ (term.outs-Literal text s)

pub calls-Pattern : (text : List ℕ) (s : Span) → term_calls (term.Pattern text s) ≡ []
calls-Pattern text s = calls_by _ _ (term.outs-Pattern text s)

pub calls-Range : (first last : List ℕ) (s : Span) → term_calls (term.Range first last s) ≡ []
calls-Range first last s = calls_by _ _ (term.outs-Range first last s)

pub calls-Call : (name : List ℕ) (s : Span) → term_calls (term.Call name s) ≡ (name, s) ∷ []
calls-Call name s = calls_by _ _ (term.outs-Call name s)

pub calls-Group : (parts : List TermElement) → term_calls (term.Group parts) ≡ flat_map (λ calls. calls) (map term_calls parts)
calls-Group parts = calls_by _ _ (term.outs-Group parts)

pub calls-Maybe : (part : TermElement) → term_calls (term.Maybe part) ≡ term_calls part
calls-Maybe part = calls_by _ _ (term.outs-Maybe part)

pub ruleset call_equations = (calls-Literal, calls-Pattern, calls-Range, calls-Call, calls-Group, calls-Maybe)

pub ranges_by : (e : TermElement) (f : TermElement-F TermElement) → out-TermElement e ≡ f →
    term_ranges e ≡ term_layer_ranges (map-TermElement TermElement (List Range) term_ranges f)
ranges_by e f is =
    fold_out-TermElement (List Range) term_layer_ranges e ∙ ap (λ f. term_layer_ranges (map-TermElement TermElement (List Range) term_ranges f)) is

pub ranges-Pattern : (text : List ℕ) (s : Span) → term_ranges (term.Pattern text s) ≡ []
ranges-Pattern text s = ranges_by _ _ (term.outs-Pattern text s)

pub ranges-Range : (first last : List ℕ) (s : Span) → term_ranges (term.Range first last s) ≡ (first, last, s) ∷ []
ranges-Range first last s = ranges_by _ _ (term.outs-Range first last s)

pub ranges-Call : (name : List ℕ) (s : Span) → term_ranges (term.Call name s) ≡ []
ranges-Call name s = ranges_by _ _ (term.outs-Call name s)

pub ruleset range_equations = (ranges-Pattern, ranges-Range, ranges-Call)
