-- What reads a text names no place, and what reads a cross-reference is called there.
use Rattle.std.proofs.Common.{ℕ, List, Option, None, Some, subst}
use Rattle.lw_base.specs.declared.token.Span.{Span}
use Rattle.lw_grammar.specs.declared.grammar.Grammar.{Grammar}
use Rattle.lw_grammar.specs.declared.rule.Value0.{Value0}
use Rattle.lw_grammar.specs.declared.rule.Value0.TheOpen as value
use Rattle.lw_grammar.specs.declared.rule.Value0.TheOpen.{Value0-F}
use Rattle.lw_grammar.specs.Kinds.{Kinds}
use Rattle.lw_look.specs.Sites.{PartSite, ◌▸◌, Part, Body, Value, element_parts, value_parts, IsPartAt, ElementAt, ValueAt, RepeatedAt, ValueCallsAt}
use Rattle.lw_look.specs.Sites as site
use Rattle.lw_kinds.specs.Crossing.{IsReadBy}
use Rattle.lw_program.specs.declared.instr.Instr.{Instr}
use Rattle.lw_program.specs.Says.{Task, Does, Reads, layer_thing, thing_of, NamesLater, CallsBy, SaysTask, SaidAt}
use Rattle.lw_program.specs.Says as says

pub calls_name_none : (g : Grammar) (kinds : Kinds) (name : List ℕ) (place : ℕ) (instr : Instr) → CallsBy g kinds name instr → NamesLater place instr
calls_name_none g kinds name place instr (says.terminal is) = tt
calls_name_none g kinds name place instr (says.rule_ is) = tt

pub cross_calls : (g : Grammar) (s : PartSite) (v : Value0) (wanted : List ℕ) (written : Option (List ℕ)) (span : Span) (name : List ℕ) →
    ValueAt g s v (value.Cross wanted written span) → IsReadBy g wanted written name → ValueCallsAt g s v name
cross_calls g s v wanted None span name at is = site.crosses_by_name name at is
cross_calls g s v wanted (Some called) span name at is =
    site.crosses {name = name} {s = span} (subst (λ called. ValueAt g s v (value.Cross wanted (Some called) span)) is at)
