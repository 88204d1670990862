-- A grammar that is written out, of which a law says what its kinds are.
use Rattle.std.specs.Prelude.{ℕ, ◌+◌, List, [], ◌∷◌, true, false, codes}
use Rattle.lw_base.specs.declared.token.Span.{Span}
use Rattle.lw_grammar.specs.declared.grammar.Grammar.{Grammar}
use Rattle.lw_grammar.specs.declared.rule.Rule.{Rule}
use Rattle.lw_grammar.specs.declared.rule.Element.TheVariants.{Keyword, Call, Group}
use Rattle.lw_grammar.specs.declared.terminal.Terminal.{Terminal}
use Rattle.lw_grammar.specs.Worked.{nowhere, named_rule, id_terminal, int_terminal, space_terminal, rules_alone}
use Rattle.lw_kinds.specs.Rows.{KindRow}
use Rattle.lw_kinds.specs.Uses.{Use}

-- ---- a rule that nothing calls, in front of the entry:
--     grammar G Unused: 'k' INT; entry Root: 'r' 'k' ID; hidden terminal WS: /\s+/; terminal ID: /[_a-zA-Z][\w_]*/; terminal INT: /[0-9]+/;

-- the place of a keyword of one character
abbrev pub quoted_at : ℕ → Span
quoted_at start = record { start = start; end = start + 3 }

abbrev pub unreached_rule : Rule
unreached_rule = named_rule (codes "Unused") false false (Group (Keyword (codes "k") (quoted_at 18) ∷ Call (codes "INT") nowhere ∷ []) nowhere)

abbrev pub reached_rule : Rule
reached_rule =
    named_rule (codes "Root") true false (Group (Keyword (codes "r") (quoted_at 39) ∷ Keyword (codes "k") (quoted_at 43) ∷ Call (codes "ID") nowhere ∷ []) nowhere)

abbrev pub unused_first : Grammar
unused_first = rules_alone (codes "G") (unreached_rule ∷ reached_rule ∷ []) (space_terminal ∷ id_terminal ∷ int_terminal ∷ [])

-- the use of a keyword that stands there
abbrev pub use_at : List ℕ → ℕ → Use
use_at text start = (text, record { file = 0; span = quoted_at start })

abbrev pub unused_first_row : KindRow
unused_first_row = record { keywords = use_at (codes "r") 39 ∷ use_at (codes "k") 43 ∷ []; terminals = 0 ∷ 1 ∷ [] }
