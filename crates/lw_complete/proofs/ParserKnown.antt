-- The parser of a language, by the kinds of its grammar.
use Rattle.std.proofs.Common.{ℕ, List, refl, subst}
use Rattle.lw_grammar.specs.Kinds.{AreKinds, Kinds}
use Rattle.lw_grammar.specs.Named.{IsEntry}
use Rattle.lw_grammar.specs.declared.rule.Rule.{Rule}
use Rattle.lw_grammar.proofs.KindLemmas.{one_kinds}
use Rattle.lw_parse.specs.Parsers.{ParserParts, ParsesFaultless}
use Rattle.lw_program.specs.Says.{Task}
use Rattle.lw_complete.specs.declared.typing.Typing.{Typing}
use Rattle.lw_complete.specs.Starts.{IsParsedBy}
use Rattle.lw_complete.specs.Typing.{grammar_of}

pub parsed_by : (typing : Typing) (parser : ParserParts) →
    (kinds : Kinds) × AreKinds (grammar_of typing) kinds × (k : ℕ) × ParsesFaultless (grammar_of typing) kinds k parser → (of : Kinds) →
    AreKinds (grammar_of typing) of →
    (tasks : List Task) × (rule : Rule) × IsParsedBy of tasks typing parser × IsEntry (grammar_of typing) parser.entry rule
parsed_by typing parser (kinds, are_kinds, k, is) of are =
    let g = grammar_of typing in
    let faultless = subst (λ of. ParsesFaultless g of k parser) (one_kinds g kinds of are_kinds are) is in
    let known = faultless.parser.known in
    (known.program.tasks, faultless.parser.rule, record { k = k; faultless = faultless; program = record { known = known; tasks_are = refl } }, faultless.parser.entry)
