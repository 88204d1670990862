use Rattle.std.proofs.Common.{List, Contains, take}
use Rattle.lw_grammar.specs.Kinds.{Kinds}
use Rattle.lw_program.specs.Says.{Task}
use Rattle.lw_tokens.specs.Lexicon.{Lexicon}
use Rattle.lw_lexer.specs.Recut.{added_behind}
use Rattle.lw_complete.specs.declared.known.Known.{Known}
use Rattle.lw_complete.specs.Starts.{AllComeNext, IsReadAt}
use Rattle.lw_complete.specs.Tried.{IsWrittenFor}
use Rattle.lw_complete.proofs.written.is_read.Given as goal

-- the name is read as none of the starts so far
abbrev pub invariant-known : goal.invariant-known
invariant-known l =
    (of : Kinds) (lexicon : Lexicon) (tasks : List Task) → IsWrittenFor of lexicon tasks l.typing l.parser l.written → AllComeNext of tasks l.typing l.known →
    (one : Known) → Contains (take l.one-index l.known) one → ¬ IsReadAt of tasks l.typing l.leads (added_behind l.written.recut.now) l.written.name.now one
