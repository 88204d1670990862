use Rattle.std.proofs.Common.{List, Contains, take}
use Rattle.lw_grammar.specs.Kinds.{Kinds}
use Rattle.lw_program.specs.Says.{Task}
use Rattle.lw_tokens.specs.Lexicon.{Lexicon}
use Rattle.lw_complete.specs.declared.known.Known.{Known}
use Rattle.lw_complete.specs.Starts.{AllComeNext}
use Rattle.lw_complete.specs.Tried.{IsWrittenFor}
use Rattle.lw_complete.proofs.JudgedBlank.{MayRead}
use Rattle.lw_complete.proofs.judging.by_blank.Given as goal

-- none of the starts so far that has a blank tree may read the tokens of the name
abbrev pub invariant-known : goal.invariant-known
invariant-known l =
    (of : Kinds) (lexicon : Lexicon) (tasks : List Task) → IsWrittenFor of lexicon tasks l.typing l.parser l.written → AllComeNext of tasks l.typing l.known →
    (one : Known) → Contains (take l.one-index l.known) one → ¬ MayRead of tasks l.typing l.written one
