use Rattle.std.proofs.Common.{◌≡◌, ℕ, List, All, map, take}
use Rattle.lw_faults.specs.Finding.{Finds, OfSome}
use Rattle.lw_grammar.specs.Kinds.{Kinds}
use Rattle.lw_program.specs.Says.{Task}
use Rattle.lw_scoping.specs.Links.{Trees}
use Rattle.lw_tokens.specs.Lexicon.{Lexicon}
use Rattle.lw_complete.specs.Starts.{IsBlankKnown, IsNameFoundAt, IsKnownStart, IsParsedBy, IsStartNext}
use Rattle.lw_complete.specs.Typing.{IsTypedAmong, IsTypedBy}
use Rattle.lw_complete.proofs.known.known_starts.Given as goal

-- what is known of the starts so far, and the names that are found at them
abbrev pub invariant-starts : goal.invariant-starts
invariant-starts l = record {
  starts : map (λ one. one.start.now) l.known.items ≡ take l.start-index l.starts;
  known : (of : Kinds) (lexicon : Lexicon) (trees : Trees) (address : List ℕ) → IsTypedBy of lexicon l.typing → IsTypedAmong l.typing trees address → All (IsKnownStart of l.typing trees address) l.known.items;
  blank : (of : Kinds) (lexicon : Lexicon) (tasks : List Task) (trees : Trees) (address : List ℕ) → IsTypedBy of lexicon l.typing →
      IsParsedBy of tasks l.typing l.parser → All (IsStartNext of tasks l.typing) l.starts → IsTypedAmong l.typing trees address → All (IsBlankKnown of lexicon tasks l.typing trees address) l.known.items;
  found : (of : Kinds) (lexicon : Lexicon) (tasks : List Task) (trees : Trees) (address : List ℕ) → IsTypedBy of lexicon l.typing →
      IsParsedBy of tasks l.typing l.parser → All (IsStartNext of tasks l.typing) l.starts → IsTypedAmong l.typing trees address →
      Finds (OfSome (IsNameFoundAt of lexicon tasks l.typing trees address) (take l.start-index l.starts)) l.initial.found.items l.found.items;
}
