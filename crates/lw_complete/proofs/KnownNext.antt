-- The start at an index of those of which something is known.
use Rattle.std.proofs.Common.{◌≡◌, ◌<◌, ℕ, List, get_or, length, sym}
use Rattle.std.proofs.lemmas.List.Elements.{All-contains}
use Rattle.lw_grammar.specs.Kinds.{Kinds}
use Rattle.lw_program.specs.Says.{Task}
use Rattle.lw_complete.specs.declared.known.Known.{Known}
use Rattle.lw_complete.specs.declared.typing.Typing.{Typing}
use Rattle.lw_complete.specs.Starts.{AllComeNext, IsStartNext}

pub next_at : (of : Kinds) (tasks : List Task) (typing : Typing) (known : List Known) (i : ℕ) (one : Known) → i < length known → one ≡ get_or known i one →
    AllComeNext of tasks typing known → IsStartNext of tasks typing one.start.now
next_at of tasks typing known i one inside is all =
    All-contains (λ (one : Known). IsStartNext of tasks typing one.start.now) known one all (i, inside, sym is)
