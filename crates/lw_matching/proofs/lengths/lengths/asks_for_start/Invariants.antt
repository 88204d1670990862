use Rattle.std.proofs.Common.{◌≡◌, ℕ, ◌<◌}
use Rattle.regex_hir.specs.declared.look.Look as the_look
use Rattle.regex_nfa.specs.Run.{state_of}
use Rattle.regex_nfa.specs.declared.state.State.TheVariants.{Look}
use Rattle.lw_matching.proofs.lengths.lengths.asks_for_start.Given as goal

abbrev pub invariant-loop-state : goal.invariant-loop-state
invariant-loop-state l =
    (q : ℕ) (look : the_look.Look) (next : ℕ) → q < l.state-index → state_of l.nfa q ≡ Look look next → look ≡ the_look.Look.Start
