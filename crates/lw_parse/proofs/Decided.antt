-- Decisions of a run, and how states of it follow one another.
use Rattle.std.proofs.Common.{◌≡◌, ℕ, ◌+◌, ◌-◌, List, Option, None, Some, option_map, reverse, slice_get, sym, subst}
use Rattle.lw_base.specs.declared.numbers.KindId.{KindId}
use Rattle.lw_program.specs.declared.instr.Instr.{Instr}
use Rattle.lw_program.specs.declared.instr.Instr.TheVariants.{Token, Put, Call}
use Rattle.lw_program.specs.declared.recipes.mark.TreeMark.{TreeMark}
use Rattle.lw_viable.specs.Moves.{left}
use Rattle.lw_parse.specs.Parsers.{ParserParts}
use Rattle.lw_parse.specs.Deciding.{IsStepBy, IsDecided, places_of, unread_behind}
use Rattle.lw_parse.specs.Running.{RunState, Entered, NotEntered}
use Rattle.lw_parse.specs.Running as run
use Rattle.lw_parse.specs.declared.turn.Step.{Step}
use Rattle.lw_parse.specs.declared.turn.Turn.TheVariants.{Plain, Value}

-- ---- decisions

pub token_decided : (state : RunState) (p : ℕ) (k : KindId) (step : Option Step) → IsStepBy state (Some (Token k)) step →
    IsDecided state p (Some (Token k)) (option_map Plain step)
token_decided state p k None up = run.not_read up
token_decided state p k (Some step) entered = run.reads entered

pub call_decided : (state : RunState) (p r : ℕ) (step : Option Step) → IsStepBy state (Some (Call r)) step →
    IsDecided state p (Some (Call r)) (option_map Plain step)
call_decided state p r None up = run.not_called up
call_decided state p r (Some step) entered = run.calls entered

pub value_decided : (state : RunState) (p n first end : ℕ) (i : Option Instr) (step : Option Step) → end ≡ first + 1 → i ≡ slice_get state.parser.program.code first →
    IsStepBy state i step → IsDecided state p (Some (Put n first)) (option_map (Value n end) step)
value_decided state p n first end i None next is up = run.not_put (subst (NotEntered state.parser state.unread) is up)
value_decided state p n first end i (Some step) next is entered =
    subst (λ end. IsDecided state p (Some (Put n first)) (Some (Value n end step))) (sym next)
    (run.puts (subst (λ i. Entered state.parser state.unread i (left step.mark) (places_of step.places) (unread_behind step.mark state.unread)) is entered))

-- ---- states

-- the places of a stack, the last of which is to be done first
abbrev pub stacked : ParserParts → List ℕ → List ℕ → List TreeMark → RunState
stacked parser unread items marks = record { parser = parser; unread = unread; to_do = reverse items; marks = marks }
