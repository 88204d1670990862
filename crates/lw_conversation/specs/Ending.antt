-- How a session ends: by the first `exit` among its bodies, cleanly where a `shutdown` was answered with a result before it. What stands in the documents has no
-- part in it.
-- Language Server Protocol 3.17, "Shutdown Request" and "Exit Notification".
use Rattle.std.specs.Prelude.{ℕ, ◌≡◌, ◌≢◌, List, [], ◌∷◌, if◌then◌else◌}
use Rattle.lw_rpc.specs.Messages.{message_of}
use Rattle.lw_rpc.specs.declared.message.Message.TheVariants.{Exit}
use Rattle.lw_conversation.specs.Gate.{gate, phase_behind}
use Rattle.lw_conversation.specs.declared.ended.Ended.{Ended}
use Rattle.lw_conversation.specs.declared.ended.Ended.TheVariants.{No, Clean, Early}
use Rattle.lw_conversation.specs.declared.phase.Phase.{Phase}

-- the end that `exit` makes of a session of this phase
abbrev pub end_in : Phase → Ended
end_in phase = if phase.shut_down then Clean else Early

-- The phase of a session before and behind these bodies, and how it is over then. The first `exit` ends it, and the bodies behind that are not looked at. Where
-- there is none it is not over.
pub data Lives : Phase → List (List ℕ) → Phase → Ended → Type 0 where
  waits : {phase : Phase} → Lives phase [] phase No
  exits : {phase : Phase} {body : List ℕ} {others : List (List ℕ)} → message_of body ≡ Exit → Lives phase (body ∷ others) phase (end_in phase)
  goes_on : {phase last : Phase} {body : List ℕ} {others : List (List ℕ)} {ended : Ended} → message_of body ≢ Exit →
      Lives (phase_behind phase (gate phase (message_of body))) others last ended → Lives phase (body ∷ others) last ended
