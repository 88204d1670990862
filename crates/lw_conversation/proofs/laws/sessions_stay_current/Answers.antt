-- Each message keeps what holds of a session.
use Rattle.lw_conversation.proofs.Current.{session_valid, session_current}
use Rattle.lw_conversation.proofs.laws.sessions_stay_current.Goals as goal

pub returns : goal.returns
returns c = record { valid = session_valid; current = session_current }
