-- Each event keeps what holds of each document.
use Rattle.lw_machine.proofs.Validity.{begins_valid, stays_valid}
use Rattle.lw_machine.proofs.laws.stays_valid.Goals as goal

pub returns : goal.returns
returns c = record { begins = begins_valid; stays = stays_valid }
