-- What is done with a message as far as the phase of a session decides it.
-- Language Server Protocol 3.17, "Server lifecycle".
use Rattle.std.specs.Prelude.{◌≡◌, List, true, false}
use Rattle.lw_rpc.specs.declared.message.Message.{Message}
use Rattle.lw_rpc.specs.declared.message.Message.TheVariants.{DidOpen, DidChange, DidClose, DidChangeWatchedFiles, Definition, References, Rename, Completion}
use Rattle.lw_rpc.specs.declared.reply.Reply.{Reply}
use Rattle.lw_conversation.specs.Gate.{Passage, gate}
use Rattle.lw_conversation.specs.Gate as at_gate
use Rattle.lw_conversation.specs.declared.ended.Ended.TheVariants.{No}
use Rattle.lw_conversation.specs.declared.phase.Phase.{Phase}
use Rattle.lw_session.specs.declared.said.Asked.{Asked}
use Rattle.lw_session.specs.declared.said.Edited.{Edited}
use Rattle.lw_session.specs.declared.said.Opened.{Opened}
use Rattle.lw_session.specs.declared.said.Question.{Question}
use Rattle.lw_session.specs.declared.said.Question.TheVariants as question
use Rattle.lw_rpc.specs.declared.message.Id.{Id}
use Rattle.lw_text.specs.declared.place.Pos.{Pos}
use Rattle.std.specs.Prelude.{ℕ}
use Rattle.lw_session.specs.declared.lifecycle.Told.{Told}
use Rattle.lw_session.specs.declared.lifecycle.Step.{Step}
use Rattle.lw_session.specs.declared.lifecycle.Step.TheVariants as step

-- a message stops at the gate, and this is told
abbrev pub passage_of : Told → Passage
passage_of told = at_gate.Stops told.replies told.phase told.ended

-- the phase stays, the session is not over, and this is told
abbrev pub telling : Phase → List Reply → Told
telling phase replies = record { replies = replies; ended = No; phase = phase }

-- `initialize` was answered with a result, and `shutdown` was not
abbrev pub IsLive : Phase → Type 0
IsLive phase = (phase.initialized ≡ true) × (phase.shut_down ≡ false)

-- the message that says this of a document
abbrev pub opened_message : Opened → Message
opened_message opened = DidOpen opened.id.address opened.id.version opened.text

-- the message that says this of a document's changes
abbrev pub edited_message : Edited → Message
edited_message edited = DidChange edited.id.address edited.id.version edited.changes

-- the message that asks this
abbrev pub question_message : Id → List ℕ → Pos → Question → Message
question_message id address at question.Definition = Definition id address at
question_message id address at (question.References declaration) = References id address at declaration
question_message id address at (question.Rename new) = Rename id address at new
question_message id address at question.Completion = Completion id address at

abbrev pub asked_message : Asked → Message
asked_message asked = question_message asked.id asked.address asked.at asked.question

-- the step for a message: it stops at the gate, or it opens, changes or closes a document, tells changes of files, or asks, in a session that is live
abbrev pub IsStep : Phase → Message → Step → Type 0
IsStep phase message (step.Stops told) = gate phase message ≡ passage_of told
IsStep phase message (step.Opens opened) = (message ≡ opened_message opened) × IsLive phase
IsStep phase message (step.Edits edited) = (message ≡ edited_message edited) × IsLive phase
IsStep phase message (step.Closes address) = (message ≡ DidClose address) × IsLive phase
IsStep phase message (step.Watches changes) = (message ≡ DidChangeWatchedFiles changes) × IsLive phase
IsStep phase message (step.Asks asked) = (message ≡ asked_message asked) × IsLive phase
