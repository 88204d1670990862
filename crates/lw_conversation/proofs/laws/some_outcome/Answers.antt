-- What is asked for is found by looking at all that there is, and where a document goes out the others settle.
use Rattle.lw_conversation.proofs.SomeAnswer.{some_answer}
use Rattle.lw_conversation.proofs.SomeEdit.{some_edit, some_opening}
use Rattle.lw_conversation.proofs.SomeFile.{some_changes, some_closing}
use Rattle.lw_conversation.proofs.SomeReply.{some_completion_told, some_definition_told, some_references_told, some_rename_told}
use Rattle.lw_conversation.proofs.laws.some_outcome.Goals as goal

pub returns : goal.returns
returns c = record {
  message = some_answer;
  opens = some_opening;
  edits = some_edit;
  closes = some_closing;
  sees = some_changes;
  definition = some_definition_told;
  references = some_references_told;
  rename = some_rename_told;
  completion = some_completion_told;
}
