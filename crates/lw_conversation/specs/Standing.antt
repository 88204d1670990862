-- A session between two messages: the documents of its workspace, and the two facts of its life.
-- Language Server Protocol 3.17, "Server lifecycle".
use Rattle.std.specs.Prelude.{ℕ, List, [], ◌∷◌, None, false}
use Rattle.std.specs.FinMap.{empty}
use Rattle.lw_machine.specs.Documents.{Documents}
use Rattle.lw_machine.specs.Events.{put}
use Rattle.lw_conversation.specs.declared.phase.Phase.{Phase}

pub record Standing : Type 0 where
  pub documents : Documents
  pub phase : Phase

-- a session with these documents, and one of this phase
abbrev pub with_documents : Standing → Documents → Standing
with_documents s documents = record s { documents = documents }

abbrev pub with_phase : Standing → Phase → Standing
with_phase s phase = record s { phase = phase }

-- the documents once texts were put at addresses, one after the other: none of them is open, and none has a version
abbrev pub with_texts : Documents → List (List ℕ × List ℕ) → Documents
with_texts m [] = m
with_texts m (file ∷ files) = with_texts (put m file.0 file.1 None false) files

-- neither `initialize` nor `shutdown` was answered
abbrev pub unborn : Phase
unborn = record { initialized = false; shut_down = false }

-- a session to which no message has come, where these texts were put at these addresses before
abbrev pub beginning : List (List ℕ × List ℕ) → Standing
beginning files = record { documents = with_texts empty files; phase = unborn }
