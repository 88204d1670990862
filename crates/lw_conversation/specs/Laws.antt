-- What holds of all sessions by a grammar.
-- Language Server Protocol 3.17, "Base Protocol".
use Rattle.std.specs.Prelude.{ℕ, ◌≡◌, All, List}
use Rattle.lw_grammar.specs.declared.grammar.Grammar.{Grammar}
use Rattle.lw_rpc.specs.declared.reply.Reply.{Reply}
use Rattle.lw_conversation.specs.Reading.{AreOfFiles, Asked}
use Rattle.lw_conversation.specs.Sessions.{Serves}
use Rattle.lw_conversation.specs.Standing.{Standing}
use Rattle.lw_conversation.specs.declared.ended.Ended.{Ended}

-- what a session comes to is settled by its bodies and the files of the store, where none of its reads failed
abbrev pub AreSettledByFiles : Grammar → Type 0
AreSettledByFiles g = (files : List (List ℕ × List ℕ)) (s t u : Standing) (bodies : List (List ℕ)) (asked others : List (List Asked)) (p q : List Reply) (e f : Ended) →
    All (AreOfFiles files) asked → All (AreOfFiles files) others → Serves g s bodies asked t p e → Serves g s bodies others u q f → (t ≡ u) × (p ≡ q) × (e ≡ f)
