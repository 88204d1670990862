-- What is known where a name is tried.
use Rattle.std.specs.Prelude.{ℕ, List}
use Rattle.lw_grammar.specs.Kinds.{Kinds}
use Rattle.lw_parse.specs.Parsers.{ParserParts}
use Rattle.lw_program.specs.Says.{Task}
use Rattle.lw_reading.specs.Laws.{IsReadOneWay}
use Rattle.lw_lexer.specs.Recut.{IsRecut, RecutterParts}
use Rattle.lw_scoping.specs.Links.{Trees}
use Rattle.lw_tokens.specs.Lexicon.{Lexicon}
use Rattle.lw_complete.specs.declared.known.Known.{Known}
use Rattle.lw_complete.specs.declared.typing.Typing.{Typing}
use Rattle.lw_complete.specs.declared.written.Written.{Written}
use Rattle.lw_complete.specs.Starts.{AreTried, IsParsedBy, IsWritten, MeetsRest}
use Rattle.lw_complete.specs.Typing.{CutsBehind, IsTypedAmong, IsTypedBy, grammar_of}

-- names are judged by these starts, over the trees of all documents, and no text is read in two ways
pub record AreJudgedBy (of : Kinds) (lexicon : Lexicon) (tasks : List Task) (typing : Typing) (trees : Trees) (address : List ℕ) (known : List Known) : Type 0 where
  pub tried : AreTried of lexicon tasks typing trees address known
  pub one_way : IsReadOneWay (grammar_of typing)
  pub among : IsTypedAmong typing trees address

module _ (of : Kinds) (lexicon : Lexicon) (tasks : List Task) (typing : Typing) (parser : ParserParts) where
  -- the word is typed in a text that this parser reads and this recutter cuts
  pub record IsTypedWith (recutter : RecutterParts) : Type 0 where
    pub typed : IsTypedBy of lexicon typing
    pub parsed : IsParsedBy of tasks typing parser
    pub cuts : CutsBehind lexicon typing recutter

  -- the name is written behind the text before the word, to be read by this parser
  pub record IsWrittenFor (name : Written) : Type 0 where
    pub written : IsWritten of lexicon typing name
    pub parsed : IsParsedBy of tasks typing parser

  -- the name is written there as this recutter cuts it
  pub record IsCutBy (recutter : RecutterParts) (name : Written) : Type 0 where
    pub read : IsTypedWith recutter
    pub written : IsWritten of lexicon typing name
    pub recut : IsRecut recutter name.name.now name.recut.now

  -- the text goes on behind the name as it did before it
  pub record GoesOnAsBefore (name : Written) : Type 0 where
    pub typed : IsTypedBy of lexicon typing
    pub here : IsWrittenFor name
    pub meets : MeetsRest lexicon typing name
