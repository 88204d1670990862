-- How the fault of a text is shown: where it begins and ends, its code and its message.
-- Language Server Protocol 3.17, "Diagnostic"; the codes and the messages are this profile's.
use Rattle.std.specs.Prelude.{ℕ, ◌≡◌, List, ◌++◌, codes, decimal}
use Rattle.lw_base.specs.declared.limits.TheConstants.{LONGEST_DOCUMENT}
use Rattle.lw_base.specs.declared.numbers.KindId.{KindId}
use Rattle.lw_base.specs.declared.token.Span.{Span}
use Rattle.lw_grammar.specs.declared.grammar.Grammar.{Grammar}
use Rattle.lw_text.specs.Position.{IsPosition}
use Rattle.lw_text.specs.declared.shown.Shown.{Shown}
use Rattle.lw_grammar.specs.KindTexts.{IsKindText}
use Rattle.lw_tree.specs.declared.issue.Issue.{Issue}
use Rattle.lw_tree.specs.declared.issue.Issue.TheVariants.{Lexical, Syntax, End, TooLarge}

-- it runs from one byte offset of the text to another, with this code and this message
pub record IsShownAt (text : List ℕ) (from to code : ℕ) (message : List ℕ) (shown : Shown) : Type 0 where
  pub begins : IsPosition text from shown.start
  pub ends : IsPosition text to shown.end
  pub coded : shown.code ≡ code
  pub says : shown.message ≡ message

abbrev pub unexpected : List ℕ → List ℕ
unexpected kind = codes "Unexpected " ++ kind ++ codes "."

-- the one diagnostic of a text that is longer than a document may be: it stands at the text's start
abbrev pub too_large_shown : Shown
too_large_shown = record {
  start = record { line = 0; character = 0 };
  end = record { line = 0; character = 0 };
  code = 7;
  message = codes "Document is longer than " ++ decimal LONGEST_DOCUMENT ++ codes " bytes.";
}

module _ (g : Grammar) (text : List ℕ) where
  pub data IsFaultShown : Issue → Shown → Type 0 where
    lexical : {s : Span} {shown : Shown} → IsShownAt text s.start s.end 1 (codes "Unexpected character.") shown → IsFaultShown (Lexical s) shown
    syntax_ : {s : Span} {k : KindId} {shown : Shown} (kind : List ℕ) → IsKindText g k.0 kind → IsShownAt text s.start s.end 2 (unexpected kind) shown →
        IsFaultShown (Syntax s k) shown
    end_ : {at : ℕ} {shown : Shown} → IsShownAt text at at 2 (codes "Unexpected end of text.") shown → IsFaultShown (End at) shown
    too_large : IsFaultShown TooLarge too_large_shown
