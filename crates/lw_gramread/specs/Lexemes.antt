-- What the visible tokens of a grammar file say: the name of a word and which reserved word it is, the value of a string, the text of
-- a regular expression, which symbol it is.
use Rattle.std.specs.Prelude.{ℕ, zero, suc, List, map, Option, Some, None, codes, bytes_eq, if◌then◌else◌}
use Rattle.lw_base.specs.declared.token.Span.{Span}
use Rattle.lw_grammar.specs.declared.terminal.Primitive.{Primitive}
use Rattle.lw_grammar.specs.declared.terminal.Primitive.TheVariants as primitive
use Rattle.lw_gramlex.specs.declared.token.FileToken.{FileToken}
use Rattle.lw_gramlex.specs.declared.token.FileKind.{FileKind}
use Rattle.lw_gramlex.specs.declared.token.FileKind.TheVariants as kind
use Rattle.lw_gramread.specs.declared.lexeme.Reserved.{Reserved}
use Rattle.lw_gramread.specs.declared.lexeme.Reserved.TheVariants as word
use Rattle.lw_gramread.specs.declared.lexeme.Lexeme.{Lexeme}
use Rattle.lw_gramread.specs.declared.lexeme.Lexeme.TheVariants.{Word, Text, Regex, Flagged, Sign, Other}
use Rattle.lw_gramlex.specs.Values.{part_of, word_name, string_value, regex_text}

-- which reserved word a word's token is, if it is one
abbrev pub reserved_of : List ℕ → Option Reserved
reserved_of w =
    if bytes_eq w (codes "entry") then Some word.Entry else if bytes_eq w (codes "extends") then Some word.Extends
    else if bytes_eq w (codes "fragment") then Some word.Fragment else if bytes_eq w (codes "grammar") then Some word.Grammar
    else if bytes_eq w (codes "hidden") then Some word.Hidden else if bytes_eq w (codes "import") then Some word.Import
    else if bytes_eq w (codes "infer") then Some word.Infer else if bytes_eq w (codes "infers") then Some word.Infers
    else if bytes_eq w (codes "interface") then Some word.Interface else if bytes_eq w (codes "returns") then Some word.Returns
    else if bytes_eq w (codes "terminal") then Some word.Terminal else if bytes_eq w (codes "type") then Some word.Type
    else if bytes_eq w (codes "current") then Some word.Current else if bytes_eq w (codes "string") then Some word.Text
    else if bytes_eq w (codes "number") then Some word.Number else if bytes_eq w (codes "boolean") then Some word.Boolean
    else if bytes_eq w (codes "bigint") then Some word.BigInt else if bytes_eq w (codes "Date") then Some word.Date else None

-- the primitive that a reserved word means, if it means one
abbrev pub primitive_of : Reserved → Option Primitive
primitive_of word.Text = Some primitive.Text
primitive_of word.Number = Some primitive.Number
primitive_of word.Boolean = Some primitive.Boolean
primitive_of word.BigInt = Some primitive.BigInt
primitive_of word.Date = Some primitive.Date
primitive_of _ = None

-- what a token of this kind with these bytes says
abbrev pub saying : FileKind → List ℕ → Span → Lexeme
saying kind.Word w s = Word (word_name w) (reserved_of w) s
saying kind.Text w s = Text (string_value w) s
saying (kind.Regex zero) w s = Regex (regex_text 0 w) s
saying (kind.Regex (suc flags)) w s = Flagged s
saying (kind.Symbol x) w s = Sign x s
saying kind.Other w s = Other s

abbrev pub lexeme_of : List ℕ → FileToken → Lexeme
lexeme_of text t = saying t.kind (part_of text t.span) t.span

abbrev pub lexemes_of : List ℕ → List FileToken → List Lexeme
lexemes_of text tokens = map (lexeme_of text) tokens

abbrev pub place_of : Lexeme → Span
place_of (Word n r s) = s
place_of (Text v s) = s
place_of (Regex p s) = s
place_of (Flagged s) = s
place_of (Sign x s) = s
place_of (Other s) = s
