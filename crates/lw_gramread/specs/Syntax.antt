-- Which grammar the text of a grammar file says.
-- Held against the Langium documentation, "Grammar language", of which this is a stated part.
--     File:   ('grammar' Word)? Import* Item*
--     Import: 'import' String ';'?
--     Item:   Interface | Union | ParserRule | Terminal
use Rattle.std.specs.Prelude.{ℕ, suc, ◌≡◌, ◌+◌, ◌<◌, List, [], ◌∷◌, ◌++◌, Bool, true, false, Some, None}
use Rattle.lw_base.specs.declared.token.Span.{Span}
use Rattle.lw_grammar.specs.declared.grammar.Grammar.{Grammar}
use Rattle.lw_grammar.specs.declared.grammar.Import.{Import}
use Rattle.lw_grammar.specs.declared.declared_types.Interface.{Interface}
use Rattle.lw_grammar.specs.declared.declared_types.UnionDef.{UnionDef}
use Rattle.lw_grammar.specs.declared.rule.Rule.{Rule}
use Rattle.lw_grammar.specs.declared.terminal.Terminal.{Terminal}
use Rattle.lw_gramlex.specs.declared.token.FileToken.{FileToken}
use Rattle.lw_gramlex.specs.declared.token.Symbol.TheVariants.{Semicolon, OpenParenthesis, CloseParenthesis}
use Rattle.lw_gramread.specs.declared.lexeme.Reserved.TheVariants as word
use Rattle.lw_gramread.specs.declared.lexeme.Lexeme.{Lexeme}
use Rattle.lw_gramread.specs.declared.lexeme.Lexeme.TheVariants.{Word, Text, Sign}
use Rattle.lw_gramread.specs.declared.reader.file.Item.{Item}
use Rattle.lw_gramread.specs.declared.reader.file.Item.TheVariants as item
use Rattle.lw_gramlex.specs.FileCut.{IsFileCut}
use Rattle.lw_gramread.specs.Lexemes.{lexemes_of}
use Rattle.lw_gramread.specs.OptionalTokens.{MayTake}
use Rattle.lw_gramread.specs.DeclaredTypes.{SpellsInterface, SpellsUnion}
use Rattle.lw_gramread.specs.ParserRules.{SpellsRule}
use Rattle.lw_gramread.specs.TerminalRules.{SpellsTerminal}

-- ---- files

-- ('grammar' Word)?
pub data SpellsGrammarName : List Lexeme → List Lexeme → List ℕ → Type 0 where
  unnamed : {ts : List Lexeme} → SpellsGrammarName ts ts []
  named : {w n : List ℕ} {g s : Span} {ts : List Lexeme} → SpellsGrammarName (Word w (Some word.Grammar) g ∷ Word n None s ∷ ts) ts n

pub data SpellsImports : List Lexeme → List Lexeme → List Import → Type 0 where
  no_import : {ts : List Lexeme} → SpellsImports ts ts []
  import_and : {w path : List ℕ} {i s : Span} {ts mid rest : List Lexeme} {ended : Bool} {others : List Import} → MayTake Semicolon ts mid ended →
      SpellsImports mid rest others → SpellsImports (Word w (Some word.Import) i ∷ Text path s ∷ ts) rest (record { path = path; file = 0; span = s } ∷ others)

pub data SpellsItem : List Lexeme → List Lexeme → Item → Type 0 where
  interface : {w : List ℕ} {s : Span} {ts rest : List Lexeme} {i : Interface} → SpellsInterface ts rest i →
      SpellsItem (Word w (Some word.Interface) s ∷ ts) rest (item.Interface i)
  union_type : {w : List ℕ} {s : Span} {ts rest : List Lexeme} {u : UnionDef} → SpellsUnion ts rest u →
      SpellsItem (Word w (Some word.Type) s ∷ ts) rest (item.Union u)
  rule : {ts rest : List Lexeme} {r : Rule} → SpellsRule ts rest r → SpellsItem ts rest (item.Rule r)
  terminal : {w : List ℕ} {s : Span} {ts rest : List Lexeme} {t : Terminal} → SpellsTerminal false ts rest t →
      SpellsItem (Word w (Some word.Terminal) s ∷ ts) rest (item.Terminal t)
  hidden_terminal : {w v : List ℕ} {h s : Span} {ts rest : List Lexeme} {t : Terminal} → SpellsTerminal true ts rest t →
      SpellsItem (Word v (Some word.Hidden) h ∷ Word w (Some word.Terminal) s ∷ ts) rest (item.Terminal t)

-- items up to the end
pub data SpellsItems : List Lexeme → List Item → Type 0 where
  no_item : SpellsItems [] []
  item_and : {ts mid : List Lexeme} {i : Item} {others : List Item} → SpellsItem ts mid i → SpellsItems mid others → SpellsItems ts (i ∷ others)

-- a grammar that declares nothing
abbrev pub bare_grammar : List ℕ → List Import → Grammar
bare_grammar n is = record { name = n; files = []; rules = []; terminals = []; interfaces = []; unions = []; imports = is }

-- with one more item, behind those of its kind
abbrev pub with_item : Grammar → Item → Grammar
with_item g (item.Interface i) = record g { interfaces = g.interfaces ++ i ∷ [] }
with_item g (item.Union u) = record g { unions = g.unions ++ u ∷ [] }
with_item g (item.Rule r) = record g { rules = g.rules ++ r ∷ [] }
with_item g (item.Terminal t) = record g { terminals = g.terminals ++ t ∷ [] }

abbrev pub with_items : Grammar → List Item → Grammar
with_items g [] = g
with_items g (i ∷ is) = with_items (with_item g i) is

-- the tokens of a file spell this grammar, all of them
pub data SpellsFile : List Lexeme → Grammar → Type 0 where
  file : {ts us vs : List Lexeme} {n : List ℕ} {is : List Import} {items : List Item} → SpellsGrammarName ts us n → SpellsImports us vs is →
      SpellsItems vs items → SpellsFile ts (with_items (bare_grammar n is) items)

-- ---- parentheses

abbrev pub openings : List Lexeme → ℕ
openings [] = 0
openings (Sign OpenParenthesis s ∷ ts) = suc (openings ts)
openings (t ∷ ts) = openings ts

abbrev pub closings : List Lexeme → ℕ
closings [] = 0
closings (Sign CloseParenthesis s ∷ ts) = suc (closings ts)
closings (t ∷ ts) = closings ts

-- No parenthesis is opened inside 64 other open ones. Open are those that were opened before it, less those that were closed.
abbrev pub IsShallow : List Lexeme → Type 0
IsShallow ts = (before after : List Lexeme) (s : Span) → ts ≡ before ++ Sign OpenParenthesis s ∷ after → openings before < closings before + 64

-- ---- texts

-- the text says this grammar
pub record Syntax (text : List ℕ) (g : Grammar) : Type 0 where
  pub tokens : List FileToken
  pub cut : IsFileCut text tokens
  pub spells : SpellsFile (lexemes_of text tokens) g
  pub shallow : IsShallow (lexemes_of text tokens)
