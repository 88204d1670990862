-- Which form of Langium's grammar language that is left out a token tells, where it cannot follow those before it: a table.
-- Held against the Langium documentation, "Grammar language", of which these forms are left out.
use Rattle.std.specs.Prelude.{ℕ, ◌≡◌, ◌≢◌, ◌-◌, List, [], ◌∷◌, ◌++◌, drop, length, codes, bytes_eq, Bool, true, false, ◌&&◌, if◌then◌else◌, Option, Some, None}
use Rattle.lw_base.specs.declared.token.Span.{Span}
use Rattle.lw_grammar.specs.declared.grammar.Grammar.{Grammar}
use Rattle.lw_grammar.specs.declared.rule.RuleResult.{RuleResult}
use Rattle.lw_gramlex.specs.declared.token.Symbol.{Symbol}
use Rattle.lw_gramlex.specs.declared.token.Symbol.TheVariants.{Ampersand, Less, FatArrow, ThinArrow, Exclamation, Dot, Question, QuestionEquals, Star, Equals, Plus, OpenParenthesis, OpenBracket, Semicolon}
use Rattle.lw_gramread.specs.declared.lexeme.Reserved.{Reserved}
use Rattle.lw_gramread.specs.declared.lexeme.Reserved.TheVariants as word
use Rattle.lw_gramread.specs.declared.lexeme.Lexeme.{Lexeme}
use Rattle.lw_gramread.specs.declared.lexeme.Lexeme.TheVariants.{Word, Flagged, Sign}
use Rattle.lw_gramread.specs.declared.form.Form.{Form}
use Rattle.lw_gramread.specs.declared.form.Form.TheVariants as form
use Rattle.lw_gramread.specs.declared.reader.left.Spot.{Spot}
use Rattle.lw_gramread.specs.declared.reader.left.Spot.TheVariants as spot
use Rattle.lw_gramread.specs.OptionalTokens.{MayTakeWord}
use Rattle.lw_gramread.specs.ParserRules.{SpellsResult}
use Rattle.lw_gramread.specs.Syntax.{SpellsFile}
use Rattle.lw_gramread.specs.Steps.{sees}

-- a grammar's tokens begin so, however deep its parentheses are
abbrev pub BeginsFile : List Lexeme → Type 0
BeginsFile ts = (more : List Lexeme) × (g : Grammar) × SpellsFile (ts ++ more) g

-- ---- what has been read of an item

-- The tokens before a place are those of a whole file and these behind it, no front of which makes a longer file. Where an item has
-- begun and is not finished, these are what was read of it.
pub record Unfinished (before begun : List Lexeme) : Type 0 where
  pub whole : List Lexeme
  pub grammar : Grammar
  pub parts : before ≡ whole ++ begun
  pub spells : SpellsFile whole grammar
  pub longest : (t : Lexeme) (front after : List Lexeme) → begun ≡ t ∷ front ++ after → (g : Grammar) → ¬ SpellsFile (whole ++ t ∷ front) g

pub data BeginsRule : List Lexeme → Type 0 where
  entry : {w : List ℕ} {s : Span} {ts : List Lexeme} → BeginsRule (Word w (Some word.Entry) s ∷ ts)
  fragment : {w : List ℕ} {s : Span} {ts : List Lexeme} → BeginsRule (Word w (Some word.Fragment) s ∷ ts)
  named : {n : List ℕ} {s : Span} {ts : List Lexeme} → BeginsRule (Word n None s ∷ ts)

pub data BeginsTerminal : List Lexeme → Type 0 where
  terminal : {w : List ℕ} {s : Span} {ts : List Lexeme} → BeginsTerminal (Word w (Some word.Terminal) s ∷ ts)
  hidden : {w : List ℕ} {s : Span} {ts : List Lexeme} → BeginsTerminal (Word w (Some word.Hidden) s ∷ ts)

pub data BeginsInterface : List Lexeme → Type 0 where
  interface : {w : List ℕ} {s : Span} {ts : List Lexeme} → BeginsInterface (Word w (Some word.Interface) s ∷ ts)

-- 'entry'? 'fragment'? Word, and what stands behind it
pub data RuleHead : List Lexeme → List Lexeme → Type 0 where
  head : {n : List ℕ} {s : Span} {ts us vs : List Lexeme} {entry fragment : Bool} → MayTakeWord word.Entry ts us entry →
      MayTakeWord word.Fragment us (Word n None s ∷ vs) fragment → RuleHead ts vs

-- the last of the tokens is this symbol
abbrev pub HasLast : Symbol → List Lexeme → Type 0
HasLast x ts = (front : List Lexeme) × (s : Span) × (ts ≡ front ++ Sign x s ∷ [])

-- ---- the table

-- behind these tokens this one tells this form
pub data TellsForm (before : List Lexeme) : Lexeme → Form → Type 0 where
  -- `&`, `<` and `=>` wherever they stand
  unordered_group : {s : Span} → TellsForm before (Sign Ampersand s) form.UnorderedGroup
  guard : {s : Span} → TellsForm before (Sign Less s) form.GuardOrParameter
  predicate : {s : Span} → TellsForm before (Sign FatArrow s) form.Predicate
  -- `->` in a parser rule
  arrow : {s : Span} {begun : List Lexeme} → Unfinished before begun → BeginsRule begun → TellsForm before (Sign ThinArrow s) form.Predicate
  -- `->`, `!` and `.` in a terminal
  until : {s : Span} {begun : List Lexeme} → Unfinished before begun → BeginsTerminal begun → TellsForm before (Sign ThinArrow s) form.Until
  negation : {s : Span} {begun : List Lexeme} → Unfinished before begun → BeginsTerminal begun → TellsForm before (Sign Exclamation s) form.Negation
  wildcard : {s : Span} {begun : List Lexeme} → Unfinished before begun → BeginsTerminal begun → TellsForm before (Sign Dot s) form.Wildcard
  -- `?` or `?=` directly behind `(` in a terminal
  lookahead : {s : Span} {begun : List Lexeme} → Unfinished before begun → BeginsTerminal begun → HasLast OpenParenthesis before →
      TellsForm before (Sign Question s) form.Lookaround
  lookahead_equals : {s : Span} {begun : List Lexeme} → Unfinished before begun → BeginsTerminal begun → HasLast OpenParenthesis before →
      TellsForm before (Sign QuestionEquals s) form.Lookaround
  -- `*` directly behind a parser rule's name
  wildcard_fragment : {s : Span} {begun : List Lexeme} → Unfinished before begun → RuleHead begun [] → TellsForm before (Sign Star s) form.WildcardFragment
  -- `=` in an interface, where the `;` that ends an attribute could follow
  property_default : {s : Span} {begun : List Lexeme} (e : Span) → Unfinished before begun → BeginsInterface begun → BeginsFile (before ++ Sign Semicolon e ∷ []) →
      TellsForm before (Sign Equals s) form.PropertyDefault
  -- `+` directly behind `[`
  multi_reference : {s : Span} → HasLast OpenBracket before → TellsForm before (Sign Plus s) form.MultiReference
  -- a regular expression with flags, wherever it stands
  regex_flags : {s : Span} → TellsForm before (Flagged s) form.RegexFlags
  -- `hidden` behind a parser rule's name or type
  hidden_list : {w : List ℕ} {s : Span} {begun behind : List Lexeme} {type : RuleResult} → Unfinished before begun → RuleHead begun behind →
      SpellsResult behind [] type → TellsForm before (Word w (Some word.Hidden) s) form.HiddenList
  -- another word directly behind the word `infix` where a rule begins
  infix_rule : {w : List ℕ} {r : Option Reserved} {s p : Span} → Unfinished before (Word (codes "infix") None p ∷ []) → r ≢ Some word.Hidden →
      TellsForm before (Word w r s) form.InfixRule

-- the form that the token tells, if it tells one
abbrev pub TellsOrNone : List Lexeme → Lexeme → Option Form → Type 0
TellsOrNone before t (Some f) = TellsForm before t f
TellsOrNone before t None = (f : Form) → ¬ TellsForm before t f

-- ---- how the reader finds it, by what it knows of the place

abbrev pub is_name : Spot → Bool
is_name spot.FirstName = true
is_name spot.RuleName = true
is_name _ = false

abbrev pub is_in_head : Spot → Bool
is_in_head spot.FirstName = true
is_in_head spot.RuleName = true
is_in_head spot.RuleType = true
is_in_head _ = false

abbrev pub is_in_rule : Spot → Bool
is_in_rule spot.FirstName = true
is_in_rule spot.RuleName = true
is_in_rule spot.RuleType = true
is_in_rule spot.Rule = true
is_in_rule _ = false

abbrev pub is_first_name : Spot → Bool
is_first_name spot.FirstName = true
is_first_name _ = false

abbrev pub is_in_terminal : Spot → Bool
is_in_terminal spot.Terminal = true
is_in_terminal _ = false

abbrev pub is_behind_type : Spot → Bool
is_behind_type spot.Attribute = true
is_behind_type _ = false

abbrev pub last_token : List Lexeme → List Lexeme
last_token ts = drop (length ts - 1) ts

abbrev pub begins_infix : List Lexeme → Bool
begins_infix (Word n r s ∷ ts) = bytes_eq n (codes "infix")
begins_infix _ = false

abbrev pub form_of_symbol : Spot → List Lexeme → Symbol → Option Form
form_of_symbol s before Ampersand = Some form.UnorderedGroup
form_of_symbol s before Less = Some form.GuardOrParameter
form_of_symbol s before FatArrow = Some form.Predicate
form_of_symbol s before ThinArrow = if is_in_rule s then Some form.Predicate else if is_in_terminal s then Some form.Until else None
form_of_symbol s before Exclamation = if is_in_terminal s then Some form.Negation else None
form_of_symbol s before Dot = if is_in_terminal s then Some form.Wildcard else None
form_of_symbol s before Question = if is_in_terminal s && sees OpenParenthesis (last_token before) then Some form.Lookaround else None
form_of_symbol s before QuestionEquals = if is_in_terminal s && sees OpenParenthesis (last_token before) then Some form.Lookaround else None
form_of_symbol s before Star = if is_name s then Some form.WildcardFragment else None
form_of_symbol s before Equals = if is_behind_type s then Some form.PropertyDefault else None
form_of_symbol s before Plus = if sees OpenBracket (last_token before) then Some form.MultiReference else None
form_of_symbol s before _ = None

abbrev pub is_hidden : Option Reserved → Bool
is_hidden (Some word.Hidden) = true
is_hidden _ = false

abbrev pub form_told : Spot → List Lexeme → Lexeme → Option Form
form_told s before (Flagged p) = Some form.RegexFlags
form_told s before (Word n r p) =
    if is_hidden r && is_in_head s then Some form.HiddenList else if is_first_name s && begins_infix (last_token before) then Some form.InfixRule else None
form_told s before (Sign x p) = form_of_symbol s before x
form_told s before _ = None

-- of the first of the tokens that are left
abbrev pub form_left : Spot → List Lexeme → List Lexeme → Option Form
form_left s before [] = None
form_left s before (t ∷ ts) = form_told s before t
