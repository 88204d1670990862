-- What may follow in a grammar file, token by token: what is still wanted, on a stack, and how a token changes it. A stack can always be
-- finished, so what was read up to a token that cannot follow is the beginning of a whole file.
use Rattle.std.proofs.Common.{ℕ, zero, suc, Bool, true, false, ◌||◌, List, [], ◌∷◌, ◌++◌, Option, Some, None, is_some}
use Rattle.std.specs.Prelude.{if◌then◌else◌}
use Rattle.lw_gramlex.specs.declared.token.Symbol.{Symbol}
use Rattle.lw_gramlex.specs.declared.token.Symbol.TheVariants as sign
use Rattle.lw_gramread.specs.declared.lexeme.Reserved.{Reserved}
use Rattle.lw_gramread.specs.declared.lexeme.Reserved.TheVariants as word
use Rattle.lw_gramread.specs.declared.lexeme.Lexeme.{Lexeme}
use Rattle.lw_gramread.specs.declared.lexeme.Lexeme.TheVariants.{Sign}
use Rattle.lw_gramread.specs.declared.reader.left.Spot.{Spot}
use Rattle.lw_gramread.specs.declared.reader.left.Spot.TheVariants as spot
use Rattle.lw_gramread.specs.Steps.{sees, sees_reserved, sees_word, sees_name, sees_text, sees_regex, sees_primitive, next_operator}
use Rattle.lw_gramread.specs.ElementSteps.{begins_element}
use Rattle.lw_gramread.specs.TerminalSteps.{begins_term}

-- what is wanted next
pub data Sym : Type 0 where
  Want : Symbol → Sym
  WantWord : Reserved → Sym
  WantName : Sym
  WantFeature : Sym
  WantText : Sym
  WantPrimitive : Sym
  May : Symbol → Sym
  -- behind the name of an interface, and behind one that it extends
  Above : Sym
  NamesOpen : Sym
  -- attributes and the brace that closes them
  Attributes : Sym
  Single : Sym
  -- behind a first member of an attribute, behind another, and behind the whole type
  TypeEnd : Sym
  AttributeMembers : Sym
  AttributeEnd : Sym
  -- behind a member of a union, and behind one in parentheses
  MembersEnd : Sym
  MembersClose : Sym
  Value : Sym
  ValuesClose : Sym
  CrossEnd : Sym
  Element : Sym
  -- behind an element, up to the end of a rule or to a parenthesis
  RowsEnd : Sym
  RowsClose : Sym
  Card : Sym
  AfterWord : Sym
  Operator : Sym
  ActionType : Sym
  PutEnd : Sym
  PutOperator : Sym
  RuleName : Sym
  -- behind a rule's name, before its type and before the colon; whether the rule begins with its name
  ResultColon : Bool → Sym
  NameColon : Bool → Sym
  -- behind its type
  TypedColon : Sym
  Returned : Sym
  TerminalName : Sym
  ReturnsColon : Sym
  Term : Sym
  TermsEnd : Sym
  TermsClose : Sym
  AfterText : Sym

abbrev pub is : Symbol → Lexeme → Bool
is x t = sees x (t ∷ [])

abbrev pub is_reserved : Reserved → Lexeme → Bool
is_reserved r t = sees_reserved r (t ∷ [])

abbrev pub Wanted : Type 0
Wanted = Option (List Sym)

abbrev pub followed : Wanted → Sym → Wanted
followed (Some wants) s = Some (wants ++ s ∷ [])
followed None s = None

abbrev pub opens : Lexeme → Wanted
opens t = if is sign.OpenBrace t then Some (Attributes ∷ []) else None

abbrev pub members_end : Lexeme → Wanted
members_end t = if is sign.Bar t then Some (Single ∷ MembersEnd ∷ []) else if is sign.Semicolon t then Some [] else None

abbrev pub attribute_members : Lexeme → Wanted
attribute_members t = if is sign.Bar t then Some (Single ∷ AttributeMembers ∷ []) else if is sign.Semicolon t then Some [] else None

abbrev pub card : Lexeme → Wanted
card t = if is sign.Question t || is sign.Star t || is sign.Plus t then Some [] else None

abbrev pub element_begin : Lexeme → Wanted
element_begin t =
    if is sign.OpenBrace t then Some (ActionType ∷ PutEnd ∷ []) else if is sign.OpenParenthesis t then Some (Element ∷ RowsClose ∷ Card ∷ [])
    else if sees_text (t ∷ []) then Some (Card ∷ []) else if sees_name (t ∷ []) then Some (AfterWord ∷ [])
    else if sees_word (t ∷ []) then Some (Operator ∷ Value ∷ Card ∷ []) else None

abbrev pub term_begin : Lexeme → Wanted
term_begin t =
    if is sign.OpenParenthesis t then Some (Term ∷ TermsClose ∷ Card ∷ []) else if sees_regex (t ∷ []) then Some (Card ∷ [])
    else if sees_text (t ∷ []) then Some (AfterText ∷ []) else if sees_name (t ∷ []) then Some (Card ∷ []) else None

-- what this token begins of what is wanted, by what is wanted then
abbrev pub begin : Sym → Lexeme → Wanted
begin (Want x) t = if is x t then Some [] else None
begin (WantWord r) t = if is_reserved r t then Some [] else None
begin WantName t = if sees_name (t ∷ []) then Some [] else None
begin WantFeature t = if sees_word (t ∷ []) then Some [] else None
begin WantText t = if sees_text (t ∷ []) then Some [] else None
begin WantPrimitive t = if sees_primitive (t ∷ []) then Some [] else None
begin (May x) t = if is x t then Some [] else None
begin Above t = if is_reserved word.Extends t then Some (WantName ∷ NamesOpen ∷ []) else opens t
begin NamesOpen t = if is sign.Comma t then Some (WantName ∷ NamesOpen ∷ []) else opens t
begin Attributes t =
    if sees_word (t ∷ []) then Some (May sign.Question ∷ Want sign.Colon ∷ Single ∷ TypeEnd ∷ Attributes ∷ [])
    else if is sign.CloseBrace t then Some (May sign.Semicolon ∷ []) else None
begin Single t =
    if is sign.OpenParenthesis t then Some (Single ∷ MembersClose ∷ []) else if is sign.At t then Some (WantName ∷ [])
    else if sees_primitive (t ∷ []) then Some [] else if sees_text (t ∷ []) then Some [] else if sees_name (t ∷ []) then Some [] else None
begin TypeEnd t = if is sign.OpenBracket t then Some (Want sign.CloseBracket ∷ AttributeEnd ∷ []) else attribute_members t
begin AttributeMembers t = attribute_members t
begin AttributeEnd t = if is sign.Semicolon t then Some [] else None
begin MembersEnd t = members_end t
begin MembersClose t = if is sign.Bar t then Some (Single ∷ MembersClose ∷ []) else if is sign.CloseParenthesis t then Some [] else None
begin Value t =
    if is sign.OpenParenthesis t then Some (Value ∷ ValuesClose ∷ []) else if is sign.OpenBracket t then Some (WantName ∷ CrossEnd ∷ [])
    else if sees_text (t ∷ []) then Some [] else if sees_name (t ∷ []) then Some [] else None
begin ValuesClose t = if is sign.Bar t then Some (Value ∷ ValuesClose ∷ []) else if is sign.CloseParenthesis t then Some [] else None
begin CrossEnd t =
    if is sign.Colon t then Some (WantName ∷ Want sign.CloseBracket ∷ []) else if is sign.Bar t then Some (WantName ∷ Want sign.CloseBracket ∷ [])
    else if is sign.CloseBracket t then Some [] else None
begin Element t = element_begin t
begin RowsEnd t =
    if begins_element (t ∷ []) then followed (element_begin t) RowsEnd else if is sign.Bar t then Some (Element ∷ RowsEnd ∷ [])
    else if is sign.Semicolon t then Some [] else None
begin RowsClose t =
    if begins_element (t ∷ []) then followed (element_begin t) RowsClose else if is sign.Bar t then Some (Element ∷ RowsClose ∷ [])
    else if is sign.CloseParenthesis t then Some [] else None
begin Card t = card t
begin AfterWord t = if is_some (next_operator (t ∷ [])) then Some (Value ∷ Card ∷ []) else card t
begin Operator t = if is_some (next_operator (t ∷ [])) then Some [] else None
begin ActionType t = if is_reserved word.Infer t then Some (WantName ∷ []) else if sees_name (t ∷ []) then Some [] else None
begin PutEnd t =
    if is sign.Dot t then Some (WantFeature ∷ PutOperator ∷ WantWord word.Current ∷ Want sign.CloseBrace ∷ [])
    else if is sign.CloseBrace t then Some [] else None
begin PutOperator t = if is sign.PlusEquals t then Some [] else if is sign.Equals t then Some [] else None
begin RuleName t = if is_reserved word.Fragment t then Some (WantName ∷ []) else if sees_name (t ∷ []) then Some [] else None
begin (ResultColon first) t =
    if is_reserved word.Infers t then Some (WantName ∷ TypedColon ∷ []) else if is_reserved word.Returns t then Some (Returned ∷ TypedColon ∷ [])
    else if is sign.Colon t then Some [] else None
begin (NameColon first) t = if is sign.Colon t then Some [] else None
begin TypedColon t = if is sign.Colon t then Some [] else None
begin Returned t = if sees_primitive (t ∷ []) then Some [] else if sees_name (t ∷ []) then Some [] else None
begin TerminalName t = if is_reserved word.Fragment t then Some (WantName ∷ Want sign.Colon ∷ []) else if sees_name (t ∷ []) then Some (ReturnsColon ∷ []) else None
begin ReturnsColon t = if is_reserved word.Returns t then Some (WantPrimitive ∷ Want sign.Colon ∷ []) else if is sign.Colon t then Some [] else None
begin Term t = term_begin t
begin TermsEnd t =
    if begins_term (t ∷ []) then followed (term_begin t) TermsEnd else if is sign.Bar t then Some (Term ∷ TermsEnd ∷ [])
    else if is sign.Semicolon t then Some [] else None
begin TermsClose t =
    if begins_term (t ∷ []) then followed (term_begin t) TermsClose else if is sign.Bar t then Some (Term ∷ TermsClose ∷ [])
    else if is sign.CloseParenthesis t then Some [] else None
begin AfterText t = if is sign.DotDot t then Some (WantText ∷ Card ∷ []) else card t

-- whether it may be left out
abbrev pub nullable : Sym → Bool
nullable (May x) = true
nullable TypeEnd = true
nullable AttributeMembers = true
nullable AttributeEnd = true
nullable MembersEnd = true
nullable Card = true
nullable AfterWord = true
nullable AfterText = true
nullable _ = false

-- where a file stands: in its head, between its items, or in one of them
pub data Bottom : Type 0 where
  AtStart : Bottom
  AtImports : Bottom
  AtItems : Bottom
  -- whether it is an interface
  InType : Bool → Bottom
  InRule : Bottom
  InTerminal : Bottom

pub record Stack : Type 0 where
  pub bottom : Bottom
  pub wants : List Sym

abbrev pub stands : Bottom → List Sym → Option Stack
stands b wants = Some (record { bottom = b; wants = wants })

abbrev pub rule_begin : Lexeme → Option Stack
rule_begin t =
    if is_reserved word.Entry t then stands InRule (RuleName ∷ ResultColon false ∷ Element ∷ RowsEnd ∷ [])
    else if is_reserved word.Fragment t then stands InRule (WantName ∷ ResultColon false ∷ Element ∷ RowsEnd ∷ [])
    else if sees_name (t ∷ []) then stands InRule (ResultColon true ∷ Element ∷ RowsEnd ∷ []) else None

abbrev pub item_begin : Lexeme → Option Stack
item_begin t =
    if is_reserved word.Interface t then stands (InType true) (WantName ∷ Above ∷ [])
    else if is_reserved word.Type t then stands (InType false) (WantName ∷ Want sign.Equals ∷ Single ∷ MembersEnd ∷ [])
    else if is_reserved word.Hidden t then stands InTerminal (WantWord word.Terminal ∷ TerminalName ∷ Term ∷ TermsEnd ∷ [])
    else if is_reserved word.Terminal t then stands InTerminal (TerminalName ∷ Term ∷ TermsEnd ∷ []) else rule_begin t

abbrev pub bottom_begin : Bottom → Lexeme → Option Stack
bottom_begin AtImports t = if is_reserved word.Import t then stands AtImports (WantText ∷ May sign.Semicolon ∷ []) else item_begin t
bottom_begin AtStart t =
    if is_reserved word.Grammar t then stands AtImports (WantName ∷ [])
    else if is_reserved word.Import t then stands AtImports (WantText ∷ May sign.Semicolon ∷ []) else item_begin t
bottom_begin _ t = item_begin t

abbrev pub pushed : Wanted → Bottom → List Sym → Option Stack → Option Stack
pushed (Some wants) b others next = Some (record { bottom = b; wants = wants ++ others })
pushed None b others next = next

-- what a token makes of a stack
abbrev pub after : Bottom → List Sym → Lexeme → Option Stack
after b [] t = bottom_begin b t
after b (s ∷ others) t = pushed (begin s t) b others (if nullable s then after b others t else None)

abbrev pub all_nullable : List Sym → Bool
all_nullable [] = true
all_nullable (s ∷ others) = if nullable s then all_nullable others else false

-- how many parentheses may still be opened behind a token
abbrev pub opened : ℕ → Option ℕ
opened zero = None
opened (suc d) = Some d

abbrev pub deeper : ℕ → Lexeme → Option ℕ
deeper d (Sign sign.OpenParenthesis s) = opened d
deeper d (Sign sign.CloseParenthesis s) = Some (suc d)
deeper d t = Some d

-- what the reader says of a token that cannot follow
abbrev pub bottom_spot : Bottom → Spot
bottom_spot InRule = spot.Rule
bottom_spot InTerminal = spot.Terminal
bottom_spot _ = spot.Elsewhere

-- behind the type of an attribute
abbrev pub type_spot : Bottom → List Lexeme → Spot → Spot
type_spot (InType true) left s = if sees sign.Equals left then spot.Attribute else s
type_spot _ left s = s

-- in the head of a rule
abbrev pub head_spot : Bottom → Spot → Spot
head_spot InRule s = s
head_spot b s = bottom_spot b

abbrev pub name_spot : Bool → Spot
name_spot first = if first then spot.FirstName else spot.RuleName

abbrev pub spot_of : Bottom → List Sym → List Lexeme → Spot
spot_of b [] left = spot.Elsewhere
spot_of b (TypeEnd ∷ others) left = type_spot b left (spot_of b others left)
spot_of b (AttributeMembers ∷ others) left = type_spot b left (spot_of b others left)
spot_of b (AttributeEnd ∷ others) left = type_spot b left (spot_of b others left)
spot_of b (May x ∷ others) left = spot_of b others left
spot_of b (MembersEnd ∷ others) left = spot_of b others left
spot_of b (Card ∷ others) left = spot_of b others left
spot_of b (AfterWord ∷ others) left = spot_of b others left
spot_of b (AfterText ∷ others) left = spot_of b others left
spot_of b (ResultColon first ∷ others) left = head_spot b (name_spot first)
spot_of b (NameColon first ∷ others) left = head_spot b (name_spot first)
spot_of b (TypedColon ∷ others) left = head_spot b spot.RuleType
spot_of b (s ∷ others) left = bottom_spot b

-- where tokens stop: at the first of these, which cannot follow, or at a parenthesis too deep
pub data Verdict : Type 0 where
  Fine : Verdict
  Stuck : Spot → List Lexeme → Verdict
  Deep : List Lexeme → Verdict

abbrev pub verdict : Option Stack → Option ℕ → Spot → List Lexeme → (ℕ → Bottom → List Sym → Verdict) → Verdict
verdict None d s left k = Stuck s left
verdict (Some m) None s left k = Deep left
verdict (Some m) (Some d) s left k = k d m.bottom m.wants

abbrev pub place : ℕ → Bottom → List Sym → List Lexeme → Verdict
place d b wants [] = if all_nullable wants then Fine else Stuck (spot_of b wants []) []
place d b wants (t ∷ ts) = verdict (after b wants t) (deeper d t) (spot_of b wants (t ∷ ts)) (t ∷ ts) (λ n c others. place n c others ts)
