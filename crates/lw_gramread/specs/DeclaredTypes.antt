-- Interfaces and unions as they are written, and what they say. The tokens `ts` spell a thing where they begin with it and `rest` is left.
-- Held against the Langium documentation, "Grammar language", of which this is a stated part.
--     Interface: 'interface' Word ('extends' Word (',' Word)*)? '{' Attribute* '}' ';'?
--     Attribute: Feature '?'? ':' Single ('[' ']' | ('|' Single)*) ';'?
--     Single:    '@' Word | Word | Primitive | String | '(' Single ('|' Single)* ')'
--     Union:     'type' Word '=' Single ('|' Single)* ';'?
-- A Word is a word that is not reserved, a Feature any word, a Primitive the word of one. A place stands beside a thing of one name,
-- and is that of the name. The parentheses of a type are flattened.
use Rattle.std.specs.Prelude.{ℕ, ◌≡◌, List, [], ◌∷◌, ◌++◌, Bool, true, false, Option, Some, None}
use Rattle.lw_base.specs.declared.token.Span.{Span}
use Rattle.lw_grammar.specs.declared.declared_types.Interface.{Interface}
use Rattle.lw_grammar.specs.declared.declared_types.Attribute.{Attribute}
use Rattle.lw_grammar.specs.declared.declared_types.UnionDef.{UnionDef}
use Rattle.lw_grammar.specs.declared.declared_types.Member.{Member}
use Rattle.lw_grammar.specs.declared.declared_types.Member.TheVariants.{Named, Refers, Plain, Literal}
use Rattle.lw_grammar.specs.declared.terminal.Primitive.{Primitive}
use Rattle.lw_gramlex.specs.declared.token.Symbol.TheVariants.{Question, Colon, Semicolon, Comma, At, Bar, Equals, OpenParenthesis, CloseParenthesis, OpenBracket, CloseBracket, OpenBrace, CloseBrace}
use Rattle.lw_gramread.specs.declared.lexeme.Reserved.{Reserved}
use Rattle.lw_gramread.specs.declared.lexeme.Reserved.TheVariants as word
use Rattle.lw_gramread.specs.declared.lexeme.Lexeme.{Lexeme}
use Rattle.lw_gramread.specs.declared.lexeme.Lexeme.TheVariants.{Word, Text, Sign}
use Rattle.lw_gramread.specs.Lexemes.{primitive_of}
use Rattle.lw_gramread.specs.OptionalTokens.{MayTake}

-- (',' Word)*
pub data SpellsMoreNames : List Lexeme → List Lexeme → List (List ℕ × Span) → Type 0 where
  none : {ts : List Lexeme} → SpellsMoreNames ts ts []
  more : {c s : Span} {n : List ℕ} {ts rest : List Lexeme} {names : List (List ℕ × Span)} → SpellsMoreNames ts rest names →
      SpellsMoreNames (Sign Comma c ∷ Word n None s ∷ ts) rest ((n, s) ∷ names)

-- ('extends' Word (',' Word)*)?
pub data SpellsAbove : List Lexeme → List Lexeme → List (List ℕ × Span) → Type 0 where
  nothing : {ts : List Lexeme} → SpellsAbove ts ts []
  extends : {w n : List ℕ} {e s : Span} {ts rest : List Lexeme} {names : List (List ℕ × Span)} → SpellsMoreNames ts rest names →
      SpellsAbove (Word w (Some word.Extends) e ∷ Word n None s ∷ ts) rest ((n, s) ∷ names)

mutual
  pub data SpellsSingle : List Lexeme → List Lexeme → List Member → Type 0 where
    refers : {a s : Span} {n : List ℕ} {ts : List Lexeme} → SpellsSingle (Sign At a ∷ Word n None s ∷ ts) ts (Refers n s ∷ [])
    named : {s : Span} {n : List ℕ} {ts : List Lexeme} → SpellsSingle (Word n None s ∷ ts) ts (Named n s ∷ [])
    plain : {s : Span} {n : List ℕ} {r : Reserved} {p : Primitive} {ts : List Lexeme} → primitive_of r ≡ Some p →
        SpellsSingle (Word n (Some r) s ∷ ts) ts (Plain p ∷ [])
    literal : {s : Span} {v : List ℕ} {ts : List Lexeme} → SpellsSingle (Text v s ∷ ts) ts (Literal v ∷ [])
    inside : {o c : Span} {ts rest : List Lexeme} {ms : List Member} → SpellsMembers ts (Sign CloseParenthesis c ∷ rest) ms →
        SpellsSingle (Sign OpenParenthesis o ∷ ts) rest ms

  -- Single ('|' Single)*
  pub data SpellsMembers : List Lexeme → List Lexeme → List Member → Type 0 where
    members : {ts mid rest : List Lexeme} {ms ns : List Member} → SpellsSingle ts mid ms → SpellsMoreMembers mid rest ns → SpellsMembers ts rest (ms ++ ns)

  -- ('|' Single)*
  pub data SpellsMoreMembers : List Lexeme → List Lexeme → List Member → Type 0 where
    no_member : {ts : List Lexeme} → SpellsMoreMembers ts ts []
    member : {b : Span} {ts mid rest : List Lexeme} {ms ns : List Member} → SpellsSingle ts mid ms → SpellsMoreMembers mid rest ns →
        SpellsMoreMembers (Sign Bar b ∷ ts) rest (ms ++ ns)

-- '[' ']' | ('|' Single)*: whether it is a list, and further members
pub data SpellsTypeEnd : List Lexeme → List Lexeme → Bool → List Member → Type 0 where
  list : {o c : Span} {ts : List Lexeme} → SpellsTypeEnd (Sign OpenBracket o ∷ Sign CloseBracket c ∷ ts) ts true []
  union : {ts rest : List Lexeme} {ms : List Member} → SpellsMoreMembers ts rest ms → SpellsTypeEnd ts rest false ms

pub data SpellsAttribute : List Lexeme → List Lexeme → Attribute → Type 0 where
  attribute : {n : List ℕ} {r : Option Reserved} {s c : Span} {ts us vs ws rest : List Lexeme} {optional is_list ended : Bool} {ms ns : List Member} →
      MayTake Question ts (Sign Colon c ∷ us) optional → SpellsSingle us vs ms → SpellsTypeEnd vs ws is_list ns → MayTake Semicolon ws rest ended →
      SpellsAttribute (Word n r s ∷ ts) rest (record { name = n; span = s; optional = optional; list = is_list; members = ms ++ ns })

pub data SpellsAttributes : List Lexeme → List Lexeme → List Attribute → Type 0 where
  no_attribute : {ts : List Lexeme} → SpellsAttributes ts ts []
  attribute_and : {ts mid rest : List Lexeme} {a : Attribute} {others : List Attribute} → SpellsAttribute ts mid a → SpellsAttributes mid rest others →
      SpellsAttributes ts rest (a ∷ others)

-- behind the word `interface`
pub data SpellsInterface : List Lexeme → List Lexeme → Interface → Type 0 where
  interface : {n : List ℕ} {s o c : Span} {ts us vs rest : List Lexeme} {above : List (List ℕ × Span)} {inner : List Attribute} {ended : Bool} →
      SpellsAbove ts (Sign OpenBrace o ∷ us) above → SpellsAttributes us (Sign CloseBrace c ∷ vs) inner → MayTake Semicolon vs rest ended →
      SpellsInterface (Word n None s ∷ ts) rest (record { name = n; file = 0; span = s; above = above; attributes = inner })

-- behind the word `type`
pub data SpellsUnion : List Lexeme → List Lexeme → UnionDef → Type 0 where
  union_of : {n : List ℕ} {s e : Span} {ts us rest : List Lexeme} {ms : List Member} {ended : Bool} → SpellsMembers ts us ms → MayTake Semicolon us rest ended →
      SpellsUnion (Word n None s ∷ Sign Equals e ∷ ts) rest (record { name = n; file = 0; span = s; members = ms })
