-- Parser rules as they are written, and what they say. The tokens `ts` spell a thing where they begin with it and `rest` is left.
-- Held against the Langium documentation, "Grammar language", of which this is a stated part.
--     ParserRule: 'entry'? 'fragment'? Word ('returns' (Word | Primitive) | 'infers' Word)? ':' Choice ';'
--     Choice:     Seq ('|' Seq)*
--     Seq:        Element+
--     Element:    (Assign | String | Word | '(' Choice ')') Card? | Action
--     Card:       '?' | '*' | '+'
--     Assign:     Feature ('=' | '+=' | '?=') Value
--     Value:      String | Word | Cross | '(' Value ('|' Value)* ')'
--     Cross:      '[' Word ((':' | '|') Word)? ']'
--     Action:     '{' ('infer' Word | Word) ('.' Feature ('=' | '+=') 'current')? '}'
-- A Word is a word that is not reserved, a Feature any word, a Primitive the word of one. A row or a choice of one part is the part
-- itself. A place of one word or string is that token's; that of a row or a choice runs from its first part's to its last part's; any
-- other runs from the thing's first token to its last, so that of a marked element holds the mark and the parentheses that are marked.
use Rattle.std.specs.Prelude.{ℕ, ◌≡◌, List, [], ◌∷◌, Bool, true, false, Option, Some, None}
use Rattle.lw_base.specs.declared.token.Span.{Span}
use Rattle.lw_grammar.specs.declared.rule.Rule.{Rule}
use Rattle.lw_grammar.specs.declared.rule.RuleResult.{RuleResult}
use Rattle.lw_grammar.specs.declared.rule.RuleResult.TheVariants.{Own, Returns, Gives, Infers}
use Rattle.lw_grammar.specs.declared.rule.Element.{Element}
use Rattle.lw_grammar.specs.declared.rule.Element.TheVariants.{Keyword, Call, Assign, Act, Maybe, Many, Some1}
use Rattle.lw_grammar.specs.declared.rule.Op.{Op}
use Rattle.lw_grammar.specs.declared.rule.Op.TheVariants.{One, Add, Flag}
use Rattle.lw_grammar.specs.declared.rule.Value0.{Value0}
use Rattle.lw_grammar.specs.declared.rule.Value0.TheVariants as value
use Rattle.lw_grammar.specs.declared.rule.Action.{Action}
use Rattle.lw_grammar.specs.declared.terminal.Primitive.{Primitive}
use Rattle.lw_gramlex.specs.declared.token.Symbol.{Symbol}
use Rattle.lw_gramlex.specs.declared.token.Symbol.TheVariants.{Question, Star, Plus, Colon, Semicolon, Bar, Dot, Equals, PlusEquals, QuestionEquals, OpenParenthesis, CloseParenthesis, OpenBracket, CloseBracket, OpenBrace, CloseBrace}
use Rattle.lw_gramread.specs.declared.lexeme.Reserved.{Reserved}
use Rattle.lw_gramread.specs.declared.lexeme.Reserved.TheVariants as word
use Rattle.lw_gramread.specs.declared.lexeme.Lexeme.{Lexeme}
use Rattle.lw_gramread.specs.declared.lexeme.Lexeme.TheVariants.{Word, Text, Sign}
use Rattle.lw_gramread.specs.Lexemes.{primitive_of}
use Rattle.lw_gramread.specs.OptionalTokens.{MayTakeWord}
use Rattle.lw_gramread.specs.Spans.{across, group_of, choice_of, value_among}

-- ---- values, each with the place from its first token to its last

-- (':' | '|') Word
pub data SpellsCrossRule : List Lexeme → List Lexeme → Option (List ℕ) → Type 0 where
  by_name : {ts : List Lexeme} → SpellsCrossRule ts ts None
  behind_colon : {c s : Span} {n : List ℕ} {ts : List Lexeme} → SpellsCrossRule (Sign Colon c ∷ Word n None s ∷ ts) ts (Some n)
  behind_bar : {b s : Span} {n : List ℕ} {ts : List Lexeme} → SpellsCrossRule (Sign Bar b ∷ Word n None s ∷ ts) ts (Some n)

mutual
  pub data SpellsValue : List Lexeme → List Lexeme → Value0 → Span → Type 0 where
    string : {v : List ℕ} {s : Span} {ts : List Lexeme} → SpellsValue (Text v s ∷ ts) ts (value.Keyword v s) s
    call : {n : List ℕ} {s : Span} {ts : List Lexeme} → SpellsValue (Word n None s ∷ ts) ts (value.Call n s) s
    cross : {n : List ℕ} {s o c : Span} {ts rest : List Lexeme} {r : Option (List ℕ)} → SpellsCrossRule ts (Sign CloseBracket c ∷ rest) r →
        SpellsValue (Sign OpenBracket o ∷ Word n None s ∷ ts) rest (value.Cross n r (across o c)) (across o c)
    inside : {o c : Span} {ts rest : List Lexeme} {vs : List Value0} → SpellsValues ts (Sign CloseParenthesis c ∷ rest) vs →
        SpellsValue (Sign OpenParenthesis o ∷ ts) rest (value_among vs) (across o c)

  -- Value ('|' Value)*
  pub data SpellsValues : List Lexeme → List Lexeme → List Value0 → Type 0 where
    values : {ts mid rest : List Lexeme} {v : Value0} {place : Span} {vs : List Value0} → SpellsValue ts mid v place → SpellsMoreValues mid rest vs →
        SpellsValues ts rest (v ∷ vs)

  -- ('|' Value)*
  pub data SpellsMoreValues : List Lexeme → List Lexeme → List Value0 → Type 0 where
    no_value : {ts : List Lexeme} → SpellsMoreValues ts ts []
    value_and : {b : Span} {ts mid rest : List Lexeme} {v : Value0} {place : Span} {vs : List Value0} → SpellsValue ts mid v place →
        SpellsMoreValues mid rest vs → SpellsMoreValues (Sign Bar b ∷ ts) rest (v ∷ vs)

-- ---- elements

pub data IsOperator : Symbol → Op → Type 0 where
  one : IsOperator Equals One
  add : IsOperator PlusEquals Add
  flag : IsOperator QuestionEquals Flag

-- 'infer'? Word
pub data SpellsActionType : List Lexeme → List Lexeme → Bool → List ℕ → Type 0 where
  type_of : {infers : Bool} {n : List ℕ} {s : Span} {ts rest : List Lexeme} → MayTakeWord word.Infer ts (Word n None s ∷ rest) infers →
      SpellsActionType ts rest infers n

-- ('.' Feature ('=' | '+=') 'current')?
pub data SpellsPut : List Lexeme → List Lexeme → Option (List ℕ × Bool) → Type 0 where
  no_put : {ts : List Lexeme} → SpellsPut ts ts None
  put_one : {d e s t : Span} {p w : List ℕ} {r : Option Reserved} {ts : List Lexeme} →
      SpellsPut (Sign Dot d ∷ Word p r s ∷ Sign Equals e ∷ Word w (Some word.Current) t ∷ ts) ts (Some (p, false))
  put_list : {d e s t : Span} {p w : List ℕ} {r : Option Reserved} {ts : List Lexeme} →
      SpellsPut (Sign Dot d ∷ Word p r s ∷ Sign PlusEquals e ∷ Word w (Some word.Current) t ∷ ts) ts (Some (p, true))

pub data SpellsAction : List Lexeme → List Lexeme → Action → Type 0 where
  action : {o c : Span} {ts us rest : List Lexeme} {infers : Bool} {n : List ℕ} {put : Option (List ℕ × Bool)} → SpellsActionType ts us infers n →
      SpellsPut us (Sign CloseBrace c ∷ rest) put →
      SpellsAction (Sign OpenBrace o ∷ ts) rest (record { infers = infers; type_name = n; put = put; span = across o c })

-- Card?, behind a part with the place from its first token to its last: the element with its mark
pub data SpellsMark : List Lexeme → List Lexeme → Element → Span → Element → Type 0 where
  bare : {ts : List Lexeme} {e : Element} {place : Span} → SpellsMark ts ts e place e
  maybe : {m : Span} {ts : List Lexeme} {e : Element} {place : Span} → SpellsMark (Sign Question m ∷ ts) ts e place (Maybe e (across place m))
  many : {m : Span} {ts : List Lexeme} {e : Element} {place : Span} → SpellsMark (Sign Star m ∷ ts) ts e place (Many e (across place m))
  some : {m : Span} {ts : List Lexeme} {e : Element} {place : Span} → SpellsMark (Sign Plus m ∷ ts) ts e place (Some1 e (across place m))

mutual
  -- Assign | String | Word | '(' Choice ')', with the place from its first token to its last
  pub data SpellsPart : List Lexeme → List Lexeme → Element → Span → Type 0 where
    keyword : {v : List ℕ} {s : Span} {ts : List Lexeme} → SpellsPart (Text v s ∷ ts) ts (Keyword v s) s
    calls : {n : List ℕ} {s : Span} {ts : List Lexeme} → SpellsPart (Word n None s ∷ ts) ts (Call n s) s
    assigns : {p : List ℕ} {r : Option Reserved} {s o place : Span} {x : Symbol} {op : Op} {v : Value0} {ts rest : List Lexeme} → IsOperator x op →
        SpellsValue ts rest v place → SpellsPart (Word p r s ∷ Sign x o ∷ ts) rest (Assign p op v (across s place)) (across s place)
    enclosed : {o c : Span} {e : Element} {ts rest : List Lexeme} → SpellsChoice ts (Sign CloseParenthesis c ∷ rest) e →
        SpellsPart (Sign OpenParenthesis o ∷ ts) rest e (across o c)

  pub data SpellsElement : List Lexeme → List Lexeme → Element → Type 0 where
    part : {ts mid rest : List Lexeme} {e m : Element} {place : Span} → SpellsPart ts mid e place → SpellsMark mid rest e place m → SpellsElement ts rest m
    acts : {ts rest : List Lexeme} {a : Action} → SpellsAction ts rest a → SpellsElement ts rest (Act a)

  -- Element*
  pub data SpellsMoreElements : List Lexeme → List Lexeme → List Element → Type 0 where
    no_element : {ts : List Lexeme} → SpellsMoreElements ts ts []
    element_and : {ts mid rest : List Lexeme} {e : Element} {es : List Element} → SpellsElement ts mid e → SpellsMoreElements mid rest es →
        SpellsMoreElements ts rest (e ∷ es)

  -- Element+
  pub data SpellsRow : List Lexeme → List Lexeme → Element → Type 0 where
    row : {ts mid rest : List Lexeme} {e : Element} {es : List Element} → SpellsElement ts mid e → SpellsMoreElements mid rest es →
        SpellsRow ts rest (group_of (e ∷ es))

  -- ('|' Seq)*
  pub data SpellsMoreRows : List Lexeme → List Lexeme → List Element → Type 0 where
    no_row : {ts : List Lexeme} → SpellsMoreRows ts ts []
    row_and : {b : Span} {ts mid rest : List Lexeme} {e : Element} {es : List Element} → SpellsRow ts mid e → SpellsMoreRows mid rest es →
        SpellsMoreRows (Sign Bar b ∷ ts) rest (e ∷ es)

  -- Seq ('|' Seq)*
  pub data SpellsChoice : List Lexeme → List Lexeme → Element → Type 0 where
    choice : {ts mid rest : List Lexeme} {e : Element} {es : List Element} → SpellsRow ts mid e → SpellsMoreRows mid rest es →
        SpellsChoice ts rest (choice_of (e ∷ es))

-- ---- rules

-- ('returns' (Word | Primitive) | 'infers' Word)?
pub data SpellsResult : List Lexeme → List Lexeme → RuleResult → Type 0 where
  own : {ts : List Lexeme} → SpellsResult ts ts Own
  returns : {w n : List ℕ} {r s : Span} {ts : List Lexeme} → SpellsResult (Word w (Some word.Returns) r ∷ Word n None s ∷ ts) ts (Returns n s)
  gives : {w n : List ℕ} {r s : Span} {q : Reserved} {p : Primitive} {ts : List Lexeme} → primitive_of q ≡ Some p →
      SpellsResult (Word w (Some word.Returns) r ∷ Word n (Some q) s ∷ ts) ts (Gives p)
  infers : {w n : List ℕ} {i s : Span} {ts : List Lexeme} → SpellsResult (Word w (Some word.Infers) i ∷ Word n None s ∷ ts) ts (Infers n s)

pub data SpellsRule : List Lexeme → List Lexeme → Rule → Type 0 where
  rule : {n : List ℕ} {s c e : Span} {ts us vs ws rest : List Lexeme} {entry fragment : Bool} {result : RuleResult} {body : Element} →
      MayTakeWord word.Entry ts us entry → MayTakeWord word.Fragment us (Word n None s ∷ vs) fragment → SpellsResult vs (Sign Colon c ∷ ws) result →
      SpellsChoice ws (Sign Semicolon e ∷ rest) body →
      SpellsRule ts rest (record { name = n; file = 0; span = s; is_entry = entry; is_fragment = fragment; result = result; body = body })
