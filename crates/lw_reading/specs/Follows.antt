-- What marks build. Read aloud, `FollowsMarks m ts bs` is: after the marks m, read with the tokens ts, these brackets are open, the innermost
-- first.
-- Held against the Langium documentation, "Grammar language": parser rules, unassigned rule calls, simple and tree-rewriting actions,
-- assignments, cross-references, data type rules.
use Rattle.std.specs.Prelude.{ℕ, ◌≡◌, ◌≢◌, Option, Some, None, List, [], ◌∷◌, ◌++◌, length, drop, Bool, slice_get}
use Rattle.lw_base.specs.declared.token.Span.{Span}
use Rattle.lw_base.specs.declared.token.Token.{Token}
use Rattle.lw_grammar.specs.declared.grammar.Grammar.{Grammar}
use Rattle.lw_grammar.specs.declared.rule.Op.{Op}
use Rattle.lw_grammar.specs.declared.rule.Op.TheVariants.{Flag}
use Rattle.lw_grammar.specs.declared.rule.Rule.{Rule}
use Rattle.lw_grammar.specs.declared.rule.Action.{Action}
use Rattle.lw_grammar.specs.declared.rule.Value0.{Value0, out-Value0}
use Rattle.lw_grammar.specs.declared.rule.Value0.TheOpen.{Keyword, Call, Cross}
use Rattle.lw_grammar.specs.declared.terminal.Terminal.{Terminal}
use Rattle.lw_grammar.specs.Named.{IsRule, IsTerminal}
use Rattle.lw_grammar.specs.NameRules.{IsNameRule}
use Rattle.lw_grammar.specs.Subtypes.{HasType}
use Rattle.lw_grammar.specs.Marks.{Mark, Token as AToken, Open, Shut, Put, End, Act}
use Rattle.lw_reading.specs.Grown.{Plain, Text, Truth, Grown, Held, Nothing, Puts, Takes, Points}
use Rattle.lw_reading.specs.Numbers.{IsNumberOfType, IsNumberOfProperty}
use Rattle.lw_reading.specs.Values.{TokenMeans, TokenNames}
use Rattle.lw_reading.specs.Brackets.{Bracket, InNode, InValue, Root, span_of_tokens, joined_texts, grown, Shuts}

-- what is read is a cross-reference
abbrev pub IsCross : Value0 → Type 0
IsCross c = (wanted : List ℕ) × (rule : Option (List ℕ)) × (s : Span) × (out-Value0 c ≡ Cross wanted rule s)

-- What is read becomes a reference once it is finished. `?=` of a cross-reference says only that it was read.
abbrev pub MakesReference : Op → Value0 → Type 0
MakesReference op c = (op ≢ Flag) × IsCross c

-- a cross-reference to this type, which reads its text by the rule or terminal of this name
pub data RefersBy (g : Grammar) (c : Value0) : List ℕ → List ℕ → Type 0 where
  written : {wanted name : List ℕ} {s : Span} → out-Value0 c ≡ Cross wanted (Some name) s → RefersBy g c wanted name
  by_type : {wanted name : List ℕ} {s : Span} → out-Value0 c ≡ Cross wanted None s → IsNameRule g wanted name → RefersBy g c wanted name

module _ (g : Grammar) (text : List ℕ) where
  -- the name that these tokens, read by the terminal or rule of a name, look up
  pub data LooksUp (name : List ℕ) (ts : List Token) : List ℕ → Type 0 where
    terminal : {looked : List ℕ} (n : ℕ) (terminal : Terminal) → IsTerminal g name n terminal → TokenNames terminal (joined_texts text ts) looked →
        LooksUp name ts looked
    data_type : (r : ℕ) (rule : Rule) → IsRule g name r rule → LooksUp name ts (joined_texts text ts)

  -- a value that is no node and no reference
  pub data IsPlain : Op → Value0 → List Token → Plain → Type 0 where
    truth : {c : Value0} {ts : List Token} → IsPlain Flag c ts (Truth (span_of_tokens ts))
    keyword : {op : Op} {c : Value0} {word : List ℕ} {s : Span} {ts : List Token} → op ≢ Flag → out-Value0 c ≡ Keyword word s →
        IsPlain op c ts (Text word (span_of_tokens ts))
    terminal : {op : Op} {c : Value0} {name : List ℕ} {s : Span} {ts : List Token} {v : Plain} (n : ℕ) (terminal : Terminal) → op ≢ Flag →
        out-Value0 c ≡ Call name s → IsTerminal g name n terminal → TokenMeans terminal (joined_texts text ts) (span_of_tokens ts) v → IsPlain op c ts v
    data_type : {op : Op} {c : Value0} {name : List ℕ} {s : Span} {ts : List Token} (r : ℕ) (rule : Rule) → op ≢ Flag →
        out-Value0 c ≡ Call name s → IsRule g name r rule → IsPlain op c ts (Text (joined_texts text ts) (span_of_tokens ts))

  -- `PutsValueIn op c ts node held p after`: what was read, the tokens ts or a node, is put into p of the node that holds `held`
  pub data PutsValueIn (op : Op) (c : Value0) (ts : List Token) : Option Grown → Held → ℕ → Held → Type 0 where
    a_node : {x : Grown} {held : Held} {p : ℕ} → PutsValueIn op c ts (Some x) held p (Takes held p x)
    a_reference : {held : Held} {p want : ℕ} {wanted name looked : List ℕ} → op ≢ Flag → RefersBy g c wanted name → IsNumberOfType g wanted want →
        LooksUp name ts looked → PutsValueIn op c ts None held p (Points held p want looked (span_of_tokens ts))
    plain : {held : Held} {p : ℕ} {v : Plain} → IsPlain op c ts v → PutsValueIn op c ts None held p (Puts held p v)

  -- what a mark does to the open brackets, where the tokens ts were read before it
  pub data ChangesOpen (ts : List Token) : Mark → List Bracket → List Bracket → Type 0 where
    opens : {r type : ℕ} {rule : Rule} {name : List ℕ} {bs : List Bracket} → slice_get g.rules r ≡ Some rule → HasType g rule name →
        IsNumberOfType g name type → ChangesOpen ts (Open r) bs (InNode type (length ts) Nothing ∷ bs)
    puts : {name : List ℕ} {p : ℕ} {op : Op} {c : Value0} {bs : List Bracket} → IsNumberOfProperty g name p →
        ChangesOpen ts (Put name op c) bs (InValue p op c (length ts) None ∷ bs)
    shuts : {bs after : List Bracket} → Shuts ts bs after → ChangesOpen ts Shut bs after
    renames : {type from new : ℕ} {held : Held} {a : Action} {bs : List Bracket} → a.put ≡ None → IsNumberOfType g a.type_name new →
        ChangesOpen ts (Act a) (InNode type from held ∷ bs) (InNode new from held ∷ bs)
    wraps : {type from new p : ℕ} {held : Held} {a : Action} {name : List ℕ} {is_list : Bool} {bs : List Bracket} → a.put ≡ Some (name, is_list) →
        IsNumberOfType g a.type_name new → IsNumberOfProperty g name p →
        ChangesOpen ts (Act a) (InNode type from held ∷ bs) (InNode new from (Takes Nothing p (grown ts type from held)) ∷ bs)
    ends : {type from at p : ℕ} {held after : Held} {op : Op} {c : Value0} {node : Option Grown} {bs : List Bracket} →
        PutsValueIn op c (drop at ts) node held p after →
        ChangesOpen ts End (InValue p op c at node ∷ InNode type from held ∷ bs) (InNode type from after ∷ bs)

  pub data FollowsMarks : List Mark → List Token → List Bracket → Type 0 where
    nothing : FollowsMarks [] [] []
    token : {m : List Mark} {ts : List Token} {bs : List Bracket} (t : Token) → FollowsMarks m ts bs → FollowsMarks (m ++ AToken t.kind.0 ∷ []) (ts ++ t ∷ []) bs
    next : {m : List Mark} {mark : Mark} {ts : List Token} {bs after : List Bracket} → FollowsMarks m ts bs → ChangesOpen ts mark bs after →
        FollowsMarks (m ++ mark ∷ []) ts after

  -- what is left once each open bracket is closed, the innermost first; a reference that is not finished is left out
  pub data Closes (ts : List Token) : List Bracket → Grown → Type 0 where
    root : {x : Grown} → Closes ts (Root x ∷ []) x
    shut : {bs after : List Bracket} {x : Grown} → Shuts ts bs after → Closes ts after x → Closes ts bs x
    ended : {op : Op} {c : Value0} {p at : ℕ} {node : Option Grown} {bs after : List Bracket} {x : Grown} → ¬ MakesReference op c →
        ChangesOpen ts End (InValue p op c at node ∷ bs) after → Closes ts after x → Closes ts (InValue p op c at node ∷ bs) x
    left_out : {op : Op} {c : Value0} {p at : ℕ} {node : Option Grown} {bs : List Bracket} {x : Grown} → MakesReference op c → Closes ts bs x →
        Closes ts (InValue p op c at node ∷ bs) x
