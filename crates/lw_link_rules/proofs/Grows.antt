-- The values and references of what grows from marks in which each value reads something, with tokens that stand in a row, begin one behind
-- the other.
use Rattle.std.proofs.Common.{◌≡◌, ℕ, zero, suc, ◌<◌, ◌≤◌, false, List, [], ◌∷◌, ◌++◌, Option, Some, None, drop, length, refl, sym, ap, subst, ◌∙◌, arith}
use Rattle.lw_base.specs.declared.token.Span.{Span}
use Rattle.lw_base.specs.declared.token.Token.{Token}
use Rattle.lw_grammar.specs.declared.grammar.Grammar.{Grammar}
use Rattle.lw_grammar.specs.declared.rule.Op.{Op}
use Rattle.lw_grammar.specs.declared.rule.Value0.{Value0}
use Rattle.lw_grammar.specs.declared.terminal.Terminal.{Terminal}
use Rattle.lw_grammar.specs.Marks.{Mark, Token as AToken, Put, End}
use Rattle.lw_reading.specs.Brackets.{Bracket, InNode, InValue, Root, span_of_tokens, Shuts, in_value, in_node, at_root}
use Rattle.lw_reading.specs.Follows.{IsPlain, PutsValueIn, ChangesOpen, FollowsMarks}
use Rattle.lw_reading.specs.Follows as f
use Rattle.lw_reading.specs.Grown.{Plain, Grown, Grow, Held, Nothing, Puts, Takes, Points}
use Rattle.lw_reading.specs.Values.{NumberMeans, TokenMeans}
use Rattle.lw_reading.specs.Values as means
use Rattle.lw_reading.proofs.Spanned.{plain_span}
use Rattle.lw_link_rules.proofs.CutRows.{StandBetween, before_last}
use Rattle.lw_link_rules.proofs.Filled.{AreFilled, filled_front, not_at_once}

-- ---- where values and references begin

-- each value and reference in the node begins at the first place or behind it, behind the one before it, and before the second place
abbrev mutual
  pub Begin : ℕ → ℕ → Grown → Type 0
  Begin low high (Grow type s held) = BeginIn low high held

  pub BeginIn : ℕ → ℕ → Held → Type 0
  BeginIn low high Nothing = low ≤ high
  BeginIn low high (Puts held p v) = BeginIn low (plain_span v).start held × ((plain_span v).start < high)
  BeginIn low high (Points held p want name s) = BeginIn low s.start held × (s.start < high)
  BeginIn low high (Takes held p x) = (mid : ℕ) × BeginIn low mid held × Begin mid high x

mutual
  raised : (low mid high : ℕ) (x : Grown) → mid ≤ high → Begin low mid x → Begin low high x
  raised low mid high (Grow type s held) below begin = raised_in low mid high held below begin

  raised_in : (low mid high : ℕ) (held : Held) → mid ≤ high → BeginIn low mid held → BeginIn low high held
  raised_in low mid high Nothing below begin = omega (arith, below, begin)
  raised_in low mid high (Puts held p v) below begin = (begin.0, omega (arith, below, begin.1))
  raised_in low mid high (Points held p want name s) below begin = (begin.0, omega (arith, below, begin.1))
  raised_in low mid high (Takes held p x) below begin = (begin.0, begin.1, raised begin.0 mid high x below begin.2)

-- so in what is open, the innermost first
abbrev Open : ℕ → List Bracket → Type 0
Open high [] = Unit {0}
Open high (InNode type from held ∷ bs) = (low : ℕ) × BeginIn low high held × Open low bs
Open high (InValue p op c at None ∷ bs) = Open high bs
Open high (InValue p op c at (Some x) ∷ bs) = (low : ℕ) × Begin low high x × Open low bs
Open high (Root x ∷ bs) = (low : ℕ) × Begin low high x × Open low bs

raised_open : (mid high : ℕ) (bs : List Bracket) → mid ≤ high → Open mid bs → Open high bs
raised_open mid high [] below stand = tt
raised_open mid high (InNode type from held ∷ bs) below stand = (stand.0, raised_in stand.0 mid high held below stand.1, stand.2)
raised_open mid high (InValue p op c at None ∷ bs) below stand = raised_open mid high bs below stand
raised_open mid high (InValue p op c at (Some x) ∷ bs) below stand = (stand.0, raised stand.0 mid high x below stand.1, stand.2)
raised_open mid high (Root x ∷ bs) below stand = (stand.0, raised stand.0 mid high x below stand.1, stand.2)

-- where the tokens begin that were read behind the first so many
abbrev start_of : ℕ → List Token → ℕ
start_of at ts = (span_of_tokens (drop at ts)).start

-- a value that is open innermost, of which no node was read: no token was either, or its first one stands behind what was put in before
data ReadsValue (m : List Mark) (ts : List Token) (high at : ℕ) (bs : List Bracket) : Type 0 where
  fresh : (before : List Mark) (p : List ℕ) (op : Op) (c : Value0) → m ≡ before ++ Put p op c ∷ [] → at ≡ length ts → Open high bs →
      ReadsValue m ts high at bs
  begun : at < length ts → start_of at ts < high → Open (start_of at ts) bs → ReadsValue m ts high at bs

abbrev State : List Mark → List Token → ℕ → List Bracket → Type 0
State m ts high [] = Unit {0}
State m ts high (InNode type from held ∷ bs) = Open high (InNode type from held ∷ bs)
State m ts high (InValue p op c at None ∷ bs) = ReadsValue m ts high at bs
State m ts high (InValue p op c at (Some x) ∷ bs) = Open high (InValue p op c at (Some x) ∷ bs)
State m ts high (Root x ∷ bs) = Open high (Root x ∷ bs)

opened : (m : List Mark) (ts : List Token) (high : ℕ) (bs : List Bracket) → State m ts high bs → Open high bs
opened m ts high [] state = tt
opened m ts high (InNode type from held ∷ bs) state = state
opened m ts high (InValue p op c at None ∷ bs) (fresh before q o d is same stand) = stand
opened m ts high (InValue p op c at None ∷ bs) (begun below lt stand) = raised_open (start_of at ts) high bs (omega (arith, lt)) stand
opened m ts high (InValue p op c at (Some x) ∷ bs) state = state
opened m ts high (Root x ∷ bs) state = state

-- ---- marks

number_stands : {text : List ℕ} {s : Span} {v : Plain} → NumberMeans text s v → plain_span v ≡ s
number_stands (means.fits is fit) = refl
number_stands (means.too_large is not) = refl
number_stands (means.no_number not) = refl

token_stands : {terminal : Terminal} {text : List ℕ} {s : Span} {v : Plain} → TokenMeans terminal text s v → plain_span v ≡ s
token_stands (means.number gives is) = number_stands is
token_stands (means.words not) = refl

shut : {ts : List Token} {bs after : List Bracket} (m n : List Mark) (high : ℕ) → Shuts ts bs after → State m ts high bs →
    State n ts high after
shut m n high in_value state = state
shut m n high (in_node {bs}) state = (state.0, state.1, raised_open state.2.0 state.0 bs (omega (arith, state.2.1)) state.2.2)
shut m n high at_root state = state

-- one more token, at its place
start_of_next : (ts : List Token) (t : Token) → start_of (length ts) (ts ++ t ∷ []) ≡ t.span.start
start_of_next [] t = refl
start_of_next (x ∷ ts) t = start_of_next ts t

start_of_begun : (at : ℕ) (ts : List Token) (t : Token) → at < length ts → start_of at (ts ++ t ∷ []) ≡ start_of at ts
start_of_begun at [] t below = absurd (omega (arith, below))
start_of_begun zero (x ∷ ts) t below = refl
start_of_begun (suc at) (x ∷ ts) t below = start_of_begun at ts t (omega (arith, below))

one_longer : (ts : List Token) (t : Token) → length ts < length (ts ++ t ∷ [])
one_longer [] t = omega arith
one_longer (x ∷ ts) t = omega (arith, one_longer ts t)

module _ (m n : List Mark) (ts : List Token) (t : Token) (mid high : ℕ) (behind : mid ≤ t.span.start) (filled : t.span.start < high) where
  more_read : (at : ℕ) (bs : List Bracket) → ReadsValue m ts mid at bs → ReadsValue n (ts ++ t ∷ []) high at bs
  more_read at bs (fresh before p op c is same stand) =
      let start : start_of at (ts ++ t ∷ []) ≡ t.span.start = ap (λ (k : ℕ). start_of k (ts ++ t ∷ [])) same ∙ start_of_next ts t in
      begun (omega (arith, same, one_longer ts t)) (omega (arith, start, filled))
      (raised_open mid (start_of at (ts ++ t ∷ [])) bs (omega (arith, start, behind)) stand)
  more_read at bs (begun below lt stand) =
      let start : start_of at (ts ++ t ∷ []) ≡ start_of at ts = start_of_begun at ts t below in
      begun (omega (arith, below, one_longer ts t)) (omega (arith, start, lt, behind, filled))
      (raised_open (start_of at ts) (start_of at (ts ++ t ∷ [])) bs (omega (arith, start)) stand)

  token_read : (bs : List Bracket) → State m ts mid bs → State n (ts ++ t ∷ []) high bs
  token_read [] state = tt
  token_read (InNode type from held ∷ bs) state = raised_open mid high (InNode type from held ∷ bs) (omega (arith, behind, filled)) state
  token_read (InValue p op c at None ∷ bs) state = more_read at bs state
  token_read (InValue p op c at (Some x) ∷ bs) state = raised_open mid high (InValue p op c at (Some x) ∷ bs) (omega (arith, behind, filled)) state
  token_read (Root x ∷ bs) state = raised_open mid high (Root x ∷ bs) (omega (arith, behind, filled)) state

module _ (g : Grammar) (text : List ℕ) where
  plain_stands : {op : Op} {c : Value0} {ts : List Token} {v : Plain} → IsPlain g text op c ts v → plain_span v ≡ span_of_tokens ts
  plain_stands f.truth = refl
  plain_stands (f.keyword not is) = refl
  plain_stands (f.terminal n terminal not is named meant) = token_stands meant
  plain_stands (f.data_type r rule not is named) = refl

  -- what the tokens of a value give is put in behind what the node held
  put_behind : {op : Op} {c : Value0} {ts : List Token} {held after : Held} {p : ℕ} (inside : Option Grown) → inside ≡ None →
      PutsValueIn g text op c ts inside held p after → (low high : ℕ) → BeginIn low (span_of_tokens ts).start held →
      (span_of_tokens ts).start < high →
      BeginIn low high after
  put_behind inside none f.a_node low high begin below = absurd (let e = none in cc)
  put_behind inside none (f.a_reference not by number looks) low high begin below = (begin, below)
  put_behind {ts} inside none (f.plain {held} {v} is) low high begin below =
      let same : (plain_span v).start ≡ (span_of_tokens ts).start = ap (λ (s : Span). s.start) (plain_stands is) in
      (subst (λ (k : ℕ). BeginIn low k held) (sym same) begin, omega (arith, same, below))

  put_node : {op : Op} {c : Value0} {ts : List Token} {held after : Held} {p : ℕ} (x : Grown) (inside : Option Grown) → inside ≡ Some x →
      PutsValueIn g text op c ts inside held p after → (low mid high : ℕ) → BeginIn low mid held → Begin mid high x → BeginIn low high after
  put_node x inside is (f.a_node {x = y}) low mid high begin begins = (mid, begin, subst (Begin mid high) (let e : x ≡ y = cc in e) begins)
  put_node x inside is (f.a_reference not by number looks) low mid high begin begins = absurd (let e = is in cc)
  put_node x inside is (f.plain put) low mid high begin begins = absurd (let e = is in cc)

  ended : (m : List Mark) (ts : List Token) (high : ℕ) (type from at : ℕ) {p : ℕ} {held after : Held} {op : Op} {c : Value0} (node : Option Grown)
      (bs : List Bracket) → AreFilled false (m ++ End ∷ []) → PutsValueIn g text op c (drop at ts) node held p after →
      State m ts high (InValue p op c at node ∷ InNode type from held ∷ bs) → (low : ℕ) × BeginIn low high after × Open low bs
  ended m ts high type from at None bs filled put (fresh before q o d is same stand) =
      absurd (not_at_once false before q o d (subst (λ (l : List Mark). AreFilled false (l ++ End ∷ [])) is filled))
  ended m ts high type from at None bs filled put (begun below lt stand) = (stand.0, put_behind None refl put stand.0 high stand.1 lt, stand.2)
  ended m ts high type from at (Some x) bs filled put state =
      (state.2.0, put_node x (Some x) refl put state.2.0 state.0 high state.2.1 state.1, state.2.2)

  changed : (m : List Mark) (ts : List Token) (high : ℕ) {mark : Mark} {bs after : List Bracket} → AreFilled false (m ++ mark ∷ []) →
      ChangesOpen g text ts mark bs after → State m ts high bs → State (m ++ mark ∷ []) ts high after
  changed m ts high filled (f.opens {bs} at has is) state = (high, omega arith, opened m ts high bs state)
  changed m ts high filled (f.puts {name} {op} {c} {bs} is) state = fresh m name op c refl refl (opened m ts high bs state)
  changed m ts high {mark} filled (f.shuts is) state = shut m (m ++ mark ∷ []) high is state
  changed m ts high filled (f.renames none is) state = state
  changed m ts high filled (f.wraps some is property) state = (state.0, (state.0, omega arith, state.1), state.2)
  changed m ts high filled (f.ends {type} {from} {at} {node} {bs} put) state = ended m ts high type from at node bs filled put state

  followed : {m : List Mark} {ts : List Token} {bs : List Bracket} → FollowsMarks g text m ts bs → (high : ℕ) → StandBetween 0 high ts →
      AreFilled false m → State m ts high bs
  followed f.nothing high row filled = tt
  followed (f.token {m} {ts} {bs} t is) high row filled =
      let before = before_last 0 high ts t row in
      token_read m (m ++ AToken t.kind.0 ∷ []) ts t before.mid high before.behind (omega (arith, before.filled, before.ends)) bs
      (followed is before.mid before.front (filled_front false m (AToken t.kind.0 ∷ []) filled))
  followed (f.next {m} {mark} {ts} is change) high row filled =
      changed m ts high filled change (followed is high row (filled_front false m (mark ∷ []) filled))

  -- so in the tree of such marks
  pub root_begins : {m : List Mark} {ts : List Token} {x : Grown} (high : ℕ) → FollowsMarks g text m ts (Root x ∷ []) →
      StandBetween 0 high ts →
      AreFilled false m → (low : ℕ) × Begin low high x
  root_begins high is row filled = let state = followed is high row filled in (state.0, state.1)
