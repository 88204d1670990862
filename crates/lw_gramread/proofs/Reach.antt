-- How a stack stands behind tokens, that it can always be finished, and where tokens stop.
use Rattle.std.proofs.Common.{ℕ, zero, suc, ◌≡◌, ◌+◌, ◌<◌, ◌≤◌, Bool, true, false, cond, List, [], ◌∷◌, ◌++◌, length, Option, Some, None, refl, sym, ap, ◌∙◌, arith}
use Rattle.lw_base.specs.declared.token.Span.{Span}
use Rattle.lw_gramlex.specs.declared.token.Symbol.{Symbol}
use Rattle.lw_gramlex.specs.declared.token.Symbol.TheVariants as sign
use Rattle.lw_gramread.specs.declared.lexeme.Reserved.TheVariants as word
use Rattle.lw_gramread.specs.declared.lexeme.Lexeme.{Lexeme}
use Rattle.lw_gramread.specs.declared.lexeme.Lexeme.TheVariants.{Word, Text, Regex, Sign, Other}
use Rattle.lw_gramread.specs.declared.reader.left.Spot.{Spot}
use Rattle.lw_gramread.specs.Steps.{same_symbol, same_reserved}
use Rattle.lw_gramread.specs.Syntax.{openings, closings}
use Rattle.lw_gramread.proofs.AgainTypes.{symbol_itself, reserved_itself}
use Rattle.lw_gramread.proofs.Machine.{Sym, Want, WantWord, WantName, WantFeature, WantText, WantPrimitive, May, Above, NamesOpen, Attributes, Single, TypeEnd, AttributeMembers, AttributeEnd, MembersEnd, MembersClose, Value, ValuesClose, CrossEnd, Element, RowsEnd, RowsClose, Card, AfterWord, Operator, ActionType, PutEnd, PutOperator, RuleName, ResultColon, NameColon, TypedColon, Returned, TerminalName, ReturnsColon, Term, TermsEnd, TermsClose, AfterText, Bottom, AtStart, AtImports, AtItems, InType, InRule, InTerminal, Stack, begin, after, nullable, all_nullable, deeper, Fine, Stuck, Deep, verdict, place, spot_of}

-- ---- the stack behind tokens

abbrev pub onward : Option Stack → (Stack → Option Stack) → Option Stack
onward (Some m) f = f m
onward None f = None

abbrev pub reach : Bottom → List Sym → List Lexeme → Option Stack
reach b wants [] = Some (record { bottom = b; wants = wants })
reach b wants (t ∷ ts) = onward (after b wants t) (λ m. reach m.bottom m.wants ts)

pub reach_join : (b : Bottom) (wants : List Sym) (xs ys : List Lexeme) → reach b wants (xs ++ ys) ≡ onward (reach b wants xs) (λ m. reach m.bottom m.wants ys)
reach_join b wants [] ys = refl
reach_join b wants (x ∷ xs) ys = chain (after b wants x) (λ m. reach_join m.bottom m.wants xs ys)
  where
    chain : (o : Option Stack) → ((m : Stack) → reach m.bottom m.wants (xs ++ ys) ≡ onward (reach m.bottom m.wants xs) (λ n. reach n.bottom n.wants ys)) →
        onward o (λ m. reach m.bottom m.wants (xs ++ ys)) ≡ onward (onward o (λ m. reach m.bottom m.wants xs)) (λ m. reach m.bottom m.wants ys)
    chain None f = refl
    chain (Some m) f = f m

-- ---- a stack can be finished

abbrev sign_of : Symbol → Lexeme
sign_of x = Sign x (record { start = 0; end = 0 })

-- tokens that finish what is wanted
abbrev fill : Sym → List Lexeme
fill (Want x) = sign_of x ∷ []
fill (WantWord r) = Word [] (Some r) (record { start = 0; end = 0 }) ∷ []
fill WantName = Word [] None (record { start = 0; end = 0 }) ∷ []
fill WantFeature = Word [] None (record { start = 0; end = 0 }) ∷ []
fill WantText = Text [] (record { start = 0; end = 0 }) ∷ []
fill WantPrimitive = Word [] (Some word.Number) (record { start = 0; end = 0 }) ∷ []
fill (May x) = sign_of x ∷ []
fill Above = sign_of sign.OpenBrace ∷ sign_of sign.CloseBrace ∷ sign_of sign.Semicolon ∷ []
fill NamesOpen = sign_of sign.OpenBrace ∷ sign_of sign.CloseBrace ∷ sign_of sign.Semicolon ∷ []
fill Attributes = sign_of sign.CloseBrace ∷ sign_of sign.Semicolon ∷ []
fill Single = Word [] None (record { start = 0; end = 0 }) ∷ []
fill TypeEnd = sign_of sign.Semicolon ∷ []
fill AttributeMembers = sign_of sign.Semicolon ∷ []
fill AttributeEnd = sign_of sign.Semicolon ∷ []
fill MembersEnd = sign_of sign.Semicolon ∷ []
fill MembersClose = sign_of sign.CloseParenthesis ∷ []
fill Value = Word [] None (record { start = 0; end = 0 }) ∷ []
fill ValuesClose = sign_of sign.CloseParenthesis ∷ []
fill CrossEnd = sign_of sign.CloseBracket ∷ []
fill Element = Text [] (record { start = 0; end = 0 }) ∷ sign_of sign.Question ∷ []
fill RowsEnd = sign_of sign.Semicolon ∷ []
fill RowsClose = sign_of sign.CloseParenthesis ∷ []
fill Card = sign_of sign.Question ∷ []
fill AfterWord = sign_of sign.Question ∷ []
fill Operator = sign_of sign.Equals ∷ []
fill ActionType = Word [] None (record { start = 0; end = 0 }) ∷ []
fill PutEnd = sign_of sign.CloseBrace ∷ []
fill PutOperator = sign_of sign.Equals ∷ []
fill RuleName = Word [] None (record { start = 0; end = 0 }) ∷ []
fill (ResultColon first) = sign_of sign.Colon ∷ []
fill (NameColon first) = sign_of sign.Colon ∷ []
fill TypedColon = sign_of sign.Colon ∷ []
fill Returned = Word [] None (record { start = 0; end = 0 }) ∷ []
fill TerminalName = Word [] None (record { start = 0; end = 0 }) ∷ sign_of sign.Colon ∷ []
fill ReturnsColon = sign_of sign.Colon ∷ []
fill Term = Regex [] (record { start = 0; end = 0 }) ∷ sign_of sign.Question ∷ []
fill TermsEnd = sign_of sign.Semicolon ∷ []
fill TermsClose = sign_of sign.CloseParenthesis ∷ []
fill AfterText = sign_of sign.Question ∷ []

filled : (s : Sym) (b : Bottom) (others : List Sym) (rest : List Lexeme) → reach b (s ∷ others) (fill s ++ rest) ≡ reach b others rest
unfolding same_symbol same_reserved
filled (Want x) b others rest = rw (symbol_itself x) refl
filled (WantWord r) b others rest = rw (reserved_itself r) refl
filled WantName b others rest = refl
filled WantFeature b others rest = refl
filled WantText b others rest = refl
filled WantPrimitive b others rest = refl
filled (May x) b others rest = rw (symbol_itself x) refl
filled Above b others rest = refl
filled NamesOpen b others rest = refl
filled Attributes b others rest = refl
filled Single b others rest = refl
filled TypeEnd b others rest = refl
filled AttributeMembers b others rest = refl
filled AttributeEnd b others rest = refl
filled MembersEnd b others rest = refl
filled MembersClose b others rest = refl
filled Value b others rest = refl
filled ValuesClose b others rest = refl
filled CrossEnd b others rest = refl
filled Element b others rest = refl
filled RowsEnd b others rest = refl
filled RowsClose b others rest = refl
filled Card b others rest = refl
filled AfterWord b others rest = refl
filled Operator b others rest = refl
filled ActionType b others rest = refl
filled PutEnd b others rest = refl
filled PutOperator b others rest = refl
filled RuleName b others rest = refl
filled (ResultColon first) b others rest = refl
filled (NameColon first) b others rest = refl
filled TypedColon b others rest = refl
filled Returned b others rest = refl
filled TerminalName b others rest = refl
filled ReturnsColon b others rest = refl
filled Term b others rest = refl
filled TermsEnd b others rest = refl
filled TermsClose b others rest = refl
filled AfterText b others rest = refl

pub finishing : List Sym → List Lexeme
finishing [] = []
finishing (s ∷ others) = fill s ++ finishing others

pub finished : (b : Bottom) (wants : List Sym) → reach b wants (finishing wants) ≡ Some (record { bottom = b; wants = [] })
unfolding finishing
finished b [] = refl
finished b (s ∷ others) = filled s b others (finishing others) ∙ finished b others

-- ---- how deep parentheses are

abbrev pub spent : Option ℕ → (ℕ → Option ℕ) → Option ℕ
spent (Some n) f = f n
spent None f = None

-- how many parentheses may still be opened behind tokens
abbrev pub budget : ℕ → List Lexeme → Option ℕ
budget d [] = Some d
budget d (t ∷ ts) = spent (deeper d t) (λ n. budget n ts)

some_of : Option ℕ → ℕ → ℕ
some_of (Some n) d = n
some_of None d = d

the_same : (m n : ℕ) → Some m ≡ Some n → m ≡ n
unfolding some_of
the_same m n e = ap (λ o. some_of o n) e

pub counted : (ts : List Lexeme) (d n : ℕ) → budget d ts ≡ Some n → n + openings ts ≡ d + closings ts
counted [] d n e = let h = the_same d n e in omega arith
counted (Sign sign.OpenParenthesis s ∷ ts) zero n e = absurd (cc e)
counted (Sign sign.OpenParenthesis s ∷ ts) (suc d) n e = omega (arith, counted ts d n e)
counted (Sign sign.CloseParenthesis s ∷ ts) d n e = omega (arith, counted ts (suc d) n e)
counted (t ∷ ts) d n e = counted ts d n e

budget_split : (before : List Lexeme) (x : Lexeme) (more : List Lexeme) (d n : ℕ) → budget d (before ++ x ∷ more) ≡ Some n →
    (m : ℕ) × (q : ℕ) × (budget d before ≡ Some m) × (deeper m x ≡ Some q)
budget_split [] x more d n e = from (deeper d x) refl e
  where
    from : (o : Option ℕ) → deeper d x ≡ o → spent o (λ k. budget k more) ≡ Some n → (m : ℕ) × (q : ℕ) × (budget d [] ≡ Some m) × (deeper m x ≡ Some q)
    from None e h = absurd (cc h)
    from (Some q) e h = (d, q, refl, e)
budget_split (y ∷ before) x more d n e = from (deeper d y) refl e (λ k h. budget_split before x more k n h)
  where
    from : (o : Option ℕ) → deeper d y ≡ o → spent o (λ k. budget k (before ++ x ∷ more)) ≡ Some n →
        ((k : ℕ) → budget k (before ++ x ∷ more) ≡ Some n → (m : ℕ) × (q : ℕ) × (budget k before ≡ Some m) × (deeper m x ≡ Some q)) →
        (m : ℕ) × (q : ℕ) × (budget d (y ∷ before) ≡ Some m) × (deeper m x ≡ Some q)
    from None e h again = absurd (cc h)
    from (Some k) e h again = let r = again k h in (r.0, r.1, rw e r.2, r.3)

-- a parenthesis for which there was room is opened inside fewer than so many
pub room : (before more : List Lexeme) (s : Span) (ts : List Lexeme) (d n : ℕ) → budget d ts ≡ Some n → ts ≡ before ++ Sign sign.OpenParenthesis s ∷ more →
    openings before < closings before + d
room before more s ts d n e h = from r.0 r.2 r.3
  where
    r : (m : ℕ) × (q : ℕ) × (budget d before ≡ Some m) × (deeper m (Sign sign.OpenParenthesis s) ≡ Some q)
    r = budget_split before (Sign sign.OpenParenthesis s) more d n (rw h at e)

    from : (m : ℕ) → budget d before ≡ Some m → deeper m (Sign sign.OpenParenthesis s) ≡ Some r.1 → openings before < closings before + d
    from zero b q = absurd (cc q)
    from (suc m) b q = omega (arith, counted before d (suc m) b)

-- ---- where tokens stop

abbrev pub Blocked : Stack → List Lexeme → Type 0
Blocked m [] = all_nullable m.wants ≡ false
Blocked m (t ∷ ts) = after m.bottom m.wants t ≡ None

-- what leads up to the place where a token cannot follow
pub record StuckAt (d : ℕ) (b : Bottom) (wants : List Sym) (ts : List Lexeme) (spot : Spot) (left : List Lexeme) : Type 0 where
  pub front : List Lexeme
  pub parts : ts ≡ front ++ left
  pub stack : Stack
  pub reached : reach b wants front ≡ Some stack
  pub blocked : Blocked stack left
  pub told : spot_of stack.bottom stack.wants left ≡ spot
  pub room_left : ℕ
  pub shallow : budget d front ≡ Some room_left

-- and to a parenthesis that can follow and for which there is no room
pub record DeepAt (d : ℕ) (b : Bottom) (wants : List Sym) (ts left : List Lexeme) : Type 0 where
  pub front : List Lexeme
  pub token : Lexeme
  pub rest : List Lexeme
  pub begins : left ≡ token ∷ rest
  pub parts : ts ≡ front ++ left
  pub stack : Stack
  pub reached : reach b wants front ≡ Some stack
  pub next : Stack
  pub follows : after stack.bottom stack.wants token ≡ Some next
  pub room_left : ℕ
  pub shallow : budget d front ≡ Some room_left
  pub no_room : deeper room_left token ≡ None

pub stuck_at : (ts : List Lexeme) (d : ℕ) (b : Bottom) (wants : List Sym) (spot : Spot) (left : List Lexeme) → place d b wants ts ≡ Stuck spot left → StuckAt d b wants ts spot left
stuck_at [] d b wants spot left e = from (all_nullable wants) refl e
  where
    at_end : (us : List Lexeme) → us ≡ [] → spot_of b wants [] ≡ spot → all_nullable wants ≡ false → StuckAt d b wants [] spot us
    at_end us same told n = record {
      front = [];
      parts = sym same;
      stack = record { bottom = b; wants = wants };
      reached = refl;
      blocked = rw same n;
      told = rw same told;
      room_left = d;
      shallow = refl;
    }

    from : (c : Bool) → all_nullable wants ≡ c → cond c Fine (Stuck (spot_of b wants []) []) ≡ Stuck spot left → StuckAt d b wants [] spot left
    from true n h = absurd (cc h)
    from false n h = at_end left (cc h) (cc h) n
stuck_at (t ∷ ts) d b wants spot left e = from (after b wants t) refl (deeper d t) refl e (λ n m h. stuck_at ts n m.bottom m.wants spot left h)
  where
    here : (us : List Lexeme) → us ≡ t ∷ ts → spot_of b wants (t ∷ ts) ≡ spot → after b wants t ≡ None → StuckAt d b wants (t ∷ ts) spot us
    here us same told n = record {
      front = [];
      parts = sym same;
      stack = record { bottom = b; wants = wants };
      reached = refl;
      blocked = rw same n;
      told = rw same told;
      room_left = d;
      shallow = refl;
    }

    from : (o : Option Stack) → after b wants t ≡ o → (q : Option ℕ) → deeper d t ≡ q → verdict o q (spot_of b wants (t ∷ ts)) (t ∷ ts) (λ n c others. place n c others ts) ≡ Stuck spot left →
        ((n : ℕ) (m : Stack) → place n m.bottom m.wants ts ≡ Stuck spot left → StuckAt n m.bottom m.wants ts spot left) → StuckAt d b wants (t ∷ ts) spot left
    from None a q f h again = here left (cc h) (cc h) a
    from (Some m) a None f h again = absurd (cc h)
    from (Some m) a (Some n) f h again =
        let r = again n m h in
        record {
          front = t ∷ r.front;
          parts = ap (λ us. t ∷ us) r.parts;
          stack = r.stack;
          reached = rw a r.reached;
          blocked = r.blocked;
          told = r.told;
          room_left = r.room_left;
          shallow = rw f r.shallow;
        }

pub deep_at : (ts : List Lexeme) (d : ℕ) (b : Bottom) (wants : List Sym) (left : List Lexeme) → place d b wants ts ≡ Deep left → DeepAt d b wants ts left
deep_at [] d b wants left e = from (all_nullable wants) e
  where
    from : (c : Bool) → cond c Fine (Stuck (spot_of b wants []) []) ≡ Deep left → DeepAt d b wants [] left
    from true h = absurd (cc h)
    from false h = absurd (cc h)
deep_at (t ∷ ts) d b wants left e = from (after b wants t) refl (deeper d t) refl e (λ n m h. deep_at ts n m.bottom m.wants left h)
  where
    from : (o : Option Stack) → after b wants t ≡ o → (q : Option ℕ) → deeper d t ≡ q → verdict o q (spot_of b wants (t ∷ ts)) (t ∷ ts) (λ n c others. place n c others ts) ≡ Deep left →
        ((n : ℕ) (m : Stack) → place n m.bottom m.wants ts ≡ Deep left → DeepAt n m.bottom m.wants ts left) → DeepAt d b wants (t ∷ ts) left
    from None a q f h again = absurd (cc h)
    from (Some m) a None f h again =
        let same : left ≡ t ∷ ts = cc h in
        record {
          front = [];
          token = t;
          rest = ts;
          begins = same;
          parts = sym same;
          stack = record { bottom = b; wants = wants };
          reached = refl;
          next = m;
          follows = a;
          room_left = d;
          shallow = refl;
          no_room = f;
        }
    from (Some m) a (Some n) f h again =
        let r = again n m h in
        record {
          front = t ∷ r.front;
          token = r.token;
          rest = r.rest;
          begins = r.begins;
          parts = ap (λ us. t ∷ us) r.parts;
          stack = r.stack;
          reached = rw a r.reached;
          next = r.next;
          follows = r.follows;
          room_left = r.room_left;
          shallow = rw f r.shallow;
          no_room = r.no_room;
        }

-- tokens that are fine reach a stack that wants nothing
pub fine_at : (ts : List Lexeme) (d : ℕ) (b : Bottom) (wants : List Sym) → place d b wants ts ≡ Fine → (m : Stack) × (reach b wants ts ≡ Some m) × (all_nullable m.wants ≡ true)
fine_at [] d b wants e = from (all_nullable wants) refl e
  where
    from : (c : Bool) → all_nullable wants ≡ c → cond c Fine (Stuck (spot_of b wants []) []) ≡ Fine → (m : Stack) × (reach b wants [] ≡ Some m) × (all_nullable m.wants ≡ true)
    from true n h = (record { bottom = b; wants = wants }, refl, n)
    from false n h = absurd (cc h)
fine_at (t ∷ ts) d b wants e = from (after b wants t) refl (deeper d t) e (λ n m h. fine_at ts n m.bottom m.wants h)
  where
    from : (o : Option Stack) → after b wants t ≡ o → (q : Option ℕ) → verdict o q (spot_of b wants (t ∷ ts)) (t ∷ ts) (λ n c others. place n c others ts) ≡ Fine →
        ((n : ℕ) (m : Stack) → place n m.bottom m.wants ts ≡ Fine → (k : Stack) × (reach m.bottom m.wants ts ≡ Some k) × (all_nullable k.wants ≡ true)) →
        (m : Stack) × (reach b wants (t ∷ ts) ≡ Some m) × (all_nullable m.wants ≡ true)
    from None a q h again = absurd (cc h)
    from (Some m) a None h again = absurd (cc h)
    from (Some m) a (Some n) h again = let r = again n m h in (r.0, rw a r.1, r.2)

more_room : (t : Lexeme) (d n : ℕ) → suc n ≤ d → (k : ℕ) × (deeper d t ≡ Some k) × (n ≤ k)
more_room (Sign sign.OpenParenthesis s) zero n le = absurd (omega arith)
more_room (Sign sign.OpenParenthesis s) (suc d) n le = (d, refl, omega arith)
more_room (Sign sign.CloseParenthesis s) d n le = (suc d, refl, omega arith)
more_room t d n le = (d, refl, omega arith)

stack_of : Option Stack → Stack → Stack
stack_of (Some m) k = m
stack_of None k = k

pub same_stack : (m n : Stack) → Some m ≡ Some n → m ≡ n
unfolding stack_of
same_stack m n e = ap (λ o. stack_of o n) e

-- and the other way round, where there is room enough
pub fine_from : (ts : List Lexeme) (d : ℕ) (b : Bottom) (wants : List Sym) (m : Stack) → reach b wants ts ≡ Some m → all_nullable m.wants ≡ true → length ts ≤ d →
    place d b wants ts ≡ Fine
fine_from [] d b wants m e n le =
    let s : record { bottom = b; wants = wants } ≡ m = same_stack (record { bottom = b; wants = wants }) m e in
    let w : all_nullable wants ≡ true = ap (λ (k : Stack). all_nullable k.wants) s ∙ n in
    rw w refl
fine_from (t ∷ ts) d b wants m e n le = from (after b wants t) refl e (λ q k f h le'. fine_from ts q k.bottom k.wants m h n le')
  where
    from : (o : Option Stack) → after b wants t ≡ o → onward o (λ k. reach k.bottom k.wants ts) ≡ Some m →
        ((q : ℕ) (k : Stack) → deeper d t ≡ Some q → reach k.bottom k.wants ts ≡ Some m → length ts ≤ q → place q k.bottom k.wants ts ≡ Fine) → place d b wants (t ∷ ts) ≡ Fine
    from None a h again = absurd (cc h)
    from (Some k) a h again = let r = more_room t d (length ts) le in rw (a, r.1) (again r.0 k r.1 h r.2)

pub fine_room : (ts : List Lexeme) (d : ℕ) (b : Bottom) (wants : List Sym) → place d b wants ts ≡ Fine → (n : ℕ) × (budget d ts ≡ Some n)
fine_room [] d b wants e = (d, refl)
fine_room (t ∷ ts) d b wants e = from (after b wants t) (deeper d t) refl e (λ n m h. fine_room ts n m.bottom m.wants h)
  where
    from : (o : Option Stack) (q : Option ℕ) → deeper d t ≡ q → verdict o q (spot_of b wants (t ∷ ts)) (t ∷ ts) (λ n c others. place n c others ts) ≡ Fine →
        ((n : ℕ) (m : Stack) → place n m.bottom m.wants ts ≡ Fine → (k : ℕ) × (budget n ts ≡ Some k)) → (k : ℕ) × (budget d (t ∷ ts) ≡ Some k)
    from None q f h again = absurd (cc h)
    from (Some m) None f h again = absurd (cc h)
    from (Some m) (Some n) f h again = let r = again n m h in (r.0, rw f r.1)

-- a character where no token stands follows nowhere
begin_other : (x : Sym) (s : Span) → begin x (Other s) ≡ None
begin_other (Want x) s = refl
begin_other _ s = refl

bottom_other : (b : Bottom) (s : Span) → after b [] (Other s) ≡ None
bottom_other AtStart s = refl
bottom_other AtImports s = refl
bottom_other AtItems s = refl
bottom_other (InType i) s = refl
bottom_other InRule s = refl
bottom_other InTerminal s = refl

if_nullable : (c : Bool) (o : Option Stack) → o ≡ None → cond c o None ≡ None
if_nullable true o e = e
if_nullable false o e = refl

pub after_other : (b : Bottom) (wants : List Sym) (s : Span) → after b wants (Other s) ≡ None
after_other b [] s = bottom_other b s
after_other b (x ∷ others) s = rw (begin_other x s) (if_nullable (nullable x) (after b others (Other s)) (after_other b others s))

-- there is no room for a parenthesis that is opened, and for nothing else
pub no_room_open : (n : ℕ) (t : Lexeme) → deeper n t ≡ None → (s : Span) × (t ≡ Sign sign.OpenParenthesis s) × (n ≡ 0)
no_room_open zero (Sign sign.OpenParenthesis s) e = (s, refl, refl)
no_room_open (suc n) (Sign sign.OpenParenthesis s) e = absurd (cc e)
no_room_open n (Sign sign.CloseParenthesis s) e = absurd (cc e)
no_room_open n t e = absurd (cc e)
