-- Where in a file a stack stands: between its items, or in one of them, and what was read of that.
use Rattle.std.proofs.Common.{ℕ, ◌≡◌, Bool, true, false, cond, List, [], ◌∷◌, ◌++◌, Option, Some, None, is_some, refl, sym, ap, ◌∙◌, subst, append_assoc, append-nil, inl, inr, ◌⊎◌}
use Rattle.lw_base.specs.declared.token.Span.{Span}
use Rattle.lw_grammar.specs.declared.grammar.Grammar.{Grammar}
use Rattle.lw_grammar.specs.declared.terminal.Primitive.{Primitive}
use Rattle.lw_grammar.specs.declared.rule.RuleResult.{RuleResult}
use Rattle.lw_gramlex.specs.declared.token.Symbol.TheVariants as sign
use Rattle.lw_gramread.specs.declared.lexeme.Reserved.{Reserved}
use Rattle.lw_gramread.specs.declared.lexeme.Reserved.TheVariants as word
use Rattle.lw_gramread.specs.declared.lexeme.Lexeme.{Lexeme}
use Rattle.lw_gramread.specs.declared.lexeme.Lexeme.TheVariants.{Word}
use Rattle.lw_gramread.specs.Lexemes.{primitive_of}
use Rattle.lw_gramread.specs.OptionalTokens.{MayTakeWord}
use Rattle.lw_gramread.specs.ParserRules as rules
use Rattle.lw_gramread.specs.ParserRules.{SpellsResult}
use Rattle.lw_gramread.specs.Syntax.{SpellsFile}
use Rattle.lw_gramread.specs.Forms.{Unfinished, BeginsRule, BeginsTerminal, BeginsInterface, RuleHead}
use Rattle.lw_gramread.specs.Steps.{sees_name, sees_primitive}
use Rattle.lw_gramread.proofs.Machine.{Sym, Want, WantWord, WantName, WantText, May, Above, Single, MembersEnd, Element, RowsEnd, RuleName, ResultColon, TypedColon, Returned, TerminalName, Term, TermsEnd, Bottom, AtStart, AtImports, InType, InRule, InTerminal, Stack, Wanted, is, is_reserved, begin, nullable, all_nullable, pushed, after, rule_begin, item_begin, bottom_begin}
use Rattle.lw_gramread.proofs.At.{is_the_word}
use Rattle.lw_gramread.proofs.Reach.{reach, onward, reach_join, same_stack}
use Rattle.lw_gramread.proofs.Held.{held, over, Over, over_is, not_true, held_or_over, held_solid, over_nullable, keeps, stays}
use Rattle.lw_gramread.proofs.Spelled.{whole_spelled, unfinished}

abbrev pub Body : List Sym
Body = Element ∷ RowsEnd ∷ []

-- ---- the head of a rule

pub data Heads : List Lexeme → List Sym → Type 0 where
  behind_entry : {w : List ℕ} {s : Span} → Heads (Word w (Some word.Entry) s ∷ []) (RuleName ∷ ResultColon false ∷ Body)
  behind_words : {w : List ℕ} {s : Span} {ts : List Lexeme} {entry : Bool} → MayTakeWord word.Entry ts (Word w (Some word.Fragment) s ∷ []) entry →
      Heads ts (WantName ∷ ResultColon false ∷ Body)
  first_name : {n : List ℕ} {s : Span} → Heads (Word n None s ∷ []) (ResultColon true ∷ Body)
  named : {ts : List Lexeme} → RuleHead ts [] → Heads ts (ResultColon false ∷ Body)
  infers : {w : List ℕ} {s : Span} {ts : List Lexeme} → RuleHead ts (Word w (Some word.Infers) s ∷ []) → Heads ts (WantName ∷ TypedColon ∷ Body)
  returns : {w : List ℕ} {s : Span} {ts : List Lexeme} → RuleHead ts (Word w (Some word.Returns) s ∷ []) → Heads ts (Returned ∷ TypedColon ∷ Body)
  typed : {ts vs : List Lexeme} {x : RuleResult} → RuleHead ts vs → SpellsResult vs [] x → Heads ts (TypedColon ∷ Body)
  body : {ts : List Lexeme} {wants : List Sym} → held InRule wants ≡ true → Heads ts wants

pub heads_solid : {ts : List Lexeme} {wants : List Sym} → Heads ts wants → all_nullable wants ≡ false
heads_solid Heads.behind_entry = refl
heads_solid (Heads.behind_words m) = refl
heads_solid Heads.first_name = refl
heads_solid (Heads.named h) = refl
heads_solid (Heads.infers h) = refl
heads_solid (Heads.returns h) = refl
heads_solid (Heads.typed h x) = refl
heads_solid {wants} (Heads.body h) = held_solid InRule wants h

head_on : {ts vs : List Lexeme} (us : List Lexeme) → RuleHead ts vs → RuleHead (ts ++ us) (vs ++ us)
head_on us (RuleHead.head MayTakeWord.left_out MayTakeWord.left_out) = RuleHead.head MayTakeWord.left_out MayTakeWord.left_out
head_on us (RuleHead.head MayTakeWord.left_out MayTakeWord.there) = RuleHead.head MayTakeWord.left_out MayTakeWord.there
head_on us (RuleHead.head MayTakeWord.there MayTakeWord.left_out) = RuleHead.head MayTakeWord.there MayTakeWord.left_out
head_on us (RuleHead.head MayTakeWord.there MayTakeWord.there) = RuleHead.head MayTakeWord.there MayTakeWord.there

-- ---- what a token is, by the tests that the stack makes of it

word_of : (r : Reserved) (t : Lexeme) → is_reserved r t ≡ true → (n : List ℕ) × (s : Span) × (t ≡ Word n (Some r) s)
word_of r (Word n (Some q) s) h = (n, s, ap (λ z. Word n (Some z) s) (is_the_word q r h))
word_of r _ h = absurd (not_true h)

name_of : (t : Lexeme) → sees_name (t ∷ []) ≡ true → (n : List ℕ) × (s : Span) × (t ≡ Word n None s)
name_of (Word n None s) h = (n, s, refl)
name_of _ h = absurd (not_true h)

primitive_word : (t : Lexeme) → sees_primitive (t ∷ []) ≡ true → (n : List ℕ) × (r : Reserved) × (s : Span) × (p : Primitive) × (primitive_of r ≡ Some p) × (t ≡ Word n (Some r) s)
primitive_word (Word n (Some r) s) h = from (primitive_of r) refl h
  where
    from : (o : Option Primitive) → primitive_of r ≡ o → is_some o ≡ true →
        (m : List ℕ) × (q : Reserved) × (z : Span) × (p : Primitive) × (primitive_of q ≡ Some p) × (Word n (Some r) s ≡ Word m (Some q) z)
    from (Some p) f h = (n, r, s, p, f, refl)
    from None f h = absurd (cc h)
primitive_word _ h = absurd (not_true h)

-- a test that comes true, or else the tests behind it
on_test : {X : Type 0} (b : Bottom) (others : List Sym) (m : Stack) (c : Bool) (w : List Sym) (o : Wanted) → pushed (cond c (Some w) o) b others None ≡ Some m →
    (c ≡ true → record { bottom = b; wants = w ++ others } ≡ m → X) → (pushed o b others None ≡ Some m → X) → X
on_test b others m true w o e yes_ no_ = yes_ refl (same_stack (record { bottom = b; wants = w ++ others }) m e)
on_test b others m false w o e yes_ no_ = no_ e

on_begin : {X : Type 0} (m : Stack) (c : Bool) (b : Bottom) (wants : List Sym) (o : Option Stack) → cond c (Some (record { bottom = b; wants = wants })) o ≡ Some m →
    (c ≡ true → record { bottom = b; wants = wants } ≡ m → X) → (o ≡ Some m → X) → X
on_begin m true b wants o e yes_ no_ = yes_ refl (same_stack (record { bottom = b; wants = wants }) m e)
on_begin m false b wants o e yes_ no_ = no_ e

pub no_stack : (m : Stack) → None ≡ Some m → ⊥
no_stack m e = cc e

-- what a token makes of the head of a rule or of its body: the rule goes on, or is whole
abbrev RuleOn : List Lexeme → Stack → Type 0
RuleOn ts m = (m.bottom ≡ InRule) × (Heads ts m.wants ⊎ (m.wants ≡ []))

rule_on : (ts : List Lexeme) (t u : Lexeme) (wants : List Sym) (m : Stack) → record { bottom = InRule; wants = wants } ≡ m → t ≡ u → Heads (ts ++ u ∷ []) wants → RuleOn (ts ++ t ∷ []) m
rule_on ts t u wants m k same h = subst (λ v. RuleOn (ts ++ v ∷ []) m) (sym same) (subst (RuleOn (ts ++ u ∷ [])) k (refl, inl h))

words_named : {w : List ℕ} {s : Span} {ts : List Lexeme} {entry : Bool} (n : List ℕ) (q : Span) → MayTakeWord word.Entry ts (Word w (Some word.Fragment) s ∷ []) entry →
    RuleHead (ts ++ Word n None q ∷ []) []
words_named n q MayTakeWord.left_out = RuleHead.head MayTakeWord.left_out MayTakeWord.there
words_named n q MayTakeWord.there = RuleHead.head MayTakeWord.there MayTakeWord.there

module _ (m : Stack) where
  entry_on : (w : List ℕ) (s : Span) (t : Lexeme) → after InRule (RuleName ∷ ResultColon false ∷ Body) t ≡ Some m → RuleOn (Word w (Some word.Entry) s ∷ t ∷ []) m
  entry_on w s t e =
      on_test InRule (ResultColon false ∷ Body) m (is_reserved word.Fragment t) (WantName ∷ []) _ e
      (λ h k. let q = word_of word.Fragment t h in
      rule_on (Word w (Some word.Entry) s ∷ []) t (Word q.0 (Some word.Fragment) q.1) (WantName ∷ ResultColon false ∷ Body) m k q.2 (Heads.behind_words MayTakeWord.there))
      (λ e. on_test InRule (ResultColon false ∷ Body) m (sees_name (t ∷ [])) [] None e
      (λ h k. let q = name_of t h in
      rule_on (Word w (Some word.Entry) s ∷ []) t (Word q.0 None q.1) (ResultColon false ∷ Body) m k q.2 (Heads.named (RuleHead.head MayTakeWord.there MayTakeWord.left_out)))
      (λ e. absurd (no_stack m e)))

  words_on : (w : List ℕ) (s : Span) (ts : List Lexeme) (entry : Bool) → MayTakeWord word.Entry ts (Word w (Some word.Fragment) s ∷ []) entry → (t : Lexeme) →
      after InRule (WantName ∷ ResultColon false ∷ Body) t ≡ Some m → RuleOn (ts ++ t ∷ []) m
  words_on w s ts entry f t e =
      on_test InRule (ResultColon false ∷ Body) m (sees_name (t ∷ [])) [] None e
      (λ h k. let q = name_of t h in rule_on ts t (Word q.0 None q.1) (ResultColon false ∷ Body) m k q.2 (Heads.named (words_named q.0 q.1 f))) (λ e. absurd (no_stack m e))

  -- behind the name
  name_on : (first : Bool) (ts : List Lexeme) → RuleHead ts [] → (t : Lexeme) → after InRule (ResultColon first ∷ Body) t ≡ Some m → RuleOn (ts ++ t ∷ []) m
  name_on first ts h t e =
      on_test InRule Body m (is_reserved word.Infers t) (WantName ∷ TypedColon ∷ []) _ e
      (λ g k. let q = word_of word.Infers t g in
      rule_on ts t (Word q.0 (Some word.Infers) q.1) (WantName ∷ TypedColon ∷ Body) m k q.2 (Heads.infers (head_on (Word q.0 (Some word.Infers) q.1 ∷ []) h)))
      (λ e. on_test InRule Body m (is_reserved word.Returns t) (Returned ∷ TypedColon ∷ []) _ e
      (λ g k. let q = word_of word.Returns t g in
      rule_on ts t (Word q.0 (Some word.Returns) q.1) (Returned ∷ TypedColon ∷ Body) m k q.2 (Heads.returns (head_on (Word q.0 (Some word.Returns) q.1 ∷ []) h)))
      (λ e. on_test InRule Body m (is sign.Colon t) [] None e (λ g k. rule_on ts t t Body m k refl (Heads.body refl)) (λ e. absurd (no_stack m e))))

  infers_on : (w : List ℕ) (s : Span) (ts : List Lexeme) → RuleHead ts (Word w (Some word.Infers) s ∷ []) → (t : Lexeme) → after InRule (WantName ∷ TypedColon ∷ Body) t ≡ Some m →
      RuleOn (ts ++ t ∷ []) m
  infers_on w s ts h t e =
      on_test InRule (TypedColon ∷ Body) m (sees_name (t ∷ [])) [] None e
      (λ g k. let q = name_of t g in rule_on ts t (Word q.0 None q.1) (TypedColon ∷ Body) m k q.2 (Heads.typed (head_on (Word q.0 None q.1 ∷ []) h) rules.infers)) (λ e. absurd (no_stack m e))

  returns_on : (w : List ℕ) (s : Span) (ts : List Lexeme) → RuleHead ts (Word w (Some word.Returns) s ∷ []) → (t : Lexeme) → after InRule (Returned ∷ TypedColon ∷ Body) t ≡ Some m →
      RuleOn (ts ++ t ∷ []) m
  returns_on w s ts h t e =
      on_test InRule (TypedColon ∷ Body) m (sees_primitive (t ∷ [])) [] _ e
      (λ g k. let q = primitive_word t g in
      rule_on ts t (Word q.0 (Some q.1) q.2) (TypedColon ∷ Body) m k q.5 (Heads.typed (head_on (Word q.0 (Some q.1) q.2 ∷ []) h) (rules.gives q.4)))
      (λ e. on_test InRule (TypedColon ∷ Body) m (sees_name (t ∷ [])) [] None e
      (λ g k. let q = name_of t g in rule_on ts t (Word q.0 None q.1) (TypedColon ∷ Body) m k q.2 (Heads.typed (head_on (Word q.0 None q.1 ∷ []) h) rules.returns))
      (λ e. absurd (no_stack m e)))

  typed_on : (ts : List Lexeme) (t : Lexeme) → after InRule (TypedColon ∷ Body) t ≡ Some m → RuleOn (ts ++ t ∷ []) m
  typed_on ts t e = on_test InRule Body m (is sign.Colon t) [] None e (λ g k. rule_on ts t t Body m k refl (Heads.body refl)) (λ e. absurd (no_stack m e))

  body_on : (ts : List Lexeme) (wants : List Sym) (t : Lexeme) → held InRule wants ≡ true → after InRule wants t ≡ Some m → RuleOn (ts ++ t ∷ []) m
  body_on ts wants t h e = from (held InRule m.wants) refl k.1
    where
      k : (m.bottom ≡ InRule) × (held_or_over InRule m.wants ≡ true)
      k = keeps InRule wants t m h e

      none : (w : List Sym) → over InRule w ≡ true → w ≡ []
      none [] e = refl
      none (s ∷ w) e = absurd (cc e)

      from : (c : Bool) → held InRule m.wants ≡ c → cond c true (over InRule m.wants) ≡ true → RuleOn (ts ++ t ∷ []) m
      from true q f = (k.0, inl (Heads.body q))
      from false q f = (k.0, inr (none m.wants f))

  heads_step : {ts : List Lexeme} {wants : List Sym} → Heads ts wants → (t : Lexeme) → after InRule wants t ≡ Some m → RuleOn (ts ++ t ∷ []) m
  heads_step (Heads.behind_entry {w} {s}) t e = entry_on w s t e
  heads_step {ts} (Heads.behind_words {w} {s} {entry} f) t e = words_on w s ts entry f t e
  heads_step (Heads.first_name {n} {s}) t e = name_on true (Word n None s ∷ []) (RuleHead.head MayTakeWord.left_out MayTakeWord.left_out) t e
  heads_step {ts} (Heads.named h) t e = name_on false ts h t e
  heads_step {ts} (Heads.infers {w} {s} h) t e = infers_on w s ts h t e
  heads_step {ts} (Heads.returns {w} {s} h) t e = returns_on w s ts h t e
  heads_step {ts} (Heads.typed h x) t e = typed_on ts t e
  heads_step {ts} {wants} (Heads.body h) t e = body_on ts wants t h e

-- ---- lists

-- a front of a list with one more is a front of the list, or the whole of it
split_last : (xs ys zs : List Lexeme) (u : Lexeme) → xs ++ u ∷ [] ≡ ys ++ zs → (ys ≡ xs ++ u ∷ []) ⊎ ((ws : List Lexeme) × (xs ≡ ys ++ ws))
split_last xs [] zs u e = inr (xs, refl)
split_last [] (y ∷ []) zs u e = let h : u ≡ y = cc e in inl (ap (λ z. z ∷ []) (sym h))
split_last [] (y ∷ z ∷ ys) zs u e = absurd (cc e)
split_last (x ∷ xs) (y ∷ ys) zs u e = from (split_last xs ys zs u (cc e))
  where
    same : x ≡ y
    same = cc e

    from : ((ys ≡ xs ++ u ∷ []) ⊎ ((ws : List Lexeme) × (xs ≡ ys ++ ws))) → (y ∷ ys ≡ x ∷ xs ++ u ∷ []) ⊎ ((ws : List Lexeme) × (x ∷ xs ≡ y ∷ ys ++ ws))
    from (inl h) = inl (ap (λ us. y ∷ us) h ∙ ap (λ z. z ∷ xs ++ u ∷ []) (sym same))
    from (inr h) = inr (h.0, ap (λ us. x ∷ us) h.1 ∙ ap (λ z. z ∷ ys ++ h.0) same)

-- ---- what was read of an item

-- no grammar is said by these tokens alone
abbrev pub NotWhole : List Lexeme → Type 0
NotWhole ts = (g : Grammar) → ¬ SpellsFile ts g

unfinished_one : (before : List Lexeme) (t : Lexeme) (g : Grammar) → SpellsFile before g → NotWhole (before ++ t ∷ []) → Unfinished (before ++ t ∷ []) (t ∷ [])
unfinished_one before t g s n = record { whole = before; grammar = g; parts = refl; spells = s; longest = λ u front after e. only u front after e }
  where
    only : (u : Lexeme) (front after : List Lexeme) → t ∷ [] ≡ u ∷ front ++ after → NotWhole (before ++ u ∷ front)
    only u [] after e = let h : t ≡ u = cc e in subst (λ z. NotWhole (before ++ z ∷ [])) h n
    only u (v ∷ front) after e = absurd (cc e)

unfinished_on : (before begun : List Lexeme) (t : Lexeme) → Unfinished before begun → NotWhole (before ++ t ∷ []) → Unfinished (before ++ t ∷ []) (begun ++ t ∷ [])
unfinished_on before begun t u n = record { whole = u.whole; grammar = u.grammar; parts = parts; spells = u.spells; longest = λ v front after e. still v front (split_last begun (v ∷ front) after t e) }
  where
    parts : before ++ t ∷ [] ≡ u.whole ++ (begun ++ t ∷ [])
    parts = ap (λ xs. xs ++ t ∷ []) u.parts ∙ append_assoc u.whole begun (t ∷ [])

    still : (v : Lexeme) (front : List Lexeme) → ((v ∷ front ≡ begun ++ t ∷ []) ⊎ ((ws : List Lexeme) × (begun ≡ v ∷ front ++ ws))) → NotWhole (u.whole ++ v ∷ front)
    still v front (inl h) = subst NotWhole (parts ∙ ap (λ xs. u.whole ++ xs) (sym h)) n
    still v front (inr h) = u.longest v front h.0 h.1

rule_goes_on : {ts : List Lexeme} (us : List Lexeme) → BeginsRule ts → BeginsRule (ts ++ us)
rule_goes_on us BeginsRule.entry = BeginsRule.entry
rule_goes_on us BeginsRule.fragment = BeginsRule.fragment
rule_goes_on us BeginsRule.named = BeginsRule.named

terminal_goes_on : {ts : List Lexeme} (us : List Lexeme) → BeginsTerminal ts → BeginsTerminal (ts ++ us)
terminal_goes_on us BeginsTerminal.terminal = BeginsTerminal.terminal
terminal_goes_on us BeginsTerminal.hidden = BeginsTerminal.hidden

interface_goes_on : {ts : List Lexeme} (us : List Lexeme) → BeginsInterface ts → BeginsInterface (ts ++ us)
interface_goes_on us BeginsInterface.interface = BeginsInterface.interface

-- ---- where a stack stands

-- whether something is told of this place
abbrev pub is_item : Bottom → Bool
is_item InRule = true
is_item InTerminal = true
is_item (InType true) = true
is_item _ = false

abbrev pub loose : Bottom → List Sym → Bool
loose b wants = cond (is_item b) (over b wants) true

pub data State (before : List Lexeme) : Bottom → List Sym → Type 0 where
  -- the tokens are a whole file
  between : {b : Bottom} {wants : List Sym} → all_nullable wants ≡ true → loose b wants ≡ true → State before b wants
  beside : {b : Bottom} {wants : List Sym} → all_nullable wants ≡ false → is_item b ≡ false → State before b wants
  rule : {begun : List Lexeme} {wants : List Sym} → Unfinished before begun → BeginsRule begun → Heads begun wants → State before InRule wants
  terminal : {begun : List Lexeme} {wants : List Sym} → Unfinished before begun → BeginsTerminal begun → held InTerminal wants ≡ true → State before InTerminal wants
  interface : {begun : List Lexeme} {wants : List Sym} → Unfinished before begun → BeginsInterface begun → held (InType true) wants ≡ true → State before (InType true) wants

abbrev StateOf : List Lexeme → Stack → Type 0
StateOf before m = State before m.bottom m.wants

-- where nothing of an item is told
beside_or_between : (before : List Lexeme) (b : Bottom) (wants : List Sym) → is_item b ≡ false → State before b wants
beside_or_between before b wants i = from (all_nullable wants) refl
  where
    from : (c : Bool) → all_nullable wants ≡ c → State before b wants
    from true n = State.between n (rw i refl)
    from false n = State.beside n i

over_between : (before : List Lexeme) (b : Bottom) (wants : List Sym) → over b wants ≡ true → State before b wants
over_between before b wants o = State.between (over_nullable b wants o) (either (is_item b))
  where
    either : (c : Bool) → cond c (over b wants) true ≡ true
    either true = o
    either false = refl

module _ (before : List Lexeme) (t : Lexeme) (m : Stack) (next : reach AtStart [] (before ++ t ∷ []) ≡ Some m) where
  not_whole : all_nullable m.wants ≡ false → NotWhole (before ++ t ∷ [])
  not_whole n = λ g. unfinished (before ++ t ∷ []) g m next n

  -- a stack that is known
  known : (b : Bottom) (wants : List Sym) → record { bottom = b; wants = wants } ≡ m → all_nullable wants ≡ false → (NotWhole (before ++ t ∷ []) → State (before ++ t ∷ []) b wants) →
      StateOf (before ++ t ∷ []) m
  known b wants same n f = subst (StateOf (before ++ t ∷ [])) same (f (not_whole (subst (λ (z : Stack). all_nullable z.wants ≡ false) same n)))

module _ (before : List Lexeme) (g : Grammar) (s : SpellsFile before g) (m : Stack) where
  -- an item begins
  begun : (t u : Lexeme) → t ≡ u → NotWhole (before ++ t ∷ []) → Unfinished (before ++ u ∷ []) (u ∷ [])
  begun t u same n = unfinished_one before u g s (subst (λ v. NotWhole (before ++ v ∷ [])) same n)

  rule_begun : (t u : Lexeme) (wants : List Sym) → t ≡ u → BeginsRule (u ∷ []) → Heads (u ∷ []) wants → NotWhole (before ++ t ∷ []) → State (before ++ t ∷ []) InRule wants
  rule_begun t u wants same r h n = subst (λ v. State (before ++ v ∷ []) InRule wants) (sym same) (State.rule (begun t u same n) r h)

  terminal_begun : (t u : Lexeme) (wants : List Sym) → t ≡ u → BeginsTerminal (u ∷ []) → held InTerminal wants ≡ true → NotWhole (before ++ t ∷ []) → State (before ++ t ∷ []) InTerminal wants
  terminal_begun t u wants same r h n = subst (λ v. State (before ++ v ∷ []) InTerminal wants) (sym same) (State.terminal (begun t u same n) r h)

  interface_begun : (t u : Lexeme) (wants : List Sym) → t ≡ u → BeginsInterface (u ∷ []) → held (InType true) wants ≡ true → NotWhole (before ++ t ∷ []) →
      State (before ++ t ∷ []) (InType true) wants
  interface_begun t u wants same r h n = subst (λ v. State (before ++ v ∷ []) (InType true) wants) (sym same) (State.interface (begun t u same n) r h)

  rule_states : (t : Lexeme) → reach AtStart [] (before ++ t ∷ []) ≡ Some m → rule_begin t ≡ Some m → StateOf (before ++ t ∷ []) m
  rule_states t r e =
      on_begin m (is_reserved word.Entry t) InRule (RuleName ∷ ResultColon false ∷ Body) _ e
      (λ h k. let q = word_of word.Entry t h in
      known before t m r InRule (RuleName ∷ ResultColon false ∷ Body) k refl
      (rule_begun t (Word q.0 (Some word.Entry) q.1) (RuleName ∷ ResultColon false ∷ Body) q.2 BeginsRule.entry Heads.behind_entry))
      (λ e. on_begin m (is_reserved word.Fragment t) InRule (WantName ∷ ResultColon false ∷ Body) _ e
      (λ h k. let q = word_of word.Fragment t h in
      known before t m r InRule (WantName ∷ ResultColon false ∷ Body) k refl
      (rule_begun t (Word q.0 (Some word.Fragment) q.1) (WantName ∷ ResultColon false ∷ Body) q.2 BeginsRule.fragment (Heads.behind_words MayTakeWord.left_out)))
      (λ e. on_begin m (sees_name (t ∷ [])) InRule (ResultColon true ∷ Body) None e
      (λ h k. let q = name_of t h in
      known before t m r InRule (ResultColon true ∷ Body) k refl (rule_begun t (Word q.0 None q.1) (ResultColon true ∷ Body) q.2 BeginsRule.named Heads.first_name))
      (λ e. absurd (no_stack m e))))

  item_states : (t : Lexeme) → reach AtStart [] (before ++ t ∷ []) ≡ Some m → item_begin t ≡ Some m → StateOf (before ++ t ∷ []) m
  item_states t r e =
      on_begin m (is_reserved word.Interface t) (InType true) (WantName ∷ Above ∷ []) _ e
      (λ h k. let q = word_of word.Interface t h in
      known before t m r (InType true) (WantName ∷ Above ∷ []) k refl (interface_begun t (Word q.0 (Some word.Interface) q.1) (WantName ∷ Above ∷ []) q.2 BeginsInterface.interface refl))
      (λ e. on_begin m (is_reserved word.Type t) (InType false) (WantName ∷ Want sign.Equals ∷ Single ∷ MembersEnd ∷ []) _ e
      (λ h k. known before t m r (InType false) (WantName ∷ Want sign.Equals ∷ Single ∷ MembersEnd ∷ []) k refl (λ n. State.beside refl refl))
      (λ e. on_begin m (is_reserved word.Hidden t) InTerminal (WantWord word.Terminal ∷ TerminalName ∷ Term ∷ TermsEnd ∷ []) _ e
      (λ h k. let q = word_of word.Hidden t h in
      known before t m r InTerminal (WantWord word.Terminal ∷ TerminalName ∷ Term ∷ TermsEnd ∷ []) k refl
      (terminal_begun t (Word q.0 (Some word.Hidden) q.1) (WantWord word.Terminal ∷ TerminalName ∷ Term ∷ TermsEnd ∷ []) q.2 BeginsTerminal.hidden refl))
      (λ e. on_begin m (is_reserved word.Terminal t) InTerminal (TerminalName ∷ Term ∷ TermsEnd ∷ []) _ e
      (λ h k. let q = word_of word.Terminal t h in
      known before t m r InTerminal (TerminalName ∷ Term ∷ TermsEnd ∷ []) k refl
      (terminal_begun t (Word q.0 (Some word.Terminal) q.1) (TerminalName ∷ Term ∷ TermsEnd ∷ []) q.2 BeginsTerminal.terminal refl))
      (λ e. rule_states t r e))))

  import_states : (t : Lexeme) → reach AtStart [] (before ++ t ∷ []) ≡ Some m → bottom_begin AtImports t ≡ Some m → StateOf (before ++ t ∷ []) m
  import_states t r e =
      on_begin m (is_reserved word.Import t) AtImports (WantText ∷ May sign.Semicolon ∷ []) _ e
      (λ h k. known before t m r AtImports (WantText ∷ May sign.Semicolon ∷ []) k refl (λ n. State.beside refl refl)) (λ e. item_states t r e)

  bottom_states : (b : Bottom) (t : Lexeme) → reach AtStart [] (before ++ t ∷ []) ≡ Some m → bottom_begin b t ≡ Some m → StateOf (before ++ t ∷ []) m
  bottom_states AtStart t r e =
      on_begin m (is_reserved word.Grammar t) AtImports (WantName ∷ []) _ e (λ h k. known before t m r AtImports (WantName ∷ []) k refl (λ n. State.beside refl refl))
      (λ e. import_states t r e)
  bottom_states AtImports t r e = import_states t r e
  bottom_states _ t r e = item_states t r e

  -- behind a whole file: something else of it, or the next item
  loose_states : (b : Bottom) (wants : List Sym) (t : Lexeme) → is_item b ≡ false → reach AtStart [] (before ++ t ∷ []) ≡ Some m → after b wants t ≡ Some m → StateOf (before ++ t ∷ []) m
  loose_states b [] t i r e = bottom_states b t r e
  loose_states b (x ∷ others) t i r e = from (begin x t) (nullable x) e (λ e. loose_states b others t i r e)
    where
      from : (o : Wanted) (c : Bool) → pushed o b others (cond c (after b others t) None) ≡ Some m → (after b others t ≡ Some m → StateOf (before ++ t ∷ []) m) →
          StateOf (before ++ t ∷ []) m
      from (Some w) c e again = subst (StateOf (before ++ t ∷ [])) (same_stack (record { bottom = b; wants = w ++ others }) m e) (beside_or_between (before ++ t ∷ []) b (w ++ others) i)
      from None true e again = again e
      from None false e again = absurd (cc e)

  -- behind an item
  over_states : (b : Bottom) (wants : List Sym) (t : Lexeme) → Over b wants → reach AtStart [] (before ++ t ∷ []) ≡ Some m → after b wants t ≡ Some m → StateOf (before ++ t ∷ []) m
  over_states b _ t Over.nothing r e = bottom_states b t r e
  over_states _ _ t Over.semicolon r e = from (is sign.Semicolon t) e
    where
      from : (c : Bool) → pushed (cond c (Some []) None) (InType true) [] (bottom_begin (InType true) t) ≡ Some m → StateOf (before ++ t ∷ []) m
      from true e = subst (StateOf (before ++ t ∷ [])) (same_stack (record { bottom = InType true; wants = [] }) m e) (State.between refl refl)
      from false e = bottom_states (InType true) t r e

  between_states : (b : Bottom) (wants : List Sym) (t : Lexeme) → loose b wants ≡ true → reach AtStart [] (before ++ t ∷ []) ≡ Some m → after b wants t ≡ Some m → StateOf (before ++ t ∷ []) m
  between_states b wants t l r e = from (is_item b) refl l
    where
      from : (c : Bool) → is_item b ≡ c → cond c (over b wants) true ≡ true → StateOf (before ++ t ∷ []) m
      from true i l = over_states b wants t (over_is b wants l) r e
      from false i l = loose_states b wants t i r e

-- what a token makes of where a stack stands
module _ (before : List Lexeme) (b : Bottom) (wants : List Sym) (t : Lexeme) (m : Stack) (reached : reach AtStart [] before ≡ Some (record { bottom = b; wants = wants }))
    (e : after b wants t ≡ Some m) where
  pub next : reach AtStart [] (before ++ t ∷ []) ≡ Some m
  next = reach_join AtStart [] before (t ∷ []) ∙ ap (λ o. onward o (λ k. reach k.bottom k.wants (t ∷ []))) reached ∙ ap (λ o. onward o (λ k. reach k.bottom k.wants [])) e

  -- of an item that is held
  held_step : {begun : List Lexeme} → Unfinished before begun → (c : Bottom) → b ≡ c → held b wants ≡ true →
      (Unfinished (before ++ t ∷ []) (begun ++ t ∷ []) → (w : List Sym) → held c w ≡ true → State (before ++ t ∷ []) c w) → StateOf (before ++ t ∷ []) m
  held_step {begun} u c same h f = from (held b m.wants) refl k.1
    where
      k : (m.bottom ≡ b) × (held_or_over b m.wants ≡ true)
      k = keeps b wants t m h e

      from : (x : Bool) → held b m.wants ≡ x → cond x true (over b m.wants) ≡ true → StateOf (before ++ t ∷ []) m
      from true q z =
          subst (λ d. State (before ++ t ∷ []) d m.wants) (sym (k.0 ∙ same))
          (f (unfinished_on before begun t u (λ g. unfinished (before ++ t ∷ []) g m next (held_solid b m.wants q))) m.wants (ap (λ d. held d m.wants) (sym same) ∙ q))
      from false q z = subst (λ d. State (before ++ t ∷ []) d m.wants) (sym k.0) (over_between (before ++ t ∷ []) b m.wants z)

module _ (before : List Lexeme) (t : Lexeme) (m : Stack) where
  step : (b : Bottom) (wants : List Sym) → reach AtStart [] before ≡ Some (record { bottom = b; wants = wants }) → State before b wants → after b wants t ≡ Some m → StateOf (before ++ t ∷ []) m
  step b wants reached (State.between n l) e =
      let g = whole_spelled before (record { bottom = b; wants = wants }) reached n in
      between_states before g.0 g.1 m b wants t l (next before b wants t m reached e) e
  step b wants reached (State.beside n i) e =
      subst (λ d. State (before ++ t ∷ []) d m.wants) (sym (stays b wants t m n e)) (beside_or_between (before ++ t ∷ []) b m.wants i)
  step _ wants reached (State.rule {begun} u g h) e = from p.1
    where
      p : (m.bottom ≡ InRule) × (Heads (begun ++ t ∷ []) m.wants ⊎ (m.wants ≡ []))
      p = heads_step m h t e

      from : (Heads (begun ++ t ∷ []) m.wants ⊎ (m.wants ≡ [])) → StateOf (before ++ t ∷ []) m
      from (inl k) =
          subst (λ d. State (before ++ t ∷ []) d m.wants) (sym p.0) (State.rule (unfinished_on before begun t u
          (λ g. unfinished (before ++ t ∷ []) g m (next before InRule wants t m reached e) (heads_solid k))) (rule_goes_on (t ∷ []) g) k)
      from (inr k) = subst (λ d. State (before ++ t ∷ []) d m.wants) (sym p.0) (over_between (before ++ t ∷ []) InRule m.wants (rw k refl))
  step _ wants reached (State.terminal u g h) e =
      held_step before InTerminal wants t m reached e u InTerminal refl h (λ v w k. State.terminal v (terminal_goes_on (t ∷ []) g) k)
  step _ wants reached (State.interface u g h) e =
      held_step before (InType true) wants t m reached e u (InType true) refl h (λ v w k. State.interface v (interface_goes_on (t ∷ []) g) k)

states : (ts before : List Lexeme) (b : Bottom) (wants : List Sym) (m : Stack) → reach AtStart [] before ≡ Some (record { bottom = b; wants = wants }) → State before b wants →
    reach b wants ts ≡ Some m → StateOf (before ++ ts) m
states [] before b wants m reached s e =
    subst (λ xs. StateOf xs m) (sym (append-nil before)) (subst (StateOf before) (same_stack (record { bottom = b; wants = wants }) m e) s)
states (t ∷ ts) before b wants m reached s e = from (after b wants t) refl e (λ k f r h. states ts (before ++ t ∷ []) k.bottom k.wants m f r h)
  where
    from : (o : Option Stack) → after b wants t ≡ o → onward o (λ k. reach k.bottom k.wants ts) ≡ Some m →
        ((k : Stack) → reach AtStart [] (before ++ t ∷ []) ≡ Some k → StateOf (before ++ t ∷ []) k → reach k.bottom k.wants ts ≡ Some m → StateOf ((before ++ t ∷ []) ++ ts) m) →
        StateOf (before ++ t ∷ ts) m
    from None f h again = absurd (cc h)
    from (Some k) f h again =
        subst (λ xs. StateOf xs m) (append_assoc before (t ∷ []) ts) (again k (next before b wants t k reached f) (step before t k b wants reached s f) h)

-- where the stack behind tokens stands
pub state : (ts : List Lexeme) (m : Stack) → reach AtStart [] ts ≡ Some m → State ts m.bottom m.wants
state ts m e = states ts [] AtStart [] m refl (State.between refl refl) e
