-- The form that the reader tells by the spot is the one that the table says.
use Rattle.std.proofs.Common.{ℕ, ◌≡◌, ◌≢◌, ◌-◌, Bool, true, false, cond, ◌&&◌, List, [], ◌∷◌, ◌++◌, length, take, drop, Option, Some, None, refl, sym, ap, ◌∙◌, subst, arith, codes, append_assoc}
use Rattle.std.proofs.Math.Seq.{drop-append_seam}
use Rattle.std.proofs.lemmas.List.{length-append, length-drop, take-append-drop}
use Rattle.std.proofs.lemmas.Slice.Eq.{bytes_eq-Decides}
use Rattle.lw_base.specs.declared.token.Span.{Span}
use Rattle.lw_grammar.specs.declared.rule.RuleResult.{RuleResult}
use Rattle.lw_gramlex.specs.declared.token.Symbol.{Symbol}
use Rattle.lw_gramlex.specs.declared.token.Symbol.TheVariants as sign
use Rattle.lw_gramread.specs.declared.lexeme.Reserved.{Reserved}
use Rattle.lw_gramread.specs.declared.lexeme.Reserved.TheVariants as word
use Rattle.lw_gramread.specs.declared.lexeme.Lexeme.{Lexeme}
use Rattle.lw_gramread.specs.declared.lexeme.Lexeme.TheVariants.{Word, Flagged, Sign}
use Rattle.lw_gramread.specs.declared.form.Form.{Form}
use Rattle.lw_gramread.specs.declared.form.Form.TheVariants as form
use Rattle.lw_gramread.specs.declared.reader.left.Spot.{Spot}
use Rattle.lw_gramread.specs.declared.reader.left.Spot.TheVariants as spot
use Rattle.lw_gramread.specs.OptionalTokens.{MayTakeWord}
use Rattle.lw_gramread.specs.ParserRules as rules
use Rattle.lw_gramread.specs.ParserRules.{SpellsResult}
use Rattle.lw_gramread.specs.Forms.{BeginsFile, Unfinished, BeginsRule, BeginsTerminal, BeginsInterface, RuleHead, HasLast, TellsForm, TellsOrNone, is_name, is_in_head, is_in_rule, is_first_name, is_in_terminal, is_behind_type, last_token, begins_infix, is_hidden, form_of_symbol, form_told}
use Rattle.lw_gramread.specs.Refusals.{front_of}
use Rattle.lw_gramread.specs.Steps.{sees, sees_reserved, same_symbol, same_reserved}
use Rattle.lw_gramread.proofs.Machine.{Sym, Want, WantWord, WantName, WantFeature, May, Above, NamesOpen, Attributes, Single, TypeEnd, AttributeMembers, AttributeEnd, MembersEnd, MembersClose, Value, ValuesClose, CrossEnd, Element, RowsEnd, RowsClose, Card, AfterWord, Operator, ActionType, PutEnd, PutOperator, ResultColon, NameColon, TypedColon, RuleName, TerminalName, Term, TermsEnd, AfterText, Bottom, AtStart, AtImports, InType, InRule, InTerminal, Stack, all_nullable, pushed, after, item_begin, bottom_begin, bottom_spot, type_spot, head_spot, name_spot, spot_of}
use Rattle.lw_gramread.proofs.At.{Seen, comes, comes_not, seen}
use Rattle.lw_gramread.proofs.Reach.{reach, onward, reach_join, same_stack}
use Rattle.lw_gramread.proofs.AgainTypes.{symbol_itself}
use Rattle.lw_gramread.proofs.Held.{held, Over, over_is, not_true, not_false, stays}
use Rattle.lw_gramread.proofs.Spelled.{spelled_reach, begins_reached, whole_spelled}
use Rattle.lw_gramread.proofs.Stands.{Body, Heads, no_stack, State, NotWhole, state, next}

-- ---- lists

last_snoc : (xs : List Lexeme) (x : Lexeme) → last_token (xs ++ x ∷ []) ≡ x ∷ []
last_snoc xs x = ap (λ n. drop n (xs ++ x ∷ [])) same ∙ drop-append_seam xs (x ∷ [])
  where
    same : length (xs ++ x ∷ []) - 1 ≡ length xs
    same = let h = length-append xs (x ∷ []) in omega (arith, h)

pub front_taken : (front left : List Lexeme) → front_of (front ++ left) left ≡ front
front_taken front left = ap (λ n. take n (front ++ left)) same ∙ taken front
  where
    same : length (front ++ left) - length left ≡ length front
    same = let h = length-append front left in omega (arith, h)

    taken : (xs : List Lexeme) → take (length xs) (xs ++ left) ≡ xs
    taken [] = refl
    taken (x ∷ xs) = ap (λ ys. x ∷ ys) (taken xs)

-- the last of the tokens is this symbol
ends_seen : (x : Symbol) (ts : List Lexeme) → HasLast x ts → sees x (last_token ts) ≡ true
unfolding same_symbol
ends_seen x ts e = ap (λ us. sees x (last_token us)) e.2 ∙ ap (sees x) (last_snoc e.0 (Sign x e.1)) ∙ itself x
  where
    itself : (y : Symbol) → sees y (Sign y e.1 ∷ []) ≡ true
    itself y = rw (symbol_itself y) refl

seen_ends : (x : Symbol) (ts : List Lexeme) → sees x (last_token ts) ≡ true → HasLast x ts
seen_ends x ts e = from (last_token ts) refl (seen x (last_token ts))
  where
    only : (us : List Lexeme) (s : Span) → last_token ts ≡ Sign x s ∷ us → us ≡ []
    only [] s h = refl
    only (u ∷ us) s h = let n = length-drop (length ts - 1) ts in let k : length (drop (length ts - 1) ts) ≡ length (Sign x s ∷ u ∷ us) = ap length h in absurd (omega (arith, n, k))

    from : (us : List Lexeme) → last_token ts ≡ us → Seen x us → HasLast x ts
    from us h (comes_not n) = absurd (cc (e, ap (sees x) h, n))
    from us h (comes s vs) =
        (take (length ts - 1) ts, s, sym (take-append-drop (length ts - 1) ts) ∙ ap (λ ys. take (length ts - 1) ts ++ ys) (h ∙ ap (λ ys. Sign x s ∷ ys) (only vs s h)))

-- ---- from the spot to the stack

rule_bottom : (b : Bottom) → is_in_rule (bottom_spot b) ≡ true → b ≡ InRule
rule_bottom InRule e = refl
rule_bottom _ e = absurd (not_true e)

rule_head : (b : Bottom) (s : Spot) → is_in_rule (head_spot b s) ≡ true → b ≡ InRule
rule_head InRule s e = refl
rule_head _ s e = absurd (not_true e)

rule_type : (b : Bottom) (left : List Lexeme) (s : Spot) → is_in_rule (type_spot b left s) ≡ true → is_in_rule s ≡ true
rule_type (InType true) left s e = from (sees sign.Equals left) e
  where
    from : (c : Bool) → is_in_rule (cond c spot.Attribute s) ≡ true → is_in_rule s ≡ true
    from true e = absurd (not_true e)
    from false e = e
rule_type b left s e = e

abbrev InItem : Bottom → Bottom → List Sym → Type 0
InItem c b wants = (b ≡ c) × (all_nullable wants ≡ false)

in_rule_spot : (b : Bottom) (wants : List Sym) (left : List Lexeme) → is_in_rule (spot_of b wants left) ≡ true → InItem InRule b wants
in_rule_spot b [] left e = absurd (not_true e)
in_rule_spot b (TypeEnd ∷ others) left e = in_rule_spot b others left (rule_type b left (spot_of b others left) e)
in_rule_spot b (AttributeMembers ∷ others) left e = in_rule_spot b others left (rule_type b left (spot_of b others left) e)
in_rule_spot b (AttributeEnd ∷ others) left e = in_rule_spot b others left (rule_type b left (spot_of b others left) e)
in_rule_spot b (May x ∷ others) left e = in_rule_spot b others left e
in_rule_spot b (MembersEnd ∷ others) left e = in_rule_spot b others left e
in_rule_spot b (Card ∷ others) left e = in_rule_spot b others left e
in_rule_spot b (AfterWord ∷ others) left e = in_rule_spot b others left e
in_rule_spot b (AfterText ∷ others) left e = in_rule_spot b others left e
in_rule_spot b (ResultColon first ∷ others) left e = (rule_head b (name_spot first) e, refl)
in_rule_spot b (NameColon first ∷ others) left e = (rule_head b (name_spot first) e, refl)
in_rule_spot b (TypedColon ∷ others) left e = (rule_head b spot.RuleType e, refl)
in_rule_spot b (s ∷ others) left e = (rule_bottom b e, refl)

terminal_bottom : (b : Bottom) → is_in_terminal (bottom_spot b) ≡ true → b ≡ InTerminal
terminal_bottom InTerminal e = refl
terminal_bottom _ e = absurd (not_true e)

terminal_name : (b : Bottom) (first : Bool) → is_in_terminal (head_spot b (name_spot first)) ≡ true → b ≡ InTerminal
terminal_name InTerminal first e = refl
terminal_name InRule true e = absurd (not_true e)
terminal_name InRule false e = absurd (not_true e)
terminal_name _ first e = absurd (not_true e)

terminal_head : (b : Bottom) → is_in_terminal (head_spot b spot.RuleType) ≡ true → b ≡ InTerminal
terminal_head InTerminal e = refl
terminal_head _ e = absurd (not_true e)

terminal_type : (b : Bottom) (left : List Lexeme) (s : Spot) → is_in_terminal (type_spot b left s) ≡ true → is_in_terminal s ≡ true
terminal_type (InType true) left s e = from (sees sign.Equals left) e
  where
    from : (c : Bool) → is_in_terminal (cond c spot.Attribute s) ≡ true → is_in_terminal s ≡ true
    from true e = absurd (not_true e)
    from false e = e
terminal_type b left s e = e

in_terminal_spot : (b : Bottom) (wants : List Sym) (left : List Lexeme) → is_in_terminal (spot_of b wants left) ≡ true → InItem InTerminal b wants
in_terminal_spot b [] left e = absurd (not_true e)
in_terminal_spot b (TypeEnd ∷ others) left e = in_terminal_spot b others left (terminal_type b left (spot_of b others left) e)
in_terminal_spot b (AttributeMembers ∷ others) left e = in_terminal_spot b others left (terminal_type b left (spot_of b others left) e)
in_terminal_spot b (AttributeEnd ∷ others) left e = in_terminal_spot b others left (terminal_type b left (spot_of b others left) e)
in_terminal_spot b (May x ∷ others) left e = in_terminal_spot b others left e
in_terminal_spot b (MembersEnd ∷ others) left e = in_terminal_spot b others left e
in_terminal_spot b (Card ∷ others) left e = in_terminal_spot b others left e
in_terminal_spot b (AfterWord ∷ others) left e = in_terminal_spot b others left e
in_terminal_spot b (AfterText ∷ others) left e = in_terminal_spot b others left e
in_terminal_spot b (ResultColon first ∷ others) left e = (terminal_name b first e, refl)
in_terminal_spot b (NameColon first ∷ others) left e = (terminal_name b first e, refl)
in_terminal_spot b (TypedColon ∷ others) left e = (terminal_head b e, refl)
in_terminal_spot b (s ∷ others) left e = (terminal_bottom b e, refl)

-- behind the type of an attribute its `;` can follow
abbrev BehindType : Bottom → List Sym → Type 0
BehindType b wants = (b ≡ InType true) × (k : Stack) × (after b wants (Sign sign.Semicolon (record { start = 0; end = 0 })) ≡ Some k)

type_bottom : (b : Bottom) → is_behind_type (bottom_spot b) ≡ true → ⊥
type_bottom InRule e = not_true e
type_bottom InTerminal e = not_true e
type_bottom _ e = not_true e

type_name : (b : Bottom) (first : Bool) → is_behind_type (head_spot b (name_spot first)) ≡ true → ⊥
type_name InRule true e = not_true e
type_name InRule false e = not_true e
type_name InTerminal first e = not_true e
type_name _ first e = not_true e

type_head : (b : Bottom) → is_behind_type (head_spot b spot.RuleType) ≡ true → ⊥
type_head InRule e = not_true e
type_head InTerminal e = not_true e
type_head _ e = not_true e

type_here : (b : Bottom) (left : List Lexeme) (s : Spot) → is_behind_type (type_spot b left s) ≡ true → (is_behind_type s ≡ true → b ≡ InType true) → b ≡ InType true
type_here (InType true) left s e f = refl
type_here b left s e f = f e

behind_type_spot : (b : Bottom) (wants : List Sym) (left : List Lexeme) → is_behind_type (spot_of b wants left) ≡ true → BehindType b wants
unfolding same_symbol
behind_type_spot b [] left e = absurd (not_true e)
behind_type_spot b (TypeEnd ∷ others) left e = (type_here b left (spot_of b others left) e (λ h. (behind_type_spot b others left h).0), _, refl)
behind_type_spot b (AttributeMembers ∷ others) left e = (type_here b left (spot_of b others left) e (λ h. (behind_type_spot b others left h).0), _, refl)
behind_type_spot b (AttributeEnd ∷ others) left e = (type_here b left (spot_of b others left) e (λ h. (behind_type_spot b others left h).0), _, refl)
behind_type_spot b (May x ∷ others) left e = from (same_symbol sign.Semicolon x) (behind_type_spot b others left e)
  where
    from : (c : Bool) → BehindType b others →
        (b ≡ InType true) × (k : Stack) × (pushed (cond c (Some []) None) b others (after b others (Sign sign.Semicolon (record { start = 0; end = 0 }))) ≡ Some k)
    from true r = (r.0, _, refl)
    from false r = r
behind_type_spot b (MembersEnd ∷ others) left e = ((behind_type_spot b others left e).0, _, refl)
behind_type_spot b (Card ∷ others) left e = behind_type_spot b others left e
behind_type_spot b (AfterWord ∷ others) left e = behind_type_spot b others left e
behind_type_spot b (AfterText ∷ others) left e = behind_type_spot b others left e
behind_type_spot b (ResultColon first ∷ others) left e = absurd (type_name b first e)
behind_type_spot b (NameColon first ∷ others) left e = absurd (type_name b first e)
behind_type_spot b (TypedColon ∷ others) left e = absurd (type_head b e)
behind_type_spot b (s ∷ others) left e = absurd (type_bottom b e)

-- ---- from the stack to the table

abbrev InRuleHere : List Lexeme → List Sym → Type 0
InRuleHere front wants = (begun : List Lexeme) × Unfinished front begun × BeginsRule begun × Heads begun wants

rule_here : (front : List Lexeme) (b : Bottom) (wants : List Sym) → State front b wants → InItem InRule b wants → InRuleHere front wants
rule_here front b wants (State.between n l) i = absurd (cc (n, i.1))
rule_here front b wants (State.beside n l) i = absurd (cc (rw i.0 at l))
rule_here front _ wants (State.rule {begun} u g h) i = (begun, u, g, h)
rule_here front _ wants (State.terminal u g h) i = absurd (cc i.0)
rule_here front _ wants (State.interface u g h) i = absurd (cc i.0)

terminal_here : (front : List Lexeme) (b : Bottom) (wants : List Sym) → State front b wants → InItem InTerminal b wants → (begun : List Lexeme) × Unfinished front begun × BeginsTerminal begun
terminal_here front b wants (State.between n l) i = absurd (cc (n, i.1))
terminal_here front b wants (State.beside n l) i = absurd (cc (rw i.0 at l))
terminal_here front _ wants (State.rule u g h) i = absurd (cc i.0)
terminal_here front _ wants (State.terminal {begun} u g h) i = (begun, u, g)
terminal_here front _ wants (State.interface u g h) i = absurd (cc i.0)

-- in the body of a rule nothing else is said
body_spot : (wants : List Sym) (left : List Lexeme) → held InRule wants ≡ true → spot_of InRule wants left ≡ spot.Rule
body_spot [] left h = absurd (not_true h)
body_spot (RowsEnd ∷ []) left h = refl
body_spot (s ∷ []) left h = absurd (not_true h)
body_spot (Card ∷ r ∷ others) left h = body_spot (r ∷ others) left h
body_spot (AfterWord ∷ r ∷ others) left h = body_spot (r ∷ others) left h
body_spot (Want x ∷ r ∷ others) left h = refl
body_spot (WantWord w ∷ r ∷ others) left h = refl
body_spot (WantName ∷ r ∷ others) left h = refl
body_spot (WantFeature ∷ r ∷ others) left h = refl
body_spot (Value ∷ r ∷ others) left h = refl
body_spot (ValuesClose ∷ r ∷ others) left h = refl
body_spot (CrossEnd ∷ r ∷ others) left h = refl
body_spot (Element ∷ r ∷ others) left h = refl
body_spot (RowsClose ∷ r ∷ others) left h = refl
body_spot (Operator ∷ r ∷ others) left h = refl
body_spot (ActionType ∷ r ∷ others) left h = refl
body_spot (PutEnd ∷ r ∷ others) left h = refl
body_spot (PutOperator ∷ r ∷ others) left h = refl
body_spot (s ∷ r ∷ others) left h = absurd (not_true h)

-- directly behind the name, and behind the name or the type
name_here : (begun : List Lexeme) (wants : List Sym) (left : List Lexeme) → Heads begun wants → is_name (spot_of InRule wants left) ≡ true → RuleHead begun []
name_here _ _ left Heads.behind_entry e = absurd (not_true e)
name_here begun _ left (Heads.behind_words m) e = absurd (not_true e)
name_here _ _ left Heads.first_name e = RuleHead.head MayTakeWord.left_out MayTakeWord.left_out
name_here begun _ left (Heads.named h) e = h
name_here begun _ left (Heads.infers h) e = absurd (not_true e)
name_here begun _ left (Heads.returns h) e = absurd (not_true e)
name_here begun _ left (Heads.typed h x) e = absurd (not_true e)
name_here begun wants left (Heads.body h) e = absurd (cc (rw (body_spot wants left h) at e))

head_here : (begun : List Lexeme) (wants : List Sym) (left : List Lexeme) → Heads begun wants → is_in_head (spot_of InRule wants left) ≡ true →
    (behind : List Lexeme) × (type : RuleResult) × RuleHead begun behind × SpellsResult behind [] type
head_here _ _ left Heads.behind_entry e = absurd (not_true e)
head_here begun _ left (Heads.behind_words m) e = absurd (not_true e)
head_here _ _ left Heads.first_name e = ([], _, RuleHead.head MayTakeWord.left_out MayTakeWord.left_out, rules.own)
head_here begun _ left (Heads.named h) e = ([], _, h, rules.own)
head_here begun _ left (Heads.infers h) e = absurd (not_true e)
head_here begun _ left (Heads.returns h) e = absurd (not_true e)
head_here begun _ left (Heads.typed h x) e = (_, _, h, x)
head_here begun wants left (Heads.body h) e = absurd (cc (rw (body_spot wants left h) at e))

first_here : (begun : List Lexeme) (wants : List Sym) (left : List Lexeme) → Heads begun wants → is_first_name (spot_of InRule wants left) ≡ true →
    (n : List ℕ) × (s : Span) × (begun ≡ Word n None s ∷ [])
first_here _ _ left Heads.behind_entry e = absurd (not_true e)
first_here begun _ left (Heads.behind_words m) e = absurd (not_true e)
first_here _ _ left (Heads.first_name {n} {s}) e = (n, s, refl)
first_here begun _ left (Heads.named h) e = absurd (not_true e)
first_here begun _ left (Heads.infers h) e = absurd (not_true e)
first_here begun _ left (Heads.returns h) e = absurd (not_true e)
first_here begun _ left (Heads.typed h x) e = absurd (not_true e)
first_here begun wants left (Heads.body h) e = absurd (cc (rw (body_spot wants left h) at e))

name_in_rule : (s : Spot) → is_name s ≡ true → is_in_rule s ≡ true
name_in_rule spot.FirstName e = refl
name_in_rule spot.RuleName e = refl
name_in_rule _ e = absurd (not_true e)

head_in_rule : (s : Spot) → is_in_head s ≡ true → is_in_rule s ≡ true
head_in_rule spot.FirstName e = refl
head_in_rule spot.RuleName e = refl
head_in_rule spot.RuleType e = refl
head_in_rule _ e = absurd (not_true e)

first_in_head : (s : Spot) → is_first_name s ≡ true → (is_in_rule s ≡ true) × (is_in_head s ≡ true)
first_in_head spot.FirstName e = (refl, refl)
first_in_head _ e = absurd (not_true e)

form_in : Option Form → Form → Form
form_in (Some f) g = f
form_in None g = g

same_form : (f g : Form) → Some f ≡ Some g → f ≡ g
unfolding form_in
same_form f g e = ap (λ o. form_in o f) e

no_form : (f : Form) → None ≡ Some f → ⊥
no_form f e = cc e

two : (c d : Bool) → (c && d) ≡ true → (c ≡ true) × (d ≡ true)
two true d e = (refl, e)
two false d e = absurd (not_true e)

-- what is told stands in the table
module _ (front : List Lexeme) (m : Stack) (t : Lexeme) (ts : List Lexeme) (reached : reach AtStart [] front ≡ Some m) where
  in_rule : is_in_rule (spot_of m.bottom m.wants (t ∷ ts)) ≡ true → InRuleHere front m.wants
  in_rule e = rule_here front m.bottom m.wants (state front m reached) (in_rule_spot m.bottom m.wants (t ∷ ts) e)

  in_rule_bottom : is_in_rule (spot_of m.bottom m.wants (t ∷ ts)) ≡ true → spot_of m.bottom m.wants (t ∷ ts) ≡ spot_of InRule m.wants (t ∷ ts)
  in_rule_bottom e = ap (λ b. spot_of b m.wants (t ∷ ts)) (in_rule_spot m.bottom m.wants (t ∷ ts) e).0

  in_terminal : is_in_terminal (spot_of m.bottom m.wants (t ∷ ts)) ≡ true → (begun : List Lexeme) × Unfinished front begun × BeginsTerminal begun
  in_terminal e = terminal_here front m.bottom m.wants (state front m reached) (in_terminal_spot m.bottom m.wants (t ∷ ts) e)

  -- in an interface, behind the type of an attribute
  behind_type : is_behind_type (spot_of m.bottom m.wants (t ∷ ts)) ≡ true → (begun : List Lexeme) × Unfinished front begun × BeginsInterface begun
  behind_type e = from m.bottom m.wants (state front m reached) (behind_type_spot m.bottom m.wants (t ∷ ts) e).0 e
    where
      none : (wants : List Sym) → Over (InType true) wants → is_behind_type (spot_of (InType true) wants (t ∷ ts)) ≡ true → ⊥
      none _ Over.nothing e = not_true e
      none _ Over.semicolon e = not_true e

      from : (b : Bottom) (wants : List Sym) → State front b wants → b ≡ InType true → is_behind_type (spot_of b wants (t ∷ ts)) ≡ true → (begun : List Lexeme) × Unfinished front begun × BeginsInterface begun
      from b wants (State.between n l) i e = absurd (none wants (over_is (InType true) wants (rw i at l)) (rw i at e))
      from b wants (State.beside n l) i e = absurd (cc (rw i at l))
      from _ wants (State.rule u g h) i e = absurd (cc i)
      from _ wants (State.terminal u g h) i e = absurd (cc i)
      from _ wants (State.interface {begun} u g h) i e = (begun, u, g)

  semicolon_follows : is_behind_type (spot_of m.bottom m.wants (t ∷ ts)) ≡ true → BeginsFile (front ++ Sign sign.Semicolon (record { start = 0; end = 0 }) ∷ [])
  semicolon_follows e =
      begins_reached (front ++ Sign sign.Semicolon (record { start = 0; end = 0 }) ∷ []) r.1
      (reach_join AtStart [] front (Sign sign.Semicolon (record { start = 0; end = 0 }) ∷ []) ∙
      ap (λ o. onward o (λ k. reach k.bottom k.wants (Sign sign.Semicolon (record { start = 0; end = 0 }) ∷ []))) reached ∙ ap (λ o. onward o (λ k. reach k.bottom k.wants [])) r.2)
    where
      r : BehindType m.bottom m.wants
      r = behind_type_spot m.bottom m.wants (t ∷ ts) e

  infix_told : (w : List ℕ) (r : Option Reserved) (p : Span) → is_first_name (spot_of m.bottom m.wants (t ∷ ts)) ≡ true → begins_infix (last_token front) ≡ true → r ≢ Some word.Hidden →
      TellsForm front (Word w r p) form.InfixRule
  infix_told w r p e i n = TellsForm.infix_rule (subst (Unfinished front) (h.2 ∙ ap (λ x. Word x None h.1 ∷ []) spelled) k.1) n
    where
      k : InRuleHere front m.wants
      k = in_rule (first_in_head (spot_of m.bottom m.wants (t ∷ ts)) e).0

      h : (n : List ℕ) × (s : Span) × (k.0 ≡ Word n None s ∷ [])
      h = first_here k.0 m.wants (t ∷ ts) k.3 (rw (in_rule_bottom (first_in_head (spot_of m.bottom m.wants (t ∷ ts)) e).0) at e)

      last : last_token front ≡ Word h.0 None h.1 ∷ []
      last = ap last_token (k.1.parts ∙ ap (λ xs. k.1.whole ++ xs) h.2) ∙ last_snoc k.1.whole (Word h.0 None h.1)

      spelled : h.0 ≡ codes "infix"
      spelled = (bytes_eq-Decides h.0 (codes "infix")).0 (ap begins_infix (sym last) ∙ i)

  hidden_told : (w : List ℕ) (p : Span) → is_in_head (spot_of m.bottom m.wants (t ∷ ts)) ≡ true → TellsForm front (Word w (Some word.Hidden) p) form.HiddenList
  hidden_told w p e = TellsForm.hidden_list k.1 h.2 h.3
    where
      k : InRuleHere front m.wants
      k = in_rule (head_in_rule (spot_of m.bottom m.wants (t ∷ ts)) e)

      h : (behind : List Lexeme) × (type : RuleResult) × RuleHead k.0 behind × SpellsResult behind [] type
      h = head_here k.0 m.wants (t ∷ ts) k.3 (rw (in_rule_bottom (head_in_rule (spot_of m.bottom m.wants (t ∷ ts)) e)) at e)

  name_told : is_name (spot_of m.bottom m.wants (t ∷ ts)) ≡ true → (begun : List Lexeme) × Unfinished front begun × RuleHead begun []
  name_told e =
      let k = in_rule (name_in_rule (spot_of m.bottom m.wants (t ∷ ts)) e) in
      (k.0, k.1, name_here k.0 m.wants (t ∷ ts) k.3 (rw (in_rule_bottom (name_in_rule (spot_of m.bottom m.wants (t ∷ ts)) e)) at e))

  told_if : (u : Lexeme) (c : Bool) (x : Form) (rest : Option Form) (f : Form) → cond c (Some x) rest ≡ Some f → (c ≡ true → TellsForm front u x) →
      (c ≡ false → rest ≡ Some f → TellsForm front u f) → TellsForm front u f
  told_if u true x rest f e yes_ no_ = subst (TellsForm front u) (same_form x f e) (yes_ refl)
  told_if u false x rest f e yes_ no_ = no_ refl e

  symbol_told : (x : Symbol) (p : Span) (f : Form) → form_of_symbol (spot_of m.bottom m.wants (t ∷ ts)) front x ≡ Some f → TellsForm front (Sign x p) f
  symbol_told sign.Ampersand p f e = subst (TellsForm front (Sign sign.Ampersand p)) (same_form form.UnorderedGroup f e) TellsForm.unordered_group
  symbol_told sign.Less p f e = subst (TellsForm front (Sign sign.Less p)) (same_form form.GuardOrParameter f e) TellsForm.guard
  symbol_told sign.FatArrow p f e = subst (TellsForm front (Sign sign.FatArrow p)) (same_form form.Predicate f e) TellsForm.predicate
  symbol_told sign.ThinArrow p f e =
      told_if (Sign sign.ThinArrow p) (is_in_rule (spot_of m.bottom m.wants (t ∷ ts))) form.Predicate _ f e (λ h. let k = in_rule h in TellsForm.arrow k.1 k.2)
      (λ c e. told_if (Sign sign.ThinArrow p) (is_in_terminal (spot_of m.bottom m.wants (t ∷ ts))) form.Until None f e (λ h. let k = in_terminal h in TellsForm.until k.1 k.2) (λ c e. absurd (no_form f e)))
  symbol_told sign.Exclamation p f e =
      told_if (Sign sign.Exclamation p) (is_in_terminal (spot_of m.bottom m.wants (t ∷ ts))) form.Negation None f e (λ h. let k = in_terminal h in TellsForm.negation k.1 k.2) (λ c e. absurd (no_form f e))
  symbol_told sign.Dot p f e =
      told_if (Sign sign.Dot p) (is_in_terminal (spot_of m.bottom m.wants (t ∷ ts))) form.Wildcard None f e (λ h. let k = in_terminal h in TellsForm.wildcard k.1 k.2) (λ c e. absurd (no_form f e))
  symbol_told sign.Question p f e =
      told_if (Sign sign.Question p) (is_in_terminal (spot_of m.bottom m.wants (t ∷ ts)) && sees sign.OpenParenthesis (last_token front)) form.Lookaround None f e
      (λ h. let q = two (is_in_terminal (spot_of m.bottom m.wants (t ∷ ts))) (sees sign.OpenParenthesis (last_token front)) h in let k = in_terminal q.0 in
      TellsForm.lookahead k.1 k.2 (seen_ends sign.OpenParenthesis front q.1)) (λ c e. absurd (no_form f e))
  symbol_told sign.QuestionEquals p f e =
      told_if (Sign sign.QuestionEquals p) (is_in_terminal (spot_of m.bottom m.wants (t ∷ ts)) && sees sign.OpenParenthesis (last_token front)) form.Lookaround None f e
      (λ h. let q = two (is_in_terminal (spot_of m.bottom m.wants (t ∷ ts))) (sees sign.OpenParenthesis (last_token front)) h in let k = in_terminal q.0 in
      TellsForm.lookahead_equals k.1 k.2 (seen_ends sign.OpenParenthesis front q.1)) (λ c e. absurd (no_form f e))
  symbol_told sign.Star p f e =
      told_if (Sign sign.Star p) (is_name (spot_of m.bottom m.wants (t ∷ ts))) form.WildcardFragment None f e (λ h. let k = name_told h in TellsForm.wildcard_fragment k.1 k.2) (λ c e. absurd (no_form f e))
  symbol_told sign.Equals p f e =
      told_if (Sign sign.Equals p) (is_behind_type (spot_of m.bottom m.wants (t ∷ ts))) form.PropertyDefault None f e
      (λ h. let k = behind_type h in TellsForm.property_default (record { start = 0; end = 0 }) k.1 k.2 (semicolon_follows h)) (λ c e. absurd (no_form f e))
  symbol_told sign.Plus p f e =
      told_if (Sign sign.Plus p) (sees sign.OpenBracket (last_token front)) form.MultiReference None f e (λ h. TellsForm.multi_reference (seen_ends sign.OpenBracket front h)) (λ c e. absurd (no_form f e))
  symbol_told x p f e = absurd (no_form f e)

  hidden_is : (r : Option Reserved) → is_hidden r ≡ true → r ≡ Some word.Hidden
  hidden_is (Some word.Hidden) e = refl
  hidden_is _ e = absurd (not_true e)

  word_told : (w : List ℕ) (r : Option Reserved) (p : Span) (f : Form) → form_told (spot_of m.bottom m.wants (t ∷ ts)) front (Word w r p) ≡ Some f → TellsForm front (Word w r p) f
  word_told w r p f e =
      told_if (Word w r p) (is_hidden r && is_in_head (spot_of m.bottom m.wants (t ∷ ts))) form.HiddenList _ f e
      (λ h. let q = two (is_hidden r) (is_in_head (spot_of m.bottom m.wants (t ∷ ts))) h in subst (λ z. TellsForm front (Word w z p) form.HiddenList) (sym (hidden_is r q.0)) (hidden_told w p q.1))
      (λ c e. told_if (Word w r p) (is_first_name (spot_of m.bottom m.wants (t ∷ ts)) && begins_infix (last_token front)) form.InfixRule None f e
      (λ h. let q = two (is_first_name (spot_of m.bottom m.wants (t ∷ ts))) (begins_infix (last_token front)) h in
      infix_told w r p q.0 q.1 (λ z. cc (c, hidden_too z (first_in_head (spot_of m.bottom m.wants (t ∷ ts)) q.0).1))) (λ c e. absurd (no_form f e)))
    where
      hidden_too : r ≡ Some word.Hidden → is_in_head (spot_of m.bottom m.wants (t ∷ ts)) ≡ true → (is_hidden r && is_in_head (spot_of m.bottom m.wants (t ∷ ts))) ≡ true
      hidden_too z h = rw (z, h) refl

  told_is : (u : Lexeme) (f : Form) → form_told (spot_of m.bottom m.wants (t ∷ ts)) front u ≡ Some f → TellsForm front u f
  told_is (Flagged p) f e = subst (TellsForm front (Flagged p)) (same_form form.RegexFlags f e) TellsForm.regex_flags
  told_is (Word w r p) f e = word_told w r p f e
  told_is (Sign x p) f e = symbol_told x p f e
  told_is u f e = absurd (no_form f e)

-- ---- from the table to the stack

named_rule : (first : Bool) → is_in_rule (name_spot first) ≡ true
named_rule true = refl
named_rule false = refl

stack_in_rule : (wants : List Sym) (left : List Lexeme) → all_nullable wants ≡ false → is_in_rule (spot_of InRule wants left) ≡ true
stack_in_rule [] left n = absurd (not_false n)
stack_in_rule (TypeEnd ∷ others) left n = stack_in_rule others left n
stack_in_rule (AttributeMembers ∷ others) left n = stack_in_rule others left n
stack_in_rule (AttributeEnd ∷ others) left n = stack_in_rule others left n
stack_in_rule (May x ∷ others) left n = stack_in_rule others left n
stack_in_rule (MembersEnd ∷ others) left n = stack_in_rule others left n
stack_in_rule (Card ∷ others) left n = stack_in_rule others left n
stack_in_rule (AfterWord ∷ others) left n = stack_in_rule others left n
stack_in_rule (AfterText ∷ others) left n = stack_in_rule others left n
stack_in_rule (ResultColon first ∷ others) left n = named_rule first
stack_in_rule (NameColon first ∷ others) left n = named_rule first
stack_in_rule (s ∷ others) left n = refl

stack_in_terminal : (wants : List Sym) (left : List Lexeme) → all_nullable wants ≡ false → spot_of InTerminal wants left ≡ spot.Terminal
stack_in_terminal [] left n = absurd (not_false n)
stack_in_terminal (TypeEnd ∷ others) left n = stack_in_terminal others left n
stack_in_terminal (AttributeMembers ∷ others) left n = stack_in_terminal others left n
stack_in_terminal (AttributeEnd ∷ others) left n = stack_in_terminal others left n
stack_in_terminal (May x ∷ others) left n = stack_in_terminal others left n
stack_in_terminal (MembersEnd ∷ others) left n = stack_in_terminal others left n
stack_in_terminal (Card ∷ others) left n = stack_in_terminal others left n
stack_in_terminal (AfterWord ∷ others) left n = stack_in_terminal others left n
stack_in_terminal (AfterText ∷ others) left n = stack_in_terminal others left n
stack_in_terminal (s ∷ others) left n = refl

stack_behind_type : (wants : List Sym) (p q : Span) (ts : List Lexeme) (k : Stack) → held (InType true) wants ≡ true → after (InType true) wants (Sign sign.Semicolon q) ≡ Some k →
    is_behind_type (spot_of (InType true) wants (Sign sign.Equals p ∷ ts)) ≡ true
unfolding same_symbol
stack_behind_type [] p q ts k h e = absurd (not_true h)
stack_behind_type (Above ∷ []) p q ts k h e = absurd (no_stack k e)
stack_behind_type (NamesOpen ∷ []) p q ts k h e = absurd (no_stack k e)
stack_behind_type (Attributes ∷ []) p q ts k h e = absurd (no_stack k e)
stack_behind_type (s ∷ []) p q ts k h e = absurd (not_true h)
stack_behind_type (TypeEnd ∷ r ∷ others) p q ts k h e = refl
stack_behind_type (AttributeMembers ∷ r ∷ others) p q ts k h e = refl
stack_behind_type (AttributeEnd ∷ r ∷ others) p q ts k h e = refl
stack_behind_type (May sign.Question ∷ r ∷ others) p q ts k h e = stack_behind_type (r ∷ others) p q ts k h e
stack_behind_type (Want sign.Colon ∷ r ∷ others) p q ts k h e = absurd (no_stack k e)
stack_behind_type (Want sign.CloseBracket ∷ r ∷ others) p q ts k h e = absurd (no_stack k e)
stack_behind_type (WantName ∷ r ∷ others) p q ts k h e = absurd (no_stack k e)
stack_behind_type (Single ∷ r ∷ others) p q ts k h e = absurd (no_stack k e)
stack_behind_type (MembersClose ∷ r ∷ others) p q ts k h e = absurd (no_stack k e)
stack_behind_type (s ∷ r ∷ others) p q ts k h e = absurd (not_true h)

-- behind a whole file a word begins an item
word_falls : (b : Bottom) (wants : List Sym) (w : List ℕ) (r : Option Reserved) (s : Span) → all_nullable wants ≡ true → after b wants (Word w r s) ≡ bottom_begin b (Word w r s)
word_falls b [] w r s n = refl
word_falls b (TypeEnd ∷ others) w r s n = word_falls b others w r s n
word_falls b (AttributeMembers ∷ others) w r s n = word_falls b others w r s n
word_falls b (AttributeEnd ∷ others) w r s n = word_falls b others w r s n
word_falls b (May x ∷ others) w r s n = word_falls b others w r s n
word_falls b (MembersEnd ∷ others) w r s n = word_falls b others w r s n
word_falls b (Card ∷ others) w r s n = word_falls b others w r s n
word_falls b (AfterWord ∷ others) w r s n = word_falls b others w r s n
word_falls b (AfterText ∷ others) w r s n = word_falls b others w r s n
word_falls b (x ∷ others) w r s n = absurd (not_true n)

bottom_item : (b : Bottom) (t : Lexeme) → sees_reserved word.Grammar (t ∷ []) ≡ false → sees_reserved word.Import (t ∷ []) ≡ false → bottom_begin b t ≡ item_begin t
bottom_item AtStart t g i = rw (g, i) refl
bottom_item AtImports t g i = rw i refl
bottom_item _ t g i = refl

-- the first token of an item, and the stack behind it
abbrev Opened : Bottom → Bottom → List Sym → List Lexeme → Type 0
Opened c b wants begun = (x : Lexeme) × (inside : List Lexeme) × (k : Stack) × (begun ≡ x ∷ inside) × (after b wants x ≡ Some k) × (k.bottom ≡ c) × (all_nullable k.wants ≡ false)

module _ (b : Bottom) (wants : List Sym) (n : all_nullable wants ≡ true) where
  rule_opened : (begun : List Lexeme) → BeginsRule begun → Opened InRule b wants begun
  unfolding same_reserved
  rule_opened _ (BeginsRule.entry {w} {s} {ts}) = (
    Word w (Some word.Entry) s,
    ts,
    record { bottom = InRule; wants = RuleName ∷ ResultColon false ∷ Body },
    refl,
    word_falls b wants w (Some word.Entry) s n ∙ bottom_item b (Word w (Some word.Entry) s) refl refl,
    refl,
    refl,
  )
  rule_opened _ (BeginsRule.fragment {w} {s} {ts}) = (
    Word w (Some word.Fragment) s,
    ts,
    record { bottom = InRule; wants = WantName ∷ ResultColon false ∷ Body },
    refl,
    word_falls b wants w (Some word.Fragment) s n ∙ bottom_item b (Word w (Some word.Fragment) s) refl refl,
    refl,
    refl,
  )
  rule_opened _ (BeginsRule.named {n = w} {s} {ts}) =
      (Word w None s, ts, record { bottom = InRule; wants = ResultColon true ∷ Body }, refl, word_falls b wants w None s n ∙ bottom_item b (Word w None s) refl refl, refl, refl)

  terminal_opened : (begun : List Lexeme) → BeginsTerminal begun → Opened InTerminal b wants begun
  unfolding same_reserved
  terminal_opened _ (BeginsTerminal.terminal {w} {s} {ts}) = (
    Word w (Some word.Terminal) s,
    ts,
    record { bottom = InTerminal; wants = TerminalName ∷ Term ∷ TermsEnd ∷ [] },
    refl,
    word_falls b wants w (Some word.Terminal) s n ∙ bottom_item b (Word w (Some word.Terminal) s) refl refl,
    refl,
    refl,
  )
  terminal_opened _ (BeginsTerminal.hidden {w} {s} {ts}) = (
    Word w (Some word.Hidden) s,
    ts,
    record { bottom = InTerminal; wants = WantWord word.Terminal ∷ TerminalName ∷ Term ∷ TermsEnd ∷ [] },
    refl,
    word_falls b wants w (Some word.Hidden) s n ∙ bottom_item b (Word w (Some word.Hidden) s) refl refl,
    refl,
    refl,
  )

  interface_opened : (begun : List Lexeme) → BeginsInterface begun → Opened (InType true) b wants begun
  unfolding same_reserved
  interface_opened _ (BeginsInterface.interface {w} {s} {ts}) = (
    Word w (Some word.Interface) s,
    ts,
    record { bottom = InType true; wants = WantName ∷ Above ∷ [] },
    refl,
    word_falls b wants w (Some word.Interface) s n ∙ bottom_item b (Word w (Some word.Interface) s) refl refl,
    refl,
    refl,
  )

  -- the stack behind a rule's name
  head_stack : (begun vs : List Lexeme) → RuleHead begun vs → (first : Bool) × (reach b wants begun ≡ reach InRule (ResultColon first ∷ Body) vs)
  unfolding same_reserved
  head_stack _ vs (RuleHead.head {n = w} {s} MayTakeWord.left_out MayTakeWord.left_out) =
      (true, ap (λ o. onward o (λ k. reach k.bottom k.wants vs)) (word_falls b wants w None s n ∙ bottom_item b (Word w None s) refl refl))
  head_stack _ vs (RuleHead.head {n = w} {s} MayTakeWord.left_out (MayTakeWord.there {n = v} {s = q})) =
      (false, ap (λ o. onward o (λ k. reach k.bottom k.wants (Word w None s ∷ vs))) (word_falls b wants v (Some word.Fragment) q n ∙ bottom_item b (Word v (Some word.Fragment) q) refl refl))
  head_stack _ vs (RuleHead.head {n = w} {s} (MayTakeWord.there {n = v} {s = q}) MayTakeWord.left_out) =
      (false, ap (λ o. onward o (λ k. reach k.bottom k.wants (Word w None s ∷ vs))) (word_falls b wants v (Some word.Entry) q n ∙ bottom_item b (Word v (Some word.Entry) q) refl refl))
  head_stack _ vs (RuleHead.head {n = w} {s} (MayTakeWord.there {n = v} {s = q}) (MayTakeWord.there {n = u} {s = p})) = (
    false,
    ap (λ o. onward o (λ k. reach k.bottom k.wants (Word u (Some word.Fragment) p ∷ Word w None s ∷ vs)))
        (word_falls b wants v (Some word.Entry) q n ∙ bottom_item b (Word v (Some word.Entry) q) refl refl),
  )

  first_stack : (w : List ℕ) (s : Span) → reach b wants (Word w None s ∷ []) ≡ Some (record { bottom = InRule; wants = ResultColon true ∷ Body })
  first_stack w s = ap (λ o. onward o (λ k. reach k.bottom k.wants [])) (word_falls b wants w None s n ∙ bottom_item b (Word w None s) refl refl)

headed : (first : Bool) → is_in_head (name_spot first) ≡ true
headed true = refl
headed false = refl

is_a_name : (first : Bool) → is_name (name_spot first) ≡ true
is_a_name true = refl
is_a_name false = refl

-- and the one behind its type
type_stack : (first : Bool) (vs : List Lexeme) (type : RuleResult) → SpellsResult vs [] type →
    (k : Stack) × (reach InRule (ResultColon first ∷ Body) vs ≡ Some k) × ((left : List Lexeme) → is_in_head (spot_of k.bottom k.wants left) ≡ true)
unfolding same_reserved
type_stack first _ _ rules.own = (record { bottom = InRule; wants = ResultColon first ∷ Body }, refl, λ left. headed first)
type_stack first _ _ rules.returns = (record { bottom = InRule; wants = TypedColon ∷ Body }, refl, λ left. refl)
type_stack first _ _ (rules.gives e) = (record { bottom = InRule; wants = TypedColon ∷ Body }, rw e refl, λ left. refl)
type_stack first _ _ rules.infers = (record { bottom = InRule; wants = TypedColon ∷ Body }, refl, λ left. refl)

-- a stack inside an item stays there until the item is whole
runs : (inside whole read : List Lexeme) (k m : Stack) → reach AtStart [] (whole ++ read) ≡ Some k → all_nullable k.wants ≡ false →
    ((t : Lexeme) (front after : List Lexeme) → inside ≡ t ∷ front ++ after → NotWhole (whole ++ (read ++ t ∷ front))) → reach k.bottom k.wants inside ≡ Some m → InItem k.bottom m.bottom m.wants
runs [] whole read k m r n f e =
    let same : k ≡ m = same_stack k m e in (ap (λ (z : Stack). z.bottom) (sym same), ap (λ (z : Stack). all_nullable z.wants) (sym same) ∙ n)
runs (t ∷ inside) whole read k m r n f e = from (after k.bottom k.wants t) refl e (λ q r' n' f' h. runs inside whole (read ++ t ∷ []) q m r' n' f' h)
  where
    later : (v : Lexeme) (front after : List Lexeme) → inside ≡ v ∷ front ++ after → NotWhole (whole ++ ((read ++ t ∷ []) ++ v ∷ front))
    later v front after h = subst (λ xs. NotWhole (whole ++ xs)) (sym (append_assoc read (t ∷ []) (v ∷ front))) (f t (v ∷ front) after (ap (λ xs. t ∷ xs) h))

    solid : (q : Stack) → reach AtStart [] (whole ++ (read ++ t ∷ [])) ≡ Some q → (c : Bool) → all_nullable q.wants ≡ c → c ≡ false
    solid q r false h = refl
    solid q r true h = let g = whole_spelled (whole ++ (read ++ t ∷ [])) q r h in absurd (f t [] inside refl g.0 g.1)

    from : (o : Option Stack) → after k.bottom k.wants t ≡ o → onward o (λ q. reach q.bottom q.wants inside) ≡ Some m →
        ((q : Stack) → reach AtStart [] (whole ++ (read ++ t ∷ [])) ≡ Some q → all_nullable q.wants ≡ false →
        ((v : Lexeme) (front after : List Lexeme) → inside ≡ v ∷ front ++ after → NotWhole (whole ++ ((read ++ t ∷ []) ++ v ∷ front))) → reach q.bottom q.wants inside ≡ Some m →
        InItem q.bottom m.bottom m.wants) → InItem k.bottom m.bottom m.wants
    from None a h again = absurd (cc h)
    from (Some q) a h again =
        let r' : reach AtStart [] (whole ++ (read ++ t ∷ [])) ≡ Some q = ap (reach AtStart []) (sym (append_assoc whole read (t ∷ []))) ∙ next (whole ++ read) k.bottom k.wants t q r a in
        let i = again q r' (solid q r' (all_nullable q.wants) refl) later h in
        (i.0 ∙ stays k.bottom k.wants t q n a, i.1)

module _ (front begun : List Lexeme) (u : Unfinished front begun) (m : Stack) (reached : reach AtStart [] front ≡ Some m) where
  -- the stack behind the whole file
  behind : (k : Stack) × (reach AtStart [] u.whole ≡ Some k) × (all_nullable k.wants ≡ true)
  behind = spelled_reach u.whole u.grammar u.spells

  from_there : reach behind.0.bottom behind.0.wants begun ≡ Some m
  from_there = ap (λ o. onward o (λ k. reach k.bottom k.wants begun)) (sym behind.1) ∙ sym (reach_join AtStart [] u.whole begun) ∙ ap (reach AtStart []) (sym u.parts) ∙ reached

  stands_in : (c : Bottom) → Opened c behind.0.bottom behind.0.wants begun → InItem c m.bottom m.wants
  stands_in c o =
      let i = runs o.1 u.whole (o.0 ∷ []) o.2 m (next u.whole behind.0.bottom behind.0.wants o.0 o.2 behind.1 o.4) o.6
      (λ t f after h. u.longest o.0 (t ∷ f) after (o.3 ∙ ap (λ xs. o.0 ∷ xs) h)) inside in
      (i.0 ∙ o.5, i.1)
    where
      inside : reach o.2.bottom o.2.wants o.1 ≡ Some m
      inside = ap (λ x. onward x (λ k. reach k.bottom k.wants o.1)) (sym o.4) ∙ ap (reach behind.0.bottom behind.0.wants) (sym o.3) ∙ from_there

  stands_in_rule : BeginsRule begun → InItem InRule m.bottom m.wants
  stands_in_rule g = stands_in InRule (rule_opened behind.0.bottom behind.0.wants behind.2 begun g)

  stands_in_terminal : BeginsTerminal begun → InItem InTerminal m.bottom m.wants
  stands_in_terminal g = stands_in InTerminal (terminal_opened behind.0.bottom behind.0.wants behind.2 begun g)

  stands_in_interface : BeginsInterface begun → InItem (InType true) m.bottom m.wants
  stands_in_interface g = stands_in (InType true) (interface_opened behind.0.bottom behind.0.wants behind.2 begun g)

  spot_in_rule : BeginsRule begun → (left : List Lexeme) → is_in_rule (spot_of m.bottom m.wants left) ≡ true
  spot_in_rule g left = let i = stands_in_rule g in ap (λ b. is_in_rule (spot_of b m.wants left)) i.0 ∙ stack_in_rule m.wants left i.1

  spot_in_terminal : BeginsTerminal begun → (left : List Lexeme) → spot_of m.bottom m.wants left ≡ spot.Terminal
  spot_in_terminal g left = let i = stands_in_terminal g in ap (λ b. spot_of b m.wants left) i.0 ∙ stack_in_terminal m.wants left i.1

  -- in an interface where a `;` could follow
  spot_behind_type : BeginsInterface begun → (e p : Span) (ts : List Lexeme) → BeginsFile (front ++ Sign sign.Semicolon e ∷ []) →
      is_behind_type (spot_of m.bottom m.wants (Sign sign.Equals p ∷ ts)) ≡ true
  spot_behind_type g e p ts s = from m.bottom m.wants (state front m reached) (stands_in_interface g) (after m.bottom m.wants (Sign sign.Semicolon e)) refl follows
    where
      r : (k : Stack) × (reach AtStart [] ((front ++ Sign sign.Semicolon e ∷ []) ++ s.0) ≡ Some k) × (all_nullable k.wants ≡ true)
      r = spelled_reach ((front ++ Sign sign.Semicolon e ∷ []) ++ s.0) s.1 s.2

      follows : onward (after m.bottom m.wants (Sign sign.Semicolon e)) (λ k. reach k.bottom k.wants s.0) ≡ Some r.0
      follows =
          ap (λ o. onward o (λ k. reach k.bottom k.wants (Sign sign.Semicolon e ∷ s.0))) (sym reached) ∙ sym (reach_join AtStart [] front (Sign sign.Semicolon e ∷ s.0)) ∙
          ap (reach AtStart []) (sym (append_assoc front (Sign sign.Semicolon e ∷ []) s.0)) ∙ r.1

      from : (b : Bottom) (wants : List Sym) → State front b wants → InItem (InType true) b wants → (o : Option Stack) → after b wants (Sign sign.Semicolon e) ≡ o →
          onward o (λ k. reach k.bottom k.wants s.0) ≡ Some r.0 → is_behind_type (spot_of b wants (Sign sign.Equals p ∷ ts)) ≡ true
      from b wants x i None a h = absurd (cc h)
      from b wants (State.between n l) i (Some k) a h = absurd (cc (n, i.1))
      from b wants (State.beside n l) i (Some k) a h = absurd (cc (rw i.0 at l))
      from _ wants (State.rule v z y) i (Some k) a h = absurd (cc i.0)
      from _ wants (State.terminal v z y) i (Some k) a h = absurd (cc i.0)
      from _ wants (State.interface v z y) i (Some k) a h = stack_behind_type wants p e ts k y a

  spot_of_name : RuleHead begun [] → (left : List Lexeme) → is_name (spot_of m.bottom m.wants left) ≡ true
  spot_of_name h left =
      let f = head_stack behind.0.bottom behind.0.wants behind.2 begun [] h in
      let same = same_stack (record { bottom = InRule; wants = ResultColon f.0 ∷ Body }) m (sym f.1 ∙ from_there) in
      subst (λ (k : Stack). is_name (spot_of k.bottom k.wants left) ≡ true) same (is_a_name f.0)

  spot_in_head : (vs : List Lexeme) (type : RuleResult) → RuleHead begun vs → SpellsResult vs [] type → (left : List Lexeme) → is_in_head (spot_of m.bottom m.wants left) ≡ true
  spot_in_head vs type h x left =
      let f = head_stack behind.0.bottom behind.0.wants behind.2 begun vs h in
      let k = type_stack f.0 vs type x in
      let same = same_stack k.0 m (sym k.1 ∙ sym f.1 ∙ from_there) in
      subst (λ (z : Stack). is_in_head (spot_of z.bottom z.wants left) ≡ true) same (k.2 left)

spot_of_infix : (front : List Lexeme) (w : List ℕ) (s : Span) → Unfinished front (Word w None s ∷ []) → (m : Stack) → reach AtStart [] front ≡ Some m → (left : List Lexeme) →
    spot_of m.bottom m.wants left ≡ spot.FirstName
spot_of_infix front w s u m reached left =
    let k = behind front (Word w None s ∷ []) u m reached in
    let same = same_stack (record { bottom = InRule; wants = ResultColon true ∷ Body }) m
    (sym (first_stack k.0.bottom k.0.wants k.2 w s) ∙ from_there front (Word w None s ∷ []) u m reached) in
    ap (λ (z : Stack). spot_of z.bottom z.wants left) (sym same)

infix_seen : (front : List Lexeme) (s : Span) → Unfinished front (Word (codes "infix") None s ∷ []) → begins_infix (last_token front) ≡ true
infix_seen front s u =
    ap (λ xs. begins_infix (last_token xs)) u.parts ∙ ap begins_infix (last_snoc u.whole (Word (codes "infix") None s)) ∙ (bytes_eq-Decides (codes "infix") (codes "infix")).1 refl

not_hidden : (r : Option Reserved) → r ≢ Some word.Hidden → is_hidden r ≡ false
not_hidden (Some word.Hidden) n = absurd (n refl)
not_hidden _ n = refl

-- what stands in the table is told
table_told : (front : List Lexeme) (m : Stack) (t : Lexeme) (ts : List Lexeme) (f : Form) → reach AtStart [] front ≡ Some m → TellsForm front t f →
    form_told (spot_of m.bottom m.wants (t ∷ ts)) front t ≡ Some f
table_told front m _ ts _ r TellsForm.unordered_group = refl
table_told front m _ ts _ r TellsForm.guard = refl
table_told front m _ ts _ r TellsForm.predicate = refl
table_told front m _ ts _ r (TellsForm.arrow {s} {begun} u g) = rw (spot_in_rule front begun u m r g (Sign sign.ThinArrow s ∷ ts)) refl
table_told front m _ ts _ r (TellsForm.until {s} {begun} u g) = rw (spot_in_terminal front begun u m r g (Sign sign.ThinArrow s ∷ ts)) refl
table_told front m _ ts _ r (TellsForm.negation {s} {begun} u g) = rw (spot_in_terminal front begun u m r g (Sign sign.Exclamation s ∷ ts)) refl
table_told front m _ ts _ r (TellsForm.wildcard {s} {begun} u g) = rw (spot_in_terminal front begun u m r g (Sign sign.Dot s ∷ ts)) refl
table_told front m _ ts _ r (TellsForm.lookahead {s} {begun} u g e) =
    rw (spot_in_terminal front begun u m r g (Sign sign.Question s ∷ ts), ends_seen sign.OpenParenthesis front e) refl
table_told front m _ ts _ r (TellsForm.lookahead_equals {s} {begun} u g e) =
    rw (spot_in_terminal front begun u m r g (Sign sign.QuestionEquals s ∷ ts), ends_seen sign.OpenParenthesis front e) refl
table_told front m _ ts _ r (TellsForm.wildcard_fragment {s} {begun} u h) = rw (spot_of_name front begun u m r h (Sign sign.Star s ∷ ts)) refl
table_told front m _ ts _ r (TellsForm.property_default {s} {begun} e u g b) = rw (spot_behind_type front begun u m r g e s ts b) refl
table_told front m _ ts _ r (TellsForm.multi_reference e) = rw (ends_seen sign.OpenBracket front e) refl
table_told front m _ ts _ r TellsForm.regex_flags = refl
table_told front m _ ts _ r (TellsForm.hidden_list {w} {s} {begun} {behind = vs} {type} u h x) = rw (spot_in_head front begun u m r vs type h x (Word w (Some word.Hidden) s ∷ ts)) refl
table_told front m _ ts _ r (TellsForm.infix_rule {w} {r = q} {s} {p} u n) =
    rw (not_hidden q n, spot_of_infix front (codes "infix") p u m r (Word w q s ∷ ts), infix_seen front p u) refl

-- ---- both

pub told_exact : (front : List Lexeme) (t : Lexeme) (ts : List Lexeme) (m : Stack) (s : Spot) → reach AtStart [] front ≡ Some m → spot_of m.bottom m.wants (t ∷ ts) ≡ s →
    TellsOrNone front t (form_told s front t)
told_exact front t ts m s reached told = subst (λ z. TellsOrNone front t (form_told z front t)) told (from (form_told (spot_of m.bottom m.wants (t ∷ ts)) front t) refl)
  where
    from : (o : Option Form) → form_told (spot_of m.bottom m.wants (t ∷ ts)) front t ≡ o → TellsOrNone front t o
    from (Some f) e = told_is front m t ts reached t f e
    from None e = λ f h. cc (e, table_told front m t ts f reached h)
