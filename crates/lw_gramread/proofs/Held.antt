-- The stack inside an item: what keeps it there until the item is finished.
use Rattle.std.proofs.Common.{◌≡◌, Bool, true, false, cond, ◌||◌, List, [], ◌∷◌, ◌++◌, Some, None, is_some, refl, sym, ap, ◌∙◌, subst, append-nil}
use Rattle.lw_gramlex.specs.declared.token.Symbol.TheVariants as sign
use Rattle.lw_gramread.specs.declared.lexeme.Reserved.TheVariants as word
use Rattle.lw_gramread.specs.declared.lexeme.Lexeme.{Lexeme}
use Rattle.lw_gramread.specs.Steps.{sees_word, sees_name, sees_text, sees_primitive, next_operator}
use Rattle.lw_gramread.specs.ElementSteps.{begins_element}
use Rattle.lw_gramread.specs.TerminalSteps.{begins_term}
use Rattle.lw_gramread.proofs.Machine.{Sym, Want, WantWord, WantName, WantFeature, May, Above, NamesOpen, Attributes, Single, TypeEnd, AttributeMembers, AttributeEnd, MembersClose, Value, ValuesClose, CrossEnd, Element, RowsEnd, RowsClose, Card, AfterWord, Operator, ActionType, PutEnd, PutOperator, TermsEnd, Bottom, InType, InRule, InTerminal, Stack, Wanted, is, is_reserved, followed, element_begin, term_begin, card, begin, nullable, all_nullable, pushed, after}
use Rattle.lw_gramread.proofs.Reach.{same_stack}

-- what may stand above the symbol that ends an item
abbrev pub inner : Bottom → Sym → Bool
inner InTerminal s = true
inner InRule (Want x) = true
inner InRule (WantWord r) = true
inner InRule WantName = true
inner InRule WantFeature = true
inner InRule Value = true
inner InRule ValuesClose = true
inner InRule CrossEnd = true
inner InRule Element = true
inner InRule RowsClose = true
inner InRule Card = true
inner InRule AfterWord = true
inner InRule Operator = true
inner InRule ActionType = true
inner InRule PutEnd = true
inner InRule PutOperator = true
inner (InType true) (Want sign.Colon) = true
inner (InType true) (Want sign.CloseBracket) = true
inner (InType true) WantName = true
inner (InType true) (May sign.Question) = true
inner (InType true) Single = true
inner (InType true) TypeEnd = true
inner (InType true) AttributeMembers = true
inner (InType true) AttributeEnd = true
inner (InType true) MembersClose = true
inner _ _ = false

-- and that symbol
abbrev pub closing : Bottom → Sym → Bool
closing InRule RowsEnd = true
closing InTerminal TermsEnd = true
closing (InType true) Above = true
closing (InType true) NamesOpen = true
closing (InType true) Attributes = true
closing _ _ = false

abbrev pub held : Bottom → List Sym → Bool
held b [] = false
held b (s ∷ []) = closing b s
held b (s ∷ r ∷ others) = cond (inner b s) (held b (r ∷ others)) false

abbrev pub all_inner : Bottom → List Sym → Bool
all_inner b [] = true
all_inner b (s ∷ others) = cond (inner b s) (all_inner b others) false

-- what is wanted behind an item
abbrev pub over : Bottom → List Sym → Bool
over b [] = true
over (InType true) (May sign.Semicolon ∷ []) = true
over _ _ = false

abbrev pub held_or_over : Bottom → List Sym → Bool
held_or_over b wants = cond (held b wants) true (over b wants)

-- what cannot be, said once, so that where a case is left over nothing is looked for
pub not_true : false ≡ true → ⊥
not_true e = cc e

pub not_false : true ≡ false → ⊥
not_false e = cc e

pub both : (c x : Bool) → cond c x false ≡ true → (c ≡ true) × (x ≡ true)
both true x e = (refl, e)
both false x e = absurd (cc e)

if_false : (c x : Bool) → x ≡ false → cond c x false ≡ false
if_false true x e = e
if_false false x e = refl

closing_solid : (b : Bottom) (s : Sym) → closing b s ≡ true → nullable s ≡ false
closing_solid InRule RowsEnd e = refl
closing_solid InTerminal TermsEnd e = refl
closing_solid (InType true) Above e = refl
closing_solid (InType true) NamesOpen e = refl
closing_solid (InType true) Attributes e = refl
closing_solid _ _ e = absurd (not_true e)

pub held_solid : (b : Bottom) (wants : List Sym) → held b wants ≡ true → all_nullable wants ≡ false
held_solid b [] e = absurd (cc e)
held_solid b (s ∷ []) e = rw (closing_solid b s e) refl
held_solid b (s ∷ r ∷ others) e = if_false (nullable s) (all_nullable (r ∷ others)) (held_solid b (r ∷ others) (both (inner b s) (held b (r ∷ others)) e).1)

pub data Over : Bottom → List Sym → Type 0 where
  nothing : {b : Bottom} → Over b []
  semicolon : Over (InType true) (May sign.Semicolon ∷ [])

pub over_is : (b : Bottom) (wants : List Sym) → over b wants ≡ true → Over b wants
over_is b [] e = Over.nothing
over_is (InType true) (May sign.Semicolon ∷ []) e = Over.semicolon
over_is _ _ e = absurd (not_true e)

pub over_nullable : (b : Bottom) (wants : List Sym) → over b wants ≡ true → all_nullable wants ≡ true
over_nullable b wants e = from b wants (over_is b wants e)
  where
    from : (c : Bottom) (w : List Sym) → Over c w → all_nullable w ≡ true
    from _ _ Over.nothing = refl
    from _ _ Over.semicolon = refl

held_front : (b : Bottom) (w : List Sym) (r : Sym) (others : List Sym) → all_inner b w ≡ true → held b (r ∷ others) ≡ true → held b (w ++ r ∷ others) ≡ true
held_front b [] r others a h = h
held_front b (s ∷ []) r others a h = rw (both (inner b s) true a).0 h
held_front b (s ∷ q ∷ w) r others a h = let p = both (inner b s) (all_inner b (q ∷ w)) a in rw p.0 (held_front b (q ∷ w) r others p.1 h)

inner_front : (b : Bottom) (w : List Sym) (s : Sym) → all_inner b w ≡ true → inner b s ≡ true → all_inner b (w ++ s ∷ []) ≡ true
inner_front b [] s a h = rw h refl
inner_front b (q ∷ w) s a h = let p = both (inner b q) (all_inner b w) a in rw p.0 (inner_front b w s p.1 h)

-- ---- what a token makes of one symbol

abbrev fits : (List Sym → Bool) → Wanted → Bool
fits p None = true
fits p (Some w) = p w

kept : (p : List Sym → Bool) (c : Bool) (x y : Wanted) → fits p x ≡ true → fits p y ≡ true → fits p (cond c x y) ≡ true
kept p true x y e f = e
kept p false x y e f = f

followed_inner : (b : Bottom) (w : Wanted) (s : Sym) → inner b s ≡ true → fits (all_inner b) w ≡ true → fits (all_inner b) (followed w s) ≡ true
followed_inner b None s i h = refl
followed_inner b (Some w) s i h = inner_front b w s h i

followed_held : (b : Bottom) (w : Wanted) (s : Sym) → closing b s ≡ true → fits (all_inner b) w ≡ true → fits (held_or_over b) (followed w s) ≡ true
followed_held b None s i h = refl
followed_held b (Some w) s i h = let e : held b (w ++ s ∷ []) ≡ true = held_front b w s [] h i in rw e refl

abbrev R : List Sym → Bool
R = all_inner InRule

abbrev T : List Sym → Bool
T = all_inner (InType true)

element_keeps : (t : Lexeme) → fits R (element_begin t) ≡ true
element_keeps t = kept R (is sign.OpenBrace t) _ _ refl (kept R (is sign.OpenParenthesis t) _ _ refl (kept R (sees_text (t ∷ [])) _ _ refl (kept R (sees_name (t ∷ [])) _ _ refl (kept R (sees_word (t ∷ [])) _ _ refl refl))))

card_keeps : (t : Lexeme) → fits R (card t) ≡ true
card_keeps t = kept R (is sign.Question t || is sign.Star t || is sign.Plus t) (Some []) None refl refl

-- in a terminal anything may stand there
any_inner : (w : List Sym) → all_inner InTerminal w ≡ true
any_inner [] = refl
any_inner (s ∷ w) = any_inner w

any_fits : (w : Wanted) → fits (all_inner InTerminal) w ≡ true
any_fits None = refl
any_fits (Some w) = any_inner w

inner_keeps : (b : Bottom) (s : Sym) (t : Lexeme) → inner b s ≡ true → fits (all_inner b) (begin s t) ≡ true
inner_keeps InTerminal s t e = any_fits (begin s t)
inner_keeps InRule (Want x) t e = kept R (is x t) _ _ refl refl
inner_keeps InRule (WantWord r) t e = kept R (is_reserved r t) _ _ refl refl
inner_keeps InRule WantName t e = kept R (sees_name (t ∷ [])) _ _ refl refl
inner_keeps InRule WantFeature t e = kept R (sees_word (t ∷ [])) _ _ refl refl
inner_keeps InRule Value t e =
    kept R (is sign.OpenParenthesis t) _ _ refl (kept R (is sign.OpenBracket t) _ _ refl (kept R (sees_text (t ∷ [])) _ _ refl (kept R (sees_name (t ∷ [])) _ _ refl refl)))
inner_keeps InRule ValuesClose t e = kept R (is sign.Bar t) _ _ refl (kept R (is sign.CloseParenthesis t) _ _ refl refl)
inner_keeps InRule CrossEnd t e = kept R (is sign.Colon t) _ _ refl (kept R (is sign.Bar t) _ _ refl (kept R (is sign.CloseBracket t) _ _ refl refl))
inner_keeps InRule Element t e = element_keeps t
inner_keeps InRule RowsClose t e =
    kept R (begins_element (t ∷ [])) _ _ (followed_inner InRule (element_begin t) RowsClose refl (element_keeps t)) (kept R (is sign.Bar t) _ _ refl (kept R (is sign.CloseParenthesis t) _ _ refl refl))
inner_keeps InRule Card t e = card_keeps t
inner_keeps InRule AfterWord t e = kept R (is_some (next_operator (t ∷ []))) _ _ refl (card_keeps t)
inner_keeps InRule Operator t e = kept R (is_some (next_operator (t ∷ []))) _ _ refl refl
inner_keeps InRule ActionType t e = kept R (is_reserved word.Infer t) _ _ refl (kept R (sees_name (t ∷ [])) _ _ refl refl)
inner_keeps InRule PutEnd t e = kept R (is sign.Dot t) _ _ refl (kept R (is sign.CloseBrace t) _ _ refl refl)
inner_keeps InRule PutOperator t e = kept R (is sign.PlusEquals t) _ _ refl (kept R (is sign.Equals t) _ _ refl refl)
inner_keeps (InType true) (Want sign.Colon) t e = kept T (is sign.Colon t) _ _ refl refl
inner_keeps (InType true) (Want sign.CloseBracket) t e = kept T (is sign.CloseBracket t) _ _ refl refl
inner_keeps (InType true) WantName t e = kept T (sees_name (t ∷ [])) _ _ refl refl
inner_keeps (InType true) (May sign.Question) t e = kept T (is sign.Question t) _ _ refl refl
inner_keeps (InType true) Single t e =
    kept T (is sign.OpenParenthesis t) _ _ refl (kept T (is sign.At t) _ _ refl (kept T (sees_primitive (t ∷ [])) _ _ refl (kept T (sees_text (t ∷ [])) _ _ refl (kept T (sees_name (t ∷ [])) _ _ refl refl))))
inner_keeps (InType true) TypeEnd t e = kept T (is sign.OpenBracket t) _ _ refl (kept T (is sign.Bar t) _ _ refl (kept T (is sign.Semicolon t) _ _ refl refl))
inner_keeps (InType true) AttributeMembers t e = kept T (is sign.Bar t) _ _ refl (kept T (is sign.Semicolon t) _ _ refl refl)
inner_keeps (InType true) AttributeEnd t e = kept T (is sign.Semicolon t) _ _ refl refl
inner_keeps (InType true) MembersClose t e = kept T (is sign.Bar t) _ _ refl (kept T (is sign.CloseParenthesis t) _ _ refl refl)
inner_keeps _ _ t e = absurd (not_true e)

abbrev I : List Sym → Bool
I = held_or_over (InType true)

opens_keeps : (t : Lexeme) → fits I (cond (is sign.OpenBrace t) (Some (Attributes ∷ [])) None) ≡ true
opens_keeps t = kept I (is sign.OpenBrace t) _ _ refl refl

closing_keeps : (b : Bottom) (s : Sym) (t : Lexeme) → closing b s ≡ true → fits (held_or_over b) (begin s t) ≡ true
closing_keeps InRule RowsEnd t e =
    kept (held_or_over InRule) (begins_element (t ∷ [])) _ _ (followed_held InRule (element_begin t) RowsEnd refl (element_keeps t))
    (kept (held_or_over InRule) (is sign.Bar t) _ _ refl (kept (held_or_over InRule) (is sign.Semicolon t) _ _ refl refl))
closing_keeps InTerminal TermsEnd t e =
    kept (held_or_over InTerminal) (begins_term (t ∷ [])) _ _ (followed_held InTerminal (term_begin t) TermsEnd refl (any_fits (term_begin t)))
    (kept (held_or_over InTerminal) (is sign.Bar t) _ _ refl (kept (held_or_over InTerminal) (is sign.Semicolon t) _ _ refl refl))
closing_keeps (InType true) Above t e = kept I (is_reserved word.Extends t) _ _ refl (opens_keeps t)
closing_keeps (InType true) NamesOpen t e = kept I (is sign.Comma t) _ _ refl (opens_keeps t)
closing_keeps (InType true) Attributes t e = kept I (sees_word (t ∷ [])) _ _ refl (kept I (is sign.CloseBrace t) _ _ refl refl)
closing_keeps _ _ t e = absurd (not_true e)

-- ---- what a token makes of a stack

abbrev Kept : Bottom → Stack → Type 0
Kept b m = (m.bottom ≡ b) × (held_or_over b m.wants ≡ true)

pub keeps : (b : Bottom) (wants : List Sym) (t : Lexeme) (m : Stack) → held b wants ≡ true → after b wants t ≡ Some m → (m.bottom ≡ b) × (held_or_over b m.wants ≡ true)
keeps b [] t m h e = absurd (cc h)
keeps b (s ∷ []) t m h e = from (begin s t) (closing_keeps b s t h) e
  where
    from : (o : Wanted) → fits (held_or_over b) o ≡ true → pushed o b [] (cond (nullable s) (after b [] t) None) ≡ Some m → (m.bottom ≡ b) × (held_or_over b m.wants ≡ true)
    from (Some w) f e = subst (Kept b) (same_stack (record { bottom = b; wants = w ++ [] }) m e) (refl, ap (held_or_over b) (append-nil w) ∙ f)
    from None f e = absurd (cc (rw (closing_solid b s h) at e))
keeps b (s ∷ r ∷ others) t m h e = from (begin s t) (inner_keeps b s t p.0) e (λ e. keeps b (r ∷ others) t m p.1 e)
  where
    p : (inner b s ≡ true) × (held b (r ∷ others) ≡ true)
    p = both (inner b s) (held b (r ∷ others)) h

    skipped : (c : Bool) → cond c (after b (r ∷ others) t) None ≡ Some m → after b (r ∷ others) t ≡ Some m
    skipped true e = e
    skipped false e = absurd (cc e)

    from : (o : Wanted) → fits (all_inner b) o ≡ true → pushed o b (r ∷ others) (cond (nullable s) (after b (r ∷ others) t) None) ≡ Some m →
        (after b (r ∷ others) t ≡ Some m → (m.bottom ≡ b) × (held_or_over b m.wants ≡ true)) → (m.bottom ≡ b) × (held_or_over b m.wants ≡ true)
    from (Some w) f e again =
        let h : held b (w ++ r ∷ others) ≡ true = held_front b w r others f p.1 in
        subst (Kept b) (same_stack (record { bottom = b; wants = w ++ r ∷ others }) m e) (refl, rw h refl)
    from None f e again = again (skipped (nullable s) e)

-- where something is wanted still the item goes on
pub stays : (b : Bottom) (wants : List Sym) (t : Lexeme) (m : Stack) → all_nullable wants ≡ false → after b wants t ≡ Some m → m.bottom ≡ b
stays b [] t m n e = absurd (cc n)
stays b (s ∷ others) t m n e = from (begin s t) (nullable s) refl e (λ n e. stays b others t m n e)
  where
    from : (o : Wanted) (c : Bool) → nullable s ≡ c → pushed o b others (cond c (after b others t) None) ≡ Some m →
        (all_nullable others ≡ false → after b others t ≡ Some m → m.bottom ≡ b) → m.bottom ≡ b
    from (Some w) c q e again = ap (λ (k : Stack). k.bottom) (sym (same_stack (record { bottom = b; wants = w ++ others }) m e))
    from None true q e again = again (rw q at n) e
    from None false q e again = absurd (cc e)
