-- Marks in which each value has read something when it ends: no value ends directly behind its beginning.
use Rattle.std.proofs.Common.{◌≡◌, ℕ, Bool, true, false, List, [], ◌∷◌, ◌++◌, ◌⊎◌, inl, inr, refl, sym, subst, true≢false}
use Rattle.std.proofs.lemmas.List.{append-nil, append_assoc}
use Rattle.lw_grammar.specs.declared.rule.Action.{Action}
use Rattle.lw_grammar.specs.declared.rule.Op.{Op}
use Rattle.lw_grammar.specs.declared.rule.Value0.{Value0}
use Rattle.lw_grammar.specs.Marks.{Mark, Token, Open, Shut, Put, End, Act}

abbrev begins_value : Mark → Bool
begins_value (Put p op c) = true
begins_value _ = false

-- whether the mark may stand where the one before it begins a value, or does not
abbrev MayFollow : Bool → Mark → Type 0
MayFollow begun End = begun ≡ false
MayFollow begun _ = Unit {0}

abbrev pub AreFilled : Bool → List Mark → Type 0
AreFilled begun [] = Unit {0}
AreFilled begun (x ∷ m) = MayFollow begun x × AreFilled (begins_value x) m

pub filled_front : (begun : Bool) (m n : List Mark) → AreFilled begun (m ++ n) → AreFilled begun m
filled_front begun [] n filled = tt
filled_front begun (x ∷ m) n filled = (filled.0, filled_front (begins_value x) m n filled.1)

pub not_at_once : (begun : Bool) (m : List Mark) (p : List ℕ) (op : Op) (c : Value0) →
    AreFilled begun ((m ++ Put p op c ∷ []) ++ End ∷ []) → ⊥
not_at_once begun [] p op c filled = true≢false filled.1.0
not_at_once begun (x ∷ m) p op c filled = not_at_once (begins_value x) m p op c filled.1

-- marks that can stand behind any mark, and before any that stand alone; the same or none
abbrev pub ReadsSome : List Mark → Type 0
ReadsSome m = (rest : List Mark) → AreFilled false rest → (begun : Bool) → AreFilled begun (m ++ rest)

abbrev pub ReadsAny : List Mark → Type 0
ReadsAny m = (m ≡ []) ⊎ ReadsSome m

some_then : (m n : List Mark) → ReadsSome m → ReadsSome n → ReadsSome (m ++ n)
some_then m n some more rest filled begun = subst (AreFilled begun) (sym (append_assoc m n rest)) (some (n ++ rest) (more rest filled false) begun)

any_then : (m n : List Mark) → ReadsAny m → ReadsSome n → ReadsSome (m ++ n)
any_then m n (inl none) more = subst (λ (l : List Mark). ReadsSome (l ++ n)) (sym none) more
any_then m n (inr some) more = some_then m n some more

pub in_turn : (m n : List Mark) → ReadsAny m → ReadsAny n → ReadsAny (m ++ n)
in_turn m n any (inl none) = subst (λ (l : List Mark). ReadsAny (m ++ l)) (sym none) (subst ReadsAny (sym (append-nil m)) any)
in_turn m n any (inr some) = inr (any_then m n any some)

pub token_reads : (k : ℕ) → ReadsSome (Token k ∷ [])
token_reads k rest filled begun = (tt, filled)

pub act_reads : (a : Action) → ReadsSome (Act a ∷ [])
act_reads a rest filled begun = (tt, filled)

shut_reads : ReadsSome (Shut ∷ [])
shut_reads rest filled begun = (tt, filled)

pub node_reads : (r : ℕ) (m : List Mark) → ReadsAny m → ReadsSome (Open r ∷ m ++ Shut ∷ [])
node_reads r m any rest filled begun = (tt, any_then m (Shut ∷ []) any shut_reads rest filled false)

pub value_reads : (p : List ℕ) (op : Op) (c : Value0) (m : List Mark) → ReadsSome m → ReadsSome (Put p op c ∷ m ++ End ∷ [])
value_reads p op c m some rest filled begun =
    (tt, subst (AreFilled true) (sym (append_assoc m (End ∷ []) rest)) (some (End ∷ rest) (refl, filled) true))

pub all_filled : (m : List Mark) → ReadsAny m → AreFilled false m
all_filled m (inl none) = subst (AreFilled false) (sym none) tt
all_filled m (inr some) = subst (AreFilled false) (append-nil m) (some [] tt false)
