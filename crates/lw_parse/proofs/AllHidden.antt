-- Tokens are all hidden where none is visible, and only there.
use Rattle.std.proofs.Common.{◌≡◌, ◌≢◌, IsTrue, Bool, true, false, not, cond, List, [], ◌∷◌, All, ap, refl, ◌∙◌}
use Rattle.std.proofs.lemmas.List.Elements.{All-cons, All-head, All-nil, All-tail}
use Rattle.lw_base.specs.declared.token.Token.{Token}
use Rattle.lw_tokens.specs.Cut.{kinds, visible}

abbrev IsHidden : Token → Type 0
IsHidden t = IsTrue t.hidden

some_not_none : {X : Type 0} (x : X) (xs : List X) → x ∷ xs ≡ [] → ⊥
some_not_none x xs e = cc

pub none_visible : (ts : List Token) → All IsHidden ts → visible ts ≡ []
none_visible [] are = refl
none_visible (t ∷ ts) are =
    ap (λ (hidden : Bool). cond (not hidden) (t ∷ visible ts) (visible ts)) (All-head IsHidden t ts are) ∙ none_visible ts (All-tail IsHidden t ts are)

hidden_first : (t : Token) (ts : List Token) (hidden : Bool) → t.hidden ≡ hidden → kinds (cond (not hidden) (t ∷ visible ts) (visible ts)) ≡ [] →
    (kinds (visible ts) ≡ [] → All IsHidden ts) → All IsHidden (t ∷ ts)
hidden_first t ts true same none rest = All-cons IsHidden t ts same (rest none)
hidden_first t ts false same none rest = absurd (some_not_none t.kind.0 (kinds (visible ts)) none)

all_hidden : (ts : List Token) → kinds (visible ts) ≡ [] → All IsHidden ts
all_hidden [] none = All-nil IsHidden
all_hidden (t ∷ ts) none = hidden_first t ts t.hidden refl none (all_hidden ts)

pub some_kinds : (ts : List Token) → ¬ All IsHidden ts → kinds (visible ts) ≢ []
some_kinds ts not none = not (all_hidden ts none)
