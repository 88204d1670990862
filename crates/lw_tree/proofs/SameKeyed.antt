-- Values in the order of their keys are told by what stands at each key.
use Rattle.std.proofs.Common.{ℕ, suc, Bool, true, false, ◌==◌, ◌&&◌, ◌≡◌, ◌<◌, List, [], ◌∷◌, length, get_or, refl, sym, subst, ap, ◌∙◌, arith}
use Rattle.std.proofs.lemmas.Bool.Decides.{nat_tests}
use Rattle.lw_base.specs.declared.numbers.NodeId.{NodeId}
use Rattle.lw_base.specs.declared.numbers.PropId.{PropId}
use Rattle.lw_tree.specs.declared.node.Value.{Value}
use Rattle.lw_tree.specs.Keyed.{Entries, before, key_of, keys_of, IsUpTo, Rises}
use Rattle.lw_tree.specs.Parts.{values_at}
use Rattle.lw_tree.proofs.Keys.{stretch, less, not_less, less_of, below_of, not_less_of, up_to}

rises_behind : (e : NodeId × PropId × Value) (es : Entries) → Rises (keys_of (e ∷ es)) → Rises (keys_of es)
rises_behind e es rises i j d le lt = rises (suc i) (suc j) d (omega (arith, le)) (omega (arith, lt))

-- what begins behind a key has no values of it
none_behind : (n p : ℕ) (f : NodeId × PropId × Value) (fs : Entries) → Rises (keys_of (f ∷ fs)) → less n p f.0.0 f.1.0 ≡ true →
    values_at n p (f ∷ fs) ≡ []
none_behind n p f fs rises under =
    stretch n p (f ∷ fs) 0 0 (omega arith) (omega arith) (λ i x lt. absurd (omega (arith, lt)))
    (λ i x _ lt. not_over i x lt) (λ i x lt. absurd (omega (arith, lt)))
    (λ i x _ lt. over i x lt)
  where
    over : (i : ℕ) (x : NodeId × PropId × Value) → i < length (f ∷ fs) → before (n, p) (key_of (get_or (f ∷ fs) i x)) ≡ true
    over i x lt =
        let up : IsUpTo (key_of f) (key_of (get_or (f ∷ fs) i x)) = up_to (f ∷ fs) 0 i x rises (omega arith) lt in
        let under' = below_of n p f.0.0 f.1.0 under in
        let other : ℕ × ℕ = key_of (get_or (f ∷ fs) i x) in
        less_of n p other.0 other.1 (omega (arith, up.0, under'.0)) (λ e. omega (arith, e, up.0, up.1, under'.0, under'.1))

    not_over : (i : ℕ) (x : NodeId × PropId × Value) → i < length (f ∷ fs) → before (key_of (get_or (f ∷ fs) i x)) (n, p) ≡ false
    not_over i x lt =
        let other : ℕ × ℕ = key_of (get_or (f ∷ fs) i x) in
        let here = below_of n p other.0 other.1 (over i x lt) in
        not_less_of other.0 other.1 n p here.0 (λ e. omega (arith, e, here.1 (sym e)))

same_pair : {a b c d : ℕ} → a ≡ c → b ≡ d → let pair : ℕ × ℕ = (a, b) in pair ≡ (c, d)
same_pair first second = cc

same_key : (k l : ℕ × ℕ) → less k.0 k.1 l.0 l.1 ≡ false → less l.0 l.1 k.0 k.1 ≡ false → k ≡ l
same_key k l over under =
    let a = not_less k.0 k.1 l.0 l.1 over in
    let b = not_less l.0 l.1 k.0 k.1 under in
    let first : k.0 ≡ l.0 = omega (arith, a.0, b.0) in
    same_pair first (omega (arith, a.1 first, b.1 (sym first)))

-- a value with its key
abbrev entry : ℕ × ℕ → Value → NodeId × PropId × Value
entry k v = (record { 0 = k.0 }, record { 0 = k.1 }, v)

same_entry : (k l : ℕ × ℕ) (v w : Value) → k ≡ l → v ≡ w → entry k v ≡ entry l w
same_entry k l v w keys values = ap (λ x. entry x v) keys ∙ ap (entry l) values

found_first : (e : NodeId × PropId × Value) (es : Entries) → values_at e.0.0 e.1.0 (e ∷ es) ≡ e.2 ∷ values_at e.0.0 e.1.0 es
found_first e es =
    let same : ((e.0.0 == e.0.0) && (e.1.0 == e.1.0)) ≡ true = grind (arith, nat_tests) in
    rw same refl

some_none : {v : Value} {vs : List Value} → v ∷ vs ≡ [] → ⊥
some_none is = cc

same_rest : {v w : Value} {vs ws : List Value} → v ∷ vs ≡ w ∷ ws → (v ≡ w) × (vs ≡ ws)
same_rest is = (cc, cc)

abbrev AreFoundAlike : Entries → Entries → Type 0
AreFoundAlike a b = (n p : ℕ) → values_at n p a ≡ values_at n p b

-- without the first of both, at one key
alike_behind : (e : NodeId × PropId × Value) (es fs : Entries) → AreFoundAlike (e ∷ es) (e ∷ fs) → AreFoundAlike es fs
alike_behind e es fs alike n p = by ((e.0.0 == n) && (e.1.0 == p)) refl
  where
    by : (here : Bool) → ((e.0.0 == n) && (e.1.0 == p)) ≡ here → values_at n p es ≡ values_at n p fs
    by true here =
        let one : values_at n p (e ∷ es) ≡ e.2 ∷ values_at n p es = rw here refl in
        let other : values_at n p (e ∷ fs) ≡ e.2 ∷ values_at n p fs = rw here refl in
        (same_rest (sym one ∙ alike n p ∙ other)).1
    by false here =
        let one : values_at n p (e ∷ es) ≡ values_at n p es = rw here refl in
        let other : values_at n p (e ∷ fs) ≡ values_at n p fs = rw here refl in
        sym one ∙ alike n p ∙ other

-- of one first key the first value is the same
same_first : (e f : NodeId × PropId × Value) (es fs : Entries) → key_of e ≡ key_of f → AreFoundAlike (e ∷ es) (f ∷ fs) → e ≡ f
same_first e f es fs same alike =
    let other : values_at e.0.0 e.1.0 (f ∷ fs) ≡ f.2 ∷ values_at f.0.0 f.1.0 fs =
    ap (λ (k : ℕ × ℕ). values_at k.0 k.1 (f ∷ fs)) same ∙ found_first f fs in
    same_entry (key_of e) (key_of f) e.2 f.2 same (same_rest (sym (found_first e es) ∙ alike e.0.0 e.1.0 ∙ other)).0

-- with one first key they are the same where what stands behind it is
same_from_first : (e f : NodeId × PropId × Value) (es fs : Entries) → key_of e ≡ key_of f → AreFoundAlike (e ∷ es) (f ∷ fs) →
    (AreFoundAlike es fs → es ≡ fs) → e ∷ es ≡ f ∷ fs
same_from_first e f es fs same alike behind =
    let first : e ≡ f = same_first e f es fs same alike in
    let there : AreFoundAlike (e ∷ es) (e ∷ fs) = subst (λ x. AreFoundAlike (e ∷ es) (x ∷ fs)) (sym first) alike in
    ap (λ x. x ∷ es) first ∙ ap (λ l. f ∷ l) (behind (alike_behind e es fs there))

-- whose first key is before that of the others has values that they have not
first_apart : (e f : NodeId × PropId × Value) (es fs : Entries) → Rises (keys_of (f ∷ fs)) → less e.0.0 e.1.0 f.0.0 f.1.0 ≡ true →
    AreFoundAlike (e ∷ es) (f ∷ fs) → ⊥
first_apart e f es fs rises under alike =
    some_none (sym (found_first e es) ∙ alike e.0.0 e.1.0 ∙ none_behind e.0.0 e.1.0 f fs rises under)

-- values whose keys rise are told by what stands at each key
same_entries : (es fs : Entries) → Rises (keys_of es) → Rises (keys_of fs) → AreFoundAlike es fs → es ≡ fs
same_entries [] [] _ _ _ = refl
same_entries (e ∷ es) [] _ _ alike = absurd (some_none (sym (found_first e es) ∙ alike e.0.0 e.1.0))
same_entries [] (f ∷ fs) _ _ alike = absurd (some_none (sym (found_first f fs) ∙ sym (alike f.0.0 f.1.0)))
same_entries (e ∷ es) (f ∷ fs) up up' alike =
    by (λ behind. same_entries es fs (rises_behind e es up) (rises_behind f fs up') behind)
    (less e.0.0 e.1.0 f.0.0 f.1.0) refl (less f.0.0 f.1.0 e.0.0 e.1.0) refl
  where
    by : (AreFoundAlike es fs → es ≡ fs) → (under : Bool) → less e.0.0 e.1.0 f.0.0 f.1.0 ≡ under →
        (over : Bool) → less f.0.0 f.1.0 e.0.0 e.1.0 ≡ over → e ∷ es ≡ f ∷ fs
    by _ true under _ _ = absurd (first_apart e f es fs up' under alike)
    by _ false _ true over = absurd (first_apart f e fs es up over (λ n p. sym (alike n p)))
    by behind false under false over = same_from_first e f es fs (same_key (key_of e) (key_of f) under over) alike behind

-- of two tables, each of which is such values
pub same_where_alike : {es fs one other : Entries} → es ≡ one → fs ≡ other → Rises (keys_of es) → Rises (keys_of fs) →
    ((n p : ℕ) → values_at n p one ≡ values_at n p other) → es ≡ fs
same_where_alike {es} {fs} shows_one shows_other rises rises' alike =
    same_entries es fs rises rises'
    (λ n p. ap (λ l. values_at n p l) shows_one ∙ alike n p ∙ sym (ap (λ l. values_at n p l) shows_other))
