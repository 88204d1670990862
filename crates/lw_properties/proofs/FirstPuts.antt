-- Where properties are put into first, one put after the other.
use Rattle.std.proofs.Common.{◌≡◌, ℕ, List, [], ◌∷◌, ◌++◌, Bool, true, false, not, cond, ◌&&◌, Option, Some, None, MatchOption, Contains, bytes_eq, ◌↔◌, inl, inr, refl, sym, ap, ◌∙◌, subst, arith}
use Rattle.std.specs.Bool.{beq}
use Rattle.std.specs.Map.{lookup}
use Rattle.std.proofs.lemmas.Bool.{cases_order, true≢false, false≢true, and_parts, and_from}
use Rattle.std.proofs.lemmas.List.Elements.{Contains-append_left, Contains-push, Contains-push_cases}
use Rattle.std.proofs.lemmas.Slice.Eq.{bytes_eq-Decides}
use Rattle.lw_properties.specs.Mixing.{Putting, at_of, IsAheadOf, Key, key_of, other_key, LentKey, plain_key, is_key, IsFirstAt, AreFirstPuts, IsMixedWith}
use Rattle.lw_properties.specs.declared.firsts.At.{At}

-- ---- places
ahead_trans : (a b c : At) → IsAheadOf a b → IsAheadOf b c → IsAheadOf a c
ahead_trans a b c (inl one) (inl two) = inl (omega arith)
ahead_trans a b c (inl one) (inr two) = inl (omega (arith, two.0))
ahead_trans a b c (inr one) (inl two) = inl (omega (arith, one.0))
ahead_trans a b c (inr one) (inr two) = inr (one.0 ∙ two.0, omega (arith, one.1, two.1))

not_ahead_of_itself : (a : At) → ¬ IsAheadOf a a
not_ahead_of_itself a (inl lt) = omega arith
not_ahead_of_itself a (inr same) = omega (arith, same.1)

-- what is not ahead of b and is ahead of c has b ahead of c, too
ahead_too : (a b c : At) → ¬ IsAheadOf a b → IsAheadOf a c → IsAheadOf b c
ahead_too a b c not ahead = elim (cases_order a.file b.file) [
  | inr (inl lt) ↦ absurd (not (inl lt))
  | inr (inr gt) ↦ elim ahead [ inl lt ↦ inl (omega arith) | inr same ↦ inl (omega (arith, same.0)) ]
  | inl same ↦ elim (cases_order a.start b.start) [
    | inr (inl lt) ↦ absurd (not (inr (same, lt)))
    | inr (inr gt) ↦ elim ahead [ inl lt ↦ inl (omega arith) | inr at ↦ inr (sym same ∙ at.0, omega (arith, at.1)) ]
    | inl here ↦ elim ahead [ inl lt ↦ inl (omega arith) | inr at ↦ inr (sym same ∙ at.0, omega (arith, at.1)) ]
  ]
]

-- ---- keys
same_bool : (a b : Bool) → beq a b ≡ true → a ≡ b
same_bool true true e = refl
same_bool true false e = absurd (false≢true e)
same_bool false true e = absurd (false≢true e)
same_bool false false e = refl

bool_same : (a : Bool) → beq a a ≡ true
bool_same true = refl
bool_same false = refl

same_key : (one other : LentKey) → is_key one other ≡ true → plain_key one ≡ plain_key other
same_key one other e =
    let parts = and_parts (bytes_eq one.0.now other.0.now && bytes_eq one.1.now other.1.now) (beq one.2 other.2) e in
    let names = and_parts (bytes_eq one.0.now other.0.now) (bytes_eq one.1.now other.1.now) parts.0 in
    let first : List ℕ → Key = λ n. (n, one.1.now, one.2) in
    let second : List ℕ → Key = λ n. (other.0.now, n, one.2) in
    let third : Bool → Key = λ b. (other.0.now, other.1.now, b) in
    ap first ((bytes_eq-Decides one.0.now other.0.now).0 names.0) ∙ ap second ((bytes_eq-Decides one.1.now other.1.now).0 names.1)
    ∙ ap third (same_bool one.2 other.2 parts.1)

key_same : (one other : LentKey) → plain_key one ≡ plain_key other → is_key one other ≡ true
key_same one other same =
    and_from (bytes_eq one.0.now other.0.now && bytes_eq one.1.now other.1.now) (beq one.2 other.2)
    (and_from (bytes_eq one.0.now other.0.now) (bytes_eq one.1.now other.1.now) ((bytes_eq-Decides one.0.now other.0.now).1 (ap (λ k. k.0) same))
    ((bytes_eq-Decides one.1.now other.1.now).1 (ap (λ k. k.1) same)))
    (subst (λ b. beq one.2 b ≡ true) (ap (λ k. k.2) same) (bool_same one.2))

-- a test of a key goes by its names
abbrev test_of : Key → LentKey → Bool
test_of key other = (bytes_eq key.0 other.0.now && bytes_eq key.1 other.1.now) && beq key.2 other.2

module _ (puts : List Putting) (entries : List (LentKey × At)) (put : Putting) (are : AreFirstPuts puts entries) (key : LentKey) (is : plain_key key ≡ key_of put) where
  -- none of the same key stands ahead of it
  pub Leads : Type 0
  Leads = (other : Putting) → Contains puts other → key_of other ≡ key_of put → ¬ IsAheadOf (at_of other) (at_of put)

  pub leads_alone : None ≡ lookup (is_key key) entries → Leads
  unfolding Leads
  leads_alone none other has same ahead =
      subst (λ o. MatchOption o ((x : Putting) → Contains puts x → ¬ (key_of x ≡ plain_key key)) (IsFirstAt puts (plain_key key))) (sym none) (are key) other has (same ∙ sym is)

  first_known : (known : At) → Some known ≡ lookup (is_key key) entries → IsFirstAt puts (plain_key key) known
  first_known known there =
      subst (λ o. MatchOption o ((x : Putting) → Contains puts x → ¬ (key_of x ≡ plain_key key)) (IsFirstAt puts (plain_key key))) (sym there) (are key)

  pub leads_known : (known : At) → Some known ≡ lookup (is_key key) entries → IsAheadOf (at_of put) known → Leads
  unfolding Leads
  leads_known known there ahead other has same sooner =
      (first_known known there).none_ahead other has (same ∙ sym is) (ahead_trans (at_of other) (at_of put) known sooner ahead)

  -- what is first of another key stays so, and so does what stands no further behind
  stays : (k : Key) (at : At) → IsFirstAt puts k at → (key_of put ≡ k → ¬ IsAheadOf (at_of put) at) → IsFirstAt (puts ++ put ∷ []) k at
  stays k at first not = record {
    put = first.put;
    among = Contains-append_left puts (put ∷ []) first.put first.among;
    has = first.has;
    there = first.there;
    none_ahead = λ x has same ahead. elim (Contains-push_cases puts put x has) [
      | inl was ↦ first.none_ahead x was same ahead
      | inr this ↦ not (ap key_of this ∙ same) (subst (λ y. IsAheadOf (at_of y) at) (sym this) ahead)
    ];
  }

  none_still : (k : Key) → ((x : Putting) → Contains puts x → ¬ (key_of x ≡ k)) → ¬ (key_of put ≡ k) → (x : Putting) → Contains (puts ++ put ∷ []) x → ¬ (key_of x ≡ k)
  none_still k none not x has same = elim (Contains-push_cases puts put x has) [
    | inl was ↦ none x was same
    | inr this ↦ not (ap key_of this ∙ same)
  ]

  -- the first of a key, among the puts and this one
  abbrev Still : LentKey → Option At → Type 0
  Still q o = MatchOption o ((x : Putting) → Contains (puts ++ put ∷ []) x → ¬ (key_of x ≡ plain_key q)) (IsFirstAt (puts ++ put ∷ []) (plain_key q))

  abbrev Was : LentKey → Option At → Type 0
  Was q o = MatchOption o ((x : Putting) → Contains puts x → ¬ (key_of x ≡ plain_key q)) (IsFirstAt puts (plain_key q))

  other_key_of : (q : LentKey) → is_key key q ≡ false → key_of put ≡ plain_key q → ⊥
  other_key_of q e same = true≢false (sym (key_same key q (is ∙ same)) ∙ e)

  other_still : (q : LentKey) (o : Option At) → is_key key q ≡ false → Was q o → Still q o
  other_still q None e none = none_still (plain_key q) none (other_key_of q e)
  other_still q (Some at) e first = stays (plain_key q) at first (λ same ahead. other_key_of q e same)

  -- it is the first of its key
  pub first_put : (then : List (LentKey × At)) → Leads →
      ((q : LentKey) → lookup (is_key q) then ≡ cond (is_key key q) (Some (at_of put)) (lookup (is_key q) entries)) → AreFirstPuts (puts ++ put ∷ []) then
  unfolding Leads
  first_put then leads updates q = subst (Still q) (sym (updates q)) (by (is_key key q) refl)
    where
      by : (b : Bool) → is_key key q ≡ b → Still q (cond b (Some (at_of put)) (lookup (is_key q) entries))
      by true e =
          let same : plain_key key ≡ plain_key q = same_key key q e in
          record {
            put = put;
            among = Contains-push puts put;
            has = sym is ∙ same;
            there = refl;
            none_ahead = λ x has is_so ahead. elim (Contains-push_cases puts put x has) [
              | inl was ↦ leads x was (is_so ∙ sym same ∙ is) ahead
              | inr this ↦ not_ahead_of_itself (at_of put) (subst (λ y. IsAheadOf (at_of y) (at_of put)) (sym this) ahead)
            ];
          }
      by false e = other_still q (lookup (is_key q) entries) e (are q)

  -- another of its key is first
  pub kept_put : (known : At) → Some known ≡ lookup (is_key key) entries → ¬ IsAheadOf (at_of put) known → AreFirstPuts (puts ++ put ∷ []) entries
  kept_put known there behind q = by (is_key key q) refl
    where
      same_look : is_key key q ≡ true → Some known ≡ lookup (is_key q) entries
      same_look e = there ∙ ap (λ k. lookup (test_of k) entries) (same_key key q e)

      by : (b : Bool) → is_key key q ≡ b → Still q (lookup (is_key q) entries)
      by true e =
          subst (Still q) (same_look e)
          (stays (plain_key q) known (subst (Was q) (sym (same_look e)) (are q)) (λ same ahead. behind ahead))
      by false e = other_still q (lookup (is_key q) entries) e (are q)

-- ---- what is mixed
module _ (puts : List Putting) (entries : List (LentKey × At)) (put : Putting) (are : AreFirstPuts puts entries) (key : LentKey) (is : plain_key key ≡ other_key put) where
  pub mixed_none : None ≡ lookup (is_key key) entries → ¬ IsMixedWith puts put
  mixed_none none (other, has, same, ahead) =
      subst (λ o. MatchOption o ((x : Putting) → Contains puts x → ¬ (key_of x ≡ plain_key key)) (IsFirstAt puts (plain_key key))) (sym none) (are key) other has (same ∙ sym is)

  first_of : (at : At) → Some at ≡ lookup (is_key key) entries → IsFirstAt puts (plain_key key) at
  first_of at there =
      subst (λ o. MatchOption o ((x : Putting) → Contains puts x → ¬ (key_of x ≡ plain_key key)) (IsFirstAt puts (plain_key key))) (sym there) (are key)

  pub mixed_some : (at : At) → Some at ≡ lookup (is_key key) entries → IsAheadOf at (at_of put) ↔ IsMixedWith puts put
  mixed_some at there =
      let first = first_of at there in (
        λ ahead. (first.put, first.among, first.has ∙ is, subst (λ x. IsAheadOf x (at_of put)) (sym first.there) ahead),
        λ mixed. ahead_too (at_of mixed.0) at (at_of put) (first.none_ahead mixed.0 mixed.1 (mixed.2 ∙ sym is)) mixed.3,
      )
