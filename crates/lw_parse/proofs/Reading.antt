-- The next token's kind, and the kinds that are unread.
use Rattle.std.proofs.Common.{◌≡◌, ◌≢◌, ℕ, List, [], ◌∷◌, None, Some, drop, map, slice_get, sym, ap, ◌∙◌}
use Rattle.std.proofs.lemmas.Option.{same_Some}
use Rattle.lw_base.specs.declared.numbers.KindId.{KindId}

abbrev numbers_of : List KindId → List ℕ
numbers_of ks = map (λ kind. kind.0) ks

pub no_token : (ks : List KindId) (k : ℕ) (ls : List ℕ) → None ≡ slice_get ks 0 → numbers_of ks ≢ k ∷ ls
no_token [] k ls none = λ same. cc
no_token (j ∷ ks) k ls none = λ same. cc

pub another_token : (ks : List KindId) (next k : KindId) (ls : List ℕ) → Some next ≡ slice_get ks 0 → (next ≡ k → ⊥) → numbers_of ks ≢ k.0 ∷ ls
another_token [] next k ls at differ = λ same. cc
another_token (j ∷ ks) next k ls at differ =
    let there : next ≡ j = same_Some next j at in
    λ same. differ (let number : j.0 ≡ k.0 = cc in there ∙ ap (λ (n : ℕ). let kind : KindId = record { 0 = n } in kind) number)

pub that_token : (ks : List KindId) (next k : KindId) → Some next ≡ slice_get ks 0 → next.0 ≡ k.0 → numbers_of ks ≡ k.0 ∷ drop 1 (numbers_of ks)
that_token [] next k at is = cc
that_token (j ∷ ks) next k at is =
    let there : next ≡ j = same_Some next j at in
    ap (λ (n : ℕ). n ∷ numbers_of ks) (ap (λ (kind : KindId). kind.0) (sym there) ∙ is)
