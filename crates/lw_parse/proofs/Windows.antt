-- What a parser sees that looks a few kinds ahead: the front of what one sees that looks three ahead.
use Rattle.std.proofs.Common.{◌≡◌, ℕ, zero, suc, ◌≤◌, List, [], ◌∷◌, Option, take, slice_get, refl, sym, ap, ◌∙◌, arith}
use Rattle.std.proofs.lemmas.List.{take-map}
use Rattle.std.specs.Option.{option_map}
use Rattle.lw_base.specs.declared.numbers.KindId.{KindId}
use Rattle.lw_first.specs.Heads.{seen_in}
use Rattle.lw_look.specs.Looks.{window}

pub three_places : (ks : List ℕ) → window 3 ks ≡ slice_get ks 0 ∷ slice_get ks 1 ∷ slice_get ks 2 ∷ []
three_places [] = refl
three_places (a ∷ []) = refl
three_places (a ∷ b ∷ []) = refl
three_places (a ∷ b ∷ c ∷ ks) = refl

front_of_three : (k : ℕ) (ks : List ℕ) → k ≤ 3 → take k (window 3 ks) ≡ window k ks
front_of_three zero ks few = refl
front_of_three (suc zero) [] few = refl
front_of_three (suc zero) (a ∷ ks) few = refl
front_of_three (suc (suc zero)) [] few = refl
front_of_three (suc (suc zero)) (a ∷ []) few = refl
front_of_three (suc (suc zero)) (a ∷ b ∷ ks) few = refl
front_of_three (suc (suc (suc zero))) [] few = refl
front_of_three (suc (suc (suc zero))) (a ∷ []) few = refl
front_of_three (suc (suc (suc zero))) (a ∷ b ∷ []) few = refl
front_of_three (suc (suc (suc zero))) (a ∷ b ∷ c ∷ ks) few = refl
front_of_three (suc (suc (suc (suc k)))) ks few = absurd (omega (arith, few))

pub seen_front : (k : ℕ) (seen : List (Option KindId)) (ks : List ℕ) → k ≤ 3 → seen_in seen ≡ window 3 ks → seen_in (take k seen) ≡ window k ks
seen_front k seen ks few are = sym (take-map (option_map (λ (kind : KindId). kind.0)) k seen) ∙ ap (take k) are ∙ front_of_three k ks few
