-- The last pair of a path, where the pairs are seen through a map.
use Rattle.std.proofs.Common.{◌≡◌, ℕ, Bool, true, false, cond, List, [], ◌∷◌, ◌++◌, map, reverse, Option, Some, None, option_map, find, refl, sym, ap, ◌∙◌}
use Rattle.std.proofs.lemmas.List.{map-append}
use Rattle.std.proofs.lemmas.Grind.{reverse_onto}
use Rattle.std.specs.Str.{bytes_eq}
use Rattle.lw_io.specs.Store.{file_at}

reverse-map : {A B : Type 0} (v : A → B) (xs : List A) → reverse (map v xs) ≡ map v (reverse xs)
reverse-map v [] = refl
reverse-map v (x ∷ xs) =
    reverse_onto (map v xs) (v x) [] ∙ ap (λ ys. ys ++ v x ∷ []) (reverse-map v xs) ∙ sym (map-append v (reverse xs) (x ∷ []))
    ∙ ap (map v) (sym (reverse_onto xs x []))

find-map : {A B : Type 0} (v : A → B) (test : B → Bool) (xs : List A) → find test (map v xs) ≡ option_map v (find (λ x. test (v x)) xs)
find-map v test [] = refl
find-map v test (x ∷ xs) = elim (test (v x)) as (λ b. cond b (Some (v x)) (find test (map v xs)) ≡ option_map v (cond b (Some x) (find (λ x. test (v x)) xs))) [
  | true ↦ refl
  | false ↦ find-map v test xs
]

option_map-option_map : {A B C : Type 0} (v : A → B) (w : B → C) (o : Option A) → option_map w (option_map v o) ≡ option_map (λ x. w (v x)) o
option_map-option_map v w None = refl
option_map-option_map v w (Some x) = refl

pub file_at-map : {A : Type 0} (v : A → List ℕ × List ℕ) (files : List A) (path : List ℕ)
    → file_at (map v files) path ≡ option_map (λ file. (v file).1) (find (λ file. bytes_eq (v file).0 path) (reverse files))
file_at-map v files path =
    ap (λ xs. option_map (λ file. file.1) (find (λ file. bytes_eq file.0 path) xs)) (reverse-map v files)
    ∙ ap (option_map (λ file. file.1)) (find-map v (λ file. bytes_eq file.0 path) (reverse files))
    ∙ option_map-option_map v (λ file. file.1) (find (λ file. bytes_eq (v file).0 path) (reverse files))

pub ruleset pairs = (file_at-map)
