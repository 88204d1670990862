-- A stack whose last item is on top, read from the top.
use Rattle.std.proofs.Common.{◌≡◌, List, [], ◌∷◌, ◌++◌, map, reverse, refl, ap, ◌∙◌}
use Rattle.std.proofs.lemmas.List.{map-append, reverse-append, reverse-reverse}
use Rattle.indexmap.proofs.ReorderLemmas.{map-reverse}

map-map : {Y A B : Type 0} (v : Y → A) (f : A → B) (ys : List Y) → map (λ y. f (v y)) ys ≡ map f (map v ys)
map-map v f [] = refl
map-map v f (y ∷ ys) = ap (λ zs. f (v y) ∷ zs) (map-map v f ys)

-- items that are put on it last first come off it first first
pub top_first : {Y A B : Type 0} (v : Y → A) (f : A → B) (ys : List Y) (xs : List A) (olds news : List B) → map v ys ≡ reverse xs →
    news ≡ olds ++ map (λ y. f (v y)) ys → reverse news ≡ map f xs ++ reverse olds
top_first v f ys xs olds news are put =
    ap reverse (put ∙ ap (λ zs. olds ++ zs) (map-map v f ys ∙ ap (map f) are ∙ map-reverse f xs)) ∙ reverse-append olds (reverse (map f xs))
    ∙ ap (λ zs. zs ++ reverse olds) (reverse-reverse (map f xs))

-- the last item is the first from the top
pub on_top : {Y B : Type 0} (v : Y → B) (old new : List Y) (y : Y) → old ≡ new ++ y ∷ [] → reverse (map v old) ≡ v y ∷ reverse (map v new)
on_top v old new y is = ap (λ zs. reverse (map v zs)) is ∙ ap reverse (map-append v new (y ∷ [])) ∙ reverse-append (map v new) (v y ∷ [])
