-- The segments of a path: how it is cut, which of them a walk keeps, and how these are joined.
use Rattle.std.proofs.Common.{◌≡◌, ◌≢◌, ℕ, ◌+◌, ◌-◌, ◌<◌, Bool, true, false, cond, Some, length, get_or, take, arith, List, [], ◌∷◌, ◌++◌, map, reverse, append-nil, refl, sym, ap, ap₂, ◌∙◌, codes, eqb, bytes_eq, Bor}
use Rattle.std.proofs.lemmas.Bool.{false_from_ne_true}
use Rattle.std.proofs.lemmas.List.{reverse-append, map_push, take_all, take_more}
use Rattle.std.proofs.lemmas.Option.{get_or_from_slice_get, slice_get_within}
use Rattle.std.proofs.lemmas.Slice.Eq.{bytes_eq-Decides}
use Rattle.std.specs.List.{slice_split, onto_first, join_by, flat_map, fold, slice_get}
use Rattle.lw_load.specs.Paths.{with_first, segments, slashed, is_absolute, back, walk_on, walk, walked}
use Rattle.lw_load.proofs.PathEnds.{is_absolute-first}

-- ---- cut
with_first-onto_first : (c : ℕ) (ss : List (List ℕ)) → with_first c ss ≡ onto_first c ss
with_first-onto_first c [] = refl
with_first-onto_first c (s ∷ ss) = refl

-- the segments are those that `split` gives
pub segments-split : (path : List ℕ) → segments path ≡ slice_split (λ b. eqb b 47) path
segments-split [] = refl
segments-split (c ∷ cs) = rw (segments-split cs, with_first-onto_first c (slice_split (λ b. eqb b 47) cs))

-- ---- walked
-- a walk is a fold over the segments
pub walk-fold : (absolute : Bool) (kept ss : List (List ℕ)) → walk absolute kept ss ≡ reverse (fold (walk_on absolute) kept ss)
walk-fold absolute kept [] = refl
walk-fold absolute kept (s ∷ ss) = walk-fold absolute (walk_on absolute kept s) ss

-- the texts of borrowed segments, the last one first
abbrev pub kept_texts : List (Bor (List ℕ)) → List (List ℕ)
kept_texts ss = reverse (map (λ s. s.now) ss)

kept_texts_push : (ss : List (Bor (List ℕ))) (s : Bor (List ℕ)) → kept_texts (ss ++ s ∷ []) ≡ s.now ∷ kept_texts ss
kept_texts_push ss s = ap reverse (map_push (λ t. t.now) ss s) ∙ reverse-append (map (λ t. t.now) ss) (s.now ∷ [])

bytes_apart : (s t : List ℕ) → s ≢ t → bytes_eq s t ≡ false
bytes_apart s t apart = false_from_ne_true _ (λ same. apart ((bytes_eq-Decides s t).0 same))

-- a segment that is neither empty nor of dots is kept
pub walk_on_push : (absolute : Bool) (ss : List (Bor (List ℕ))) (s : Bor (List ℕ)) → s.now ≢ [] → s.now ≢ codes "." → s.now ≢ codes ".." → kept_texts (ss ++ s ∷ []) ≡ walk_on absolute (kept_texts ss) s.now
walk_on_push absolute ss s full one two =
    rw (bytes_apart s.now [] full, bytes_apart s.now (codes ".") one, bytes_apart s.now (codes "..") two) (kept_texts_push ss s)

back_past : (absolute : Bool) (kept : List (List ℕ)) (s : List ℕ) → bytes_eq s (codes "..") ≡ false → kept ≡ back absolute (s ∷ kept)
back_past true kept s e = rw e
back_past false kept s e = rw e

-- a last segment that is no `..` goes out
pub back_pop : (absolute : Bool) (ss xs rest : List (Bor (List ℕ))) (n : ℕ) (last : Bor (List ℕ)) → xs ≡ ss → length xs ≡ n → Some last ≡ slice_get xs (length xs - 1) → last.now ≢ codes ".." → rest ≡ take (n - 1) ss → kept_texts rest ≡ back absolute (kept_texts ss)
back_pop absolute ss xs rest n last same long is apart left =
    let at : slice_get ss (n - 1) ≡ Some last = sym (is ∙ ap₂ slice_get same (ap (λ k. k - 1) long)) in
    let inside : n - 1 < length ss = slice_get_within ss (n - 1) last at in
    let whole : take (n - 1 + 1) ss ≡ ss = take_all (n - 1 + 1) ss (omega (arith, ap length same)) in
    let ends : ss ≡ rest ++ last ∷ [] = sym whole ∙ take_more ss (n - 1) last inside ∙ ap₂ (λ front x. front ++ x ∷ []) (sym left) (get_or_from_slice_get ss (n - 1) last last at) in
    back_past absolute (kept_texts rest) last.now (bytes_apart last.now (codes "..") apart) ∙ ap (back absolute) (sym (ap kept_texts ends ∙ kept_texts_push rest last))

-- ---- joined
slashed-cons : (s : Bor (List ℕ)) (ss : List (Bor (List ℕ))) → slashed (map (λ t. t.now) (s ∷ ss)) ≡ s.now ++ flat_map (λ t. codes "/" ++ t.now) ss
slashed-cons s [] = sym (append-nil s.now)
slashed-cons s (t ∷ ss) = ap (λ rest. s.now ++ 47 ∷ rest) (slashed-cons t ss)

-- with slashes between them they are what `join` gives
pub slashed-join : (ss : List (Bor (List ℕ))) → slashed (map (λ t. t.now) ss) ≡ join_by (λ t. t.now) (codes "/") ss
slashed-join [] = refl
slashed-join (s ∷ ss) = slashed-cons s ss

-- ---- the walked path
walked_is : (path : List ℕ) (absolute : Bool) (ss : List (Bor (List ℕ))) → absolute ≡ eqb (get_or path 0 0) 47 → map (λ s. s.now) ss ≡ walk absolute [] (segments path) → cond absolute (codes "/") [] ++ join_by (λ s. s.now) (codes "/") ss ≡ walked path
walked_is path absolute ss first kept =
    let same : is_absolute path ≡ absolute = is_absolute-first path ∙ sym first in
    rw same (ap (λ t. cond absolute (codes "/") [] ++ t) (sym (slashed-join ss) ∙ ap slashed kept))

-- where the path begins with a slash
pub walked_absolute : (path : List ℕ) (absolute : Bool) (ss : List (Bor (List ℕ))) → absolute ≡ true → absolute ≡ eqb (get_or path 0 0) 47 → map (λ s. s.now) ss ≡ walk absolute [] (segments path) → 47 ∷ join_by (λ s. s.now) (codes "/") ss ≡ walked path
walked_absolute path absolute ss is first kept = ap (λ a. cond a (codes "/") [] ++ join_by (λ s. s.now) (codes "/") ss) (sym is) ∙ walked_is path absolute ss first kept

-- where it does not
pub walked_relative : (path : List ℕ) (absolute : Bool) (ss : List (Bor (List ℕ))) → absolute ≡ false → absolute ≡ eqb (get_or path 0 0) 47 → map (λ s. s.now) ss ≡ walk absolute [] (segments path) → join_by (λ s. s.now) (codes "/") ss ≡ walked path
walked_relative path absolute ss is first kept = ap (λ a. cond a (codes "/") [] ++ join_by (λ s. s.now) (codes "/") ss) (sym is) ∙ walked_is path absolute ss first kept
