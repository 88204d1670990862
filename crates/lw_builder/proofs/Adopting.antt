-- The nodes inside a node, as it is finished: each is given its container and its property.
use Rattle.std.proofs.Common.{ℕ, ◌≡◌, ◌+◌, ◌-◌, ◌<◌, Some, None, List, [], ◌∷◌, ◌++◌, length, get_or, refl, sym, subst, ap, ◌∙◌, arith, append_assoc, length-append}
use Rattle.std.proofs.Math.ListN.{set}
use Rattle.std.proofs.Math.Seq.{get_or-append_seam, set-append_seam}
use Rattle.std.proofs.lemmas.List.{get_or_default}
use Rattle.lw_base.specs.declared.numbers.NodeId.{NodeId}
use Rattle.lw_base.specs.declared.numbers.PropId.{PropId}
use Rattle.lw_tree.specs.declared.node.Value.{Value}
use Rattle.lw_builder.specs.declared.preorder.finished.Finished.{Finished}
use Rattle.lw_reading.specs.Grown.{Plain, Text, Number, Huge, Raw, Truth, as_value, Grown, Grow, Held, Nothing, Puts, Takes, Points, size, size_of}
use Rattle.lw_builder.specs.Finishing.{finished, finished_in, taken, blank_finished, adopted, adopts, adopts_all}
use Rattle.lw_builder.specs.Tables.{put_in}
use Rattle.lw_builder.proofs.Lengths.{as_many_finished_in}

adopted_seam : (own : NodeId) (p : PropId) (xs ys : List Finished) (x : Finished) (k : ℕ) → k ≡ length xs →
    adopted own p k (xs ++ x ∷ ys) ≡ xs ++ taken own p x ∷ ys
unfolding adopted
adopted_seam own p xs ys x k e =
    let P : ℕ → Type 0 = λ j. set (xs ++ x ∷ ys) j (taken own p (get_or (xs ++ x ∷ ys) j blank_finished)) ≡ xs ++ taken own p x ∷ ys in
    subst P (sym e) (rw (get_or-append_seam xs x ys blank_finished) (set-append_seam xs x ys (taken own p x)))

pub adopts-more : (own : NodeId) (vs : List (PropId × Value)) (p : PropId) (v : Value) (xs : List Finished) →
    adopts_all own (vs ++ (p, v) ∷ []) xs ≡ adopts own p v (adopts_all own vs xs)
adopts-more own [] p v xs = refl
adopts-more own (w ∷ vs) p v xs = adopts-more own vs p v (adopts own w.0 w.1 xs)

-- a node alone
adopts_grown : (own : NodeId) (p : ℕ) (A B : List Finished) (b : ℕ) (x : Grown) → length A ≡ b →
    adopted own (record { 0 = p }) (b + size x - 1) (A ++ (finished None None b x ++ B)) ≡ A ++ (finished (Some own) (Some (record { 0 = p })) b x ++ B)
adopts_grown own p A B b (Grow t s held) long =
    let inside : List Finished = finished_in (Some (record { 0 = b + size_of held })) b held in
    let before : Finished = record { node = record { type_id = record { 0 = t }; container = None; prop = None; span = s }; start = b } in
    let after : Finished = taken own (record { 0 = p }) before in
    let e : b + (size_of held + 1) - 1 ≡ length (A ++ inside) =
    omega (arith, length-append A inside, as_many_finished_in (Some (record { 0 = b + size_of held })) b held, long) in
    let left : A ++ ((inside ++ before ∷ []) ++ B) ≡ (A ++ inside) ++ before ∷ B = simp append_assoc in
    let right : A ++ ((inside ++ after ∷ []) ++ B) ≡ (A ++ inside) ++ after ∷ B = simp append_assoc in
    ap (λ l. adopted own (record { 0 = p }) (b + (size_of held + 1) - 1) l) left
    ∙ adopted_seam own (record { 0 = p }) (A ++ inside) B before (b + (size_of held + 1) - 1) e
    ∙ sym right

adopts_plain : (own : NodeId) (p : PropId) (v : Plain) (xs : List Finished) → adopts own p (as_value v) xs ≡ xs
adopts_plain own p (Text text s) xs = refl
adopts_plain own p (Number n s) xs = refl
adopts_plain own p (Huge s) xs = refl
adopts_plain own p (Raw text s) xs = refl
adopts_plain own p (Truth s) xs = refl

pub adopts_held : (own : NodeId) (A B : List Finished) (b r : ℕ) (held : Held) → length A ≡ b →
    adopts_all own (put_in b r held) (A ++ (finished_in None b held ++ B)) ≡ A ++ (finished_in (Some own) b held ++ B)
adopts_held own A B b r Nothing long = refl
adopts_held own A B b r (Puts held p v) long = adopts-more own (put_in b r held) _ _ _ ∙ adopts_plain own (record { 0 = p }) v _ ∙ adopts_held own A B b r held long
adopts_held own A B b r (Points held p want name s) long = adopts-more own (put_in b r held) _ _ _ ∙ adopts_held own A B b r held long
adopts_held own A B b r (Takes held p x) long =
    let m : ℕ = b + size_of held in
    let before : List Finished = finished_in None b held in
    let after : List Finished = finished_in (Some own) b held in
    let these : List Finished = finished None None m x in
    let those : List Finished = finished (Some own) (Some (record { 0 = p })) m x in
    let left : A ++ ((before ++ these) ++ B) ≡ A ++ (before ++ (these ++ B)) = simp append_assoc in
    let mid : A ++ (after ++ (these ++ B)) ≡ (A ++ after) ++ (these ++ B) = simp append_assoc in
    let right : (A ++ after) ++ (those ++ B) ≡ A ++ ((after ++ those) ++ B) = simp append_assoc in
    let long' : length (A ++ after) ≡ m = omega (arith, length-append A after, as_many_finished_in (Some own) b held, long) in
    adopts-more own (put_in b r held) _ _ _
    ∙ ap (λ l. adopted own (record { 0 = p }) (m + size x - 1) (adopts_all own (put_in b r held) l)) left
    ∙ ap (λ l. adopted own (record { 0 = p }) (m + size x - 1) l) (adopts_held own A (these ++ B) b r held long ∙ mid)
    ∙ adopts_grown own p (A ++ after) B m x long'
    ∙ right

-- a write of the container and the property alone
pub adopted_at : (own : NodeId) (p : PropId) (k : ℕ) (xs : List Finished) (x : Finished) → x ≡ get_or xs k x → k < length xs →
    set xs k (taken own p x) ≡ adopted own p k xs
unfolding adopted
adopted_at own p k xs x is lt = ap (λ (y : Finished). set xs k (taken own p y)) (is ∙ get_or_default xs k x blank_finished lt)
