-- The references inside a node, as it is finished: each is given its owner.
use Rattle.std.proofs.Common.{ℕ, ◌≡◌, ◌+◌, ◌<◌, List, [], ◌∷◌, ◌++◌, length, get_or, refl, sym, subst, ap, ◌∙◌, arith, append_assoc, length-append}
use Rattle.std.proofs.Math.ListN.{set}
use Rattle.std.proofs.Math.Seq.{get_or-append_seam, set-append_seam}
use Rattle.std.proofs.lemmas.List.{get_or_default}
use Rattle.lw_base.specs.declared.numbers.NodeId.{NodeId}
use Rattle.lw_base.specs.declared.numbers.PropId.{PropId}
use Rattle.lw_tree.specs.declared.node.Reference.{Reference}
use Rattle.lw_tree.specs.declared.node.Value.{Value}
use Rattle.lw_reading.specs.Grown.{Plain, Text, Number, Huge, Raw, Truth, as_value, Held, Nothing, Puts, Takes, Points, size_of}
use Rattle.lw_reading.specs.Trees.{points_of}
use Rattle.lw_builder.specs.Tables.{put_in, pointed, pointed_in}
use Rattle.lw_builder.specs.Contents.{nobody}
use Rattle.lw_builder.specs.Owners.{with_owner, pointless, claimed, claims, claims_all}
use Rattle.lw_builder.proofs.Lengths.{as_many_pointed_in}

claimed_seam : (own : NodeId) (xs ys : List Reference) (r : Reference) (k : ℕ) → k ≡ length xs → claimed own k (xs ++ r ∷ ys) ≡ xs ++ with_owner own r ∷ ys
unfolding claimed
claimed_seam own xs ys r k e =
    let P : ℕ → Type 0 = λ j. set (xs ++ r ∷ ys) j (with_owner own (get_or (xs ++ r ∷ ys) j pointless)) ≡ xs ++ with_owner own r ∷ ys in
    subst P (sym e) (rw (get_or-append_seam xs r ys pointless) (set-append_seam xs r ys (with_owner own r)))

pub claims-more : (own : NodeId) (vs : List (PropId × Value)) (p : PropId) (v : Value) (refs : List Reference) →
    claims_all own (vs ++ (p, v) ∷ []) refs ≡ claims own v (claims_all own vs refs)
claims-more own [] p v refs = refl
claims-more own (w ∷ vs) p v refs = claims-more own vs p v (claims own w.1 refs)

claims_plain : (own : NodeId) (v : Plain) (refs : List Reference) → claims own (as_value v) refs ≡ refs
claims_plain own (Text text s) refs = refl
claims_plain own (Number n s) refs = refl
claims_plain own (Huge s) refs = refl
claims_plain own (Raw text s) refs = refl
claims_plain own (Truth s) refs = refl

pub claims_held : (own : NodeId) (A B : List Reference) (b r : ℕ) (held : Held) → length A ≡ r →
    claims_all own (put_in b r held) (A ++ (pointed_in nobody b held ++ B)) ≡ A ++ (pointed_in own b held ++ B)
claims_held own A B b r Nothing long = refl
claims_held own A B b r (Puts held p v) long = claims-more own (put_in b r held) _ _ _ ∙ claims_plain own v _ ∙ claims_held own A B b r held long
claims_held own A B b r (Points held p want name s) long =
    let before : List Reference = pointed_in nobody b held in
    let after : List Reference = pointed_in own b held in
    let it : Reference = record { owner = nobody; prop = record { 0 = p }; want = record { 0 = want }; name = name; span = s } in
    let its : Reference = record { owner = own; prop = record { 0 = p }; want = record { 0 = want }; name = name; span = s } in
    let left : A ++ ((before ++ it ∷ []) ++ B) ≡ A ++ (before ++ (it ∷ B)) = simp append_assoc in
    let mid : A ++ (after ++ (it ∷ B)) ≡ (A ++ after) ++ it ∷ B = simp append_assoc in
    let right : (A ++ after) ++ its ∷ B ≡ A ++ ((after ++ its ∷ []) ++ B) = simp append_assoc in
    let here : r + points_of held ≡ length (A ++ after) = omega (arith, length-append A after, as_many_pointed_in own b held, long) in
    claims-more own (put_in b r held) _ _ _
    ∙ ap (λ l. claimed own (r + points_of held) (claims_all own (put_in b r held) l)) left
    ∙ ap (λ l. claimed own (r + points_of held) l) (claims_held own A (it ∷ B) b r held long ∙ mid)
    ∙ claimed_seam own (A ++ after) B it (r + points_of held) here
    ∙ right
claims_held own A B b r (Takes held p x) long =
    let before : List Reference = pointed_in nobody b held in
    let after : List Reference = pointed_in own b held in
    let these : List Reference = pointed (b + size_of held) x in
    let left : A ++ ((before ++ these) ++ B) ≡ A ++ (before ++ (these ++ B)) = simp append_assoc in
    let right : A ++ (after ++ (these ++ B)) ≡ A ++ ((after ++ these) ++ B) = simp append_assoc in
    claims-more own (put_in b r held) _ _ _
    ∙ ap (λ l. claims_all own (put_in b r held) l) left
    ∙ claims_held own A (these ++ B) b r held long
    ∙ right

-- a write of the owner alone
pub claimed_at : (own : NodeId) (k : ℕ) (refs : List Reference) (r : Reference) → r ≡ get_or refs k r → k < length refs →
    set refs k (with_owner own r) ≡ claimed own k refs
unfolding claimed
claimed_at own k refs r is lt = ap (λ (y : Reference). set refs k (with_owner own y)) (is ∙ get_or_default refs k r pointless lt)
