-- Values given to a node as it is finished.
use Rattle.std.proofs.Common.{ℕ, ◌≡◌, List, [], ◌∷◌, ◌++◌, length, get_or, refl, sym, subst, ap, ◌∙◌, append_assoc}
use Rattle.std.proofs.Math.ListN.{length-set}
use Rattle.lw_base.specs.declared.numbers.NodeId.{NodeId}
use Rattle.lw_base.specs.declared.numbers.PropId.{PropId}
use Rattle.lw_tree.specs.declared.node.Reference.{Reference}
use Rattle.lw_tree.specs.declared.node.Value.{Value}
use Rattle.lw_tree.specs.declared.node.Value.TheVariants.{Text, Number, Huge, Raw, Truth, Child, Refers}
use Rattle.lw_builder.specs.declared.preorder.finished.Finished.{Finished}
use Rattle.lw_builder.specs.Finishing.{adopted, adopts, adopts_all, taken, blank_finished, IsPlaceWithin, AreWithin}
use Rattle.lw_builder.specs.Tables.{owned}
use Rattle.lw_builder.specs.Owners.{with_owner, pointless, claimed, claims, claims_all, IsClaimable, AreClaimable}

within_at : (n : ℕ) (vs : List (PropId × Value)) (p : PropId) (v : Value) (rest : List (PropId × Value)) → AreWithin n (vs ++ (p, v) ∷ rest) → IsPlaceWithin n v
within_at n [] p v rest h = h.0
within_at n (w ∷ vs) p v rest h = within_at n vs p v rest h.1

claimable_at : (n : ℕ) (vs : List (PropId × Value)) (p : PropId) (v : Value) (rest : List (PropId × Value)) → AreClaimable n (vs ++ (p, v) ∷ rest) → IsClaimable n v
claimable_at n [] p v rest h = h.0
claimable_at n (w ∷ vs) p v rest h = claimable_at n vs p v rest h.1

length-adopted : (own : NodeId) (p : PropId) (k : ℕ) (xs : List Finished) → length (adopted own p k xs) ≡ length xs
unfolding adopted
length-adopted own p k xs = length-set xs k (taken own p (get_or xs k blank_finished))

length-adopts : (own : NodeId) (p : PropId) (v : Value) (xs : List Finished) → length (adopts own p v xs) ≡ length xs
length-adopts own p (Child place) xs = length-adopted own p place.0 xs
length-adopts own p (Text t s) xs = refl
length-adopts own p (Number n s) xs = refl
length-adopts own p (Huge s) xs = refl
length-adopts own p (Raw t s) xs = refl
length-adopts own p (Truth s) xs = refl
length-adopts own p (Refers r) xs = refl

length-adopts_all : (own : NodeId) (vs : List (PropId × Value)) (xs : List Finished) → length (adopts_all own vs xs) ≡ length xs
length-adopts_all own [] xs = refl
length-adopts_all own (v ∷ vs) xs = length-adopts_all own vs (adopts own v.0 v.1 xs) ∙ length-adopts own v.0 v.1 xs

length-claimed : (own : NodeId) (k : ℕ) (refs : List Reference) → length (claimed own k refs) ≡ length refs
unfolding claimed
length-claimed own k refs = length-set refs k (with_owner own (get_or refs k pointless))

length-claims : (own : NodeId) (v : Value) (refs : List Reference) → length (claims own v refs) ≡ length refs
length-claims own (Child place) refs = refl
length-claims own (Text t s) refs = refl
length-claims own (Number n s) refs = refl
length-claims own (Huge s) refs = refl
length-claims own (Raw t s) refs = refl
length-claims own (Truth s) refs = refl
length-claims own (Refers r) refs = length-claimed own r.0 refs

length-claims_all : (own : NodeId) (vs : List (PropId × Value)) (refs : List Reference) → length (claims_all own vs refs) ≡ length refs
length-claims_all own [] refs = refl
length-claims_all own (v ∷ vs) refs = length-claims_all own vs (claims own v.1 refs) ∙ length-claims own v.1 refs

-- the next value names a node, or a reference, that is there
pub next_within : (own : NodeId) (given now all rest : List (PropId × Value)) (p : PropId) (v : Value) (xs fs : List Finished) →
    given ++ now ≡ all → now ≡ (p, v) ∷ rest → AreWithin (length xs) all → fs ≡ adopts_all own given xs → IsPlaceWithin (length fs) v
next_within own given now all rest p v xs fs left step within so_far =
    let P : List (PropId × Value) → Type 0 = λ l. AreWithin (length xs) l in
    let here : AreWithin (length xs) (given ++ (p, v) ∷ rest) = subst P (sym left ∙ ap (λ l. given ++ l) step) within in
    let Q : ℕ → Type 0 = λ n. IsPlaceWithin n v in
    subst Q (sym (ap length so_far ∙ length-adopts_all own given xs)) (within_at (length xs) given p v rest here)

pub next_claimable : (own : NodeId) (given now all rest : List (PropId × Value)) (p : PropId) (v : Value) (refs now_refs : List Reference) →
    given ++ now ≡ all → now ≡ (p, v) ∷ rest → AreClaimable (length refs) all → now_refs ≡ claims_all own given refs → IsClaimable (length now_refs) v
next_claimable own given now all rest p v refs now_refs left step claimable so_far =
    let P : List (PropId × Value) → Type 0 = λ l. AreClaimable (length refs) l in
    let here : AreClaimable (length refs) (given ++ (p, v) ∷ rest) = subst P (sym left ∙ ap (λ l. given ++ l) step) claimable in
    let Q : ℕ → Type 0 = λ n. IsClaimable n v in
    subst Q (sym (ap length so_far ∙ length-claims_all own given refs)) (claimable_at (length refs) given p v rest here)

pub left_more : {X : Type 0} (given now all rest : List X) (x : X) → given ++ now ≡ all → now ≡ x ∷ rest → (given ++ x ∷ []) ++ rest ≡ all
left_more given now all rest x left step = rw append_assoc (ap (λ l. given ++ l) (sym step) ∙ left)

owned_more : (own : NodeId) (given : List (PropId × Value)) (p : PropId) (v : Value) → owned own (given ++ (p, v) ∷ []) ≡ owned own given ++ (own, p, v) ∷ []
owned_more own [] p v = refl
owned_more own (w ∷ given) p v = ap (λ l. (own, w.0, w.1) ∷ l) (owned_more own given p v)

pub kept_more : (own : NodeId) (given : List (PropId × Value)) (p : PropId) (v : Value) (first before after : List (NodeId × PropId × Value)) →
    before ≡ first ++ owned own given → after ≡ before ++ (own, p, v) ∷ [] → after ≡ first ++ owned own (given ++ (p, v) ∷ [])
kept_more own given p v first before after so_far step =
    let e : (first ++ owned own given) ++ (own, p, v) ∷ [] ≡ first ++ (owned own given ++ (own, p, v) ∷ []) = simp append_assoc in
    step ∙ ap (λ l. l ++ (own, p, v) ∷ []) so_far ∙ e ∙ ap (λ l. first ++ l) (sym (owned_more own given p v))
