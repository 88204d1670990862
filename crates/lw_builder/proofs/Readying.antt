-- A node that is ready becomes one that is finished.
use Rattle.std.proofs.Common.{ℕ, ◌≡◌, ◌+◌, ◌-◌, ◌≤◌, ◌<◌, Some, None, List, [], ◌∷◌, ◌++◌, length, take, drop, sym, subst, ap, ◌∙◌, arith, append_assoc, length-append}
use Rattle.std.proofs.Math.Seq.{take-append_seam, drop-append_seam}
use Rattle.std.proofs.lemmas.List.{append-nil}
use Rattle.lw_base.specs.declared.token.Token.{Token}
use Rattle.lw_base.specs.declared.token.Span.{Span}
use Rattle.lw_base.specs.declared.numbers.NodeId.{NodeId}
use Rattle.lw_base.specs.declared.numbers.PropId.{PropId}
use Rattle.lw_tree.specs.declared.node.Reference.{Reference}
use Rattle.lw_tree.specs.declared.node.Value.{Value}
use Rattle.lw_reading.specs.Grown.{Plain, Text, Number, Huge, Raw, Truth, as_value, Held, Nothing, Puts, Takes, Points, size, size_of}
use Rattle.lw_reading.specs.Trees.{points_of}
use Rattle.lw_reading.specs.Brackets.{Bracket, grown, span_of_tokens}
use Rattle.lw_builder.specs.declared.preorder.finished.Finished.{Finished}
use Rattle.lw_builder.specs.Finishing.{finished_in, adopts_all, IsPlaceWithin, AreWithin}
use Rattle.lw_builder.specs.Tables.{put_in, owned, stored_in, pointed_in}
use Rattle.lw_builder.specs.declared.builder.Builder.{Builder}
use Rattle.lw_builder.specs.declared.open.OpenNode.{OpenNode}
use Rattle.lw_builder.specs.Contents.{nobody}
use Rattle.lw_builder.specs.Owners.{claims_all, IsClaimable, AreClaimable}
use Rattle.lw_builder.specs.Standing.{nodes_in, points_in, all_finished, all_stored, all_loose, all_pointed}
use Rattle.lw_builder.specs.Steps.{IsReadyToFinish, IsFinished}
use Rattle.lw_builder.proofs.Adopting.{adopts_held}
use Rattle.lw_builder.proofs.Claiming.{claims_held}
use Rattle.lw_builder.proofs.Lengths.{a_node_or_more, as_many_finished_in, as_many_pointed_in, length-all_finished, length-all_pointed}

within_plain : (n : ℕ) (v : Plain) → IsPlaceWithin n (as_value v)
within_plain n (Text t s) = tt
within_plain n (Number m s) = tt
within_plain n (Huge s) = tt
within_plain n (Raw t s) = tt
within_plain n (Truth s) = tt

within_more : (n : ℕ) (vs : List (PropId × Value)) (p : PropId) (v : Value) → AreWithin n vs → IsPlaceWithin n v → AreWithin n (vs ++ (p, v) ∷ [])
within_more n [] p v h k = (k, tt)
within_more n (w ∷ vs) p v h k = (h.0, within_more n vs p v h.1 k)

within_held : (n b r : ℕ) (held : Held) → b + size_of held ≤ n → AreWithin n (put_in b r held)
within_held n b r Nothing le = tt
within_held n b r (Puts held p v) le = within_more n (put_in b r held) _ _ (within_held n b r held le) (within_plain n v)
within_held n b r (Points held p want name s) le = within_more n (put_in b r held) _ _ (within_held n b r held le) tt
within_held n b r (Takes held p x) le =
    let lt : b + size_of held + size x - 1 < n = omega (arith, a_node_or_more x, le) in
    within_more n (put_in b r held) _ _ (within_held n b r held (omega (arith, le))) lt

claimable_plain : (n : ℕ) (v : Plain) → IsClaimable n (as_value v)
claimable_plain n (Text t s) = tt
claimable_plain n (Number m s) = tt
claimable_plain n (Huge s) = tt
claimable_plain n (Raw t s) = tt
claimable_plain n (Truth s) = tt

claimable_more : (n : ℕ) (vs : List (PropId × Value)) (p : PropId) (v : Value) → AreClaimable n vs → IsClaimable n v → AreClaimable n (vs ++ (p, v) ∷ [])
claimable_more n [] p v h k = (k, tt)
claimable_more n (w ∷ vs) p v h k = (h.0, claimable_more n vs p v h.1 k)

claimable_held : (n b r : ℕ) (held : Held) → r + points_of held ≤ n → AreClaimable n (put_in b r held)
claimable_held n b r Nothing le = tt
claimable_held n b r (Puts held p v) le = claimable_more n (put_in b r held) _ _ (claimable_held n b r held le) (claimable_plain n v)
claimable_held n b r (Points held p want name s) le =
    let lt : r + points_of held < n = omega (arith, le) in
    claimable_more n (put_in b r held) _ _ (claimable_held n b r held (omega (arith, le))) lt
claimable_held n b r (Takes held p x) le = claimable_more n (put_in b r held) _ _ (claimable_held n b r held (omega (arith, le))) tt

inside_is : (builder : Builder) (node : OpenNode) (bs : List Bracket) (held : Held) (inside : List (PropId × Value)) → IsReadyToFinish builder node bs held →
    inside ≡ drop node.values builder.loose.items → inside ≡ put_in (nodes_in bs) (points_in bs) held
inside_is builder node bs held inside ready is =
    let these : List (PropId × Value) = put_in (nodes_in bs) (points_in bs) held in
    is ∙ ap (λ l. drop node.values l) ready.loose ∙ ap (λ n. drop n (all_loose bs ++ these)) ready.values ∙ drop-append_seam (all_loose bs) these

pub ready_within : (builder : Builder) (node : OpenNode) (bs : List Bracket) (held : Held) (inside : List (PropId × Value)) → IsReadyToFinish builder node bs held →
    inside ≡ drop node.values builder.loose.items → AreWithin (length builder.finished.items) inside
ready_within builder node bs held inside ready is =
    let P : List (PropId × Value) → Type 0 = λ l. AreWithin (length builder.finished.items) l in
    let long : nodes_in bs + size_of held ≤ length builder.finished.items =
    omega (
      arith,
      ap length ready.finished,
      length-append (all_finished bs) (finished_in None (nodes_in bs) held),
      length-all_finished bs,
      as_many_finished_in None (nodes_in bs) held,
    ) in
    subst P (sym (inside_is builder node bs held inside ready is))
    (within_held (length builder.finished.items) (nodes_in bs) (points_in bs) held long)

pub ready_claimable : (builder : Builder) (node : OpenNode) (bs : List Bracket) (held : Held) (inside : List (PropId × Value)) → IsReadyToFinish builder node bs held →
    inside ≡ drop node.values builder.loose.items → AreClaimable (length builder.refs.items) inside
ready_claimable builder node bs held inside ready is =
    let P : List (PropId × Value) → Type 0 = λ l. AreClaimable (length builder.refs.items) l in
    let long : points_in bs + points_of held ≤ length builder.refs.items =
    omega (
      arith,
      ap length ready.refs,
      length-append (all_pointed bs) (pointed_in nobody (nodes_in bs) held),
      length-all_pointed bs,
      as_many_pointed_in nobody (nodes_in bs) held,
    ) in
    subst P (sym (inside_is builder node bs held inside ready is))
    (claimable_held (length builder.refs.items) (nodes_in bs) (points_in bs) held long)

-- the references among the values of the node are given its place
claimed_all : (old : Builder) (node : OpenNode) (bs : List Bracket) (held : Held) (own : NodeId) (inside : List (PropId × Value)) (refs : List Reference) →
    IsReadyToFinish old node bs held → inside ≡ put_in (nodes_in bs) (points_in bs) held → refs ≡ claims_all own inside old.refs.items →
    refs ≡ all_pointed bs ++ pointed_in own (nodes_in bs) held
claimed_all old node bs held own inside refs ready inside' claim =
    let A : List Reference = all_pointed bs in
    let b : ℕ = nodes_in bs in
    let r : ℕ = points_in bs in
    let before : List Reference = pointed_in nobody b held in
    let after : List Reference = pointed_in own b held in
    let fit : claims_all own (put_in b r held) (A ++ (before ++ [])) ≡ A ++ (after ++ []) = claims_held own A [] b r held (length-all_pointed bs) in
    let tidy : A ++ before ≡ A ++ (before ++ []) = ap (λ l. A ++ l) (sym (append-nil before)) in
    let tidy' : A ++ (after ++ []) ≡ A ++ after = ap (λ l. A ++ l) (append-nil after) in
    claim ∙ ap (λ l. claims_all own l old.refs.items) inside' ∙ ap (λ l. claims_all own (put_in b r held) l) (ready.refs ∙ tidy) ∙ fit ∙ tidy'

pub finish_all : (old new : Builder) (node : OpenNode) (bs : List Bracket) (held : Held) (inside : List (PropId × Value)) (given : List Finished)
    (own : NodeId) (ts : List Token) (s : Span) → IsReadyToFinish old node bs held → inside ≡ drop node.values old.loose.items →
    new.loose.items ≡ take node.values old.loose.items → given ≡ adopts_all own inside old.finished.items → own.0 ≡ length old.finished.items →
    new.finished.items ≡ given ++ record { node = record { type_id = node.type_id; container = None; prop = None; span = s }; start = node.start } ∷ [] →
    new.refs.items ≡ claims_all own inside old.refs.items → new.kept.items ≡ old.kept.items ++ owned own inside → s ≡ span_of_tokens (drop node.first ts) →
    IsFinished new own.0 bs (grown ts node.type_id.0 node.first held)
finish_all old new node bs held inside given own ts s ready is less give at push claim kept span =
    let b : ℕ = nodes_in bs in
    let r : ℕ = points_in bs in
    let A : List Finished = all_finished bs in
    let before : List Finished = finished_in None b held in
    let after : List Finished = finished_in (Some own) b held in
    let it : Finished = record { node = record { type_id = node.type_id; container = None; prop = None; span = s }; start = node.start } in
    let it' : Finished = record { node = record { type_id = node.type_id; container = None; prop = None; span = span_of_tokens (drop node.first ts) }; start = b } in
    let same : it ≡ it' = ap (λ (w : Span). let y : Finished = record { node = record { type_id = node.type_id; container = None; prop = None; span = w }; start = node.start } in y) span
    ∙ ap (λ (n : ℕ). let y : Finished = record { node = record { type_id = node.type_id; container = None; prop = None; span = span_of_tokens (drop node.first ts) }; start = n } in y) ready.start in
    let inside' : inside ≡ put_in b r held = inside_is old node bs held inside ready is in
    let place : own.0 ≡ b + size_of held =
    omega (arith, at, ap length ready.finished, length-append A before, length-all_finished bs, as_many_finished_in None b held) in
    let own' : own ≡ record { 0 = b + size_of held } = ap (λ (n : ℕ). let y : NodeId = record { 0 = n } in y) place in
    let fit : adopts_all own (put_in b r held) (A ++ (before ++ [])) ≡ A ++ (after ++ []) = adopts_held own A [] b r held (length-all_finished bs) in
    let tidy : A ++ before ≡ A ++ (before ++ []) = ap (λ l. A ++ l) (sym (append-nil before)) in
    let tidy' : A ++ (after ++ []) ≡ A ++ after = ap (λ l. A ++ l) (append-nil after) in
    let given' : given ≡ A ++ after =
    give ∙ ap (λ l. adopts_all own l old.finished.items) inside' ∙ ap (λ l. adopts_all own (put_in b r held) l) (ready.finished ∙ tidy) ∙ fit ∙ tidy' in
    let joined_texts : (A ++ after) ++ it' ∷ [] ≡ A ++ (after ++ it' ∷ []) = simp append_assoc in
    let K : List (NodeId × PropId × Value) = all_stored bs in
    let joined_texts' : (K ++ stored_in b r held) ++ owned own (put_in b r held) ≡ K ++ (stored_in b r held ++ owned own (put_in b r held)) = simp append_assoc in
    record {
      finished = push ∙ ap (λ l. l ++ it ∷ []) given' ∙ ap (λ y. (A ++ after) ++ y ∷ []) same ∙ joined_texts
          ∙ ap (λ (o : NodeId). A ++ (finished_in (Some o) b held ++ it' ∷ [])) own';
      stored = kept ∙ ap (λ l. old.kept.items ++ owned own l) inside' ∙ ap (λ l. l ++ owned own (put_in b r held)) ready.stored ∙ joined_texts'
          ∙ ap (λ (o : NodeId). K ++ (stored_in b r held ++ owned o (put_in b r held))) own';
      loose = less ∙ ap (λ l. take node.values l) ready.loose ∙ ap (λ n. take n (all_loose bs ++ put_in b r held)) ready.values
          ∙ take-append_seam (all_loose bs) (put_in b r held);
      refs = claimed_all old node bs held own inside new.refs.items ready inside' claim ∙ ap (λ (o : NodeId). all_pointed bs ++ pointed_in o b held) own';
      place = omega (arith, place);
    }
