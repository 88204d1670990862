-- One more node put at its number.
use Rattle.std.proofs.Common.{ℕ, ◌≡◌, ◌≢◌, ◌+◌, ◌≤◌, ◌<◌, Option, Some, None, List, length, get_or, ⊎_elim, sym, subst, ap, ◌∙◌, arith}
use Rattle.std.proofs.Math.ListN.{set, length-set}
use Rattle.std.proofs.lemmas.List.{get_or-set_same, get_or-set_other}
use Rattle.std.proofs.lemmas.Option.{slice_get-get_or, get_or_from_slice_get, slice_get_within}
use Rattle.std.proofs.lemmas.Bool.{cases_eq}
use Rattle.std.specs.Prelude.{slice_get, slice_index, IfSome}
use Rattle.lw_base.specs.declared.numbers.NodeId.{NodeId}
use Rattle.lw_tree.specs.declared.node.Node.{Node}
use Rattle.lw_builder.specs.declared.preorder.finished.Finished.{Finished}
use Rattle.lw_reading.specs.Grown.{Grown, nodes}
use Rattle.lw_builder.specs.Finishing.{finished, IsFinishedTree, AreNested, StandsInNode, AreNumbered, HasEach, renumbered, with_number}
use Rattle.lw_builder.proofs.PreorderLengths.{length-finished}
use Rattle.lw_builder.proofs.Nesting.{nested}
use Rattle.lw_builder.proofs.ByNumber.{has, only}

pub nested_tree : (all : List Finished) → IsFinishedTree all → AreNested all
nested_tree all tree =
    let P : List Finished → Type 0 = λ xs. AreNested xs in
    subst P (sym tree.1) (nested tree.0)

within : (all : List Finished) (i start m : ℕ) (o : Option NodeId) → m ≡ length all → StandsInNode all i start o → IfSome o (λ above. above.0 < m)
within all i start m None e stands = tt
within all i start m (Some above) e stands = omega (arith, e, slice_get_within all above.0 stands.1 stands.2)

pub container_within : (all : List Finished) (k m : ℕ) (d : Finished) → IsFinishedTree all → m ≡ length all → k < length all →
    IfSome (get_or all k d).node.container (λ above. above.0 < m)
container_within all k m d tree e lt =
    within all k (get_or all k d).start m (get_or all k d).node.container e (nested_tree all tree k (get_or all k d) (slice_get-get_or all k d lt)).stands

abbrev blank : Finished
blank = record { node = record { type_id = record { 0 = 0 }; container = None; prop = None; span = record { start = 0; end = 0 } }; start = 0 }

pub number_within : (all : List Finished) (ns : List ℕ) (k : ℕ) → IsFinishedTree all → AreNumbered all ns → k < length all →
    get_or ns k 0 < length all
number_within all ns k tree law lt =
    let x : Finished = get_or all k blank in
    let at : slice_get all k ≡ Some x = slice_get-get_or all k blank lt in
    let le : x.start ≤ k = (nested_tree all tree k x at).starts in
    omega (arith, law.fits k x (omega arith) at, le)

set_same : {X : Type 0} (xs : List X) (i : ℕ) (y : X) → i < length xs → slice_get (set xs i y) i ≡ Some y
set_same xs i y lt = slice_get-get_or (set xs i y) i y (omega (arith, length-set xs i y, lt)) ∙ ap Some (get_or-set_same xs i y y lt)

set_other : {X : Type 0} (xs : List X) (i j : ℕ) (y z : X) → j ≢ i → slice_get xs j ≡ Some z → slice_get (set xs i y) j ≡ Some z
set_other xs i j y z ne at =
    let lt : j < length xs = slice_get_within xs j z at in
    slice_get-get_or (set xs i y) j z (omega (arith, length-set xs i y, lt)) ∙ ap Some (get_or-set_other xs i j y z ne ∙ get_or_from_slice_get xs j z z at)

pub renewed : (ns : List ℕ) (node : Node) (o : Option NodeId) → o ≡ renumbered ns node.container →
    record { type_id = node.type_id; container = o; prop = node.prop; span = node.span } ≡ with_number ns node
renewed ns node o e = ap (λ (a : Option NodeId). let it : Node = record { type_id = node.type_id; container = a; prop = node.prop; span = node.span } in it) e

pub place_more : (all : List Finished) (ns : List ℕ) (put : List Node) (k : ℕ) (d : Finished) (new : Node) → k < length all → get_or ns k 0 < length put →
    new ≡ with_number ns (get_or all k d).node →
    ((made : List Node) → HasEach all ns made → (i : ℕ) (x : Finished) → i < k → slice_get all i ≡ Some x →
    slice_get put (slice_index ns i) ≡ Some (with_number ns x.node)) →
    (made : List Node) → HasEach all ns made → (i : ℕ) (x : Finished) → i < k + 1 → slice_get all i ≡ Some x →
    slice_get (set put (get_or ns k 0) new) (slice_index ns i) ≡ Some (with_number ns x.node)
place_more all ns put k d new lt room is so_far made each i x le at = ⊎_elim
    (λ same.
    let here : slice_get made (get_or ns k 0) ≡ Some (with_number ns (get_or all k d).node) = each k (get_or all k d) (slice_get-get_or all k d lt) in
    let there : slice_get made (get_or ns i 0) ≡ Some (with_number ns x.node) = each i x at in
    let there' : slice_get made (get_or ns k 0) ≡ Some (with_number ns x.node) =
    (let P : ℕ → Type 0 = λ j. slice_get made j ≡ Some (with_number ns x.node) in subst P same there) in
    let e : Some new ≡ Some (with_number ns x.node) = ap Some is ∙ sym here ∙ there' in
    let Q : ℕ → Type 0 = λ j. slice_get (set put (get_or ns k 0) new) j ≡ Some (with_number ns x.node) in
    subst Q (sym same) (set_same put (get_or ns k 0) new room ∙ e))
    (λ other.
    let apart : i ≢ k = λ e. other (ap (λ j. get_or ns j 0) e) in
    set_other put (get_or ns k 0) (get_or ns i 0) new (with_number ns x.node) other (so_far made each i x (omega (arith, le, apart)) at))
    (cases_eq (get_or ns i 0) (get_or ns k 0))

pub all_put : (all : List Finished) (ns : List ℕ) (put : List Node) (n : ℕ) → length all ≤ n → length put ≡ length all → AreNumbered all ns →
    ((made : List Node) → HasEach all ns made → (i : ℕ) (x : Finished) → i < n → slice_get all i ≡ Some x →
    slice_get put (slice_index ns i) ≡ Some (with_number ns x.node)) →
    (g : Grown) → all ≡ finished None None 0 g → put ≡ nodes None None 0 g
all_put all ns put n past long law so_far g e =
    let law' : AreNumbered (finished None None 0 g) ns = (let P : List Finished → Type 0 = λ xs. AreNumbered xs ns in subst P e law) in
    let each : HasEach all ns (nodes None None 0 g) = (let P : List Finished → Type 0 = λ xs. HasEach xs ns (nodes None None 0 g) in subst P (sym e) (has g ns law')) in
    let here : HasEach all ns put = (λ i x at. so_far (nodes None None 0 g) each i x (omega (arith, past, slice_get_within all i x at)) at) in
    let here' : HasEach (finished None None 0 g) ns put = (let P : List Finished → Type 0 = λ xs. HasEach xs ns put in subst P e here) in
    only g ns put (omega (arith, long, ap length e, length-finished None None 0 g)) law' here'
