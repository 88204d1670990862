-- Fronts that are put on, one behind the other.
use Rattle.std.proofs.Common.{ℕ, ◌≡◌, ◌+◌, ◌-◌, ◌≤◌, List, [], ◌∷◌, ◌++◌, All, refl, sym, ap, ◌∙◌, append_assoc, append-nil, map, zero, suc, arith}
use Rattle.std.proofs.lemmas.List.{map-append}
use Rattle.std.proofs.lemmas.List.Elements.{All-nil, All-head, All-tail, All-append, All-weaker}
use Rattle.std.proofs.lemmas.List.Sums.{sum_by-append}
use Rattle.lw_viable.specs.Moves.{side_by_side}
use Rattle.lw_viable.specs.Growing.{HasLists, read, GrowsLists, room, Change, changed, weight_of, kept, ArePut}
use Rattle.lw_viable.specs.Turning.{way_change}
use Rattle.lw_viable.specs.declared.front.Front.{Front}
use Rattle.lw_viable.specs.declared.lists.Lists.{Lists}

pub stays_within : {old new : Lists} → GrowsLists old new → (front : Front) → HasLists old front → HasLists new front
stays_within grows front within = record { marks = omega (arith, grows.marks, within.marks); rest = omega (arith, grows.rests, within.rest) }

pub all_stay_within : {old new : Lists} → GrowsLists old new → (fronts : List Front) → All (HasLists old) fronts → All (HasLists new) fronts
all_stay_within {old} {new} grows fronts within = All-weaker (HasLists old) (HasLists new) (λ front within. stays_within grows front within) fronts within

pub reads_same : {old new : Lists} → GrowsLists old new → (front : Front) → HasLists old front → read new front ≡ read old front
reads_same grows front within =
    let marks = grows.same_marks front.marks.0 within.marks in
    let rest = grows.same_rests front.rest.0 within.rest in
    cc

pub all_read_same : {old new : Lists} → GrowsLists old new → (fronts : List Front) → All (HasLists old) fronts → map (read new) fronts ≡ map (read old) fronts
all_read_same grows [] within = refl
all_read_same {old} {new} grows (front ∷ fronts) within =
    let first = reads_same grows front (All-head (HasLists old) front fronts within) in
    let others = all_read_same grows fronts (All-tail (HasLists old) front fronts within) in
    cc

pub room_shrinks : {old new : Lists} → GrowsLists old new → room new ≤ room old
room_shrinks grows = omega (arith, grows.marks, grows.rests)

pub put_none : {old new : Lists} → GrowsLists old new → (front : Front) (fronts : List Front) → ArePut [] old new front fronts fronts
put_none {new} grows front fronts =
    record { fronts = []; are = sym (append-nil fronts); within = All-nil (HasLists new); are_read = refl; lighter = omega (arith, room_shrinks grows) }

keeps : Front → Change → ℕ
keeps front change = kept front change.0 change.1

pub put_on : {first more : List Change} {old mid new : Lists} {front : Front} {before between after : List Front} → GrowsLists old mid → GrowsLists mid new →
    HasLists old front → ArePut first old mid front before between → ArePut more mid new front between after →
    ArePut (first ++ more) old new front before after
unfolding keeps
put_on {first} {more} {old} {mid} {new} {front} {before} {after} grew grows within a b =
    record {
      fronts = a.fronts ++ b.fronts;
      are = b.are ∙ ap (λ fronts. fronts ++ b.fronts) a.are ∙ append_assoc before a.fronts b.fronts;
      within = All-append (HasLists new) a.fronts b.fronts (all_stay_within grows a.fronts a.within) b.within;
      are_read =
          map-append (read new) a.fronts b.fronts ∙ ap (λ rs. rs ++ map (read new) b.fronts) (all_read_same grows a.fronts a.within ∙ a.are_read)
          ∙ ap (λ rs. map (changed (read old front)) first ++ rs) (b.are_read ∙ ap (λ r. map (changed r) more) (reads_same grew front within))
          ∙ sym (map-append (changed (read old front)) first more);
      lighter = omega (arith, a.lighter, b.lighter, sum_by-append weight_of a.fronts b.fronts, sum_by-append (keeps front) first more);
    }

pub side_by_side_last : (first count : ℕ) → side_by_side first (count + 1) ≡ side_by_side first count ++ (first + count) ∷ []
side_by_side_last first zero = let same : first ≡ first + 0 = omega arith in ap (λ p. p ∷ []) same
side_by_side_last first (suc count) =
    let more : suc count + 1 ≡ suc (count + 1) = omega arith in
    let same : first + 1 + count ≡ first + suc count = omega arith in
    ap (side_by_side first) more ∙ ap (λ ps. first ∷ ps) (side_by_side_last (first + 1) count ∙ ap (λ p. side_by_side (first + 1) count ++ p ∷ []) same)

-- each way up to one more
pub ways_last : (first place : ℕ) → first ≤ place → map way_change (side_by_side first (place + 1 - first)) ≡ map way_change (side_by_side first (place - first)) ++ way_change place ∷ []
ways_last first place from =
    let count : place + 1 - first ≡ (place - first) + 1 = omega arith in
    let last : first + (place - first) ≡ place = omega arith in
    ap (λ n. map way_change (side_by_side first n)) count ∙ ap (map way_change) (side_by_side_last first (place - first))
    ∙ map-append way_change (side_by_side first (place - first)) ((first + (place - first)) ∷ []) ∙ ap (λ p. map way_change (side_by_side first (place - first)) ++ way_change p ∷ []) last
