-- Fronts that are made of others, a cell at a time.
use Rattle.std.proofs.Common.{ℕ, ◌≡◌, ◌+◌, ◌-◌, ◌<◌, ◌≤◌, ◌⊎◌, inl, inr, List, ◌∷◌, ◌++◌, Option, None, refl, sym, ap, ◌∙◌, subst, append_assoc, append-nil, length, suc, arith}
use Rattle.lw_program.specs.declared.recipes.mark.TreeMark.{TreeMark}
use Rattle.lw_viable.specs.Readings.{KeptReading}
use Rattle.lw_viable.specs.Moves.{left, side_by_side}
use Rattle.lw_viable.specs.Growing.{read, GrowsLists, IsMadeFront, changed}
use Rattle.lw_viable.specs.declared.front.Front.{Front}
use Rattle.lw_viable.specs.declared.lists.Lists.{Lists}

pub grows_none : (lists : Lists) → GrowsLists lists lists
grows_none lists = record { marks = omega arith; rests = omega arith; same_marks = λ link within. refl; same_rests = λ link within. refl }

pub grows_on : {old mid new : Lists} → GrowsLists old mid → GrowsLists mid new → GrowsLists old new
grows_on a b =
    record {
      marks = omega (arith, a.marks, b.marks);
      rests = omega (arith, a.rests, b.rests);
      same_marks = λ link within. b.same_marks link (omega (arith, a.marks)) ∙ a.same_marks link within;
      same_rests = λ link within. b.same_rests link (omega (arith, a.rests)) ∙ a.same_rests link within;
    }

-- a reading of these marks and places
abbrev pub reading : List TreeMark → List ℕ → KeptReading
reading marks rest = record { marks = marks; rest = rest }

pub made_on : {m n : ℕ} {old mid new : Lists} {front half made : Front} {r s : KeptReading} → IsMadeFront m old mid front half r → IsMadeFront n mid new half made s →
    IsMadeFront (m + n) old new front made s
made_on {m} {n} a b =
    record {
      within = b.within;
      is = b.is;
      spent = omega (arith, a.spent, b.spent);
      fits = b.fits;
      none = λ none. b.none (omega arith) ∙ a.none (omega arith);
    }

pub made_as : {m n : ℕ} {old new : Lists} {front made : Front} {r s : KeptReading} → m ≡ n → r ≡ s → IsMadeFront m old new front made r → IsMadeFront n old new front made s
made_as {old} {new} {front} {made} {s} same is a =
    subst (λ n. IsMadeFront n old new front made s) same (record { within = a.within; is = a.is ∙ is; spent = a.spent; fits = a.fits; none = a.none })

-- one change and then another, of which the first puts the later places
pub changed_on : (r : KeptReading) (mark : Option TreeMark) (places later : List ℕ) → changed (changed r (mark, later)) (None, places) ≡ changed r (mark, places ++ later)
changed_on r mark places later =
    ap (λ marks. reading marks (places ++ (later ++ r.rest))) (append-nil (r.marks ++ left mark)) ∙
    ap (λ rest. reading (r.marks ++ left mark) rest) (sym (append_assoc places later r.rest))

-- one place more before those that were put
pub made_place : {n : ℕ} {old mid new : Lists} {front half made : Front} (mark : Option TreeMark) (places later : List ℕ) →
    IsMadeFront n old mid front half (changed (read old front) (mark, later)) → IsMadeFront (length places) mid new half made (changed (read mid half) (None, places)) →
    IsMadeFront (n + length places) old new front made (changed (read old front) (mark, places ++ later))
made_place {old} {front} mark places later a b =
    made_as refl (ap (λ r. changed r (None, places)) a.is ∙ changed_on (read old front) mark places later) (made_on a b)

-- the places from one earlier on
pub side_by_side_more : (first end : ℕ) → first < end → side_by_side first (end - first) ≡ first ∷ side_by_side (first + 1) (end - (first + 1))
side_by_side_more first end below =
    let more : end - first ≡ suc (end - (first + 1)) = omega arith in ap (side_by_side first) more

-- all places of a row, or none
pub row_whole : (first end place : ℕ) → place ≤ first → (first ≤ place) ⊎ (place ≡ end) →
    (end - place ≡ end - first) × (side_by_side place (end - place) ≡ side_by_side first (end - first))
row_whole first end place below (inl from) = let same : place ≡ first = omega arith in (ap (λ p. end - p) same, ap (λ p. side_by_side p (end - p)) same)
row_whole first end place below (inr none) =
    let here : end - place ≡ 0 = omega arith in
    let there : end - first ≡ 0 = omega arith in
    (here ∙ sym there, ap (side_by_side place) here ∙ sym (ap (side_by_side first) there))
