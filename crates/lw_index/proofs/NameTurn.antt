-- That the slot of one name has turned, from what became of the slots of that name.
use Rattle.std.proofs.Common.{◌≡◌, ℕ, List, [], ◌∷◌, length, arith, Bool, true, false, cond, ◌&&◌, Option, Some, None, refl, sym, ap, ◌∙◌}
use Rattle.std.specs.Ordering.{eq_by_cmp}
use Rattle.std.specs.Option.{option_and_then}
use Rattle.std.specs.Map.{lookup}
use Rattle.std.specs.BTreeMap as tree
use Rattle.std.specs.BTreeMap.{is_at}
use Rattle.lw_index.specs.declared.exporters.Slot.{Slot}
use Rattle.lw_index.specs.Slots.{Place, name_cmp, place_cmp, Exporters, Names, slot_in, slot_at}
use Rattle.lw_index.specs.Turns.{Turn, TurnsAt, TurnsOf}
use Rattle.lw_index.proofs.Orders.{same_name}

and_then_cond : (b : Bool) (x y : Option Exporters) (p : Place) → option_and_then (λ es. slot_in es p) (cond b x y) ≡ cond b (option_and_then (λ es. slot_in es p) x) (option_and_then (λ es. slot_in es p) y)
and_then_cond true x y p = refl
and_then_cond false x y p = refl

-- what a table of names has at one name after a write
pub slots_written : (name : List ℕ) (names n : Names) (x : Option Exporters) → ((q : List ℕ) → tree.get name_cmp n q ≡ cond (eq_by_cmp name_cmp name q) x (tree.get name_cmp names q))
    → (m : List ℕ) (p : Place) → slot_at n m p ≡ cond (eq_by_cmp name_cmp name m) (option_and_then (λ es. slot_in es p) x) (slot_at names m p)
slots_written name names n x at m p = ap (option_and_then (λ es. slot_in es p)) (at m) ∙ and_then_cond _ x (tree.get name_cmp names m) p

pub turns_named : (turn : Turn) (name : List ℕ) (place : Place) (names n : Names) (inner after : Exporters)
    → ((p : Place) → slot_at names name p ≡ slot_in inner p) → TurnsAt turn place inner after
    → ((m : List ℕ) (p : Place) → slot_at n m p ≡ cond (eq_by_cmp name_cmp name m) (slot_in after p) (slot_at names m p)) → TurnsOf turn name place names n
turns_named turn name place names n inner after was turns at = λ m p. at m p ∙ by m p (eq_by_cmp name_cmp name m) refl
  where
    by : (m : List ℕ) (p : Place) (b : Bool) → eq_by_cmp name_cmp name m ≡ b
        → cond b (slot_in after p) (slot_at names m p) ≡ cond (b && eq_by_cmp place_cmp place p) (turn (slot_at names m p)) (slot_at names m p)
    by m p true e = turns p ∙ ap (λ s. cond (eq_by_cmp place_cmp place p) (turn s) s) (sym (was p) ∙ ap (λ k. slot_at names k p) (same_name name m e))
    by m p false e = refl

-- where there is nothing under the name, and a turn leaves nothing there, nothing changes
pub turns_unnamed : (turn : Turn) (name : List ℕ) (place : Place) (names n : Names) → turn None ≡ None → tree.get name_cmp names name ≡ None
    → ((m : List ℕ) (p : Place) → slot_at n m p ≡ slot_at names m p) → TurnsOf turn name place names n
turns_unnamed turn name place names n stays none at = λ m p. at m p ∙ by m p (eq_by_cmp name_cmp name m) refl
  where
    both : (b : Bool) → None ≡ cond b (turn None) None
    both true = sym stays
    both false = refl

    nothing : (m : List ℕ) (p : Place) → eq_by_cmp name_cmp name m ≡ true → slot_at names m p ≡ None
    nothing m p e = ap (λ k. slot_at names k p) (sym (same_name name m e)) ∙ ap (option_and_then (λ es. slot_in es p)) none

    by : (m : List ℕ) (p : Place) (b : Bool) → eq_by_cmp name_cmp name m ≡ b
        → slot_at names m p ≡ cond (b && eq_by_cmp place_cmp place p) (turn (slot_at names m p)) (slot_at names m p)
    by m p true e = let gone = nothing m p e in gone ∙ both (eq_by_cmp place_cmp place p) ∙ ap (λ s. cond (eq_by_cmp place_cmp place p) (turn s) s) (sym gone)
    by m p false e = refl

-- what was lent under the name has turned, and was written back
pub turns_through : (turn : Turn) (name : List ℕ) (place : Place) (names n : Names) (inner after : Exporters) → Some inner ≡ tree.get name_cmp names name → TurnsAt turn place inner after
    → ((q : List ℕ) → tree.get name_cmp n q ≡ cond (eq_by_cmp name_cmp name q) (Some after) (tree.get name_cmp names q)) → TurnsOf turn name place names n
turns_through turn name place names n inner after is turns at =
    turns_named turn name place names n inner after (λ p. ap (option_and_then (λ es. slot_in es p)) (sym is)) turns (slots_written name names n (Some after) at)

-- what was lent under the name was written back as it was
pub stays_through : (name : List ℕ) (names n : Names) (inner after : Exporters) → Some inner ≡ tree.get name_cmp names name → after.entries ≡ inner.entries
    → ((q : List ℕ) → tree.get name_cmp n q ≡ cond (eq_by_cmp name_cmp name q) (Some after) (tree.get name_cmp names q)) → (m : List ℕ) (p : Place) → slot_at n m p ≡ slot_at names m p
stays_through name names n inner after is same at m p = slots_written name names n (Some after) at m p ∙ by (eq_by_cmp name_cmp name m) refl
  where
    by : (b : Bool) → eq_by_cmp name_cmp name m ≡ b → cond b (slot_in after p) (slot_at names m p) ≡ slot_at names m p
    by true e = ap (λ es. lookup (is_at (place_cmp p)) es) same ∙ ap (option_and_then (λ es. slot_in es p)) is ∙ ap (λ k. slot_at names k p) (same_name name m e)
    by false e = refl

-- what was made of nothing is put in under a name that was not there
pub turns_fresh : (turn : Turn) (name : List ℕ) (place : Place) (names n : Names) (inner after : Exporters) → None ≡ tree.get name_cmp names name → inner.entries ≡ [] → TurnsAt turn place inner after
    → ((q : List ℕ) → tree.get name_cmp n q ≡ cond (eq_by_cmp name_cmp name q) (Some after) (tree.get name_cmp names q)) → TurnsOf turn name place names n
turns_fresh turn name place names n inner after none empty turns at =
    turns_named turn name place names n inner after (λ p. ap (option_and_then (λ es. slot_in es p)) (sym none) ∙ ap (λ es. lookup (is_at (place_cmp p)) es) (sym empty)) turns (slots_written name names n (Some after) at)

-- and taken out where nothing is left of it
pub turns_emptied : (turn : Turn) (name : List ℕ) (place : Place) (names m n : Names) (inner after : Exporters) → Some inner ≡ tree.get name_cmp names name → TurnsAt turn place inner after
    → ((q : List ℕ) → tree.get name_cmp m q ≡ cond (eq_by_cmp name_cmp name q) (Some after) (tree.get name_cmp names q)) → after.entries ≡ []
    → ((q : List ℕ) → tree.get name_cmp n q ≡ cond (eq_by_cmp name_cmp name q) None (tree.get name_cmp m q)) → TurnsOf turn name place names n
turns_emptied turn name place names m n inner after is turns at empty out =
    turns_named turn name place names n inner after (λ p. ap (option_and_then (λ es. slot_in es p)) (sym is)) turns
    (λ k p. slots_written name m n None out k p ∙ ap (cond (eq_by_cmp name_cmp name k) None) (slots_written name names m (Some after) at k p) ∙ by (eq_by_cmp name_cmp name k) k p)
  where
    by : (b : Bool) (k : List ℕ) (p : Place) → cond b None (cond b (slot_in after p) (slot_at names k p)) ≡ cond b (slot_in after p) (slot_at names k p)
    by true k p = ap (λ es. lookup (is_at (place_cmp p)) es) (sym empty)
    by false k p = refl

pub no_entries : (es : List (Place × Slot)) → length es ≡ 0 → es ≡ []
no_entries [] e = refl
no_entries (x ∷ es) e = absurd (omega arith)
