-- The change that a value is, is the one that its shape gives.
use Rattle.std.proofs.Common.{◌≡◌, ℕ, ◌<◌, ◌^◌, List, Bool, true, false, codes, nat_lt, if◌then◌else◌, Option, Some, None, option_map, option_and_then, refl, ap, sym, subst, ◌∙◌}
use Rattle.std.proofs.lemmas.Bool.{ltb-true, lt-ltb}
use Rattle.serde_json.specs.Data.{Data, unsigned, negative, float, null, boolean, number, string, array, object}
use Rattle.serde_json.specs.Find.{get}
use Rattle.lw_text.specs.declared.change.Change.{Change}
use Rattle.lw_text.specs.declared.place.Pos.{Pos}
use Rattle.lw_rpc.specs.Causes.{HasCount, IsPos, HasPos, IsRange, HasRange, IsChange}
use Rattle.lw_rpc.specs.ChangeParams.{u32_of, at_place, position_of, ranged, range_of, optional_range, replacing, change_of}
use Rattle.lw_rpc.proofs.Found.{str_of}

-- ---- from the rules to the shape

u32_of-HasCount : (key : List ℕ) (d : Data) (n : ℕ) → HasCount key d n → option_and_then u32_of (get key d) ≡ Some n
u32_of-HasCount key d n has = let small : nat_lt n (2 ^ 32) ≡ true = lt-ltb n (2 ^ 32) has.1 in rw (has.0, small) refl

position_of-IsPos : (d : Data) (at : Pos) → IsPos d at → position_of d ≡ Some at
position_of-IsPos d at is = rw (u32_of-HasCount (codes "line") d at.line is.has_line, u32_of-HasCount (codes "character") d at.character is.has_character) refl

pub position_of-HasPos : (key : List ℕ) (d : Data) (at : Pos) → HasPos key d at → option_and_then position_of (get key d) ≡ Some at
position_of-HasPos key d at has = ap (option_and_then position_of) has.1 ∙ position_of-IsPos has.0 at has.2

range_of-IsRange : (d : Data) (range : Pos × Pos) → IsRange d range → range_of d ≡ Some range
range_of-IsRange d range is = rw (position_of-HasPos (codes "start") d range.0 is.has_start, position_of-HasPos (codes "end") d range.1 is.has_end) refl

optional_range-HasRange : (d : Data) (range : Option (Pos × Pos)) → HasRange d range → optional_range (get (codes "range") d) ≡ Some range
optional_range-HasRange d (Some range) has = ap optional_range has.1 ∙ ap (option_map Some) (range_of-IsRange has.0 range has.2)
optional_range-HasRange d None absent = ap optional_range absent

pub change_of-IsChange : (d : Data) (change : Change) → IsChange d change → change_of d ≡ Some change
change_of-IsChange d change is = rw (optional_range-HasRange d change.range is.has_range, is.has_text) refl

-- ---- from the shape to the rules

as_u32-parts : (n m : ℕ) (small : Bool) → nat_lt n (2 ^ 32) ≡ small → (if small then Some n else None) ≡ Some m → (n ≡ m) × (n < 2 ^ 32)
as_u32-parts n m true is same = (cc, ltb-true n (2 ^ 32) is)
as_u32-parts n m false is same = absurd (cc)

u32_of-parts : (d : Data) (n : ℕ) → u32_of d ≡ Some n → (d ≡ number (unsigned n)) × (n < 2 ^ 32)
u32_of-parts null n same = absurd (cc)
u32_of-parts (boolean b) n same = absurd (cc)
u32_of-parts (number (unsigned m)) n same = let parts = as_u32-parts m n (nat_lt m (2 ^ 32)) refl same in (ap (λ k. number (unsigned k)) parts.0, rw parts.0 at parts.1)
u32_of-parts (number (negative z)) n same = absurd (cc)
u32_of-parts (number (float x)) n same = absurd (cc)
u32_of-parts (string s) n same = absurd (cc)
u32_of-parts (array items) n same = absurd (cc)
u32_of-parts (object _) n same = absurd (cc)

HasCount-found : (key : List ℕ) (d : Data) (found : Option Data) (n : ℕ) → get key d ≡ found → option_and_then u32_of found ≡ Some n → HasCount key d n
HasCount-found key d (Some w) n is same = let parts = u32_of-parts w n same in (is ∙ ap Some parts.0, parts.1)
HasCount-found key d None n is same = absurd (cc)

at_place-parts : (line character : Option ℕ) (at : Pos) → at_place line character ≡ Some at → (line ≡ Some at.line) × (character ≡ Some at.character)
at_place-parts (Some line) (Some character) at same = let e : record { line = line; character = character } ≡ at = cc in (ap (λ (p : Pos). Some p.line) e, ap (λ (p : Pos). Some p.character) e)
at_place-parts (Some line) None at same = absurd (cc)
at_place-parts None character at same = absurd (cc)

IsPos-position_of : (d : Data) (at : Pos) → position_of d ≡ Some at → IsPos d at
IsPos-position_of d at same =
    let parts = at_place-parts _ _ at same in
    record { has_line = HasCount-found (codes "line") d _ at.line refl parts.0; has_character = HasCount-found (codes "character") d _ at.character refl parts.1 }

pub HasPos-found : (key : List ℕ) (d : Data) (found : Option Data) (at : Pos) → get key d ≡ found → option_and_then position_of found ≡ Some at → HasPos key d at
HasPos-found key d (Some w) at is same = (w, is, IsPos-position_of w at same)
HasPos-found key d None at is same = absurd (cc)

ranged-parts : (start end : Option Pos) (range : Pos × Pos) → ranged start end ≡ Some range → (start ≡ Some range.0) × (end ≡ Some range.1)
ranged-parts (Some start) (Some end) range same = let e : (start, end) ≡ range = cc in (ap (λ (r : Pos × Pos). Some r.0) e, ap (λ (r : Pos × Pos). Some r.1) e)
ranged-parts (Some start) None range same = absurd (cc)
ranged-parts None end range same = absurd (cc)

IsRange-range_of : (d : Data) (range : Pos × Pos) → range_of d ≡ Some range → IsRange d range
IsRange-range_of d range same =
    let parts = ranged-parts _ _ range same in
    record { has_start = HasPos-found (codes "start") d _ range.0 refl parts.0; has_end = HasPos-found (codes "end") d _ range.1 refl parts.1 }

in_range : (w : Data) (found : Option (Pos × Pos)) (range : Option (Pos × Pos)) → range_of w ≡ found → option_map Some found ≡ Some range → (r : Pos × Pos) × (range ≡ Some r) × IsRange w r
in_range w (Some r) range is same = (r, cc, IsRange-range_of w r is)
in_range w None range is same = absurd (cc)

HasRange-here : (d w : Data) (range : Option (Pos × Pos)) (r : Pos × Pos) → get (codes "range") d ≡ Some w → range ≡ Some r → IsRange w r → HasRange d range
HasRange-here d w range r is same has = subst (HasRange d) (sym same) (w, is, has)

HasRange-found : (d : Data) (found : Option Data) (range : Option (Pos × Pos)) → get (codes "range") d ≡ found → optional_range found ≡ Some range → HasRange d range
HasRange-found d (Some w) range is same = let in_it = in_range w (range_of w) range refl same in HasRange-here d w range in_it.0 is in_it.1 in_it.2
HasRange-found d None range is same = let e : None ≡ range = cc in subst (HasRange d) e is

replacing-parts : (range : Option (Option (Pos × Pos))) (text : Option (List ℕ)) (change : Change) → replacing range text ≡ Some change → (range ≡ Some change.range) × (text ≡ Some change.text)
replacing-parts (Some range) (Some text) change same = let e : record { range = range; text = text } ≡ change = cc in (ap (λ (c : Change). Some c.range) e, ap (λ (c : Change). Some c.text) e)
replacing-parts (Some range) None change same = absurd (cc)
replacing-parts None text change same = absurd (cc)

pub IsChange-change_of : (d : Data) (change : Change) → change_of d ≡ Some change → IsChange d change
IsChange-change_of d change same =
    let parts = replacing-parts _ _ change same in
    record { has_range = HasRange-found d _ change.range refl parts.0; has_text = str_of _ _ parts.1 }
