-- The members of an object from which one is taken.
use Rattle.std.proofs.Common.{◌≡◌, ℕ, List, [], ◌∷◌, Bool, true, false, cond, Some, string_bytes, nat_cmp, is_eq, refl, sym, ap, ◌∙◌}
use Rattle.std.proofs.lemmas.Map.Text.{is_eq-slice_cmp}
use Rattle.std.proofs.lemmas.Slice.Eq.{bytes_eq-Decides}
use Rattle.std.specs.BTreeMap.{is_at}
use Rattle.std.specs.Cmp.Lexicographic.{slice_cmp}
use Rattle.std.specs.Map.{remove_entry}
use Rattle.std.specs.Ordering.{match_ordering}
use Rattle.serde_json.proofs.Views.{Entry, member_later}
use Rattle.serde_json.specs.Find.{get_member}
use Rattle.serde_json.specs.View.{view, members_view}

-- the members without the one under the key
abbrev pub without : List ℕ → List Entry → List Entry
without key es = remove_entry (is_at (λ k. slice_cmp nat_cmp key (string_bytes k))) es

-- the first member is the one that is taken, or it stays
without_first : (key other : List ℕ) (e : Entry) (es : List Entry) (here : Bool) → ¬ (other ≡ key) → is_eq (slice_cmp nat_cmp key (string_bytes e.0)) ≡ here → get_member other (members_view (without key es)) ≡ get_member other (members_view es)
    → get_member other (members_view (cond here es (e ∷ without key es))) ≡ get_member other (members_view (e ∷ es))
without_first key other e es true differs is rest =
    let same : key ≡ string_bytes e.0 = (bytes_eq-Decides key (string_bytes e.0)).0 (sym (is_eq-slice_cmp key (string_bytes e.0)) ∙ is) in
    sym (member_later other e es (λ h. differs (h ∙ sym same)))
without_first key other e es false differs is rest = ap (λ found. match_ordering (slice_cmp nat_cmp other (string_bytes e.0)) found (Some (view e.1)) found) rest

pub get_member-without : (key other : List ℕ) (es : List Entry) → ¬ (other ≡ key) → get_member other (members_view (without key es)) ≡ get_member other (members_view es)
get_member-without key other [] differs = refl
get_member-without key other (e ∷ es) differs = without_first key other e es _ differs refl (get_member-without key other es differs)
