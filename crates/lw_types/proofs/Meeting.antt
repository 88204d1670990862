-- The properties that are met, as the entries of a map.
use Rattle.std.proofs.Common.{◌≡◌, ◌≢◌, ℕ, zero, suc, ◌<◌, List, [], ◌∷◌, ◌++◌, Bool, true, false, cond, ◌||◌, nat_eq, Some, None, map, position, slice_get, get_or, Result, Ok, Err, OnOk, IfOk, refl, sym, ap, ◌∙◌, subst, arith, eqb-true}
use Rattle.std.specs.Option.{is_some}
use Rattle.std.specs.Map.{lookup, keys_of, values_of}
use Rattle.std.proofs.lemmas.List.Quantifiers.{position-Some}
use Rattle.indexmap.specs.IndexMap.{set_value_at}
use Rattle.std.proofs.lemmas.Bool.{true≢false, eq-eqb}
use Rattle.std.proofs.lemmas.Option.{none-some, same_Some, slice_get-get_or, get_or_from_slice_get}
use Rattle.lw_grammar.specs.declared.declared_types.ValueKind.{ValueKind}
use Rattle.lw_types.specs.declared.property_table.gathering.Met.{Met}
use Rattle.lw_types.specs.Gathered.{info_of, has_prop, PutsIntoProperty, JoinsValues, value_kinds}
use Rattle.lw_types.specs.Gathered as into

pub has_met : (entries : List (ℕ × Met)) (prop : ℕ) → is_some (lookup (nat_eq prop) entries) ≡ has_prop (map info_of entries) prop
has_met [] prop = refl
has_met (e ∷ entries) prop = by (nat_eq prop e.0) (has_met entries prop)
  where
    by : (b : Bool) → is_some (lookup (nat_eq prop) entries) ≡ has_prop (map info_of entries) prop →
        is_some (cond b (Some e.1) (lookup (nat_eq prop) entries)) ≡ (b || has_prop (map info_of entries) prop)
    by true later = refl
    by false later = later

-- a property that was not met goes last
pub puts_last : (entries : List (ℕ × Met)) (prop : ℕ) (list : Bool) (values : List ValueKind) (met : Met) → lookup (nat_eq prop) entries ≡ None → met.list ≡ list →
    JoinsValues [] values (value_kinds met.values.keys) → PutsIntoProperty prop list values (map info_of entries) (map info_of (entries ++ (prop, met) ∷ []))
puts_last [] prop list values met none is joins = into.new refl is joins
puts_last (e ∷ entries) prop list values met none is joins = by (nat_eq prop e.0) refl none (puts_last entries prop list values met)
  where
    by : (b : Bool) → nat_eq prop e.0 ≡ b → cond b (Some e.1) (lookup (nat_eq prop) entries) ≡ None →
        (lookup (nat_eq prop) entries ≡ None → met.list ≡ list → JoinsValues [] values (value_kinds met.values.keys) → PutsIntoProperty prop list values (map info_of entries) (map info_of (entries ++ (prop, met) ∷ []))) →
        PutsIntoProperty prop list values (map info_of (e ∷ entries)) (map info_of (e ∷ entries ++ (prop, met) ∷ []))
    by true same there later = absurd (none-some e.1 (sym there))
    by false other absent later =
        into.later (λ same. true≢false (sym (eq-eqb prop e.0 (sym same)) ∙ other)) (later absent is joins)

-- a property that was met stays in its place
pub puts_at : (entries : List (ℕ × Met)) (at prop : ℕ) (list : Bool) (values : List ValueKind) (old now : Met) → slice_get (values_of entries) at ≡ Some old →
    slice_get (keys_of entries) at ≡ Some prop → ((k q : ℕ) → k < at → slice_get (keys_of entries) k ≡ Some q → q ≢ prop) → now.list ≡ old.list →
    JoinsValues (value_kinds old.values.keys) values (value_kinds now.values.keys) → PutsIntoProperty prop list values (map info_of entries) (map info_of (set_value_at entries at now))
puts_at [] at prop list values old now had is apart same joins = absurd (none-some old had)
puts_at (e ∷ entries) zero prop list values old now had is apart same joins =
    let this : e.1 ≡ old = same_Some e.1 old had in
    into.here (same_Some e.0 prop is) refl (same ∙ sym (ap (λ (m : Met). m.list) this))
    (subst (λ (m : Met). JoinsValues (value_kinds m.values.keys) values (value_kinds now.values.keys)) (sym this) joins)
puts_at (e ∷ entries) (suc at) prop list values old now had is apart same joins =
    into.later (apart 0 e.0 (omega arith) refl) (puts_at entries at prop list values old now had is (λ k q before there. apart (suc k) q (omega (arith, before)) there) same joins)

-- where a property stands
pub stands_at : (keys : List ℕ) (prop at : ℕ) → position (nat_eq prop) keys ≡ Some at →
    (slice_get keys at ≡ Some prop) × ((k q : ℕ) → k < at → slice_get keys k ≡ Some q → q ≢ prop)
stands_at keys prop at is =
    let found = position-Some (nat_eq prop) keys at prop is in (
      slice_get-get_or keys at prop found.0 ∙ ap Some (sym (eqb-true prop (get_or keys at prop) found.1)),
      λ k q before there same. true≢false (sym (eq-eqb prop q (sym same)) ∙ ap (nat_eq prop) (sym (get_or_from_slice_get keys k q prop there)) ∙ found.2 k before),
    )

-- ---- what a call says of its result

pub ok_then : {T E P Q : Type 0} (r : Result T E) → (P → Q) → OnOk r P → OnOk r Q
ok_then (Ok v) then so = then so
ok_then (Err e) then so = tt

pub if_ok_then : {T E : Type 0} {P Q : T → Type 0} (r : Result T E) → ((v : T) → P v → Q v) → IfOk r P → IfOk r Q
if_ok_then (Ok v) then so = then v so
if_ok_then (Err e) then so = tt
