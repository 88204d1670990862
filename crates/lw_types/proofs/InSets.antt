-- Values as sets hold them, by the kinds of values that they stand for.
use Rattle.std.proofs.Common.{◌≡◌, ℕ, zero, suc, List, [], ◌∷◌, ◌++◌, Bool, true, false, Contains, ◌||◌, if◌then◌else◌, inl, inr, refl, sym, ap, ◌∙◌, subst, true≢false, eqb-true, arith}
use Rattle.std.specs.List.{list_any}
use Rattle.std.proofs.lemmas.Bool.{eq-eqb}
use Rattle.std.proofs.lemmas.List.{map-append}
use Rattle.std.proofs.lemmas.Map.Views.{Contains-from_any}
use Rattle.indexmap.specs.IndexSet.{insert_key}
use Rattle.lw_grammar.specs.declared.declared_types.ValueKind.{ValueKind}
use Rattle.lw_grammar.specs.declared.declared_types.ValueKind.TheVariants as kind
use Rattle.lw_types.specs.declared.property_table.value.Value.{Value}
use Rattle.lw_types.specs.declared.property_table.value.Value.TheVariants.{Text, Number, Boolean, BigInt, Date, Nodes, Refs}
use Rattle.lw_types.specs.contracts.property_table.value.ValuePartialEq.TheImpl.{eq-value}
use Rattle.lw_types.specs.Gathered.{value_kind, value_kinds, JoinsValues}
use Rattle.lw_types.proofs.Firsts.{front_cases, at_front, behind_front, not_in_none, joins_again, joins_new}

-- ---- equal by their test, and by their kind

value_exact : (x y : Value) → (eq-value).it x y ≡ true → x ≡ y
value_exact Text Text h = refl
value_exact Number Number h = refl
value_exact Boolean Boolean h = refl
value_exact BigInt BigInt h = refl
value_exact Date Date h = refl
value_exact (Nodes m) (Nodes n) h = ap Nodes (eqb-true m n h)
value_exact (Refs m) (Refs n) h = ap Refs (eqb-true m n h)
value_exact _ _ h = absurd (true≢false (sym h))

value_same : (x : Value) → (eq-value).it x x ≡ true
value_same Text = refl
value_same Number = refl
value_same Boolean = refl
value_same BigInt = refl
value_same Date = refl
value_same (Nodes n) = eq-eqb n n refl
value_same (Refs n) = eq-eqb n n refl

abbrev number_in : ValueKind → ℕ
number_in (kind.Plain primitive) = 0
number_in (kind.Nodes t) = t.0
number_in (kind.Refs t) = t.0

same_kind : (x y : Value) → value_kind x ≡ value_kind y → x ≡ y
same_kind Text Text h = refl
same_kind Number Number h = refl
same_kind Boolean Boolean h = refl
same_kind BigInt BigInt h = refl
same_kind Date Date h = refl
same_kind (Nodes m) (Nodes n) h = ap Nodes (ap number_in h)
same_kind (Refs m) (Refs n) h = ap Refs (ap number_in h)
same_kind _ _ h = cc

-- ---- one more in a set

in_kinds : (values : List Value) (v : Value) → Contains values v → Contains (value_kinds values) (value_kind v)
in_kinds [] v has = absurd (not_in_none v has)
in_kinds (x ∷ values) v (zero, inside, is) = subst (λ y. Contains (value_kinds (x ∷ values)) (value_kind y)) is (at_front (value_kind x) (value_kinds values))
in_kinds (x ∷ values) v (suc k, inside, is) = behind_front (value_kind x) (value_kinds values) (value_kind v) (in_kinds values v (k, omega arith, is))

from_kinds : (values : List Value) (v : Value) → Contains (value_kinds values) (value_kind v) → list_any ((eq-value).it v) values ≡ true
from_kinds [] v has = absurd (not_in_none (value_kind v) has)
from_kinds (x ∷ values) v has = elim (front_cases (value_kind x) (value_kinds values) (value_kind v) has) [
  | inl is ↦ ap (λ b. b || list_any ((eq-value).it v) values) (subst (λ y. (eq-value).it v y ≡ true) (sym (same_kind x v is)) (value_same v))
  | inr later ↦ ap (λ b. (eq-value).it v x || b) (from_kinds values v later) ∙ or_true ((eq-value).it v x)
]
  where
    or_true : (b : Bool) → (b || true) ≡ true
    or_true true = refl
    or_true false = refl

pub kinds_put : {old xs : List ValueKind} (values : List Value) (v : Value) → JoinsValues old xs (value_kinds values) →
    JoinsValues old (xs ++ value_kind v ∷ []) (value_kinds (insert_key (eq-value).it values v))
kinds_put {old} {xs} values v joins = by (list_any ((eq-value).it v) values) refl
  where
    by : (b : Bool) → list_any ((eq-value).it v) values ≡ b → JoinsValues old (xs ++ value_kind v ∷ []) (value_kinds (if b then values else values ++ v ∷ []))
    by true has = joins_again joins (value_kind v) (in_kinds values v (Contains-from_any value_exact v values has))
    by false none =
        subst (JoinsValues old (xs ++ value_kind v ∷ [])) (sym (map-append value_kind values (v ∷ [])))
        (joins_new joins (value_kind v) (λ has. true≢false (sym (from_kinds values v has) ∙ none)))
