-- Heads as keys: what a look-up finds is an entry, and a head that has an entry is found.
use Rattle.std.proofs.Common.{◌≡◌, ℕ, zero, suc, List, [], ◌∷◌, Bool, true, false, cond, Option, Some, None, IsTrue, nat_eq, ◌↔◌, Contains, refl, sym, ap, ◌∙◌, true≢false, eqb-true, arith}
use Rattle.std.specs.Map.{lookup}
use Rattle.std.specs.Option.{option_eq}
use Rattle.std.proofs.lemmas.Bool.{eq-eqb}
use Rattle.std.proofs.lemmas.Map.Views.{Contains-from_lookup}
use Rattle.lw_first.specs.declared.heads.head.Head.{Head}
use Rattle.lw_first.specs.contracts.heads.head.HeadPartialEq.TheImpl.{eq-value}
use Rattle.lw_first.proofs.Distinct.{head_exact, head_same}

abbrev pub found : Head → List (Head × ℕ) → Option ℕ
found head entries = lookup ((eq-value).it head) entries

pub found_entry : (head : Head) (way : ℕ) (entries : List (Head × ℕ)) → found head entries ≡ Some way → Contains entries (head, way)
found_entry head way entries is = Contains-from_lookup head_exact head way entries is

pub entry_found : (head : Head) (way : ℕ) (entries : List (Head × ℕ)) → Contains entries (head, way) → (first : ℕ) × (found head entries ≡ Some first)
entry_found head way [] (place, inside, is) = absurd (omega arith)
entry_found head way (e ∷ entries) (zero, inside, is) = by ((eq-value).it head e.0) refl
  where
    by : (b : Bool) → (eq-value).it head e.0 ≡ b → (first : ℕ) × (cond b (Some e.1) (found head entries) ≡ Some first)
    by true same = (e.1, refl)
    by false other = absurd (true≢false (sym (head_same head) ∙ ap ((eq-value).it head) (ap (λ (p : Head × ℕ). p.0) (sym is)) ∙ other))
entry_found head way (e ∷ entries) (suc place, inside, is) = by ((eq-value).it head e.0) (entry_found head way entries (place, omega arith, is))
  where
    by : (b : Bool) → (first : ℕ) × (found head entries ≡ Some first) → (first : ℕ) × (cond b (Some e.1) (found head entries) ≡ Some first)
    by true later = (e.1, refl)
    by false later = later

pub none_found : (head : Head) (entries : List (Head × ℕ)) → found head entries ≡ None → (way : ℕ) → ¬ Contains entries (head, way)
none_found head entries none way has = let (first, is) = entry_found head way entries has in cc

-- whether the entry of the head is this, where it has one
pub is_found : (head : Head) (way : ℕ) (entries : List (Head × ℕ)) → ((other : ℕ) → Contains entries (head, way) → Contains entries (head, other) → way ≡ other) →
    IsTrue (option_eq nat_eq (found head entries) (Some way)) ↔ Contains entries (head, way)
is_found head way entries once = (λ is. from (found head entries) refl is, λ has. to has (entry_found head way entries has))
  where
    from : (r : Option ℕ) → found head entries ≡ r → IsTrue (option_eq nat_eq r (Some way)) → Contains entries (head, way)
    from None none is = absurd (true≢false (sym is))
    from (Some other) there is = found_entry head way entries (there ∙ ap Some (eqb-true other way is))

    to : Contains entries (head, way) → (first : ℕ) × (found head entries ≡ Some first) → IsTrue (option_eq nat_eq (found head entries) (Some way))
    to has (first, there) =
        let same : way ≡ first = once first has (found_entry head first entries there) in
        ap (λ r. option_eq nat_eq r (Some way)) there ∙ eq-eqb first way (sym same)
