-- That an index of lettered documents stays one.
use Rattle.std.proofs.Common.{◌≡◌, ℕ, ◌-◌, ◌<◌, [], ◌∷◌, Bool, true, false, cond, Some, None, refl, sym, ap, ◌∙◌, arith}
use Rattle.std.specs.Prelude.{Result, Ok, Err, OnOk, OnErr}
use Rattle.std.specs.Ordering.{eq_by_cmp, nat_cmp}
use Rattle.std.specs.Cmp.{unsigned_tied}
use Rattle.std.specs.FinMap as map
use Rattle.std.specs.FinMap.{get-empty, get-insert, get-remove}
use Rattle.std.proofs.lemmas.Bool.{eqb-true}
use Rattle.std.proofs.lemmas.Cmp.{nat_cmp_total}
use Rattle.lw_index.specs.declared.parts.Document.{Document}
use Rattle.lw_index.specs.Indexed.{Indexed}
use Rattle.lw_index.specs.Lettered.{IsLettered}

same_document : (a b : Document) → Some a ≡ Some b → a ≡ b
same_document a b e = cc

no_document : (a : Document) → None ≡ Some a → ⊥
no_document a e = cc

pub lettered_insert : (index : Indexed) (n : ℕ) (d : Document) → n < 26 → d.uri ≡ (122 - n) ∷ [] → IsLettered index → IsLettered (map.insert index n d)
lettered_insert index n d small uri lettered other e is = by (eq_by_cmp nat_cmp other n) refl (sym (get-insert nat_cmp_total index n d other) ∙ is)
  where
    by : (b : Bool) → eq_by_cmp nat_cmp other n ≡ b → cond b (Some d) (map.get index other) ≡ Some e → (other < 26) × (e.uri ≡ (122 - other) ∷ [])
    by true same here =
        let at : other ≡ n = eqb-true other n (sym (unsigned_tied other n) ∙ same) in
        (omega arith, ap (λ (d : Document). d.uri) (sym (same_document d e here)) ∙ uri ∙ ap (λ k. (122 - k) ∷ []) (sym at))
    by false apart here = lettered other e here

pub lettered_remove : (index : Indexed) (n : ℕ) → IsLettered index → IsLettered (map.remove index n)
lettered_remove index n lettered other e is = by (eq_by_cmp nat_cmp other n) (sym (get-remove nat_cmp_total index n other) ∙ is)
  where
    by : (b : Bool) → cond b None (map.get index other) ≡ Some e → (other < 26) × (e.uri ≡ (122 - other) ∷ [])
    by true here = absurd (no_document e here)
    by false here = lettered other e here

pub on_either : {T E P : Type 0} (r : Result T E) → OnOk r P → OnErr r P → P
on_either (Ok x) p q = p
on_either (Err e) p q = q

pub lettered_empty : IsLettered map.empty
lettered_empty other d is = absurd (no_document d (sym (get-empty nat_cmp other) ∙ is))
