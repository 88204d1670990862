-- The documents of an index as a map, from the tree that they are kept in.
use Rattle.std.proofs.Common.{◌≡◌, ℕ, List, [], ◌∷◌, cond, Option, Some, None, refl, sym, ap, ◌∙◌}
use Rattle.std.specs.Option.{option_map_or}
use Rattle.std.specs.Map.{lookup}
use Rattle.std.specs.Ordering.{eq_by_cmp, nat_cmp}
use Rattle.std.specs.BTreeMap.{is_at}
use Rattle.std.specs.FinMap as map
use Rattle.std.specs.FinMap.{find, get-from_entries, get-insert, get-remove, same_map, nat_cmp-IsAntisymmetric}
use Rattle.std.proofs.lemmas.Cmp.{nat_cmp_total, eq_by_cmp_equiv}
use Rattle.lw_index.specs.declared.parts.Answer.{Answer}
use Rattle.lw_index.specs.declared.parts.Target.{Target}
use Rattle.lw_index.specs.declared.refs.slot.SlotId.{SlotId}
use Rattle.lw_index.specs.Led.{Led, answers_in}
use Rattle.lw_index.specs.Users.{IsUser}
use Rattle.lw_index.specs.Pairs.{HeldAnswers, held_at, IsHeldUser}

abbrev pub led_by : HeldAnswers → Led
led_by documents = map.from_entries {R = nat_cmp} documents.entries

find_lookup : (q : ℕ) (es : List (ℕ × List Answer)) → find nat_cmp q es ≡ lookup (is_at (nat_cmp q)) es
find_lookup q [] = refl
find_lookup q (e ∷ es) = ap (cond (eq_by_cmp nat_cmp q e.0) (Some e.1)) (find_lookup q es)

pub led_get : (documents : HeldAnswers) (q : ℕ) → map.get (led_by documents) q ≡ held_at documents q
led_get documents q = get-from_entries nat_cmp_total documents.entries q ∙ find_lookup q documents.entries

turned_round : (k q : ℕ) (x y : Option (List Answer)) → cond (eq_by_cmp nat_cmp k q) x y ≡ cond (eq_by_cmp nat_cmp q k) x y
turned_round k q x y = ap (λ b. cond b x y) ((eq_by_cmp_equiv nat_cmp_total).symm k q)

module _ (before after : HeldAnswers) (k : ℕ) where
  pub led_insert : (answers : List Answer) → ((q : ℕ) → held_at after q ≡ cond (eq_by_cmp nat_cmp k q) (Some answers) (held_at before q)) → led_by after ≡ map.insert (led_by before) k answers
  led_insert answers at =
      same_map nat_cmp_total nat_cmp-IsAntisymmetric _ _ (λ q.
      led_get after q ∙ at q ∙ turned_round k q (Some answers) (held_at before q) ∙ ap (cond (eq_by_cmp nat_cmp q k) (Some answers)) (sym (led_get before q))
      ∙ sym (get-insert nat_cmp_total (led_by before) k answers q))

  pub led_remove : ((q : ℕ) → held_at after q ≡ cond (eq_by_cmp nat_cmp k q) None (held_at before q)) → led_by after ≡ map.remove (led_by before) k
  led_remove at =
      same_map nat_cmp_total nat_cmp-IsAntisymmetric _ _ (λ q.
      led_get after q ∙ at q ∙ turned_round k q None (held_at before q) ∙ ap (cond (eq_by_cmp nat_cmp q k) None) (sym (led_get before q))
      ∙ sym (get-remove nat_cmp_total (led_by before) k q))

module _ (documents : HeldAnswers) (led : Led) (is : led_by documents ≡ led) where
  held : (q : ℕ) → map.get led q ≡ held_at documents q
  held q = ap (λ v. map.get v q) (sym is) ∙ led_get documents q

  pub answers_held : (q : ℕ) (found : Option (List Answer)) → found ≡ held_at documents q → option_map_or (λ answers. answers) found [] ≡ answers_in led q
  answers_held q found at = ap (λ o. option_map_or (λ answers. answers) o []) (at ∙ sym (held q))

  pub user_if : (target : Target) (slot : SlotId) → IsHeldUser documents target slot → IsUser led target slot
  user_if target slot one = record { answers = one.answers; given = held slot.doc.0 ∙ one.given; leads = one.leads }

  pub if_user : (target : Target) (slot : SlotId) → IsUser led target slot → IsHeldUser documents target slot
  if_user target slot one = record { answers = one.answers; given = sym (held slot.doc.0) ∙ one.given; leads = one.leads }
