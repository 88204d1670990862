-- Where answers lead, and which references an index has for a node.
use Rattle.std.proofs.Common.{ℕ, zero, suc, ◌≡◌, List, [], Option, Some, None, slice_get, refl, sym, ap, subst, ◌∙◌}
use Rattle.std.specs.FinMap as map
use Rattle.std.specs.Option.{option_map_or}
use Rattle.std.proofs.lemmas.Option.{same_Some}
use Rattle.lw_index.specs.declared.parts.Answer.{Answer}
use Rattle.lw_index.specs.declared.parts.Answer.TheVariants.{Found, Missing}
use Rattle.lw_index.specs.declared.parts.Target.{Target}
use Rattle.lw_index.specs.Led.{Led, answers_in}
use Rattle.lw_index.specs.Users.{IsUser}
use Rattle.lw_index.specs.declared.refs.slot.SlotId.{SlotId}
use Rattle.lw_scoping.specs.Links.{Link}
use Rattle.lw_query.specs.Viewed.{LeadsAs, found, missing}
use Rattle.lw_query.proofs.Rows.{differ}

module _ (Stands : ℕ → List ℕ → Type 0) where
  -- the same by cases of the answer
  abbrev pub IsLed : Answer → Link → Type 0
  IsLed (Found target) link = (address : List ℕ) × Stands target.doc.0 address × (link ≡ Some (address, target.node.0))
  IsLed Missing link = link ≡ None

  pub is_led : (answer : Answer) (link : Link) → LeadsAs Stands answer link → IsLed answer link
  is_led answer link (found {address = address} stands) = (address, stands, refl)
  is_led answer link missing = refl

  -- the answer that leads to a node, where each address has one number
  pub found_by : ((n m : ℕ) (address : List ℕ) → Stands n address → Stands m address → n ≡ m) → (target : Target) (address : List ℕ) →
      Stands target.doc.0 address → (answer : Answer) → LeadsAs Stands answer (Some (address, target.node.0)) → answer ≡ Found target
  found_by one_number target address stands answer leads = by answer (is_led answer (Some (address, target.node.0)) leads)
    where
      by : (a : Answer) → IsLed a (Some (address, target.node.0)) → a ≡ Found target
      by Missing is = absurd (differ (sym is))
      by (Found other) (there, stands_there, is) =
          let place : (address, target.node.0) ≡ (there, other.node.0) = same_Some (address, target.node.0) (there, other.node.0) is in
          let same : there ≡ address = sym (ap (λ (p : List ℕ × ℕ). p.0) place) in
          let node : other.node.0 ≡ target.node.0 = sym (ap (λ (p : List ℕ × ℕ). p.1) place) in
          let doc : other.doc.0 ≡ target.doc.0 = one_number other.doc.0 target.doc.0 address (subst (Stands other.doc.0) same stands_there) stands in
          λ i. Found (record { doc = record { 0 = doc i }; node = record { 0 = node i } })

-- ---- the index of references

no_user : {A : Type 0} (i : ℕ) {answer : Answer} → slice_get [] i ≡ Some answer → A
no_user zero is = cc
no_user (suc i) is = cc

pub user_of : (led : Led) (target : Target) (slot : SlotId) →
    slice_get (answers_in led slot.doc.0) slot.reference.0 ≡ Some (Found target) → IsUser led target slot
user_of led target slot at = by (map.get led slot.doc.0) refl at
  where
    by : (given : Option (List Answer)) → map.get led slot.doc.0 ≡ given →
        slice_get (option_map_or (λ answers. answers) given []) slot.reference.0 ≡ Some (Found target) → IsUser led target slot
    by None is there = no_user slot.reference.0 there
    by (Some answers) is there = record { answers = answers; given = is; leads = there }

pub answer_of_user : (led : Led) (target : Target) (slot : SlotId) → IsUser led target slot →
    slice_get (answers_in led slot.doc.0) slot.reference.0 ≡ Some (Found target)
answer_of_user led target slot is =
    ap (λ (given : Option (List Answer)). slice_get (option_map_or (λ answers. answers) given []) slot.reference.0) is.given ∙ is.leads
