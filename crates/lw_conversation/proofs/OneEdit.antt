-- Opening and editing a document has one outcome.
use Rattle.std.proofs.Common.{◌≡◌, ℕ, ℤ, List, [], ◌∷◌, ◌++◌, Some, Result, codes, decimal, inl, inr, sym, refl, ap, ap₂, ◌∙◌, subst, true≢false, arith}
use Rattle.std.specs.FinMap.{insert}
use Rattle.lw_rpc.specs.declared.reply.Reply.{Reply}
use Rattle.lw_rpc.specs.declared.reply.Reply.TheVariants.{Log}
use Rattle.lw_text.specs.Changes.{Changes}
use Rattle.lw_text.specs.declared.change.Change.{Change}
use Rattle.lw_text.specs.declared.change.EditFault.{EditFault}
use Rattle.lw_text.specs.declared.units.Encoding.TheVariants.{Utf16}
use Rattle.lw_text.proofs.Outcomes.{Changes-only}
use Rattle.lw_machine.specs.Documents.{Document, Documents}
use Rattle.lw_machine.specs.Events.{edited}
use Rattle.lw_conversation.specs.Opening.{HasRoom, IsFull, OpensDocument, too_long, too_many, puts}
use Rattle.lw_conversation.specs.Editing.{IsOpenAt, IsUnknown, EditsDocument, unknown, bad_range, edits}
use Rattle.lw_conversation.specs.Editing as editing

pub never_full : {A : Type 0} (m : Documents) (address : List ℕ) → IsFull m address → HasRoom m address → A
never_full m address (absent, full) (inl held) = absurd (true≢false (sym held ∙ absent))
never_full m address (absent, full) (inr room) = absurd (omega arith)

pub one_opening : (m : Documents) (address : List ℕ) (version : ℤ) (text : List ℕ) (n o : Documents) (p q : List Reply) → OpensDocument m address version text n p →
    OpensDocument m address version text o q → (n ≡ o) × (p ≡ q)
one_opening m address version text n o p q (too_long long) (too_long also) = (refl, refl)
one_opening m address version text n o p q (too_long long) (too_many short full) = absurd (omega arith)
one_opening m address version text n o p q (too_long long) (puts short room) = absurd (omega arith)
one_opening m address version text n o p q (too_many short full) (too_long long) = absurd (omega arith)
one_opening m address version text n o p q (too_many short full) (too_many also too) = (refl, refl)
one_opening m address version text n o p q (too_many short full) (puts also room) = never_full m address full room
one_opening m address version text n o p q (puts short room) (too_long long) = absurd (omega arith)
one_opening m address version text n o p q (puts short room) (too_many also full) = never_full m address full room
one_opening m address version text n o p q (puts short room) (puts also too) = (refl, refl)

-- what a document that is open is told apart by
module _ (m : Documents) (address : List ℕ) where
  pub same_open : (d e : Document) → IsOpenAt m address d → IsOpenAt m address e → d ≡ e
  same_open d e here there = let same : Some d ≡ Some e = sym here.held ∙ there.held in cc

  pub never_unknown : {A : Type 0} (d : Document) → IsUnknown m address → IsOpenAt m address d → A
  never_unknown d closed is = absurd (true≢false (sym is.is_open ∙ closed d is.held))

-- what its changes come to
module _ (m : Documents) (address : List ℕ) (version : ℤ) (changes : List Change) where
  one_result : (d e : Document) (a b : Result (List ℕ) EditFault) → IsOpenAt m address d → IsOpenAt m address e → Changes Utf16 d.text changes a →
      Changes Utf16 e.text changes b → a ≡ b
  one_result d e a b here there first second =
      Changes-only Utf16 d.text changes a b first
      (subst (λ (x : Document). Changes Utf16 x.text changes b) (sym (same_open m address d e here there)) second)

  pub one_editing : (n o : Documents) (p q : List Reply) → EditsDocument m address version changes n p → EditsDocument m address version changes o q → (n ≡ o) × (p ≡ q)
  one_editing n o p q (unknown closed) (unknown also) = (refl, refl)
  one_editing n o p q (unknown closed) (bad_range {d = e} there second) = never_unknown m address e closed there
  one_editing n o p q (unknown closed) (editing.too_long {d = e} there second) = never_unknown m address e closed there
  one_editing n o p q (unknown closed) (edits {d = e} there second) = never_unknown m address e closed there
  one_editing n o p q (bad_range {d = d} here first) (unknown closed) = never_unknown m address d closed here
  one_editing n o p q (bad_range {d = d} {number = i} here first) (bad_range {d = e} {number = j} there second) =
      let same = one_result d e _ _ here there first second in
      let numbers : i ≡ j = cc in
      (refl, ap (λ k. Log (codes "bad range in change " ++ decimal k ++ codes " of " ++ address) ∷ []) numbers)
  one_editing n o p q (bad_range {d = d} here first) (editing.too_long {d = e} there second) =
      absurd (let same = one_result d e _ _ here there first second in cc)
  one_editing n o p q (bad_range {d = d} here first) (edits {d = e} there second) = absurd (let same = one_result d e _ _ here there first second in cc)
  one_editing n o p q (editing.too_long {d = d} here first) (unknown closed) = never_unknown m address d closed here
  one_editing n o p q (editing.too_long {d = d} here first) (bad_range {d = e} there second) =
      absurd (let same = one_result d e _ _ here there first second in cc)
  one_editing n o p q (editing.too_long here first) (editing.too_long there second) = (refl, refl)
  one_editing n o p q (editing.too_long {d = d} here first) (edits {d = e} there second) =
      absurd (let same = one_result d e _ _ here there first second in cc)
  one_editing n o p q (edits {d = d} here first) (unknown closed) = never_unknown m address d closed here
  one_editing n o p q (edits {d = d} here first) (bad_range {d = e} there second) = absurd (let same = one_result d e _ _ here there first second in cc)
  one_editing n o p q (edits {d = d} here first) (editing.too_long {d = e} there second) =
      absurd (let same = one_result d e _ _ here there first second in cc)
  one_editing n o p q (edits {d = d} {text = t} here first) (edits {d = e} {text = u} there second) =
      let same = one_result d e _ _ here there first second in
      let texts : t ≡ u = cc in
      (ap₂ (λ (x : Document) (y : List ℕ). insert m address (edited x y version)) (same_open m address d e here there) texts, refl)
