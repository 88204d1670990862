-- What is told of a place hangs on later places alone.
use Rattle.std.proofs.Common.{◌≡◌, ℕ, ◌+◌, ◌<◌, ◌≤◌, List, Bool, Some, length, slice_get, set, IsTrue, ◌↔◌, sym, ap, ◌∙◌, subst, arith, inl, inr}
use Rattle.std.proofs.lemmas.Option.{same_Some}
use Rattle.std.proofs.lemmas.Bool.{cases_lt}
use Rattle.lw_program.specs.declared.instr.Instr.{Instr}
use Rattle.lw_program.specs.declared.instr.Instr.TheVariants.{Token, End, Shut, Act, Row, Choice, Maybe, Loop, Once, Put, Call}
use Rattle.lw_program.specs.Says.{NamesLater}
use Rattle.lw_program.proofs.Lists.{slice_get_written, slice_get_beside}
use Rattle.lw_viable.specs.EmptyBy.{IsFlagged, IsEmptyBy, AreEmptyFrom, NameLater}
use Rattle.lw_viable.proofs.BeginsMade.{flag_tells}

module _ (calls : List Bool) (code : List Instr) (later : NameLater code) where
  -- flags that are equal at later places tell the same of a place
  same_later : (one other : List Bool) (p : ℕ) → ((q : ℕ) → p < q → slice_get one q ≡ slice_get other q) → (instr : Instr) → NamesLater p instr →
      IsEmptyBy calls code one instr → IsEmptyBy calls code other instr
  same_later one other p same (Token k) names is = is
  same_later one other p same End names is = is
  same_later one other p same Shut names is = is
  same_later one other p same (Act n) names is = is
  same_later one other p same (Row first end) names is = λ q from below. sym (same q (omega arith)) ∙ is q from below
  same_later one other p same (Choice point first end) names (q, from, below, is) = (q, from, below, sym (same q (omega arith)) ∙ is)
  same_later one other p same (Maybe point inner) names is = is
  same_later one other p same (Loop point inner) names is = is
  same_later one other p same (Once rest) names (point, inner, at, is) =
      let behind : rest < inner = later rest (Loop point inner) at in (point, inner, at, sym (same inner (omega arith)) ∙ is)
  same_later one other p same (Put n first) names is = sym (same first names) ∙ is
  same_later one other p same (Call r) names is = is

  -- one more place is told, the last of those before
  pub one_place_more : (empty : List Bool) (p : ℕ) (instr : Instr) (flag : Bool) → p < length empty → slice_get code p ≡ Some instr →
      AreEmptyFrom calls code empty (p + 1) → (IsTrue flag ↔ IsEmptyBy calls code empty instr) → AreEmptyFrom calls code (set empty p flag) p
  one_place_more empty p instr flag below at told tells q other from there =
      elim (cases_lt p q) [
        | inl after ↦
            let was = told q other (omega arith) there in
            let beside = slice_get_beside empty p q flag (omega arith) in
            (λ flagged. away q other after there (was.0 (sym beside ∙ flagged)), λ is. beside ∙ was.1 (back q other after there is))
        | inr here ↦
            let same : p ≡ q = omega arith in
            let is_instr = same_Some instr other (sym at ∙ ap (slice_get code) same ∙ there) in
            subst (λ q. IsFlagged (set empty p flag) q ↔ IsEmptyBy calls code (set empty p flag) other) same
            (subst (λ instr. IsFlagged (set empty p flag) p ↔ IsEmptyBy calls code (set empty p flag) instr) is_instr
            (flag_tells (IsEmptyBy calls code (set empty p flag) instr) (set empty p flag) p
            (flag, slice_get_written empty p flag below, (λ t. to p instr at (omega arith) (tells.0 t), λ is. tells.1 (fro p instr at (omega arith) is)))))
      ]
    where
      to : (q : ℕ) (other : Instr) → slice_get code q ≡ Some other → p ≤ q → IsEmptyBy calls code empty other → IsEmptyBy calls code (set empty p flag) other
      to q other there from is =
          same_later empty (set empty p flag) q (λ r behind. sym (slice_get_beside empty p r flag (omega arith))) other (later q other there) is

      fro : (q : ℕ) (other : Instr) → slice_get code q ≡ Some other → p ≤ q → IsEmptyBy calls code (set empty p flag) other → IsEmptyBy calls code empty other
      fro q other there from is = same_later (set empty p flag) empty q (λ r behind. slice_get_beside empty p r flag (omega arith)) other (later q other there) is

      away : (q : ℕ) (other : Instr) → p < q → slice_get code q ≡ Some other → IsEmptyBy calls code empty other → IsEmptyBy calls code (set empty p flag) other
      away q other after there is = to q other there (omega arith) is

      back : (q : ℕ) (other : Instr) → p < q → slice_get code q ≡ Some other → IsEmptyBy calls code (set empty p flag) other → IsEmptyBy calls code empty other
      back q other after there is = fro q other there (omega arith) is
