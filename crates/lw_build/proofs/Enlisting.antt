-- What stands once numbers are put in and taken out.
use Rattle.std.proofs.Common.{◌≡◌, ℕ, Bool, true, false, Result, Ok, Err, OnOk, is_err, refl, subst}
use Rattle.std.specs.BTreeMap.{is_at}
use Rattle.std.specs.BTreeSet.{Updates}
use Rattle.std.specs.Ordering.{nat_cmp}
use Rattle.std.proofs.lemmas.Bool.{true≢false}
use Rattle.lw_docs.specs.Documents.{ByAddress, IsHeld}
use Rattle.lw_build.specs.Standing.{AreHeld, IsUntouched}
use Rattle.lw_build.specs.declared.standing.Standing.{Standing}
use Rattle.lw_build.proofs.Maps.{number_tied}
use Rattle.lw_build.proofs.Sets.{put_beside, put_in, was_there}

-- what succeeds holds
pub not_err : {A E : Type 0} {P : Type 0} (r : Result A E) → OnOk r P → is_err r ≡ false → P
not_err (Ok x) is right = is
not_err (Err e) is right = absurd (true≢false right)

module _ (kept : ByAddress) (before after : Standing) (k : ℕ) (updates : Updates nat_cmp before.untouched after.untouched k true) where
  pub enlisted_here : IsUntouched after k
  enlisted_here = put_in nat_cmp before.untouched after.untouched k updates

  pub enlisted_still : (n : ℕ) → IsUntouched before n → IsUntouched after n
  enlisted_still n = put_beside nat_cmp before.untouched after.untouched k n updates

  pub enlisted_held : AreHeld kept before → IsHeld kept (record { 0 = k }) → AreHeld kept after
  enlisted_held are held n has = by (is_at (nat_cmp k) n) refl
    where
      by : (b : Bool) → is_at (nat_cmp k) n ≡ b → IsHeld kept (record { 0 = n })
      by true tied = subst (λ (m : ℕ). IsHeld kept (record { 0 = m })) (number_tied k n tied) held
      by false other = are n (was_there nat_cmp before.untouched after.untouched k n updates other has)
