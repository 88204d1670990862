-- The pairs of an index where a document comes or goes.
use Rattle.std.proofs.Common.{◌≡◌, ℕ, Bool, true, false, cond, List, Some, None, IsTrue, Result, Ok, Err, refl, sym, ap, subst, ◌∙◌}
use Rattle.std.specs.Map.{lookup}
use Rattle.std.specs.Ordering.{eq_by_cmp, nat_cmp}
use Rattle.std.specs.Result.{OnOk, is_err}
use Rattle.std.specs.BTreeMap.{is_at}
use Rattle.std.specs.BTreeSet.{BTreeSet}
use Rattle.std.specs.FinMap as map
use Rattle.std.proofs.lemmas.Map.Lookups.{exact_unsigned}
use Rattle.std.proofs.lemmas.Map.Views.{tells_apart}
use Rattle.lw_index.specs.declared.parts.Answer.{Answer}
use Rattle.lw_index.specs.Pairs.{Pair, is_paired, LeadsInto, HeldAnswers, held_at, ArePaired}
use Rattle.lw_index.proofs.Pairing.{AllStay}

pub from_ok : {T E P : Type 0} (r : Result T E) → is_err r ≡ false → OnOk r P → P
from_ok (Ok x) is p = p
from_ok (Err x) is p = cc

pub paired_kept : (documents : HeldAnswers) (before after : BTreeSet Pair) → AllStay before after → ArePaired documents before → ArePaired documents after
paired_kept documents before after stay paired user doc answers at leads = stay (doc, user) (paired user doc answers at leads)

pub paired_same : (before after : HeldAnswers) (pairs : BTreeSet Pair) → after.entries ≡ before.entries → ArePaired before pairs → ArePaired after pairs
paired_same before after pairs same paired user doc answers at leads = paired user doc answers (sym (ap (lookup (is_at (nat_cmp user))) same) ∙ at) leads

module _ (before after : HeldAnswers) (k : ℕ) (pairs : BTreeSet Pair) where
  pub paired_with : (answers : List Answer) → ((q : ℕ) → held_at after q ≡ cond (eq_by_cmp nat_cmp k q) (Some answers) (held_at before q)) → ArePaired before pairs →
      ((doc : ℕ) → LeadsInto answers doc → IsTrue (is_paired pairs (doc, k))) → ArePaired after pairs
  paired_with answers at paired entered user doc other is leads = by (eq_by_cmp nat_cmp k user) refl (sym (at user) ∙ is)
    where
      one : Some answers ≡ Some other → other ≡ answers
      one e = cc

      by : (b : Bool) → eq_by_cmp nat_cmp k user ≡ b → cond b (Some answers) (held_at before user) ≡ Some other → IsTrue (is_paired pairs (doc, user))
      by true same now = subst (λ (n : ℕ). IsTrue (is_paired pairs (doc, n))) (tells_apart exact_unsigned k user same) (entered doc (subst (λ (list : List Answer). LeadsInto list doc) (one now) leads))
      by false same now = paired user doc other now leads

  pub paired_without : ((q : ℕ) → held_at after q ≡ cond (eq_by_cmp nat_cmp k q) None (held_at before q)) → ArePaired before pairs → ArePaired after pairs
  paired_without at paired user doc other is leads = by (eq_by_cmp nat_cmp k user) (sym (at user) ∙ is)
    where
      by : (b : Bool) → cond b None (held_at before user) ≡ Some other → IsTrue (is_paired pairs (doc, user))
      by true now = cc
      by false now = paired user doc other now leads
