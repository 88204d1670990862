-- A table that is widened stays sound, and is closed once nothing is added.
use Rattle.std.proofs.Common.{Result, Ok, Err, IfOk, OnOk, get_or, ◌≡◌, ◌↔◌, ◌⊎◌, ℕ, ◌+◌, ◌<◌, Bool, true, false, List, Some, length, slice_get, Contains, refl, sym, ap, ◌∙◌, subst, inl, inr, arith, true≢false, if◌then◌else◌}
use Rattle.std.proofs.lemmas.Bool.{cases_eq}
use Rattle.std.proofs.lemmas.Option.{same_Some, slice_get_read}
use Rattle.lw_grammar.specs.declared.grammar.Grammar.{Grammar}
use Rattle.lw_grammar.specs.declared.rule.Element.{Element}
use Rattle.lw_grammar.specs.declared.rule.Element.TheOpen.{Element-F}
use Rattle.lw_grammar.specs.declared.rule.Rule.{Rule}
use Rattle.lw_flow.specs.declared.effect.Effect.{Effect}
use Rattle.lw_flow.specs.Passing.{Does, DoesLayer, DoesFirst}
use Rattle.lw_flow.specs.Passing as pass
use Rattle.lw_flow.specs.Fixed.{Widens, WidensBelow}
use Rattle.std.specs.HashSet.{HashSet}
use Rattle.lw_flow.specs.contracts.effect.EffectPartialEq.TheImpl.{eq-value}
use Rattle.lw_flow.specs.Rows.{InTable, RowPut}
use Rattle.lw_flow.proofs.PassingLemmas.{goes_so}
use Rattle.lw_flow.proofs.SetLemmas.{effect_exact}
use Rattle.lw_flow.proofs.TableLemmas.{row_put, row_kept, row_length}

module _ (g : Grammar) where
  -- with more in the table, more may be done
  module _ {old new : ℕ → Effect → Type 0} (into : (f : ℕ) (x : Effect) → old f x → new f x) where
    mutual
      pub does_more : {e : Element} {x : Effect} → Does g old e x → Does g new e x
      does_more (pass.does may) = pass.does (layer_more may)

      layer_more : {f : Element-F Element} {x : Effect} → DoesLayer g old f x → DoesLayer g new f x
      layer_more DoesLayer.keyword = DoesLayer.keyword
      layer_more (DoesLayer.called single may) = DoesLayer.called single may
      layer_more (DoesLayer.put_in {x} f fragment is there) = DoesLayer.put_in f fragment is (into f x there)
      layer_more DoesLayer.assigned = DoesLayer.assigned
      layer_more DoesLayer.acted = DoesLayer.acted
      layer_more (DoesLayer.grouped first) = DoesLayer.grouped (first_more first)
      layer_more (DoesLayer.chosen has may) = DoesLayer.chosen has (does_more may)
      layer_more DoesLayer.skipped = DoesLayer.skipped
      layer_more (DoesLayer.taken may) = DoesLayer.taken (does_more may)
      layer_more DoesLayer.stopped = DoesLayer.stopped
      layer_more (DoesLayer.repeated may) = DoesLayer.repeated (does_more may)
      layer_more (DoesLayer.repeated_once may) = DoesLayer.repeated_once (does_more may)

      first_more : {es : List Element} {k : ℕ} {x : Effect} → DoesFirst g old es k x → DoesFirst g new es k x
      first_more pass.nothing = pass.nothing
      first_more (pass.one_more first at may) = pass.one_more (first_more first) at (does_more may)

  -- ---- one fragment

  pub widens_none : (n : ℕ) (rule : Rule) (table : ℕ → Effect → Type 0) → slice_get g.rules n ≡ Some rule → rule.is_fragment ≡ false → Widens g n false table table
  widens_none n rule table at whole = record {
    kept = λ f x there. there;
    sound = λ sound. sound;
    put = λ other x also part may.
        absurd (true≢false (sym part ∙ ap (λ (r : Rule). r.is_fragment) (same_Some other rule (sym also ∙ at)) ∙ whole));
    none = λ _ f x there. there;
  }

  widens_one : (n : ℕ) (rule : Rule) (grown : Bool) (old new : ℕ → Effect → Type 0) (found : List Effect) → slice_get g.rules n ≡ Some rule →
      ((x : Effect) → Contains found x ↔ Does g old rule.body x) → ((f : ℕ) (x : Effect) → new f x ↔ (old f x ⊎ ((f ≡ n) × Contains found x))) →
      (grown ≡ false → (f : ℕ) (x : Effect) → new f x → old f x) → Widens g n grown old new
  widens_one n rule grown old new found at exact put none = record {
    kept = λ f x there. (put f x).1 (inl there);
    sound = λ sound f x there. elim ((put f x).0 there) [
      | inl was ↦ sound f x was
      | inr (is, has) ↦ (rule, ap (slice_get g.rules) is ∙ at, goes_so g old sound rule ((exact x).0 has))
    ];
    put = λ other x also part may.
        (put n x).1 (inr (refl, (exact x).1 (subst (λ (r : Rule). Does g old r.body x) (same_Some other rule (sym also ∙ at)) may)));
    none = none;
  }

  -- ---- all of them

  below_more : (n : ℕ) (grown more : Bool) (old mid new : ℕ → Effect → Type 0) → WidensBelow g n grown old mid → Widens g n more mid new →
      WidensBelow g (n + 1) (if more then true else grown) old new
  below_more n grown true old mid new before one = record { sound = λ sound. one.sound (before.sound sound); closed = λ not. absurd (true≢false not) }
  below_more n grown false old mid new before one = record {
    sound = λ sound. one.sound (before.sound sound);
    closed = λ not f rule x lt at part may. elim (cases_eq f n) [
      | inl same ↦
          subst (λ k. new k x) (sym same)
          (one.put rule x (ap (slice_get g.rules) (sym same) ∙ at) part (does_more {old = new} {new = mid} (one.none refl) may))
      | inr apart ↦
          one.kept f x (before.closed not f rule x (omega (arith, lt, apart)) at part (does_more {old = new} {new = mid} (one.none refl) may))
    ];
  }

  pub below_step : (n : ℕ) (grown more after : Bool) (old mid new : ℕ → Effect → Type 0) → WidensBelow g n grown old mid → Widens g n more mid new →
      ((more ≡ true) × (after ≡ true)) ⊎ ((more ≡ false) × (after ≡ grown)) → WidensBelow g (n + 1) after old new
  below_step n grown more after old mid new before one (inl (grew, is)) =
      subst (λ b. WidensBelow g (n + 1) b old new) (ap (λ b. if b then true else grown) grew ∙ sym is) (below_more n grown more old mid new before one)
  below_step n grown more after old mid new before one (inr (stayed, is)) =
      subst (λ b. WidensBelow g (n + 1) b old new) (ap (λ b. if b then true else grown) stayed ∙ sym is) (below_more n grown more old mid new before one)

  module _ {S E : Type 0} (n : ℕ) (rule : Rule) (old new : List (HashSet Effect S)) (xs found : List Effect) (at : slice_get g.rules n ≡ Some rule) (same : xs ≡ found)
      (exact : (x : Effect) → Contains found x ↔ Does g (InTable old) rule.body x) where
    pub widened : (r : Result Bool E) → IfOk r (λ grown. RowPut (eq-value).it n xs grown old new) → IfOk r (λ grown. Widens g n grown (InTable old) (InTable new))
    widened (Ok grown) put =
        widens_one n rule grown (InTable old) (InTable new) xs at (subst (λ zs. (x : Effect) → Contains zs x ↔ Does g (InTable old) rule.body x) (sym same) exact)
        (row_put effect_exact put) (row_kept effect_exact put)
    widened (Err e) put = tt

    pub widened_length : (r : Result Bool E) → IfOk r (λ grown. RowPut (eq-value).it n xs grown old new) → OnOk r (length new ≡ length old)
    widened_length (Ok grown) put = row_length effect_exact put
    widened_length (Err e) put = tt

-- what is read at a place
pub rule_at : {X : Type 0} (xs ys : List X) (n : ℕ) (x : X) → xs ≡ ys → n < length ys → x ≡ get_or xs n x → slice_get ys n ≡ Some x
rule_at xs ys n x same inside is = slice_get_read ys (length ys) n x refl inside (is ∙ ap (λ zs. get_or zs n x) same)
