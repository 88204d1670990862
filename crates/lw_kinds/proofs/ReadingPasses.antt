-- What may read as many tokens passes, where the flags are closed.
use Rattle.std.proofs.Common.{ℕ, zero, suc, List, [], ◌∷◌, Bool, Contains, refl, sym, subst, arith}
use Rattle.lw_grammar.specs.declared.grammar.Grammar.{Grammar}
use Rattle.lw_grammar.specs.declared.rule.Element.{Element}
use Rattle.lw_grammar.specs.declared.rule.Element.TheOpen.{Element-F}
use Rattle.lw_grammar.specs.declared.rule.Value0.{Value0}
use Rattle.lw_grammar.specs.declared.rule.Value0.TheOpen.{Value0-F}
use Rattle.lw_faults.specs.Reads.{MayRead, ReadsLayer, ReadsAll, ReadsAgain, CallReads, ValueReads, ValueReadsLayer}
use Rattle.lw_faults.specs.Reads as read
use Rattle.lw_kinds.specs.Passing.{Admits, IsSettledAt, CallPasses, ValuePasses, ValuePassesLayer, SomeValuePasses, Passes, PassesLayer, EachPasses, SomePass}
use Rattle.lw_kinds.specs.Passing as pass
use Rattle.lw_kinds.proofs.AdmitLemmas.{one-Admits, Admits-first, Admits-second}

module _ (g : Grammar) (tokens : Bool) (flags : List Bool) where
  pub some_of : (es : List Element) (e : Element) → Contains es e → Passes g tokens flags e → SomePass g tokens flags es
  some_of [] e (k, inside, is) does = absurd (omega arith)
  some_of (x ∷ es) e (zero, inside, is) does = pass.this (subst (Passes g tokens flags) (sym is) does)
  some_of (x ∷ es) e (suc k, inside, is) does = pass.other (some_of es e (k, omega arith, is) does)

  pub some_value_of : (vs : List Value0) (v : Value0) → Contains vs v → ValuePasses g tokens flags v → SomeValuePasses g tokens flags vs
  some_value_of [] v (k, inside, is) does = absurd (omega arith)
  some_value_of (x ∷ vs) v (zero, inside, is) does = pass.this (subst (ValuePasses g tokens flags) (sym is) does)
  some_value_of (x ∷ vs) v (suc k, inside, is) does = pass.other (some_value_of vs v (k, omega arith, is) does)

  module _ (closed : (r : ℕ) → IsSettledAt g tokens flags r) where
    mutual
      pub element_passes : {e : Element} {n : ℕ} → MayRead g e n → Admits tokens n → Passes g tokens flags e
      element_passes (read.reads does) fits = pass.passes (layer_passes does fits)

      layer_passes : {f : Element-F Element} {n : ℕ} → ReadsLayer g f n → Admits tokens n → PassesLayer g tokens flags f
      layer_passes read.keyword fits = pass.keyword (one-Admits tokens fits)
      layer_passes (read.called does) fits = pass.called (call_passes does fits)
      layer_passes (read.assigned does) fits = pass.assigned (value_passes does fits)
      layer_passes read.acted fits = pass.acted
      layer_passes (read.grouped does) fits = pass.grouped (all_pass does fits)
      layer_passes (read.chosen {es} {e = e} has does) fits = pass.chosen (some_of es e has (element_passes does fits))
      layer_passes read.skipped fits = pass.skipped
      layer_passes (read.taken does) fits = pass.skipped
      layer_passes (read.repeated does) fits = pass.repeated
      layer_passes (read.repeated_once {m} {n} does others) fits = pass.repeated_once (element_passes does (Admits-first tokens m n fits))

      all_pass : {es : List Element} {n : ℕ} → ReadsAll g es n → Admits tokens n → EachPasses g tokens flags es
      all_pass read.none fits = pass.none
      all_pass (read.more {m} {n} does others) fits =
          pass.more (element_passes does (Admits-first tokens m n fits)) (all_pass others (Admits-second tokens m n fits))

      call_passes : {name : List ℕ} {n : ℕ} → CallReads g name n → Admits tokens n → CallPasses g tokens flags name
      call_passes (read.token none) fits = pass.token (one-Admits tokens fits) none
      call_passes (read.rule_ r rule is does) fits = pass.rule_ r rule is (closed r rule is.first.there (element_passes does fits))

      value_passes : {v : Value0} {n : ℕ} → ValueReads g v n → Admits tokens n → ValuePasses g tokens flags v
      value_passes (read.value_reads does) fits = pass.value_passes (value_layer_passes does fits)

      value_layer_passes : {f : Value0-F Value0} {n : ℕ} → ValueReadsLayer g f n → Admits tokens n → ValuePassesLayer g tokens flags f
      value_layer_passes read.keyword_value fits = pass.keyword_value (one-Admits tokens fits)
      value_layer_passes (read.call_value does) fits = pass.call_value (call_passes does fits)
      value_layer_passes (read.cross_value {name} does) fits = pass.cross_value (pass.by_name name refl (call_passes does fits))
      value_layer_passes (read.cross_by_name name is does) fits = pass.cross_value (pass.by_name name is (call_passes does fits))
      value_layer_passes (read.cross_by_none none) fits = pass.cross_value (pass.by_none (one-Admits tokens fits) none)
      value_layer_passes (read.chosen_value {vs} {v = v} has does) fits = pass.chosen_value (some_value_of vs v has (value_passes does fits))
