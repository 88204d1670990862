-- What passes may read as many tokens, where each flag that is set is just.
use Rattle.std.proofs.Common.{ℕ, suc, ◌+◌, List, ◌∷◌, Bool, Option, Some, None, Contains, refl, sym, subst, arith}
use Rattle.lw_grammar.specs.declared.grammar.Grammar.{Grammar}
use Rattle.lw_grammar.specs.declared.rule.Element.{Element}
use Rattle.lw_grammar.specs.declared.rule.Element.TheOpen.{Element-F}
use Rattle.lw_grammar.specs.declared.rule.Value0.{Value0}
use Rattle.lw_grammar.specs.declared.rule.Value0.TheOpen as value
use Rattle.lw_grammar.specs.declared.rule.Value0.TheOpen.{Value0-F}
use Rattle.lw_base.specs.declared.token.Span.{Span}
use Rattle.lw_faults.specs.Reads.{MayRead, ReadsLayer, ReadsAll, CallReads, ValueReads, ValueReadsLayer}
use Rattle.lw_faults.specs.Reads as read
use Rattle.lw_kinds.specs.Crossing.{IsReadBy}
use Rattle.lw_kinds.specs.Passing.{Admits, MayPass, IsJust, CallPasses, CrossPasses, ValuePasses, ValuePassesLayer, SomeValuePasses, Passes, PassesLayer, EachPasses, SomePass}
use Rattle.lw_kinds.specs.Passing as pass
use Rattle.lw_kinds.proofs.AdmitLemmas.{Admits-zero, Admits-one, Admits-both}

pub at_front : {X : Type 0} (x : X) (xs : List X) → Contains (x ∷ xs) x
at_front x xs = (0, omega arith, refl)

pub further : {X : Type 0} (x : X) (xs : List X) (y : X) → Contains xs y → Contains (x ∷ xs) y
further x xs y (k, inside, is) = (suc k, omega arith, is)

module _ (g : Grammar) (tokens : Bool) (flags : List Bool) (just : IsJust g tokens flags) where
  -- as many tokens of those that may be read
  abbrev Reads : (ℕ → Type 0) → Type 0
  Reads P = (n : ℕ) × Admits tokens n × P n

  call_reads : {name : List ℕ} → CallPasses g tokens flags name → Reads (CallReads g name)
  call_reads (pass.token allowed none) = (1, Admits-one tokens allowed, read.token none)
  call_reads (pass.rule_ r rule is set) =
      let may = just r rule is.first.there set in (may.0, may.1, read.rule_ r rule is may.2)

  by_name_reads : {wanted : List ℕ} (rule : Option (List ℕ)) {s : Span} (name : List ℕ) → IsReadBy g wanted rule name → Reads (CallReads g name) →
      Reads (ValueReadsLayer g (value.Cross wanted rule s))
  by_name_reads None name is (n, fits, does) = (n, fits, read.cross_by_name name is does)
  by_name_reads {wanted} (Some written) {s} name is (n, fits, does) =
      (n, fits, subst (λ x. ValueReadsLayer g (value.Cross wanted (Some x) s) n) (sym is) (read.cross_value does))

  by_none_reads : {wanted : List ℕ} (rule : Option (List ℕ)) {s : Span} → ((name : List ℕ) → ¬ IsReadBy g wanted rule name) → ValueReadsLayer g (value.Cross wanted rule s) 1
  by_none_reads None none = read.cross_by_none none
  by_none_reads (Some written) none = absurd (none written refl)

  cross_reads : {wanted : List ℕ} (rule : Option (List ℕ)) {s : Span} → CrossPasses g tokens flags wanted rule → Reads (ValueReadsLayer g (value.Cross wanted rule s))
  cross_reads rule (pass.by_name name is does) = by_name_reads rule name is (call_reads does)
  cross_reads rule (pass.by_none allowed none) = (1, Admits-one tokens allowed, by_none_reads rule none)

  mutual
    value_reads : {v : Value0} → ValuePasses g tokens flags v → Reads (ValueReads g v)
    value_reads (pass.value_passes does) = let r = value_layer_reads does in (r.0, r.1, read.value_reads r.2)

    value_layer_reads : {f : Value0-F Value0} → ValuePassesLayer g tokens flags f → Reads (ValueReadsLayer g f)
    value_layer_reads (pass.keyword_value allowed) = (1, Admits-one tokens allowed, read.keyword_value)
    value_layer_reads (pass.call_value does) = let r = call_reads does in (r.0, r.1, read.call_value r.2)
    value_layer_reads (pass.cross_value {rule} does) = cross_reads rule does
    value_layer_reads (pass.chosen_value does) = let r = some_value_reads does in (r.1.0, r.1.1, read.chosen_value r.2 r.1.2)

    some_value_reads : {vs : List Value0} → SomeValuePasses g tokens flags vs → (v : Value0) × Reads (ValueReads g v) × Contains vs v
    some_value_reads (pass.this {v} {vs} does) = (v, value_reads does, at_front v vs)
    some_value_reads (pass.other {v} {vs} does) = let r = some_value_reads does in (r.0, r.1, further v vs r.0 r.2)

  mutual
    pub element_reads : {e : Element} → Passes g tokens flags e → Reads (MayRead g e)
    element_reads (pass.passes does) = let r = layer_reads does in (r.0, r.1, read.reads r.2)

    layer_reads : {f : Element-F Element} → PassesLayer g tokens flags f → Reads (ReadsLayer g f)
    layer_reads (pass.keyword allowed) = (1, Admits-one tokens allowed, read.keyword)
    layer_reads (pass.called does) = let r = call_reads does in (r.0, r.1, read.called r.2)
    layer_reads (pass.assigned does) = let r = value_reads does in (r.0, r.1, read.assigned r.2)
    layer_reads pass.acted = (0, Admits-zero tokens, read.acted)
    layer_reads (pass.grouped does) = let r = all_read does in (r.0, r.1, read.grouped r.2)
    layer_reads (pass.chosen does) = let r = some_reads does in (r.1.0, r.1.1, read.chosen r.2 r.1.2)
    layer_reads pass.skipped = (0, Admits-zero tokens, read.skipped)
    layer_reads pass.repeated = (0, Admits-zero tokens, read.repeated read.stop)
    layer_reads (pass.repeated_once does) =
        let r = element_reads does in (r.0 + 0, Admits-both tokens r.0 0 r.1 (Admits-zero tokens), read.repeated_once r.2 read.stop)

    all_read : {es : List Element} → EachPasses g tokens flags es → Reads (ReadsAll g es)
    all_read pass.none = (0, Admits-zero tokens, read.none)
    all_read (pass.more does others) =
        let r = element_reads does in let q = all_read others in (r.0 + q.0, Admits-both tokens r.0 q.0 r.1 q.1, read.more r.2 q.2)

    some_reads : {es : List Element} → SomePass g tokens flags es → (e : Element) × Reads (MayRead g e) × Contains es e
    some_reads (pass.this {e} {es} does) = (e, element_reads does, at_front e es)
    some_reads (pass.other {e} {es} does) = let r = some_reads does in (r.0, r.1, further e es r.0 r.2)
