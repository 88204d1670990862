-- What things that are to be done give, they give when they are done a step at a time.
use Rattle.std.proofs.Common.{◌≡◌, ℕ, suc, ◌+◌, List, [], ◌∷◌, ◌++◌, Some, slice_get, refl, sym, ap, ◌∙◌, subst, append_assoc, arith}
use Rattle.lw_grammar.specs.declared.grammar.Grammar.{Grammar}
use Rattle.lw_grammar.specs.declared.rule.Element.{Element}
use Rattle.lw_grammar.specs.declared.rule.Element.TheOpen.{Element-F}
use Rattle.lw_grammar.specs.declared.rule.Value0.{Value0}
use Rattle.lw_grammar.specs.declared.rule.Value0.TheOpen.{Value0-F}
use Rattle.lw_grammar.specs.declared.rule.Op.{Op}
use Rattle.lw_grammar.specs.declared.rule.Rule.{Rule}
use Rattle.lw_grammar.specs.Kinds.{Kinds}
use Rattle.lw_grammar.specs.Marks.{Mark}
use Rattle.lw_grammar.specs.Marks as mark
use Rattle.lw_grammar.specs.Yields.{Yields, Gives, YieldsAll, Repeats, Calls, RuleGives, ValueYields, ValueGives}
use Rattle.lw_grammar.specs.Yields as y
use Rattle.lw_look.specs.Sites.{PartSite, ◌▸◌, Body, Value, IsPartAt, ElementAt, ValueAt, RepeatedAt, ValueCallsAt}
use Rattle.lw_look.specs.Sites as site
use Rattle.lw_look.specs.Things.{Thing, Do, Assigned, Again, Leave, parts_from, ThingGives, RestGives, RuleEnters, Entering, StepsTo}
use Rattle.lw_look.specs.Things as t
use Rattle.lw_base.proofs.Lists.{place_of}
use Rattle.lw_look.proofs.Standing.{layer_part_stands, way_stands, repeated_stands}
use Rattle.lw_look.proofs.OneStep.{row_stands, rest_step_gives}

module _ (g : Grammar) (kinds : Kinds) where
  -- these things, done a step at a time to the end, leave these marks
  pub data StepsGive : List Thing → List Mark → Type 0 where
    done : StepsGive [] []
    step : {x : Thing} {l n : List Mark} {xs rest : List Thing} → StepsTo g kinds x l xs → StepsGive (xs ++ rest) n → StepsGive (x ∷ rest) (l ++ n)

  -- a rule that is entered, and then the rest, a step at a time
  record RuleThen (r : ℕ) (rule : Rule) (rest : List Thing) (m : List Mark) : Type 0 where
    left : List Mark
    things : List Thing
    others : List Mark
    enters : RuleEnters g kinds r rule left things
    steps : StepsGive (things ++ rest) others
    are : m ≡ left ++ others

  -- the same of a call by name
  record CallThen (name : List ℕ) (rest : List Thing) (m : List Mark) : Type 0 where
    left : List Mark
    things : List Thing
    others : List Mark
    entering : Entering g kinds name left things
    steps : StepsGive (things ++ rest) others
    are : m ≡ left ++ others

  regrouped : {xs : List Thing} (a b n : List Mark) → StepsGive xs (a ++ (b ++ n)) → StepsGive xs ((a ++ b) ++ n)
  regrouped {xs} a b n q = subst (StepsGive xs) (sym (append_assoc a b n)) q

  called_value_then : {s : PartSite} {p : List ℕ} {op : Op} {v : Value0} {name : List ℕ} {rest : List Thing} (m n : List Mark) → ValueCallsAt g s v name →
      CallThen name (Leave mark.End ∷ rest) (m ++ mark.End ∷ n) → StepsGive (Assigned p op s ∷ rest) ((mark.Put p op v ∷ m ++ mark.End ∷ []) ++ n)
  called_value_then {s} {p} {op} {v} {rest} m n at e =
      subst (StepsGive (Assigned p op s ∷ rest)) (ap (λ m. mark.Put p op v ∷ m) (sym (append_assoc m (mark.End ∷ []) n ∙ e.are)))
      (step (t.called_value at e.entering) (subst (λ xs. StepsGive xs e.others) (sym (append_assoc e.things (Leave mark.End ∷ []) rest)) e.steps))

  mutual
    element_then : {s : PartSite} {e : Element} {m n : List Mark} {rest : List Thing} → Yields g kinds e m → IsPartAt g s (Body e) → StepsGive rest n →
        StepsGive (Do s ∷ rest) (m ++ n)
    element_then (y.yields p) stands q = layer_then p (site.element_at stands) q

    layer_then : {s : PartSite} {f : Element-F Element} {m n : List Mark} {rest : List Thing} → Gives g kinds f m → ElementAt g s f → StepsGive rest n →
        StepsGive (Do s ∷ rest) (m ++ n)
    layer_then (y.keyword is) at q = step (t.keyword at is) q
    layer_then {s} {rest} (y.called c) at q =
        let e = call_then c q in subst (StepsGive (Do s ∷ rest)) (sym e.are) (step (t.called at e.entering) e.steps)
    layer_then (y.assigned p) at q = step (t.assigned at) (value_then p (layer_part_stands g at refl) q)
    layer_then y.acted at q = step (t.acted at) q
    layer_then {s} (y.grouped all) at q = step (t.row (site.row at)) (row_then all s 0 (row_stands g kinds (site.row at)) q)
    layer_then (y.chosen {es} {e} has p) at q =
        let (i, is) = place_of es e has in
        step (t.chosen (t.alternative (site.element at is))) (element_then p (way_stands g (site.element at is)) q)
    layer_then y.skipped at q = step (t.chosen (t.passes (site.optional at))) q
    layer_then (y.taken p) at q = step (t.chosen (t.enters (site.optional at))) (element_then p (layer_part_stands g at refl) q)
    layer_then (y.repeated p) at q = step (t.any at) (repeats_then p (site.any at) q)
    layer_then {n} (y.repeated_once {m = a} {n = b} p ps) at q =
        regrouped a b n (step (t.some at) (element_then p (layer_part_stands g at refl) (repeats_then ps (site.some at) q)))

    row_then : {es : List Element} {m n : List Mark} {rest : List Thing} → YieldsAll g kinds es m → (s : PartSite) (i : ℕ) →
        ((j : ℕ) (e : Element) → slice_get es j ≡ Some e → IsPartAt g (s ▸ (i + j)) (Body e)) → StepsGive rest n →
        StepsGive (parts_from s i es ++ rest) (m ++ n)
    row_then y.none s i stand q = q
    row_then {n} (y.more {e} {es} {m = a} {n = b} p ps) s i stand q = regrouped a b n (element_then p first (row_then ps s (i + 1) others q))
      where
        first : IsPartAt g (s ▸ i) (Body e)
        first = let same : i + 0 ≡ i = omega arith in subst (λ j. IsPartAt g (s ▸ j) (Body e)) same (stand 0 e refl)

        others : (j : ℕ) (f : Element) → slice_get es j ≡ Some f → IsPartAt g (s ▸ (i + 1 + j)) (Body f)
        others j f at = let same : i + suc j ≡ i + 1 + j = omega arith in subst (λ k. IsPartAt g (s ▸ k) (Body f)) same (stand (suc j) f at)

    repeats_then : {s : PartSite} {e : Element} {m n : List Mark} {rest : List Thing} → Repeats g kinds e m → RepeatedAt g s e → StepsGive rest n →
        StepsGive (Again s ∷ rest) (m ++ n)
    repeats_then y.stop at q = step (t.chosen (t.leaves at)) q
    repeats_then {n} (y.again {m = a} {n = b} p ps) at q =
        regrouped a b n (step (t.chosen (t.reads_again at)) (element_then p (repeated_stands g at) (repeats_then ps at q)))

    call_then : {name : List ℕ} {m n : List Mark} {rest : List Thing} → Calls g kinds name m → StepsGive rest n → CallThen name rest (m ++ n)
    call_then (y.terminal is) q = record { left = _; things = []; others = _; entering = t.terminal is; steps = q; are = refl }
    call_then (y.rule_ r rule is p) q =
        let e = rule_then p is.first.there q in
        record { left = e.left; things = e.things; others = e.others; entering = t.rule_ is e.enters; steps = e.steps; are = e.are }

    rule_then : {r : ℕ} {rule : Rule} {m n : List Mark} {rest : List Thing} → RuleGives g kinds r rule m → slice_get g.rules r ≡ Some rule → StepsGive rest n →
        RuleThen r rule rest (m ++ n)
    rule_then (y.fragment is_one p) there q =
        record { left = []; things = _; others = _; enters = t.fragment is_one; steps = element_then p (site.whole there) q; are = refl }
    rule_then (y.data_type is_none makes_none p) there q =
        record { left = []; things = _; others = _; enters = t.data_type is_none makes_none; steps = element_then p (site.whole there) q; are = refl }
    rule_then {n} (y.node {r} {m} is_none makes p) there q =
        record {
          left = mark.Open r ∷ [];
          things = _;
          others = _;
          enters = t.node is_none makes;
          steps = element_then p (site.whole there) (step t.left q);
          are = ap (λ m. mark.Open r ∷ m) (append_assoc m (mark.Shut ∷ []) n);
        }

    value_then : {s : PartSite} {p : List ℕ} {op : Op} {v c : Value0} {m n : List Mark} {rest : List Thing} → ValueYields g kinds v c m → IsPartAt g s (Value v) →
        StepsGive rest n → StepsGive (Assigned p op s ∷ rest) ((mark.Put p op c ∷ m ++ mark.End ∷ []) ++ n)
    value_then (y.reads p) stands q = value_layer_then p (site.value_at stands) q

    value_layer_then : {s : PartSite} {p : List ℕ} {op : Op} {v c : Value0} {f : Value0-F Value0} {m n : List Mark} {rest : List Thing} →
        ValueGives g kinds v f c m → ValueAt g s v f → StepsGive rest n → StepsGive (Assigned p op s ∷ rest) ((mark.Put p op c ∷ m ++ mark.End ∷ []) ++ n)
    value_layer_then (y.keyword_value is) at q = step (t.keyword_value at is) (step t.left q)
    value_layer_then {m} {n} (y.call_value c) at q = called_value_then m n (site.calls at) (call_then c (step t.left q))
    value_layer_then {m} {n} (y.cross_value c) at q = called_value_then m n (site.crosses at) (call_then c (step t.left q))
    value_layer_then {m} {n} (y.cross_by_name name is c) at q = called_value_then m n (site.crosses_by_name name at is) (call_then c (step t.left q))
    value_layer_then (y.chosen_value {vs} {w} has p) at q =
        let (i, is) = place_of vs w has in
        step (t.chosen (t.value_ (site.assigned at is))) (value_then p (way_stands g (site.assigned at is)) q)

  thing_then : {x : Thing} {m n : List Mark} {rest : List Thing} → ThingGives g kinds x m → StepsGive rest n → StepsGive (x ∷ rest) (m ++ n)
  thing_then (t.element stands p) q = element_then p stands q
  thing_then (t.value_ stands p) q = value_then p stands q
  thing_then (t.repeats at p) q = repeats_then p at q
  thing_then t.leaves q = step t.left q

  -- what is given is given by steps
  pub rest_by_steps : {rest : List Thing} {n : List Mark} → RestGives g kinds rest n → StepsGive rest n
  rest_by_steps t.nothing = done
  rest_by_steps (t.more p ps) = thing_then p (rest_by_steps ps)

  -- and nothing else is
  pub steps_give_rest : {rest : List Thing} {n : List Mark} → StepsGive rest n → RestGives g kinds rest n
  steps_give_rest done = t.nothing
  steps_give_rest (step s q) = rest_step_gives g kinds s (steps_give_rest q)
