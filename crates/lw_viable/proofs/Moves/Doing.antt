-- What the tasks of a program's places give: that at the place of an element gives what the element yields, and the text of a value is read as the value is.
use Rattle.std.proofs.Common.{◌≡◌, ℕ, List, slice_get, refl, sym, ap, subst}
use Rattle.lw_base.specs.declared.token.Span.{Span}
use Rattle.lw_grammar.specs.declared.grammar.Grammar.{Grammar}
use Rattle.lw_grammar.specs.declared.rule.Element.{Element, out-Element}
use Rattle.lw_grammar.specs.declared.rule.Element.TheOpen as layer
use Rattle.lw_grammar.specs.declared.rule.Element.TheOpen.{Element-F}
use Rattle.lw_grammar.specs.declared.rule.Op.{Op}
use Rattle.lw_grammar.specs.declared.rule.Value0.{Value0, out-Value0}
use Rattle.lw_grammar.specs.declared.rule.Value0.TheOpen.{Value0-F}
use Rattle.lw_grammar.specs.Kinds.{Kinds}
use Rattle.lw_grammar.specs.Reached.{IsReached}
use Rattle.lw_grammar.specs.Marks.{Mark}
use Rattle.lw_grammar.specs.Yields.{Yields, Gives, Repeats, ValueYields, ValueGives}
use Rattle.lw_grammar.specs.Yields as y
use Rattle.lw_look.specs.Sites.{PartSite, rule_of, ◌▸◌, Body, Value, element_parts, IsPartAt, ElementAt, ValueAt}
use Rattle.lw_look.specs.Sites as site
use Rattle.lw_look.specs.Things.{Thing, Do, Assigned, Again, Leave, ThingGives}
use Rattle.lw_look.specs.Things as t
use Rattle.lw_look.proofs.Standing.{same_value, one_stands}
use Rattle.lw_look.proofs.OneStep.{part_yields, again_gives, part_reads, ReadAs}
use Rattle.lw_program.specs.Says.{Does, Reads, layer_thing, thing_of}
use Rattle.lw_program.specs.Meant as meant
use Rattle.lw_viable.specs.Gives.{TaskGives}
use Rattle.lw_viable.specs.Gives as gives
use Rattle.lw_viable.specs.Readings.{IsPlacedTask}
use Rattle.lw_viable.specs.Readings as place

module _ (g : Grammar) where
  -- at a site stands an element of one form, and a value of one form
  pub element_form : {s : PartSite} {f : Element-F Element} → ElementAt g s f → (e : Element) × IsPartAt g s (Body e) × (out-Element e ≡ f)
  element_form (site.element_at {e} stands) = (e, stands, refl)

  pub value_form : {s : PartSite} {v : Value0} {f : Value0-F Value0} → ValueAt g s v f → IsPartAt g s (Value v) × (out-Value0 v ≡ f)
  value_form (site.value_at stands) = (stands, refl)

  pub element_stands : {s : PartSite} {e : Element} {f : Element-F Element} → out-Element e ≡ f → IsPartAt g s (Body e) → ElementAt g s f
  element_stands {s} is stands = subst (ElementAt g s) is (site.element_at stands)

  -- a part of a rule that can be reached has a task there
  pub thing_placed : {s : PartSite} {e : Element} → IsPartAt g s (Body e) → IsReached g (rule_of s) → IsPlacedTask g (thing_of s e)
  thing_placed {s} {e} stands reached = by (out-Element e) refl
    where
      by : (f : Element-F Element) → out-Element e ≡ f → IsPlacedTask g (layer_thing s f)
      by (layer.Many inner span) is = place.again (site.any (element_stands is stands)) reached
      by (layer.Assign p op v span) is =
          place.assigned (site.part stands (ap (λ f. slice_get (element_parts f) 0) is)) (meant.whole (element_stands is stands)) reached
      by _ is = place.element stands reached

module _ (g : Grammar) (kinds : Kinds) where
  pub does_gives : {x : Thing} {m : List Mark} → TaskGives g kinds (Does x) m → ThingGives g kinds x m
  does_gives (gives.does p) = p

  pub reads_gives : {s : PartSite} {v : Value0} {m : List Mark} → IsPartAt g s (Value v) → TaskGives g kinds (Reads s) m →
      (c : Value0) × ValueYields g kinds v c m
  reads_gives stands (gives.reads {v = w} {c} {m} other r) = (c, subst (λ v. ValueYields g kinds v c m) (same_value (one_stands g other stands)) r)

  -- an element of this form gives what its layer gives
  pub form_given : {s : PartSite} {f : Element-F Element} {m : List Mark} → ElementAt g s f → Gives g kinds f m → TaskGives g kinds (Does (Do s)) m
  form_given (site.element_at stands) p = gives.does (t.element stands (y.yields p))

  pub unlayered : {e : Element} {m : List Mark} → Yields g kinds e m → Gives g kinds (out-Element e) m
  unlayered (y.yields p) = p

  pub form_gives : {s : PartSite} {f : Element-F Element} {m : List Mark} → ElementAt g s f → TaskGives g kinds (Does (Do s)) m → Gives g kinds f m
  form_gives (site.element_at stands) p = unlayered (part_yields g kinds stands (does_gives p))

  pub unlayered_value : {v c : Value0} {m : List Mark} → ValueYields g kinds v c m → ValueGives g kinds v (out-Value0 v) c m
  unlayered_value (y.reads r) = r

  pub many_gives : {e : Element} {span : Span} {m : List Mark} → Gives g kinds (layer.Many e span) m → Repeats g kinds e m
  many_gives (y.repeated r) = r

  pub assign_gives : {p : List ℕ} {op : Op} {v : Value0} {span : Span} {m : List Mark} → Gives g kinds (layer.Assign p op v span) m →
      ReadAs g kinds p op v m
  assign_gives (y.assigned {c} {m} r) = record { read = c; inner = m; reads = r; are = refl }

  -- a value that is read so is assigned so
  pub read_given : {p : List ℕ} {op : Op} {s : PartSite} {v : Value0} {m : List Mark} → IsPartAt g s (Value v) → ReadAs g kinds p op v m →
      TaskGives g kinds (Does (Assigned p op s)) m
  read_given {p} {op} {s} stands r = subst (TaskGives g kinds (Does (Assigned p op s))) (sym r.are) (gives.does (t.value_ stands r.reads))

  -- what is done at the place of an element gives what the element yields, and nothing else
  pub thing_yields : {s : PartSite} {e : Element} {m : List Mark} → IsPartAt g s (Body e) → TaskGives g kinds (thing_of s e) m → Yields g kinds e m
  thing_yields {s} {e} {m} stands = by (out-Element e) refl
    where
      layered : {f : Element-F Element} → out-Element e ≡ f → Gives g kinds f m → Yields g kinds e m
      layered is p = y.yields (subst (λ f. Gives g kinds f m) (sym is) p)

      by : (f : Element-F Element) → out-Element e ≡ f → TaskGives g kinds (layer_thing s f) m → Yields g kinds e m
      by (layer.Many inner span) is p = layered is (y.repeated (again_gives g kinds (site.any (element_stands g is stands)) (does_gives p)))
      by (layer.Assign p op v span) is q =
          let r = part_reads g kinds (site.part stands (ap (λ f. slice_get (element_parts f) 0) is)) (does_gives q) in
          layered is (subst (Gives g kinds (layer.Assign p op v span)) (sym r.are) (y.assigned r.reads))
      by _ is p = part_yields g kinds stands (does_gives p)

  pub thing_given : {s : PartSite} {e : Element} {m : List Mark} → IsPartAt g s (Body e) → Yields g kinds e m → TaskGives g kinds (thing_of s e) m
  thing_given {s} {e} {m} stands all = by (out-Element e) refl
    where
      by : (f : Element-F Element) → out-Element e ≡ f → TaskGives g kinds (layer_thing s f) m
      by (layer.Many inner span) is =
          gives.does (t.repeats (site.any (element_stands g is stands)) (many_gives (subst (λ f. Gives g kinds f m) is (unlayered all))))
      by (layer.Assign p op v span) is =
          read_given (site.part stands (ap (λ f. slice_get (element_parts f) 0) is)) (assign_gives (subst (λ f. Gives g kinds f m) is (unlayered all)))
      by _ is = gives.does (t.element stands all)
