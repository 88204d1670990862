-- What a task may do without a token is what the part at its site may be read so.
use Rattle.std.proofs.Common.{◌≡◌, ℕ, List, [], ◌∷◌, ◌++◌, ◌↔◌, sym, ap, ◌∙◌, subst, refl}
use Rattle.lw_base.specs.declared.token.Span.{Span}
use Rattle.lw_grammar.specs.declared.grammar.Grammar.{Grammar}
use Rattle.lw_grammar.specs.declared.rule.Element.{Element, out-Element}
use Rattle.lw_grammar.specs.declared.rule.Element.TheOpen as layer
use Rattle.lw_grammar.specs.declared.rule.Element.TheOpen.{Element-F}
use Rattle.lw_grammar.specs.declared.rule.Op.{Op}
use Rattle.lw_grammar.specs.declared.rule.Value0.{Value0, out-Value0}
use Rattle.lw_grammar.specs.declared.rule.Value0.TheOpen.{Value0-F}
use Rattle.lw_grammar.specs.Kinds.{Kinds}
use Rattle.lw_grammar.specs.Marks.{Mark, kinds_of}
use Rattle.lw_grammar.specs.Marks as mark
use Rattle.lw_grammar.specs.Yields.{ValueYields}
use Rattle.lw_grammar.specs.Yields as y
use Rattle.lw_look.specs.Sites.{PartSite, ◌▸◌, Body, Value, IsPartAt, ElementAt, ValueAt}
use Rattle.lw_look.specs.Sites as site
use Rattle.lw_look.specs.Things.{Do, Assigned, Again}
use Rattle.lw_look.specs.Things as t
use Rattle.lw_look.proofs.Covering.{before_last}
use Rattle.lw_look.proofs.OneStep.{part_yields, again_gives, part_reads}
use Rattle.lw_look.proofs.Standing.{one_stands, same_value, layer_part_stands}
use Rattle.lw_program.specs.Says.{Does, Reads, layer_thing, thing_of}
use Rattle.lw_viable.specs.Gives.{MayBeEmpty}
use Rattle.lw_viable.specs.Gives as give
use Rattle.lw_viable.proofs.NoToken.{ElementNone, ValueNone, LayerNone, front_none, layer_as, of_layer, layer_of}

module _ (g : Grammar) (kinds : Kinds) where
  -- ---- an element at its site

  layer_at : {s : PartSite} {e : Element} {f : Element-F Element} → IsPartAt g s (Body e) → out-Element e ≡ f → ElementAt g s f
  layer_at {s} stands is = subst (ElementAt g s) is (site.element_at stands)

  itself : {s : PartSite} {e : Element} → IsPartAt g s (Body e) → MayBeEmpty g kinds (Does (Do s)) → ElementNone g kinds e
  itself stands (m, give.does p, none) = (m, part_yields g kinds stands p, none)

  does_itself : {s : PartSite} {e : Element} → IsPartAt g s (Body e) → ElementNone g kinds e → MayBeEmpty g kinds (Does (Do s))
  does_itself stands (m, p, none) = (m, give.does (t.element stands p), none)

  loop_none : {s : PartSite} {e : Element} {span : Span} → ElementAt g s (layer.Many e span) → MayBeEmpty g kinds (Does (Again s)) → LayerNone g kinds (layer.Many e span)
  loop_none at (m, give.does p, none) = (m, y.repeated (again_gives g kinds (site.any at) p), none)

  does_loop : {s : PartSite} {e : Element} {span : Span} → ElementAt g s (layer.Many e span) → LayerNone g kinds (layer.Many e span) → MayBeEmpty g kinds (Does (Again s))
  does_loop at (m, y.repeated p, none) = (m, give.does (t.repeats (site.any at) p), none)

  put_none : {s : PartSite} {p : List ℕ} {op : Op} {v : Value0} {span : Span} → ElementAt g s (layer.Assign p op v span) →
      MayBeEmpty g kinds (Does (Assigned p op (s ▸ 0))) → LayerNone g kinds (layer.Assign p op v span)
  put_none {p} {op} at (m, give.does q, none) =
      let r = part_reads g kinds (layer_part_stands g at refl) q in
      (mark.Put p op r.read ∷ r.inner ++ mark.End ∷ [], y.assigned r.reads, sym (ap kinds_of r.are) ∙ none)

  does_put : {s : PartSite} {p : List ℕ} {op : Op} {v : Value0} {span : Span} → ElementAt g s (layer.Assign p op v span) → LayerNone g kinds (layer.Assign p op v span) →
      MayBeEmpty g kinds (Does (Assigned p op (s ▸ 0)))
  does_put at (m, y.assigned r, none) = (m, give.does (t.value_ (layer_part_stands g at refl) r), none)

  to_element : (f : Element-F Element) {s : PartSite} {e : Element} → IsPartAt g s (Body e) → out-Element e ≡ f → MayBeEmpty g kinds (layer_thing s f) → ElementNone g kinds e
  to_element (layer.Many e span) stands is may = of_layer g kinds is (loop_none (layer_at stands is) may)
  to_element (layer.Assign p op v span) stands is may = of_layer g kinds is (put_none (layer_at stands is) may)
  to_element f stands is may = itself stands may

  from_element : (f : Element-F Element) {s : PartSite} {e : Element} → IsPartAt g s (Body e) → out-Element e ≡ f → ElementNone g kinds e → MayBeEmpty g kinds (layer_thing s f)
  from_element (layer.Many e span) stands is none = does_loop (layer_at stands is) (layer_as g kinds is none)
  from_element (layer.Assign p op v span) stands is none = does_put (layer_at stands is) (layer_as g kinds is none)
  from_element f stands is none = does_itself stands none

  pub element_task : {s : PartSite} {e : Element} → IsPartAt g s (Body e) → MayBeEmpty g kinds (thing_of s e) ↔ ElementNone g kinds e
  element_task {e} stands = (to_element (out-Element e) stands refl, from_element (out-Element e) stands refl)

  -- of what is done as itself, by its form
  pub layer_task : {s : PartSite} {f : Element-F Element} → ElementAt g s f → MayBeEmpty g kinds (Does (Do s)) ↔ LayerNone g kinds f
  layer_task {s} {f} at = (to at, fro at)
    where
      to : {f : Element-F Element} → ElementAt g s f → MayBeEmpty g kinds (Does (Do s)) → LayerNone g kinds f
      to (site.element_at stands) (m, give.does p, none) = layer_of g kinds (m, part_yields g kinds stands p, none)

      fro : {f : Element-F Element} → ElementAt g s f → LayerNone g kinds f → MayBeEmpty g kinds (Does (Do s))
      fro (site.element_at stands) (m, p, none) = (m, give.does (t.element stands (y.yields p)), none)

  -- ---- a value at its site

  pub assigned_task : {p : List ℕ} {op : Op} {s : PartSite} {v : Value0} → IsPartAt g s (Value v) → MayBeEmpty g kinds (Does (Assigned p op s)) ↔ ValueNone g kinds v
  assigned_task {p} {op} {s} {v} stands = (to, fro)
    where
      to : MayBeEmpty g kinds (Does (Assigned p op s)) → ValueNone g kinds v
      to (m, give.does q, none) =
          let r = part_reads g kinds stands q in (r.read, r.inner, r.reads, front_none r.inner (mark.End ∷ []) (sym (ap kinds_of r.are) ∙ none))

      fro : ValueNone g kinds v → MayBeEmpty g kinds (Does (Assigned p op s))
      fro (c, m, r, none) = (mark.Put p op c ∷ m ++ mark.End ∷ [], give.does (t.value_ stands r), sym (before_last m mark.End refl) ∙ none)

  pub reads_task : {s : PartSite} {v : Value0} → IsPartAt g s (Value v) → MayBeEmpty g kinds (Reads s) ↔ ValueNone g kinds v
  reads_task {s} {v} stands = (to, fro)
    where
      to : MayBeEmpty g kinds (Reads s) → ValueNone g kinds v
      to (m, give.reads {c} other r, none) = (c, m, subst (λ v. ValueYields g kinds v c m) (same_value (one_stands g other stands)) r, none)

      fro : ValueNone g kinds v → MayBeEmpty g kinds (Reads s)
      fro (c, m, r, none) = (m, give.reads stands r, none)

  pub value_stands : {s : PartSite} {v : Value0} {f : Value0-F Value0} → ValueAt g s v f → IsPartAt g s (Value v) × (out-Value0 v ≡ f)
  value_stands (site.value_at stands) = (stands, refl)
