-- Places of rules that can be reached give something, where every keyword has a kind, every call gives something and no choice is empty.
use Rattle.std.proofs.Common.{ℕ, List, [], ◌∷◌, ◌++◌, All}
use Rattle.std.proofs.lemmas.List.Elements.{All-head, All-tail}
use Rattle.lw_grammar.specs.declared.grammar.Grammar.{Grammar}
use Rattle.lw_grammar.specs.declared.rule.Element.{Element}
use Rattle.lw_grammar.specs.declared.rule.Value0.{Value0}
use Rattle.lw_grammar.specs.Kinds.{Kinds}
use Rattle.lw_grammar.specs.Marks.{Mark}
use Rattle.lw_grammar.specs.Yields.{Yields, ValueYields}
use Rattle.lw_grammar.specs.Yields as y
use Rattle.lw_look.specs.Sites.{Body, Value}
use Rattle.lw_look.specs.Looks.{PartYields}
use Rattle.lw_look.specs.Looks as look
use Rattle.lw_look.specs.Supplied.{IsSupplied}
use Rattle.lw_look.specs.Things as t
use Rattle.lw_look.proofs.Productive.{productive}
use Rattle.lw_program.specs.Says.{Task}
use Rattle.lw_viable.specs.Gives.{TaskGives, PlacesGive}
use Rattle.lw_viable.specs.Gives as gives
use Rattle.lw_viable.specs.Readings.{IsPlacedTask, HasTask}
use Rattle.lw_viable.specs.Readings as place

module _ (g : Grammar) (kinds : Kinds) where
  element_yields : {e : Element} {m : List Mark} → PartYields g kinds (Body e) m → Yields g kinds e m
  element_yields (look.element p) = p

  value_reads : {v : Value0} {m : List Mark} → PartYields g kinds (Value v) m → (c : Value0) × ValueYields g kinds v c m
  value_reads (look.assigned {c} r) = (c, r)

  task_gives : {t : Task} → IsSupplied g kinds → IsPlacedTask g t → (m : List Mark) × TaskGives g kinds t m
  task_gives supplied (place.element {s} {e} stands reached) =
      let some = productive g kinds supplied s (Body e) reached stands in (some.marks, gives.does (t.element stands (element_yields some.yields)))
  task_gives supplied (place.assigned {s} {v} stands assigned reached) =
      let some = productive g kinds supplied s (Value v) reached stands in
      let (c, r) = value_reads some.yields in
      (_, gives.does (t.value_ stands r))
  task_gives supplied (place.again at reached) = ([], gives.does (t.repeats at y.stop))
  task_gives supplied place.leaves = (_, gives.does t.leaves)
  task_gives supplied (place.reads {s} {v} stands reached) =
      let some = productive g kinds supplied s (Value v) reached stands in
      let (c, r) = value_reads some.yields in
      (some.marks, gives.reads stands r)

  module _ (tasks : List Task) (supplied : IsSupplied g kinds) where
    pub places_give : (ps : List ℕ) → All (HasTask g kinds tasks) ps → (n : List Mark) × PlacesGive g kinds tasks ps n
    places_give [] placed = ([], gives.nothing)
    places_give (p ∷ ps) placed =
        let (t, stands, has) = All-head (HasTask g kinds tasks) p ps placed in
        let (m, own) = task_gives supplied has in
        let (n, give) = places_give ps (All-tail (HasTask g kinds tasks) p ps placed) in
        (m ++ n, gives.more stands own give)
