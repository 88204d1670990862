use Rattle.std.proofs.Common.{◌∷◌, ◌++◌, [], map, take, Contains, Some, refl, sym, ap, ◌∙◌, subst, arith}
use Rattle.std.specs.Option.{option_map}
use Rattle.std.proofs.lemmas.Bool.{false≢true}
use Rattle.std.proofs.lemmas.List.{map-append, take_more, take_all}
use Rattle.std.proofs.lemmas.Option.{none-some, same_Some, slice_get-map, slice_get-get_or}
use Rattle.lw_faults.specs.Properties.{IsRefusedKind}
use Rattle.lw_numbers.specs.Parts.{value_leaf_of}
use Rattle.lw_properties.specs.Asked.{RefusesSome}
use Rattle.lw_properties.specs.Kinds.{kind_of_value}
use Rattle.lw_properties.proofs.Apart.{at_its_place}
use Rattle.lw_properties.proofs.Asking.{refuses_more}
use Rattle.lw_properties.proofs.questions.refuses_part.Goals as goal
use Rattle.lw_properties.proofs.questions.refuses_part.Goals.{in-Some+in_ok-refuses+else-branch, in_default}

pub returns-then-branch : goal.returns-then-branch
returns-then-branch c =
    let i = c.loop-part.part-index in
    let items = c.deref-part-items.result.now in
    let x = c.part-item.result in
    let kind = kind_of_value c.in-Some.is' in
    let there = slice_get-map value_leaf_of items i ∙ ap (option_map value_leaf_of) (slice_get-get_or items i x (omega arith) ∙ ap Some (sym c.part-item.is)) in
    let has = at_its_place (map value_leaf_of items) i (value_leaf_of x) there in
    let all = ap (map value_leaf_of) c.deref-part-items.ensures.value ∙ c.in_ok-parts.ensures in
    (λ _. (value_leaf_of x, kind, subst (λ xs. Contains xs (value_leaf_of x)) all has, (c.in-Some.ensures kind).1 refl, c.in_ok-refuses.ensures.0 c.if-branch.true), λ _. refl)

pub loop-part-preserved : goal.loop-part-preserved
loop-part-preserved c =
    let g = c.args.known.now.g.now in
    let attribute = c.args.attribute.now in
    let i = c.loop-part.part-index in
    let items = c.deref-part-items.result.now in
    let x = c.part-item.result in
    let longer = ap (map value_leaf_of) (take_more items i x (omega arith) ∙ ap (λ y. take i items ++ y ∷ []) (sym c.part-item.is)) ∙ map-append value_leaf_of (take i items) (x ∷ []) in
    subst (λ xs. ¬ RefusesSome g attribute xs) (sym longer)
    (refuses_more g attribute (map value_leaf_of (take i items)) (value_leaf_of x)
    (elim c.match-kind_of.branch [
      | in-Some+in_ok-refuses+else-branch w ↦ λ kind is refused.
          let same = same_Some (kind_of_value w.in-Some.is') kind ((w.in-Some.ensures kind).0 is) in
          false≢true (sym w.if-branch.false ∙ w.in_ok-refuses.ensures.1 (subst (IsRefusedKind g attribute) (sym same) refused))
      | in_default w ↦ λ kind is refused. none-some kind ((w.in_default.ensures kind).0 is)
    ])
    c.loop-part.invariant)

pub returns : goal.returns
returns c =
    let g = c.args.known.now.g.now in
    let attribute = c.args.attribute.now in
    let items = c.deref-part-items.result.now in
    let all = ap (map value_leaf_of) (take_all c.loop-part.part-index items (omega arith) ∙ c.deref-part-items.ensures.value) ∙ c.in_ok-parts.ensures in
    (λ so. absurd (false≢true so), λ some. absurd (subst (λ xs. ¬ RefusesSome g attribute xs) all c.loop-part.invariant some))
