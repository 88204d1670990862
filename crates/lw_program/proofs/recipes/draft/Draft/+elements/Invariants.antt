use Rattle.std.proofs.Common.{map, take}
use Rattle.lw_look.specs.Choices.{inside}
use Rattle.lw_look.specs.Sites.{PartSite, Body}
use Rattle.lw_program.specs.Numbered.{element_puts, element_acts}
use Rattle.lw_program.specs.Drafted.{ArePartsAt, IsDrafted}
use Rattle.lw_program.proofs.recipes.draft.Draft.+elements.Given as goal

abbrev pub invariant-pass_all-loop-element : goal.invariant-pass_all-loop-element
invariant-pass_all-loop-element l =
    (s : PartSite) → ArePartsAt l.lexicon.g.now s (map Body l.elements) →
    IsDrafted l.lexicon.g.now (inside s 0 (map element_puts (take l.element-index l.elements))) (inside s 0 (map element_acts (take l.element-index l.elements)))
    l.fn.self l.self
