use Rattle.std.proofs.Common.{◌≡◌, Some, true, slice_get, sym, ◌∙◌, subst}
use Rattle.std.proofs.lemmas.Bool.{false≢true}
use Rattle.std.proofs.lemmas.Option.{none-some, same_Some}
use Rattle.lw_properties.proofs.rule_types.is_marked.Goals as goal

pub returns-in-Some : goal.returns-in-Some
returns-in-Some c g are =
    let n = c.in-Some.id.0 in
    let flags = c.args.types.now in
    let is = c.in-Some.ensures g are in (
      λ so. record { number = n; has = sym is; set = c.is_set.ensures.0 so },
      λ marked. c.is_set.ensures.1 (subst (λ k. slice_get flags k ≡ Some true) (sym (same_Some n marked.number (is ∙ marked.has))) marked.set),
    )

pub returns-in-None : goal.returns-in-None
returns-in-None c g are = (λ so. absurd (false≢true so), λ marked. absurd (none-some marked.number (c.in-None.ensures g are ∙ marked.has)))
