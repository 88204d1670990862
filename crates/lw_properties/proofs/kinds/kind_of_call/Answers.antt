use Rattle.std.proofs.Common.{◌≡◌, true, false, get_or, Some, sym, ap, ◌∙◌, subst, arith}
use Rattle.lw_grammar.specs.Leaves.{Calls}
use Rattle.lw_grammar.specs.Nodes.{MakesNodes}
use Rattle.std.proofs.lemmas.Option.{none-some, same_Some, slice_get_within, slice_get-get_or}
use Rattle.lw_faults.specs.Attributes.{IsKindOf}
use Rattle.lw_faults.specs.Attributes as known
use Rattle.lw_properties.proofs.ValueKinds.{called_rule, rule_called, called_terminal, called_nothing}
use Rattle.lw_properties.proofs.kinds.kind_of_call.Goals as goal

pub returns-in-Rule : goal.returns-in-Rule
returns-in-Rule c s kind =
    let g = c.args.g.now in
    let r = c.in-Rule.number in
    let rule = c.in-Rule.rule.now in
    let flags = c.args.nodes.now in
    let inside = slice_get_within g.rules r rule c.in-Rule.ensures.first.there in
    let there = slice_get-get_or flags r false (omega (arith, inside, c.requires.nodes.all)) in
    let exact = c.requires.nodes.exact r rule c.in-Rule.ensures.first.there in
    let makes = get_or flags r false in
    let told : MakesNodes g rule → makes ≡ true = λ does. same_Some makes true (sym there ∙ exact.0 does) in
    let so : makes ≡ true → MakesNodes g rule = λ does. exact.1 (there ∙ ap Some does) in (
      λ is. c.kind_of_rule.ensures ∙ called_rule g c.args.name.now s r rule c.in-Rule.ensures makes told so is,
      λ is. rule_called g c.args.name.now s r rule c.in-Rule.ensures makes told so kind (sym c.kind_of_rule.ensures ∙ is),
    )

pub returns-in-Terminal : goal.returns-in-Terminal
returns-in-Terminal c s kind =
    let g = c.args.g.now in let name = c.args.name.now in let t = c.in-Terminal in (
      λ is. ap Some (called_terminal g name s t.field-0 t.terminal.now t.ensures is),
      λ is. subst (IsKindOf g (Calls name s)) (same_Some _ kind is) (known.terminal t.field-0 t.terminal.now t.ensures),
    )

pub returns-in-Nothing : goal.returns-in-Nothing
returns-in-Nothing c s kind = (λ is. absurd (called_nothing c.args.g.now c.args.name.now s c.in-Nothing.ensures is), λ is. absurd (none-some kind is))
