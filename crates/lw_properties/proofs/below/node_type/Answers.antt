use Rattle.std.proofs.Common.{true, false, get_or, Some, sym, ap, ◌∙◌, arith}
use Rattle.std.proofs.lemmas.Bool.{true≢false}
use Rattle.std.proofs.lemmas.Option.{none-some, same_Some, slice_get_within, slice_get-get_or}
use Rattle.lw_grammar.specs.Named.{declared_rule, declared_terminal}
use Rattle.lw_numbers.specs.Numbering as numbered
use Rattle.lw_properties.proofs.Apart.{meant_apart}
use Rattle.lw_properties.proofs.ValueKinds.{node_called, called_node, no_node_called}
use Rattle.lw_properties.proofs.below.node_type.Goals as goal

pub returns-then-known-number : goal.returns-then-known-number
returns-then-known-number c s below =
    let g = c.args.known.now.g.now in
    let name = c.args.name.now in
    let r = c.in-Rule.number in
    let rule = c.in-Rule.rule.now in
    let flags = c.args.known.now.nodes.now in
    let at = c.in-Rule.ensures.first.there in
    let there = slice_get-get_or flags r false (omega (arith, slice_get_within g.rules r rule at, c.requires.nodes.all)) in
    let makes = (c.requires.nodes.exact r rule at).1 (there ∙ ap Some c.if-known-number.true) in (
      λ is. c.type_of.ensures ∙ (node_called g name s below r rule c.in-Rule.ensures is).1,
      λ is. called_node g name s below r rule c.in-Rule.ensures makes (sym c.type_of.ensures ∙ is),
    )

pub returns-else-known-number : goal.returns-else-known-number
returns-else-known-number c s below =
    let g = c.args.known.now.g.now in
    let name = c.args.name.now in
    let r = c.in-Rule.number in
    let rule = c.in-Rule.rule.now in
    let flags = c.args.known.now.nodes.now in
    let at = c.in-Rule.ensures.first.there in
    let there = slice_get-get_or flags r false (omega (arith, slice_get_within g.rules r rule at, c.requires.nodes.all)) in (
      λ is.
          let does = (c.requires.nodes.exact r rule at).0 (node_called g name s below r rule c.in-Rule.ensures is).0 in
          absurd (true≢false (sym (same_Some (get_or flags r false) true (sym there ∙ does)) ∙ c.if-known-number.false)),
      λ is. absurd (none-some below is),
    )

pub returns-in-Terminal : goal.returns-in-Terminal
returns-in-Terminal c s below =
    let g = c.args.known.now.g.now in
    let name = c.args.name.now in
    let t = c.in-Terminal in (
      λ is. absurd (no_node_called g name s below (λ r rule meant. meant_apart declared_rule declared_terminal name g.rules g.terminals r t.field-0 rule t.field-1.now meant t.ensures) is),
      λ is. absurd (none-some below is),
    )

pub returns-in-Nothing : goal.returns-in-Nothing
returns-in-Nothing c s below =
    let g = c.args.known.now.g.now in
    let name = c.args.name.now in
    (λ is. absurd (no_node_called g name s below (λ r rule meant. c.in-Nothing.ensures r (numbered.rule_ r rule meant)) is), λ is. absurd (none-some below is))
