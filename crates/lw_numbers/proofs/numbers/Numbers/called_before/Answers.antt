use Rattle.std.proofs.Common.{refl, ap, ◌∙◌, bytes_eq}
use Rattle.std.specs.Map.{lookup}
use Rattle.lw_numbers.proofs.PresenceLemmas.{first_yes, first_no, rules_begin}
use Rattle.lw_numbers.proofs.numbers.Numbers.called_before.Goals as goal

pub returns-then-begins_before : goal.returns-then-begins_before
returns-then-begins_before c g are =
    let name = c.args.name.now in
    first_yes c.begins_before.ensures c.if-begins_before.true
    (rules_begin g name c.args.self.now are c.args.file c.args.start
    (c.get.ensures.value ∙ ap (λ tables. lookup (bytes_eq name) tables.rules) c.self.view_is) refl)

pub returns-else-begins_before : goal.returns-else-begins_before
returns-else-begins_before c g are =
    let name = c.args.name.now in
    first_no c.begins_before.ensures c.begins_before-else-begins_before.ensures c.if-begins_before.false
    (rules_begin g name c.args.self.now are c.args.file c.args.start
    (c.get.ensures.value ∙ ap (λ tables. lookup (bytes_eq name) tables.rules) c.self.view_is)
    (c.get-else-begins_before.ensures.value ∙ ap (λ tables. lookup (bytes_eq name) tables.terminals) c.self.view_is))
