use Rattle.std.proofs.Common.{is_some, ap, ◌∙◌, bytes_eq}
use Rattle.std.specs.Map.{lookup}
use Rattle.lw_numbers.proofs.PresenceLemmas.{called_by_rule, called_by_terminal}
use Rattle.lw_numbers.proofs.numbers.Numbers.is_called.Goals as goal

pub returns-then-contains_key : goal.returns-then-contains_key
returns-then-contains_key c g are =
    let name = c.args.name.now in
    called_by_rule g name c.args.self.now are (c.contains_key.ensures ∙ ap (λ tables. is_some (lookup (bytes_eq name) tables.rules)) c.self.view_is)
    c.if-contains_key.true

pub returns-else-contains_key : goal.returns-else-contains_key
returns-else-contains_key c g are =
    let name = c.args.name.now in
    let second = c.contains_key-else-contains_key in
    called_by_terminal g name c.args.self.now are second.result
    (c.contains_key.ensures ∙ ap (λ tables. is_some (lookup (bytes_eq name) tables.rules)) c.self.view_is) c.if-contains_key.false
    (second.ensures ∙ ap (λ tables. is_some (lookup (bytes_eq name) tables.terminals)) c.self.view_is)
