use Rattle.std.proofs.Common.{is_some, ap, ◌∙◌, bytes_eq}
use Rattle.std.specs.Map.{lookup}
use Rattle.lw_numbers.proofs.PresenceLemmas.{first_yes, first_no, interfaces_tell, unions_tell}
use Rattle.lw_numbers.proofs.numbers.Numbers.is_declared.Goals as goal

pub returns-then-contains_key : goal.returns-then-contains_key
returns-then-contains_key c g are =
    let name = c.args.name.now in
    first_yes
    (interfaces_tell g name c.args.self.now are
    (c.contains_key.ensures ∙ ap (λ tables. is_some (lookup (bytes_eq name) tables.interfaces)) c.self.view_is))
    c.if-contains_key.true (λ one. one, λ one. one)

pub returns-else-contains_key : goal.returns-else-contains_key
returns-else-contains_key c g are =
    let name = c.args.name.now in
    first_no
    (interfaces_tell g name c.args.self.now are
    (c.contains_key.ensures ∙ ap (λ tables. is_some (lookup (bytes_eq name) tables.interfaces)) c.self.view_is))
    (unions_tell g name c.args.self.now are
    (c.contains_key-else-contains_key.ensures ∙ ap (λ tables. is_some (lookup (bytes_eq name) tables.unions)) c.self.view_is))
    c.if-contains_key.false (λ one. one, λ one. one)
