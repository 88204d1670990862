use Rattle.std.proofs.Common.{IsTrue, nat_eq, Some, sym, ap, ◌∙◌, subst, Contains, ◌↔◌}
use Rattle.std.specs.Option.{option_eq}
use Rattle.lw_lookahead.proofs.HeadKeys.{is_found}
use Rattle.lw_lookahead.proofs.conflict.is_first_way.Goals as goal

pub returns : goal.returns
returns c k known =
    let head = c.args.head.now in
    let way = c.args.way in
    let entries = c.args.ways.now.entries in
    let same = c.eq.ensures ∙ ap (λ r. option_eq nat_eq r (Some way)) (c.copied.ensures ∙ c.get.ensures.value) in
    subst (λ b. IsTrue b ↔ Contains entries (head, way)) (sym same) (is_found head way entries (λ other. known.once head way other))
