use Rattle.std.proofs.Common.{refl, ap, ◌∙◌}
use Rattle.lw_numbers.specs.Kin.{OfType}
use Rattle.lw_numbers.proofs.Placing.{puts_same}
use Rattle.lw_numbers.proofs.subtypes.kinship.Kinship.put_result.Goals as goal

pub returns-in_ok-put : goal.returns-in_ok-put
returns-in_ok-put c =
    let own = c.in-Some.above.now in
    puts_same
    (λ from to. (λ edge. (own, (c.in-Some.ensures own).1 refl, edge), λ leads. (leads.2.0, leads.2.1 ∙ ap OfType ((c.in-Some.ensures leads.0).0 leads.1)))) c.in_ok-put.ensures
