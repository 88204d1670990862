use Rattle.std.proofs.Common.{sym, subst}
use Rattle.lw_properties.specs.Asked.{Asks}
use Rattle.lw_properties.proofs.Asking.{told_again}
use Rattle.lw_properties.proofs.questions.holds.Goals as goal

pub returns-in-Lacks : goal.returns-in-Lacks
returns-in-Lacks c =
    let g = c.args.known.now.g.now in let name = c.args.name.now in
    (λ so. subst (λ q. Asks g q name) (sym c.in-Lacks.is) (c.lacks.ensures.0 so), λ is. c.lacks.ensures.1 (subst (λ q. Asks g q name) c.in-Lacks.is is))

pub returns-in-Misfits : goal.returns-in-Misfits
returns-in-Misfits c =
    let g = c.args.known.now.g.now in let name = c.args.name.now in
    told_again c.misfits.result c.misfits.ensures (λ is. subst (λ q. Asks g q name) (sym c.in-Misfits.is) is, λ is. subst (λ q. Asks g q name) c.in-Misfits.is is)

pub returns-in-IsRefused : goal.returns-in-IsRefused
returns-in-IsRefused c =
    let g = c.args.known.now.g.now in let name = c.args.name.now in
    told_again c.refuses.result c.refuses.ensures (λ is. subst (λ q. Asks g q name) (sym c.in-IsRefused.is) is, λ is. subst (λ q. Asks g q name) c.in-IsRefused.is is)

pub returns-in-IsNotAbove : goal.returns-in-IsNotAbove
returns-in-IsNotAbove c =
    let g = c.args.known.now.g.now in let name = c.args.name.now in
    (λ so. subst (λ q. Asks g q name) (sym c.in-IsNotAbove.is) (c.is_not_above.ensures.0 so), λ is. c.is_not_above.ensures.1 (subst (λ q. Asks g q name) c.in-IsNotAbove.is is))
