use Rattle.std.proofs.Common.{refl, ◌∙◌, arith}
use Rattle.lw_builder.proofs.Beginning.{begun}
use Rattle.lw_builder.proofs.builder.Builder.begin.Goals as goal

pub returns-clause-begun : goal.returns-clause-begun
returns-clause-begun c = λ g bs after over h change.
    begun g c.args.self.now _ c.args.rule.0 c.type_of-type_id.result _ bs after over h change c.type_of-type_id.ensures
    (record { same = record { finished = refl; kept = refl; loose = refl; refs = refl }; brackets = c.in_ok-push.ensures.items })
    refl refl (c.in_ok-start.ensures ∙ c.len.ensures ∙ omega arith) (c.len-2.ensures ∙ omega arith)
