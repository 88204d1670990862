use Rattle.std.proofs.lemmas.Result.{IfOk-weaker}
use Rattle.lw_index.specs.Elsewhere.{AreElsewhere}
use Rattle.lw_index.specs.Others.{AreOthers}
use Rattle.lw_index.proofs.Asked.{elsewhere_others, others_elsewhere}
use Rattle.lw_index.proofs.index.Index.names.Goals as goal

pub returns : goal.returns
returns c =
    let documents = c.self.inside.documents in
    let names = c.self.inside.names in
    let index = c.args.self.now in
    let except = c.args.except in
    let types = c.args.types.now in
    IfOk-weaker c.names_of_others.result (λ found. AreOthers names except types found.items) (λ found. AreElsewhere index except.0 types found.items)
    (λ found are. record {
      exact = λ name. (
        λ has. others_elsewhere documents names c.self.invariant index c.self.view_is name except types ((are.exact name).0 has),
        λ is. (are.exact name).1 (elsewhere_others documents names c.self.invariant index c.self.view_is name except types is),
      );
      ordered = are.ordered;
    }) c.names_of_others.ensures
