use Rattle.std.proofs.lemmas.Result.{on_ok_weaker}
use Rattle.lw_graph.specs.Walks.{HasNode}
use Rattle.lw_kinds.specs.Telling.{TellsRepeats}
use Rattle.lw_kinds.proofs.FindsLemmas.{Finds-same}
use Rattle.lw_kinds.proofs.derivations.names.Names.find_in_rule.Goals as goal

pub returns : goal.returns
returns c =
    let tells = TellsRepeats c.args.self.now.g.now c.args.rule.now c.args.rule.now.body in
    on_ok_weaker c.find_repeats.result
    (Finds-same tells (λ f. HasNode c.args.reading.now.reached c.args.number × tells f) (λ f. (λ is. (c.is_reached.ensures.flag.0 c.if-not-is_reached.false, is), λ both. both.1))
    c.args.found.now c.find_repeats.new.found)
    c.find_repeats.ensures
