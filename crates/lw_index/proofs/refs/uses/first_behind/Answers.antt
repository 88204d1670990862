use Rattle.std.proofs.Common.{rules, not}
use Rattle.std.proofs.lemmas.List.Sorted.{IsPartitionPoint-from_clause}
use Rattle.lw_index.specs.Uses.{is_behind}
use Rattle.lw_index.proofs.Halves.{parts_behind}
use Rattle.lw_index.proofs.refs.uses.first_behind.Goals as goal

pub returns-clause-point : goal.returns-clause-point
returns-clause-point c = IsPartitionPoint-from_clause (λ u. not (is_behind c.args.doc c.args.node u)) c.args.uses.now c.partition_point.result
    c.partition_point.ensures.partitioned
    (parts_behind c.args.doc c.args.node c.args.uses.now c.requires) (λ a r q k. search rules)
