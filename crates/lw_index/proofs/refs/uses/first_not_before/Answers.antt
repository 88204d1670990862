use Rattle.std.proofs.Common.{rules}
use Rattle.std.proofs.lemmas.List.Sorted.{IsPartitionPoint-from_clause}
use Rattle.lw_index.specs.Uses.{is_before}
use Rattle.lw_index.proofs.Halves.{parts_before}
use Rattle.lw_index.proofs.refs.uses.first_not_before.Goals as goal

pub returns-clause-point : goal.returns-clause-point
returns-clause-point c = IsPartitionPoint-from_clause (is_before c.args.doc c.args.node) c.args.uses.now c.partition_point.result
    c.partition_point.ensures.partitioned
    (parts_before c.args.doc c.args.node c.args.uses.now c.requires) (λ a r q k. search rules)
