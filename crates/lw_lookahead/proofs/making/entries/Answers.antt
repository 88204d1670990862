use Rattle.std.proofs.Common.{subst}
use Rattle.lw_lookahead.specs.Entries.{IsLeastPairOf, of_ways}
use Rattle.lw_lookahead.specs.Gathered.{AreGatheredWays}
use Rattle.lw_lookahead.specs.Shared.{heads_at}
use Rattle.lw_lookahead.proofs.ConflictSteps.{entries_known}
use Rattle.lw_lookahead.proofs.making.entries.Goals as goal

pub returns-in-None-clause-entries : goal.returns-in-None-clause-entries
returns-in-None-clause-entries c =
    let point = c.args.choice.now in
    let entries = c.in_ok-ways.field-0 in
    let gathered = subst (λ ways. AreGatheredWays (of_ways 1 ways) entries) c.as_slice.ensures.value c.in_ok-ways.ensures in
    record {
      clear = subst (IsLeastPairOf (heads_at point)) c.in-None.is gathered.pair;
      first = gathered.first;
      known = entries_known (heads_at point) entries.ways.entries c.args.k gathered.first c.requires.short.short;
    }
