use Rattle.std.proofs.Common.{◌≡◌, ℕ, ◌++◌, [], ◌∷◌, List, Some, None, sym, ◌∙◌, subst}
use Rattle.indexmap.proofs.CallerLemmas.{insert_entry-new}
use Rattle.lw_first.specs.contracts.heads.head.HeadPartialEq.TheImpl.{eq-value}
use Rattle.lw_lookahead.specs.Entries.{AreFirstWays}
use Rattle.lw_lookahead.proofs.HeadKeys.{found, found_entry, none_found}
use Rattle.lw_lookahead.proofs.FirstWays.{pair_of_known, pair_of_new, pair_of_same, ways_of_known, ways_of_new}
use Rattle.lw_lookahead.proofs.entries.Entries.put.Goals as goal

pub returns-in_ok-insert-in-None : goal.returns-in_ok-insert-in-None
returns-in_ok-insert-in-None c pairs gathered up_to =
    let head = c.args.head in
    let way = c.args.way in
    let old = c.args.self.now.ways in
    let none : found head old.entries ≡ None = sym c.get.ensures.value ∙ sym c.copied.ensures ∙ c.in-None.is in
    let absent = λ (w : ℕ) (has : Rattle.std.proofs.Common.Contains pairs (head, w)). none_found head old.entries none (gathered.first.all head w has).0 (gathered.first.all head w has).1 in
    record {
      first = subst (AreFirstWays (pairs ++ (head, way) ∷ [])) (sym (c.in_ok-insert-in-None.ensures.entries ∙ insert_entry-new (eq-value).it old head way none)) (ways_of_new pairs head way up_to absent old.entries gathered.first);
      pair = pair_of_new pairs head way up_to absent c.args.self.now.pair gathered.pair;
    }

pub returns-in-Some : goal.returns-in-Some
returns-in-Some c pairs gathered up_to =
    let head = c.args.head in
    let way = c.args.way in
    let entries = c.args.self.now.ways.entries in
    let own = c.in-Some.first in
    let entry = found_entry head own entries (sym c.get.ensures.value ∙ sym c.copied.ensures ∙ c.in-Some.is) in
    record {
      first = ways_of_known pairs head way up_to entries gathered.first own entry;
      pair = pair_of_known pairs head way up_to entries gathered.first own entry c.if-first-way.true c.least.result c.args.self.now.pair gathered.pair c.least.ensures.one c.least.ensures.here c.least.ensures.there;
    }

pub returns-else-first-way : goal.returns-else-first-way
returns-else-first-way c pairs gathered up_to =
    let head = c.args.head in
    let way = c.args.way in
    let entries = c.args.self.now.ways.entries in
    let own = c.in-Some.first in
    let entry = found_entry head own entries (sym c.get.ensures.value ∙ sym c.copied.ensures ∙ c.in-Some.is) in
    record {
      first = ways_of_known pairs head way up_to entries gathered.first own entry;
      pair = pair_of_same pairs head way up_to entries gathered.first own entry c.if-first-way.false c.args.self.now.pair gathered.pair;
    }
