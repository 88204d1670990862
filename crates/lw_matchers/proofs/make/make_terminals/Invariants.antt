use Rattle.std.proofs.Common.{◌≡◌, ◌++◌, map}
use Rattle.std.specs.Vec.Iter.{into_iter_items}
use Rattle.lw_matchers.specs.Made.{form_of, AreUsable, AreUnlisted}
use Rattle.lw_matchers.proofs.make.make_terminals.Given as goal

abbrev pub invariant-loop-source : goal.invariant-loop-source
invariant-loop-source g l = record {
  can_next : (goal.iterator-loop-source g).can_next l.source-iterator;
  finite : (goal.iterator-loop-source g).is_finite l.source-iterator;
  left : l.yielded ++ into_iter_items l.source-iterator ≡ l.fn.sources.items;
  terminals : l.terminals.items ≡ map form_of l.yielded;
  texts : l.texts.items ≡ l.fn.texts.items ++ map (λ source. source.name) l.yielded;
  usable : AreUsable l.yielded;
  unlisted : AreUnlisted (g.P.Patterns.listed l.fn.patterns) l.yielded;
  same_list : g.P.Patterns.listed l.patterns ≡ g.P.Patterns.listed l.fn.patterns;
  count : g.P.Patterns.count l.patterns ≡ g.P.Patterns.count l.fn.patterns;
  last : g.P.Patterns.last_refused l.patterns ≡ g.P.Patterns.last_refused l.fn.patterns;
}
