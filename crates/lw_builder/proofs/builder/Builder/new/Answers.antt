use Rattle.std.proofs.Common.{[], sym, subst, arith}
use Rattle.lw_reading.specs.Follows.{nothing}
use Rattle.lw_builder.specs.Standing.{AreOpen, none}
use Rattle.lw_builder.proofs.builder.Builder.new.Goals as goal

pub returns-clause-nothing : goal.returns-clause-nothing
returns-clause-nothing c = λ g recipes parts. record {
  recipes = recipes;
  parts = parts;
  within = omega arith;
  follows = nothing;
  stands = record {
    finished = c.new.ensures.items;
    stored = c.new-2.ensures.items;
    loose = c.new-3.ensures.items;
    refs = c.new-4.ensures.items;
    brackets = subst (λ l. AreOpen g [] l) (sym c.new-5.ensures.items) none;
  };
}
