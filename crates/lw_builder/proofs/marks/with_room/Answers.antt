-- Room changes nothing of what is built.
use Rattle.std.proofs.Common.{◌∙◌}
use Rattle.lw_builder.proofs.marks.with_room.Goals as goal

pub returns-clause-nothing : goal.returns-clause-nothing
returns-clause-nothing c = λ g recipes parts.
    let first = c.new-builder.ensures.nothing g recipes parts in
    record {
      recipes = first.recipes;
      parts = first.parts;
      within = first.within;
      follows = first.follows;
      stands = record {
        finished = c.reserve.ensures.items ∙ first.stands.finished;
        stored = c.reserve-2.ensures.items ∙ first.stands.stored;
        loose = first.stands.loose;
        refs = first.stands.refs;
        brackets = first.stands.brackets;
      };
    }
