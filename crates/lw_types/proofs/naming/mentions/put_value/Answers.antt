use Rattle.std.proofs.lemmas.Result.{on_ok_weaker}
use Rattle.lw_grammar.specs.Leaves.{value_leaves}
use Rattle.lw_numbers.specs.Parts.{value_leaf_of}
use Rattle.lw_types.specs.NameUses.{value_uses}
use Rattle.lw_types.proofs.Reading.{put_all}
use Rattle.lw_types.proofs.naming.mentions.put_value.Goals as goal

pub returns : goal.returns
returns c =
    on_ok_weaker c.put_parts.result
    (put_all _ _ (value_uses c.args.file) value_leaf_of c.as_slice.result.now c.in_ok-parts.parts.items (value_leaves c.args.value.now) c.as_slice.ensures.value
    c.in_ok-parts.ensures) c.put_parts.ensures
