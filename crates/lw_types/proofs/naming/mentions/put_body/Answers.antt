use Rattle.std.proofs.lemmas.Result.{on_ok_weaker}
use Rattle.lw_grammar.specs.Leaves.{leaves}
use Rattle.lw_numbers.specs.Parts.{leaf_of}
use Rattle.lw_types.specs.NameUses.{leaf_uses}
use Rattle.lw_types.proofs.Reading.{put_all}
use Rattle.lw_types.proofs.naming.mentions.put_body.Goals as goal

pub returns : goal.returns
returns c =
    on_ok_weaker c.put_leaves.result
    (put_all _ _ (leaf_uses c.args.file) leaf_of c.as_slice.result.now c.in_ok-leaves.leaves.items (leaves c.args.body.now) c.as_slice.ensures.value
    c.in_ok-leaves.ensures) c.put_leaves.ensures
