use Rattle.lw_program.proofs.Contents.{cross_content}
use Rattle.lw_program.proofs.recipes.content.referred.Goals as goal

pub returns : goal.returns
returns c = cross_content c.args.lexicon.g.now c.args.wanted.now c.args.written.now c.wanted_type.result c.read_form.result c.wanted_type.ensures c.read_form.ensures
