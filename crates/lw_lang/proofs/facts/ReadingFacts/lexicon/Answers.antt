use Rattle.lw_lang.proofs.Supplied.{is_supplied}
use Rattle.lw_lang.proofs.facts.ReadingFacts.lexicon.Goals as goal

pub returns-clause-supplied : goal.returns-clause-supplied
returns-clause-supplied c =
    is_supplied c.args.g.now c.args.types.now c.requires.typed c.args.self.now c.requires.facts c.requires.faultless c.requires.filled
