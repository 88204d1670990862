use Rattle.lw_kinds.proofs.lexicon.lexicon.Lexicon.keyword.Goals as goal

pub returns : goal.returns
returns c kinds are = c.keyword.ensures c.args.self.now.g.now kinds c.requires.kinds are
