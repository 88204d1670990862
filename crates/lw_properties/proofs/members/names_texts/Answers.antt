use Rattle.lw_properties.proofs.members.names_texts.Goals as goal

pub returns : goal.returns
returns c =
    let marked = c.is_marked.ensures c.args.known.now.g.now c.requires.numbers in
    let texts = c.requires.texts c.args.name.now in (λ so. texts.1 (marked.0 so), λ is. marked.1 (texts.0 is))
