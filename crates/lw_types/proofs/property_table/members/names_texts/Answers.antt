use Rattle.std.proofs.Common.{IsTrue, ◌↔◌, sym, subst}
use Rattle.lw_types.specs.Values.{NamesTexts}
use Rattle.lw_types.proofs.property_table.members.names_texts.Goals as goal

pub returns-in-Named : goal.returns-in-Named
returns-in-Named c =
    let g = c.args.source.now.g.now in
    let marked = c.is_marked.ensures g c.requires.numbers in
    let texts = c.requires.texts c.in-Named.name in
    subst (λ m. IsTrue c.is_marked.result ↔ NamesTexts g m) (sym c.in-Named.is) (λ so. texts.1 (marked.0 so), λ is. marked.1 (texts.0 is))
