-- Where the same text is shown at each address, the texts are the same.
use Rattle.lw_link_rules.proofs.SameTexts.{links_of_same_texts, diagnostics_of_same_texts}
use Rattle.lw_link_rules.proofs.laws.only_shown_texts_matter.Goals as goal

pub returns : goal.returns
returns c = record { diagnostics = diagnostics_of_same_texts; links = links_of_same_texts }
