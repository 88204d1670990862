use Rattle.std.proofs.Common.{sym, ◌∙◌}
use Rattle.std.proofs.lemmas.Bool.{false≢true}
use Rattle.lw_types.specs.Values.{text, no_text}
use Rattle.lw_types.proofs.property_table.members.text_value.Goals as goal

pub returns-then-names_texts : goal.returns-then-names_texts
returns-then-names_texts c = text (c.names_texts.ensures.0 c.if-names_texts.true)

pub returns-else-names_texts : goal.returns-else-names_texts
returns-else-names_texts c = no_text (λ is. false≢true (sym c.if-names_texts.false ∙ c.names_texts.ensures.1 is))
