use Rattle.std.proofs.Common.{length, sym, ap, ◌∙◌}
use Rattle.lw_numbers.specs.Tables.{Tables}
use Rattle.lw_rename.proofs.again.count_of_properties.Goals as goal

pub returns : goal.returns
returns c = sym (c.prop_count.ensures.count ∙ ap (λ (t : Tables). length t.properties) c.numbers.ensures ∙ ap length c.types.ensures.rules.numbers.properties)
