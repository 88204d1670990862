use Rattle.std.proofs.Common.{◌≡◌, take}
use Rattle.std.specs.Prelude.{string_bytes}
use Rattle.lw_reading.specs.Brackets.{joined_texts}
use Rattle.lw_builder.proofs.spans.joined_texts.Given as goal

abbrev pub invariant-loop-token : goal.invariant-loop-token
invariant-loop-token l = string_bytes l.all ≡ joined_texts l.text (take l.token-index l.tokens)
