use Rattle.json.specs.Written.{PlainBetween}
use Rattle.lw_rpc.proofs.texts.is_plain.Given as goal

abbrev pub invariant-bytes : goal.invariant-bytes
invariant-bytes l = PlainBetween l.text 0 l.byte-index
