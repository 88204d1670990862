use Rattle.std.proofs.Common.{true, arith}
use Rattle.json.proofs.Printed.Plain.{escape_on_plain}
use Rattle.lw_rpc.proofs.texts.is_plain.Goals as goal

pub returns : goal.returns
returns c = escape_on_plain true c.args.text.now (λ k low high. c.bytes.invariant k low (omega arith))
