use Rattle.std.proofs.Common.{ℕ, Vec, Global, ◌≡◌, ◌∙◌, ap, subst, arith}
use Rattle.std.proofs.lemmas.Str.{IsUtf8-string_bytes}
use Rattle.std.specs.Str.{IsUtf8}
use Rattle.std.specs.String.{string_bytes}
use Rattle.lw_io.proofs.content.content.Goals as goal

pub returns-in-Ok-clause-fits : goal.returns-in-Ok-clause-fits
returns-in-Ok-clause-fits c =
    let is : string_bytes c.in-Ok.text ≡ c.args.bytes.items = ap (λ (v : Vec ℕ Global). v.items) c.in-Ok.ensures.ok in
    (c.from_string.ensures ∙ is, omega arith, subst IsUtf8 is (IsUtf8-string_bytes c.in-Ok.text))
