use Rattle.std.proofs.Common.{ℕ, Vec, Global, ap}
use Rattle.std.proofs.lemmas.Str.{IsUtf8-string_bytes}
use Rattle.lw_base.proofs.name.Name.from_vec.Goals as goal

pub returns-in-Ok : goal.returns-in-Ok
returns-in-Ok c = (ap (λ (v : Vec ℕ Global). v.items) c.in-Ok.ensures.ok, IsUtf8-string_bytes c.in-Ok.text)
