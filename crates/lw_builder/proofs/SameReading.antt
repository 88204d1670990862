-- What was read stays what it was.
use Rattle.std.proofs.Common.{ℕ, ◌≡◌, List, take, ap, ◌∙◌}
use Rattle.lw_base.specs.declared.token.Token.{Token}
use Rattle.lw_builder.specs.declared.builder.Builder.{Builder}
use Rattle.lw_builder.specs.Steps.{IsSameReading, read_tokens}

pub same_tokens : (old new : Builder) → IsSameReading old new → read_tokens new ≡ read_tokens old
same_tokens old new same = ap (λ (l : List Token). take new.read l) same.over.visible ∙ ap (λ (n : ℕ). take n old.visible.now) same.read
