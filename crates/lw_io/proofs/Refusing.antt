-- What an error of `regex` says of its text.
use Rattle.std.proofs.Common.{◌≢◌, ℕ, List, refl}
use Rattle.regex.specs.declared.error.Error.{Error}
use Rattle.regex.specs.declared.error.Error.TheVariants.{Syntax, CompiledTooBig, Internal, OutOfMemory}
use Rattle.regex.specs.Failures.{IsRightKind}
use Rattle.regex.specs.Patterns.{default_config}
use Rattle.regex.specs.Sources.{IsRefusal}
use Rattle.lw_io.specs.Patterns.{RegexRefuses, by_grammar, too_big}

pub refuses : (text : List ℕ) (error : Error) → error ≢ OutOfMemory → error ≢ Internal → IsRefusal default_config text error
    → IsRightKind default_config text error → RegexRefuses text
refuses text (Syntax e) h k refusal kind = by_grammar e.kind kind (refusal e refl)
refuses text CompiledTooBig h k refusal kind = too_big kind
refuses text Internal h k refusal kind = absurd (k refl)
refuses text OutOfMemory h k refusal kind = absurd (h refl)
