-- Texts that are put together from the left and from the right, and what a diagnostic says.
use Rattle.std.proofs.Common.{◌≡◌, ℕ, List, [], ◌∷◌, ◌++◌, refl, ap, ◌∙◌}
use Rattle.lw_base.specs.declared.token.Span.{Span}
use Rattle.lw_link_rules.specs.TreeDiagnostics.{Diagnostic}

from_three : (a b c : List ℕ) → a ++ (b ++ c) ≡ (a ++ b) ++ c
from_three [] b c = refl
from_three (x ∷ a) b c = ap (λ xs. x ∷ xs) (from_three a b c)

from_four : (a b c d : List ℕ) → a ++ (b ++ (c ++ d)) ≡ ((a ++ b) ++ c) ++ d
from_four a b c d = from_three a b (c ++ d) ∙ from_three (a ++ b) c d

pub from_five : (a b c d e : List ℕ) → a ++ (b ++ (c ++ (d ++ e))) ≡ a ++ (((b ++ c) ++ d) ++ e)
from_five a b c d e = ap (λ xs. a ++ xs) (from_four b c d e)

pub from_six : (a b c d e f : List ℕ) → a ++ (b ++ (c ++ (d ++ (e ++ f)))) ≡ ((((a ++ b) ++ c) ++ d) ++ e) ++ f
from_six a b c d e f = from_four a b c (d ++ (e ++ f)) ∙ from_four ((a ++ b) ++ c) d e f

abbrev pub saying : Span → ℕ → List ℕ → Diagnostic
saying span code message = record { span = span; code = code; message = message }
