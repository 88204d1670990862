-- Texts that are joined from the right, as a text with places is made, or from the left, as a definition joins them.
use Rattle.std.proofs.Common.{◌≡◌, List, ℕ, ◌++◌, append_assoc, sym, ◌∙◌}

joined : (a b c : List ℕ) → a ++ (b ++ c) ≡ (a ++ b) ++ c
joined a b c = sym (append_assoc a b c)

pub four : (a b c d : List ℕ) → a ++ (b ++ (c ++ d)) ≡ ((a ++ b) ++ c) ++ d
four a b c d = joined a b (c ++ d) ∙ joined (a ++ b) c d

pub six : (a b c d e f : List ℕ) → a ++ (b ++ (c ++ (d ++ (e ++ f)))) ≡ ((((a ++ b) ++ c) ++ d) ++ e) ++ f
six a b c d e f = four a b c (d ++ (e ++ f)) ∙ joined ((a ++ b) ++ c) d (e ++ f) ∙ joined (((a ++ b) ++ c) ++ d) e f

pub eight : (a b c d e f g h : List ℕ) → a ++ (b ++ (c ++ (d ++ (e ++ (f ++ (g ++ h)))))) ≡ ((((((a ++ b) ++ c) ++ d) ++ e) ++ f) ++ g) ++ h
eight a b c d e f g h =
    six a b c d e (f ++ (g ++ h)) ∙ joined ((((a ++ b) ++ c) ++ d) ++ e) f (g ++ h) ∙ joined (((((a ++ b) ++ c) ++ d) ++ e) ++ f) g h
