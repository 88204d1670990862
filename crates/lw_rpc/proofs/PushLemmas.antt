-- What was pushed piece by piece stands there as one text.
use Rattle.std.proofs.Common.{◌≡◌, ℕ, List, ◌++◌, ap, ◌∙◌, append_assoc}

pub pushed_2 : (o a b : List ℕ) {s t : List ℕ} → s ≡ o ++ a → t ≡ s ++ b → t ≡ o ++ (a ++ b)
pushed_2 o a b p q = q ∙ ap (λ t. t ++ b) p ∙ append_assoc o a b

pub pushed_3 : (o a b c : List ℕ) {s t u : List ℕ} → s ≡ o ++ a → t ≡ s ++ b → u ≡ t ++ c → u ≡ o ++ (a ++ b ++ c)
pushed_3 o a b c p q r = pushed_2 o (a ++ b) c (pushed_2 o a b p q) r

pub pushed_5 : (o a b c d e : List ℕ) {s t u v w : List ℕ} → s ≡ o ++ a → t ≡ s ++ b → u ≡ t ++ c → v ≡ u ++ d → w ≡ v ++ e → w ≡ o ++ (a ++ b ++ c ++ d ++ e)
pushed_5 o a b c d e p q r k l = pushed_3 o (a ++ b ++ c) d e (pushed_3 o a b c p q r) k l

pub pushed_6 : (o a b c d e f : List ℕ) {s t u v w x : List ℕ} → s ≡ o ++ a → t ≡ s ++ b → u ≡ t ++ c → v ≡ u ++ d → w ≡ v ++ e → x ≡ w ++ f → x ≡ o ++ (a ++ b ++ c ++ d ++ e ++ f)
pushed_6 o a b c d e f p q r k l m = pushed_2 o (a ++ b ++ c ++ d ++ e) f (pushed_5 o a b c d e p q r k l) m

pub pushed_7 : (o a b c d e f g : List ℕ) {s t u v w x y : List ℕ} → s ≡ o ++ a → t ≡ s ++ b → u ≡ t ++ c → v ≡ u ++ d → w ≡ v ++ e → x ≡ w ++ f → y ≡ x ++ g → y ≡ o ++ (a ++ b ++ c ++ d ++ e ++ f ++ g)
pushed_7 o a b c d e f g p q r k l m n = pushed_3 o (a ++ b ++ c ++ d ++ e) f g (pushed_5 o a b c d e p q r k l) m n
