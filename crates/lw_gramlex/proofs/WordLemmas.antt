-- A text begins with at most one word.
use Rattle.std.proofs.Common.{◌≡◌, ◌≢◌, ℕ, ◌+◌, List, ◌∷◌, length, take_while, true, false, sym, ap, ◌∙◌, subst}
use Rattle.lw_gramlex.specs.FileTokens.{IsWord, IsPlainWord, is_word_start, is_word_part}
use Rattle.lw_gramlex.specs.FileTokens.IsWord.{plain, marked}

pub plain_same : (t : List ℕ) (m n : ℕ) → IsPlainWord t m → IsPlainWord t n → m ≡ n
plain_same t m n p q =
    let e : p.first ∷ p.after ≡ q.first ∷ q.after = sym p.parts ∙ q.parts in
    let f : p.after ≡ q.after = cc in
    p.bytes ∙ ap (λ a. 1 + length (take_while is_word_part a)) f ∙ sym q.bytes

-- no word begins with the mark
unmarked : (t after : List ℕ) (n : ℕ) → t ≡ 94 ∷ after → IsPlainWord t n → ⊥
unmarked t after n e p =
    let f : p.first ∷ p.after ≡ 94 ∷ after = sym p.parts ∙ e in
    let g : p.first ≡ 94 = cc in
    let h : is_word_start 94 ≡ true = subst (λ c. is_word_start c ≡ true) g p.starts in
    let i : false ≡ true = h in
    cc

pub word_same : (t : List ℕ) (m n : ℕ) → IsWord t m → IsWord t n → m ≡ n
word_same t m n (plain p) (plain q) = plain_same t m n p q
word_same t m n (plain p) (marked after e q) = absurd (unmarked t after _ e p)
word_same t m n (marked after e p) (plain q) = absurd (unmarked t after _ e q)
word_same t _ _ (marked {n = j} a e p) (marked {n = k} b f q) =
    let g : a ≡ b = (let h : 94 ∷ a ≡ 94 ∷ b = sym e ∙ f in cc) in
    ap (λ i. 1 + i) (plain_same b j k (subst (λ x. IsPlainWord x j) g p) q)

-- behind a mark a word stands where one without a mark does
pub word_none_marked : (t after : List ℕ) → t ≡ 94 ∷ after → ((n : ℕ) → ¬ IsPlainWord after n) → (n : ℕ) → ¬ IsWord t n
word_none_marked t after e none n (plain p) = unmarked t after n e p
word_none_marked t after e none _ (marked {n = k} other f p) =
    let g : other ≡ after = (let h : 94 ∷ other ≡ 94 ∷ after = sym f ∙ e in cc) in
    none k (subst (λ x. IsPlainWord x k) g p)

pub word_none_plain : (t after : List ℕ) (c : ℕ) → t ≡ c ∷ after → c ≢ 94 → ((n : ℕ) → ¬ IsPlainWord t n) → (n : ℕ) → ¬ IsWord t n
word_none_plain t after c e apart none n (plain p) = none n p
word_none_plain t after c e apart none _ (marked other f p) = apart (let h : c ∷ after ≡ 94 ∷ other = sym e ∙ f in cc)
