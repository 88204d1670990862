-- At most one stretch of a text is passed over at a place.
use Rattle.std.proofs.Common.{◌≡◌, ◌≢◌, ◌<◌, ◌≤◌, drop, take, get_or, ℕ, ◌+◌, List, [], ◌∷◌, ◌++◌, length, take_while, true, false, not, refl, sym, ap, ◌∙◌, subst, inl, inr, arith, append_assoc, length-append, length-drop, length-take-le, take-append-drop, codes, encode_utf8, IsUtf8}
use Rattle.std.specs.Char.{IsScalar, is_whitespace, len_utf8}
use Rattle.std.proofs.Math.Utf8.{encodes}
use Rattle.std.proofs.lemmas.Str.{encode_same, char_from_byte, len_utf8_bounds, length-encode}
use Rattle.std.proofs.lemmas.Bool.{cases_order, and_parts}
use Rattle.std.proofs.lemmas.Slice.Eq.{bytes_eq-Decides}
use Rattle.std.proofs.Math.Seq.{drop-append_seam}
use Rattle.std.proofs.lemmas.List.{drop-append-le}
use Rattle.lw_gramlex.specs.Symbols.{BeginsSpelling}
use Rattle.lw_gramlex.specs.FileTokens.{BeginsWith, IsHidden, is_line_end}

-- ---- the first character

pub begins_same : (t : List ℕ) (c d : ℕ) → BeginsWith t c → BeginsWith t d → c ≡ d
begins_same t c d p q = (encode_same c d p.after q.after (sym p.parts ∙ q.parts)).0

-- what stands before the rest of a text is a character
pub begins_from : (t rest : List ℕ) (c : ℕ) → IsUtf8 t → t ≡ encode_utf8 c ++ rest → BeginsWith t c
begins_from t rest c ([], u) e =
    absurd (let h : 0 ≡ length t = ap length u.1 in omega (arith, ap length e, length-append (encode_utf8 c) rest, length-encode c, (len_utf8_bounds c).0))
begins_from t rest c (d ∷ ds, u) e =
    let same : d ≡ c = (encode_same d c (encodes ds) rest (u.1 ∙ e)).0 in
    record { scalar = subst IsScalar same (and_parts _ _ u.0).0; after = rest; parts = e }

pub some_begun : (t : List ℕ) (c : ℕ) → BeginsWith t c → 0 < length t
some_begun t c p = omega (arith, ap length p.parts, length-append (encode_utf8 c) p.after, length-encode c, (len_utf8_bounds c).0)

-- a text that begins with an ASCII byte begins with that character
pub begins_byte : (t cs : List ℕ) (b c : ℕ) → t ≡ b ∷ cs → b < 128 → BeginsWith t c → c ≡ b
begins_byte t cs b c e ascii p =
    let first : get_or t 0 0 ≡ b = ap (λ x. get_or x 0 0) e in
    char_from_byte t p.after c p.parts (omega (arith, first)) (some_begun t c p) ∙ first

-- no white space begins with a byte that is none
pub white_byte : (t cs : List ℕ) (b c : ℕ) → t ≡ b ∷ cs → b < 128 → is_whitespace b ≡ false → BeginsWith t c → is_whitespace c ≡ true → ⊥
white_byte t cs b c e ascii none p white =
    let h : true ≡ false = sym white ∙ ap is_whitespace (begins_byte t cs b c e ascii p) ∙ none in
    cc

-- ---- comments

begins_end : (d a r : List ℕ) → 2 ≤ length d → d ++ a ≡ 42 ∷ 47 ∷ r → BeginsSpelling d (codes "*/")
begins_end [] a r long e = absurd (omega arith)
begins_end (x ∷ []) a r long e = absurd (omega arith)
begins_end (x ∷ y ∷ ds) a r long e =
    let p : x ≡ 42 = cc in
    let q : y ≡ 47 = cc in
    rw (p, q) refl

end_begun : (d a : List ℕ) → BeginsSpelling d (codes "*/") → d ++ a ≡ 42 ∷ 47 ∷ (drop 2 d ++ a)
end_begun d a h =
    let front : 42 ∷ 47 ∷ [] ≡ take 2 d = (bytes_eq-Decides (42 ∷ 47 ∷ []) (take 2 d)).0 h in
    ap (λ x. x ++ a) (sym (take-append-drop 2 d)) ∙ append_assoc (take 2 d) (drop 2 d) a ∙ ap (λ x. x ++ (drop 2 d ++ a)) (sym front)

-- the text behind the opening of a block comment, at a place in it
behind_open : (t inside after rest : List ℕ) → t ≡ codes "/*" ++ inside ++ codes "*/" ++ after → t ≡ 47 ∷ 42 ∷ rest → rest ≡ inside ++ 42 ∷ 47 ∷ after
behind_open t inside after rest e f =
    let g : 47 ∷ 42 ∷ ((inside ++ 42 ∷ 47 ∷ []) ++ after) ≡ 47 ∷ 42 ∷ rest = sym e ∙ f in
    let h : (inside ++ 42 ∷ 47 ∷ []) ++ after ≡ rest = cc in
    sym h ∙ append_assoc inside (42 ∷ 47 ∷ []) after

-- of two ends, none stands inside of the other comment
not_shorter : (rest i j a b : List ℕ) → rest ≡ i ++ 42 ∷ 47 ∷ a → rest ≡ j ++ 42 ∷ 47 ∷ b →
    ((k : ℕ) → k < length j → ¬ BeginsSpelling (drop k (j ++ codes "*/")) (codes "*/")) → length i < length j → ⊥
not_shorter rest i j a b e f least shorter =
    let n = length i in
    let long : length (j ++ 42 ∷ 47 ∷ []) ≡ length j + 2 = length-append j (42 ∷ 47 ∷ []) in
    let whole : rest ≡ (j ++ 42 ∷ 47 ∷ []) ++ b = f ∙ sym (append_assoc j (42 ∷ 47 ∷ []) b) in
    let at : drop n rest ≡ drop n (j ++ 42 ∷ 47 ∷ []) ++ b = ap (drop n) whole ∙ drop-append-le n (j ++ 42 ∷ 47 ∷ []) b (omega arith) in
    let ends : drop n rest ≡ 42 ∷ 47 ∷ a = ap (drop n) e ∙ drop-append_seam i (42 ∷ 47 ∷ a) in
    least n shorter (begins_end (drop n (j ++ 42 ∷ 47 ∷ [])) b a (omega (arith, length-drop n (j ++ 42 ∷ 47 ∷ []))) (sym at ∙ ends))

pub line_comment_same : (t a b : List ℕ) → t ≡ codes "//" ++ a → t ≡ codes "//" ++ b → a ≡ b
line_comment_same t a b e f = let g : 47 ∷ 47 ∷ a ≡ 47 ∷ 47 ∷ b = sym e ∙ f in cc

pub both_comments : (t a rest : List ℕ) → t ≡ 47 ∷ 47 ∷ a → t ≡ 47 ∷ 42 ∷ rest → ⊥
both_comments t a rest e f =
    let g : 47 ∷ 47 ∷ a ≡ 47 ∷ 42 ∷ rest = sym e ∙ f in
    let h : ◌≡◌ {A = ℕ} 47 42 = ap (λ x. get_or x 1 0) g in
    omega arith

white_comment : (t cs : List ℕ) (c : ℕ) → BeginsWith t c → is_whitespace c ≡ true → t ≡ 47 ∷ cs → ⊥
white_comment t cs c p white e = white_byte t cs 47 c e (omega arith) refl p white

pub hidden_same : (t : List ℕ) (m n : ℕ) → IsHidden t m → IsHidden t n → m ≡ n
hidden_same t _ _ (IsHidden.white c p white) (IsHidden.white d q other) = ap (λ x. length (encode_utf8 x)) (begins_same t c d p q)
hidden_same t _ _ (IsHidden.white c p white) (IsHidden.line_comment after e) = absurd (white_comment t (47 ∷ after) c p white e)
hidden_same t _ _ (IsHidden.white c p white) (IsHidden.block_comment inside after e least) = absurd (white_comment t (42 ∷ ((inside ++ 42 ∷ 47 ∷ []) ++ after)) c p white e)
hidden_same t _ _ (IsHidden.line_comment after e) (IsHidden.white c p white) = absurd (white_comment t (47 ∷ after) c p white e)
hidden_same t _ _ (IsHidden.line_comment a e) (IsHidden.line_comment b f) = ap (λ x. 2 + length (take_while (λ c. not (is_line_end c)) x)) (line_comment_same t a b e f)
hidden_same t _ _ (IsHidden.line_comment a e) (IsHidden.block_comment inside after f least) = absurd (both_comments t a ((inside ++ 42 ∷ 47 ∷ []) ++ after) e f)
hidden_same t _ _ (IsHidden.block_comment inside after e least) (IsHidden.white c p white) = absurd (white_comment t (42 ∷ ((inside ++ 42 ∷ 47 ∷ []) ++ after)) c p white e)
hidden_same t _ _ (IsHidden.block_comment inside after e least) (IsHidden.line_comment a f) = absurd (both_comments t a ((inside ++ 42 ∷ 47 ∷ []) ++ after) f e)
hidden_same t _ _ (IsHidden.block_comment i a e least) (IsHidden.block_comment j b f other) =
    let rest = (i ++ 42 ∷ 47 ∷ []) ++ a in
    let p = behind_open t i a rest e e in
    let q = behind_open t j b rest f e in
    elim (cases_order (length i) (length j)) [
      | inl same ↦ ap (λ n. n + 4) same
      | inr (inl less) ↦ absurd (not_shorter rest i j a b p q other less)
      | inr (inr more) ↦ absurd (not_shorter rest j i b a q p least more)
    ]

-- ---- what the code looks at

pub hidden_none_empty : (n : ℕ) → ¬ IsHidden [] n
hidden_none_empty _ (IsHidden.white c p white) = let h = some_begun [] c p in omega arith
hidden_none_empty _ (IsHidden.line_comment after e) = let f : [] ≡ 47 ∷ 47 ∷ after = e in cc
hidden_none_empty _ (IsHidden.block_comment inside after e least) = let f : [] ≡ 47 ∷ 42 ∷ ((inside ++ 42 ∷ 47 ∷ []) ++ after) = e in cc

pub hidden_white : (t : List ℕ) (c : ℕ) → BeginsWith t c → is_whitespace c ≡ true → IsHidden t (len_utf8 c)
hidden_white t c p white = subst (IsHidden t) (length-encode c) (IsHidden.white c p white)

-- no white space, no line comment and no block comment
pub hidden_none : (t : List ℕ) (c : ℕ) → BeginsWith t c → is_whitespace c ≡ false → ((r : List ℕ) → t ≢ 47 ∷ 47 ∷ r) →
    ((rest : List ℕ) → t ≡ 47 ∷ 42 ∷ rest → (i : ℕ) → i ≤ length rest → (r : List ℕ) → drop i rest ≢ 42 ∷ 47 ∷ r) → (n : ℕ) → ¬ IsHidden t n
hidden_none t c p not_white no_line no_block _ (IsHidden.white d q white) =
    let h : false ≡ true = sym not_white ∙ ap is_whitespace (begins_same t c d p q) ∙ white in
    cc
hidden_none t c p not_white no_line no_block _ (IsHidden.line_comment after e) = no_line after e
hidden_none t c p not_white no_line no_block _ (IsHidden.block_comment inside after e least) =
    let rest = (inside ++ 42 ∷ 47 ∷ []) ++ after in
    let split = behind_open t inside after rest e e in
    no_block rest e (length inside) (omega (arith, length-append (inside ++ 42 ∷ 47 ∷ []) after, length-append inside (42 ∷ 47 ∷ []))) after
    (ap (drop (length inside)) split ∙ drop-append_seam inside (42 ∷ 47 ∷ after))

pub hidden_block : (t after rest : List ℕ) (i : ℕ) → t ≡ 47 ∷ 42 ∷ after → i ≤ length after → drop i after ≡ 42 ∷ 47 ∷ rest →
    ((k : ℕ) → k < i → (r : List ℕ) → drop k after ≢ 42 ∷ 47 ∷ r) → IsHidden t (i + 4)
hidden_block t after rest i e within ends least =
    let inside = take i after in
    let long : length inside ≡ i = length-take-le i after within in
    let split : after ≡ inside ++ 42 ∷ 47 ∷ rest = sym (take-append-drop i after) ∙ ap (λ x. inside ++ x) ends in
    let whole : after ≡ (inside ++ 42 ∷ 47 ∷ []) ++ rest = split ∙ sym (append_assoc inside (42 ∷ 47 ∷ []) rest) in
    subst (λ n. IsHidden t (n + 4)) long (IsHidden.block_comment inside rest (e ∙ ap (λ x. 47 ∷ 42 ∷ x) whole)
    (λ k before begun. least k (omega arith) (drop 2 (drop k (inside ++ 42 ∷ 47 ∷ [])) ++ rest)
    (ap (drop k) whole ∙ drop-append-le k (inside ++ 42 ∷ 47 ∷ []) rest (omega (arith, length-append inside (42 ∷ 47 ∷ []))) ∙ end_begun (drop k (inside ++ 42 ∷ 47 ∷ [])) rest begun)))

-- of two texts behind one opening there is one
pub opened_same : (t a b : List ℕ) → t ≡ 47 ∷ 42 ∷ a → t ≡ 47 ∷ 42 ∷ b → a ≡ b
opened_same t a b e f = let g : 47 ∷ 42 ∷ a ≡ 47 ∷ 42 ∷ b = sym e ∙ f in cc
