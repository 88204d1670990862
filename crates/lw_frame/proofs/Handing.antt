-- A stream that is handed out, body by body.
use Rattle.std.proofs.Common.{◌≡◌, ◌∙◌, ◌<◌, ◌≤◌, ◌+◌, ℕ, zero, suc, List, [], ◌∷◌, length, drop, Some, None, sym, ap, arith, add-one, slice_get}
use Rattle.lw_frame.specs.Frames.{bodies_of}
use Rattle.lw_frame.specs.Stream.{Stream, next_body, after_next, handed}

got : {A : Type 0} (xs : List A) (n : ℕ) (x : A) → slice_get xs n ≡ Some x → drop n xs ≡ x ∷ drop (suc n) xs
got [] zero x h = cc
got [] (suc n) x h = cc
got (y ∷ xs) zero x h = cc
got (y ∷ xs) (suc n) x h = got xs n x h

pub got_none : {A : Type 0} (xs : List A) (n : ℕ) → slice_get xs n ≡ None → length xs ≤ n
got_none [] n h = omega arith
got_none (y ∷ xs) zero h = cc
got_none (y ∷ xs) (suc n) h = let less = got_none xs n h in omega arith

pub got_within : {A : Type 0} (xs : List A) (n : ℕ) (x : A) → slice_get xs n ≡ Some x → n < length xs
got_within [] zero x h = cc
got_within [] (suc n) x h = cc
got_within (y ∷ xs) zero x h = omega arith
got_within (y ∷ xs) (suc n) x h = let less = got_within xs n x h in omega arith

-- a body is handed out
pub record HandsOut (s t : Stream) (body : List ℕ) : Type 0 where
  pub fed : t.fed ≡ s.fed
  pub closed : t.closed ≡ s.closed
  pub given : t.given ≡ s.given + 1
  pub within : s.given < length (bodies_of s.fed)
  pub first : drop s.given (bodies_of s.fed) ≡ body ∷ drop t.given (bodies_of s.fed)

pub hands_out : (s t : Stream) (body : List ℕ) → next_body s ≡ Some body → t ≡ after_next s → HandsOut s t body
hands_out s t body h e =
    let is : t ≡ record s { given = s.given + 1 } = e ∙ ap (λ o. handed o s) h in
    record {
      fed = ap (λ (s : Stream). s.fed) is;
      closed = ap (λ (s : Stream). s.closed) is;
      given = ap (λ (s : Stream). s.given) is;
      within = got_within (bodies_of s.fed) s.given body h;
      first = got (bodies_of s.fed) s.given body h ∙ ap (λ n. body ∷ drop n (bodies_of s.fed)) (sym (add-one s.given) ∙ sym (ap (λ (s : Stream). s.given) is));
    }

-- or none is left
pub none_left : (s t : Stream) → next_body s ≡ None → t ≡ after_next s → (t ≡ s) × (length (bodies_of s.fed) ≤ s.given)
none_left s t h e = (e ∙ ap (λ o. handed o s) h, got_none (bodies_of s.fed) s.given h)
