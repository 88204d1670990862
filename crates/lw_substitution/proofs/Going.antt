-- Marks that are followed from open brackets on.
use Rattle.std.proofs.Common.{◌≡◌, ℕ, List, [], ◌∷◌, ◌++◌, map, refl, sym, ap, subst, ◌∙◌}
use Rattle.std.proofs.lemmas.List.{append-nil, append_assoc}
use Rattle.lw_base.specs.declared.token.Token.{Token}
use Rattle.lw_grammar.specs.declared.grammar.Grammar.{Grammar}
use Rattle.lw_grammar.specs.Marks.{Mark, Token as AToken, kinds_of}
use Rattle.lw_reading.specs.Brackets.{Bracket}
use Rattle.lw_reading.specs.Follows.{ChangesOpen, FollowsMarks}
use Rattle.lw_reading.specs.Follows as f

abbrev pub kinds_in : List Token → List ℕ
kinds_in ts = map (λ (t : Token). t.kind.0) ts

same_others : {k l : ℕ} {ks ls : List ℕ} → k ∷ ks ≡ l ∷ ls → ks ≡ ls
same_others e = cc

none_and_some : {k : ℕ} {ks : List ℕ} → [] ≡ k ∷ ks → ⊥
none_and_some e = cc

module _ (g : Grammar) (text : List ℕ) where
  -- behind the tokens ts, from the brackets bs, the marks m are read with the tokens us and leave `after`
  pub data Goes : List Token → List Bracket → List Mark → List Token → List Bracket → Type 0 where
    done : {ts : List Token} {bs : List Bracket} → Goes ts bs [] [] bs
    token : {ts us : List Token} {bs after : List Bracket} {m : List Mark} (t : Token) → Goes (ts ++ t ∷ []) bs m us after →
        Goes ts bs (AToken t.kind.0 ∷ m) (t ∷ us) after
    next : {ts us : List Token} {bs mid after : List Bracket} {mark : Mark} {m : List Mark} → ChangesOpen g text ts mark bs mid →
        Goes ts mid m us after → Goes ts bs (mark ∷ m) us after

  pub join : {ts us vs : List Token} {bs mid after : List Bracket} {m n : List Mark} → Goes ts bs m us mid → Goes (ts ++ us) mid n vs after →
      Goes ts bs (m ++ n) (us ++ vs) after
  join {ts} {vs} {mid} {after} {n} done more = subst (λ ts. Goes ts mid n vs after) (append-nil ts) more
  join {ts} {vs} {mid} {after} {n} (token {us} t rest) more =
      token t (join rest (subst (λ ts. Goes ts mid n vs after) (sym (append_assoc ts (t ∷ []) us)) more))
  join (next change rest) more = next change (join rest more)

  pub followed : {ts us : List Token} {bs after : List Bracket} {m n : List Mark} → FollowsMarks g text m ts bs → Goes ts bs n us after →
      FollowsMarks g text (m ++ n) (ts ++ us) after
  followed {ts} {bs} {m} so done = subst (λ m. FollowsMarks g text m (ts ++ []) bs) (sym (append-nil m)) (subst (λ ts. FollowsMarks g text m ts bs) (sym (append-nil ts)) so)
  followed {ts} {after} {m} so (token {us} {m = n} t rest) =
      subst (λ m. FollowsMarks g text m (ts ++ t ∷ us) after) (append_assoc m (AToken t.kind.0 ∷ []) n)
      (subst (λ ts. FollowsMarks g text ((m ++ AToken t.kind.0 ∷ []) ++ n) ts after) (append_assoc ts (t ∷ []) us) (followed (f.token t so) rest))
  followed {ts} {us} {after} {m} so (next {mark} {m = n} change rest) =
      subst (λ m. FollowsMarks g text m (ts ++ us) after) (append_assoc m (mark ∷ []) n) (followed (f.next so change) rest)

  pub as_going : {ts : List Token} {bs : List Bracket} {m : List Mark} → FollowsMarks g text m ts bs → Goes [] [] m ts bs
  as_going f.nothing = done
  as_going (f.token t is) = join (as_going is) (token t done)
  as_going {bs} (f.next {m} {mark} {ts} is change) =
      subst (λ us. Goes [] [] (m ++ mark ∷ []) us bs) (append-nil ts) (join (as_going is) (next change done))

  -- a mark that changes what is open reads no token
  pub silent : {ts : List Token} {bs after : List Bracket} {mark : Mark} (m : List Mark) → ChangesOpen g text ts mark bs after → kinds_of (mark ∷ m) ≡ kinds_of m
  silent m (f.opens at has is) = refl
  silent m (f.puts is) = refl
  silent m (f.shuts is) = refl
  silent m (f.renames none is) = refl
  silent m (f.wraps some is property) = refl
  silent m (f.ends is) = refl

  -- what is open between two rows of marks, of which the first reads these tokens
  pub split : {ts vs : List Token} {bs after : List Bracket} {n : List Mark} (m : List Mark) (us : List Token) → kinds_in us ≡ kinds_of m →
      Goes ts bs (m ++ n) (us ++ vs) after → (mid : List Bracket) × Goes ts bs m us mid × Goes (ts ++ us) mid n vs after
  split {ts} {vs} {bs} {after} {n} [] [] reads goes = (bs, done, subst (λ ts. Goes ts bs n vs after) (sym (append-nil ts)) goes)
  split [] (u ∷ us) reads goes = absurd (none_and_some (sym reads))
  split (x ∷ m) [] reads (token t rest) = absurd (none_and_some reads)
  split {ts} {vs} {after} {n} (x ∷ m) (u ∷ us) reads (token t rest) =
      let (mid, first, others) = split m us (same_others reads) rest in
      (mid, token t first, subst (λ ts. Goes ts mid n vs after) (append_assoc ts (u ∷ []) us) others)
  split (x ∷ m) [] reads (next change rest) =
      let (mid, first, others) = split m [] (reads ∙ silent m change) rest in (mid, next change first, others)
  split (x ∷ m) (u ∷ us) reads (next change rest) =
      let (mid, first, others) = split m (u ∷ us) (reads ∙ silent m change) rest in (mid, next change first, others)

  -- the kinds that are read
  pub kinds_read : {ts us : List Token} {bs after : List Bracket} {m : List Mark} → Goes ts bs m us after → kinds_in us ≡ kinds_of m
  kinds_read done = refl
  kinds_read (token t rest) = ap (λ ks. t.kind.0 ∷ ks) (kinds_read rest)
  kinds_read (next {m} change rest) = kinds_read rest ∙ sym (silent m change)
