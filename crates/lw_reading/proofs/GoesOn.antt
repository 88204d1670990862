-- Marks that are followed from open brackets on, each of what they leave on the way being such that it can be closed.
use Rattle.std.proofs.Common.{◌≡◌, ℕ, List, [], ◌∷◌, ◌++◌, map, length, refl, sym, ap, subst, ◌∙◌, arith}
use Rattle.std.proofs.lemmas.List.{append-nil, append_assoc}
use Rattle.lw_base.specs.declared.token.Token.{Token}
use Rattle.lw_grammar.specs.declared.grammar.Grammar.{Grammar}
use Rattle.lw_grammar.specs.Marks.{Mark, Token as AToken, Open, Shut, Put, End, Act, kinds_of}
use Rattle.lw_reading.specs.Grown.{Grown, Held}
use Rattle.lw_reading.specs.Brackets.{Bracket, InNode}
use Rattle.lw_reading.specs.Follows.{ChangesOpen, FollowsMarks, Closes}
use Rattle.lw_reading.specs.Follows as f
use Rattle.lw_reading.proofs.Listed.{same_head, same_tail}
use Rattle.lw_reading.specs.Growing.{ReadMarks}

module _ (g : Grammar) (text : List ℕ) where
  -- whatever was read, the brackets can be closed
  abbrev pub CanClose : List Bracket → Type 0
  CanClose bs = (ts : List Token) → (x : Grown) × Closes g text ts bs x

  -- with any node open on them, they can
  abbrev pub HoldsNode : List Bracket → Type 0
  HoldsNode bs = (type from : ℕ) (held : Held) → CanClose (InNode type from held ∷ bs)

  -- `GoesOn ts bs m us after`: behind the tokens ts, from the brackets bs, the marks m are read with the tokens us and leave `after`
  pub data GoesOn : List Token → List Bracket → List Mark → List Token → List Bracket → Type 0 where
    done : {ts : List Token} {bs : List Bracket} → GoesOn ts bs [] [] bs
    token : {ts us : List Token} {bs after : List Bracket} {m : List Mark} (t : Token) → GoesOn (ts ++ t ∷ []) bs m us after →
        GoesOn ts bs (AToken t.kind.0 ∷ m) (t ∷ us) after
    next : {ts us : List Token} {bs mid after : List Bracket} {mark : Mark} {m : List Mark} → ChangesOpen g text ts mark bs mid → CanClose mid →
        GoesOn ts mid m us after → GoesOn ts bs (mark ∷ m) us after

  pub join : {ts us vs : List Token} {bs mid after : List Bracket} {m n : List Mark} → GoesOn ts bs m us mid → GoesOn (ts ++ us) mid n vs after →
      GoesOn ts bs (m ++ n) (us ++ vs) after
  join {ts} {vs} {mid} {after} {n} done more = subst (λ ts. GoesOn ts mid n vs after) (append-nil ts) more
  join {ts} {vs} {mid} {after} {n} (token {us} t rest) more =
      token t (join rest (subst (λ ts. GoesOn ts mid n vs after) (sym (append_assoc ts (t ∷ []) us)) more))
  join (next change closes rest) more = next change closes (join rest more)

  pub followed : {ts us : List Token} {bs after : List Bracket} {m n : List Mark} → FollowsMarks g text m ts bs → GoesOn ts bs n us after →
      FollowsMarks g text (m ++ n) (ts ++ us) after
  followed {ts} {bs} {m} so done = subst (λ m. FollowsMarks g text m (ts ++ []) bs) (sym (append-nil m)) (subst (λ ts. FollowsMarks g text m ts bs) (sym (append-nil ts)) so)
  followed {ts} {after} {m} so (token {us} {m = n} t rest) =
      subst (λ m. FollowsMarks g text m (ts ++ t ∷ us) after) (append_assoc m (AToken t.kind.0 ∷ []) n)
      (subst (λ ts. FollowsMarks g text ((m ++ AToken t.kind.0 ∷ []) ++ n) ts after) (append_assoc ts (t ∷ []) us) (followed (f.token t so) rest))
  followed {ts} {us} {after} {m} so (next {mark} {m = n} change closes rest) =
      subst (λ m. FollowsMarks g text m (ts ++ us) after) (append_assoc m (mark ∷ []) n) (followed (f.next so change) rest)

  -- marks that are tokens alone leave brackets as they are
  pub data AllTokens : List Mark → Type 0 where
    none : AllTokens []
    more : {k : ℕ} {m : List Mark} → AllTokens m → AllTokens (AToken k ∷ m)

  pub AllTokens-append : {m n : List Mark} → AllTokens m → AllTokens n → AllTokens (m ++ n)
  AllTokens-append none others = others
  AllTokens-append (more rest) others = more (AllTokens-append rest others)

-- the tokens of two rows of marks
pub record Split (m n : List Mark) (ts : List Token) : Type 0 where
  pub first : List Token
  pub others : List Token
  pub all : ts ≡ first ++ others
  pub reads : ReadMarks first m
  pub reads_others : ReadMarks others n

more_first : {m n : List Mark} {ts : List Token} (k : ℕ) (t : Token) → t.kind.0 ≡ k → Split m n ts → Split (AToken k ∷ m) n (t ∷ ts)
more_first k t same s = record {
  first = t ∷ s.first;
  others = s.others;
  all = ap (λ ts. t ∷ ts) s.all;
  reads = ap (λ k. k ∷ map (λ t. t.kind.0) s.first) same ∙ ap (λ ks. k ∷ ks) s.reads;
  reads_others = s.reads_others;
}

as_is : {m n : List Mark} {ts : List Token} (x : Mark) → kinds_of (x ∷ m) ≡ kinds_of m → Split m n ts → Split (x ∷ m) n ts
as_is x same s = record { first = s.first; others = s.others; all = s.all; reads = s.reads ∙ sym same; reads_others = s.reads_others }

pub split : (m n : List Mark) (ts : List Token) → ReadMarks ts (m ++ n) → Split m n ts
split [] n ts reads = record { first = []; others = ts; all = refl; reads = refl; reads_others = reads }
split (AToken k ∷ m) n [] reads = absurd (omega (arith, ap length reads))
split (AToken k ∷ m) n (t ∷ ts) reads = more_first k t (same_head reads) (split m n ts (same_tail reads))
split (Open r ∷ m) n ts reads = as_is (Open r) refl (split m n ts reads)
split (Shut ∷ m) n ts reads = as_is Shut refl (split m n ts reads)
split (Put p op c ∷ m) n ts reads = as_is (Put p op c) refl (split m n ts reads)
split (End ∷ m) n ts reads = as_is End refl (split m n ts reads)
split (Act a ∷ m) n ts reads = as_is (Act a) refl (split m n ts reads)

module _ (g : Grammar) (text : List ℕ) where
  one_token : {ts us : List Token} {bs after : List Bracket} {m : List Mark} (k : ℕ) (t : Token) → t.kind.0 ≡ k → GoesOn g text (ts ++ t ∷ []) bs m us after →
      GoesOn g text ts bs (AToken k ∷ m) (t ∷ us) after
  one_token {ts} {us} {bs} {after} {m} k t same rest = subst (λ k. GoesOn g text ts bs (AToken k ∷ m) (t ∷ us) after) same (token t rest)

  pub tokens_alone : {bs : List Bracket} {m : List Mark} → AllTokens g text m → (ts us : List Token) → ReadMarks us m → GoesOn g text ts bs m us bs
  tokens_alone none ts [] reads = done
  tokens_alone none ts (t ∷ us) reads = absurd (omega (arith, ap length reads))
  tokens_alone (more rest) ts [] reads = absurd (omega (arith, ap length reads))
  tokens_alone (more {k} rest) ts (t ∷ us) reads = one_token k t (same_head reads) (tokens_alone rest (ts ++ t ∷ []) us (same_tail reads))
