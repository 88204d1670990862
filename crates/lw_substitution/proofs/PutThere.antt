-- Each reference of a tree was put there by marks, behind as many others as its place says.
use Rattle.std.proofs.Common.{◌≡◌, ◌+◌, ◌⊎◌, inl, inr, ℕ, zero, suc, List, [], ◌∷◌, ◌++◌, Some, None, map, length, drop, slice_get, refl, sym, ap, subst, ◌∙◌, arith}
use Rattle.std.proofs.lemmas.List.{append-nil, append_assoc, drop_at, length-append, map-append, map_push}
use Rattle.std.proofs.lemmas.Option.{none-some, same_Some}
use Rattle.lw_base.specs.declared.token.Span.{Span}
use Rattle.lw_base.specs.declared.token.Token.{Token}
use Rattle.lw_grammar.specs.declared.grammar.Grammar.{Grammar}
use Rattle.lw_grammar.specs.declared.rule.Op.{Op}
use Rattle.lw_grammar.specs.declared.rule.Value0.{Value0}
use Rattle.lw_reading.specs.Brackets.{Bracket, InNode, InValue, Root, Shuts, in_value, in_node, at_root, span_of_tokens}
use Rattle.lw_reading.specs.Follows.{ChangesOpen, FollowsMarks, MakesReference}
use Rattle.lw_reading.specs.Follows as f
use Rattle.lw_reading.specs.Grown.{Grown, Grow, Held, Nothing, Puts, Takes, Points, size_of}
use Rattle.lw_reading.specs.Trees.{IsTree, points, points_of, refs, refs_of}
use Rattle.lw_grammar.specs.Marks.{Mark, Token as AToken, Put, End}
use Rattle.lw_tokens.specs.Cut.{kinds}
use Rattle.lw_tree.specs.declared.node.Reference.{Reference}
use Rattle.lw_tree.specs.Parts.{Parts}
use Rattle.lw_places.specs.Starting.{ReferenceNext, marks_with, token_marks}
use Rattle.lw_substitution.specs.Growth.{points_open}
use Rattle.lw_substitution.specs.Places.{IsPutAt}
use Rattle.lw_substitution.proofs.AtPlace.{by_cross}
use Rattle.lw_substitution.proofs.Going.{as_going, kinds_read}

-- ---- where references stand in what has grown, in text order

abbrev mutual
  spans : Grown → List Span
  spans (Grow type s held) = spans_of held

  spans_of : Held → List Span
  spans_of Nothing = []
  spans_of (Puts held p v) = spans_of held
  spans_of (Points held p want name s) = spans_of held ++ s ∷ []
  spans_of (Takes held p x) = spans_of held ++ spans x

-- and in open brackets, the outermost first
abbrev spans_open : List Bracket → List Span
spans_open [] = []
spans_open (InNode type from held ∷ bs) = spans_open bs ++ spans_of held
spans_open (InValue p op c at None ∷ bs) = spans_open bs
spans_open (InValue p op c at (Some x) ∷ bs) = spans_open bs ++ spans x
spans_open (Root x ∷ bs) = spans_open bs ++ spans x

mutual
  count_spans : (x : Grown) → length (spans x) ≡ points x
  count_spans (Grow type s held) = count_spans_of held

  count_spans_of : (held : Held) → length (spans_of held) ≡ points_of held
  count_spans_of Nothing = refl
  count_spans_of (Puts held p v) = count_spans_of held
  count_spans_of (Points held p want name s) = omega (arith, length-append (spans_of held) (s ∷ []), count_spans_of held)
  count_spans_of (Takes held p x) = omega (arith, length-append (spans_of held) (spans x), count_spans_of held, count_spans x)

count_open : (bs : List Bracket) → length (spans_open bs) ≡ points_open bs
count_open [] = refl
count_open (InNode type from held ∷ bs) = omega (arith, length-append (spans_open bs) (spans_of held), count_open bs, count_spans_of held)
count_open (InValue p op c at None ∷ bs) = count_open bs
count_open (InValue p op c at (Some x) ∷ bs) = omega (arith, length-append (spans_open bs) (spans x), count_open bs, count_spans x)
count_open (Root x ∷ bs) = omega (arith, length-append (spans_open bs) (spans x), count_open bs, count_spans x)

-- they are those of the tree's references
abbrev spans_in : List Reference → List Span
spans_in rs = map (λ (r : Reference). r.span) rs

spans_both : (rs ss : List Reference) (ts us : List Span) → spans_in rs ≡ ts → spans_in ss ≡ us → spans_in (rs ++ ss) ≡ ts ++ us
spans_both rs ss ts us first others =
    map-append (λ (r : Reference). r.span) rs ss ∙ ap (λ (xs : List Span). xs ++ spans_in ss) first ∙ ap (λ (xs : List Span). ts ++ xs) others

mutual
  refs_spans : (n : ℕ) (x : Grown) → spans_in (refs n x) ≡ spans x
  refs_spans n (Grow type s held) = refs_spans_of n (n + 1) held

  refs_spans_of : (number n : ℕ) (held : Held) → spans_in (refs_of number n held) ≡ spans_of held
  refs_spans_of number n Nothing = refl
  refs_spans_of number n (Puts held p v) = refs_spans_of number n held
  refs_spans_of number n (Points held p want name s) =
      spans_both (refs_of number n held)
      (record { owner = record { 0 = number }; prop = record { 0 = p }; want = record { 0 = want }; name = name; span = s } ∷ []) (spans_of held) (s ∷ [])
      (refs_spans_of number n held) refl
  refs_spans_of number n (Takes held p x) =
      spans_both (refs_of number n held) (refs (n + size_of held) x) (spans_of held) (spans x) (refs_spans_of number n held) (refs_spans (n + size_of held) x)

span_at : (rs : List Reference) (i : ℕ) (r : Reference) → slice_get rs i ≡ Some r → slice_get (spans_in rs) i ≡ Some r.span
span_at [] i r at = absurd (none-some r at)
span_at (x ∷ rs) zero r at = ap (λ (z : Reference). Some z.span) (same_Some x r at)
span_at (x ∷ rs) (suc i) r at = span_at rs i r at

-- the last of a list, or one before it
one_of : (xs : List Span) (x : Span) (i : ℕ) (y : Span) → slice_get (xs ++ x ∷ []) i ≡ Some y → (slice_get xs i ≡ Some y) ⊎ ((i ≡ length xs) × (y ≡ x))
one_of [] x zero y at = inr (refl, sym (same_Some x y at))
one_of [] x (suc i) y at = absurd (none-some y at)
one_of (z ∷ xs) x zero y at = inl at
one_of (z ∷ xs) x (suc i) y at = elim (one_of xs x i y at) [
  | inl before ↦ inl before
  | inr last ↦ inr (omega (arith, last.0), last.1)
]

module _ (g : Grammar) (text : List ℕ) where
  -- ---- a value that was begun

  -- the mark that began it, and the tokens that were read since
  record IsBegun (m : List Mark) (ts : List Token) (op : Op) (c : Value0) (at : ℕ) (bs : List Bracket) : Type 0 where
    name : List ℕ
    before : List Mark
    front : List Token
    mid : List Token
    marks_are : m ≡ before ++ Put name op c ∷ token_marks (kinds mid)
    tokens_are : ts ≡ front ++ mid
    at_is : length front ≡ at
    follows : FollowsMarks g text before front bs

  one_more_mark : (before : List Mark) (put : Mark) (mid : List Token) (t : Token) →
      (before ++ put ∷ token_marks (kinds mid)) ++ AToken t.kind.0 ∷ [] ≡ before ++ put ∷ token_marks (kinds (mid ++ t ∷ []))
  one_more_mark before put mid t =
      append_assoc before (put ∷ token_marks (kinds mid)) (AToken t.kind.0 ∷ [])
      ∙ ap (λ (n : List Mark). before ++ put ∷ n)
      (sym (map_push (λ (k : ℕ). AToken k) (kinds mid) t.kind.0) ∙ ap token_marks (sym (map_push (λ (u : Token). u.kind.0) mid t)))

  begun_still : {m : List Mark} {ts : List Token} {op : Op} {c : Value0} {at : ℕ} {bs : List Bracket} (t : Token) → IsBegun m ts op c at bs →
      IsBegun (m ++ AToken t.kind.0 ∷ []) (ts ++ t ∷ []) op c at bs
  begun_still {op} {c} t is = record {
    name = is.name;
    before = is.before;
    front = is.front;
    mid = is.mid ++ t ∷ [];
    marks_are = ap (λ (n : List Mark). n ++ AToken t.kind.0 ∷ []) is.marks_are ∙ one_more_mark is.before (Put is.name op c) is.mid t;
    tokens_are = ap (λ (us : List Token). us ++ t ∷ []) is.tokens_are ∙ append_assoc is.front is.mid (t ∷ []);
    at_is = is.at_is;
    follows = is.follows;
  }

  no_value_shuts : {ts : List Token} {before bs : List Bracket} {p at : ℕ} {op : Op} {c : Value0} → Shuts ts before (InValue p op c at None ∷ bs) → ⊥
  no_value_shuts is = elim is [ ]

  begun : {m : List Mark} {ts : List Token} {p at : ℕ} {op : Op} {c : Value0} {bs : List Bracket} → FollowsMarks g text m ts (InValue p op c at None ∷ bs) →
      IsBegun m ts op c at bs
  begun (f.token t is) = begun_still t (begun is)
  begun (f.next {m} {ts} is (f.puts {name} number)) = record {
    name = name;
    before = m;
    front = ts;
    mid = [];
    marks_are = refl;
    tokens_are = sym (append-nil ts);
    at_is = refl;
    follows = is;
  }
  begun (f.next is (f.shuts shut)) = absurd (no_value_shuts shut)

  -- ---- each reference was put

  abbrev ArePut : List Mark → List Token → List Span → Type 0
  ArePut m ts ss = (i : ℕ) (s : Span) → slice_get ss i ≡ Some s → IsPutAt g text m ts i s

  put_before_mark : (mark : Mark) {m : List Mark} {ts : List Token} {i : ℕ} {s : Span} → IsPutAt g text m ts i s → IsPutAt g text (m ++ mark ∷ []) ts i s
  put_before_mark mark is = record {
    next = is.next;
    after = is.after ++ mark ∷ [];
    front = is.front;
    mid = is.mid;
    rest = is.rest;
    makes = is.makes;
    marks_are = ap (λ (n : List Mark). n ++ mark ∷ []) is.marks_are ∙ append_assoc (marks_with is.next (kinds is.mid)) is.after (mark ∷ []);
    tokens_are = is.tokens_are;
    reads_front = is.reads_front;
    place_of = is.place_of;
    spans = is.spans;
  }

  put_before_token : (t : Token) {m : List Mark} {ts : List Token} {i : ℕ} {s : Span} → IsPutAt g text m ts i s → IsPutAt g text m (ts ++ t ∷ []) i s
  put_before_token t is = record {
    next = is.next;
    after = is.after;
    front = is.front;
    mid = is.mid;
    rest = is.rest ++ t ∷ [];
    makes = is.makes;
    marks_are = is.marks_are;
    tokens_are = ap (λ (us : List Token). us ++ t ∷ []) is.tokens_are ∙ append_assoc (is.front ++ is.mid) is.rest (t ∷ []);
    reads_front = is.reads_front;
    place_of = is.place_of;
    spans = is.spans;
  }

  -- the one that ends now
  put_now : {m : List Mark} {ts : List Token} {op : Op} {c : Value0} {at : ℕ} {bs : List Bracket} → IsBegun m ts op c at bs → MakesReference op c →
      IsPutAt g text (m ++ End ∷ []) ts (points_open bs) (span_of_tokens (drop at ts))
  put_now {ts} {op} {c} {at} {bs} is makes =
      let next : ReferenceNext = record { before = is.before; prop = is.name; op = op; value = c } in record {
        next = next;
        after = [];
        front = is.front;
        mid = is.mid;
        rest = [];
        makes = makes;
        marks_are = ap (λ (n : List Mark). n ++ End ∷ []) is.marks_are ∙ sym (append-nil (marks_with next (kinds is.mid)));
        tokens_are = is.tokens_are ∙ sym (append-nil (is.front ++ is.mid));
        reads_front = kinds_read g text (as_going g text is.follows);
        place_of = record { brackets = bs; follows = is.follows; counted = refl };
        spans = ap span_of_tokens (ap (drop at) is.tokens_are ∙ drop_at is.front is.mid at is.at_is);
      }

  put_by_end : (m : List Mark) (ts : List Token) (ss : List Span) (s : Span) (n : ℕ) → ArePut m ts ss → n ≡ length ss →
      IsPutAt g text (m ++ End ∷ []) ts n s → ArePut (m ++ End ∷ []) ts (ss ++ s ∷ [])
  put_by_end m ts ss s n are count last i t at = by (one_of ss s i t at)
    where
      by : (slice_get ss i ≡ Some t) ⊎ ((i ≡ length ss) × (t ≡ s)) → IsPutAt g text (m ++ End ∷ []) ts i t
      by (inl before) = put_before_mark End (are i t before)
      by (inr is) =
          subst (λ (j : ℕ). IsPutAt g text (m ++ End ∷ []) ts j t) (count ∙ sym is.0)
          (subst (λ (u : Span). IsPutAt g text (m ++ End ∷ []) ts n u) (sym is.1) last)

  still_put : (mark : Mark) (m : List Mark) (ts : List Token) (ss us : List Span) → us ≡ ss → ArePut m ts ss → ArePut (m ++ mark ∷ []) ts us
  still_put mark m ts ss us same are i s at = put_before_mark mark (are i s (ap (λ (xs : List Span). slice_get xs i) (sym same) ∙ at))

  same_shut : {ts : List Token} {bs after : List Bracket} → Shuts ts bs after → spans_open after ≡ spans_open bs
  same_shut in_value = refl
  same_shut (in_node {held} {bs}) = ap (λ (xs : List Span). xs ++ spans_of held) (sym (append-nil (spans_open bs)))
  same_shut at_root = refl

  put_next : {m : List Mark} {mark : Mark} {ts : List Token} {bs after : List Bracket} → FollowsMarks g text m ts bs → ChangesOpen g text ts mark bs after →
      ArePut m ts (spans_open bs) → ArePut (m ++ mark ∷ []) ts (spans_open after)
  put_next {m} {mark} {ts} {bs} {after} follows (f.opens at has number) are = still_put mark m ts (spans_open bs) (spans_open after) (append-nil (spans_open bs)) are
  put_next {m} {mark} {ts} {bs} {after} follows (f.puts number) are = still_put mark m ts (spans_open bs) (spans_open after) refl are
  put_next {m} {mark} {ts} {bs} {after} follows (f.shuts shut) are = still_put mark m ts (spans_open bs) (spans_open after) (same_shut shut) are
  put_next {m} {mark} {ts} {bs} {after} follows (f.renames none number) are = still_put mark m ts (spans_open bs) (spans_open after) refl are
  put_next {m} {mark} {ts} {bs} {after} follows (f.wraps some number property) are = still_put mark m ts (spans_open bs) (spans_open after) refl are
  put_next {m} {ts} {bs = whole} {after} follows (f.ends {held} {bs} (f.a_node {x})) are =
      still_put End m ts (spans_open whole) (spans_open after) (sym (append_assoc (spans_open bs) (spans_of held) (spans x))) are
  put_next {m} {ts} follows (f.ends {type} {from} {at} {held} {bs} (f.a_reference not by number looks)) are =
      subst (λ (ss : List Span). ArePut (m ++ End ∷ []) ts ss) (append_assoc (spans_open bs) (spans_of held) (span_of_tokens (drop at ts) ∷ []))
      (put_by_end m ts (spans_open bs ++ spans_of held) (span_of_tokens (drop at ts)) (points_open bs + points_of held) are
      (sym (count_open (InNode type from held ∷ bs))) (put_now (begun follows) (not, by_cross by)))
  put_next {m} {ts} {bs = whole} {after} follows (f.ends (f.plain is)) are = still_put End m ts (spans_open whole) (spans_open after) refl are

  all_put : {m : List Mark} {ts : List Token} {bs : List Bracket} → FollowsMarks g text m ts bs → ArePut m ts (spans_open bs)
  all_put f.nothing = λ i s at. absurd (none-some s at)
  all_put (f.token t is) = λ i s at. put_before_token t (put_before_mark (AToken t.kind.0) (all_put is i s at))
  all_put (f.next is change) = put_next is change (all_put is)

  pub put_there : (m : List Mark) (ts tokens : List Token) (tree : Parts) (place : ℕ) (r : Reference) → IsTree g text m ts tokens tree →
      slice_get tree.refs place ≡ Some r → IsPutAt g text m ts place r.span
  put_there m ts tokens tree place r is at =
      all_put is.follows place r.span
      (ap (λ (ss : List Span). slice_get ss place) (sym (refs_spans 0 is.grown))
      ∙ span_at (refs 0 is.grown) place r (ap (λ (rs : List Reference). slice_get rs place) (sym is.parts.refs) ∙ at))
