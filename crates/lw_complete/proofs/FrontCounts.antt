-- Where each cross-reference reads tokens alone, none is open where the next one comes, and an opened tree leaves none out.
use Rattle.std.proofs.Common.{◌≡◌, ◌+◌, ◌<◌, ℕ, List, [], ◌∷◌, ◌++◌, Option, Some, None, length, slice_get, get_or, refl, sym, ap, subst, ◌∙◌, arith}
use Rattle.std.proofs.lemmas.List.{append-nil}
use Rattle.std.proofs.lemmas.Option.{slice_get-get_or}
use Rattle.lw_base.specs.declared.token.Token.{Token}
use Rattle.lw_grammar.specs.declared.grammar.Grammar.{Grammar}
use Rattle.lw_grammar.specs.declared.rule.Op.{Op}
use Rattle.lw_grammar.specs.declared.rule.Value0.{Value0}
use Rattle.lw_reading.specs.Brackets.{Bracket, InNode, InValue, Root, Shuts, in_value, in_node, at_root}
use Rattle.lw_reading.specs.Follows.{ChangesOpen, Closes, FollowsMarks, IsCross, MakesReference, PutsValueIn, RefersBy}
use Rattle.lw_reading.specs.Follows as f
use Rattle.lw_reading.specs.Grown.{Grown, Held}
use Rattle.lw_reading.specs.Trees.{IsOpenedTree, points}
use Rattle.lw_places.specs.Starting.{ReferenceNext, marks_with, token_marks}
use Rattle.lw_reading.proofs.Listed.{same_head, same_tail}
use Rattle.lw_reading.proofs.OneTree.{one_follows}
use Rattle.lw_grammar.specs.Marks.{Mark, Put, End}
use Rattle.lw_grammar.specs.Marks as mark
use Rattle.lw_tree.specs.declared.node.Reference.{Reference}
use Rattle.lw_tree.specs.Parts.{Parts}
use Rattle.lw_substitution.specs.Growth.{points_open}
use Rattle.lw_substitution.proofs.Counting.{count_refs}
use Rattle.lw_substitution.proofs.Going.{Goes, as_going, kinds_read}
use Rattle.lw_substitution.proofs.Going as going
use Rattle.lw_substitution.proofs.OneReference.{ReadsReference, reads, reads_reference, no_plain_reference}
use Rattle.lw_complete.proofs.FrontPlain.{IsCrossPut, ReadPlainly}
use Rattle.lw_complete.proofs.FrontPlain as plainly

by_cross : {g : Grammar} {c : Value0} {wanted name : List ℕ} → RefersBy g c wanted name → IsCross c
by_cross {wanted} {name} (f.written {s} is) = (wanted, Some name, s, is)
by_cross {wanted} (f.by_type {s} is names) = (wanted, None, s, is)

-- no cross-reference is open
abbrev pub NoCross : List Bracket → Type 0
NoCross [] = Unit {0}
NoCross (InNode type from held ∷ bs) = NoCross bs
NoCross (InValue p op c at inside ∷ bs) = (¬ IsCross c) × NoCross bs
NoCross (Root x ∷ bs) = NoCross bs

no_put_is_last : (m : List Mark) (x : Mark) (n : List Mark) → [] ≡ m ++ x ∷ n → ⊥
no_put_is_last [] x n e = cc
no_put_is_last (y ∷ m) x n e = cc

end_is_no_put : {q : List ℕ} {o : Op} {d : Value0} {m n : List Mark} → End ∷ m ≡ Put q o d ∷ n → ⊥
end_is_no_put e = cc

token_is_no_put : {k : ℕ} {q : List ℕ} {o : Op} {d : Value0} {m n : List Mark} → mark.Token k ∷ m ≡ Put q o d ∷ n → ⊥
token_is_no_put e = cc

-- what is left of marks behind tokens and an end, where a value is put later
record LaterPut (ks : List ℕ) (rest m : List Mark) (x : Mark) (n : List Mark) : Type 0 where
  others : List Mark
  are : m ≡ token_marks ks ++ End ∷ others
  rest_are : rest ≡ others ++ x ∷ n

later_put : {q : List ℕ} {o : Op} {d : Value0} (ks : List ℕ) (rest m n : List Mark) → token_marks ks ++ End ∷ rest ≡ m ++ Put q o d ∷ n →
    LaterPut ks rest m (Put q o d) n
later_put [] rest [] n same = absurd (end_is_no_put same)
later_put [] rest (x ∷ m) n same = record { others = m; are = ap (λ (y : Mark). y ∷ m) (sym (same_head same)); rest_are = same_tail same }
later_put (k ∷ ks) rest [] n same = absurd (token_is_no_put same)
later_put (k ∷ ks) rest (x ∷ m) n same =
    let later = later_put ks rest m n (same_tail same) in record {
      others = later.others;
      are = ap (λ (y : Mark). y ∷ m) (sym (same_head same)) ∙ ap (λ (l : List Mark). mark.Token k ∷ l) later.are;
      rest_are = later.rest_are;
    }

module _ (g : Grammar) (text : List ℕ) where
  shut_cross : {ts : List Token} {bs after : List Bracket} → Shuts ts bs after → NoCross bs → NoCross after
  shut_cross in_value is = is
  shut_cross in_node is = is
  shut_cross at_root is = is

  change_cross : {ts : List Token} {x : Mark} {bs after : List Bracket} → ChangesOpen g text ts x bs after → ¬ IsCrossPut x → NoCross bs → NoCross after
  change_cross (f.opens at has number) not is = is
  change_cross (f.puts number) not is = (not, is)
  change_cross (f.shuts shut) not is = shut_cross shut is
  change_cross (f.renames none number) not is = is
  change_cross (f.wraps some number property) not is = is
  change_cross (f.ends put) not is = is.1

  no_token_changes : {ts : List Token} {bs after : List Bracket} {k : ℕ} → ChangesOpen g text ts (mark.Token k) bs after → ⊥
  no_token_changes is = elim is [ ]

  -- what goes on behind a value that is read by tokens
  record GoesLater (bs : List Bracket) (m : List Mark) (after : List Bracket) : Type 0 where
    seen : List Token
    coming : List Token
    mid : List Bracket
    goes : Goes g text seen mid m coming after
    no_cross : NoCross bs → NoCross mid

  past_end : {ts us : List Token} {p at : ℕ} {op : Op} {c : Value0} {inside : Option Grown} {bs mid after : List Bracket} {m : List Mark} →
      ChangesOpen g text ts End (InValue p op c at inside ∷ bs) mid → Goes g text ts mid m us after → GoesLater bs m after
  past_end {ts} {us} (f.ends put) goes = record { seen = ts; coming = us; mid = _; goes = goes; no_cross = λ is. is }

  past_tokens : {ts us : List Token} {p at : ℕ} {op : Op} {c : Value0} {inside : Option Grown} {bs after : List Bracket} {m : List Mark} (ks : List ℕ) →
      Goes g text ts (InValue p op c at inside ∷ bs) (token_marks ks ++ End ∷ m) us after → GoesLater bs m after
  past_tokens [] (going.next change goes) = past_end change goes
  past_tokens (k ∷ ks) (going.token t goes) = past_tokens ks goes
  past_tokens (k ∷ ks) (going.next change goes) = absurd (no_token_changes change)

  past_put : {ts us : List Token} {p : List ℕ} {op : Op} {c : Value0} {bs after : List Bracket} {m : List Mark} (ks : List ℕ) →
      Goes g text ts bs (Put p op c ∷ (token_marks ks ++ End ∷ m)) us after → GoesLater bs m after
  past_put ks (going.next (f.puts number) goes) = past_tokens ks goes

  step_cross : {ts us : List Token} {x : Mark} {bs after : List Bracket} {m : List Mark} → ¬ IsCrossPut x →
      ((ts us : List Token) (bs : List Bracket) → Goes g text ts bs m us after → NoCross bs → NoCross after) → Goes g text ts bs (x ∷ m) us after →
      NoCross bs → NoCross after
  step_cross not more (going.token t goes) is = more _ _ _ goes is
  step_cross not more (going.next change goes) is = more _ _ _ goes (change_cross change not is)

  none_gone : {ts us : List Token} {bs after : List Bracket} → Goes g text ts bs [] us after → NoCross bs → NoCross after
  none_gone going.done is = is

  -- before a value is put
  before_put : (q : List ℕ) (o : Op) (d : Value0) {l : List Mark} → ReadPlainly l → (m n : List Mark) → l ≡ m ++ Put q o d ∷ n → (after : List Bracket)
      (ts us : List Token) (bs : List Bracket) → Goes g text ts bs m us after → NoCross bs → NoCross after
  before_put q o d plainly.none m n same after ts us bs goes is = absurd (no_put_is_last m (Put q o d) n same)
  before_put q o d (plainly.other not rest) [] n same after ts us bs goes is = none_gone goes is
  before_put q o d (plainly.other {x} not rest) (y ∷ m) n same after ts us bs goes is =
      step_cross (subst (λ (z : Mark). ¬ IsCrossPut z) (same_head same) not) (λ ts us bs. before_put q o d rest m n (same_tail same) after ts us bs) goes is
  before_put q o d (plainly.plain ks rest) [] n same after ts us bs goes is = none_gone goes is
  before_put q o d (plainly.plain {p} {op} {c} {m = l} ks rest) (y ∷ m) n same after ts us bs goes is =
      let later = later_put ks l m n (same_tail same) in
      let first : y ∷ m ≡ Put p op c ∷ (token_marks ks ++ End ∷ later.others) =
      ap (λ (z : Mark). z ∷ m) (sym (same_head same)) ∙ ap (λ (k : List Mark). Put p op c ∷ k) later.are in
      let past = past_put ks (subst (λ (k : List Mark). Goes g text ts bs k us after) first goes) in
      before_put q o d rest later.others n later.rest_are after past.seen past.coming past.mid past.goes (past.no_cross is)

  pub no_cross_open : (q : List ℕ) (o : Op) (d : Value0) (m n : List Mark) {ts : List Token} {bs : List Bracket} → ReadPlainly (m ++ Put q o d ∷ n) →
      FollowsMarks g text m ts bs → NoCross bs
  no_cross_open q o d m n {ts} {bs} read follows = before_put q o d read m n refl bs [] ts [] (as_going g text follows) tt

  -- ---- what is closed

  shut_points : {ts : List Token} {bs after : List Bracket} → Shuts ts bs after → points_open after ≡ points_open bs
  shut_points in_value = refl
  shut_points in_node = omega arith
  shut_points at_root = refl

  end_points : {ts : List Token} {p at : ℕ} {op : Op} {c : Value0} {inside : Option Grown} {bs after : List Bracket} → ¬ MakesReference op c →
      ChangesOpen g text ts End (InValue p op c at inside ∷ bs) after → points_open after ≡ points_open (InValue p op c at inside ∷ bs)
  end_points not (f.ends f.a_node) = omega arith
  end_points not (f.ends (f.a_reference flag by number looks)) = absurd (not (flag, by_cross by))
  end_points not (f.ends (f.plain v)) = refl

  pub all_points : {ts : List Token} {bs : List Bracket} {x : Grown} → Closes g text ts bs x → NoCross bs → points x ≡ points_open bs
  all_points f.root is = omega arith
  all_points (f.shut shut more) is = all_points more (shut_cross shut is) ∙ shut_points shut
  all_points (f.ended not change more) is = all_points more (change_cross change (λ (e : ⊥). e) is) ∙ end_points not change
  all_points (f.left_out makes more) is = absurd (is.0 makes.1)

  -- ---- the tree before a reference and the one behind it

  got : (rs : List Reference) (place : ℕ) → place < length rs → (r : Reference) × (slice_get rs place ≡ Some r)
  got [] place low = absurd (omega (arith, low))
  got (r ∷ rs) place low = (get_or (r ∷ rs) place r, slice_get-get_or (r ∷ rs) place r low)

  module _ (next : ReferenceNext) (makes : MakesReference next.op next.value) (n : List Mark) (read : ReadPlainly (next.before ++ Put next.prop next.op next.value ∷ n))
      (front : List Token) where
    put_points : (type from : ℕ) (below : List Bracket) {ts : List Token} {p : ℕ} {held after : Held} → PutsValueIn g text next.op next.value ts None held p after →
        points_open (InNode type from after ∷ below) ≡ points_open (InNode type from held ∷ below) + 1
    put_points type from below (f.a_reference not refers wants looks) = omega arith
    put_points type from below (f.plain v) = absurd (no_plain_reference g text makes v)

    no_cross_before : {bs : List Bracket} → FollowsMarks g text next.before front bs → NoCross bs
    no_cross_before follows = no_cross_open next.prop next.op next.value next.before n read follows

    one_more : {stack bs : List Bracket} → ReadsReference g text next.before next.prop next.op next.value front [] stack → FollowsMarks g text next.before front bs →
        NoCross stack × (points_open stack ≡ points_open bs + 1)
    one_more {bs} (reads {type} {from} {held} {after} {bs = below} follows number does) was = (
      no_cross_before follows,
      put_points type from below does ∙ ap (λ (cs : List Bracket). points_open cs + 1) (one_follows g text follows was refl refl),
    )

    pub stands_behind : {tokens others : List Token} {tree behind : Parts} → IsOpenedTree g text next.before front tokens tree →
        IsOpenedTree g text (marks_with next []) front others behind → (r : Reference) × (slice_get behind.refs (length tree.refs) ≡ Some r)
    stands_behind {tree} {behind} is was =
        let follows : FollowsMarks g text (marks_with next []) (front ++ []) was.brackets =
        subst (λ (ts : List Token). FollowsMarks g text (marks_with next []) ts was.brackets) (sym (append-nil front)) was.follows in
        let read_it = reads_reference g text next.before next.prop next.op next.value front [] was.brackets (kinds_read g text (as_going g text is.follows)) follows in
        let (none, more) = one_more read_it is.follows in
        let before : points is.grown ≡ points_open is.brackets = all_points is.closes (no_cross_before is.follows) in
        let after : points was.grown ≡ points_open was.brackets = all_points was.closes none in
        let there : length tree.refs < length behind.refs =
        omega (arith, ap length is.parts.refs, ap length was.parts.refs, count_refs 0 is.grown, count_refs 0 was.grown, before, after, more) in
        got behind.refs (length tree.refs) there
