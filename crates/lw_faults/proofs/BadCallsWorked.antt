-- Calls, ranges and cross-references that may not be, and those beside them that may.
use Rattle.std.proofs.Common.{◌≡◌, ℕ, ◌<◌, List, [], ◌∷◌, ◌++◌, Some, Bool, true, false, codes, Contains, ◌⊎◌, inl, inr, encode_utf8, lit<, refl, sym, ap, ◌∙◌, subst, arith, true≢false}
use Rattle.std.proofs.lemmas.Str.{encode_ascii, encode_same}
use Rattle.std.proofs.lemmas.List.{append-nil}
use Rattle.lw_base.specs.declared.token.Span.{Span}
use Rattle.lw_grammar.specs.declared.grammar.Grammar.{Grammar}
use Rattle.lw_grammar.specs.declared.rule.Rule.{Rule}
use Rattle.lw_grammar.specs.declared.rule.Op.{Op}
use Rattle.lw_grammar.specs.declared.rule.Op.TheVariants.{One}
use Rattle.lw_grammar.specs.declared.rule.Value0.{Value0}
use Rattle.lw_grammar.specs.declared.rule.Value0.TheVariants as value
use Rattle.lw_grammar.specs.declared.rule.Element.{Element}
use Rattle.lw_grammar.specs.declared.terminal.Terminal.{Terminal}
use Rattle.lw_grammar.specs.declared.terminal.TermElement.{TermElement}
use Rattle.lw_grammar.specs.declared.terminal.TermElement.TheVariants as term
use Rattle.lw_grammar.specs.Leaves as leaf
use Rattle.lw_grammar.specs.Leaves.{Leaf, leaves, Calls, Cross}
use Rattle.lw_grammar.specs.Named.{IsRule, IsTerminal, declared_rule, declared_terminal}
use Rattle.lw_grammar.specs.Nodes.{IsDataType}
use Rattle.lw_grammar.proofs.FirstLemmas.{first_item}
use Rattle.lw_grammar.proofs.LeafLemmas.{leaves-Call, values-Call, values-Cross}
use Rattle.lw_grammar.specs.Written.{WritesCall, Range, term_calls, term_ranges}
use Rattle.lw_grammar.specs.Written as written
use Rattle.lw_faults.specs.BadCalls.{BadCall, CrossesBy, IsInOrder}
use Rattle.lw_faults.specs.BadCalls as bad
use Rattle.lw_faults.specs.Worked.{StandsAlone, StandsNowhere, place, no_place, entry_rule, plain_rule, terminal_id, x_id, y_id, id_element, x_value, t_terminal, flagged_terminal, naming_terminal, with_terminal, calling_terminal, crossing}
use Rattle.lw_grammar.proofs.Every.{every_of, every_at, differ, first_here, first_later, meant, not_meant}
use Rattle.lw_faults.proofs.AloneLemmas.{the_rule}
use Rattle.lw_faults.proofs.NameRulesWorked.{by_called, its_leaf, its_name, its_part}
use Rattle.lw_faults.proofs.NameRulesWorked as named
use Rattle.lw_faults.proofs.AssignLemmas.{writes, crosses, part_there, leaf_there}
use Rattle.lw_faults.proofs.NodeLemmas.{puts_makes, id_makes_none}
use Rattle.lw_grammar.proofs.TermLemmas.{call_equations, range_equations, calls-Call, calls-Range, ranges-Call, ranges-Range}

none_there : {X : Type 0} (x : X) → ¬ Contains [] x
none_there x (k, inside, is) = omega (arith, inside)

id_calls : term_calls terminal_id.body ≡ []
id_calls = simp call_equations

id_ranges : term_ranges terminal_id.body ≡ []
id_ranges = simp range_equations

-- ---- a terminal that is called

module _ (is_hidden is_fragment : Bool) where
  abbrev G : Grammar
  G = calling_terminal is_hidden is_fragment

  abbrev A : Rule
  A = the_rule (x_value (value.Call (codes "T") (place 21 22)))

  abbrev T : Terminal
  T = record (t_terminal (term.Pattern (codes "a") no_place)) { is_hidden = is_hidden; is_fragment = is_fragment }

  t_named : IsTerminal G (codes "T") 1 T
  t_named = meant declared_terminal declared_rule (codes "T") G.terminals G.rules 1 T (first_later (differ _ _ refl) (first_here refl)) (differ _ _ refl, tt)

  -- neither terminal calls anything or has a range
  abbrev IsPlain : Terminal → Type 0
  IsPlain x = (term_calls x.body ≡ []) × (term_ranges x.body ≡ [])

  plain : (terminal : Terminal) → Contains G.terminals terminal → IsPlain terminal
  plain terminal has = every_of IsPlain G.terminals terminal ((id_calls, id_ranges), ((simp call_equations, simp range_equations), tt)) has

  -- the only call is this one
  only_t : (f : ℕ) (t : Span) (n : List ℕ) → BadCall G f t n →
      ((is_hidden ≡ true) ⊎ (is_fragment ≡ true)) × (f ≡ 0) × (t ≡ place 21 22) × (n ≡ codes "T")
  only_t f t n (bad.hidden rule k terminal has wrote is which) =
      let same : A ≡ rule = every_of (λ x. A ≡ x) (A ∷ []) rule (refl, tt) has in
      let found : (t ≡ place 21 22) × (n ≡ codes "T") =
      writes A (codes "x") One (value.Call (codes "T") (place 21 22)) no_place (Calls (codes "T") (place 21 22)) refl (values-Call (codes "T") (place 21 22)) t n
      (subst (λ (x : Rule). WritesCall x t n) (sym same) wrote) in
      let it : terminal ≡ T = first_item (subst (λ x. IsTerminal G x k terminal) found.1 is).first t_named.first in
      (subst (λ (x : Terminal). (x.is_hidden ≡ true) ⊎ (x.is_fragment ≡ true)) it which, sym (ap (λ (x : Rule). x.file) same), found.0, found.1)
  only_t f t n (bad.of_rule terminal r rule has called _) =
      absurd (none_there (n, t) (subst (λ ls. Contains ls (n, t)) (plain terminal has).0 called))
  only_t f t n (bad.range terminal first last has inside _) =
      absurd (none_there (first, last, t) (subst (λ ls. Contains {X = Range} ls (first, last, t)) (plain terminal has).1 inside))
  only_t f t n (bad.crossed rule r by has crossed _ _) =
      let same : A ≡ rule = every_of (λ x. A ≡ x) (A ∷ []) rule (refl, tt) has in
      absurd (crosses A (codes "x") One (value.Call (codes "T") (place 21 22)) no_place (Calls (codes "T") (place 21 22)) refl (values-Call (codes "T") (place 21 22)) G t n
      (subst (λ (x : Rule). CrossesBy G x t n) (sym same) crossed))
  only_t f t n (bad.crossed_hidden rule k terminal has crossed _ _) =
      let same : A ≡ rule = every_of (λ x. A ≡ x) (A ∷ []) rule (refl, tt) has in
      absurd (crosses A (codes "x") One (value.Call (codes "T") (place 21 22)) no_place (Calls (codes "T") (place 21 22)) refl (values-Call (codes "T") (place 21 22)) G t n
      (subst (λ (x : Rule). CrossesBy G x t n) (sym same) crossed))

  pub call_found : (is_hidden ≡ true) ⊎ (is_fragment ≡ true) → StandsAlone (BadCall G) 0 (place 21 22) (codes "T")
  call_found which = (bad.hidden A 1 T (0, omega arith, refl) wrote t_named which, λ f t n is. let found = only_t f t n is in (found.1, found.2, found.3))
    where
      wrote : WritesCall A (place 21 22) (codes "T")
      wrote =
          written.assigned (codes "x") One (value.Call (codes "T") (place 21 22)) no_place
          (leaf_there A (codes "x") One (value.Call (codes "T") (place 21 22)) no_place (Calls (codes "T") (place 21 22)) refl (values-Call (codes "T") (place 21 22)))
          (part_there A (codes "x") One (value.Call (codes "T") (place 21 22)) no_place (Calls (codes "T") (place 21 22)) refl (values-Call (codes "T") (place 21 22)) _ refl)

pub hidden : StandsAlone (BadCall (calling_terminal true false)) 0 (place 21 22) (codes "T")
hidden = call_found true false (inl refl)

pub fragment_found : StandsAlone (BadCall (calling_terminal false true)) 0 (place 21 22) (codes "T")
fragment_found = call_found false true (inr refl)

pub token : StandsNowhere (BadCall (calling_terminal false false))
token f t n is = neither (only_t false false f t n is).0
  where
    neither : (false ≡ true) ⊎ (false ≡ true) → ⊥
    neither (inl same) = true≢false (sym same)
    neither (inr same) = true≢false (sym same)

-- ---- the body of a terminal

module _ (body : TermElement) where
  abbrev H : Grammar
  H = with_terminal body

  abbrev X : Rule
  X = the_rule x_id

  abbrev U : Terminal
  U = t_terminal body

  id_named : IsTerminal H (codes "ID") 0 terminal_id
  id_named = meant declared_terminal declared_rule (codes "ID") H.terminals H.rules 0 terminal_id (first_here refl) (differ _ _ refl, tt)

  x_named : IsRule H (codes "A") 0 X
  x_named = meant declared_rule declared_terminal (codes "A") H.rules H.terminals 0 X (first_here refl) (differ _ _ refl, (differ _ _ refl, tt))

  -- a call in the body that means the rule, or a range in it
  abbrev IsWithin : ℕ → Span → List ℕ → Type 0
  IsWithin f t n =
      (f ≡ 0) × ((Contains (term_calls body) (n, t) × ((r : ℕ) × (rule : Rule) × IsRule H n r rule))
      ⊎ ((n ≡ codes "T") × ((first : List ℕ) × (last : List ℕ) × Contains {X = Range} (term_ranges body) (first, last, t) × ¬ IsInOrder first last)))

  abbrev CallsWithin : Terminal → Type 0
  CallsWithin x = (n : List ℕ) (t : Span) → Contains (term_calls x.body) (n, t) → (x.file ≡ 0) × Contains (term_calls body) (n, t)

  calls_within : (terminal : Terminal) → Contains H.terminals terminal → CallsWithin terminal
  calls_within terminal has =
      every_of CallsWithin H.terminals terminal
      ((λ n t called. absurd (none_there (n, t) (subst (λ ls. Contains ls (n, t)) id_calls called))), ((λ n t called. (refl, called)), tt)) has

  abbrev RangesWithin : Terminal → Type 0
  RangesWithin x = (first last : List ℕ) (t : Span) → Contains {X = Range} (term_ranges x.body) (first, last, t) →
      (x.file ≡ 0) × (x.name ≡ codes "T") × Contains {X = Range} (term_ranges body) (first, last, t)

  ranges_within : (terminal : Terminal) → Contains H.terminals terminal → RangesWithin terminal
  ranges_within terminal has =
      every_of RangesWithin H.terminals terminal
      ((λ first last t inside. absurd (none_there (first, last, t) (subst (λ ls. Contains {X = Range} ls (first, last, t)) id_ranges inside))), ((λ first last t inside. (refl, refl, inside)), tt)) has

  only_within : (f : ℕ) (t : Span) (n : List ℕ) → BadCall H f t n → IsWithin f t n
  only_within f t n (bad.hidden rule k terminal has wrote is which) =
      let same : X ≡ rule = every_of (λ x. X ≡ x) (X ∷ []) rule (refl, tt) has in
      let found : (t ≡ no_place) × (n ≡ codes "ID") =
      writes X (codes "x") One (value.Call (codes "ID") no_place) no_place (Calls (codes "ID") no_place) refl (values-Call (codes "ID") no_place) t n
      (subst (λ (x : Rule). WritesCall x t n) (sym same) wrote) in
      let it : terminal ≡ terminal_id = first_item (subst (λ x. IsTerminal H x k terminal) found.1 is).first id_named.first in
      absurd (neither (subst (λ (x : Terminal). (x.is_hidden ≡ true) ⊎ (x.is_fragment ≡ true)) it which))
    where
      neither : (false ≡ true) ⊎ (false ≡ true) → ⊥
      neither (inl same) = true≢false (sym same)
      neither (inr same) = true≢false (sym same)
  only_within f t n (bad.of_rule terminal r rule has called is) = let found = calls_within terminal has n t called in (found.0, inl (found.1, (r, rule, is)))
  only_within f t n (bad.range terminal first last has inside not) =
      let found = ranges_within terminal has first last t inside in (found.0, inr (found.1, (first, last, found.2, not)))
  only_within f t n (bad.crossed rule r by has crossed _ _) =
      let same : X ≡ rule = every_of (λ x. X ≡ x) (X ∷ []) rule (refl, tt) has in
      absurd (crosses X (codes "x") One (value.Call (codes "ID") no_place) no_place (Calls (codes "ID") no_place) refl (values-Call (codes "ID") no_place) H t n
      (subst (λ (x : Rule). CrossesBy H x t n) (sym same) crossed))
  only_within f t n (bad.crossed_hidden rule k terminal has crossed _ _) =
      let same : X ≡ rule = every_of (λ x. X ≡ x) (X ∷ []) rule (refl, tt) has in
      absurd (crosses X (codes "x") One (value.Call (codes "ID") no_place) no_place (Calls (codes "ID") no_place) refl (values-Call (codes "ID") no_place) H t n
      (subst (λ (x : Rule). CrossesBy H x t n) (sym same) crossed))

-- a call alone
module _ (name : List ℕ) (s : Span) where
  abbrev call_body : TermElement
  call_body = term.Call name s

  abbrev CallIsFound : List ℕ → Span → Type 0
  CallIsFound n t = Contains (term_calls call_body) (n, t) → (n ≡ name) × (t ≡ s)

  the_call : (n : List ℕ) (t : Span) → CallIsFound n t
  the_call n t has =
      every_of (λ x. (x.0 ≡ name) × (x.1 ≡ s)) ((name, s) ∷ []) (n, t) ((refl, refl), tt) (subst (λ ls. Contains ls (n, t)) (calls-Call name s) has)

  no_range : (first last : List ℕ) (t : Span) → ¬ Contains {X = Range} (term_ranges call_body) (first, last, t)
  no_range first last t has = none_there (first, last, t) (subst (λ ls. Contains {X = Range} ls (first, last, t)) (ranges-Call name s) has)

  call_there : Contains (term_calls call_body) (name, s)
  call_there = subst (λ ls. Contains ls (name, s)) (sym (calls-Call name s)) (0, omega arith, refl)

abbrev calls_a : TermElement
calls_a = term.Call (codes "A") (place 37 38)

pub of_rule : StandsAlone (BadCall (with_terminal calls_a)) 0 (place 37 38) (codes "A")
of_rule = (
  bad.of_rule (U calls_a) 0 (X calls_a) (1, omega arith, refl) (call_there (codes "A") (place 37 38)) (x_named calls_a),
  λ f t n is. by f t n (only_within calls_a f t n is),
)
  where
    by : (f : ℕ) (t : Span) (n : List ℕ) → IsWithin calls_a f t n → (f ≡ 0) × (t ≡ place 37 38) × (n ≡ codes "A")
    by f t n (root, inl (called, _)) = let found = the_call (codes "A") (place 37 38) n t called in (root, found.1, found.0)
    by f t n (root, inr (_, (first, last, inside, _))) = absurd (no_range (codes "A") (place 37 38) first last t inside)

abbrev calls_id : TermElement
calls_id = term.Call (codes "ID") no_place

no_rule_id : (r : ℕ) (rule : Rule) → ¬ IsRule (H calls_id) (codes "ID") r rule
no_rule_id r rule = not_meant declared_rule declared_terminal (codes "ID") (H calls_id).rules (H calls_id).terminals r rule (differ _ _ refl, tt)

pub of_terminal : StandsNowhere (BadCall (with_terminal calls_id))
of_terminal f t n is = by (only_within calls_id f t n is)
  where
    by : IsWithin calls_id f t n → ⊥
    by (root, inl (called, (r, rule, means))) = no_rule_id r rule (subst (λ x. IsRule (H calls_id) x r rule) (the_call (codes "ID") no_place n t called).0 means)
    by (root, inr (_, (first, last, inside, _))) = no_range (codes "ID") no_place first last t inside

-- ---- a range alone

module _ (first last : List ℕ) (s : Span) where
  abbrev range_body : TermElement
  range_body = term.Range first last s

  the_range : (one other : List ℕ) (t : Span) → Contains {X = Range} (term_ranges range_body) (one, other, t) → (first ≡ one) × (last ≡ other) × (t ≡ s)
  the_range one other t has =
      every_of (λ (x : Range). (first ≡ x.0) × (last ≡ x.1) × (x.2 ≡ s)) ((first, last, s) ∷ []) (one, other, t) ((refl, refl, refl), tt)
      (subst (λ ls. Contains {X = Range} ls (one, other, t)) (ranges-Range first last s) has)

  no_call : (n : List ℕ) (t : Span) → ¬ Contains (term_calls range_body) (n, t)
  no_call n t has = none_there (n, t) (subst (λ ls. Contains ls (n, t)) (calls-Range first last s) has)

  pub range_found : ¬ IsInOrder first last → StandsAlone (BadCall (with_terminal range_body)) 0 s (codes "T")
  range_found not = (bad.range (U range_body) first last (1, omega arith, refl) there not, λ f t n is. by f t n (only_within range_body f t n is))
    where
      there : Contains {X = Range} (term_ranges range_body) (first, last, s)
      there = subst (λ ls. Contains {X = Range} ls (first, last, s)) (sym (ranges-Range first last s)) (0, omega arith, refl)

      by : (f : ℕ) (t : Span) (n : List ℕ) → IsWithin range_body f t n → (f ≡ 0) × (t ≡ s) × (n ≡ codes "T")
      by f t n (root, inl (called, _)) = absurd (no_call n t called)
      by f t n (root, inr (named, (one, other, inside, _))) = (root, (the_range one other t inside).2, named)

  pub range_nowhere : IsInOrder first last → StandsNowhere (BadCall (with_terminal range_body))
  range_nowhere order f t n is = by (only_within range_body f t n is)
    where
      by : IsWithin range_body f t n → ⊥
      by (root, inl (called, _)) = no_call n t called
      by (root, inr (_, (one, other, inside, not))) =
          let found = the_range one other t inside in not (subst (λ x. IsInOrder x other) found.0 (subst (IsInOrder first) found.1 order))

-- the one character that a text of one byte is
the_character : (b c : ℕ) → b < 128 → b ∷ [] ≡ encode_utf8 c → b ≡ c
the_character b c low is = (encode_same b c [] [] (append-nil (encode_utf8 b) ∙ encode_ascii b low ∙ is ∙ sym (append-nil (encode_utf8 c)))).0

not_down : ¬ IsInOrder (codes "b") (codes "a")
not_down order =
    let low : 98 ≡ order.low = the_character 98 order.low (lit< tt) order.is_first in
    let high : 97 ≡ order.high = the_character 97 order.high (lit< tt) order.is_last in omega (arith, low, high, order.order)

not_two : ¬ IsInOrder (codes "ab") (codes "c")
not_two order = by (encode_same 97 order.low (98 ∷ []) [] (ap (λ xs. xs ++ 98 ∷ []) (encode_ascii 97 (lit< tt)) ∙ order.is_first ∙ sym (append-nil (encode_utf8 order.low)))).1
  where
    by : codes "b" ≡ [] → ⊥
    by same = cc

one_in_order : IsInOrder (codes "a") (codes "a")
one_in_order = record {
  low = 97;
  high = 97;
  scalar_low = refl;
  scalar_high = refl;
  is_first = sym (encode_ascii 97 (lit< tt));
  is_last = sym (encode_ascii 97 (lit< tt));
  order = omega arith;
}

pub down : StandsAlone (BadCall (with_terminal (term.Range (codes "b") (codes "a") (place 37 45)))) 0 (place 37 45) (codes "T")
down = range_found (codes "b") (codes "a") (place 37 45) not_down

pub two_characters : StandsAlone (BadCall (with_terminal (term.Range (codes "ab") (codes "c") (place 37 46)))) 0 (place 37 46) (codes "T")
two_characters = range_found (codes "ab") (codes "c") (place 37 46) not_two

pub one_character : StandsNowhere (BadCall (with_terminal (term.Range (codes "a") (codes "a") no_place)))
one_character = range_nowhere (codes "a") (codes "a") no_place one_in_order

-- ---- a cross-reference

module _ (body : Element) where
  abbrev K : Grammar
  K = crossing body

  abbrev cross : Value0
  cross = value.Cross (codes "A") (Some (codes "B")) (place 21 26)

  abbrev C : Rule
  C = entry_rule (codes "A") no_place (x_value cross)

  abbrev B : Rule
  B = plain_rule (codes "B") no_place body

  b_named : IsRule K (codes "B") 1 B
  b_named = meant declared_rule declared_terminal (codes "B") K.rules K.terminals 1 B (first_later (differ _ _ refl) (first_here refl)) (differ _ _ refl, tt)

  no_id : (r : ℕ) (rule : Rule) → ¬ IsRule K (codes "ID") r rule
  no_id r rule = not_meant declared_rule declared_terminal (codes "ID") K.rules K.terminals r rule (differ _ _ refl, (differ _ _ refl, tt))

  module _ (none : (t : Span) (n : List ℕ) → ¬ CrossesBy K B t n) where
    -- the only cross-reference is this one
    abbrev CrossesHere : Rule → Type 0
    CrossesHere rule = (t : Span) (n : List ℕ) → CrossesBy K rule t n → (rule.file ≡ 0) × (t ≡ place 21 26) × (n ≡ codes "B")

    crosses_here : (rule : Rule) → Contains K.rules rule → CrossesHere rule
    crosses_here rule has = every_of CrossesHere K.rules rule (of_c, ((λ t n crossed. absurd (none t n crossed)), tt)) has
      where
        of_c : CrossesHere C
        of_c t n crossed =
            let found : (t ≡ place 21 26) × (n ≡ codes "B") =
            crosses C (codes "x") One cross no_place (Cross (codes "A") (Some (codes "B")) (place 21 26)) refl (values-Cross (codes "A") (Some (codes "B")) (place 21 26)) K t n crossed in
            (refl, found.0, found.1)

    only_cross : (f : ℕ) (t : Span) (n : List ℕ) → BadCall K f t n → ((f ≡ 0) × (t ≡ place 21 26) × (n ≡ codes "B")) × ¬ IsDataType K B
    only_cross f t n (bad.hidden rule k terminal _ _ is which) =
        absurd (every_at (λ (x : Terminal). ¬ ((x.is_hidden ≡ true) ⊎ (x.is_fragment ≡ true))) K.terminals k terminal (neither, tt) is.first.there which)
      where
        neither : (false ≡ true) ⊎ (false ≡ true) → ⊥
        neither (inl same) = true≢false (sym same)
        neither (inr same) = true≢false (sym same)
    only_cross f t n (bad.of_rule terminal r rule has called _) =
        let its_calls : term_calls terminal.body ≡ [] = every_of (λ (x : Terminal). term_calls x.body ≡ []) K.terminals terminal (id_calls, tt) has in
        absurd (none_there (n, t) (subst (λ ls. Contains ls (n, t)) its_calls called))
    only_cross f t n (bad.range terminal first last has inside _) =
        let its_ranges : term_ranges terminal.body ≡ [] = every_of (λ (x : Terminal). term_ranges x.body ≡ []) K.terminals terminal (id_ranges, tt) has in
        absurd (none_there (first, last, t) (subst (λ ls. Contains {X = Range} ls (first, last, t)) its_ranges inside))
    only_cross f t n (bad.crossed_hidden rule k terminal _ _ is which) =
        absurd (every_at (λ (x : Terminal). ¬ ((x.is_hidden ≡ true) ⊎ (x.is_fragment ≡ true))) K.terminals k terminal (neither, tt) is.first.there which)
      where
        neither : (false ≡ true) ⊎ (false ≡ true) → ⊥
        neither (inl same) = true≢false (sym same)
        neither (inr same) = true≢false (sym same)
    only_cross f t n (bad.crossed rule r by has crossed is not) =
        let found = crosses_here rule has t n crossed in
        let it : by ≡ B = first_item (subst (λ x. IsRule K x r by) found.2 is).first b_named.first in (found, subst (λ (x : Rule). ¬ IsDataType K x) it not)

    pub cross_found : ¬ IsDataType K B → StandsAlone (BadCall K) 0 (place 21 26) (codes "B")
    cross_found not = (bad.crossed C 1 B (0, omega arith, refl) crossed b_named not, λ f t n is. (only_cross f t n is).0)
      where
        crossed : CrossesBy K C (place 21 26) (codes "B")
        crossed =
            bad.written (codes "x") One cross no_place (codes "A")
            (leaf_there C (codes "x") One cross no_place (Cross (codes "A") (Some (codes "B")) (place 21 26)) refl (values-Cross (codes "A") (Some (codes "B")) (place 21 26)))
            (part_there C (codes "x") One cross no_place (Cross (codes "A") (Some (codes "B")) (place 21 26)) refl (values-Cross (codes "A") (Some (codes "B")) (place 21 26)) _ refl)

    pub cross_nowhere : IsDataType K B → StandsNowhere (BadCall K)
    cross_nowhere text f t n is = (only_cross f t n is).1 text

pub to_node : StandsAlone (BadCall (crossing y_id)) 0 (place 21 26) (codes "B")
to_node = cross_found y_id none (λ text. text.1 (puts_makes (K y_id) (B y_id) (codes "y") (codes "ID") refl))
  where
    none : (t : Span) (n : List ℕ) → ¬ CrossesBy (K y_id) (B y_id) t n
    none t n crossed =
        crosses (B y_id) (codes "y") One (value.Call (codes "ID") no_place) no_place (Calls (codes "ID") no_place) refl (values-Call (codes "ID") no_place) (K y_id) t n crossed

pub to_text : StandsNowhere (BadCall (crossing id_element))
to_text = cross_nowhere id_element none (refl, id_makes_none (K id_element) (B id_element) refl (no_id id_element))
  where
    no_assignment : (q : List ℕ) (o : Op) (w : Value0) (u : Span) → ¬ Contains (leaves id_element) (leaf.Assign q o w u)
    no_assignment q o w u has =
        let is : leaf.Call (codes "ID") no_place ≡ leaf.Assign q o w u =
        every_of (λ y. leaf.Call (codes "ID") no_place ≡ y) (leaf.Call (codes "ID") no_place ∷ []) (leaf.Assign q o w u) (refl, tt)
        (subst (λ ls. Contains ls (leaf.Assign q o w u)) (leaves-Call (codes "ID") no_place) has) in cc

    none : (t : Span) (n : List ℕ) → ¬ CrossesBy (K id_element) (B id_element) t n
    none t n (bad.written q o w u wanted has _) = no_assignment q o w u has
    none t n (bad.by_name q o w u wanted has _ _) = no_assignment q o w u has

-- ---- a cross-reference that writes no rule

module _ (is_hidden is_fragment : Bool) where
  abbrev M : Grammar
  M = naming_terminal is_hidden is_fragment (place 28 31)

  m_named : IsTerminal M (codes "T") 1 (flagged_terminal is_hidden is_fragment)
  m_named =
      meant declared_terminal declared_rule (codes "T") M.terminals M.rules 1 (flagged_terminal is_hidden is_fragment) (first_later (differ _ _ refl) (first_here refl))
      (differ _ _ refl, tt)

  pub implicit_found : (is_hidden ≡ true) ⊎ (is_fragment ≡ true) → BadCall M 0 (place 28 31) (codes "T")
  implicit_found which =
      bad.crossed_hidden (named.B (place 28 31) (codes "T") M.terminals) 1 (flagged_terminal is_hidden is_fragment) (0, omega arith, refl)
      (bad.by_name (codes "x") One (its_name (place 28 31)) no_place (codes "A") (its_leaf (place 28 31) (codes "T") M.terminals) (its_part (place 28 31))
      (by_called (place 28 31) (codes "T") M.terminals)) m_named which
