-- A fragment and a terminal that call themselves, and those beside them that do not.
use Rattle.std.proofs.Common.{◌≡◌, ℕ, zero, suc, List, [], ◌∷◌, Some, true, codes, slice_get, Contains, refl, sym, ap, ◌∙◌, subst, arith, true≢false}
use Rattle.std.proofs.lemmas.Option.{none-some, same_Some}
use Rattle.lw_base.specs.declared.token.Span.{Span}
use Rattle.lw_grammar.specs.declared.grammar.Grammar.{Grammar}
use Rattle.lw_grammar.specs.declared.rule.Rule.{Rule}
use Rattle.lw_grammar.specs.declared.terminal.Terminal.{Terminal}
use Rattle.lw_grammar.specs.declared.terminal.TermElement.TheVariants as term
use Rattle.lw_grammar.specs.Leaves as leaf
use Rattle.lw_grammar.specs.Leaves.{Leaf, leaves}
use Rattle.lw_grammar.specs.Named.{IsRule, IsTerminal, declared_rule, declared_terminal}
use Rattle.lw_grammar.specs.Reached.{RuleCalls, calls, assigns}
use Rattle.lw_grammar.proofs.FirstLemmas.{first_place, first_item}
use Rattle.lw_grammar.proofs.LeafLemmas.{leaf_equations}
use Rattle.lw_grammar.specs.Written.{term_calls}
use Rattle.lw_faults.specs.Circles.{FragmentCalls, TerminalCalls, CircularCall}
use Rattle.lw_faults.specs.Circles as circle
use Rattle.lw_faults.specs.Worked.{StandsAlone, StandsNowhere, place, no_place, fragment_rule, terminal_id, f_caller, x_and, fragment_calling, a_and, t_terminal, terminal_calling}
use Rattle.lw_grammar.proofs.Every.{Every, every_of, every_at, differ, first_here, first_later, meant}
use Rattle.lw_grammar.proofs.TermLemmas.{call_equations}

-- ---- a fragment

module _ (name : List ℕ) where
  abbrev G : Grammar
  G = fragment_calling name

  abbrev F : Rule
  F = fragment_rule (codes "F") (place 31 32) (x_and name)

  f_leaves : leaves F.body ≡ leaf.Keyword (codes "x") no_place ∷ leaf.Call name no_place ∷ []
  f_leaves = simp leaf_equations

  f_named : IsRule G (codes "F") 1 F
  f_named = meant declared_rule declared_terminal (codes "F") G.rules G.terminals 1 F (first_later (differ _ _ refl) (first_here refl)) (differ _ _ refl, tt)

  a_named : IsRule G (codes "A") 0 f_caller
  a_named = meant declared_rule declared_terminal (codes "A") G.rules G.terminals 0 f_caller (first_here refl) (differ _ _ refl, tt)

  -- the fragment calls this name alone
  abbrev IsCalled : List ℕ → Leaf → Type 0
  IsCalled called (leaf.Call n s) = n ≡ name
  IsCalled called (leaf.Assign p op v s) = ⊥
  IsCalled called _ = Unit {0}

  f_calls : (called : List ℕ) → RuleCalls G F called → called ≡ name
  f_calls called (calls s has) = every_of (IsCalled called) (leaves F.body) (leaf.Call called s) (subst (Every (IsCalled called)) (sym f_leaves) (tt, (refl, tt))) has
  f_calls called (assigns p op v s has _) =
      absurd (every_of (IsCalled called) (leaves F.body) (leaf.Assign p op v s) (subst (Every (IsCalled called)) (sym f_leaves) (tt, (refl, tt))) has)

  -- it is the only fragment
  fragment_at : (q : ℕ) (rule : Rule) → slice_get G.rules q ≡ Some rule → rule.is_fragment ≡ true → (q ≡ 1) × (F ≡ rule)
  fragment_at zero rule at is = absurd (true≢false (sym is ∙ sym (ap (λ (x : Rule). x.is_fragment) (same_Some f_caller rule at))))
  fragment_at (suc zero) rule at is = (refl, same_Some F rule at)
  fragment_at (suc (suc q)) rule at is = absurd (none-some rule at)

  id_calls_none : (q r : ℕ) → ¬ TerminalCalls G q r
  id_calls_none q r (circle.directly caller called n s at has _) =
      none (subst (λ ls. Contains ls (n, s)) its_calls (subst (λ (x : Terminal). Contains (term_calls x.body) (n, s)) (sym same) has))
    where
      same : terminal_id ≡ caller
      same = every_at (λ x. terminal_id ≡ x) (terminal_id ∷ []) q caller (refl, tt) at

      its_calls : term_calls terminal_id.body ≡ []
      its_calls = simp call_equations

      none : ¬ Contains {X = List ℕ × Span} [] (n, s)
      none (k, inside, is) = omega (arith, inside)
  id_calls_none p r (circle.over {q} first _) = id_calls_none p q first

pub fragment_itself : StandsAlone (CircularCall (fragment_calling (codes "F"))) 0 (place 31 32) (codes "F")
fragment_itself = (circle.fragment_ 1 (F (codes "F")) refl (circle.directly (F (codes "F")) (F (codes "F")) (codes "F") refl refl itself (f_named (codes "F")) refl), others)
  where
    itself : RuleCalls (fragment_calling (codes "F")) (F (codes "F")) (codes "F")
    itself = calls no_place (subst (λ ls. Contains ls (leaf.Call (codes "F") no_place)) (sym (f_leaves (codes "F"))) (1, omega arith, refl))

    from_f : {q r : ℕ} → FragmentCalls (fragment_calling (codes "F")) q r → q ≡ 1
    from_f {q} (circle.directly caller fragment name at is _ _ _) = (fragment_at (codes "F") q caller at is).0
    from_f (circle.over first _) = from_f first

    others : (f : ℕ) (t : Span) (n : List ℕ) → CircularCall (fragment_calling (codes "F")) f t n → (f ≡ 0) × (t ≡ place 31 32) × (n ≡ codes "F")
    others f t n (circle.fragment_ r fragment at again) =
        let same : F (codes "F") ≡ fragment = same_Some (F (codes "F")) fragment (subst (λ k. slice_get (fragment_calling (codes "F")).rules k ≡ Some fragment) (from_f again) at) in
        (sym (ap (λ (x : Rule). x.file) same), sym (ap (λ (x : Rule). x.span) same), sym (ap (λ (x : Rule). x.name) same))
    others f t n (circle.terminal k terminal at again) = absurd (id_calls_none (codes "F") k k again)

-- the fragment calls a rule, which is no fragment
pub through_a_rule : StandsNowhere (CircularCall (fragment_calling (codes "A")))
through_a_rule f t n (circle.fragment_ r fragment at again) = none again
  where
    none : {q r : ℕ} → ¬ FragmentCalls (fragment_calling (codes "A")) q r
    none {q} {r} (circle.directly caller called name from is has to was) =
        let same : F (codes "A") ≡ caller = (fragment_at (codes "A") q caller from is).1 in
        let named : name ≡ codes "A" = f_calls (codes "A") name (subst (λ (x : Rule). RuleCalls (fragment_calling (codes "A")) x name) (sym same) has) in
        let it : called ≡ f_caller = first_item (subst (λ x. IsRule (fragment_calling (codes "A")) x r called) named to).first (a_named (codes "A")).first in
        true≢false (sym was ∙ ap (λ (x : Rule). x.is_fragment) it)
    none (circle.over first _) = none first
through_a_rule f t n (circle.terminal k terminal at again) = id_calls_none (codes "A") k k again

-- ---- a terminal

module _ (name : List ℕ) where
  abbrev H : Grammar
  H = terminal_calling name

  abbrev T : Terminal
  T = t_terminal (term.Group (a_and name))

  t_calls : term_calls T.body ≡ (name, no_place) ∷ []
  t_calls = simp call_equations

  id_calls : term_calls terminal_id.body ≡ []
  id_calls = simp call_equations

  t_named : IsTerminal H (codes "T") 1 T
  t_named = meant declared_terminal declared_rule (codes "T") H.terminals H.rules 1 T (first_later (differ _ _ refl) (first_here refl)) (differ _ _ refl, tt)

  id_named : IsTerminal H (codes "ID") 0 terminal_id
  id_named = meant declared_terminal declared_rule (codes "ID") H.terminals H.rules 0 terminal_id (first_here refl) (differ _ _ refl, tt)

  -- what calls anything is this terminal, and it calls this name
  caller_is : (q : ℕ) (caller : Terminal) (called : List ℕ) (s : Span) → slice_get H.terminals q ≡ Some caller → Contains (term_calls caller.body) (called, s) →
      (q ≡ 1) × (name ≡ called)
  caller_is zero caller called s at has = absurd (none (subst (λ ls. Contains ls (called, s)) id_calls (subst (λ (x : Terminal). Contains (term_calls x.body) (called, s)) (sym (same_Some terminal_id caller at)) has)))
    where
      none : ¬ Contains {X = List ℕ × Span} [] (called, s)
      none (k, inside, is) = omega (arith, inside)
  caller_is (suc zero) caller called s at has = (
    refl,
    every_of (λ x. name ≡ x.0) ((name, no_place) ∷ []) (called, s) (refl, tt)
        (subst (λ ls. Contains ls (called, s)) t_calls (subst (λ (x : Terminal). Contains (term_calls x.body) (called, s)) (sym (same_Some T caller at)) has)),
  )
  caller_is (suc (suc q)) caller called s at has = absurd (none-some caller at)

  no_fragment : {q r : ℕ} → ¬ FragmentCalls H q r
  no_fragment {q} (circle.directly caller fragment called at is _ _ _) = every_at (λ (x : Rule). x.is_fragment ≡ true → ⊥) H.rules q caller ((λ is. true≢false (sym is)), tt) at is
  no_fragment (circle.over first _) = no_fragment first

pub terminal_itself : StandsAlone (CircularCall (terminal_calling (codes "T"))) 0 (place 34 35) (codes "T")
terminal_itself = (circle.terminal 1 (T (codes "T")) refl (circle.directly (T (codes "T")) (T (codes "T")) (codes "T") no_place refl itself (t_named (codes "T"))), others)
  where
    itself : Contains (term_calls (T (codes "T")).body) (codes "T", no_place)
    itself = subst (λ ls. Contains ls (codes "T", no_place)) (sym (t_calls (codes "T"))) (0, omega arith, refl)

    from_t : {q r : ℕ} → TerminalCalls (terminal_calling (codes "T")) q r → q ≡ 1
    from_t {q} (circle.directly caller called name s at has _) = (caller_is (codes "T") q caller name s at has).0
    from_t (circle.over first _) = from_t first

    others : (f : ℕ) (t : Span) (n : List ℕ) → CircularCall (terminal_calling (codes "T")) f t n → (f ≡ 0) × (t ≡ place 34 35) × (n ≡ codes "T")
    others f t n (circle.fragment_ r fragment at again) = absurd (no_fragment (codes "T") again)
    others f t n (circle.terminal k terminal at again) =
        let same : T (codes "T") ≡ terminal = same_Some (T (codes "T")) terminal (subst (λ i. slice_get (terminal_calling (codes "T")).terminals i ≡ Some terminal) (from_t again) at) in
        (sym (ap (λ (x : Terminal). x.file) same), sym (ap (λ (x : Terminal). x.span) same), sym (ap (λ (x : Terminal). x.name) same))

pub other_terminal : StandsNowhere (CircularCall (terminal_calling (codes "ID")))
other_terminal f t n (circle.fragment_ r fragment at again) = no_fragment (codes "ID") again
other_terminal f t n (circle.terminal k terminal at again) = let both = to_id again in omega (arith, both.0, both.1)
  where
    to_id : {q r : ℕ} → TerminalCalls (terminal_calling (codes "ID")) q r → (q ≡ 1) × (r ≡ 0)
    to_id {q} {r} (circle.directly caller called name s from has to) =
        let found = caller_is (codes "ID") q caller name s from has in
        (found.0, first_place (subst (λ x. IsTerminal (terminal_calling (codes "ID")) x r called) (sym found.1) to).first (id_named (codes "ID")).first)
    to_id (circle.over first second) = ((to_id first).0, (to_id second).1)
