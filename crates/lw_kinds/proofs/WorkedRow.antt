-- The kinds of the grammar whose first rule is not reached.
use Rattle.std.proofs.Common.{◌≡◌, ◌≢◌, ℕ, zero, suc, ◌<◌, List, [], ◌∷◌, ◌++◌, Some, codes, slice_get, Contains, refl, sym, ap, ◌∙◌, subst, arith, true≢false}
use Rattle.std.specs.List.{flat_map}
use Rattle.std.specs.List.Sorted.{IsStrictlyIncreasing}
use Rattle.std.proofs.lemmas.Option.{same_Some, slice_get_within}
use Rattle.lw_grammar.specs.declared.rule.Rule.{Rule}
use Rattle.lw_grammar.specs.declared.terminal.Terminal.{Terminal}
use Rattle.lw_grammar.specs.Kept.{KeepsPassing}
use Rattle.lw_grammar.specs.Kept as keep
use Rattle.lw_grammar.specs.Kinds.{Kinds, AreKinds, IsKindTerminal, IsTerminalKind, first_uses}
use Rattle.lw_grammar.specs.Kinds as kind
use Rattle.lw_grammar.specs.Leaves.{Leaf, leaves, keywords_of, keywords_in}
use Rattle.lw_grammar.specs.Leaves as leaf
use Rattle.lw_grammar.specs.Named.{IsFirst, IsEntry, IsRule, IsTerminal, declared_rule, declared_terminal}
use Rattle.lw_grammar.specs.Reached.{IsReached, RuleCalls}
use Rattle.lw_grammar.specs.Reached as reached
use Rattle.lw_grammar.proofs.FirstLemmas.{first_place}
use Rattle.lw_grammar.proofs.KeptLemmas.{kept_once}
use Rattle.lw_grammar.proofs.LeafLemmas.{leaf_equations}
use Rattle.lw_grammar.specs.Worked.{nowhere, id_terminal, int_terminal, space_terminal}
use Rattle.lw_grammar.proofs.CallLemmas.{calls_only}
use Rattle.lw_grammar.proofs.Every.{every_of, every_at, differ, first_here, first_later, meant}
use Rattle.lw_kinds.specs.Rows.{AreKindRowOf}
use Rattle.lw_kinds.specs.Uses.{Use, IsFirstUse, leaf_keyword_uses, rule_keyword_uses}
use Rattle.lw_kinds.specs.Worked.{quoted_at, reached_rule, unused_first, unused_first_row, use_at}
use Rattle.lw_kinds.proofs.TerminalNumbers.{terminal_missed}

abbrev root_leaves : List Leaf
root_leaves = leaf.Keyword (codes "r") (quoted_at 39) ∷ leaf.Keyword (codes "k") (quoted_at 43) ∷ leaf.Call (codes "ID") nowhere ∷ []

of_root : leaves reached_rule.body ≡ root_leaves
of_root = simp leaf_equations

-- ---- what is reached

entry : IsEntry unused_first 1 reached_rule
entry = first_later (λ (is, _). true≢false (sym is)) (first_here (refl, refl))

root_calls : (name : List ℕ) → RuleCalls unused_first reached_rule name → codes "ID" ≡ name
root_calls name is = calls_only unused_first (λ called. codes "ID" ≡ called) reached_rule root_leaves name of_root (tt, (tt, (refl, tt))) is

no_rule_id : (r : ℕ) (rule : Rule) → ¬ IsRule unused_first (codes "ID") r rule
no_rule_id r rule is =
    every_at (λ (x : Rule). x.name ≢ codes "ID") unused_first.rules r rule (differ _ _ refl, (differ _ _ refl, tt)) is.first.there is.first.does

only_root : {r : ℕ} → IsReached unused_first r → 1 ≡ r
only_root (reached.entry rule is) = first_place entry is
only_root (reached.called {q} {r} caller rule name before at does means) =
    let same : reached_rule ≡ caller = same_Some reached_rule caller (ap (slice_get unused_first.rules) (only_root before) ∙ at) in
    let id = root_calls name (subst (λ x. RuleCalls unused_first x name) (sym same) does) in
    absurd (no_rule_id r rule (subst (λ n. IsRule unused_first n r rule) (sym id) means))

root_reached : IsReached unused_first 1
root_reached = reached.entry reached_rule entry

rules_reached : KeepsPassing (IsReached unused_first) unused_first.rules (reached_rule ∷ [])
rules_reached = keep.left_out (λ is. let same : 1 ≡ 0 = only_root is in absurd (omega arith)) (keep.kept root_reached keep.nothing)

-- ---- keywords and their uses

root_keywords : keywords_in reached_rule.body ≡ codes "r" ∷ codes "k" ∷ []
root_keywords = ap (flat_map keywords_of) of_root

abbrev the_uses : List Use
the_uses = use_at (codes "r") 39 ∷ use_at (codes "k") 43 ∷ []

uses_are : flat_map rule_keyword_uses (reached_rule ∷ []) ≡ the_uses
uses_are = ap (λ ls. flat_map (leaf_keyword_uses 0) ls ++ []) of_root

first_by : (word : Use) (i : ℕ) → IsFirst (λ (other : Use). other.0 ≡ word.0) the_uses i word → IsFirstUse unused_first word
first_by word i first = record {
  rules = reached_rule ∷ [];
  reached = rules_reached;
  place = i;
  first = subst (λ uses. IsFirst (λ (other : Use). other.0 ≡ word.0) uses i word) (sym uses_are) first;
}

first_r : IsFirstUse unused_first (use_at (codes "r") 39)
first_r = first_by (use_at (codes "r") 39) 0 (first_here refl)

first_k : IsFirstUse unused_first (use_at (codes "k") 43)
first_k = first_by (use_at (codes "k") 43) 1 (first_later (differ _ _ refl) (first_here refl))

elsewhere : (start : ℕ) (text : List ℕ) → start ≢ 18 → use_at text start ≢ use_at (codes "k") 18
elsewhere start text apart same = apart (ap (λ (word : Use). word.1.span.start) same)

pub not_there : ¬ IsFirstUse unused_first (use_at (codes "k") 18)
not_there is =
    let rules = kept_once (IsReached unused_first) is.reached rules_reached in
    every_at (λ word. word ≢ use_at (codes "k") 18) the_uses is.place (use_at (codes "k") 18)
    (elsewhere 39 (codes "r") (λ same. omega (arith, same)), (elsewhere 43 (codes "k") (λ same. omega (arith, same)), tt))
    (ap (λ uses. slice_get uses is.place) (sym uses_are) ∙ ap (λ xs. slice_get (flat_map rule_keyword_uses xs) is.place) (sym rules) ∙ is.first.there) refl

-- ---- terminals

id_named : IsTerminal unused_first (codes "ID") 1 id_terminal
id_named =
    meant declared_terminal declared_rule (codes "ID") unused_first.terminals unused_first.rules 1 id_terminal (first_later (differ _ _ refl) (first_here refl))
    (differ _ _ refl, (differ _ _ refl, tt))

int_named : IsTerminal unused_first (codes "INT") 2 int_terminal
int_named =
    meant declared_terminal declared_rule (codes "INT") unused_first.terminals unused_first.rules 2 int_terminal
    (first_later (differ _ _ refl) (first_later (differ _ _ refl) (first_here refl))) (differ _ _ refl, (differ _ _ refl, tt))

root_calls_id : RuleCalls unused_first reached_rule (codes "ID")
root_calls_id = reached.calls nowhere (subst (λ ls. Contains ls (leaf.Call (codes "ID") nowhere)) (sym of_root) (2, omega arith, refl))

space_is : IsKindTerminal unused_first 0
space_is = kind.hidden space_terminal refl refl refl

id_is : IsKindTerminal unused_first 1
id_is = kind.called id_terminal (codes "ID") 1 reached_rule id_named refl root_reached refl root_calls_id

-- what is a kind and not hidden is `ID`
called_is_id : (t : ℕ) (terminal : Terminal) (name : List ℕ) (r : ℕ) (rule : Rule) → IsTerminal unused_first name t terminal → IsReached unused_first r →
    slice_get unused_first.rules r ≡ Some rule → RuleCalls unused_first rule name → t ≡ 1
called_is_id t terminal name r rule means is at does =
    let same : reached_rule ≡ rule = same_Some reached_rule rule (ap (slice_get unused_first.rules) (only_root is) ∙ at) in
    let id = root_calls name (subst (λ x. RuleCalls unused_first x name) (sym same) does) in
    first_place (subst (λ n. IsTerminal unused_first n t terminal) (sym id) means).first id_named.first

int_is_not : ¬ IsKindTerminal unused_first 2
int_is_not (kind.hidden terminal there whole hidden) =
    let same : int_terminal ≡ terminal = same_Some int_terminal terminal there in true≢false (sym (ap (λ (x : Terminal). x.is_hidden) same ∙ hidden))
int_is_not (kind.called terminal name r rule means whole is at does) =
    let place : 2 ≡ 1 = called_is_id 2 terminal name r rule means is at does in omega (arith, place)

placed : (t : ℕ) → IsKindTerminal unused_first t → t < 3
placed t (kind.hidden terminal there whole hidden) = slice_get_within unused_first.terminals t terminal there
placed t (kind.called terminal name r rule means whole is at does) = slice_get_within unused_first.terminals t terminal means.first.there

among : (t : ℕ) → IsKindTerminal unused_first t → Contains (0 ∷ 1 ∷ []) t
among zero is = (0, omega arith, refl)
among (suc zero) is = (1, omega arith, refl)
among (suc (suc zero)) is = absurd (int_is_not is)
among (suc (suc (suc t))) is = absurd (omega (arith, placed (suc (suc (suc t))) is))

terminals_kept : KeepsPassing (IsKindTerminal unused_first) unused_first.terminals (space_terminal ∷ id_terminal ∷ [])
terminals_kept = keep.kept space_is (keep.kept id_is (keep.left_out int_is_not keep.nothing))

rising : IsStrictlyIncreasing (0 ∷ 1 ∷ [])
rising zero inside = omega arith
rising (suc k) inside = absurd (omega (arith, inside))

-- ---- the row

pub worked_row : AreKindRowOf unused_first unused_first_row
worked_row = record {
  kinds = record { keywords = codes "r" ∷ codes "k" ∷ []; terminals = space_terminal ∷ id_terminal ∷ [] };
  are = record {
    rules = reached_rule ∷ [];
    reached = rules_reached;
    keywords = sym (ap (λ texts. first_uses [] (texts ++ [])) root_keywords);
    terminals = terminals_kept;
  };
  texts = refl;
  first = λ word has. every_of (IsFirstUse unused_first) unused_first_row.keywords word (first_r, (first_k, tt)) has;
  terminals = refl;
  ascending = rising;
  exact = λ t. (λ has. every_of (IsKindTerminal unused_first) (0 ∷ 1 ∷ []) t (space_is, (id_is, tt)) has, among t);
}

pub no_kind : (kinds : Kinds) (k : ℕ) → AreKinds unused_first kinds → ¬ IsTerminalKind unused_first kinds (codes "INT") k
no_kind kinds k were =
    terminal_missed unused_first unused_first_row worked_row (codes "INT") kinds were 2 int_terminal int_named
    (λ has. every_of (λ n. n ≢ 2) (0 ∷ 1 ∷ []) 2 (λ same. omega (arith, same), (λ same. omega (arith, same), tt)) has refl) k
