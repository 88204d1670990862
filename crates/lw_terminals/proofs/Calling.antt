-- In a grammar without faults of names and calls, what a terminal calls is a terminal.
use Rattle.std.proofs.Common.{◌≡◌, ◌≢◌, ℕ, zero, suc, ◌<◌, ◌⊎◌, inl, inr, List, [], ◌∷◌, Bool, true, false, get_or, slice_get, Contains, Some, refl, sym, ap, ◌∙◌, arith}
use Rattle.std.specs.Prelude.{bytes_eq, All}
use Rattle.std.specs.Bool.{Decides}
use Rattle.std.proofs.lemmas.Slice.Eq.{bytes_eq-Decides}
use Rattle.std.proofs.lemmas.List.Elements.{Contains-get_or}
use Rattle.std.proofs.lemmas.Option.{same_Some, slice_get_within, get_or_from_slice_get}
use Rattle.lw_base.specs.declared.token.Span.{Span}
use Rattle.lw_grammar.specs.declared.fault.GrammarFault.{GrammarFault}
use Rattle.lw_grammar.specs.declared.grammar.Grammar.{Grammar}
use Rattle.lw_grammar.specs.declared.rule.Rule.{Rule}
use Rattle.lw_grammar.specs.declared.terminal.Terminal.{Terminal}
use Rattle.lw_grammar.specs.Named.{IsFirst, IsTerminal, Declaration, StandsBefore, declared_rule, declared_terminal}
use Rattle.lw_faults.specs.BadCalls as calls
use Rattle.lw_faults.specs.Faults as faults
use Rattle.lw_faults.specs.Faults.{IsTypeFault, IsCheckFault, fault}
use Rattle.lw_faults.specs.Names as names
use Rattle.lw_grammar.specs.Written.{term_calls}

-- ---- the first item of a name, if there is one
module _ {X : Type 0} (name_of : X → List ℕ) (name : List ℕ) where
  abbrev HasName : X → Type 0
  HasName x = name_of x ≡ name

  abbrev FirstOrNone : List X → Type 0
  FirstOrNone xs = ((i : ℕ) × (x : X) × IsFirst HasName xs i x) ⊎ ((i : ℕ) (x : X) → slice_get xs i ≡ Some x → ¬ HasName x)

  first_here : (x : X) (xs : List X) → HasName x → FirstOrNone (x ∷ xs)
  first_here x xs has = inl (0, x, record { there = refl; does = has; none_before = λ j y before at. absurd (let below : j < 0 = before in omega arith) })

  first_behind : (x : X) (xs : List X) → ¬ HasName x → FirstOrNone xs → FirstOrNone (x ∷ xs)
  first_behind x xs not (inl (i, y, first)) = inl (suc i, y, record { there = first.there; does = first.does; none_before = none })
    where
      none : (j : ℕ) (z : X) → j < suc i → slice_get (x ∷ xs) j ≡ Some z → ¬ HasName z
      none zero z before at = λ has. not (ap name_of (same_Some x z at) ∙ has)
      none (suc j) z before at = first.none_before j z (omega arith) at
  first_behind x xs not (inr none) = inr all
    where
      all : (j : ℕ) (z : X) → slice_get (x ∷ xs) j ≡ Some z → ¬ HasName z
      all zero z at = λ has. not (ap name_of (same_Some x z at) ∙ has)
      all (suc j) z at = none j z at

  pub first_or_none : (xs : List X) → FirstOrNone xs
  first_or_none [] = inr (λ i x at. absurd (let inside : i < 0 = slice_get_within [] i x at in omega arith))
  first_or_none (x ∷ xs) = by (bytes_eq (name_of x) name) (bytes_eq-Decides (name_of x) name) (first_or_none xs)
    where
      by : (b : Bool) → Decides b (HasName x) → FirstOrNone xs → FirstOrNone (x ∷ xs)
      by true decides others = first_here x xs (decides.0 refl)
      by false decides others = first_behind x xs (λ has. absurd (false_is_not_true (decides.1 has))) others
        where
          false_is_not_true : false ≡ true → ⊥
          false_is_not_true e = cc

-- an item of a list that is at a place
at_place : {X : Type 0} (xs : List X) (i : ℕ) (x : X) → slice_get xs i ≡ Some x → Contains xs x
at_place xs i x at = (i, slice_get_within xs i x at, get_or_from_slice_get xs i x x at)

place_of : {X : Type 0} (xs : List X) (x : X) → Contains xs x → (i : ℕ) × (slice_get xs i ≡ Some x)
place_of [] x (k, inside, is) = absurd (omega arith)
place_of (y ∷ xs) x (zero, inside, is) = (0, ap Some is)
place_of (y ∷ xs) x (suc k, inside, is) = let more = place_of xs x (k, omega arith, is) in (suc more.0, more.1)

-- ---- of two declarations at most one stands before the other
one_way : (one other : Declaration) → StandsBefore one other → ¬ StandsBefore other one
one_way one other (inl low) (inl high) = omega (arith, low, high)
one_way one other (inl low) (inr (same, start)) = omega (arith, low, same)
one_way one other (inr (same, start)) (inl high) = omega (arith, same, high)
one_way one other (inr (same, start)) (inr (also, end)) = omega (arith, start, end)

module _ (g : Grammar) (no_type_fault : (f : GrammarFault) → ¬ IsTypeFault g f)
    (no_check_fault : (f : GrammarFault) → ¬ IsCheckFault g f) where
  abbrev Called : List ℕ → Type 0
  Called name = (u : ℕ) × (called : Terminal) × IsTerminal g name u called

  module _ (t : Terminal) (name : List ℕ) (s : Span) (there : Contains g.terminals t) (has : Contains (term_calls t.body) (name, s)) where
    abbrev NoneNamed : {X : Type 0} → (X → List ℕ) → List X → Type 0
    NoneNamed {X} name_of xs = (i : ℕ) (x : X) → slice_get xs i ≡ Some x → ¬ (name_of x ≡ name)

    all_differ : {X : Type 0} (name_of : X → List ℕ) (xs : List X) → NoneNamed name_of xs → All (λ x. name_of x ≢ name) xs
    all_differ name_of xs none k d inside same = let at = place_of xs (get_or xs k d) (Contains-get_or xs k d inside) in none at.0 (get_or xs k d) at.1 same

    unknown : NoneNamed (λ (rule : Rule). rule.name) g.rules → NoneNamed (λ (x : Terminal). x.name) g.terminals → ⊥
    unknown no_rule no_terminal =
        no_type_fault (fault 5 t.file s name)
        (faults.unknown_rule (names.in_terminal t there has (all_differ (λ rule. rule.name) g.rules no_rule, all_differ (λ x. x.name) g.terminals no_terminal)))

    just_rule : (r : ℕ) (rule : Rule) → IsFirst (λ (y : Rule). y.name ≡ name) g.rules r rule → NoneNamed (λ (x : Terminal). x.name) g.terminals → ⊥
    just_rule r rule first no_terminal =
        no_check_fault (fault 21 t.file s name) (faults.bad_call (calls.of_rule t r rule there has (record {
          first = first;
          sooner = λ other among same. let at = place_of g.terminals other among in absurd (no_terminal at.0 other at.1 same);
        })))

    just_terminal : (u : ℕ) (x : Terminal) → IsFirst (λ (y : Terminal). y.name ≡ name) g.terminals u x → NoneNamed (λ (rule : Rule). rule.name) g.rules → Called name
    just_terminal u x first no_rule = (
      u,
      x,
      record {
        first = first;
        sooner = λ other among same. let at = place_of g.rules other among in absurd (no_rule at.0 other at.1 same);
      },
    )

    both : (r : ℕ) (rule : Rule) (u : ℕ) (x : Terminal) → IsFirst (λ (y : Rule). y.name ≡ name) g.rules r rule →
        IsFirst (λ (y : Terminal). y.name ≡ name) g.terminals u x → ⊥
    both r rule u x first also =
        rule_behind (λ before. x_behind (λ after. one_way (declared_rule rule) (declared_terminal x) before after))
      where
        rule_in : Contains g.rules rule
        rule_in = at_place g.rules r rule first.there

        x_in : Contains g.terminals x
        x_in = at_place g.terminals u x also.there

        same : rule.name ≡ x.name
        same = first.does ∙ sym also.does

        rule_behind : ¬ (¬ StandsBefore (declared_rule rule) (declared_terminal x))
        rule_behind behind = no_type_fault _ (faults.duplicate (names.declared (names.rule_ (names.across rule x rule_in x_in (sym same) behind))))

        x_behind : ¬ (¬ StandsBefore (declared_terminal x) (declared_rule rule))
        x_behind behind = no_type_fault _ (faults.duplicate (names.declared (names.terminal_ (names.across x rule x_in rule_in same behind))))

    pub calls_terminal : Called name
    calls_terminal = by (first_or_none (λ (rule : Rule). rule.name) name g.rules) (first_or_none (λ (x : Terminal). x.name) name g.terminals)
      where
        by : FirstOrNone (λ (rule : Rule). rule.name) name g.rules → FirstOrNone (λ (x : Terminal). x.name) name g.terminals → Called name
        by (inl (r, rule, first)) (inl (u, x, also)) = absurd (both r rule u x first also)
        by (inl (r, rule, first)) (inr no_terminal) = absurd (just_rule r rule first no_terminal)
        by (inr no_rule) (inl (u, x, also)) = just_terminal u x also no_rule
        by (inr no_rule) (inr no_terminal) = absurd (unknown no_rule no_terminal)
