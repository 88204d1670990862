-- A cross-reference to a type whose nodes have no name, and to one whose nodes have, by what is there or not.
use Rattle.std.proofs.Common.{◌≡◌, ◌≢◌, ℕ, List, [], ◌∷◌, None, codes, Contains, refl, sym, ap, subst, arith}
use Rattle.std.proofs.lemmas.List.Elements.{All-cons, All-nil, All-head}
use Rattle.lw_base.specs.declared.token.Span.{Span}
use Rattle.lw_grammar.specs.declared.grammar.Grammar.{Grammar}
use Rattle.lw_grammar.specs.declared.rule.Rule.{Rule}
use Rattle.lw_grammar.specs.declared.rule.Op.{Op}
use Rattle.lw_grammar.specs.declared.rule.Op.TheVariants.{One}
use Rattle.lw_grammar.specs.declared.rule.Value0.{Value0}
use Rattle.lw_grammar.specs.declared.rule.Value0.TheVariants as value
use Rattle.lw_grammar.specs.declared.rule.Element.TheVariants.{Group}
use Rattle.lw_grammar.specs.declared.terminal.Terminal.{Terminal}
use Rattle.lw_grammar.specs.Leaves as leaf
use Rattle.lw_grammar.specs.Leaves.{Leaf, leaves, ValueLeaf, Calls, Cross, value_leaves, Expands, nothing, kept, put_in, looped}
use Rattle.lw_grammar.specs.NameRules.{IsNameRule, NamesNodesOf, FirstNames, IsCallOf, here, later}
use Rattle.lw_grammar.specs.Subtypes.{same}
use Rattle.lw_grammar.specs.Written.{IsNoRule}
use Rattle.lw_grammar.proofs.Naming.{one_name_rule}
use Rattle.lw_grammar.proofs.LeafLemmas.{leaf_equations, leaves-Assign, values-Call, values-Cross}
use Rattle.lw_faults.specs.Names.{NoNameRule, nameless}
use Rattle.lw_faults.specs.Worked.{StandsAlone, StandsNowhere, no_place, alone, puts, terminal_id, both, two_parts, by_its_name}
use Rattle.lw_grammar.proofs.Every.{Every, every_of, differ, first_here}
use Rattle.lw_faults.proofs.AloneLemmas.{the_rule, only_one}
use Rattle.lw_faults.proofs.AssignLemmas.{only_part, leaf_there, part_there}

-- an assignment stays as it is, whatever fragments are put in
one_stays : (g : Grammar) (p : List ℕ) (v : Value0) (s : Span) (all : List Leaf) → Expands g [] (leaf.Assign p One v s ∷ []) all → all ≡ leaf.Assign p One v s ∷ []
one_stays g p v s all (kept _ nothing) = refl
one_stays g p v s all (put_in r rule is _ _ _) = absurd is
one_stays g p v s all (looped r rule is _ _) = absurd is

module _ (s : Span) where
  abbrev pub its_name : Value0
  its_name = value.Cross (codes "A") None s

  -- the part is the cross-reference
  abbrev IsIt : ValueLeaf → Type 0
  IsIt (Cross wanted None t) = (t ≡ s) × (wanted ≡ codes "A")
  IsIt _ = ⊥

  -- ---- without a name
  abbrev G : Grammar
  G = alone (by_its_name s)

  abbrev A : Rule
  A = the_rule (by_its_name s)

  first_names_none : (name : List ℕ) → ¬ FirstNames (leaf.Assign (codes "x") One its_name no_place ∷ []) name
  first_names_none name (here is) = differ (codes "x") (codes "name") refl is.0
  first_names_none name (later _ more) = elim more [ ]

  a_names_none : (name : List ℕ) → ¬ NamesNodesOf G (codes "A") name A
  a_names_none name (own, typed, below, all, has, names) =
      let is : all ≡ leaf.Assign (codes "x") One its_name no_place ∷ [] =
      one_stays G (codes "x") its_name no_place all (subst (λ ls. Expands G [] ls all) (leaves-Assign (codes "x") One its_name no_place) has) in
      first_names_none name (subst (λ ls. FirstNames ls name) is names)

  pub nameless_found : StandsAlone (NoNameRule G) 0 s (codes "A")
  nameless_found = (
    nameless A (codes "x") One its_name no_place (0, omega arith, refl)
        (leaf_there A (codes "x") One its_name no_place (Cross (codes "A") None s) refl (values-Cross (codes "A") None s))
        (part_there A (codes "x") One its_name no_place (Cross (codes "A") None s) refl (values-Cross (codes "A") None s) (Cross (codes "A") None s) refl)
        (λ name is. absurd (none name is)),
    others,
  )
    where
      none : (name : List ℕ) → ¬ IsNameRule G (codes "A") name
      none name is =
          a_names_none name (subst (NamesNodesOf G (codes "A") name) (sym (only_one (by_its_name s) is.number is.rule is.first.there)) is.names)

      others : (f : ℕ) (t : Span) (n : List ℕ) → NoNameRule G f t n → (f ≡ 0) × (t ≡ s) × (n ≡ codes "A")
      others f t n (nameless rule p op v u has assigns inside _) =
          let same_rule : A ≡ rule = every_of (λ x. A ≡ x) (A ∷ []) rule (refl, tt) has in
          let part : Cross (codes "A") None s ≡ Cross n None t =
          only_part A (codes "x") One its_name no_place (Cross (codes "A") None s) refl (values-Cross (codes "A") None s) p op v u (Cross n None t)
          (subst (λ (x : Rule). Contains (leaves x.body) (leaf.Assign p op v u)) (sym same_rule) assigns) inside in
          let found : IsIt (Cross n None t) = subst IsIt part (refl, refl) in (sym (ap (λ (x : Rule). x.file) same_rule), found.0, found.1)

  -- ---- with one
  module _ (called : List ℕ) (terminals : List Terminal) where
    abbrev pub N : Grammar
    N = record (two_parts (puts (codes "name") called) (by_its_name s)) { terminals = terminals }

    abbrev pub B : Rule
    B = the_rule (Group (both (puts (codes "name") called) (by_its_name s)) no_place)

    abbrev b_leaves : List Leaf
    b_leaves = leaf.Assign (codes "name") One (value.Call called no_place) no_place ∷ leaf.Assign (codes "x") One its_name no_place ∷ []

    of_b : leaves B.body ≡ b_leaves
    of_b = simp leaf_equations

    b_names : NamesNodesOf N (codes "A") called B
    b_names = (
      codes "A",
      (refl, refl),
      same,
      b_leaves,
      subst (λ ls. Expands N [] ls b_leaves) (sym of_b) (kept (λ r rule is. is) (kept (λ r rule is. is) nothing)),
      here (refl, refl, subst (λ f. IsCallOf f called) (sym (value.outs-Call called no_place)) refl),
    )

    pub by_called : IsNameRule N (codes "A") called
    by_called = record { number = 0; rule = B; first = first_here (called, b_names); names = b_names }

    -- the leaf wants what reads a cross-reference only where it is the one
    abbrev Wants : Leaf → Type 0
    Wants (leaf.Assign p op v u) = (wanted : List ℕ) (t : Span) → Contains (value_leaves v) (Cross wanted None t) → (t ≡ s) × (wanted ≡ codes "A")
    Wants _ = Unit {0}

    wants_none : Wants (leaf.Assign (codes "name") One (value.Call called no_place) no_place)
    wants_none wanted t has =
        let is : Calls called no_place ≡ Cross wanted None t =
        every_of (λ x. Calls called no_place ≡ x) (Calls called no_place ∷ []) (Cross wanted None t) (refl, tt)
        (subst (λ ls. Contains ls (Cross wanted None t)) (values-Call called no_place) has) in cc

    wants_a : Wants (leaf.Assign (codes "x") One its_name no_place)
    wants_a wanted t has =
        every_of IsIt (Cross (codes "A") None s ∷ []) (Cross wanted None t) ((refl, refl), tt)
        (subst (λ ls. Contains ls (Cross wanted None t)) (values-Cross (codes "A") None s) has)

    -- the cross-reference is written
    pub its_leaf : Contains (leaves B.body) (leaf.Assign (codes "x") One its_name no_place)
    its_leaf = subst (λ ls. Contains ls (leaf.Assign (codes "x") One its_name no_place)) (sym of_b) (1, omega arith, refl)

    -- each cross-reference without a rule is the one
    it_is : (rule : Rule) (p : List ℕ) (op : Op) (v : Value0) (u t : Span) (wanted : List ℕ) → Contains N.rules rule → Contains (leaves rule.body) (leaf.Assign p op v u) →
        Contains (value_leaves v) (Cross wanted None t) → (rule.file ≡ 0) × (t ≡ s) × (wanted ≡ codes "A")
    it_is rule p op v u t wanted has assigns inside =
        let same_rule : B ≡ rule = every_of (λ x. B ≡ x) (B ∷ []) rule (refl, tt) has in
        let found =
        every_of Wants (leaves rule.body) (leaf.Assign p op v u)
        (subst (λ (x : Rule). Every Wants (leaves x.body)) same_rule (subst (Every Wants) (sym of_b) (wants_none, (wants_a, tt)))) assigns wanted t inside in
        (sym (ap (λ (x : Rule). x.file) same_rule), found.0, found.1)

  pub its_part : Contains (value_leaves its_name) (Cross (codes "A") None s)
  its_part = part_there A (codes "x") One its_name no_place (Cross (codes "A") None s) refl (values-Cross (codes "A") None s) (Cross (codes "A") None s) refl

  -- a rule that is there
  pub named : StandsNowhere (NoNameRule (two_parts (puts (codes "name") (codes "ID")) (by_its_name s)))
  named f t n (nameless rule p op v u has assigns inside none) =
      let wanted = (it_is (codes "ID") (terminal_id ∷ []) rule p op v u t n has assigns inside).2 in
      let no_rule : IsNoRule (N (codes "ID") (terminal_id ∷ [])) (codes "ID") =
      none (codes "ID") (subst (λ x. IsNameRule (N (codes "ID") (terminal_id ∷ [])) x (codes "ID")) (sym wanted) (by_called (codes "ID") (terminal_id ∷ []))) in
      All-head (λ (x : Terminal). x.name ≢ codes "ID") terminal_id [] no_rule.1 refl

  -- and one that is not
  abbrev U : Grammar
  U = two_parts (puts (codes "name") (codes "IX")) (by_its_name s)

  pub unread_found : StandsAlone (NoNameRule U) 0 s (codes "A")
  unread_found =
      (nameless (B (codes "IX") (terminal_id ∷ [])) (codes "x") One its_name no_place (0, omega arith, refl) (its_leaf (codes "IX") (terminal_id ∷ [])) its_part none, others)
    where
      none : (name : List ℕ) → IsNameRule U (codes "A") name → IsNoRule U name
      none name is =
          subst (IsNoRule U) (one_name_rule U (codes "A") (codes "IX") name (by_called (codes "IX") (terminal_id ∷ [])) is) (
            All-cons (λ (x : Rule). x.name ≢ codes "IX") (B (codes "IX") (terminal_id ∷ [])) [] (differ _ _ refl) (All-nil (λ (x : Rule). x.name ≢ codes "IX")),
            All-cons (λ (x : Terminal). x.name ≢ codes "IX") terminal_id [] (differ _ _ refl) (All-nil (λ (x : Terminal). x.name ≢ codes "IX")),
          )

      others : (f : ℕ) (t : Span) (n : List ℕ) → NoNameRule U f t n → (f ≡ 0) × (t ≡ s) × (n ≡ codes "A")
      others f t n (nameless rule p op v u has assigns inside _) = it_is (codes "IX") (terminal_id ∷ []) rule p op v u t n has assigns inside
