-- A leaf at which one type is current, and what the rows of a grammar say of it.
use Rattle.std.proofs.Common.{◌≡◌, ◌≢◌, ℕ, zero, suc, ◌<◌, List, [], ◌∷◌, Some, true, length, slice_get, bytes_eq, false, Contains, ◌⊎◌, inl, inr, refl, sym, ap, ◌∙◌, subst}
use Rattle.std.specs.List.Sorted.{IsStrictlyIncreasing}
use Rattle.std.proofs.lemmas.Option.{same_Some}
use Rattle.lw_grammar.specs.declared.grammar.Grammar.{Grammar}
use Rattle.lw_grammar.specs.declared.rule.Rule.{Rule}
use Rattle.lw_grammar.specs.Subtypes.{HasType}
use Rattle.lw_grammar.specs.Leaves.{Leaf, Assign, Act, leaves}
use Rattle.lw_faults.specs.Steps.{Step, step, PutsInFragment, GetsTo, IsBehind, IsCurrentType}
use Rattle.lw_faults.proofs.StepLemmas.{own_step}
use Rattle.lw_grammar.proofs.Every.{Every, every_at, differ}
use Rattle.lw_numbers.specs.Numbering.{type_names}
use Rattle.lw_flow.specs.declared.before.Before.{Before}
use Rattle.lw_flow.specs.Recorded.{AreWaysOf, Somewhere, HasNumberOf}
use Rattle.lw_flow.proofs.RowLemmas.{at_place, some_there}
use Rattle.lw_types.proofs.Comings.{IsPlain, own_is_current, current_is_own, begins_itself}

-- ---- x stands at this place of a list, and nowhere else

pub record StandsOnce {X : Type 0} (xs : List X) (i : ℕ) (x : X) : Type 0 where
  pub there : slice_get xs i ≡ Some x
  pub alone : (j : ℕ) → slice_get xs j ≡ Some x → j ≡ i

module _ {X : Type 0} {x : X} where
  pub once_here : {xs : List X} → Every (λ y. y ≢ x) xs → StandsOnce (x ∷ xs) 0 x
  once_here {xs} others = record { there = refl; alone = alone }
    where
      alone : (j : ℕ) → slice_get (x ∷ xs) j ≡ Some x → j ≡ 0
      alone zero is = refl
      alone (suc j) is = absurd (every_at (λ y. y ≢ x) xs j x others is refl)

  pub once_later : {y : X} {xs : List X} {i : ℕ} → y ≢ x → StandsOnce xs i x → StandsOnce (y ∷ xs) (suc i) x
  once_later {y} {xs} {i} other once = record { there = once.there; alone = alone }
    where
      alone : (j : ℕ) → slice_get (y ∷ xs) j ≡ Some x → j ≡ suc i
      alone zero is = absurd (other (same_Some y x is))
      alone (suc j) is = ap suc (once.alone j is)

-- leaves of different properties or types differ
abbrev told_by : Leaf → List ℕ
told_by (Assign p op v s) = p
told_by (Act a) = a.type_name
told_by _ = []

pub leaves_differ : (one other : Leaf) → bytes_eq (told_by one) (told_by other) ≡ false → one ≢ other
leaves_differ one other apart same = differ (told_by one) (told_by other) apart (ap told_by same)

-- and so do rules of different names
pub rules_differ : (one other : Rule) → bytes_eq one.name other.name ≡ false → one ≢ other
rules_differ one other apart same = differ one.name other.name apart (ap (λ (x : Rule). x.name) same)

-- these numbers ascend, and of those that types have this one is the only one
pub record IsOnlyType (g : Grammar) (numbers : List ℕ) (c : ℕ) : Type 0 where
  pub ascends : IsStrictlyIncreasing numbers
  pub among : Contains numbers c
  pub alone : (k : ℕ) → k < length (type_names g) → Contains numbers k → k ≡ c

module _ (g : Grammar) where
  -- a leaf that is written once, and where one type is current: that of this number
  pub record HasCurrent (w i : ℕ) (rule : Rule) (l : Leaf) (c : ℕ) : Type 0 where
    pub written : StandsOnce g.rules w rule
    pub at : StandsOnce (leaves rule.body) i l
    pub type_name : List ℕ
    pub numbered : StandsOnce (type_names g) c type_name
    pub owner : Rule
    pub before : List Step
    pub behind : IsBehind g owner before (step rule l)
    pub current : IsCurrentType g owner before type_name
    pub alone : (other : Rule) (steps : List Step) (name : List ℕ) → IsBehind g other steps (step rule l) → IsCurrentType g other steps name → name ≡ type_name

  module _ {rows : List (List Before)} (ways : AreWaysOf g rows) {w i : ℕ} {rule : Rule} {l : Leaf} {row : List Before} {entry : Before}
      (in_rows : slice_get rows w ≡ Some row) (in_row : slice_get row i ≡ Some entry) where
    -- what is recorded of the leaf somewhere is recorded here
    pub recorded_here : (passes : Before → Type 0) → StandsOnce g.rules w rule → StandsOnce (leaves rule.body) i l → Somewhere g rows passes (step rule l) → passes entry
    recorded_here passes written at there =
        let this_rule : there.rule_number ≡ w = written.alone there.rule_number there.written in
        let this_leaf : there.leaf_number ≡ i = at.alone there.leaf_number there.leaf in
        let this_row : there.row ≡ row = same_Some there.row row (sym there.in_rows ∙ ap (slice_get rows) this_rule ∙ in_rows) in
        let this_entry : there.entry ≡ entry =
        same_Some there.entry entry (sym there.in_row ∙ ap (slice_get there.row) this_leaf ∙ ap (λ xs. slice_get xs i) this_row ∙ in_row) in
        subst passes this_entry there.does

    pub recorded_somewhere : (passes : Before → Type 0) → StandsOnce g.rules w rule → StandsOnce (leaves rule.body) i l → passes entry → Somewhere g rows passes (step rule l)
    recorded_somewhere passes written at does = record {
      rule_number = w;
      leaf_number = i;
      row = row;
      entry = entry;
      written = written.there;
      leaf = at.there;
      in_rows = in_rows;
      in_row = in_row;
      does = does;
    }

    pub only_type : {c : ℕ} → HasCurrent w i rule l c → IsOnlyType g entry.current.items c
    only_type {c} has = record {
      ascends = ways.shape.current_ascends row entry (at_place rows w row in_rows) (at_place row i entry in_row);
      among = subst (Contains entry.current.items) (has.numbered.alone found.number found.named) found.among;
      alone = alone;
    }
      where
        found : HasNumberOf g has.type_name entry.current.items
        found =
            recorded_here (λ x. HasNumberOf g has.type_name x.current.items) has.written has.at
            ((ways.current (step rule l) has.type_name).1 (has.owner, has.before, has.behind, has.current))

        alone : (k : ℕ) → k < length (type_names g) → Contains entry.current.items k → k ≡ c
        alone k inside among =
            let named = some_there (type_names g) k inside in
            let way =
            (ways.current (step rule l) named.0).0
            (recorded_somewhere (λ x. HasNumberOf g named.0 x.current.items) has.written has.at (record { number = k; named = named.1; among = among })) in
            has.numbered.alone k (named.1 ∙ ap Some (has.alone way.0 way.1 named.0 way.2 way.3))

    -- some way comes to it
    pub come_to : StandsOnce g.rules w rule → StandsOnce (leaves rule.body) i l → (owner : Rule) (before : List Step) → IsBehind g owner before (step rule l) →
        (entry.first ≡ true) ⊎ (entry.behind ≡ true)
    come_to written at owner [] is = inl (recorded_here (λ x. x.first ≡ true) written at ((ways.first (step rule l)).1 (owner, is)))
    come_to written at owner (x ∷ xs) is =
        inr (recorded_here (λ x. x.behind ≡ true) written at ((ways.behind (step rule l)).1 (owner, x ∷ xs, is, not_none)))
      where
        not_none : x ∷ xs ≢ []
        not_none same = cc

-- in a grammar of keywords and assignments alone the type of the rule is the current one
module _ (g : Grammar) (plain : Every (λ (rule : Rule). Every IsPlain (leaves rule.body)) g.rules) {w i : ℕ} {rule : Rule} {l : Leaf} {c : ℕ} {type_name : List ℕ} {before : List Step}
    (typed : HasType g rule type_name) (one_type : (name : List ℕ) → HasType g rule name → name ≡ type_name) where
  pub own_alone : StandsOnce g.rules w rule → StandsOnce (leaves rule.body) i l → StandsOnce (type_names g) c type_name → ¬ PutsInFragment g l →
      GetsTo g rule rule.body before l → HasCurrent g w i rule l c
  own_alone written at numbered single there =
      let behind : IsBehind g rule before (step rule l) = own_step g (at_place g.rules w rule written.there) typed.0 there single in
      record {
        written = written;
        at = at;
        type_name = type_name;
        numbered = numbered;
        owner = rule;
        before = before;
        behind = behind;
        current = own_is_current g plain behind typed;
        alone = λ other steps name is now.
            one_type name (subst (λ x. HasType g x name) (sym (begins_itself g plain is.begins)) (current_is_own g plain is now));
      }
