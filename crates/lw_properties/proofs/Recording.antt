-- What is told at the places of leaves is what the definitions of the faults tell.
use Rattle.std.proofs.Common.{◌≡◌, ℕ, List, [], ◌∷◌, Option, Some, None, Bool, true, slice_get, Contains, inl, inr, refl, sym, ap, ◌∙◌, subst, ◌↔◌}
use Rattle.lw_base.specs.declared.token.Span.{Span}
use Rattle.lw_grammar.specs.declared.fault.GrammarFault.{GrammarFault}
use Rattle.lw_grammar.specs.declared.grammar.Grammar.{Grammar}
use Rattle.lw_grammar.specs.declared.rule.Rule.{Rule}
use Rattle.lw_grammar.specs.declared.rule.Action.{Action}
use Rattle.lw_grammar.specs.Leaves.{Leaf, Keyword, Call, Assign, Act, leaves}
use Rattle.lw_grammar.specs.Subtypes.{HasType}
use Rattle.lw_faults.specs.Steps.{Step, step, IsBehind, IsCurrentType}
use Rattle.lw_faults.specs.Properties.{UnknownProperty, WrongPropertyForm, NotASubtype}
use Rattle.lw_faults.specs.Properties as property
use Rattle.lw_faults.specs.Faults.{fault}
use Rattle.lw_faults.specs.Finding.{OfSome, IsFaultOf}
use Rattle.lw_faults.proofs.Joining.{told_fault_of}
use Rattle.lw_flow.specs.declared.before.Before.{Before}
use Rattle.lw_flow.specs.Recorded.{AreWaysOf, Somewhere, HasNumberOf}
use Rattle.lw_properties.specs.Places.{Spot, StandsAt, IsComeTo}
use Rattle.lw_properties.specs.Told.{UnknownPut, UnknownHere, UnknownAt, IsPutRefused, MisformedPut, MisformedHere, MisformedAt, NotBelowHere, NotBelowAt}

abbrev pub spot : Rule → Leaf → Before → Spot
spot rule leaf before = record { rule = rule; leaf = leaf; before = before }

module _ (g : Grammar) (rows : List (List Before)) (are : AreWaysOf g rows) where
  -- ---- what is recorded at a place
  record_there : (rule : Rule) (leaf : Leaf) (before : Before) (passes : Before → Type 0) → StandsAt g rows (spot rule leaf before) → passes before →
      Somewhere g rows passes (step rule leaf)
  record_there rule leaf before passes at does = record {
    rule_number = at.number;
    leaf_number = at.stands.number;
    row = at.row;
    entry = before;
    written = at.written ∙ ap Some (sym at.stands.by);
    leaf = subst (λ (x : Rule). slice_get (leaves x.body) at.stands.number ≡ Some leaf) (sym at.stands.by) at.stands.leaf;
    in_rows = at.in_rows;
    in_row = at.stands.before;
    does = does;
  }

  pub there_recorded : (passes : Before → Type 0) (at : Step) (is : Somewhere g rows passes at) → StandsAt g rows (spot at.written at.leaf is.entry)
  there_recorded passes at is = record {
    number = is.rule_number;
    rule = at.written;
    row = is.row;
    written = is.written;
    in_rows = is.in_rows;
    stands = record { number = is.leaf_number; by = refl; leaf = is.leaf; before = is.in_row };
  }

  pub comes : (rule : Rule) (leaf : Leaf) (before : Before) → StandsAt g rows (spot rule leaf before) → IsComeTo before →
      (from : Rule) × (steps : List Step) × IsBehind g from steps (step rule leaf)
  comes rule leaf before at (inl first) =
      let is = (are.first (step rule leaf)).0 (record_there rule leaf before (λ x. x.first ≡ true) at first) in
      (is.0, [], is.1)
  comes rule leaf before at (inr behind) =
      let is = (are.behind (step rule leaf)).0 (record_there rule leaf before (λ x. x.behind ≡ true) at behind) in
      (is.0, is.1, is.2)

  pub come_to : (from : Rule) (steps : List Step) (at : Step) → IsBehind g from steps at → (before : Before) × StandsAt g rows (spot at.written at.leaf before) × IsComeTo before
  come_to from [] at is =
      let found = (are.first at).1 (from, is) in
      (found.entry, there_recorded (λ x. x.first ≡ true) at found, inl found.does)
  come_to from (x ∷ steps) at is =
      let found = (are.behind at).1 (from, x ∷ steps, is, λ e. cc) in
      (found.entry, there_recorded (λ x. x.behind ≡ true) at found, inr found.does)

  pub current_there : (rule : Rule) (leaf : Leaf) (before : Before) (t : List ℕ) → StandsAt g rows (spot rule leaf before) → HasNumberOf g t before.current.items →
      (from : Rule) × (steps : List Step) × IsBehind g from steps (step rule leaf) × IsCurrentType g from steps t
  current_there rule leaf before t at has = (are.current (step rule leaf) t).0 (record_there rule leaf before (λ x. HasNumberOf g t x.current.items) at has)

  pub there_current : (from : Rule) (steps : List Step) (at : Step) (t : List ℕ) → IsBehind g from steps at → IsCurrentType g from steps t →
      (before : Before) × StandsAt g rows (spot at.written at.leaf before) × HasNumberOf g t before.current.items
  there_current from steps at t is now =
      let found = (are.current at t).1 (from, steps, is, now) in
      (found.entry, there_recorded (λ x. HasNumberOf g t x.current.items) at found, found.does)

  of_there : (rule : Rule) (leaf : Leaf) (before : Before) (t : List ℕ) → StandsAt g rows (spot rule leaf before) → HasNumberOf g t before.of.items →
      (from : Rule) × (steps : List Step) × IsBehind g from steps (step rule leaf) × HasType g from t
  of_there rule leaf before t at has = (are.of (step rule leaf) t).0 (record_there rule leaf before (λ x. HasNumberOf g t x.of.items) at has)

  there_of : (from : Rule) (steps : List Step) (at : Step) (t : List ℕ) → IsBehind g from steps at → HasType g from t →
      (before : Before) × StandsAt g rows (spot at.written at.leaf before) × HasNumberOf g t before.of.items
  there_of from steps at t is typed =
      let found = (are.of at t).1 (from, steps, is, typed) in
      (found.entry, there_recorded (λ x. HasNumberOf g t x.of.items) at found, found.does)

  module _ (spots : List Spot) (all : (x : Spot) → Contains spots x ↔ StandsAt g rows x) where
    -- ---- unknown properties
    unknown_put : (rule : Rule) (before : Before) (a : Action) (put : Option (List ℕ × Bool)) → a.put ≡ put → StandsAt g rows (spot rule (Act a) before) → (f : GrammarFault) →
        UnknownPut g rule before a put f → IsFaultOf 14 (UnknownProperty g) f
    unknown_put rule before a None is at f none = absurd none
    unknown_put rule before a (Some put) is at f (so, same) =
        let come = comes rule (Act a) before at so.0 in
        told_fault_of (UnknownProperty g) rule.file a.span put.0 same (property.acted come.0 rule come.1 a put come.2 is so.1.0 so.1.1)

    unknown_told : (rule : Rule) (leaf : Leaf) (before : Before) → StandsAt g rows (spot rule leaf before) → (f : GrammarFault) → UnknownHere g rule before leaf f →
        IsFaultOf 14 (UnknownProperty g) f
    unknown_told rule (Assign p op v s) before at f (some, same) =
        let now = current_there rule (Assign p op v s) before some.0 at some.1 in
        told_fault_of (UnknownProperty g) rule.file s p same (property.assigned now.0 rule now.1 p op v s some.0 now.2 now.3 some.2.0 some.2.1)
    unknown_told rule (Act a) before at f is = unknown_put rule before a a.put refl at f is
    unknown_told rule (Call name s) before at f is = absurd is
    unknown_told rule (Keyword text s) before at f is = absurd is

    pub told_unknown : (f : GrammarFault) → OfSome (UnknownAt g) spots f → IsFaultOf 14 (UnknownProperty g) f
    told_unknown f (x, has, is) = unknown_told x.rule x.leaf x.before ((all x).0 has) f is

    pub unknown_there : (file : ℕ) (s : Span) (name : List ℕ) → UnknownProperty g file s name → OfSome (UnknownAt g) spots (fault 14 file s name)
    unknown_there file s name (property.assigned rule written before p op v at t behind now declared none) =
        let found = there_current rule before (step written (Assign p op v at)) t behind now in
        (spot written (Assign p op v at) found.0, (all _).1 found.1, ((t, found.2, (declared, none)), refl))
    unknown_there file s name (property.acted rule written before a put behind is declared none) =
        let found = come_to rule before (step written (Act a)) behind in (
          spot written (Act a) found.0,
          (all _).1 found.1,
          subst (λ o. UnknownPut g written found.0 a o (fault 14 written.file a.span put.0)) (sym is) ((found.2, (declared, none)), refl),
        )

    -- ---- properties in another form
    misformed_put : (rule : Rule) (before : Before) (a : Action) (put : Option (List ℕ × Bool)) → a.put ≡ put → StandsAt g rows (spot rule (Act a) before) →
        (f : GrammarFault) → MisformedPut g rule before a put f → IsFaultOf 15 (WrongPropertyForm g) f
    misformed_put rule before a None is at f none = absurd none
    misformed_put rule before a (Some put) is at f (so, same) = by so.3
      where
        by : IsPutRefused g before so.1 put.1 → IsFaultOf 15 (WrongPropertyForm g) f
        by (inl other) =
            let come = comes rule (Act a) before at other.0 in
            told_fault_of (WrongPropertyForm g) rule.file a.span put.0 same (property.put_as_other come.0 rule come.1 a put so.1 come.2 is so.0 so.2 other.1)
        by (inr some) =
            let now = current_there rule (Act a) before some.0 at some.1 in
            told_fault_of (WrongPropertyForm g) rule.file a.span put.0 same (property.put_not_taken now.0 rule now.1 a put so.1 some.0 now.2 is so.0 so.2 now.3 some.2)

    misformed_told : (rule : Rule) (leaf : Leaf) (before : Before) → StandsAt g rows (spot rule leaf before) → (f : GrammarFault) → MisformedHere g rule before leaf f →
        IsFaultOf 15 (WrongPropertyForm g) f
    misformed_told rule (Assign p op v s) before at f (some, same) =
        let now = current_there rule (Assign p op v s) before some.0 at some.1 in
        told_fault_of (WrongPropertyForm g) rule.file s p same
        (property.assigned now.0 rule now.1 p op v s some.0 some.2.1 now.2 now.3 some.2.0 some.2.2 some.2.3)
    misformed_told rule (Act a) before at f is = misformed_put rule before a a.put refl at f is
    misformed_told rule (Call name s) before at f is = absurd is
    misformed_told rule (Keyword text s) before at f is = absurd is

    pub told_misformed : (f : GrammarFault) → OfSome (MisformedAt g) spots f → IsFaultOf 15 (WrongPropertyForm g) f
    told_misformed f (x, has, is) = misformed_told x.rule x.leaf x.before ((all x).0 has) f is

    pub misformed_there : (file : ℕ) (s : Span) (name : List ℕ) → WrongPropertyForm g file s name → OfSome (MisformedAt g) spots (fault 15 file s name)
    misformed_there file s name (property.assigned rule written before p op v at t attribute behind now declared has misfits) =
        let found = there_current rule before (step written (Assign p op v at)) t behind now in
        (spot written (Assign p op v at) found.0, (all _).1 found.1, ((t, found.2, (declared, attribute, has, misfits)), refl))
    misformed_there file s name (property.put_as_other rule written before a put attribute behind is declared has other) =
        let found = come_to rule before (step written (Act a)) behind in (
          spot written (Act a) found.0,
          (all _).1 found.1,
          subst (λ o. MisformedPut g written found.0 a o (fault 15 written.file a.span put.0)) (sym is) ((declared, attribute, has, inl (found.2, other)), refl),
        )
    misformed_there file s name (property.put_not_taken rule written before a put attribute t behind is declared has now refused) =
        let found = there_current rule before (step written (Act a)) t behind now in (
          spot written (Act a) found.0,
          (all _).1 found.1,
          subst (λ o. MisformedPut g written found.0 a o (fault 15 written.file a.span put.0)) (sym is) ((declared, attribute, has, inr (t, found.2, refused)), refl),
        )

    -- ---- nodes of types that are not below
    not_below_told : (rule : Rule) (leaf : Leaf) (before : Before) → StandsAt g rows (spot rule leaf before) → (f : GrammarFault) → NotBelowHere g rule before leaf f →
        IsFaultOf 17 (NotASubtype g) f
    not_below_told rule (Act a) before at f (some, same) =
        let of = of_there rule (Act a) before some.0 at some.1 in
        told_fault_of (NotASubtype g) rule.file a.span a.type_name same (property.acted of.0 rule of.1 a some.0 of.2 of.3 some.2.0 some.2.1)
    not_below_told rule (Call name s) before at f (so, same) =
        let some = so.2 in
        let of = of_there rule (Call name s) before some.0 at some.1 in
        told_fault_of (NotASubtype g) rule.file s name same
        (property.called of.0 rule so.1.0 of.1 name s some.0 so.0 of.2 so.1.1 of.3 some.2.0 so.1.2 some.2.1)
    not_below_told rule (Assign p op v s) before at f is = absurd is
    not_below_told rule (Keyword text s) before at f is = absurd is

    pub told_not_below : (f : GrammarFault) → OfSome (NotBelowAt g) spots f → IsFaultOf 17 (NotASubtype g) f
    told_not_below f (x, has, is) = not_below_told x.rule x.leaf x.before ((all x).0 has) f is

    pub not_below_there : (file : ℕ) (s : Span) (name : List ℕ) → NotASubtype g file s name → OfSome (NotBelowAt g) spots (fault 17 file s name)
    not_below_there file s name (property.acted rule written before a t behind typed declared apart) =
        let found = there_of rule before (step written (Act a)) t behind typed in
        (spot written (Act a) found.0, (all _).1 found.1, ((t, found.2, (declared, apart)), refl))
    not_below_there file s name (property.called rule written called before called_name at t below behind calls typed declared has apart) =
        let found = there_of rule before (step written (Call called_name at)) t behind typed in
        (spot written (Call called_name at) found.0, (all _).1 found.1, ((below, (called, calls, has), (t, found.2, (declared, apart))), refl))
