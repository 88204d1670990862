-- Which types are inferred, what is put into their properties, and what of it is mixed.
use Rattle.std.proofs.Common.{◌≡◌, ◌≢◌, ◌⊎◌, ℕ, ◌<◌, List, [], ◌∷◌, Option, Some, None, Bool, true, false, not, length, get_or, slice_get, Contains, inl, inr, refl, sym, ap, ◌∙◌, subst, ◌↔◌, arith}
use Rattle.std.proofs.lemmas.Bool.{true≢false, false≢true}
use Rattle.std.proofs.lemmas.Option.{slice_get_within, slice_get-get_or}
use Rattle.lw_base.specs.declared.token.Span.{Span}
use Rattle.lw_grammar.specs.declared.fault.GrammarFault.{GrammarFault}
use Rattle.lw_grammar.specs.declared.grammar.Grammar.{Grammar}
use Rattle.lw_grammar.specs.declared.rule.Rule.{Rule}
use Rattle.lw_grammar.specs.declared.rule.RuleResult.{RuleResult}
use Rattle.lw_grammar.specs.declared.rule.RuleResult.TheVariants.{Own, Returns, Gives, Infers}
use Rattle.lw_grammar.specs.declared.rule.Action.{Action}
use Rattle.lw_grammar.specs.Leaves.{Leaf, Keyword, Call, Assign, Act, leaves}
use Rattle.lw_faults.specs.Steps.{step}
use Rattle.lw_grammar.specs.Written.{InfersHere, IsInferredType}
use Rattle.lw_grammar.specs.Written as written
use Rattle.lw_faults.specs.Properties.{is_list, PutsInto, MixedProperty}
use Rattle.lw_faults.specs.Properties as property
use Rattle.lw_faults.specs.Faults.{fault}
use Rattle.lw_faults.specs.Finding.{Finds, OfSome, IsFaultOf}
use Rattle.lw_faults.proofs.Joining.{told_fault_of}
use Rattle.lw_flow.specs.declared.before.Before.{Before}
use Rattle.lw_flow.specs.Recorded.{AreWaysOf}
use Rattle.lw_properties.specs.Places.{Spot, StandsAt}
use Rattle.lw_properties.specs.Mixing.{RuleInfers, InfersByResult, LeafInfers, InfersAt, Putting, putting, IsFree, PutBy, PutHere, PutAt, Key, MixedAt}
use Rattle.lw_properties.proofs.Apart.{at_its_place}
use Rattle.lw_properties.proofs.Recording.{spot, comes, come_to, current_there, there_current}

at_a_place : {X : Type 0} (xs : List X) (x : X) → Contains xs x → (i : ℕ) × (slice_get xs i ≡ Some x)
at_a_place xs x (i, inside, is) = (i, slice_get-get_or xs i x inside ∙ ap Some is)

module _ (g : Grammar) (rows : List (List Before)) (are : AreWaysOf g rows) (spots : List Spot) (all : (x : Spot) → Contains spots x ↔ StandsAt g rows x) where
  -- ---- types that are inferred
  result_infers : (rule : Rule) (result : RuleResult) (name : List ℕ) → rule.result ≡ result → Contains g.rules rule → rule.is_fragment ≡ false →
      InfersByResult result rule.name name → IsInferredType g name
  result_infers rule Own name is has whole same = subst (IsInferredType g) (sym same) (rule.file, rule.span, written.own rule has whole is)
  result_infers rule (Infers other s) name is has whole same = subst (IsInferredType g) (sym same) (rule.file, s, written.infers rule has whole is)
  result_infers rule (Returns other s) name is has whole none = absurd none
  result_infers rule (Gives primitive) name is has whole none = absurd none

  leaf_infers : (rule : Rule) (leaf : Leaf) (before : Before) (name : List ℕ) → StandsAt g rows (spot rule leaf before) → LeafInfers leaf name → IsInferredType g name
  leaf_infers rule (Act a) before name at (infers, same) =
      let has : Contains g.rules at.rule = at_its_place g.rules at.number at.rule at.written in
      let there : Contains (leaves at.rule.body) (Act a) = at_its_place (leaves at.rule.body) at.stands.number (Act a) at.stands.leaf in
      subst (IsInferredType g) (sym same) (at.rule.file, a.span, written.acted at.rule a has there infers)
  leaf_infers rule (Assign p op v s) before name at none = absurd none
  leaf_infers rule (Call called s) before name at none = absurd none
  leaf_infers rule (Keyword text s) before name at none = absurd none

  -- a leaf of a rule has its place
  place_of : (rule : Rule) (leaf : Leaf) → Contains g.rules rule → Contains (leaves rule.body) leaf → (before : Before) × StandsAt g rows (spot rule leaf before)
  place_of rule leaf has there =
      let w = at_a_place g.rules rule has in
      let l = at_a_place (leaves rule.body) leaf there in
      let row = get_or rows w.0 [] in
      let in_rows : slice_get rows w.0 ≡ Some row =
      slice_get-get_or rows w.0 [] (omega (arith, slice_get_within g.rules w.0 rule w.1, are.shape.rows_of_rules)) in
      let inside : l.0 < length row =
      omega (arith, slice_get_within (leaves rule.body) l.0 leaf l.1, are.shape.entries_of_leaves w.0 rule row w.1 in_rows) in
      let found = entry_at row l.0 inside in
      (found.0, record { number = w.0; rule = rule; row = row; written = w.1; in_rows = in_rows; stands = record { number = l.0; by = refl; leaf = l.1; before = found.1 } })
    where
      entry_at : (row : List Before) (i : ℕ) → i < length row → (entry : Before) × (slice_get row i ≡ Some entry)
      entry_at [] i inside = absurd (omega (arith, inside))
      entry_at (x ∷ row) i inside = (get_or (x ∷ row) i x, slice_get-get_or (x ∷ row) i x inside)

  module _ (results names : List (List ℕ)) (by_results : Finds (OfSome RuleInfers g.rules) [] results) (by_actions : Finds (OfSome InfersAt spots) results names) where
    pub inferred_known : (name : List ℕ) → Contains names name ↔ IsInferredType g name
    inferred_known name = (λ has. into ((by_actions.exact name).0 has), λ is. from is.2)
      where
        of_results : Contains [] name ⊎ OfSome RuleInfers g.rules name → IsInferredType g name
        of_results (inl none) = absurd (omega (arith, none.1))
        of_results (inr is) = result_infers is.0 is.0.result name refl is.1 is.2.0 is.2.1

        into : Contains results name ⊎ OfSome InfersAt spots name → IsInferredType g name
        into (inl has) = of_results ((by_results.exact name).0 has)
        into (inr is) = leaf_infers is.0.rule is.0.leaf is.0.before name ((all is.0).0 is.1) is.2

        by_rule : OfSome RuleInfers g.rules name → Contains names name
        by_rule is = (by_actions.exact name).1 (inl ((by_results.exact name).1 (inr is)))

        from : {file : ℕ} {s : Span} → InfersHere g file s name → Contains names name
        from (written.own rule has whole is) = by_rule (rule, has, (whole, subst (λ r. InfersByResult r rule.name rule.name) (sym is) refl))
        from (written.infers {s} rule has whole is) = by_rule (rule, has, (whole, subst (λ r. InfersByResult r rule.name name) (sym is) refl))
        from (written.acted rule a has there infers) =
            let place = place_of rule (Act a) has there in
            (by_actions.exact a.type_name).1 (inr (spot rule (Act a) place.0, (all _).1 place.1, (infers, refl)))

  -- ---- what is put in
  PutsFree : Putting → Type 0
  PutsFree put = PutsInto g put.type_name put.property put.list put.file put.span × IsFree g put.type_name

  put_by : (rule : Rule) (before : Before) (a : Action) (into : Option (List ℕ × Bool)) → a.put ≡ into → StandsAt g rows (spot rule (Act a) before) → (put : Putting) →
      PutBy g rule before a into put → PutsFree put
  unfolding PutsFree
  put_by rule before a None is at put none = absurd none
  put_by rule before a (Some into) is at put (so, same) =
      let come = comes g rows are rule (Act a) before at so.0 in
      subst PutsFree (sym same) (property.acted come.0 rule come.1 a into come.2 is, so.1)

  put_told : (rule : Rule) (leaf : Leaf) (before : Before) → StandsAt g rows (spot rule leaf before) → (put : Putting) → PutHere g rule before leaf put → PutsFree put
  unfolding PutsFree
  put_told rule (Assign p op v s) before at put some =
      let now = current_there g rows are rule (Assign p op v s) before some.0 at some.1 in
      subst PutsFree (sym some.2.1) (property.assigned now.0 rule now.1 v now.2 now.3, some.2.0)
  put_told rule (Act a) before at put is = put_by rule before a a.put refl at put is
  put_told rule (Call name s) before at put none = absurd none
  put_told rule (Keyword text s) before at put none = absurd none

  told_put : {t p : List ℕ} {list : Bool} {file : ℕ} {s : Span} → PutsInto g t p list file s → IsFree g t → OfSome (PutAt g) spots (putting t p list file s)
  told_put (property.assigned {type_name} {p} {op} {s} rule written before v behind now) free =
      let found = there_current g rows are rule before (step written (Assign p op v s)) type_name behind now in
      (spot written (Assign p op v s) found.0, (all _).1 found.1, (type_name, found.2, (free, refl)))
  told_put (property.acted rule written before a into behind is) free =
      let found = come_to g rows are rule before (step written (Act a)) behind in (
        spot written (Act a) found.0,
        (all _).1 found.1,
        subst (λ o. PutBy g written found.0 a o (putting a.type_name into.0 into.1 written.file a.span)) (sym is) ((found.2, free), refl),
      )

  module _ (puts : List Putting) (put_in : Finds (OfSome (PutAt g) spots) [] puts) where
    put_there : (put : Putting) → Contains puts put → PutsFree put
    put_there put has = by ((put_in.exact put).0 has)
      where
        by : Contains [] put ⊎ OfSome (PutAt g) spots put → PutsFree put
        by (inl none) = absurd (omega (arith, none.1))
        by (inr is) = put_told is.0.rule is.0.leaf is.0.before ((all is.0).0 is.1) put is.2

    there_put : {t p : List ℕ} {list : Bool} {file : ℕ} {s : Span} → PutsInto g t p list file s → IsFree g t → Contains puts (putting t p list file s)
    there_put {t} {p} {list} {file} {s} is free = (put_in.exact (putting t p list file s)).1 (inr (told_put is free))

    -- ---- what is mixed
    not_same : (b : Bool) → b ≢ not b
    not_same true e = true≢false e
    not_same false e = false≢true e

    other_is : (a b : Bool) → a ≢ b → b ≡ not a
    other_is true true apart = absurd (apart refl)
    other_is true false apart = refl
    other_is false true apart = refl
    other_is false false apart = absurd (apart refl)

    pub told_mixed : (f : GrammarFault) → OfSome (MixedAt puts) puts f → IsFaultOf 16 (MixedProperty g) f
    unfolding PutsFree
    told_mixed f (put, has, ((other, among, same, ahead), is)) =
        let here = put_there put has in
        let there = put_there other among in
        let other_type : other.type_name ≡ put.type_name = ap (λ k. k.0) same in
        let other_property : other.property ≡ put.property = ap (λ k. k.1) same in
        let other_list : other.list ≡ not put.list = ap (λ k. k.2) same in
        let turned : PutsInto g put.type_name put.property other.list other.file other.span =
        subst (λ t. PutsInto g t put.property other.list other.file other.span) other_type
        (subst (λ p. PutsInto g other.type_name p other.list other.file other.span) other_property there.0) in
        told_fault_of (MixedProperty g) put.file put.span put.property is
        (property.mixed here.1.0 here.1.1 here.0 turned (λ e. not_same put.list (e ∙ other_list)) ahead)

    pub mixed_there : (file : ℕ) (s : Span) (name : List ℕ) → MixedProperty g file s name → OfSome (MixedAt puts) puts (fault 16 file s name)
    mixed_there file s name (property.mixed {type_name} {list} {other} {before} {t} inferred bound here there apart ahead) =
        let put : Putting = putting type_name name list file s in
        let also : Putting = putting type_name name other before t in (
          put,
          there_put here (inferred, bound),
          ((also, there_put there (inferred, bound), (let with_list : Bool → Key = λ b. (type_name, name, b) in ap with_list (other_is list other apart)), ahead), refl),
        )
