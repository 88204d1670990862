-- Properties that a declared type has not, or has in another form, and the same where it has them so.
use Rattle.std.proofs.Common.{◌≡◌, ◌≢◌, ℕ, List, [], ◌∷◌, ◌++◌, Some, Bool, true, false, codes, slice_get, Contains, refl, sym, ap, ◌∙◌, subst, arith, true≢false}
use Rattle.std.specs.List.{flat_map}
use Rattle.std.proofs.lemmas.List.Elements.{All-nil}
use Rattle.std.proofs.lemmas.Option.{none-some}
use Rattle.lw_base.specs.declared.token.Span.{Span}
use Rattle.lw_grammar.specs.declared.grammar.Grammar.{Grammar}
use Rattle.lw_grammar.specs.declared.rule.Rule.{Rule}
use Rattle.lw_grammar.specs.declared.rule.Element.{Element}
use Rattle.lw_grammar.specs.declared.rule.Op.{Op}
use Rattle.lw_grammar.specs.declared.rule.Op.TheVariants.{One, Add, Flag}
use Rattle.lw_grammar.specs.declared.rule.Value0.{Value0}
use Rattle.lw_grammar.specs.declared.rule.Value0.TheVariants as value
use Rattle.lw_grammar.specs.declared.rule.Element.TheVariants.{Assign}
use Rattle.lw_grammar.specs.declared.terminal.Terminal.{Terminal}
use Rattle.lw_grammar.specs.declared.terminal.Primitive.TheVariants.{Text, Boolean}
use Rattle.lw_grammar.specs.declared.declared_types.Interface.{Interface}
use Rattle.lw_grammar.specs.declared.declared_types.Attribute.{Attribute}
use Rattle.lw_grammar.specs.declared.declared_types.Member.{Member}
use Rattle.lw_grammar.specs.declared.declared_types.Member.TheVariants as member
use Rattle.lw_grammar.specs.Leaves as leaf
use Rattle.lw_grammar.specs.Leaves.{Leaf, leaves, ValueLeaf, Calls, Cross, value_leaves}
use Rattle.lw_grammar.specs.Named.{IsRule, IsTerminal, IsInterface, IsUnion, declared_rule, declared_terminal, declared_interface, declared_union}
use Rattle.lw_grammar.specs.Subtypes.{IsDeclared, by_interface, by_union, same}
use Rattle.lw_grammar.proofs.FirstLemmas.{first_item}
use Rattle.lw_grammar.proofs.LeafLemmas.{leaf_equations, values-Call, values-Cross}
use Rattle.lw_faults.specs.Steps.{Step, step, BodyBegins, IsBehind, IsAct, IsNodeCall, IsCurrentType}
use Rattle.lw_faults.specs.Steps as steps
use Rattle.lw_faults.specs.Attributes.{Kind, Plain, ReferencesTo, Lineage, HasAttribute, HasNoAttribute, IsKindOf, TakesKind}
use Rattle.lw_faults.specs.Attributes as kind
use Rattle.lw_faults.specs.Properties.{MisfitsAttribute, IsRefusedKind, UnknownProperty, WrongPropertyForm}
use Rattle.lw_faults.specs.Properties as property
use Rattle.lw_faults.specs.Worked.{StandsAlone, StandsNowhere, no_place, of_rules, rule_returning, calls_endless, endless_fragment, with_endless, terminal_id, x_attribute, i_interface, with_attribute, j_interface, extending_type, u_union, united, x_by, calls_id, i_reference}
use Rattle.lw_grammar.proofs.Every.{Every, every_of, every_at, differ, first_here, first_later, meant, not_meant}
use Rattle.lw_faults.proofs.LineageLemmas.{one_lineage}
use Rattle.lw_faults.proofs.StepLemmas.{holds_of_step}
use Rattle.lw_faults.proofs.WorkedSteps.{to_assign, to_call, to_first}
use Rattle.lw_faults.proofs.PutLemmas.{unknown_found, unknown_nowhere, misfit_found, misfit_nowhere}

not_entered : ¬ Contains {X = ℕ} [] 0
not_entered (k, inside, is) = omega (arith, inside)

-- ---- an interface with one attribute, whatever the rules are

module _ (rules : List Rule) (list : Bool) (m : Member) where
  abbrev W : Grammar
  W = record (of_rules rules) { interfaces = i_interface list m ∷ [] }

  i_named : IsInterface W (codes "I") 0 (i_interface list m)
  i_named = meant declared_interface declared_union (codes "I") W.interfaces W.unions 0 (i_interface list m) (first_here refl) tt

  i_declared : IsDeclared W (codes "I")
  i_declared = by_interface 0 (i_interface list m) i_named

  i_lineage : Lineage W [] (codes "I") (i_interface list m ∷ [])
  i_lineage = kind.interface 0 (i_interface list m) i_named not_entered kind.none

  i_has_x : HasAttribute W (codes "I") (codes "x") (x_attribute list m)
  i_has_x = record { lineage = i_interface list m ∷ []; all = i_lineage; at = 0; first = first_here refl }

  i_has_no_other : (p : List ℕ) → p ≢ codes "x" → HasNoAttribute W (codes "I") p
  i_has_no_other p other attribute has =
      let attributes : List Interface → List Attribute = λ ls. flat_map (λ i. i.attributes) ls in
      let there : slice_get (x_attribute list m ∷ []) has.at ≡ Some attribute =
      subst (λ ls. slice_get (attributes ls) has.at ≡ Some attribute) (one_lineage W has.all i_lineage) has.first.there in
      let is : x_attribute list m ≡ attribute = every_at (λ x. x_attribute list m ≡ x) (x_attribute list m ∷ []) has.at attribute (refl, tt) there in
      other (sym has.first.does ∙ sym (ap (λ (x : Attribute). x.name) is))

abbrev returns_i : Element → List Rule
returns_i body = rule_returning (codes "I") body ∷ []

-- ---- what is put in

module _ (list : Bool) (m : Member) (p : List ℕ) (op : Op) (v : Value0) (s : Span) where
  abbrev G : Grammar
  G = with_attribute list m (Assign p op v s)

  no_id : (r : ℕ) (rule : Rule) → ¬ IsRule G (codes "ID") r rule
  no_id r rule = not_meant declared_rule declared_terminal (codes "ID") G.rules G.terminals r rule (differ _ _ refl, tt)

  id_named : IsTerminal G (codes "ID") 0 terminal_id
  id_named = meant declared_terminal declared_rule (codes "ID") G.terminals G.rules 0 terminal_id (first_here refl) (differ _ _ refl, tt)

  id_kind : (k : Kind) → IsKindOf G (Calls (codes "ID") no_place) k → k ≡ Plain Text
  id_kind k (kind.terminal t terminal is) = ap (λ (x : Terminal). Plain x.gives) (first_item is.first id_named.first)
  id_kind k (kind.primitive r rule is _ _) = absurd (no_id r rule is)
  id_kind k (kind.text r rule is _ _) = absurd (no_id r rule is)
  id_kind k (kind.node r rule is _ _) = absurd (no_id r rule is)

  reference_kind : (k : Kind) → IsKindOf G (Cross (codes "I") (Some (codes "ID")) no_place) k → k ≡ ReferencesTo (codes "I")
  reference_kind k kind.reference = refl

  -- each part of the value is of one kind
  abbrev HasKind : Value0 → Kind → Type 0
  HasKind w own = (x : ValueLeaf) (k : Kind) → Contains (value_leaves w) x → IsKindOf G x k → k ≡ own

  id_has_kind : HasKind calls_id (Plain Text)
  id_has_kind x k has is = id_kind k (subst (λ l. IsKindOf G l k) (sym same_leaf) is)
    where
      same_leaf : Calls (codes "ID") no_place ≡ x
      same_leaf = every_of (λ y. Calls (codes "ID") no_place ≡ y) (Calls (codes "ID") no_place ∷ []) x (refl, tt) (subst (λ ls. Contains ls x) (values-Call (codes "ID") no_place) has)

  reference_has_kind : HasKind i_reference (ReferencesTo (codes "I"))
  reference_has_kind x k has is = reference_kind k (subst (λ l. IsKindOf G l k) (sym same_leaf) is)
    where
      same_leaf : Cross (codes "I") (Some (codes "ID")) no_place ≡ x
      same_leaf =
          every_of (λ y. Cross (codes "I") (Some (codes "ID")) no_place ≡ y) (Cross (codes "I") (Some (codes "ID")) no_place ∷ []) x (refl, tt)
          (subst (λ ls. Contains ls x) (values-Cross (codes "I") (Some (codes "ID")) no_place) has)

  id_there : Contains (value_leaves calls_id) (Calls (codes "ID") no_place)
  id_there = subst (λ ls. Contains ls (Calls (codes "ID") no_place)) (sym (values-Call (codes "ID") no_place)) (0, omega arith, refl)

  reference_there : Contains (value_leaves i_reference) (Cross (codes "I") (Some (codes "ID")) no_place)
  reference_there =
      subst (λ ls. Contains ls (Cross (codes "I") (Some (codes "ID")) no_place)) (sym (values-Cross (codes "I") (Some (codes "ID")) no_place)) (0, omega arith, refl)

  -- the attribute refuses what its one member does not take
  refused : {k : Kind} → ¬ TakesKind G m k → IsRefusedKind G (x_attribute list m) k
  refused {k} none n has takes = none (subst (λ x. TakesKind G x k) (sym (every_of (λ x. m ≡ x) (m ∷ []) n (refl, tt) has)) takes)

  taken : {k : Kind} → TakesKind G m k → ¬ IsRefusedKind G (x_attribute list m) k
  taken takes none = none m (0, omega arith, refl) takes

  -- a value of a kind that is taken fits, where the attribute is a list as the operator says
  fits_one : (own : Kind) → list ≡ false → HasKind v own → TakesKind G m own → ¬ MisfitsAttribute G (x_attribute list m) v One
  fits_one own plain has takes (property.list is) = true≢false (sym is ∙ plain)
  fits_one own plain has takes (property.value x k _ there is none) = taken takes (subst (IsRefusedKind G (x_attribute list m)) (has x k there is) none)

  fits_list : (own : Kind) → list ≡ true → HasKind v own → TakesKind G m own → ¬ MisfitsAttribute G (x_attribute list m) v Add
  fits_list own plain has takes (property.no_list is) = true≢false (sym plain ∙ is)
  fits_list own plain has takes (property.value x k _ there is none) = taken takes (subst (IsRefusedKind G (x_attribute list m)) (has x k there is) none)

  fits_flag : TakesKind G m (Plain Boolean) → ¬ MisfitsAttribute G (x_attribute list m) v Flag
  fits_flag takes (property.no_flag none) = taken takes none
  fits_flag takes (property.value x k flag there is none) = flag refl

-- ---- properties

module _ (s : Span) where
  pub undeclared : StandsAlone (UnknownProperty (with_attribute false (member.Plain Text) (Assign (codes "y") One calls_id s))) 0 s (codes "y")
  undeclared =
      unknown_found (i_interface false (member.Plain Text) ∷ []) [] (codes "I") (codes "y") One calls_id s
      (i_declared (returns_i (Assign (codes "y") One calls_id s)) false (member.Plain Text))
      (i_has_no_other (returns_i (Assign (codes "y") One calls_id s)) false (member.Plain Text) (codes "y") (differ _ _ refl))

  pub declared : StandsNowhere (UnknownProperty (with_attribute false (member.Plain Text) (x_by One calls_id s)))
  declared =
      unknown_nowhere (i_interface false (member.Plain Text) ∷ []) [] (codes "I") (codes "x") One calls_id s
      (i_declared (returns_i (x_by One calls_id s)) false (member.Plain Text))
      (λ none. none (x_attribute false (member.Plain Text)) (i_has_x (returns_i (x_by One calls_id s)) false (member.Plain Text)))

  -- J extends I
  abbrev E : Grammar
  E = extending_type (x_by One calls_id s)

  abbrev i : Interface
  i = i_interface false (member.Plain Text)

  i_extended : IsInterface E (codes "I") 0 i
  i_extended = meant declared_interface declared_union (codes "I") E.interfaces E.unions 0 i (first_here refl) tt

  j_named : IsInterface E (codes "J") 1 j_interface
  j_named = meant declared_interface declared_union (codes "J") E.interfaces E.unions 1 j_interface (first_later (differ _ _ refl) (first_here refl)) tt

  j_lineage : Lineage E [] (codes "J") (j_interface ∷ ((i ∷ []) ++ []))
  j_lineage =
      kind.interface 1 j_interface j_named (λ has. none has) (kind.more (kind.interface 0 i i_extended (λ has. other has) kind.none) kind.none)
    where
      none : Contains {X = ℕ} [] 1 → ⊥
      none (k, inside, is) = omega (arith, inside)

      other : Contains {X = ℕ} (1 ∷ []) 0 → ⊥
      other has = let is : 1 ≡ 0 = every_of (λ (x : ℕ). 1 ≡ x) (1 ∷ []) 0 (refl, tt) has in omega (arith, is)

  j_has_x : HasAttribute E (codes "J") (codes "x") (x_attribute false (member.Plain Text))
  j_has_x = record { lineage = j_interface ∷ ((i ∷ []) ++ []); all = j_lineage; at = 0; first = first_here refl }

  pub in_extended : StandsNowhere (UnknownProperty E)
  in_extended =
      unknown_nowhere (i ∷ j_interface ∷ []) [] (codes "J") (codes "x") One calls_id s (by_interface 1 j_interface j_named)
      (λ none. none (x_attribute false (member.Plain Text)) j_has_x)

  -- U is I
  abbrev U : Grammar
  U = united (x_by One calls_id s)

  u_named : IsUnion U (codes "U") 0 u_union
  u_named = meant declared_union declared_interface (codes "U") U.unions U.interfaces 0 u_union (first_here refl) (differ _ _ refl, tt)

  u_no_interface : (n : ℕ) (own : Interface) → ¬ IsInterface U (codes "U") n own
  u_no_interface n own = not_meant declared_interface declared_union (codes "U") U.interfaces U.unions n own (differ _ _ refl, tt)

  u_has_none : HasNoAttribute U (codes "U") (codes "x")
  u_has_none attribute has =
      none-some attribute
      (subst (λ ls. slice_get (flat_map (λ (x : Interface). x.attributes) ls) has.at ≡ Some attribute) (one_lineage U has.all (kind.no_interface u_no_interface)) has.first.there)

  pub in_union : StandsAlone (UnknownProperty U) 0 s (codes "x")
  in_union = unknown_found (i ∷ []) (u_union ∷ []) (codes "U") (codes "x") One calls_id s (by_union 0 u_union u_named) u_has_none

-- ---- in a fragment that never ends

module _ (s : Span) where
  abbrev C : Grammar
  C = with_endless s

  abbrev F : Rule
  F = endless_fragment s

  f_named : IsRule C (codes "F") 1 F
  f_named = meant declared_rule declared_terminal (codes "F") C.rules C.terminals 1 F (first_later (differ _ _ refl) (first_here refl)) (differ _ _ refl, tt)

  abbrev y_leaf : Leaf
  y_leaf = leaf.Assign (codes "y") One calls_id s

  a_leaves : leaves calls_endless.body ≡ leaf.Call (codes "F") no_place ∷ []
  a_leaves = simp leaf_equations

  f_leaves : leaves F.body ≡ y_leaf ∷ leaf.Call (codes "F") no_place ∷ []
  f_leaves = simp leaf_equations

  -- the fragment is called first, and begins with the assignment
  y_behind : IsBehind C calls_endless [] (step F y_leaf)
  y_behind = record {
    outside = [];
    inside = [];
    begins = BodyBegins.put_in (leaf.Call (codes "F") no_place) 1 F (steps.itself (0, omega arith, refl) refl) (to_call C) (f_named, refl);
    comes = to_first C _ (to_assign C);
    single = λ is. is.2;
    all = refl;
  }

  y_current : IsCurrentType C calls_endless [] (codes "I")
  y_current = steps.own (All-nil (λ (x : Step). ¬ IsAct x.leaf)) (All-nil (λ (x : Step). ¬ IsNodeCall C x.leaf)) (refl, refl)

  -- nothing else is put in
  abbrev IsY : Rule → Leaf → Type 0
  IsY rule (leaf.Assign q o w t) = (rule.file ≡ 0) × (t ≡ s) × (q ≡ codes "y")
  IsY rule (leaf.Act a) = ⊥
  IsY rule _ = Unit {0}

  only_y : {rule written : Rule} {before : List Step} {l : Leaf} → IsBehind C rule before (step written l) → IsY written l
  only_y is =
      holds_of_step C IsY
      (subst (Every (IsY calls_endless)) (sym a_leaves) (tt, tt), (subst (Every (IsY F)) (sym f_leaves) ((refl, refl, refl), (tt, tt)), tt)) is

  pub in_endless : StandsAlone (UnknownProperty C) 0 s (codes "y")
  in_endless = (
    property.assigned calls_endless F [] (codes "y") One calls_id s (codes "I") y_behind y_current (i_declared C.rules false (member.Plain Text))
        (i_has_no_other C.rules false (member.Plain Text) (codes "y") (differ _ _ refl)),
    others,
  )
    where
      others : (f : ℕ) (t : Span) (n : List ℕ) → UnknownProperty C f t n → (f ≡ 0) × (t ≡ s) × (n ≡ codes "y")
      others f t n (property.assigned rule written before q o w u type_of is _ _ _) = only_y is
      others f t n (property.acted rule written before a put is _ _ _) = absurd (only_y is)

-- ---- forms

module _ (list : Bool) (m : Member) (op : Op) (v : Value0) (s : Span) where
  form_found : MisfitsAttribute (with_attribute list m (x_by op v s)) (x_attribute list m) v op →
      StandsAlone (WrongPropertyForm (with_attribute list m (x_by op v s))) 0 s (codes "x")
  form_found =
      misfit_found (i_interface list m ∷ []) [] (codes "I") (codes "x") op v s (i_declared (returns_i (x_by op v s)) list m) (x_attribute list m)
      (i_has_x (returns_i (x_by op v s)) list m)

  form_nowhere : ¬ MisfitsAttribute (with_attribute list m (x_by op v s)) (x_attribute list m) v op →
      StandsNowhere (WrongPropertyForm (with_attribute list m (x_by op v s)))
  form_nowhere =
      misfit_nowhere (i_interface list m ∷ []) [] (codes "I") (codes "x") op v s (i_declared (returns_i (x_by op v s)) list m) (x_attribute list m)
      (i_has_x (returns_i (x_by op v s)) list m)

abbrev text : Member
text = member.Plain Text

abbrev refers : Member
refers = member.Refers (codes "I") no_place

abbrev k_word : Value0
k_word = value.Keyword (codes "k") no_place

flag_apart : (op : Op) → op ≡ One → op ≢ Flag
flag_apart op is was = let both : One ≡ Flag = sym is ∙ was in cc

module _ (s : Span) where
  pub one_into_list : StandsAlone (WrongPropertyForm (with_attribute true text (x_by One calls_id s))) 0 s (codes "x")
  one_into_list = form_found true text One calls_id s (property.list refl)

  pub added_to_list : StandsNowhere (WrongPropertyForm (with_attribute true text (x_by Add calls_id s)))
  added_to_list =
      form_nowhere true text Add calls_id s
      (fits_list true text (codes "x") Add calls_id s (Plain Text) refl (id_has_kind true text (codes "x") Add calls_id s) kind.plain)

  pub added_to_one : StandsAlone (WrongPropertyForm (with_attribute false text (x_by Add calls_id s))) 0 s (codes "x")
  added_to_one = form_found false text Add calls_id s (property.no_list refl)

  pub one : StandsNowhere (WrongPropertyForm (with_attribute false text (x_by One calls_id s)))
  one =
      form_nowhere false text One calls_id s
      (fits_one false text (codes "x") One calls_id s (Plain Text) refl (id_has_kind false text (codes "x") One calls_id s) kind.plain)

  pub flag_into_text : StandsAlone (WrongPropertyForm (with_attribute false text (x_by Flag k_word s))) 0 s (codes "x")
  flag_into_text = form_found false text Flag k_word s (property.no_flag (refused false text (codes "x") Flag k_word s (λ takes. elim takes [ ])))

  pub flag : StandsNowhere (WrongPropertyForm (with_attribute false (member.Plain Boolean) (x_by Flag k_word s)))
  flag = form_nowhere false (member.Plain Boolean) Flag k_word s (fits_flag false (member.Plain Boolean) (codes "x") Flag k_word s kind.plain)

  pub text_for_reference : StandsAlone (WrongPropertyForm (with_attribute false refers (x_by One calls_id s))) 0 s (codes "x")
  text_for_reference =
      form_found false refers One calls_id s
      (property.value (Calls (codes "ID") no_place) (Plain Text) (flag_apart One refl) (id_there false refers (codes "x") One calls_id s)
      (kind.terminal 0 terminal_id (id_named false refers (codes "x") One calls_id s))
      (refused false refers (codes "x") One calls_id s (λ takes. elim takes [ ])))

  pub reference_for_text : StandsAlone (WrongPropertyForm (with_attribute false text (x_by One i_reference s))) 0 s (codes "x")
  reference_for_text =
      form_found false text One i_reference s
      (property.value (Cross (codes "I") (Some (codes "ID")) no_place) (ReferencesTo (codes "I")) (flag_apart One refl)
      (reference_there false text (codes "x") One i_reference s) kind.reference
      (refused false text (codes "x") One i_reference s (λ takes. elim takes [ ])))

  pub reference : StandsNowhere (WrongPropertyForm (with_attribute false refers (x_by One i_reference s)))
  reference =
      form_nowhere false refers One i_reference s
      (fits_one false refers (codes "x") One i_reference s (ReferencesTo (codes "I")) refl (reference_has_kind false refers (codes "x") One i_reference s)
      (kind.reference same))
