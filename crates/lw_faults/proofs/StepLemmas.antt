-- What an element does and what it comes to, by its form, and what is known of a step and of those before it.
use Rattle.std.proofs.Common.{◌≡◌, ℕ, zero, suc, List, [], ◌∷◌, ◌++◌, map, Contains, All, true, false, Some, slice_get, refl, sym, ap, ◌∙◌, subst, arith, true≢false}
use Rattle.std.specs.List.{flat_map}
use Rattle.std.proofs.lemmas.Option.{slice_get_within, get_or_from_slice_get}
use Rattle.std.proofs.lemmas.List.Elements.{Contains-append_left, Contains-append_right, All-contains}
use Rattle.lw_grammar.specs.declared.grammar.Grammar.{Grammar}
use Rattle.lw_grammar.specs.declared.rule.Element.{Element, out-Element}
use Rattle.lw_grammar.specs.declared.rule.Element.TheOpen.{Element-F}
use Rattle.lw_grammar.specs.declared.rule.Rule.{Rule}
use Rattle.lw_grammar.specs.Leaves as leaf
use Rattle.lw_grammar.specs.Leaves.{Leaf, leaves, layer_leaves, IsFragmentCall}
use Rattle.lw_grammar.specs.declared.rule.Element.TheFolds.{map-Element}
use Rattle.lw_grammar.specs.Subtypes.{HasType}
use Rattle.lw_grammar.proofs.LeafLemmas.{leaves_by}
use Rattle.lw_faults.specs.Steps.{Step, step, PutsInFragment, GoesThrough, GoesLayer, GetsTo, ComesLayer, ComesAlong, BodyBegins, IsBehind, IsAct, IsNodeCall, NoneActs, IsCurrentType}
use Rattle.lw_faults.specs.Steps as steps
use Rattle.lw_grammar.proofs.Every.{Every, every_of}

at_its_number : {X : Type 0} (xs : List X) (i : ℕ) (x : X) → slice_get xs i ≡ Some x → Contains xs x
at_its_number xs i x is = (i, slice_get_within xs i x is, get_or_from_slice_get xs i x x is)

module _ (g : Grammar) where
  -- ---- by its form
  module _ {rule : Rule} {e : Element} {f : Element-F Element} (is : out-Element e ≡ f) where
    pub what_goes : {done : List Step} → GoesThrough g rule e done → GoesLayer g rule f done
    what_goes {done} (steps.goes does) = subst (λ x. GoesLayer g rule x done) is does

    pub can_go : {done : List Step} → GoesLayer g rule f done → GoesThrough g rule e done
    can_go {done} does = steps.goes (subst (λ x. GoesLayer g rule x done) (sym is) does)

    pub what_comes : {before : List Step} {l : Leaf} → GetsTo g rule e before l → ComesLayer g rule f before l
    what_comes {before} {l} (steps.comes does) = subst (λ x. ComesLayer g rule x before l) is does

    pub can_come : {before : List Step} {l : Leaf} → ComesLayer g rule f before l → GetsTo g rule e before l
    can_come {before} {l} does = steps.comes (subst (λ x. ComesLayer g rule x before l) (sym is) does)

  -- ---- a step is written in the body of its rule
  abbrev LayerLeaves : Element-F Element → List Leaf
  LayerLeaves f = layer_leaves (map-Element Element (List Leaf) leaves f)

  abbrev RowLeaves : List Element → List Leaf
  RowLeaves es = flat_map (λ ls. ls) (map leaves es)

  the_leaf : (l : Leaf) → Contains (l ∷ []) l
  the_leaf l = (0, omega arith, refl)

  chosen_leaf : (es : List Element) (e : Element) (l : Leaf) → Contains es e → Contains (leaves e) l → Contains (RowLeaves es) l
  chosen_leaf [] e l (k, inside, is) has = absurd (omega (arith, inside))
  chosen_leaf (x ∷ es) e l (zero, inside, is) has = Contains-append_left (leaves x) (RowLeaves es) l (subst (λ y. Contains (leaves y) l) (sym is) has)
  chosen_leaf (x ∷ es) e l (suc k, inside, is) has =
      Contains-append_right (leaves x) (RowLeaves es) l (chosen_leaf es e l (k, omega (arith, inside), is) has)

  mutual
    pub written : {rule : Rule} {e : Element} {before : List Step} {l : Leaf} → GetsTo g rule e before l → Contains (leaves e) l
    written {e} {l} (steps.comes does) = subst (λ ls. Contains ls l) (sym (leaves_by e (out-Element e) refl)) (written_layer does)

    written_layer : {rule : Rule} {f : Element-F Element} {before : List Step} {l : Leaf} → ComesLayer g rule f before l → Contains (LayerLeaves f) l
    written_layer ComesLayer.called = the_leaf _
    written_layer ComesLayer.assigned = the_leaf _
    written_layer ComesLayer.acted = the_leaf _
    written_layer (ComesLayer.grouped along) = written_along along
    written_layer {l} (ComesLayer.chosen {es} {e} has does) = chosen_leaf es e l has (written does)
    written_layer (ComesLayer.taken does) = written does
    written_layer (ComesLayer.repeated _ does) = written does
    written_layer (ComesLayer.repeated_once _ does) = written does

    written_along : {rule : Rule} {es : List Element} {before : List Step} {l : Leaf} → ComesAlong g rule es before l → Contains (RowLeaves es) l
    written_along {l} (steps.here {e} {es} does) = Contains-append_left (leaves e) (RowLeaves es) l (written does)
    written_along {l} (steps.later {e} {es} _ along) = Contains-append_right (leaves e) (RowLeaves es) l (written_along along)

  called_rule : (l : Leaf) (f : ℕ) (fragment : Rule) → IsFragmentCall g l f fragment → Contains g.rules fragment × (fragment.is_fragment ≡ true)
  called_rule (leaf.Call name s) f fragment is = (at_its_number g.rules f fragment is.0.first.there, is.1)
  called_rule _ f fragment is = absurd is

  pub inside_rule : {rule inside : Rule} {before : List Step} → BodyBegins g rule before inside → Contains g.rules inside
  inside_rule (steps.itself has _) = has
  inside_rule (BodyBegins.put_in l f fragment _ _ is) = (called_rule l f fragment is).0

  -- what holds of each leaf of each body
  pub holds_of_step : {rule : Rule} {before : List Step} {at : Step} (P : Rule → Leaf → Type 0) → Every (λ (x : Rule). Every (P x) (leaves x.body)) g.rules →
      IsBehind g rule before at → P at.written at.leaf
  holds_of_step {at} P all is =
      every_of (P at.written) (leaves at.written.body) at.leaf
      (every_of (λ (x : Rule). Every (P x) (leaves x.body)) g.rules at.written all (inside_rule is.begins)) (written is.comes)

  -- ---- the ways through a rule
  outside_rule : {rule inside : Rule} {before : List Step} → BodyBegins g rule before inside → Contains g.rules rule
  outside_rule (steps.itself has _) = has
  outside_rule (BodyBegins.put_in _ _ _ sooner _ _) = outside_rule sooner

  pub rule_there : {rule : Rule} {before : List Step} {at : Step} → IsBehind g rule before at → Contains g.rules rule
  rule_there is = outside_rule is.begins

  -- a step that the rule's own body comes to
  pub own_step : {rule : Rule} {before : List Step} {l : Leaf} → Contains g.rules rule → rule.is_fragment ≡ false → GetsTo g rule rule.body before l →
      ¬ PutsInFragment g l → IsBehind g rule before (step rule l)
  own_step {before} has whole there single =
      record { outside = []; inside = before; begins = steps.itself has whole; comes = there; single = single; all = refl }

  -- wherever the element comes to, this holds of the steps before and of what is there
  abbrev pub HoldsIn : (List Step → Leaf → Type 0) → Rule → Element → Type 0
  HoldsIn P rule e = (before : List Step) (l : Leaf) → GetsTo g rule e before l → P before l

  -- no rule is a fragment
  abbrev pub HasNoFragment : Type 0
  HasNoFragment = Every (λ (x : Rule). x.is_fragment ≡ false) g.rules

  begins_itself : {rule inside : Rule} {before : List Step} → HasNoFragment → BodyBegins g rule before inside → before ≡ []
  begins_itself none (steps.itself _ _) = refl
  begins_itself none (BodyBegins.put_in l f fragment _ _ is) =
      let there = called_rule l f fragment is in
      absurd (true≢false (sym there.1 ∙ every_of (λ (x : Rule). x.is_fragment ≡ false) g.rules fragment none there.0))

  pub holds_behind : {rule : Rule} {before : List Step} {at : Step} (P : List Step → Leaf → Type 0) → HasNoFragment →
      Every (λ (x : Rule). HoldsIn P x x.body) g.rules → IsBehind g rule before at → P before at.leaf
  holds_behind {at} P none all is =
      subst (λ xs. P xs at.leaf) (sym (is.all ∙ ap (λ xs. xs ++ is.inside) (begins_itself none is.begins)))
      (every_of (λ (x : Rule). HoldsIn P x x.body) g.rules at.written all (inside_rule is.begins) is.inside at.leaf is.comes)

  -- ---- elements with one way
  abbrev pub HasWay : Rule → Element → List Step → Type 0
  HasWay rule e way = (done : List Step) → GoesThrough g rule e done → done ≡ way

  -- ---- the type that is current
  pub own_current : {rule : Rule} {done : List Step} {type_name : List ℕ} → NoneActs done → All (λ x. ¬ IsNodeCall g x.leaf) done →
      IsCurrentType g rule done type_name → HasType g rule type_name
  own_current none_acts none_calls (IsCurrentType.acted before after written a _) =
      absurd (All-contains (λ (x : Step). ¬ IsAct x.leaf) _ _ none_acts (Contains-append_right before (step written (leaf.Act a) ∷ after) _ (0, omega arith, refl)) steps.act)
  own_current none_acts none_calls (IsCurrentType.called before after at called _ calls _ _) =
      absurd (All-contains (λ (x : Step). ¬ IsNodeCall g x.leaf) _ _ none_calls (Contains-append_right before (at ∷ after) at (0, omega arith, refl)) (called, calls))
  own_current none_acts none_calls (steps.own _ _ typed) = typed
