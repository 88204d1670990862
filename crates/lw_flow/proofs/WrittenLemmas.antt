-- The steps on a way are written in the grammar's rules.
use Rattle.std.proofs.Common.{◌≡◌, ℕ, zero, suc, List, [], ◌∷◌, ◌++◌, map, All, Contains, false, refl, sym, subst, arith}
use Rattle.std.specs.List.{flat_map}
use Rattle.std.proofs.lemmas.List.Elements.{All-nil, All-cons, All-append, Contains-append_left, Contains-append_right}
use Rattle.lw_grammar.specs.declared.grammar.Grammar.{Grammar}
use Rattle.lw_grammar.specs.declared.rule.Element.{Element, out-Element}
use Rattle.lw_grammar.specs.declared.rule.Element.TheFolds.{map-Element}
use Rattle.lw_grammar.specs.declared.rule.Element.TheOpen.{Element-F}
use Rattle.lw_grammar.specs.declared.rule.Rule.{Rule}
use Rattle.lw_grammar.specs.Leaves as leaf
use Rattle.lw_grammar.specs.Leaves.{Leaf, leaves, layer_leaves, IsFragmentCall}
use Rattle.lw_grammar.proofs.LeafLemmas.{leaves_by}
use Rattle.lw_flow.proofs.RowLemmas.{at_place}
use Rattle.lw_faults.specs.Steps.{Step, step, GoesThrough, GoesLayer, GoesAll, GoesAgain, GetsTo, ComesLayer, ComesAlong, BodyBegins, IsBehind}
use Rattle.lw_faults.specs.Steps as steps

abbrev LayerLeaves : Element-F Element → List Leaf
LayerLeaves f = layer_leaves (map-Element Element (List Leaf) leaves f)

abbrev RowLeaves : List Element → List Leaf
RowLeaves es = flat_map (λ ls. ls) (map leaves es)

leaf_in_row : (es : List Element) (e : Element) (l : Leaf) → Contains es e → Contains (leaves e) l → Contains (RowLeaves es) l
leaf_in_row [] e l (k, inside, is) has = absurd (omega (arith, inside))
leaf_in_row (x ∷ es) e l (zero, inside, is) has = Contains-append_left (leaves x) (RowLeaves es) l (subst (λ y. Contains (leaves y) l) (sym is) has)
leaf_in_row (x ∷ es) e l (suc k, inside, is) has = Contains-append_right (leaves x) (RowLeaves es) l (leaf_in_row es e l (k, omega (arith, inside), is) has)

module _ (g : Grammar) where
  -- the step is written in a rule of the grammar
  abbrev pub IsWritten : Step → Type 0
  IsWritten at = Contains g.rules at.written × Contains (leaves at.written.body) at.leaf

  pub record AllWritten (xs : List Step) : Type 0 where
    pub all : All IsWritten xs

  none_written : AllWritten []
  none_written = record { all = All-nil IsWritten }

  both_written : {xs ys : List Step} → AllWritten xs → AllWritten ys → AllWritten (xs ++ ys)
  both_written {xs} {ys} one two = record { all = All-append IsWritten xs ys one.all two.all }

  fragment_rule : (l : Leaf) (f : ℕ) (fragment : Rule) → IsFragmentCall g l f fragment → Contains g.rules fragment
  fragment_rule (leaf.Call name s) f fragment is =
      at_place g.rules f fragment is.0.first.there
  fragment_rule _ f fragment is = absurd is

  -- these leaves are leaves of the rule's body
  record Within (rule : Rule) (ls : List Leaf) : Type 0 where
    leaf_there : (l : Leaf) → Contains ls l → Contains (leaves rule.body) l

  one_written : {rule : Rule} (l : Leaf) → Contains g.rules rule → Within rule (l ∷ []) → AllWritten (step rule l ∷ [])
  one_written {rule} l has within =
      record { all = All-cons IsWritten (step rule l) [] (has, within.leaf_there l (0, omega arith, refl)) (All-nil IsWritten) }

  by_layer : {rule : Rule} (e : Element) → Within rule (leaves e) → Within rule (LayerLeaves (out-Element e))
  by_layer e within = record { leaf_there = λ l has. within.leaf_there l (subst (λ ls. Contains ls l) (sym (leaves_by e (out-Element e) refl)) has) }

  first_within : {rule : Rule} (e : Element) (es : List Element) → Within rule (RowLeaves (e ∷ es)) → Within rule (leaves e)
  first_within e es within = record { leaf_there = λ l has. within.leaf_there l (Contains-append_left (leaves e) (RowLeaves es) l has) }

  others_within : {rule : Rule} (e : Element) (es : List Element) → Within rule (RowLeaves (e ∷ es)) → Within rule (RowLeaves es)
  others_within e es within = record { leaf_there = λ l has. within.leaf_there l (Contains-append_right (leaves e) (RowLeaves es) l has) }

  part_within : {rule : Rule} (es : List Element) (e : Element) → Contains es e → Within rule (RowLeaves es) → Within rule (leaves e)
  part_within es e among within = record { leaf_there = λ l has. within.leaf_there l (leaf_in_row es e l among has) }

  itself_within : (rule : Rule) → Within rule (leaves rule.body)
  itself_within rule = record { leaf_there = λ l has. has }

  mutual
    goes_written : {rule : Rule} {e : Element} {done : List Step} → Contains g.rules rule → Within rule (leaves e) → GoesThrough g rule e done → AllWritten done
    goes_written {e} has within (steps.goes way) = layer_written has (by_layer e within) way

    layer_written : {rule : Rule} {f : Element-F Element} {done : List Step} → Contains g.rules rule → Within rule (LayerLeaves f) → GoesLayer g rule f done → AllWritten done
    layer_written has within GoesLayer.keyword = none_written
    layer_written has within (GoesLayer.called {name} {s} _) = one_written (leaf.Call name s) has within
    layer_written has within (GoesLayer.put_in {name} {s} f fragment is way) =
        goes_written (fragment_rule (leaf.Call name s) f fragment is) (itself_within fragment) way
    layer_written has within (GoesLayer.assigned {p} {op} {v} {s}) = one_written (leaf.Assign p op v s) has within
    layer_written has within (GoesLayer.acted {a}) = one_written (leaf.Act a) has within
    layer_written has within (GoesLayer.grouped all) = row_written has within all
    layer_written has within (GoesLayer.chosen {es} {e} among way) = goes_written has (part_within es e among within) way
    layer_written has within GoesLayer.skipped = none_written
    layer_written has within (GoesLayer.taken way) = goes_written has within way
    layer_written has within (GoesLayer.repeated way) = turns_written has within way
    layer_written has within (GoesLayer.repeated_once way more) = both_written (goes_written has within way) (turns_written has within more)

    row_written : {rule : Rule} {es : List Element} {done : List Step} → Contains g.rules rule → Within rule (RowLeaves es) → GoesAll g rule es done → AllWritten done
    row_written has within steps.none = none_written
    row_written has within (steps.more {e} {es} way all) = both_written (goes_written has (first_within e es within) way) (row_written has (others_within e es within) all)

    turns_written : {rule : Rule} {e : Element} {done : List Step} → Contains g.rules rule → Within rule (leaves e) → GoesAgain g rule e done → AllWritten done
    turns_written has within steps.stop = none_written
    turns_written has within (steps.again way more) = both_written (goes_written has within way) (turns_written has within more)

  mutual
    gets_written : {rule : Rule} {e : Element} {before : List Step} {l : Leaf} → Contains g.rules rule → Within rule (leaves e) → GetsTo g rule e before l → AllWritten before
    gets_written {e} has within (steps.comes way) = comes_written has (by_layer e within) way

    comes_written : {rule : Rule} {f : Element-F Element} {before : List Step} {l : Leaf} → Contains g.rules rule → Within rule (LayerLeaves f) → ComesLayer g rule f before l →
        AllWritten before
    comes_written has within ComesLayer.called = none_written
    comes_written has within ComesLayer.assigned = none_written
    comes_written has within ComesLayer.acted = none_written
    comes_written has within (ComesLayer.grouped along) = along_written has within along
    comes_written has within (ComesLayer.chosen {es} {e} among way) = gets_written has (part_within es e among within) way
    comes_written has within (ComesLayer.taken way) = gets_written has within way
    comes_written has within (ComesLayer.repeated turns way) = both_written (turns_written has within turns) (gets_written has within way)
    comes_written has within (ComesLayer.repeated_once turns way) = both_written (turns_written has within turns) (gets_written has within way)

    along_written : {rule : Rule} {es : List Element} {before : List Step} {l : Leaf} → Contains g.rules rule → Within rule (RowLeaves es) → ComesAlong g rule es before l →
        AllWritten before
    along_written has within (steps.here {e} {es} way) = gets_written has (first_within e es within) way
    along_written has within (steps.later {e} {es} way along) =
        both_written (goes_written has (first_within e es within) way) (along_written has (others_within e es within) along)

  inside_rule : {rule inside : Rule} {before : List Step} → BodyBegins g rule before inside → Contains g.rules inside
  inside_rule (steps.itself has _) = has
  inside_rule (BodyBegins.put_in l f fragment _ _ is) = fragment_rule l f fragment is

  begins_written : {rule inside : Rule} {before : List Step} → BodyBegins g rule before inside → AllWritten before
  begins_written (steps.itself _ _) = none_written
  begins_written (BodyBegins.put_in {inside} l f fragment sooner gets is) =
      both_written (begins_written sooner) (gets_written (inside_rule sooner) (itself_within inside) gets)

  -- all that comes before a step is written
  pub behind_written : {rule : Rule} {before : List Step} {at : Step} → IsBehind g rule before at → AllWritten before
  behind_written {at} is =
      subst AllWritten (sym is.all) (both_written (begins_written is.begins) (gets_written (inside_rule is.begins) (itself_within at.written) is.comes))

  pub whole_rule : {rule inside : Rule} {before : List Step} → BodyBegins g rule before inside → rule.is_fragment ≡ false
  whole_rule (steps.itself _ whole) = whole
  whole_rule (BodyBegins.put_in _ _ _ sooner _ _) = whole_rule sooner
