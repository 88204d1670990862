-- The types of what grows from marks are types of the grammar.
use Rattle.std.proofs.Common.{ℕ, ◌+◌, ◌<◌, List, [], ◌∷◌, Option, Some, IfSome, All, length, sym, subst}
use Rattle.std.proofs.lemmas.List.Elements.{All-nil, All-cons, All-append, All-push}
use Rattle.std.proofs.lemmas.Option.{slice_get_within}
use Rattle.lw_base.specs.declared.token.Token.{Token}
use Rattle.lw_base.specs.declared.numbers.PropId.{PropId}
use Rattle.lw_base.specs.declared.numbers.NodeId.{NodeId}
use Rattle.lw_grammar.specs.declared.grammar.Grammar.{Grammar}
use Rattle.lw_grammar.specs.declared.rule.Op.{Op}
use Rattle.lw_grammar.specs.declared.rule.Value0.{Value0}
use Rattle.lw_numbers.specs.Numbering.{type_names}
use Rattle.lw_grammar.specs.Marks.{Mark}
use Rattle.lw_tree.specs.declared.node.Node.{Node}
use Rattle.lw_tree.specs.declared.node.Reference.{Reference}
use Rattle.lw_tree.specs.Parts.{Parts, SameTables}
use Rattle.lw_reading.specs.Grown.{Grown, Grow, Held, Nothing, Puts, Takes, Points, size_of, nodes, nodes_of}
use Rattle.lw_reading.specs.Brackets.{Bracket, InNode, InValue, Root, Shuts, in_value, in_node, at_root}
use Rattle.lw_reading.specs.Follows.{PutsValueIn, ChangesOpen, FollowsMarks, Closes}
use Rattle.lw_reading.specs.Follows as f
use Rattle.lw_reading.specs.Numbers.{IsNumberOfType}
use Rattle.lw_reading.specs.Trees.{IsOpenedTree, IsTree, parts_of_tree, refs, refs_of}
use Rattle.lw_reading.specs.Known.{HasKnownTypes}

module _ (g : Grammar) where
  -- the number of a type
  abbrev IsKnown : ℕ → Type 0
  IsKnown type = type < length (type_names g)

  numbered : (name : List ℕ) (type : ℕ) → IsNumberOfType g name type → IsKnown type
  numbered name type is = slice_get_within (type_names g) type name is

  -- each type in a node is known, and in what one holds
  abbrev mutual
    EachKnown : Grown → Type 0
    EachKnown (Grow type s held) = IsKnown type × EachHeld held

    EachHeld : Held → Type 0
    EachHeld Nothing = Unit {0}
    EachHeld (Puts held p v) = EachHeld held
    EachHeld (Takes held p x) = EachHeld held × EachKnown x
    EachHeld (Points held p want name s) = EachHeld held × IsKnown want

  -- and in what is open
  abbrev EachInBracket : Bracket → Type 0
  EachInBracket (InNode type from held) = IsKnown type × EachHeld held
  EachInBracket (InValue p op c at node) = IfSome node EachKnown
  EachInBracket (Root x) = EachKnown x

  abbrev EachOpen : List Bracket → Type 0
  EachOpen [] = Unit {0}
  EachOpen (b ∷ bs) = EachInBracket b × EachOpen bs

  -- ---- marks

  shuts_known : {ts : List Token} {bs after : List Bracket} → Shuts ts bs after → EachOpen bs → EachOpen after
  shuts_known in_value each = (each.0, each.1.1)
  shuts_known in_node each = (each.0, each.1.1)
  shuts_known at_root each = (each.0, tt)

  module _ (text : List ℕ) where
    put_known : {op : Op} {c : Value0} {ts : List Token} {node : Option Grown} {held after : Held} {p : ℕ} → PutsValueIn g text op c ts node held p after →
        IfSome node EachKnown → EachHeld held → EachHeld after
    put_known f.a_node inside each = (each, inside)
    put_known (f.a_reference {want} {wanted} not by number looks) inside each = (each, numbered wanted want number)
    put_known (f.plain is) inside each = each

    change_known : {ts : List Token} {mark : Mark} {bs after : List Bracket} → ChangesOpen g text ts mark bs after → EachOpen bs → EachOpen after
    change_known (f.opens {type} {name} at has is) each = ((numbered name type is, tt), each)
    change_known (f.puts is) each = (tt, each)
    change_known (f.shuts is) each = shuts_known is each
    change_known (f.renames {new} {a} none is) each = ((numbered a.type_name new is, each.0.1), each.1)
    change_known (f.wraps {new} {a} some is property) each = ((numbered a.type_name new is, (tt, each.0)), each.1)
    change_known (f.ends is) each = ((each.1.0.0, put_known is each.0 each.1.0.1), each.1.1)

    close_known : {ts : List Token} {bs : List Bracket} {x : Grown} → Closes g text ts bs x → EachOpen bs → EachKnown x
    close_known f.root each = each.0
    close_known (f.shut is closes) each = close_known closes (shuts_known is each)
    close_known (f.ended not change closes) each = close_known closes (change_known change each)
    close_known (f.left_out is closes) each = close_known closes each.1

    follow_known : {m : List Mark} {ts : List Token} {bs : List Bracket} → FollowsMarks g text m ts bs → EachOpen bs
    follow_known f.nothing = tt
    follow_known (f.token t is) = follow_known is
    follow_known (f.next is change) = change_known change (follow_known is)

  -- ---- tables

  abbrev OfNode : Node → Type 0
  OfNode node = IsKnown node.type_id.0

  abbrev OfReference : Reference → Type 0
  OfReference r = IsKnown r.want.0

  mutual
    nodes_known : (above : Option NodeId) (p : Option PropId) (n : ℕ) (x : Grown) → EachKnown x → All OfNode (nodes above p n x)
    nodes_known above p n (Grow type s held) each =
        All-cons OfNode (record { type_id = record { 0 = type }; container = above; prop = p; span = s }) (nodes_of n (n + 1) held) each.0
        (nodes_inside n (n + 1) held each.1)

    nodes_inside : (number n : ℕ) (held : Held) → EachHeld held → All OfNode (nodes_of number n held)
    nodes_inside number n Nothing each = All-nil OfNode
    nodes_inside number n (Puts held p v) each = nodes_inside number n held each
    nodes_inside number n (Points held p want name s) each = nodes_inside number n held each.0
    nodes_inside number n (Takes held p x) each =
        All-append OfNode (nodes_of number n held) (nodes (Some (record { 0 = number })) (Some (record { 0 = p })) (n + size_of held) x)
        (nodes_inside number n held each.0) (nodes_known (Some (record { 0 = number })) (Some (record { 0 = p })) (n + size_of held) x each.1)

  mutual
    refs_known : (n : ℕ) (x : Grown) → EachKnown x → All OfReference (refs n x)
    refs_known n (Grow type s held) each = refs_inside n (n + 1) held each.1

    refs_inside : (number n : ℕ) (held : Held) → EachHeld held → All OfReference (refs_of number n held)
    refs_inside number n Nothing each = All-nil OfReference
    refs_inside number n (Puts held p v) each = refs_inside number n held each
    refs_inside number n (Points held p want name s) each =
        All-push OfReference (refs_of number n held)
        (record { owner = record { 0 = number }; prop = record { 0 = p }; want = record { 0 = want }; name = name; span = s })
        (refs_inside number n held each.0) each.1
    refs_inside number n (Takes held p x) each =
        All-append OfReference (refs_of number n held) (refs (n + size_of held) x) (refs_inside number n held each.0) (refs_known (n + size_of held) x each.1)

  tables_known : (x : Grown) (tokens : List Token) (name : Option PropId) (tree : Parts) → SameTables tree (parts_of_tree x tokens name) → EachKnown x →
      HasKnownTypes g tree
  tables_known x tokens name tree same each = record {
    nodes = subst (All OfNode) (sym same.nodes) (nodes_known _ _ 0 x each);
    refs = subst (All OfReference) (sym same.refs) (refs_known 0 x each);
  }

  module _ (text : List ℕ) (m : List Mark) (seen tokens : List Token) (tree : Parts) where
    pub tree_known : IsTree g text m seen tokens tree → HasKnownTypes g tree
    tree_known is = tables_known is.grown tokens tree.name tree is.parts (follow_known text is.follows).0

    pub opened_tree_known : IsOpenedTree g text m seen tokens tree → HasKnownTypes g tree
    opened_tree_known is = tables_known is.grown tokens tree.name tree is.parts (close_known text is.closes (follow_known text is.follows))
