-- Trees that are the same but for where things stand and for the name of one reference.
-- Held against Langium's `AstNode`: its type, its container and its property there, its name and its cross-references.
use Rattle.std.specs.Prelude.{ℕ, ℤ, ◌≡◌, ◌≢◌, List, Option, slice_get}
use Rattle.std.specs.List.{AllZip}
use Rattle.std.specs.Option.{option_map}
use Rattle.lw_base.specs.declared.token.Span.{Span}
use Rattle.lw_base.specs.declared.numbers.NodeId.{NodeId}
use Rattle.lw_base.specs.declared.numbers.RefId.{RefId}
use Rattle.lw_tree.specs.declared.node.Node.{Node}
use Rattle.lw_tree.specs.declared.node.Reference.{Reference}
use Rattle.lw_tree.specs.declared.node.Value.{Value}
use Rattle.lw_tree.specs.declared.node.Value.TheVariants.{Text, Number, Huge, Raw, Truth, Child, Refers}
use Rattle.lw_tree.specs.Parts.{Parts, name_of, values_at}

-- nodes of one type, in one container, under one property
pub record IsAlikeNode (node other : Node) : Type 0 where
  pub type_id : node.type_id ≡ other.type_id
  pub container : node.container ≡ other.container
  pub prop : node.prop ≡ other.prop

-- references of one node, under one property, that want one type
pub record IsAlikeReference (r s : Reference) : Type 0 where
  pub owner : r.owner ≡ s.owner
  pub prop : r.prop ≡ s.prop
  pub want : r.want ≡ s.want

-- values that say the same, wherever they stand: the same node, and the reference at the same place
pub data IsAlikeValue : Value → Value → Type 0 where
  text : {said : List ℕ} {s t : Span} → IsAlikeValue (Text said s) (Text said t)
  number : {n : ℤ} {s t : Span} → IsAlikeValue (Number n s) (Number n t)
  huge : {s t : Span} → IsAlikeValue (Huge s) (Huge t)
  raw : {said : List ℕ} {s t : Span} → IsAlikeValue (Raw said s) (Raw said t)
  truth : {s t : Span} → IsAlikeValue (Truth s) (Truth t)
  child : {n : NodeId} → IsAlikeValue (Child n) (Child n)
  refers : {r : RefId} → IsAlikeValue (Refers r) (Refers r)

-- a name, without its place
abbrev pub name_said : Option (List ℕ × Span) → Option (List ℕ)
name_said name = option_map (λ (n : List ℕ × Span). n.0) name

-- the name of a reference
abbrev pub name_looked_up : Option Reference → Option (List ℕ)
name_looked_up r = option_map (λ (s : Reference). s.name) r

-- The nodes are alike one by one and have the same names, and the values that each holds are alike. So are the references, and they have the same names but
-- at one place.
pub record AreAlikeTrees (place : ℕ) (tree other : Parts) : Type 0 where
  pub nodes : AllZip IsAlikeNode tree.nodes other.nodes
  pub named : (n : ℕ) → name_said (name_of tree n) ≡ name_said (name_of other n)
  pub values : (n p : ℕ) → AllZip IsAlikeValue (values_at n p tree.values) (values_at n p other.values)
  pub refs : AllZip IsAlikeReference tree.refs other.refs
  pub names : (i : ℕ) → i ≢ place → name_looked_up (slice_get tree.refs i) ≡ name_looked_up (slice_get other.refs i)
