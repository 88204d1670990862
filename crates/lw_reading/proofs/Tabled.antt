-- What is true of each span in a node is true of each span in the tables of its tree.
use Rattle.std.proofs.Common.{ℕ, ◌+◌, ◌==◌, ◌&&◌, Bool, true, false, Option, Some, IfSome, List, [], ◌∷◌, All, if◌then◌else◌}
use Rattle.std.proofs.lemmas.List.Elements.{All-nil, All-cons, All-head, All-tail, All-append, All-push}
use Rattle.lw_base.specs.declared.token.Span.{Span}
use Rattle.lw_base.specs.declared.numbers.PropId.{PropId}
use Rattle.lw_base.specs.declared.numbers.NodeId.{NodeId}
use Rattle.lw_tree.specs.declared.node.Node.{Node}
use Rattle.lw_tree.specs.declared.node.Reference.{Reference}
use Rattle.lw_tree.specs.declared.node.Value.{Value}
use Rattle.lw_tree.specs.declared.node.Value.TheVariants.{Child, Refers}
use Rattle.lw_tree.specs.Parts.{values_at}
use Rattle.lw_reading.specs.Grown.{Plain, Text, Number, Huge, Raw, Truth, as_value, Grown, Grow, Held, Nothing, Puts, Takes, Points, size_of, nodes, nodes_of}
use Rattle.lw_reading.specs.Trees.{points_of, refs, refs_of, own, values, values_of}
use Rattle.lw_reading.specs.Within.{value_place}
use Rattle.lw_reading.proofs.Spanned.{EachSpan, EachHeld, plain_span}

abbrev Entry : Type 0
Entry = NodeId × PropId × Value

module _ (P : Span → Type 0) where
  abbrev OfNode : Node → Type 0
  OfNode node = P node.span

  abbrev OfReference : Reference → Type 0
  OfReference r = P r.span

  abbrev OfValue : Value → Type 0
  OfValue v = IfSome (value_place v) P

  abbrev OfEntry : Entry → Type 0
  OfEntry e = OfValue e.2

  mutual
    pub nodes_spans : (above : Option NodeId) (p : Option PropId) (n : ℕ) (x : Grown) → EachSpan P x → All OfNode (nodes above p n x)
    nodes_spans above p n (Grow type s held) each =
        All-cons OfNode (record { type_id = record { 0 = type }; container = above; prop = p; span = s }) (nodes_of n (n + 1) held) each.0
        (nodes_inside n (n + 1) held each.1)

    nodes_inside : (number n : ℕ) (held : Held) → EachHeld P held → All OfNode (nodes_of number n held)
    nodes_inside number n Nothing each = All-nil OfNode
    nodes_inside number n (Puts held p v) each = nodes_inside number n held each.0
    nodes_inside number n (Points held p want name s) each = nodes_inside number n held each.0
    nodes_inside number n (Takes held p x) each =
        All-append OfNode (nodes_of number n held) (nodes (Some (record { 0 = number })) (Some (record { 0 = p })) (n + size_of held) x)
        (nodes_inside number n held each.0) (nodes_spans (Some (record { 0 = number })) (Some (record { 0 = p })) (n + size_of held) x each.1)

  mutual
    pub refs_spans : (n : ℕ) (x : Grown) → EachSpan P x → All OfReference (refs n x)
    refs_spans n (Grow type s held) each = refs_inside n (n + 1) held each.1

    refs_inside : (number n : ℕ) (held : Held) → EachHeld P held → All OfReference (refs_of number n held)
    refs_inside number n Nothing each = All-nil OfReference
    refs_inside number n (Puts held p v) each = refs_inside number n held each.0
    refs_inside number n (Points held p want name s) each =
        All-push OfReference (refs_of number n held)
        (record { owner = record { 0 = number }; prop = record { 0 = p }; want = record { 0 = want }; name = name; span = s })
        (refs_inside number n held each.0) each.1
    refs_inside number n (Takes held p x) each =
        All-append OfReference (refs_of number n held) (refs (n + size_of held) x) (refs_inside number n held each.0) (refs_spans (n + size_of held) x each.1)

  value_spans : (v : Plain) → P (plain_span v) → OfValue (as_value v)
  value_spans (Text text s) is = is
  value_spans (Number n s) is = is
  value_spans (Huge s) is = is
  value_spans (Raw text s) is = is
  value_spans (Truth s) is = is

  own_spans : (number n r : ℕ) (held : Held) → EachHeld P held → All OfEntry (own number n r held)
  own_spans number n r Nothing each = All-nil OfEntry
  own_spans number n r (Puts held p v) each =
      All-push OfEntry (own number n r held) (record { 0 = number }, record { 0 = p }, as_value v) (own_spans number n r held each.0) (value_spans v each.1)
  own_spans number n r (Points held p want name s) each =
      All-push OfEntry (own number n r held) (record { 0 = number }, record { 0 = p }, Refers (record { 0 = r + points_of held }))
      (own_spans number n r held each.0) tt
  own_spans number n r (Takes held p x) each =
      All-push OfEntry (own number n r held) (record { 0 = number }, record { 0 = p }, Child (record { 0 = n + size_of held }))
      (own_spans number n r held each.0) tt

  mutual
    entries_spans : (n r : ℕ) (x : Grown) → EachSpan P x → All OfEntry (values n r x)
    entries_spans n r (Grow type s held) each =
        All-append OfEntry (own n (n + 1) r held) (values_of (n + 1) r held) (own_spans n (n + 1) r held each.1) (entries_inside (n + 1) r held each.1)

    entries_inside : (n r : ℕ) (held : Held) → EachHeld P held → All OfEntry (values_of n r held)
    entries_inside n r Nothing each = All-nil OfEntry
    entries_inside n r (Puts held p v) each = entries_inside n r held each.0
    entries_inside n r (Points held p want name s) each = entries_inside n r held each.0
    entries_inside n r (Takes held p x) each =
        All-append OfEntry (values_of n r held) (values (n + size_of held) (r + points_of held) x) (entries_inside n r held each.0)
        (entries_spans (n + size_of held) (r + points_of held) x each.1)

  taken_spans : (b : Bool) (v : Value) (vs : List Value) → OfValue v → All OfValue vs → All OfValue (if b then v ∷ vs else vs)
  taken_spans true v vs is each = All-cons OfValue v vs is each
  taken_spans false v vs is each = each

  at_spans : (n p : ℕ) (es : List Entry) → All OfEntry es → All OfValue (values_at n p es)
  at_spans n p [] each = All-nil OfValue
  at_spans n p (e ∷ es) each =
      taken_spans ((e.0.0 == n) && (e.1.0 == p)) e.2 (values_at n p es) (All-head OfEntry e es each) (at_spans n p es (All-tail OfEntry e es each))

  pub values_spans : (n p : ℕ) (x : Grown) → EachSpan P x → All OfValue (values_at n p (values 0 0 x))
  values_spans n p x each = at_spans n p (values 0 0 x) (entries_spans 0 0 x each)
