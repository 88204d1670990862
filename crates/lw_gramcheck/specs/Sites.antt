-- The calls that a rule's body writes, in words of the code.
use Rattle.std.specs.Prelude.{ℕ, ◌≡◌, List, Option, Some, None}
use Rattle.lw_base.specs.declared.token.Span.{Span}
use Rattle.lw_grammar.specs.declared.grammar.Grammar.{Grammar}
use Rattle.lw_grammar.specs.declared.rule.Op.{Op}
use Rattle.lw_grammar.specs.declared.rule.Rule.{Rule}
use Rattle.lw_grammar.specs.Leaves as leaf
use Rattle.lw_grammar.specs.Leaves.{Leaf, ValueLeaf, leaves, value_leaves}
use Rattle.lw_grammar.specs.NameRules.{IsNameRule}
use Rattle.lw_faults.specs.Finding.{OfSome}
use Rattle.lw_gramcheck.specs.declared.parts.sites.CallSite.{CallSite}
use Rattle.lw_gramcheck.specs.declared.parts.sites.Manner.{Manner}
use Rattle.lw_gramcheck.specs.declared.parts.sites.Manner.TheVariants as manner

-- by itself; into a property, by an operator, at a place; as the text of a cross-reference, written or not
pub data How : Type 0 where
  Plain : How
  Assigned : List ℕ → Op → Span → How
  Crossed : How
  ByName : How

-- the name that is called, where, and how
pub record Site : Type 0 where
  pub name : List ℕ
  pub place : Span
  pub how : How

abbrev pub site : List ℕ → Span → How → Site
site name place how = record { name = name; place = place; how = how }

abbrev pub how_of : Manner → How
how_of manner.Plain = Plain
how_of (manner.Assigned p op s) = Assigned p.now op s
how_of manner.Crossed = Crossed
how_of manner.ByName = ByName

abbrev pub site_of : CallSite → Site
site_of call = site call.name.now call.span (how_of call.manner)

module _ (g : Grammar) where
  -- a cross-reference to this type, with the rule that it writes
  abbrev pub CrossCalls : List ℕ → Option (List ℕ) → Span → Site → Type 0
  CrossCalls wanted (Some name) s call = call ≡ site name s Crossed
  CrossCalls wanted None s call = (name : List ℕ) × IsNameRule g wanted name × (call ≡ site name s ByName)

  -- a part of a value that is assigned in this manner
  abbrev pub PartCalls : How → ValueLeaf → Site → Type 0
  PartCalls how (leaf.Literal text s) call = ⊥
  PartCalls how (leaf.Calls name s) call = call ≡ site name s how
  PartCalls how (leaf.Cross wanted rule s) call = CrossCalls wanted rule s call

  abbrev pub LeafSites : Leaf → Site → Type 0
  LeafSites (leaf.Call name s) call = call ≡ site name s Plain
  LeafSites (leaf.Assign p op v s) call = OfSome (PartCalls (Assigned p op s)) (value_leaves v) call
  LeafSites _ call = ⊥

  abbrev pub HasSite : Rule → Site → Type 0
  HasSite rule = OfSome LeafSites (leaves rule.body)
