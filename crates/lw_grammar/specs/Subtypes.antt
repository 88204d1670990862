-- The subtype relation of a grammar's types, which are named.
-- Held against the Langium documentation, "Semantic model: type inference and declared types".
use Rattle.std.specs.Prelude.{ℕ, ◌≡◌, List, false, map, Contains}
use Rattle.lw_base.specs.declared.token.Span.{Span}
use Rattle.lw_grammar.specs.declared.grammar.Grammar.{Grammar}
use Rattle.lw_grammar.specs.declared.rule.Rule.{Rule}
use Rattle.lw_grammar.specs.declared.rule.RuleResult.{RuleResult}
use Rattle.lw_grammar.specs.declared.rule.RuleResult.TheVariants.{Own, Returns, Gives, Infers}
use Rattle.lw_grammar.specs.declared.rule.Action.{Action}
use Rattle.lw_grammar.specs.declared.declared_types.Interface.{Interface}
use Rattle.lw_grammar.specs.declared.declared_types.UnionDef.{UnionDef}
use Rattle.lw_grammar.specs.declared.declared_types.Member.TheVariants.{Named}
use Rattle.lw_grammar.specs.Named.{IsRule, IsInterface, IsUnion}
use Rattle.lw_grammar.specs.Leaves.{Leaf, Act, Call, HasLeaves}

module _ (g : Grammar) where
  -- a type that an interface or a union declares
  pub data IsDeclared (name : List ℕ) : Type 0 where
    by_interface : (i : ℕ) (interface : Interface) → IsInterface g name i interface → IsDeclared name
    by_union : (u : ℕ) (union : UnionDef) → IsUnion g name u union → IsDeclared name

  -- the name after `returns` or `infers`, else the rule's own; a rule that returns a primitive has no type
  abbrev pub ResultNames : RuleResult → List ℕ → List ℕ → Type 0
  ResultNames Own own name = name ≡ own
  ResultNames (Returns type_name s) own name = name ≡ type_name
  ResultNames (Gives primitive) own name = ⊥
  ResultNames (Infers type_name s) own name = name ≡ type_name

  -- the type of a rule; a fragment has none
  abbrev pub HasType : Rule → List ℕ → Type 0
  HasType rule name = (rule.is_fragment ≡ false) × ResultNames rule.result rule.name name

  -- the rule's type is inferred from its body
  abbrev pub ResultInfers : RuleResult → List ℕ → Type 0
  ResultInfers (Returns type_name s) name = ¬ IsDeclared name
  ResultInfers _ name = Unit {0}

  abbrev pub InfersType : Rule → List ℕ → Type 0
  InfersType rule name = HasType rule name × ResultInfers rule.result name

  -- the pairs of which the relation is made: the first name is directly below the second
  pub data IsDirectlyBelow : List ℕ → List ℕ → Type 0 where
    extends : {below above : List ℕ} (i : ℕ) (interface : Interface) → IsInterface g below i interface → Contains (map (λ n. n.0) interface.above) above →
        IsDirectlyBelow below above
    is_member : {below above : List ℕ} (u : ℕ) (union : UnionDef) (s : Span) → IsUnion g above u union → Contains union.members (Named below s) →
        IsDirectlyBelow below above
    acts : {above : List ℕ} (rule : Rule) (all : List Leaf) (a : Action) → Contains g.rules rule → InfersType rule above → HasLeaves g rule all →
        Contains all (Act a) → IsDirectlyBelow a.type_name above
    calls : {below above : List ℕ} (rule : Rule) (all : List Leaf) (name : List ℕ) (s : Span) (r : ℕ) (called : Rule) → Contains g.rules rule →
        InfersType rule above → HasLeaves g rule all → Contains all (Call name s) → IsRule g name r called → HasType called below →
        IsDirectlyBelow below above

  -- the least reflexive and transitive relation with these pairs
  pub data IsSubtype : List ℕ → List ℕ → Type 0 where
    same : {name : List ℕ} → IsSubtype name name
    up : {below above top : List ℕ} → IsDirectlyBelow below above → IsSubtype above top → IsSubtype below top
