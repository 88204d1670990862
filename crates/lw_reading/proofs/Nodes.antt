-- A rule's node, from its opening to its shutting, and the places in which one is shut.
use Rattle.std.proofs.Common.{◌≡◌, ℕ, false, List, [], ◌∷◌, ◌++◌, Option, Some, None, Contains, length, slice_get, refl, ◌∙◌}
use Rattle.lw_base.specs.declared.token.Token.{Token}
use Rattle.lw_grammar.specs.declared.grammar.Grammar.{Grammar}
use Rattle.lw_grammar.specs.declared.rule.Op.{Op}
use Rattle.lw_grammar.specs.declared.rule.Rule.{Rule}
use Rattle.lw_grammar.specs.declared.rule.Value0.{Value0}
use Rattle.lw_grammar.specs.Nodes.{MakesNodes}
use Rattle.lw_grammar.specs.Marks.{Mark, Open, Shut}
use Rattle.lw_faults.specs.Steps.{Step}
use Rattle.lw_base.proofs.Lists.{among}
use Rattle.lw_reading.specs.Grown.{Grown, Held, Nothing}
use Rattle.lw_reading.specs.Brackets.{Bracket, InNode, InValue, Root, grown, Shuts, in_value, in_node, at_root}
use Rattle.lw_reading.specs.Follows as f
use Rattle.lw_reading.specs.Growing.{ReadMarks}
use Rattle.lw_reading.proofs.GoesOn.{CanClose, HoldsNode, GoesOn}
use Rattle.lw_reading.proofs.GoesOn as on
use Rattle.lw_reading.proofs.Numbered.{type_number, rule_type}
use Rattle.lw_reading.proofs.Rootable.{IsRootable}
use Rattle.lw_reading.proofs.Climbs.{Climbs, read_before, join_last}

module _ (g : Grammar) (text : List ℕ) where
  -- ---- what holds a node

  pub value_holds : {p at : ℕ} {op : Op} {c : Value0} {bs : List Bracket} → ((node : Option Grown) → CanClose g text (InValue p op c at node ∷ bs)) →
      HoldsNode g text (InValue p op c at None ∷ bs)
  value_holds closes type from held ts = let (x, more) = closes (Some (grown ts type from held)) ts in (x, f.shut in_value more)

  pub node_holds : {type from : ℕ} {bs : List Bracket} → HoldsNode g text bs → HoldsNode g text (InNode type from Nothing ∷ bs)
  node_holds {from} holds type at held ts = let (x, more) = holds type from held ts in (x, f.shut in_node more)

  pub root_closes : (x : Grown) → CanClose g text (Root x ∷ [])
  root_closes x ts = (x, f.root)

  pub nothing_holds : HoldsNode g text []
  nothing_holds type from held ts = (grown ts type from held, f.shut at_root f.root)

  -- ---- a node

  -- the node of the rule is open, and its body was read; after its shutting the brackets are these
  pub record Opened (ts us : List Token) (bs : List Bracket) (r : ℕ) (m : List Mark) : Type 0 where
    pub type : ℕ
    pub held : Held
    pub goes : GoesOn g text ts bs (Open r ∷ m) us (InNode type (length ts) held ∷ bs)

  pub opened : IsRootable g → (r : ℕ) (rule : Rule) (done : List Step) {m : List Mark} → slice_get g.rules r ≡ Some rule → rule.is_fragment ≡ false → MakesNodes g rule →
      Climbs g text [] done m → (ts us : List Token) (bs : List Bracket) → ReadMarks us (m ++ Shut ∷ []) → HoldsNode g text bs → Opened ts us bs r m
  opened root r rule done {m} at is makes climbs ts us bs reads holds =
      let has : Contains g.rules rule = among g.rules r rule at in
      let (name, type) = root.type_of rule has is makes in
      let (n, number) = type_number g name (rule_type g rule name has type) in
      let body = climbs ts us bs n (length ts) Nothing (reads ∙ read_before m Shut refl) holds (λ none. refl) in
      record { type = body.type_; held = body.held_; goes = on.next (f.opens at type number) (holds n (length ts) Nothing) body.goes }

  pub shut : {ts us : List Token} {bs after : List Bracket} {r : ℕ} {m : List Mark} (o : Opened ts us bs r m) →
      Shuts (ts ++ us) (InNode o.type (length ts) o.held ∷ bs) after → CanClose g text after → GoesOn g text ts bs (Open r ∷ m ++ Shut ∷ []) us after
  shut o shuts closes = join_last g text o.goes (f.shuts shuts) closes
