-- A call of a rule gives what is done from the place of its body on: the body alone, or a node that opens, has the body and is shut.
use Rattle.std.proofs.Common.{◌≡◌, ℕ, ◌+◌, List, [], ◌∷◌, ◌++◌, Some, All, Bool, true, false, slice_get, refl, sym, ap, ◌∙◌, subst, true≢false}
use Rattle.std.proofs.lemmas.List.Elements.{All-nil, All-cons}
use Rattle.std.proofs.lemmas.Option.{same_Some}
use Rattle.lw_grammar.specs.declared.grammar.Grammar.{Grammar}
use Rattle.lw_grammar.specs.declared.rule.Rule.{Rule}
use Rattle.lw_grammar.specs.Kinds.{Kinds}
use Rattle.lw_grammar.specs.Reached.{IsReached}
use Rattle.lw_grammar.specs.Marks.{Mark}
use Rattle.lw_grammar.specs.Marks as mark
use Rattle.lw_grammar.specs.Yields.{Yields, RuleGives}
use Rattle.lw_grammar.specs.Yields as y
use Rattle.lw_look.specs.Sites.{body, Body, IsPartAt}
use Rattle.lw_look.specs.Sites as site
use Rattle.lw_look.specs.Things as t
use Rattle.lw_look.proofs.OneStep.{leave_gives}
use Rattle.lw_program.specs.ProgramOf.{ProgramParts, IsProgramOf, StartsRuleAt}
use Rattle.lw_program.specs.Says.{thing_of}
use Rattle.lw_viable.specs.Gives.{OpensNode, PlacesGive}
use Rattle.lw_viable.specs.Gives as gives
use Rattle.lw_viable.specs.Readings.{HasTask}
use Rattle.lw_viable.specs.Readings as place
use Rattle.lw_viable.proofs.Moves.Doing.{thing_placed, does_gives, thing_yields, thing_given}
use Rattle.lw_viable.proofs.Moves.Giving.{first_given, one_place_gives, of_one_place}

module _ (g : Grammar) (kinds : Kinds) (program : ProgramParts) (is : IsProgramOf g kinds program) where
  module _ {r start : ℕ} {rule : Rule} (reached : IsReached g r) (there : slice_get g.rules r ≡ Some rule)
      (at : slice_get program.starts r ≡ Some (Some start)) where
    starts : StartsRuleAt g kinds is.tasks r rule start
    starts =
        let (other, at', starts) = is.reached r rule reached there in
        subst (StartsRuleAt g kinds is.tasks r rule) (same_Some other start (same_Some (Some other) (Some start) (sym at' ∙ at))) starts

    stands : IsPartAt g (body r) (Body rule.body)
    stands = site.whole there

    first_placed : HasTask g kinds is.tasks start
    first_placed = (thing_of (body r) rule.body, starts.whole, thing_placed g stands reached)

    -- the places of a node, and that of a body alone
    pub node_placed : OpensNode g rule → All (HasTask g kinds is.tasks) (start ∷ (start + 1) ∷ [])
    node_placed opens =
        All-cons (HasTask g kinds is.tasks) start ((start + 1) ∷ []) first_placed
        (All-cons (HasTask g kinds is.tasks) (start + 1) [] (_, starts.shut opens.0 opens.1, place.leaves) (All-nil (HasTask g kinds is.tasks)))

    pub body_placed : All (HasTask g kinds is.tasks) (start ∷ [])
    body_placed = All-cons (HasTask g kinds is.tasks) start [] first_placed (All-nil (HasTask g kinds is.tasks))

    -- a node
    pub node_given : {n : List Mark} → OpensNode g rule → PlacesGive g kinds is.tasks (start ∷ (start + 1) ∷ []) n → RuleGives g kinds r rule (mark.Open r ∷ n)
    node_given opens give =
        let first = first_given g kinds is.tasks starts.whole give in
        let shut = leave_gives g kinds (does_gives g kinds (of_one_place g kinds is.tasks (starts.shut opens.0 opens.1) first.give)) in
        subst (λ n. RuleGives g kinds r rule (mark.Open r ∷ n)) (sym (first.are ∙ ap (λ o. first.own ++ o) shut))
        (y.node opens.0 opens.1 (thing_yields g kinds stands first.does))

    node_places : {m : List Mark} → OpensNode g rule → Yields g kinds rule.body m → PlacesGive g kinds is.tasks (start ∷ (start + 1) ∷ []) (m ++ mark.Shut ∷ [])
    node_places opens p =
        gives.more starts.whole (thing_given g kinds stands p)
        (one_place_gives g kinds is.tasks (starts.shut opens.0 opens.1) (gives.does t.leaves))

    pub node_enters : {m : List Mark} → OpensNode g rule → RuleGives g kinds r rule m →
        (n : List Mark) × PlacesGive g kinds is.tasks (start ∷ (start + 1) ∷ []) n × (m ≡ mark.Open r ∷ n)
    node_enters opens (y.fragment is_one p) = absurd (true≢false (sym is_one ∙ opens.0))
    node_enters opens (y.data_type is_none makes_none p) = absurd (makes_none opens.1)
    node_enters opens (y.node {m} is_none makes p) = (m ++ mark.Shut ∷ [], node_places opens p, refl)

    -- a body alone
    pub body_given : {m : List Mark} → ¬ OpensNode g rule → PlacesGive g kinds is.tasks (start ∷ []) m → RuleGives g kinds r rule m
    body_given {m} opens_none give = by rule.is_fragment refl
      where
        yields : Yields g kinds rule.body m
        yields = thing_yields g kinds stands (of_one_place g kinds is.tasks starts.whole give)

        by : (b : Bool) → rule.is_fragment ≡ b → RuleGives g kinds r rule m
        by true is_one = y.fragment is_one yields
        by false is_none = y.data_type is_none (λ makes. opens_none (is_none, makes)) yields

    body_places : {m : List Mark} → Yields g kinds rule.body m → PlacesGive g kinds is.tasks (start ∷ []) m
    body_places p = one_place_gives g kinds is.tasks starts.whole (thing_given g kinds stands p)

    pub body_enters : {m : List Mark} → ¬ OpensNode g rule → RuleGives g kinds r rule m → PlacesGive g kinds is.tasks (start ∷ []) m
    body_enters opens_none (y.fragment is_one p) = body_places p
    body_enters opens_none (y.data_type is_none makes_none p) = body_places p
    body_enters opens_none (y.node is_none makes p) = absurd (opens_none (is_none, makes))
