-- Names that lead to names, over what they mean, and the walks between the places of what is meant: a name leads to itself exactly where what it
-- means lies on a circle.
use Rattle.std.proofs.Common.{◌≡◌, ◌↔◌, ℕ, ◌<◌, List, Bool, Some, length, slice_get, Contains, sym, ap, ◌∙◌, subst}
use Rattle.std.proofs.lemmas.Option.{slice_get_within, same_Some}
use Rattle.lw_grammar.specs.Named.{Declaration, IsMeant}
use Rattle.lw_grammar.specs.declared.fault.GrammarFault.{GrammarFault}
use Rattle.lw_grammar.proofs.FirstLemmas.{first_place}
use Rattle.lw_graph.specs.Walks.{Links, HasEdge, HasNode, Walks, stay, go, GoesRound}
use Rattle.lw_graph.proofs.WalkLemmas.{Walks-trans}
use Rattle.lw_faults.specs.Finding.{Finds, AtSome, OneIf}
use Rattle.lw_faults.proofs.Joining.{Finds-iff}
use Rattle.lw_types.specs.Rounds.{Arrow, AreRound}

module _ {X Y : Type 0} (declared_by : X → Declaration) (other_by : Y → Declaration) where
  pub meant_here : (name : List ℕ) (xs : List X) (others : List Y) (i place : ℕ) (x y : X) → slice_get xs i ≡ Some x → place ≡ i →
      IsMeant declared_by other_by name xs others place y → IsMeant declared_by other_by name xs others i x
  meant_here name xs others i place x y at same meant =
      let P : ℕ → Type 0 = λ n. IsMeant declared_by other_by name xs others n y in
      let here : IsMeant declared_by other_by name xs others i y = subst P same meant in
      let Q : X → Type 0 = λ z. IsMeant declared_by other_by name xs others i z in
      subst Q (same_Some y x (sym here.first.there ∙ at)) here

  module _ (xs : List X) (others : List Y) (names : X → List ℕ → Type 0) where
    abbrev pub MeansAt : List ℕ → ℕ → X → Type 0
    MeansAt name i x = IsMeant declared_by other_by name xs others i x

    abbrev pub name_of : X → List ℕ
    name_of x = (declared_by x).name

    -- what the name means names the other, or leads to it over more
    pub data LeadsTo : List ℕ → List ℕ → Type 0 where
      directly : {name other : List ℕ} (i : ℕ) (x : X) → MeansAt name i x → names x other → LeadsTo name other
      over : {name between other : List ℕ} → LeadsTo name between → LeadsTo between other → LeadsTo name other

    -- from a place to that of what a name there means
    abbrev pub PlaceStep : ℕ → ℕ → Type 0
    PlaceStep a b = (x : X) × (slice_get xs a ≡ Some x) × (name : List ℕ) × names x name × (y : X) × MeansAt name b y

    pub step_within : (a b : ℕ) → PlaceStep a b → (a < length xs) × (b < length xs)
    step_within a b step = (slice_get_within xs a step.0 step.1, slice_get_within xs b step.4 step.5.first.there)

    -- ---- walks

    module _ (graph : Links) (edge : (a b : ℕ) → HasEdge graph a b ↔ PlaceStep a b) where
      walk_leads : {a b : ℕ} → Walks graph a b → (start name : List ℕ) (x : X) → LeadsTo start name → MeansAt name a x → (y : X) → slice_get xs b ≡ Some y →
          LeadsTo start (name_of y)
      walk_leads stay start name x lead meant y at =
          let same : name ≡ name_of y = sym meant.first.does ∙ ap name_of (same_Some x y (sym meant.first.there ∙ at)) in
          subst (LeadsTo start) same lead
      walk_leads (go {a} {b} has rest) start name x lead meant y at =
          let step = (edge a b).0 has in
          let P : X → Type 0 = λ z. names z step.2 in
          let named : names x step.2 = subst P (same_Some step.0 x (sym step.1 ∙ meant.first.there)) step.3 in
          walk_leads rest start step.2 step.4 (over lead (directly a x meant named)) step.5 y at

      pub round_leads : (i : ℕ) (x : X) → MeansAt (name_of x) i x → GoesRound graph i → LeadsTo (name_of x) (name_of x)
      round_leads i x meant (next, has, walks) =
          let step = (edge i next).0 has in
          let P : X → Type 0 = λ z. names z step.2 in
          let named : names x step.2 = subst P (same_Some step.0 x (sym step.1 ∙ meant.first.there)) step.3 in
          walk_leads walks (name_of x) step.2 step.4 (directly i x meant named) step.5 x meant.first.there

      abbrev Goes : ℕ → ℕ → Type 0
      Goes a b = (next : ℕ) × HasEdge graph a next × Walks graph next b

      leads_from : {name other : List ℕ} → LeadsTo name other → (i : ℕ) × (x : X) × MeansAt name i x
      leads_from (directly i x meant _) = (i, x, meant)
      leads_from (over one _) = leads_from one

      leads_walk : {name other : List ℕ} → LeadsTo name other → (i j : ℕ) (x y : X) → MeansAt name i x → MeansAt other j y → Goes i j
      leads_walk (directly {name} {other} k z meant named) i j x y is was =
          let P : ℕ → Type 0 = λ n. slice_get xs n ≡ Some z in
          let at : slice_get xs i ≡ Some z = subst P (first_place meant.first is.first) meant.first.there in
          (j, (edge i j).1 (z, at, other, named, y, was), stay)
      leads_walk (over one two) i j x y is was =
          let middle = leads_from two in
          let first = leads_walk one i middle.0 x middle.1 is middle.2 in
          let second = leads_walk two middle.0 j middle.1 y middle.2 was in
          (first.0, first.1, Walks-trans first.2 (go second.1 second.2))

      pub leads_round : (i : ℕ) (x : X) → MeansAt (name_of x) i x → LeadsTo (name_of x) (name_of x) → GoesRound graph i
      leads_round i x meant lead = leads_walk lead i i x x meant meant

    -- ---- what is found on circles

    module _ (tell : X → GrammarFault) (round : List Bool) where
      abbrev pub TellsRound : ℕ → X → GrammarFault → Type 0
      TellsRound i x = OneIf (MeansAt (name_of x) i x × HasNode round i) (tell x)

      abbrev pub Circular : GrammarFault → Type 0
      Circular f = (i : ℕ) × (x : X) × MeansAt (name_of x) i x × LeadsTo (name_of x) (name_of x) × (f ≡ tell x)

      pub found_round : {edges : List Arrow} {a b : List GrammarFault} → AreRound edges round → ((p q : ℕ) → Contains edges (p, q) ↔ PlaceStep p q) →
          Finds (AtSome TellsRound xs) a b → Finds Circular a b
      found_round are steps finds = Finds-iff (λ f. (into f, from f)) finds
        where
          edge : (p q : ℕ) → HasEdge are.graph p q ↔ PlaceStep p q
          edge p q = ((λ has. (steps p q).0 ((are.edge p q).0 has)), (λ step. (are.edge p q).1 ((steps p q).1 step)))

          into : (f : GrammarFault) → AtSome TellsRound xs f → Circular f
          into f (i, x, at, ((meant, node), told)) = (i, x, meant, round_leads are.graph edge i x meant ((are.node i).0 node), told)

          from : (f : GrammarFault) → Circular f → AtSome TellsRound xs f
          from f (i, x, meant, lead, told) =
              (i, x, meant.first.there, ((meant, (are.node i).1 (leads_round are.graph edge i x meant lead)), told))
