-- Interfaces and unions that lie on circles, by the edges between their places.
use Rattle.std.proofs.Common.{◌≡◌, ◌↔◌, ℕ, ◌<◌, List, [], Some, Bool, map, length, slice_get, Contains, refl, sym, subst}
use Rattle.lw_base.specs.declared.token.Span.{Span}
use Rattle.lw_grammar.specs.declared.grammar.Grammar.{Grammar}
use Rattle.lw_grammar.specs.declared.fault.GrammarFault.{GrammarFault}
use Rattle.lw_grammar.specs.declared.declared_types.Interface.{Interface}
use Rattle.lw_grammar.specs.declared.declared_types.UnionDef.{UnionDef}
use Rattle.lw_grammar.specs.declared.declared_types.Member.{Member}
use Rattle.lw_grammar.specs.declared.declared_types.Member.TheVariants as member
use Rattle.lw_grammar.specs.Named.{declared_interface, declared_union, IsInterface}
use Rattle.lw_faults.specs.Circles.{ExtendsType, HasMemberType}
use Rattle.lw_faults.specs.Circles as circle
use Rattle.lw_faults.specs.Faults.{fault}
use Rattle.lw_faults.specs.Finding.{Finds, AtSome}
use Rattle.lw_faults.proofs.Joining.{Finds-iff}
use Rattle.lw_types.specs.Rounds.{Arrow, AreRound, Extends, ByMember, HasMembers, TellsInterface, TellsUnion, CircularInterface, CircularUnion}
use Rattle.lw_types.proofs.Gathering.{has_found}
use Rattle.lw_types.proofs.Membership.{map_has, in_map}
use Rattle.lw_types.proofs.Leading.{LeadsTo, directly, over, PlaceStep, step_within, found_round}

module _ (g : Grammar) where
  -- ---- interfaces

  abbrev NamesAbove : Interface → List ℕ → Type 0
  NamesAbove interface above = Contains (map (λ n. n.0) interface.above) above

  abbrev InterfaceLeads : List ℕ → List ℕ → Type 0
  InterfaceLeads = LeadsTo declared_interface declared_union g.interfaces g.unions NamesAbove

  abbrev InterfaceStep : ℕ → ℕ → Type 0
  InterfaceStep = PlaceStep declared_interface declared_union g.interfaces g.unions NamesAbove

  extends_leads : {name other : List ℕ} → ExtendsType g name other → InterfaceLeads name other
  extends_leads (circle.directly i interface meant above) = directly i interface meant above
  extends_leads (circle.over one two) = over (extends_leads one) (extends_leads two)

  leads_extends : {name other : List ℕ} → InterfaceLeads name other → ExtendsType g name other
  leads_extends (directly i interface meant above) = circle.directly i interface meant above
  leads_extends (over one two) = circle.over (leads_extends one) (leads_extends two)

  module _ (edges lent : List Arrow) (same : lent ≡ edges) (finds : Finds (AtSome (Extends g) g.interfaces) [] edges) where
    pub interface_steps : (a b : ℕ) → Contains lent (a, b) ↔ InterfaceStep a b
    interface_steps a b =
        let P : List Arrow → Type 0 = λ list. Contains list (a, b) ↔ InterfaceStep a b in
        subst P (sym same) ((λ has. into ((has_found finds (a, b)).0 has)), (λ step. (has_found finds (a, b)).1 (from step)))
      where
        into : AtSome (Extends g) g.interfaces (a, b) → InterfaceStep a b
        into (i, x, at, (named, inside, (j, y, means, is))) =
            let P : Arrow → Type 0 = λ e. InterfaceStep e.0 e.1 in
            subst P (sym is) (x, at, named.0, map_has (λ (n : List ℕ × Span). n.0) x.above named inside, y, means)

        from : InterfaceStep a b → AtSome (Extends g) g.interfaces (a, b)
        from (x, at, name, inside, y, means) =
            let named = in_map (λ (n : List ℕ × Span). n.0) x.above name inside in
            let P : List ℕ → Type 0 = λ n. IsInterface g n b y in
            (a, x, at, (named.0, named.1, (b, y, subst P (sym named.2) means, refl)))

    pub interfaces_within : (a b : ℕ) → Contains lent (a, b) → (a < length g.interfaces) × (b < length g.interfaces)
    interfaces_within a b has = step_within declared_interface declared_union g.interfaces g.unions NamesAbove a b ((interface_steps a b).0 has)

    pub circular_interfaces : {round : List Bool} {a b : List GrammarFault} → AreRound lent round →
        Finds (AtSome (TellsInterface g round) g.interfaces) a b → Finds (CircularInterface g) a b
    circular_interfaces {round} are told =
        Finds-iff
        (λ f. (λ is. (is.0, is.1, is.2, leads_extends is.3, is.4), λ is. (is.0, is.1, is.2, extends_leads is.3, is.4)))
        (found_round declared_interface declared_union g.interfaces g.unions NamesAbove (λ x. fault 19 x.file x.span x.name) round are interface_steps told)

  -- ---- unions

  abbrev NamesMember : UnionDef → List ℕ → Type 0
  NamesMember union name = (s : Span) × Contains union.members (member.Named name s)

  abbrev UnionLeads : List ℕ → List ℕ → Type 0
  UnionLeads = LeadsTo declared_union declared_interface g.unions g.interfaces NamesMember

  abbrev UnionStep : ℕ → ℕ → Type 0
  UnionStep = PlaceStep declared_union declared_interface g.unions g.interfaces NamesMember

  members_lead : {name other : List ℕ} → HasMemberType g name other → UnionLeads name other
  members_lead (circle.directly u union s meant inside) = directly u union meant (s, inside)
  members_lead (circle.over one two) = over (members_lead one) (members_lead two)

  leads_member : {name other : List ℕ} → UnionLeads name other → HasMemberType g name other
  leads_member (directly u union meant named) = circle.directly u union named.0 meant named.1
  leads_member (over one two) = circle.over (leads_member one) (leads_member two)

  module _ (edges lent : List Arrow) (same : lent ≡ edges) (finds : Finds (AtSome (HasMembers g) g.unions) [] edges) where
    pub union_steps : (a b : ℕ) → Contains lent (a, b) ↔ UnionStep a b
    union_steps a b =
        let P : List Arrow → Type 0 = λ list. Contains list (a, b) ↔ UnionStep a b in
        subst P (sym same) ((λ has. into ((has_found finds (a, b)).0 has)), (λ step. (has_found finds (a, b)).1 (from step)))
      where
        by_member : (u : ℕ) (x : UnionDef) → slice_get g.unions u ≡ Some x → (m : Member) → Contains x.members m → ByMember g u m (a, b) → UnionStep a b
        by_member u x at (member.Named name s) inside (w, y, means, is) =
            let P : Arrow → Type 0 = λ e. UnionStep e.0 e.1 in subst P (sym is) (x, at, name, (s, inside), y, means)
        by_member u x at (member.Refers name s) inside by = absurd by
        by_member u x at (member.Plain primitive) inside by = absurd by
        by_member u x at (member.Literal text) inside by = absurd by

        into : AtSome (HasMembers g) g.unions (a, b) → UnionStep a b
        into (u, x, at, (m, inside, by)) = by_member u x at m inside by

        from : UnionStep a b → AtSome (HasMembers g) g.unions (a, b)
        from (x, at, name, named, y, means) =
            (a, x, at, (member.Named name named.0, named.1, (b, y, means, refl)))

    pub unions_within : (a b : ℕ) → Contains lent (a, b) → (a < length g.unions) × (b < length g.unions)
    unions_within a b has = step_within declared_union declared_interface g.unions g.interfaces NamesMember a b ((union_steps a b).0 has)

    pub circular_unions : {round : List Bool} {a b : List GrammarFault} → AreRound lent round →
        Finds (AtSome (TellsUnion g round) g.unions) a b → Finds (CircularUnion g) a b
    circular_unions {round} are told =
        Finds-iff
        (λ f. (λ is. (is.0, is.1, is.2, leads_member is.3, is.4), λ is. (is.0, is.1, is.2, members_lead is.3, is.4)))
        (found_round declared_union declared_interface g.unions g.interfaces NamesMember (λ x. fault 19 x.file x.span x.name) round are union_steps told)
