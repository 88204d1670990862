-- The grammar with an interface and a union of one name: the name means the one that stands first.
use Rattle.std.proofs.Common.{◌≡◌, ℕ, ◌<◌, List, [], ◌∷◌, map, codes, Contains, inl, inr, refl, sym, ap, ◌∙◌, subst, arith}
use Rattle.lw_grammar.specs.declared.rule.Rule.{Rule}
use Rattle.lw_grammar.specs.declared.declared_types.Interface.{Interface}
use Rattle.lw_grammar.specs.declared.declared_types.UnionDef.{UnionDef}
use Rattle.lw_grammar.specs.Named.{IsInterface, IsUnion, StandsBefore, declared_interface, declared_union}
use Rattle.lw_grammar.specs.Subtypes.{IsDirectlyBelow, IsSubtype, HasType, InfersType, IsDeclared}
use Rattle.lw_grammar.specs.Subtypes as below
use Rattle.lw_grammar.specs.Worked.{nowhere, named_interface, t_union, returning_rule, t_twice}
use Rattle.lw_grammar.proofs.Every.{every_of, every_at, differ, first_here, first_later}
use Rattle.lw_grammar.proofs.CallLemmas.{below_itself}

module _ (i u : ℕ) where
  -- the interface stands first
  module _ (sooner : i < u) where
    pub interface_meant : IsInterface (t_twice i u) (codes "T") 1 (named_interface (codes "T") i)
    interface_meant = record {
      first = first_later (differ _ _ refl) (first_here refl);
      sooner = λ other has same. every_of (λ y. StandsBefore (declared_interface (named_interface (codes "T") i)) (declared_union y)) (t_union u ∷ []) other (inr (refl, sooner), tt) has;
    }

    pub no_union_meant : (n : ℕ) (union : UnionDef) → ¬ IsUnion (t_twice i u) (codes "T") n union
    no_union_meant n union is = by (subst (λ y. StandsBefore (declared_union y) (declared_interface (named_interface (codes "T") i))) (sym same) before)
      where
        before : StandsBefore (declared_union union) (declared_interface (named_interface (codes "T") i))
        before = is.sooner (named_interface (codes "T") i) (1, omega arith, refl) refl

        same : t_union u ≡ union
        same = every_at (λ y. t_union u ≡ y) (t_union u ∷ []) n union (refl, tt) is.first.there

        by : StandsBefore (declared_union (t_union u)) (declared_interface (named_interface (codes "T") i)) → ⊥
        by (inl earlier) = omega arith
        by (inr nearer) = omega (arith, nearer.1)

    pub declared : IsDeclared (t_twice i u) (codes "T")
    declared = below.by_interface 1 (named_interface (codes "T") i) interface_meant

    -- what the rule returns is declared, so its action adds nothing
    pub infers_none : (name : List ℕ) → ¬ InfersType (t_twice i u) returning_rule name
    infers_none name is = is.1 (subst (IsDeclared (t_twice i u)) (sym is.0.1) declared)

    nothing_below : (one other : List ℕ) → ¬ IsDirectlyBelow (t_twice i u) one other
    nothing_below one other (below.extends n interface is has) =
        every_at (λ (x : Interface). ¬ Contains (map (λ n. n.0) x.above) other) (t_twice i u).interfaces n interface (none, (none, tt)) is.first.there has
      where
        none : ¬ Contains [] other
        none (k, inside, at) = omega arith
    nothing_below one other (below.is_member n union s is has) =
        let same : codes "T" ≡ other =
        ap (λ (y : UnionDef). y.name) (every_at (λ y. t_union u ≡ y) (t_union u ∷ []) n union (refl, tt) is.first.there) ∙ is.first.does in
        no_union_meant n union (subst (λ name. IsUnion (t_twice i u) name n union) (sym same) is)
    nothing_below one other (below.acts rule all a in_rules infers has there) =
        infers_none other (subst (λ (x : Rule). InfersType (t_twice i u) x other) (sym (every_of (λ x. returning_rule ≡ x) (returning_rule ∷ []) rule (refl, tt) in_rules)) infers)
    nothing_below one other (below.calls rule all name s r called in_rules infers has there is typed) =
        infers_none other (subst (λ (x : Rule). InfersType (t_twice i u) x other) (sym (every_of (λ x. returning_rule ≡ x) (returning_rule ∷ []) rule (refl, tt) in_rules)) infers)

    pub a_not_below_t : ¬ IsSubtype (t_twice i u) (codes "A") (codes "T")
    a_not_below_t is = differ (codes "A") (codes "T") refl (below_itself (t_twice i u) (codes "A") (codes "T") (nothing_below (codes "A")) is)

  -- the union stands first
  module _ (sooner : u < i) where
    pub union_meant : IsUnion (t_twice i u) (codes "T") 0 (t_union u)
    union_meant = record {
      first = first_here refl;
      sooner = λ other has same.
          every_of Behind (t_twice i u).interfaces other (λ same. absurd (differ (codes "A") (codes "T") refl same), (λ same. inr (refl, sooner), tt)) has same;
    }
      where
        Behind : Interface → Type 0
        Behind y = y.name ≡ codes "T" → StandsBefore (declared_union (t_union u)) (declared_interface y)

    pub no_interface_meant : (n : ℕ) (interface : Interface) → ¬ IsInterface (t_twice i u) (codes "T") n interface
    no_interface_meant n interface is =
        every_at (λ (y : Interface). y.name ≡ codes "T" → ¬ StandsBefore (declared_interface y) (declared_union (t_union u))) (t_twice i u).interfaces n interface
        (λ same. absurd (differ (codes "A") (codes "T") refl same), (λ same. by, tt)) is.first.there is.first.does
        (is.sooner (t_union u) (0, omega arith, refl) refl)
      where
        by : StandsBefore (declared_interface (named_interface (codes "T") i)) (declared_union (t_union u)) → ⊥
        by (inl earlier) = omega arith
        by (inr nearer) = omega (arith, nearer.1)

    pub a_below_t : IsSubtype (t_twice i u) (codes "A") (codes "T")
    a_below_t = below.up (below.is_member 0 (t_union u) nowhere union_meant (0, omega arith, refl)) below.same

  pub returns_t : HasType (t_twice i u) returning_rule (codes "T")
  returns_t = (refl, refl)
