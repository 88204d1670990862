-- Types that extend themselves or have themselves as members, and those beside them that do not.
use Rattle.std.proofs.Common.{◌≡◌, ℕ, zero, suc, List, [], ◌∷◌, map, Some, codes, slice_get, Contains, inl, inr, refl, sym, ap, ◌∙◌, subst, arith}
use Rattle.std.proofs.lemmas.Option.{none-some, same_Some}
use Rattle.lw_base.specs.declared.token.Span.{Span}
use Rattle.lw_grammar.specs.declared.grammar.Grammar.{Grammar}
use Rattle.lw_grammar.specs.declared.declared_types.Interface.{Interface}
use Rattle.lw_grammar.specs.declared.declared_types.UnionDef.{UnionDef}
use Rattle.lw_grammar.specs.declared.declared_types.Member.{Member}
use Rattle.lw_grammar.specs.declared.declared_types.Member.TheVariants.{Named, Refers, Literal}
use Rattle.lw_grammar.specs.Named.{IsInterface, IsUnion, declared_interface, declared_union}
use Rattle.lw_grammar.specs.Written.{HasDeclaration, InfersHere, IsKnownType}
use Rattle.lw_grammar.specs.Written as written
use Rattle.lw_faults.specs.Circles.{ExtendsType, HasMemberType, CircularType}
use Rattle.lw_faults.specs.Circles as circle
use Rattle.lw_faults.specs.Worked.{StandsAlone, StandsNowhere, place, no_place, types_alone, extends, a_extending, b_extending, union_of}
use Rattle.lw_faults.proofs.AloneLemmas.{none_there}
use Rattle.lw_grammar.proofs.Every.{every_of, every_at, differ, first_here, first_later, meant, not_meant}

-- no type is inferred where no rule is
infers_none : (interfaces : List Interface) (unions : List UnionDef) (file : ℕ) (s : Span) (name : List ℕ) → ¬ InfersHere (types_alone interfaces unions) file s name
infers_none interfaces unions file s name (written.own rule has _ _) = none_there rule has
infers_none interfaces unions file s name (written.infers rule has _ _) = none_there rule has
infers_none interfaces unions file s name (written.acted rule a has _ _) = none_there rule has

-- ---- an interface A alone, which extends one type

module _ (top : List ℕ) (unions : List UnionDef) where
  abbrev A : Interface
  A = a_extending (extends top)

  abbrev G : Grammar
  G = types_alone (A ∷ []) unions

  only_a : (i : ℕ) (interface : Interface) → slice_get G.interfaces i ≡ Some interface → A ≡ interface
  only_a zero interface at = same_Some A interface at
  only_a (suc i) interface at = absurd (none-some interface at)

  a_has : (interface : Interface) → Contains G.interfaces interface → A ≡ interface
  a_has interface has = every_of (λ x. A ≡ x) (A ∷ []) interface (refl, tt) has

  its_place : (interface : Interface) → A ≡ interface →
      (interface.file ≡ 0) × (interface.span ≡ place 20 21) × (interface.name ≡ codes "A")
  its_place interface is = (sym (ap (λ (x : Interface). x.file) is), sym (ap (λ (x : Interface). x.span) is), sym (ap (λ (x : Interface). x.name) is))

pub itself : StandsAlone (CircularType (types_alone (a_extending (extends (codes "A")) ∷ []) [])) 0 (place 20 21) (codes "A")
itself = (circle.interface 0 (A (codes "A") []) a_named (circle.directly 0 (A (codes "A") []) a_named (0, omega arith, refl)), others)
  where
    a_named : IsInterface (G (codes "A") []) (codes "A") 0 (A (codes "A") [])
    a_named = meant declared_interface declared_union (codes "A") (G (codes "A") []).interfaces [] 0 (A (codes "A") []) (first_here refl) tt

    others : (f : ℕ) (t : Span) (n : List ℕ) → CircularType (G (codes "A") []) f t n → (f ≡ 0) × (t ≡ place 20 21) × (n ≡ codes "A")
    others f t n (circle.interface i interface is _) = its_place (codes "A") [] interface (only_a (codes "A") [] i interface is.first.there)
    others f t n (circle.union u union is _) = absurd (none-some union is.first.there)
    others f t n (circle.no_interface interface above has _ _ _) = its_place (codes "A") [] interface (a_has (codes "A") [] interface has)

-- ---- over two interfaces

module _ (above : List (List ℕ × Span)) where
  abbrev First : Interface
  First = a_extending (extends (codes "B"))

  abbrev Second : Interface
  Second = b_extending above

  abbrev Two : Grammar
  Two = types_alone (First ∷ Second ∷ []) []

  first_named : IsInterface Two (codes "A") 0 First
  first_named = meant declared_interface declared_union (codes "A") Two.interfaces [] 0 First (first_here refl) tt

  second_named : IsInterface Two (codes "B") 1 Second
  second_named = meant declared_interface declared_union (codes "B") Two.interfaces [] 1 Second (first_later (differ _ _ refl) (first_here refl)) tt

  first_extends : ExtendsType Two (codes "A") (codes "B")
  first_extends = circle.directly 0 First first_named (0, omega arith, refl)

abbrev b_above : List (List ℕ × Span)
b_above = extends (codes "A")

second_extends : ExtendsType (Two b_above) (codes "B") (codes "A")
second_extends = circle.directly 1 (Second b_above) (second_named b_above) (0, omega arith, refl)

pub first_of_two : CircularType (Two b_above) 0 (place 20 21) (codes "A")
first_of_two = circle.interface 0 (First b_above) (first_named b_above) (circle.over (first_extends b_above) second_extends)

pub second_of_two : CircularType (Two b_above) 0 (place 45 46) (codes "B")
second_of_two = circle.interface 1 (Second b_above) (second_named b_above) (circle.over second_extends (first_extends b_above))

-- where B extends nothing, A extends B and nothing else is extended
abbrev ExtendsB : Interface → Type 0
ExtendsB interface = (top : List ℕ) → Contains (map (λ n. n.0) interface.above) top → (interface.name ≡ codes "A") × (codes "B" ≡ top)

first_extends_b : ExtendsB (First [])
first_extends_b top has = (refl, every_of (λ x. codes "B" ≡ x) (codes "B" ∷ []) top (refl, tt) has)

second_extends_none : ExtendsB (Second [])
second_extends_none top has = absurd (none_there top has)

extends_b : {one other : List ℕ} → ExtendsType (Two []) one other → (codes "A" ≡ one) × (codes "B" ≡ other)
extends_b {other} (circle.directly i interface is has) =
    let found = every_at ExtendsB (Two []).interfaces i interface (first_extends_b, (second_extends_none, tt)) is.first.there other has in
    (sym found.0 ∙ is.first.does, found.1)
extends_b (circle.over first second) = ((extends_b first).0, (extends_b second).1)

pub other : StandsNowhere (CircularType (Two []))
other f t n (circle.interface i interface is itself) = let both = extends_b itself in differ (codes "A") (codes "B") refl (both.0 ∙ sym both.1)
other f t n (circle.union u union is _) = none-some union is.first.there
other f t n (circle.no_interface interface top has there _ none) =
    let found = every_of ExtendsB (Two []).interfaces interface (first_extends_b, (second_extends_none, tt)) has top there in
    none 1 (Second []) (subst (λ name. IsInterface (Two []) name 1 (Second [])) found.1 (second_named []))

-- ---- a union alone

module _ (member : Member) where
  abbrev U : UnionDef
  U = union_of member

  abbrev W : Grammar
  W = types_alone [] (U ∷ [])

  only_u : (u : ℕ) (union : UnionDef) → slice_get W.unions u ≡ Some union → U ≡ union
  only_u zero union at = same_Some U union at
  only_u (suc u) union at = absurd (none-some union at)

  u_named : IsUnion W (codes "U") 0 U
  u_named = meant declared_union declared_interface (codes "U") W.unions [] 0 U (first_here refl) tt

abbrev u_itself : Member
u_itself = Named (codes "U") no_place

pub union_itself : StandsAlone (CircularType (W u_itself)) 0 (place 15 16) (codes "U")
union_itself = (circle.union 0 (U u_itself) (u_named u_itself) (circle.directly 0 (U u_itself) no_place (u_named u_itself) (0, omega arith, refl)), others)
  where
    others : (f : ℕ) (t : Span) (n : List ℕ) → CircularType (W u_itself) f t n → (f ≡ 0) × (t ≡ place 15 16) × (n ≡ codes "U")
    others f t n (circle.interface i interface is _) = absurd (none-some interface is.first.there)
    others f t n (circle.union u union is _) =
        let same = only_u u_itself u union is.first.there in
        (sym (ap (λ (x : UnionDef). x.file) same), sym (ap (λ (x : UnionDef). x.span) same), sym (ap (λ (x : UnionDef). x.name) same))
    others f t n (circle.no_interface interface above has _ _ _) = absurd (none_there interface has)

-- where the member of the union is not the union itself, it is not one over any number of steps
abbrev NamesOther : Member → Type 0
NamesOther member = (s : Span) → member ≡ Named (codes "U") s → ⊥

module _ (interfaces : List Interface) (member : Member) (other : NamesOther member) where
  no_circle : {one top : List ℕ} → HasMemberType (types_alone interfaces (union_of member ∷ [])) one top → codes "U" ≡ top → ⊥
  no_circle {top} (circle.directly u union s is has) same =
      other s
      (every_of (λ x. member ≡ x) (member ∷ []) (Named (codes "U") s) (refl, tt)
      (subst (λ n. Contains (union_of member).members (Named n s)) (sym same)
      (subst (λ (x : UnionDef). Contains x.members (Named top s)) (sym (only_u member u union is.first.there)) has)))
  no_circle (circle.over _ second) same = no_circle second same

  no_circular_union : (u : ℕ) (union : UnionDef) → IsUnion (types_alone interfaces (union_of member ∷ [])) union.name u union →
      ¬ HasMemberType (types_alone interfaces (union_of member ∷ [])) union.name union.name
  no_circular_union u union is has = no_circle has (ap (λ (x : UnionDef). x.name) (only_u member u union is.first.there))

abbrev u_reference : Member
u_reference = Refers (codes "U") no_place

reference_apart : NamesOther u_reference
reference_apart s is = cc

pub references : StandsNowhere (CircularType (W u_reference))
references f t n (circle.interface i interface is _) = none-some interface is.first.there
references f t n (circle.union u union is has) = no_circular_union [] u_reference reference_apart u union is has
references f t n (circle.no_interface interface above has _ _ _) = none_there interface has

-- ---- an interface that extends a union, of a text or of the interface itself

module _ (member : Member) where
  abbrev Mixed : Grammar
  Mixed = G (codes "U") (union_of member ∷ [])

  a_alone : NamesOther member → StandsAlone (CircularType Mixed) 0 (place 20 21) (codes "A")
  a_alone apart = (circle.no_interface (A (codes "U") []) (codes "U") (0, omega arith, refl) (0, omega arith, refl) known none, others)
    where
      known : IsKnownType Mixed (codes "U")
      known = inl (inr (0, union_of member, omega arith, refl, refl))

      none : (i : ℕ) (interface : Interface) → ¬ IsInterface Mixed (codes "U") i interface
      none i interface = not_meant declared_interface declared_union (codes "U") Mixed.interfaces Mixed.unions i interface (differ _ _ refl, tt)

      others : (f : ℕ) (t : Span) (n : List ℕ) → CircularType Mixed f t n → (f ≡ 0) × (t ≡ place 20 21) × (n ≡ codes "A")
      others f t n (circle.interface i interface is _) = its_place (codes "U") [] interface (only_a (codes "U") (union_of member ∷ []) i interface is.first.there)
      others f t n (circle.union u union is has) = absurd (no_circular_union (A (codes "U") [] ∷ []) member apart u union is has)
      others f t n (circle.no_interface interface above has _ _ _) = its_place (codes "U") [] interface (a_has (codes "U") (union_of member ∷ []) interface has)

pub no_interface : StandsAlone (CircularType (Mixed (Literal (codes "a")))) 0 (place 20 21) (codes "A")
no_interface = a_alone (Literal (codes "a")) apart
  where
    apart : NamesOther (Literal (codes "a"))
    apart s is = cc

pub member_extends : StandsAlone (CircularType (Mixed (Named (codes "A") no_place))) 0 (place 20 21) (codes "A")
member_extends = a_alone (Named (codes "A") no_place) (λ s is. differ (codes "A") (codes "U") refl (named s is))
  where
    named : (s : Span) → Named (codes "A") no_place ≡ Named (codes "U") s → codes "A" ≡ codes "U"
    named s is = cc

-- ---- an interface that extends an unknown type

abbrev Z : Grammar
Z = G (codes "Z") []

extends_z : {one other : List ℕ} → ExtendsType Z one other → (codes "A" ≡ one) × (codes "Z" ≡ other)
extends_z {other = under} (circle.directly i interface is has) =
    let same = only_a (codes "Z") [] i interface is.first.there in (
      ap (λ (x : Interface). x.name) same ∙ is.first.does,
      every_of (λ x. codes "Z" ≡ x) (codes "Z" ∷ []) under (refl, tt) (subst (λ (x : Interface). Contains (map (λ n. n.0) x.above) under) (sym same) has),
    )
extends_z (circle.over first second) = ((extends_z first).0, (extends_z second).1)

z_unknown : ¬ IsKnownType Z (codes "Z")
z_unknown (inl (inl (k, interface, inside, at, named))) = every_of (λ (x : Interface). x.name ≡ codes "Z" → ⊥) Z.interfaces interface (differ _ _ refl, tt) (k, inside, at) named
z_unknown (inl (inr (k, union, inside, at, named))) = omega (arith, inside)
z_unknown (inr (file, s, is)) = infers_none (A (codes "Z") [] ∷ []) [] file s (codes "Z") is

pub unknown : StandsNowhere (CircularType Z)
unknown f t n (circle.interface i interface is itself) = let both = extends_z itself in differ (codes "A") (codes "Z") refl (both.0 ∙ sym both.1)
unknown f t n (circle.union u union is _) = none-some union is.first.there
unknown f t n (circle.no_interface interface top has there known _) =
    let same = a_has (codes "Z") [] interface has in
    let is : codes "Z" ≡ top =
    every_of (λ x. codes "Z" ≡ x) (codes "Z" ∷ []) top (refl, tt) (subst (λ (x : Interface). Contains (map (λ n. n.0) x.above) top) (sym same) there) in
    z_unknown (subst (IsKnownType Z) (sym is) known)
