-- A search through the unions that members name, each looked into once: it finds out whether one of the members takes a value.
use Rattle.std.proofs.Common.{◌≡◌, ℕ, List, [], ◌∷◌, ◌++◌, Contains, Some, slice_get, ◌⊎◌, inl, inr, refl, sym, ap, ◌∙◌, subst, arith}
use Rattle.std.proofs.lemmas.List.Elements.{Contains-append_left, Contains-append_right, Contains-append_cases, Contains-push, Contains-push_cases}
use Rattle.std.proofs.lemmas.Option.{same_Some}
use Rattle.lw_grammar.specs.declared.grammar.Grammar.{Grammar}
use Rattle.lw_grammar.specs.declared.terminal.Primitive.TheVariants.{Text}
use Rattle.lw_grammar.specs.declared.declared_types.UnionDef.{UnionDef}
use Rattle.lw_grammar.specs.declared.declared_types.Member.{Member}
use Rattle.lw_grammar.specs.declared.declared_types.Member.TheVariants as member
use Rattle.lw_grammar.proofs.FirstLemmas.{first_place}
use Rattle.lw_faults.specs.Attributes.{Kind, Plain, TextsOf, NodesOf, ReferencesTo, TakesKind}
use Rattle.lw_faults.specs.Attributes as takes
use Rattle.lw_properties.specs.Kinds.{TakesDirectly, NamesUnion, SomeTakes}

module _ (g : Grammar) where
  direct_takes : (m : Member) (kind : Kind) → TakesDirectly g m kind → TakesKind g m kind
  direct_takes (member.Plain p) (Plain q) is = subst (λ x. TakesKind g (member.Plain p) (Plain x)) is takes.plain
  direct_takes (member.Plain p) (TextsOf t) is = subst (λ x. TakesKind g (member.Plain x) (TextsOf t)) (sym is) takes.plain_text
  direct_takes (member.Literal text) (Plain q) is = subst (λ x. TakesKind g (member.Literal text) (Plain x)) (sym is) takes.literal
  direct_takes (member.Literal text) (TextsOf t) is = takes.literal_text
  direct_takes (member.Named name s) (NodesOf t) is = takes.node is
  direct_takes (member.Named name s) (TextsOf t) is = takes.text is takes.of_rule
  direct_takes (member.Named name s) (Plain q) is = subst (λ x. TakesKind g (member.Named name s) (Plain x)) (sym is.0) (takes.text is.1 takes.string)
  direct_takes (member.Refers name s) (ReferencesTo wanted) is = takes.reference is
  direct_takes _ _ is = absurd is

  -- ---- the union that a member names
  union_takes : (m : Member) (u : ℕ) (union : UnionDef) → NamesUnion g m u union → (x : Member) (kind : Kind) → Contains union.members x → TakesKind g x kind → TakesKind g m kind
  union_takes (member.Named name s) u union meant x kind inside does = takes.union u union x meant inside does
  union_takes _ u union meant x kind inside does = absurd meant

  pub one_union : (m : Member) (u v : ℕ) (union other : UnionDef) → NamesUnion g m u union → NamesUnion g m v other → u ≡ v
  one_union (member.Named name s) u v union other meant was = first_place meant.first was.first
  one_union _ u v union other meant was = absurd meant

  pub union_there : (m : Member) (u : ℕ) (union : UnionDef) → NamesUnion g m u union → slice_get g.unions u ≡ Some union
  union_there (member.Named name s) u union meant = meant.first.there
  union_there _ u union meant = absurd meant

  module _ (members : List Member) (kind : Kind) where
    -- it was put in at the start or with a union
    abbrev Among : List ℕ → Member → Type 0
    Among seen m = Contains members m ⊎ ((u : ℕ) × (union : UnionDef) × Contains seen u × (slice_get g.unions u ≡ Some union) × Contains union.members m)

    -- it does not take the value by itself, and its union was seen
    pub record Passed (seen : List ℕ) (m : Member) : Type 0 where
      pub not_direct : ¬ TakesDirectly g m kind
      pub known : (u : ℕ) (union : UnionDef) → NamesUnion g m u union → Contains seen u

    pub record IsLooking (waiting : List Member) (seen : List ℕ) : Type 0 where
      sound : (m : Member) → Contains waiting m → TakesKind g m kind → SomeTakes g members kind
      each : (m : Member) → Among seen m → Contains waiting m ⊎ Passed seen m

    passed_on : (seen : List ℕ) (u : ℕ) (m : Member) → Passed seen m → Passed (seen ++ u ∷ []) m
    passed_on seen u m is = record { not_direct = is.not_direct; known = λ v union meant. Contains-append_left seen (u ∷ []) v (is.known v union meant) }

    -- the same search, where its lists are given otherwise
    pub looking_as : {waiting then_waiting : List Member} {seen then_seen : List ℕ} → waiting ≡ then_waiting → seen ≡ then_seen → IsLooking waiting seen →
        IsLooking then_waiting then_seen
    looking_as {waiting} {then_waiting} {seen} {then_seen} items keys is = subst (IsLooking then_waiting) keys (subst (λ ms. IsLooking ms seen) items is)

    pub looking_begins : IsLooking members []
    looking_begins = record {
      sound = λ m has does. (m, has, does);
      each = λ m among. elim among [
        | inl has ↦ inl has
        | inr in_union ↦ absurd (omega (arith, in_union.2.1))
      ];
    }

    pub looking_finds : (waiting : List Member) (seen : List ℕ) (m : Member) → IsLooking (waiting ++ m ∷ []) seen → TakesDirectly g m kind → SomeTakes g members kind
    looking_finds waiting seen m is does = is.sound m (Contains-push waiting m) (direct_takes m kind does)

    pub looking_passes : (waiting : List Member) (seen : List ℕ) (m : Member) → IsLooking (waiting ++ m ∷ []) seen → Passed seen m → IsLooking waiting seen
    looking_passes waiting seen m is passed = record {
      sound = λ x has does. is.sound x (Contains-append_left waiting (m ∷ []) x has) does;
      each = λ x among. elim (is.each x among) [
        | inr done ↦ inr done
        | inl has ↦ elim (Contains-push_cases waiting m x has) [
          | inl waits ↦ inl waits
          | inr this ↦ inr (subst (Passed seen) this passed)
        ]
      ];
    }

    pub looking_enters : (waiting : List Member) (seen : List ℕ) (m : Member) (u : ℕ) (union : UnionDef) → IsLooking (waiting ++ m ∷ []) seen → ¬ TakesDirectly g m kind →
        NamesUnion g m u union → IsLooking (waiting ++ union.members) (seen ++ u ∷ [])
    looking_enters waiting seen m u union is not_direct meant = record {
      sound = λ x has does. elim (Contains-append_cases waiting union.members x has) [
        | inl waits ↦ is.sound x (Contains-append_left waiting (m ∷ []) x waits) does
        | inr inside ↦ is.sound m (Contains-push waiting m) (union_takes m u union meant x kind inside does)
      ];
      each = λ x among. elim among [
        | inl has ↦ known x (is.each x (inl has))
        | inr in_union ↦ elim (Contains-push_cases seen u in_union.0 in_union.2) [
          | inl was ↦ known x (is.each x (inr (in_union.0, in_union.1, was, in_union.3, in_union.4)))
          | inr this ↦
              let same : in_union.1 ≡ union = same_Some in_union.1 union (sym in_union.3 ∙ ap (slice_get g.unions) (sym this) ∙ union_there m u union meant) in
              inl (Contains-append_right waiting union.members x (subst (λ (y : UnionDef). Contains y.members x) same in_union.4))
        ]
      ];
    }
      where
        this_passed : Passed (seen ++ u ∷ []) m
        this_passed = record {
          not_direct = not_direct;
          known = λ v other was. subst (Contains (seen ++ u ∷ [])) (one_union m u v union other meant was) (Contains-push seen u);
        }

        known : (x : Member) → Contains (waiting ++ m ∷ []) x ⊎ Passed seen x → Contains (waiting ++ union.members) x ⊎ Passed (seen ++ u ∷ []) x
        known x (inr done) = inr (passed_on seen u x done)
        known x (inl has) = elim (Contains-push_cases waiting m x has) [
          | inl waits ↦ inl (Contains-append_left waiting union.members x waits)
          | inr this ↦ inr (subst (Passed (seen ++ u ∷ [])) this this_passed)
        ]

    -- ---- at the end nothing takes it
    module _ (seen : List ℕ) (is : IsLooking [] seen) where
      passed : (m : Member) → Among seen m → Passed seen m
      passed m among = elim (is.each m among) [
        | inl has ↦ absurd (omega (arith, has.1))
        | inr done ↦ done
      ]

      refuses : (m : Member) → Among seen m → {k : Kind} → k ≡ kind → ¬ TakesDirectly g m k
      refuses m among same does = (passed m among).not_direct (subst (TakesDirectly g m) same does)

      none_takes : {m : Member} {k : Kind} → k ≡ kind → TakesKind g m k → ¬ Among seen m
      none_takes same (takes.plain {p}) among = refuses (member.Plain p) among same refl
      none_takes same takes.plain_text among = refuses (member.Plain Text) among same refl
      none_takes same (takes.literal {text}) among = refuses (member.Literal text) among same refl
      none_takes same (takes.literal_text {text}) among = refuses (member.Literal text) among same tt
      none_takes same (takes.node {name} {s} below) among = refuses (member.Named name s) among same below
      none_takes same (takes.text {name} {s} of_texts takes.string) among = refuses (member.Named name s) among same (refl, of_texts)
      none_takes same (takes.text {name} {s} of_texts takes.of_rule) among = refuses (member.Named name s) among same of_texts
      none_takes same (takes.reference {name} {s} below) among = refuses (member.Refers name s) among same below
      none_takes same (takes.union {name} {s} u union m meant inside does) among =
          none_takes same does (inr (u, union, (passed (member.Named name s) among).known u union meant, meant.first.there, inside))

      pub looking_ends : ¬ SomeTakes g members kind
      looking_ends (m, has, does) = none_takes refl does (inl has)
