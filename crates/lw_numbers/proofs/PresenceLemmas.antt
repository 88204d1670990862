-- Whether a name is declared, and whether before a place, by how it stands among declarations.
use Rattle.std.proofs.Common.{◌≡◌, ◌≢◌, ◌↔◌, IsTrue, MatchBool, true≢false, ℕ, zero, suc, List, [], ◌∷◌, ◌++◌, Bool, true, false, Option, Some, None, MatchOption, IsSomeAnd, is_some, length, map, get_or, Any, All, Contains, bytes_eq, ◌⊎◌, inl, inr, refl, sym, ap, ◌∙◌, subst, arith}
use Rattle.std.specs.Map.{lookup}
use Rattle.std.proofs.lemmas.Bool.{cases_order}
use Rattle.std.proofs.lemmas.List.{length-map, get_or-map}
use Rattle.std.proofs.lemmas.List.Elements.{Contains-get_or, Contains-append_left, Contains-append_right, Contains-append_cases}
use Rattle.lw_grammar.specs.declared.grammar.Grammar.{Grammar}
use Rattle.lw_grammar.specs.Named.{Declaration, declared_rule, declared_terminal, declared_interface, declared_union}
use Rattle.lw_grammar.specs.Written.{rule_space, type_space}
use Rattle.lw_grammar.specs.Written.{IsNoRule}
use Rattle.lw_numbers.specs.declared.standing.Place.{Place}
use Rattle.lw_numbers.specs.declared.standing.Standing.{Standing}
use Rattle.lw_numbers.specs.Presence.{HasRule, IsDeclaredBefore}
use Rattle.lw_numbers.specs.Standing.{IsBefore, declared_place, StandsAs}
use Rattle.lw_numbers.specs.Tables.{Tables, AreNumbersOf}

-- the earliest is before what some other is before
earliest_before : (earliest x place : Place) → ¬ IsBefore x earliest → IsBefore x place → IsBefore earliest place
earliest_before earliest x place none (inl lt) = elim (cases_order earliest.file x.file) [
  | inl same ↦ inl (omega (arith, lt, same))
  | inr (inl sooner) ↦ inl (omega (arith, lt, sooner))
  | inr (inr later) ↦ absurd (none (inl later))
]
earliest_before earliest x place none (inr (file, lt)) = elim (cases_order earliest.file x.file) [
  | inl same ↦ elim (cases_order earliest.start x.start) [
    | inl here ↦ inr (same ∙ file, omega (arith, lt, here))
    | inr (inl sooner) ↦ inr (same ∙ file, omega (arith, lt, sooner))
    | inr (inr later) ↦ absurd (none (inr (sym same, later)))
  ]
  | inr (inl sooner) ↦ inl (omega (arith, file, sooner))
  | inr (inr later) ↦ absurd (none (inl later))
]

-- what is in a list of images, and what is not
module _ {X Y : Type 0} (f : X → Y) where
  map_has : (xs : List X) (x : X) → Contains xs x → Contains (map f xs) (f x)
  map_has xs x (k, inside, is) = (k, omega (arith, length-map xs f, inside), get_or-map f xs k x (f x) inside ∙ ap f is)

  has_map : (xs : List X) (y : Y) → Contains (map f xs) y → (x : X) × Contains xs x × (f x ≡ y)
  has_map [] y (k, inside, is) = absurd (omega (arith, inside))
  has_map (x ∷ xs) y (zero, inside, is) = (x, (0, omega arith, refl), is)
  has_map (x ∷ xs) y (suc k, inside, is) =
      let (z, (j, within, at), same) = has_map xs y (k, omega (arith, inside), is) in (z, (suc j, omega (arith, within), at), same)

-- the answer to one of two questions is the answer to both, where the first says yes
pub first_yes : {E F D : Type 0} {b : Bool} → IsTrue b ↔ E → b ≡ true → (E ⊎ F) ↔ D → IsTrue b ↔ D
first_yes tells is_true both = (λ _. both.0 (inl (tells.0 is_true)), λ _. is_true)

-- and where it says no, the second's
pub first_no : {E F D : Type 0} {b c : Bool} → IsTrue b ↔ E → IsTrue c ↔ F → b ≡ false → (E ⊎ F) ↔ D → IsTrue c ↔ D
first_no tells other is_false both = (
  λ said. both.0 (inr (other.0 said)),
  λ d. elim (both.1 d) [ inl e ↦ absurd (true≢false (sym (tells.1 e) ∙ is_false)) | inr f ↦ other.1 f ],
)

-- of a name that stands so, the earliest declaration is before the place
abbrev pub BeginsBefore : ℕ → ℕ → Option Standing → Type 0
BeginsBefore file start found = IsSomeAnd found (λ s. IsBefore s.earliest (record { file = file; start = start }))

module _ {X : Type 0} (declared_by : X → Declaration) (first : ℕ) (xs : List X) (name : List ℕ) where
  abbrev pub Among : Option Standing → Type 0
  Among found = MatchOption found ((x : X) → Contains xs x → ¬ ((declared_by x).name ≡ name)) (StandsAs declared_by first xs name)

  -- a name stands there where one of these has it
  stands_has : (found : Option Standing) → Among found → IsTrue (is_some found) ↔ Any (λ x. (declared_by x).name ≡ name) xs
  stands_has None none = (λ said. cc, λ (k, x, inside, at, named). absurd (none x (k, inside, at) named))
  stands_has (Some s) stands = (λ said. let (k, inside, at) = stands.among in (k, stands.soonest, inside, at, stands.named), λ any. refl)

  pub key_tells : {b : Bool} (found : Option Standing) → Among found → b ≡ is_some found → IsTrue b ↔ Any (λ x. (declared_by x).name ≡ name) xs
  key_tells found among is = subst (λ b. IsTrue b ↔ Any (λ x. (declared_by x).name ≡ name) xs) (sym is) (stands_has found among)

  none_has : (found : Option Standing) → Among found → is_some found ≡ false → All (λ x. (declared_by x).name ≢ name) xs
  none_has None none is = λ k d inside named. none (get_or xs k d) (Contains-get_or xs k d inside) named
  none_has (Some s) stands is = cc

  pub key_denies : {b : Bool} (found : Option Standing) → Among found → b ≡ is_some found → b ≡ false → All (λ x. (declared_by x).name ≢ name) xs
  key_denies found among is is_false = none_has found among (sym is ∙ is_false)

  module _ (file start : ℕ) where
    abbrev place : Place
    place = record { file = file; start = start }

    earlier_one : (found : Option Standing) → Among found → BeginsBefore file start found →
        (x : X) × Contains xs x × ((declared_by x).name ≡ name) × IsBefore (declared_place (declared_by x)) place
    earlier_one None none earlier = absurd earlier
    earlier_one (Some s) stands earlier = (stands.soonest, stands.among, stands.named, subst (λ p. IsBefore p place) stands.earliest earlier)

    one_earlier : (found : Option Standing) → Among found → (x : X) → Contains xs x → (declared_by x).name ≡ name →
        IsBefore (declared_place (declared_by x)) place → BeginsBefore file start found
    one_earlier None none x has named before = absurd (none x has named)
    one_earlier (Some s) stands x has named before =
        earliest_before s.earliest (declared_place (declared_by x)) place (stands.none_sooner x has named) before

module _ {X Y : Type 0} (declared_by : X → Declaration) (other_by : Y → Declaration) (first second : ℕ) (xs : List X) (ys : List Y) (name : List ℕ)
    (file start : ℕ) (found other : Option Standing) (here : Among declared_by first xs name found) (there : Among other_by second ys name other) where
  abbrev space : List Declaration
  space = map declared_by xs ++ map other_by ys

  -- one of either list begins before the place
  one_begins : (BeginsBefore file start found ⊎ BeginsBefore file start other) → IsDeclaredBefore space name file start
  one_begins (inl earlier) =
      let (x, has, named, before) = earlier_one declared_by first xs name file start found here earlier in
      (declared_by x, Contains-append_left (map declared_by xs) (map other_by ys) (declared_by x) (map_has declared_by xs x has), named, before)
  one_begins (inr earlier) =
      let (y, has, named, before) = earlier_one other_by second ys name file start other there earlier in
      (other_by y, Contains-append_right (map declared_by xs) (map other_by ys) (other_by y) (map_has other_by ys y has), named, before)

  begins_one : IsDeclaredBefore space name file start → BeginsBefore file start found ⊎ BeginsBefore file start other
  begins_one (d, has, named, before) = elim (Contains-append_cases (map declared_by xs) (map other_by ys) d has) [
    | inl mapped ↦
        let (x, it_has, same) = has_map declared_by xs d mapped in
        inl (one_earlier declared_by first xs name file start found here x it_has (ap (λ (z : Declaration). z.name) same ∙ named)
        (subst (λ z. IsBefore (declared_place z) (record { file = file; start = start })) (sym same) before))
    | inr mapped ↦
        let (y, it_has, same) = has_map other_by ys d mapped in
        inr (one_earlier other_by second ys name file start other there y it_has (ap (λ (z : Declaration). z.name) same ∙ named)
        (subst (λ z. IsBefore (declared_place z) (record { file = file; start = start })) (sym same) before))
  ]

  pub either_begins : (BeginsBefore file start found ⊎ BeginsBefore file start other) ↔ IsDeclaredBefore space name file start
  either_begins = (one_begins, begins_one)

module _ (g : Grammar) (name : List ℕ) (tables : Tables) (are : AreNumbersOf g tables) where
  abbrev at_name : List (List ℕ × Standing) → Option Standing
  at_name entries = lookup (bytes_eq name) entries

  pub rules_tell : {b : Bool} → b ≡ is_some (at_name tables.rules) → IsTrue b ↔ Any (λ rule. rule.name ≡ name) g.rules
  rules_tell = key_tells declared_rule 0 g.rules name (at_name tables.rules) (are.rules name)

  pub terminals_tell : {b : Bool} → b ≡ is_some (at_name tables.terminals) → IsTrue b ↔ Any (λ terminal. terminal.name ≡ name) g.terminals
  terminals_tell = key_tells declared_terminal (length g.rules) g.terminals name (at_name tables.terminals) (are.terminals name)

  pub interfaces_tell : {b : Bool} → b ≡ is_some (at_name tables.interfaces) → IsTrue b ↔ Any (λ interface. interface.name ≡ name) g.interfaces
  interfaces_tell = key_tells declared_interface 0 g.interfaces name (at_name tables.interfaces) (are.interfaces name)

  pub unions_tell : {b : Bool} → b ≡ is_some (at_name tables.unions) → IsTrue b ↔ Any (λ union. union.name ≡ name) g.unions
  unions_tell = key_tells declared_union 0 g.unions name (at_name tables.unions) (are.unions name)

  -- both answers to whether a rule or a terminal has the name
  pub called_by_rule : {b : Bool} → b ≡ is_some (at_name tables.rules) → b ≡ true → MatchBool b (HasRule g name) (IsNoRule g name)
  called_by_rule is is_true = subst (λ b. MatchBool b (HasRule g name) (IsNoRule g name)) (sym is_true) (inl ((rules_tell is).0 is_true))

  pub called_by_terminal : {b : Bool} (c : Bool) → b ≡ is_some (at_name tables.rules) → b ≡ false → c ≡ is_some (at_name tables.terminals) →
      MatchBool c (HasRule g name) (IsNoRule g name)
  called_by_terminal true is is_false was = inr ((terminals_tell was).0 refl)
  called_by_terminal false is is_false was = (
    key_denies declared_rule 0 g.rules name (at_name tables.rules) (are.rules name) is is_false,
    key_denies declared_terminal (length g.rules) g.terminals name (at_name tables.terminals) (are.terminals name) was refl,
  )

  pub rules_begin : {r t : Option Standing} (file start : ℕ) → r ≡ at_name tables.rules → t ≡ at_name tables.terminals →
      (BeginsBefore file start r ⊎ BeginsBefore file start t) ↔ IsDeclaredBefore (rule_space g) name file start
  rules_begin {r} {t} file start is was =
      either_begins declared_rule declared_terminal 0 (length g.rules) g.rules g.terminals name file start r t
      (subst (Among declared_rule 0 g.rules name) (sym is) (are.rules name))
      (subst (Among declared_terminal (length g.rules) g.terminals name) (sym was) (are.terminals name))

  pub types_begin : {i u : Option Standing} (file start : ℕ) → i ≡ at_name tables.interfaces → u ≡ at_name tables.unions →
      (BeginsBefore file start i ⊎ BeginsBefore file start u) ↔ IsDeclaredBefore (type_space g) name file start
  types_begin {i} {u} file start is was =
      either_begins declared_interface declared_union 0 0 g.interfaces g.unions name file start i u
      (subst (Among declared_interface 0 g.interfaces name) (sym is) (are.interfaces name))
      (subst (Among declared_union 0 g.unions name) (sym was) (are.unions name))
