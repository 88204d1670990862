-- What a name means, by how it stands in both lists of its space.
use Rattle.std.proofs.Common.{◌≡◌, ℕ, ◌+◌, refl, List, ◌<◌, length, get_or, Option, Some, None, MatchOption, Contains, bytes_eq, inl, inr, sym, ap, ◌∙◌, subst, arith}
use Rattle.std.specs.Map.{lookup}
use Rattle.std.proofs.lemmas.Bool.{cases_order}
use Rattle.std.proofs.lemmas.Option.{slice_get_within, get_or_from_slice_get}
use Rattle.lw_grammar.specs.declared.grammar.Grammar.{Grammar}
use Rattle.lw_grammar.specs.declared.declared_types.Interface.{Interface}
use Rattle.lw_grammar.specs.declared.declared_types.UnionDef.{UnionDef}
use Rattle.lw_grammar.specs.Named.{Declaration, IsMeant, IsInterface, IsUnion, declared_rule, declared_terminal, declared_interface, declared_union}
use Rattle.lw_grammar.proofs.FirstLemmas.{first_item}
use Rattle.lw_numbers.specs.declared.standing.Place.{Place}
use Rattle.lw_numbers.specs.declared.standing.Standing.{Standing}
use Rattle.lw_numbers.specs.Numbering.{IsNumbered}
use Rattle.lw_numbers.specs.Numbering as numbered
use Rattle.lw_numbers.specs.Standing.{IsAhead, IsBefore, declared_place, StandsAs}
use Rattle.lw_numbers.specs.Tables.{Tables, AreNumbersOf}

-- what stands before the earliest stands before each that is no earlier
before_all : (a earliest other : Place) → IsBefore a earliest → ¬ IsBefore other earliest → IsBefore a other
before_all a earliest other (inl lt) none = elim (cases_order other.file earliest.file) [
  | inl same ↦ inl (omega (arith, lt, same))
  | inr (inl sooner) ↦ absurd (none (inl sooner))
  | inr (inr later) ↦ inl (omega (arith, lt, later))
]
before_all a earliest other (inr (file, lt)) none = elim (cases_order other.file earliest.file) [
  | inl same ↦ elim (cases_order other.start earliest.start) [
    | inl here ↦ inr (file ∙ sym same, omega (arith, lt, here))
    | inr (inl sooner) ↦ absurd (none (inr (same, sooner)))
    | inr (inr later) ↦ inr (file ∙ sym same, omega (arith, lt, later))
  ]
  | inr (inl sooner) ↦ absurd (none (inl sooner))
  | inr (inr later) ↦ inl (omega (arith, file, later))
]

module _ {X Y : Type 0} (declared_by : X → Declaration) (other_by : Y → Declaration) (name : List ℕ) (xs : List X) (others : List Y) (i : ℕ) (x : X)
    (meant : IsMeant declared_by other_by name xs others i x) where
  pub meant_inside : i < length xs
  meant_inside = slice_get_within xs i x meant.first.there

  -- what is read at its place is what is meant
  pub meant_read : (y : X) → y ≡ get_or xs i y → IsMeant declared_by other_by name xs others i y
  meant_read y read =
      subst (IsMeant declared_by other_by name xs others i) (sym (get_or_from_slice_get xs i x y meant.first.there) ∙ sym read) meant

module _ {X Y : Type 0} (declared_by : X → Declaration) (other_by : Y → Declaration) (name : List ℕ) (first second : ℕ) (xs : List X) (others : List Y) where
  abbrev Meant : ℕ → X → Type 0
  Meant i x = IsMeant declared_by other_by name xs others i x

  abbrev NoneHere : Type 0
  NoneHere = (x : X) → Contains xs x → ¬ ((declared_by x).name ≡ name)

  abbrev NoneThere : Type 0
  NoneThere = (y : Y) → Contains others y → ¬ ((other_by y).name ≡ name)

  -- it is meant where it stands before all of the other list
  pub meant_before : (s t : Standing) (one : StandsAs declared_by first xs name s) → StandsAs other_by second others name t → IsBefore s.place t.earliest →
      Meant one.at one.item
  meant_before s t one two before = record {
    first = one.is_first;
    sooner = λ other has named.
        before_all (declared_place (declared_by one.item)) t.earliest (declared_place (other_by other)) (subst (λ p. IsBefore p t.earliest) one.place before)
        (two.none_sooner other has named);
  }

  -- and where the other list has none of the name
  pub meant_alone : (s : Standing) (one : StandsAs declared_by first xs name s) → NoneThere → Meant one.at one.item
  meant_alone s one none = record { first = one.is_first; sooner = λ other has named. absurd (none other has named) }

  -- what is meant stands before all of the other list
  pub before_where_meant : (s t : Standing) → StandsAs declared_by first xs name s → StandsAs other_by second others name t → (i : ℕ) (x : X) → Meant i x → IsBefore s.place t.earliest
  before_where_meant s t one two i x meant =
      let same = ap (λ y. declared_place (declared_by y)) (first_item meant.first one.is_first) ∙ sym one.place in
      let before : IsBefore (declared_place (declared_by x)) (declared_place (other_by two.soonest)) = meant.sooner two.soonest two.among two.named in
      subst (IsBefore s.place) (sym two.earliest) (subst (λ p. IsBefore p (declared_place (other_by two.soonest))) same before)

  -- what is meant is in the list
  pub not_meant : NoneHere → (i : ℕ) (x : X) → Meant i x → ⊥
  not_meant none i x meant =
      none x (i, slice_get_within xs i x meant.first.there, get_or_from_slice_get xs i x x meant.first.there) meant.first.does

  abbrev pub AmongHere : Option Standing → Type 0
  AmongHere found = MatchOption found NoneHere (StandsAs declared_by first xs name)

  abbrev pub AmongThere : Option Standing → Type 0
  AmongThere found = MatchOption found NoneThere (StandsAs other_by second others name)

  -- what is ahead is meant
  pub ahead_is_meant : (one other : Option Standing) → AmongHere one → AmongThere other → (n : ℕ) → IsAhead one other n →
      (at : ℕ) × (item : X) × (n ≡ first + at) × Meant at item
  ahead_is_meant None other none there n ahead = absurd ahead
  ahead_is_meant (Some s) None one none n ahead = (one.at, one.item, sym ahead ∙ one.number, meant_alone s one none)
  ahead_is_meant (Some s) (Some t) one two n ahead = (one.at, one.item, sym ahead.1 ∙ one.number, meant_before s t one two ahead.0)

  -- and where it is not ahead, it is not meant
  pub not_ahead : (one other : Option Standing) → AmongHere one → AmongThere other → ((n : ℕ) → ¬ IsAhead one other n) → (i : ℕ) (x : X) → ¬ Meant i x
  not_ahead None other none there not i x meant = not_meant none i x meant
  not_ahead (Some s) None one none not i x meant = not s.number refl
  not_ahead (Some s) (Some t) one two not i x meant = not s.number (before_where_meant s t one two i x meant, refl)

module _ (g : Grammar) (name : List ℕ) (tables : Tables) (are : AreNumbersOf g tables) where
  abbrev pub at_name : List (List ℕ × Standing) → Option Standing
  at_name entries = lookup (bytes_eq name) entries

  module _ {r t : Option Standing} (is_r : r ≡ at_name tables.rules) (is_t : t ≡ at_name tables.terminals) where
    rules_here : AmongHere declared_rule declared_terminal name 0 (length g.rules) g.rules g.terminals r
    rules_here = subst (AmongHere declared_rule declared_terminal name 0 (length g.rules) g.rules g.terminals) (sym is_r) (are.rules name)

    terminals_here : AmongThere declared_rule declared_terminal name 0 (length g.rules) g.rules g.terminals t
    terminals_here = subst (AmongThere declared_rule declared_terminal name 0 (length g.rules) g.rules g.terminals) (sym is_t) (are.terminals name)

    pub rule_ahead : (n : ℕ) → IsAhead r t n → IsNumbered g name n
    rule_ahead n ahead =
        let (at, rule, is, meant) = ahead_is_meant declared_rule declared_terminal name 0 (length g.rules) g.rules g.terminals r t rules_here terminals_here n ahead in
        let same : at ≡ n = omega (arith, is) in subst (IsNumbered g name) same (numbered.rule_ at rule meant)

    pub terminal_ahead : (n : ℕ) → IsAhead t r n → IsNumbered g name n
    terminal_ahead n ahead =
        let (at, terminal, is, meant) = ahead_is_meant declared_terminal declared_rule name (length g.rules) 0 g.terminals g.rules t r terminals_here rules_here n ahead in
        subst (IsNumbered g name) (sym is) (numbered.terminal at terminal meant)

    pub neither_ahead : ((n : ℕ) → ¬ IsAhead r t n) → ((n : ℕ) → ¬ IsAhead t r n) → (n : ℕ) → ¬ IsNumbered g name n
    neither_ahead no_rule no_terminal n (numbered.rule_ _ x meant) =
        not_ahead declared_rule declared_terminal name 0 (length g.rules) g.rules g.terminals r t rules_here terminals_here no_rule n x meant
    neither_ahead no_rule no_terminal _ (numbered.terminal i x meant) =
        not_ahead declared_terminal declared_rule name (length g.rules) 0 g.terminals g.rules t r terminals_here rules_here no_terminal i x meant

  module _ {i u : Option Standing} (is_i : i ≡ at_name tables.interfaces) (is_u : u ≡ at_name tables.unions) where
    interfaces_here : AmongHere declared_interface declared_union name 0 0 g.interfaces g.unions i
    interfaces_here = subst (AmongHere declared_interface declared_union name 0 0 g.interfaces g.unions) (sym is_i) (are.interfaces name)

    unions_here : AmongThere declared_interface declared_union name 0 0 g.interfaces g.unions u
    unions_here = subst (AmongThere declared_interface declared_union name 0 0 g.interfaces g.unions) (sym is_u) (are.unions name)

    interface_ahead : (n : ℕ) → IsAhead i u n → (x : Interface) × IsInterface g name n x
    interface_ahead n ahead =
        let (at, x, is, meant) = ahead_is_meant declared_interface declared_union name 0 0 g.interfaces g.unions i u interfaces_here unions_here n ahead in
        let same : at ≡ n = omega (arith, is) in (x, subst (λ k. IsInterface g name k x) same meant)

    pub interface_inside : (n : ℕ) → IsAhead i u n → n < length g.interfaces
    interface_inside n ahead =
        let (x, meant) = interface_ahead n ahead in meant_inside declared_interface declared_union name g.interfaces g.unions n x meant

    pub interface_read : (n : ℕ) → IsAhead i u n → (y : Interface) → y ≡ get_or g.interfaces n y → IsInterface g name n y
    interface_read n ahead =
        let (x, meant) = interface_ahead n ahead in meant_read declared_interface declared_union name g.interfaces g.unions n x meant

    union_ahead : (n : ℕ) → IsAhead u i n → (x : UnionDef) × IsUnion g name n x
    union_ahead n ahead =
        let (at, x, is, meant) = ahead_is_meant declared_union declared_interface name 0 0 g.unions g.interfaces u i unions_here interfaces_here n ahead in
        let same : at ≡ n = omega (arith, is) in (x, subst (λ k. IsUnion g name k x) same meant)

    pub union_inside : (n : ℕ) → IsAhead u i n → n < length g.unions
    union_inside n ahead =
        let (x, meant) = union_ahead n ahead in meant_inside declared_union declared_interface name g.unions g.interfaces n x meant

    pub union_read : (n : ℕ) → IsAhead u i n → (y : UnionDef) → y ≡ get_or g.unions n y → IsUnion g name n y
    union_read n ahead =
        let (x, meant) = union_ahead n ahead in meant_read declared_union declared_interface name g.unions g.interfaces n x meant

    pub neither_declared : ((n : ℕ) → ¬ IsAhead i u n) → ((n : ℕ) → ¬ IsAhead u i n) →
        ((n : ℕ) (x : Interface) → ¬ IsInterface g name n x) × ((n : ℕ) (x : UnionDef) → ¬ IsUnion g name n x)
    neither_declared no_interface no_union = (
      not_ahead declared_interface declared_union name 0 0 g.interfaces g.unions i u interfaces_here unions_here no_interface,
      not_ahead declared_union declared_interface name 0 0 g.unions g.interfaces u i unions_here interfaces_here no_union,
    )
