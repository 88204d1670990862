-- Names that stand at places of their own, and names that all stand at one.
use Rattle.std.proofs.Common.{ℕ, ◌≡◌, Some, Contains, codes, refl, sym, ap, ◌∙◌, arith}
use Rattle.lw_base.specs.declared.token.Span.{Span}
use Rattle.lw_reading.specs.Within.{value_place}
use Rattle.lw_link_rules.specs.Worked.{twins}
use Rattle.lw_scoping.specs.Worked.{doubled, somewhere}
use Rattle.lw_tree.specs.declared.node.Value.{Value}
use Rattle.lw_tree.specs.declared.node.Value.TheVariants.{Text}
use Rattle.lw_tree.specs.Parts.{values_at}
use Rattle.lw_link_rules.specs.Apart.{StandApart}
use Rattle.lw_link_rules.proofs.Rising.{Rises, one_item}
use Rattle.lw_link_rules.proofs.Tabled.{Entry, entry_at, start_in, start_of_entry}

letters_rise : Rises start_of_entry 0 23 twins.values
letters_rise = (omega arith, (omega arith, (omega arith, omega arith)))

pub twins_apart : StandApart twins
twins_apart = record { values = apart; refs = λ i j d below inside. absurd (omega (arith, inside)) }
  where
    apart : (n p m q : ℕ) (v w : Value) (s r : Span) → Contains (values_at n p twins.values) v → Contains (values_at m q twins.values) w →
        value_place v ≡ Some s → value_place w ≡ Some r → s.start ≡ r.start → (n ≡ m) × (p ≡ q) × (v ≡ w)
    apart n p m q v w s r has also place stands start =
        let e : Entry = (record { 0 = n }, record { 0 = p }, v) in
        let f : Entry = (record { 0 = m }, record { 0 = q }, w) in
        let same : e ≡ f =
        one_item start_of_entry 0 23 twins.values e f letters_rise (entry_at n p twins.values v has) (entry_at m q twins.values w also)
        (ap start_in place ∙ start ∙ sym (ap start_in stands)) in
        (ap (λ (y : Entry). y.0.0) same, ap (λ (y : Entry). y.1.0) same, ap (λ (y : Entry). y.2) same)

pub doubled_together : ¬ StandApart doubled
doubled_together apart =
    let x : Value = Text (codes "x") somewhere in
    let same : 1 ≡ 2 = (apart.values 1 0 2 0 x x somewhere somewhere (0, omega arith, refl) (0, omega arith, refl) refl refl refl).0 in
    omega (arith, same)
