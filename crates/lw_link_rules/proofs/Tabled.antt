-- In the tables of what has grown so, values and references that begin at one place are one.
use Rattle.std.proofs.Common.{◌≡◌, ℕ, zero, suc, ◌+◌, ◌<◌, ◌==◌, ◌&&◌, Bool, true, false, List, [], ◌∷◌, ◌++◌, Option, Some, None, AllPairs, Contains, inl, inr, refl, sym, ap, subst, ◌∙◌, arith}
use Rattle.std.specs.Prelude.{if◌then◌else◌}
use Rattle.std.proofs.lemmas.Bool.Decides.{nat_tests}
use Rattle.std.proofs.lemmas.List.Elements.{Contains-append_left, Contains-append_right, Contains-append_cases, Contains-push, Contains-push_cases}
use Rattle.lw_base.specs.declared.numbers.NodeId.{NodeId}
use Rattle.lw_base.specs.declared.numbers.PropId.{PropId}
use Rattle.lw_base.specs.declared.token.Span.{Span}
use Rattle.lw_base.proofs.Lists.{there}
use Rattle.lw_reading.specs.Grown.{Plain, Text, Number, Huge, Raw, Truth, as_value, Grown, Grow, Held, Nothing, Puts, Takes, Points, size_of}
use Rattle.lw_reading.specs.Trees.{refs, refs_of, own, points_of, values, values_of}
use Rattle.lw_reading.proofs.Spanned.{plain_span}
use Rattle.lw_reading.specs.Within.{value_place}
use Rattle.lw_tree.specs.declared.node.Reference.{Reference}
use Rattle.lw_tree.specs.declared.node.Value.{Value}
use Rattle.lw_tree.specs.declared.node.Value.TheVariants.{Child, Refers}
use Rattle.lw_tree.specs.Parts.{values_at}
use Rattle.lw_link_rules.proofs.Grows.{Begin, BeginIn}
use Rattle.lw_link_rules.proofs.Rising.{Rises, raised, joined, pushed, one_item, all_rise}

abbrev pub Entry : Type 0
Entry = NodeId × PropId × Value

abbrev pub start_in : Option Span → ℕ
start_in None = 0
start_in (Some s) = s.start

-- where the value begins
abbrev pub start_of_entry : Entry → ℕ
start_of_entry e = start_in (value_place e.2)

abbrev start_of_reference : Reference → ℕ
start_of_reference r = r.span.start

-- ---- in the order of the text

-- the values that have a place, inside nodes that are counted from n
abbrev mutual
  placed : ℕ → Grown → List Entry
  placed n (Grow t s held) = placed_in n (n + 1) held

  placed_in : ℕ → ℕ → Held → List Entry
  placed_in number n Nothing = []
  placed_in number n (Puts held p v) = placed_in number n held ++ (record { 0 = number }, record { 0 = p }, as_value v) ∷ []
  placed_in number n (Points held p want name s) = placed_in number n held
  placed_in number n (Takes held p x) = placed_in number n held ++ placed (n + size_of held) x

starts : (number p : ℕ) (v : Plain) → (plain_span v).start ≡ start_of_entry (record { 0 = number }, record { 0 = p }, as_value v)
starts number p (Text text s) = refl
starts number p (Number n s) = refl
starts number p (Huge s) = refl
starts number p (Raw text s) = refl
starts number p (Truth s) = refl

mutual
  rise : (low high n : ℕ) (x : Grown) → Begin low high x → Rises start_of_entry low high (placed n x)
  rise low high n (Grow t s held) begin = rise_in low high n (n + 1) held begin

  rise_in : (low high number n : ℕ) (held : Held) → BeginIn low high held → Rises start_of_entry low high (placed_in number n held)
  rise_in low high number n Nothing begin = begin
  rise_in low high number n (Puts held p v) begin =
      let e : Entry = (record { 0 = number }, record { 0 = p }, as_value v) in
      let same : (plain_span v).start ≡ start_of_entry e = starts number p v in
      pushed start_of_entry low high (placed_in number n held) e
      (subst (λ (k : ℕ). Rises start_of_entry low k (placed_in number n held)) same (rise_in low (plain_span v).start number n held begin.0))
      (omega (arith, same, begin.1))
  rise_in low high number n (Points held p want name s) begin =
      raised start_of_entry low s.start high (placed_in number n held) (omega (arith, begin.1)) (rise_in low s.start number n held begin.0)
  rise_in low high number n (Takes held p x) begin =
      joined start_of_entry low begin.0 high (placed_in number n held) (placed (n + size_of held) x) (rise_in low begin.0 number n held begin.1)
      (rise begin.0 high (n + size_of held) x begin.2)

mutual
  refs_rise : (low high n : ℕ) (x : Grown) → Begin low high x → Rises start_of_reference low high (refs n x)
  refs_rise low high n (Grow t s held) begin = refs_rise_in low high n (n + 1) held begin

  refs_rise_in : (low high number n : ℕ) (held : Held) → BeginIn low high held → Rises start_of_reference low high (refs_of number n held)
  refs_rise_in low high number n Nothing begin = begin
  refs_rise_in low high number n (Puts held p v) begin =
      raised start_of_reference low (plain_span v).start high (refs_of number n held) (omega (arith, begin.1))
      (refs_rise_in low (plain_span v).start number n held begin.0)
  refs_rise_in low high number n (Points held p want name s) begin =
      pushed start_of_reference low high (refs_of number n held)
      (record { owner = record { 0 = number }; prop = record { 0 = p }; want = record { 0 = want }; name = name; span = s })
      (refs_rise_in low s.start number n held begin.0) begin.1
  refs_rise_in low high number n (Takes held p x) begin =
      joined start_of_reference low begin.0 high (refs_of number n held) (refs (n + size_of held) x) (refs_rise_in low begin.0 number n held begin.1)
      (refs_rise begin.0 high (n + size_of held) x begin.2)

pub refs_in_order : (low high : ℕ) (x : Grown) → Begin low high x →
    AllPairs (λ (r other : Reference). r.span.start < other.span.start) (refs 0 x)
refs_in_order low high x begin = all_rise start_of_reference low high (refs 0 x) (refs_rise low high 0 x begin)

-- ---- each value that has a place is one of them

none_contained : {A : Type 0} (e : Entry) → Contains [] e → A
none_contained e (k, inside, is) = absurd (omega (arith, inside))

unplaced : {A : Type 0} (e f : Entry) (s : Span) → value_place e.2 ≡ Some s → f ≡ e → value_place f.2 ≡ None → A
unplaced e f s place is none = absurd (let same : None ≡ Some s = sym none ∙ ap (λ (x : Entry). value_place x.2) is ∙ place in cc)

module _ (e : Entry) (s : Span) (place : value_place e.2 ≡ Some s) where
  own_placed : (number n r : ℕ) (held : Held) → Contains (own number n r held) e → Contains (placed_in number n held) e
  own_placed number n r Nothing has = none_contained e has
  own_placed number n r (Puts held p v) has =
      let f : Entry = (record { 0 = number }, record { 0 = p }, as_value v) in elim (Contains-push_cases (own number n r held) f e has) [
        | inl before ↦ Contains-append_left (placed_in number n held) (f ∷ []) e (own_placed number n r held before)
        | inr is ↦ subst (Contains (placed_in number n held ++ f ∷ [])) is (Contains-push (placed_in number n held) f)
      ]
  own_placed number n r (Points held p want name at) has =
      let f : Entry = (record { 0 = number }, record { 0 = p }, Refers (record { 0 = r + points_of held })) in
      elim (Contains-push_cases (own number n r held) f e has) [
        | inl before ↦ own_placed number n r held before
        | inr is ↦ unplaced e f s place is refl
      ]
  own_placed number n r (Takes held p x) has =
      let f : Entry = (record { 0 = number }, record { 0 = p }, Child (record { 0 = n + size_of held })) in
      elim (Contains-push_cases (own number n r held) f e has) [
        | inl before ↦ Contains-append_left (placed_in number n held) (placed (n + size_of held) x) e (own_placed number n r held before)
        | inr is ↦ unplaced e f s place is refl
      ]

  mutual
    value_placed : (n r : ℕ) (x : Grown) → Contains (values n r x) e → Contains (placed n x) e
    value_placed n r (Grow t at held) has = elim (Contains-append_cases (own n (n + 1) r held) (values_of (n + 1) r held) e has) [
      | inl mine ↦ own_placed n (n + 1) r held mine
      | inr inside ↦ inside_placed n (n + 1) r held inside
    ]

    inside_placed : (number n r : ℕ) (held : Held) → Contains (values_of n r held) e → Contains (placed_in number n held) e
    inside_placed number n r Nothing has = none_contained e has
    inside_placed number n r (Puts held p v) has =
        Contains-append_left (placed_in number n held) ((record { 0 = number }, record { 0 = p }, as_value v) ∷ []) e (inside_placed number n r held has)
    inside_placed number n r (Points held p want name at) has = inside_placed number n r held has
    inside_placed number n r (Takes held p x) has =
        elim (Contains-append_cases (values_of n r held) (values (n + size_of held) (r + points_of held) x) e has) [
          | inl before ↦ Contains-append_left (placed_in number n held) (placed (n + size_of held) x) e (inside_placed number n r held before)
          | inr last ↦ Contains-append_right (placed_in number n held) (placed (n + size_of held) x) e
              (value_placed (n + size_of held) (r + points_of held) x last)
        ]

-- ---- by node and property

pub entry_at : (n p : ℕ) (es : List Entry) (v : Value) → Contains (values_at n p es) v → Contains es (record { 0 = n }, record { 0 = p }, v)
entry_at n p [] v (k, inside, is) = absurd (omega (arith, inside))
entry_at n p (e ∷ es) v has = by ((e.0.0 == n) && (e.1.0 == p)) refl (entry_at n p es v) has
  where
    here : ((e.0.0 == n) && (e.1.0 == p)) ≡ true → e.2 ≡ v → e ≡ (record { 0 = n }, record { 0 = p }, v)
    here is value =
        let node : e.0.0 ≡ n = grind (arith, nat_tests, is) in
        let property : e.1.0 ≡ p = grind (arith, nat_tests, is) in
        λ i. (record { 0 = node i }, record { 0 = property i }, value i)

    by : (b : Bool) → ((e.0.0 == n) && (e.1.0 == p)) ≡ b →
        (Contains (values_at n p es) v → Contains es (record { 0 = n }, record { 0 = p }, v)) →
        Contains (if b then e.2 ∷ values_at n p es else values_at n p es) v → Contains (e ∷ es) (record { 0 = n }, record { 0 = p }, v)
    by true is rest (zero, below, same) = (0, omega arith, here is same)
    by true is rest (suc k, below, same) = there e es (record { 0 = n }, record { 0 = p }, v) (rest (k, omega (arith, below), same))
    by false is rest inside = there e es (record { 0 = n }, record { 0 = p }, v) (rest inside)

pub values_apart : (low high : ℕ) (x : Grown) → Begin low high x → (n p m q : ℕ) (v w : Value) (s r : Span) →
    Contains (values_at n p (values 0 0 x)) v → Contains (values_at m q (values 0 0 x)) w → value_place v ≡ Some s →
    value_place w ≡ Some r →
    s.start ≡ r.start → (n ≡ m) × (p ≡ q) × (v ≡ w)
values_apart low high x begin n p m q v w s r has also place stands start =
    let e : Entry = (record { 0 = n }, record { 0 = p }, v) in
    let f : Entry = (record { 0 = m }, record { 0 = q }, w) in
    let same : e ≡ f =
    one_item start_of_entry low high (placed 0 x) e f (rise low high 0 x begin) (value_placed e s place 0 0 x (entry_at n p (values 0 0 x) v has))
    (value_placed f r stands 0 0 x (entry_at m q (values 0 0 x) w also)) (ap start_in place ∙ start ∙ sym (ap start_in stands)) in
    (ap (λ (y : Entry). y.0.0) same, ap (λ (y : Entry). y.1.0) same, ap (λ (y : Entry). y.2) same)
