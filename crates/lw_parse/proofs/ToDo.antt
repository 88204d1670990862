-- Places that are still to be done, and the things that they stand for.
use Rattle.std.proofs.Common.{◌≡◌, ℕ, suc, ◌+◌, ◌-◌, List, [], ◌∷◌, ◌++◌, Some, length, slice_get, refl, ap, subst, append-nil, arith}
use Rattle.lw_base.specs.declared.token.Span.{Span}
use Rattle.lw_grammar.specs.declared.grammar.Grammar.{Grammar}
use Rattle.lw_grammar.specs.declared.rule.Element.{Element, out-Element}
use Rattle.lw_grammar.specs.declared.rule.Element.TheOpen as layer
use Rattle.lw_grammar.specs.declared.rule.Element.TheOpen.{Element-F}
use Rattle.lw_grammar.specs.declared.rule.Op.{Op}
use Rattle.lw_grammar.specs.declared.rule.Value0.{Value0}
use Rattle.lw_grammar.specs.declared.rule.Value0.TheOpen as value
use Rattle.lw_grammar.specs.declared.rule.Value0.TheOpen.{Value0-F}
use Rattle.lw_grammar.specs.Kinds.{Kinds}
use Rattle.lw_grammar.specs.Reached.{IsReached}
use Rattle.lw_grammar.specs.Marks.{Mark}
use Rattle.lw_look.specs.Sites.{PartSite, rule_of, ◌▸◌, Body, Value, element_parts, IsPartAt, ElementAt, ValueAt, ValueCallsAt, RepeatedAt}
use Rattle.lw_look.specs.Sites as site
use Rattle.lw_look.specs.Things.{Thing, Do, Assigned, Again, Leave, parts_from, Ways, AsksNothing}
use Rattle.lw_look.specs.Things as t
use Rattle.lw_look.specs.Parses.{Parses}
use Rattle.lw_look.specs.Parses as parse
use Rattle.lw_look.proofs.OneWay.{two_forms, two_value_forms}
use Rattle.lw_look.proofs.Standing.{row_part_stands}
use Rattle.lw_program.specs.Says.{Task, Does, layer_thing, thing_of, StandFrom}
use Rattle.lw_program.specs.Meant.{AssignedAt}
use Rattle.lw_program.specs.Meant as meant
use Rattle.lw_viable.specs.Moves.{side_by_side}
use Rattle.lw_viable.specs.Readings.{IsPlacedTask}
use Rattle.lw_viable.specs.Readings as place
use Rattle.lw_viable.proofs.Moves.Doing.{element_stands}

module _ (g : Grammar) (kinds : Kinds) where
  -- ---- where nothing is asked

  abbrev IsQuietForm : Element-F Element → Type 0
  IsQuietForm (layer.Choice es span) = ⊥
  IsQuietForm (layer.Maybe e span) = ⊥
  IsQuietForm _ = Unit {0}

  abbrev IsQuietValue : Value0-F Value0 → Type 0
  IsQuietValue (value.Choice vs span) = ⊥
  IsQuietValue _ = Unit {0}

  pub quiet_element : {s : PartSite} {f : Element-F Element} → ElementAt g s f → IsQuietForm f → AsksNothing g kinds (Do s)
  quiet_element {s} at quiet other w xs way = by way
    where
      by : {other : PartSite} {w : ℕ} {xs : List Thing} → Ways g kinds (Do s) other w xs → ⊥
      by (t.alternative (site.element here is)) = subst IsQuietForm (two_forms g kinds at here) quiet
      by (t.enters (site.optional here)) = subst IsQuietForm (two_forms g kinds at here) quiet
      by (t.passes (site.optional here)) = subst IsQuietForm (two_forms g kinds at here) quiet

  pub quiet_value : {property : List ℕ} {op : Op} {s : PartSite} {v : Value0} {f : Value0-F Value0} → ValueAt g s v f → IsQuietValue f →
      AsksNothing g kinds (Assigned property op s)
  quiet_value {property} {op} {s} at quiet other w xs way = by way
    where
      by : {other : PartSite} {w : ℕ} {xs : List Thing} → Ways g kinds (Assigned property op s) other w xs → ⊥
      by (t.value_ (site.assigned here is)) = subst IsQuietValue (two_value_forms g kinds at here) quiet

  pub quiet_call : {property : List ℕ} {op : Op} {s : PartSite} {v : Value0} {name : List ℕ} → ValueCallsAt g s v name → AsksNothing g kinds (Assigned property op s)
  quiet_call (site.calls at) = quiet_value at tt
  quiet_call (site.crosses at) = quiet_value at tt
  quiet_call (site.crosses_by_name name at is) = quiet_value at tt

  pub quiet_leave : (l : Mark) → AsksNothing g kinds (Leave l)
  quiet_leave l at w xs way = elim way [ ]

  -- ---- places and things

  module _ (tasks : List Task) where
    -- At the place stands the task of the thing. For a part of a rule that is that of its element, of which a step may be done already.
    pub data StandsFor : ℕ → Thing → Type 0 where
      element : {s : PartSite} {e : Element} {p : ℕ} → IsPartAt g s (Body e) → IsReached g (rule_of s) → slice_get tasks p ≡ Some (thing_of s e) →
          StandsFor p (Do s)
      assigned : {property : List ℕ} {op : Op} {s : PartSite} {v : Value0} {p : ℕ} → IsPartAt g s (Value v) → AssignedAt g s property op →
          IsReached g (rule_of s) → slice_get tasks p ≡ Some (Does (Assigned property op s)) → StandsFor p (Assigned property op s)
      again : {s : PartSite} {e : Element} {p : ℕ} → RepeatedAt g s e → IsReached g (rule_of s) → slice_get tasks p ≡ Some (Does (Again s)) →
          StandsFor p (Again s)
      leaves : {l : Mark} {p : ℕ} → slice_get tasks p ≡ Some (Does (Leave l)) → StandsFor p (Leave l)

    -- each of these places stands for each of those things, in order
    pub data AreToDo : List ℕ → List Thing → Type 0 where
      nothing : AreToDo [] []
      more : {p : ℕ} {x : Thing} {ps : List ℕ} {xs : List Thing} → StandsFor p x → AreToDo ps xs → AreToDo (p ∷ ps) (x ∷ xs)

    pub to_do_joined : {ps qs : List ℕ} {xs ys : List Thing} → AreToDo ps xs → AreToDo qs ys → AreToDo (ps ++ qs) (xs ++ ys)
    to_do_joined nothing q = q
    to_do_joined (more is p) q = more is (to_do_joined p q)

    pub one_to_do : {p : ℕ} {x : Thing} → StandsFor p x → AreToDo (p ∷ []) (x ∷ [])
    one_to_do is = more is nothing

    pub two_to_do : {p q : ℕ} {x y : Thing} → StandsFor p x → StandsFor q y → AreToDo (p ∷ q ∷ []) (x ∷ y ∷ [])
    two_to_do is other = more is (more other nothing)

    -- ---- a row

    module _ (s : PartSite) (reached : IsReached g (rule_of s)) where
      -- from the item of this number on, elements stand in the grammar and their tasks at places side by side
      record RowIsThere (i first : ℕ) (es : List Element) : Type 0 where
        part : (j : ℕ) (e : Element) → slice_get es j ≡ Some e → IsPartAt g (s ▸ (i + j)) (Body e)
        has : (j : ℕ) (e : Element) → slice_get es j ≡ Some e → slice_get tasks (first + j) ≡ Some (thing_of (s ▸ (i + j)) e)

      first_is : {i first : ℕ} {e : Element} {es : List Element} → RowIsThere i first (e ∷ es) → StandsFor first (Do (s ▸ i))
      first_is {i} {first} {e} there =
          element (subst (λ i. IsPartAt g (s ▸ i) (Body e)) at (there.part 0 e refl)) reached
          (subst (λ i. slice_get tasks first ≡ Some (thing_of (s ▸ i) e)) at
          (subst (λ p. slice_get tasks p ≡ Some (thing_of (s ▸ (i + 0)) e)) here (there.has 0 e refl)))
        where
          at : i + 0 ≡ i
          at = omega arith

          here : first + 0 ≡ first
          here = omega arith

      others_are : {i first : ℕ} {e : Element} {es : List Element} → RowIsThere i first (e ∷ es) → RowIsThere (i + 1) (first + 1) es
      others_are {i} {first} {es} there = record {
        part = λ j f is. subst (λ k. IsPartAt g (s ▸ k) (Body f)) (behind i j) (there.part (suc j) f is);
        has = λ j f is.
            subst (λ k. slice_get tasks (first + 1 + j) ≡ Some (thing_of (s ▸ k) f)) (behind i j)
            (subst (λ p. slice_get tasks p ≡ Some (thing_of (s ▸ (i + suc j)) f)) (behind first j) (there.has (suc j) f is));
      }
        where
          behind : (i j : ℕ) → i + suc j ≡ i + 1 + j
          behind i j = omega arith

      row_from : (i first : ℕ) (es : List Element) → RowIsThere i first es → AreToDo (side_by_side first (length es)) (parts_from s i es)
      row_from i first [] there = nothing
      row_from i first (e ∷ es) there = more (first_is there) (row_from (i + 1) (first + 1) es (others_are there))

      pub row_to_do : {es : List Element} {span : Span} {first end : ℕ} → ElementAt g s (layer.Group es span) →
          StandFrom tasks (λ i e. thing_of (s ▸ i) e) es first end → AreToDo (side_by_side first (end - first)) (parts_from s 0 es)
      row_to_do {es} {first} {end} row stand =
          subst (λ n. AreToDo (side_by_side first n) (parts_from s 0 es)) many
          (row_from 0 first es (record {
            part = λ j e is. subst (λ k. IsPartAt g (s ▸ k) (Body e)) (at j) (row_part_stands g row is);
            has = λ j e is. subst (λ k. slice_get tasks (first + j) ≡ Some (thing_of (s ▸ k) e)) (at j) (stand.each j e is);
          }))
        where
          many : length es ≡ end - first
          many = let sized = stand.sized in omega arith

          at : (j : ℕ) → j ≡ 0 + j
          at j = omega arith

    -- ---- what is to be done first

    module _ (k : ℕ) (m : List Mark) (ks : List ℕ) (rest : List Thing) where
      -- the place has the task of this thing, which is to be done first
      pub record IsFirstThing (p : ℕ) : Type 0 where
        pub thing : Thing
        pub stands : slice_get tasks p ≡ Some (Does thing)
        pub placed : IsPlacedTask g (Does thing)
        pub parses : Parses g kinds k m ks (thing ∷ rest)

      -- of `*` and of an assignment a step is done that leaves nothing
      pub settled : {p : ℕ} {x : Thing} → StandsFor p x → Parses g kinds k m ks (x ∷ rest) → IsFirstThing p
      settled (assigned {property} {op} {s} stands goes reached at) parses =
          record { thing = Assigned property op s; stands = at; placed = place.assigned stands goes reached; parses = parses }
      settled (again {s} repeated reached at) parses = record { thing = Again s; stands = at; placed = place.again repeated reached; parses = parses }
      settled (leaves {l} at) parses = record { thing = Leave l; stands = at; placed = place.leaves; parses = parses }
      settled (element {s} {e} {p} stands reached at) parses = by (out-Element e) refl at
        where
          quietly : {y : Thing} {f : Element-F Element} → ElementAt g s f → IsQuietForm f → t.StepsTo g kinds (Do s) [] (y ∷ []) → Parses g kinds k m ks (y ∷ rest)
          quietly {y} there quiet step =
              subst (λ m. Parses g kinds k m ks (y ∷ rest)) (append-nil m) (parse.goes m [] ks rest parses (quiet_element there quiet) step)

          by : (f : Element-F Element) → out-Element e ≡ f → slice_get tasks p ≡ Some (layer_thing s f) → IsFirstThing p
          by (layer.Many inner span) is here =
              let there = element_stands g is stands in
              record { thing = Again s; stands = here; placed = place.again (site.any there) reached; parses = quietly there tt (t.any there) }
          by (layer.Assign property op v span) is here =
              let there = element_stands g is stands in
              record {
                thing = Assigned property op (s ▸ 0);
                stands = here;
                placed = place.assigned (site.part stands (ap (λ f. slice_get (element_parts f) 0) is)) (meant.whole there) reached;
                parses = quietly there tt (t.assigned there);
              }
          by _ is here = record { thing = Do s; stands = here; placed = place.element stands reached; parses = parses }
