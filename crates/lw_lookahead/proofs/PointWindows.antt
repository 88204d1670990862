-- The heads of a choice, where those of the rules and of what follows them are all and no others, are the windows of its ways.
use Rattle.std.proofs.Common.{◌≡◌, ℕ, ◌+◌, ◌<◌, ◌≤◌, List, Option, Some, Contains, length, get_or, slice_get, refl, sym, ap, ◌∙◌, subst, arith}
use Rattle.std.proofs.lemmas.List.Elements.{Contains-get_or}
use Rattle.lw_grammar.specs.declared.grammar.Grammar.{Grammar}
use Rattle.lw_grammar.specs.Kinds.{Kinds}
use Rattle.lw_grammar.specs.Size.{size}
use Rattle.lw_look.specs.Heads.{AreClosedAfters, AreClosedHeads, AreTrueAfters, AreTrueHeads, CanLook}
use Rattle.lw_look.specs.Looks.{Look, window}
use Rattle.lw_look.specs.Sites.{PartSite}
use Rattle.lw_look.proofs.HeadsCover.{look_can}
use Rattle.lw_look.proofs.HeadsTrue.{look_true}
use Rattle.lw_first.specs.declared.heads.head.Head.{Head}
use Rattle.lw_first.specs.declared.heads.head.Head.TheVariants.{Nothing}
use Rattle.lw_first.specs.Heads.{kinds_in}
use Rattle.lw_first.specs.Sets.{IsInSet}
use Rattle.lw_lookahead.specs.declared.points.point.Point.{Point}
use Rattle.lw_lookahead.specs.Points.{IsPointAt}
use Rattle.lw_lookahead.specs.Seen.{IsSeenAt}
use Rattle.lw_lookahead.specs.Shared.{AreFewHeads, heads_at}
use Rattle.lw_lookahead.proofs.FewWays.{few_ways}
use Rattle.lw_lookahead.proofs.ShortHeads.{look_short}
use Rattle.lw_lookahead.proofs.WayHeads.{of_ways_has}

module _ (g : Grammar) (kinds : Kinds) (k : ℕ) (heads followers : List (List Head)) (s : PartSite) (point : Point) (is : IsPointAt g kinds k heads followers s point) where
  abbrev CanCome : ℕ → List ℕ → Type 0
  CanCome way h = CanLook g kinds k (IsInSet heads) (IsInSet followers) s way h

  -- the head of a way may come
  may_come : (head : Head) (way : ℕ) → Contains (heads_at point) (head, way) → CanCome way (kinds_in head)
  may_come head way has =
      let (i, own, last, at, inside) = (of_ways_has 1 point.ways.items head way).0 has in
      (is.exact way (kinds_in head)).1 (i, omega arith, (own, at, (head, inside, refl)))

  -- what may come is a head of the way
  is_head : (way : ℕ) (h : List ℕ) → CanCome way h → (head : Head) × Contains (heads_at point) (head, way) × (kinds_in head ≡ h)
  is_head way h can =
      let (i, last, (own, at, (head, inside, same))) = (is.exact way h).0 can in
      (head, (of_ways_has 1 point.ways.items head way).1 (i, own, omega arith, at, inside), same)

  module _ (true_heads : AreTrueHeads g kinds k (IsInSet heads)) (true_afters : AreTrueAfters g kinds k (IsInSet heads) (IsInSet followers)) where
    pub few_heads : size g ≤ 65535 → AreFewHeads k point
    few_heads small = record {
      short = λ head way has. look_short g kinds k (IsInSet heads) true_heads (IsInSet followers) true_afters (may_come head way has);
      few = few;
    }
      where
        few : (i : ℕ) (own : List Head) → slice_get point.ways.items i ≡ Some own → 0 < length own → i < 65535
        few i own at some =
            let head = get_or own 0 Nothing in
            let can = (is.exact (i + 1) (kinds_in head)).1 (i, refl, (own, at, (head, Contains-get_or own 0 Nothing some, refl))) in
            omega (arith, few_ways g kinds k (IsInSet heads) (IsInSet followers) small can)

    module _ (closed : AreClosedHeads g kinds k (IsInSet heads)) (closed_afters : AreClosedAfters g kinds k (IsInSet heads) (IsInSet followers)) where
      pub seen_at : IsSeenAt g kinds k s point
      seen_at = record { place = is.place; exact = λ way seen. (to way seen, from way seen) }
        where
          to : (way : ℕ) (seen : List (Option ℕ)) → Look g kinds k s way seen → (head : Head) × Contains (heads_at point) (head, way) × (seen ≡ window k (kinds_in head))
          to way seen looks =
              let (h, can, shown) = look_can g kinds k (IsInSet heads) closed (IsInSet followers) closed_afters looks in
              let (head, has, same) = is_head way h can in
              (head, has, shown ∙ ap (window k) (sym same))

          from : (way : ℕ) (seen : List (Option ℕ)) → (head : Head) × Contains (heads_at point) (head, way) × (seen ≡ window k (kinds_in head)) → Look g kinds k s way seen
          from way seen (head, has, shown) =
              subst (Look g kinds k s way) (sym shown) (look_true g kinds k (IsInSet heads) true_heads (IsInSet followers) true_afters (may_come head way has))
