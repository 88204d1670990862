-- What is known at the leaves of an element, by its form.
use Rattle.std.proofs.Common.{◌≡◌, ◌↔◌, ◌⊎◌, ℕ, suc, ◌+◌, ◌<◌, List, [], ◌∷◌, ◌++◌, map, take, Some, length, get_or, slice_get, Contains, refl, sym, ap, ◌∙◌, subst, inl, inr, arith, add-one, append-nil}
use Rattle.std.specs.List.{flat_map}
use Rattle.std.proofs.lemmas.Bool.{cases_eq}
use Rattle.std.proofs.lemmas.Option.{same_Some, slice_get_within}
use Rattle.std.proofs.lemmas.List.{take_more}
use Rattle.std.proofs.lemmas.List.Concat.{flat_map-append}
use Rattle.std.proofs.lemmas.List.Elements.{Contains-append_left, Contains-push, Contains-push_cases}
use Rattle.lw_base.specs.declared.token.Span.{Span}
use Rattle.lw_grammar.specs.declared.grammar.Grammar.{Grammar}
use Rattle.lw_grammar.specs.declared.rule.Action.{Action}
use Rattle.lw_grammar.specs.declared.rule.Element.{Element, out-Element}
use Rattle.lw_grammar.specs.declared.rule.Element.TheOpen.{Element-F, Keyword, Call, Assign, Act, Group, Choice, Maybe, Many, Some1}
use Rattle.lw_grammar.specs.declared.rule.Element.TheVariants as element
use Rattle.lw_grammar.proofs.LeafLemmas.{leaves_by}
use Rattle.lw_grammar.specs.declared.rule.Op.{Op}
use Rattle.lw_grammar.specs.declared.rule.Value0.{Value0}
use Rattle.lw_grammar.specs.Leaves as leaf
use Rattle.lw_grammar.specs.Leaves.{Leaf, leaves}
use Rattle.lw_flow.specs.declared.effect.Effect.{Effect}
use Rattle.lw_flow.specs.declared.effect.Effect.TheVariants.{Nothing}
use Rattle.lw_flow.specs.declared.effect.Mark.{Mark}
use Rattle.lw_flow.specs.Effects.{joined_effect}
use Rattle.lw_flow.specs.Marks.{Moves}
use Rattle.lw_flow.specs.Passing.{Does, DoesFirst, DoesTurns, MayPrecede, MayPrecedeLayer}
use Rattle.lw_flow.specs.Passing as pass
use Rattle.lw_flow.specs.Sets.{IsMoved}
use Rattle.lw_flow.specs.Visits.{AtLeaf, AgainAt, MovedFirst, InRow, InSome}
use Rattle.lw_flow.proofs.DoingLemmas.{via, first_none, first_more}
use Rattle.lw_flow.proofs.SetLemmas.{nothing_in}
use Rattle.lw_flow.proofs.VisitLemmas.{moves_on, moves_apart, stands_still, stood_still}

-- ---- the leaves of a row

pub row_leaves : (parts : List Element) → flat_map (λ ls. ls) (map leaves parts) ≡ flat_map leaves parts
row_leaves [] = refl
row_leaves (e ∷ es) = ap (λ ls. leaves e ++ ls) (row_leaves es)

pub leaves_more : (parts : List Element) (i : ℕ) (e : Element) → i < length parts → e ≡ get_or parts i e →
    flat_map leaves (take (i + 1) parts) ≡ flat_map leaves (take i parts) ++ leaves e
leaves_more parts i e inside is =
    ap (flat_map leaves) (take_more parts i e inside) ∙ flat_map-append leaves (take i parts) (get_or parts i e ∷ [])
    ∙ ap (λ ls. flat_map leaves (take i parts) ++ ls) (append-nil (leaves (get_or parts i e)) ∙ ap leaves (sym is))

pub leaves-Some1 : (part : Element) (s : Span) → leaves (element.Some1 part s) ≡ leaves part
leaves-Some1 part s = leaves_by _ _ (element.outs-Some1 part s)

module _ (g : Grammar) (table : ℕ → Effect → Type 0) where
  comes_out : {e : Element} {f : Element-F Element} {x : Effect} {l : Leaf} → out-Element e ≡ f → MayPrecede g table e x l → MayPrecedeLayer g table f x l
  comes_out {x} {l} is (pass.comes may) = subst (λ f. MayPrecedeLayer g table f x l) is may

  comes_in : {e : Element} {f : Element-F Element} {x : Effect} {l : Leaf} → out-Element e ≡ f → MayPrecedeLayer g table f x l → MayPrecede g table e x l
  comes_in {x} {l} is may = pass.comes (subst (λ f. MayPrecedeLayer g table f x l) (sym is) may)

  module _ (start : List Mark) where
    -- ---- an element that is one leaf

    pub keyword_known : {e : Element} {text : List ℕ} {s : Span} → out-Element e ≡ Keyword text s → (l : Leaf) (m : Mark) →
        AtLeaf g table start e l m ↔ ((l ≡ leaf.Keyword text s) × Contains [] m)
    keyword_known {text} {s} is l m = (λ at. absurd (none (comes_out is at.comes)), λ (_, has). absurd (nothing_in m has))
      where
        none : {x : Effect} {l : Leaf} → ¬ MayPrecedeLayer g table (Keyword text s) x l
        none may = elim may [ ]

    module _ {e : Element} {f : Element-F Element} (is : out-Element e ≡ f) (l : Leaf) (comes : MayPrecedeLayer g table f Nothing l)
        (only : (x : Effect) (k : Leaf) → MayPrecedeLayer g table f x k → (x ≡ Nothing) × (k ≡ l)) where
      only_known : (k : Leaf) (m : Mark) → AtLeaf g table start e k m ↔ ((k ≡ l) × Contains start m)
      only_known k m = (
        λ at.
            let one = only at.before k (comes_out is at.comes) in
            (one.1, subst (Contains start) (sym (stood_still at.moves one.0)) at.starts),
        λ (same, has). record {
          before = Nothing;
          from = m;
          starts = has;
          comes = comes_in is (subst (MayPrecedeLayer g table f Nothing) (sym same) comes);
          moves = stands_still m;
        },
      )

    pub call_known : {e : Element} {name : List ℕ} {s : Span} → out-Element e ≡ Call name s → (k : Leaf) (m : Mark) →
        AtLeaf g table start e k m ↔ ((k ≡ leaf.Call name s) × Contains start m)
    call_known {name} {s} is = only_known is (leaf.Call name s) MayPrecedeLayer.called (λ x k may. only may)
      where
        only : {x : Effect} {k : Leaf} → MayPrecedeLayer g table (Call name s) x k → (x ≡ Nothing) × (k ≡ leaf.Call name s)
        only MayPrecedeLayer.called = (refl, refl)

    pub assign_known : {e : Element} {p : List ℕ} {op : Op} {v : Value0} {s : Span} → out-Element e ≡ Assign p op v s → (k : Leaf) (m : Mark) →
        AtLeaf g table start e k m ↔ ((k ≡ leaf.Assign p op v s) × Contains start m)
    assign_known {p} {op} {v} {s} is = only_known is (leaf.Assign p op v s) MayPrecedeLayer.assigned (λ x k may. only may)
      where
        only : {x : Effect} {k : Leaf} → MayPrecedeLayer g table (Assign p op v s) x k → (x ≡ Nothing) × (k ≡ leaf.Assign p op v s)
        only MayPrecedeLayer.assigned = (refl, refl)

    pub act_known : {e : Element} {a : Action} → out-Element e ≡ Act a → (k : Leaf) (m : Mark) →
        AtLeaf g table start e k m ↔ ((k ≡ leaf.Act a) × Contains start m)
    act_known {a} is = only_known is (leaf.Act a) MayPrecedeLayer.acted (λ x k may. only may)
      where
        only : {x : Effect} {k : Leaf} → MayPrecedeLayer g table (Act a) x k → (x ≡ Nothing) × (k ≡ leaf.Act a)
        only MayPrecedeLayer.acted = (refl, refl)

    -- ---- an element of parts

    pub group_known : {e : Element} {es : List Element} {s : Span} → out-Element e ≡ Group es s → (l : Leaf) (m : Mark) →
        InRow g table start es (length es) l m ↔ AtLeaf g table start e l m
    group_known {e} {es} {s} is l m = (
      λ row. record {
        before = joined_effect row.before row.then;
        from = row.from;
        starts = row.starts;
        comes = comes_in is (MayPrecedeLayer.grouped row.number row.at row.first row.comes);
        moves = row.moves;
      },
      λ at. out (comes_out is at.comes) at.starts at.moves,
    )
      where
        out : {x : Effect} {l : Leaf} {n m : Mark} → MayPrecedeLayer g table (Group es s) x l → Contains start n → Moves n x m → InRow g table start es (length es) l m
        out {n} (MayPrecedeLayer.grouped {e = d} {x} {y} k at first may) starts moves = record {
          number = k;
          part = d;
          inside = slice_get_within es k d at;
          at = at;
          before = x;
          then = y;
          from = n;
          starts = starts;
          first = first;
          comes = may;
          moves = moves;
        }

    pub choice_known : {e : Element} {es : List Element} {s : Span} → out-Element e ≡ Choice es s → (l : Leaf) (m : Mark) →
        InSome g table start es l m ↔ AtLeaf g table start e l m
    choice_known {e} {es} {s} is l m = (
      λ some. record {
        before = some.there.before;
        from = some.there.from;
        starts = some.there.starts;
        comes = comes_in is (MayPrecedeLayer.chosen some.among some.there.comes);
        moves = some.there.moves;
      },
      λ at. out (comes_out is at.comes) at.starts at.moves,
    )
      where
        out : {x : Effect} {l : Leaf} {n m : Mark} → MayPrecedeLayer g table (Choice es s) x l → Contains start n → Moves n x m → InSome g table start es l m
        out {n} (MayPrecedeLayer.chosen {e = d} {x} has may) starts moves =
            record { part = d; among = has; there = record { before = x; from = n; starts = starts; comes = may; moves = moves } }

    pub maybe_known : {e part : Element} {s : Span} → out-Element e ≡ Maybe part s → (l : Leaf) (m : Mark) →
        AtLeaf g table start part l m ↔ AtLeaf g table start e l m
    maybe_known {e} {part} {s} is l m = (
      λ at. record { before = at.before; from = at.from; starts = at.starts; comes = comes_in is (MayPrecedeLayer.taken at.comes); moves = at.moves },
      λ at. out (comes_out is at.comes) at.starts at.moves,
    )
      where
        out : {x : Effect} {l : Leaf} {n m : Mark} → MayPrecedeLayer g table (Maybe part s) x l → Contains start n → Moves n x m → AtLeaf g table start part l m
        out {n} (MayPrecedeLayer.taken {x} may) starts moves = record { before = x; from = n; starts = starts; comes = may; moves = moves }

    pub many_known : {e part : Element} {s : Span} → out-Element e ≡ Many part s → (l : Leaf) (m : Mark) →
        AgainAt g table start part l m ↔ AtLeaf g table start e l m
    many_known {e} {part} {s} is l m = (
      λ at. record {
        before = joined_effect at.turns at.before;
        from = at.from;
        starts = at.starts;
        comes = comes_in is (MayPrecedeLayer.repeated at.turn at.comes);
        moves = at.moves;
      },
      λ at. out (comes_out is at.comes) at.starts at.moves,
    )
      where
        out : {x : Effect} {l : Leaf} {n m : Mark} → MayPrecedeLayer g table (Many part s) x l → Contains start n → Moves n x m → AgainAt g table start part l m
        out {n} (MayPrecedeLayer.repeated {x} {y} again may) starts moves =
            record { turns = x; before = y; from = n; starts = starts; turn = again; comes = may; moves = moves }

    pub some_known : {e part : Element} {s : Span} → out-Element e ≡ Some1 part s → (l : Leaf) (m : Mark) →
        AgainAt g table start part l m ↔ AtLeaf g table start e l m
    some_known {e} {part} {s} is l m = (
      λ at. record {
        before = joined_effect at.turns at.before;
        from = at.from;
        starts = at.starts;
        comes = comes_in is (MayPrecedeLayer.repeated_once at.turn at.comes);
        moves = at.moves;
      },
      λ at. out (comes_out is at.comes) at.starts at.moves,
    )
      where
        out : {x : Effect} {l : Leaf} {n m : Mark} → MayPrecedeLayer g table (Some1 part s) x l → Contains start n → Moves n x m → AgainAt g table start part l m
        out {n} (MayPrecedeLayer.repeated_once {x} {y} again may) starts moves =
            record { turns = x; before = y; from = n; starts = starts; turn = again; comes = may; moves = moves }

    -- ---- marks that come to a part

    pub again_known : (e : Element) (turns : List Effect) (marks : List Mark) → ((y : Effect) → Contains turns y ↔ DoesTurns g table e y) →
        ((m : Mark) → Contains marks m ↔ IsMoved start turns m) → (l : Leaf) (m : Mark) → AtLeaf g table marks e l m ↔ AgainAt g table start e l m
    again_known e turns marks does moved l m = (
      λ at. from at ((moved at.from).0 at.starts),
      λ at.
          let parts = moves_apart at.turns at.before at.moves in record {
            before = at.before;
            from = parts.0;
            starts = (moved parts.0).1 (at.from, at.turns, at.starts, (does at.turns).1 at.turn, parts.1);
            comes = at.comes;
            moves = parts.2;
          },
    )
      where
        from : (at : AtLeaf g table marks e l m) → IsMoved start turns at.from → AgainAt g table start e l m
        from at (n, y, hn, hy, moves) = record {
          turns = y;
          before = at.before;
          from = n;
          starts = hn;
          turn = (does y).0 hy;
          comes = at.comes;
          moves = moves_on moves at.moves;
        }

    pub moved_none : (es : List Element) (m : Mark) → Contains start m ↔ MovedFirst g table start es 0 m
    moved_none es m = (
      λ has. record { before = Nothing; from = m; starts = has; first = pass.nothing; moves = stands_still m },
      λ at. subst (Contains start) (sym (stood_still at.moves ((first_none g table at.before).1 at.first))) at.starts,
    )

    pub moved_more : (es : List Element) (k : ℕ) (e : Element) → slice_get es k ≡ Some e → (marks news : List Mark) (may xs : List Effect) →
        ((m : Mark) → Contains marks m ↔ MovedFirst g table start es k m) → ((y : Effect) → Contains may y ↔ Does g table e y) → xs ≡ may → (ms : List Mark) → ms ≡ marks →
        ((m : Mark) → Contains news m ↔ IsMoved ms xs m) → (m : Mark) → Contains news m ↔ MovedFirst g table start es (k + 1) m
    moved_more es k e at marks news may xs before does xs_is ms ms_is moved m =
        via (moved m) (subst (λ n. IsMoved ms xs m ↔ MovedFirst g table start es n m) (sym (add-one k)) (λ is. into is, λ is. out is ((first_more g table at is.before).1 is.first)))
      where
        into : IsMoved ms xs m → MovedFirst g table start es (suc k) m
        into (n, y, hn, hy, moves) =
            let first = (before n).0 (subst (λ ms. Contains ms n) ms_is hn) in record {
              before = joined_effect first.before y;
              from = first.from;
              starts = first.starts;
              first = pass.one_more first.first at ((does y).0 (subst (λ ys. Contains ys y) xs_is hy));
              moves = moves_on first.moves moves;
            }

        out : (is : MovedFirst g table start es (suc k) m) →
            ((x : Effect) × (y : Effect) × DoesFirst g table es k x × Does g table e y × (is.before ≡ joined_effect x y)) → IsMoved ms xs m
        out is (x, y, first, last, same) =
            let parts = moves_apart x y (subst (λ z. Moves is.from z m) same is.moves) in (
              parts.0,
              y,
              subst (λ ms. Contains ms parts.0) (sym ms_is)
                  ((before parts.0).1 (record { before = x; from = is.from; starts = is.starts; first = first; moves = parts.1 })),
              subst (λ ys. Contains ys y) (sym xs_is) ((does y).1 last),
              parts.2,
            )

    pub row_known : (es : List Element) (k : ℕ) (e : Element) → slice_get es k ≡ Some e → (marks ms : List Mark) → ms ≡ marks →
        ((m : Mark) → Contains marks m ↔ MovedFirst g table start es k m) → (l : Leaf) (m : Mark) →
        InRow g table start es (k + 1) l m ↔ (InRow g table start es k l m ⊎ AtLeaf g table ms e l m)
    row_known es k e at marks ms ms_is before l m = (
      λ row. elim (cases_eq row.number k) [
        | inl same ↦
            let part : row.part ≡ e = same_Some row.part e (sym row.at ∙ ap (slice_get es) same ∙ at) in
            let parts = moves_apart row.before row.then row.moves in
            inr (record {
              before = row.then;
              from = parts.0;
              starts =
                  subst (λ ms. Contains ms parts.0) (sym ms_is)
                  ((before parts.0).1 (record {
                    before = row.before;
                    from = row.from;
                    starts = row.starts;
                    first = subst (λ n. DoesFirst g table es n row.before) same row.first;
                    moves = parts.1;
                  }));
              comes = subst (λ d. MayPrecede g table d row.then l) part row.comes;
              moves = parts.2;
            })
        | inr apart ↦ inl (record {
          number = row.number;
          part = row.part;
          inside = omega (arith, row.inside, apart);
          at = row.at;
          before = row.before;
          then = row.then;
          from = row.from;
          starts = row.starts;
          first = row.first;
          comes = row.comes;
          moves = row.moves;
        })
      ],
      λ either. elim either [
        | inl row ↦ record {
          number = row.number;
          part = row.part;
          inside = omega (arith, row.inside);
          at = row.at;
          before = row.before;
          then = row.then;
          from = row.from;
          starts = row.starts;
          first = row.first;
          comes = row.comes;
          moves = row.moves;
        }
        | inr leaf ↦
            let first = (before leaf.from).0 (subst (λ ms. Contains ms leaf.from) ms_is leaf.starts) in record {
              number = k;
              part = e;
              inside = omega arith;
              at = at;
              before = first.before;
              then = leaf.before;
              from = first.from;
              starts = first.starts;
              first = first.first;
              comes = leaf.comes;
              moves = moves_on first.moves leaf.moves;
            }
      ],
    )

    pub row_none : (es : List Element) (l : Leaf) (m : Mark) → ¬ InRow g table start es 0 l m
    row_none es l m row = omega (arith, row.inside)

    pub each_known : (es : List Element) (i : ℕ) (e : Element) → i < length es → e ≡ get_or es i e → (l : Leaf) (m : Mark) →
        InSome g table start (take (i + 1) es) l m ↔ (InSome g table start (take i es) l m ⊎ AtLeaf g table start e l m)
    each_known es i e inside is l m =
        subst (λ ds. InSome g table start ds l m ↔ (InSome g table start (take i es) l m ⊎ AtLeaf g table start e l m))
        (ap (λ d. take i es ++ d ∷ []) is ∙ sym (take_more es i e inside)) (
          λ some. elim (Contains-push_cases (take i es) e some.part some.among) [
            | inl sooner ↦ inl (record { part = some.part; among = sooner; there = some.there })
            | inr same ↦ inr (subst (λ d. AtLeaf g table start d l m) (sym same) some.there)
          ],
          λ either. elim either [
            | inl some ↦ record { part = some.part; among = Contains-append_left (take i es) (e ∷ []) some.part some.among; there = some.there }
            | inr at ↦ record { part = e; among = Contains-push (take i es) e; there = at }
          ],
        )

    pub each_none : (l : Leaf) (m : Mark) → ¬ InSome g table start [] l m
    each_none l m some = nothing_in some.part some.among
