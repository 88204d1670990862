-- The flags of places are exact: what an instruction says of its place by later places is what its task may do.
use Rattle.std.proofs.Common.{◌≡◌, ℕ, zero, suc, ◌+◌, ◌-◌, ◌<◌, ◌≤◌, List, [], ◌∷◌, ◌++◌, Bool, Some, None, length, slice_get, ◌↔◌, refl, sym, ap, ◌∙◌, subst, append-nil, arith}
use Rattle.std.proofs.lemmas.Option.{slice_get_within, same_Some}
use Rattle.lw_base.specs.declared.token.Span.{Span}
use Rattle.lw_base.specs.declared.numbers.PointId.{PointId}
use Rattle.lw_grammar.specs.declared.grammar.Grammar.{Grammar}
use Rattle.lw_grammar.specs.declared.rule.Element.{Element}
use Rattle.lw_grammar.specs.declared.rule.Element.TheOpen as layer
use Rattle.lw_grammar.specs.declared.rule.Rule.{Rule}
use Rattle.lw_grammar.specs.declared.rule.Value0.{Value0}
use Rattle.lw_grammar.specs.declared.rule.Value0.TheOpen as value
use Rattle.lw_grammar.specs.Kinds.{Kinds, IsTerminalKind}
use Rattle.lw_grammar.specs.Named.{IsRule}
use Rattle.lw_grammar.proofs.FirstLemmas.{first_place, first_item}
use Rattle.lw_grammar.specs.Marks.{kinds_of}
use Rattle.lw_grammar.specs.Marks as mark
use Rattle.lw_grammar.specs.Yields.{Calls, RuleGives}
use Rattle.lw_grammar.specs.Yields as y
use Rattle.lw_look.specs.Sites.{PartSite, ◌▸◌, Body, Value, IsPartAt, ElementAt, ValueAt, RepeatedAt, ValueCallsAt}
use Rattle.lw_look.specs.Sites as site
use Rattle.lw_look.specs.Things.{Do, Assigned, Again, Leave}
use Rattle.lw_look.specs.Things as t
use Rattle.lw_look.proofs.Apart.{no_terminal_is_rule}
use Rattle.lw_grammar.proofs.Naming.{one_name_rule}
use Rattle.lw_base.proofs.Lists.{place_of, among}
use Rattle.lw_look.proofs.Standing.{one_stands, same_body, row_part_stands, repeated_stands, way_stands}
use Rattle.lw_program.specs.declared.instr.Instr.{Instr}
use Rattle.lw_program.specs.declared.instr.Instr.TheVariants.{Loop, Once}
use Rattle.lw_program.specs.Says.{Task, Does, Reads, thing_of, NamesLater, StandFrom, CallsBy, SaysTask, SaidAt}
use Rattle.lw_program.specs.Says as say
use Rattle.lw_viable.specs.EmptyBy.{IsFlagged, IsEmptyBy, AreEmptyFrom}
use Rattle.lw_viable.specs.Gives.{MayBeEmpty}
use Rattle.lw_viable.specs.Gives as give
use Rattle.lw_viable.proofs.NoToken.{ElementNone, ValueNone, LayerNone, ValueLayerNone, CallNone, RuleNone, no_keyword, call_of, row_of, all_none, way_of, once_of, no_keyword_value, way_of_value, value_as, of_value, a_token}
use Rattle.lw_viable.proofs.Tasks.{element_task, layer_task, assigned_task, reads_task, value_stands}

pub item_at : {X : Type 0} (xs : List X) (i : ℕ) → i < length xs → (x : X) × (slice_get xs i ≡ Some x)
item_at [] i below = absurd (omega arith)
item_at (x ∷ xs) zero below = (x, refl)
item_at (x ∷ xs) (suc i) below = item_at xs i (omega arith)

pub via : {A B C : Type 0} → A ↔ B → B ↔ C → A ↔ C
via (to, fro) (on, back) = (λ a. on (to a), λ c. fro (back c))

module _ (g : Grammar) (kinds : Kinds) (tasks : List Task) (calls empty : List Bool) where
  -- what is told of the rules, and of the places behind one
  abbrev pub RulesAreTold : Type 0
  RulesAreTold = (r : ℕ) (rule : Rule) → slice_get g.rules r ≡ Some rule → RuleNone g kinds r rule ↔ IsFlagged calls r

  abbrev pub PlacesAreTold : ℕ → Type 0
  PlacesAreTold p = (q : ℕ) (u : Task) → p < q → slice_get tasks q ≡ Some u → MayBeEmpty g kinds u ↔ IsFlagged empty q

  -- ---- items side by side

  module _ {X : Type 0} (task : ℕ → X → Task) (items : List X) (first end : ℕ) (stand : StandFrom tasks task items first end) (p : ℕ) (behind : p < first)
      (told : PlacesAreTold p) (None_ : X → Type 0) (means : (i : ℕ) (x : X) → slice_get items i ≡ Some x → MayBeEmpty g kinds (task i x) ↔ None_ x) where
    item_told : (i : ℕ) (x : X) → slice_get items i ≡ Some x → None_ x ↔ IsFlagged empty (first + i)
    item_told i x at =
        let tells = told (first + i) (task i x) (omega arith) (stand.each i x at) in
        (λ none. tells.0 ((means i x at).1 none), λ flagged. (means i x at).0 (tells.1 flagged))

    at_place : (q : ℕ) → first ≤ q → q < end → (i : ℕ) × (x : X) × (slice_get items i ≡ Some x) × (first + i ≡ q)
    at_place q from below =
        let (x, at) = item_at items (q - first) (omega (arith, stand.sized)) in (q - first, x, at, omega arith)

    every_item : ((i : ℕ) (x : X) → slice_get items i ≡ Some x → None_ x) ↔ ((q : ℕ) → first ≤ q → q < end → IsFlagged empty q)
    every_item = (
      λ each q from below. let (i, x, at, is) = at_place q from below in subst (IsFlagged empty) is ((item_told i x at).0 (each i x at)),
      λ flags i x at. (item_told i x at).1 (flags (first + i) (omega arith) (omega (arith, stand.sized, slice_get_within items i x at))),
    )

    some_item : ((i : ℕ) × (x : X) × (slice_get items i ≡ Some x) × None_ x) ↔ ((q : ℕ) × (first ≤ q) × (q < end) × IsFlagged empty q)
    some_item = (
      λ (i, x, at, none). (first + i, omega arith, omega (arith, stand.sized, slice_get_within items i x at), (item_told i x at).0 none),
      λ (q, from, below, flagged). let (i, x, at, is) = at_place q from below in (i, x, at, (item_told i x at).1 (subst (IsFlagged empty) (sym is) flagged)),
    )

  -- ---- calls

  module _ (code : List Instr) (rules : RulesAreTold) where
    rule_of_call : {name : List ℕ} {r : ℕ} {rule : Rule} → IsRule g name r rule → CallNone g kinds name → RuleNone g kinds r rule
    rule_of_call {name} {r} {rule} is (m, y.terminal other, none) = absurd (a_token none)
    rule_of_call {name} {r} {rule} is (m, y.rule_ q called other p, none) = (
      m,
      subst (λ r. RuleGives g kinds r rule m) (first_place other.first is.first) (subst (λ rule. RuleGives g kinds q rule m) (first_item other.first is.first) p),
      none,
    )

    terminal_call : {name : List ℕ} {k : ℕ} → IsTerminalKind g kinds name k → CallNone g kinds name → ⊥
    terminal_call is (m, y.terminal other, none) = a_token none
    terminal_call {name} {k} is (m, y.rule_ r rule other p, none) = no_terminal_is_rule g kinds name k r rule is other

    call_told : {name : List ℕ} {instr : Instr} → CallsBy g kinds name instr → CallNone g kinds name ↔ IsEmptyBy calls code empty instr
    call_told (say.terminal is) = (terminal_call is, λ none. absurd none)
    call_told (say.rule_ {r} {rule} is) =
        let tells = rules r rule is.first.there in
        (λ none. tells.0 (rule_of_call is none), λ flagged. let (m, p, none) = tells.1 flagged in (m, y.rule_ r rule is p, none))

    -- a value and the call that reads its text
    value_call : {s : PartSite} {v : Value0} {name : List ℕ} → ValueCallsAt g s v name → IsPartAt g s (Value v) × (ValueNone g kinds v ↔ CallNone g kinds name)
    value_call {v} {name} (site.calls at) =
        let (stands, is) = value_stands g kinds at in
        (stands, (λ none. to (value_as g kinds is none), λ (m, c, none). of_value g kinds is (v, m, y.call_value c, none)))
      where
        to : {span : Span} → ValueLayerNone g kinds v (value.Call name span) → CallNone g kinds name
        to (c, m, y.call_value p, none) = (m, p, none)
    value_call {v} {name} (site.crosses {wanted} at) =
        let (stands, is) = value_stands g kinds at in
        (stands, (λ none. to (value_as g kinds is none), λ (m, c, none). of_value g kinds is (v, m, y.cross_value c, none)))
      where
        to : {span : Span} → ValueLayerNone g kinds v (value.Cross wanted (Some name) span) → CallNone g kinds name
        to (c, m, y.cross_value p, none) = (m, p, none)
    value_call {v} {name} (site.crosses_by_name {wanted} _ at named) =
        let (stands, is) = value_stands g kinds at in
        (stands, (λ none. to (value_as g kinds is none), λ (m, c, none). of_value g kinds is (v, m, y.cross_by_name name named c, none)))
      where
        to : {span : Span} → ValueLayerNone g kinds v (value.Cross wanted None span) → CallNone g kinds name
        to (c, m, y.cross_by_name other also p, none) = (m, subst (λ name. Calls g kinds name m) (one_name_rule g wanted other name also named) p, none)

    -- ---- the loop of `+`

    -- at the place of a repetition stands its loop
    record IsLoopOf (s : PartSite) (instr : Instr) : Type 0 where
      point : PointId
      inner : ℕ
      is : instr ≡ Loop point inner
      e : Element
      at : RepeatedAt g s e
      stands : slice_get tasks inner ≡ Some (thing_of (s ▸ 0) e)

    loop_of : {s : PartSite} {instr : Instr} → SaysTask g kinds tasks (Does (Again s)) instr → IsLoopOf s instr
    loop_of (say.loop {e} {point} {inner} at number stands) = record { point = point; inner = inner; is = refl; e = e; at = at; stands = stands }

    module _ (sized : length tasks ≡ length code) (said : (p : ℕ) → p < length code → SaidAt g kinds tasks code p) where
      once_told : {s : PartSite} {e : Element} {span : Span} (p rest : ℕ) → p < rest → PlacesAreTold p → ElementAt g s (layer.Some1 e span) →
          slice_get tasks rest ≡ Some (Does (Again s)) → LayerNone g kinds (layer.Some1 e span) ↔ IsEmptyBy calls code empty (Once rest)
      once_told {s} {e} {span} p rest behind told at there = (to, fro)
        where
          below : rest < length code
          below = omega (arith, slice_get_within tasks rest (Does (Again s)) there, sized)

          here : SaidAt g kinds tasks code rest
          here = said rest below

          loop : IsLoopOf s here.instr
          loop = loop_of (subst (λ t. SaysTask g kinds tasks t here.instr) (same_Some here.task (Does (Again s)) (sym here.stands ∙ there)) here.says)

          is_loop : slice_get code rest ≡ Some (Loop loop.point loop.inner)
          is_loop = here.is ∙ ap Some loop.is

          further : rest < loop.inner
          further = subst (NamesLater rest) loop.is here.later

          same : loop.e ≡ e
          same = same_body (one_stands g (repeated_stands g loop.at) (repeated_stands g (site.some at)))

          body_told : ElementNone g kinds loop.e ↔ IsFlagged empty loop.inner
          body_told =
              let means = element_task g kinds (repeated_stands g loop.at) in
              let tells = told loop.inner (thing_of (s ▸ 0) loop.e) (omega (arith, behind, further)) loop.stands in
              (λ none. tells.0 (means.1 none), λ flagged. means.0 (tells.1 flagged))

          to : LayerNone g kinds (layer.Some1 e span) → IsEmptyBy calls code empty (Once rest)
          to none = (loop.point, loop.inner, is_loop, body_told.0 (subst (ElementNone g kinds) (sym same) (once_of g kinds none)))

          fro : IsEmptyBy calls code empty (Once rest) → LayerNone g kinds (layer.Some1 e span)
          fro (point, inner, at', flagged) =
              let one : inner ≡ loop.inner = same_inner (same_Some (Loop point inner) (Loop loop.point loop.inner) (sym at' ∙ is_loop)) in
              once_by (subst (ElementNone g kinds) same (body_told.1 (subst (IsFlagged empty) one flagged)))
            where
              same_inner : {a b : PointId} {i j : ℕ} → Loop a i ≡ Loop b j → i ≡ j
              same_inner eq = cc

              once_by : ElementNone g kinds e → LayerNone g kinds (layer.Some1 e span)
              once_by (m, q, none) = (m ++ [], y.repeated_once q y.stop, ap kinds_of (append-nil m) ∙ none)

      -- ---- each instruction

      place_told : {t : Task} {instr : Instr} (p : ℕ) → PlacesAreTold p → SaysTask g kinds tasks t instr → NamesLater p instr →
          MayBeEmpty g kinds t ↔ IsEmptyBy calls code empty instr
      place_told p told (say.keyword at is) later = (λ may. no_keyword g kinds ((layer_task g kinds at).0 may), λ none. absurd none)
      place_told p told (say.called at by) later =
          via (layer_task g kinds at) (via (call_of g kinds, λ (m, c, none). (m, y.called c, none)) (call_told by))
      place_told p told (say.acted {a} at number) later = (λ may. tt, λ is. (layer_task g kinds at).1 (mark.Act a ∷ [], y.acted, refl))
      place_told p told (say.row {s} {es} {first} {end} (site.row at) stand) later =
          via (layer_task g kinds at)
          (via (row_of g kinds, λ each. let (m, ps, none) = all_none g kinds es each in (m, y.grouped ps, none))
          (every_item (λ i e. thing_of (s ▸ i) e) es first end stand p later told (ElementNone g kinds) (λ i e is. element_task g kinds (row_part_stands g at is))))
      place_told p told (say.choice {s} {es} {span} {first} {end} at number stand) later =
          via (layer_task g kinds at)
          (via (to, λ (i, e, is, (m, q, none)). (m, y.chosen (among es i e is) q, none))
          (some_item (λ i e. thing_of (s ▸ i) e) es first end stand p later told (ElementNone g kinds)
          (λ i e is. element_task g kinds (way_stands g (site.element at is)))))
        where
          to : LayerNone g kinds (layer.Choice es span) → (i : ℕ) × (e : Element) × (slice_get es i ≡ Some e) × ElementNone g kinds e
          to none = let (e, has, one) = way_of g kinds none in let (i, is) = place_of es e has in (i, e, is, one)
      place_told p told (say.maybe (site.optional at) number stands) later = (λ may. tt, λ is. (layer_task g kinds at).1 ([], y.skipped, refl))
      place_told p told (say.loop at number stands) later = (λ may. tt, λ is. ([], give.does (t.repeats at y.stop), refl))
      place_told p told (say.once {rest} at stands) later = via (layer_task g kinds at) (once_told p rest later told at stands)
      place_told p told (say.value_choice {p = into} {op} {s} {v} {vs} {span} {first} {end} at number stand) later =
          let (stands, is) = value_stands g kinds at in
          via (assigned_task g kinds stands)
          (via (λ none. to (value_as g kinds is none), λ (i, w, there, (c, m, q, none)). of_value g kinds is (c, m, y.chosen_value (among vs i w there) q, none))
          (some_item (λ i w. Does (Assigned into op (s ▸ i))) vs first end stand p later told (ValueNone g kinds)
          (λ i w there. assigned_task g kinds (way_stands g (site.assigned at there)))))
        where
          to : ValueLayerNone g kinds v (value.Choice vs span) → (i : ℕ) × (w : Value0) × (slice_get vs i ≡ Some w) × ValueNone g kinds w
          to none = let (w, has, one) = way_of_value g kinds none in let (i, is) = place_of vs w has in (i, w, is, one)
      place_told p told (say.put {s} {first} stands number reads ends) later =
          let means = reads_task g kinds stands in
          via (assigned_task g kinds stands) (via (means.1, means.0) (told first (Reads s) later reads))
      place_told p told (say.reads_keyword at is) later =
          let (stands, same) = value_stands g kinds at in
          (λ may. no_keyword_value g kinds (value_as g kinds same ((reads_task g kinds stands).0 may)), λ none. absurd none)
      place_told p told (say.reads_call at by) later =
          let (stands, reads) = value_call at in via (reads_task g kinds stands) (via reads (call_told by))
      place_told p told say.ends later = (λ may. tt, λ is. (mark.End ∷ [], give.does t.leaves, refl))
      place_told p told say.shuts later = (λ may. tt, λ is. (mark.Shut ∷ [], give.does t.leaves, refl))

      -- ---- every place, from the last to the first

      module _ (flags : AreEmptyFrom calls code empty 0) where
        behind_told : (left p : ℕ) → p + left ≡ length code → PlacesAreTold p
        behind_told zero p is q u after at = absurd (omega (arith, is, after, slice_get_within tasks q u at, sized))
        behind_told (suc left) p is q u after at =
            let below : q < length code = omega (arith, slice_get_within tasks q u at, sized) in
            let here = said q below in
            let told = behind_told left (p + 1) (omega arith) in
            let tells = place_told q (λ r v more at'. told r v (omega arith) at') here.says here.later in
            let flag = flags q here.instr (omega arith) here.is in
            subst (λ u. MayBeEmpty g kinds u ↔ IsFlagged empty q) (same_Some here.task u (sym here.stands ∙ at)) (via tells (flag.1, flag.0))

        pub all_told : (p : ℕ) (u : Task) → slice_get tasks p ≡ Some u → MayBeEmpty g kinds u ↔ IsFlagged empty p
        all_told p u at =
            let below : p < length code = omega (arith, slice_get_within tasks p u at, sized) in
            let here = said p below in
            let tells = place_told p (behind_told (length code - p) p (omega arith)) here.says here.later in
            let flag = flags p here.instr (omega arith) here.is in
            subst (λ u. MayBeEmpty g kinds u ↔ IsFlagged empty p) (same_Some here.task u (sym here.stands ∙ at)) (via tells (flag.1, flag.0))
