-- What an element may do, given what the fragments may do, is what it does on its ways; and what may be done before a leaf of it likewise.
use Rattle.std.proofs.Common.{◌≡◌, ℕ, suc, List, [], ◌∷◌, ◌++◌, Some, length, slice_get, refl, sym, ap, ◌∙◌, subst, inl, inr, append-nil, append_assoc}
use Rattle.std.proofs.lemmas.Option.{same_Some}
use Rattle.lw_base.specs.declared.token.Span.{Span}
use Rattle.lw_grammar.specs.declared.grammar.Grammar.{Grammar}
use Rattle.lw_grammar.specs.declared.rule.Element.{Element}
use Rattle.lw_grammar.specs.declared.rule.Element.TheOpen.{Element-F, Call, Group, Many, Some1}
use Rattle.lw_grammar.specs.declared.rule.Rule.{Rule}
use Rattle.lw_grammar.specs.Leaves as leaf
use Rattle.lw_grammar.specs.Leaves.{Leaf, IsFragmentCall}
use Rattle.lw_faults.specs.Steps.{Step, step, PutsInFragment, GoesThrough, GoesLayer, GoesAll, GoesAgain, GetsTo, ComesLayer, ComesAlong}
use Rattle.lw_faults.specs.Steps as steps
use Rattle.lw_flow.specs.declared.callee.Callee.{Callee}
use Rattle.lw_flow.specs.declared.effect.Effect.{Effect}
use Rattle.lw_flow.specs.declared.effect.Effect.TheVariants.{Nothing, Fills, Acts}
use Rattle.lw_flow.specs.Effects.{joined_effect, type_number, StepDoes, HasEffect}
use Rattle.lw_flow.specs.Effects as effect
use Rattle.lw_flow.specs.Callees.{IsCallee}
use Rattle.lw_flow.specs.Callees as call
use Rattle.lw_flow.specs.Passing.{Does, DoesLayer, DoesFirst, DoesTurns, MayPrecede, MayPrecedeLayer}
use Rattle.lw_flow.specs.Passing as pass
use Rattle.lw_flow.specs.Fixed.{GoesDoing, IsSound, IsClosed}
use Rattle.lw_flow.proofs.EffectLemmas.{joined-Nothing, Nothing-joined, joined_assoc, joined-one, effect_of_both}
use Rattle.lw_flow.proofs.RowLemmas.{at_length, cut_there, cut_off, length_one_more}

module _ (g : Grammar) (table : ℕ → Effect → Type 0) where
  abbrev GoesSo : Rule → Element-F Element → Effect → Type 0
  GoesSo rule f x = (done : List Step) × GoesLayer g rule f done × HasEffect g done x

  -- ---- what may be done is done on a way

  -- the first of a row go through steps that do this
  record FirstGo (rule : Rule) (es : List Element) (k : ℕ) (x : Effect) : Type 0 where
    pre : List Element
    post : List Element
    cut : es ≡ pre ++ post
    place : length pre ≡ k
    done : List Step
    go : GoesAll g rule pre done
    has : HasEffect g done x

  one_effect : {at : Step} {x : Effect} → StepDoes g at.leaf x → HasEffect g (at ∷ []) x
  one_effect {at} {x} does = subst (HasEffect g (at ∷ [])) (joined-Nothing x) (effect.more does effect.none)

  once_effect : {done : List Step} {x : Effect} → HasEffect g done x → HasEffect g (done ++ []) x
  once_effect {done} {x} has = subst (λ xs. HasEffect g xs x) (sym (append-nil done)) has

  behind_all : {rule : Rule} {e : Element} {pre : List Element} {first more : List Step} → GoesAll g rule pre first → GoesThrough g rule e more →
      GoesAll g rule (pre ++ e ∷ []) (first ++ more)
  behind_all {rule} {e} {more} steps.none way = subst (GoesAll g rule (e ∷ [])) (append-nil more) (steps.more way steps.none)
  behind_all {rule} {e} {more} (steps.more {e = d} {es} {first = one} {others} goes_one all) way =
      subst (GoesAll g rule (d ∷ (es ++ e ∷ []))) (sym (append_assoc one others more)) (steps.more goes_one (behind_all all way))

  module _ (sound : IsSound g table) where
    mutual
      pub goes_so : (rule : Rule) {e : Element} {x : Effect} → Does g table e x → GoesDoing g rule e x
      goes_so rule (pass.does may) = let way = goes_layer rule may in (way.0, steps.goes way.1, way.2)

      goes_layer : (rule : Rule) {f : Element-F Element} {x : Effect} → DoesLayer g table f x → GoesSo rule f x
      goes_layer rule DoesLayer.keyword = ([], GoesLayer.keyword, effect.none)
      goes_layer rule (DoesLayer.called {name} {s} single may) = (step rule (leaf.Call name s) ∷ [], GoesLayer.called single, one_effect may)
      goes_layer rule (DoesLayer.put_in {name} {s} {x} f fragment is there) = from (sound f x there)
        where
          from : ((other : Rule) × (slice_get g.rules f ≡ Some other) × GoesDoing g other other.body x) → GoesSo rule (Call name s) x
          from (other, at, (done, way, has)) =
              let same : other ≡ fragment = same_Some other fragment (sym at ∙ is.0.first.there) in
              (done, GoesLayer.put_in f fragment is (subst (λ (r : Rule). GoesThrough g r r.body done) same way), has)
      goes_layer rule DoesLayer.assigned = (_, GoesLayer.assigned, one_effect effect.fills)
      goes_layer rule DoesLayer.acted = (_, GoesLayer.acted, one_effect effect.acts)
      goes_layer rule (DoesLayer.grouped {es} {s} {x} first) = from (first_go rule first)
        where
          from : FirstGo rule es (length es) x → GoesSo rule (Group es s) x
          from way =
              let none = cut_off way.pre way.post (way.place ∙ ap length way.cut) in
              let is : way.pre ≡ es = sym (append-nil way.pre) ∙ ap (λ post. way.pre ++ post) (sym none) ∙ sym way.cut in
              (way.done, GoesLayer.grouped (subst (λ es. GoesAll g rule es way.done) is way.go), way.has)
      goes_layer rule (DoesLayer.chosen has may) = let way = goes_so rule may in (way.0, GoesLayer.chosen has way.1, way.2)
      goes_layer rule DoesLayer.skipped = ([], GoesLayer.skipped, effect.none)
      goes_layer rule (DoesLayer.taken may) = let way = goes_so rule may in (way.0, GoesLayer.taken way.1, way.2)
      goes_layer rule DoesLayer.stopped = ([], GoesLayer.repeated steps.stop, effect.none)
      goes_layer rule (DoesLayer.repeated may) =
          let way = goes_so rule may in (way.0 ++ [], GoesLayer.repeated (steps.again way.1 steps.stop), once_effect way.2)
      goes_layer rule (DoesLayer.repeated_once may) =
          let way = goes_so rule may in (way.0 ++ [], GoesLayer.repeated_once way.1 steps.stop, once_effect way.2)

      first_go : (rule : Rule) {es : List Element} {k : ℕ} {x : Effect} → DoesFirst g table es k x → FirstGo rule es k x
      first_go rule (pass.nothing {es}) = record { pre = []; post = es; cut = refl; place = refl; done = []; go = steps.none; has = effect.none }
      first_go rule (pass.one_more {es} {k} {e} {x} {y} first at may) = from (first_go rule first) (goes_so rule may)
        where
          from : FirstGo rule es k x → GoesDoing g rule e y → FirstGo rule es (suc k) (joined_effect x y)
          from way (more, goes_on, has) =
              let there : slice_get (way.pre ++ way.post) (length way.pre) ≡ Some e =
              ap (λ n. slice_get (way.pre ++ way.post) n) way.place ∙ ap (λ es. slice_get es k) (sym way.cut) ∙ at in
              let rest = cut_there way.pre way.post e there in
              record {
                pre = way.pre ++ e ∷ [];
                post = rest.0;
                cut = way.cut ∙ ap (λ post. way.pre ++ post) rest.1 ∙ sym (append_assoc way.pre (e ∷ []) rest.0);
                place = length_one_more way.pre e ∙ ap suc way.place;
                done = way.done ++ more;
                go = behind_all way.go goes_on;
                has = effect_of_both g way.has has;
              }

    -- ---- what may be done before a leaf is done before it

    -- the rule's element comes to the leaf behind steps that do this
    abbrev pub Gets : Rule → Element → Effect → Leaf → Type 0
    Gets rule e x l = (before : List Step) × GetsTo g rule e before l × HasEffect g before x

    turns_go : (rule : Rule) {e : Element} {x : Effect} → DoesTurns g table e x → (turns : List Step) × GoesAgain g rule e turns × HasEffect g turns x
    turns_go rule pass.no_turn = ([], steps.stop, effect.none)
    turns_go rule (pass.turn may) = let way = goes_so rule may in (way.0 ++ [], steps.again way.1 steps.stop, once_effect way.2)

    along : {rule : Rule} {e : Element} {pre : List Element} {first before : List Step} {l : Leaf} (post : List Element) → GoesAll g rule pre first →
        GetsTo g rule e before l → ComesAlong g rule (pre ++ e ∷ post) (first ++ before) l
    along post steps.none gets = steps.here gets
    along {rule} {e} {before} {l} post (steps.more {e = d} {es} {first = one} {others} goes_one all) gets =
        subst (λ xs. ComesAlong g rule (d ∷ (es ++ e ∷ post)) xs l) (sym (append_assoc one others before)) (steps.later goes_one (along post all gets))

    mutual
      pub gets_so : (rule : Rule) {e : Element} {x : Effect} {l : Leaf} → MayPrecede g table e x l → Gets rule e x l
      gets_so rule (pass.comes may) = let way = gets_layer rule may in (way.0, steps.comes way.1, way.2)

      gets_layer : (rule : Rule) {f : Element-F Element} {x : Effect} {l : Leaf} → MayPrecedeLayer g table f x l →
          (before : List Step) × ComesLayer g rule f before l × HasEffect g before x
      gets_layer rule MayPrecedeLayer.called = ([], ComesLayer.called, effect.none)
      gets_layer rule MayPrecedeLayer.assigned = ([], ComesLayer.assigned, effect.none)
      gets_layer rule MayPrecedeLayer.acted = ([], ComesLayer.acted, effect.none)
      gets_layer rule (MayPrecedeLayer.grouped {es} {s} {e} {x} {y} {l} k at first may) = from (first_go rule first) (gets_so rule may)
        where
          from : FirstGo rule es k x → Gets rule e y l → (before : List Step) × ComesLayer g rule (Group es s) before l × HasEffect g before (joined_effect x y)
          from way (before, gets, has) =
              let there : slice_get (way.pre ++ way.post) (length way.pre) ≡ Some e =
              ap (λ n. slice_get (way.pre ++ way.post) n) way.place ∙ ap (λ es. slice_get es k) (sym way.cut) ∙ at in
              let rest = cut_there way.pre way.post e there in
              let is : way.pre ++ e ∷ rest.0 ≡ es = ap (λ post. way.pre ++ post) (sym rest.1) ∙ sym way.cut in (
                way.done ++ before,
                ComesLayer.grouped (subst (λ es. ComesAlong g rule es (way.done ++ before) l) is (along rest.0 way.go gets)),
                effect_of_both g way.has has,
              )
      gets_layer rule (MayPrecedeLayer.chosen has may) = let way = gets_so rule may in (way.0, ComesLayer.chosen has way.1, way.2)
      gets_layer rule (MayPrecedeLayer.taken may) = let way = gets_so rule may in (way.0, ComesLayer.taken way.1, way.2)
      gets_layer rule (MayPrecedeLayer.repeated turns may) =
          let first = turns_go rule turns in
          let way = gets_so rule may in
          (first.0 ++ way.0, ComesLayer.repeated first.1 way.1, effect_of_both g first.2 way.2)
      gets_layer rule (MayPrecedeLayer.repeated_once turns may) =
          let first = turns_go rule turns in
          let way = gets_so rule may in
          (first.0 ++ way.0, ComesLayer.repeated_once first.1 way.1, effect_of_both g first.2 way.2)

  -- ---- what is done on a way may be done, where the table has what the fragments do

  module _ (settled : (name : List ℕ) → (c : Callee) × IsCallee g name c) (closed : IsClosed g table) where
    -- such steps, and the element may do the same
    abbrev pub MayDo : Element → List Step → Type 0
    MayDo e done = (x : Effect) × HasEffect g done x × Does g table e x

    abbrev MaySo : Element-F Element → List Step → Type 0
    MaySo f done = (x : Effect) × HasEffect g done x × DoesLayer g table f x

    -- a row of which the first ones are gone through
    record RowGone (full pre : List Element) (p : Effect) (done : List Step) : Type 0 where
      x : Effect
      has : HasEffect g done x
      whole : DoesFirst g table full (length full) (joined_effect p x)

    one_more_there : {full : List Element} (pre es : List Element) {e : Element} {p x : Effect} → full ≡ pre ++ e ∷ es → DoesFirst g table full (length pre) p → Does g table e x →
        DoesFirst g table full (length (pre ++ e ∷ [])) (joined_effect p x)
    one_more_there {full} pre es {e} {p} {x} is first may =
        subst (λ n. DoesFirst g table full n (joined_effect p x)) (sym (length_one_more pre e))
        (pass.one_more first (ap (λ es. slice_get es (length pre)) is ∙ at_length pre e es) may)

    cut_on : (full pre : List Element) (e : Element) (es : List Element) → full ≡ pre ++ e ∷ es → full ≡ (pre ++ e ∷ []) ++ es
    cut_on full pre e es is = is ∙ sym (append_assoc pre (e ∷ []) es)

    turns_many : {e : Element} {s : Span} {x : Effect} → DoesTurns g table e x → DoesLayer g table (Many e s) x
    turns_many pass.no_turn = DoesLayer.stopped
    turns_many (pass.turn may) = DoesLayer.repeated may

    more_turns : {e : Element} {x y : Effect} → Does g table e x → DoesTurns g table e y → DoesTurns g table e (joined_effect x y)
    more_turns {e} {x} may pass.no_turn = subst (DoesTurns g table e) (sym (joined-Nothing x)) (pass.turn may)
    more_turns {e} {x} {y} may (pass.turn also) = elim (joined-one x y) [
      | inl is ↦ subst (DoesTurns g table e) (sym is) (pass.turn may)
      | inr is ↦ subst (DoesTurns g table e) (sym is) (pass.turn also)
    ]

    at_least_one : {e : Element} {s : Span} {x y : Effect} → Does g table e x → DoesTurns g table e y → DoesLayer g table (Some1 e s) (joined_effect x y)
    at_least_one {e} {s} {x} may pass.no_turn = subst (DoesLayer g table (Some1 e s)) (sym (joined-Nothing x)) (DoesLayer.repeated_once may)
    at_least_one {e} {s} {x} {y} may (pass.turn also) = elim (joined-one x y) [
      | inl is ↦ subst (DoesLayer g table (Some1 e s)) (sym is) (DoesLayer.repeated_once may)
      | inr is ↦ subst (DoesLayer g table (Some1 e s)) (sym is) (DoesLayer.repeated_once also)
    ]

    mutual
      pub goes_may : {rule : Rule} {e : Element} {done : List Step} → GoesThrough g rule e done → MayDo e done
      goes_may (steps.goes way) = let may = layer_may way in (may.0, may.1, pass.does may.2)

      layer_may : {rule : Rule} {f : Element-F Element} {done : List Step} → GoesLayer g rule f done → MaySo f done
      layer_may GoesLayer.keyword = (Nothing, effect.none, DoesLayer.keyword)
      layer_may (GoesLayer.called {rule} {name} {s} single) = from (settled name)
        where
          from : ((c : Callee) × IsCallee g name c) → MaySo (Call name s) (step rule (leaf.Call name s) ∷ [])
          from (_, call.fragment f fragment is part) = absurd (single (f, fragment, (is, part)))
          from (_, call.step x _ may) = (x, one_effect (may s), DoesLayer.called single (may s))
      layer_may (GoesLayer.put_in f fragment is way) =
          let may = goes_may way in (may.0, may.1, DoesLayer.put_in f fragment is (closed f fragment may.0 tt is.0.first.there is.1 may.2))
      layer_may GoesLayer.assigned = (Fills, one_effect effect.fills, DoesLayer.assigned)
      layer_may (GoesLayer.acted {a}) = (Acts (type_number g a.type_name), one_effect effect.acts, DoesLayer.acted)
      layer_may (GoesLayer.grouped {es} {s} {steps = done} all) = from (row_may es [] Nothing refl pass.nothing all)
        where
          from : RowGone es [] Nothing done → MaySo (Group es s) done
          from may = (may.x, may.has, DoesLayer.grouped (subst (DoesFirst g table es (length es)) (Nothing-joined may.x) may.whole))
      layer_may (GoesLayer.chosen has way) = let may = goes_may way in (may.0, may.1, DoesLayer.chosen has may.2)
      layer_may GoesLayer.skipped = (Nothing, effect.none, DoesLayer.skipped)
      layer_may (GoesLayer.taken way) = let may = goes_may way in (may.0, may.1, DoesLayer.taken may.2)
      layer_may (GoesLayer.repeated way) = let may = turns_may way in (may.0, may.1, turns_many may.2)
      layer_may (GoesLayer.repeated_once way more) =
          let may = goes_may way in
          let turns = turns_may more in
          (joined_effect may.0 turns.0, effect_of_both g may.1 turns.1, at_least_one may.2 turns.2)

      row_may : {rule : Rule} {es : List Element} {done : List Step} (full pre : List Element) (p : Effect) → full ≡ pre ++ es →
          DoesFirst g table full (length pre) p → GoesAll g rule es done → RowGone full pre p done
      row_may full pre p is first steps.none = record {
        x = Nothing;
        has = effect.none;
        whole =
            subst (DoesFirst g table full (length full)) (sym (joined-Nothing p))
            (subst (λ n. DoesFirst g table full n p) (ap length (sym (append-nil pre) ∙ sym is)) first);
      }
      row_may full pre p is first (steps.more {e} {es} {first = one} {others} way all) =
          from (goes_may way) (λ (may : MayDo e one). row_may full (pre ++ e ∷ []) (joined_effect p may.0) (cut_on full pre e es is) (one_more_there pre es is first may.2) all)
        where
          from : (may : MayDo e one) → ((may : MayDo e one) → RowGone full (pre ++ e ∷ []) (joined_effect p may.0) others) → RowGone full pre p (one ++ others)
          from may rest = let more = rest may in record {
            x = joined_effect may.0 more.x;
            has = effect_of_both g may.1 more.has;
            whole = subst (DoesFirst g table full (length full)) (joined_assoc p may.0 more.x) more.whole;
          }

      turns_may : {rule : Rule} {e : Element} {done : List Step} → GoesAgain g rule e done → (x : Effect) × HasEffect g done x × DoesTurns g table e x
      turns_may steps.stop = (Nothing, effect.none, pass.no_turn)
      turns_may (steps.again way more) =
          let may = goes_may way in
          let turns = turns_may more in
          (joined_effect may.0 turns.0, effect_of_both g may.1 turns.1, more_turns may.2 turns.2)

    abbrev pub MayCome : Element → List Step → Leaf → Type 0
    MayCome e before l = (x : Effect) × HasEffect g before x × MayPrecede g table e x l

    abbrev MayComeSo : Element-F Element → List Step → Leaf → Type 0
    MayComeSo f before l = (x : Effect) × HasEffect g before x × MayPrecedeLayer g table f x l

    -- the leaf is in a row of which the first ones are gone through
    abbrev ComesInRow : List Element → Span → Effect → List Step → Leaf → Type 0
    ComesInRow full s p before l = (x : Effect) × HasEffect g before x × MayPrecedeLayer g table (Group full s) (joined_effect p x) l

    mutual
      pub gets_may : {rule : Rule} {e : Element} {before : List Step} {l : Leaf} → GetsTo g rule e before l → MayCome e before l
      gets_may (steps.comes way) = let may = comes_may way in (may.0, may.1, pass.comes may.2)

      comes_may : {rule : Rule} {f : Element-F Element} {before : List Step} {l : Leaf} → ComesLayer g rule f before l → MayComeSo f before l
      comes_may ComesLayer.called = (Nothing, effect.none, MayPrecedeLayer.called)
      comes_may ComesLayer.assigned = (Nothing, effect.none, MayPrecedeLayer.assigned)
      comes_may ComesLayer.acted = (Nothing, effect.none, MayPrecedeLayer.acted)
      comes_may (ComesLayer.grouped {es} {s} {before} {l} along) = from (along_may es s [] Nothing refl pass.nothing along)
        where
          from : ComesInRow es s Nothing before l → MayComeSo (Group es s) before l
          from (x, has, may) = (x, has, subst (λ y. MayPrecedeLayer g table (Group es s) y l) (Nothing-joined x) may)
      comes_may (ComesLayer.chosen has way) = let may = gets_may way in (may.0, may.1, MayPrecedeLayer.chosen has may.2)
      comes_may (ComesLayer.taken way) = let may = gets_may way in (may.0, may.1, MayPrecedeLayer.taken may.2)
      comes_may (ComesLayer.repeated turns way) =
          let first = turns_may turns in
          let may = gets_may way in
          (joined_effect first.0 may.0, effect_of_both g first.1 may.1, MayPrecedeLayer.repeated first.2 may.2)
      comes_may (ComesLayer.repeated_once turns way) =
          let first = turns_may turns in
          let may = gets_may way in
          (joined_effect first.0 may.0, effect_of_both g first.1 may.1, MayPrecedeLayer.repeated_once first.2 may.2)

      along_may : {rule : Rule} {es : List Element} {before : List Step} {l : Leaf} (full : List Element) (s : Span) (pre : List Element) (p : Effect) →
          full ≡ pre ++ es → DoesFirst g table full (length pre) p → ComesAlong g rule es before l → ComesInRow full s p before l
      along_may full s pre p is first (steps.here {e} {es} way) =
          let may = gets_may way in
          (may.0, may.1, MayPrecedeLayer.grouped (length pre) (ap (λ es. slice_get es (length pre)) is ∙ at_length pre e es) first may.2)
      along_may full s pre p is first (steps.later {e} {es} {first = one} {before} {l} way along) =
          from (goes_may way)
          (λ (may : MayDo e one). along_may full s (pre ++ e ∷ []) (joined_effect p may.0) (cut_on full pre e es is) (one_more_there pre es is first may.2) along)
        where
          from : (may : MayDo e one) → ((may : MayDo e one) → ComesInRow full s (joined_effect p may.0) before l) → ComesInRow full s p (one ++ before) l
          from may rest =
              let more = rest may in (
                joined_effect may.0 more.0,
                effect_of_both g may.1 more.1,
                subst (λ y. MayPrecedeLayer g table (Group full s) y l) (joined_assoc p may.0 more.0) more.2,
              )
