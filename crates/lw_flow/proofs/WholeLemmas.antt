-- The rows of all rules are the ways of the grammar.
use Rattle.std.proofs.Common.{◌≡◌, ◌≢◌, ◌↔◌, ℕ, ◌+◌, ◌<◌, ◌≤◌, Bool, true, false, List, [], ◌∷◌, ◌++◌, Option, Some, None, length, slice_get, Any, Contains, refl, sym, ap, ◌∙◌, subst, inl, inr, arith, lit<, length-append}
use Rattle.std.specs.HashSet.{HashSet}
use Rattle.std.proofs.lemmas.Bool.{cases_lt}
use Rattle.std.proofs.lemmas.Option.{same_Some, none-some, slice_get_within}
use Rattle.std.proofs.lemmas.List.Elements.{All-contains, Contains-append_right}
use Rattle.lw_grammar.specs.declared.grammar.Grammar.{Grammar}
use Rattle.lw_grammar.specs.declared.rule.Rule.{Rule}
use Rattle.lw_grammar.specs.Leaves as leaf
use Rattle.lw_grammar.specs.Leaves.{Leaf, leaves, IsFragmentCall}
use Rattle.lw_grammar.specs.Subtypes.{HasType}
use Rattle.lw_faults.specs.Steps.{Step, step, PutsInFragment, BodyBegins, IsBehind, CallsNode, IsCurrentType}
use Rattle.lw_faults.specs.Steps as steps
use Rattle.lw_faults.specs.Misplaced.{FillsNode}
use Rattle.lw_faults.proofs.StepLemmas.{rule_there}
use Rattle.lw_numbers.specs.Numbering.{type_names}
use Rattle.lw_flow.specs.declared.before.Before.{Before}
use Rattle.lw_flow.specs.declared.callee.Callee.{Callee}
use Rattle.lw_flow.specs.declared.effect.Effect.{Effect}
use Rattle.lw_flow.specs.declared.effect.Effect.TheVariants.{Nothing, Reads, Fills, Calls, Acts}
use Rattle.lw_flow.specs.declared.effect.Mark.{Mark}
use Rattle.lw_flow.specs.declared.effect.Mark.TheVariants.{Done, Own, Of}
use Rattle.lw_flow.specs.declared.walking.Visit.{Visit}
use Rattle.lw_flow.specs.Arrivals.{BelongsTo, Arrives, IsOfWay, AreArrivals}
use Rattle.lw_flow.specs.Arrivals as mark
use Rattle.lw_flow.specs.Callees.{IsCallee}
use Rattle.lw_flow.specs.Effects.{weight, joined_effect, type_number, own_number, HasEffect}
use Rattle.lw_flow.specs.Effects as effect
use Rattle.lw_flow.specs.Entries.{IsEntryOf, IsRowOf, SomeWeighs, current_of, type_of, single_marks, single_at}
use Rattle.lw_flow.specs.Fixed.{IsSound, IsClosed}
use Rattle.lw_flow.specs.Passing.{MayPrecede}
use Rattle.lw_flow.specs.Recorded.{HasNumberOf, Somewhere, HasEntries, AreWaysOf}
use Rattle.lw_flow.specs.Rows.{InTable}
use Rattle.lw_flow.specs.Visits.{IsPlaceOf}
use Rattle.lw_flow.specs.Whole.{AreRowsOf}
use Rattle.lw_flow.proofs.ArrivalLemmas.{fragment_there, belongs_moved, belongs_from}
use Rattle.lw_flow.proofs.CurrentLemmas.{current_number, current_told, own_is_current, act_is_current, call_is_current}
use Rattle.lw_flow.proofs.EffectLemmas.{effect_of_both, no_steps, no_effect, some_one, so_much, tells_fills}
use Rattle.lw_flow.proofs.NumberLemmas.{same_place, has_place, of_action, of_type, own_type, type_of_number}
use Rattle.lw_flow.proofs.PassingLemmas.{gets_so, gets_may}
use Rattle.lw_flow.proofs.RowLemmas.{at_place, place_there, some_there}
use Rattle.lw_flow.proofs.SetLemmas.{nothing_in}
use Rattle.lw_flow.proofs.TableLemmas.{get_end, row_exact}
use Rattle.lw_flow.proofs.WrittenLemmas.{AllWritten, IsWritten, behind_written, whole_rule}

-- ---- the marks of a visit that is no call of a fragment

single_there : (m : Mark) (o : Option ℕ) (keys : List Mark) → Contains (single_at o keys) m → Contains keys m × (o ≡ None)
single_there m None keys has = (has, refl)
single_there m (Some f) keys has = absurd (nothing_in m has)

module _ (g : Grammar) where
  single_place : (l : Leaf) (o : Option ℕ) → IsPlaceOf g l o → o ≡ None → ¬ PutsInFragment g l
  single_place l None place is = place
  single_place l (Some f) place is = absurd (none-some f (sym is))

  there_single : (l : Leaf) (o : Option ℕ) (keys : List Mark) → IsPlaceOf g l o → ¬ PutsInFragment g l → (m : Mark) → Contains keys m → Contains (single_at o keys) m
  there_single l None keys place single m has = has
  there_single l (Some f) keys place single m has = absurd (single (f, place.0, place.1))

  -- a way to the step that has this mark
  record Way (at : Step) (m : Mark) : Type 0 where
    rule : Rule
    before : List Step
    effect : Effect
    behind : IsBehind g rule before at
    does : HasEffect g before effect
    belongs : BelongsTo g rule effect m

  module _ {S : Type 0} (table : ℕ → Effect → Type 0) (sound : IsSound g table) (closed : IsClosed g table) (settled : (name : List ℕ) → (c : Callee) × IsCallee g name c)
      (marks : List (HashSet Mark S)) (sized : length marks ≡ length g.rules) (arrivals : AreArrivals g table (InTable marks)) (rows : List (List Before))
      (are : AreRowsOf g table marks (length g.rules) rows) where
    -- an entry with all that is known of it
    record Place (at : Step) (w i : ℕ) (row : List Before) (entry : Before) : Type 0 where
      start : HashSet Mark S
      starts : slice_get marks w ≡ Some start
      whole : IsRowOf g table at.written start.keys row
      visit : Visit
      there : slice_get whole.visits i ≡ Some visit
      is : IsEntryOf (single_marks visit) entry

    row_start : (w : ℕ) → w < length g.rules → (start : HashSet Mark S) × (slice_get marks w ≡ Some start)
    row_start w inside = some_there marks w (omega (arith, inside, sized))

    place : {at : Step} (w i : ℕ) (row : List Before) (entry : Before) → slice_get g.rules w ≡ Some at.written → slice_get rows w ≡ Some row → slice_get row i ≡ Some entry →
        Place at w i row entry
    place {at} w i row entry written in_rows in_row = from (row_start w (slice_get_within g.rules w at.written written))
      where
        from : ((start : HashSet Mark S) × (slice_get marks w ≡ Some start)) → Place at w i row entry
        from (start, starts) =
            let whole = are.each w at.written start row written starts in_rows in
            let v = some_there whole.visits i (omega (arith, slice_get_within row i entry in_row, whole.are.all)) in
            record { start = start; starts = starts; whole = whole; visit = v.0; there = v.1; is = whole.are.each i v.0 entry v.1 in_row }

    -- ---- what is told is of a way

    way_of : {at : Step} {w i : ℕ} {row : List Before} {entry : Before} (p : Place at w i row entry) → slice_get g.rules w ≡ Some at.written →
        slice_get (leaves at.written.body) i ≡ Some at.leaf → (m : Mark) → Contains (single_marks p.visit) m → Way at m
    way_of {at} {w} {i} p written leaf m has = from (single_there m p.visit.enters p.visit.marks.keys has)
      where
        from : (Contains p.visit.marks.keys m × (p.visit.enters ≡ None)) → Way at m
        from (within, single) =
            let told = p.whole.tells.sound i p.visit m p.there within in
            let same : told.0 ≡ at.leaf = same_Some told.0 at.leaf (sym told.1 ∙ leaf) in
            let may = subst (λ l. MayPrecede g table at.written.body told.2.before l) same told.2.comes in
            let known = arrivals.known w told.2.from ((row_exact marks w p.start p.starts p.start.keys refl told.2.from).0 told.2.starts) in
            let a = known.arrives in
            let written_there : a.written ≡ at.written = same_Some a.written at.written (sym a.there ∙ written) in
            let way = gets_so g table sound at.written may in record {
              rule = known.rule;
              before = a.before ++ way.0;
              effect = joined_effect known.effect told.2.before;
              behind = record {
                outside = a.before;
                inside = way.0;
                begins = subst (BodyBegins g known.rule a.before) written_there a.begins;
                comes = way.1;
                single = single_place at.leaf p.visit.enters (p.whole.tells.place i at.leaf p.visit leaf p.there) single;
                all = refl;
              };
              does = effect_of_both g a.does way.2;
              belongs = belongs_moved g known.belongs told.2.moves;
            }

    -- ---- what a way has is told

    record Begun (rule inside : Rule) (before : List Step) : Type 0 where
      w : ℕ
      there : slice_get g.rules w ≡ Some inside
      effect : Effect
      does : HasEffect g before effect
      told : (m : Mark) → BelongsTo g rule effect m → InTable marks w m

    begun : {rule inside : Rule} {before : List Step} → BodyBegins g rule before inside → Begun rule inside before
    begun (steps.itself {rule} has whole) =
        let at = place_there g.rules rule has in record {
          w = at.0;
          there = at.1;
          effect = Nothing;
          does = effect.none;
          told = λ m belongs. arrivals.starts at.0 m (record { rule = rule; there = at.1; whole = whole; belongs = belongs });
        }
    begun (BodyBegins.put_in {rule} {inside} {before} {more} l f fragment sooner gets is) = from (begun sooner) (gets_may g table settled closed gets)
      where
        from : Begun rule inside before → ((x : Effect) × HasEffect g more x × MayPrecede g table inside.body x l) → Begun rule fragment (before ++ more)
        from first (x, has, may) = record {
          w = f;
          there = fragment_there g l f fragment is;
          effect = joined_effect first.effect x;
          does = effect_of_both g first.does has;
          told = λ m belongs.
              let back = belongs_from g first.effect x belongs in
              arrivals.passed first.w inside l f fragment x back.0 m tt first.there may is (first.told back.0 back.1) back.2;
        }

    -- the place where a mark of a way is told
    record Found (at : Step) (m : Mark) : Type 0 where
      w : ℕ
      i : ℕ
      row : List Before
      entry : Before
      written : slice_get g.rules w ≡ Some at.written
      leaf : slice_get (leaves at.written.body) i ≡ Some at.leaf
      in_rows : slice_get rows w ≡ Some row
      in_row : slice_get row i ≡ Some entry
      marks_there : List Mark
      is : IsEntryOf marks_there entry
      has : Contains marks_there m

    record Told (rule : Rule) (before : List Step) (at : Step) : Type 0 where
      effect : Effect
      does : HasEffect g before effect
      found : (m : Mark) → BelongsTo g rule effect m → Found at m

    told : {rule : Rule} {before : List Step} {at : Step} → IsBehind g rule before at → Told rule before at
    told {rule} {before} {at} is = from (begun is.begins) (gets_may g table settled closed is.comes)
      where
        from : Begun rule at.written is.outside → ((x : Effect) × HasEffect g is.inside x × MayPrecede g table at.written.body x at.leaf) → Told rule before at
        from first (x, has, may) = record {
          effect = joined_effect first.effect x;
          does = subst (λ xs. HasEffect g xs (joined_effect first.effect x)) (sym is.all) (effect_of_both g first.does has);
          found = λ m belongs.
              let back = belongs_from g first.effect x belongs in
              let start = row_start first.w (slice_get_within g.rules first.w at.written first.there) in
              let row = some_there rows first.w (omega (arith, slice_get_within g.rules first.w at.written first.there, are.all)) in
              let whole = are.each first.w at.written start.0 row.0 first.there start.1 row.1 in
              let starts = (row_exact marks first.w start.0 start.1 start.0.keys refl back.0).1 (first.told back.0 back.1) in
              let there = whole.tells.complete at.leaf m (record { before = x; from = back.0; starts = starts; comes = may; moves = back.2 }) in
              let entry = some_there row.0 there.0 (omega (arith, slice_get_within whole.visits there.0 there.1 there.3, whole.are.all)) in record {
                w = first.w;
                i = there.0;
                row = row.0;
                entry = entry.0;
                written = first.there;
                leaf = there.2;
                in_rows = row.1;
                in_row = entry.1;
                marks_there = single_marks there.1;
                is = whole.are.each there.0 there.1 entry.0 there.3 entry.1;
                has =
                    there_single at.leaf there.1.enters there.1.marks.keys (whole.tells.place there.0 at.leaf there.1 there.2 there.3) is.single m there.4;
              };
        }

    somewhere : {at : Step} {m : Mark} (P : Before → Type 0) (f : Found at m) → P f.entry → Somewhere g rows P at
    somewhere P f does = record {
      rule_number = f.w;
      leaf_number = f.i;
      row = f.row;
      entry = f.entry;
      written = f.written;
      leaf = f.leaf;
      in_rows = f.in_rows;
      in_row = f.in_row;
      does = does;
    }

    place_of : {P : Before → Type 0} {at : Step} (s : Somewhere g rows P at) → Place at s.rule_number s.leaf_number s.row s.entry
    place_of s = place s.rule_number s.leaf_number s.row s.entry s.written s.in_rows s.in_row

    -- ---- each of the things that are recorded

    effect_in : {rule : Rule} {x y : Effect} → BelongsTo g rule x (Done y) → x ≡ y
    effect_in mark.done = refl

    type_in : {rule : Rule} {x : Effect} {n : ℕ} → BelongsTo g rule x (Of n) → own_number g rule ≡ Some n
    type_in (mark.of is) = is

    own_in : {rule : Rule} {x : Effect} {n : ℕ} → BelongsTo g rule x (Own n) → (weight x < 3) × (own_number g rule ≡ Some n)
    own_in (mark.own lt is) = (lt, is)

    first_exact : (at : Step) → Somewhere g rows (λ x. x.first ≡ true) at ↔ ((rule : Rule) × IsBehind g rule [] at)
    first_exact at = (
      λ s.
          let p = place_of s in
          let way = way_of p s.written s.leaf (Done Nothing) (p.is.first.0 s.does) in
          let none : way.before ≡ [] = no_steps g way.does (let same = ap weight (effect_in way.belongs) in omega (arith, same)) in
          (way.rule, subst (λ xs. IsBehind g way.rule xs at) none way.behind),
      λ (rule, behind).
          let t = told behind in
          let found = t.found (Done Nothing) (subst (λ x. BelongsTo g rule t.effect (Done x)) (no_effect g t.does) mark.done) in
          somewhere (λ x. x.first ≡ true) found (found.is.first.1 found.has),
    )

    weighs_exact : (at : Step) (n : ℕ) (flag : Before → Bool) (P : List Step → Type 0) →
        ((ms : List Mark) (x : Before) → IsEntryOf ms x → (flag x ≡ true) ↔ SomeWeighs ms n) →
        ((xs : List Step) (x : Effect) → HasEffect g xs x → (n ≤ weight x) ↔ P xs) →
        Somewhere g rows (λ x. flag x ≡ true) at ↔ ((rule : Rule) × (before : List Step) × IsBehind g rule before at × P before)
    weighs_exact at n flag P flagged exact = (
      λ s.
          let p = place_of s in
          let some = (flagged (single_marks p.visit) s.entry p.is).0 s.does in
          let way = way_of p s.written s.leaf (Done some.0) some.1 in
          let same = ap weight (effect_in way.belongs) in
          (way.rule, way.before, way.behind, (exact way.before way.effect way.does).0 (omega (arith, some.2, same))),
      λ (rule, before, behind, does).
          let t = told behind in
          let found = t.found (Done t.effect) mark.done in
          somewhere (λ x. flag x ≡ true) found
          ((flagged found.marks_there found.entry found.is).1 (t.effect, found.has, (exact before t.effect t.does).1 does)),
    )

    some_step : (xs : List Step) (x : Effect) → HasEffect g xs x → (1 ≤ weight x) ↔ (xs ≢ [])
    some_step xs x has = (
      λ le none. let same = ap weight (no_effect g (subst (λ ys. HasEffect g ys x) none has)) in omega (arith, same, le),
      λ some. elim (cases_lt (weight x) 1) [ inl lt ↦ absurd (some (no_steps g has lt)) | inr le ↦ le ],
    )

    some_fills : (xs : List Step) (x : Effect) → HasEffect g xs x → (2 ≤ weight x) ↔ Any (λ y. FillsNode g y.leaf) xs
    some_fills xs x has = (
      λ le. some_one g (λ y. FillsNode g y.leaf) 2 (tells_fills g) (lit< tt) has le,
      λ any. so_much g (λ y. FillsNode g y.leaf) 2 (tells_fills g) (lit< tt) has any,
    )

    -- ---- the types of the rules

    rule_number : {rule : Rule} {x : Effect} (m : Mark) (n : ℕ) → BelongsTo g rule x m → type_of m ≡ Some n → own_number g rule ≡ Some n
    rule_number (Done y) n belongs is = absurd (none-some n is)
    rule_number (Own k) n belongs is = absurd (none-some n is)
    rule_number (Of k) n belongs is = type_in belongs ∙ is

    of_exact : (at : Step) (type_name : List ℕ) →
        Somewhere g rows (λ x. HasNumberOf g type_name x.of.items) at ↔ ((rule : Rule) × (before : List Step) × IsBehind g rule before at × HasType g rule type_name)
    of_exact at type_name = (
      λ s.
          let p = place_of s in
          let n = s.does.number in
          let some = (p.is.of n).0 s.does.among in
          let way = way_of p s.written s.leaf some.0 some.1 in (
            way.rule,
            way.before,
            way.behind,
            type_of_number g way.rule type_name n (whole_rule g way.behind.begins) (rule_number some.0 n way.belongs some.2) s.does.named,
          ),
      λ (rule, before, behind, typed).
          let t = told behind in
          let n = has_place type_name (type_names g) (of_type g rule type_name (rule_there g behind) typed) in
          let found = t.found (Of n.0) (mark.of (own_type g rule type_name typed ∙ n.1)) in
          somewhere (λ x. HasNumberOf g type_name x.of.items) found (record {
            number = n.0;
            named = same_place type_name (type_names g) n.0 n.1;
            among = (found.is.of n.0).1 (Of n.0, found.has, refl);
          }),
    )

    -- ---- the current types

    current_way : {rule : Rule} {x : Effect} {xs : List Step} (m : Mark) (n : ℕ) (type_name : List ℕ) → BelongsTo g rule x m → current_of m ≡ Some n → HasEffect g xs x →
        rule.is_fragment ≡ false → slice_get (type_names g) n ≡ Some type_name → IsCurrentType g rule xs type_name
    current_way {rule} (Own k) n type_name belongs is has whole named =
        let own = own_in belongs in own_is_current g has own.0 (type_of_number g rule type_name n whole (own.1 ∙ is) named)
    current_way (Of k) n type_name belongs is has whole named = absurd (none-some n is)
    current_way (Done Nothing) n type_name belongs is has whole named = absurd (none-some n is)
    current_way (Done Reads) n type_name belongs is has whole named = absurd (none-some n is)
    current_way (Done Fills) n type_name belongs is has whole named = absurd (none-some n is)
    current_way {xs} (Done (Calls o)) n type_name belongs is has whole named =
        call_is_current g n (subst (HasEffect g xs) (effect_in belongs ∙ ap Calls is) has) named
    current_way {xs} (Done (Acts o)) n type_name belongs is has whole named =
        act_is_current g n (subst (HasEffect g xs) (effect_in belongs ∙ ap Acts is) has) named

    mark_for : (rule : Rule) (x : Effect) (n : ℕ) → current_number (own_number g rule) x ≡ Some n → (m : Mark) × BelongsTo g rule x m × (current_of m ≡ Some n)
    mark_for rule Nothing n is = (Own n, mark.own (lit< tt) is, refl)
    mark_for rule Reads n is = (Own n, mark.own (lit< tt) is, refl)
    mark_for rule Fills n is = (Own n, mark.own (lit< tt) is, refl)
    mark_for rule (Calls o) n is = (Done (Calls o), mark.done, is)
    mark_for rule (Acts o) n is = (Done (Acts o), mark.done, is)

    called_there : {l : Leaf} {called : Rule} → CallsNode g l called → Contains g.rules called
    called_there (steps.node r called is _ _) = at_place g.rules r called is.first.there

    is_named : {rule : Rule} {xs : List Step} {type_name : List ℕ} → IsCurrentType g rule xs type_name → AllWritten g xs → Contains g.rules rule →
        Contains (type_names g) type_name
    is_named (IsCurrentType.acted before after written a _) all has =
        let there =
        All-contains (IsWritten g) (before ++ step written (leaf.Act a) ∷ after) (step written (leaf.Act a)) all.all
        (Contains-append_right before (step written (leaf.Act a) ∷ after) (step written (leaf.Act a)) (0, omega arith, refl)) in
        of_action g written a there.0 there.1
    is_named {type_name} (IsCurrentType.called before after at called _ calls _ typed) all has = of_type g called type_name (called_there calls) typed
    is_named {rule} {type_name} (steps.own _ _ typed) all has = of_type g rule type_name has typed

    current_exact : (at : Step) (type_name : List ℕ) →
        Somewhere g rows (λ x. HasNumberOf g type_name x.current.items) at
        ↔ ((rule : Rule) × (before : List Step) × IsBehind g rule before at × IsCurrentType g rule before type_name)
    current_exact at type_name = (
      λ s.
          let p = place_of s in
          let n = s.does.number in
          let some = (p.is.current n).0 s.does.among in
          let way = way_of p s.written s.leaf some.0 some.1 in (
            way.rule,
            way.before,
            way.behind,
            current_way some.0 n type_name way.belongs some.2 way.does (whole_rule g way.behind.begins) s.does.named,
          ),
      λ (rule, before, behind, current).
          let t = told behind in
          let n = has_place type_name (type_names g) (is_named current (behind_written g behind) (rule_there g behind)) in
          let m = mark_for rule t.effect n.0 (current_told g current t.does ∙ n.1) in
          let found = t.found m.0 m.1 in
          somewhere (λ x. HasNumberOf g type_name x.current.items) found (record {
            number = n.0;
            named = same_place type_name (type_names g) n.0 n.1;
            among = (found.is.current n.0).1 (m.0, found.has, m.2);
          }),
    )

    -- ---- the shape of the rows

    row_whole : (w : ℕ) (rule : Rule) (row : List Before) → slice_get g.rules w ≡ Some rule → slice_get rows w ≡ Some row → (start : HashSet Mark S) × IsRowOf g table rule start.keys row
    row_whole w rule row at there =
        let start = row_start w (slice_get_within g.rules w rule at) in (start.0, are.each w rule start.0 row at start.1 there)

    entry_there : (row : List Before) (entry : Before) → Contains rows row → Contains row entry → (ms : List Mark) × IsEntryOf ms entry
    entry_there row entry has_row has_entry =
        let w = place_there rows row has_row in
        let i = place_there row entry has_entry in
        let rule = some_there g.rules w.0 (omega (arith, slice_get_within rows w.0 row w.1, are.all)) in
        let whole = (row_whole w.0 rule.0 row rule.1 w.1).1 in
        let v = some_there whole.visits i.0 (omega (arith, slice_get_within row i.0 entry i.1, whole.are.all)) in
        (single_marks v.0, whole.are.each i.0 v.0 entry v.1 i.1)

    has_entries : HasEntries g rows
    has_entries = record {
      rows_of_rules = are.all;
      entries_of_leaves = λ w rule row at there. let whole = (row_whole w rule row at there).1 in whole.are.all ∙ whole.tells.all;
      current_ascends = λ row entry has_row has_entry. (entry_there row entry has_row has_entry).1.current_ascends;
      of_ascends = λ row entry has_row has_entry. (entry_there row entry has_row has_entry).1.of_ascends;
    }

    pub are_ways : AreWaysOf g rows
    are_ways = record {
      shape = has_entries;
      first = first_exact;
      behind = λ at. weighs_exact at 1 (λ x. x.behind) (λ xs. xs ≢ []) (λ ms x is. is.behind) some_step;
      filled = λ at. weighs_exact at 2 (λ x. x.filled) (λ xs. Any (λ y. FillsNode g y.leaf) xs) (λ ms x is. is.filled) some_fills;
      current = current_exact;
      of = of_exact;
    }

-- ---- one row after another

pub no_rows : {S : Type 0} (g : Grammar) (table : ℕ → Effect → Type 0) (marks : List (HashSet Mark S)) → AreRowsOf g table marks 0 []
no_rows g table marks = record { all = refl; each = λ w rule start row _ _ there. absurd (none-some row there) }

pub rows_more : {S : Type 0} (g : Grammar) (table : ℕ → Effect → Type 0) (marks : List (HashSet Mark S)) (n : ℕ) (rows : List (List Before)) (rule : Rule) (start : HashSet Mark S)
    (xs : List Mark) (row : List Before) → slice_get g.rules n ≡ Some rule → slice_get marks n ≡ Some start → xs ≡ start.keys → AreRowsOf g table marks n rows →
    IsRowOf g table rule xs row → AreRowsOf g table marks (n + 1) (rows ++ row ∷ [])
rows_more g table marks n rows rule start xs row at starts same before whole = record {
  all = omega (arith, length-append rows (row ∷ []), before.all);
  each = λ w r s one there begins is. elim (get_end rows row w one is) [
    | inl sooner ↦ before.each w r s one there begins sooner
    | inr (last, new) ↦
        let here : w ≡ n = last ∙ before.all in
        let whose : rule ≡ r = same_Some rule r (sym at ∙ ap (slice_get g.rules) (sym here) ∙ there) in
        let which : start ≡ s = same_Some start s (sym starts ∙ ap (slice_get marks) (sym here) ∙ begins) in
        subst (λ (r : Rule). IsRowOf g table r s.keys one) whose
        (subst (λ (s : HashSet Mark _). IsRowOf g table rule s.keys one) which
        (subst (IsRowOf g table rule start.keys) (sym new) (subst (λ ms. IsRowOf g table rule ms row) same whole)))
  ];
}
