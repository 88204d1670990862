-- A table of marks that is widened stays known, and has all that comes once nothing is added.
use Rattle.std.proofs.Common.{Result, Ok, Err, IfOk, OnOk, ◌≡◌, ◌↔◌, ◌⊎◌, ℕ, ◌+◌, ◌<◌, ◌≤◌, Bool, true, false, List, [], ◌∷◌, ◌++◌, take, Option, Some, None, length, get_or, slice_get, Contains, refl, sym, ap, ◌∙◌, subst, inl, inr, arith, true≢false}
use Rattle.std.specs.HashSet.{HashSet}
use Rattle.std.proofs.lemmas.Bool.{cases_eq}
use Rattle.std.proofs.lemmas.Option.{same_Some, none-some, slice_get_within}
use Rattle.std.proofs.lemmas.List.{take_more, take_all}
use Rattle.std.proofs.lemmas.List.Elements.{Contains-append_left, Contains-push, Contains-push_cases}
use Rattle.lw_grammar.specs.declared.grammar.Grammar.{Grammar}
use Rattle.lw_grammar.specs.declared.rule.Rule.{Rule}
use Rattle.lw_grammar.specs.Leaves as leaf
use Rattle.lw_grammar.specs.Leaves.{Leaf, IsFragmentCall, leaves}
use Rattle.lw_grammar.proofs.FirstLemmas.{first_place}
use Rattle.lw_faults.specs.Steps.{Step, BodyBegins}
use Rattle.lw_faults.specs.Steps as steps
use Rattle.lw_flow.specs.declared.effect.Effect.{Effect}
use Rattle.lw_flow.specs.declared.effect.Effect.TheVariants.{Nothing}
use Rattle.lw_flow.specs.declared.effect.Mark.{Mark}
use Rattle.lw_flow.specs.declared.effect.Mark.TheVariants.{Done, Own, Of}
use Rattle.lw_flow.specs.declared.walking.Visit.{Visit}
use Rattle.lw_flow.specs.contracts.effect.MarkPartialEq.TheImpl.{eq-value}
use Rattle.lw_flow.specs.Arrivals.{Spread, BelongsTo, Arrives, IsOfWay, AllOfWays, StartsRule, HasRuleStarts, IsPassedOn, Spreads, SpreadsBelow, AreArrivals}
use Rattle.lw_flow.specs.Arrivals as mark
use Rattle.lw_flow.specs.Effects.{weight, joined_effect, own_number, HasEffect}
use Rattle.lw_flow.specs.Effects as effect
use Rattle.lw_flow.specs.Fixed.{IsSound}
use Rattle.lw_flow.specs.Marks.{Moves}
use Rattle.lw_flow.specs.Marks as move
use Rattle.lw_flow.specs.Passing.{MayPrecede}
use Rattle.lw_flow.specs.Rows.{InTable, RowPut}
use Rattle.lw_flow.specs.Visits.{IsPlaceOf, PutsVisits, TellsOf, AtLeaf}
use Rattle.lw_flow.proofs.EffectLemmas.{joined-below, weight-joined, effect_of_both}
use Rattle.lw_flow.proofs.PassingLemmas.{gets_so}
use Rattle.lw_flow.proofs.FixedLemmas.{rule_at}
use Rattle.lw_flow.proofs.RowLemmas.{at_length, at_place, place_there, some_there}
use Rattle.lw_flow.proofs.SetLemmas.{mark_exact, nothing_in}
use Rattle.lw_flow.proofs.TableLemmas.{get_end, get_before, row_put, row_kept, row_length, row_exact}

-- ---- visits that are spread

pub spread_none : (v : Visit) (table : ℕ → Mark → Type 0) → v.enters ≡ None → Spread (v ∷ []) false table table
spread_none v table none = record {
  exact = λ f m. (
    λ there. inl there,
    λ either. elim either [ inl there ↦ there | inr (u, has, enters, within) ↦ absurd (none-some f (sym none ∙ ap (λ (v : Visit). v.enters) (only u has) ∙ enters)) ],
  );
  none = λ _ f m there. there;
}
  where
    only : (u : Visit) → Contains (v ∷ []) u → v ≡ u
    only u has = elim (Contains-push_cases [] v u has) [ inl before ↦ absurd (nothing_in u before) | inr is ↦ is ]

module _ {S : Type 0} (v : Visit) (f : ℕ) (xs : List Mark) (old new : List (HashSet Mark S)) (enters : v.enters ≡ Some f) (same : xs ≡ v.marks.keys) where
  spread_one : (grown : Bool) → RowPut (eq-value).it f xs grown old new → Spread (v ∷ []) grown (InTable old) (InTable new)
  spread_one grown put = record {
    exact = λ n m. (
      λ there. elim ((row_put mark_exact put n m).0 there) [
        | inl was ↦ inl was
        | inr (is, has) ↦ inr (v, Contains-push [] v, enters ∙ ap Some (sym is), subst (λ ms. Contains ms m) same has)
      ],
      λ either. elim either [
        | inl was ↦ (row_put mark_exact put n m).1 (inl was)
        | inr (u, has, at, within) ↦ elim (Contains-push_cases [] v u has) [
          | inl before ↦ absurd (nothing_in u before)
          | inr is ↦
              (row_put mark_exact put n m).1 (inr (
                same_Some n f (sym at ∙ ap (λ (v : Visit). v.enters) (sym is) ∙ enters),
                subst (λ ms. Contains ms m) (ap (λ (v : Visit). v.marks.keys) (sym is) ∙ sym same) within,
              ))
        ]
      ],
    );
    none = row_kept mark_exact put;
  }

  pub spreads_one : {E : Type 0} (r : Result Bool E) → IfOk r (λ grown. RowPut (eq-value).it f xs grown old new) → IfOk r (λ grown. Spread (v ∷ []) grown (InTable old) (InTable new))
  spreads_one (Ok grown) put = spread_one grown put
  spreads_one (Err e) put = tt

  pub spreads_length : {E : Type 0} (r : Result Bool E) → IfOk r (λ grown. RowPut (eq-value).it f xs grown old new) → OnOk r (length new ≡ length old)
  spreads_length (Ok grown) put = row_length mark_exact put
  spreads_length (Err e) put = tt

pub spread_more : (visits : List Visit) (i : ℕ) (v : Visit) → i < length visits → v ≡ get_or visits i v → (grown more after : Bool) (old mid new : ℕ → Mark → Type 0) →
    Spread (take i visits) grown old mid → Spread (v ∷ []) more mid new → ((more ≡ true) × (after ≡ true)) ⊎ ((more ≡ false) × (after ≡ grown)) →
    Spread (take (i + 1) visits) after old new
spread_more visits i v inside is grown more after old mid new before one step =
    subst (λ vs. Spread vs after old new) (ap (λ u. take i visits ++ u ∷ []) is ∙ sym (take_more visits i v inside)) (record {
      exact = λ f m. (
        λ there. elim ((one.exact f m).0 there) [
          | inl sooner ↦ elim ((before.exact f m).0 sooner) [
            | inl was ↦ inl was
            | inr (u, has, at, within) ↦ inr (u, Contains-append_left (take i visits) (v ∷ []) u has, at, within)
          ]
          | inr (u, has, at, within) ↦ elim (Contains-push_cases [] v u has) [
            | inl none ↦ absurd (nothing_in u none)
            | inr same ↦ inr (u, subst (Contains (take i visits ++ v ∷ [])) same (Contains-push (take i visits) v), at, within)
          ]
        ],
        λ either. elim either [
          | inl was ↦ (one.exact f m).1 (inl ((before.exact f m).1 (inl was)))
          | inr (u, has, at, within) ↦ elim (Contains-push_cases (take i visits) v u has) [
            | inl sooner ↦ (one.exact f m).1 (inl ((before.exact f m).1 (inr (u, sooner, at, within))))
            | inr same ↦ (one.exact f m).1 (inr (u, subst (Contains (v ∷ [])) same (Contains-push [] v), at, within))
          ]
        ],
      );
      none = λ not f m there. elim step [
        | inl (_, grew) ↦ absurd (true≢false (sym grew ∙ not))
        | inr (stayed, same) ↦ before.none (sym same ∙ not) f m (one.none stayed f m there)
      ];
    })

pub spread_end : (visits : List Visit) (i : ℕ) (grown : Bool) (old new : ℕ → Mark → Type 0) → length visits ≤ i → Spread (take i visits) grown old new → Spread visits grown old new
spread_end visits i grown old new le all = subst (λ vs. Spread vs grown old new) (take_all i visits le) all

module _ (g : Grammar) where
  -- ---- a mark and its way

  pub belongs_moved : {rule : Rule} {x : Effect} {m : Mark} {y : Effect} {k : Mark} → BelongsTo g rule x m → Moves m y k → BelongsTo g rule (joined_effect x y) k
  belongs_moved mark.done move.done = mark.done
  belongs_moved {x} (mark.own lt is) (move.own {y} less) = mark.own (joined-below x y 3 lt less) is
  belongs_moved (mark.of is) move.of = mark.of is

  belongs_from_so : {rule : Rule} {z : Effect} {k : Mark} → BelongsTo g rule z k → (x y : Effect) → z ≡ joined_effect x y → (m : Mark) × BelongsTo g rule x m × Moves m y k
  belongs_from_so mark.done x y is = (Done x, mark.done, subst (λ z. Moves (Done x) y (Done z)) (sym is) move.done)
  belongs_from_so (mark.own {n} lt own) x y is =
      let most = weight-joined x y in
      (Own n, mark.own (omega (arith, lt, ap weight is, most.0)) own, move.own (omega (arith, lt, ap weight is, most.1)))
  belongs_from_so (mark.of {n} own) x y is = (Of n, mark.of own, move.of)

  pub belongs_from : {rule : Rule} {k : Mark} (x y : Effect) → BelongsTo g rule (joined_effect x y) k → (m : Mark) × BelongsTo g rule x m × Moves m y k
  belongs_from x y belongs = belongs_from_so belongs x y refl

  pub fragment_there : (l : Leaf) (f : ℕ) (fragment : Rule) → IsFragmentCall g l f fragment → slice_get g.rules f ≡ Some fragment
  fragment_there (leaf.Call name s) f fragment is = is.0.first.there
  fragment_there _ f fragment is = absurd is

  same_fragment : (l : Leaf) (f n : ℕ) (fragment other : Rule) → IsFragmentCall g l f fragment → IsFragmentCall g l n other → n ≡ f
  same_fragment (leaf.Call name s) f n fragment other is also = first_place also.0.first is.0.first
  same_fragment _ f n fragment other is also = absurd is

  -- ---- marks that are passed on

  module _ (table : ℕ → Effect → Type 0) where
    known_passed : IsSound g table → {w : ℕ} {rule : Rule} {l : Leaf} {x : Effect} {f : ℕ} (fragment : Rule) {m k : Mark} → slice_get g.rules w ≡ Some rule →
        MayPrecede g table rule.body x l → IsFragmentCall g l f fragment → IsOfWay g w m → Moves m x k → IsOfWay g f k
    known_passed sound {rule} {l} {x} {f} fragment at may is known moves =
        let way = gets_so g table sound rule may in
        let a = known.arrives in
        let same : a.written ≡ rule = same_Some a.written rule (sym a.there ∙ at) in record {
          rule = known.rule;
          effect = joined_effect known.effect x;
          arrives = record {
            written = fragment;
            there = fragment_there l f fragment is;
            before = a.before ++ way.0;
            begins = BodyBegins.put_in l f fragment (subst (BodyBegins g known.rule a.before) same a.begins) way.1 is;
            does = effect_of_both g a.does way.2;
          };
          belongs = belongs_moved known.belongs moves;
        }

    module _ (n : ℕ) (rule : Rule) (at : slice_get g.rules n ≡ Some rule) (start : List Mark) (old new : ℕ → Mark → Type 0) (exact : (m : Mark) → Contains start m ↔ old n m)
        (visits : List Visit) (tells : TellsOf g (AtLeaf g table start rule.body) (leaves rule.body) visits) where
      enters_place : (l : Leaf) (o : Option ℕ) (f : ℕ) → IsPlaceOf g l o → o ≡ Some f → (fragment : Rule) × IsFragmentCall g l f fragment
      enters_place l None f place is = absurd (none-some f is)
      enters_place l (Some k) f place is = subst (λ n. (fragment : Rule) × IsFragmentCall g l n fragment) (same_Some k f is) place

      fragment_enters : (l : Leaf) (o : Option ℕ) (f : ℕ) (fragment : Rule) → IsPlaceOf g l o → IsFragmentCall g l f fragment → o ≡ Some f
      fragment_enters l None f fragment place is = absurd (place (f, fragment, is))
      fragment_enters l (Some k) f fragment place is = ap Some (same_fragment l f k fragment place.0 is place.1)

      -- the visits enter fragments alone
      pub enters_within : (v : Visit) (f : ℕ) → Contains visits v → v.enters ≡ Some f → f < length g.rules
      enters_within v f has enters =
          let i = place_there visits v has in
          let l = leaf_there i.0 (slice_get_within visits i.0 v i.1) in
          let fragment = enters_place l.0 v.enters f (tells.place i.0 l.0 v l.1 i.1) enters in
          slice_get_within g.rules f fragment.0 (fragment_there l.0 f fragment.0 fragment.1)
        where
          leaf_there : (i : ℕ) → i < length visits → (l : Leaf) × (slice_get (leaves rule.body) i ≡ Some l)
          leaf_there i inside = some_there (leaves rule.body) i (omega (arith, inside, tells.all))

      pub spreads_from : (grown : Bool) → Spread visits grown old new → Spreads g table n grown old new
      spreads_from grown spread = record {
        kept = λ w m there. (spread.exact w m).1 (inl there);
        known = λ sound known f k there. elim ((spread.exact f k).0 there) [
          | inl was ↦ known f k was
          | inr (v, has, enters, within) ↦ from_visit sound known f k v (place_there visits v has) enters within
        ];
        put = λ w r l f fragment x m k same there may is from moves.
            let whose : r ≡ rule = same_Some r rule (sym there ∙ ap (slice_get g.rules) same ∙ at) in
            let told = tells.complete l k (record {
              before = x;
              from = m;
              starts = (exact m).1 (subst (λ w. old w m) same from);
              comes = subst (λ (r : Rule). MayPrecede g table r.body x l) whose may;
              moves = moves;
            }) in
            (spread.exact f k).1 (inr (
              told.1,
              at_place visits told.0 told.1 told.3,
              fragment_enters l told.1.enters f fragment (tells.place told.0 l told.1 told.2 told.3) is,
              told.4,
            ));
        none = spread.none;
      }
        where
          from_visit : IsSound g table → AllOfWays g old → (f : ℕ) (k : Mark) (v : Visit) → ((i : ℕ) × (slice_get visits i ≡ Some v)) → v.enters ≡ Some f →
              Contains v.marks.keys k → IsOfWay g f k
          from_visit sound known f k v (i, there) enters within =
              let told = tells.sound i v k there within in
              let fragment = enters_place told.0 v.enters f (tells.place i told.0 v told.1 there) enters in
              known_passed sound fragment.0 at told.2.comes fragment.1 (known n told.2.from ((exact told.2.from).0 told.2.starts)) told.2.moves

    -- ---- all of them

    pub passed_step : (n : ℕ) (grown more after : Bool) (old mid new : ℕ → Mark → Type 0) → SpreadsBelow g table n grown old mid → Spreads g table n more mid new →
        ((more ≡ true) × (after ≡ true)) ⊎ ((more ≡ false) × (after ≡ grown)) → SpreadsBelow g table (n + 1) after old new
    passed_step n grown more after old mid new before one step = record {
      kept = λ w m there. one.kept w m (before.kept w m there);
      known = λ sound known. one.known sound (before.known sound known);
      passed = λ not w rule l f fragment x m k lt at may is from moves. elim step [
        | inl (_, grew) ↦ absurd (true≢false (sym grew ∙ not))
        | inr (stayed, same) ↦
            let was = one.none stayed w m from in
            elim (cases_eq w n) [
              | inl here ↦ one.put w rule l f fragment x m k here at may is was moves
              | inr apart ↦ one.kept f k (before.passed (sym same ∙ not) w rule l f fragment x m k (omega (arith, lt, apart)) at may is was moves)
            ]
      ];
    }

  -- ---- at the begin of a rule

  pub starts_known : (w : ℕ) (m : Mark) → StartsRule g w m → IsOfWay g w m
  starts_known w m start = record {
    rule = start.rule;
    effect = Nothing;
    arrives = record {
      written = start.rule;
      there = start.there;
      before = [];
      begins = steps.itself (at_place g.rules w start.rule start.there) start.whole;
      does = effect.none;
    };
    belongs = start.belongs;
  }

  pub start_fragment : {rule : Rule} {keys : List Mark} → keys ≡ [] → rule.is_fragment ≡ true → (m : Mark) →
      Contains keys m ↔ ((rule.is_fragment ≡ false) × BelongsTo g rule Nothing m)
  start_fragment none part m = (λ has. absurd (nothing_in m (subst (λ ms. Contains ms m) none has)), λ (whole, _). absurd (true≢false (sym part ∙ whole)))

  pub start_untyped : {rule : Rule} {old : List Mark} (keys : List Mark) → old ≡ [] → rule.is_fragment ≡ false → own_number g rule ≡ None →
      ((m : Mark) → Contains keys m ↔ (Contains old m ⊎ (m ≡ Done Nothing))) → (m : Mark) → Contains keys m ↔ ((rule.is_fragment ≡ false) × BelongsTo g rule Nothing m)
  start_untyped {rule} {old} keys none whole untyped put m = (
    λ has. elim ((put m).0 has) [
      | inl before ↦ absurd (nothing_in m (subst (λ ms. Contains ms m) none before))
      | inr is ↦ (whole, subst (BelongsTo g rule Nothing) (sym is) mark.done)
    ],
    λ (_, belongs). (put m).1 (inr (only belongs)),
  )
    where
      only : {m : Mark} → BelongsTo g rule Nothing m → m ≡ Done Nothing
      only mark.done = refl
      only (mark.own {n} _ own) = absurd (none-some n (sym untyped ∙ own))
      only (mark.of {n} own) = absurd (none-some n (sym untyped ∙ own))

  pub start_typed : {rule : Rule} {old : List Mark} (one two keys : List Mark) (n : ℕ) → old ≡ [] → rule.is_fragment ≡ false → own_number g rule ≡ Some n →
      ((m : Mark) → Contains one m ↔ (Contains old m ⊎ (m ≡ Done Nothing))) → ((m : Mark) → Contains two m ↔ (Contains one m ⊎ (m ≡ Own n))) →
      ((m : Mark) → Contains keys m ↔ (Contains two m ⊎ (m ≡ Of n))) → (m : Mark) → Contains keys m ↔ ((rule.is_fragment ≡ false) × BelongsTo g rule Nothing m)
  start_typed {rule} {old} one two keys n none whole typed first second third m = (
    λ has. elim ((third m).0 has) [
      | inl sooner ↦ elim ((second m).0 sooner) [
        | inl soonest ↦ elim ((first m).0 soonest) [
          | inl before ↦ absurd (nothing_in m (subst (λ ms. Contains ms m) none before))
          | inr is ↦ (whole, subst (BelongsTo g rule Nothing) (sym is) mark.done)
        ]
        | inr is ↦ (whole, subst (BelongsTo g rule Nothing) (sym is) (mark.own (omega arith) typed))
      ]
      | inr is ↦ (whole, subst (BelongsTo g rule Nothing) (sym is) (mark.of typed))
    ],
    λ (_, belongs). back belongs,
  )
    where
      back : {m : Mark} → BelongsTo g rule Nothing m → Contains keys m
      back mark.done = (third (Done Nothing)).1 (inl ((second (Done Nothing)).1 (inl ((first (Done Nothing)).1 (inr refl)))))
      back (mark.own {n = k} _ own) = (third (Own k)).1 (inl ((second (Own k)).1 (inr (ap Own (same_Some k n (sym own ∙ typed))))))
      back (mark.of {n = k} own) = (third (Of k)).1 (inr (ap Of (same_Some k n (sym own ∙ typed))))

  pub starts_more : {S : Type 0} (rules : List Rule) → rules ≡ g.rules → (rows : List (HashSet Mark S)) (i : ℕ) (rule : Rule) (set : HashSet Mark S) → i < length rules →
      rule ≡ get_or rules i rule → length rows ≡ i → ((m : Mark) → Contains set.keys m ↔ ((rule.is_fragment ≡ false) × BelongsTo g rule Nothing m)) →
      ((w : ℕ) (m : Mark) → InTable rows w m ↔ ((w < i) × StartsRule g w m)) → (w : ℕ) (m : Mark) → InTable (rows ++ set ∷ []) w m ↔ ((w < i + 1) × StartsRule g w m)
  starts_more rules same rows i rule set inside is sized exact before w m = (
    λ there. elim (get_end rows set w there.row there.there) [
      | inl old ↦ let was = (before w m).0 (record { row = there.row; there = old; has = there.has }) in (omega (arith, was.0), was.1)
      | inr (last, new) ↦
          let belongs = (exact m).0 (subst (λ (r : HashSet Mark _). Contains r.keys m) new there.has) in
          let here : w ≡ i = last ∙ sized in
          (omega (arith, here), record { rule = rule; there = ap (slice_get g.rules) here ∙ at; whole = belongs.0; belongs = belongs.1 })
    ],
    λ (lt, start). elim (cases_eq w i) [
      | inl here ↦
          let whose : start.rule ≡ rule = same_Some start.rule rule (sym start.there ∙ ap (slice_get g.rules) here ∙ at) in record {
            row = set;
            there = ap (slice_get (rows ++ set ∷ [])) (here ∙ sym sized) ∙ at_length rows set [];
            has = (exact m).1 (ap (λ (r : Rule). r.is_fragment) (sym whose) ∙ start.whole, subst (λ (r : Rule). BelongsTo g r Nothing m) whose start.belongs);
          }
      | inr apart ↦
          let was = (before w m).1 (omega (arith, lt, apart), start) in
          record { row = was.row; there = get_before rows set w was.row was.there; has = was.has }
    ],
  )
    where
      at : slice_get g.rules i ≡ Some rule
      at = rule_at rules g.rules i rule same (subst (λ (rs : List Rule). i < length rs) same inside) is

  -- ---- what a walk over a rule's body spreads

  pub walked : {R : Leaf → Mark → Type 0} {ls : List Leaf} {old new xs : List Visit} → PutsVisits g R ls old new → old ≡ [] → xs ≡ new → TellsOf g R ls xs
  walked {R} {ls} visits empty same =
      subst (TellsOf g R ls) (ap (λ vs. vs ++ visits.more) (sym empty) ∙ sym visits.is ∙ sym same) visits.tells

  module _ (table : ℕ → Effect → Type 0) where
    pub spreads_through : {S E : Type 0} (n : ℕ) (rule : Rule) (start : List Mark) (old new : List (HashSet Mark S)) (row : HashSet Mark S) (visits : List Visit) →
        slice_get g.rules n ≡ Some rule → slice_get old n ≡ Some row → start ≡ row.keys → TellsOf g (AtLeaf g table start rule.body) (leaves rule.body) visits →
        (r : Result Bool E) → IfOk r (λ grown. Spread visits grown (InTable old) (InTable new)) → IfOk r (λ grown. Spreads g table n grown (InTable old) (InTable new))
    spreads_through n rule start old new row visits at there same tells (Ok grown) spread =
        spreads_from table n rule at start (InTable old) (InTable new) (row_exact old n row there start same) visits tells grown spread
    spreads_through n rule start old new row visits at there same tells (Err e) spread = tt

    pub visits_within : {S : Type 0} (n : ℕ) (rule : Rule) (start : List Mark) (old : List (HashSet Mark S)) (row : HashSet Mark S) (visits : List Visit) →
        slice_get g.rules n ≡ Some rule → slice_get old n ≡ Some row → start ≡ row.keys → TellsOf g (AtLeaf g table start rule.body) (leaves rule.body) visits →
        length old ≡ length g.rules → (v : Visit) (f : ℕ) → Contains visits v → v.enters ≡ Some f → f < length old
    visits_within n rule start old row visits at there same tells sized v f has enters =
        let inside = enters_within table n rule at start (InTable old) (InTable old) (row_exact old n row there start same) visits tells v f has enters in
        omega (arith, inside, sized)
