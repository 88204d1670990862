-- Where nothing can be done at a place, no sentence has the kinds.
use Rattle.std.proofs.Common.{◌≡◌, ◌↔◌, ℕ, ◌+◌, ◌<◌, ◌≤◌, ◌⊎◌, List, [], ◌∷◌, ◌++◌, Option, Some, true, length, slice_get, refl, sym, ap, ◌∙◌, subst, inl, inr, arith}
use Rattle.std.proofs.lemmas.Option.{slice_get_within}
use Rattle.lw_base.specs.declared.numbers.PointId.{PointId}
use Rattle.lw_base.specs.declared.token.Span.{Span}
use Rattle.lw_grammar.specs.declared.grammar.Grammar.{Grammar}
use Rattle.lw_grammar.specs.declared.rule.Element.{Element}
use Rattle.lw_grammar.specs.declared.rule.Element.TheOpen as layer
use Rattle.lw_grammar.specs.declared.rule.Element.TheOpen.{Element-F}
use Rattle.lw_grammar.specs.declared.rule.Op.{Op}
use Rattle.lw_grammar.specs.declared.rule.Rule.{Rule}
use Rattle.lw_grammar.specs.declared.rule.Value0.{Value0}
use Rattle.lw_grammar.specs.declared.rule.Value0.TheOpen as value
use Rattle.lw_grammar.specs.declared.rule.Value0.TheOpen.{Value0-F}
use Rattle.lw_grammar.specs.Kinds.{Kinds, AreKinds}
use Rattle.lw_grammar.specs.Named.{IsRule}
use Rattle.lw_grammar.specs.Reached.{IsReached}
use Rattle.lw_grammar.specs.Marks.{Mark, kinds_of}
use Rattle.lw_grammar.specs.Marks as mark
use Rattle.lw_grammar.specs.Sentences.{IsWhole}
use Rattle.lw_look.specs.Looks.{Look, window}
use Rattle.lw_look.specs.Looks as look
use Rattle.lw_look.specs.Sites.{PartSite, rule_of, ◌▸◌, Body, Value, IsPartAt, ElementAt, ValueAt, RepeatedAt, OptionalAt}
use Rattle.lw_look.specs.Sites as site
use Rattle.lw_look.specs.Supplied.{ChoicesHaveParts}
use Rattle.lw_look.specs.Things.{Thing, Do, Assigned, Again, Leave, Ways, StepsTo, AsksNothing}
use Rattle.lw_look.specs.Things as t
use Rattle.lw_look.specs.Parses.{Parses}
use Rattle.lw_look.proofs.Apart.{are_apart}
use Rattle.lw_look.proofs.OneWay.{two_forms, two_value_forms}
use Rattle.lw_look.proofs.Parsing.{parse_other_token, parse_no_way}
use Rattle.lw_look.proofs.Reaching.{calls_reach}
use Rattle.lw_look.proofs.Standing.{one_stands, no_body_is_value}
use Rattle.lw_program.specs.declared.instr.Instr.{Instr}
use Rattle.lw_program.specs.declared.instr.Instr.TheVariants.{Loop}
use Rattle.lw_program.specs.ProgramOf.{IsProgramOf}
use Rattle.lw_program.specs.Says.{Task, Does, Reads, thing_of, CallsBy, IsPoint, StandFrom, SaysTask}
use Rattle.lw_program.specs.Says as say
use Rattle.lw_viable.specs.Gives.{OpensNode}
use Rattle.lw_viable.specs.Readings.{IsPlacedTask}
use Rattle.lw_viable.specs.Readings as place
use Rattle.lw_viable.proofs.Moves.Doing.{element_form, value_form}
use Rattle.lw_viable.proofs.Moves.Saying.{instr_at}
use Rattle.lw_parse.specs.Parsers.{ParserParts, TellWays}
use Rattle.lw_parse.specs.Running.{IsWayBy, NotEntered, GivesUp}
use Rattle.lw_parse.specs.Running as run
use Rattle.lw_parse.proofs.ToDo.{quiet_element, quiet_call, quiet_value, IsFirstThing}
use Rattle.lw_parse.proofs.Steps.{way_told}

module _ (g : Grammar) (kinds : Kinds) (k : ℕ) where
  -- ---- which ways there are

  no_value_there : {s : PartSite} {f : Element-F Element} {v : Value0} {h : Value0-F Value0} → ElementAt g s f → ValueAt g s v h → ⊥
  no_value_there at other =
      let (a, stands, same) = element_form g at in
      let (stands', same') = value_form g other in
      no_body_is_value (one_stands g stands stands')

  no_form : {s : PartSite} {f h : Element-F Element} → ElementAt g s f → ElementAt g s h → (f ≡ h → ⊥) → ⊥
  no_form at other differ = differ (two_forms g kinds at other)

  one_choice : {s : PartSite} {es others : List Element} {span there : Span} {i : ℕ} {e : Element} → ElementAt g s (layer.Choice es span) →
      ElementAt g s (layer.Choice others there) → slice_get others i ≡ Some e → i < length es
  one_choice {es} {others} {span} {there} {i} {e} at other is =
      let forms : layer.Choice es span ≡ layer.Choice others there = two_forms g kinds at other in
      let same : es ≡ others = cc in
      slice_get_within es i e (ap (λ es. slice_get es i) same ∙ is)

  one_value_choice : {s : PartSite} {v w : Value0} {vs others : List Value0} {span there : Span} {i : ℕ} {c : Value0} → ValueAt g s v (value.Choice vs span) →
      ValueAt g s w (value.Choice others there) → slice_get others i ≡ Some c → i < length vs
  one_value_choice {vs} {others} {span} {there} {i} {c} at other is =
      let forms : value.Choice vs span ≡ value.Choice others there = two_value_forms g kinds at other in
      let same : vs ≡ others = cc in
      slice_get_within vs i c (ap (λ vs. slice_get vs i) same ∙ is)

  -- the way that comes next at a choice of so many parts
  abbrev IsWayOf : ℕ → ℕ → Type 0
  IsWayOf count w = (i : ℕ) × (w ≡ i + 1) × (i < count)

  choice_way : {s : PartSite} {es : List Element} {span : Span} {w : ℕ} {seen : List (Option ℕ)} → ElementAt g s (layer.Choice es span) → Look g kinds k s w seen →
      IsWayOf (length es) w
  choice_way at (look.alternative {i} (site.element other is) given after) = (i, refl, one_choice at other is)
  choice_way at (look.alternative (site.assigned other is) given after) = absurd (no_value_there at other)
  choice_way at (look.enters (site.optional other) given after) = absurd (no_form at other (λ same. cc))
  choice_way at (look.passes (site.optional other) after) = absurd (no_form at other (λ same. cc))
  choice_way at (look.reads_again (site.any other) given more after) = absurd (no_form at other (λ same. cc))
  choice_way at (look.reads_again (site.some other) given more after) = absurd (no_form at other (λ same. cc))
  choice_way at (look.leaves (site.any other) after) = absurd (no_form at other (λ same. cc))
  choice_way at (look.leaves (site.some other) after) = absurd (no_form at other (λ same. cc))

  value_choice_way : {s : PartSite} {v : Value0} {vs : List Value0} {span : Span} {w : ℕ} {seen : List (Option ℕ)} → ValueAt g s v (value.Choice vs span) →
      Look g kinds k s w seen → IsWayOf (length vs) w
  value_choice_way at (look.alternative {i} (site.assigned other is) given after) = (i, refl, one_value_choice at other is)
  value_choice_way at (look.alternative (site.element other is) given after) = absurd (no_value_there other at)
  value_choice_way at (look.enters (site.optional other) given after) = absurd (no_value_there other at)
  value_choice_way at (look.passes (site.optional other) after) = absurd (no_value_there other at)
  value_choice_way at (look.reads_again (site.any other) given more after) = absurd (no_value_there other at)
  value_choice_way at (look.reads_again (site.some other) given more after) = absurd (no_value_there other at)
  value_choice_way at (look.leaves (site.any other) after) = absurd (no_value_there other at)
  value_choice_way at (look.leaves (site.some other) after) = absurd (no_value_there other at)

  abbrev IsEither : ℕ → Type 0
  IsEither w = (w ≡ 1) ⊎ (w ≡ 2)

  optional_way : {s : PartSite} {e : Element} {w : ℕ} {seen : List (Option ℕ)} → OptionalAt g s e → Look g kinds k s w seen → IsEither w
  optional_way (site.optional at) (look.alternative (site.element other is) given after) = absurd (no_form at other (λ same. cc))
  optional_way (site.optional at) (look.alternative (site.assigned other is) given after) = absurd (no_value_there at other)
  optional_way at (look.enters other given after) = inl refl
  optional_way at (look.passes other after) = inr refl
  optional_way at (look.reads_again other given more after) = inl refl
  optional_way at (look.leaves other after) = inr refl

  repeated_way : {s : PartSite} {e : Element} {w : ℕ} {seen : List (Option ℕ)} → RepeatedAt g s e → Look g kinds k s w seen → IsEither w
  repeated_way (site.any at) (look.alternative (site.element other is) given after) = absurd (no_form at other (λ same. cc))
  repeated_way (site.some at) (look.alternative (site.element other is) given after) = absurd (no_form at other (λ same. cc))
  repeated_way (site.any at) (look.alternative (site.assigned other is) given after) = absurd (no_value_there at other)
  repeated_way (site.some at) (look.alternative (site.assigned other is) given after) = absurd (no_value_there at other)
  repeated_way at (look.enters other given after) = inl refl
  repeated_way at (look.passes other after) = inr refl
  repeated_way at (look.reads_again other given more after) = inl refl
  repeated_way at (look.leaves other after) = inr refl

module _ (g : Grammar) (kinds : Kinds) (are : AreKinds g kinds) (choices : ChoicesHaveParts g) (parser : ParserParts) (is : IsProgramOf g kinds parser.program)
    (told : (r : ℕ) (rule : Rule) → slice_get g.rules r ≡ Some rule → OpensNode g rule ↔ (slice_get parser.begins.nodes r ≡ Some true))
    (tables : TellWays g kinds parser.k parser.tables) where
  -- a rule that can be reached has a start
  pub has_start : {r : ℕ} {rule : Rule} → IsReached g r → slice_get g.rules r ≡ Some rule →
      ((start : ℕ) → slice_get parser.program.starts r ≡ Some (Some start) → ⊥) → ⊥
  has_start {r} {rule} reached there none = let (start, at, starts) = is.reached r rule reached there in none start at

  module _ (m : List Mark) (ks : List ℕ) (rest : List Thing) where
    abbrev NotWhole : Type 0
    NotWhole = ¬ IsWhole g kinds (kinds_of m ++ ks)

    other_token : {x : Thing} {l : List Mark} {xs : List Thing} {j : ℕ} → Parses g kinds parser.k m ks (x ∷ rest) → AsksNothing g kinds x → StepsTo g kinds x l xs →
        kinds_of l ≡ j ∷ [] → ((ls : List ℕ) → ks ≡ j ∷ ls → ⊥) → NotWhole
    other_token {x} {l} {xs} parses none step read differ =
        parse_other_token g kinds parser.k (are_apart g kinds are) m l ks x xs rest parses none step
        (λ ls same. differ ls (sym same ∙ ap (λ l. l ++ ls) read))

    no_window : {x : Thing} {s : PartSite} {w : ℕ} {xs : List Thing} → Parses g kinds parser.k m ks (x ∷ rest) → Ways g kinds x s w xs →
        ((v : ℕ) → Look g kinds parser.k s v (window parser.k ks) → ⊥) → NotWhole
    no_window {x} {s} {w} {xs} parses way none = parse_no_way g kinds parser.k (are_apart g kinds are) m ks x s w xs rest parses way none

    -- at `?`, `*` and `+`
    neither : {x : Thing} {s : PartSite} {w : ℕ} {xs : List Thing} {point : PointId} {way : Option ℕ} → Parses g kinds parser.k m ks (x ∷ rest) → Ways g kinds x s w xs →
        IsPoint g kinds point s → ((v : ℕ) → Look g kinds parser.k s v (window parser.k ks) → IsEither g kinds parser.k v) → IsWayBy parser ks point way →
        (way ≡ Some 1 → ⊥) → (way ≡ Some 2 → ⊥) → NotWhole
    neither {point} {way} parses ways numbers either by not_one not_two =
        no_window parses ways (λ v seen. elim (either v seen) [
          | inl one ↦ not_one ((way_told g kinds parser is told tables ks by numbers v).1 seen ∙ ap Some one)
          | inr two ↦ not_two ((way_told g kinds parser is told tables ks by numbers v).1 seen ∙ ap Some two)
        ])

    no_way_of : {x : Thing} {s : PartSite} {w : ℕ} {xs : List Thing} {point : PointId} {way : Option ℕ} (first : ℕ) {end count : ℕ} → Parses g kinds parser.k m ks (x ∷ rest) →
        Ways g kinds x s w xs → IsPoint g kinds point s → end ≡ first + count →
        ((v : ℕ) → Look g kinds parser.k s v (window parser.k ks) → IsWayOf g kinds parser.k count v) → IsWayBy parser ks point way →
        ((i : ℕ) → way ≡ Some (i + 1) → end ≤ first + i) → NotWhole
    no_way_of first {end} {count} parses ways numbers sized which by beyond =
        no_window parses ways (λ v seen.
        let (i, number, below) = which v seen in
        let past : end ≤ first + i = beyond i ((way_told g kinds parser is told tables ks by numbers v).1 seen ∙ ap Some number) in
        absurd (omega arith))

    not_entered : {name : List ℕ} {i : Instr} {x : Thing} → Parses g kinds parser.k m ks (x ∷ rest) → AsksNothing g kinds x → CallsBy g kinds name i →
        ((r : ℕ) (rule : Rule) → IsRule g name r rule → IsReached g r) →
        ((j : ℕ) → t.Entering g kinds name (mark.Token j ∷ []) [] → (l : List Mark) × (xs : List Thing) × StepsTo g kinds x l xs × (kinds_of l ≡ j ∷ [])) →
        NotEntered parser ks (Some i) → NotWhole
    not_entered parses none (say.terminal {k} kind) reach steps (run.other_token differ) =
        let (l, xs, step, read) = steps k.0 (t.terminal kind) in other_token parses none step read differ
    not_entered parses none (say.terminal kind) reach steps (run.no_call i not_token not_call) = absurd (not_token _ refl)
    not_entered parses none (say.rule_ {r} {rule} names) reach steps (run.no_start starts) = absurd (has_start (reach r rule names) names.first.there starts)
    not_entered parses none (say.rule_ names) reach steps (run.no_call i not_token not_call) = absurd (not_call _ refl)

    value_stuck : {property : List ℕ} {op : Op} {s : PartSite} {i : Instr} → SaysTask g kinds is.tasks (Reads s) i → IsReached g (rule_of s) →
        Parses g kinds parser.k m ks (Assigned property op s ∷ rest) → NotEntered parser ks (Some i) → NotWhole
    value_stuck (say.reads_keyword at kind) reached parses (run.other_token differ) =
        other_token parses (quiet_value g kinds at tt) (t.keyword_value at kind) refl differ
    value_stuck (say.reads_keyword at kind) reached parses (run.no_call i not_token not_call) = absurd (not_token _ refl)
    value_stuck (say.reads_call at by) reached parses not =
        not_entered parses (quiet_call g kinds at) by (λ r rule names. calls_reach g (site.reads at names) reached)
        (λ j entering. (_, _, t.called_value at entering, refl)) not

    choice_stuck : {s : PartSite} {es : List Element} {span : Span} {point : PointId} (first : ℕ) {end : ℕ} {way : Option ℕ} → ElementAt g s (layer.Choice es span) →
        IsPoint g kinds point s → end ≡ first + length es → Parses g kinds parser.k m ks (Do s ∷ rest) → IsWayBy parser ks point way →
        ((i : ℕ) → way ≡ Some (i + 1) → end ≤ first + i) → NotWhole
    choice_stuck {s} {es} {span} first at numbers sized parses by beyond =
        let (e, stands, form) = element_form g at in
        let (f, there) = choices.choice s e es span stands form in
        no_way_of first parses (t.alternative (site.element at there)) numbers sized (λ v seen. choice_way g kinds parser.k at seen) by beyond

    value_choice_stuck : {property : List ℕ} {op : Op} {s : PartSite} {v : Value0} {vs : List Value0} {span : Span} {point : PointId} (first : ℕ) {end : ℕ} {way : Option ℕ} →
        ValueAt g s v (value.Choice vs span) → IsPoint g kinds point s → end ≡ first + length vs → Parses g kinds parser.k m ks (Assigned property op s ∷ rest) →
        IsWayBy parser ks point way → ((i : ℕ) → way ≡ Some (i + 1) → end ≤ first + i) → NotWhole
    value_choice_stuck {s} {v} {vs} {span} first at numbers sized parses by beyond =
        let (stands, form) = value_form g at in
        let (w, there) = choices.value_choice s v vs span stands form in
        no_way_of first parses (t.value_ (site.assigned at there)) numbers sized (λ v seen. value_choice_way g kinds parser.k at seen) by beyond

    no_loop_there : (rest_place : ℕ) {s : PartSite} → slice_get is.tasks rest_place ≡ Some (Does (Again s)) →
        ((point : PointId) (inner : ℕ) → slice_get parser.program.code rest_place ≡ Some (Loop point inner) → ⊥) → ⊥
    no_loop_there rest_place {s} at none = let (i, there, says) = instr_at g kinds parser.program is rest_place at in by says there
      where
        by : {i : Instr} → SaysTask g kinds is.tasks (Does (Again s)) i → slice_get parser.program.code rest_place ≡ Some i → ⊥
        by (say.loop {point} {inner} repeated numbers has) there = none point inner there

    says_stuck : {x : Thing} {i : Instr} → SaysTask g kinds is.tasks (Does x) i → IsPlacedTask g (Does x) → Parses g kinds parser.k m ks (x ∷ rest) →
        GivesUp parser ks (Some i) → NotWhole
    says_stuck (say.keyword at kind) placed parses (run.not_read (run.other_token differ)) =
        other_token parses (quiet_element g kinds at tt) (t.keyword at kind) refl differ
    says_stuck (say.keyword at kind) placed parses (run.not_read (run.no_call i not_token not_call)) = absurd (not_token _ refl)
    says_stuck (say.called at (say.terminal kind)) (place.element stands reached) parses (run.not_read not) =
        not_entered parses (quiet_element g kinds at tt) (say.terminal kind) (λ r rule names. calls_reach g (site.calls at names) reached)
        (λ j entering. (_, _, t.called at entering, refl)) not
    says_stuck (say.called at (say.rule_ names)) (place.element stands reached) parses (run.not_called not) =
        not_entered parses (quiet_element g kinds at tt) (say.rule_ names) (λ r rule names. calls_reach g (site.calls at names) reached)
        (λ j entering. (_, _, t.called at entering, refl)) not
    says_stuck (say.choice at numbers stand) placed parses (run.no_way by beyond) = choice_stuck _ at numbers stand.sized parses by beyond
    says_stuck (say.value_choice at numbers stand) placed parses (run.no_way by beyond) = value_choice_stuck _ at numbers stand.sized parses by beyond
    says_stuck (say.maybe at numbers has) placed parses (run.neither_part by not_one not_two) =
        neither parses (t.passes at) numbers (λ v seen. optional_way g kinds parser.k at seen) by not_one not_two
    says_stuck (say.loop at numbers has) placed parses (run.neither_again by not_one not_two) =
        neither parses (t.leaves at) numbers (λ v seen. repeated_way g kinds parser.k at seen) by not_one not_two
    says_stuck (say.acted at numbers) placed parses up = elim up [ ]
    says_stuck (say.row at stand) placed parses up = elim up [ ]
    says_stuck say.ends placed parses up = elim up [ ]
    says_stuck say.shuts placed parses up = elim up [ ]
    says_stuck (say.once at behind_it) placed parses (run.no_loop none) = absurd (no_loop_there _ behind_it none)
    says_stuck (say.put stands numbers reads_at ends_at) (place.assigned other goes reached) parses (run.not_put not) =
        let (i, at, says) = instr_at g kinds parser.program is _ reads_at in
        value_stuck says reached parses (subst (NotEntered parser ks) at not)

    -- where the first place gives up, no sentence has the kinds
    pub turn_stuck : {p : ℕ} → IsFirstThing g kinds is.tasks parser.k m ks rest p → GivesUp parser ks (slice_get parser.program.code p) → NotWhole
    turn_stuck {p} first up =
        let (i, at, says) = instr_at g kinds parser.program is p first.stands in
        says_stuck says first.placed first.parses (subst (GivesUp parser ks) at up)
