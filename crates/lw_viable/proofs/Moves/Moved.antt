-- What places give begins with a move at the first of them, and nothing else is given.
use Rattle.std.proofs.Common.{◌≡◌, ◌↔◌, ℕ, ◌+◌, List, [], ◌∷◌, ◌++◌, Option, Some, None, Bool, true, Contains, slice_get, refl, sym, ap, ◌∙◌, append_assoc, true≢false}
use Rattle.lw_base.specs.declared.token.Span.{Span}
use Rattle.lw_base.specs.declared.numbers.KindId.{KindId}
use Rattle.lw_base.specs.declared.numbers.PointId.{PointId}
use Rattle.lw_grammar.specs.declared.grammar.Grammar.{Grammar}
use Rattle.lw_grammar.specs.declared.rule.Action.{Action}
use Rattle.lw_grammar.specs.declared.rule.Element.{Element}
use Rattle.lw_grammar.specs.declared.rule.Element.TheOpen as layer
use Rattle.lw_grammar.specs.declared.rule.Op.{Op}
use Rattle.lw_grammar.specs.declared.rule.Rule.{Rule}
use Rattle.lw_grammar.specs.declared.rule.Value0.{Value0}
use Rattle.lw_grammar.specs.declared.rule.Value0.TheOpen as value
use Rattle.lw_grammar.specs.Kinds.{Kinds, AreKinds}
use Rattle.lw_grammar.specs.Reached.{IsReached}
use Rattle.lw_grammar.specs.Marks.{Mark}
use Rattle.lw_grammar.specs.Marks as mark
use Rattle.lw_grammar.specs.Yields.{Yields, Gives, YieldsAll, Repeats, RuleGives, ValueYields, ValueGives}
use Rattle.lw_grammar.specs.Yields as y
use Rattle.lw_look.specs.Sites.{PartSite, ◌▸◌, ElementAt, ValueAt, RepeatedAt}
use Rattle.lw_look.specs.Sites as site
use Rattle.lw_look.specs.Things as t
use Rattle.lw_base.proofs.Lists.{place_of}
use Rattle.lw_look.proofs.Standing.{row_part_stands, way_stands, option_stands, repeated_stands}
use Rattle.lw_look.proofs.OneStep.{again_gives, part_reads, ReadAs, leave_gives}
use Rattle.lw_program.specs.declared.instr.Instr.{Instr}
use Rattle.lw_program.specs.declared.instr.Instr.TheVariants.{Token, Choice, Maybe, Loop, Once, Call}
use Rattle.lw_program.specs.ProgramOf.{ProgramParts, IsProgramOf}
use Rattle.lw_program.specs.Says.{Task, Does, thing_of, StandFrom, SaysTask}
use Rattle.lw_program.specs.Says as say
use Rattle.lw_program.specs.declared.recipes.mark.TreeMark.{TreeMark}
use Rattle.lw_program.specs.Meant.{AreMeant}
use Rattle.lw_program.specs.Meant as meant
use Rattle.lw_viable.specs.Gives.{OpensNode, TaskGives, PlacesGive}
use Rattle.lw_viable.specs.Gives as gives
use Rattle.lw_viable.specs.Readings.{IsPlacedTask, HasTask}
use Rattle.lw_viable.specs.Readings as place
use Rattle.lw_viable.specs.Moves.{left, MovesBy}
use Rattle.lw_viable.specs.Moves as move
use Rattle.lw_viable.proofs.Moves.Beside.{beside_given, place_at}
use Rattle.lw_viable.proofs.Moves.Calling.{formed, token_said, call_said, read_itself}
use Rattle.lw_viable.proofs.Moves.Doing.{value_form, does_gives, form_gives, read_given, thing_given}
use Rattle.lw_viable.proofs.Moves.Entering.{node_enters, body_enters}
use Rattle.lw_viable.proofs.Moves.Giving.{one_place_gives, places_joined}
use Rattle.lw_viable.proofs.Moves.Saying.{loop_said, said, instr_at}

module _ (g : Grammar) (kinds : Kinds) where
  acted_gives : {a : Action} {m : List Mark} → Gives g kinds (layer.Act a) m → m ≡ mark.Act a ∷ []
  acted_gives y.acted = refl

  group_gives : {es : List Element} {span : Span} {m : List Mark} → Gives g kinds (layer.Group es span) m → YieldsAll g kinds es m
  group_gives (y.grouped all) = all

  choice_gives : {es : List Element} {span : Span} {m : List Mark} → Gives g kinds (layer.Choice es span) m → (e : Element) × Contains es e × Yields g kinds e m
  choice_gives (y.chosen {e} has p) = (e, has, p)

  way_reads : {v c : Value0} {vs : List Value0} {span : Span} {m : List Mark} → ValueGives g kinds v (value.Choice vs span) c m →
      (w : Value0) × Contains vs w × ValueYields g kinds w c m
  way_reads (y.chosen_value {w} has r) = (w, has, r)

  is_loop : {tasks : List Task} {s : PartSite} {i : Instr} → SaysTask g kinds tasks (Does (t.Again s)) i → (point : PointId) × (inner : ℕ) × (i ≡ Loop point inner)
  is_loop (say.loop {point} {inner} at numbers has) = (point, inner, refl)

module _ (g : Grammar) (kinds : Kinds) (program : ProgramParts) (is : IsProgramOf g kinds program) (nodes : List Bool) where
  -- a move at the first place, and what the places that are then to be done give, and then the others
  pub record Moved (p : ℕ) (rest : List ℕ) (n : List Mark) : Type 0 where
    pub mark : Option TreeMark
    pub places : List ℕ
    pub own : List Mark
    pub others : List Mark
    pub move : MovesBy program nodes p mark places
    pub means : AreMeant g (left mark) own
    pub give : PlacesGive g kinds is.tasks (places ++ rest) others
    pub are : n ≡ own ++ others

  module _ (known : AreKinds g kinds) (rest : List ℕ) (behind_give : List Mark) (behind : PlacesGive g kinds is.tasks rest behind_give) where
    -- the place gives n by a move
    abbrev MovesTo : ℕ → List Mark → Type 0
    MovesTo p n = Moved p rest (n ++ behind_give)

    by_move : {p : ℕ} {l : Option TreeMark} {ps : List ℕ} {own others n : List Mark} → MovesBy program nodes p l ps → AreMeant g (left l) own →
        PlacesGive g kinds is.tasks ps others → n ≡ own ++ others → MovesTo p n
    by_move {own} {others} move means give same = record {
      mark = _;
      places = _;
      own = own;
      others = others ++ behind_give;
      move = move;
      means = means;
      give = places_joined g kinds is.tasks give behind;
      are = ap (λ n. n ++ behind_give) same ∙ append_assoc own others behind_give;
    }

    marked : {p : ℕ} {n : List Mark} {l : TreeMark} {m : Mark} → MovesBy program nodes p (Some l) [] → AreMeant g (l ∷ []) (m ∷ []) → n ≡ m ∷ [] → MovesTo p n
    marked move means same = by_move move means gives.nothing same

    unmarked : {p : ℕ} {n : List Mark} {ps : List ℕ} → MovesBy program nodes p None ps → PlacesGive g kinds is.tasks ps n → MovesTo p n
    unmarked move give = by_move move meant.none give refl

    token_moves : {p : ℕ} {t : Task} {k : KindId} {n : List Mark} → slice_get program.code p ≡ Some (Token k) → SaysTask g kinds is.tasks t (Token k) →
        TaskGives g kinds t n → MovesTo p n
    token_moves {k} here says given = marked (move.token here) (meant.more (meant.token k) meant.none) ((token_said g kinds known is.tasks says).only given)

    choice_moves : {p : ℕ} {s : PartSite} {es : List Element} {span : Span} {point : PointId} {first end : ℕ} {n : List Mark} →
        slice_get program.code p ≡ Some (Choice point first end) → ElementAt g s (layer.Choice es span) →
        StandFrom is.tasks (λ i e. thing_of (s ▸ i) e) es first end → Gives g kinds (layer.Choice es span) n → MovesTo p n
    choice_moves {s} {es} {first} {end} here at stand give =
        let (e, has, inner) = choice_gives g kinds give in
        let (i, number) = place_of es e has in
        let (from, below) = place_at is.tasks (λ i e. thing_of (s ▸ i) e) es first end stand i e number in
        unmarked (move.way (first + i) here from below)
        (one_place_gives g kinds is.tasks (stand.each i e number) (thing_given g kinds (way_stands g (site.element at number)) inner))

    value_moves : {p : ℕ} {property : List ℕ} {op : Op} {s : PartSite} {v : Value0} {vs : List Value0} {span : Span} {point : PointId} {first end : ℕ} {n : List Mark} →
        slice_get program.code p ≡ Some (Choice point first end) → ValueAt g s v (value.Choice vs span) →
        StandFrom is.tasks (λ i w. Does (t.Assigned property op (s ▸ i))) vs first end → ReadAs g kinds property op v n → MovesTo p n
    value_moves {property} {op} {s} {vs} {first} {end} here at stand read =
        let (w, has, inner) = way_reads g kinds (formed g kinds at read.reads) in
        let (i, number) = place_of vs w has in
        let (from, below) = place_at is.tasks (λ i w. Does (t.Assigned property op (s ▸ i))) vs first end stand i w number in
        unmarked (move.way (first + i) here from below)
        (one_place_gives g kinds is.tasks (stand.each i w number)
        (read_given g kinds (way_stands g (site.assigned at number)) (record { read = read.read; inner = read.inner; reads = inner; are = read.are })))

    maybe_moves : {p : ℕ} {s : PartSite} {e : Element} {span : Span} {point : PointId} {inner : ℕ} {n : List Mark} →
        slice_get program.code p ≡ Some (Maybe point inner) → ElementAt g s (layer.Maybe e span) → slice_get is.tasks inner ≡ Some (thing_of (s ▸ 0) e) →
        Gives g kinds (layer.Maybe e span) n → MovesTo p n
    maybe_moves here at has y.skipped = unmarked (move.passes here) gives.nothing
    maybe_moves here at has (y.taken q) =
        unmarked (move.enters here) (one_place_gives g kinds is.tasks has (thing_given g kinds (option_stands g (site.optional at)) q))

    -- the body of a repetition, and then its loop
    body_and_loop : {p inner : ℕ} {s : PartSite} {e : Element} {m n : List Mark} → RepeatedAt g s e → slice_get is.tasks inner ≡ Some (thing_of (s ▸ 0) e) →
        slice_get is.tasks p ≡ Some (Does (t.Again s)) → Yields g kinds e m → Repeats g kinds e n → PlacesGive g kinds is.tasks (inner ∷ p ∷ []) (m ++ n)
    body_and_loop at has stands q r =
        gives.more has (thing_given g kinds (repeated_stands g at) q) (one_place_gives g kinds is.tasks stands (gives.does (t.repeats at r)))

    loop_moves : {p : ℕ} {s : PartSite} {e : Element} {point : PointId} {inner : ℕ} {n : List Mark} → slice_get program.code p ≡ Some (Loop point inner) →
        RepeatedAt g s e → slice_get is.tasks inner ≡ Some (thing_of (s ▸ 0) e) → slice_get is.tasks p ≡ Some (Does (t.Again s)) → Repeats g kinds e n → MovesTo p n
    loop_moves here at has stands y.stop = unmarked (move.leaves here) gives.nothing
    loop_moves here at has stands (y.again q r) = unmarked (move.again here) (body_and_loop at has stands q r)

    once_moves : {p : ℕ} {s : PartSite} {e : Element} {span : Span} {rest : ℕ} {n : List Mark} → slice_get program.code p ≡ Some (Once rest) →
        ElementAt g s (layer.Some1 e span) → slice_get is.tasks rest ≡ Some (Does (t.Again s)) → Gives g kinds (layer.Some1 e span) n → MovesTo p n
    once_moves {rest} here at behind (y.repeated_once q r) =
        let (i, there, says) = instr_at g kinds program is rest behind in
        let (point, inner, loops) = is_loop g kinds says in
        let loop : slice_get program.code rest ≡ Some (Loop point inner) = there ∙ ap Some loops in
        let has = loop_said g kinds (said g kinds program is rest behind loop) (site.some at) in
        unmarked (move.once here loop) (body_and_loop (site.some at) has behind q r)

    module _ (told : (r : ℕ) (rule : Rule) → slice_get g.rules r ≡ Some rule → OpensNode g rule ↔ (slice_get nodes r ≡ Some true)) where
      rule_moves : {p r start : ℕ} {rule : Rule} {n : List Mark} → slice_get program.code p ≡ Some (Call r) → slice_get program.starts r ≡ Some (Some start) →
          IsReached g r → slice_get g.rules r ≡ Some rule → RuleGives g kinds r rule n → MovesTo p n
      rule_moves {p} {r} {start} {rule} {n} here at reached there given = by given
        where
          body_moves : ¬ OpensNode g rule → MovesTo p n
          body_moves opens_none =
              unmarked (move.calls here at (λ flag. opens_none ((told r rule there).1 flag)))
              (body_enters g kinds program is reached there at opens_none given)

          node_moves : OpensNode g rule → MovesTo p n
          node_moves opens =
              let (inner, give, same) = node_enters g kinds program is reached there at opens given in
              by_move (move.opens here at ((told r rule there).0 opens)) (meant.more (meant.opens (record { 0 = r })) meant.none) give same

          by : {m : List Mark} → RuleGives g kinds r rule m → MovesTo p n
          by (y.fragment is_one p) = body_moves (λ opens. true≢false (sym is_one ∙ opens.0))
          by (y.data_type is_none makes_none p) = body_moves (λ opens. makes_none opens.1)
          by (y.node is_none makes p) = node_moves (is_none, makes)

      call_moves : {p r : ℕ} {t : Task} {n : List Mark} → slice_get program.code p ≡ Some (Call r) → SaysTask g kinds is.tasks t (Call r) → IsPlacedTask g t →
          TaskGives g kinds t n → MovesTo p n
      call_moves {r} here says placed given =
          let (rule, call) = call_said g kinds known is.tasks says placed in
          let (start, at, starts) = is.reached r rule call.reached call.there in
          rule_moves here at call.reached call.there (call.gives given)

      -- whatever the instruction says, what the task gives begins with a move
      pub says_moves : {p : ℕ} {t : Task} {i : Instr} {n : List Mark} → slice_get program.code p ≡ Some i → SaysTask g kinds is.tasks t i → slice_get is.tasks p ≡ Some t →
          IsPlacedTask g t → TaskGives g kinds t n → MovesTo p n
      says_moves here (say.keyword at kind) stands placed given = token_moves here (say.keyword at kind) given
      says_moves here (say.called at (say.terminal kind)) stands placed given = token_moves here (say.called at (say.terminal kind)) given
      says_moves here (say.called at (say.rule_ rule)) stands placed given = call_moves here (say.called at (say.rule_ rule)) placed given
      says_moves here (say.acted at numbers) stands placed given =
          marked (move.acts here) (meant.more (meant.acts numbers at) meant.none) (acted_gives g kinds (form_gives g kinds at given))
      says_moves here (say.row {s} (site.row at) stand) stands placed given =
          unmarked (move.row here)
          (beside_given g kinds is.tasks s (λ j e is. row_part_stands g at is) stand (group_gives g kinds (form_gives g kinds at given)))
      says_moves here (say.choice at numbers stand) stands placed given = choice_moves here at stand (form_gives g kinds at given)
      says_moves here (say.maybe (site.optional at) numbers has) stands placed given = maybe_moves here at has (form_gives g kinds at given)
      says_moves here (say.loop at numbers has) stands placed given = loop_moves here at has stands (again_gives g kinds at (does_gives g kinds given))
      says_moves here (say.once at behind) stands placed given = once_moves here at behind (form_gives g kinds at given)
      says_moves here (say.value_choice at numbers stand) stands placed given =
          value_moves here at stand (part_reads g kinds (value_form g at).0 (does_gives g kinds given))
      says_moves here (say.put {p} {op} {v} there numbers reads_at ends_at) stands (place.assigned other assigned reached) given =
          let read = part_reads g kinds there (does_gives g kinds given) in
          let (i, at, says) = instr_at g kinds program is _ reads_at in
          by_move (move.puts here) (meant.more (meant.puts numbers assigned there) meant.none)
          (gives.more reads_at (gives.reads there read.reads) (one_place_gives g kinds is.tasks ends_at (gives.does t.leaves)))
          (read.are ∙ ap (λ c. mark.Put p op c ∷ read.inner ++ mark.End ∷ []) (read_itself g kinds known is.tasks says there read.reads))
      says_moves here (say.reads_keyword at kind) stands placed given = token_moves here (say.reads_keyword at kind) given
      says_moves here (say.reads_call at (say.terminal kind)) stands placed given = token_moves here (say.reads_call at (say.terminal kind)) given
      says_moves here (say.reads_call at (say.rule_ rule)) stands placed given = call_moves here (say.reads_call at (say.rule_ rule)) placed given
      says_moves here say.ends stands placed given = marked (move.ends here) (meant.more meant.ends meant.none) (leave_gives g kinds (does_gives g kinds given))
      says_moves here say.shuts stands placed given = marked (move.shuts here) (meant.more meant.shuts meant.none) (leave_gives g kinds (does_gives g kinds given))
