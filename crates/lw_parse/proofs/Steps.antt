-- What is done at a place is one move of the parser that looks ahead.
use Rattle.std.proofs.Common.{◌≡◌, ◌↔◌, ℕ, ◌+◌, ◌<◌, List, [], ◌∷◌, ◌++◌, Option, Some, Bool, true, false, slice_get, refl, sym, ap, ◌∙◌, subst, append-nil, inl, inr, arith}
use Rattle.std.proofs.lemmas.Option.{same_Some, slice_get_cases}
use Rattle.lw_base.specs.declared.numbers.KindId.{KindId}
use Rattle.lw_base.specs.declared.numbers.PointId.{PointId}
use Rattle.lw_base.specs.declared.token.Span.{Span}
use Rattle.lw_grammar.specs.declared.grammar.Grammar.{Grammar}
use Rattle.lw_grammar.specs.declared.rule.Element.{Element}
use Rattle.lw_grammar.specs.declared.rule.Element.TheOpen as layer
use Rattle.lw_grammar.specs.declared.rule.Op.{Op}
use Rattle.lw_grammar.specs.declared.rule.Rule.{Rule}
use Rattle.lw_grammar.specs.declared.rule.Value0.{Value0}
use Rattle.lw_grammar.specs.declared.rule.Value0.TheOpen as value
use Rattle.lw_grammar.specs.Kinds.{Kinds}
use Rattle.lw_grammar.specs.Named.{IsRule}
use Rattle.lw_grammar.specs.Reached.{IsReached}
use Rattle.lw_grammar.specs.Marks.{Mark, kinds_of}
use Rattle.lw_grammar.specs.Marks as mark
use Rattle.lw_look.specs.Looks.{Look, window}
use Rattle.lw_look.specs.Sites.{PartSite, rule_of, body, ◌▸◌, Body, Value, IsPartAt, ElementAt, ValueAt, RepeatedAt, OptionalAt, ValueCallsAt}
use Rattle.lw_look.specs.Sites as site
use Rattle.lw_look.specs.Things.{Thing, Do, Assigned, Again, Leave, RuleEnters, Entering, Ways, StepsTo, AsksNothing}
use Rattle.lw_look.specs.Things as t
use Rattle.lw_look.specs.Parses.{Parses}
use Rattle.lw_look.specs.Parses as parse
use Rattle.lw_look.proofs.Reaching.{calls_reach}
use Rattle.lw_look.proofs.Standing.{way_stands, option_stands, repeated_stands}
use Rattle.lw_program.specs.declared.instr.Instr.{Instr}
use Rattle.lw_program.specs.declared.instr.Instr.TheVariants.{Token, Call}
use Rattle.lw_program.specs.ProgramOf.{IsProgramOf, StartsRuleAt}
use Rattle.lw_program.specs.Says.{Task, Does, Reads, thing_of, CallsBy, IsPoint, StandFrom, SaysTask}
use Rattle.lw_program.specs.Says as say
use Rattle.lw_program.specs.declared.recipes.mark.TreeMark.{TreeMark}
use Rattle.lw_program.specs.declared.recipes.mark.TreeMark.TheVariants as numbered
use Rattle.lw_program.specs.Meant.{AssignedAt, AreMeant}
use Rattle.lw_program.specs.Meant as meant
use Rattle.lw_viable.specs.Gives.{OpensNode}
use Rattle.lw_viable.specs.Growing.{Change}
use Rattle.lw_viable.specs.Moves.{left}
use Rattle.lw_viable.specs.Readings.{IsPlacedTask}
use Rattle.lw_viable.specs.Readings as place
use Rattle.lw_viable.specs.Turning.{Enters}
use Rattle.lw_viable.specs.Turning as turn
use Rattle.lw_viable.proofs.Moves.Doing.{value_form}
use Rattle.lw_viable.proofs.Moves.Saying.{loop_said, said, instr_at}
use Rattle.lw_parse.specs.Parsers.{ParserParts, TellWays}
use Rattle.lw_parse.specs.Running.{IsWayBy, Entered, TurnsTo}
use Rattle.lw_parse.specs.Running as run
use Rattle.lw_parse.proofs.ToDo.{quiet_element, quiet_call, quiet_value, quiet_leave, StandsFor, AreToDo, to_do_joined, one_to_do, two_to_do, row_to_do, IsFirstThing}
use Rattle.lw_parse.proofs.ToDo as todo

behind : {g : Grammar} {x : TreeMark} {y : Mark} {xs : List TreeMark} {l : List Mark} → AreMeant g (x ∷ []) (y ∷ []) → AreMeant g xs l → AreMeant g (x ∷ xs) (y ∷ l)
behind (meant.more one meant.none) others = meant.more one others

call_stands : {g : Grammar} {s : PartSite} {v : Value0} {name : List ℕ} → ValueCallsAt g s v name → IsPartAt g s (Value v)
call_stands {g} (site.calls at) = (value_form g at).0
call_stands {g} (site.crosses at) = (value_form g at).0
call_stands {g} (site.crosses_by_name name at is) = (value_form g at).0

-- the item whose place is within a row
pub record ItemOf {X : Type 0} (tasks : List Task) (task : ℕ → X → Task) (items : List X) (first i : ℕ) : Type 0 where
  pub item : X
  pub at : slice_get items i ≡ Some item
  pub has : slice_get tasks (first + i) ≡ Some (task i item)

pub item_of : {X : Type 0} (tasks : List Task) (task : ℕ → X → Task) (items : List X) (first end i : ℕ) → StandFrom tasks task items first end → first + i < end →
    ItemOf tasks task items first i
item_of tasks task items first end i stand below = elim (slice_get_cases items i).1 [
  | inl (x, inside, at, is) ↦ record { item = x; at = at; has = stand.each i x at }
  | inr (past, none) ↦ absurd (let sized = stand.sized in omega arith)
]

module _ (g : Grammar) (kinds : Kinds) (parser : ParserParts) (is : IsProgramOf g kinds parser.program)
    (told : (r : ℕ) (rule : Rule) → slice_get g.rules r ≡ Some rule → OpensNode g rule ↔ (slice_get parser.begins.nodes r ≡ Some true))
    (tables : TellWays g kinds parser.k parser.tables) where
  -- ---- a call

  module _ (ks : List ℕ) where
    -- a rule is entered so: the marks are meant, and the places stand for what is then to be done
    pub record IsEnteredRule (r : ℕ) (rule : Rule) (marks : List TreeMark) (places : List ℕ) : Type 0 where
      pub l : List Mark
      pub xs : List Thing
      pub enters : RuleEnters g kinds r rule l xs
      pub means : AreMeant g marks l
      pub does : AreToDo g kinds is.tasks places xs
      pub quiet : kinds_of l ≡ []

    pub entered_rule : {r start : ℕ} {rule : Rule} {change : Change} → IsReached g r → slice_get g.rules r ≡ Some rule →
        slice_get parser.program.starts r ≡ Some (Some start) → Enters parser.begins r start change → IsEnteredRule r rule (left change.0) change.1
    entered_rule {r} {start} {rule} reached there at enters = by enters
      where
        starts : StartsRuleAt g kinds is.tasks r rule start
        starts =
            let (other, at', starts) = is.reached r rule reached there in
            subst (StartsRuleAt g kinds is.tasks r rule) (same_Some other start (same_Some (Some other) (Some start) (sym at' ∙ at))) starts

        first : StandsFor g kinds is.tasks start (Do (body r))
        first = todo.element (site.whole there) reached starts.whole

        alone : (b : Bool) → rule.is_fragment ≡ b → ¬ OpensNode g rule → RuleEnters g kinds r rule [] (Do (body r) ∷ [])
        alone true is_one no_node = t.fragment is_one
        alone false is_none no_node = t.data_type is_none (λ makes. no_node (is_none, makes))

        by : {change : Change} → Enters parser.begins r start change → IsEnteredRule r rule (left change.0) change.1
        by (turn.opens flag) =
            let opens = (told r rule there).1 flag in
            record {
              l = mark.Open r ∷ [];
              xs = Do (body r) ∷ Leave mark.Shut ∷ [];
              enters = t.node opens.0 opens.1;
              means = meant.more (meant.opens (record { 0 = r })) meant.none;
              does = two_to_do g kinds is.tasks first (todo.leaves (starts.shut opens.0 opens.1));
              quiet = refl;
            }
        by (turn.goes no_flag) =
            record {
              l = [];
              xs = Do (body r) ∷ [];
              enters = alone rule.is_fragment refl (λ opens. no_flag ((told r rule there).0 opens));
              means = meant.none;
              does = one_to_do g kinds is.tasks first;
              quiet = refl;
            }

    -- the same of a call by name
    pub record IsEnteredAs (name : List ℕ) (marks : List TreeMark) (places ls : List ℕ) : Type 0 where
      pub l : List Mark
      pub xs : List Thing
      pub entering : Entering g kinds name l xs
      pub means : AreMeant g marks l
      pub does : AreToDo g kinds is.tasks places xs
      pub read : ks ≡ kinds_of l ++ ls

    pub entered_token : {name : List ℕ} {k : KindId} {marks : List TreeMark} {places ls : List ℕ} → CallsBy g kinds name (Token k) →
        Entered parser ks (Some (Token k)) marks places ls → IsEnteredAs name marks places ls
    entered_token (say.terminal {k} kind) (run.reads same) =
        record {
          l = mark.Token k.0 ∷ [];
          xs = [];
          entering = t.terminal kind;
          means = meant.more (meant.token k) meant.none;
          does = todo.nothing;
          read = same;
        }

    pub entered_call : {name : List ℕ} {r : ℕ} {marks : List TreeMark} {places ls : List ℕ} → CallsBy g kinds name (Call r) →
        ((rule : Rule) → IsRule g name r rule → IsReached g r) → Entered parser ks (Some (Call r)) marks places ls → IsEnteredAs name marks places ls
    entered_call (say.rule_ {r} {rule} names) reach (run.calls change at enters) =
        let e = entered_rule (reach rule names) names.first.there at enters in
        record {
          l = e.l;
          xs = e.xs;
          entering = t.rule_ names e.enters;
          means = e.means;
          does = e.does;
          read = ap (λ l. l ++ ks) (sym e.quiet);
        }

  -- ---- a way

  -- the tables of this grammar tell which window comes next at which way
  pub way_told : (ks : List ℕ) {point : PointId} {way : Option ℕ} {s : PartSite} → IsWayBy parser ks point way → IsPoint g kinds point s → (w : ℕ) →
      (way ≡ Some w) ↔ Look g kinds parser.k s w (window parser.k ks)
  way_told ks {s} by at w = by g kinds s w tables at

  module _ (m : List Mark) (ks : List ℕ) (rest : List Thing) where
    -- it is a move
    pub record HasMoved (marks : List TreeMark) (places ls : List ℕ) : Type 0 where
      pub l : List Mark
      pub xs : List Thing
      pub means : AreMeant g marks l
      pub parses : Parses g kinds parser.k (m ++ l) ls (xs ++ rest)
      pub does : AreToDo g kinds is.tasks places xs
      pub read : ks ≡ kinds_of l ++ ls

    by_step : {x : Thing} {l : List Mark} {xs : List Thing} {marks : List TreeMark} {places ls : List ℕ} → Parses g kinds parser.k m ks (x ∷ rest) →
        AsksNothing g kinds x → StepsTo g kinds x l xs → ks ≡ kinds_of l ++ ls → AreMeant g marks l → AreToDo g kinds is.tasks places xs →
        HasMoved marks places ls
    by_step {x} {l} {xs} {ls} parses none step read means does = record {
      l = l;
      xs = xs;
      means = means;
      parses = parse.goes m l ls rest (subst (λ ks. Parses g kinds parser.k m ks (x ∷ rest)) read parses) none step;
      does = does;
      read = read;
    }

    by_way : {x : Thing} {s : PartSite} {w : ℕ} {xs : List Thing} {point : PointId} {places : List ℕ} → Parses g kinds parser.k m ks (x ∷ rest) →
        Ways g kinds x s w xs → IsWayBy parser ks point (Some w) → IsPoint g kinds point s → AreToDo g kinds is.tasks places xs → HasMoved [] places ks
    by_way {s} {w} {xs} parses way by at does = record {
      l = [];
      xs = xs;
      means = meant.none;
      parses = subst (λ m. Parses g kinds parser.k m ks (xs ++ rest)) (sym (append-nil m))
          (parse.takes m ks rest parses way (λ v look. sym (same_Some w v ((way_told ks by at v).1 look))));
      does = does;
      read = refl;
    }

    -- the text of a value is read behind the mark that begins it
    value_moves : {property : List ℕ} {op : Op} {s : PartSite} {n : ℕ} (first : ℕ) {i : Instr} {marks : List TreeMark} {places ls : List ℕ} →
        SaysTask g kinds is.tasks (Reads s) i → IsReached g (rule_of s) →
        ((w : Value0) → IsPartAt g s (Value w) → AreMeant g (numbered.Put n ∷ []) (mark.Put property op w ∷ [])) →
        slice_get is.tasks (first + 1) ≡ Some (Does (Leave mark.End)) → Parses g kinds parser.k m ks (Assigned property op s ∷ rest) →
        Entered parser ks (Some i) marks places ls → HasMoved (numbered.Put n ∷ marks) (places ++ (first + 1) ∷ []) ls
    value_moves first (say.reads_keyword {v} {k} at kind) reached put ends parses (run.reads same) =
        by_step parses (quiet_value g kinds at tt) (t.keyword_value at kind) same
        (behind (put v (value_form g at).0) (meant.more (meant.token k) meant.none)) (one_to_do g kinds is.tasks (todo.leaves ends))
    value_moves first (say.reads_call {v} at (say.terminal kind)) reached put ends parses entered =
        let e = entered_token ks (say.terminal kind) entered in
        by_step parses (quiet_call g kinds at) (t.called_value at e.entering) e.read (behind (put v (call_stands at)) e.means)
        (to_do_joined g kinds is.tasks e.does (one_to_do g kinds is.tasks (todo.leaves ends)))
    value_moves first (say.reads_call {v} at (say.rule_ names)) reached put ends parses entered =
        let e = entered_call ks (say.rule_ names) (λ rule is. calls_reach g (site.reads at is) reached) entered in
        by_step parses (quiet_call g kinds at) (t.called_value at e.entering) e.read (behind (put v (call_stands at)) e.means)
        (to_do_joined g kinds is.tasks e.does (one_to_do g kinds is.tasks (todo.leaves ends)))

    module _ (p : ℕ) where
      way_moves : {s : PartSite} {es : List Element} {span : Span} {point : PointId} {first end : ℕ} (i : ℕ) → ElementAt g s (layer.Choice es span) → IsPoint g kinds point s →
          StandFrom is.tasks (λ i e. thing_of (s ▸ i) e) es first end → IsReached g (rule_of s) → Parses g kinds parser.k m ks (Do s ∷ rest) →
          IsWayBy parser ks point (Some (i + 1)) → first + i < end → HasMoved [] ((first + i) ∷ []) ks
      way_moves {s} {es} {first} {end} i at numbers stand reached parses by below =
          let it = item_of is.tasks (λ i e. thing_of (s ▸ i) e) es first end i stand below in
          by_way parses (t.alternative (site.element at it.at)) by numbers
          (one_to_do g kinds is.tasks (todo.element (way_stands g (site.element at it.at)) reached it.has))

      value_way_moves : {property : List ℕ} {op : Op} {s : PartSite} {v : Value0} {vs : List Value0} {span : Span} {point : PointId} {first end : ℕ} (i : ℕ) →
          ValueAt g s v (value.Choice vs span) → IsPoint g kinds point s → StandFrom is.tasks (λ i w. Does (Assigned property op (s ▸ i))) vs first end →
          AssignedAt g s property op → IsReached g (rule_of s) → Parses g kinds parser.k m ks (Assigned property op s ∷ rest) →
          IsWayBy parser ks point (Some (i + 1)) → first + i < end → HasMoved [] ((first + i) ∷ []) ks
      value_way_moves {property} {op} {s} {vs} {first} {end} i at numbers stand goes reached parses by below =
          let it = item_of is.tasks (λ i w. Does (Assigned property op (s ▸ i))) vs first end i stand below in
          by_way parses (t.value_ (site.assigned at it.at)) by numbers
          (one_to_do g kinds is.tasks (todo.assigned (way_stands g (site.assigned at it.at)) (meant.way i goes at) reached it.has))

      -- whatever is said at the place, what is done there is a move
      pub says_moves : {x : Thing} {i : Instr} {marks : List TreeMark} {places ls : List ℕ} → SaysTask g kinds is.tasks (Does x) i → slice_get is.tasks p ≡ Some (Does x) → IsPlacedTask g (Does x) →
          Parses g kinds parser.k m ks (x ∷ rest) → TurnsTo parser ks p (Some i) marks places ls → HasMoved marks places ls
      says_moves (say.keyword at kind) here placed parses (run.reads (run.reads same)) =
          by_step parses (quiet_element g kinds at tt) (t.keyword at kind) same (meant.more (meant.token _) meant.none) todo.nothing
      says_moves (say.called at (say.terminal kind)) here placed parses (run.reads entered) =
          let e = entered_token ks (say.terminal kind) entered in
          by_step parses (quiet_element g kinds at tt) (t.called at e.entering) e.read e.means e.does
      says_moves (say.called at (say.rule_ names)) here (place.element stands reached) parses (run.calls entered) =
          let e = entered_call ks (say.rule_ names) (λ rule is. calls_reach g (site.calls at is) reached) entered in
          by_step parses (quiet_element g kinds at tt) (t.called at e.entering) e.read e.means e.does
      says_moves (say.acted at numbers) here placed parses run.acts =
          by_step parses (quiet_element g kinds at tt) (t.acted at) refl (meant.more (meant.acts numbers at) meant.none) todo.nothing
      says_moves (say.row {s} (site.row at) stand) here (place.element stands reached) parses run.row =
          by_step parses (quiet_element g kinds at tt) (t.row (site.row at)) refl meant.none (row_to_do g kinds is.tasks s reached at stand)
      says_moves (say.choice at numbers stand) here (place.element stands reached) parses (run.way i by below) =
          way_moves i at numbers stand reached parses by below
      says_moves (say.maybe at numbers has) here (place.element stands reached) parses (run.enters_part by) =
          by_way parses (t.enters at) by numbers (one_to_do g kinds is.tasks (todo.element (option_stands g at) reached has))
      says_moves (say.maybe at numbers has) here placed parses (run.passes_part by) = by_way parses (t.passes at) by numbers todo.nothing
      says_moves (say.loop at numbers has) here (place.again other reached) parses (run.again by) =
          by_way parses (t.reads_again at) by numbers
          (two_to_do g kinds is.tasks (todo.element (repeated_stands g at) reached has) (todo.again at reached here))
      says_moves (say.loop at numbers has) here placed parses (run.leaves by) = by_way parses (t.leaves at) by numbers todo.nothing
      says_moves (say.once {s} at behind_it) here (place.element stands reached) parses (run.once loop) =
          let has = loop_said g kinds (said g kinds parser.program is _ behind_it loop) (site.some at) in
          by_step parses (quiet_element g kinds at tt) (t.some at) refl meant.none
          (two_to_do g kinds is.tasks (todo.element (repeated_stands g (site.some at)) reached has) (todo.again (site.some at) reached behind_it))
      says_moves (say.value_choice at numbers stand) here (place.assigned stands goes reached) parses (run.way i by below) =
          value_way_moves i at numbers stand goes reached parses by below
      says_moves (say.put stands numbers reads_at ends_at) here (place.assigned other goes reached) parses (run.puts {marks} {places} {ls} entered) =
          let (i, at, says) = instr_at g kinds parser.program is _ reads_at in
          value_moves _ says reached (λ w stands. meant.more (meant.puts numbers goes stands) meant.none) ends_at parses
          (subst (λ i. Entered parser ks i marks places ls) at entered)
      says_moves say.ends here placed parses run.ends =
          by_step parses (quiet_leave g kinds mark.End) t.left refl (meant.more meant.ends meant.none) todo.nothing
      says_moves say.shuts here placed parses run.shuts =
          by_step parses (quiet_leave g kinds mark.Shut) t.left refl (meant.more meant.shuts meant.none) todo.nothing

      -- so what is done at the first place is a move
      pub turn_moves : {marks : List TreeMark} {places ls : List ℕ} → IsFirstThing g kinds is.tasks parser.k m ks rest p →
          TurnsTo parser ks p (slice_get parser.program.code p) marks places ls → HasMoved marks places ls
      turn_moves {marks} {places} {ls} first turns =
          let (i, at, says) = instr_at g kinds parser.program is p first.stands in
          says_moves says first.stands first.placed first.parses (subst (λ i. TurnsTo parser ks p i marks places ls) at turns)
