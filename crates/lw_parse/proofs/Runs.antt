-- A run of the parser from its start to its end: its marks and what is to be done are those of a parser that looks ahead.
use Rattle.std.proofs.Common.{◌≡◌, ◌≢◌, ◌↔◌, ℕ, List, [], ◌∷◌, ◌++◌, Option, None, Some, MatchOption, true, reverse, slice_get, refl, sym, ap, ap₂, ◌∙◌, subst, append_assoc, append-nil}
use Rattle.std.proofs.lemmas.List.{reverse-append}
use Rattle.lw_grammar.specs.declared.grammar.Grammar.{Grammar}
use Rattle.lw_grammar.specs.declared.rule.Rule.{Rule}
use Rattle.lw_grammar.specs.Kinds.{Kinds}
use Rattle.lw_grammar.specs.Reached as reached
use Rattle.lw_grammar.specs.Marks.{Mark, kinds_of}
use Rattle.lw_grammar.specs.Sentences.{IsWhole}
use Rattle.lw_grammar.proofs.Joined.{kinds_join}
use Rattle.lw_look.specs.Supplied.{ChoicesHaveParts}
use Rattle.lw_look.specs.Things.{Thing}
use Rattle.lw_look.specs.Parses.{Parses}
use Rattle.lw_look.specs.Parses as parse
use Rattle.lw_look.proofs.Apart.{are_apart}
use Rattle.lw_look.proofs.Parsing.{parse_ends, parse_too_long}
use Rattle.lw_program.specs.declared.instr.Instr.TheVariants.{Call}
use Rattle.lw_program.specs.Says.{Task}
use Rattle.lw_program.specs.declared.recipes.mark.TreeMark.{TreeMark}
use Rattle.lw_program.specs.Meant.{AreMeant}
use Rattle.lw_viable.specs.Gives.{OpensNode}
use Rattle.lw_viable.proofs.Meaning.{meant_joined}
use Rattle.lw_parse.specs.Marked.{MeanOnlySentence}
use Rattle.lw_parse.specs.Parsers.{ParserParts, TellWays, IsParserOf}
use Rattle.lw_parse.specs.Running.{RunState, went_on, Entered, NotEntered, TurnsTo, GivesUp}
use Rattle.lw_parse.specs.Running as run
use Rattle.lw_parse.proofs.Decided.{stacked}
use Rattle.lw_parse.proofs.ToDo.{AreToDo, to_do_joined, settled}
use Rattle.lw_parse.proofs.ToDo as todo
use Rattle.lw_parse.proofs.Steps.{entered_rule, turn_moves}
use Rattle.lw_parse.proofs.Stuck.{turn_stuck}

-- the state before this place was taken off
abbrev pub before : ℕ → RunState → RunState
before p state = record { parser = state.parser; unread = state.unread; to_do = p ∷ state.to_do; marks = state.marks }

pub popped : (parser : ParserParts) (unread : List ℕ) (marks : List TreeMark) (old new : List ℕ) (p : ℕ) → old ≡ new ++ p ∷ [] →
    stacked parser unread old marks ≡ before p (stacked parser unread new marks)
popped parser unread marks old new p is =
    ap (λ ps. record { parser = parser; unread = unread; to_do = ps; marks = marks }) (ap reverse is ∙ reverse-append new (p ∷ []))

-- where nothing was to be done and no mark was left
pub began : (parser : ParserParts) (unread : List ℕ) (items : List ℕ) (none marks : List TreeMark) (places ls : List ℕ) → items ≡ [] → none ≡ [] →
    went_on (stacked parser unread items none) marks places ls ≡ record { parser = parser; unread = ls; to_do = places; marks = marks }
began parser unread items none marks places ls no_place no_mark =
    ap₂ (λ ps ms. record { parser = parser; unread = ls; to_do = places ++ reverse ps; marks = ms ++ marks }) no_place no_mark
    ∙ ap (λ ps. record { parser = parser; unread = ls; to_do = ps; marks = marks }) (append-nil places)

module _ (g : Grammar) (kinds : Kinds) (k : ℕ) (parser : ParserParts) (is : IsParserOf g kinds k parser) where
  abbrev tasks : List Task
  tasks = is.known.program.tasks

  abbrev Told : Type 0
  Told = (r : ℕ) (rule : Rule) → slice_get g.rules r ≡ Some rule → OpensNode g rule ↔ (slice_get parser.begins.nodes r ≡ Some true)

  told : Told
  told = is.known.begins.nodes

  tables : TellWays g kinds parser.k parser.tables
  tables = subst (λ k. TellWays g kinds k parser.tables) (sym is.depth) is.tables

  -- over all these kinds the run came so far
  pub record IsRunning (all : List ℕ) (state : RunState) : Type 0 where
    pub same : state.parser ≡ parser
    pub front : List Mark
    pub things : List Thing
    pub meant : AreMeant g state.marks front
    pub parses : Parses g kinds parser.k front state.unread things
    pub does : AreToDo g kinds tasks state.to_do things
    pub read : kinds_of front ++ state.unread ≡ all

  -- ---- the start

  pub run_starts : {all ls : List ℕ} {marks : List TreeMark} {places : List ℕ} → Entered parser all (Some (Call parser.entry)) marks places ls →
      IsRunning all (record { parser = parser; unread = ls; to_do = places; marks = marks })
  run_starts {all} (run.calls change at enters) =
      let e = entered_rule g kinds parser is.known.program told tables all (reached.entry is.rule is.entry) is.entry.there at enters in
      record {
        same = refl;
        front = e.l;
        things = e.xs;
        meant = e.means;
        parses = parse.begins all is.entry e.enters;
        does = e.does;
        read = ap (λ l. l ++ all) e.quiet;
      }

  pub run_begins : {all : List ℕ} → NotEntered parser all (Some (Call parser.entry)) → ⊥
  run_begins (run.no_start none) =
      let (start, at, starts) = is.known.program.reached parser.entry is.rule (reached.entry is.rule is.entry) is.entry.there in none start at
  run_begins (run.no_call i not_token not_call) = not_call _ refl

  -- ---- a turn

  record HasTurned (m : List Mark) (ks ps : List ℕ) (marks : List TreeMark) (places ls : List ℕ) : Type 0 where
    l : List Mark
    things : List Thing
    means : AreMeant g marks l
    parses : Parses g kinds parser.k (m ++ l) ls things
    does : AreToDo g kinds tasks (places ++ ps) things
    read : ks ≡ kinds_of l ++ ls

  turned : {m : List Mark} {ks ps : List ℕ} {p : ℕ} {things : List Thing} {marks : List TreeMark} {places ls : List ℕ} → Parses g kinds parser.k m ks things →
      AreToDo g kinds tasks (p ∷ ps) things → TurnsTo parser ks p (slice_get parser.program.code p) marks places ls → HasTurned m ks ps marks places ls
  turned {m} {ks} {ps} {p} parses (todo.more {xs = rest} stands others) turns =
      let first = settled g kinds tasks parser.k m ks rest stands parses in
      let moved = turn_moves g kinds parser is.known.program told tables m ks rest p first turns in
      record {
        l = moved.l;
        things = moved.xs ++ rest;
        means = moved.means;
        parses = moved.parses;
        does = to_do_joined g kinds tasks moved.does others;
        read = moved.read;
      }

  stuck : {m : List Mark} {ks ps : List ℕ} {p : ℕ} {things : List Thing} → ChoicesHaveParts g → Parses g kinds parser.k m ks things →
      AreToDo g kinds tasks (p ∷ ps) things → GivesUp parser ks (slice_get parser.program.code p) → ¬ IsWhole g kinds (kinds_of m ++ ks)
  stuck {m} {ks} choices parses (todo.more {xs = rest} stands others) up =
      let first = settled g kinds tasks parser.k m ks rest stands parses in
      turn_stuck g kinds is.known.are choices parser is.known.program told tables m ks rest first up

  pub run_goes_on : {all : List ℕ} {now mid : RunState} {p : ℕ} {marks : List TreeMark} {places ls : List ℕ} → IsRunning all now → now ≡ before p mid →
      TurnsTo mid.parser mid.unread p (slice_get mid.parser.program.code p) marks places ls → IsRunning all (went_on mid marks places ls)
  run_goes_on {all} {now} {mid} {p} {marks} {places} {ls} running popped turns =
      let here = subst (IsRunning all) popped running in
      let step = turned here.parses here.does (subst (λ parser. TurnsTo parser mid.unread p (slice_get parser.program.code p) marks places ls) here.same turns) in
      record {
        same = here.same;
        front = here.front ++ step.l;
        things = step.things;
        meant = meant_joined g here.meant step.means;
        parses = step.parses;
        does = step.does;
        read =
            ap (λ l. l ++ ls) (kinds_join here.front step.l) ∙ append_assoc (kinds_of here.front) (kinds_of step.l) ls
            ∙ ap (λ l. kinds_of here.front ++ l) (sym step.read) ∙ here.read;
      }

  pub run_stuck : {all : List ℕ} {now mid : RunState} {p : ℕ} → ChoicesHaveParts g → IsRunning all now → now ≡ before p mid →
      GivesUp mid.parser mid.unread (slice_get mid.parser.program.code p) → ¬ IsWhole g kinds all
  run_stuck {all} {now} {mid} {p} choices running popped up =
      let here = subst (IsRunning all) popped running in
      subst (λ ks. ¬ IsWhole g kinds ks) here.read
      (stuck choices here.parses here.does (subst (λ parser. GivesUp parser mid.unread (slice_get parser.program.code p)) here.same up))

  -- ---- the end

  nothing_left : {things : List Thing} → AreToDo g kinds tasks [] things → things ≡ []
  nothing_left todo.nothing = refl

  all_done : {all : List ℕ} {now : RunState} (running : IsRunning all now) → now.to_do ≡ [] → Parses g kinds parser.k running.front now.unread []
  all_done {now} running none =
      let nothing : running.things ≡ [] = nothing_left (subst (λ ps. AreToDo g kinds tasks ps running.things) none running.does) in
      subst (Parses g kinds parser.k running.front now.unread) nothing running.parses

  pub run_is_whole : {all : List ℕ} {now : RunState} → IsRunning all now → now.to_do ≡ [] → now.unread ≡ [] → MeanOnlySentence g kinds all now.marks
  run_is_whole {all} {now} running done none =
      let parses = subst (λ ks. Parses g kinds parser.k running.front ks []) none (all_done running done) in
      let ends = parse_ends g kinds parser.k (are_apart g kinds is.known.are) running.front parses in
      let same : kinds_of running.front ≡ all =
      sym (append-nil (kinds_of running.front)) ∙ ap (λ ks. kinds_of running.front ++ ks) (sym none) ∙ running.read in
      record {
        sentence = running.front;
        meant = running.meant;
        one = record { sentence = ends.0; kinds_are = same; only = λ other sentence have. ends.1 other sentence (have ∙ sym same) };
      }

  too_long : {m : List Mark} (ks : List ℕ) → Parses g kinds parser.k m ks [] → ks ≢ [] → ¬ IsWhole g kinds (kinds_of m ++ ks)
  too_long [] parses more = absurd (more refl)
  too_long {m} (next ∷ ks) parses more = parse_too_long g kinds parser.k (are_apart g kinds is.known.are) m next ks parses

  pub run_is_too_long : {all : List ℕ} {now : RunState} → IsRunning all now → now.to_do ≡ [] → now.unread ≢ [] → ¬ IsWhole g kinds all
  run_is_too_long {now} running done more = subst (λ ks. ¬ IsWhole g kinds ks) running.read (too_long now.unread (all_done running done) more)

  pub run_ends : {all : List ℕ} {now : RunState} {V : Type 0} (items : V → List TreeMark) → IsRunning all now → now.to_do ≡ [] → (found : Option V) →
      MatchOption found (now.unread ≢ []) (λ marks. (now.unread ≡ []) × (items marks ≡ now.marks)) →
      MatchOption found (¬ IsWhole g kinds all) (λ marks. MeanOnlySentence g kinds all (items marks))
  run_ends items running done None more = run_is_too_long running done more
  run_ends {all} items running done (Some marks) (none, same) = subst (MeanOnlySentence g kinds all) (sym same) (run_is_whole running done none)
