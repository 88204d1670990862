-- Hidden tokens are passed, and of the others each is read until one cannot be.
use Rattle.std.proofs.Common.{◌≡◌, take, map, refl, sym, ◌∙◌, subst, subst₂, inl, inr, true≢false}
use Rattle.std.proofs.lemmas.List.{take_all}
use Rattle.lw_grammar.specs.declared.grammar.Grammar.{Grammar}
use Rattle.lw_grammar.specs.Kinds.{Kinds, kind_count}
use Rattle.lw_grammar.specs.Named.{IsEntry}
use Rattle.lw_grammar.specs.Sentences.{Starts}
use Rattle.lw_program.specs.ProgramOf.{ProgramParts}
use Rattle.lw_viable.specs.Told.{BeginsParts}
use Rattle.lw_viable.specs.Aims.{Sentence}
use Rattle.lw_viable.specs.Fronts.{HoldReadings, IsKnownProgram, IsProgramWith}
use Rattle.lw_parse.specs.Outcomes.{CanStand, kinds_seen}
use Rattle.lw_parse.proofs.Searching.{number_within, hidden_seen, shown_kinds, seen_shown, of_kind, can_stand_past, is_first}
use Rattle.lw_parse.proofs.search.first_impossible.Goals as goal

-- the program of the parser, as its fields are read
abbrev known_at : {g : Grammar} {kinds : Kinds} {p q : ProgramParts} {b e : BeginsParts} → q ≡ p → e ≡ b → (known : IsKnownProgram g kinds p b) →
    IsProgramWith g kinds known.program.tasks q e
known_at {g} {kinds} same_program same_begins known =
    subst₂ (IsProgramWith g kinds known.program.tasks) (sym same_program) (sym same_begins) (record { known = known; tasks_are = refl })

pub start-requires : goal.start-requires
start-requires c =
    let (g, kinds, k, is, all) = c.requires.known in
    record {
      known = (
        g,
        kinds,
        is.known.program.tasks,
        is.rule,
        known_at c.program.ensures c.begins.ensures is.known,
        subst (λ r. IsEntry g r is.rule) (sym c.entry.ensures) is.entry,
      );
    }

pub loop-number-init : goal.loop-number-init
loop-number-init c = λ g kinds k is all. (
  (
    is.known.program.tasks,
    c.in_ok-fronts.ensures g kinds is.known.program.tasks is.rule (known_at c.program.ensures c.begins.ensures is.known)
        (subst (λ r. IsEntry g r is.rule) (sym c.entry.ensures) is.entry),
  ),
  λ supplied. inl refl,
)

pub loop-number-preserved-then-token : goal.loop-number-preserved-then-token
loop-number-preserved-then-token c = λ g kinds k is all.
    let tokens = c.args.tokens.now in
    let i = c.loop-number.number in
    let ((tasks, hold), stand) = c.loop-number.invariant g kinds k is all in (
      (
        tasks,
        subst (λ ts. HoldReadings g kinds tasks Sentence (map (λ t. t.kind.0) ts) c.loop-number.fronts) (sym (hidden_seen tokens i _ c.loop-number-test.true c.if-token.true)) hold,
      ),
      λ supplied. can_stand_past tokens i _ c.loop-number-test.true g kinds c.if-token.true (stand supplied),
    )

pub step-requires : goal.step-requires
step-requires c =
    let tokens = c.args.tokens.now in
    let i = c.loop-number.number in
    let (g, kinds, k, is, all) = c.requires.known in
    let (tasks, hold) = (c.loop-number.invariant g kinds k is all).0 in
    record {
      known = (
        g,
        kinds,
        tasks,
        Sentence,
        kinds_seen (take i tokens),
        hold,
        of_kind tokens i _ c.loop-number-test.true (kind_count kinds) all,
      );
    }

pub returns-then-not-branch : goal.returns-then-not-branch
returns-then-not-branch c = λ g kinds k is supplied all.
    let tokens = c.args.tokens.now in
    let i = c.loop-number.number in
    let inside = c.loop-number-test.true in
    let ks = kinds_seen (take i tokens) in
    let ((tasks, hold), stand) = c.loop-number.invariant g kinds k is all in
    let starts = c.in_ok-step.ensures.starts g kinds tasks Sentence ks hold (of_kind tokens i _ inside (kind_count kinds) all) supplied in
    is_first tokens i _ inside g kinds c.numbered.result c.numbered.ensures c.if-token.false (stand supplied)
    (λ can. true≢false (sym (starts.1 (subst (Starts g kinds) (sym (seen_shown tokens i _ inside ks c.if-token.false)) can)) ∙ c.if-not-branch.true))

pub loop-number-preserved : goal.loop-number-preserved
loop-number-preserved c = λ g kinds k is all.
    let tokens = c.args.tokens.now in
    let i = c.loop-number.number in
    let inside = c.loop-number-test.true in
    let ks = kinds_seen (take i tokens) in
    let ((tasks, hold), stand) = c.loop-number.invariant g kinds k is all in
    let below = of_kind tokens i _ inside (kind_count kinds) all in
    let more = seen_shown tokens i _ inside ks c.if-token.false ∙ sym (shown_kinds tokens i _ inside c.if-token.false) in (
      (tasks, subst (λ ks. HoldReadings g kinds tasks Sentence ks c.step.new.self) more (c.in_ok-step.ensures.readings g kinds tasks Sentence ks hold below)),
      λ supplied. inr (subst (Starts g kinds) more ((c.in_ok-step.ensures.starts g kinds tasks Sentence ks hold below supplied).0 c.if-not-branch.false)),
    )

pub returns : goal.returns
returns c = λ g kinds k is supplied all.
    subst (CanStand g kinds) (take_all c.loop-number.number c.args.tokens.now c.loop-number-test.false) ((c.loop-number.invariant g kinds k is all).1 supplied)

pub numbered-requires : goal.numbered-requires
numbered-requires c = number_within c.args.tokens.now c.loop-number.number _ c.loop-number-test.true c.requires.tile
