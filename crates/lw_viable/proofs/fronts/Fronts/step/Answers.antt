-- A hidden token, and one that is read.
use Rattle.std.proofs.Common.{◌≡◌, ◌↔◌, ℕ, List, [], ◌∷◌, ◌++◌, IsTrue, false, not, map, length, vec_len, if◌then◌else◌, sym, ap, ◌∙◌, subst}
use Rattle.std.proofs.lemmas.List.{length-map}
use Rattle.std.proofs.lemmas.Result.{err_from_is_err_and}
use Rattle.lw_base.specs.declared.token.Token.{Token}
use Rattle.lw_grammar.specs.declared.grammar.Grammar.{Grammar}
use Rattle.lw_grammar.specs.Kinds.{Kinds}
use Rattle.lw_program.specs.ProgramOf.{ProgramParts}
use Rattle.lw_program.specs.Says.{Task}
use Rattle.lw_viable.specs.Told.{BeginsParts}
use Rattle.lw_viable.specs.Aims.{Aim, Fulfils, BeginsSome}
use Rattle.lw_viable.specs.Fronts.{IsKnownProgram, HoldReadings, seen}
use Rattle.lw_viable.specs.Growing.{AreHeldIn, read}
use Rattle.lw_viable.specs.Readings.{KeptReading, Keeps}
use Rattle.lw_viable.proofs.Holding.{by_known, held_begins, parts, still, with_own, with_same}
use Rattle.lw_viable.proofs.fronts.Fronts.step.Goals as goal

-- the readings that were found
next_readings : {g : Grammar} {kinds : Kinds} {tasks : List Task} {aim : Aim} {ks : List ℕ} {program : ProgramParts} {begins : BeginsParts} {kept next : List KeptReading}
    (token : Token) → HoldReadings g kinds tasks aim ks (parts program begins kept) → token.hidden ≡ false →
    ((known : IsKnownProgram g kinds program begins) → Keeps g kinds known.program.tasks (Fulfils g kinds known.program.tasks aim) ks kept →
    Keeps g kinds known.program.tasks (Fulfils g kinds known.program.tasks aim) (ks ++ token.kind.0 ∷ []) next) →
    HoldReadings g kinds tasks aim (seen ks token) (parts program begins next)
next_readings {g} {kinds} {tasks} {aim} {ks} {program} {begins} {kept} {next} token hold visible keeps =
    subst (λ ks. HoldReadings g kinds tasks aim ks (parts program begins next)) (sym (ap (λ hidden. if hidden then ks else ks ++ token.kind.0 ∷ []) visible))
    (record {
      by = hold.by;
      keeps = by_known (parts program begins kept) hold (λ tasks. Keeps g kinds tasks (Fulfils g kinds tasks aim) (ks ++ token.kind.0 ∷ []) next) keeps;
    })

pub returns-then-token-clause-starts : goal.returns-then-token-clause-starts
returns-then-token-clause-starts c g kinds tasks aim ks hold within supplied =
    let seen_is : seen ks c.args.token ≡ ks = ap (λ hidden. if hidden then ks else ks ++ c.args.token.kind.0 ∷ []) c.if-token.true in
    let counted : vec_len c.self.inside.kept ≡ length c.args.self.now.kept =
    c.self.inside.kept.ok.0 ∙ sym (length-map c.self.inside.kept.items (read c.self.inside.lists)) ∙ ap (λ fronts. length fronts.kept) c.self.view_is in
    subst (λ ks. IsTrue (not c.is_empty.result) ↔ BeginsSome (Fulfils g kinds tasks aim) ks) (sym seen_is)
    (held_begins c.args.self.now hold c.is_empty.result (vec_len c.self.inside.kept) supplied c.is_empty.ensures counted)

pub returns-in_err-self-inside-clause-refused : goal.returns-in_err-self-inside-clause-refused
returns-in_err-self-inside-clause-refused c =
    let (error, is, caused) = err_from_is_err_and c.from_residual.result c.from_residual.ensures.1 in
    rw is (still c.self.inside.program.now c.self.inside.begins.now c.explore.ensures.grows c.self.inside.kept.items c.self.invariant ∙ c.self.view_is)

pub returns-clause-readings : goal.returns-clause-readings
returns-clause-readings c g kinds tasks aim ks hold within =
    let own = with_same c.sought-sought.ensures.program c.sought-sought.ensures.begins c.self.view_is in
    let next = map (read c.explore.new.lists) c.in_ok-self-inside.field-0.items in
    subst (HoldReadings g kinds tasks aim (seen ks c.args.token)) (with_own c.sought-sought.ensures.program c.sought-sought.ensures.begins c.self.view_is next)
    (next_readings c.args.token (subst (HoldReadings g kinds tasks aim ks) (sym own) hold) c.if-token.false
    (λ known keeps.
    c.in_ok-self-inside.ensures.keeps g kinds aim ks c.args.token.kind known c.sought-sought.ensures.kind within
    (subst (AreHeldIn g kinds known.program.tasks aim ks c.self.inside.lists) (sym c.as_slice.ensures.value) keeps)))

pub returns-clause-starts : goal.returns-clause-starts
returns-clause-starts c g kinds tasks aim ks hold within supplied =
    let own = with_same c.sought-sought.ensures.program c.sought-sought.ensures.begins c.self.view_is in
    let next =
    next_readings c.args.token (subst (HoldReadings g kinds tasks aim ks) (sym own) hold) c.if-token.false
    (λ known keeps.
    c.in_ok-self-inside.ensures.keeps g kinds aim ks c.args.token.kind known c.sought-sought.ensures.kind within
    (subst (AreHeldIn g kinds known.program.tasks aim ks c.self.inside.lists) (sym c.as_slice.ensures.value) keeps)) in
    held_begins _ next c.is_empty-2.result (vec_len c.in_ok-self-inside.field-0) supplied c.is_empty-2.ensures
    (c.in_ok-self-inside.field-0.ok.0 ∙ sym (length-map c.in_ok-self-inside.field-0.items (read c.explore.new.lists)))
