-- What the instruction at a place says of its task.
use Rattle.std.proofs.Common.{◌≡◌, ℕ, ◌<◌, List, Some, slice_get, sym, ◌∙◌, subst, subst₂}
use Rattle.std.proofs.lemmas.Option.{same_Some, slice_get_within}
use Rattle.lw_base.specs.declared.numbers.PointId.{PointId}
use Rattle.lw_grammar.specs.declared.grammar.Grammar.{Grammar}
use Rattle.lw_grammar.specs.declared.rule.Element.{Element}
use Rattle.lw_grammar.specs.Kinds.{Kinds}
use Rattle.lw_look.specs.Sites.{PartSite, ◌▸◌, RepeatedAt}
use Rattle.lw_look.specs.Things.{Again}
use Rattle.lw_look.proofs.Standing.{same_body, one_stands, repeated_stands}
use Rattle.lw_program.specs.declared.instr.Instr.{Instr}
use Rattle.lw_program.specs.declared.instr.Instr.TheVariants.{Token, Loop, Call}
use Rattle.lw_program.specs.ProgramOf.{ProgramParts, IsProgramOf}
use Rattle.lw_program.specs.Says.{Task, Does, thing_of, CallsBy, SaysTask, SaidAt}
use Rattle.lw_program.specs.Says as say

abbrev pub IsCalling : Instr → Type 0
IsCalling (Token k) = Unit {0}
IsCalling (Call r) = Unit {0}
IsCalling _ = ⊥

module _ (g : Grammar) (kinds : Kinds) where
  -- a call by name is a token or a call of a rule
  pub is_calling : {name : List ℕ} {i : Instr} → CallsBy g kinds name i → IsCalling i
  is_calling (say.terminal is) = tt
  is_calling (say.rule_ is) = tt

  -- the body of a repetition has its task where its loop says
  pub loop_said : {tasks : List Task} {s : PartSite} {e : Element} {point : PointId} {inner : ℕ} → SaysTask g kinds tasks (Does (Again s)) (Loop point inner) →
      RepeatedAt g s e → slice_get tasks inner ≡ Some (thing_of (s ▸ 0) e)
  loop_said {tasks} {s} {inner} (say.loop at numbered has) other =
      subst (λ e. slice_get tasks inner ≡ Some (thing_of (s ▸ 0) e)) (same_body (one_stands g (repeated_stands g at) (repeated_stands g other))) has

  module _ (program : ProgramParts) (is : IsProgramOf g kinds program) where
    said_at : {p : ℕ} {t : Task} → slice_get is.tasks p ≡ Some t → SaidAt g kinds is.tasks program.code p
    said_at {p} {t} stands = is.said p (subst (λ n. p < n) is.sized (slice_get_within is.tasks p t stands))

    pub said : (p : ℕ) {t : Task} {i : Instr} → slice_get is.tasks p ≡ Some t → slice_get program.code p ≡ Some i → SaysTask g kinds is.tasks t i
    said p {t} {i} stands here =
        let s = said_at stands in
        subst₂ (SaysTask g kinds is.tasks) (same_Some s.task t (sym s.stands ∙ stands)) (same_Some s.instr i (sym s.is ∙ here)) s.says

    -- at each place with a task stands an instruction
    pub instr_at : (p : ℕ) {t : Task} → slice_get is.tasks p ≡ Some t → (i : Instr) × (slice_get program.code p ≡ Some i) × SaysTask g kinds is.tasks t i
    instr_at p stands = let s = said_at stands in (s.instr, s.is, said p stands s.is)
