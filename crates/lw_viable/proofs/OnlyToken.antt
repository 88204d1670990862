-- What a place gives at which a token stands.
use Rattle.std.proofs.Common.{◌≡◌, ◌↔◌, ℕ, List, [], ◌∷◌, Some, slice_get, refl, sym, ap, ◌∙◌, subst}
use Rattle.lw_base.specs.declared.numbers.KindId.{KindId}
use Rattle.lw_viable.specs.Gives.{PlacesGive}
use Rattle.lw_viable.specs.Told.{BeginsParts}
use Rattle.lw_grammar.specs.declared.grammar.Grammar.{Grammar}
use Rattle.lw_grammar.specs.Kinds.{Kinds}
use Rattle.lw_program.specs.declared.instr.Instr.TheVariants.{Token}
use Rattle.lw_program.specs.ProgramOf.{ProgramParts}
use Rattle.lw_program.specs.Says.{Task, SaysTask}
use Rattle.lw_grammar.specs.Marks.{kinds_of}
use Rattle.lw_viable.specs.Aims.{EndsSome}
use Rattle.lw_viable.specs.Fronts.{IsProgramWith}
use Rattle.lw_viable.specs.Readings.{HasTask}
use Rattle.lw_viable.proofs.Moves.Calling.{token_said}
use Rattle.lw_viable.proofs.Moves.Giving.{of_one_place, one_place_gives}
use Rattle.lw_viable.proofs.Moves.Saying.{said}

module _ (g : Grammar) (kinds : Kinds) (tasks : List Task) {program : ProgramParts} {begins : BeginsParts} (by : IsProgramWith g kinds tasks program begins) where
  pub gives_token : (place : ℕ) (kind : KindId) → HasTask g kinds tasks place → slice_get program.code place ≡ Some (Token kind) →
      (ks : List ℕ) → EndsSome (PlacesGive g kinds tasks (place ∷ [])) ks ↔ (ks ≡ kind.0 ∷ [])
  gives_token place kind (t, stands, placed) here ks =
      let one = token_said g kinds by.known.are tasks
      (subst (λ (ts : List Task). SaysTask g kinds ts t (Token kind)) by.tasks_are
      (said g kinds program by.known.program place (subst (λ (ts : List Task). slice_get ts place ≡ Some t) (sym by.tasks_are) stands) here)) in (
        λ (m, gives, are). sym are ∙ ap kinds_of (one.only (of_one_place g kinds tasks stands gives)),
        λ same. (_, one_place_gives g kinds tasks stands one.given, sym same),
      )
