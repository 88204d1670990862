use Rattle.std.proofs.Common.{ℕ, ap}
use Rattle.lw_base.specs.declared.numbers.TypeId.{TypeId}
use Rattle.lw_program.proofs.OnePlace.{one_type_number}
use Rattle.lw_program.proofs.recipes.content.wanted_type.Goals as goal

pub returns-in-Some : goal.returns-in-Some
returns-in-Some c = λ want typed.
    ap (λ (n : ℕ). let id : TypeId = record { 0 = n } in id)
    (one_type_number c.args.lexicon.g.now c.args.wanted.now c.in-Some.want.0 want.0 c.in-Some.ensures typed)

pub returns-in-None : goal.returns-in-None
returns-in-None c = λ want typed. absurd (c.in-None.ensures want.0 typed)
