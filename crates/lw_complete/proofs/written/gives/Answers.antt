use Rattle.std.proofs.Common.{ℕ, ◌≡◌, ◌↔◌, ◌∷◌, [], All, IsTrue, List, sym, subst}
use Rattle.std.proofs.lemmas.List.Elements.{All-cons, All-nil}
use Rattle.std.proofs.lemmas.Result.{IfOk-weaker}
use Rattle.lw_viable.specs.Gives.{PlacesGive}
use Rattle.lw_grammar.specs.declared.grammar.Grammar.{Grammar}
use Rattle.lw_grammar.specs.Kinds.{Kinds}
use Rattle.lw_program.specs.ProgramOf.{ProgramParts}
use Rattle.lw_program.specs.Says.{Task}
use Rattle.lw_tokens.specs.Cut.{kinds, visible}
use Rattle.lw_viable.specs.Aims.{EndsSome, Places}
use Rattle.lw_viable.specs.Fronts.{IsProgramWith}
use Rattle.lw_viable.specs.Readings.{HasTask}
use Rattle.lw_complete.proofs.written.gives.Goals as goal

alone : (g : Grammar) (of : Kinds) (tasks : List Task) (p : ℕ) → HasTask g of tasks p → All (HasTask g of tasks) (p ∷ [])
alone g of tasks p has = All-cons (HasTask g of tasks) p [] has (All-nil (HasTask g of tasks))

pub returns-in-Some : goal.returns-in-Some
returns-in-Some c g of tasks program value are =
    let ks = kinds (visible c.args.added.now) in
    let place = c.args.start.now.value in
    let known = subst (λ (parts : ProgramParts). IsProgramWith g of tasks parts c.args.parser.now.begins) (sym c.program.ensures) program in
    let only = rw c.in-Some.is at (c.only_token.ensures.only g of tasks c.args.parser.now.begins known value) in
    IfOk-weaker c.are_only.result (λ given. IsTrue given ↔ (ks ≡ c.in-Some.kind.0 ∷ [])) (λ given. IsTrue given ↔ EndsSome (PlacesGive g of tasks (place ∷ [])) ks)
    (λ given told. (λ is. (only ks).1 (told.0 is), λ ends. told.1 ((only ks).0 ends))) c.are_only.ensures

pub read_over-requires : goal.read_over-requires
read_over-requires c =
    let (g, of, tasks, program, value, are) = c.requires.known in (g, of, tasks, program, alone g of tasks c.args.start.now.value value, are)

pub complete-requires : goal.complete-requires
complete-requires c =
    let (g, of, tasks, program, value, are) = c.requires.known in
    let p = c.args.start.now.value in
    record { known = (g, of, tasks, Places (p ∷ []), kinds (visible c.args.added.now), c.in_ok-fronts.ensures g of tasks program (alone g of tasks p value) are) }

pub returns : goal.returns
returns c g of tasks program value are =
    let p = c.args.start.now.value in
    c.complete.ensures g of tasks (Places (p ∷ [])) (kinds (visible c.args.added.now)) (c.in_ok-fronts.ensures g of tasks program (alone g of tasks p value) are)
