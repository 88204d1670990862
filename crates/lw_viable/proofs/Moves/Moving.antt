-- MovesBy are exact: what the places after a move give behind its mark is given by the place before it, and nothing else is.
use Rattle.std.proofs.Common.{◌≡◌, ◌↔◌, ℕ, List, ◌∷◌, ◌++◌, Option, Some, All, Bool, true, slice_get, sym, ap, ◌∙◌, subst, append_assoc}
use Rattle.lw_grammar.specs.declared.grammar.Grammar.{Grammar}
use Rattle.lw_grammar.specs.declared.rule.Rule.{Rule}
use Rattle.lw_grammar.specs.Kinds.{Kinds, AreKinds}
use Rattle.lw_grammar.specs.Marks.{Mark}
use Rattle.lw_program.specs.ProgramOf.{ProgramParts, IsProgramOf}
use Rattle.lw_program.specs.declared.recipes.mark.TreeMark.{TreeMark}
use Rattle.lw_program.specs.Meant.{AreMeant}
use Rattle.lw_viable.specs.Gives.{OpensNode, PlacesGive}
use Rattle.lw_viable.specs.Gives as gives
use Rattle.lw_viable.specs.Readings.{HasTask}
use Rattle.lw_viable.specs.Moves.{left, MovesBy}
use Rattle.lw_viable.proofs.Moves.Exact.{moves_exact}
use Rattle.lw_viable.proofs.Moves.Giving.{first_given, places_cut}
use Rattle.lw_viable.proofs.Moves.Moved.{Moved, says_moves}
use Rattle.lw_viable.proofs.Moves.Saying.{instr_at}

module _ (g : Grammar) (kinds : Kinds) (are : AreKinds g kinds) (program : ProgramParts) (is : IsProgramOf g kinds program) (nodes : List Bool)
    (told : (r : ℕ) (rule : Rule) → slice_get g.rules r ≡ Some rule → OpensNode g rule ↔ (slice_get nodes r ≡ Some true)) where
  -- the places that are then to be done are places of the program
  pub moves_placed : {p : ℕ} {l : Option TreeMark} {ps : List ℕ} → HasTask g kinds is.tasks p → MovesBy program nodes p l ps → All (HasTask g kinds is.tasks) ps
  moves_placed (t, stands, placed) move = (moves_exact g kinds are program is nodes told stands placed move).placed

  -- the mark that is left means one
  pub moves_mean : {p : ℕ} {l : Option TreeMark} {ps : List ℕ} → HasTask g kinds is.tasks p → MovesBy program nodes p l ps →
      (m : List Mark) × AreMeant g (left l) m
  moves_mean (t, stands, placed) move = let exact = moves_exact g kinds are program is nodes told stands placed move in (exact.marks, exact.means)

  pub moves_give : {p : ℕ} {l : Option TreeMark} {ps rest : List ℕ} {m o : List Mark} → HasTask g kinds is.tasks p → MovesBy program nodes p l ps →
      AreMeant g (left l) m → PlacesGive g kinds is.tasks (ps ++ rest) o → PlacesGive g kinds is.tasks (p ∷ rest) (m ++ o)
  moves_give {p} {ps} {rest} {m} {o} (t, stands, placed) move means give =
      let exact = moves_exact g kinds are program is nodes told stands placed move in
      let cut = places_cut g kinds is.tasks ps rest give in
      subst (PlacesGive g kinds is.tasks (p ∷ rest))
      (append_assoc exact.marks cut.front cut.back ∙ ap (λ n. exact.marks ++ n) (sym cut.are) ∙ ap (λ m. m ++ o) (sym (exact.only means)))
      (gives.more stands (exact.give cut.before) cut.behind)

  -- and nothing else is given: what places give begins with a move at the first
  pub moves_all : {p : ℕ} {rest : List ℕ} {n : List Mark} → HasTask g kinds is.tasks p → PlacesGive g kinds is.tasks (p ∷ rest) n →
      Moved g kinds program is nodes p rest n
  moves_all {p} {rest} (t, stands, placed) give =
      let first = first_given g kinds is.tasks stands give in
      let (i, here, says) = instr_at g kinds program is p stands in
      subst (Moved g kinds program is nodes p rest) (sym first.are)
      (says_moves g kinds program is nodes are rest first.others first.give told here says stands placed first.does)
