-- What places give that are done one after another.
use Rattle.std.proofs.Common.{◌≡◌, ℕ, List, [], ◌∷◌, ◌++◌, Some, slice_get, refl, sym, ap, ◌∙◌, subst, append_assoc, append-nil}
use Rattle.std.proofs.lemmas.Option.{same_Some}
use Rattle.lw_grammar.specs.declared.grammar.Grammar.{Grammar}
use Rattle.lw_grammar.specs.Kinds.{Kinds}
use Rattle.lw_grammar.specs.Marks.{Mark}
use Rattle.lw_program.specs.Says.{Task}
use Rattle.lw_viable.specs.Gives.{TaskGives, PlacesGive}
use Rattle.lw_viable.specs.Gives as gives

module _ (g : Grammar) (kinds : Kinds) (tasks : List Task) where
  pub nothing_given : {n : List Mark} → PlacesGive g kinds tasks [] n → n ≡ []
  nothing_given gives.nothing = refl

  -- what places give that begin with one of this task
  pub record FirstGives (t : Task) (rest : List ℕ) (n : List Mark) : Type 0 where
    pub own : List Mark
    pub others : List Mark
    pub does : TaskGives g kinds t own
    pub give : PlacesGive g kinds tasks rest others
    pub are : n ≡ own ++ others

  pub first_given : {t : Task} {p : ℕ} {rest : List ℕ} {n : List Mark} → slice_get tasks p ≡ Some t → PlacesGive g kinds tasks (p ∷ rest) n →
      FirstGives t rest n
  first_given {t} stands (gives.more {t = other} {m} {n} there own give) =
      record { own = m; others = n; does = subst (λ t. TaskGives g kinds t m) (same_Some other t (sym there ∙ stands)) own; give = give; are = refl }

  pub places_joined : {ps qs : List ℕ} {m n : List Mark} → PlacesGive g kinds tasks ps m → PlacesGive g kinds tasks qs n →
      PlacesGive g kinds tasks (ps ++ qs) (m ++ n)
  places_joined gives.nothing q = q
  places_joined {qs} {n} (gives.more {p} {rest} {m = a} {n = b} there own ps) q =
      subst (PlacesGive g kinds tasks (p ∷ (rest ++ qs))) (sym (append_assoc a b n)) (gives.more there own (places_joined ps q))

  pub record PlacesCut (ps qs : List ℕ) (n : List Mark) : Type 0 where
    pub front : List Mark
    pub back : List Mark
    pub before : PlacesGive g kinds tasks ps front
    pub behind : PlacesGive g kinds tasks qs back
    pub are : n ≡ front ++ back

  pub places_cut : (ps qs : List ℕ) {n : List Mark} → PlacesGive g kinds tasks (ps ++ qs) n → PlacesCut ps qs n
  places_cut [] qs {n} give = record { front = []; back = n; before = gives.nothing; behind = give; are = refl }
  places_cut (p ∷ ps) qs (gives.more {m} {n} there own give) =
      let cut = places_cut ps qs give in
      record {
        front = m ++ cut.front;
        back = cut.back;
        before = gives.more there own cut.before;
        behind = cut.behind;
        are = ap (λ n. m ++ n) cut.are ∙ sym (append_assoc m cut.front cut.back);
      }

  pub one_place_gives : {t : Task} {p : ℕ} {m : List Mark} → slice_get tasks p ≡ Some t → TaskGives g kinds t m → PlacesGive g kinds tasks (p ∷ []) m
  one_place_gives {p} {m} stands own = subst (PlacesGive g kinds tasks (p ∷ [])) (append-nil m) (gives.more stands own gives.nothing)

  pub of_one_place : {t : Task} {p : ℕ} {n : List Mark} → slice_get tasks p ≡ Some t → PlacesGive g kinds tasks (p ∷ []) n → TaskGives g kinds t n
  of_one_place {t} stands give =
      let first = first_given stands give in
      subst (TaskGives g kinds t) (sym (first.are ∙ ap (λ o. first.own ++ o) (nothing_given first.give) ∙ append-nil first.own)) first.does
