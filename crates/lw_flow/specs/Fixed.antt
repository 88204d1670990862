-- What fragments may do, as a table of it is widened until nothing is added.
use Rattle.std.specs.Prelude.{ℕ, ◌≡◌, ◌<◌, Bool, true, false, List, Some, slice_get}
use Rattle.lw_grammar.specs.declared.grammar.Grammar.{Grammar}
use Rattle.lw_grammar.specs.declared.rule.Element.{Element}
use Rattle.lw_grammar.specs.declared.rule.Rule.{Rule}
use Rattle.lw_faults.specs.Steps.{Step, GoesThrough}
use Rattle.lw_flow.specs.declared.effect.Effect.{Effect}
use Rattle.lw_flow.specs.Effects.{HasEffect}
use Rattle.lw_flow.specs.Passing.{Does}

module _ (g : Grammar) where
  -- the rule's element goes through steps that do this
  abbrev pub GoesDoing : Rule → Element → Effect → Type 0
  GoesDoing rule e x = (done : List Step) × GoesThrough g rule e done × HasEffect g done x

  -- each entry of the table is what a fragment does on a way through it
  abbrev pub IsSound : (ℕ → Effect → Type 0) → Type 0
  IsSound table = (f : ℕ) (x : Effect) → table f x → (rule : Rule) × (slice_get g.rules f ≡ Some rule) × GoesDoing rule rule.body x

  -- what the body of such a fragment may do by the table is in the table
  abbrev pub IsClosedAt : (ℕ → Type 0) → (ℕ → Effect → Type 0) → Type 0
  IsClosedAt passes table =
      (f : ℕ) (rule : Rule) (x : Effect) → passes f → slice_get g.rules f ≡ Some rule → rule.is_fragment ≡ true → Does g table rule.body x → table f x

  abbrev pub IsClosed : (ℕ → Effect → Type 0) → Type 0
  IsClosed = IsClosedAt (λ f. Unit {0})

  -- what the fragment of this number may do was put into the table
  pub record Widens (n : ℕ) (grown : Bool) (old new : ℕ → Effect → Type 0) : Type 0 where
    pub kept : (f : ℕ) (x : Effect) → old f x → new f x
    pub sound : IsSound old → IsSound new
    pub put : (rule : Rule) (x : Effect) → slice_get g.rules n ≡ Some rule → rule.is_fragment ≡ true → Does g old rule.body x → new n x
    pub none : grown ≡ false → (f : ℕ) (x : Effect) → new f x → old f x

  -- the same of all fragments below a number
  pub record WidensBelow (n : ℕ) (grown : Bool) (old new : ℕ → Effect → Type 0) : Type 0 where
    pub sound : IsSound old → IsSound new
    pub closed : grown ≡ false → IsClosedAt (λ f. f < n) new
