-- What comes before the body of each rule, as a table of marks is widened until nothing is added.
use Rattle.std.specs.Prelude.{ℕ, ◌≡◌, ◌↔◌, ◌⊎◌, ◌<◌, Bool, false, List, Some, slice_get, Contains}
use Rattle.lw_grammar.specs.declared.grammar.Grammar.{Grammar}
use Rattle.lw_grammar.specs.declared.rule.Rule.{Rule}
use Rattle.lw_grammar.specs.Leaves.{Leaf, IsFragmentCall}
use Rattle.lw_faults.specs.Steps.{Step, BodyBegins}
use Rattle.lw_flow.specs.declared.effect.Effect.{Effect}
use Rattle.lw_flow.specs.declared.effect.Effect.TheVariants.{Nothing}
use Rattle.lw_flow.specs.declared.effect.Mark.{Mark}
use Rattle.lw_flow.specs.declared.effect.Mark.TheVariants.{Done, Own, Of}
use Rattle.lw_flow.specs.declared.walking.Visit.{Visit}
use Rattle.lw_flow.specs.Effects.{weight, own_number, HasEffect}
use Rattle.lw_flow.specs.Fixed.{IsSound}
use Rattle.lw_flow.specs.Marks.{Moves}
use Rattle.lw_flow.specs.Passing.{MayPrecede}

-- the visits' marks were put into the sets of the fragments that they enter
pub record Spread (visits : List Visit) (grown : Bool) (old new : ℕ → Mark → Type 0) : Type 0 where
  pub exact : (f : ℕ) (m : Mark) → new f m ↔ (old f m ⊎ ((v : Visit) × Contains visits v × (v.enters ≡ Some f) × Contains v.marks.keys m))
  pub none : grown ≡ false → (f : ℕ) (m : Mark) → new f m → old f m

module _ (g : Grammar) where
  -- a mark of a way through this rule on which this is done so far
  pub data BelongsTo (rule : Rule) (x : Effect) : Mark → Type 0 where
    done : BelongsTo rule x (Done x)
    own : {n : ℕ} → weight x < 3 → own_number g rule ≡ Some n → BelongsTo rule x (Own n)
    of : {n : ℕ} → own_number g rule ≡ Some n → BelongsTo rule x (Of n)

  -- on a way through the rule this is done before the body of the rule of this number begins
  pub record Arrives (w : ℕ) (rule : Rule) (x : Effect) : Type 0 where
    pub written : Rule
    pub there : slice_get g.rules w ≡ Some written
    pub before : List Step
    pub begins : BodyBegins g rule before written
    pub does : HasEffect g before x

  -- each mark of the table is of a way
  pub record IsOfWay (w : ℕ) (m : Mark) : Type 0 where
    pub rule : Rule
    pub effect : Effect
    pub arrives : Arrives w rule effect
    pub belongs : BelongsTo rule effect m

  abbrev pub AllOfWays : (ℕ → Mark → Type 0) → Type 0
  AllOfWays marks = (w : ℕ) (m : Mark) → marks w m → IsOfWay w m

  -- the marks at the begin of a rule that is no fragment
  pub record StartsRule (w : ℕ) (m : Mark) : Type 0 where
    pub rule : Rule
    pub there : slice_get g.rules w ≡ Some rule
    pub whole : rule.is_fragment ≡ false
    pub belongs : BelongsTo rule Nothing m

  abbrev pub HasRuleStarts : (ℕ → Mark → Type 0) → Type 0
  HasRuleStarts marks = (w : ℕ) (m : Mark) → StartsRule w m → marks w m

  module _ (table : ℕ → Effect → Type 0) where
    -- what comes to such a rule comes to the fragments that it calls, behind what is done there before the call
    abbrev pub IsPassedOn : (ℕ → Type 0) → (ℕ → Mark → Type 0) → (ℕ → Mark → Type 0) → Type 0
    IsPassedOn passes from to =
        (w : ℕ) (rule : Rule) (l : Leaf) (f : ℕ) (fragment : Rule) (x : Effect) (m k : Mark) → passes w → slice_get g.rules w ≡ Some rule →
        MayPrecede g table rule.body x l → IsFragmentCall g l f fragment → from w m → Moves m x k → to f k

    -- what comes to the rule of this number was passed on
    pub record Spreads (n : ℕ) (grown : Bool) (old new : ℕ → Mark → Type 0) : Type 0 where
      pub kept : (w : ℕ) (m : Mark) → old w m → new w m
      pub known : IsSound g table → AllOfWays old → AllOfWays new
      pub put : IsPassedOn (λ w. w ≡ n) old new
      pub none : grown ≡ false → (w : ℕ) (m : Mark) → new w m → old w m

    -- the same of all rules below a number
    pub record SpreadsBelow (n : ℕ) (grown : Bool) (old new : ℕ → Mark → Type 0) : Type 0 where
      pub kept : (w : ℕ) (m : Mark) → old w m → new w m
      pub known : IsSound g table → AllOfWays old → AllOfWays new
      pub passed : grown ≡ false → IsPassedOn (λ w. w < n) new new

    -- the table has all that comes, and nothing else
    pub record AreArrivals (marks : ℕ → Mark → Type 0) : Type 0 where
      pub known : AllOfWays marks
      pub starts : HasRuleStarts marks
      pub passed : IsPassedOn (λ w. Unit {0}) marks marks
