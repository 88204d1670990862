-- How many look-ahead strings a grammar has: the windows of each way of each choice, where one that comes next at two ways counts twice.
use Rattle.std.specs.Prelude.{ℕ, ◌<◌, List, Option, Contains, [], ◌∷◌, length}
use Rattle.lw_grammar.specs.declared.grammar.Grammar.{Grammar}
use Rattle.lw_grammar.specs.Kinds.{Kinds}
use Rattle.lw_look.specs.Sites.{PartSite}
use Rattle.lw_look.specs.Looks.{Look}

-- a window at a way of the choice at a site
pub record LookString : Type 0 where
  pub site : PartSite
  pub way : ℕ
  pub window : List (Option ℕ)

-- no string stands twice in the list
pub data AreDifferent : List LookString → Type 0 where
  none : AreDifferent []
  more : {string : LookString} {strings : List LookString} → ¬ Contains strings string → AreDifferent strings → AreDifferent (string ∷ strings)

module _ (g : Grammar) (kinds : Kinds) (k : ℕ) where
  -- different strings, each of which comes next at its way
  pub record AreStrings (strings : List LookString) : Type 0 where
    pub different : AreDifferent strings
    pub come : (string : LookString) → Contains strings string → Look g kinds k string.site string.way string.window

  -- there are more than so many
  abbrev pub HasMoreStrings : ℕ → Type 0
  HasMoreStrings n = (strings : List LookString) × AreStrings strings × (n < length strings)
