-- What the words behind a command's name say: operands, and how many kinds of tokens a reader may look ahead.
-- Held against POSIX.1-2017, "Utility Syntax Guidelines", guidelines 9 and 10, and GNU's long options, which may stand among operands.
use Rattle.std.specs.Prelude.{ℕ, ◌≢◌, List, [], ◌∷◌, ◌++◌, codes, Option, Some, None}

-- a word that is no option: one that does not begin with `-`, which is 45
abbrev pub IsOperand : List ℕ → Type 0
IsOperand word = (rest : List ℕ) → word ≢ 45 ∷ rest

-- how many kinds a reader may look ahead
pub data IsDepth : List ℕ → ℕ → Type 0 where
  one : IsDepth (codes "1") 1
  two : IsDepth (codes "2") 2
  three : IsDepth (codes "3") 3

-- words that begin with the option: how many kinds it says, in a word of its own or joined to it, and the words behind that
pub data SaysDepth : List (List ℕ) → ℕ → List (List ℕ) → Type 0 where
  apart : {word : List ℕ} {k : ℕ} {others : List (List ℕ)} → IsDepth word k → SaysDepth (codes "--lookahead" ∷ word ∷ others) k others
  joined : {word : List ℕ} {k : ℕ} {others : List (List ℕ)} → IsDepth word k → SaysDepth ((codes "--lookahead=" ++ word) ∷ others) k others

-- The operands that words say, in their order, and the depth, where they say one. The words behind `--` are operands, whatever they begin with; before it
-- each word is an operand or of the option, which stands once.
pub data SaysOperands : List (List ℕ) → List (List ℕ) → Option ℕ → Type 0 where
  nothing : SaysOperands [] [] None
  ended : {words : List (List ℕ)} → SaysOperands (codes "--" ∷ words) words None
  operand : {word : List ℕ} {words operands : List (List ℕ)} {depth : Option ℕ} → IsOperand word → SaysOperands words operands depth →
      SaysOperands (word ∷ words) (word ∷ operands) depth
  option : {words others operands : List (List ℕ)} {k : ℕ} → SaysDepth words k others → SaysOperands others operands None → SaysOperands words operands (Some k)
