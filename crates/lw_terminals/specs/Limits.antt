-- How many kinds a language may have, and which keywords it may not have.
use Rattle.std.specs.Prelude.{ℕ, ◌≡◌, ◌+◌, ◌<◌, ◌≤◌, ◌⊎◌, List, [], ◌++◌, true, length, All, encode_utf8}
use Rattle.std.specs.Char.{IsScalar, is_whitespace}
use Rattle.lw_grammar.specs.Named.{IsFirst}
use Rattle.lw_kinds.specs.declared.kind_table.FirstUse.{FirstUse}
use Rattle.lw_kinds.specs.Rows.{KindRow}
use Rattle.lw_kinds.specs.Uses.{Use}
use Rattle.lw_terminals.specs.declared.fault.TheConstants.{MOST_KINDS, MOST_TERMINALS}

-- how many kinds there are
abbrev pub count_of_kinds : KindRow → ℕ
count_of_kinds row = length row.keywords + length row.terminals

-- not too many
pub record AreFew (row : KindRow) : Type 0 where
  pub kinds : count_of_kinds row ≤ MOST_KINDS
  pub terminals : length row.terminals ≤ MOST_TERMINALS

-- there are too many, and this is how many: kinds, or where these are not too many, terminals
pub data AreTooMany (row : KindRow) : ℕ → Type 0 where
  kinds : MOST_KINDS < count_of_kinds row → AreTooMany row (count_of_kinds row)
  terminals : count_of_kinds row ≤ MOST_KINDS → MOST_TERMINALS < length row.terminals → AreTooMany row (length row.terminals)

-- a text that is empty or begins with white space
abbrev pub IsBlank : List ℕ → Type 0
IsBlank text = (text ≡ []) ⊎ ((c : ℕ) × IsScalar c × (is_whitespace c ≡ true) × (rest : List ℕ) × (text ≡ encode_utf8 c ++ rest))

abbrev pub AreNotBlank : List Use → Type 0
AreNotBlank words = All (λ word. ¬ IsBlank word.0) words

-- the first keyword, in the order of kinds, that is blank is first used here
abbrev pub IsFirstBlank : KindRow → FirstUse → Type 0
IsFirstBlank row use_ = (number : ℕ) × (text : List ℕ) × IsFirst (λ word. IsBlank word.0) row.keywords number (text, use_)
