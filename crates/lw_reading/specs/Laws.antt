-- The grammars by which a text has one reading, and when two readings are one.
use Rattle.std.specs.Prelude.{ℕ, ◌≡◌, List, [], Contains}
use Rattle.lw_grammar.specs.declared.grammar.Grammar.{Grammar}
use Rattle.lw_grammar.specs.declared.rule.Rule.{Rule}
use Rattle.lw_grammar.specs.Leaves.{keywords_in}
use Rattle.lw_grammar.specs.Kinds.{Kinds, AreKinds, IsKeywordKind}
use Rattle.lw_grammar.specs.Marks.{Mark, kinds_of}
use Rattle.lw_grammar.specs.Sentences.{IsSentence}
use Rattle.lw_tree.specs.declared.issue.Issue.{Issue}
use Rattle.lw_tree.specs.Parts.{Parts, SameTables}
use Rattle.lw_reading.specs.declared.parsed.Parsed.{Parsed}
use Rattle.lw_reading.specs.declared.parsed.Parsed.TheVariants.{Whole, Broken}

-- no keyword kind of the grammar has an empty text
abbrev pub HasNoEmptyKeyword : Grammar → Type 0
HasNoEmptyKeyword g = (of : Kinds) (k : ℕ) → AreKinds g of → ¬ IsKeywordKind of [] k

-- no rule of the grammar writes an empty keyword
abbrev pub WritesNoEmptyKeyword : Grammar → Type 0
WritesNoEmptyKeyword g = (rule : Rule) → Contains g.rules rule → ¬ Contains (keywords_in rule.body) []

-- no two sentences have one list of kinds
abbrev pub HasOneSentence : Grammar → Type 0
HasOneSentence g = (of : Kinds) (m n : List Mark) → AreKinds g of → IsSentence g of m → IsSentence g of n → kinds_of m ≡ kinds_of n → m ≡ n

-- a text is cut in one way, and its tokens are a sentence in one way
pub record IsReadOneWay (g : Grammar) : Type 0 where
  pub keywords : HasNoEmptyKeyword g
  pub sentences : HasOneSentence g

-- the same fault, or trees of which each reader gives the same
pub data IsSameReading : Parsed → Parsed → Type 0 where
  whole : {tree other : Parts} → SameTables tree other → IsSameReading (Whole tree) (Whole other)
  broken : {issue : Issue} → IsSameReading (Broken issue) (Broken issue)
