-- What holds of what a text reads as, where it is broken and where it is whole, and of the place and the kind that a fault names.
-- Held against the Language Server Protocol 3.17, "Diagnostic": a diagnostic has a range in its document.
use Rattle.std.specs.Prelude.{ℕ, ◌<◌, ◌≤◌, List, length}
use Rattle.lw_tree.specs.Parts.{Parts}
use Rattle.lw_tree.specs.declared.issue.Issue.{Issue}
use Rattle.lw_tree.specs.declared.issue.Issue.TheVariants.{Lexical, Syntax, End, TooLarge}
use Rattle.lw_reading.specs.declared.parsed.Parsed.{Parsed}
use Rattle.lw_reading.specs.declared.parsed.Parsed.TheVariants.{Whole, Broken}

-- the kind that a fault names is one of these
abbrev pub IsNamed : List (List ℕ) → Issue → Type 0
IsNamed texts (Syntax s kind) = kind.0 < length texts
IsNamed texts _ = Unit {0}

-- the place of a fault is in the text or at its end
abbrev pub IsIssueWithin : List ℕ → Issue → Type 0
IsIssueWithin text (Lexical s) = (s.start ≤ length text) × (s.end ≤ length text)
IsIssueWithin text (Syntax s kind) = (s.start ≤ length text) × (s.end ≤ length text)
IsIssueWithin text (End at) = at ≤ length text
IsIssueWithin text TooLarge = Unit {0}

-- a fact of the fault, where there is one
abbrev pub IfBroken : Parsed → (Issue → Type 0) → Type 0
IfBroken (Broken issue) P = P issue
IfBroken (Whole tree) P = Unit {0}

-- a fact of the tree, where there is one
abbrev pub IfWhole : Parsed → (Parts → Type 0) → Type 0
IfWhole (Whole tree) P = P tree
IfWhole (Broken issue) P = Unit {0}
