-- Which texts a maker of patterns in memory refuses, and what it has refused.
use Rattle.std.specs.Prelude.{ℕ, List, Option}
use Rattle.lw_io.specs.declared.mem_patterns.MemPatterns.{MemPatterns}

-- the texts that are refused, whatever `regex` says of them
abbrev pub patterns_listed : MemPatterns → List (List ℕ)
patterns_listed p = p.listed.items

-- the text of the last call that was refused
abbrev pub patterns_last : MemPatterns → Option (List ℕ)
patterns_last p = p.refusals.last

-- how many calls were refused
abbrev pub patterns_faults : MemPatterns → ℕ
patterns_faults p = p.refusals.count
