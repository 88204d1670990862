-- What the parts of a body stand for that are lent from a grammar: each for what the definitions speak of, with the texts that it borrows.
use Rattle.std.specs.Prelude.{ℕ, List}
use Rattle.std.specs.Borrow.{Bor}
use Rattle.std.specs.Option.{option_copied}
use Rattle.lw_base.specs.declared.token.Span.{Span}
use Rattle.lw_grammar.specs.Leaves as leaf
use Rattle.lw_grammar.specs.Leaves.{Leaf, ValueLeaf}
use Rattle.lw_grammar.specs.Written.{Range}
use Rattle.lw_numbers.specs.declared.leaves.body.BodyLeaf.{BodyLeaf}
use Rattle.lw_numbers.specs.declared.leaves.body.BodyLeaf.TheVariants as body
use Rattle.lw_numbers.specs.declared.leaves.value.ValuePart.{ValuePart}
use Rattle.lw_numbers.specs.declared.leaves.value.ValuePart.TheVariants as value
use Rattle.lw_numbers.specs.declared.leaves.terms.TermRange.{TermRange}

abbrev pub leaf_of : BodyLeaf → Leaf
leaf_of (body.Keyword text s) = leaf.Keyword text.now s
leaf_of (body.Call name s) = leaf.Call name.now s
leaf_of (body.Assign property op v s) = leaf.Assign property.now op v.now s
leaf_of (body.Act a) = leaf.Act a.now

abbrev pub value_leaf_of : ValuePart → ValueLeaf
value_leaf_of (value.Keyword text s) = leaf.Literal text.now s
value_leaf_of (value.Call name s) = leaf.Calls name.now s
value_leaf_of (value.Cross wanted rule s) = leaf.Cross wanted.now (option_copied rule) s

-- a call of a terminal, with its place
abbrev pub term_call_of : Bor (List ℕ) × Span → List ℕ × Span
term_call_of call = (call.0.now, call.1)

abbrev pub term_range_of : TermRange → Range
term_range_of range = (range.first.now, range.last.now, range.span)
