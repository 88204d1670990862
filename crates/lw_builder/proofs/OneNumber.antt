-- A name stands among first uses once: a type has one number, and so has a property.
use Rattle.std.proofs.Common.{◌≡◌, ℕ, List, []}
use Rattle.lw_grammar.specs.declared.grammar.Grammar.{Grammar}
use Rattle.lw_reading.specs.Numbers.{IsNumberOfType, IsNumberOfProperty}
use Rattle.lw_program.proofs.OnePlace.{one_place}

pub one_type : (g : Grammar) (name : List ℕ) (m n : ℕ) → IsNumberOfType g name m → IsNumberOfType g name n → m ≡ n
one_type g name m n is was = one_place [] _ m n name is was

pub one_property : (g : Grammar) (name : List ℕ) (m n : ℕ) → IsNumberOfProperty g name m → IsNumberOfProperty g name n → m ≡ n
one_property g name m n is was = one_place [] _ m n name is was
