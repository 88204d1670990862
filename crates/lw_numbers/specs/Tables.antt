-- What is known of the numbers of a grammar's names: how each name stands among its rules, terminals, interfaces and unions, and the
-- names of types and of properties, each at the place that is its number.
use Rattle.std.specs.Prelude.{ℕ, ◌≡◌, List, length}
use Rattle.lw_grammar.specs.declared.grammar.Grammar.{Grammar}
use Rattle.lw_grammar.specs.Named.{declared_rule, declared_terminal, declared_interface, declared_union}
use Rattle.lw_numbers.specs.declared.standing.Standing.{Standing}
use Rattle.lw_numbers.specs.Numbering.{type_names, property_names}
use Rattle.lw_numbers.specs.Standing.{StandAmong}

pub record Tables : Type 0 where
  pub rules : List (List ℕ × Standing)
  pub terminals : List (List ℕ × Standing)
  pub interfaces : List (List ℕ × Standing)
  pub unions : List (List ℕ × Standing)
  pub types : List (List ℕ)
  pub properties : List (List ℕ)

pub record AreNumbersOf (g : Grammar) (tables : Tables) : Type 0 where
  pub rules : StandAmong declared_rule 0 g.rules tables.rules
  pub terminals : StandAmong declared_terminal (length g.rules) g.terminals tables.terminals
  pub interfaces : StandAmong declared_interface 0 g.interfaces tables.interfaces
  pub unions : StandAmong declared_union 0 g.unions tables.unions
  pub types : tables.types ≡ type_names g
  pub properties : tables.properties ≡ property_names g
