-- What callers see of a session: the grammar of its language, and its standing.
use Rattle.lw_grammar.specs.declared.grammar.Grammar.{Grammar}
use Rattle.lw_conversation.specs.Standing.{Standing}

pub record SessionView : Type 0 where
  pub grammar : Grammar
  pub standing : Standing
