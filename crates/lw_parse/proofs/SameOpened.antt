-- A tree with the tables of one that is opened of marks is opened of them, too.
use Rattle.std.proofs.Common.{ℕ, List, sym, ◌∙◌, subst, refl}
use Rattle.lw_base.specs.declared.token.Token.{Token}
use Rattle.lw_grammar.specs.declared.grammar.Grammar.{Grammar}
use Rattle.lw_reading.specs.Numbers.{IsNamingProperty}
use Rattle.lw_reading.specs.Trees.{IsOpenedTree}
use Rattle.lw_grammar.specs.Marks.{Mark}
use Rattle.lw_tree.specs.Parts.{Parts, SameTables}

pub same_opened : {g : Grammar} {text : List ℕ} {m : List Mark} {seen tokens : List Token} {one other : Parts} → SameTables one other →
    IsOpenedTree g text m seen tokens other → IsOpenedTree g text m seen tokens one
same_opened {g} same is = record {
  brackets = is.brackets;
  grown = is.grown;
  follows = is.follows;
  closes = is.closes;
  named = subst (IsNamingProperty g) (sym same.name) is.named;
  parts = record {
    nodes = same.nodes ∙ is.parts.nodes;
    values = λ n p. same.values n p ∙ is.parts.values n p;
    refs = same.refs ∙ is.parts.refs;
    tokens = same.tokens ∙ is.parts.tokens;
    name = refl;
  };
}
