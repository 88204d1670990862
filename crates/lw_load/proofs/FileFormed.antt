-- What one file says is well formed: each terminal and each rule has parts in its choices, and no rule begins where a terminal begins.
use Rattle.std.proofs.Common.{ℕ, suc, ◌≡◌, ◌≤◌, ◌<◌, ◌⊎◌, inl, inr, List, [], ◌∷◌, ◌++◌, Contains, refl, ap, subst, arith}
use Rattle.std.proofs.lemmas.List.Elements.{Contains-push_cases}
use Rattle.lw_base.specs.declared.token.Span.{Span}
use Rattle.lw_grammar.specs.declared.grammar.Grammar.{Grammar}
use Rattle.lw_grammar.specs.declared.grammar.Import.{Import}
use Rattle.lw_grammar.specs.declared.rule.Rule.{Rule}
use Rattle.lw_grammar.specs.declared.terminal.Terminal.{Terminal}
use Rattle.lw_gramread.specs.declared.lexeme.Lexeme.{Lexeme}
use Rattle.lw_gramread.specs.Syntax as syntax
use Rattle.lw_gramread.specs.Syntax.{Syntax, SpellsItem, SpellsItems, SpellsFile, bare_grammar, with_item, with_items}
use Rattle.lw_load.proofs.Rising.{Rises, later, file_rises}
use Rattle.lw_load.proofs.Behind.{IsNamed, interface_named, union_named, rule_named, terminal_named, grammar_name_behind, imports_behind}
use Rattle.lw_load.proofs.Filled.{HasParts, terminal_filled}
use Rattle.lw_load.proofs.FilledRules.{RuleHasParts, rule_filled}

-- what a file says, where all that it says is in one file
pub record IsFormed (g : Grammar) : Type 0 where
  pub filled : (t : Terminal) → Contains g.terminals t → HasParts t
  pub filled_rules : (rule : Rule) → Contains g.rules rule → RuleHasParts rule
  pub apart : (rule : Rule) (t : Terminal) → Contains g.rules rule → Contains g.terminals t → ¬ (rule.span.start ≡ t.span.start)

-- and all of it begins before this place
record IsFormedBelow (high : ℕ) (g : Grammar) : Type 0 where
  formed : IsFormed g
  rules : (rule : Rule) → Contains g.rules rule → rule.span.start < high
  terminals : (t : Terminal) → Contains g.terminals t → t.span.start < high

-- one more thing behind a list of things that begin before a place
module _ {X : Type 0} (start : X → ℕ) (xs : List X) (x : X) (low : ℕ) (below : (y : X) → Contains xs y → start y < low) (from : low ≤ start x) where
  push_below : (y : X) → Contains (xs ++ x ∷ []) y → start y < suc (start x)
  push_below y has = elim (Contains-push_cases xs x y has) [
    | inl old ↦ omega (arith, below y old, from)
    | inr new ↦ let same : start x ≡ start y = ap start new in omega (arith, same)
  ]

-- a grammar with one more item: it is formed, and begins before the tokens that are left
record IsFormedBefore (rest : List Lexeme) (g : Grammar) : Type 0 where
  high : ℕ
  below : IsFormedBelow high g
  rises : Rises high rest

-- an item that changes neither rules nor terminals
module _ (g h : Grammar) (rules : h.rules ≡ g.rules) (terminals : h.terminals ≡ g.terminals) (low : ℕ) (s : Span) (b : IsFormedBelow low g) where
  beside : (rest : List Lexeme) → IsNamed low s rest → IsFormedBefore rest h
  beside rest named = record {
    high = suc s.start;
    below = record {
      formed = record {
        filled = λ t there. b.formed.filled t (subst (λ ts. Contains ts t) terminals there);
        filled_rules = λ rule there. b.formed.filled_rules rule (subst (λ rs. Contains rs rule) rules there);
        apart = λ rule t is_rule is_terminal.
            b.formed.apart rule t (subst (λ rs. Contains rs rule) rules is_rule) (subst (λ ts. Contains ts t) terminals is_terminal);
      };
      rules = λ rule there. omega (arith, b.rules rule (subst (λ rs. Contains rs rule) rules there), named.0);
      terminals = λ t there. omega (arith, b.terminals t (subst (λ ts. Contains ts t) terminals there), named.0);
    };
    rises = named.1;
  }

module _ (g : Grammar) (low : ℕ) (b : IsFormedBelow low g) where
  behind_rule : (r : Rule) (rest : List Lexeme) → RuleHasParts r → IsNamed low r.span rest → IsFormedBefore rest (record g { rules = g.rules ++ r ∷ [] })
  behind_rule r rest filled named = record {
    high = suc r.span.start;
    below = record {
      formed = record {
        filled = b.formed.filled;
        filled_rules = λ rule there. filled_still rule (Contains-push_cases g.rules r rule there);
        apart = λ rule t is_rule is_terminal. apart_from rule t is_terminal (Contains-push_cases g.rules r rule is_rule);
      };
      rules = push_below (λ (z : Rule). z.span.start) g.rules r low b.rules named.0;
      terminals = λ t there. omega (arith, b.terminals t there, named.0);
    };
    rises = named.1;
  }
    where
      filled_still : (rule : Rule) → Contains g.rules rule ⊎ (r ≡ rule) → RuleHasParts rule
      filled_still rule (inl old) = b.formed.filled_rules rule old
      filled_still rule (inr new) = subst RuleHasParts new filled

      apart_from : (rule : Rule) (t : Terminal) → Contains g.terminals t → Contains g.rules rule ⊎ (r ≡ rule) → ¬ (rule.span.start ≡ t.span.start)
      apart_from rule t is_terminal (inl old) = b.formed.apart rule t old is_terminal
      apart_from rule t is_terminal (inr new) = λ same.
          let start : r.span.start ≡ rule.span.start = ap (λ (z : Rule). z.span.start) new in omega (arith, b.terminals t is_terminal, start, same, named.0)

  behind_terminal : (t : Terminal) (rest : List Lexeme) → HasParts t → IsNamed low t.span rest → IsFormedBefore rest (record g { terminals = g.terminals ++ t ∷ [] })
  behind_terminal t rest filled named = record {
    high = suc t.span.start;
    below = record {
      formed = record {
        filled = λ u there. filled_still u (Contains-push_cases g.terminals t u there);
        filled_rules = b.formed.filled_rules;
        apart = λ rule u is_rule is_terminal. apart_from rule u is_rule (Contains-push_cases g.terminals t u is_terminal);
      };
      rules = λ rule there. omega (arith, b.rules rule there, named.0);
      terminals = push_below (λ (z : Terminal). z.span.start) g.terminals t low b.terminals named.0;
    };
    rises = named.1;
  }
    where
      filled_still : (u : Terminal) → Contains g.terminals u ⊎ (t ≡ u) → HasParts u
      filled_still u (inl old) = b.formed.filled u old
      filled_still u (inr new) = subst HasParts new filled

      apart_from : (rule : Rule) (u : Terminal) → Contains g.rules rule → Contains g.terminals u ⊎ (t ≡ u) → ¬ (rule.span.start ≡ u.span.start)
      apart_from rule u is_rule (inl old) = b.formed.apart rule u is_rule old
      apart_from rule u is_rule (inr new) = λ same.
          let start : t.span.start ≡ u.span.start = ap (λ (z : Terminal). z.span.start) new in omega (arith, b.rules rule is_rule, start, same, named.0)

  behind_item : {ts rest : List Lexeme} {i : _} → SpellsItem ts rest i → Rises low ts → IsFormedBefore rest (with_item g i)
  behind_item {rest = rest} (syntax.interface {i = i} spells) h = beside g _ refl refl low i.span b rest (interface_named spells (later h))
  behind_item {rest = rest} (syntax.union_type {u = u} spells) h = beside g _ refl refl low u.span b rest (union_named spells (later h))
  behind_item {rest = rest} (syntax.rule {r = r} spells) h = behind_rule r rest (rule_filled spells) (rule_named spells h)
  behind_item {rest = rest} (syntax.terminal {t = t} spells) h = behind_terminal t rest (terminal_filled spells) (terminal_named spells (later h))
  behind_item {rest = rest} (syntax.hidden_terminal {t = t} spells) h = behind_terminal t rest (terminal_filled spells) (terminal_named spells (later (later h)))

items_formed : {ts : List Lexeme} {all : _} (low : ℕ) (g : Grammar) → SpellsItems ts all → Rises low ts → IsFormedBelow low g → IsFormed (with_items g all)
items_formed low g syntax.no_item h b = b.formed
items_formed low g (syntax.item_and {i = i} one others) h b =
    let now = behind_item g low b one h in items_formed now.high (with_item g i) others now.rises now.below

-- nothing is in an empty list
pub none_there : {X : Type 0} (x : X) → ¬ Contains [] x
none_there x has = omega (arith, has.1)

bare_formed : (n : List ℕ) (is : List Import) → IsFormedBelow 0 (bare_grammar n is)
bare_formed n is = record {
  formed = record {
    filled = λ t there. absurd (none_there t there);
    filled_rules = λ rule there. absurd (none_there rule there);
    apart = λ rule t there also. absurd (none_there t also);
  };
  rules = λ rule there. absurd (none_there rule there);
  terminals = λ t there. absurd (none_there t there);
}

file_formed : {ts : List Lexeme} {g : Grammar} → SpellsFile ts g → Rises 0 ts → IsFormed g
file_formed (syntax.file {n} {is} name imports all) h =
    items_formed 0 (bare_grammar n is) all (imports_behind imports (grammar_name_behind name h)) (bare_formed n is)

-- what a text says
pub text_formed : (text : List ℕ) (g : Grammar) → Syntax text g → IsFormed g
text_formed text g says = file_formed says.spells (file_rises text says.tokens says.cut)
