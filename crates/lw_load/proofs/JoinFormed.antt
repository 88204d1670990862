-- What files say together is well formed: what each of them says is, and things of different files have different numbers.
use Rattle.std.proofs.Common.{ℕ, zero, suc, ◌≡◌, ◌+◌, ◌<◌, ◌⊎◌, inl, inr, List, [], ◌∷◌, length, map, Contains, refl, sym, ap, ◌∙◌, subst, arith, length-append}
use Rattle.std.proofs.lemmas.List.Elements.{Contains-append_cases}
use Rattle.lw_grammar.specs.declared.grammar.Grammar.{Grammar}
use Rattle.lw_grammar.specs.declared.rule.Rule.{Rule}
use Rattle.lw_grammar.specs.declared.terminal.Terminal.{Terminal}
use Rattle.lw_grammar.specs.WellFormed.{IsWellFormed}
use Rattle.lw_gramread.specs.Syntax.{bare_grammar}
use Rattle.lw_load.specs.FilledChoices.{HasFilledChoices}
use Rattle.lw_load.specs.Loading.{rules_in, terminals_in, with_file}
use Rattle.lw_load.proofs.Filled.{HasParts}
use Rattle.lw_load.proofs.FilledRules.{RuleHasParts}
use Rattle.lw_load.proofs.FileFormed.{IsFormed, none_there}

-- well formed, with parts in each choice, and each rule and each terminal has the number of one of the files
pub record IsNumbered (g : Grammar) : Type 0 where
  pub formed : IsWellFormed g
  pub filled : HasFilledChoices g
  pub rules : (rule : Rule) → Contains g.rules rule → rule.file < length g.files
  pub terminals : (t : Terminal) → Contains g.terminals t → t.file < length g.files

-- what stands in a mapped list is what something of the list is mapped to
record IsMapped {X Y : Type 0} (f : X → Y) (xs : List X) (y : Y) : Type 0 where
  one : X
  there : Contains xs one
  is : f one ≡ y

mapped_from : {X Y : Type 0} (f : X → Y) (xs : List X) (y : Y) → Contains (map f xs) y → IsMapped f xs y
mapped_from f [] y (k, within, is) = absurd (omega (arith, within))
mapped_from f (x ∷ xs) y (zero, within, is) = record { one = x; there = (0, omega arith, refl); is = is }
mapped_from f (x ∷ xs) y (suc k, within, is) =
    let other = mapped_from f xs y (k, omega (arith, within), is) in
    record { one = other.one; there = (suc other.there.0, omega (arith, other.there.1), other.there.2); is = other.is }

-- a rule or a terminal of the files so far, or of the one that is put behind them
module _ (g : Grammar) (path : List ℕ) (says : Grammar) where
  abbrev numbered_rule : Rule → Rule
  numbered_rule r = record r { file = length g.files }

  abbrev numbered_terminal : Terminal → Terminal
  numbered_terminal t = record t { file = length g.files }

  abbrev OldOrNewRule : Rule → Type 0
  OldOrNewRule rule = Contains g.rules rule ⊎ IsMapped numbered_rule says.rules rule

  abbrev OldOrNewTerminal : Terminal → Type 0
  OldOrNewTerminal t = Contains g.terminals t ⊎ IsMapped numbered_terminal says.terminals t

  rule_cases : (rule : Rule) → Contains (with_file g path says).rules rule → OldOrNewRule rule
  rule_cases rule has = elim (Contains-append_cases g.rules (rules_in (length g.files) says.rules) rule has) [
    | inl old ↦ inl old
    | inr new ↦ inr (mapped_from numbered_rule says.rules rule new)
  ]

  terminal_cases : (t : Terminal) → Contains (with_file g path says).terminals t → OldOrNewTerminal t
  terminal_cases t has = elim (Contains-append_cases g.terminals (terminals_in (length g.files) says.terminals) t has) [
    | inl old ↦ inl old
    | inr new ↦ inr (mapped_from numbered_terminal says.terminals t new)
  ]

  -- with one more file
  module _ (before : IsNumbered g) (is : IsFormed says) where
    rule_numbered : (rule : Rule) → OldOrNewRule rule → rule.file < length g.files + 1
    rule_numbered rule (inl old) = omega (arith, before.rules rule old)
    rule_numbered rule (inr new) = let same : length g.files ≡ rule.file = ap (λ (z : Rule). z.file) new.is in omega (arith, same)

    terminal_numbered : (t : Terminal) → OldOrNewTerminal t → t.file < length g.files + 1
    terminal_numbered t (inl old) = omega (arith, before.terminals t old)
    terminal_numbered t (inr new) = let same : length g.files ≡ t.file = ap (λ (z : Terminal). z.file) new.is in omega (arith, same)

    still_filled : (t : Terminal) → OldOrNewTerminal t → HasParts t
    still_filled t (inl old) = before.formed.no_empty_choice t old
    still_filled t (inr new) = subst HasParts new.is (is.filled new.one new.there)

    still_with_parts : (rule : Rule) → OldOrNewRule rule → RuleHasParts rule
    still_with_parts rule (inl old) = before.filled rule old
    still_with_parts rule (inr new) = subst RuleHasParts new.is (is.filled_rules new.one new.there)

    still_apart : (rule : Rule) (t : Terminal) → OldOrNewRule rule → OldOrNewTerminal t → ¬ ((rule.file ≡ t.file) × (rule.span.start ≡ t.span.start))
    still_apart rule t (inl old) (inl also) = before.formed.apart rule t old also
    still_apart rule t (inl old) (inr new) = λ same.
        let here : length g.files ≡ t.file = ap (λ (z : Terminal). z.file) new.is in omega (arith, before.rules rule old, here, same.0)
    still_apart rule t (inr new) (inl old) = λ same.
        let here : length g.files ≡ rule.file = ap (λ (z : Rule). z.file) new.is in omega (arith, before.terminals t old, here, same.0)
    still_apart rule t (inr new) (inr also) = λ same.
        is.apart new.one also.one new.there also.there
        (ap (λ (z : Rule). z.span.start) new.is ∙ same.1 ∙ sym (ap (λ (z : Terminal). z.span.start) also.is))

    pub numbered_grown : IsNumbered (with_file g path says)
    numbered_grown = record {
      formed = record {
        no_empty_choice = λ t there. still_filled t (terminal_cases t there);
        apart = λ rule t is_rule is_terminal. still_apart rule t (rule_cases rule is_rule) (terminal_cases t is_terminal);
      };
      filled = λ rule there. still_with_parts rule (rule_cases rule there);
      rules = λ rule there. subst (λ k. rule.file < k) (sym (length-append g.files (path ∷ []))) (rule_numbered rule (rule_cases rule there));
      terminals = λ t there. subst (λ k. t.file < k) (sym (length-append g.files (path ∷ []))) (terminal_numbered t (terminal_cases t there));
    }

pub numbered_bare : (name : List ℕ) → IsNumbered (bare_grammar name [])
numbered_bare name = record {
  formed = record { no_empty_choice = λ t there. absurd (none_there t there); apart = λ rule t there also. absurd (none_there t also) };
  filled = λ rule there. absurd (none_there rule there);
  rules = λ rule there. absurd (none_there rule there);
  terminals = λ t there. absurd (none_there t there);
}
