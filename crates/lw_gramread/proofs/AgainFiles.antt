-- What a whole file spells is read again as it is.
use Rattle.std.proofs.Common.{ℕ, ◌≡◌, ◌<◌, ◌≤◌, true, false, List, [], ◌∷◌, length, Some, Ok, Err, not, ◌==◌, refl, sym, ap, ◌∙◌, arith}
use Rattle.std.proofs.lemmas.Bool.Decides.{nat_tests}
use Rattle.lw_grammar.specs.declared.grammar.Grammar.{Grammar}
use Rattle.lw_grammar.specs.declared.grammar.Import.{Import}
use Rattle.lw_grammar.specs.declared.rule.Rule.{Rule}
use Rattle.lw_gramlex.specs.declared.token.Symbol.TheVariants as sign
use Rattle.lw_gramread.specs.declared.lexeme.Reserved.TheVariants as word
use Rattle.lw_gramread.specs.declared.lexeme.Lexeme.{Lexeme}
use Rattle.lw_gramread.specs.declared.lexeme.Lexeme.TheVariants.{Word, Text}
use Rattle.lw_gramread.specs.declared.reader.file.Item.{Item}
use Rattle.lw_gramread.specs.OptionalTokens.{MayTakeWord}
use Rattle.lw_gramread.specs.ParserRules as rules
use Rattle.lw_gramread.specs.ParserRules.{SpellsRule}
use Rattle.lw_gramread.specs.Syntax as syntax
use Rattle.lw_gramread.specs.Syntax.{SpellsGrammarName, SpellsImports, SpellsItem, SpellsItems, SpellsFile}
use Rattle.lw_gramread.specs.Steps.{Outcome, ◌>>◌, sees, sees_reserved, same_reserved, skip, reserved, free_word, text, gathered, one}
use Rattle.lw_gramread.specs.FileSteps.{grammar_name, import, imports, shown_item, hidden_item, union_item, next_item, is_left, items, all_items, file}
use Rattle.lw_gramread.proofs.Shorter.{may_shorter, imports_shorter, grammar_name_shorter, item_shorter}
use Rattle.lw_gramread.proofs.AgainTypes.{may_again, gathered_none, gathered_more, behind_again, one_again, interface_again, union_again}
use Rattle.lw_gramread.proofs.AgainRules.{rule_again}
use Rattle.lw_gramread.proofs.AgainTerminals.{terminal_again}

-- what may not stand where an item begins or the file ends
pub record EndsItem (rest : List Lexeme) : Type 0 where
  pub no_end : sees sign.Semicolon rest ≡ false
  pub no_bar : sees sign.Bar rest ≡ false
  pub no_import : sees_reserved word.Import rest ≡ false
  pub no_name : sees_reserved word.Grammar rest ≡ false

-- a parser rule begins as no other item does
record BeginsRule (ts : List Lexeme) : Type 0 where
  ends : EndsItem ts
  no_interface : sees_reserved word.Interface ts ≡ false
  no_type : sees_reserved word.Type ts ≡ false
  no_hidden : sees_reserved word.Hidden ts ≡ false
  no_terminal : sees_reserved word.Terminal ts ≡ false

begins_rule : {ts rest : List Lexeme} {r : Rule} → SpellsRule ts rest r → BeginsRule ts
unfolding same_reserved
begins_rule (rules.rule MayTakeWord.left_out MayTakeWord.left_out r c) =
    record { ends = record { no_end = refl; no_bar = refl; no_import = refl; no_name = refl }; no_interface = refl; no_type = refl; no_hidden = refl; no_terminal = refl }
begins_rule (rules.rule MayTakeWord.left_out MayTakeWord.there r c) =
    record { ends = record { no_end = refl; no_bar = refl; no_import = refl; no_name = refl }; no_interface = refl; no_type = refl; no_hidden = refl; no_terminal = refl }
begins_rule (rules.rule MayTakeWord.there f r c) =
    record { ends = record { no_end = refl; no_bar = refl; no_import = refl; no_name = refl }; no_interface = refl; no_type = refl; no_hidden = refl; no_terminal = refl }

item_ends : {ts rest : List Lexeme} {i : Item} → SpellsItem ts rest i → EndsItem ts
unfolding same_reserved
item_ends (syntax.interface i) = record { no_end = refl; no_bar = refl; no_import = refl; no_name = refl }
item_ends (syntax.union_type u) = record { no_end = refl; no_bar = refl; no_import = refl; no_name = refl }
item_ends (syntax.rule r) = (begins_rule r).ends
item_ends (syntax.terminal t) = record { no_end = refl; no_bar = refl; no_import = refl; no_name = refl }
item_ends (syntax.hidden_terminal t) = record { no_end = refl; no_bar = refl; no_import = refl; no_name = refl }

items_end : {ts : List Lexeme} {all : List Item} → SpellsItems ts all → EndsItem ts
items_end syntax.no_item = record { no_end = refl; no_bar = refl; no_import = refl; no_name = refl }
items_end (syntax.item_and i m) = item_ends i

item_again : {ts rest : List Lexeme} {i : Item} → SpellsItem ts rest i → EndsItem rest → (d : ℕ) → length ts ≤ d → next_item d ts ≡ Ok (i, rest)
unfolding next_item union_item hidden_item shown_item reserved same_reserved
item_again (syntax.interface i) h d le = rw (interface_again i h.no_end d (omega arith)) refl
item_again (syntax.union_type u) h d le = rw (union_again u h.no_bar h.no_end d (omega arith)) refl
item_again (syntax.rule r) h d le =
    let b = begins_rule r in
    rw (b.no_interface, b.no_type, b.no_hidden, b.no_terminal, rule_again r d le) refl
item_again (syntax.terminal t) h d le = rw (terminal_again t d (omega arith)) refl
item_again (syntax.hidden_terminal t) h d le = rw (terminal_again t d (omega arith)) refl

pub some_left : (ts : List Lexeme) → 0 < length ts → is_left ts ≡ true
some_left [] some = absurd (omega arith)
some_left (t ∷ ts) some = let e : (length (t ∷ ts) == 0) ≡ false = grind (arith, nat_tests) in ap not e

items_again : {ts : List Lexeme} {all : List Item} → SpellsItems ts all → (d : ℕ) → length ts ≤ d → (n : ℕ) → length ts ≤ n →
    gathered is_left (one (next_item d)) n ts ≡ Ok (all, [])
items_again syntax.no_item d le n more = gathered_none is_left (one (next_item d)) n [] refl
items_again (syntax.item_and {ts} {mid} {i} {others} x m) d le n more =
    gathered_more is_left (one (next_item d)) n ts mid [] (i ∷ []) others (omega (arith, item_shorter x)) more (some_left ts (omega (arith, item_shorter x)))
    (one_again (next_item d) i ts mid (item_again x (items_end m) d le))
    (λ k e. items_again m d (omega (arith, item_shorter x)) k (omega (arith, item_shorter x)))

-- ---- imports

imports_end : {ts rest : List Lexeme} {is : List Import} → SpellsImports ts rest is → EndsItem rest → (sees sign.Semicolon ts ≡ false) × (sees_reserved word.Grammar ts ≡ false)
unfolding same_reserved
imports_end syntax.no_import h = (h.no_end, h.no_name)
imports_end (syntax.import_and e m) h = (refl, refl)

imports_again : {ts rest : List Lexeme} {is : List Import} → SpellsImports ts rest is → EndsItem rest → (n : ℕ) → length ts ≤ n →
    gathered (sees_reserved word.Import) (skip >> one import) n ts ≡ Ok (is, rest)
unfolding import text same_reserved
imports_again {ts} syntax.no_import h n more = gathered_none (sees_reserved word.Import) (skip >> one import) n ts h.no_import
imports_again (syntax.import_and {w} {path} {i} {s} {ts} {mid} {rest} {others} e m) h n more =
    let end = may_again e (imports_end m h).0 in
    gathered_more (sees_reserved word.Import) (skip >> one import) n (Word w (Some word.Import) i ∷ Text path s ∷ ts) mid rest (record { path = path; file = 0; span = s } ∷ [])
    others (omega arith) more refl (rw (end.0, end.1) refl)
    (λ k q. imports_again m h k (omega (arith, may_shorter e)))

name_again : {ts rest : List Lexeme} {n : List ℕ} → SpellsGrammarName ts rest n → sees_reserved word.Grammar rest ≡ false → grammar_name ts ≡ Ok (n, rest)
unfolding grammar_name free_word same_reserved
name_again syntax.unnamed h = rw h refl
name_again syntax.named h = refl

-- what a file spells is read, where parentheses may nest deep enough
pub file_again : {ts : List Lexeme} {g : Grammar} → SpellsFile ts g → (d : ℕ) → length ts ≤ d → file d ts ≡ Ok (g, [])
unfolding file imports all_items items
file_again (syntax.file {us} {vs} {is} {items = all} n m x) d le =
    let h = items_end x in
    rw (
      name_again n (imports_end m h).1,
      behind_again (sees_reserved word.Import) (skip >> one import) [] is us vs (imports_again m h (length us) (omega arith)),
      behind_again is_left (one (next_item d)) [] all vs [] (items_again x d (omega (arith, grammar_name_shorter n, imports_shorter m)) (length vs) (omega arith)),
    ) refl

abbrev read_to_end : Grammar → Outcome Grammar
read_to_end g = Ok (g, [])

grammar_of : Grammar → Outcome Grammar → Grammar
grammar_of g (Ok p) = p.0
grammar_of g (Err e) = g

same_grammar : (g h : Grammar) → read_to_end g ≡ read_to_end h → g ≡ h
unfolding grammar_of
same_grammar g h e = ap (grammar_of g) e

-- one list of tokens spells one grammar
pub file_only : {ts : List Lexeme} {g h : Grammar} → SpellsFile ts g → SpellsFile ts h → h ≡ g
file_only {ts} {g} {h} s t = same_grammar h g (sym (file_again t (length ts) (omega arith)) ∙ file_again s (length ts) (omega arith))
