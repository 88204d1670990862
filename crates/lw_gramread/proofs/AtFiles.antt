-- Whole files as they are read, beside the stack.
use Rattle.std.proofs.Common.{ℕ, ◌≡◌, ◌<◌, ◌≤◌, Bool, true, false, List, [], ◌∷◌, ◌++◌, length, Some, None, refl, sym, subst, arith}
use Rattle.lw_grammar.specs.declared.grammar.Import.{Import}
use Rattle.lw_gramlex.specs.declared.token.Symbol.TheVariants as sign
use Rattle.lw_gramread.specs.declared.lexeme.Reserved.TheVariants as word
use Rattle.lw_gramread.specs.declared.lexeme.Lexeme.{Lexeme}
use Rattle.lw_gramread.specs.declared.lexeme.Lexeme.TheVariants.{Word, Text, Regex, Flagged, Sign, Other}
use Rattle.lw_gramread.specs.declared.reader.file.Item.{Item}
use Rattle.lw_gramread.specs.ParserRules.{SpellsRule}
use Rattle.lw_gramread.specs.RuleSteps.{rule}
use Rattle.lw_gramread.specs.Syntax as syntax
use Rattle.lw_gramread.specs.Syntax.{SpellsGrammarName, SpellsImports, SpellsItem, SpellsItems, SpellsFile}
use Rattle.lw_gramread.specs.Steps.{◌>>◌, sees_reserved, same_symbol, same_reserved, skip, all_of, one}
use Rattle.lw_gramread.specs.FileSteps.{grammar_name, import, imports, shown_item, hidden_item, union_item, next_item, is_left, items, all_items, file}
use Rattle.lw_gramread.proofs.Shorter.{may_shorter, item_shorter}
use Rattle.lw_gramread.proofs.Machine.{May, TerminalName, Term, TermsEnd, AtStart, AtImports, AtItems, InType, InRule, InTerminal, Fine, place}
use Rattle.lw_gramread.proofs.At.{At, read, bind, done, finish, moved, SeenWord, word_comes, word_comes_not, seen_word, name_at, text_at, reserved_at, Turns, gathered_at}
use Rattle.lw_gramread.proofs.AgainFiles.{some_left}
use Rattle.lw_gramread.proofs.AtTypes.{last_may_at, interface_at, union_at}
use Rattle.lw_gramread.proofs.AtRules.{rule_at}
use Rattle.lw_gramread.proofs.AtTerminals.{terminal_at}

-- ---- the name and the imports

start_imports : (d : ℕ) (ts : List Lexeme) → sees_reserved word.Grammar ts ≡ false → place d AtStart [] ts ≡ place d AtImports [] ts
start_imports d [] h = refl
start_imports d (Word n None s ∷ ts) h = refl
start_imports d (Word n (Some r) s ∷ ts) h = rw h refl
start_imports d (Text v s ∷ ts) h = refl
start_imports d (Regex p s ∷ ts) h = refl
start_imports d (Flagged s ∷ ts) h = refl
start_imports d (Other s ∷ ts) h = refl
start_imports d (Sign y s ∷ ts) h = refl

imports_items : (d : ℕ) (ts : List Lexeme) → sees_reserved word.Import ts ≡ false → place d AtImports [] ts ≡ place d AtItems [] ts
imports_items d [] h = refl
imports_items d (Word n None s ∷ ts) h = refl
imports_items d (Word n (Some r) s ∷ ts) h = rw h refl
imports_items d (Text v s ∷ ts) h = refl
imports_items d (Regex p s ∷ ts) h = refl
imports_items d (Flagged s ∷ ts) h = refl
imports_items d (Other s ∷ ts) h = refl
imports_items d (Sign y s ∷ ts) h = refl

module _ (d : ℕ) where
  grammar_name_at : (ts : List Lexeme) → At (place d AtStart [] ts) (place d AtImports []) (SpellsGrammarName ts) (grammar_name ts)
  unfolding grammar_name same_reserved
  grammar_name_at ts = by ts (seen_word word.Grammar ts)
    where
      by : (us : List Lexeme) → SeenWord word.Grammar us → At (place d AtStart [] us) (place d AtImports []) (SpellsGrammarName us) (grammar_name us)
      by us (word_comes n s vs) = bind _ (name_at d AtImports [] vs) (λ mid m h. done m.0 mid (rw h syntax.named))
      by us (word_comes_not h) = rw h (read [] us (start_imports d us h) syntax.unnamed)

  imports_turns : Turns (sees_reserved word.Import) (skip >> one import) (place d AtImports []) (place d AtItems []) (λ ts. Unit {0}) (λ ts. Unit {0}) SpellsImports
  unfolding import same_symbol same_reserved
  imports_turns = record {
    empty = refl;
    leaves = λ ts i e. (imports_items d ts e, syntax.no_import, tt);
    turn = λ ts i e. from ts e (seen_word word.Import ts);
  }
    where
      from : (ts : List Lexeme) → sees_reserved word.Import ts ≡ true → SeenWord word.Import ts →
          At (place d AtImports [] ts) (place d AtImports [])
          (λ mid xs. (length mid < length ts) × Unit {0} × ((rest : List Lexeme) (ys : List Import) → SpellsImports mid rest ys → SpellsImports ts rest (xs ++ ys)))
          ((skip >> one import) ts)
      from ts e (word_comes_not h) = absurd (cc (e, h))
      from ts e (word_comes n s us) =
          bind _ (bind _ (text_at d AtImports (May sign.Semicolon ∷ []) us) (λ mid path h.
          finish {Q = λ rest x. (length rest < length us) × ((last : List Lexeme) (ys : List Import) → SpellsImports rest last ys → SpellsImports (Word n (Some word.Import) s ∷ us) last (x ∷ ys))}
          (λ rest x g. let less : length rest ≤ length mid = may_shorter g.1.1 in (refl, (rw h (omega (arith, less)), λ last ys m. rw (h, g.0) (syntax.import_and g.1.1 m)))) (last_may_at d AtImports [] _ mid)))
          (λ rest x g. let less : length rest < length us = g.0 in done (x ∷ []) rest (omega (arith, less), tt, g.1))

  imports_at : (ts : List Lexeme) → At (place d AtImports [] ts) (place d AtItems []) (SpellsImports ts) (imports ts)
  unfolding imports all_of
  imports_at ts =
      bind _ (gathered_at (sees_reserved word.Import) (skip >> one import) (place d AtImports []) (place d AtItems []) (λ us. Unit {0}) (λ us. Unit {0}) SpellsImports
      imports_turns (length ts) ts (omega arith) tt) (λ rest all g. done all rest g.0)

-- ---- items

-- behind an item any may follow
type_settled : (d : ℕ) (i : Bool) (ts : List Lexeme) → place d (InType i) [] ts ≡ place d AtItems [] ts
type_settled d i [] = refl
type_settled d i (t ∷ ts) = refl

rule_settled : (d : ℕ) (ts : List Lexeme) → place d InRule [] ts ≡ place d AtItems [] ts
rule_settled d [] = refl
rule_settled d (t ∷ ts) = refl

terminal_settled : (d : ℕ) (ts : List Lexeme) → place d InTerminal [] ts ≡ place d AtItems [] ts
terminal_settled d [] = refl
terminal_settled d (t ∷ ts) = refl

module _ (d : ℕ) where
  rule_here : (us : List Lexeme) (t : Lexeme) (ts : List Lexeme) → us ≡ t ∷ ts → sees_reserved word.Interface us ≡ false → sees_reserved word.Type us ≡ false →
      sees_reserved word.Hidden us ≡ false → sees_reserved word.Terminal us ≡ false → At (place d AtItems [] us) (place d InRule []) (SpellsRule us) (rule d us)
  rule_here us t ts e f y h m =
      subst (λ zs. At (place d AtItems [] zs) (place d InRule []) (SpellsRule zs) (rule d zs)) (sym e) (rule_at d t ts (rw e at f) (rw e at y) (rw e at h) (rw e at m))

  item_at : (t : Lexeme) (ts : List Lexeme) → At (place d AtItems [] (t ∷ ts)) (place d AtItems []) (SpellsItem (t ∷ ts)) (next_item d (t ∷ ts))
  unfolding next_item union_item hidden_item shown_item same_reserved
  item_at t ts = by (t ∷ ts) refl (seen_word word.Interface (t ∷ ts)) (seen_word word.Type (t ∷ ts)) (seen_word word.Hidden (t ∷ ts)) (seen_word word.Terminal (t ∷ ts))
    where
      by : (us : List Lexeme) → us ≡ t ∷ ts → SeenWord word.Interface us → SeenWord word.Type us → SeenWord word.Hidden us → SeenWord word.Terminal us →
          At (place d AtItems [] us) (place d AtItems []) (SpellsItem us) (next_item d us)
      by us e (word_comes n s vs) y h m = bind _ (moved (type_settled d true) (interface_at d [] vs)) (λ mid i p. done _ mid (syntax.interface p))
      by us e (word_comes_not f) (word_comes n s vs) h m = bind _ (moved (type_settled d false) (union_at d [] vs)) (λ mid u p. done _ mid (syntax.union_type p))
      by us e (word_comes_not f) (word_comes_not y) (word_comes n s vs) m =
          bind _ (reserved_at d InTerminal (TerminalName ∷ Term ∷ TermsEnd ∷ []) word.Terminal vs) (λ ws u q.
          bind _ (moved (terminal_settled d) (terminal_at d [] true ws)) (λ mid x p. done _ mid (rw q.2 (syntax.hidden_terminal p))))
      by us e (word_comes_not f) (word_comes_not y) (word_comes_not h) (word_comes n s vs) = bind _ (moved (terminal_settled d) (terminal_at d [] false vs)) (λ mid x p. done _ mid (syntax.terminal p))
      by us e (word_comes_not f) (word_comes_not y) (word_comes_not h) (word_comes_not m) =
          rw (f, y, h, m) (bind _ (moved (rule_settled d) (rule_here us t ts e f y h m)) (λ mid r p. done _ mid (syntax.rule p)))

-- items up to the end
abbrev ItemsTo : List Lexeme → List Lexeme → List Item → Type 0
ItemsTo ts rest all = (rest ≡ []) × SpellsItems ts all

module _ (d : ℕ) where
  items_turns : Turns is_left (one (next_item d)) (place d AtItems []) (λ rest. Fine) (λ ts. Unit {0}) (λ ts. Unit {0}) ItemsTo
  items_turns = record {
    empty = refl;
    leaves = λ ts i e. leaves ts e;
    turn = λ ts i e. turn ts e;
  }
    where
      leaves : (ts : List Lexeme) → is_left ts ≡ false → (place d AtItems [] ts ≡ Fine) × ItemsTo ts ts [] × Unit {0}
      leaves [] e = (refl, (refl, syntax.no_item), tt)
      leaves (t ∷ ts) e = absurd (cc (e, some_left (t ∷ ts) (omega arith)))

      turn : (ts : List Lexeme) → is_left ts ≡ true → At (place d AtItems [] ts) (place d AtItems [])
          (λ mid xs. (length mid < length ts) × Unit {0} × ((rest : List Lexeme) (ys : List Item) → ItemsTo mid rest ys → ItemsTo ts rest (xs ++ ys))) (one (next_item d) ts)
      turn [] e = absurd (cc e)
      turn (t ∷ ts) e = bind _ (item_at d t ts) (λ mid i h. done (i ∷ []) mid (item_shorter h, tt, λ rest ys m. (m.0, syntax.item_and h m.1)))

  -- a file is read where its tokens are fine, and else reading stops where they do
  pub file_at : (ts : List Lexeme) → At (place d AtStart [] ts) (λ rest. Fine) (λ rest g. (rest ≡ []) × SpellsFile ts g) (file d ts)
  unfolding file all_items items all_of
  file_at ts =
      bind _ (grammar_name_at d ts) (λ us n p.
      bind _ (imports_at d us) (λ vs is q.
      bind _ (bind _ (gathered_at is_left (one (next_item d)) (place d AtItems []) (λ rest. Fine) (λ ws. Unit {0}) (λ ws. Unit {0}) ItemsTo items_turns (length vs) vs (omega arith) tt)
      (λ rest all g. done {k = λ ws. Fine} {P = λ ws all. ItemsTo vs ws all} all rest g.0)) (λ rest all g. done {k = λ ws. Fine} _ rest (g.0, syntax.file p q g.1))))
