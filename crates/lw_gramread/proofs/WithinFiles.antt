-- What a file spells stands in its text, and so does the place where a refusal tells that it goes wrong.
use Rattle.std.proofs.Common.{ℕ, ◌≡◌, List, [], ◌∷◌, ◌++◌, subst, arith}
use Rattle.std.specs.Prelude.{All}
use Rattle.std.specs.List.{AllByRecursion}
use Rattle.std.proofs.lemmas.List.Elements.{All-nil, All-push, All-from_recursion}
use Rattle.lw_base.specs.declared.token.Span.{Span}
use Rattle.lw_grammar.specs.declared.grammar.Grammar.{Grammar}
use Rattle.lw_grammar.specs.declared.grammar.Import.{Import}
use Rattle.lw_gramlex.specs.declared.token.FileToken.{FileToken}
use Rattle.lw_gramlex.specs.Places.{IsPlace}
use Rattle.lw_gramread.specs.declared.lexeme.Lexeme.{Lexeme}
use Rattle.lw_gramread.specs.declared.reader.file.Item.{Item}
use Rattle.lw_gramread.specs.declared.reader.file.Item.TheVariants as item
use Rattle.lw_gramread.specs.Lexemes.{lexemes_of}
use Rattle.lw_gramread.specs.Syntax as syntax
use Rattle.lw_gramread.specs.Syntax.{SpellsGrammarName, SpellsImports, SpellsItem, SpellsItems, SpellsFile, bare_grammar, with_item, with_items}
use Rattle.lw_gramread.specs.Refusals.{place_or_end}
use Rattle.lw_gramread.specs.PlacesWithin.{IsWithin, rule_spans, terminal_spans, interface_spans, union_spans, StandsWithin}
use Rattle.lw_gramread.proofs.Within.{AreWithin, TokensWithin, may_within, tokens_within}
use Rattle.lw_gramread.proofs.WithinTypes.{interface_within, union_within}
use Rattle.lw_gramread.proofs.WithinRules.{rule_within}
use Rattle.lw_gramread.proofs.WithinTerminals.{terminal_within}

module _ (text : List ℕ) where
  abbrev item_spans : Item → List Span
  item_spans (item.Interface i) = interface_spans i
  item_spans (item.Union u) = union_spans u
  item_spans (item.Rule r) = rule_spans r
  item_spans (item.Terminal t) = terminal_spans t

  name_within : {ts rest : List Lexeme} {n : List ℕ} → SpellsGrammarName ts rest n → TokensWithin text ts → TokensWithin text rest
  name_within syntax.unnamed h = h
  name_within syntax.named h = h.1.1

  imports_within : {ts rest : List Lexeme} {is : List Import} → SpellsImports ts rest is → TokensWithin text ts → AllByRecursion (λ i. IsWithin text i.span) is × TokensWithin text rest
  imports_within syntax.no_import h = (tt, h)
  imports_within (syntax.import_and ended others) h = let r = imports_within others (may_within text ended h.1.1) in ((h.1.0, r.0), r.1)

  item_within : {ts rest : List Lexeme} {i : Item} → SpellsItem ts rest i → TokensWithin text ts → AreWithin text (item_spans i) × TokensWithin text rest
  item_within (syntax.interface i) h = interface_within text i h.1
  item_within (syntax.union_type u) h = union_within text u h.1
  item_within (syntax.rule r) h = rule_within text r h
  item_within (syntax.terminal t) h = terminal_within text t h.1
  item_within (syntax.hidden_terminal t) h = terminal_within text t h.1.1

  items_within : {ts : List Lexeme} {all : List Item} → SpellsItems ts all → TokensWithin text ts → AllByRecursion (λ i. AreWithin text (item_spans i)) all
  items_within syntax.no_item h = tt
  items_within (syntax.item_and i others) h = let r = item_within i h in (r.0, items_within others r.1)

  -- one more item
  stands_more : (g : Grammar) (i : Item) → StandsWithin text g → AreWithin text (item_spans i) → StandsWithin text (with_item g i)
  stands_more g (item.Interface i) s h =
      record {
        rules = s.rules;
        terminals = s.terminals;
        interfaces = All-push (λ x. All (IsWithin text) (interface_spans x)) g.interfaces i s.interfaces (All-from_recursion (IsWithin text) (interface_spans i) h);
        unions = s.unions;
        imports = s.imports;
      }
  stands_more g (item.Union u) s h =
      record {
        rules = s.rules;
        terminals = s.terminals;
        interfaces = s.interfaces;
        unions = All-push (λ x. All (IsWithin text) (union_spans x)) g.unions u s.unions (All-from_recursion (IsWithin text) (union_spans u) h);
        imports = s.imports;
      }
  stands_more g (item.Rule r) s h =
      record {
        rules = All-push (λ x. All (IsWithin text) (rule_spans x)) g.rules r s.rules (All-from_recursion (IsWithin text) (rule_spans r) h);
        terminals = s.terminals;
        interfaces = s.interfaces;
        unions = s.unions;
        imports = s.imports;
      }
  stands_more g (item.Terminal t) s h =
      record {
        rules = s.rules;
        terminals = All-push (λ x. All (IsWithin text) (terminal_spans x)) g.terminals t s.terminals (All-from_recursion (IsWithin text) (terminal_spans t) h);
        interfaces = s.interfaces;
        unions = s.unions;
        imports = s.imports;
      }

  stands_all : (g : Grammar) (all : List Item) → StandsWithin text g → AllByRecursion (λ i. AreWithin text (item_spans i)) all → StandsWithin text (with_items g all)
  stands_all g [] s h = s
  stands_all g (i ∷ is) s h = stands_all (with_item g i) is (stands_more g i s h.0) h.1

  bare_stands : (n : List ℕ) (is : List Import) → AllByRecursion (λ i. IsWithin text i.span) is → StandsWithin text (bare_grammar n is)
  bare_stands n is h =
      record {
        rules = All-nil (λ r. All (IsWithin text) (rule_spans r));
        terminals = All-nil (λ t. All (IsWithin text) (terminal_spans t));
        interfaces = All-nil (λ i. All (IsWithin text) (interface_spans i));
        unions = All-nil (λ u. All (IsWithin text) (union_spans u));
        imports = All-from_recursion (λ i. IsWithin text i.span) is h;
      }

  file_within : {ts : List Lexeme} {g : Grammar} → SpellsFile ts g → TokensWithin text ts → StandsWithin text g
  file_within (syntax.file {n} {is} {items} name imports all) h =
      let r = imports_within imports (name_within name h) in
      stands_all (bare_grammar n is) items (bare_stands n is r.0) (items_within all r.1)

  -- where the tokens stand in the text, so does all that they spell
  pub stands_within : (tokens : List FileToken) (g : Grammar) → All (λ t. IsPlace text t.span) tokens → SpellsFile (lexemes_of text tokens) g → StandsWithin text g
  stands_within tokens g places spells = file_within spells (tokens_within text tokens places)

  -- ---- refusals

  part_within : (front left : List Lexeme) → TokensWithin text (front ++ left) → TokensWithin text left
  part_within [] left h = h
  part_within (t ∷ front) left h = part_within front left h.1

  place_within : (left : List Lexeme) → TokensWithin text left → IsWithin text (place_or_end text left)
  place_within [] h = (omega arith, omega arith)
  place_within (t ∷ ts) h = h.0

  -- where the tokens stand in the text, so does the first of those that are left, or the text's end
  pub left_within : (tokens : List FileToken) (front left : List Lexeme) → All (λ t. IsPlace text t.span) tokens → lexemes_of text tokens ≡ front ++ left →
      IsWithin text (place_or_end text left)
  left_within tokens front left places parts = place_within left (part_within front left (subst (TokensWithin text) parts (tokens_within text tokens places)))
