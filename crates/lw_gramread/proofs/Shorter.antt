-- What is left behind a thing that was spelled is shorter than what there was.
use Rattle.std.proofs.Common.{ℕ, ◌<◌, ◌≤◌, List, Bool, Option, length, arith}
use Rattle.lw_base.specs.declared.token.Span.{Span}
use Rattle.lw_grammar.specs.declared.grammar.Import.{Import}
use Rattle.lw_grammar.specs.declared.declared_types.Interface.{Interface}
use Rattle.lw_grammar.specs.declared.declared_types.Attribute.{Attribute}
use Rattle.lw_grammar.specs.declared.declared_types.UnionDef.{UnionDef}
use Rattle.lw_grammar.specs.declared.declared_types.Member.{Member}
use Rattle.lw_grammar.specs.declared.rule.Rule.{Rule}
use Rattle.lw_grammar.specs.declared.rule.RuleResult.{RuleResult}
use Rattle.lw_grammar.specs.declared.rule.Element.{Element}
use Rattle.lw_grammar.specs.declared.rule.Value0.{Value0}
use Rattle.lw_grammar.specs.declared.rule.Action.{Action}
use Rattle.lw_grammar.specs.declared.terminal.Primitive.{Primitive}
use Rattle.lw_grammar.specs.declared.terminal.Terminal.{Terminal}
use Rattle.lw_grammar.specs.declared.terminal.TermElement.{TermElement}
use Rattle.lw_gramlex.specs.declared.token.Symbol.{Symbol}
use Rattle.lw_gramread.specs.declared.lexeme.Reserved.{Reserved}
use Rattle.lw_gramread.specs.declared.lexeme.Lexeme.{Lexeme}
use Rattle.lw_gramread.specs.declared.reader.file.Item.{Item}
use Rattle.lw_gramread.specs.OptionalTokens.{MayTake, MayTakeWord}
use Rattle.lw_gramread.specs.DeclaredTypes as types
use Rattle.lw_gramread.specs.DeclaredTypes.{SpellsMoreNames, SpellsAbove, SpellsSingle, SpellsMembers, SpellsMoreMembers, SpellsTypeEnd, SpellsAttribute, SpellsAttributes, SpellsInterface, SpellsUnion}
use Rattle.lw_gramread.specs.ParserRules as rules
use Rattle.lw_gramread.specs.ParserRules.{SpellsCrossRule, SpellsValue, SpellsValues, SpellsMoreValues, SpellsActionType, SpellsPut, SpellsAction, SpellsMark, SpellsPart, SpellsElement, SpellsMoreElements, SpellsRow, SpellsMoreRows, SpellsChoice, SpellsResult, SpellsRule}
use Rattle.lw_gramread.specs.TerminalRules as terms
use Rattle.lw_gramread.specs.TerminalRules.{SpellsTermMark, SpellsTermPart, SpellsTerm, SpellsMoreTerms, SpellsTermRow, SpellsMoreTermRows, SpellsTermChoice, SpellsTermHead, SpellsTerminal}
use Rattle.lw_gramread.specs.Syntax as syntax
use Rattle.lw_gramread.specs.Syntax.{SpellsGrammarName, SpellsImports, SpellsItem}

pub may_shorter : {x : Symbol} {ts rest : List Lexeme} {b : Bool} → MayTake x ts rest b → length rest ≤ length ts
may_shorter MayTake.left_out = omega arith
may_shorter MayTake.there = omega arith

pub word_shorter : {r : Reserved} {ts rest : List Lexeme} {b : Bool} → MayTakeWord r ts rest b → length rest ≤ length ts
word_shorter MayTakeWord.left_out = omega arith
word_shorter MayTakeWord.there = omega arith

-- ---- declared types

pub more_names_shorter : {ts rest : List Lexeme} {names : List (List ℕ × Span)} → SpellsMoreNames ts rest names → length rest ≤ length ts
more_names_shorter types.none = omega arith
more_names_shorter (types.more m) = omega (arith, more_names_shorter m)

pub above_shorter : {ts rest : List Lexeme} {names : List (List ℕ × Span)} → SpellsAbove ts rest names → length rest ≤ length ts
above_shorter types.nothing = omega arith
above_shorter (types.extends m) = omega (arith, more_names_shorter m)

mutual
  pub single_shorter : {ts rest : List Lexeme} {ms : List Member} → SpellsSingle ts rest ms → length rest < length ts
  single_shorter types.refers = omega arith
  single_shorter types.named = omega arith
  single_shorter (types.plain e) = omega arith
  single_shorter types.literal = omega arith
  single_shorter (types.inside m) = omega (arith, members_shorter m)

  pub members_shorter : {ts rest : List Lexeme} {ms : List Member} → SpellsMembers ts rest ms → length rest < length ts
  members_shorter (types.members s m) = omega (arith, single_shorter s, more_members_shorter m)

  pub more_members_shorter : {ts rest : List Lexeme} {ms : List Member} → SpellsMoreMembers ts rest ms → length rest ≤ length ts
  more_members_shorter types.no_member = omega arith
  more_members_shorter (types.member s m) = omega (arith, single_shorter s, more_members_shorter m)

pub type_end_shorter : {ts rest : List Lexeme} {b : Bool} {ms : List Member} → SpellsTypeEnd ts rest b ms → length rest ≤ length ts
type_end_shorter types.list = omega arith
type_end_shorter (types.union m) = omega (arith, more_members_shorter m)

pub attribute_shorter : {ts rest : List Lexeme} {a : Attribute} → SpellsAttribute ts rest a → length rest < length ts
attribute_shorter (types.attribute q s t e) = omega (arith, may_shorter q, single_shorter s, type_end_shorter t, may_shorter e)

pub attributes_shorter : {ts rest : List Lexeme} {all : List Attribute} → SpellsAttributes ts rest all → length rest ≤ length ts
attributes_shorter types.no_attribute = omega arith
attributes_shorter (types.attribute_and a m) = omega (arith, attribute_shorter a, attributes_shorter m)

pub interface_shorter : {ts rest : List Lexeme} {i : Interface} → SpellsInterface ts rest i → length rest < length ts
interface_shorter (types.interface a m e) = omega (arith, above_shorter a, attributes_shorter m, may_shorter e)

pub union_shorter : {ts rest : List Lexeme} {u : UnionDef} → SpellsUnion ts rest u → length rest < length ts
union_shorter (types.union_of m e) = omega (arith, members_shorter m, may_shorter e)

-- ---- parser rules

pub cross_rule_shorter : {ts rest : List Lexeme} {r : Option (List ℕ)} → SpellsCrossRule ts rest r → length rest ≤ length ts
cross_rule_shorter rules.by_name = omega arith
cross_rule_shorter rules.behind_colon = omega arith
cross_rule_shorter rules.behind_bar = omega arith

mutual
  pub value_shorter : {ts rest : List Lexeme} {v : Value0} {s : Span} → SpellsValue ts rest v s → length rest < length ts
  value_shorter rules.string = omega arith
  value_shorter rules.call = omega arith
  value_shorter (rules.cross r) = omega (arith, cross_rule_shorter r)
  value_shorter (rules.inside m) = omega (arith, values_shorter m)

  pub values_shorter : {ts rest : List Lexeme} {vs : List Value0} → SpellsValues ts rest vs → length rest < length ts
  values_shorter (rules.values v m) = omega (arith, value_shorter v, more_values_shorter m)

  pub more_values_shorter : {ts rest : List Lexeme} {vs : List Value0} → SpellsMoreValues ts rest vs → length rest ≤ length ts
  more_values_shorter rules.no_value = omega arith
  more_values_shorter (rules.value_and v m) = omega (arith, value_shorter v, more_values_shorter m)

pub action_type_shorter : {ts rest : List Lexeme} {b : Bool} {n : List ℕ} → SpellsActionType ts rest b n → length rest < length ts
action_type_shorter (rules.type_of i) = omega (arith, word_shorter i)

pub put_shorter : {ts rest : List Lexeme} {p : Option (List ℕ × Bool)} → SpellsPut ts rest p → length rest ≤ length ts
put_shorter rules.no_put = omega arith
put_shorter rules.put_one = omega arith
put_shorter rules.put_list = omega arith

pub action_shorter : {ts rest : List Lexeme} {a : Action} → SpellsAction ts rest a → length rest < length ts
action_shorter (rules.action t p) = omega (arith, action_type_shorter t, put_shorter p)

pub mark_shorter : {ts rest : List Lexeme} {e m : Element} {s : Span} → SpellsMark ts rest e s m → length rest ≤ length ts
mark_shorter rules.bare = omega arith
mark_shorter rules.maybe = omega arith
mark_shorter rules.many = omega arith
mark_shorter rules.some = omega arith

mutual
  pub part_shorter : {ts rest : List Lexeme} {e : Element} {s : Span} → SpellsPart ts rest e s → length rest < length ts
  part_shorter rules.keyword = omega arith
  part_shorter rules.calls = omega arith
  part_shorter (rules.assigns o v) = omega (arith, value_shorter v)
  part_shorter (rules.enclosed c) = omega (arith, choice_shorter c)

  pub element_shorter : {ts rest : List Lexeme} {e : Element} → SpellsElement ts rest e → length rest < length ts
  element_shorter (rules.part p m) = omega (arith, part_shorter p, mark_shorter m)
  element_shorter (rules.acts a) = omega (arith, action_shorter a)

  pub more_elements_shorter : {ts rest : List Lexeme} {es : List Element} → SpellsMoreElements ts rest es → length rest ≤ length ts
  more_elements_shorter rules.no_element = omega arith
  more_elements_shorter (rules.element_and e m) = omega (arith, element_shorter e, more_elements_shorter m)

  pub row_shorter : {ts rest : List Lexeme} {e : Element} → SpellsRow ts rest e → length rest < length ts
  row_shorter (rules.row e m) = omega (arith, element_shorter e, more_elements_shorter m)

  pub more_rows_shorter : {ts rest : List Lexeme} {es : List Element} → SpellsMoreRows ts rest es → length rest ≤ length ts
  more_rows_shorter rules.no_row = omega arith
  more_rows_shorter (rules.row_and r m) = omega (arith, row_shorter r, more_rows_shorter m)

  pub choice_shorter : {ts rest : List Lexeme} {e : Element} → SpellsChoice ts rest e → length rest < length ts
  choice_shorter (rules.choice r m) = omega (arith, row_shorter r, more_rows_shorter m)

pub result_shorter : {ts rest : List Lexeme} {r : RuleResult} → SpellsResult ts rest r → length rest ≤ length ts
result_shorter rules.own = omega arith
result_shorter rules.returns = omega arith
result_shorter (rules.gives e) = omega arith
result_shorter rules.infers = omega arith

pub rule_shorter : {ts rest : List Lexeme} {r : Rule} → SpellsRule ts rest r → length rest < length ts
rule_shorter (rules.rule e f r c) = omega (arith, word_shorter e, word_shorter f, result_shorter r, choice_shorter c)

-- ---- terminals

pub term_mark_shorter : {ts rest : List Lexeme} {e m : TermElement} → SpellsTermMark ts rest e m → length rest ≤ length ts
term_mark_shorter terms.bare = omega arith
term_mark_shorter terms.maybe = omega arith
term_mark_shorter terms.many = omega arith
term_mark_shorter terms.some = omega arith

mutual
  pub term_part_shorter : {ts rest : List Lexeme} {e : TermElement} → SpellsTermPart ts rest e → length rest < length ts
  term_part_shorter terms.literal = omega arith
  term_part_shorter terms.range = omega arith
  term_part_shorter terms.pattern_ = omega arith
  term_part_shorter terms.calls = omega arith
  term_part_shorter (terms.enclosed c) = omega (arith, term_choice_shorter c)

  pub term_shorter : {ts rest : List Lexeme} {e : TermElement} → SpellsTerm ts rest e → length rest < length ts
  term_shorter (terms.term p m) = omega (arith, term_part_shorter p, term_mark_shorter m)

  pub more_terms_shorter : {ts rest : List Lexeme} {es : List TermElement} → SpellsMoreTerms ts rest es → length rest ≤ length ts
  more_terms_shorter terms.no_term = omega arith
  more_terms_shorter (terms.term_and e m) = omega (arith, term_shorter e, more_terms_shorter m)

  pub term_row_shorter : {ts rest : List Lexeme} {e : TermElement} → SpellsTermRow ts rest e → length rest < length ts
  term_row_shorter (terms.row e m) = omega (arith, term_shorter e, more_terms_shorter m)

  pub more_term_rows_shorter : {ts rest : List Lexeme} {es : List TermElement} → SpellsMoreTermRows ts rest es → length rest ≤ length ts
  more_term_rows_shorter terms.no_row = omega arith
  more_term_rows_shorter (terms.row_and r m) = omega (arith, term_row_shorter r, more_term_rows_shorter m)

  pub term_choice_shorter : {ts rest : List Lexeme} {e : TermElement} → SpellsTermChoice ts rest e → length rest < length ts
  term_choice_shorter (terms.choice r m) = omega (arith, term_row_shorter r, more_term_rows_shorter m)

pub head_shorter : {ts rest : List Lexeme} {n : List ℕ} {s : Span} {b : Bool} {p : Primitive} → SpellsTermHead ts rest n s b p → length rest < length ts
head_shorter terms.fragment = omega arith
head_shorter terms.token = omega arith
head_shorter (terms.gives e) = omega arith

pub terminal_shorter : {hidden : Bool} {ts rest : List Lexeme} {t : Terminal} → SpellsTerminal hidden ts rest t → length rest < length ts
terminal_shorter (terms.terminal h c) = omega (arith, head_shorter h, term_choice_shorter c)

-- ---- files

pub grammar_name_shorter : {ts rest : List Lexeme} {n : List ℕ} → SpellsGrammarName ts rest n → length rest ≤ length ts
grammar_name_shorter syntax.unnamed = omega arith
grammar_name_shorter syntax.named = omega arith

pub imports_shorter : {ts rest : List Lexeme} {is : List Import} → SpellsImports ts rest is → length rest ≤ length ts
imports_shorter syntax.no_import = omega arith
imports_shorter (syntax.import_and e m) = omega (arith, may_shorter e, imports_shorter m)

pub item_shorter : {ts rest : List Lexeme} {i : Item} → SpellsItem ts rest i → length rest < length ts
item_shorter (syntax.interface i) = omega (arith, interface_shorter i)
item_shorter (syntax.union_type u) = omega (arith, union_shorter u)
item_shorter (syntax.rule r) = omega (arith, rule_shorter r)
item_shorter (syntax.terminal t) = omega (arith, terminal_shorter t)
item_shorter (syntax.hidden_terminal t) = omega (arith, terminal_shorter t)
