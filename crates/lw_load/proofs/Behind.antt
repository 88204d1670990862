-- What is left behind a thing that was spelled begins further on than the tokens of the thing, and the name of a rule, a terminal or a
-- type is one of these.
use Rattle.std.proofs.Common.{ℕ, suc, ◌≤◌, List, ◌∷◌, Bool, Option}
use Rattle.lw_base.specs.declared.token.Span.{Span}
use Rattle.lw_grammar.specs.declared.grammar.Import.{Import}
use Rattle.lw_grammar.specs.declared.declared_types.Interface.{Interface}
use Rattle.lw_grammar.specs.declared.declared_types.Attribute.{Attribute}
use Rattle.lw_grammar.specs.declared.declared_types.UnionDef.{UnionDef}
use Rattle.lw_grammar.specs.declared.declared_types.Member.{Member}
use Rattle.lw_grammar.specs.declared.rule.Rule.{Rule}
use Rattle.lw_grammar.specs.declared.rule.RuleResult.{RuleResult}
use Rattle.lw_grammar.specs.declared.rule.Element.{Element}
use Rattle.lw_grammar.specs.declared.rule.Value0.{Value0}
use Rattle.lw_grammar.specs.declared.rule.Action.{Action}
use Rattle.lw_grammar.specs.declared.terminal.Primitive.{Primitive}
use Rattle.lw_grammar.specs.declared.terminal.Terminal.{Terminal}
use Rattle.lw_grammar.specs.declared.terminal.TermElement.{TermElement}
use Rattle.lw_gramlex.specs.declared.token.Symbol.{Symbol}
use Rattle.lw_gramread.specs.declared.lexeme.Reserved.{Reserved}
use Rattle.lw_gramread.specs.declared.lexeme.Lexeme.{Lexeme}
use Rattle.lw_gramread.specs.declared.lexeme.Lexeme.TheVariants.{Word}
use Rattle.lw_gramread.specs.OptionalTokens.{MayTake, MayTakeWord}
use Rattle.lw_gramread.specs.DeclaredTypes as types
use Rattle.lw_gramread.specs.DeclaredTypes.{SpellsMoreNames, SpellsAbove, SpellsSingle, SpellsMembers, SpellsMoreMembers, SpellsTypeEnd, SpellsAttribute, SpellsAttributes, SpellsInterface, SpellsUnion}
use Rattle.lw_gramread.specs.ParserRules as rules
use Rattle.lw_gramread.specs.ParserRules.{SpellsCrossRule, SpellsValue, SpellsValues, SpellsMoreValues, SpellsActionType, SpellsPut, SpellsAction, SpellsMark, SpellsPart, SpellsElement, SpellsMoreElements, SpellsRow, SpellsMoreRows, SpellsChoice, SpellsResult, SpellsRule}
use Rattle.lw_gramread.specs.TerminalRules as terms
use Rattle.lw_gramread.specs.TerminalRules.{SpellsTermMark, SpellsTermPart, SpellsTerm, SpellsMoreTerms, SpellsTermRow, SpellsMoreTermRows, SpellsTermChoice, SpellsTermHead, SpellsTerminal}
use Rattle.lw_gramread.specs.Syntax as syntax
use Rattle.lw_gramread.specs.Syntax.{SpellsGrammarName, SpellsImports}
use Rattle.lw_load.proofs.Rising.{Rises, later}

-- a name stands at this place, not before `low`, and the tokens begin behind its start
abbrev pub IsNamed : ℕ → Span → List Lexeme → Type 0
IsNamed low s ts = (low ≤ s.start) × Rises (suc s.start) ts

name_first : {low : ℕ} {n : List ℕ} {r : Option Reserved} {s : Span} {ts : List Lexeme} → Rises low (Word n r s ∷ ts) → IsNamed low s ts
name_first (Rises.more from after) = (from, after)

may_behind : {low : ℕ} {x : Symbol} {ts rest : List Lexeme} {b : Bool} → MayTake x ts rest b → Rises low ts → Rises low rest
may_behind MayTake.left_out h = h
may_behind MayTake.there h = later h

word_behind : {low : ℕ} {r : Reserved} {ts rest : List Lexeme} {b : Bool} → MayTakeWord r ts rest b → Rises low ts → Rises low rest
word_behind MayTakeWord.left_out h = h
word_behind MayTakeWord.there h = later h

-- ---- declared types

more_names_behind : {low : ℕ} {ts rest : List Lexeme} {names : List (List ℕ × Span)} → SpellsMoreNames ts rest names → Rises low ts → Rises low rest
more_names_behind types.none h = h
more_names_behind (types.more m) h = more_names_behind m (later (later h))

above_behind : {low : ℕ} {ts rest : List Lexeme} {names : List (List ℕ × Span)} → SpellsAbove ts rest names → Rises low ts → Rises low rest
above_behind types.nothing h = h
above_behind (types.extends m) h = more_names_behind m (later (later h))

mutual
  single_behind : {low : ℕ} {ts rest : List Lexeme} {ms : List Member} → SpellsSingle ts rest ms → Rises low ts → Rises low rest
  single_behind types.refers h = later (later h)
  single_behind types.named h = later h
  single_behind (types.plain e) h = later h
  single_behind types.literal h = later h
  single_behind (types.inside m) h = later (members_behind m (later h))

  members_behind : {low : ℕ} {ts rest : List Lexeme} {ms : List Member} → SpellsMembers ts rest ms → Rises low ts → Rises low rest
  members_behind (types.members s m) h = more_members_behind m (single_behind s h)

  more_members_behind : {low : ℕ} {ts rest : List Lexeme} {ms : List Member} → SpellsMoreMembers ts rest ms → Rises low ts → Rises low rest
  more_members_behind types.no_member h = h
  more_members_behind (types.member s m) h = more_members_behind m (single_behind s (later h))

type_end_behind : {low : ℕ} {ts rest : List Lexeme} {b : Bool} {ms : List Member} → SpellsTypeEnd ts rest b ms → Rises low ts → Rises low rest
type_end_behind types.list h = later (later h)
type_end_behind (types.union m) h = more_members_behind m h

attribute_behind : {low : ℕ} {ts rest : List Lexeme} {a : Attribute} → SpellsAttribute ts rest a → Rises low ts → Rises low rest
attribute_behind (types.attribute q s t e) h = may_behind e (type_end_behind t (single_behind s (later (may_behind q (later h)))))

attributes_behind : {low : ℕ} {ts rest : List Lexeme} {all : List Attribute} → SpellsAttributes ts rest all → Rises low ts → Rises low rest
attributes_behind types.no_attribute h = h
attributes_behind (types.attribute_and a m) h = attributes_behind m (attribute_behind a h)

pub interface_named : {low : ℕ} {ts rest : List Lexeme} {i : Interface} → SpellsInterface ts rest i → Rises low ts → IsNamed low i.span rest
interface_named (types.interface a m e) h =
    let name = name_first h in (name.0, may_behind e (later (attributes_behind m (later (above_behind a name.1)))))

pub union_named : {low : ℕ} {ts rest : List Lexeme} {u : UnionDef} → SpellsUnion ts rest u → Rises low ts → IsNamed low u.span rest
union_named (types.union_of m e) h = let name = name_first h in (name.0, may_behind e (members_behind m (later name.1)))

-- ---- parser rules

cross_rule_behind : {low : ℕ} {ts rest : List Lexeme} {r : Option (List ℕ)} → SpellsCrossRule ts rest r → Rises low ts → Rises low rest
cross_rule_behind rules.by_name h = h
cross_rule_behind rules.behind_colon h = later (later h)
cross_rule_behind rules.behind_bar h = later (later h)

mutual
  value_behind : {low : ℕ} {ts rest : List Lexeme} {v : Value0} {s : Span} → SpellsValue ts rest v s → Rises low ts → Rises low rest
  value_behind rules.string h = later h
  value_behind rules.call h = later h
  value_behind (rules.cross r) h = later (cross_rule_behind r (later (later h)))
  value_behind (rules.inside m) h = later (values_behind m (later h))

  values_behind : {low : ℕ} {ts rest : List Lexeme} {vs : List Value0} → SpellsValues ts rest vs → Rises low ts → Rises low rest
  values_behind (rules.values v m) h = more_values_behind m (value_behind v h)

  more_values_behind : {low : ℕ} {ts rest : List Lexeme} {vs : List Value0} → SpellsMoreValues ts rest vs → Rises low ts → Rises low rest
  more_values_behind rules.no_value h = h
  more_values_behind (rules.value_and v m) h = more_values_behind m (value_behind v (later h))

action_type_behind : {low : ℕ} {ts rest : List Lexeme} {b : Bool} {n : List ℕ} → SpellsActionType ts rest b n → Rises low ts → Rises low rest
action_type_behind (rules.type_of i) h = later (word_behind i h)

put_behind : {low : ℕ} {ts rest : List Lexeme} {p : Option (List ℕ × Bool)} → SpellsPut ts rest p → Rises low ts → Rises low rest
put_behind rules.no_put h = h
put_behind rules.put_one h = later (later (later (later h)))
put_behind rules.put_list h = later (later (later (later h)))

action_behind : {low : ℕ} {ts rest : List Lexeme} {a : Action} → SpellsAction ts rest a → Rises low ts → Rises low rest
action_behind (rules.action t p) h = later (put_behind p (action_type_behind t (later h)))

mark_behind : {low : ℕ} {ts rest : List Lexeme} {e m : Element} {s : Span} → SpellsMark ts rest e s m → Rises low ts → Rises low rest
mark_behind rules.bare h = h
mark_behind rules.maybe h = later h
mark_behind rules.many h = later h
mark_behind rules.some h = later h

mutual
  part_behind : {low : ℕ} {ts rest : List Lexeme} {e : Element} {s : Span} → SpellsPart ts rest e s → Rises low ts → Rises low rest
  part_behind rules.keyword h = later h
  part_behind rules.calls h = later h
  part_behind (rules.assigns o v) h = value_behind v (later (later h))
  part_behind (rules.enclosed c) h = later (choice_behind c (later h))

  element_behind : {low : ℕ} {ts rest : List Lexeme} {e : Element} → SpellsElement ts rest e → Rises low ts → Rises low rest
  element_behind (rules.part p m) h = mark_behind m (part_behind p h)
  element_behind (rules.acts a) h = action_behind a h

  more_elements_behind : {low : ℕ} {ts rest : List Lexeme} {es : List Element} → SpellsMoreElements ts rest es → Rises low ts → Rises low rest
  more_elements_behind rules.no_element h = h
  more_elements_behind (rules.element_and e m) h = more_elements_behind m (element_behind e h)

  row_behind : {low : ℕ} {ts rest : List Lexeme} {e : Element} → SpellsRow ts rest e → Rises low ts → Rises low rest
  row_behind (rules.row e m) h = more_elements_behind m (element_behind e h)

  more_rows_behind : {low : ℕ} {ts rest : List Lexeme} {es : List Element} → SpellsMoreRows ts rest es → Rises low ts → Rises low rest
  more_rows_behind rules.no_row h = h
  more_rows_behind (rules.row_and r m) h = more_rows_behind m (row_behind r (later h))

  choice_behind : {low : ℕ} {ts rest : List Lexeme} {e : Element} → SpellsChoice ts rest e → Rises low ts → Rises low rest
  choice_behind (rules.choice r m) h = more_rows_behind m (row_behind r h)

result_behind : {low : ℕ} {ts rest : List Lexeme} {r : RuleResult} → SpellsResult ts rest r → Rises low ts → Rises low rest
result_behind rules.own h = h
result_behind rules.returns h = later (later h)
result_behind (rules.gives e) h = later (later h)
result_behind rules.infers h = later (later h)

pub rule_named : {low : ℕ} {ts rest : List Lexeme} {r : Rule} → SpellsRule ts rest r → Rises low ts → IsNamed low r.span rest
rule_named (rules.rule e f r c) h =
    let name = name_first (word_behind f (word_behind e h)) in (name.0, later (choice_behind c (later (result_behind r name.1))))

-- ---- terminals

term_mark_behind : {low : ℕ} {ts rest : List Lexeme} {e m : TermElement} → SpellsTermMark ts rest e m → Rises low ts → Rises low rest
term_mark_behind terms.bare h = h
term_mark_behind terms.maybe h = later h
term_mark_behind terms.many h = later h
term_mark_behind terms.some h = later h

mutual
  term_part_behind : {low : ℕ} {ts rest : List Lexeme} {e : TermElement} → SpellsTermPart ts rest e → Rises low ts → Rises low rest
  term_part_behind terms.literal h = later h
  term_part_behind terms.range h = later (later (later h))
  term_part_behind terms.pattern_ h = later h
  term_part_behind terms.calls h = later h
  term_part_behind (terms.enclosed c) h = later (term_choice_behind c (later h))

  term_behind : {low : ℕ} {ts rest : List Lexeme} {e : TermElement} → SpellsTerm ts rest e → Rises low ts → Rises low rest
  term_behind (terms.term p m) h = term_mark_behind m (term_part_behind p h)

  more_terms_behind : {low : ℕ} {ts rest : List Lexeme} {es : List TermElement} → SpellsMoreTerms ts rest es → Rises low ts → Rises low rest
  more_terms_behind terms.no_term h = h
  more_terms_behind (terms.term_and e m) h = more_terms_behind m (term_behind e h)

  term_row_behind : {low : ℕ} {ts rest : List Lexeme} {e : TermElement} → SpellsTermRow ts rest e → Rises low ts → Rises low rest
  term_row_behind (terms.row e m) h = more_terms_behind m (term_behind e h)

  more_term_rows_behind : {low : ℕ} {ts rest : List Lexeme} {es : List TermElement} → SpellsMoreTermRows ts rest es → Rises low ts → Rises low rest
  more_term_rows_behind terms.no_row h = h
  more_term_rows_behind (terms.row_and r m) h = more_term_rows_behind m (term_row_behind r (later h))

  term_choice_behind : {low : ℕ} {ts rest : List Lexeme} {e : TermElement} → SpellsTermChoice ts rest e → Rises low ts → Rises low rest
  term_choice_behind (terms.choice r m) h = more_term_rows_behind m (term_row_behind r h)

head_named : {low : ℕ} {ts rest : List Lexeme} {n : List ℕ} {s : Span} {b : Bool} {p : Primitive} → SpellsTermHead ts rest n s b p → Rises low ts → IsNamed low s rest
head_named terms.fragment h = name_first (later h)
head_named terms.token h = name_first h
head_named (terms.gives e) h = let name = name_first h in (name.0, later (later name.1))

pub terminal_named : {low : ℕ} {hidden : Bool} {ts rest : List Lexeme} {t : Terminal} → SpellsTerminal hidden ts rest t → Rises low ts → IsNamed low t.span rest
terminal_named (terms.terminal d c) h = let name = head_named d h in (name.0, later (term_choice_behind c (later name.1)))

-- ---- files

pub grammar_name_behind : {low : ℕ} {ts rest : List Lexeme} {n : List ℕ} → SpellsGrammarName ts rest n → Rises low ts → Rises low rest
grammar_name_behind syntax.unnamed h = h
grammar_name_behind syntax.named h = later (later h)

pub imports_behind : {low : ℕ} {ts rest : List Lexeme} {is : List Import} → SpellsImports ts rest is → Rises low ts → Rises low rest
imports_behind syntax.no_import h = h
imports_behind (syntax.import_and e m) h = imports_behind m (may_behind e (later (later h)))
