-- Two grammars that are written out: one whose ways no look-ahead tells apart, and one whose ways the second kind does. Of both, and of
-- `two_ways` of lw_grammar::sentences, the laws say for which k they are LL(k).
use Rattle.std.specs.Prelude.{ℕ, List, [], ◌∷◌, true, false, codes}
use Rattle.lw_grammar.specs.declared.grammar.Grammar.{Grammar}
use Rattle.lw_grammar.specs.declared.rule.Rule.{Rule}
use Rattle.lw_grammar.specs.declared.rule.Op.TheVariants.{One}
use Rattle.lw_grammar.specs.declared.rule.Element.{Element}
use Rattle.lw_grammar.specs.declared.rule.Element.TheVariants.{Assign, Group, Choice}
use Rattle.lw_grammar.specs.declared.rule.Value0.TheVariants as value
use Rattle.lw_grammar.specs.Kinds.{Kinds}
use Rattle.lw_grammar.specs.Worked.{nowhere, word, named_rule, id_call, id_terminal, rules_alone}

-- ---- two equal ways: grammar C entry A: x=ID | y=ID; terminal ID: /[_a-zA-Z][\w_]*/;

-- `p=ID`
abbrev pub id_into : List ℕ → Element
id_into p = Assign p One id_call nowhere

abbrev pub equal_parts : List Element
equal_parts = id_into (codes "x") ∷ id_into (codes "y") ∷ []

abbrev pub equal_rule : Rule
equal_rule = named_rule (codes "A") true false (Choice equal_parts nowhere)

abbrev pub equal_ways : Grammar
equal_ways = rules_alone (codes "C") (equal_rule ∷ []) (id_terminal ∷ [])

-- ---- two ways that begin alike: grammar P entry A: 'a' x='b' | 'a' y='c';

-- `p='text'`
abbrev pub word_into : List ℕ → List ℕ → Element
word_into p text = Assign p One (value.Keyword text nowhere) nowhere

-- `'a' p='text'`
abbrev pub common_row : List ℕ → List ℕ → List Element
common_row p text = word (codes "a") ∷ word_into p text ∷ []

abbrev pub common_parts : List Element
common_parts = Group (common_row (codes "x") (codes "b")) nowhere ∷ Group (common_row (codes "y") (codes "c")) nowhere ∷ []

abbrev pub common_rule : Rule
common_rule = named_rule (codes "A") true false (Choice common_parts nowhere)

abbrev pub common_start : Grammar
common_start = rules_alone (codes "P") (common_rule ∷ []) []

-- its keywords, in the order of their first use
abbrev pub common_kinds : Kinds
common_kinds = record { keywords = codes "a" ∷ codes "b" ∷ codes "c" ∷ []; terminals = [] }
