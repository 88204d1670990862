-- What parser rules spell is read again as it is.
use Rattle.std.proofs.Common.{ℕ, zero, suc, ◌≡◌, ◌≤◌, Bool, true, false, List, [], ◌∷◌, length, Option, None, Ok, refl, arith}
use Rattle.lw_base.specs.declared.token.Span.{Span}
use Rattle.lw_grammar.specs.declared.rule.Rule.{Rule}
use Rattle.lw_grammar.specs.declared.rule.RuleResult.{RuleResult}
use Rattle.lw_grammar.specs.declared.rule.Element.{Element}
use Rattle.lw_grammar.specs.declared.rule.Value0.{Value0}
use Rattle.lw_grammar.specs.declared.rule.Action.{Action}
use Rattle.lw_gramlex.specs.declared.token.Symbol.TheVariants as sign
use Rattle.lw_gramread.specs.declared.lexeme.Reserved.TheVariants as word
use Rattle.lw_gramread.specs.declared.lexeme.Lexeme.{Lexeme}
use Rattle.lw_gramread.specs.declared.lexeme.Lexeme.TheVariants.{Word, Sign}
use Rattle.lw_gramread.specs.OptionalTokens.{MayTakeWord}
use Rattle.lw_gramread.specs.ParserRules as rules
use Rattle.lw_gramread.specs.ParserRules.{SpellsCrossRule, SpellsValue, SpellsValues, SpellsMoreValues, SpellsActionType, SpellsPut, SpellsAction, SpellsMark, SpellsPart, SpellsElement, SpellsMoreElements, SpellsRow, SpellsMoreRows, SpellsChoice, SpellsResult, SpellsRule}
use Rattle.lw_gramread.specs.Steps.{◌>>◌, sees, sees_reserved, same_symbol, same_reserved, next_operator, skip, symbol, reserved, free_word, feature, text, primitive, gathered, one}
use Rattle.lw_gramread.specs.ValueSteps.{rule_of_cross, cross_reference, plain_value, value_in, bare_value, values, values_inside}
use Rattle.lw_gramread.specs.ElementSteps.{put_operator, put_of, action_behind, action, marked, begins_element, assigned, word_part, plain_part, part_in, element_in, elements, row, rows, choice, choice_inside}
use Rattle.lw_gramread.specs.RuleSteps.{returned, rule_result, rule_tail, rule_behind, rule}
use Rattle.lw_gramread.proofs.Shorter.{word_shorter, value_shorter, element_shorter, row_shorter, result_shorter}
use Rattle.lw_gramread.proofs.AgainTypes.{word_again, gathered_none, gathered_more, first_again, one_again}

-- ---- values

cross_rule_again : {c : Span} {ts us : List Lexeme} {r : Option (List ℕ)} → SpellsCrossRule ts (Sign sign.CloseBracket c ∷ us) r →
    rule_of_cross ts ≡ Ok (r, Sign sign.CloseBracket c ∷ us)
unfolding rule_of_cross free_word same_symbol
cross_rule_again rules.by_name = refl
cross_rule_again rules.behind_colon = refl
cross_rule_again rules.behind_bar = refl

mutual
  unfolding value_in plain_value cross_reference values values_inside symbol free_word text same_symbol

  pub value_again : {ts rest : List Lexeme} {v : Value0} {place : Span} → SpellsValue ts rest v place → (d : ℕ) → length ts ≤ d →
      value_in (values_inside d) ts ≡ Ok ((v, place), rest)
  value_again rules.string d le = refl
  value_again rules.call d le = refl
  value_again (rules.cross r) d le = rw (cross_rule_again r) refl
  value_again (rules.inside m) zero le = absurd (omega arith)
  value_again (rules.inside m) (suc d) le = rw (values_again m refl d (omega arith)) refl

  pub values_again : {ts rest : List Lexeme} {vs : List Value0} → SpellsValues ts rest vs → sees sign.Bar rest ≡ false → (d : ℕ) → length ts ≤ d →
      values (values_inside d) ts ≡ Ok (vs, rest)
  values_again (rules.values {ts} {mid} {rest} {v} {vs} x m) h d le =
      first_again (sees sign.Bar) (skip >> one (bare_value (values_inside d))) (bare_value (values_inside d)) v vs ts mid rest (rw (value_again x d le) refl)
      (more_values_again m h d (omega (arith, value_shorter x)) (length mid) (omega arith))

  pub more_values_again : {ts rest : List Lexeme} {vs : List Value0} → SpellsMoreValues ts rest vs → sees sign.Bar rest ≡ false → (d : ℕ) → length ts ≤ d →
      (n : ℕ) → length ts ≤ n → gathered (sees sign.Bar) (skip >> one (bare_value (values_inside d))) n ts ≡ Ok (vs, rest)
  more_values_again {ts} rules.no_value h d le n more = gathered_none (sees sign.Bar) (skip >> one (bare_value (values_inside d))) n ts h
  more_values_again (rules.value_and {b} {ts} {mid} {rest} {v} {vs} x m) h d le n more =
      gathered_more (sees sign.Bar) (skip >> one (bare_value (values_inside d))) n (Sign sign.Bar b ∷ ts) mid rest (v ∷ []) vs (omega arith) more refl
      (one_again (bare_value (values_inside d)) v ts mid (rw (value_again x d (omega arith)) refl))
      (λ k e. more_values_again m h d (omega (arith, value_shorter x)) k (omega (arith, value_shorter x)))

-- ---- actions and marks

put_again : {c : Span} {ts us : List Lexeme} {p : Option (List ℕ × Bool)} → SpellsPut ts (Sign sign.CloseBrace c ∷ us) p →
    put_of ts ≡ Ok (p, Sign sign.CloseBrace c ∷ us)
unfolding put_of put_operator reserved feature symbol same_symbol same_reserved
put_again rules.no_put = refl
put_again rules.put_one = refl
put_again rules.put_list = refl

pub action_again : {ts rest : List Lexeme} {a : Action} → SpellsAction ts rest a → action ts ≡ Ok (a, rest)
unfolding action action_behind free_word symbol same_symbol
action_again (rules.action (rules.type_of i) p) =
    let infer = word_again i refl in
    rw (infer.0, infer.1, put_again p) refl

-- what may not follow an element, since it would belong to it
pub record Unmarked (rest : List Lexeme) : Type 0 where
  pub no_question : sees sign.Question rest ≡ false
  pub no_star : sees sign.Star rest ≡ false
  pub no_plus : sees sign.Plus rest ≡ false
  pub no_operator : next_operator rest ≡ None

mark_again : {ts rest : List Lexeme} {e m : Element} {place : Span} → SpellsMark ts rest e place m → Unmarked rest → marked e place ts ≡ Ok (m, rest)
unfolding marked symbol same_symbol
mark_again rules.bare h = rw (h.no_question, h.no_star, h.no_plus) refl
mark_again rules.maybe h = refl
mark_again rules.many h = refl
mark_again rules.some h = refl

mark_no_operator : {ts rest : List Lexeme} {e m : Element} {place : Span} → SpellsMark ts rest e place m → Unmarked rest → next_operator ts ≡ None
mark_no_operator rules.bare h = h.no_operator
mark_no_operator rules.maybe h = refl
mark_no_operator rules.many h = refl
mark_no_operator rules.some h = refl

-- ---- elements

action_brace : {ts rest : List Lexeme} {a : Action} → SpellsAction ts rest a → sees sign.OpenBrace ts ≡ true
unfolding same_symbol
action_brace (rules.action t p) = refl

part_no_brace : {ts rest : List Lexeme} {e : Element} {place : Span} → SpellsPart ts rest e place → sees sign.OpenBrace ts ≡ false
unfolding same_symbol
part_no_brace rules.keyword = refl
part_no_brace rules.calls = refl
part_no_brace (rules.assigns o v) = refl
part_no_brace (rules.enclosed c) = refl

part_unmarked : {ts rest : List Lexeme} {e : Element} {place : Span} → SpellsPart ts rest e place → Unmarked ts
unfolding same_symbol
part_unmarked rules.keyword = record { no_question = refl; no_star = refl; no_plus = refl; no_operator = refl }
part_unmarked rules.calls = record { no_question = refl; no_star = refl; no_plus = refl; no_operator = refl }
part_unmarked (rules.assigns o v) = record { no_question = refl; no_star = refl; no_plus = refl; no_operator = refl }
part_unmarked (rules.enclosed c) = record { no_question = refl; no_star = refl; no_plus = refl; no_operator = refl }

part_begins : {ts rest : List Lexeme} {e : Element} {place : Span} → SpellsPart ts rest e place → begins_element ts ≡ true
unfolding same_symbol
part_begins rules.keyword = refl
part_begins rules.calls = refl
part_begins (rules.assigns o v) = refl
part_begins (rules.enclosed c) = refl

element_unmarked : {ts rest : List Lexeme} {e : Element} → SpellsElement ts rest e → Unmarked ts
unfolding same_symbol
element_unmarked (rules.part p m) = part_unmarked p
element_unmarked (rules.acts (rules.action t p)) = record { no_question = refl; no_star = refl; no_plus = refl; no_operator = refl }

element_begins : {ts rest : List Lexeme} {e : Element} → SpellsElement ts rest e → begins_element ts ≡ true
unfolding same_symbol
element_begins (rules.part p m) = part_begins p
element_begins (rules.acts (rules.action t p)) = refl

-- what may not follow a row, and a choice
pub record EndsRow (rest : List Lexeme) : Type 0 where
  pub unmarked : Unmarked rest
  pub no_element : begins_element rest ≡ false

pub record EndsChoice (rest : List Lexeme) : Type 0 where
  pub no_bar : sees sign.Bar rest ≡ false
  pub ends_row : EndsRow rest

more_unmarked : {ts rest : List Lexeme} {es : List Element} → SpellsMoreElements ts rest es → Unmarked rest → Unmarked ts
more_unmarked rules.no_element h = h
more_unmarked (rules.element_and e m) h = element_unmarked e

more_ends_row : {ts rest : List Lexeme} {es : List Element} → SpellsMoreRows ts rest es → EndsRow rest → EndsRow ts
unfolding same_symbol
more_ends_row rules.no_row h = h
more_ends_row (rules.row_and r m) h = record { unmarked = record { no_question = refl; no_star = refl; no_plus = refl; no_operator = refl }; no_element = refl }

closed : {c : Span} {us : List Lexeme} → EndsChoice (Sign sign.CloseParenthesis c ∷ us)
unfolding same_symbol
closed = record { no_bar = refl; ends_row = record { unmarked = record { no_question = refl; no_star = refl; no_plus = refl; no_operator = refl }; no_element = refl } }

ended : {c : Span} {us : List Lexeme} → EndsChoice (Sign sign.Semicolon c ∷ us)
unfolding same_symbol
ended = record { no_bar = refl; ends_row = record { unmarked = record { no_question = refl; no_star = refl; no_plus = refl; no_operator = refl }; no_element = refl } }

mutual
  unfolding part_in plain_part word_part assigned element_in elements row rows choice choice_inside symbol feature text same_symbol

  pub part_again : {ts rest : List Lexeme} {e : Element} {place : Span} → SpellsPart ts rest e place → next_operator rest ≡ None → (d : ℕ) → length ts ≤ d →
      part_in (values_inside d) (choice_inside d) ts ≡ Ok ((e, place), rest)
  part_again rules.keyword h d le = refl
  part_again rules.calls h d le = rw h refl
  part_again (rules.assigns rules.one v) h d le = rw (value_again v d (omega arith)) refl
  part_again (rules.assigns rules.add v) h d le = rw (value_again v d (omega arith)) refl
  part_again (rules.assigns rules.flag v) h d le = rw (value_again v d (omega arith)) refl
  part_again (rules.enclosed c) h zero le = absurd (omega arith)
  part_again (rules.enclosed c) h (suc d) le = rw (choice_again c closed d (omega arith)) refl

  pub element_again : {ts rest : List Lexeme} {e : Element} → SpellsElement ts rest e → Unmarked rest → (d : ℕ) → length ts ≤ d →
      element_in (values_inside d) (choice_inside d) ts ≡ Ok (e, rest)
  element_again (rules.part {ts} {mid} {rest} {e} {m = marked_as} {place} p m) h d le =
      let read : part_in (values_inside d) (choice_inside d) ts ≡ Ok ((e, place), mid) = part_again p (mark_no_operator m h) d le in
      let mark : marked e place mid ≡ Ok (marked_as, rest) = mark_again m h in
      rw (part_no_brace p, read, mark) refl
  element_again (rules.acts a) h d le = rw (action_brace a, action_again a) refl

  pub more_elements_again : {ts rest : List Lexeme} {es : List Element} → SpellsMoreElements ts rest es → EndsRow rest → (d : ℕ) → length ts ≤ d →
      (n : ℕ) → length ts ≤ n → gathered begins_element (one (element_in (values_inside d) (choice_inside d))) n ts ≡ Ok (es, rest)
  more_elements_again {ts} rules.no_element h d le n more =
      gathered_none begins_element (one (element_in (values_inside d) (choice_inside d))) n ts h.no_element
  more_elements_again (rules.element_and {ts} {mid} {rest} {e} {es} x m) h d le n more =
      gathered_more begins_element (one (element_in (values_inside d) (choice_inside d))) n ts mid rest (e ∷ []) es (omega (arith, element_shorter x)) more (element_begins x)
      (one_again (element_in (values_inside d) (choice_inside d)) e ts mid (element_again x (more_unmarked m h.unmarked) d le))
      (λ k q. more_elements_again m h d (omega (arith, element_shorter x)) k (omega (arith, element_shorter x)))

  pub row_again : {ts rest : List Lexeme} {e : Element} → SpellsRow ts rest e → EndsRow rest → (d : ℕ) → length ts ≤ d →
      row (values_inside d) (choice_inside d) ts ≡ Ok (e, rest)
  row_again (rules.row {ts} {mid} {rest} {e} {es} x m) h d le =
      rw (first_again begins_element (one (element_in (values_inside d) (choice_inside d))) (element_in (values_inside d) (choice_inside d)) e es ts mid rest
      (element_again x (more_unmarked m h.unmarked) d le) (more_elements_again m h d (omega (arith, element_shorter x)) (length mid) (omega arith))) refl

  pub more_rows_again : {ts rest : List Lexeme} {es : List Element} → SpellsMoreRows ts rest es → EndsChoice rest → (d : ℕ) → length ts ≤ d →
      (n : ℕ) → length ts ≤ n → gathered (sees sign.Bar) (skip >> one (row (values_inside d) (choice_inside d))) n ts ≡ Ok (es, rest)
  more_rows_again {ts} rules.no_row h d le n more =
      gathered_none (sees sign.Bar) (skip >> one (row (values_inside d) (choice_inside d))) n ts h.no_bar
  more_rows_again (rules.row_and {b} {ts} {mid} {rest} {e} {es} x m) h d le n more =
      gathered_more (sees sign.Bar) (skip >> one (row (values_inside d) (choice_inside d))) n (Sign sign.Bar b ∷ ts) mid rest (e ∷ []) es (omega arith) more refl
      (one_again (row (values_inside d) (choice_inside d)) e ts mid (row_again x (more_ends_row m h.ends_row) d (omega arith)))
      (λ k q. more_rows_again m h d (omega (arith, row_shorter x)) k (omega (arith, row_shorter x)))

  pub choice_again : {ts rest : List Lexeme} {e : Element} → SpellsChoice ts rest e → EndsChoice rest → (d : ℕ) → length ts ≤ d →
      choice (values_inside d) (choice_inside d) ts ≡ Ok (e, rest)
  choice_again (rules.choice {ts} {mid} {rest} {e} {es} x m) h d le =
      rw (first_again (sees sign.Bar) (skip >> one (row (values_inside d) (choice_inside d))) (row (values_inside d) (choice_inside d)) e es ts mid rest
      (row_again x (more_ends_row m h.ends_row) d le) (more_rows_again m h d (omega (arith, row_shorter x)) (length mid) (omega arith))) refl

-- ---- rules

result_again : {c : Span} {ts us : List Lexeme} {r : RuleResult} → SpellsResult ts (Sign sign.Colon c ∷ us) r → rule_result ts ≡ Ok (r, Sign sign.Colon c ∷ us)
unfolding rule_result returned free_word primitive same_reserved
result_again rules.own = refl
result_again rules.returns = refl
result_again (rules.gives e) = rw e refl
result_again rules.infers = refl

fragment_no_entry : {n : List ℕ} {s : Span} {ts us : List Lexeme} {b : Bool} → MayTakeWord word.Fragment ts (Word n None s ∷ us) b → sees_reserved word.Entry ts ≡ false
unfolding same_reserved
fragment_no_entry MayTakeWord.left_out = refl
fragment_no_entry MayTakeWord.there = refl

pub rule_again : {ts rest : List Lexeme} {r : Rule} → SpellsRule ts rest r → (d : ℕ) → length ts ≤ d → rule d ts ≡ Ok (r, rest)
unfolding rule rule_behind rule_tail free_word symbol same_symbol
rule_again (rules.rule e f r c) d le =
    let entry = word_again e (fragment_no_entry f) in
    let fragment = word_again f refl in
    rw (entry.0, entry.1, fragment.0, fragment.1, result_again r, choice_again c ended d (omega (arith, word_shorter e, word_shorter f, result_shorter r))) refl
