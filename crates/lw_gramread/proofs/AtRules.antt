-- Parser rules as they are read, beside the stack.
use Rattle.std.proofs.Common.{ℕ, zero, suc, ◌≡◌, ◌<◌, Bool, true, false, not, ◌&&◌, cond, List, [], ◌∷◌, ◌++◌, length, Option, Some, None, refl, sym, ap, ◌∙◌, subst, arith}
use Rattle.lw_base.specs.declared.token.Span.{Span}
use Rattle.lw_grammar.specs.declared.rule.RuleResult.{RuleResult}
use Rattle.lw_grammar.specs.declared.rule.RuleResult.TheVariants as result
use Rattle.lw_grammar.specs.declared.rule.Element.{Element}
use Rattle.lw_grammar.specs.declared.rule.Element.TheVariants as element
use Rattle.lw_grammar.specs.declared.rule.Op.{Op}
use Rattle.lw_grammar.specs.declared.rule.Value0.{Value0}
use Rattle.lw_grammar.specs.declared.rule.Value0.TheVariants as value
use Rattle.lw_grammar.specs.declared.terminal.Primitive.{Primitive}
use Rattle.lw_gramlex.specs.declared.token.Symbol.{Symbol}
use Rattle.lw_gramlex.specs.declared.token.Symbol.TheVariants as sign
use Rattle.lw_gramread.specs.declared.lexeme.Reserved.{Reserved}
use Rattle.lw_gramread.specs.declared.lexeme.Reserved.TheVariants as word
use Rattle.lw_gramread.specs.declared.lexeme.Lexeme.{Lexeme}
use Rattle.lw_gramread.specs.declared.lexeme.Lexeme.TheVariants.{Word, Text, Regex, Flagged, Sign, Other}
use Rattle.lw_gramread.specs.declared.reader.left.Spot.TheVariants as spot
use Rattle.lw_gramread.specs.Lexemes.{primitive_of}
use Rattle.lw_gramread.specs.OptionalTokens.{MayTakeWord}
use Rattle.lw_gramread.specs.ParserRules as rules
use Rattle.lw_gramread.specs.ParserRules.{SpellsCrossRule, SpellsValue, SpellsValues, SpellsMoreValues, IsOperator, SpellsPut, SpellsAction, SpellsMark, SpellsPart, SpellsElement, SpellsMoreElements, SpellsRow, SpellsMoreRows, SpellsChoice, SpellsResult, SpellsRule}
use Rattle.lw_gramread.specs.Spans.{group_of, choice_of}
use Rattle.lw_gramread.specs.Steps.{◌>>=◌, ◌>>◌, sees, sees_reserved, next_operator, same_symbol, same_reserved, skip, takes_reserved, symbol, free_word, feature, text, primitive, all_of, one}
use Rattle.lw_gramread.specs.ValueSteps.{rule_of_cross, cross_reference, plain_value, value_in, bare_value, values, values_inside}
use Rattle.lw_gramread.specs.ElementSteps.{put_operator, put_of, action_behind, action, marked, begins_element, assigned, behind_word, word_part, plain_part, part_in, element_in, elements, row, rows, choice, choice_inside}
use Rattle.lw_gramread.specs.RuleSteps.{before_colon, returned, rule_result, rule_tail, rule_behind, rule}
use Rattle.lw_gramread.proofs.Shorter.{value_shorter, element_shorter, row_shorter}
use Rattle.lw_gramread.proofs.Machine.{Sym, Want, WantWord, WantName, WantFeature, Value, ValuesClose, CrossEnd, RowsEnd, RowsClose, Card, AfterWord, Operator, ActionType, PutEnd, PutOperator, RuleName, ResultColon, NameColon, TypedColon, Returned, AtItems, InRule, Verdict, Stuck, Deep, place}
use Rattle.lw_gramread.proofs.Machine as want
use Rattle.lw_gramread.proofs.At.{At, read, stuck, deep, along, bind, done, either_way, finish, Seen, comes, comes_not, seen, SeenWord, word_comes, word_comes_not, seen_word, wanted_at, symbol_at, name_at, feature_at, reserved_at, card_not, Turns, gathered_at}

-- ---- values

values_close : (d : ℕ) (others : List Sym) (ts : List Lexeme) → sees sign.Bar ts ≡ false →
    place d InRule (ValuesClose ∷ others) ts ≡ place d InRule (Want sign.CloseParenthesis ∷ others) ts
values_close d others [] h = refl
values_close d others (Word n r s ∷ ts) h = refl
values_close d others (Text v s ∷ ts) h = refl
values_close d others (Regex p s ∷ ts) h = refl
values_close d others (Flagged s ∷ ts) h = refl
values_close d others (Other s ∷ ts) h = refl
values_close d others (Sign y s ∷ ts) h = rw h refl

cross_close : (d : ℕ) (others : List Sym) (ts : List Lexeme) → sees sign.Colon ts ≡ false → sees sign.Bar ts ≡ false →
    place d InRule (CrossEnd ∷ others) ts ≡ place d InRule (Want sign.CloseBracket ∷ others) ts
cross_close d others [] h g = refl
cross_close d others (Word n r s ∷ ts) h g = refl
cross_close d others (Text v s ∷ ts) h g = refl
cross_close d others (Regex p s ∷ ts) h g = refl
cross_close d others (Flagged s ∷ ts) h g = refl
cross_close d others (Other s ∷ ts) h g = refl
cross_close d others (Sign y s ∷ ts) h g = rw (h, g) refl

module _ (d : ℕ) (others : List Sym) where
  cross_rule_at : (ts : List Lexeme) → At (place d InRule (CrossEnd ∷ others) ts) (place d InRule (Want sign.CloseBracket ∷ others)) (SpellsCrossRule ts) (rule_of_cross ts)
  unfolding rule_of_cross same_symbol
  cross_rule_at ts = by ts (seen sign.Colon ts) (seen sign.Bar ts)
    where
      by : (us : List Lexeme) → Seen sign.Colon us → Seen sign.Bar us → At (place d InRule (CrossEnd ∷ others) us) (place d InRule (Want sign.CloseBracket ∷ others)) (SpellsCrossRule us) (rule_of_cross us)
      by us (comes s vs) q = bind _ (name_at d InRule (Want sign.CloseBracket ∷ others) vs) (λ mid n h. done (Some n.0) mid (rw h rules.behind_colon))
      by us (comes_not g) (comes s vs) = bind _ (name_at d InRule (Want sign.CloseBracket ∷ others) vs) (λ mid n h. done (Some n.0) mid (rw h rules.behind_bar))
      by us (comes_not g) (comes_not h) = rw (g, h) (read None us (cross_close d others us g h) rules.by_name)

  unbracketed_at : (ts : List Lexeme) → sees sign.OpenParenthesis ts ≡ false → sees sign.OpenBracket ts ≡ false →
      At (place d InRule (Value ∷ others) ts) (place d InRule others) (λ rest v. SpellsValue ts rest v.0 v.1) (plain_value ts)
  unfolding plain_value text free_word
  unbracketed_at [] o h = stuck refl
  unbracketed_at (Word n None s ∷ ts) o h = read (value.Call n s, s) ts refl rules.call
  unbracketed_at (Word n (Some r) s ∷ ts) o h = stuck refl
  unbracketed_at (Text v s ∷ ts) o h = read (value.Keyword v s, s) ts refl rules.string
  unbracketed_at (Regex p s ∷ ts) o h = stuck refl
  unbracketed_at (Flagged s ∷ ts) o h = stuck refl
  unbracketed_at (Other s ∷ ts) o h = stuck refl
  unbracketed_at (Sign y s ∷ ts) o h = rw (o, h) (stuck refl)

  cross_at : (o : Span) (ts : List Lexeme) → At (place d InRule (WantName ∷ CrossEnd ∷ others) ts) (place d InRule others)
      (λ rest v. SpellsValue (Sign sign.OpenBracket o ∷ ts) rest v.0 v.1) (cross_reference (Sign sign.OpenBracket o ∷ ts))
  unfolding cross_reference symbol same_symbol
  cross_at o ts =
      bind _ (name_at d InRule (CrossEnd ∷ others) ts) (λ us n h.
      bind _ (cross_rule_at us) (λ vs r p.
      bind _ (symbol_at d InRule others sign.CloseBracket vs (place d InRule others) (λ q ws. refl)) (λ rest c g.
      done _ rest (rw h (rules.cross (rw g at p))))))

  plain_value_at : (ts : List Lexeme) → sees sign.OpenParenthesis ts ≡ false →
      At (place d InRule (Value ∷ others) ts) (place d InRule others) (λ rest v. SpellsValue ts rest v.0 v.1) (plain_value ts)
  unfolding plain_value same_symbol
  plain_value_at ts o = by ts o (seen sign.OpenBracket ts)
    where
      by : (us : List Lexeme) → sees sign.OpenParenthesis us ≡ false → Seen sign.OpenBracket us →
          At (place d InRule (Value ∷ others) us) (place d InRule others) (λ rest v. SpellsValue us rest v.0 v.1) (plain_value us)
      by us o (comes s vs) = cross_at s vs
      by us o (comes_not h) = unbracketed_at us o h

-- reading a value where so many parentheses may be opened, and one in parentheses
abbrev pub ValueAt : ℕ → Type 0
ValueAt d = (others : List Sym) (ts : List Lexeme) →
    At (place d InRule (Value ∷ others) ts) (place d InRule others) (λ rest v. SpellsValue ts rest v.0 v.1) (value_in (values_inside d) ts)

abbrev InsideAt : ℕ → Type 0
InsideAt d = (others : List Sym) (s : Span) (ts : List Lexeme) →
    At (place d InRule (Value ∷ others) (Sign sign.OpenParenthesis s ∷ ts)) (place d InRule others) (λ rest v. SpellsValue (Sign sign.OpenParenthesis s ∷ ts) rest v.0 v.1)
    (values_inside d (Sign sign.OpenParenthesis s ∷ ts))

value_from : (d : ℕ) → InsideAt d → ValueAt d
unfolding value_in same_symbol
value_from d inside others ts = by ts (seen sign.OpenParenthesis ts)
  where
    by : (us : List Lexeme) → Seen sign.OpenParenthesis us →
        At (place d InRule (Value ∷ others) us) (place d InRule others) (λ rest v. SpellsValue us rest v.0 v.1) (value_in (values_inside d) us)
    by us (comes s vs) = inside others s vs
    by us (comes_not h) = rw h (plain_value_at d others us h)

module _ (d : ℕ) (ok : ValueAt d) (others : List Sym) where
  more_values_turns : Turns (sees sign.Bar) (skip >> one (bare_value (values_inside d))) (place d InRule (ValuesClose ∷ others)) (place d InRule (Want sign.CloseParenthesis ∷ others))
      (λ ts. Unit {0}) (λ ts. Unit {0}) SpellsMoreValues
  unfolding same_symbol
  more_values_turns = record {
    empty = refl;
    leaves = λ ts i e. (values_close d others ts e, rules.no_value, tt);
    turn = λ ts i e. from ts e (seen sign.Bar ts);
  }
    where
      from : (ts : List Lexeme) → sees sign.Bar ts ≡ true → Seen sign.Bar ts →
          At (place d InRule (ValuesClose ∷ others) ts) (place d InRule (ValuesClose ∷ others))
          (λ mid xs. (length mid < length ts) × Unit {0} × ((rest : List Lexeme) (ys : List Value0) → SpellsMoreValues mid rest ys → SpellsMoreValues ts rest (xs ++ ys)))
          ((skip >> one (bare_value (values_inside d))) ts)
      from ts e (comes_not h) = absurd (cc (e, h))
      from ts e (comes s us) =
          bind _ (bind _ (ok (ValuesClose ∷ others) us) (λ mid v h. done {P = λ rest x. (place_ : Span) × SpellsValue us rest x place_} v.0 mid (v.1, h)))
          (λ mid v h. done (v ∷ []) mid (omega (arith, value_shorter h.1), tt, λ rest ys m. rules.value_and h.1 m))

  values_at : (ts : List Lexeme) → At (place d InRule (Value ∷ ValuesClose ∷ others) ts) (place d InRule (Want sign.CloseParenthesis ∷ others)) (SpellsValues ts) (values (values_inside d) ts)
  unfolding values all_of
  values_at ts =
      bind _ (bind _ (ok (ValuesClose ∷ others) ts) (λ mid v h. done {P = λ rest x. (place_ : Span) × SpellsValue ts rest x place_} v.0 mid (v.1, h)))
      (λ mid v h.
      bind _ (gathered_at (sees sign.Bar) (skip >> one (bare_value (values_inside d))) (place d InRule (ValuesClose ∷ others)) (place d InRule (Want sign.CloseParenthesis ∷ others))
      (λ us. Unit {0}) (λ us. Unit {0}) SpellsMoreValues more_values_turns (length mid) mid (omega arith) tt)
      (λ rest vs g. done (v ∷ vs) rest (rules.values h.1 g.0)))

inside_at : (d : ℕ) → InsideAt d
unfolding values_inside symbol same_symbol
inside_at zero others s ts = deep refl
inside_at (suc d) others s ts =
    bind _ (values_at d (value_from d (inside_at d)) others ts)
    (λ mid vs h. bind _ (symbol_at d InRule others sign.CloseParenthesis mid (place (suc d) InRule others) (λ q us. refl)) (λ rest c g. done _ rest (rules.inside (rw g at h))))

pub value_at : (d : ℕ) → ValueAt d
value_at d = value_from d (inside_at d)

-- ---- actions and marks

put_equals : (d : ℕ) (others : List Sym) (ts : List Lexeme) → sees sign.PlusEquals ts ≡ false →
    place d InRule (PutOperator ∷ others) ts ≡ place d InRule (Want sign.Equals ∷ others) ts
put_equals d others [] h = refl
put_equals d others (Word n r s ∷ ts) h = refl
put_equals d others (Text v s ∷ ts) h = refl
put_equals d others (Regex p s ∷ ts) h = refl
put_equals d others (Flagged s ∷ ts) h = refl
put_equals d others (Other s ∷ ts) h = refl
put_equals d others (Sign y s ∷ ts) h = rw h refl

put_close : (d : ℕ) (others : List Sym) (ts : List Lexeme) → sees sign.Dot ts ≡ false →
    place d InRule (PutEnd ∷ others) ts ≡ place d InRule (Want sign.CloseBrace ∷ others) ts
put_close d others [] h = refl
put_close d others (Word n r s ∷ ts) h = refl
put_close d others (Text v s ∷ ts) h = refl
put_close d others (Regex p s ∷ ts) h = refl
put_close d others (Flagged s ∷ ts) h = refl
put_close d others (Other s ∷ ts) h = refl
put_close d others (Sign y s ∷ ts) h = rw h refl

action_name : (d : ℕ) (others : List Sym) (ts : List Lexeme) → sees_reserved word.Infer ts ≡ false →
    place d InRule (ActionType ∷ others) ts ≡ place d InRule (WantName ∷ others) ts
action_name d others [] h = refl
action_name d others (Word n None s ∷ ts) h = refl
action_name d others (Word n (Some r) s ∷ ts) h = rw h refl
action_name d others (Text v s ∷ ts) h = refl
action_name d others (Regex p s ∷ ts) h = refl
action_name d others (Flagged s ∷ ts) h = refl
action_name d others (Other s ∷ ts) h = refl
action_name d others (Sign y s ∷ ts) h = refl

module _ (d : ℕ) (others : List Sym) where
  put_operator_at : (ts : List Lexeme) → At (place d InRule (PutOperator ∷ others) ts) (place d InRule others)
      (λ rest list. (s : Span) × (ts ≡ Sign (cond list sign.PlusEquals sign.Equals) s ∷ rest)) (put_operator ts)
  unfolding put_operator same_symbol
  put_operator_at ts = by ts (seen sign.PlusEquals ts)
    where
      by : (us : List Lexeme) → Seen sign.PlusEquals us → At (place d InRule (PutOperator ∷ others) us) (place d InRule others)
          (λ rest list. (s : Span) × (us ≡ Sign (cond list sign.PlusEquals sign.Equals) s ∷ rest)) (put_operator us)
      by us (comes s vs) = read true vs refl (s, refl)
      by us (comes_not h) =
          rw h (along (put_equals d others us h) (bind _ (symbol_at d InRule others sign.Equals us (place d InRule others) (λ q vs. refl)) (λ mid q e. done false mid (q, e))))

module _ (d : ℕ) (others : List Sym) where
  put_spelled : (list : Bool) {e s q t : Span} {p w : List ℕ} {x : Option Reserved} {us vs ws rest : List Lexeme} → us ≡ Word p x s ∷ vs →
      vs ≡ Sign (cond list sign.PlusEquals sign.Equals) q ∷ ws → ws ≡ Word w (Some word.Current) t ∷ rest → SpellsPut (Sign sign.Dot e ∷ us) rest (Some (p, list))
  put_spelled true h g f = rw (h, g, f) rules.put_list
  put_spelled false h g f = rw (h, g, f) rules.put_one

  put_at : (ts : List Lexeme) → At (place d InRule (PutEnd ∷ others) ts) (place d InRule (Want sign.CloseBrace ∷ others)) (SpellsPut ts) (put_of ts)
  unfolding put_of same_symbol
  put_at ts = by ts (seen sign.Dot ts)
    where
      by : (us : List Lexeme) → Seen sign.Dot us → At (place d InRule (PutEnd ∷ others) us) (place d InRule (Want sign.CloseBrace ∷ others)) (SpellsPut us) (put_of us)
      by us (comes s vs) =
          bind _ (feature_at d InRule (PutOperator ∷ WantWord word.Current ∷ Want sign.CloseBrace ∷ others) vs) (λ ws p h.
          bind _ (put_operator_at d (WantWord word.Current ∷ Want sign.CloseBrace ∷ others) ws) (λ xs list g.
          bind _ (reserved_at d InRule (Want sign.CloseBrace ∷ others) word.Current xs) (λ rest u f.
          done _ rest (put_spelled list h.1 g.1 f.2))))
      by us (comes_not h) = rw h (read None us (put_close d others us h) rules.no_put)

module _ (d : ℕ) (others : List Sym) where
  action_behind_at : (o : Span) (infers : Bool) (ts us : List Lexeme) → MayTakeWord word.Infer ts us infers →
      At (place d InRule (WantName ∷ PutEnd ∷ others) us) (place d InRule others) (SpellsAction (Sign sign.OpenBrace o ∷ ts)) (action_behind o infers us)
  unfolding action_behind same_symbol
  action_behind_at o infers ts us m =
      bind _ (name_at d InRule (PutEnd ∷ others) us) (λ vs n h.
      bind _ (put_at d others vs) (λ ws p g.
      bind _ (symbol_at d InRule others sign.CloseBrace ws (place d InRule others) (λ q xs. refl)) (λ rest c f.
      done _ rest (rules.action (rules.type_of (rw h at m)) (rw f at g)))))

  action_at : (o : Span) (ts : List Lexeme) → At (place d InRule (ActionType ∷ PutEnd ∷ others) ts) (place d InRule others) (SpellsAction (Sign sign.OpenBrace o ∷ ts)) (action (Sign sign.OpenBrace o ∷ ts))
  unfolding action symbol same_symbol same_reserved
  action_at o ts = by ts (seen_word word.Infer ts)
    where
      by : (us : List Lexeme) → SeenWord word.Infer us → At (place d InRule (ActionType ∷ PutEnd ∷ others) us) (place d InRule others) (SpellsAction (Sign sign.OpenBrace o ∷ us)) (action (Sign sign.OpenBrace o ∷ us))
      by us (word_comes n s vs) = action_behind_at o true (Word n (Some word.Infer) s ∷ vs) vs MayTakeWord.there
      by us (word_comes_not h) = rw h (along (action_name d (PutEnd ∷ others) us h) (action_behind_at o false us us MayTakeWord.left_out))

  marked_at : (e : Element) (pl : Span) (ts : List Lexeme) → At (place d InRule (Card ∷ others) ts) (place d InRule others) (λ rest m. SpellsMark ts rest e pl m) (marked e pl ts)
  unfolding marked symbol same_symbol
  marked_at e pl ts = by ts (seen sign.Question ts) (seen sign.Star ts) (seen sign.Plus ts)
    where
      by : (us : List Lexeme) → Seen sign.Question us → Seen sign.Star us → Seen sign.Plus us → At (place d InRule (Card ∷ others) us) (place d InRule others) (λ rest m. SpellsMark us rest e pl m) (marked e pl us)
      by us (comes s vs) q t = read _ vs refl rules.maybe
      by us (comes_not h) (comes s vs) t = read _ vs refl rules.many
      by us (comes_not h) (comes_not g) (comes s vs) = read _ vs refl rules.some
      by us (comes_not h) (comes_not g) (comes_not f) = rw (h, g, f) (read e us (card_not d InRule others us h g f) rules.bare)

-- ---- elements

-- the operator of an assignment, where one comes
data SeenOperator : List Lexeme → Type 0 where
  operator_comes : {x : Symbol} {op : Op} (s : Span) (ts : List Lexeme) → IsOperator x op → SeenOperator (Sign x s ∷ ts)
  operator_comes_not : {ts : List Lexeme} → next_operator ts ≡ None → SeenOperator ts

seen_operator : (ts : List Lexeme) → SeenOperator ts
seen_operator [] = operator_comes_not refl
seen_operator (Sign sign.Equals s ∷ ts) = operator_comes s ts rules.one
seen_operator (Sign sign.PlusEquals s ∷ ts) = operator_comes s ts rules.add
seen_operator (Sign sign.QuestionEquals s ∷ ts) = operator_comes s ts rules.flag
seen_operator (t ∷ ts) = operator_comes_not refl

after_call : (d : ℕ) (others : List Sym) (ts : List Lexeme) → next_operator ts ≡ None → place d InRule (AfterWord ∷ others) ts ≡ place d InRule (Card ∷ others) ts
after_call d others [] h = refl
after_call d others (Sign sign.Equals s ∷ ts) h = absurd (cc h)
after_call d others (Sign sign.PlusEquals s ∷ ts) h = absurd (cc h)
after_call d others (Sign sign.QuestionEquals s ∷ ts) h = absurd (cc h)
after_call d others (t ∷ ts) h = refl

no_operator : (d : ℕ) (others : List Sym) (ts : List Lexeme) → next_operator ts ≡ None → place d InRule (Operator ∷ others) ts ≡ Stuck spot.Rule ts
no_operator d others [] h = refl
no_operator d others (Sign sign.Equals s ∷ ts) h = absurd (cc h)
no_operator d others (Sign sign.PlusEquals s ∷ ts) h = absurd (cc h)
no_operator d others (Sign sign.QuestionEquals s ∷ ts) h = absurd (cc h)
no_operator d others (t ∷ ts) h = refl

module _ (d : ℕ) (others : List Sym) where
  assigned_at : (p : List ℕ) (r : Option Reserved) (s o : Span) (x : Symbol) (op : Op) (ts : List Lexeme) → IsOperator x op →
      At (place d InRule (Value ∷ Card ∷ others) ts) (place d InRule (Card ∷ others)) (λ rest e. SpellsPart (Word p r s ∷ Sign x o ∷ ts) rest e.0 e.1) (assigned (values_inside d) p s op ts)
  unfolding assigned
  assigned_at p r s o x op ts i = bind _ (value_at d (Card ∷ others) ts) (λ mid v h. done _ mid (rules.assigns i h))

  call_or_assignment_at : (n : List ℕ) (s : Span) (ts : List Lexeme) → At (place d InRule (AfterWord ∷ others) ts) (place d InRule (Card ∷ others))
      (λ rest e. SpellsPart (Word n None s ∷ ts) rest e.0 e.1) (behind_word (values_inside d) true n s (next_operator ts) ts)
  call_or_assignment_at n s ts = by ts (seen_operator ts)
    where
      by : (us : List Lexeme) → SeenOperator us → At (place d InRule (AfterWord ∷ others) us) (place d InRule (Card ∷ others))
          (λ rest e. SpellsPart (Word n None s ∷ us) rest e.0 e.1) (behind_word (values_inside d) true n s (next_operator us) us)
      by us (operator_comes q vs rules.one) = assigned_at n None s q sign.Equals _ vs rules.one
      by us (operator_comes q vs rules.add) = assigned_at n None s q sign.PlusEquals _ vs rules.add
      by us (operator_comes q vs rules.flag) = assigned_at n None s q sign.QuestionEquals _ vs rules.flag
      by us (operator_comes_not h) = rw h (read (element.Call n s, s) us (after_call d others us h) rules.calls)

  assignment_at : (n : List ℕ) (r : Reserved) (s : Span) (ts : List Lexeme) → At (place d InRule (Operator ∷ Value ∷ Card ∷ others) ts) (place d InRule (Card ∷ others))
      (λ rest e. SpellsPart (Word n (Some r) s ∷ ts) rest e.0 e.1) (behind_word (values_inside d) false n s (next_operator ts) ts)
  assignment_at n r s ts = by ts (seen_operator ts)
    where
      by : (us : List Lexeme) → SeenOperator us → At (place d InRule (Operator ∷ Value ∷ Card ∷ others) us) (place d InRule (Card ∷ others))
          (λ rest e. SpellsPart (Word n (Some r) s ∷ us) rest e.0 e.1) (behind_word (values_inside d) false n s (next_operator us) us)
      by us (operator_comes q vs rules.one) = assigned_at n (Some r) s q sign.Equals _ vs rules.one
      by us (operator_comes q vs rules.add) = assigned_at n (Some r) s q sign.PlusEquals _ vs rules.add
      by us (operator_comes q vs rules.flag) = assigned_at n (Some r) s q sign.QuestionEquals _ vs rules.flag
      by us (operator_comes_not h) = rw h (stuck (no_operator d (Value ∷ Card ∷ others) us h))

  plain_part_at : (ts : List Lexeme) → sees sign.OpenParenthesis ts ≡ false → sees sign.OpenBrace ts ≡ false →
      At (place d InRule (want.Element ∷ others) ts) (place d InRule (Card ∷ others)) (λ rest e. SpellsPart ts rest e.0 e.1) (plain_part (values_inside d) ts)
  unfolding plain_part word_part feature text
  plain_part_at [] o h = stuck refl
  plain_part_at (Word n None s ∷ ts) o h = call_or_assignment_at n s ts
  plain_part_at (Word n (Some r) s ∷ ts) o h = assignment_at n r s ts
  plain_part_at (Text v s ∷ ts) o h = read (element.Keyword v s, s) ts refl rules.keyword
  plain_part_at (Regex p s ∷ ts) o h = stuck refl
  plain_part_at (Flagged s ∷ ts) o h = stuck refl
  plain_part_at (Other s ∷ ts) o h = stuck refl
  plain_part_at (Sign y s ∷ ts) o h = stuck (rw (h, o) refl)

-- reading a part where so many parentheses may be opened
abbrev PartInsideAt : ℕ → Type 0
PartInsideAt d = (others : List Sym) (s : Span) (ts : List Lexeme) →
    At (place d InRule (want.Element ∷ others) (Sign sign.OpenParenthesis s ∷ ts)) (place d InRule (Card ∷ others)) (λ rest e. SpellsPart (Sign sign.OpenParenthesis s ∷ ts) rest e.0 e.1)
    (choice_inside d (Sign sign.OpenParenthesis s ∷ ts))

abbrev ElementAt : ℕ → Type 0
ElementAt d = (others : List Sym) (ts : List Lexeme) →
    At (place d InRule (want.Element ∷ others) ts) (place d InRule others) (SpellsElement ts) (element_in (values_inside d) (choice_inside d) ts)

part_from : (d : ℕ) → PartInsideAt d → (others : List Sym) (ts : List Lexeme) → sees sign.OpenBrace ts ≡ false →
    At (place d InRule (want.Element ∷ others) ts) (place d InRule (Card ∷ others)) (λ rest e. SpellsPart ts rest e.0 e.1) (part_in (values_inside d) (choice_inside d) ts)
unfolding part_in same_symbol
part_from d inside others ts brace = by ts brace (seen sign.OpenParenthesis ts)
  where
    by : (us : List Lexeme) → sees sign.OpenBrace us ≡ false → Seen sign.OpenParenthesis us →
        At (place d InRule (want.Element ∷ others) us) (place d InRule (Card ∷ others)) (λ rest e. SpellsPart us rest e.0 e.1) (part_in (values_inside d) (choice_inside d) us)
    by us brace (comes s vs) = inside others s vs
    by us brace (comes_not h) = rw h (plain_part_at d others us h brace)

element_from : (d : ℕ) → PartInsideAt d → ElementAt d
unfolding element_in same_symbol
element_from d inside others ts = by ts (seen sign.OpenBrace ts)
  where
    by : (us : List Lexeme) → Seen sign.OpenBrace us →
        At (place d InRule (want.Element ∷ others) us) (place d InRule others) (SpellsElement us) (element_in (values_inside d) (choice_inside d) us)
    by us (comes s vs) = bind _ (action_at d others s vs) (λ mid a h. done _ mid (rules.acts h))
    by us (comes_not h) =
        rw h (bind _ (part_from d inside others us h) (λ mid p g. finish (λ rest m f. (refl, rules.part g f)) (marked_at d others p.0 p.1 mid)))

rows_end_element : (d : ℕ) (others : List Sym) (ts : List Lexeme) → begins_element ts ≡ true →
    place d InRule (RowsEnd ∷ others) ts ≡ place d InRule (want.Element ∷ RowsEnd ∷ others) ts
rows_end_element d others [] h = absurd (cc h)
rows_end_element d others (Word n None s ∷ ts) h = refl
rows_end_element d others (Word n (Some r) s ∷ ts) h = refl
rows_end_element d others (Text v s ∷ ts) h = refl
rows_end_element d others (Regex p s ∷ ts) h = absurd (cc h)
rows_end_element d others (Flagged s ∷ ts) h = absurd (cc h)
rows_end_element d others (Other s ∷ ts) h = absurd (cc h)
rows_end_element d others (Sign y s ∷ ts) h = either_way (same_symbol y sign.OpenBrace) (λ e. rw (h, e) refl) (λ e. either_way (same_symbol y sign.OpenParenthesis) (λ f. rw (h, e, f) refl) (λ f. rw (h, e, f) refl))

rows_end_leave : (d : ℕ) (others : List Sym) (ts : List Lexeme) → begins_element ts ≡ false → sees sign.Bar ts ≡ false →
    place d InRule (RowsEnd ∷ others) ts ≡ place d InRule (Want sign.Semicolon ∷ others) ts
rows_end_leave d others [] h g = refl
rows_end_leave d others (Word n r s ∷ ts) h g = absurd (cc h)
rows_end_leave d others (Text v s ∷ ts) h g = absurd (cc h)
rows_end_leave d others (Regex p s ∷ ts) h g = refl
rows_end_leave d others (Flagged s ∷ ts) h g = refl
rows_end_leave d others (Other s ∷ ts) h g = refl
rows_end_leave d others (Sign y s ∷ ts) h g = rw (h, g) refl

rows_close_element : (d : ℕ) (others : List Sym) (ts : List Lexeme) → begins_element ts ≡ true →
    place d InRule (RowsClose ∷ others) ts ≡ place d InRule (want.Element ∷ RowsClose ∷ others) ts
rows_close_element d others [] h = absurd (cc h)
rows_close_element d others (Word n None s ∷ ts) h = refl
rows_close_element d others (Word n (Some r) s ∷ ts) h = refl
rows_close_element d others (Text v s ∷ ts) h = refl
rows_close_element d others (Regex p s ∷ ts) h = absurd (cc h)
rows_close_element d others (Flagged s ∷ ts) h = absurd (cc h)
rows_close_element d others (Other s ∷ ts) h = absurd (cc h)
rows_close_element d others (Sign y s ∷ ts) h = either_way (same_symbol y sign.OpenBrace) (λ e. rw (h, e) refl) (λ e. either_way (same_symbol y sign.OpenParenthesis) (λ f. rw (h, e, f) refl) (λ f. rw (h, e, f) refl))

rows_close_leave : (d : ℕ) (others : List Sym) (ts : List Lexeme) → begins_element ts ≡ false → sees sign.Bar ts ≡ false →
    place d InRule (RowsClose ∷ others) ts ≡ place d InRule (Want sign.CloseParenthesis ∷ others) ts
rows_close_leave d others [] h g = refl
rows_close_leave d others (Word n r s ∷ ts) h g = absurd (cc h)
rows_close_leave d others (Text v s ∷ ts) h g = absurd (cc h)
rows_close_leave d others (Regex p s ∷ ts) h g = refl
rows_close_leave d others (Flagged s ∷ ts) h g = refl
rows_close_leave d others (Other s ∷ ts) h g = refl
rows_close_leave d others (Sign y s ∷ ts) h g = rw (h, g) refl

module _ (d : ℕ) (ok : ElementAt d) (others : List Sym) (loop : Sym) (k : List Lexeme → Verdict)
    (on_element : (ts : List Lexeme) → begins_element ts ≡ true → place d InRule (loop ∷ others) ts ≡ place d InRule (want.Element ∷ loop ∷ others) ts)
    (on_bar : (s : Span) (ts : List Lexeme) → place d InRule (loop ∷ others) (Sign sign.Bar s ∷ ts) ≡ place d InRule (want.Element ∷ loop ∷ others) ts)
    (leaves : (ts : List Lexeme) → begins_element ts ≡ false → sees sign.Bar ts ≡ false → place d InRule (loop ∷ others) ts ≡ k ts) where
  more_elements_turns : Turns begins_element (one (element_in (values_inside d) (choice_inside d))) (place d InRule (loop ∷ others)) (place d InRule (loop ∷ others))
      (λ ts. Unit {0}) (λ ts. begins_element ts ≡ false) SpellsMoreElements
  more_elements_turns = record {
    empty = refl;
    leaves = λ ts i e. (refl, rules.no_element, e);
    turn = λ ts i e. along (on_element ts e) (bind _ (ok (loop ∷ others) ts) (λ mid x h. done (x ∷ []) mid (element_shorter h, tt, λ rest ys m. rules.element_and h m)));
  }

  row_at : (ts : List Lexeme) → At (place d InRule (want.Element ∷ loop ∷ others) ts) (place d InRule (loop ∷ others)) (λ rest e. SpellsRow ts rest e × (begins_element rest ≡ false))
      (row (values_inside d) (choice_inside d) ts)
  unfolding row elements all_of
  row_at ts =
      bind _ (bind _ (ok (loop ∷ others) ts) (λ mid e h.
      bind _ (gathered_at begins_element (one (element_in (values_inside d) (choice_inside d))) (place d InRule (loop ∷ others)) (place d InRule (loop ∷ others))
      (λ us. Unit {0}) (λ us. begins_element us ≡ false) SpellsMoreElements more_elements_turns (length mid) mid (omega arith) tt)
      (λ rest es g. done {P = λ us all. SpellsRow ts us (group_of all) × (begins_element us ≡ false)} (e ∷ es) rest (rules.row h g.0, g.1))))
      (λ rest all g. done (group_of all) rest g)

  more_rows_turns : Turns (sees sign.Bar) (skip >> one (row (values_inside d) (choice_inside d))) (place d InRule (loop ∷ others)) k
      (λ ts. begins_element ts ≡ false) (λ ts. Unit {0}) SpellsMoreRows
  more_rows_turns = record {
    empty = refl;
    leaves = λ ts i e. (leaves ts i e, rules.no_row, tt);
    turn = λ ts i e. from ts e (seen sign.Bar ts);
  }
    where
      from : (ts : List Lexeme) → sees sign.Bar ts ≡ true → Seen sign.Bar ts →
          At (place d InRule (loop ∷ others) ts) (place d InRule (loop ∷ others))
          (λ mid xs. (length mid < length ts) × (begins_element mid ≡ false) × ((rest : List Lexeme) (ys : List Element) → SpellsMoreRows mid rest ys → SpellsMoreRows ts rest (xs ++ ys)))
          ((skip >> one (row (values_inside d) (choice_inside d))) ts)
      from ts e (comes_not h) = absurd (cc (e, h))
      from ts e (comes s us) =
          along (on_bar s us) (bind _ (row_at us) (λ mid x h. done (x ∷ []) mid (omega (arith, row_shorter h.0), h.1, λ rest ys m. rules.row_and h.0 m)))

  pub choice_at : (ts : List Lexeme) → At (place d InRule (want.Element ∷ loop ∷ others) ts) k (SpellsChoice ts) (choice (values_inside d) (choice_inside d) ts)
  unfolding choice rows all_of
  choice_at ts =
      bind _ (bind _ (row_at ts) (λ mid e h.
      bind _ (gathered_at (sees sign.Bar) (skip >> one (row (values_inside d) (choice_inside d))) (place d InRule (loop ∷ others)) k
      (λ us. begins_element us ≡ false) (λ us. Unit {0}) SpellsMoreRows more_rows_turns (length mid) mid (omega arith) h.1)
      (λ rest es g. done {P = λ us all. SpellsChoice ts us (choice_of all)} (e ∷ es) rest (rules.choice h.0 g.0))))
      (λ rest all g. done (choice_of all) rest g)

part_inside_at : (d : ℕ) → PartInsideAt d
unfolding choice_inside symbol same_symbol
part_inside_at zero others s ts = deep refl
part_inside_at (suc d) others s ts =
    bind _ (choice_at d (element_from d (part_inside_at d)) (Card ∷ others) RowsClose (place d InRule (Want sign.CloseParenthesis ∷ Card ∷ others))
    (λ us e. rows_close_element d (Card ∷ others) us e) (λ q us. refl) (λ us e f. rows_close_leave d (Card ∷ others) us e f) ts)
    (λ mid e h. bind _ (symbol_at d InRule (Card ∷ others) sign.CloseParenthesis mid (place (suc d) InRule (Card ∷ others)) (λ q us. refl)) (λ rest c g. done _ rest (rules.enclosed (rw g at h))))

-- ---- rules

result_colon : (d : ℕ) (first : Bool) (others : List Sym) (ts : List Lexeme) → sees_reserved word.Infers ts ≡ false → sees_reserved word.Returns ts ≡ false →
    place d InRule (ResultColon first ∷ others) ts ≡ place d InRule (NameColon first ∷ others) ts
result_colon d first others [] h g = refl
result_colon d first others (Word n None s ∷ ts) h g = refl
result_colon d first others (Word n (Some r) s ∷ ts) h g = rw (h, g) refl
result_colon d first others (Text v s ∷ ts) h g = refl
result_colon d first others (Regex p s ∷ ts) h g = refl
result_colon d first others (Flagged s ∷ ts) h g = refl
result_colon d first others (Other s ∷ ts) h g = refl
result_colon d first others (Sign y s ∷ ts) h g = refl

name_not : (d : ℕ) (first : Bool) (others : List Sym) (ts : List Lexeme) → sees sign.Colon ts ≡ false → place d InRule (NameColon first ∷ others) ts ≡ Stuck (before_colon first result.Own) ts
name_not d first others [] h = refl
name_not d first others (Word n r s ∷ ts) h = refl
name_not d first others (Text v s ∷ ts) h = refl
name_not d first others (Regex p s ∷ ts) h = refl
name_not d first others (Flagged s ∷ ts) h = refl
name_not d first others (Other s ∷ ts) h = refl
name_not d first others (Sign y s ∷ ts) h = rw h refl

typed_not : (d : ℕ) (others : List Sym) (ts : List Lexeme) → sees sign.Colon ts ≡ false → place d InRule (TypedColon ∷ others) ts ≡ Stuck spot.RuleType ts
typed_not d others [] h = refl
typed_not d others (Word n r s ∷ ts) h = refl
typed_not d others (Text v s ∷ ts) h = refl
typed_not d others (Regex p s ∷ ts) h = refl
typed_not d others (Flagged s ∷ ts) h = refl
typed_not d others (Other s ∷ ts) h = refl
typed_not d others (Sign y s ∷ ts) h = rw h refl

rule_name : (d : ℕ) (others : List Sym) (ts : List Lexeme) → sees_reserved word.Fragment ts ≡ false →
    place d InRule (RuleName ∷ others) ts ≡ place d InRule (WantName ∷ others) ts
rule_name d others [] h = refl
rule_name d others (Word n None s ∷ ts) h = refl
rule_name d others (Word n (Some r) s ∷ ts) h = rw h refl
rule_name d others (Text v s ∷ ts) h = refl
rule_name d others (Regex p s ∷ ts) h = refl
rule_name d others (Flagged s ∷ ts) h = refl
rule_name d others (Other s ∷ ts) h = refl
rule_name d others (Sign y s ∷ ts) h = refl

-- a type that was read, and what is said of a token that cannot follow it
abbrev IsType : List Lexeme → List Lexeme → RuleResult → Type 0
IsType ts rest x = SpellsResult ts rest x × ((first : Bool) → before_colon first x ≡ spot.RuleType)

module _ (d : ℕ) (others : List Sym) where
  returned_at : (w : List ℕ) (q : Span) (ts : List Lexeme) → At (place d InRule (Returned ∷ others) ts) (place d InRule others)
      (λ rest x. IsType (Word w (Some word.Returns) q ∷ ts) rest x) (returned ts)
  unfolding returned free_word primitive
  returned_at w q [] = stuck refl
  returned_at w q (Word n None s ∷ ts) = read (result.Returns n s) ts refl (rules.returns, λ first. refl)
  returned_at w q (Word n (Some r) s ∷ ts) = by (primitive_of r) refl
    where
      by : (found : Option Primitive) → primitive_of r ≡ found → At (place d InRule (Returned ∷ others) (Word n (Some r) s ∷ ts)) (place d InRule others)
          (λ rest x. IsType (Word w (Some word.Returns) q ∷ Word n (Some r) s ∷ ts) rest x) (returned (Word n (Some r) s ∷ ts))
      by (Some p) e = rw e (read (result.Gives p) ts refl (rules.gives e, λ first. refl))
      by None e = rw e (stuck refl)
  returned_at w q (Text v s ∷ ts) = stuck refl
  returned_at w q (Regex p s ∷ ts) = stuck refl
  returned_at w q (Flagged s ∷ ts) = stuck refl
  returned_at w q (Other s ∷ ts) = stuck refl
  returned_at w q (Sign y s ∷ ts) = stuck refl

abbrev Body : List Sym
Body = want.Element ∷ RowsEnd ∷ []

module _ (d : ℕ) where
  rule_tail_at : (entry fragment : Bool) (n : List ℕ) (s : Span) (x : RuleResult) (ts us ws xs : List Lexeme) → MayTakeWord word.Entry ts us entry →
      MayTakeWord word.Fragment us (Word n None s ∷ ws) fragment → SpellsResult ws xs x → (v : List Lexeme → Verdict) →
      ((zs : List Lexeme) → sees sign.Colon zs ≡ false → v zs ≡ Stuck (before_colon (not entry && not fragment) x) zs) →
      ((q : Span) (zs : List Lexeme) → v (Sign sign.Colon q ∷ zs) ≡ place d InRule Body zs) →
      At (v xs) (place d InRule []) (SpellsRule ts) (rule_tail d entry fragment (n, s) x xs)
  unfolding rule_tail same_symbol
  rule_tail_at entry fragment n s x ts us ws xs m f p v stops goes =
      bind _ (wanted_at sign.Colon (before_colon (not entry && not fragment) x) v (place d InRule Body) stops goes xs) (λ ys c g.
      bind _ (choice_at d (element_from d (part_inside_at d)) [] RowsEnd (place d InRule (Want sign.Semicolon ∷ []))
      (λ zs e. rows_end_element d [] zs e) (λ q zs. refl) (λ zs e l. rows_end_leave d [] zs e l) ys) (λ zs body e.
      bind _ (symbol_at d InRule [] sign.Semicolon zs (place d InRule []) (λ q us. refl)) (λ rest q l.
      done _ rest (rules.rule m f (rw g at p) (rw l at e)))))

  named_at : (entry fragment : Bool) (n : List ℕ) (s : Span) (ts us ws : List Lexeme) → MayTakeWord word.Entry ts us entry → MayTakeWord word.Fragment us (Word n None s ∷ ws) fragment →
      At (place d InRule (ResultColon (not entry && not fragment) ∷ Body) ws) (place d InRule []) (SpellsRule ts) ((rule_result >>= rule_tail d entry fragment (n, s)) ws)
  unfolding rule_result same_symbol same_reserved
  named_at entry fragment n s ts us ws m f = by ws f (seen_word word.Infers ws) (seen_word word.Returns ws)
    where
      typed : (zs xs : List Lexeme) (x : RuleResult) → MayTakeWord word.Fragment us (Word n None s ∷ zs) fragment → IsType zs xs x →
          At (place d InRule (TypedColon ∷ Body) xs) (place d InRule []) (SpellsRule ts) (rule_tail d entry fragment (n, s) x xs)
      typed zs xs x f p =
          rule_tail_at entry fragment n s x ts us zs xs m f p.0 (place d InRule (TypedColon ∷ Body)) (λ vs h. typed_not d Body vs h ∙ ap (λ z. Stuck z vs) (sym (p.1 (not entry && not fragment)))) (λ q vs. refl)

      by : (zs : List Lexeme) → MayTakeWord word.Fragment us (Word n None s ∷ zs) fragment → SeenWord word.Infers zs → SeenWord word.Returns zs →
          At (place d InRule (ResultColon (not entry && not fragment) ∷ Body) zs) (place d InRule []) (SpellsRule ts) ((rule_result >>= rule_tail d entry fragment (n, s)) zs)
      by zs f (word_comes w q vs) r =
          bind _ (bind _ (name_at d InRule (TypedColon ∷ Body) vs) (λ mid k h. done {P = λ rest x. IsType (Word w (Some word.Infers) q ∷ vs) rest x} (result.Infers k.0 k.1) mid (rw h rules.infers, λ first. refl)))
          (λ xs x p. typed (Word w (Some word.Infers) q ∷ vs) xs x f p)
      by zs f (word_comes_not h) (word_comes w q vs) = bind _ (returned_at d (TypedColon ∷ Body) w q vs) (λ xs x p. typed (Word w (Some word.Returns) q ∷ vs) xs x f p)
      by zs f (word_comes_not h) (word_comes_not g) =
          rw (h, g) (along (result_colon d (not entry && not fragment) Body zs h g) (rule_tail_at entry fragment n s result.Own ts us zs zs m f rules.own
          (place d InRule (NameColon (not entry && not fragment) ∷ Body)) (λ vs k. name_not d (not entry && not fragment) Body vs k) (λ q vs. refl)))

  -- behind a word that may stand before its name
  behind_words_at : (entry fragment : Bool) (ts us vs : List Lexeme) → (not entry && not fragment) ≡ false → MayTakeWord word.Entry ts us entry → MayTakeWord word.Fragment us vs fragment →
      At (place d InRule (WantName ∷ ResultColon false ∷ Body) vs) (place d InRule []) (SpellsRule ts) (rule_behind d entry fragment vs)
  unfolding rule_behind
  behind_words_at true fragment ts us vs w m f =
      bind _ (name_at d InRule (ResultColon false ∷ Body) vs) (λ ws n h. named_at true fragment n.0 n.1 ts us ws m (subst (λ z. MayTakeWord word.Fragment us z fragment) h f))
  behind_words_at false true ts us vs w m f =
      bind _ (name_at d InRule (ResultColon false ∷ Body) vs) (λ ws n h. named_at false true n.0 n.1 ts us ws m (subst (λ z. MayTakeWord word.Fragment us z true) h f))
  behind_words_at false false ts us vs w m f = absurd (cc w)

  entry_at : (n : List ℕ) (s : Span) (ts : List Lexeme) → At (place d InRule (RuleName ∷ ResultColon false ∷ Body) ts) (place d InRule []) (SpellsRule (Word n (Some word.Entry) s ∷ ts))
      ((takes_reserved word.Fragment >>= rule_behind d true) ts)
  unfolding same_reserved
  entry_at n s ts = by ts (seen_word word.Fragment ts)
    where
      by : (us : List Lexeme) → SeenWord word.Fragment us → At (place d InRule (RuleName ∷ ResultColon false ∷ Body) us) (place d InRule []) (SpellsRule (Word n (Some word.Entry) s ∷ us))
          ((takes_reserved word.Fragment >>= rule_behind d true) us)
      by us (word_comes w q vs) = behind_words_at true true (Word n (Some word.Entry) s ∷ us) (Word w (Some word.Fragment) q ∷ vs) vs refl MayTakeWord.there MayTakeWord.there
      by us (word_comes_not h) = rw h (along (rule_name d (ResultColon false ∷ Body) us h) (behind_words_at true false (Word n (Some word.Entry) s ∷ us) us us refl MayTakeWord.there MayTakeWord.left_out))

  -- a rule begins with its name where none of these words comes
  first_name_at : (t : Lexeme) (ts : List Lexeme) → sees_reserved word.Interface (t ∷ ts) ≡ false → sees_reserved word.Type (t ∷ ts) ≡ false → sees_reserved word.Hidden (t ∷ ts) ≡ false →
      sees_reserved word.Terminal (t ∷ ts) ≡ false → sees_reserved word.Entry (t ∷ ts) ≡ false → sees_reserved word.Fragment (t ∷ ts) ≡ false →
      At (place d AtItems [] (t ∷ ts)) (place d InRule (ResultColon true ∷ Body)) (λ rest n. t ∷ ts ≡ Word n.0 None n.1 ∷ rest) (free_word spot.Elsewhere (t ∷ ts))
  unfolding free_word
  first_name_at (Word n None s) ts i y h m e f = read (n, s) ts refl refl
  first_name_at (Word n (Some r) s) ts i y h m e f = stuck (rw (i, y, h, m, e, f) refl)
  first_name_at (Text v s) ts i y h m e f = stuck refl
  first_name_at (Regex p s) ts i y h m e f = stuck refl
  first_name_at (Flagged s) ts i y h m e f = stuck refl
  first_name_at (Other s) ts i y h m e f = stuck refl
  first_name_at (Sign y s) ts i z h m e f = stuck refl

  pub rule_at : (t : Lexeme) (ts : List Lexeme) → sees_reserved word.Interface (t ∷ ts) ≡ false → sees_reserved word.Type (t ∷ ts) ≡ false → sees_reserved word.Hidden (t ∷ ts) ≡ false →
      sees_reserved word.Terminal (t ∷ ts) ≡ false → At (place d AtItems [] (t ∷ ts)) (place d InRule []) (SpellsRule (t ∷ ts)) (rule d (t ∷ ts))
  unfolding rule rule_behind same_reserved
  rule_at t ts i y h m = by (t ∷ ts) refl (seen_word word.Entry (t ∷ ts)) (seen_word word.Fragment (t ∷ ts))
    where
      here : (us : List Lexeme) → us ≡ t ∷ ts → sees_reserved word.Entry us ≡ false → sees_reserved word.Fragment us ≡ false →
          At (place d AtItems [] us) (place d InRule (ResultColon true ∷ Body)) (λ rest n. us ≡ Word n.0 None n.1 ∷ rest) (free_word spot.Elsewhere us)
      here us e g f =
          subst (λ zs. At (place d AtItems [] zs) (place d InRule (ResultColon true ∷ Body)) (λ rest n. zs ≡ Word n.0 None n.1 ∷ rest) (free_word spot.Elsewhere zs)) (sym e)
          (first_name_at t ts i y h m (rw e at g) (rw e at f))

      by : (us : List Lexeme) → us ≡ t ∷ ts → SeenWord word.Entry us → SeenWord word.Fragment us → At (place d AtItems [] us) (place d InRule []) (SpellsRule us) (rule d us)
      by us e (word_comes n s vs) q = entry_at n s vs
      by us e (word_comes_not g) (word_comes n s vs) = behind_words_at false true us us vs refl MayTakeWord.left_out MayTakeWord.there
      by us e (word_comes_not g) (word_comes_not f) =
          rw (g, f) (bind _ (here us e g f) (λ ws n k. named_at false false n.0 n.1 us us ws MayTakeWord.left_out (subst (λ z. MayTakeWord word.Fragment us z false) k MayTakeWord.left_out)))
