-- Whatever tokens were read for a value, it can be put in.
use mir.Syntax.{w64}
use Rattle.std.proofs.Common.{◌≡◌, ◌≢◌, ◌⊎◌, ◌<◌, ◌≤◌, ◌^◌, inl, inr, ℕ, ℤ, List, [], ◌∷◌, Option, Some, None, FitsSigned, drop, refl, sym, subst, ◌∙◌, arith}
use Rattle.std.specs.Str.Parse.{IsNumeral, AllDigits, without_leading_sign, signed_digits_value}
use Rattle.std.specs.Char.{digit_value}
use Rattle.std.proofs.lemmas.Bool.{cases_lt}
use lib.Signed.{mag}
use mir.Val.{hbits}
use Rattle.lw_base.specs.declared.token.Span.{Span}
use Rattle.lw_base.specs.declared.token.Token.{Token}
use Rattle.lw_grammar.specs.declared.grammar.Grammar.{Grammar}
use Rattle.lw_grammar.specs.declared.rule.Op.{Op}
use Rattle.lw_grammar.specs.declared.rule.Op.TheVariants as op
use Rattle.lw_grammar.specs.declared.rule.Op.TheVariants.{Flag}
use Rattle.lw_grammar.specs.declared.rule.Rule.{Rule}
use Rattle.lw_grammar.specs.declared.rule.Value0.{Value0, out-Value0}
use Rattle.lw_grammar.specs.declared.rule.Value0.TheOpen.{Keyword, Call}
use Rattle.lw_grammar.specs.declared.terminal.Terminal.{Terminal}
use Rattle.lw_grammar.specs.declared.terminal.Primitive.{Primitive}
use Rattle.lw_grammar.specs.declared.terminal.Primitive.TheVariants as primitive
use Rattle.lw_grammar.specs.Named.{IsRule, IsTerminal}
use Rattle.lw_reading.specs.Grown.{Plain, Truth, Grown, Held, Puts}
use Rattle.lw_reading.specs.Numbers.{IsNumberOfType}
use Rattle.lw_reading.specs.Values.{NumberMeans, TokenMeans, TokenNames}
use Rattle.lw_reading.specs.Values as means
use Rattle.lw_reading.specs.Brackets.{span_of_tokens, joined_texts, Bracket, InNode, InValue}
use Rattle.lw_reading.specs.Follows.{IsCross, MakesReference, RefersBy, LooksUp, IsPlain, PutsValueIn, ChangesOpen, Closes}
use Rattle.lw_reading.specs.Follows as f
use Rattle.lw_reading.proofs.GoesOn.{CanClose, HoldsNode}
use Rattle.lw_reading.proofs.OneValue.{no_word_crosses, no_call_crosses}

-- ---- what tokens mean

digits : (bs : List ℕ) → AllDigits 10 bs ⊎ ¬ AllDigits 10 bs
digits [] = inl tt
digits (c ∷ cs) = elim (digits cs) [
  | inl all ↦ elim (cases_lt (digit_value c) 10) [
    | inl below ↦ inl (below, all)
    | inr above ↦ inr (λ h. omega (arith, above, h.0))
  ]
  | inr not ↦ inr (λ h. not h.1)
]

numeral : (bs : List ℕ) → IsNumeral 10 bs ⊎ ¬ IsNumeral 10 bs
numeral [] = inr (λ h. omega (arith, h.0))
numeral (c ∷ cs) = elim (digits (c ∷ cs)) [
  | inl all ↦ inl (omega arith, all)
  | inr not ↦ inr (λ h. not h.1)
]

not_below : (a b : ℕ) → b ≤ a → a < b → ⊥
not_below a b least below = omega (arith, least, below)

fits : (z : ℤ) → FitsSigned w64 z ⊎ ¬ FitsSigned w64 z
fits z = elim (cases_lt (mag z) (2 ^ hbits w64)) [
  | inl below ↦ inl (record { sfits = below })
  | inr least ↦ inr (λ h. not_below (mag z) (2 ^ hbits w64) least h.sfits)
]

number_means : (text : List ℕ) (s : Span) → (v : Plain) × NumberMeans text s v
number_means text s = by (numeral (without_leading_sign text)) (fits (signed_digits_value 10 text))
  where
    by : IsNumeral 10 (without_leading_sign text) ⊎ ¬ IsNumeral 10 (without_leading_sign text) →
        FitsSigned w64 (signed_digits_value 10 text) ⊎ ¬ FitsSigned w64 (signed_digits_value 10 text) → (v : Plain) × NumberMeans text s v
    by (inl is) (inl small) = (_, means.fits is small)
    by (inl is) (inr not) = (_, means.too_large is not)
    by (inr not) _ = (_, means.no_number not)

gives_number : (p : Primitive) → (p ≡ primitive.Number) ⊎ (p ≢ primitive.Number)
gives_number primitive.Number = inl refl
gives_number primitive.Text = inr (λ h. cc)
gives_number primitive.Boolean = inr (λ h. cc)
gives_number primitive.BigInt = inr (λ h. cc)
gives_number primitive.Date = inr (λ h. cc)

token_means : (terminal : Terminal) (text : List ℕ) (s : Span) → (v : Plain) × TokenMeans terminal text s v
token_means terminal text s = elim (gives_number terminal.gives) [
  | inl is ↦ let (v, number) = number_means text s in (v, means.number is number)
  | inr not ↦ (_, means.words not)
]

token_names : (terminal : Terminal) (text : List ℕ) → (looked : List ℕ) × TokenNames terminal text looked
token_names terminal text = elim (gives_number terminal.gives) [
  | inl is ↦ (text, means.number is)
  | inr not ↦ (_, means.words not)
]

is_flag : (o : Op) → (o ≡ Flag) ⊎ (o ≢ Flag)
is_flag op.One = inr (λ h. cc)
is_flag op.Add = inr (λ h. cc)
is_flag op.Flag = inl refl

-- ---- what is put in

module _ (g : Grammar) (text : List ℕ) where
  -- the name of a terminal or of a rule
  pub data IsRead (name : List ℕ) : Type 0 where
    by_terminal : (n : ℕ) (terminal : Terminal) → IsTerminal g name n terminal → IsRead name
    by_rule : (r : ℕ) (rule : Rule) → IsRule g name r rule → IsRead name

  -- a value, and what it is read by
  pub data IsReadAs (c : Value0) : Type 0 where
    word : {word : List ℕ} {s : Span} → out-Value0 c ≡ Keyword word s → IsReadAs c
    call : {name : List ℕ} {s : Span} → out-Value0 c ≡ Call name s → IsRead name → IsReadAs c
    refers : {wanted name : List ℕ} (want : ℕ) → RefersBy g c wanted name → IsNumberOfType g wanted want → IsRead name → IsReadAs c

  looks_up : {name : List ℕ} → IsRead name → (ts : List Token) → (looked : List ℕ) × LooksUp g text name ts looked
  looks_up (by_terminal n terminal is) ts = let (looked, names) = token_names terminal (joined_texts text ts) in (looked, f.terminal n terminal is names)
  looks_up (by_rule r rule is) ts = (_, f.data_type r rule is)

  abbrev IsPut : Op → Value0 → List Token → Option Grown → Held → ℕ → Type 0
  IsPut o c ts node held p = (after : Held) × PutsValueIn g text o c ts node held p after

  put_plain : {o : Op} {c : Value0} → IsReadAs c → o ≢ Flag → (ts : List Token) (held : Held) (p : ℕ) → IsPut o c ts None held p
  put_plain (word is) not ts held p = (_, f.plain (f.keyword not is))
  put_plain (call is (by_terminal n terminal named)) not ts held p =
      let (v, stands) = token_means terminal (joined_texts text ts) (span_of_tokens ts) in (_, f.plain (f.terminal n terminal not is named stands))
  put_plain (call is (by_rule r rule named)) not ts held p = (_, f.plain (f.data_type r rule not is named))
  put_plain (refers want by number reads) not ts held p = let (looked, looks) = looks_up reads ts in (_, f.a_reference not by number looks)

  pub puts : {c : Value0} → IsReadAs c → (o : Op) (ts : List Token) (node : Option Grown) (held : Held) (p : ℕ) → IsPut o c ts node held p
  puts read o ts (Some x) held p = (_, f.a_node)
  puts {c} read o ts None held p = elim (is_flag o) [
    | inl is ↦ (Puts held p (Truth (span_of_tokens ts)), subst (λ o. PutsValueIn g text o c ts None held p (Puts held p (Truth (span_of_tokens ts)))) (sym is) (f.plain f.truth))
    | inr not ↦ put_plain read not ts held p
  ]

  -- ---- a value that is open can be closed

  by_cross : {c : Value0} {wanted name : List ℕ} → RefersBy g c wanted name → IsCross c
  by_cross {wanted} {name} (f.written {s} is) = (wanted, Some name, s, is)
  by_cross {wanted} (f.by_type {s} is names) = (wanted, None, s, is)

  makes_reference : {c : Value0} → IsReadAs c → (o : Op) → MakesReference o c ⊎ ¬ MakesReference o c
  makes_reference (word is) o = inr (λ m. let (wanted, rule, s, was) = m.1 in no_word_crosses (sym is ∙ was))
  makes_reference (call is read) o = inr (λ m. let (wanted, rule, s, was) = m.1 in no_call_crosses (sym is ∙ was))
  makes_reference (refers want by number read) o = elim (is_flag o) [ inl is ↦ inr (λ m. m.0 is) | inr not ↦ inl (not, by_cross by) ]

  pub closes_value : {c : Value0} {bs : List Bracket} → IsReadAs c → HoldsNode g text bs → (p : ℕ) (o : Op) (at type from : ℕ) (held : Held) (node : Option Grown) →
      CanClose g text (InValue p o c at node ∷ InNode type from held ∷ bs)
  closes_value {c} {bs} read holds p o at type from held node ts = by (makes_reference read o)
    where
      by : MakesReference o c ⊎ ¬ MakesReference o c → (x : Grown) × Closes g text ts (InValue p o c at node ∷ InNode type from held ∷ bs) x
      by (inl makes) = let (x, closes) = holds type from held ts in (x, f.left_out makes closes)
      by (inr not) =
          let (after, does) = puts read o (drop at ts) node held p in
          let (x, closes) = holds type from after ts in
          (x, f.ended not (f.ends does) closes)
