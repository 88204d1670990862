-- What is true of each span that tokens have together is true of each span in what grows from marks that are read with them.
use Rattle.std.proofs.Common.{ℕ, List, [], ◌∷◌, ◌++◌, Option, IfSome, drop}
use Rattle.lw_base.specs.declared.token.Span.{Span}
use Rattle.lw_base.specs.declared.token.Token.{Token}
use Rattle.lw_grammar.specs.declared.grammar.Grammar.{Grammar}
use Rattle.lw_grammar.specs.declared.rule.Op.{Op}
use Rattle.lw_grammar.specs.declared.rule.Value0.{Value0}
use Rattle.lw_grammar.specs.declared.terminal.Terminal.{Terminal}
use Rattle.lw_grammar.specs.Marks.{Mark}
use Rattle.lw_reading.specs.Grown.{Plain, Text, Number, Huge, Raw, Truth, Grown, Grow, Held, Nothing, Puts, Takes, Points}
use Rattle.lw_reading.specs.Values.{NumberMeans, TokenMeans}
use Rattle.lw_reading.specs.Values as means
use Rattle.lw_reading.specs.Brackets.{Bracket, InNode, InValue, Root, span_of_tokens, Shuts, in_value, in_node, at_root}
use Rattle.lw_reading.specs.Follows.{IsPlain, PutsValueIn, ChangesOpen, FollowsMarks, Closes}
use Rattle.lw_reading.specs.Follows as f

abbrev pub plain_span : Plain → Span
plain_span (Text text s) = s
plain_span (Number n s) = s
plain_span (Huge s) = s
plain_span (Raw text s) = s
plain_span (Truth s) = s

module _ (P : Span → Type 0) where
  -- P is true of each span in a node, and in what one holds
  abbrev mutual
    pub EachSpan : Grown → Type 0
    EachSpan (Grow type s held) = P s × EachHeld held

    pub EachHeld : Held → Type 0
    EachHeld Nothing = Unit {0}
    EachHeld (Puts held p v) = EachHeld held × P (plain_span v)
    EachHeld (Takes held p x) = EachHeld held × EachSpan x
    EachHeld (Points held p want name s) = EachHeld held × P s

  -- and in what is open
  abbrev pub EachInBracket : Bracket → Type 0
  EachInBracket (InNode type from held) = EachHeld held
  EachInBracket (InValue p op c at node) = IfSome node EachSpan
  EachInBracket (Root x) = EachSpan x

  abbrev pub EachOpen : List Bracket → Type 0
  EachOpen [] = Unit {0}
  EachOpen (b ∷ bs) = EachInBracket b × EachOpen bs

  -- what these tokens span, from any of them on
  abbrev pub OfTokens : List Token → Type 0
  OfTokens ts = (at : ℕ) → P (span_of_tokens (drop at ts))

  shuts_spans : {ts : List Token} {bs after : List Bracket} → OfTokens ts → Shuts ts bs after → EachOpen bs → EachOpen after
  shuts_spans spans (in_value {from}) each = ((spans from, each.0), each.1.1)
  shuts_spans spans in_node each = (each.0, each.1.1)
  shuts_spans spans (at_root {from}) each = ((spans from, each.0), tt)

  number_spans : {text : List ℕ} {s : Span} {v : Plain} → NumberMeans text s v → P s → P (plain_span v)
  number_spans (means.fits is fit) held = held
  number_spans (means.too_large is not) held = held
  number_spans (means.no_number not) held = held

  token_spans : {terminal : Terminal} {text : List ℕ} {s : Span} {v : Plain} → TokenMeans terminal text s v → P s → P (plain_span v)
  token_spans (means.number gives is) held = number_spans is held
  token_spans (means.words not) held = held

  module _ (g : Grammar) (text : List ℕ) where
    plain_spans : {op : Op} {c : Value0} {ts : List Token} {v : Plain} → IsPlain g text op c ts v → P (span_of_tokens ts) → P (plain_span v)
    plain_spans f.truth held = held
    plain_spans (f.keyword not is) held = held
    plain_spans (f.terminal n terminal not is named meant) held = token_spans meant held
    plain_spans (f.data_type r rule not is named) held = held

    put_spans : {op : Op} {c : Value0} {ts : List Token} {node : Option Grown} {held after : Held} {p : ℕ} → PutsValueIn g text op c ts node held p after →
        P (span_of_tokens ts) → IfSome node EachSpan → EachHeld held → EachHeld after
    put_spans f.a_node spans inside each = (each, inside)
    put_spans (f.a_reference not by number looks) spans inside each = (each, spans)
    put_spans (f.plain is) spans inside each = (each, plain_spans is spans)

    change_spans : {ts : List Token} {mark : Mark} {bs after : List Bracket} → OfTokens ts → ChangesOpen g text ts mark bs after → EachOpen bs → EachOpen after
    change_spans spans (f.opens at has is) each = (tt, each)
    change_spans spans (f.puts is) each = (tt, each)
    change_spans spans (f.shuts is) each = shuts_spans spans is each
    change_spans spans (f.renames none is) each = each
    change_spans spans (f.wraps {from} some is property) each = ((tt, (spans from, each.0)), each.1)
    change_spans spans (f.ends {at} is) each = (put_spans is (spans at) each.0 each.1.0, each.1.1)

    pub close_spans : {ts : List Token} {bs : List Bracket} {x : Grown} → OfTokens ts → Closes g text ts bs x → EachOpen bs → EachSpan x
    close_spans spans f.root each = each.0
    close_spans spans (f.shut is closes) each = close_spans spans closes (shuts_spans spans is each)
    close_spans spans (f.ended not change closes) each = close_spans spans closes (change_spans spans change each)
    close_spans spans (f.left_out is closes) each = close_spans spans closes each.1

    -- what is true of all that the tokens span is true of what fewer of them span
    pub follow_spans : {Q : List Token → Type 0} → ((ts : List Token) (t : Token) → Q (ts ++ t ∷ []) → Q ts) → ((ts : List Token) → Q ts → OfTokens ts) →
        {m : List Mark} {ts : List Token} {bs : List Bracket} → FollowsMarks g text m ts bs → Q ts → EachOpen bs
    follow_spans fewer spans f.nothing row = tt
    follow_spans fewer spans (f.token {ts} t is) row = follow_spans fewer spans is (fewer ts t row)
    follow_spans fewer spans (f.next {ts} is change) row = change_spans (spans ts row) change (follow_spans fewer spans is row)
