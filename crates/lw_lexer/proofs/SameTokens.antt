-- Tokens that are compared, and a list of them that begins with another.
use Rattle.std.proofs.Common.{◌≡◌, ◌==◌, ◌&&◌, Bool, true, List, ◌++◌, drop, length, sym, ap, ap₂, ◌∙◌}
use Rattle.std.proofs.Math.Bool.{beq}
use Rattle.std.proofs.lemmas.Bool.Decides.{Decides-and, Decides-eqb}
use Rattle.std.proofs.lemmas.Slice.Eq.{starts_is}
use Rattle.std.specs.Bool.{Decides}
use Rattle.std.specs.Cmp.{booleans_Decides}
use Rattle.std.specs.List.{starts_with}
use Rattle.lw_base.specs.declared.token.Token.{Token}

abbrev token_eq : Token → Token → Bool
token_eq a b = a.kind.0 == b.kind.0 && (beq a.hidden b.hidden && (a.span.start == b.span.start && a.span.end == b.span.end))

same_token : (a b : Token) → a.kind.0 ≡ b.kind.0 → a.span.start ≡ b.span.start → a.span.end ≡ b.span.end → a.hidden ≡ b.hidden → a ≡ b
same_token a b kind start end hidden =
    ap (λ k. record a { kind = record { 0 = k } }) kind
    ∙ ap (λ s. record { kind = b.kind; span = record { start = s; end = a.span.end }; hidden = a.hidden }) start
    ∙ ap (λ e. record { kind = b.kind; span = record { start = b.span.start; end = e }; hidden = a.hidden }) end
    ∙ ap (λ h. record { kind = b.kind; span = b.span; hidden = h }) hidden

token_eq-decides : (a b : Token) → Decides (token_eq a b) (a ≡ b)
token_eq-decides a b =
    let parts = Decides-and (a.kind.0 == b.kind.0) (beq a.hidden b.hidden && (a.span.start == b.span.start && a.span.end == b.span.end))
    (Decides-eqb a.kind.0 b.kind.0)
    (Decides-and (beq a.hidden b.hidden) (a.span.start == b.span.start && a.span.end == b.span.end)
    (booleans_Decides a.hidden b.hidden)
    (Decides-and (a.span.start == b.span.start) (a.span.end == b.span.end) (Decides-eqb a.span.start b.span.start) (Decides-eqb a.span.end b.span.end))) in (
      λ is. (let all = parts.0 is in same_token a b all.0 all.1.1.0 all.1.1.1 all.1.0),
      λ same. parts.1 (ap (λ t. t.kind.0) same, (ap (λ t. t.hidden) same, (ap (λ t. t.span.start) same, ap (λ t. t.span.end) same))),
    )

-- tokens begin with these, or they do not
pub begins : (tokens first : List Token) (r : Bool) → r ≡ starts_with token_eq tokens first →
    (r ≡ true → tokens ≡ first ++ drop (length first) tokens) × ((rest : List Token) → tokens ≡ first ++ rest → r ≡ true)
begins tokens first r is = starts_is token_eq-decides tokens first r is

-- as it is told of what was lent
pub told_begins : (first tokens lent_first lent : List Token) → lent_first ≡ first → lent ≡ tokens → (r : Bool) → r ≡ starts_with token_eq lent lent_first →
    r ≡ true → tokens ≡ first ++ drop (length first) tokens
told_begins first tokens lent_first lent same_first same r told is =
    sym same ∙ (begins lent lent_first r told).0 is ∙ ap₂ (λ (ts us : List Token). ts ++ drop (length ts) us) same_first same
