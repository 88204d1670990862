-- The search for the first token that cannot stand, token by token.
use Rattle.std.proofs.Common.{◌≡◌, ℕ, ◌+◌, ◌<◌, ◌≤◌, ◌⊎◌, zero, suc, arith, List, [], ◌∷◌, ◌++◌, true, false, not, cond, All, length, get_or, map, take, sym, ap, ◌∙◌, subst, append-nil}
use Rattle.std.proofs.lemmas.List.{map-append}
use Rattle.std.proofs.lemmas.List.Elements.{filter_more, All-contains, Contains-get_or}
use Rattle.std.proofs.lemmas.Option.{slice_get-get_or}
use Rattle.lw_base.specs.declared.token.Token.{Token}
use Rattle.lw_grammar.specs.declared.grammar.Grammar.{Grammar}
use Rattle.lw_grammar.specs.Kinds.{Kinds}
use Rattle.lw_grammar.specs.Sentences.{Starts}
use Rattle.lw_builder.specs.Built.{visible_of}
use Rattle.lw_tree.specs.Parts.{Tile}
use Rattle.lw_tree.specs.Parts as part
use Rattle.lw_viable.specs.Fronts.{seen}
use Rattle.lw_parse.specs.Outcomes.{kinds_seen, CanStand, IsFirstImpossible}

-- no token begins before its number, since none is empty
begins_behind : (from : ℕ) (tokens : List Token) (i : ℕ) (d : Token) → i < length tokens → Tile from tokens → from + i ≤ (get_or tokens i d).span.start
begins_behind from [] i d inside tile = absurd (omega (arith, inside))
begins_behind from (t ∷ ts) zero d inside (part.more starts some rest) = omega (arith, starts)
begins_behind from (t ∷ ts) (suc i) d inside (part.more starts some rest) =
    let later = begins_behind t.span.end ts i d (omega (arith, inside)) rest in
    omega (arith, some, later)

pub number_within : (tokens : List Token) (i : ℕ) (d : Token) → i < length tokens → Tile 0 tokens → i ≤ (get_or tokens i d).span.start
number_within tokens i d inside tile = let behind = begins_behind 0 tokens i d inside tile in omega (arith, behind)

module _ (tokens : List Token) (i : ℕ) (d : Token) (inside : i < length tokens) where
  abbrev here : Token
  here = get_or tokens i d

  -- a hidden token is no more that is seen
  pub hidden_seen : here.hidden ≡ true → visible_of (take (i + 1) tokens) ≡ visible_of (take i tokens)
  hidden_seen hidden =
      filter_more (λ t. not t.hidden) tokens i d inside ∙ ap (λ b. visible_of (take i tokens) ++ cond (not b) (here ∷ []) []) hidden
      ∙ append-nil (visible_of (take i tokens))

  pub shown_seen : here.hidden ≡ false → visible_of (take (i + 1) tokens) ≡ visible_of (take i tokens) ++ here ∷ []
  shown_seen shown = filter_more (λ t. not t.hidden) tokens i d inside ∙ ap (λ b. visible_of (take i tokens) ++ cond (not b) (here ∷ []) []) shown

  pub shown_kinds : here.hidden ≡ false → kinds_seen (take (i + 1) tokens) ≡ kinds_seen (take i tokens) ++ here.kind.0 ∷ []
  shown_kinds shown = ap (map (λ t. t.kind.0)) (shown_seen shown) ∙ map-append (λ t. t.kind.0) (visible_of (take i tokens)) (here ∷ [])

  pub seen_shown : (ks : List ℕ) → here.hidden ≡ false → seen ks here ≡ ks ++ here.kind.0 ∷ []
  seen_shown ks shown = ap (λ b. cond b ks (ks ++ here.kind.0 ∷ [])) shown

  pub of_kind : (n : ℕ) → All (λ t. t.kind.0 < n) tokens → here.kind.0 < n
  of_kind n all = All-contains (λ t. t.kind.0 < n) tokens here all (Contains-get_or tokens i d inside)

  module _ (g : Grammar) (kinds : Kinds) where
    pub can_stand_past : here.hidden ≡ true → CanStand g kinds (take i tokens) → CanStand g kinds (take (i + 1) tokens)
    can_stand_past hidden = subst (λ visible. (visible ≡ []) ⊎ Starts g kinds (map (λ t. t.kind.0) visible)) (sym (hidden_seen hidden))

    pub is_first : (n : ℕ) → n ≡ i → here.hidden ≡ false → CanStand g kinds (take i tokens) → ¬ Starts g kinds (kinds_seen (take i tokens) ++ here.kind.0 ∷ []) →
        IsFirstImpossible g kinds tokens n here
    is_first n same shown follows cannot =
        subst (λ n. IsFirstImpossible g kinds tokens n here) (sym same)
        (record { there = slice_get-get_or tokens i d inside; shown = shown; follows = follows; cannot = cannot })
