-- Places that are in a text: of tokens, of lists, of what runs over several tokens, and of the things that others hold.
use Rattle.std.proofs.Common.{ℕ, ◌≡◌, zero, suc, Bool, List, [], ◌∷◌, ◌++◌, map, refl, sym, subst, arith}
use Rattle.std.specs.Prelude.{All}
use Rattle.std.specs.List.{flat_map, AllByRecursion}
use Rattle.std.proofs.lemmas.List.Elements.{All-head, All-tail}
use Rattle.lw_base.specs.declared.token.Span.{Span}
use Rattle.lw_gramlex.specs.declared.token.FileKind.{FileKind}
use Rattle.lw_gramlex.specs.declared.token.FileKind.TheVariants as kind
use Rattle.lw_gramlex.specs.declared.token.FileToken.{FileToken}
use Rattle.lw_gramlex.specs.declared.token.Symbol.{Symbol}
use Rattle.lw_gramlex.specs.Places.{IsPlace}
use Rattle.lw_gramlex.specs.Values.{part_of}
use Rattle.lw_gramread.specs.declared.lexeme.Reserved.{Reserved}
use Rattle.lw_gramread.specs.declared.lexeme.Lexeme.{Lexeme}
use Rattle.lw_gramread.specs.Lexemes.{saying, lexeme_of, lexemes_of, place_of}
use Rattle.lw_gramread.specs.OptionalTokens.{MayTake, MayTakeWord}
use Rattle.lw_gramread.specs.Spans.{last_of, covering}
use Rattle.lw_gramread.specs.PlacesWithin.{IsWithin}

both : {X : Type 0} (P : X → Type 0) (xs ys : List X) → AllByRecursion P xs → AllByRecursion P ys → AllByRecursion P (xs ++ ys)
both P [] ys h k = k
both P (x ∷ xs) ys h k = (h.0, both P xs ys h.1 k)

-- what one thing and what stands behind it give
pub and_behind : {A B M R : Type 0} → A × M → (M → B × R) → (A × B) × R
and_behind a f = let b = f a.1 in ((a.0, b.0), b.1)

module _ (text : List ℕ) where
  abbrev pub AreWithin : List Span → Type 0
  AreWithin ss = AllByRecursion (IsWithin text) ss

  -- the tokens are of the text
  abbrev pub TokensWithin : List Lexeme → Type 0
  TokensWithin ts = AllByRecursion (λ t. IsWithin text (place_of t)) ts

  -- ---- things that hold others

  -- over the places of a thing
  module _ {X : Type 0} (spans : X → List Span) where
    abbrev pub EachWithin : List X → Type 0
    EachWithin xs = AllByRecursion (λ x. AreWithin (spans x)) xs

    pub each_both : (xs ys : List X) → EachWithin xs → EachWithin ys → EachWithin (xs ++ ys)
    each_both xs ys h k = both (λ x. AreWithin (spans x)) xs ys h k

    -- the places of all of them in a row
    pub all_of_each : (xs : List X) → EachWithin xs → AreWithin (flat_map spans xs)
    all_of_each [] h = tt
    all_of_each (x ∷ xs) h = both (IsWithin text) (spans x) (flat_map spans xs) h.0 (all_of_each xs h.1)

    pub all_of_mapped : (xs : List X) → EachWithin xs → AreWithin (flat_map (λ ss. ss) (map spans xs))
    all_of_mapped [] h = tt
    all_of_mapped (x ∷ xs) h = both (IsWithin text) (spans x) (flat_map (λ ss. ss) (map spans xs)) h.0 (all_of_mapped xs h.1)

  pub within_both : (ss us : List Span) → AreWithin ss → AreWithin us → AreWithin (ss ++ us)
  within_both ss us h k = both (IsWithin text) ss us h k

  -- ---- what runs over several

  last_within : (s : Span) (ss : List Span) → IsWithin text s → AreWithin ss → IsWithin text (last_of s ss)
  last_within s [] h k = h
  last_within s (t ∷ ts) h k = last_within t ts k.0 k.1

  pub covering_within : (s : Span) (ss : List Span) → AreWithin (s ∷ ss) → IsWithin text (covering (s ∷ ss))
  covering_within s ss h = (h.0.0, (last_within s ss h.0 h.1).1)

  -- ---- tokens that may be left out

  pub may_within : {x : Symbol} {ts rest : List Lexeme} {b : Bool} → MayTake x ts rest b → TokensWithin ts → TokensWithin rest
  may_within MayTake.left_out h = h
  may_within MayTake.there h = h.1

  pub word_within : {r : Reserved} {ts rest : List Lexeme} {b : Bool} → MayTakeWord r ts rest b → TokensWithin ts → TokensWithin rest
  word_within MayTakeWord.left_out h = h
  word_within MayTakeWord.there h = h.1

  -- ---- the tokens of a file

  place_said : (k : FileKind) (bytes : List ℕ) (s : Span) → place_of (saying k bytes s) ≡ s
  place_said kind.Word bytes s = refl
  place_said kind.Text bytes s = refl
  place_said (kind.Regex zero) bytes s = refl
  place_said (kind.Regex (suc flags)) bytes s = refl
  place_said (kind.Symbol x) bytes s = refl
  place_said kind.Other bytes s = refl

  token_within : (t : FileToken) → IsPlace text t.span → IsWithin text (place_of (lexeme_of text t))
  token_within t is = subst (IsWithin text) (sym (place_said t.kind (part_of text t.span) t.span)) (omega (arith, is.not_empty, is.within), is.within)

  pub tokens_within : (tokens : List FileToken) → All (λ t. IsPlace text t.span) tokens → TokensWithin (lexemes_of text tokens)
  tokens_within [] are = tt
  tokens_within (t ∷ ts) are =
      (token_within t (All-head (λ u. IsPlace text u.span) t ts are), tokens_within ts (All-tail (λ u. IsPlace text u.span) t ts are))
