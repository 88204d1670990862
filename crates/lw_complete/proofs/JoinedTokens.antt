-- The tokens of a text, and those of another behind them: they stand side by side, and each is a part of the text that both make.
use Rattle.std.proofs.Common.{◌≡◌, ℕ, zero, suc, ◌+◌, ◌<◌, ◌≤◌, List, [], ◌∷◌, ◌++◌, length, map, drop, get_or, inl, inr, refl, sym, ap, ◌∙◌, subst, arith}
use Rattle.std.specs.Str.{IsCharBoundary, IsUtf8}
use Rattle.std.proofs.lemmas.Bool.{cases_lt}
use Rattle.std.proofs.lemmas.List.{drop-append-le, drop_all, length-append}
use Rattle.std.proofs.lemmas.List.Elements.{All-append, All-map, All-weaker}
use Rattle.std.proofs.lemmas.Str.{IsCharBoundary-at_seam, IsCharBoundary-from_rest}
use Rattle.lw_base.specs.declared.token.Token.{Token}
use Rattle.lw_builder.specs.Built.{ArePartsOf}
use Rattle.lw_gramlex.specs.Places.{IsPlace}
use Rattle.lw_places.specs.Starting.{moved_by}
use Rattle.lw_tokens.specs.Cut.{IsCut, IsCutTo, token_at}
use Rattle.lw_tokens.specs.Cut as cut
use Rattle.lw_tokens.specs.Lexicon.{Lexicon}
use Rattle.lw_tree.specs.Parts.{Tile}
use Rattle.lw_tree.specs.Parts as parts
use Rattle.lw_complete.specs.declared.starting.Blank.{Blank}
use Rattle.lw_complete.specs.declared.typing.Typing.{Typing}
use Rattle.lw_grammar.specs.Kinds.{AreKinds, Kinds}
use Rattle.lw_parse.specs.Parsers.{AreOfKinds}
use Rattle.lw_complete.specs.Starts.{IsBlank}
use Rattle.lw_complete.specs.Typing.{IsTypedBy, grammar_of}

-- ---- side by side

-- the tokens from one place on end at another
abbrev EndAt : ℕ → List Token → ℕ → Type 0
EndAt from [] at = from ≡ at
EndAt from (t ∷ ts) at = EndAt t.span.end ts at

last_ends : (from : ℕ) (ts : List Token) (t : Token) → EndAt from (ts ++ t ∷ []) t.span.end
last_ends from [] t = refl
last_ends from (x ∷ ts) t = last_ends x.span.end ts t

cut_ends : {lexicon : Lexicon} {text : List ℕ} {at : ℕ} {tokens : List Token} → IsCutTo lexicon text at tokens → EndAt 0 tokens at
cut_ends cut.start = refl
cut_ends (cut.then {at} {tokens} {next} before inside is) = last_ends 0 tokens (token_at at next)

tile_both : (from at : ℕ) (ts us : List Token) → Tile from ts → EndAt from ts at → Tile at us → Tile from (ts ++ us)
tile_both from at [] us parts.none ends others = subst (λ k. Tile k us) (sym ends) others
tile_both from at (t ∷ ts) us (parts.more start below rest) ends others = parts.more start below (tile_both t.span.end at ts us rest ends others)

tile_moved : (n from : ℕ) (ts : List Token) → Tile from ts → Tile (n + from) (map (moved_by n) ts)
tile_moved n from [] parts.none = parts.none
tile_moved n from (t ∷ ts) (parts.more start below rest) =
    parts.more (ap (λ k. n + k) start) (omega (arith, below)) (tile_moved n t.span.end ts rest)

joined_tile : {lexicon : Lexicon} {front : List ℕ} (tokens others : List Token) → IsCut lexicon front tokens → Tile 0 tokens → Tile 0 others →
    Tile 0 (tokens ++ map (moved_by (length front)) others)
joined_tile {front} tokens others is first then =
    tile_both 0 (length front) tokens (map (moved_by (length front)) others) first (cut_ends is)
    (subst (λ k. Tile k (map (moved_by (length front)) others)) (omega arith) (tile_moved (length front) 0 others then))

-- ---- parts

same_byte : (xs ys : List ℕ) (i : ℕ) → i < length xs → get_or (xs ++ ys) i 0 ≡ get_or xs i 0
same_byte [] ys i inside = absurd (omega (arith, inside))
same_byte (x ∷ xs) ys zero inside = refl
same_byte (x ∷ xs) ys (suc i) inside = same_byte xs ys i (omega (arith, inside))

module _ (front rest : List ℕ) (utf8 : IsUtf8 rest) where
  longer : length (front ++ rest) ≡ length front + length rest
  longer = length-append front rest

  in_front : (i : ℕ) → IsCharBoundary front i → IsCharBoundary (front ++ rest) i
  in_front i is = elim (cases_lt i (length front)) [
    | inl below ↦ (omega (arith, longer, is.0), λ inside high. subst (λ b. 192 ≤ b) (sym (same_byte front rest i below)) (is.1 below (subst (λ b. 128 ≤ b) (same_byte front rest i below) high)))
    | inr above ↦
        let end : length front ≡ i = omega (arith, above, is.0) in
        subst (IsCharBoundary (front ++ rest)) end (IsCharBoundary-at_seam (front ++ rest) front rest refl utf8)
  ]

  behind : drop (length front) (front ++ rest) ≡ rest
  behind = drop-append-le (length front) front rest (omega arith) ∙ ap (λ xs. xs ++ rest) (drop_all (length front) front (omega arith))

  in_rest : (i : ℕ) → IsCharBoundary rest i → IsCharBoundary (front ++ rest) (length front + i)
  in_rest i is =
      IsCharBoundary-from_rest (front ++ rest) (length front) i (omega (arith, longer)) (subst (λ xs. IsCharBoundary xs i) (sym behind) is)

  joined_parts : (tokens others : List Token) → ArePartsOf front tokens → ArePartsOf rest others →
      ArePartsOf (front ++ rest) (tokens ++ map (moved_by (length front)) others)
  joined_parts tokens others first then =
      All-append (λ t. IsPlace (front ++ rest) t.span) tokens (map (moved_by (length front)) others)
      (All-weaker (λ t. IsPlace front t.span) (λ t. IsPlace (front ++ rest) t.span) place_in_front tokens first)
      (All-map (λ t. IsPlace (front ++ rest) t.span) (moved_by (length front)) others
      (All-weaker (λ t. IsPlace rest t.span) (λ t. IsPlace (front ++ rest) (moved_by (length front) t).span) place_in_rest others then))
    where
      place_in_front : (t : Token) → IsPlace front t.span → IsPlace (front ++ rest) t.span
      place_in_front t place = record {
        not_empty = place.not_empty;
        within = omega (arith, longer, place.within);
        starts = in_front t.span.start place.starts;
        ends = in_front t.span.end place.ends;
      }

      place_in_rest : (t : Token) → IsPlace rest t.span → IsPlace (front ++ rest) (moved_by (length front) t).span
      place_in_rest t place = record {
        not_empty = omega (arith, place.not_empty);
        within = omega (arith, longer, place.within);
        starts = in_rest t.span.start place.starts;
        ends = in_rest t.span.end place.ends;
      }

-- ---- the text without the word

pub is_blank : {of : Kinds} {lexicon : Lexicon} (typing : Typing) → IsTypedBy of lexicon typing → IsUtf8 typing.rest.now → (blank : Blank) →
    IsCut lexicon typing.rest.now blank.others.items → ((others : List Token) → IsCut lexicon typing.rest.now others → others ≡ blank.others.items) →
    ((of : Kinds) → AreKinds (grammar_of typing) of → AreOfKinds of blank.others.items) → Tile 0 blank.others.items → ArePartsOf typing.rest.now blank.others.items →
    blank.text ≡ typing.front.now ++ typing.rest.now → blank.tokens.items ≡ typing.tokens.now ++ map (moved_by (length typing.front.now)) blank.others.items →
    IsBlank typing lexicon blank
is_blank typing typed utf8 blank is only of_kinds tile are text tokens = record {
  text = text;
  cut = is;
  only = only;
  of_kinds = of_kinds;
  tokens = tokens;
  tile = subst (Tile 0) (sym tokens) (joined_tile typing.tokens.now blank.others.items typed.cut typed.tile tile);
  parts = let P : List ℕ → List Token → Type 0 = ArePartsOf in
      subst (λ (text : List ℕ). P text blank.tokens.items) (sym text)
      (subst (P (typing.front.now ++ typing.rest.now)) (sym tokens)
      (joined_parts typing.front.now typing.rest.now utf8 typing.tokens.now blank.others.items typed.parts are));
}
