-- What the tokens of a text read as, from what the parser answers.
use Rattle.std.proofs.Common.{◌≡◌, if◌then◌else◌, ℕ, zero, suc, ◌+◌, ◌<◌, List, [], ◌∷◌, ◌++◌, Some, Bool, true, false, not, length, take, drop, slice_get, All, refl, sym, ap, ◌∙◌, subst, arith, length-append}
use Rattle.std.proofs.lemmas.List.{map-append, length-map}
use Rattle.std.proofs.lemmas.List.Elements.{All-head, All-tail, filter-append}
use Rattle.std.proofs.lemmas.Option.{none-some, same_Some}
use Rattle.lw_base.specs.declared.token.Token.{Token}
use Rattle.lw_grammar.specs.declared.grammar.Grammar.{Grammar}
use Rattle.lw_grammar.specs.Kinds.{Kinds, kind_count}
use Rattle.lw_grammar.specs.KindTexts.{texts_of}
use Rattle.lw_grammar.specs.Sentences.{Starts}
use Rattle.lw_lexer.specs.TokenPlaces.{IsTokenPlace}
use Rattle.lw_parse.specs.Outcomes.{IsOnlyTree, IsFirstImpossible, EndsShort}
use Rattle.lw_parse.specs.Parsers.{ParserParts, AreOfKinds}
use Rattle.lw_reading.specs.Reading as reading
use Rattle.lw_reading.specs.Reading.{IsFirstUnexpected, EndsEarly, ReadsBy}
use Rattle.lw_reading.specs.declared.parsed.Parsed.TheVariants.{Whole, Broken}
use Rattle.lw_gramread.specs.PlacesWithin.{IsWithin}
use Rattle.lw_tokens.specs.Cut.{visible}
use Rattle.lw_tokens.specs.Lexicon.{Lexicon, IsLexicon, HasForm}
use Rattle.lw_tree.specs.Parts.{Parts}
use Rattle.lw_tree.specs.declared.issue.Issue.TheVariants.{Syntax, End}
use Rattle.std.specs.List.{AllZip}
use Rattle.lw_lang.specs.Parsing.{CanParse}
use Rattle.lw_reading.specs.Within.{StandsInText}
use Rattle.lw_reading.proofs.InText.{tree_in}
use Rattle.lw_lang.proofs.CutPlaces.{all_known, stand_in_row}

length-AllZip : {A B : Type 0} (R : A → B → Type 0) (xs : List A) (ys : List B) → AllZip R xs ys → length xs ≡ length ys
length-AllZip R [] [] h = refl
length-AllZip R [] (y ∷ ys) h = absurd h
length-AllZip R (x ∷ xs) [] h = absurd h
length-AllZip R (x ∷ xs) (y ∷ ys) h = omega (arith, length-AllZip R xs ys h.1)

-- as many kinds as the lexicon has
pub counted : (g : Grammar) (of : Kinds) (lexicon : Lexicon) → IsLexicon g of lexicon → length lexicon.keywords + length lexicon.terminals ≡ kind_count of
counted g of lexicon is =
    let keywords = ap length is.keywords in
    let terminals : length of.terminals ≡ length lexicon.terminals = length-AllZip (HasForm g) of.terminals lexicon.terminals is.terminals in
    omega (arith, keywords, terminals)

-- there is one text for each kind
pub length-texts_of : (of : Kinds) → length (texts_of of) ≡ kind_count of
length-texts_of of = simp (length-append, length-map) refl

-- ---- a list cut at a place

cut_at : {X : Type 0} (xs : List X) (n : ℕ) (x : X) → slice_get xs n ≡ Some x → xs ≡ take n xs ++ x ∷ drop (suc n) xs
cut_at [] n x is = absurd (none-some x is)
cut_at (y ∷ ys) zero x is = ap (λ z. z ∷ ys) (same_Some y x is)
cut_at (y ∷ ys) (suc n) x is = ap (λ zs. y ∷ zs) (cut_at ys n x is)

at_cut : {X : Type 0} (P : X → Type 0) (xs : List X) (n : ℕ) (x : X) → slice_get xs n ≡ Some x → All P xs → P x
at_cut P [] n x is all = absurd (none-some x is)
at_cut P (y ∷ ys) zero x is all = subst P (same_Some y x is) (All-head P y ys all)
at_cut P (y ∷ ys) (suc n) x is all = at_cut P ys n x is (All-tail P y ys all)

shown_first : (t : Token) (ts : List Token) → t.hidden ≡ false → visible (t ∷ ts) ≡ t ∷ visible ts
shown_first t ts shown = by t.hidden shown
  where
    by : (b : Bool) → b ≡ false → (if not b then t ∷ visible ts else visible ts) ≡ t ∷ visible ts
    by false is = refl
    by true is = cc

module _ (g : Grammar) (of : Kinds) (lexicon : Lexicon) (parser : ParserParts) (text : List ℕ) (tokens : List Token) (can : CanParse g of lexicon parser text tokens) where
  -- ---- what the parser is to know

  pub of_kinds : AreOfKinds of tokens
  of_kinds = let P : ℕ → Type 0 = λ n. All (λ (t : Token). t.kind.0 < n) tokens in subst P (counted g of lexicon can.is_lexicon) (all_known lexicon text can.cut)

  -- ---- what it answers

  pub reads_tree : (tree : Parts) → IsOnlyTree g of text tokens tree → ReadsBy g of lexicon text (Whole tree)
  reads_tree tree is = reading.whole tokens is.marks can.cut is.one.sentence is.one.kinds_are is.tree

  first_unexpected : (number : ℕ) (t : Token) → IsFirstImpossible g of tokens number t → IsFirstUnexpected g of (visible tokens) t
  first_unexpected number t is =
      let before = visible (take number tokens) in
      let after = visible (drop (suc number) tokens) in
      record {
        before = before;
        after = after;
        parts = ap visible (cut_at tokens number t is.there) ∙ filter-append (λ (x : Token). not x.hidden) (take number tokens) (t ∷ drop (suc number) tokens)
            ∙ ap (λ ts. before ++ ts) (shown_first t (drop (suc number) tokens) is.shown);
        follows = is.follows;
        cannot = λ starts. is.cannot (subst (Starts g of) (map-append (λ (x : Token). x.kind.0) before (t ∷ [])) starts);
      }

  pub reads_unexpected : (number : ℕ) (t : Token) → IsFirstImpossible g of tokens number t → ReadsBy g of lexicon text (Broken (Syntax t.span t.kind))
  reads_unexpected number t is = reading.syntax_ tokens t can.cut (first_unexpected number t is)

  pub reads_end : (at : ℕ) → at ≡ length text → EndsShort g of tokens → ReadsBy g of lexicon text (Broken (End at))
  reads_end at same is =
      let early : EndsEarly g of (visible tokens) = record { follows = is.follows; not_whole = is.not_whole } in
      subst (λ n. ReadsBy g of lexicon text (Broken (End n))) (sym same) (reading.end_ tokens can.cut early)

  -- ---- the token that it names

  pub named_unexpected : (number : ℕ) (t : Token) → IsFirstImpossible g of tokens number t → t.kind.0 < length (texts_of of)
  named_unexpected number t is =
      let below = at_cut (λ (x : Token). x.kind.0 < kind_count of) tokens number t is.there of_kinds in omega (arith, below, length-texts_of of)

  pub within_unexpected : (number : ℕ) (t : Token) → IsFirstImpossible g of tokens number t → IsWithin text t.span
  within_unexpected number t is =
      let place = at_cut (IsTokenPlace text) tokens number t is.there can.places in (omega (arith, place.not_empty, place.within), place.within)

  -- ---- where its tree stands

  pub tree_stands : (tree : Parts) → IsOnlyTree g of text tokens tree → StandsInText text tree
  tree_stands tree is = tree_in g text is.marks (visible tokens) tokens tree (stand_in_row lexicon text can.cut can.places) is.tree
