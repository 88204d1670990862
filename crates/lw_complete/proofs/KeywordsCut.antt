-- A keyword behind the text before the word: whether it is one token there.
use Rattle.std.proofs.Common.{ℕ, ◌≡◌, ◌↔◌, ◌+◌, ◌-◌, ◌≤◌, List, [], ◌∷◌, ◌++◌, Bool, false, IsTrue, length, map, sym, ap, ◌∙◌, subst, arith, length-append, length-drop}
use Rattle.lw_base.specs.declared.token.Token.{Token}
use Rattle.lw_grammar.specs.Kinds.{Kinds}
use Rattle.lw_grammar.proofs.KindLemmas.{one_kinds}
use Rattle.lw_places.specs.Offers.{visible_token}
use Rattle.lw_places.specs.Words.{BeginsBy}
use Rattle.lw_lexer.specs.declared.recut.recut.Recut.{Recut}
use Rattle.lw_lexer.specs.Recut.{IsRecut, RecutterParts, added, added_behind}
use Rattle.lw_lexer.proofs.Behind.{same_moved}
use Rattle.lw_matching.specs.Parted.{moved}
use Rattle.lw_tokens.specs.Cut.{IsCut}
use Rattle.lw_tokens.specs.Lexicon.{IsLexicon, Lexicon}
use Rattle.lw_tokens.proofs.OnePattern.{one_lexicon}
use Rattle.lw_complete.specs.declared.typing.Typing.{Typing}
use Rattle.lw_complete.specs.Typing.{CutsBehind, IsTypedBy, grammar_of}

-- there is one lexicon
pub cuts_for : {of kinds : Kinds} {lexicon other : Lexicon} (typing : Typing) (recutter : RecutterParts) → IsTypedBy of lexicon typing → IsTypedBy kinds other typing →
    CutsBehind lexicon typing recutter → CutsBehind other typing recutter
cuts_for {of} {kinds} {lexicon} {other} typing recutter typed too cuts =
    let g = grammar_of typing in
    let same : lexicon ≡ other =
    one_lexicon g kinds lexicon other (subst (λ (k : Kinds). IsLexicon g k lexicon) (one_kinds g of kinds typed.are_kinds too.are_kinds) typed.is_lexicon) too.is_lexicon in
    subst (λ (l : Lexicon). CutsBehind l typing recutter) same cuts

same_place : (kind start other bytes : ℕ) → start ≡ other → visible_token kind start bytes ≡ visible_token kind other bytes
same_place kind start other bytes same = ap (λ (n : ℕ). visible_token kind n bytes) same

moved_token : (by kind start bytes : ℕ) → moved by (visible_token kind start bytes) ≡ visible_token kind (by + start) bytes
moved_token by kind start bytes =
    let ends : by + (start + bytes) ≡ by + start + bytes = omega arith in
    ap (λ (e : ℕ). record { kind = record { 0 = kind }; span = record { start = by + start; end = e }; hidden = false }) ends

one_moved : (by : ℕ) (t : Token) (ts : List Token) → map (moved by) ts ≡ moved by t ∷ [] → ts ≡ t ∷ []
one_moved by t [] same = absurd cc
one_moved by t (u ∷ []) same = ap (λ (x : Token). x ∷ []) (same_moved by u t cc)
one_moved by t (u ∷ v ∷ vs) same = absurd cc

pub tail_within : (recutter : RecutterParts) (more : List ℕ) (it : Recut) → IsRecut recutter more it → it.tail ≤ length it.tokens.items
tail_within recutter more it recut = omega (arith, recut.tail, ap length recut.are, length-append recutter.tokens (added it))

module _ (typing : Typing) (lexicon : Lexicon) (recutter : RecutterParts) (cuts : CutsBehind lexicon typing recutter) (keyword : List ℕ) (it : Recut)
    (recut : IsRecut recutter keyword it) (kind : ℕ) where
  abbrev here : Token
  here = visible_token kind (length it.text - length keyword) (length keyword)

  abbrev there : Token
  there = visible_token kind (length typing.front.now) (length keyword)

  pub fits : length keyword ≤ length it.text
  fits = omega (arith, ap length recut.text, length-append recutter.text keyword)

  place : it.from + (length it.text - length keyword) ≡ length typing.front.now
  place =
      omega (
        arith,
        ap length recut.text,
        length-append recutter.text keyword,
        recut.from,
        ap length cuts.end.text,
        length-drop recutter.from typing.front.now,
        cuts.end.within,
      )

  moved_there : moved it.from here ≡ there
  moved_there = moved_token it.from kind (length it.text - length keyword) (length keyword) ∙ same_place kind _ _ (length keyword) place

  abbrev IsKeywordCut : Type 0
  IsKeywordCut = IsCut lexicon (typing.front.now ++ keyword) (typing.tokens.now ++ there ∷ [])

  pub next_alone : BeginsBy typing.word.now keyword → IsCut lexicon (typing.front.now ++ keyword) (typing.tokens.now ++ added_behind it) ×
      ((others : List Token) → IsCut lexicon (typing.front.now ++ keyword) (typing.tokens.now ++ others) → others ≡ added_behind it) → (r : Bool) →
      IsTrue r ↔ (added it ≡ here ∷ []) → IsTrue r ↔ (BeginsBy typing.word.now keyword × IsKeywordCut)
  next_alone begins (cut, only) r told = (
    λ yes. (
      begins,
      subst (λ (ts : List Token). IsCut lexicon (typing.front.now ++ keyword) (typing.tokens.now ++ ts))
          (ap (map (moved it.from)) (told.0 yes) ∙ ap (λ (t : Token). t ∷ []) moved_there) cut,
    ),
    λ (word, is). told.1 (one_moved it.from here (added it) (sym (only (there ∷ []) is) ∙ ap (λ (t : Token). t ∷ []) (sym moved_there))),
  )
