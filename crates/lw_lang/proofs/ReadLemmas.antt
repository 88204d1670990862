-- What a language reads, by what it keeps.
use Rattle.std.proofs.Common.{◌≡◌, ℕ, ◌+◌, ◌<◌, ◌≤◌, List, length, All, Result, Ok, Err, IfOk, arith, sym, subst, ap, length-append, length-drop, drop, encode_utf8, ◌∙◌}
use Rattle.lw_base.specs.declared.token.Span.{Span}
use Rattle.lw_base.specs.declared.token.Token.{Token}
use Rattle.lw_base.specs.declared.limits.TheConstants.{LONGEST_DOCUMENT}
use Rattle.lw_grammar.specs.KindTexts.{texts_of}
use Rattle.lw_lexer.specs.TokenPlaces.{IsTokenPlace}
use Rattle.lw_tokens.specs.Cut.{IsCut, HasNoTokenAt, IsCharacterAt}
use Rattle.lw_tree.specs.declared.issue.Issue.TheVariants.{Lexical}
use Rattle.lw_reading.specs.declared.parsed.Parsed.{Parsed}
use Rattle.lw_reading.specs.declared.parsed.Parsed.TheVariants.{Broken}
use Rattle.lw_reading.specs.Reading.{Reads, ReadsBy}
use Rattle.lw_reading.specs.Reading as reading
use Rattle.lw_gramread.specs.PlacesWithin.{IsWithin}
use Rattle.lw_lang.specs.Language.{LanguageView}
use Rattle.lw_reading.specs.Issues.{IfBroken, IsNamed}
use Rattle.lw_lang.specs.Parsing.{CanParse}
use Rattle.lw_lang.specs.Ready.{seen_as, IsLanguageReady}
use Rattle.lw_lang.specs.declared.language.Language.TheInside.{Inside}

module _ (l : Inside) (seen : LanguageView) (is : seen_as l ≡ seen) (ready : IsLanguageReady l) (text : List ℕ) where
  pub can_parse : (tokens : List Token) → IsCut l.tokens.lexicon text tokens → All (IsTokenPlace text) tokens →
      CanParse l.grammar ready.of l.tokens.lexicon l.parser text tokens
  can_parse tokens cut places = record { depth = l.parser.k; parses = ready.parses; is_lexicon = ready.lexicon; cut = cut; places = places }

  module _ (short : length text ≤ LONGEST_DOCUMENT) where
    pub read_fault : (s : Span) → HasNoTokenAt l.tokens.lexicon text s.start → IsCharacterAt text s → Reads seen.grammar text (Broken (Lexical s))
    read_fault s none at =
        subst (λ v. Reads v.grammar text (Broken (Lexical s))) is (reading.read ready.of l.tokens.lexicon short ready.kinds ready.lexicon (reading.lexical s none at))

    pub read_tokens : {E : Type 0} (result : Result Parsed E) → IfOk result (ReadsBy l.grammar ready.of l.tokens.lexicon text) → IfOk result (Reads seen.grammar text)
    read_tokens (Ok parsed) reads = subst (λ v. Reads v.grammar text parsed) is (reading.read ready.of l.tokens.lexicon short ready.kinds ready.lexicon reads)
    read_tokens (Err e) reads = tt

  pub named : {E : Type 0} (result : Result Parsed E) → IfOk result (λ parsed. IfBroken parsed (IsNamed (texts_of ready.of))) →
      IfOk result (λ parsed. IfBroken parsed (IsNamed seen.texts))
  named (Ok parsed) names =
      subst (λ v. IfBroken parsed (IsNamed v.texts)) is (subst (λ texts. IfBroken parsed (IsNamed texts)) (sym ready.texts) names)
  named (Err e) names = tt

-- a character stands inside the text
pub character_within : (text : List ℕ) (s : Span) → s.start < length text → IsCharacterAt text s → IsWithin text s
character_within text s inside at =
    let behind : length (drop s.start text) ≡ length (encode_utf8 at.0) + length at.2 = ap length at.3 ∙ length-append (encode_utf8 at.0) at.2 in
    (omega (arith, inside), omega (arith, inside, behind, at.4, length-drop s.start text))
