-- Each fault of a text and each list of diagnostics can be shown: places have positions, and the kinds of tokens have texts.
use Rattle.std.proofs.Common.{◌≡◌, ℕ, ◌+◌, ◌<◌, List, [], ◌∷◌, Contains, Option, IfSome, get_or, length, map, not, inl, inr, ◌⊎◌, refl, sym, ap, subst, arith}
use Rattle.std.specs.List.{AllZip}
use Rattle.std.specs.Str.{IsUtf8}
use Rattle.std.proofs.lemmas.List.{length-append, length-map}
use Rattle.std.proofs.lemmas.Option.{slice_get_within, slice_get-get_or}
use Rattle.std.proofs.lemmas.Slice.Zip.{AllZip-long}
use Rattle.lw_base.specs.declared.token.Token.{Token}
use Rattle.lw_grammar.specs.declared.grammar.Grammar.{Grammar}
use Rattle.lw_grammar.specs.Kinds.{Kinds, AreKinds, kind_count}
use Rattle.lw_grammar.specs.KindTexts.{IsKindText, quoted, texts_of}
use Rattle.lw_text.specs.declared.shown.Shown.{Shown}
use Rattle.lw_tokens.specs.Lexicon.{Lexicon, HasForm, IsLexicon}
use Rattle.lw_tokens.specs.NextToken as next
use Rattle.lw_tokens.specs.NextToken.{Next, IsNextToken}
use Rattle.lw_tokens.specs.Cut as cut
use Rattle.lw_tokens.specs.Cut.{IsCutTo, token_at, visible}
use Rattle.lw_reading.specs.Reading as reading
use Rattle.lw_reading.specs.Reading.{IsFirstUnexpected, Reads, ReadsBy}
use Rattle.lw_reading.specs.declared.parsed.Parsed.{Parsed}
use Rattle.lw_reading.specs.declared.parsed.Parsed.TheVariants.{Whole, Broken}
use Rattle.lw_link_rules.specs.Diagnostics.{IsDiagnosticShown}
use Rattle.lw_link_rules.specs.Faults.{IsShownAt, IsFaultShown, lexical, syntax_, end_, too_large, too_large_shown, unexpected}
use Rattle.lw_link_rules.specs.TreeDiagnostics.{Diagnostic}
use Rattle.lw_machine.proofs.Finite.{here, here_or_there, nothing, behind, in_either}
use Rattle.lw_machine.proofs.Nodes.{from_filter}
use Rattle.lw_machine.proofs.Positions.{some_position}

-- ---- places
module _ (text : List ℕ) (utf8 : IsUtf8 text) where
  shown_at : (from to code : ℕ) (message : List ℕ) → (shown : Shown) × IsShownAt text from to code message shown
  shown_at from to code message =
      let start = some_position text from utf8 in
      let end = some_position text to utf8 in (
        record { start = start.0; end = end.0; code = code; message = message },
        record { begins = start.1; ends = end.1; coded = refl; says = refl },
      )

  pub all_shown : (diagnostics : List Diagnostic) → (list : List Shown) × AllZip (IsDiagnosticShown text) diagnostics list
  all_shown [] = ([], tt)
  all_shown (e ∷ es) =
      let one = shown_at e.span.start e.span.end e.code e.message in
      let others = all_shown es in
      (one.0 ∷ others.0, (one.1, others.1))

-- ---- kinds
-- how many kinds the tokens have
abbrev count : Lexicon → ℕ
count lexicon = length lexicon.keywords + length lexicon.terminals

module _ (lexicon : Lexicon) (text : List ℕ) where
  next_known : (rest : List ℕ) {o : Option Next} → IsNextToken lexicon rest o → IfSome o (λ n. n.kind < count lexicon)
  next_known rest (next.longer_terminal {i} {form} longest over there) =
      let within = slice_get_within lexicon.terminals i form there in omega arith
  next_known rest (next.keyword {k} longest none) =
      let within = slice_get_within lexicon.keywords k longest.keyword longest.there in omega arith
  next_known rest (next.terminal {i} {form} none over there) = let within = slice_get_within lexicon.terminals i form there in omega arith
  next_known rest (next.no_token none over) = tt

  token_known : {at : ℕ} {tokens : List Token} → IsCutTo lexicon text at tokens → (t : Token) → Contains tokens t → t.kind.0 < count lexicon
  token_known cut.start t has = absurd (nothing t has)
  token_known (cut.then {at} {tokens} {next = n} before inside is) t has =
      by (in_either tokens (token_at at n ∷ []) t has) (token_known before t)
    where
      last : (token_at at n ≡ t) ⊎ Contains [] t → t.kind.0 < count lexicon
      last (inl same) = subst (λ (x : Token). x.kind.0 < count lexicon) same (next_known _ is)
      last (inr none) = absurd (nothing t none)

      by : Contains tokens t ⊎ Contains (token_at at n ∷ []) t → (Contains tokens t → t.kind.0 < count lexicon) → t.kind.0 < count lexicon
      by (inl front) rest = rest front
      by (inr back) rest = last (here_or_there (token_at at n) [] t back)

module _ (g : Grammar) where
  kind_text : (of : Kinds) → AreKinds g of → (k : ℕ) → k < kind_count of → (kind : List ℕ) × IsKindText g k kind
  kind_text of are k within =
      let long : length (texts_of of) ≡ kind_count of =
      omega (
        arith,
        length-append (map quoted of.keywords) (map (λ terminal. terminal.name) of.terminals),
        length-map of.keywords quoted,
        length-map of.terminals (λ terminal. terminal.name),
      ) in
      (get_or (texts_of of) k [], (texts_of of, (of, are, refl), slice_get-get_or (texts_of of) k [] (omega (arith, within, long))))

  lexicon_kinds : (of : Kinds) (lexicon : Lexicon) → IsLexicon g of lexicon → count lexicon ≡ kind_count of
  lexicon_kinds of lexicon is =
      omega (arith, ap length is.keywords, AllZip-long (HasForm g) of.terminals lexicon.terminals is.terminals)

  module _ (text : List ℕ) (utf8 : IsUtf8 text) where
    -- a fault can be shown
    abbrev ShownIfBroken : Parsed → Type 0
    ShownIfBroken (Broken issue) = (shown : Shown) × IsFaultShown g text issue shown
    ShownIfBroken (Whole tree) = Unit {0}

    shown_by : (of : Kinds) (lexicon : Lexicon) → AreKinds g of → IsLexicon g of lexicon → (parsed : Parsed) →
        ReadsBy g of lexicon text parsed → ShownIfBroken parsed
    shown_by of lexicon are is parsed (reading.lexical s none at) =
        let shown = shown_at text utf8 s.start s.end 1 _ in (shown.0, lexical shown.1)
    shown_by of lexicon are is parsed (reading.whole tokens m cut sentence kinds tree) = tt
    shown_by of lexicon are is parsed (reading.syntax_ tokens t is_cut first) =
        let has : Contains (visible tokens) t =
        subst (λ ts. Contains ts t) (sym first.parts) (behind first.before (t ∷ first.after) t (here t first.after)) in
        let known = token_known lexicon text is_cut t (from_filter (λ t. not t.hidden) tokens t has) in
        let kind = kind_text of are t.kind.0 (omega (arith, known, lexicon_kinds of lexicon is)) in
        let shown = shown_at text utf8 t.span.start t.span.end 2 (unexpected kind.0) in
        (shown.0, syntax_ kind.0 kind.1 shown.1)
    shown_by of lexicon are is parsed (reading.end_ tokens is_cut early) =
        let shown = shown_at text utf8 (length text) (length text) 2 _ in (shown.0, end_ shown.1)

    pub fault_shown : (parsed : Parsed) → Reads g text parsed → ShownIfBroken parsed
    fault_shown parsed (reading.too_large long) = (too_large_shown, too_large)
    fault_shown parsed (reading.read {parsed = p} of lexicon short are is reads) = shown_by of lexicon are is p reads
