-- Bytes before which a text is the next token, whatever follows them.
use Rattle.std.proofs.Common.{ℕ, ◌≡◌, ◌<◌, false, List, replicate, slice_index_or, inl, inr, arith, [], ◌∷◌, ◌++◌, All, Option, Some, option_map, append_assoc, refl, sym, ap, subst, ◌∙◌}
use Rattle.std.proofs.lemmas.Bool.{cases_lt}
use Rattle.std.proofs.Math.ListN.{get_or-eq_default}
use Rattle.std.proofs.lemmas.List.{get_or-replicate, length-replicate}
use Rattle.regex_nfa.specs.declared.nfa.Nfa.{Nfa}
use Rattle.lw_matching.specs.Nfas.{AreNfas}
use Rattle.lw_matching.specs.Next.{NextStays}
use Rattle.lw_tokens.specs.Lexicon.{Lexicon}
use Rattle.lw_tokens.specs.NextToken.{IsNextToken}
use Rattle.lw_lexer.specs.Fronts.{IsEnd}
use Rattle.lw_lexer.specs.Place.{next_of}
use Rattle.lw_lexer.specs.declared.next.Next.{Next}

-- the next token of the text with the byte behind it is known to stay so
pub stays_before : (lexicon : Lexicon) (keywords : List (List ℕ)) (nfas : List Nfa) (text longer : List ℕ) (byte : ℕ) (found : Option Next) (own : Next) →
    longer ≡ text ++ byte ∷ [] → found ≡ Some own → IsNextToken lexicon longer (option_map next_of found) → keywords ≡ lexicon.keywords →
    AreNfas lexicon.terminals nfas → NextStays keywords nfas longer (Some own.kind) → IsEnd lexicon text own byte
stays_before lexicon keywords nfas text longer byte found own are is next keywords_are automata stays = λ more small.
    let whole : longer ++ more ≡ text ++ byte ∷ more = ap (λ (xs : List ℕ). xs ++ more) are ∙ append_assoc text (byte ∷ []) more in
    subst (λ (xs : List ℕ). IsNextToken lexicon xs (Some (next_of own))) whole
    (stays.stays lexicon (sym keywords_are) automata (Some (next_of own)) refl
    (subst (λ (one : Option Next). IsNextToken lexicon longer (option_map next_of one)) is next) more
    (subst (All (λ b. b < 256)) (sym whole) small))

-- flags that are all off
pub all_off : (byte : ℕ) → slice_index_or (replicate 256 false) byte false ≡ false
all_off byte = elim (cases_lt byte 256) [
  | inl below ↦ get_or-replicate 256 byte false false below
  | inr past ↦ get_or-eq_default (replicate 256 false) false {n = byte} (omega (arith, past, length-replicate 256 false))
]
