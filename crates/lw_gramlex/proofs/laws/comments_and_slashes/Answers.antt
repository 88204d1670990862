-- By what the first two bytes are.
use Rattle.std.proofs.Common.{◌≢◌, ℕ, List, ◌∷◌, ◌++◌, length, take, refl, sym, ap, ◌∙◌, subst, arith, codes, append_assoc, take-append-drop}
use Rattle.std.proofs.lemmas.Str.{encode_ascii}
use Rattle.lw_gramlex.specs.declared.token.FileKind.TheVariants as kind
use Rattle.lw_gramlex.specs.FileTokens.{BeginsWith, IsHidden, IsFileToken}
use Rattle.lw_gramlex.proofs.HiddenLemmas.{hidden_none, both_comments, opened_same}
use Rattle.lw_gramlex.proofs.StringLemmas.{string_none_other}
use Rattle.lw_gramlex.proofs.RegexLemmas.{regex_none_star}
use Rattle.lw_gramlex.proofs.StepLemmas.{hidden_token, slash_no_word, slash_no_symbol}
use Rattle.lw_gramlex.proofs.laws.comments_and_slashes.Goals as goal

unclosed : (rest : List ℕ) → ((inside after : List ℕ) → rest ≢ inside ++ codes "*/" ++ after) → IsFileToken (codes "/*" ++ rest) kind.Other 1
unclosed rest no_end =
    let t = 47 ∷ 42 ∷ rest in
    let begun : BeginsWith t 47 = record { scalar = refl; after = 42 ∷ rest; parts = ap (λ x. x ++ 42 ∷ rest) (sym (encode_ascii 47 (omega arith))) } in
    subst (IsFileToken t kind.Other) (ap length (encode_ascii 47 (omega arith)))
    (IsFileToken.other 47 begun
    (hidden_none t 47 begun refl (λ r e. both_comments t r rest e refl)
    (λ behind e i within r at. no_end (take i behind) r (opened_same t rest behind refl e ∙ sym (take-append-drop i behind) ∙ ap (λ x. take i behind ++ x) at ∙ sym (append_assoc (take i behind) (codes "*/") r))))
    (slash_no_word t (42 ∷ rest) refl)
    (string_none_other t (42 ∷ rest) 47 refl (λ e. omega arith) (λ e. omega arith))
    (regex_none_star t (42 ∷ rest) 47 refl refl)
    (slash_no_symbol t (42 ∷ rest) refl))

pub returns : goal.returns
returns c = record { line = λ rest k n token. hidden_token (codes "//" ++ rest) _ n k (IsHidden.line_comment rest refl) token; block = unclosed }
