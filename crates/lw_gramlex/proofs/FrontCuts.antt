-- A cut of the front of a text is the front of its cut.
use Rattle.std.proofs.Common.{◌≡◌, ◌<◌, ℕ, ◌+◌, List, [], ◌∷◌, ◌++◌, length, drop, refl, sym, ap, ◌∙◌, subst, arith, append_assoc}
use Rattle.lw_gramlex.specs.declared.token.FileKind.{FileKind}
use Rattle.lw_gramlex.specs.declared.token.FileToken.{FileToken}
use Rattle.lw_gramlex.specs.FileTokens.{IsHidden, IsFileToken}
use Rattle.lw_gramlex.specs.FileCut.{IsFileCutTo, IsFileCut}
use Rattle.lw_gramlex.proofs.HiddenLemmas.{hidden_same}
use Rattle.lw_gramlex.proofs.StepLemmas.{hidden_token, token_same}
use Rattle.lw_gramlex.proofs.CutLemmas.{IsCutFrom, token_from, whole}
use Rattle.lw_gramlex.proofs.CutLemmas as cut

module _ (text : List ℕ) where
  hidden_on : {at : ℕ} {more : List FileToken} (n : ℕ) → IsCutFrom text at more → at < length text → IsHidden (drop at text) n → IsCutFrom text (at + n) more
  hidden_on n (cut.done e) within hidden = absurd (omega arith)
  hidden_on {at} {more} n (cut.passed m lt other after) within hidden =
      subst (λ k. IsCutFrom text (at + k) more) (hidden_same (drop at text) m n other hidden) after
  hidden_on {at} n (cut.then {kind} m lt token after) within hidden = absurd (hidden_token (drop at text) n m kind hidden token)

  token_on : {at : ℕ} {more : List FileToken} (n : ℕ) (kind : FileKind) → IsCutFrom text at more → at < length text → IsFileToken (drop at text) kind n →
      (others : List FileToken) × (more ≡ token_from at n kind ∷ others) × IsCutFrom text (at + n) others
  token_on n kind (cut.done e) within token = absurd (omega arith)
  token_on {at} n kind (cut.passed m lt hidden after) within token = absurd (hidden_token (drop at text) m n kind hidden token)
  token_on {at} n kind (cut.then {tokens = ys} {kind = other} m lt also after) within token =
      let same = token_same (drop at text) other kind m n also token in
      (ys, ap (λ k. token_from at m k ∷ ys) same.0 ∙ ap (λ k. token_from at k kind ∷ ys) same.1, subst (λ k. IsCutFrom text (at + k) ys) same.1 after)

  front_from : (at : ℕ) (front all : List FileToken) → IsFileCutTo text at front → IsCutFrom text 0 all → (more : List FileToken) × (all ≡ front ++ more) × IsCutFrom text at more
  front_from _ _ all IsFileCutTo.start after = (all, refl, after)
  front_from _ front all (IsFileCutTo.passed {at} {n} before within hidden) after =
      let r = front_from at front all before after in
      (r.0, r.1, hidden_on n r.2 within hidden)
  front_from _ _ all (IsFileCutTo.then {at} {n} {tokens = front} {kind} before within token) after =
      let r = front_from at front all before after in
      let q = token_on n kind r.2 within token in
      (q.0, r.1 ∙ ap (λ xs. front ++ xs) q.1 ∙ sym (append_assoc front (token_from at n kind ∷ []) q.0), q.2)

  pub front_cut : (at : ℕ) (front all : List FileToken) → IsFileCutTo text at front → IsFileCut text all → (more : List FileToken) × (all ≡ front ++ more)
  front_cut at front all a b = let r = front_from at front all a (whole text all b) in (r.0, r.1)
