-- A text has one cut, and its tokens stand at places of the text and have the forms of their kinds.
use Rattle.std.proofs.Common.{◌≡◌, ◌<◌, ◌≤◌, ℕ, ◌+◌, ◌-◌, List, [], ◌∷◌, ◌++◌, length, take, drop, refl, sym, ap, ◌∙◌, subst, arith, append_assoc, IsUtf8, IsCharBoundary}
use Rattle.std.specs.Prelude.{All}
use Rattle.std.proofs.lemmas.List.{append-nil}
use Rattle.std.proofs.lemmas.List.Elements.{All-push}
use Rattle.std.proofs.lemmas.Str.{IsUtf8-drop, IsCharBoundary-start, IsCharBoundary-from_rest}
use Rattle.lw_gramlex.specs.declared.token.FileKind.{FileKind}
use Rattle.lw_gramlex.specs.declared.token.FileToken.{FileToken}
use Rattle.lw_gramlex.specs.FileTokens.{IsHidden, IsFileToken}
use Rattle.lw_gramlex.specs.FileCut.{IsFileCutTo, IsFileCut}
use Rattle.lw_gramlex.specs.Places.{IsPlace, IsOfKind}
use Rattle.lw_gramlex.specs.Values.{part_of}
use Rattle.lw_gramlex.proofs.HiddenLemmas.{hidden_same}
use Rattle.lw_gramlex.proofs.StepLemmas.{hidden_token, token_same}
use Rattle.lw_gramlex.proofs.PlaceLemmas.{IsCut, hidden_cut, token_cut, token_form}

abbrev pub token_from : ℕ → ℕ → FileKind → FileToken
token_from at n kind = record { kind = kind; span = record { start = at; end = at + n } }

module _ (text : List ℕ) where
  -- what stands from a place on is cut into these tokens
  pub data IsCutFrom : ℕ → List FileToken → Type 0 where
    done : {at : ℕ} → at ≡ length text → IsCutFrom at []
    passed : {at : ℕ} {tokens : List FileToken} (n : ℕ) → at < length text → IsHidden (drop at text) n → IsCutFrom (at + n) tokens → IsCutFrom at tokens
    then : {at : ℕ} {tokens : List FileToken} {kind : FileKind} (n : ℕ) → at < length text → IsFileToken (drop at text) kind n → IsCutFrom (at + n) tokens → IsCutFrom at (token_from at n kind ∷ tokens)

  -- the cut up to a place, and from there on
  joined : (at : ℕ) (front tokens : List FileToken) → IsFileCutTo text at front → IsCutFrom at tokens → IsCutFrom 0 (front ++ tokens)
  joined _ _ tokens IsFileCutTo.start after = after
  joined _ front tokens (IsFileCutTo.passed {at = at} {n = n} before within hidden) after = joined at front tokens before (IsCutFrom.passed n within hidden after)
  joined _ _ tokens (IsFileCutTo.then {at = at} {n = n} {tokens = front} {kind = kind} before within token) after =
      subst (IsCutFrom 0) (sym (append_assoc front (token_from at n kind ∷ []) tokens)) (joined at front (token_from at n kind ∷ tokens) before (IsCutFrom.then n within token after))

  from_same : (at : ℕ) (xs ys : List FileToken) → IsCutFrom at xs → IsCutFrom at ys → xs ≡ ys
  from_same at _ _ (IsCutFrom.done e) (IsCutFrom.done f) = refl
  from_same at _ ys (IsCutFrom.done e) (IsCutFrom.passed n within hidden after) = absurd (omega arith)
  from_same at _ _ (IsCutFrom.done e) (IsCutFrom.then n within token after) = absurd (omega arith)
  from_same at xs _ (IsCutFrom.passed n within hidden after) (IsCutFrom.done f) = absurd (omega arith)
  from_same at xs ys (IsCutFrom.passed m within hidden after) (IsCutFrom.passed n _ other rest) =
      let same : n ≡ m = hidden_same (drop at text) n m other hidden in
      from_same (at + m) xs ys after (subst (λ k. IsCutFrom (at + k) ys) same rest)
  from_same at xs _ (IsCutFrom.passed m within hidden after) (IsCutFrom.then {kind = kind} n _ token rest) = absurd (hidden_token (drop at text) m n kind hidden token)
  from_same at _ _ (IsCutFrom.then m within token after) (IsCutFrom.done f) = absurd (omega arith)
  from_same at _ ys (IsCutFrom.then {kind = kind} m within token after) (IsCutFrom.passed n _ hidden rest) = absurd (hidden_token (drop at text) n m kind hidden token)
  from_same at _ _ (IsCutFrom.then {tokens = xs} {kind = k} m within token after) (IsCutFrom.then {tokens = ys} {kind = l} n _ also rest) =
      let same = token_same (drop at text) l k n m also token in
      let later : xs ≡ ys = from_same (at + m) xs ys after (subst (λ j. IsCutFrom (at + j) ys) same.1 rest) in
      ap (λ x. token_from at m k ∷ x) later ∙ ap (λ j. token_from at j k ∷ ys) (sym same.1) ∙ ap (λ j. token_from at n j ∷ ys) (sym same.0)

  pub whole : (tokens : List FileToken) → IsFileCut text tokens → IsCutFrom 0 tokens
  whole tokens cut = subst (IsCutFrom 0) (append-nil tokens) (joined (length text) tokens [] cut (IsCutFrom.done refl))

  pub cut_same : (xs ys : List FileToken) → IsFileCut text xs → IsFileCut text ys → ys ≡ xs
  cut_same xs ys a b = from_same 0 ys xs (whole ys b) (whole xs a)

  -- what is known of a cut's end and of its tokens
  pub record IsPlaced (at : ℕ) (tokens : List FileToken) : Type 0 where
    pub ends : IsCharBoundary text at
    pub places : All (λ t. IsPlace text t.span) tokens
    pub forms : All (λ t. IsOfKind t.kind (part_of text t.span)) tokens

  -- the end of what stands at a place
  pub step_ends : (at n : ℕ) → IsUtf8 text → at < length text → IsCharBoundary text at → IsCut (drop at text) n → IsCharBoundary text (at + n)
  step_ends at n utf8 within begins cut = IsCharBoundary-from_rest text at n (omega arith) cut.ends

  pub placed : (at : ℕ) (tokens : List FileToken) → IsUtf8 text → IsFileCutTo text at tokens → IsPlaced at tokens
  placed _ _ utf8 IsFileCutTo.start = record { ends = IsCharBoundary-start text utf8; places = λ k d lt. absurd (omega arith); forms = λ k d lt. absurd (omega arith) }
  placed _ tokens utf8 (IsFileCutTo.passed {at = at} {n = n} before within hidden) =
      let p = placed at tokens utf8 before in
      record { ends = step_ends at n utf8 within p.ends (hidden_cut (drop at text) n (IsUtf8-drop text at utf8 p.ends) hidden); places = p.places; forms = p.forms }
  placed _ _ utf8 (IsFileCutTo.then {at = at} {n = n} {tokens = front} {kind = kind} before within token) =
      let p = placed at front utf8 before in
      let cut = token_cut (drop at text) kind n (IsUtf8-drop text at utf8 p.ends) token in
      let ends = step_ends at n utf8 within p.ends cut in
      let place : IsPlace text (token_from at n kind).span = record { not_empty = omega (arith, cut.some); within = ends.0; starts = p.ends; ends = ends } in
      let long : n ≡ at + n - at = omega arith in
      let form : IsOfKind kind (part_of text (token_from at n kind).span) = subst (λ k. IsOfKind kind (take k (drop at text))) long (token_form (drop at text) kind n token) in
      record { ends = ends; places = All-push (λ t. IsPlace text t.span) front (token_from at n kind) p.places place; forms = All-push (λ t. IsOfKind t.kind (part_of text t.span)) front (token_from at n kind) p.forms form }

  -- what the loop's step finds at a place
  pub record IsStep (at n : ℕ) : Type 0 where
    pub some : 0 < n
    pub fits : at + n ≤ length text
    pub ends : IsCharBoundary text (at + n)

  pub hidden_step : (at n : ℕ) (rest : List ℕ) → IsUtf8 text → at < length text → IsCharBoundary text at → rest ≡ drop at text → IsHidden rest n → IsStep at n
  hidden_step at n rest utf8 within begins e h =
      let cut = hidden_cut (drop at text) n (IsUtf8-drop text at utf8 begins) (subst (λ x. IsHidden x n) e h) in
      let ends = step_ends at n utf8 within begins cut in
      record { some = cut.some; fits = ends.0; ends = ends }

  pub token_step : (at n : ℕ) (kind : FileKind) (rest : List ℕ) → IsUtf8 text → at < length text → IsCharBoundary text at → rest ≡ drop at text → IsFileToken rest kind n → IsStep at n
  token_step at n kind rest utf8 within begins e h =
      let cut = token_cut (drop at text) kind n (IsUtf8-drop text at utf8 begins) (subst (λ x. IsFileToken x kind n) e h) in
      let ends = step_ends at n utf8 within begins cut in
      record { some = cut.some; fits = ends.0; ends = ends }
