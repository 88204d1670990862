-- The tokens of a cut stand side by side, and a text is cut on from each place in one way.
use Rattle.std.proofs.Common.{◌≡◌, ◌+◌, ◌<◌, ◌≤◌, ℕ, List, [], ◌∷◌, ◌++◌, Option, Some, IfSome, All, Contains, drop, refl, sym, subst, arith}
use Rattle.std.proofs.lemmas.List.Elements.{All-nil, All-push}
use Rattle.std.proofs.lemmas.Option.{same_Some}
use Rattle.lw_base.specs.declared.token.Token.{Token}
use Rattle.lw_base.proofs.Lists.{there}
use Rattle.lw_reading.specs.Brackets.{end_of}
use Rattle.lw_reading.proofs.Listed.{alone}
use Rattle.lw_tokens.specs.Cut.{IsCutTo, token_at}
use Rattle.lw_tokens.specs.Cut as cut
use Rattle.lw_tokens.specs.Keywords.{AreKeywords}
use Rattle.lw_tokens.specs.Lexicon.{Lexicon}
use Rattle.lw_tokens.specs.NextToken.{IsNextToken, Next}
use Rattle.lw_tokens.proofs.OneCut.{next_has_bytes, one_next}
use Rattle.lw_substitution.proofs.Rows.{Tiled, tiled_both}

module _ (lexicon : Lexicon) (apart : AreKeywords lexicon.keywords) (text : List ℕ) where
  pub cut_tiled : {at : ℕ} {ts : List Token} → IsCutTo lexicon text at ts → Tiled 0 at ts
  cut_tiled cut.start = refl
  cut_tiled (cut.then {at} {tokens} {next} before inside is) =
      let filled : 0 < next.bytes = next_has_bytes lexicon apart (drop at text) (Some next) is in
      tiled_both 0 at (at + next.bytes) tokens (token_at at next ∷ []) (cut_tiled before) (refl, omega (arith, filled), refl)

  -- ---- where tokens end

  -- the text is cut into tokens up to the end of this one
  abbrev pub IsCutToEnd : Token → Type 0
  IsCutToEnd t = (ts : List Token) × IsCutTo lexicon text t.span.end ts

  pub all_ends : {at : ℕ} {ts : List Token} → IsCutTo lexicon text at ts → All IsCutToEnd ts
  all_ends cut.start = All-nil IsCutToEnd
  all_ends (cut.then {at} {tokens} {next} before inside is) =
      All-push IsCutToEnd tokens (token_at at next) (all_ends before) (tokens ++ token_at at next ∷ [], cut.then before inside is)

  -- ---- from a place on

  -- tokens lead from this place to that one
  data LeadsTo (to : ℕ) : ℕ → Type 0 where
    here : {at : ℕ} → at ≡ to → LeadsTo to at
    further : {at : ℕ} (next : Next) → IsNextToken lexicon (drop at text) (Some next) → LeadsTo to (at + next.bytes) → LeadsTo to at

  leads_from_start : {to at : ℕ} {ts : List Token} → IsCutTo lexicon text at ts → LeadsTo to at → LeadsTo to 0
  leads_from_start cut.start leads = leads
  leads_from_start (cut.then {next} before inside is) leads = leads_from_start before (further next is leads)

  not_back : {to at : ℕ} → LeadsTo to at → at ≤ to
  not_back (here e) = omega (arith, e)
  not_back (further next is leads) = omega (arith, not_back leads)

  -- the token that stands at a place and does not reach over another
  abbrev NextUpTo : ℕ → ℕ → Type 0
  NextUpTo at to = (next : Next) × IsNextToken lexicon (drop at text) (Some next) × (at + next.bytes ≤ to)

  next_of : {to at from : ℕ} → LeadsTo to from → LeadsTo at from → at < to → NextUpTo at to
  next_of (here e) (here f) before = absurd (omega (arith, e, f, before))
  next_of (here e) (further next is leads) before = absurd (omega (arith, e, not_back leads, before))
  next_of {from} (further next is leads) (here f) before =
      (next, subst (λ (k : ℕ). IsNextToken lexicon (drop k text) (Some next)) f is, omega (arith, f, not_back leads))
  next_of {at} {from} (further next is leads) (further other was others) before =
      let same : next ≡ other = same_Some next other (one_next lexicon apart (drop from text) (Some next) (Some other) is was) in
      next_of leads (subst (λ (n : Next). LeadsTo at (from + n.bytes)) (sym same) others) before

  -- where a text is cut up to two places, no token at the first reaches over the second
  pub none_reaches_over : {at to : ℕ} {ts us : List Token} (found : Option Next) → IsCutTo lexicon text to us → IsCutTo lexicon text at ts → at < to →
      IsNextToken lexicon (drop at text) found → IfSome found (λ next. to < at + next.bytes) → ⊥
  none_reaches_over {at} {to} found last first before is over =
      let (next, stands, within) = next_of (leads_from_start last (here refl)) (leads_from_start first (here refl)) before in
      let reaches : to < at + next.bytes =
      subst (λ (n : Option Next). IfSome n (λ (n : Next). to < at + n.bytes)) (one_next lexicon apart (drop at text) found (Some next) is stands) over in
      omega (arith, within, reaches)

-- the last of some tokens
pub last_of : (t : Token) (ts : List Token) → (u : Token) × Contains (t ∷ ts) u × (u.span.end ≡ end_of t ts)
last_of t [] = (t, alone t, refl)
last_of t (x ∷ ts) = let (u, has, ends) = last_of x ts in (u, there t (x ∷ ts) u has, ends)
