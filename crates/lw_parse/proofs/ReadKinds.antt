-- The kinds of the visible tokens, token by token.
use Rattle.std.proofs.Common.{ℕ, ◌≡◌, ◌+◌, ◌<◌, Bool, true, false, cond, not, if◌then◌else◌, List, [], ◌∷◌, ◌++◌, take, length, get_or, sym, ap, ◌∙◌}
use Rattle.std.proofs.lemmas.List.{append-nil, append_assoc, map-append}
use Rattle.std.proofs.lemmas.List.Elements.{filter_more}
use Rattle.lw_base.specs.declared.token.Token.{Token}
use Rattle.lw_tokens.specs.Cut.{kinds, visible}
use Rattle.lw_viable.specs.Fronts.{seen}

module _ (ks : List ℕ) (tokens : List Token) (i : ℕ) (d : Token) (inside : i < length tokens) where
  abbrev here : Token
  here = get_or tokens i d

  abbrev before : List Token
  before = visible (take i tokens)

  by : (hidden : Bool) → ks ++ kinds (before ++ cond (not hidden) (here ∷ []) []) ≡ (if hidden then ks ++ kinds before else (ks ++ kinds before) ++ here.kind.0 ∷ [])
  by true = ap (λ ts. ks ++ kinds ts) (append-nil before)
  by false = ap (λ xs. ks ++ xs) (map-append (λ (t : Token). t.kind.0) before (here ∷ [])) ∙ sym (append_assoc ks (kinds before) (here.kind.0 ∷ []))

  pub kinds_more : ks ++ kinds (visible (take (i + 1) tokens)) ≡ seen (ks ++ kinds (visible (take i tokens))) here
  kinds_more = ap (λ ts. ks ++ kinds ts) (filter_more (λ (t : Token). not t.hidden) tokens i d inside) ∙ by here.hidden
