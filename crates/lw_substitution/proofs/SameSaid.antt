-- Tokens that say the same have the same texts together, and mean the same.
use Rattle.std.proofs.Common.{◌≡◌, ℕ, List, [], ◌∷◌, ◌++◌, length, drop, slice_range, refl, sym, ap, subst, ◌∙◌, arith}
use Rattle.std.proofs.lemmas.List.{drop_all, drop-append-le, length_push}
use Rattle.std.proofs.lemmas.List.Elements.{AllZip-push}
use Rattle.lw_base.specs.declared.token.Span.{Span}
use Rattle.lw_base.specs.declared.token.Token.{Token}
use Rattle.lw_grammar.specs.declared.grammar.Grammar.{Grammar}
use Rattle.lw_grammar.specs.declared.rule.Op.{Op}
use Rattle.lw_grammar.specs.declared.rule.Value0.{Value0}
use Rattle.lw_grammar.specs.declared.terminal.Terminal.{Terminal}
use Rattle.lw_reading.specs.Brackets.{joined_texts, span_of_tokens}
use Rattle.lw_reading.specs.Follows.{LooksUp, IsPlain}
use Rattle.lw_reading.specs.Follows as f
use Rattle.lw_reading.specs.Grown.{Plain, Text}
use Rattle.lw_reading.specs.Values.{NumberMeans, TokenMeans, TokenNames}
use Rattle.lw_reading.specs.Values as means
use Rattle.lw_substitution.specs.Tokens.{IsSameToken, AreSameTokens}
use Rattle.lw_substitution.specs.Growth.{AreAlikePlain, IsSameSince}
use Rattle.lw_substitution.specs.Growth as alike

nothing_left : (ts : List Token) → drop (length ts) ts ≡ []
nothing_left ts = drop_all (length ts) ts (omega arith)

same_number : {said : List ℕ} {s t : Span} {v : Plain} → NumberMeans said s v → (w : Plain) × NumberMeans said t w × AreAlikePlain v w
same_number (means.fits is fit) = (_, means.fits is fit, alike.number)
same_number (means.too_large is not) = (_, means.too_large is not, alike.huge)
same_number (means.no_number not) = (_, means.no_number not, alike.raw)

same_meaning : {terminal : Terminal} {said : List ℕ} {s t : Span} {v : Plain} → TokenMeans terminal said s v →
    (w : Plain) × TokenMeans terminal said t w × AreAlikePlain v w
same_meaning (means.number gives is) = let (w, number, same) = same_number is in (w, means.number gives number, same)
same_meaning (means.words not) = (_, means.words not, alike.text)

module _ (text other : List ℕ) where
  pub same_texts : (ts us : List Token) → AreSameTokens text other ts us → joined_texts text ts ≡ joined_texts other us
  same_texts [] [] same = refl
  same_texts [] (u ∷ us) same = absurd same
  same_texts (t ∷ ts) [] same = absurd same
  same_texts (t ∷ ts) (u ∷ us) same =
      ap (λ (bytes : List ℕ). bytes ++ joined_texts text ts) same.0.bytes
      ∙ ap (λ (bytes : List ℕ). slice_range other u.span.start u.span.end ++ bytes) (same_texts ts us same.1)

  -- ---- the tokens since a place

  pub same_since_now : (ts us : List Token) → IsSameSince text other ts us (length ts) (length us)
  same_since_now ts us = record {
    inside = omega arith;
    within = omega arith;
    since = subst (λ (xs : List Token). AreSameTokens text other xs (drop (length us) us)) (sym (nothing_left ts))
        (subst (λ (ys : List Token). AreSameTokens text other [] ys) (sym (nothing_left us)) tt);
  }

  pub same_since_then : {ts us : List Token} {at from : ℕ} (t u : Token) → IsSameToken text other t u → IsSameSince text other ts us at from →
      IsSameSince text other (ts ++ t ∷ []) (us ++ u ∷ []) at from
  same_since_then {ts} {us} {at} {from} t u same is = record {
    inside = omega (arith, is.inside, length_push ts t);
    within = omega (arith, is.within, length_push us u);
    since = subst (λ (xs : List Token). AreSameTokens text other xs (drop from (us ++ u ∷ []))) (sym (drop-append-le at ts (t ∷ []) is.inside))
        (subst (λ (ys : List Token). AreSameTokens text other (drop at ts ++ t ∷ []) ys) (sym (drop-append-le from us (u ∷ []) is.within))
        (AllZip-push (IsSameToken text other) (drop at ts) (drop from us) t u is.since same));
  }

  -- ---- what tokens mean

  module _ (g : Grammar) {ts us : List Token} (same : AreSameTokens text other ts us) where
    pub same_looked : {name looked : List ℕ} → LooksUp g text name ts looked → LooksUp g other name us looked
    same_looked {looked} (f.terminal n terminal is names) =
        f.terminal n terminal is (subst (λ (said : List ℕ). TokenNames terminal said looked) (same_texts ts us same) names)
    same_looked {name} (f.data_type r rule is) =
        subst (λ (said : List ℕ). LooksUp g other name us said) (sym (same_texts ts us same)) (f.data_type r rule is)

    pub same_plain : {op : Op} {c : Value0} {v : Plain} → IsPlain g text op c ts v → (w : Plain) × IsPlain g other op c us w × AreAlikePlain v w
    same_plain f.truth = (_, f.truth, alike.truth)
    same_plain (f.keyword not is) = (_, f.keyword not is, alike.text)
    same_plain (f.terminal n terminal not is named meant) =
        let (w, means, like) = same_meaning meant in
        (w, f.terminal n terminal not is named (subst (λ (said : List ℕ). TokenMeans terminal said (span_of_tokens us) w) (same_texts ts us same) means), like)
    same_plain (f.data_type r rule not is named) = (
      Text (joined_texts other us) (span_of_tokens us),
      f.data_type r rule not is named,
      subst (λ (said : List ℕ). AreAlikePlain (Text said (span_of_tokens ts)) (Text (joined_texts other us) (span_of_tokens us)))
          (sym (same_texts ts us same)) alike.text,
    )

  -- whatever is read for a reference, it looks up a name
  pub other_looked : (g : Grammar) {name looked : List ℕ} {ts : List Token} (us : List Token) → LooksUp g text name ts looked →
      (found : List ℕ) × LooksUp g other name us found
  other_looked g us (f.terminal n terminal is (means.number gives)) = (_, f.terminal n terminal is (means.number gives))
  other_looked g us (f.terminal n terminal is (means.words not)) = (_, f.terminal n terminal is (means.words not))
  other_looked g us (f.data_type r rule is) = (_, f.data_type r rule is)
