-- One more terminal that stays, and one more token.
use Rattle.std.proofs.Common.{◌≡◌, ℕ, ◌+◌, ◌-◌, ◌<◌, ◌≤◌, min, Bool, true, false, cond, List, [], ◌∷◌, ◌++◌, length, take, drop, get_or, All, Option, Some, slice_get, nat_lt, refl, sym, ap, ◌∙◌, subst, ⊎_elim, arith, length-append, append-nil}
use Rattle.std.proofs.lemmas.Bool.{cases_lt}
use Rattle.std.proofs.lemmas.List.{take-append-le, take_all, take_more, drop-append-le, get_or-append_right, get_or_append_left}
use Rattle.std.proofs.lemmas.List.Elements.{All-take, All-drop}
use Rattle.std.proofs.lemmas.Option.{slice_get_read, slice_get_within}
use Rattle.regex_nfa.specs.declared.nfa.Nfa.{Nfa}
use Rattle.lw_base.specs.declared.token.Token.{Token}
use Rattle.lw_tokens.specs.Lexicon.{Lexicon}
use Rattle.lw_tokens.specs.Matching.{match_length}
use Rattle.lw_tokens.specs.NextToken.{Next, IsNextToken}
use Rattle.lw_tokens.specs.Cut as cut
use Rattle.lw_tokens.specs.Cut.{IsCut, IsCutTo, token_at}
use Rattle.lw_matching.specs.Nfas.{IsNfaOf, IsForeseen, AreNfas}
use Rattle.lw_matching.specs.Stays.{NoneBegun, FirstStay, asked}
use Rattle.lw_matching.proofs.StaysLemmas.{next_stays}
use Rattle.lw_matching.specs.Front.{end_from, TerminalsStay, counted, FrontStays}

front_is_small : (text more : List ℕ) → All (λ b. b < 256) (text ++ more) → All (λ b. b < 256) (text ++ [])
front_is_small text more small =
    subst (λ l. All (λ b. b < 256) l)
    (take-append-le (length text) text more (omega arith) ∙ take_all (length text) text (omega arith) ∙ sym (append-nil text))
    (All-take (λ b. b < 256) (length text) (text ++ more) small)

as_foreseen : (pattern text : List ℕ) (bytes : Option ℕ) → IsForeseen pattern text bytes → (more : List ℕ) → All (λ b. b < 256) (text ++ more) →
    match_length pattern (text ++ more) ≡ match_length pattern text
as_foreseen pattern text bytes foreseen more small =
    foreseen more small ∙ sym (foreseen [] (front_is_small text more small)) ∙ ap (match_length pattern) (append-nil text)

pub terminals_more : (nfas : List Nfa) (text : List ℕ) (n : ℕ) (nfa : Nfa) (bytes : Option ℕ) → TerminalsStay nfas text n → n < length nfas →
    nfa ≡ get_or nfas n nfa → ((pattern : List ℕ) → IsNfaOf pattern nfa → IsForeseen pattern text bytes) → TerminalsStay nfas text (n + 1)
terminals_more nfas text n nfa bytes h within is foreseen = record {
  stay = λ terminals are more small j form lt there. ⊎_elim
      (λ (before : j < n). h.stay terminals are more small j form before there)
      (λ (here : n ≤ j). let same : n ≡ j = omega arith in
      as_foreseen form.pattern text bytes
      (foreseen form.pattern (are.each j form nfa there (subst (λ x. slice_get nfas x ≡ Some nfa) same (slice_get_read nfas (length nfas) n nfa refl within is))))
      more small)
      (cases_lt j n);
}

pub end_from-push : (at : ℕ) (ts : List Token) (t : Token) → end_from at (ts ++ t ∷ []) ≡ t.span.end
end_from-push at [] t = refl
end_from-push at (u ∷ us) t = end_from-push u.span.end us t

-- the n-th token of a cut stands behind the first n
pub record Nth (lexicon : Lexicon) (text : List ℕ) (tokens : List Token) (n : ℕ) : Type 0 where
  pub at : ℕ
  pub next : Next
  pub inside : at < length text
  pub found : IsNextToken lexicon (drop at text) (Some next)
  pub is : (d : Token) → get_or tokens n d ≡ token_at at next
  pub behind : end_from 0 (take n tokens) ≡ at

pub cut_ends : (lexicon : Lexicon) (text : List ℕ) (to : ℕ) (tokens : List Token) → IsCutTo lexicon text to tokens → end_from 0 tokens ≡ to
cut_ends lexicon text to tokens cut.start = refl
cut_ends lexicon text to tokens (cut.then {at = at} {tokens = before} {next = following} front inside found) =
    end_from-push 0 before (token_at at following)

pub nth : (lexicon : Lexicon) (text : List ℕ) (to : ℕ) (tokens : List Token) → IsCutTo lexicon text to tokens → (n : ℕ) → n < length tokens →
    Nth lexicon text tokens n
nth lexicon text to tokens cut.start n h = absurd (omega arith)
nth lexicon text to tokens (cut.then {at = at} {tokens = before} {next = following} front inside found) n h = ⊎_elim
    (λ (within : n < length before).
    let inner = nth lexicon text at before front n within in
    record {
      at = inner.at;
      next = inner.next;
      inside = inner.inside;
      found = inner.found;
      is = λ d. get_or_append_left before (token_at at following ∷ []) d n within ∙ inner.is d;
      behind = ap (end_from 0) (take-append-le n before (token_at at following ∷ []) (omega arith)) ∙ inner.behind;
    })
    (λ (past : length before ≤ n).
    let last : n - length before ≡ 0 = omega (arith, length-append before (token_at at following ∷ [])) in
    let whole : n ≤ length before = omega (arith, length-append before (token_at at following ∷ [])) in
    record {
      at = at;
      next = following;
      inside = inside;
      found = found;
      is = λ d. get_or-append_right before (token_at at following ∷ []) (length before) n d refl past
          ∙ ap (λ k. get_or (token_at at following ∷ []) k d) last;
      behind = ap (end_from 0) (take-append-le n before (token_at at following ∷ []) whole ∙ take_all n before past) ∙ cut_ends lexicon text at before front;
    })
    (cases_lt n (length before))

counted_enough : (b : Bool) (t s j : ℕ) → j < cond b t s → j < t → j < cond b t (min s t)
counted_enough true t s j h w = h
counted_enough false t s j h w = omega arith

pub counted_asked : (lexicon : Lexicon) (nfas : List Nfa) (text more : List ℕ) (following : Next) → AreNfas lexicon.terminals nfas →
    TerminalsStay nfas text (counted (length lexicon.keywords) (length nfas) following.kind) → All (λ b. b < 256) (text ++ more) →
    FirstStay lexicon text more (asked lexicon text more (Some following))
counted_asked lexicon nfas text more following are h small j form lt there =
    let k = length lexicon.keywords in
    let test = nat_lt following.kind k in
    let s = following.kind - k + 1 in
    let within = slice_get_within lexicon.terminals j form there in
    h.stay lexicon.terminals are more small j form
    (subst (λ c. j < cond test c (min s c)) (sym are.count) (counted_enough test (length lexicon.terminals) s j lt within)) there

pub front_none : (keywords : List (List ℕ)) (nfas : List Nfa) (text : List ℕ) (tokens : List Token) → FrontStays keywords nfas text tokens 0
front_none keywords nfas text tokens = record { stays = λ lexicon same are to is more small. cut.start }

pub front_more : (keywords : List (List ℕ)) (nfas : List Nfa) (text : List ℕ) (tokens : List Token) (n : ℕ) (token d : Token) →
    FrontStays keywords nfas text tokens n → n < length tokens → token ≡ get_or tokens n d →
    NoneBegun keywords (drop token.span.start text) →
    TerminalsStay nfas (drop token.span.start text) (counted (length keywords) (length nfas) token.kind.0) → FrontStays keywords nfas text tokens (n + 1)
front_more keywords nfas text tokens n token d h within is whole stay = record {
  stays = λ lexicon same are to is_cut more small.
      let it = nth lexicon text to tokens is_cut n within in
      let token_is : token ≡ token_at it.at it.next = is ∙ it.is d in
      let place : token.span.start ≡ it.at = ap (λ (t : Token). t.span.start) token_is in
      let kind : token.kind.0 ≡ it.next.kind = ap (λ (t : Token). t.kind.0) token_is in
      let inside : it.at ≤ length text = omega (arith, it.inside) in
      let behind = subst (λ x. IsCutTo lexicon (text ++ more) x (take n tokens)) it.behind (h.stays lexicon same are to is_cut more small) in
      let split = drop-append-le it.at text more inside in
      let rest_small = subst (λ l. All (λ b. b < 256) l) split (All-drop (λ b. b < 256) it.at (text ++ more) small) in
      let here = subst (λ ws. NoneBegun ws (drop it.at text)) (sym same) (subst (λ x. NoneBegun keywords (drop x text)) place whole) in
      let terminals = subst (λ ws. TerminalsStay nfas (drop it.at text) (counted (length ws) (length nfas) it.next.kind)) (sym same)
      (subst (λ x. TerminalsStay nfas (drop it.at text) (counted (length keywords) (length nfas) x)) kind
      (subst (λ x. TerminalsStay nfas (drop x text) (counted (length keywords) (length nfas) token.kind.0)) place stay)) in
      let found = next_stays lexicon (drop it.at text) more here (Some it.next)
      (counted_asked lexicon nfas (drop it.at text) more it.next are terminals rest_small) it.found in
      let further = cut.then behind (omega (arith, length-append text more, it.inside)) (subst (λ l. IsNextToken lexicon l (Some it.next)) (sym split) found) in
      let list = take_more tokens n d within ∙ ap (λ t. take n tokens ++ t ∷ []) (it.is d) in
      subst (λ l. IsCutTo lexicon (text ++ more) (end_from 0 l) l) (sym list)
      (subst (λ x. IsCutTo lexicon (text ++ more) x (take n tokens ++ token_at it.at it.next ∷ []))
      (sym (end_from-push 0 (take n tokens) (token_at it.at it.next))) further);
}
