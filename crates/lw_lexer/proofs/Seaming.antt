-- How the cut of a text goes on where more follows.
use Rattle.std.proofs.Common.{ℕ, ◌≡◌, ◌+◌, ◌-◌, ◌<◌, ◌≤◌, ◌⊎◌, inl, inr, List, [], ◌∷◌, ◌++◌, Option, Some, None, All, IsCharBoundary, length, take, drop, get_or, sym, ap, ◌∙◌, subst, arith, length-append}
use Rattle.std.proofs.lemmas.List.{drop-append-le, get_or_append_left, take_all, take_more}
use Rattle.std.proofs.lemmas.List.Elements.{All-drop, All-get_or}
use Rattle.regex_nfa.specs.declared.nfa.Nfa.{Nfa}
use Rattle.lw_base.specs.declared.token.Token.{Token}
use Rattle.lw_matching.specs.Nfas.{AreNfas}
use Rattle.lw_lexer.specs.TokenPlaces.{IsTokenPlace}
use Rattle.lw_matching.specs.Front.{end_from}
use Rattle.lw_matching.proofs.FrontLemmas.{Nth, cut_ends, end_from-push, nth}
use Rattle.lw_tokens.specs.Cut as cut
use Rattle.lw_tokens.specs.Cut.{IsCut, IsCutTo, token_at}
use Rattle.lw_tokens.specs.Lexicon.{Lexicon}
use Rattle.lw_tokens.specs.NextToken.{Next, IsNextToken}
use Rattle.lw_lexer.specs.Recut.{IsCrossed, StaysNext}
use Rattle.lw_lexer.specs.Seams.{IsMeeting}
use Rattle.lw_lexer.specs.declared.recut.seam.Meeting.TheVariants.{Across}

-- a place inside a text that splits no character splits none where more follows
starts_longer : (text more : List ℕ) (i : ℕ) → i < length text → IsCharBoundary text i → IsCharBoundary (text ++ more) i
starts_longer text more i inside (within, first) = (
  omega (arith, inside, length-append text more),
  λ _. subst (λ (b : ℕ). 128 ≤ b → 192 ≤ b) (sym (get_or_append_left text more 0 i inside)) (first inside),
)

module _ (lexicon : Lexicon) (own : List ℕ) (tokens : List Token) (is_cut : IsCut lexicon own tokens) where
  -- all tokens stand in a longer text
  pub all_meet : (text : List ℕ) (i : ℕ) → length tokens ≤ i → IsCutTo lexicon text (end_from 0 (take i tokens)) (take i tokens) →
      IsCutTo lexicon text (length own) tokens
  all_meet text i past front =
      let all : take i tokens ≡ tokens = take_all i tokens past in
      subst (λ (n : ℕ). IsCutTo lexicon text n tokens) (cut_ends lexicon own (length own) tokens is_cut)
      (subst (λ (ts : List Token). IsCutTo lexicon text (end_from 0 ts) ts) all front)

  -- the token of this number, of those that were lent
  module _ (text : List ℕ) (begins : (behind : List ℕ) × (text ≡ own ++ behind)) (lent : List Token) (lent_is : lent ≡ tokens) (i : ℕ) (below : i < length lent)
      (d : Token) where
    abbrev token : Token
    token = get_or lent i d

    longer : length own ≤ length text
    longer = omega (arith, ap length begins.1, length-append own begins.0)

    inside : i < length tokens
    inside = omega (arith, below, ap length lent_is)

    is : token ≡ get_or tokens i d
    is = ap (λ (ts : List Token). get_or ts i d) lent_is

    abbrev there : Nth lexicon own tokens i
    there = nth lexicon own (length own) tokens is_cut i inside

    place : token.span.start ≡ there.at
    place = ap (λ (t : Token). t.span.start) (is ∙ there.is d)

    starts_inside : token.span.start < length own
    starts_inside = omega (arith, place, there.inside)

    -- what its place is
    module _ (places : All (IsTokenPlace own) tokens) where
      stands : IsTokenPlace own token
      stands = subst (IsTokenPlace own) (sym is) (All-get_or (IsTokenPlace own) tokens i d inside places)

      pub starts : IsCharBoundary text token.span.start
      starts =
          subst (λ (xs : List ℕ). IsCharBoundary xs token.span.start) (sym begins.1)
          (starts_longer own begins.0 token.span.start starts_inside stands.starts)

      pub in_order : token.span.start ≤ token.span.end
      in_order = omega (arith, stands.not_empty)

    -- what is found at its place stays so with more behind
    module _ (keywords : List (List ℕ)) (nfas : List Nfa) (left : List ℕ) (left_is : left ≡ drop token.span.start text) (found : Option Next)
        (stays : StaysNext keywords nfas left found) (here : IsNextToken lexicon left found) (same : keywords ≡ lexicon.keywords)
        (are : AreNfas lexicon.terminals nfas) (more : List ℕ) (small : All (λ b. b < 256) (text ++ more))
        (front : IsCutTo lexicon (text ++ more) (end_from 0 (take i tokens)) (take i tokens)) where
      front_there : IsCutTo lexicon (text ++ more) token.span.start (take i tokens)
      front_there = subst (λ (at : ℕ). IsCutTo lexicon (text ++ more) at (take i tokens)) (there.behind ∙ sym place) front

      left_longer : drop token.span.start (text ++ more) ≡ left ++ more
      left_longer =
          drop-append-le token.span.start text more (omega (arith, starts_inside, longer)) ∙ ap (λ (xs : List ℕ). xs ++ more) (sym left_is)

      is_next : IsNextToken lexicon (drop token.span.start (text ++ more)) found
      is_next =
          subst (λ (xs : List ℕ). IsNextToken lexicon xs found) (sym left_longer)
          (stays lexicon (sym same) are here more
          (subst (All (λ b. b < 256)) left_longer (All-drop (λ b. b < 256) token.span.start (text ++ more) small)))

      -- it is the token
      pub one_more : (next : Next) × (found ≡ Some next) × (token_at token.span.start next ≡ token) →
          IsCutTo lexicon (text ++ more) (end_from 0 (take (i + 1) tokens)) (take (i + 1) tokens)
      one_more (next, same_next, at) =
          let list : take i tokens ++ token_at token.span.start next ∷ [] ≡ take (i + 1) tokens =
          ap (λ (t : Token). take i tokens ++ t ∷ []) (at ∙ is) ∙ sym (take_more tokens i d inside) in
          let ends : token.span.start + next.bytes ≡ end_from 0 (take (i + 1) tokens) =
          sym (end_from-push 0 (take i tokens) (token_at token.span.start next)) ∙ ap (end_from 0) list in
          subst (λ (n : ℕ). IsCutTo lexicon (text ++ more) n (take (i + 1) tokens)) ends
          (subst (IsCutTo lexicon (text ++ more) (token.span.start + next.bytes)) list
          (cut.then front_there (omega (arith, starts_inside, longer, length-append text more))
          (subst (IsNextToken lexicon (drop token.span.start (text ++ more))) same_next is_next)))

      -- something else stands across the end there
      pub crossed : IsMeeting found token (length own - token.span.start) Across → IsCrossed lexicon (text ++ more) (length own)
      crossed across = record {
        at = token.span.start;
        tokens = take i tokens;
        cut = front_there;
        before = starts_inside;
        found = found;
        is_next = is_next;
        crosses = by across;
      }
        where
          by : IsMeeting found token (length own - token.span.start) Across →
              (found ≡ None) ⊎ ((next : Next) × (found ≡ Some next) × (length own < token.span.start + next.bytes))
          by (inl none) = inl none
          by (inr (next, same_next, over)) = inr (next, same_next, omega (arith, over, starts_inside))
