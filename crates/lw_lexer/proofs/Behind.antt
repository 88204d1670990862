-- The end of a text with more behind it, and the whole text with that.
use Rattle.std.proofs.Common.{ℕ, ◌≡◌, ◌+◌, ◌<◌, ◌≤◌, ◌⊎◌, inl, inr, List, [], ◌∷◌, ◌++◌, Some, None, All, map, length, drop, refl, sym, ap, ap₂, ◌∙◌, subst, arith, append-nil, drop-drop, length-append, length-drop, append_assoc}
use Rattle.std.proofs.lemmas.List.{append_cancel_left, drop-append-le, map-append}
use Rattle.std.proofs.lemmas.List.Elements.{All-append, All-drop}
use Rattle.lw_base.specs.declared.token.Token.{Token}
use Rattle.lw_matching.specs.Parted.{IsParted, moved}
use Rattle.lw_matching.proofs.PartedLemmas.{cut_joins, cut_parted, cut_within, whole_cut}
use Rattle.lw_tokens.specs.Cut.{IsCut, IsCutTo}
use Rattle.lw_tokens.specs.Keywords.{AreKeywords}
use Rattle.lw_tokens.specs.Lexicon.{Lexicon}
use Rattle.lw_tokens.specs.NextToken.{Next, IsNextToken}
use Rattle.lw_tokens.proofs.OneCut.{one_cut}
use Rattle.lw_lexer.specs.declared.recut.recut.Recut.{Recut}
use Rattle.lw_lexer.specs.Recut.{IsCrossed, IsEndOf, IsRecut, IsSurePlace, RecutterParts, added, added_behind}

-- ---- tokens that are moved are told apart

less : (n a b : ℕ) → n + a ≡ n + b → a ≡ b
less n a b same = omega (arith, same)

pub same_moved : (n : ℕ) (t u : Token) → moved n t ≡ moved n u → t ≡ u
same_moved n t u same =
    let kind = ap (λ (x : Token). x.kind) same in
    let start : t.span.start ≡ u.span.start = less n t.span.start u.span.start (ap (λ (x : Token). x.span.start) same) in
    let end : t.span.end ≡ u.span.end = less n t.span.end u.span.end (ap (λ (x : Token). x.span.end) same) in
    let hidden = ap (λ (x : Token). x.hidden) same in
    ap (λ k. record t { kind = k }) kind
    ∙ ap (λ s. record { kind = u.kind; span = record { start = s; end = t.span.end }; hidden = t.hidden }) start
    ∙ ap (λ e. record { kind = u.kind; span = record { start = u.span.start; end = e }; hidden = t.hidden }) end
    ∙ ap (λ h. record { kind = u.kind; span = u.span; hidden = h }) hidden

same_head : {t u : Token} {ts us : List Token} → t ∷ ts ≡ u ∷ us → t ≡ u
same_head is = cc

same_tail : {t u : Token} {ts us : List Token} → t ∷ ts ≡ u ∷ us → ts ≡ us
same_tail is = cc

nothing_is_something : {t : Token} {ts : List Token} → ◌≡◌ {A = List Token} [] (t ∷ ts) → ⊥
nothing_is_something is = cc

-- what begins with these tokens, moved, is moved itself behind them
pub record IsMovedBehind (n : ℕ) (first others all : List Token) : Type 0 where
  pub rest : List Token
  pub are : all ≡ first ++ rest
  pub others_are : others ≡ map (moved n) rest

pub moved_behind : (n : ℕ) (first others all : List Token) → map (moved n) first ++ others ≡ map (moved n) all → IsMovedBehind n first others all
moved_behind n [] others all same = record { rest = all; are = refl; others_are = same }
moved_behind n (t ∷ ts) others [] same = absurd (nothing_is_something (sym same))
moved_behind n (t ∷ ts) others (u ∷ us) same =
    let behind = moved_behind n ts others us (same_tail same) in
    record {
      rest = behind.rest;
      are = ap₂ (λ x xs. x ∷ xs) (sym (same_moved n t u (same_head same))) behind.are;
      others_are = behind.others_are;
    }

-- ---- the whole text with more behind it

module _ (parts : RecutterParts) (front more : List ℕ) (tokens : List Token) (end : IsEndOf parts front tokens) (small : All (λ b. b < 256) more) where
  abbrev whole : List ℕ
  whole = front ++ more

  pub left : drop parts.from whole ≡ parts.text ++ more
  left = drop-append-le parts.from front more end.within ∙ ap (λ (xs : List ℕ). xs ++ more) end.text

  pub first_cut : IsCutTo parts.lexicon whole parts.from end.first
  first_cut = end.stand more small

  pub lengths : parts.from + length (parts.text ++ more) ≡ length whole
  lengths =
      omega (arith, end.within, ap length (sym end.text), length-drop parts.from front, length-append parts.text more, length-append front more)

  -- tokens of what is left, those of the end first, are those of the text and others moved
  pub all_are : (others : List Token) → end.first ++ map (moved parts.from) (parts.tokens ++ others) ≡ tokens ++ map (moved parts.from) others
  all_are others =
      ap (λ (ts : List Token). end.first ++ ts) (map-append (moved parts.from) parts.tokens others)
      ∙ sym (append_assoc end.first (map (moved parts.from) parts.tokens) (map (moved parts.from) others))
      ∙ ap (λ (ts : List Token). ts ++ map (moved parts.from) others) (sym end.are)

  -- what is left is cut
  cut_whole : (text : List ℕ) (all others : List Token) → text ≡ parts.text ++ more → all ≡ parts.tokens ++ others → IsCut parts.lexicon text all →
      IsCut parts.lexicon whole (tokens ++ map (moved parts.from) others)
  cut_whole text all others same are cut =
      subst (IsCut parts.lexicon whole) (ap (λ (ts : List Token). end.first ++ map (moved parts.from) ts) are ∙ all_are others)
      (whole_cut parts.lexicon whole parts.from end.first first_cut all
      (subst (λ (t : List ℕ). IsCut parts.lexicon t all) (same ∙ sym left) cut))

  -- and where the whole is cut into its tokens and others, what is left is
  pub record IsCutBehind (others : List Token) : Type 0 where
    pub rest : List Token
    pub cut : IsCut parts.lexicon (parts.text ++ more) (parts.tokens ++ rest)
    pub others_are : others ≡ map (moved parts.from) rest

  pub cut_behind : AreKeywords parts.lexicon.keywords → (others : List Token) → IsCut parts.lexicon whole (tokens ++ others) → IsCutBehind others
  cut_behind apart others cut =
      let parted = cut_parted parts.lexicon apart whole parts.from end.first (tokens ++ others) first_cut cut in
      let same : map (moved parts.from) parts.tokens ++ others ≡ map (moved parts.from) parted.others =
      append_cancel_left end.first (map (moved parts.from) parts.tokens ++ others) (map (moved parts.from) parted.others)
      (sym (append_assoc end.first (map (moved parts.from) parts.tokens) others) ∙ ap (λ (ts : List Token). ts ++ others) (sym end.are) ∙ parted.all_are) in
      let behind = moved_behind parts.from parts.tokens others parted.others same in
      record {
        rest = behind.rest;
        cut = subst (IsCut parts.lexicon (parts.text ++ more)) behind.are (subst (λ (t : List ℕ). IsCut parts.lexicon t parted.others) left parted.cut);
        others_are = behind.others_are;
      }

  module _ (apart : AreKeywords parts.lexicon.keywords) (text : List ℕ) (same : text ≡ parts.text ++ more) where
    -- a text that has no cut
    pub none_uncut : ((all : List Token) → ¬ IsCut parts.lexicon text all) → (others : List Token) → ¬ IsCut parts.lexicon whole (tokens ++ others)
    none_uncut none others cut =
        let behind = cut_behind apart others cut in
        none (parts.tokens ++ behind.rest) (subst (λ (t : List ℕ). IsCut parts.lexicon t (parts.tokens ++ behind.rest)) (sym same) behind.cut)

    -- one that is cut into these
    module _ (all : List Token) (cut : IsCut parts.lexicon text all) where
      one : (others : List Token) → IsCut parts.lexicon (parts.text ++ more) others → others ≡ all
      one others is = one_cut parts.lexicon apart text all others cut (subst (λ (t : List ℕ). IsCut parts.lexicon t others) (sym same) is)

      pub none_other : ((rest : List Token) → ¬ (all ≡ parts.tokens ++ rest)) → (others : List Token) → ¬ IsCut parts.lexicon whole (tokens ++ others)
      none_other not others is =
          let behind = cut_behind apart others is in
          not behind.rest (sym (one (parts.tokens ++ behind.rest) behind.cut))

      one_other : (others : List Token) → all ≡ parts.tokens ++ others → (more_others : List Token) → IsCut parts.lexicon whole (tokens ++ more_others) →
          more_others ≡ map (moved parts.from) others
      one_other others are more_others is =
          let behind = cut_behind apart more_others is in
          behind.others_are
          ∙ ap (map (moved parts.from)) (append_cancel_left parts.tokens behind.rest others (one (parts.tokens ++ behind.rest) behind.cut ∙ are))

  -- what is cut here is added, and nothing else
  pub added_alone : AreKeywords parts.lexicon.keywords → (it : Recut) → IsRecut parts more it → IsCut parts.lexicon whole (tokens ++ added_behind it)
      × ((others : List Token) → IsCut parts.lexicon whole (tokens ++ others) → others ≡ added_behind it)
  added_alone apart it recut =
      let behind : map (moved parts.from) (added it) ≡ added_behind it = ap (λ (n : ℕ). map (moved n) (added it)) (sym recut.from) in (
        subst (λ (ts : List Token). IsCut parts.lexicon whole (tokens ++ ts)) behind
            (cut_whole it.text it.tokens.items (added it) recut.text recut.are recut.cut),
        λ others other. one_other apart it.text recut.text it.tokens.items recut.cut (added it) recut.are others other ∙ behind,
      )

-- ---- the end of a text from a place where its tokens stand

module _ (lexicon : Lexicon) (front : List ℕ) (tokens : List Token) (place : ℕ) (apart : AreKeywords lexicon.keywords) (small : All (λ b. b < 256) front)
    (sure : IsSurePlace lexicon front tokens place) (cut : IsCut lexicon front tokens) where
  first_there : IsCutTo lexicon front place sure.first
  first_there =
      subst (λ (text : List ℕ). IsCutTo lexicon text place sure.first) (append-nil front)
      (sure.stand [] (subst (All (λ b. b < 256)) (sym (append-nil front)) small))

  pub sure_parted : IsParted lexicon front place sure.first tokens
  sure_parted = cut_parted lexicon apart front place sure.first tokens first_there cut

  pub end_made : (parts : RecutterParts) → parts.lexicon ≡ lexicon → parts.text ≡ drop place front → parts.from ≡ place →
      IsCut parts.lexicon parts.text parts.tokens → IsEndOf parts front tokens
  end_made parts same text from own = record {
    bytes = small;
    within = subst (λ (n : ℕ). n ≤ length front) (sym from) (cut_within lexicon front place sure.first first_there);
    text = ap (λ (n : ℕ). drop n front) from ∙ sym text;
    first = sure.first;
    are = sure_parted.all_are
        ∙ ap₂ (λ (n : ℕ) (ts : List Token). sure.first ++ map (moved n) ts) (sym from)
        (sym (one_cut lexicon apart (drop place front) sure_parted.others parts.tokens sure_parted.cut
        (subst (λ (l : Lexicon). IsCut l (drop place front) parts.tokens) same (subst (λ (xs : List ℕ). IsCut parts.lexicon xs parts.tokens) text own))));
    stand = λ more more_small.
        subst (λ (l : Lexicon). IsCutTo l (front ++ more) parts.from sure.first) (sym same)
        (subst (λ (n : ℕ). IsCutTo lexicon (front ++ more) n sure.first) (sym from)
        (sure.stand more (All-append (λ b. b < 256) front more small more_small)));
  }

-- ---- what follows behind that

module _ (parts : RecutterParts) (front more rest : List ℕ) (tokens : List Token) (end : IsEndOf parts front tokens) (small : All (λ b. b < 256) more)
    (rest_small : All (λ b. b < 256) rest) (it : Recut) (recut : IsRecut parts more it) where
  abbrev all_bytes : All (λ b. b < 256) (more ++ rest)
  all_bytes = All-append (λ b. b < 256) more rest small rest_small

  grouped : front ++ (more ++ rest) ≡ front ++ more ++ rest
  grouped = sym (append_assoc front more rest)

  behind_from : drop parts.from (front ++ more ++ rest) ≡ it.text ++ rest
  behind_from =
      ap (drop parts.from) (sym grouped) ∙ left parts front (more ++ rest) tokens end all_bytes ∙ sym (append_assoc parts.text more rest)
      ∙ ap (λ (xs : List ℕ). xs ++ rest) (sym recut.text)

  first_of_all : IsCutTo parts.lexicon (front ++ more ++ rest) parts.from end.first
  first_of_all = subst (λ (text : List ℕ). IsCutTo parts.lexicon text parts.from end.first) grouped (first_cut parts front (more ++ rest) tokens end all_bytes)

  ends : parts.from + length it.text ≡ length (front ++ more)
  ends = ap (λ (xs : List ℕ). parts.from + length xs) recut.text ∙ lengths parts front more tokens end small

  tokens_are : end.first ++ map (moved parts.from) it.tokens.items ≡ tokens ++ added_behind it
  tokens_are =
      ap (λ (ts : List Token). end.first ++ map (moved parts.from) ts) recut.are ∙ all_are parts front more tokens end small (added it)
      ∙ ap (λ (n : ℕ). tokens ++ map (moved n) (added it)) (sym recut.from)

  small_there : All (λ b. b < 256) (it.text ++ rest)
  small_there =
      All-append (λ b. b < 256) it.text rest
      (subst (All (λ b. b < 256)) (ap (λ (xs : List ℕ). xs ++ more) end.text ∙ sym recut.text)
      (All-append (λ b. b < 256) (drop parts.from front) more (All-drop (λ b. b < 256) parts.from front end.bytes) small)) rest_small

  -- what is so of the end and the beginning of what follows, whatever is behind, is so of all that follows
  pub looked_at : (Holds : Lexicon → List ℕ → Type 0) (lexicon : Lexicon) → lexicon ≡ parts.lexicon → (text first others : List ℕ) → text ≡ it.text ++ first →
      rest ≡ first ++ others → (All (λ b. b < 256) (text ++ others) → Holds lexicon (text ++ others)) → Holds parts.lexicon (it.text ++ rest)
  looked_at Holds lexicon same text first others text_is rest_is holds =
      let all : text ++ others ≡ it.text ++ rest =
      ap (λ (xs : List ℕ). xs ++ others) text_is ∙ append_assoc it.text first others ∙ ap (λ (xs : List ℕ). it.text ++ xs) (sym rest_is) in
      subst (λ (l : Lexicon). Holds l (it.text ++ rest)) same
      (subst (Holds lexicon) all (holds (subst (All (λ b. b < 256)) (sym all) small_there)))

  -- the cut goes on with the tokens of the end
  pub meets : IsCutTo parts.lexicon (it.text ++ rest) (length it.text) it.tokens.items →
      IsCutTo parts.lexicon (front ++ more ++ rest) (length (front ++ more)) (tokens ++ added_behind it)
  meets cut =
      subst (λ (n : ℕ). IsCutTo parts.lexicon (front ++ more ++ rest) n (tokens ++ added_behind it)) ends
      (subst (IsCutTo parts.lexicon (front ++ more ++ rest) (parts.from + length it.text)) tokens_are
      (cut_joins parts.lexicon (front ++ more ++ rest) parts.from end.first first_of_all (length it.text) it.tokens.items
      (subst (λ (text : List ℕ). IsCutTo parts.lexicon text (length it.text) it.tokens.items) (sym behind_from) cut)))

  -- or it does not
  pub is_crossed : IsCrossed parts.lexicon (it.text ++ rest) (length it.text) → IsCrossed parts.lexicon (front ++ more ++ rest) (length (front ++ more))
  is_crossed crossed = record {
    at = parts.from + crossed.at;
    tokens = end.first ++ map (moved parts.from) crossed.tokens;
    cut = cut_joins parts.lexicon (front ++ more ++ rest) parts.from end.first first_of_all crossed.at crossed.tokens
        (subst (λ (text : List ℕ). IsCutTo parts.lexicon text crossed.at crossed.tokens) (sym behind_from) crossed.cut);
    before = omega (arith, crossed.before, ends);
    found = crossed.found;
    is_next = subst (λ (text : List ℕ). IsNextToken parts.lexicon text crossed.found)
        (ap (drop crossed.at) (sym behind_from) ∙ drop-drop crossed.at parts.from (front ++ more ++ rest)) crossed.is_next;
    crosses = by crossed.crosses;
  }
    where
      by : (crossed.found ≡ None) ⊎ ((next : Next) × (crossed.found ≡ Some next) × (length it.text < crossed.at + next.bytes)) →
          (crossed.found ≡ None) ⊎ ((next : Next) × (crossed.found ≡ Some next) × (length (front ++ more) < parts.from + crossed.at + next.bytes))
      by (inl none) = inl none
      by (inr (next, same, over)) = inr (next, same, omega (arith, over, ends))
