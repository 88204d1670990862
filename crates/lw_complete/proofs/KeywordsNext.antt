-- Which of the first kinds are keywords that can be written.
use Rattle.std.proofs.Common.{ℕ, ◌≡◌, ◌≢◌, ◌↔◌, ◌<◌, ◌≤◌, ◌+◌, List, [], ◌∷◌, ◌++◌, Some, ◌⊎◌, inl, inr, Contains, AllPairs, length, get_or, slice_get, map, sym, ap, ◌∙◌, subst, arith}
use Rattle.std.specs.List.Sorted.{IsStrictlyIncreasing}
use Rattle.std.proofs.lemmas.Bool.{cases_lt}
use Rattle.std.specs.Option.{option_map}
use Rattle.std.proofs.lemmas.List.{get_or_default, length-map}
use Rattle.std.proofs.lemmas.List.Elements.{Contains-push, Contains-append_left, Contains-push_cases}
use Rattle.std.proofs.lemmas.List.Kept.{AllPairs-from_increasing}
use Rattle.std.proofs.lemmas.List.Quantifiers.{all_pairs_push}
use Rattle.std.proofs.lemmas.Option.{same_Some, slice_get-get_or, get_or_from_slice_get, slice_get-map, slice_get_within}
use Rattle.lw_base.specs.declared.numbers.KindId.{KindId}
use Rattle.lw_base.specs.declared.token.Token.{Token}
use Rattle.lw_grammar.specs.declared.grammar.Grammar.{Grammar}
use Rattle.lw_grammar.specs.Kinds.{Kinds}
use Rattle.lw_places.specs.Offers.{IsKeywordNext, visible_token}
use Rattle.lw_places.specs.Words.{BeginsBy}
use Rattle.lw_grammar.specs.Sentences.{Starts}
use Rattle.lw_tokens.specs.Cut.{IsCut, kinds, visible}
use Rattle.lw_tokens.specs.Lexicon.{Lexicon}
use Rattle.lw_complete.specs.declared.typing.Typing.{Typing}
use Rattle.lw_complete.specs.Typing.{IsTypedBy}

module _ (keywords : List (List ℕ)) (expected : List KindId) where
  -- the keyword's kind stands at the place
  pub record IsExpectedAt (text : List ℕ) (k : ℕ) : Type 0 where
    pub kind : KindId
    pub expects : slice_get expected k ≡ Some kind
    pub at : slice_get keywords kind.0 ≡ Some text

  one_text : {text other : List ℕ} (k : ℕ) → IsExpectedAt text k → IsExpectedAt other k → text ≡ other
  one_text {text} {other} k is was =
      same_Some text other (sym is.at ∙ ap (λ (kind : KindId). slice_get keywords kind.0) (same_Some is.kind was.kind (sym is.expects ∙ was.expects)) ∙ was.at)

  abbrev pub ComeFrom : ℕ → List (List ℕ) → Type 0
  ComeFrom i found = (text : List ℕ) → Contains found text → (k : ℕ) × k < i × IsExpectedAt text k

  module _ (lexicon : Lexicon) (front word : List ℕ) (tokens : List Token) where
    -- and it is one token there that goes on with the word
    pub record IsNextAt (text : List ℕ) (k : ℕ) : Type 0 where
      pub expected_at : IsExpectedAt text k
      pub begins : BeginsBy word text
      pub cut : IsCut lexicon (front ++ text) (tokens ++ visible_token expected_at.kind.0 (length front) (length text) ∷ [])

    abbrev pub AreNextBelow : ℕ → List (List ℕ) → Type 0
    AreNextBelow i found = (text : List ℕ) → Contains found text ↔ ((k : ℕ) × k < i × IsNextAt text k)

    pub next_push : (i : ℕ) (found : List (List ℕ)) (text : List ℕ) → AreNextBelow i found → IsNextAt text i → AreNextBelow (i + 1) (found ++ text ∷ [])
    next_push i found text before is other = (λ has. there (Contains-push_cases found text other has), back)
      where
        there : Contains found other ⊎ (text ≡ other) → (k : ℕ) × k < i + 1 × IsNextAt other k
        there (inl has) = let (k, below, next) = (before other).0 has in (k, omega (arith, below), next)
        there (inr same) = (i, omega arith, subst (λ t. IsNextAt t i) same is)

        back : (k : ℕ) × k < i + 1 × IsNextAt other k → Contains (found ++ text ∷ []) other
        back (k, below, next) = elim (cases_lt k i) [
          | inl less ↦ Contains-append_left found (text ∷ []) other ((before other).1 (k, less, next))
          | inr not ↦
              let same : k ≡ i = omega (arith, below, not) in
              subst (Contains (found ++ text ∷ [])) (one_text i is.expected_at (subst (IsNextAt other) same next).expected_at) (Contains-push found text)
        ]

    pub next_pass : (i : ℕ) (found : List (List ℕ)) → AreNextBelow i found → ((text : List ℕ) → ¬ IsNextAt text i) → AreNextBelow (i + 1) found
    next_pass i found before not other = (
      λ has. (let (k, below, next) = (before other).0 has in (k, omega (arith, below), next)),
      back,
    )
      where
        back : (k : ℕ) × k < i + 1 × IsNextAt other k → Contains found other
        back (k, below, next) = elim (cases_lt k i) [
          | inl less ↦ (before other).1 (k, less, next)
          | inr past ↦ let same : k ≡ i = omega (arith, below, past) in absurd (not other (subst (IsNextAt other) same next))
        ]

  pub from_push : (i : ℕ) (found : List (List ℕ)) (text : List ℕ) → ComeFrom i found → IsExpectedAt text i → ComeFrom (i + 1) (found ++ text ∷ [])
  from_push i found text before is other has = there (Contains-push_cases found text other has)
    where
      there : Contains found other ⊎ (text ≡ other) → (k : ℕ) × k < i + 1 × IsExpectedAt other k
      there (inl has) = let (k, below, next) = before other has in (k, omega (arith, below), next)
      there (inr same) = (i, omega arith, subst (λ t. IsExpectedAt t i) same is)

  pub from_pass : (i : ℕ) (found : List (List ℕ)) → ComeFrom i found → ComeFrom (i + 1) found
  from_pass i found before other has = let (k, below, next) = before other has in (k, omega (arith, below), next)

-- what is found of the kinds before a place
pub record AreSoFar (typing : Typing) (keywords : List (List ℕ)) (expected : List KindId) (i : ℕ) (found : List (List ℕ)) : Type 0 where
  pub exact : (of : Kinds) (lexicon : Lexicon) → IsTypedBy of lexicon typing →
      AreNextBelow keywords expected lexicon typing.front.now typing.word.now typing.tokens.now i found
  pub from : ComeFrom keywords expected i found
  pub apart : AllPairs (λ one other. one ≢ other) found

-- what was read at a place of an equal list stands there
pub looked_up : {X : Type 0} (lent xs : List X) (k : ℕ) (x : X) → lent ≡ xs → k < length lent → x ≡ get_or lent k x → slice_get xs k ≡ Some x
looked_up lent xs k x same inside read =
    subst (λ ys. slice_get ys k ≡ Some x) same (slice_get-get_or lent k x inside ∙ ap Some (sym read))

module _ (typing : Typing) (keywords : List (List ℕ)) (expected : List KindId) where
  -- the keyword at the place's kind is not next
  pub not_next : (i : ℕ) (kind : KindId) (keyword : List ℕ) → slice_get expected i ≡ Some kind → slice_get keywords kind.0 ≡ Some keyword →
      ((of : Kinds) (lexicon : Lexicon) → IsTypedBy of lexicon typing → ¬ (BeginsBy typing.word.now keyword
      × IsCut lexicon (typing.front.now ++ keyword) (typing.tokens.now ++ visible_token kind.0 (length typing.front.now) (length keyword) ∷ []))) →
      (of : Kinds) (lexicon : Lexicon) → IsTypedBy of lexicon typing → (text : List ℕ) →
      ¬ IsNextAt keywords expected lexicon typing.front.now typing.word.now typing.tokens.now text i
  not_next i kind keyword expects at not of lexicon typed text next =
      let here : IsExpectedAt keywords expected keyword i = record { kind = kind; expects = expects; at = at } in
      let same : text ≡ keyword = one_text keywords expected i next.expected_at here in
      let kinds : next.expected_at.kind ≡ kind = same_Some next.expected_at.kind kind (sym next.expected_at.expects ∙ expects) in
      not of lexicon typed (
        subst (BeginsBy typing.word.now) same next.begins,
        subst (λ (k : KindId). IsCut lexicon (typing.front.now ++ keyword) (typing.tokens.now ++ visible_token k.0 (length typing.front.now) (length keyword) ∷ [])) kinds
            (subst (λ t. IsCut lexicon (typing.front.now ++ t) (typing.tokens.now ++ visible_token next.expected_at.kind.0 (length typing.front.now) (length t) ∷ [])) same next.cut),
      )

  -- there is no keyword of the place's kind
  pub none_next : (i : ℕ) (kind : KindId) → slice_get expected i ≡ Some kind → length keywords ≤ kind.0 →
      (of : Kinds) (lexicon : Lexicon) → IsTypedBy of lexicon typing → (text : List ℕ) →
      ¬ IsNextAt keywords expected lexicon typing.front.now typing.word.now typing.tokens.now text i
  none_next i kind expects past of lexicon typed text next =
      let kinds : next.expected_at.kind ≡ kind = same_Some next.expected_at.kind kind (sym next.expected_at.expects ∙ expects) in
      let within = slice_get_within keywords next.expected_at.kind.0 text next.expected_at.at in
      let less : kind.0 < length keywords = subst (λ (k : KindId). k.0 < length keywords) kinds within in
      absurd (omega (arith, less, past))

  pub so_far_start : (found : List (List ℕ)) → found ≡ [] → AreSoFar typing keywords expected 0 found
  so_far_start found none = subst (AreSoFar typing keywords expected 0) (sym none) record {
    exact = λ of lexicon typed text. (λ (k, below, is). absurd (omega (arith, below)), λ (k, below, next). absurd (omega (arith, below)));
    from = λ text (k, below, is). absurd (omega (arith, below));
    apart = λ i j d below inside. absurd (omega (arith, inside));
  }

  pub so_far_pass : (i : ℕ) (found : List (List ℕ)) → AreSoFar typing keywords expected i found →
      ((of : Kinds) (lexicon : Lexicon) → IsTypedBy of lexicon typing → (text : List ℕ) →
      ¬ IsNextAt keywords expected lexicon typing.front.now typing.word.now typing.tokens.now text i) →
      AreSoFar typing keywords expected (i + 1) found
  so_far_pass i found before not = record {
    exact = λ of lexicon typed. next_pass keywords expected lexicon typing.front.now typing.word.now typing.tokens.now i found (before.exact of lexicon typed) (not of lexicon typed);
    from = from_pass keywords expected i found before.from;
    apart = before.apart;
  }

  pub so_far_push : (i : ℕ) (found : List (List ℕ)) (text : List ℕ) → AllPairs (λ one other. one ≢ other) keywords →
      IsStrictlyIncreasing (map (λ (kind : KindId). kind.0) expected) → i < length expected → AreSoFar typing keywords expected i found →
      (at : IsExpectedAt keywords expected text i) →
      ((of : Kinds) (lexicon : Lexicon) → IsTypedBy of lexicon typing → BeginsBy typing.word.now text
      × IsCut lexicon (typing.front.now ++ text) (typing.tokens.now ++ visible_token at.kind.0 (length typing.front.now) (length text) ∷ [])) →
      AreSoFar typing keywords expected (i + 1) (found ++ text ∷ [])
  so_far_push i found text distinct rising inside before at is = record {
    exact = λ of lexicon typed. next_push keywords expected lexicon typing.front.now typing.word.now typing.tokens.now i found text (before.exact of lexicon typed)
        record { expected_at = at; begins = (is of lexicon typed).0; cut = (is of lexicon typed).1 };
    from = from_push keywords expected i found text before.from at;
    apart = all_pairs_push (λ one other. one ≢ other) found text before.apart (λ k d within same. differ k d within same);
  }
    where
      numbers : List ℕ
      numbers = map (λ (kind : KindId). kind.0) expected

      number_at : {other : List ℕ} (k : ℕ) → (was : IsExpectedAt keywords expected other k) → get_or numbers k 0 ≡ was.kind.0
      number_at {other} k was =
          get_or_from_slice_get numbers k was.kind.0 0
          (slice_get-map (λ (kind : KindId). kind.0) expected k ∙ ap (option_map (λ (kind : KindId). kind.0)) was.expects)

      apart_places : (place : ℕ) → place < i → {other : List ℕ} → IsExpectedAt keywords expected other place → other ≡ text → ⊥
      apart_places place below {other} was same =
          let ordered : get_or numbers place 0 < get_or numbers i 0 =
          AllPairs-from_increasing numbers rising place i 0 below (subst (λ n. i < n) (sym (length-map expected (λ (kind : KindId). kind.0))) inside) in
          let less : was.kind.0 < at.kind.0 = omega (arith, ordered, number_at place was, number_at i at) in
          distinct was.kind.0 at.kind.0 text less (slice_get_within keywords at.kind.0 text at.at)
          (get_or_from_slice_get keywords was.kind.0 other text was.at ∙ same ∙ sym (get_or_from_slice_get keywords at.kind.0 text text at.at))

      differ : (k : ℕ) (d : List ℕ) → k < length found → get_or found k d ≡ text → ⊥
      differ k d within same =
          let (place, below, was) = before.from (get_or found k d) (k, within, get_or_default found k (get_or found k d) d within) in
          apart_places place below was same

module _ (g : Grammar) (of : Kinds) (typing : Typing) (keywords : List (List ℕ)) (expected : List KindId) (found : List (List ℕ)) (i : ℕ)
    (so_far : AreSoFar typing keywords expected i found) (past : length expected ≤ i) (same : keywords ≡ of.keywords)
    (told : (kind : KindId) → Contains expected kind ↔ Starts g of (kinds (visible typing.tokens.now) ++ kind.0 ∷ [])) where
  -- all that was found is next, and all that is next was found
  pub all_next : (lexicon : Lexicon) → IsTypedBy of lexicon typing → (text : List ℕ) → Contains found text ↔
      (BeginsBy typing.word.now text × IsKeywordNext g of lexicon typing.front.now typing.tokens.now text)
  all_next lexicon typed text = (there, back)
    where
      there : Contains found text → BeginsBy typing.word.now text × IsKeywordNext g of lexicon typing.front.now typing.tokens.now text
      there has =
          let (k, below, next) = (so_far.exact of lexicon typed text).0 has in
          let kind = next.expected_at.kind in (
            next.begins,
            record {
              kind = kind.0;
              is_kind = subst (λ texts. slice_get texts kind.0 ≡ Some text) same next.expected_at.at;
              cut = next.cut;
              starts = (told kind).0 (k, slice_get_within expected k kind next.expected_at.expects, get_or_from_slice_get expected k kind kind next.expected_at.expects);
            },
          )

      back : BeginsBy typing.word.now text × IsKeywordNext g of lexicon typing.front.now typing.tokens.now text → Contains found text
      back (begins, next) =
          let kind : KindId = record { 0 = next.kind } in
          let (k, within, is) = (told kind).1 next.starts in
          (so_far.exact of lexicon typed text).1 (
            k,
            omega (arith, within, past),
            record {
              expected_at = record {
                kind = kind;
                expects = slice_get-get_or expected k kind within ∙ ap Some is;
                at = subst (λ texts. slice_get texts next.kind ≡ Some text) (sym same) next.is_kind;
              };
              begins = begins;
              cut = next.cut;
            },
          )
