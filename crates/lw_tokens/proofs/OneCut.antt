-- A text has at most one cut into tokens, and at most one place where none stands: at each place at most one token is next, and it has a byte.
use Rattle.std.proofs.Common.{◌≡◌, ℕ, ◌+◌, ◌<◌, ◌≤◌, List, [], ◌∷◌, ◌++◌, length, take, drop, append_assoc, append-nil, Option, Some, None, IfSome, slice_get, refl, sym, subst, ap, ◌∙◌, arith, inl, inr}
use Rattle.std.proofs.lemmas.Bool.{cases_lt}
use Rattle.std.proofs.lemmas.Option.{same_Some, slice_get_within, get_or_from_slice_get}
use Rattle.std.proofs.lemmas.Slice.Eq.{bytes_eq-Decides}
use Rattle.lw_base.specs.declared.token.Token.{Token}
use Rattle.lw_tokens.specs.Keywords.{AreKeywords}
use Rattle.lw_tokens.specs.Lexicon.{Lexicon, TerminalForm}
use Rattle.lw_tokens.specs.NextToken.{Next, IsNextToken, IsLongest, HasNone, IsFirstOver, NoneOver, Begins, lengths, longer_terminal, keyword, terminal, no_token}
use Rattle.lw_tokens.specs.Cut.{IsCutTo, IsCut, HasNoTokenAt, token_at, start, then}

front_of : (text word : List ℕ) → Begins text word → word ≡ take (length word) text
front_of text word begins = grind (arith, begins, bytes_eq-Decides word (take (length word) text))

module _ (keywords : List (List ℕ)) (apart : AreKeywords keywords) (text : List ℕ) where
  same_length : (k n j m : ℕ) → IsLongest keywords text k n → IsLongest keywords text j m → n ≡ m
  same_length k n j m a b =
      let below = a.longest j b.keyword b.there b.begins in
      let above = b.longest k a.keyword a.there a.begins in
      omega (arith, below, above, a.bytes, b.bytes)

  same_keyword : (k n j m : ℕ) → IsLongest keywords text k n → IsLongest keywords text j m → k ≡ j
  same_keyword k n j m a b =
      let long : length a.keyword ≡ length b.keyword = a.bytes ∙ same_length k n j m a b ∙ sym b.bytes in
      let same : a.keyword ≡ b.keyword =
      front_of text a.keyword a.begins ∙ ap (λ l. take l text) long ∙ sym (front_of text b.keyword b.begins) in
      let at_k = get_or_from_slice_get keywords k a.keyword a.keyword a.there in
      let at_j = get_or_from_slice_get keywords j b.keyword a.keyword b.there in
      elim (cases_lt k j) [
        | inl lt ↦ absurd (apart.distinct k j a.keyword lt (slice_get_within keywords j b.keyword b.there) (at_k ∙ same ∙ sym at_j))
        | inr ge ↦ elim (cases_lt j k) [
          | inl gt ↦ absurd (apart.distinct j k a.keyword gt (slice_get_within keywords k a.keyword a.there) (at_j ∙ sym same ∙ sym at_k))
          | inr le ↦ omega arith
        ]
      ]

  is_filled : (k n : ℕ) → IsLongest keywords text k n → 0 < n
  is_filled k n a =
      let within = slice_get_within keywords k a.keyword a.there in
      let here = get_or_from_slice_get keywords k a.keyword a.keyword a.there in
      let filled : 0 < length a.keyword = subst (λ (word : List ℕ). 0 < length word) here (apart.not_empty k a.keyword within) in
      omega (arith, filled, a.bytes)

same_first : (n : ℕ) (matches : List (Option ℕ)) (i m j o : ℕ) → IsFirstOver n matches i m → IsFirstOver n matches j o → i ≡ j
same_first n matches i m j o a b = elim (cases_lt i j) [
  | inl lt ↦ absurd (let none = b.none_before i m lt a.there in omega (arith, none, a.longer))
  | inr ge ↦ elim (cases_lt j i) [
    | inl gt ↦ absurd (let none = a.none_before j o gt b.there in omega (arith, none, b.longer))
    | inr le ↦ omega arith
  ]
]

module _ (lexicon : Lexicon) (apart : AreKeywords lexicon.keywords) (text : List ℕ) where
  same_terminal : (n l i m j o : ℕ) (form other : TerminalForm) → n ≡ l → IsFirstOver n (lengths lexicon.terminals text) i m →
      IsFirstOver l (lengths lexicon.terminals text) j o → slice_get lexicon.terminals i ≡ Some form → slice_get lexicon.terminals j ≡ Some other →
      (i ≡ j) × (m ≡ o) × (form ≡ other)
  same_terminal n l i m j o form other same a b f g =
      let c = subst (λ x. IsFirstOver x (lengths lexicon.terminals text) i m) same a in
      let at : i ≡ j = same_first l (lengths lexicon.terminals text) i m j o c b in (
        at,
        same_Some _ _ (same_Some _ _ (sym a.there ∙ ap (slice_get (lengths lexicon.terminals text)) at ∙ b.there)),
        same_Some _ _ (sym f ∙ ap (slice_get lexicon.terminals) at ∙ g),
      )

  none_and_first : {A : Type 0} (n l i m : ℕ) → n ≡ l → NoneOver n (lengths lexicon.terminals text) → IsFirstOver l (lengths lexicon.terminals text) i m → A
  none_and_first n l i m same none first = absurd (let le = none i m first.there in omega (arith, le, first.longer, same))

  none_and_longest : {A : Type 0} (k n : ℕ) → HasNone lexicon.keywords text → IsLongest lexicon.keywords text k n → A
  none_and_longest k n none longest = absurd (none k longest.keyword longest.there longest.begins)

  -- at most one token is next
  pub one_next : (a b : Option Next) → IsNextToken lexicon text a → IsNextToken lexicon text b → a ≡ b
  one_next a b (longer_terminal {k = k} {n = n} {i = i} {m = m} {form = form} p q r) (longer_terminal {k = j} {n = l} {i = h} {m = o} {form = other} s t u) =
      let same = same_terminal n l i m h o form other (same_length lexicon.keywords apart text k n j l p s) q t r u in
      let e = same.0 in let f = same.1 in let g = same.2 in cc
  one_next a b (longer_terminal {k = k} {n = n} {i = i} {m = m} p q r) (keyword {k = j} {n = l} s t) =
      none_and_first l n i m (same_length lexicon.keywords apart text j l k n s p) t q
  one_next a b (longer_terminal {k = k} {n = n} p q r) (terminal s t u) = none_and_longest k n s p
  one_next a b (longer_terminal {k = k} {n = n} p q r) (no_token s t) = none_and_longest k n s p
  one_next a b (keyword {k = k} {n = n} p q) (longer_terminal {k = j} {n = l} {i = i} {m = m} s t u) =
      none_and_first n l i m (same_length lexicon.keywords apart text k n j l p s) q t
  one_next a b (keyword {k = k} {n = n} p q) (keyword {k = j} {n = l} s t) =
      let e = same_keyword lexicon.keywords apart text k n j l p s in
      let f = same_length lexicon.keywords apart text k n j l p s in cc
  one_next a b (keyword {k = k} {n = n} p q) (terminal s t u) = none_and_longest k n s p
  one_next a b (keyword {k = k} {n = n} p q) (no_token s t) = none_and_longest k n s p
  one_next a b (terminal p q r) (longer_terminal {k = j} {n = l} s t u) = none_and_longest j l p s
  one_next a b (terminal p q r) (keyword {k = j} {n = l} s t) = none_and_longest j l p s
  one_next a b (terminal {i = i} {m = m} {form = form} p q r) (terminal {i = h} {m = o} {form = other} s t u) =
      let same = same_terminal 0 0 i m h o form other refl q t r u in
      let e = same.0 in let f = same.1 in let g = same.2 in cc
  one_next a b (terminal {i = i} {m = m} p q r) (no_token s t) = none_and_first 0 0 i m refl t q
  one_next a b (no_token p q) (longer_terminal {k = j} {n = l} s t u) = none_and_longest j l p s
  one_next a b (no_token p q) (keyword {k = j} {n = l} s t) = none_and_longest j l p s
  one_next a b (no_token p q) (terminal {i = i} {m = m} s t u) = none_and_first 0 0 i m refl q t
  one_next a b (no_token p q) (no_token s t) = refl

  -- and it has a byte
  pub next_has_bytes : (a : Option Next) → IsNextToken lexicon text a → IfSome a (λ next. 0 < next.bytes)
  next_has_bytes a (longer_terminal {n = n} {m = m} p q r) = omega (arith, q.longer)
  next_has_bytes a (keyword {k = k} {n = n} p q) = is_filled lexicon.keywords apart text k n p
  next_has_bytes a (terminal p q r) = omega (arith, q.longer)
  next_has_bytes a (no_token p q) = tt

module _ (lexicon : Lexicon) (apart : AreKeywords lexicon.keywords) (text : List ℕ) where
  -- from a place on, up to the end, these are the tokens
  data Goes (end : ℕ) : ℕ → List Token → Type 0 where
    stop : {at : ℕ} → at ≡ end → Goes end at []
    go : {at : ℕ} {tokens : List Token} (next : Next) → at < length text → IsNextToken lexicon (drop at text) (Some next) → Goes end (at + next.bytes) tokens →
        Goes end at (token_at at next ∷ tokens)

  before : (end at : ℕ) (front tokens : List Token) → IsCutTo lexicon text at front → Goes end at tokens → Goes end 0 (front ++ tokens)
  before end at front tokens start goes = goes
  before end at front tokens (then {at = from} {tokens = others} {next = next} cut below is) goes =
      subst (Goes end 0) (sym (append_assoc others (token_at from next ∷ []) tokens)) (before end from others (token_at from next ∷ tokens) cut (go next below is goes))

  goes_to : (end : ℕ) (tokens : List Token) → IsCutTo lexicon text end tokens → Goes end 0 (tokens ++ [])
  goes_to end tokens cut = before end end tokens [] cut (stop refl)

  same_next : (at : ℕ) (next other : Next) → IsNextToken lexicon (drop at text) (Some next) → IsNextToken lexicon (drop at text) (Some other) → next ≡ other
  same_next at next other is was = same_Some _ _ (one_next lexicon apart (drop at text) (Some next) (Some other) is was)

  not_both : {A : Type 0} (at : ℕ) (next : Next) → IsNextToken lexicon (drop at text) (Some next) → IsNextToken lexicon (drop at text) None → A
  not_both at next is none = absurd (let e = one_next lexicon apart (drop at text) (Some next) None is none in cc)

  within : (end at : ℕ) (tokens : List Token) → Goes end at tokens → at ≤ end
  within end at tokens (stop e) = omega (arith, e)
  within end at tokens (go next below is goes) = omega (arith, within end (at + next.bytes) _ goes)

  one_way : (end at : ℕ) (tokens others : List Token) → Goes end at tokens → Goes end at others → tokens ≡ others
  one_way end at tokens others (stop e) (stop f) = refl
  one_way end at tokens others (stop e) (go next below is goes) =
      absurd (let filled = next_has_bytes lexicon apart (drop at text) (Some next) is in omega (arith, e, filled, within end (at + next.bytes) _ goes))
  one_way end at tokens others (go next below is goes) (stop e) =
      absurd (let filled = next_has_bytes lexicon apart (drop at text) (Some next) is in omega (arith, e, filled, within end (at + next.bytes) _ goes))
  one_way end at tokens others (go {tokens = tail} next below is goes) (go {tokens = rest} other under was went) =
      let same = same_next at next other is was in
      let later = one_way end (at + next.bytes) tail rest goes (subst (λ n. Goes end (at + n) rest) (sym (ap (λ (x : Next). x.bytes) same)) went) in
      ap (λ n. token_at at n ∷ tail) same ∙ ap (λ l. token_at at other ∷ l) later

  stuck : {A : Type 0} (place : ℕ) → place < length text → IsNextToken lexicon (drop place text) None → (at : ℕ) (tokens others : List Token) → Goes place at tokens →
      Goes (length text) at others → A
  stuck place inside none at tokens others (stop e) (stop f) = absurd (omega (arith, inside, e, f))
  stuck place inside none at tokens others (stop e) (go next below is goes) =
      not_both at next is (subst (λ n. IsNextToken lexicon (drop n text) None) (sym e) none)
  stuck place inside none at tokens others (go next below is goes) (stop f) = absurd (omega (arith, below, f))
  stuck place inside none at tokens others (go {tokens = tail} next below is goes) (go {tokens = rest} other under was went) =
      let same = same_next at next other is was in
      stuck place inside none (at + next.bytes) tail rest goes (subst (λ n. Goes (length text) (at + n) rest) (sym (ap (λ (x : Next). x.bytes) same)) went)

  one_stop : (place other : ℕ) → IsNextToken lexicon (drop place text) None → IsNextToken lexicon (drop other text) None → (at : ℕ) (tokens others : List Token) →
      Goes place at tokens → Goes other at others → place ≡ other
  one_stop place other none also at tokens others (stop e) (stop f) = sym e ∙ f
  one_stop place other none also at tokens others (stop e) (go next below is goes) =
      not_both at next is (subst (λ n. IsNextToken lexicon (drop n text) None) (sym e) none)
  one_stop place other none also at tokens others (go next below is goes) (stop f) =
      not_both at next is (subst (λ n. IsNextToken lexicon (drop n text) None) (sym f) also)
  one_stop place other none also at tokens others (go {tokens = tail} next below is goes) (go {tokens = rest} second under was went) =
      let same = same_next at next second is was in
      one_stop place other none also (at + next.bytes) tail rest goes (subst (λ n. Goes other (at + n) rest) (sym (ap (λ (x : Next). x.bytes) same)) went)

  -- the text has one cut
  pub one_cut : (tokens others : List Token) → IsCut lexicon text tokens → IsCut lexicon text others → others ≡ tokens
  one_cut tokens others cut other =
      sym (append-nil others) ∙ one_way (length text) 0 (others ++ []) (tokens ++ []) (goes_to _ others other) (goes_to _ tokens cut) ∙ append-nil tokens

  -- a text with a place where no token stands has none
  pub no_cut : (place : ℕ) (tokens : List Token) → HasNoTokenAt lexicon text place → ¬ IsCut lexicon text tokens
  no_cut place tokens fault cut =
      stuck place fault.inside fault.none 0 (fault.before ++ []) (tokens ++ []) (goes_to place fault.before fault.cut) (goes_to (length text) tokens cut)

  -- and there is one such place
  pub one_place : (place other : ℕ) → HasNoTokenAt lexicon text place → HasNoTokenAt lexicon text other → place ≡ other
  one_place place other fault also =
      one_stop place other fault.none also.none 0 (fault.before ++ []) (also.before ++ []) (goes_to place fault.before fault.cut) (goes_to other also.before also.cut)
