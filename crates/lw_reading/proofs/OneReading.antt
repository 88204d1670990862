-- A text has one reading: what it is cut into is settled, and a list of tokens is whole, or has a first that cannot stand, or ends early.
use Rattle.std.proofs.Common.{◌≡◌, ◌≢◌, ℕ, ◌+◌, List, [], ◌∷◌, ◌++◌, Option, Some, None, length, drop, append_assoc, append-nil, encode_utf8, inl, inr, ◌⊎◌, refl, sym, ap, ap₂, ◌∙◌, subst, arith}
use Rattle.std.proofs.lemmas.List.{map-append}
use Rattle.std.proofs.lemmas.Str.{encode_same}
use Rattle.lw_base.specs.declared.token.Span.{Span}
use Rattle.lw_base.specs.declared.token.Token.{Token}
use Rattle.lw_grammar.specs.declared.grammar.Grammar.{Grammar}
use Rattle.lw_grammar.specs.Kinds.{Kinds}
use Rattle.lw_base.specs.declared.numbers.PropId.{PropId}
use Rattle.lw_grammar.specs.Marks.{Mark, kinds_of}
use Rattle.lw_grammar.specs.Sentences.{IsSentence, IsWhole, Starts}
use Rattle.lw_tree.specs.Parts.{Parts, SameTables, values_at}
use Rattle.lw_reading.specs.Brackets.{Bracket, Root}
use Rattle.lw_reading.specs.Grown.{Grown}
use Rattle.lw_reading.specs.Numbers.{IsNamingProperty}
use Rattle.lw_reading.specs.Trees.{IsTree, parts_of_tree}
use Rattle.lw_reading.proofs.OneTree.{one_follows}
use Rattle.lw_reading.proofs.OneValue.{one_number_of_property}
use Rattle.lw_tokens.specs.Keywords.{AreKeywords}
use Rattle.lw_tokens.specs.Lexicon.{Lexicon, IsLexicon}
use Rattle.lw_tokens.specs.Cut.{IsCut, HasNoTokenAt, IsCharacterAt, visible, kinds}
use Rattle.lw_tokens.proofs.OneCut.{one_cut, one_place, no_cut}
use Rattle.lw_tokens.proofs.OnePattern.{one_lexicon}
use Rattle.lw_tree.specs.declared.issue.Issue.{Issue}
use Rattle.lw_tree.specs.declared.issue.Issue.TheVariants.{Lexical, Syntax}
use Rattle.lw_reading.specs.declared.parsed.Parsed.{Parsed}
use Rattle.lw_reading.specs.declared.parsed.Parsed.TheVariants.{Whole, Broken}
use Rattle.lw_reading.specs.Reading as reading
use Rattle.lw_reading.specs.Reading.{IsFirstUnexpected, EndsEarly, ReadsBy, Reads}
use Rattle.lw_reading.specs.Laws as law
use Rattle.lw_reading.specs.Laws.{IsReadOneWay, IsSameReading}
use Rattle.lw_grammar.proofs.KindLemmas.{one_kinds}
use Rattle.lw_reading.proofs.OneKinds.{can_be_told_apart}

-- of two places in a list, either they are one, or one comes before the other
data Placed {A : Type 0} (before : List A) (x : A) (befores : List A) (y : A) : Type 0 where
  one : x ≡ y → Placed before x befores y
  sooner : (rest : List A) → befores ≡ (before ++ x ∷ []) ++ rest → Placed before x befores y
  later : (rest : List A) → before ≡ (befores ++ y ∷ []) ++ rest → Placed before x befores y

placed : {A : Type 0} (before after befores afters : List A) (x y : A) → before ++ x ∷ after ≡ befores ++ y ∷ afters → Placed before x befores y
placed [] after [] afters x y same = one cc
placed [] after (b ∷ befores) afters x y same = sooner befores (let e : x ≡ b = cc in ap (λ z. z ∷ befores) (sym e))
placed (a ∷ before) after [] afters x y same = later before (let e : a ≡ y = cc in ap (λ z. z ∷ before) e)
placed (a ∷ before) after (b ∷ befores) afters x y same = both (placed before after befores afters x y cc)
  where
    first : a ≡ b
    first = cc

    both : Placed before x befores y → Placed (a ∷ before) x (b ∷ befores) y
    both (one is) = one is
    both (sooner rest is) = sooner rest (ap₂ (λ z zs. z ∷ zs) (sym first) is)
    both (later rest is) = later rest (ap₂ (λ z zs. z ∷ zs) first is)

never_empty : {A : Type 0} (before : List A) (x : A) (rest : List A) → (before ++ x ∷ []) ++ rest ≢ []
never_empty [] x rest is = cc
never_empty (a ∷ before) x rest is = cc

same_root : {x y : Grown} → ◌≡◌ {A = List Bracket} (Root x ∷ []) (Root y ∷ []) → x ≡ y
same_root is = cc

same_faults : (issue other : Issue) → issue ≡ other → IsSameReading (Broken issue) (Broken other)
same_faults issue other is = subst (λ x. IsSameReading (Broken issue) (Broken x)) is law.broken

-- the property that names nodes has one number
one_naming : (g : Grammar) (a b : Option PropId) → IsNamingProperty g a → IsNamingProperty g b → a ≡ b
one_naming g None None is was = refl
one_naming g None (Some p) is was = absurd (is p.0 was)
one_naming g (Some p) None is was = absurd (was p.0 is)
one_naming g (Some p) (Some q) is was = let e = one_number_of_property g _ p.0 q.0 is was in ap (λ n. Some (record { 0 = n })) e

-- marks that were read with some tokens have one tree
one_tree : (g : Grammar) (text : List ℕ) (m : List Mark) (seen tokens : List Token) (a b : Parts) → IsTree g text m seen tokens a →
    IsTree g text m seen tokens b → SameTables a b
one_tree g text m seen tokens a b is was =
    let grown = same_root (one_follows g text is.follows was.follows refl refl) in
    let named = one_naming g a.name b.name is.named was.named in
    let parts = ap₂ (λ x n. parts_of_tree x tokens n) grown named in
    record {
      nodes = is.parts.nodes ∙ ap (λ p. p.nodes) parts ∙ sym was.parts.nodes;
      values = λ n p. is.parts.values n p ∙ ap (λ x. values_at n p x.values) parts ∙ sym (was.parts.values n p);
      refs = is.parts.refs ∙ ap (λ p. p.refs) parts ∙ sym was.parts.refs;
      tokens = is.parts.tokens ∙ ap (λ p. p.tokens) parts ∙ sym was.parts.tokens;
      name = named;
    }

module _ (g : Grammar) (of : Kinds) where
  -- what begins some sentence, its own beginnings do too
  front_starts : (front more : List Token) → Starts g of (kinds (front ++ more)) → Starts g of (kinds front)
  front_starts front more (rest, whole) = (
    kinds more ++ rest,
    subst (IsWhole g of) (ap (λ ks. ks ++ rest) (map-append (λ (t : Token). t.kind.0) front more) ∙ append_assoc (kinds front) (kinds more) rest) whole,
  )

  -- tokens that begin a sentence, or none, hold no token that cannot stand
  none_inside : {A : Type 0} (tokens before rest : List Token) (t : Token) → tokens ≡ (before ++ t ∷ []) ++ rest → ¬ Starts g of (kinds (before ++ t ∷ [])) →
      (tokens ≡ []) ⊎ Starts g of (kinds tokens) → A
  none_inside tokens before rest t is cannot (inl none) = absurd (never_empty before t rest (sym is ∙ none))
  none_inside tokens before rest t is cannot (inr starts) =
      absurd (cannot (front_starts (before ++ t ∷ []) rest (subst (λ ts. Starts g of (kinds ts)) is starts)))

  one_unexpected : (tokens : List Token) (t u : Token) → IsFirstUnexpected g of tokens t → IsFirstUnexpected g of tokens u → t ≡ u
  one_unexpected tokens t u is was = by (placed is.before is.after was.before was.after t u (sym is.parts ∙ was.parts))
    where
      by : Placed is.before t was.before u → t ≡ u
      by (one same) = same
      by (sooner rest more) = none_inside was.before is.before rest t more is.cannot was.follows
      by (later rest more) = none_inside is.before was.before rest u more was.cannot is.follows

  parted : (tokens : List Token) (t : Token) (is : IsFirstUnexpected g of tokens t) → tokens ≡ (is.before ++ t ∷ []) ++ is.after
  parted tokens t is = is.parts ∙ sym (append_assoc is.before (t ∷ []) is.after)

  starts_whole : (tokens : List Token) → IsWhole g of (kinds tokens) → Starts g of (kinds tokens)
  starts_whole tokens whole = ([], subst (IsWhole g of) (sym (append-nil (kinds tokens))) whole)

  module _ (lexicon : Lexicon) (apart : AreKeywords lexicon.keywords) (text : List ℕ) where
    same_visible : (tokens others : List Token) → IsCut lexicon text tokens → IsCut lexicon text others → visible others ≡ visible tokens
    same_visible tokens others cut other = ap visible (one_cut lexicon apart text tokens others cut other)

    one_character : (s r : Span) → HasNoTokenAt lexicon text s.start → HasNoTokenAt lexicon text r.start → IsCharacterAt text s → IsCharacterAt text r → s ≡ r
    one_character s r none also (c, scalar, rest, is, end) (d, scalar2, more, was, stop) =
        let start = one_place lexicon apart text s.start r.start none also in
        let same = encode_same c d rest more (sym is ∙ ap (λ n. drop n text) start ∙ was) in
        ap₂ (λ a b. record { start = a; end = b }) start (end ∙ ap₂ (λ a b. a + length (encode_utf8 b)) start same.0 ∙ sym stop)

    none_and_cut : {A : Type 0} (place : ℕ) (tokens : List Token) → HasNoTokenAt lexicon text place → IsCut lexicon text tokens → A
    none_and_cut place tokens none cut = absurd (no_cut lexicon apart text place tokens none cut)

    whole_and_unexpected : {A : Type 0} (tokens others : List Token) (t : Token) → IsCut lexicon text tokens → IsCut lexicon text others →
        IsWhole g of (kinds (visible tokens)) → IsFirstUnexpected g of (visible others) t → A
    whole_and_unexpected tokens others t cut other whole is =
        none_inside (visible others) is.before is.after t (parted (visible others) t is) is.cannot
        (inr (starts_whole (visible others) (subst (λ ts. IsWhole g of (kinds ts)) (sym (same_visible tokens others cut other)) whole)))

    whole_and_early : {A : Type 0} (tokens others : List Token) → IsCut lexicon text tokens → IsCut lexicon text others →
        IsWhole g of (kinds (visible tokens)) → EndsEarly g of (visible others) → A
    whole_and_early tokens others cut other whole early =
        absurd (early.not_whole (subst (λ ts. IsWhole g of (kinds ts)) (sym (same_visible tokens others cut other)) whole))

    unexpected_and_early : {A : Type 0} (tokens others : List Token) (t : Token) → IsCut lexicon text tokens → IsCut lexicon text others →
        IsFirstUnexpected g of (visible tokens) t → EndsEarly g of (visible others) → A
    unexpected_and_early tokens others t cut other is early =
        none_inside (visible tokens) is.before is.after t (parted (visible tokens) t is) is.cannot
        (subst (λ ts. (ts ≡ []) ⊎ Starts g of (kinds ts)) (same_visible tokens others cut other) early.follows)

    -- the sentence of a text is the whole of its kinds
    is_whole : (tokens : List Token) (m : List Mark) → IsSentence g of m → kinds_of m ≡ kinds (visible tokens) → IsWhole g of (kinds (visible tokens))
    is_whole tokens m sentence are = (m, sentence, are)

    same_trees : ((m n : List Mark) → IsSentence g of m → IsSentence g of n → kinds_of m ≡ kinds_of n → m ≡ n) → (tokens others : List Token) (m n : List Mark)
        (a b : Parts) → IsCut lexicon text tokens → IsCut lexicon text others → IsSentence g of m → IsSentence g of n → kinds_of m ≡ kinds (visible tokens) →
        kinds_of n ≡ kinds (visible others) → IsTree g text m (visible tokens) tokens a → IsTree g text n (visible others) others b → SameTables a b
    same_trees once tokens others m n a b cut other is was are were tree found =
        let same = one_cut lexicon apart text tokens others cut other in
        let marks = once m n is was (are ∙ ap (λ ts. kinds (visible ts)) (sym same) ∙ sym were) in
        one_tree g text m (visible tokens) tokens a b tree
        (subst (λ ts. IsTree g text m (visible ts) ts b) same (subst (λ l. IsTree g text l (visible others) others b) (sym marks) found))

    one_by : ((m n : List Mark) → IsSentence g of m → IsSentence g of n → kinds_of m ≡ kinds_of n → m ≡ n) → (p q : Parsed) → ReadsBy g of lexicon text p →
        ReadsBy g of lexicon text q → IsSameReading p q
    one_by once p q (reading.lexical s none at) (reading.lexical r also here) = same_faults _ _ (ap Lexical (one_character s r none also at here))
    one_by once p q (reading.lexical s none at) (reading.whole tokens m cut is are tree) = none_and_cut s.start tokens none cut
    one_by once p q (reading.lexical s none at) (reading.syntax_ tokens t cut is) = none_and_cut s.start tokens none cut
    one_by once p q (reading.lexical s none at) (reading.end_ tokens cut early) = none_and_cut s.start tokens none cut
    one_by once p q (reading.whole tokens m cut is are tree) (reading.lexical s none at) = none_and_cut s.start tokens none cut
    one_by once p q (reading.whole {tree = a} tokens m cut is are tree) (reading.whole {tree = b} others n other was were found) =
        law.whole (same_trees once tokens others m n a b cut other is was are were tree found)
    one_by once p q (reading.whole tokens m cut sentence are tree) (reading.syntax_ others t other is) =
        whole_and_unexpected tokens others t cut other (is_whole tokens m sentence are) is
    one_by once p q (reading.whole tokens m cut sentence are tree) (reading.end_ others other early) =
        whole_and_early tokens others cut other (is_whole tokens m sentence are) early
    one_by once p q (reading.syntax_ tokens t cut is) (reading.lexical s none at) = none_and_cut s.start tokens none cut
    one_by once p q (reading.syntax_ tokens t cut is) (reading.whole others m other sentence are tree) =
        whole_and_unexpected others tokens t other cut (is_whole others m sentence are) is
    one_by once p q (reading.syntax_ tokens t cut is) (reading.syntax_ others u other was) =
        same_faults _ _
        (ap (λ (x : Token). Syntax x.span x.kind)
        (one_unexpected (visible tokens) t u is (subst (λ ts. IsFirstUnexpected g of ts u) (same_visible tokens others cut other) was)))
    one_by once p q (reading.syntax_ tokens t cut is) (reading.end_ others other early) = unexpected_and_early tokens others t cut other is early
    one_by once p q (reading.end_ tokens cut early) (reading.lexical s none at) = none_and_cut s.start tokens none cut
    one_by once p q (reading.end_ tokens cut early) (reading.whole others m other sentence are tree) =
        whole_and_early others tokens other cut (is_whole others m sentence are) early
    one_by once p q (reading.end_ tokens cut early) (reading.syntax_ others t other is) = unexpected_and_early others tokens t other cut is early
    one_by once p q (reading.end_ tokens cut early) (reading.end_ others other also) = law.broken

module _ (g : Grammar) (one_way : IsReadOneWay g) (text : List ℕ) where
  -- a text has one reading
  pub one_reading : (p q : Parsed) → Reads g text p → Reads g text q → IsSameReading p q
  one_reading p q (reading.too_large long) (reading.too_large also) = law.broken
  one_reading p q (reading.too_large long) (reading.read of lexicon short are is reads) = absurd (omega arith)
  one_reading p q (reading.read of lexicon short are is reads) (reading.too_large long) = absurd (omega arith)
  one_reading p q (reading.read of lexicon short are is reads) (reading.read kinds other below were was also) =
      let same = one_kinds g kinds of were are in
      let words = one_lexicon g of other lexicon (subst (λ k. IsLexicon g k other) same was) is in
      let apart = subst AreKeywords (sym is.keywords) (can_be_told_apart g of one_way.keywords are) in
      one_by g of lexicon apart text (λ m n. one_way.sentences of m n are) p q reads
      (subst (λ l. ReadsBy g of l text q) words (subst (λ k. ReadsBy g k other text q) same also))
