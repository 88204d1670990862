-- The grammar of two ways that begin and end alike: its sentences are `a b c` and `a d c`, so that `a` begins one, and `a c` begins none,
-- though `c` ends both ways.
use Rattle.std.proofs.Common.{◌≡◌, ◌≢◌, ◌<◌, ℕ, zero, suc, slice_get, List, [], ◌∷◌, ◌++◌, map, Some, codes, lit<, All, AllPairs, Contains, ◌⊎◌, inl, inr, refl, sym, ap, ◌∙◌, subst, arith, true≢false}
use Rattle.std.proofs.lemmas.List.{append-nil}
use Rattle.std.proofs.lemmas.List.Elements.{All-nil, All-cons, All-head, All-tail}
use Rattle.std.proofs.lemmas.List.Kept.{AllPairs-cons}
use Rattle.std.proofs.lemmas.Option.{none-some, same_Some}
use Rattle.lw_grammar.specs.declared.rule.Rule.{Rule}
use Rattle.lw_grammar.specs.declared.rule.Op.TheVariants.{One}
use Rattle.lw_grammar.specs.declared.rule.Element.TheVariants.{outs-Keyword, outs-Assign, outs-Group, outs-Choice}
use Rattle.lw_grammar.specs.declared.rule.Element.TheOpen as layer
use Rattle.lw_grammar.specs.declared.rule.Value0.{Value0}
use Rattle.lw_grammar.specs.declared.rule.Value0.TheVariants as value
use Rattle.lw_grammar.specs.declared.rule.Value0.TheOpen as value_layer
use Rattle.lw_grammar.specs.Leaves.{Leaf, leaves, layer_leaves, ValueLeaf, value_leaves, layer_values, keywords_in, keywords_of, literals_of}
use Rattle.lw_grammar.specs.Leaves as leaf
use Rattle.lw_grammar.proofs.LeafLemmas.{leaf_equations, value_equations}
use Rattle.lw_grammar.specs.Named.{IsEntry}
use Rattle.lw_grammar.specs.Nodes.{MakesNodes, assigns}
use Rattle.lw_grammar.specs.Reached as reached
use Rattle.lw_grammar.specs.Kept as keep
use Rattle.lw_grammar.specs.Kinds.{AreKinds, IsKeywordKind, first_uses}
use Rattle.lw_grammar.specs.Marks.{Mark, kinds_of}
use Rattle.lw_grammar.specs.Marks as mark
use Rattle.lw_grammar.specs.Yields.{Yields, Gives, RuleGives, ValueYields, ValueGives}
use Rattle.lw_grammar.specs.Yields as y
use Rattle.lw_grammar.specs.Sentences.{IsWhole, Starts}
use Rattle.lw_grammar.specs.Worked.{nowhere, word as keyword, assignment, way_parts, way, ways, two_ways_rule as A, two_ways as E, two_ways_kinds as kinds}
use Rattle.lw_grammar.proofs.Joined.{kinds_join}
use Rattle.lw_grammar.proofs.KeywordRows.{keyword_once}

abbrev pub a : ℕ
a = 0

abbrev pub b : ℕ
b = 1

abbrev pub c : ℕ
c = 2

abbrev pub d : ℕ
d = 3

-- ---- its kinds are these

abbrev assigned : List ℕ → Leaf
assigned text = leaf.Assign text One (value.Keyword text nowhere) nowhere

abbrev way_leaves : List ℕ → List Leaf
way_leaves text = leaf.Keyword (codes "a") nowhere ∷ assigned text ∷ leaf.Keyword (codes "c") nowhere ∷ []

all_leaves : leaves A.body ≡ way_leaves (codes "b") ++ way_leaves (codes "d")
all_leaves = simp leaf_equations

all_keywords : keywords_in A.body ≡ codes "a" ∷ codes "b" ∷ codes "c" ∷ codes "a" ∷ codes "d" ∷ codes "c" ∷ []
all_keywords = simp (leaf_equations, value_equations)

is_entry : IsEntry E 0 A
is_entry = record { there = refl; does = (refl, refl); none_before = λ j other below. absurd (omega arith) }

pub are_kinds : AreKinds E kinds
are_kinds = record {
  rules = A ∷ [];
  reached = keep.kept (reached.entry A is_entry) keep.nothing;
  keywords = sym (ap (first_uses []) (append-nil (keywords_in A.body) ∙ all_keywords));
  terminals = keep.nothing;
}

-- ---- a keyword has one kind

abbrev Differ : List ℕ → List ℕ → Type 0
Differ x y = x ≢ y

letters_differ : (x y : ℕ) → (x ≡ y → ⊥) → Differ (x ∷ []) (y ∷ [])
letters_differ x y apart same = apart (first_of same)
  where
    first_of : x ∷ [] ≡ y ∷ [] → x ≡ y
    first_of same = cc

-- a letter before others that are later in the alphabet
one_more : (x : ℕ) (ys : List ℕ) → All (λ y. x < y) ys → All (Differ (x ∷ [])) (map (λ y. y ∷ []) ys)
one_more x [] later = All-nil (Differ (x ∷ []))
one_more x (y ∷ ys) later =
    let below : x < y = All-head (λ y. x < y) y ys later in
    All-cons (Differ (x ∷ [])) (y ∷ []) (map (λ y. y ∷ []) ys) (letters_differ x y (λ same. omega (arith, below, same))) (one_more x ys (All-tail (λ y. x < y) y ys later))

keywords_differ : AllPairs Differ kinds.keywords
keywords_differ =
    AllPairs-cons Differ (codes "a") (codes "b" ∷ codes "c" ∷ codes "d" ∷ []) (one_more 97 (98 ∷ 99 ∷ 100 ∷ []) (three 97 98 99 100 (lit< tt) (lit< tt) (lit< tt)))
    (AllPairs-cons Differ (codes "b") (codes "c" ∷ codes "d" ∷ []) (one_more 98 (99 ∷ 100 ∷ []) (two 98 99 100 (lit< tt) (lit< tt)))
    (AllPairs-cons Differ (codes "c") (codes "d" ∷ []) (one_more 99 (100 ∷ []) (one 99 100 (lit< tt))) (λ i j x below inside. absurd (omega arith))))
  where
    one : (x u : ℕ) → x < u → All (λ y. x < y) (u ∷ [])
    one x u p = All-cons (λ y. x < y) u [] p (All-nil (λ y. x < y))

    two : (x u v : ℕ) → x < u → x < v → All (λ y. x < y) (u ∷ v ∷ [])
    two x u v p q = All-cons (λ y. x < y) u (v ∷ []) p (one x v q)

    three : (x u v w : ℕ) → x < u → x < v → x < w → All (λ y. x < y) (u ∷ v ∷ w ∷ [])
    three x u v w p q r = All-cons (λ y. x < y) u (v ∷ w ∷ []) p (two x v w q r)

once : (word : List ℕ) (k l : ℕ) → IsKeywordKind kinds word k → IsKeywordKind kinds word l → l ≡ k
once word k l at_k at_l = keyword_once E kinds keywords_differ word l k at_l at_k

-- ---- what its ways yield

keyword_gives : (word : List ℕ) (k : ℕ) → IsKeywordKind kinds word k → {m : List Mark} → Yields E kinds (keyword word) m → kinds_of m ≡ k ∷ []
keyword_gives word k is {m} (y.yields gives) = inside (subst (λ f. Gives E kinds f m) (outs-Keyword word nowhere) gives)
  where
    inside : {m : List Mark} → Gives E kinds (layer.Keyword word nowhere) m → kinds_of m ≡ k ∷ []
    inside (y.keyword {k = l} at) = ap (λ n. n ∷ []) (once word k l is at)

keyword_can : (word : List ℕ) (k : ℕ) → IsKeywordKind kinds word k → Yields E kinds (keyword word) (mark.Token k ∷ [])
keyword_can word k is = y.yields (subst (λ f. Gives E kinds f (mark.Token k ∷ [])) (sym (outs-Keyword word nowhere)) (y.keyword is))

module _ (word : List ℕ) (k : ℕ) (is_kind : IsKeywordKind kinds word k) where
  value_gives : {v w : Value0} {m : List Mark} → ValueGives E kinds v (value_layer.Keyword word nowhere) w m → kinds_of m ≡ k ∷ []
  value_gives (y.keyword_value {k = l} at) = ap (λ n. n ∷ []) (once word k l is_kind at)

  assignment_gives : {m : List Mark} → Yields E kinds (assignment word) m → kinds_of m ≡ k ∷ []
  assignment_gives {m} (y.yields gives) = inside (subst (λ f. Gives E kinds f m) (outs-Assign word One (value.Keyword word nowhere) nowhere) gives)
    where
      inside : {m : List Mark} → Gives E kinds (layer.Assign word One (value.Keyword word nowhere) nowhere) m → kinds_of m ≡ k ∷ []
      inside (y.assigned {m} (y.reads {c} layered)) =
          kinds_join m (mark.End ∷ []) ∙ append-nil (kinds_of m)
          ∙ value_gives (subst (λ f. ValueGives E kinds (value.Keyword word nowhere) f c m) (value.outs-Keyword word nowhere) layered)

  pub way_gives : {m : List Mark} → Yields E kinds (way word) m → kinds_of m ≡ a ∷ k ∷ c ∷ []
  way_gives {m} (y.yields gives) = inside (subst (λ f. Gives E kinds f m) (outs-Group (way_parts word) nowhere) gives)
    where
      joined : (m n o : List Mark) → kinds_of m ≡ a ∷ [] → kinds_of n ≡ k ∷ [] → kinds_of o ≡ c ∷ [] → kinds_of (m ++ (n ++ (o ++ []))) ≡ a ∷ k ∷ c ∷ []
      joined m n o first second third =
          kinds_join m (n ++ (o ++ [])) ∙ ap (λ ks. kinds_of m ++ ks) (kinds_join n (o ++ []) ∙ ap (λ ks. kinds_of n ++ ks) (kinds_join o [] ∙ append-nil (kinds_of o) ∙ third))
          ∙ ap (λ ks. ks ++ (kinds_of n ++ c ∷ [])) first ∙ ap (λ ks. a ∷ ks ++ c ∷ []) second

      inside : {m : List Mark} → Gives E kinds (layer.Group (way_parts word) nowhere) m → kinds_of m ≡ a ∷ k ∷ c ∷ []
      inside (y.grouped (y.more {m} first (y.more {m = n} second (y.more {m = o} third y.none)))) =
          joined m n o (keyword_gives (codes "a") a refl first) (assignment_gives second) (keyword_gives (codes "c") c refl third)

  -- and it does yield it
  pub way_can : (m : List Mark) × Yields E kinds (way word) m × (kinds_of m ≡ a ∷ k ∷ c ∷ [])
  way_can =
      let word_value : Value0 = value.Keyword word nowhere in
      let read : ValueYields E kinds word_value word_value (mark.Token k ∷ []) =
      y.reads (subst (λ f. ValueGives E kinds word_value f word_value (mark.Token k ∷ [])) (sym (value.outs-Keyword word nowhere)) (y.keyword_value is_kind)) in
      let put : List Mark = mark.Put word One word_value ∷ (mark.Token k ∷ []) ++ mark.End ∷ [] in
      let second : Yields E kinds (assignment word) put =
      y.yields (subst (λ f. Gives E kinds f put) (sym (outs-Assign word One word_value nowhere)) (y.assigned read)) in
      let all : List Mark = (mark.Token a ∷ []) ++ (put ++ ((mark.Token c ∷ []) ++ [])) in (
        all,
        y.yields (subst (λ f. Gives E kinds f all) (sym (outs-Group (way_parts word) nowhere))
            (y.grouped (y.more (keyword_can (codes "a") a refl) (y.more second (y.more (keyword_can (codes "c") c refl) y.none))))),
        refl,
      )

-- ---- its sentences

-- the rule assigns, so it makes nodes
makes : MakesNodes E A
makes = assigns (codes "b") One (value.Keyword (codes "b") nowhere) nowhere (subst (λ ls. Contains ls (assigned (codes "b"))) (sym all_leaves) (1, omega arith, refl))

-- the kinds of the one way or of the other
abbrev pub IsEither : List ℕ → Type 0
IsEither ks = (ks ≡ a ∷ b ∷ c ∷ []) ⊎ (ks ≡ a ∷ d ∷ c ∷ [])

either : {m : List Mark} → Yields E kinds A.body m → IsEither (kinds_of m)
either {m} (y.yields gives) = inside (subst (λ f. Gives E kinds f m) (outs-Choice ways nowhere) gives)
  where
    inside : {m : List Mark} → Gives E kinds (layer.Choice ways nowhere) m → IsEither (kinds_of m)
    inside (y.chosen {e} {m} has p) = by has
      where
        by : Contains ways e → IsEither (kinds_of m)
        by (zero, below, is) = inl (way_gives (codes "b") b refl (subst (λ e. Yields E kinds e m) (sym is) p))
        by (suc zero, below, is) = inr (way_gives (codes "d") d refl (subst (λ e. Yields E kinds e m) (sym is) p))
        by (suc (suc i), below, is) = absurd (omega arith)

rule_kinds : {r : ℕ} {m : List Mark} → RuleGives E kinds r A m → IsEither (kinds_of m)
rule_kinds (y.fragment is _) = absurd (true≢false (sym is))
rule_kinds (y.data_type _ none _) = absurd (none makes)
rule_kinds (y.node {m} _ _ p) = subst IsEither (sym (kinds_join m (mark.Shut ∷ []) ∙ append-nil (kinds_of m))) (either p)

only_A : (r : ℕ) (rule : Rule) → slice_get (A ∷ []) r ≡ Some rule → A ≡ rule
only_A zero rule is = same_Some A rule is
only_A (suc r) rule is = absurd (none-some rule is)

-- its sentences are the two ways
pub sentence_kinds : (ks : List ℕ) → IsWhole E kinds ks → IsEither ks
sentence_kinds ks (marks, sentence, is) =
    subst IsEither is
    (rule_kinds (subst (λ rule. RuleGives E kinds sentence.number rule marks) (sym (only_A sentence.number sentence.rule sentence.entry.there)) sentence.gives))

way_is_whole : (word : List ℕ) (k : ℕ) → IsKeywordKind kinds word k → Contains ways (way word) → IsWhole E kinds (a ∷ k ∷ c ∷ [])
way_is_whole word k is has =
    let some = way_can word k is in
    let body : Yields E kinds A.body some.0 = y.yields (subst (λ f. Gives E kinds f some.0) (sym (outs-Choice ways nowhere)) (y.chosen has some.1)) in (
      mark.Open 0 ∷ some.0 ++ mark.Shut ∷ [],
      record { number = 0; rule = A; entry = is_entry; gives = y.node refl makes body },
      kinds_join some.0 (mark.Shut ∷ []) ∙ append-nil (kinds_of some.0) ∙ some.2,
    )

pub first_way : IsWhole E kinds (a ∷ b ∷ c ∷ [])
first_way = way_is_whole (codes "b") b refl (0, omega arith, refl)

pub second_way : IsWhole E kinds (a ∷ d ∷ c ∷ [])
second_way = way_is_whole (codes "d") d refl (1, omega arith, refl)

-- `a` begins a sentence, by either way
pub a_starts : Starts E kinds (a ∷ [])
a_starts = (b ∷ c ∷ [], first_way)

second_of : (k l : ℕ) (rest others : List ℕ) → a ∷ k ∷ rest ≡ a ∷ l ∷ others → k ≡ l
second_of k l rest others is = cc

-- `a` and then `c` begins none
pub no_c_after_a : ¬ Starts E kinds (a ∷ c ∷ [])
no_c_after_a (rest, whole) = by (sentence_kinds (a ∷ c ∷ rest) whole)
  where
    by : IsEither (a ∷ c ∷ rest) → ⊥
    by (inl is) = omega (arith, second_of c b rest (c ∷ []) is)
    by (inr is) = omega (arith, second_of c d rest (c ∷ []) is)

-- nor is it one
pub no_short_sentence : ¬ IsWhole E kinds (a ∷ c ∷ [])
no_short_sentence whole = no_c_after_a ([], whole)
