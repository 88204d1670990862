-- Each sentence of a grammar without faults leaves a root, and each beginning of its marks leaves brackets that can be closed.
use Rattle.std.proofs.Common.{◌≡◌, ◌≢◌, ℕ, false, List, [], ◌∷◌, ◌++◌, map, length, refl, sym, ap, subst, ◌∙◌, true≢false, arith}
use Rattle.std.proofs.lemmas.List.{map-append}
use Rattle.lw_base.specs.declared.token.Token.{Token}
use Rattle.lw_grammar.specs.declared.grammar.Grammar.{Grammar}
use Rattle.lw_grammar.specs.declared.rule.Rule.{Rule}
use Rattle.lw_grammar.specs.Kinds.{Kinds}
use Rattle.lw_grammar.specs.Named.{IsEntry}
use Rattle.lw_grammar.specs.Marks.{Mark, Token as AToken, Open, Shut, kinds_of}
use Rattle.lw_grammar.proofs.Joined.{kinds_join}
use Rattle.lw_grammar.specs.Sentences.{IsSentence}
use Rattle.lw_grammar.specs.Yields.{RuleGives}
use Rattle.lw_grammar.specs.Yields as y
use Rattle.lw_reading.specs.Grown.{Grown}
use Rattle.lw_reading.specs.Brackets.{Bracket, Root, grown, at_root}
use Rattle.lw_reading.specs.Follows.{ChangesOpen}
use Rattle.lw_reading.specs.Follows as f
use Rattle.lw_reading.proofs.Listed.{same_head, same_tail}
use Rattle.lw_reading.specs.Growing.{GrowsOpen, GrowsRoot, ReadMarks}
use Rattle.lw_reading.proofs.GoesOn.{CanClose, GoesOn, followed, Split, split}
use Rattle.lw_reading.proofs.GoesOn as on
use Rattle.lw_reading.proofs.Rootable.{IsRootable}
use Rattle.lw_reading.proofs.Nodes.{nothing_holds, root_closes, opened, shut}
use Rattle.lw_reading.proofs.Climbing.{climb_root}

-- tokens of these kinds
abbrev some_tokens : List ℕ → List Token
some_tokens [] = []
some_tokens (k ∷ ks) = record { kind = record { 0 = k }; span = record { start = 0; end = 0 }; hidden = false } ∷ some_tokens ks

some_kinds : (ks : List ℕ) → map (λ (t : Token). t.kind.0) (some_tokens ks) ≡ ks
some_kinds [] = refl
some_kinds (k ∷ ks) = ap (λ ks. k ∷ ks) (some_kinds ks)

-- tokens with which marks begin are made tokens of all of them
all_read : (m n : List Mark) (ts : List Token) → ReadMarks ts m → ReadMarks (ts ++ some_tokens (kinds_of n)) (m ++ n)
all_read m n ts reads =
    map-append (λ (t : Token). t.kind.0) ts (some_tokens (kinds_of n)) ∙ ap (λ ks. ks ++ map (λ (t : Token). t.kind.0) (some_tokens (kinds_of n))) reads
    ∙ ap (λ ks. kinds_of m ++ ks) (some_kinds (kinds_of n)) ∙ sym (kinds_join m n)

module _ (g : Grammar) (text : List ℕ) where
  -- ---- a beginning of marks that can be followed

  abbrev Begins : List Token → List Bracket → List Mark → List Token → Type 0
  Begins ts bs m us = (mid : List Bracket) × GoesOn g text ts bs m us mid × CanClose g text mid

  began_token : {ts us : List Token} {bs : List Bracket} {m : List Mark} {x : Mark} (t u : Token) → u ≡ t → x ≡ AToken t.kind.0 → Begins (ts ++ t ∷ []) bs m us →
      Begins ts bs (x ∷ m) (u ∷ us)
  began_token {ts} {us} {bs} {m} {x} t u same is (mid, goes, closes) = (
    mid,
    subst (λ u. GoesOn g text ts bs (x ∷ m) (u ∷ us) mid) (sym same) (subst (λ x. GoesOn g text ts bs (x ∷ m) (t ∷ us) mid) (sym is) (on.token t goes)),
    closes,
  )

  reads_tail : (m : List Mark) (x : Mark) (us : List Token) (t u : Token) → x ≡ AToken t.kind.0 → ReadMarks (u ∷ us) (x ∷ m) → ReadMarks us m
  reads_tail m x us t u is reads = same_tail (subst (λ x. ReadMarks (u ∷ us) (x ∷ m)) is reads)

  no_reads : (m : List Mark) (x : Mark) (t : Token) → x ≡ AToken t.kind.0 → ReadMarks [] (x ∷ m) → ⊥
  no_reads m x t is reads = omega (arith, ap length (subst (λ x. ReadMarks [] (x ∷ m)) is reads))

  -- what changes brackets reads no token
  reads_none : {ts : List Token} {mark : Mark} {bs mid : List Bracket} (m : List Mark) → ChangesOpen g text ts mark bs mid → kinds_of (mark ∷ m) ≡ kinds_of m
  reads_none m (f.opens at has is) = refl
  reads_none m (f.puts is) = refl
  reads_none m (f.shuts is) = refl
  reads_none m (f.renames is number) = refl
  reads_none m (f.wraps is number property) = refl
  reads_none m (f.ends put) = refl

  began_next : {ts us : List Token} {bs mid : List Bracket} {m : List Mark} {mark x : Mark} → ChangesOpen g text ts mark bs mid → CanClose g text mid → x ≡ mark →
      Begins ts mid m us → Begins ts bs (x ∷ m) us
  began_next {ts} {us} {bs} {m} change closing is (after, goes, closes) =
      (after, subst (λ x. GoesOn g text ts bs (x ∷ m) us after) (sym is) (on.next change closing goes), closes)

  began : (m n : List Mark) (us vs : List Token) {ts all : List Token} {bs after : List Bracket} {whole : List Mark} → GoesOn g text ts bs whole all after →
      whole ≡ m ++ n → all ≡ us ++ vs → ReadMarks us m → CanClose g text bs → Begins ts bs m us
  began [] n [] vs {bs} goes e same reads closes = (bs, on.done, closes)
  began [] n (u ∷ us) vs goes e same reads closes = absurd (omega (arith, ap length reads))
  began (x ∷ m) n us vs on.done e same reads closes = absurd (omega (arith, ap length e))
  began (x ∷ m) n [] vs (on.token t rest) e same reads closes = absurd (no_reads m x t (sym (same_head e)) reads)
  began (x ∷ m) n (u ∷ us) vs (on.token t rest) e same reads closes =
      began_token t u (sym (same_head same)) (sym (same_head e))
      (began m n us vs rest (same_tail e) (same_tail same) (reads_tail m x us t u (sym (same_head e)) reads) closes)
  began (x ∷ m) n us vs (on.next {mark} change closing rest) e same reads closes =
      began_next change closing (sym (same_head e))
      (began m n us vs rest (same_tail e) same (reads ∙ ap (λ x. kinds_of (x ∷ m)) (sym (same_head e)) ∙ reads_none m change) closing)

  no_token_opens : {k r : ℕ} → ◌≡◌ {A = Mark} (AToken k) (Open r) → ⊥
  no_token_opens h = cc

  -- the same, where the marks begin with the opening of the root
  began_open : {r : ℕ} {rest whole : List Mark} {ts all : List Token} {bs after : List Bracket} (x : Mark) (m n : List Mark) (us vs : List Token) →
      GoesOn g text ts bs whole all after → whole ≡ Open r ∷ rest → whole ≡ x ∷ m ++ n → all ≡ us ++ vs → ReadMarks us (x ∷ m) → Begins ts bs (x ∷ m) us
  began_open x m n us vs on.done opens e same reads = absurd (omega (arith, ap length e))
  began_open x m n us vs (on.token t rest) opens e same reads = absurd (no_token_opens (same_head opens))
  began_open x m n us vs (on.next {mark} change closing rest) opens e same reads =
      began_next change closing (sym (same_head e))
      (began m n us vs rest (same_tail e) same (reads ∙ ap (λ x. kinds_of (x ∷ m)) (sym (same_head e)) ∙ reads_none m change) closing)

-- ---- sentences

module _ (g : Grammar) (kinds : Kinds) (text : List ℕ) (root : IsRootable g) where
  -- the marks of a sentence begin with the opening of a node, and leave a root
  record Rooted (m : List Mark) (ts : List Token) : Type 0 where
    number : ℕ
    rest : List Mark
    opens : m ≡ Open number ∷ rest
    tree : Grown
    goes : GoesOn g text [] [] m ts (Root tree ∷ [])

  rooted : {r : ℕ} {rule : Rule} {m : List Mark} → IsEntry g r rule → RuleGives g kinds r rule m → (ts : List Token) → ReadMarks ts m → Rooted m ts
  rooted {r} {rule} is (y.fragment put p) ts reads = absurd (true≢false (sym put ∙ (root.entry r rule is).0))
  rooted {r} {rule} is (y.data_type whole none p) ts reads = absurd ((root.entry r rule is).1 (whole, none))
  rooted {r} {rule} is (y.node {m} whole makes p) ts reads =
      let (done, climbs) = climb_root g kinds text root r rule is.there whole p in
      let o = opened g text root r rule done is.there whole makes climbs [] ts [] reads (nothing_holds g text) in
      let x = grown ts o.type 0 o.held in
      record { number = r; rest = m ++ Shut ∷ []; opens = refl; tree = x; goes = shut g text o at_root (root_closes g text x) }

  pub whole_tree : (m : List Mark) (ts : List Token) → IsSentence g kinds m → ReadMarks ts m → GrowsRoot g text m ts
  whole_tree m ts is reads = let x = rooted is.entry is.gives ts reads in (x.tree, followed g text f.nothing x.goes)

  pub begun_tree : (m others : List Mark) (ts : List Token) → IsSentence g kinds (m ++ others) → m ≢ [] → ReadMarks ts m → GrowsOpen g text m ts
  begun_tree [] others ts is not reads = absurd (not refl)
  begun_tree (x ∷ m) others ts is not reads =
      let more = some_tokens (kinds_of others) in
      let whole = rooted is.entry is.gives (ts ++ more) (all_read (x ∷ m) others ts reads) in
      let (mid, goes, closes) = began_open g text x m others ts more whole.goes whole.opens refl refl reads in
      let (tree, closed) = closes ts in
      (mid, tree, followed g text f.nothing goes, closed)
