-- What words say is one thing, and is found word by word.
use Rattle.std.proofs.Common.{◌≡◌, ℕ, ◌+◌, List, [], ◌∷◌, ◌++◌, Option, Some, None, codes, length, length-append, drop, refl, sym, ap, subst, ◌∙◌, arith, append_assoc, append-nil, bytes_eq, is_some, false, true}
use Rattle.std.proofs.lemmas.Bool.{false≢true}
use Rattle.std.proofs.lemmas.Slice.Eq.{bytes_eq-Decides}
use Rattle.lw_command_line.specs.Said.{IsDepth, IsOperand, SaysDepth, SaysOperands}
use Rattle.lw_command_line.specs.Said as said

-- ---- words

pub none-cons : {X : Type 0} {x : X} {xs : List X} → [] ≡ x ∷ xs → ⊥
none-cons same = cc

first : {X : Type 0} {x y : X} {xs ys : List X} → x ∷ xs ≡ y ∷ ys → x ≡ y
first same = cc

behind : {X : Type 0} {x y : X} {xs ys : List X} → x ∷ xs ≡ y ∷ ys → xs ≡ ys
behind same = cc

-- texts that a test finds different
pub differs : (xs ys : List ℕ) → bytes_eq xs ys ≡ false → ¬ (xs ≡ ys)
differs xs ys other same = false≢true (sym other ∙ (bytes_eq-Decides xs ys).1 same)

-- ---- the option

-- the word that the option begins with begins with `--l`
begins : {words : List (List ℕ)} {k : ℕ} {others : List (List ℕ)} → SaysDepth words k others → (rest : List ℕ) × (more : List (List ℕ)) × (words ≡ (45 ∷ 45 ∷ 108 ∷ rest) ∷ more)
begins (said.apart {word} {others} is) = (drop 3 (codes "--lookahead"), word ∷ others, refl)
begins (said.joined {word} {others} is) = (drop 3 (codes "--lookahead=" ++ word), others, refl)

-- each number is one word, and they are three
word_one : {word other : List ℕ} {j k : ℕ} → IsDepth word j → IsDepth other k → word ≡ other → j ≡ k
word_one said.one said.one same = refl
word_one said.two said.two same = refl
word_one said.three said.three same = refl
word_one said.one said.two same = absurd (let e : 49 ≡ 50 = first same in omega (arith, e))
word_one said.one said.three same = absurd (let e : 49 ≡ 51 = first same in omega (arith, e))
word_one said.two said.one same = absurd (let e : 50 ≡ 49 = first same in omega (arith, e))
word_one said.two said.three same = absurd (let e : 50 ≡ 51 = first same in omega (arith, e))
word_one said.three said.one same = absurd (let e : 51 ≡ 49 = first same in omega (arith, e))
word_one said.three said.two same = absurd (let e : 51 ≡ 50 = first same in omega (arith, e))

apart_joined : (word : List ℕ) → codes "--lookahead" ≡ codes "--lookahead=" ++ word → ⊥
apart_joined word same = omega (arith, ap length same)

depth_is : {words : List (List ℕ)} {k : ℕ} {others : List (List ℕ)} → SaysDepth words k others → (j : ℕ) (more : List (List ℕ)) → SaysDepth words j more → (k ≡ j) × (others ≡ more)
depth_is says j more also = by says also refl
  where
    by : {words rows : List (List ℕ)} {k j : ℕ} {others more : List (List ℕ)} → SaysDepth words k others → SaysDepth rows j more → words ≡ rows → (k ≡ j) × (others ≡ more)
    by (said.apart is) (said.apart also) same = (word_one is also (first (behind same)), behind (behind same))
    by (said.apart is) (said.joined {word} also) same = absurd (apart_joined word (first same))
    by (said.joined {word} is) (said.apart also) same = absurd (apart_joined word (sym (first same)))
    by (said.joined {word} is) (said.joined {word = other} also) same = (word_one is also (ap (drop 12) (first same)), behind same)

-- the option where the words begin with it, and else nothing
pub apart_says : (words behind others : List (List ℕ)) (option word : List ℕ) (k : ℕ) → words ≡ option ∷ behind → option ≡ codes "--lookahead" → behind ≡ word ∷ others → IsDepth word k →
    SaysDepth words k others
apart_says words behind others option word k are named next is =
    subst (λ ws. SaysDepth ws k others) (ap (λ o. o ∷ word ∷ others) (sym named) ∙ ap (λ ws. option ∷ ws) (sym next) ∙ sym are) (said.apart is)

pub joined_says : (words others : List (List ℕ)) (option word : List ℕ) (k : ℕ) → words ≡ option ∷ others → option ≡ codes "--lookahead=" ++ word → IsDepth word k → SaysDepth words k others
joined_says words others option word k are named is = subst (λ ws. SaysDepth ws k others) (ap (λ o. o ∷ others) (sym named) ∙ sym are) (said.joined is)

pub neither_says : (words behind : List (List ℕ)) (option : List ℕ) → words ≡ option ∷ behind → ¬ (option ≡ codes "--lookahead") → ((word : List ℕ) → ¬ (option ≡ codes "--lookahead=" ++ word)) →
    (k : ℕ) (others : List (List ℕ)) → ¬ SaysDepth words k others
neither_says words behind option are apart joined k others says = by says are
  where
    by : {rows : List (List ℕ)} → SaysDepth rows k others → rows ≡ option ∷ behind → ⊥
    by (said.apart is) same = apart (sym (first same))
    by (said.joined {word} is) same = joined word (sym (first same))

-- ---- what words say, by the first of them

nothing_said : {words os : List (List ℕ)} {d : Option ℕ} → SaysOperands words os d → words ≡ [] → (os ≡ []) × (d ≡ None)
nothing_said said.nothing same = (refl, refl)
nothing_said said.ended same = absurd (none-cons (sym same))
nothing_said (said.operand is says) same = absurd (none-cons (sym same))
nothing_said (said.option is says) same = absurd (none-cons (sym same ∙ (begins is).2))

ended_said : {words os : List (List ℕ)} {d : Option ℕ} → SaysOperands words os d → (more : List (List ℕ)) → words ≡ codes "--" ∷ more → (os ≡ more) × (d ≡ None)
ended_said said.nothing more same = absurd (none-cons same)
ended_said said.ended more same = (behind same, refl)
ended_said (said.operand is says) more same = absurd (is (45 ∷ []) (first same))
ended_said (said.option is says) more same =
    let e : codes "--" ≡ 45 ∷ 45 ∷ 108 ∷ (begins is).0 = first (sym same ∙ (begins is).2) in
    absurd (none-cons (behind (behind e)))

operand_said : {words os : List (List ℕ)} {d : Option ℕ} → SaysOperands words os d → (word : List ℕ) (more : List (List ℕ)) → IsOperand word → words ≡ word ∷ more →
    (rest : List (List ℕ)) × (os ≡ word ∷ rest) × SaysOperands more rest d
operand_said said.nothing word more operand same = absurd (none-cons same)
operand_said said.ended word more operand same = absurd (operand (45 ∷ []) (sym (first same)))
operand_said {d} (said.operand {operands} is says) word more operand same =
    (operands, ap (λ w. w ∷ operands) (first same), subst (λ ws. SaysOperands ws operands d) (behind same) says)
operand_said (said.option is says) word more operand same = absurd (operand (45 ∷ 108 ∷ (begins is).0) (first (sym same ∙ (begins is).2)))

option_said : {words os : List (List ℕ)} {d : Option ℕ} → SaysOperands words os d → (k : ℕ) (others : List (List ℕ)) → SaysDepth words k others → SaysOperands others os None × (d ≡ Some k)
option_said {os} says k others option = by says option refl
  where
    by : {words rows os : List (List ℕ)} {d : Option ℕ} {k : ℕ} {others : List (List ℕ)} → SaysOperands words os d → SaysDepth rows k others → words ≡ rows →
        SaysOperands others os None × (d ≡ Some k)
    by said.nothing option same = absurd (none-cons (same ∙ (begins option).2))
    by said.ended option same = absurd (none-cons (behind (behind (first (same ∙ (begins option).2)))))
    by (said.operand is says) option same = absurd (is (45 ∷ 108 ∷ (begins option).0) (first (same ∙ (begins option).2)))
    by {os} (said.option {words} {others = rest} {k = j} is says) option same =
        let one = depth_is (subst (λ ws. SaysDepth ws j rest) same is) _ _ option in
        (subst (λ ws. SaysOperands ws os None) one.1 says, ap Some one.0)

-- words that begin with none of these say nothing
pub refused : {words os : List (List ℕ)} {d : Option ℕ} → SaysOperands words os d → (word : List ℕ) (more : List (List ℕ)) → words ≡ word ∷ more → ¬ (IsOperand word) → ¬ (word ≡ codes "--") →
    (k : ℕ) × (others : List (List ℕ)) × SaysDepth words k others
refused said.nothing word more same not_operand not_end = absurd (none-cons same)
refused said.ended word more same not_operand not_end = absurd (not_end (sym (first same)))
refused (said.operand is says) word more same not_operand not_end = absurd (not_operand (subst IsOperand (first same) is))
refused (said.option {others} {k} is says) word more same not_operand not_end = (k, others, is)

-- words say one thing
pub says_one : {words os ps : List (List ℕ)} {d e : Option ℕ} → SaysOperands words os d → SaysOperands words ps e → (os ≡ ps) × (d ≡ e)
says_one said.nothing also = let one = nothing_said also refl in (sym one.0, sym one.1)
says_one said.ended also = let one = ended_said also _ refl in (sym one.0, sym one.1)
says_one (said.operand {word} is says) also =
    let one = operand_said also _ _ is refl in
    let rest = says_one says one.2 in
    (ap (λ os. word ∷ os) rest.0 ∙ sym one.1, rest.1)
says_one (said.option is says) also =
    let one = option_said also _ _ is in
    ((says_one says one.0).0, sym one.1)

-- ---- reading on

-- one depth of two that may be said
pub data Joins : Option ℕ → Option ℕ → Option ℕ → Type 0 where
  later : {d : Option ℕ} → Joins None d d
  before : {k : ℕ} → Joins (Some k) None (Some k)

no_more : (d : Option ℕ) → Joins d None d
no_more None = later
no_more (Some k) = before

-- what the words say is what was read, and what the rest of them says behind it
pub record IsReading (words got : List (List ℕ)) (depth : Option ℕ) (rest : List (List ℕ)) : Type 0 where
  pub forth : (os : List (List ℕ)) (d e : Option ℕ) → SaysOperands rest os d → Joins depth d e → SaysOperands words (got ++ os) e
  pub back : (os : List (List ℕ)) (e : Option ℕ) → SaysOperands words os e → (tail : List (List ℕ)) × (d : Option ℕ) × (os ≡ got ++ tail) × Joins depth d e × SaysOperands rest tail d

pub reading_begins : (words : List (List ℕ)) → IsReading words [] None words
reading_begins words = record {
  forth = λ os d e says joins. as_said says joins;
  back = λ os e says. (os, e, refl, later, says);
}
  where
    as_said : {os : List (List ℕ)} {d e : Option ℕ} → SaysOperands words os d → Joins None d e → SaysOperands words os e
    as_said says later = says

module _ (words got : List (List ℕ)) (depth : Option ℕ) (rest : List (List ℕ)) (reading : IsReading words got depth rest) where
  -- an operand is read
  pub reads_operand : (word : List ℕ) (more : List (List ℕ)) → rest ≡ word ∷ more → IsOperand word → IsReading words (got ++ word ∷ []) depth more
  reads_operand word more same operand = record {
    forth = λ os d e says joins.
        subst (λ ws. SaysOperands words ws e) (sym (append_assoc got (word ∷ []) os))
        (reading.forth (word ∷ os) d e (subst (λ ws. SaysOperands ws (word ∷ os) d) (sym same) (said.operand operand says)) joins);
    back = λ os e says.
        let told = reading.back os e says in
        let here = operand_said told.4 word more operand same in
        (here.0, told.1, told.2 ∙ ap (λ ws. got ++ ws) here.1 ∙ sym (append_assoc got (word ∷ []) here.0), told.3, here.2);
  }

  -- all behind `--` is read
  pub reads_end : (more : List (List ℕ)) → rest ≡ codes "--" ∷ more → SaysOperands words (got ++ more) depth
  reads_end more same = reading.forth more None depth (subst (λ ws. SaysOperands ws more None) (sym same) said.ended) (no_more depth)

  -- nothing is left
  pub reads_nothing : rest ≡ [] → SaysOperands words got depth
  reads_nothing same =
      subst (λ ws. SaysOperands words ws depth) (append-nil got) (reading.forth [] None depth (subst (λ ws. SaysOperands ws [] None) (sym same) said.nothing) (no_more depth))

  -- the words are refused where the rest says nothing
  pub reads_none : ((os : List (List ℕ)) (d : Option ℕ) → ¬ SaysOperands rest os d) → (os : List (List ℕ)) (e : Option ℕ) → ¬ SaysOperands words os e
  reads_none none os e says = let told = reading.back os e says in none told.0 told.1 told.4

-- the option is read, where none was
pub reads_option : (words got rest : List (List ℕ)) (depth : Option ℕ) (k : ℕ) (others : List (List ℕ)) → IsReading words got depth rest → is_some depth ≡ false → SaysDepth rest k others →
    IsReading words got (Some k) others
reads_option words got rest None k others reading none option = record {
  forth = forth_by;
  back = λ os e says.
      let told = reading.back os e says in
      let here = option_said told.4 k others option in
      (told.0, None, told.2, joined told.3 here.1, here.0);
}
  where
    forth_by : (os : List (List ℕ)) (d e : Option ℕ) → SaysOperands others os d → Joins (Some k) d e → SaysOperands words (got ++ os) e
    forth_by os _ _ says before = reading.forth os (Some k) (Some k) (said.option option says) later

    joined : {d e : Option ℕ} → Joins None d e → d ≡ Some k → Joins (Some k) None e
    joined later same = subst (λ e. Joins (Some k) None e) (sym same) before
reads_option words got rest (Some j) k others reading none option = absurd (false≢true (sym none))

-- behind one option another is refused, as is what is none
pub none_behind_option : (words got rest : List (List ℕ)) (depth : Option ℕ) → IsReading words got depth rest → is_some depth ≡ true → (word : List ℕ) (more : List (List ℕ)) → rest ≡ word ∷ more →
    ¬ (IsOperand word) → ¬ (word ≡ codes "--") → (os : List (List ℕ)) (e : Option ℕ) → ¬ SaysOperands words os e
none_behind_option words got rest None reading some word more same not_operand not_end os e says = false≢true some
none_behind_option words got rest (Some j) reading some word more same not_operand not_end os e says =
    let told = reading.back os e says in
    let option = refused told.4 word more same not_operand not_end in
    by told.3 (option_said told.4 option.0 option.1 option.2).1
  where
    by : {d e : Option ℕ} {k : ℕ} → Joins (Some j) d e → d ≡ Some k → ⊥
    by before same = cc
