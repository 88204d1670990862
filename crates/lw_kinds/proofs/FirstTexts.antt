-- Uses put behind others, each text once: their texts, and that each is the first of its text.
use Rattle.std.proofs.Common.{◌≡◌, ℕ, zero, suc, ◌<◌, List, [], ◌∷◌, ◌++◌, Bool, true, false, if◌then◌else◌, Some, is_some, slice_get, map, ◌⊎◌, inl, inr, Contains, refl, sym, ap, ◌∙◌, subst, arith, true≢false}
use Rattle.std.specs.List.{list_any}
use Rattle.std.specs.Str.{bytes_eq}
use Rattle.std.specs.Cmp.Lexicographic.{nat_list_eq_equiv}
use Rattle.std.proofs.lemmas.List.{map-append}
use Rattle.std.proofs.lemmas.List.Elements.{Contains-append_left, Contains-append_right, Contains-append_cases}
use Rattle.std.proofs.lemmas.List.Sums.{fold-append}
use Rattle.std.specs.Map.{lookup}
use Rattle.std.proofs.lemmas.Map.Made.{is_some-lookup}
use Rattle.std.proofs.lemmas.Map.Views.{Contains-from_any, list_any-from_Contains}
use Rattle.std.proofs.lemmas.Option.{same_Some}
use Rattle.indexmap.specs.IndexSet.{insert_key, insert_all}
use Rattle.lw_grammar.specs.Kinds.{first_uses}
use Rattle.lw_grammar.specs.Named.{IsFirst}
use Rattle.lw_grammar.proofs.FirstUses.{same_text}
use Rattle.lw_grammar.proofs.Every.{every_of}
use Rattle.lw_numbers.proofs.Gathering.{inserted_first}
use Rattle.lw_kinds.proofs.PassingReads.{at_front, further}
use Rattle.lw_kinds.specs.Gathering.{put_use, put_uses}
use Rattle.lw_kinds.specs.Uses.{Use}

abbrev pub texts_of : List Use → List (List ℕ)
texts_of uses = map (λ word. word.0) uses

-- ---- one part after another

pub put_uses-append : (uses more others : List Use) → put_uses uses (more ++ others) ≡ put_uses (put_uses uses more) others
put_uses-append uses more others = fold-append put_use uses more others

-- as a map says whether it has the text
pub put_use-new : (uses : List Use) (word : Use) → is_some (lookup (bytes_eq word.0) uses) ≡ false → put_use uses word ≡ uses ++ word ∷ []
put_use-new uses word absent = ap (λ b. if b then uses else uses ++ word ∷ []) (sym (is_some-lookup (bytes_eq word.0) uses) ∙ absent)

pub put_use-present : (uses : List Use) (word : Use) → is_some (lookup (bytes_eq word.0) uses) ≡ true → put_use uses word ≡ uses
put_use-present uses word present = ap (λ b. if b then uses else uses ++ word ∷ []) (sym (is_some-lookup (bytes_eq word.0) uses) ∙ present)

-- ---- their texts

texts-put_use : (uses : List Use) (word : Use) → texts_of (put_use uses word) ≡ insert_key bytes_eq (texts_of uses) word.0
texts-put_use uses word = by (list_any (bytes_eq word.0) (texts_of uses))
  where
    by : (b : Bool) → texts_of (if b then uses else uses ++ word ∷ []) ≡ (if b then texts_of uses else texts_of uses ++ word.0 ∷ [])
    by true = refl
    by false = map-append (λ (other : Use). other.0) uses (word ∷ [])

texts-put_uses : (uses words : List Use) → texts_of (put_uses uses words) ≡ insert_all bytes_eq (texts_of uses) (texts_of words)
texts-put_uses uses [] = refl
texts-put_uses uses (word ∷ words) = texts-put_uses (put_use uses word) words ∙ ap (λ texts. insert_all bytes_eq texts (texts_of words)) (texts-put_use uses word)

pub texts-first : (words : List Use) → texts_of (put_uses [] words) ≡ first_uses [] (texts_of words)
texts-first words = texts-put_uses [] words ∙ inserted_first (texts_of words)

-- ---- each is the first of its text

text_in : (uses : List Use) (word : Use) → Contains uses word → Contains (texts_of uses) word.0
text_in [] word (k, inside, is) = absurd (omega arith)
text_in (other ∷ uses) word (zero, inside, is) = (0, omega arith, ap (λ (x : Use). x.0) is)
text_in (other ∷ uses) word (suc k, inside, is) = further other.0 (texts_of uses) word.0 (text_in uses word (k, omega arith, is))

word_of : (uses : List Use) (text : List ℕ) → Contains (texts_of uses) text → (word : Use) × Contains uses word × (word.0 ≡ text)
word_of [] text (k, inside, is) = absurd (omega arith)
word_of (other ∷ uses) text (zero, inside, is) = (other, at_front other uses, is)
word_of (other ∷ uses) text (suc k, inside, is) = let found = word_of uses text (k, omega arith, is) in (found.0, further other uses found.0 found.1, found.2)

-- no use is of this text
abbrev HasNone : List Use → List ℕ → Type 0
HasNone uses text = (other : Use) → Contains uses other → ¬ (other.0 ≡ text)

-- what one use more does
record Put (uses : List Use) (word : Use) (new : List Use) : Type 0 where
  pub keeps : (other : Use) → Contains uses other → Contains new other
  pub has : (other : Use) × Contains new other × (other.0 ≡ word.0)
  pub others : (other : Use) → Contains new other → Contains uses other ⊎ ((word ≡ other) × HasNone uses word.0)

puts : (uses : List Use) (word : Use) → Put uses word (put_use uses word)
puts uses word = by (list_any (bytes_eq word.0) (texts_of uses)) refl
  where
    by : (b : Bool) → list_any (bytes_eq word.0) (texts_of uses) ≡ b → Put uses word (if b then uses else uses ++ word ∷ [])
    by true is = record {
      keeps = λ other has. has;
      has = word_of uses word.0 (Contains-from_any same_text word.0 (texts_of uses) is);
      others = λ other has. inl has;
    }
    by false is = record {
      keeps = λ other has. Contains-append_left uses (word ∷ []) other has;
      has = (word, Contains-append_right uses (word ∷ []) word (at_front word []), refl);
      others = λ other has. elim (Contains-append_cases uses (word ∷ []) other has) [
        | inl there ↦ inl there
        | inr here ↦
            inr (
              every_of (λ x. word ≡ x) (word ∷ []) other (refl, tt) here,
              λ x there same.
                  true≢false (sym (list_any-from_Contains nat_list_eq_equiv word.0 (texts_of uses) (subst (Contains (texts_of uses)) same (text_in uses x there))) ∙ is),
            )
      ];
    }

-- the first of its text among those put in, and no use before them is of it
abbrev IsNew : List Use → List Use → Use → Type 0
IsNew uses words word = HasNone uses word.0 × (i : ℕ) × IsFirst (λ other. other.0 ≡ word.0) words i word

first_of : (uses words : List Use) (word : Use) → Contains (put_uses uses words) word → Contains uses word ⊎ IsNew uses words word
first_of uses [] word has = inl has
first_of uses (next ∷ words) word has = elim (first_of (put_use uses next) words word has) [
  | inl there ↦ elim ((puts uses next).others word there) [
    | inl was ↦ inl was
    | inr (is, none) ↦
        inr (
          subst (HasNone uses) (ap (λ (x : Use). x.0) is) none,
          0,
          record { there = ap Some is; does = refl; none_before = λ j y below. absurd (omega (arith, below)) },
        )
  ]
  | inr (none, i, first) ↦
      inr (
        λ other was same. none other ((puts uses next).keeps other was) same,
        suc i,
        record { there = first.there; does = first.does; none_before = before none i first },
      )
]
  where
    before : HasNone (put_use uses next) word.0 → (i : ℕ) → IsFirst (λ other. other.0 ≡ word.0) words i word → (j : ℕ) (y : Use) → j < suc i →
        slice_get (next ∷ words) j ≡ Some y → y.0 ≡ word.0 → ⊥
    before none i first zero y below there same =
        let one = (puts uses next).has in none one.0 one.1 (one.2 ∙ ap (λ (x : Use). x.0) (same_Some next y there) ∙ same)
    before none i first (suc j) y below there same = first.none_before j y (omega (arith, below)) there same

pub each_first : (words : List Use) (word : Use) → Contains (put_uses [] words) word → (i : ℕ) × IsFirst (λ other. other.0 ≡ word.0) words i word
each_first words word has = elim (first_of [] words word has) [ inl (k, inside, is) ↦ absurd (omega (arith, inside)) | inr (none, i, first) ↦ (i, first) ]
