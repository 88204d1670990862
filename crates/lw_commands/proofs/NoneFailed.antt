-- Where the count of a store has not risen through a session, none of its reads has failed.
use Rattle.std.proofs.Common.{◌≡◌, ◌≢◌, ◌⊎◌, inl, inr, ℕ, ◌+◌, ◌-◌, ◌^◌, ◌≤◌, List, [], ◌∷◌, All, Some, refl, sym, ap, subst, ◌∙◌, arith}
use Rattle.std.proofs.lemmas.List.Elements.{All-cons, All-head, All-nil, All-tail}
use Rattle.lw_io.specs.Causes.{Rose, next_number}
use Rattle.lw_io.specs.Store.{FitsFile, file_at}
use Rattle.lw_io.specs.declared.store.Found.{Found}
use Rattle.lw_io.specs.declared.store.Found.TheVariants.{Text, Absent, NotUtf8, TooLong, Failed, NoMemory}
use Rattle.lw_conversation.specs.Reading.{AreAnswered, AreOfFiles, Asked}
use Rattle.lw_conversation.specs.Sessions.{count_after, count_behind}
use Rattle.lw_load.specs.Loading.{Files}
use Rattle.lw_commands.specs.Serving.{count_through}

abbrev greatest : ℕ
greatest = 2 ^ 64 - 1

-- a count never falls
never_falls : (n : ℕ) (answer : Found) → n ≤ greatest → (n ≤ count_behind n answer) × (count_behind n answer ≤ greatest)
never_falls n (Text text) few = (omega arith, few)
never_falls n Absent few = (omega arith, few)
never_falls n NotUtf8 few = (omega arith, few)
never_falls n TooLong few = (omega arith, few)
never_falls n Failed few = (omega (arith, few), omega arith)
never_falls n NoMemory few = (omega arith, few)

grows : (asked : List Asked) (n : ℕ) → n ≤ greatest → (n ≤ count_after n asked) × (count_after n asked ≤ greatest)
grows [] n few = (omega arith, few)
grows (a ∷ asked) n few =
    let first = never_falls n a.answer few in
    let rest = grows asked (count_behind n a.answer) first.1 in
    (omega (arith, first.0, rest.0), rest.1)

grows_through : (asked : List (List Asked)) (n : ℕ) → n ≤ greatest → n ≤ count_through n asked
grows_through [] n few = omega arith
grows_through (a ∷ asked) n few =
    let first = grows a n few in
    let rest = grows_through asked (count_after n a) first.1 in
    omega (arith, first.0, rest)

-- one answer is no failure, or the count is the next number
abbrev IsNoFailure : Asked → Type 0
IsNoFailure a = a.answer ≢ Failed

stands_or_rose : (n : ℕ) (answer : Found) → ((answer ≢ Failed) × (count_behind n answer ≡ n)) ⊎ (count_behind n answer ≡ next_number n)
stands_or_rose n (Text text) = inl ((λ is. cc), refl)
stands_or_rose n Absent = inl ((λ is. cc), refl)
stands_or_rose n NotUtf8 = inl ((λ is. cc), refl)
stands_or_rose n TooLong = inl ((λ is. cc), refl)
stands_or_rose n Failed = inr refl
stands_or_rose n NoMemory = inl ((λ is. cc), refl)

-- a count that has risen from another
abbrev HasRisen : ℕ → ℕ → Type 0
HasRisen n count = (next_number n ≤ count) × (count ≤ greatest)

behind_next : (n : ℕ) → next_number n ≤ greatest
behind_next n = omega arith

-- so are all answers to a message
none_of_one : (asked : List Asked) (n : ℕ) → (All IsNoFailure asked × (count_after n asked ≡ n)) ⊎ HasRisen n (count_after n asked)
none_of_one [] n = inl (All-nil IsNoFailure, refl)
none_of_one (a ∷ asked) n = by (stands_or_rose n a.answer) (none_of_one asked n)
  where
    by : ((a.answer ≢ Failed) × (count_behind n a.answer ≡ n)) ⊎ (count_behind n a.answer ≡ next_number n) →
        (All IsNoFailure asked × (count_after n asked ≡ n)) ⊎ HasRisen n (count_after n asked) →
        (All IsNoFailure (a ∷ asked) × (count_after (count_behind n a.answer) asked ≡ n)) ⊎ HasRisen n (count_after (count_behind n a.answer) asked)
    by (inr rose) rest = inr (subst (λ c. HasRisen n (count_after c asked)) (sym rose) (grows asked (next_number n) (behind_next n)))
    by (inl first) (inl rest) = inl (All-cons IsNoFailure a asked first.0 rest.0, ap (λ c. count_after c asked) first.1 ∙ rest.1)
    by (inl first) (inr rest) = inr (subst (λ c. HasRisen n (count_after c asked)) (sym first.1) rest)

-- and to all messages
none_of_all : (asked : List (List Asked)) (n : ℕ) → ¬ (next_number n ≤ count_through n asked) → All (All IsNoFailure) asked
none_of_all [] n stands = All-nil (All IsNoFailure)
none_of_all (a ∷ asked) n stands = by (none_of_one a n) (λ rest. none_of_all asked n rest)
  where
    by : (All IsNoFailure a × (count_after n a ≡ n)) ⊎ HasRisen n (count_after n a) →
        (¬ (next_number n ≤ count_through n asked) → All (All IsNoFailure) asked) → All (All IsNoFailure) (a ∷ asked)
    by (inl first) others =
        All-cons (All IsNoFailure) a asked first.0 (others (subst (λ c. ¬ (next_number n ≤ count_through c asked)) first.1 stands))
    by (inr rose) others = absurd (stands (omega (arith, rose.0, grows_through asked (count_after n a) rose.1)))

-- each answer that fits the files and is no failure is the one that they give
module _ (files : Files) where
  of_one : (asked : List Asked) → AreAnswered (Some files) asked → All IsNoFailure asked → AreOfFiles files asked
  of_one asked fits none k d inside = (fits k d inside, none k d inside)

  of_all : (asked : List (List Asked)) → All (AreAnswered (Some files)) asked → All (All IsNoFailure) asked → All (AreOfFiles files) asked
  of_all asked fits none k d inside = of_one _ (fits k d inside) (none k d inside)

  pub none_failed : (count : ℕ × ℕ) (asked : List (List Asked)) → ¬ Rose count.0 count.1 → All (AreAnswered (Some files)) asked → count.1 ≡ count_through count.0 asked →
      All (AreOfFiles files) asked
  none_failed count asked stands fits counted = of_all asked fits (none_of_all asked count.0 (subst (λ c. ¬ Rose count.0 c) counted stands))
