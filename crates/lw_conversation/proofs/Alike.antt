-- What two runs were asked and answered alike, and that what they find of a file is the same then.
use Rattle.std.proofs.Common.{◌≡◌, ◌≢◌, ℕ, List, [], ◌∷◌, ◌++◌, All, Option, Some, None, sym, refl, ap, ap₂, ◌∙◌, subst, arith}
use Rattle.std.proofs.lemmas.List.Elements.{All-head, All-tail}
use Rattle.lw_io.specs.Store.{FitsFile, file_at}
use Rattle.lw_io.specs.declared.store.Found.{Found}
use Rattle.lw_io.specs.declared.store.Found.TheVariants.{Text, Absent, NotUtf8, TooLong, Failed, NoMemory}
use Rattle.lw_io.specs.Paths.{IsPathOf}
use Rattle.lw_conversation.specs.Reading as reading
use Rattle.lw_conversation.specs.Reading.{AreOfFiles, Asked, FindsFile}

-- ---- lists of which each member has its partner, while both last

abbrev pub Abreast : {A : Type 0} → (A → A → Type 0) → List A → List A → Type 0
Abreast R [] ys = Unit {0}
Abreast R (x ∷ xs) [] = Unit {0}
Abreast R (x ∷ xs) (y ∷ ys) = R x y × Abreast R xs ys

module _ {A : Type 0} (R : A → A → Type 0) where
  pub abreast_itself : ((x : A) → R x x) → (xs : List A) → Abreast R xs xs
  abreast_itself itself [] = tt
  abreast_itself itself (x ∷ xs) = (itself x, abreast_itself itself xs)

  pub abreast_where : (P : A → Type 0) → ((x y : A) → P x → P y → R x y) → (xs ys : List A) → All P xs → All P ys → Abreast R xs ys
  abreast_where P both [] ys are were = tt
  abreast_where P both (x ∷ xs) [] are were = tt
  abreast_where P both (x ∷ xs) (y ∷ ys) are were =
      (both x y (All-head P x xs are) (All-head P y ys were), abreast_where P both xs ys (All-tail P x xs are) (All-tail P y ys were))

  pub abreast_front : (xs ys more others : List A) → Abreast R (xs ++ more) (ys ++ others) → Abreast R xs ys
  abreast_front [] ys more others are = tt
  abreast_front (x ∷ xs) [] more others are = tt
  abreast_front (x ∷ xs) (y ∷ ys) more others are = (are.0, abreast_front xs ys more others are.1)

  pub abreast_behind : (xs more others : List A) → Abreast R (xs ++ more) (xs ++ others) → Abreast R more others
  abreast_behind [] more others are = are
  abreast_behind (x ∷ xs) more others are = abreast_behind xs more others are.1

-- ---- reads

-- two reads of one path have one answer, where there was memory for both
abbrev pub IsAlike : Asked → Asked → Type 0
IsAlike a b = a.path ≡ b.path → a.answer ≢ NoMemory → b.answer ≢ NoMemory → a.answer ≡ b.answer

abbrev pub Alike : List Asked → List Asked → Type 0
Alike = Abreast IsAlike

pub alike_itself : (asked : List Asked) → Alike asked asked
alike_itself = abreast_itself IsAlike (λ a same there also. refl)

-- the store could read, and there was memory
abbrev WasRead : Found → Type 0
WasRead found = (found ≢ Failed) × (found ≢ NoMemory)

absent_alone : (a : Found) → FitsFile None a → WasRead a → a ≡ Absent
absent_alone (Text text) fits told = absurd fits
absent_alone Absent fits told = refl
absent_alone NotUtf8 fits told = absurd fits
absent_alone TooLong fits told = absurd fits
absent_alone Failed fits told = absurd (told.0 refl)
absent_alone NoMemory fits told = absurd (told.1 refl)

one_of_bytes : (bytes : List ℕ) (a b : Found) → FitsFile (Some bytes) a → FitsFile (Some bytes) b → WasRead a → WasRead b → a ≡ b
one_of_bytes bytes (Text text) (Text other) is was here there = ap Text (is.0 ∙ sym was.0)
one_of_bytes bytes (Text text) NotUtf8 is was here there = absurd (was.1 is.2)
one_of_bytes bytes (Text text) TooLong is was here there = absurd (omega (arith, is.1, was))
one_of_bytes bytes NotUtf8 (Text text) is was here there = absurd (is.1 was.2)
one_of_bytes bytes NotUtf8 NotUtf8 is was here there = refl
one_of_bytes bytes NotUtf8 TooLong is was here there = absurd (omega (arith, is.0, was))
one_of_bytes bytes TooLong (Text text) is was here there = absurd (omega (arith, is, was.1))
one_of_bytes bytes TooLong NotUtf8 is was here there = absurd (omega (arith, is, was.0))
one_of_bytes bytes TooLong TooLong is was here there = refl
one_of_bytes bytes Absent b is was here there = absurd is
one_of_bytes bytes Failed b is was here there = absurd (here.0 refl)
one_of_bytes bytes NoMemory b is was here there = absurd (here.1 refl)
one_of_bytes bytes (Text text) Absent is was here there = absurd was
one_of_bytes bytes (Text text) Failed is was here there = absurd (there.0 refl)
one_of_bytes bytes (Text text) NoMemory is was here there = absurd (there.1 refl)
one_of_bytes bytes NotUtf8 Absent is was here there = absurd was
one_of_bytes bytes NotUtf8 Failed is was here there = absurd (there.0 refl)
one_of_bytes bytes NotUtf8 NoMemory is was here there = absurd (there.1 refl)
one_of_bytes bytes TooLong Absent is was here there = absurd was
one_of_bytes bytes TooLong Failed is was here there = absurd (there.0 refl)
one_of_bytes bytes TooLong NoMemory is was here there = absurd (there.1 refl)

one_of_file : (held : Option (List ℕ)) (a b : Found) → FitsFile held a → FitsFile held b → WasRead a → WasRead b → a ≡ b
one_of_file None a b is was here there = absent_alone a is here ∙ sym (absent_alone b was there)
one_of_file (Some bytes) a b is was here there = one_of_bytes bytes a b is was here there

module _ (files : List (List ℕ × List ℕ)) where
  alike_of_files : (a b : Asked) → FitsFile (file_at files a.path) a.answer × (a.answer ≢ Failed) → FitsFile (file_at files b.path) b.answer × (b.answer ≢ Failed) →
      IsAlike a b
  alike_of_files a b is was same there also =
      one_of_file (file_at files a.path) a.answer b.answer is.0 (subst (λ path. FitsFile (file_at files path) b.answer) (sym same) was.0) (is.1, there) (was.1, also)

  -- what the same files give is alike
  pub alike_where : (asked others : List Asked) → AreOfFiles files asked → AreOfFiles files others → Alike asked others
  alike_where = abreast_where IsAlike (λ a. FitsFile (file_at files a.path) a.answer × (a.answer ≢ Failed)) alike_of_files

-- ---- what is found

-- an address has one path at most
abbrev pub HasOnePath : Type 0
HasOnePath = (address path other : List ℕ) → IsPathOf address path → IsPathOf address other → path ≡ other

module _ (one_path : HasOnePath) (address : List ℕ) where
  -- where reads are alike the same is found, by the same reads, where there was memory
  pub one_found : (asked others : List Asked) (a b : Found) → Alike asked others → a ≢ NoMemory → b ≢ NoMemory → FindsFile address asked a →
      FindsFile address others b → (asked ≡ others) × (a ≡ b)
  one_found asked others a b alike here there (reading.no_path none) (reading.no_path also) = (refl, refl)
  one_found asked others a b alike here there (reading.no_path none) (reading.asked {path = p} is) = absurd (none p is)
  one_found asked others a b alike here there (reading.asked {path = p} is) (reading.no_path none) = absurd (none p is)
  one_found asked others a b alike here there (reading.asked {path = p} is) (reading.asked {path = q} was) =
      let paths = one_path address p q is was in
      let answers = alike.0 paths here there in
      (ap₂ (λ path found. record { path = path; answer = found } ∷ []) paths answers, answers)
