-- Whether two lists of links, or of diagnostics, are one, and so whether what is so before and after differs or agrees.
use Rattle.std.proofs.Common.{◌≡◌, ◌≢◌, ℕ, List, [], ◌∷◌, Option, Some, None, inl, inr, ◌⊎◌, sym, refl, ap, ap₂, subst, arith}
use Rattle.std.proofs.lemmas.Bool.{cases_lt}
use Rattle.std.proofs.lemmas.Option.{same_Some}
use Rattle.lw_text.specs.declared.place.Pos.{Pos}
use Rattle.lw_text.specs.declared.shown.Shown.{Shown}
use Rattle.lw_machine.specs.declared.published.Published.{Published}
use Rattle.lw_scoping.specs.Links.{Link}
use Rattle.lw_machine.specs.Documents.{Document}
use Rattle.lw_machine.specs.Settling.{Differ, Agree}
use Rattle.lw_machine.specs.Building as building
use Rattle.lw_machine.specs.Building.{IsNext, Builds, BuildsToEnd, Publishes, risen, indexed, validated}
use Rattle.lw_machine.proofs.Places.{one_or_two}

-- ---- whether two lists of diagnostics are one
abbrev pub OneOrTwo : {A : Type 0} → A → A → Type 0
OneOrTwo a b = (a ≡ b) ⊎ (a ≢ b)

one_number : (a b : ℕ) → OneOrTwo a b
one_number a b = elim (cases_lt a b) [
  | inl lt ↦ inr (λ same. omega arith)
  | inr ge ↦ elim (cases_lt b a) [ inl gt ↦ inr (λ same. omega arith) | inr le ↦ inl (omega arith) ]
]

-- two values with parts are one where the parts are
one_pair : {A B C : Type 0} (make : A → B → C) (a b : A) (x y : B) → (make a x ≡ make b y → a ≡ b) → (make a x ≡ make b y → x ≡ y) → OneOrTwo a b → OneOrTwo x y →
    OneOrTwo (make a x) (make b y)
one_pair make a b x y left right (inl p) (inl q) = inl (ap₂ make p q)
one_pair make a b x y left right (inl p) (inr q) = inr (λ same. q (right same))
one_pair make a b x y left right (inr p) r = inr (λ same. p (left same))

one_place : (a b : Pos) → OneOrTwo a b
one_place a b =
    one_pair {C = Pos} (λ line character. record { line = line; character = character }) a.line b.line a.character b.character (ap (λ (p : Pos). p.line))
    (ap (λ (p : Pos). p.character)) (one_number a.line b.line) (one_number a.character b.character)

one_shown : (a b : Shown) → OneOrTwo a b
one_shown a b =
    one_pair {A = Pos × Pos} {B = ℕ × List ℕ} {C = Shown} (λ at says. record { start = at.0; end = at.1; code = says.0; message = says.1 })
    (a.start, a.end) (b.start, b.end) (a.code, a.message) (b.code, b.message) (λ same i. ((same i).start, (same i).end)) (λ same i. ((same i).code, (same i).message))
    (one_pair {C = Pos × Pos} (λ x y. (x, y)) a.start b.start a.end b.end (ap (λ p. p.0)) (ap (λ p. p.1)) (one_place a.start b.start) (one_place a.end b.end))
    (one_pair {C = ℕ × List ℕ} (λ x y. (x, y)) a.code b.code a.message b.message (ap (λ p. p.0)) (ap (λ p. p.1)) (one_number a.code b.code) (one_or_two a.message b.message))

pub one_list : (list other : List Shown) → OneOrTwo list other
one_list [] [] = inl refl
one_list [] (y ∷ ys) = inr (λ same. cc)
one_list (x ∷ xs) [] = inr (λ same. cc)
one_list (x ∷ xs) (y ∷ ys) = one_pair (λ z zs. z ∷ zs) x y xs ys (λ same. cc) (λ same. cc) (one_shown x y) (one_list xs ys)

told_or_not : (o : Option (List Shown)) (list : List Shown) → OneOrTwo o (Some list)
told_or_not None list = inr (λ same. cc)
told_or_not (Some other) list = elim (one_list other list) [ inl same ↦ inl (ap Some same) | inr apart ↦ inr (λ same. apart (same_Some other list same)) ]

-- ---- whether two lists of links are one
one_target : (a b : List ℕ × ℕ) → OneOrTwo a b
one_target a b =
    one_pair {C = List ℕ × ℕ} (λ x y. (x, y)) a.0 b.0 a.1 b.1 (ap (λ (p : List ℕ × ℕ). p.0)) (ap (λ (p : List ℕ × ℕ). p.1)) (one_or_two a.0 b.0)
    (one_number a.1 b.1)

one_link : (a b : Link) → OneOrTwo a b
one_link None None = inl refl
one_link None (Some y) = inr (λ same. cc)
one_link (Some x) None = inr (λ same. cc)
one_link (Some x) (Some y) = elim (one_target x y) [ inl same ↦ inl (ap Some same) | inr apart ↦ inr (λ same. apart (same_Some x y same)) ]

pub one_list_of_links : (links other : List Link) → OneOrTwo links other
one_list_of_links [] [] = inl refl
one_list_of_links [] (y ∷ ys) = inr (λ same. cc)
one_list_of_links (x ∷ xs) [] = inr (λ same. cc)
one_list_of_links (x ∷ xs) (y ∷ ys) = one_pair (λ z zs. z ∷ zs) x y xs ys (λ same. cc) (λ same. cc) (one_link x y) (one_list_of_links xs ys)

-- ---- what is published
pub publishes : (address : List ℕ) (d : Document) (list : List Shown) → (published : List Published) × Publishes address d list published
publishes address d list = elim (told_or_not d.published list) [ inl is ↦ ([], building.same is) | inr apart ↦ (_, building.other apart) ]

-- what is so before and after differs or agrees
pub compared : {A : Type 0} (Before After : A → Type 0) → ((a b : A) → OneOrTwo a b) → ((a : A) × Before a) → ((b : A) × After b) → Differ Before After ⊎ Agree Before After
compared Before After one (a, is) (b, was) = elim (one a b) [ inl same ↦ inr (a, is, subst After (sym same) was) | inr apart ↦ inl (a, b, is, was, apart) ]
