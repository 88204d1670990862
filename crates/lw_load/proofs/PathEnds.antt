-- Where a path begins and ends: its first slash, its folder, its extension.
use Rattle.std.proofs.Common.{◌≡◌, ◌≢◌, ◌∙◌, inl, inr, ℕ, suc, zero, ◌<◌, Bool, true, false, cond, List, [], ◌∷◌, ◌++◌, append-nil, length, get_or, take, refl, sym, ap, ap₂, eqb, bytes_eq, arith}
use Rattle.std.proofs.lemmas.Bool.{cases_Bool, ne_eqb, eq-eqb, cond-false}
use Rattle.std.proofs.lemmas.Bool.Decides.{Decides-eqb, same_from_decides}
use Rattle.std.proofs.lemmas.Slice.Eq.{bytes_eq-Decides, ends_is}
use Rattle.std.specs.List.{ends_with}
use Rattle.lw_load.specs.Paths.{is_absolute, folder, extension, has_extension, extended, walked, import_path}

-- ---- the first slash
pub is_absolute-first : (path : List ℕ) → is_absolute path ≡ eqb (get_or path 0 0) 47
is_absolute-first [] = refl
is_absolute-first (c ∷ cs) = refl

-- ---- the folder
-- with no slash there is none
pub folder_none : (path : List ℕ) → ((i : ℕ) → i < length path → get_or path i 0 ≢ 47) → folder path ≡ []
folder_none [] none = refl
folder_none (c ∷ cs) none =
    let rest : folder cs ≡ [] = folder_none cs (λ i inside. none (suc i) (omega arith)) in
    rw (rest, ne_eqb c 47 (none 0 (omega arith)))

-- it ends with the last slash
pub folder_at : (path : List ℕ) (k : ℕ) → k < length path → get_or path k 0 ≡ 47 → ((i : ℕ) → k < i → i < length path → get_or path i 0 ≢ 47) → folder path ≡ take (suc k) path
folder_at [] k inside slash last = absurd (omega arith)
folder_at (c ∷ cs) zero inside slash last =
    let rest : folder cs ≡ [] = folder_none cs (λ i within. last (suc i) (omega arith) (omega arith)) in
    rw (rest, eq-eqb c 47 slash)
folder_at (c ∷ []) (suc k) inside slash last = absurd (omega arith)
folder_at (c ∷ d ∷ cs) (suc k) inside slash last =
    let rest : folder (d ∷ cs) ≡ take (suc k) (d ∷ cs) = folder_at (d ∷ cs) k (omega arith) slash (λ i past within. last (suc i) (omega arith) (omega arith)) in
    rw rest

-- ---- the extension
-- the path ends with the extension
abbrev EndsWithExtension : List ℕ → Type 0
EndsWithExtension path = (front : List ℕ) × (path ≡ front ++ extension)

extension-found : (front : List ℕ) → has_extension (front ++ extension) ≡ true
extension-found [] = refl
extension-found (c ∷ front) = elim (bytes_eq (c ∷ front ++ extension) extension) as (λ b. cond b true (has_extension (front ++ extension)) ≡ true) [ true ↦ refl | false ↦ extension-found front ]

extension-stands : (path : List ℕ) → has_extension path ≡ true → EndsWithExtension path
extension-stands [] e = cc
extension-stands (c ∷ cs) e =
    elim (cases_Bool (bytes_eq (c ∷ cs) extension)) [
      | inl all ↦ ([], (bytes_eq-Decides (c ∷ cs) extension).0 all)
      | inr some ↦
          let rest = extension-stands cs (sym (cond-false _ true (has_extension cs) some) ∙ e) in
          (c ∷ rest.0, ap (λ t. c ∷ t) rest.1)
    ]

-- `ends_with` tests for it
pub has_extension-ends : (path : List ℕ) (r : Bool) → r ≡ ends_with eqb path extension → has_extension path ≡ r
has_extension-ends path r e =
    let ends = ends_is Decides-eqb path extension r e in
    same_from_decides {P = EndsWithExtension path} _ _
    (extension-stands path, λ h. ap has_extension h.1 ∙ extension-found h.0)
    ((λ yes. (take _ path, ends.0 yes)), λ h. ends.1 h.0 h.1)

-- ---- the path of an import
extended-parts : (path : List ℕ) → path ++ cond (has_extension path) [] extension ≡ extended path
extended-parts path =
    elim (has_extension path) as (λ b. path ++ cond b [] extension ≡ cond b path (path ++ extension)) [ true ↦ append-nil path | false ↦ refl ]

-- what it is relative to, itself, and the extension where it leaves that out
pub import_path-parts : (importer path start missing : List ℕ) → start ≡ cond (is_absolute path) [] (folder importer) → missing ≡ cond (has_extension path) [] extension → walked (start ++ (path ++ missing)) ≡ import_path importer path
import_path-parts importer path start missing from left =
    let whole : path ++ missing ≡ extended path = ap (λ t. path ++ t) left ∙ extended-parts path in
    ap walked (ap₂ (λ s t. s ++ t) from whole
    ∙ elim (is_absolute path) as (λ a. cond a [] (folder importer) ++ extended path ≡ cond a (extended path) (folder importer ++ extended path)) [ true ↦ refl | false ↦ refl ])
