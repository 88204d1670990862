-- The texts of the files that the words name are the only ones, and none of them is unread.
use Rattle.std.proofs.Common.{◌≡◌, ℕ, List, [], ◌∷◌, ◌++◌, Option, Some, None, refl, sym, ap₂, subst, ◌∙◌, arith}
use Rattle.lw_io.specs.Store.{FitsFile, file_at}
use Rattle.lw_io.specs.declared.store.Found.TheVariants as found
use Rattle.lw_load.specs.Loading.{Files}
use Rattle.lw_commands.specs.Named.{AreFileTexts, IsFileText, IsFirstUnread, answer_of_fault, path_of_fault}
use Rattle.lw_commands.specs.declared.named.FileFault.{FileFault}

-- ---- what a path holds is one text, or none

one_text : (held : Option (List ℕ)) (text other : List ℕ) → FitsFile held (found.Text text) → FitsFile held (found.Text other) → text ≡ other
one_text None text other fits also = absurd fits
one_text (Some bytes) text other fits also = fits.0 ∙ sym also.0

pub not_absent : (held : Option (List ℕ)) (text : List ℕ) → FitsFile held (found.Text text) → FitsFile held found.Absent → ⊥
not_absent None text fits absent = fits
not_absent (Some bytes) text fits absent = absent

pub not_bytes : (held : Option (List ℕ)) (text : List ℕ) → FitsFile held (found.Text text) → FitsFile held found.NotUtf8 → ⊥
not_bytes None text fits none = fits
not_bytes (Some bytes) text fits none = none.1 fits.2

pub not_long_text : (held : Option (List ℕ)) (text : List ℕ) → FitsFile held (found.Text text) → FitsFile held found.TooLong → ⊥
not_long_text None text fits long = fits
not_long_text (Some bytes) text fits long = absurd (omega (arith, fits.1, long))

-- ---- the texts of files at some paths

module _ (files : Files) where
  same_put : (path : List ℕ) (put other : List ℕ × List ℕ) → IsFileText files path put → IsFileText files path other → put ≡ other
  same_put path put other is also =
      let address : put.0 ≡ other.0 = is.address ∙ sym also.address in
      let text : put.1 ≡ other.1 = one_text (file_at files path) put.1 other.1 is.text also.text in
      ap₂ (λ a t. (a, t)) address text

  pub same_named : (paths : List (List ℕ)) (named others : List (List ℕ × List ℕ)) → AreFileTexts files paths named → AreFileTexts files paths others → named ≡ others
  same_named [] [] [] are also = refl
  same_named [] [] (o ∷ others) are also = absurd also
  same_named [] (n ∷ named) others are also = absurd are
  same_named (p ∷ paths) [] others are also = absurd are
  same_named (p ∷ paths) (n ∷ named) [] are also = absurd also
  same_named (p ∷ paths) (n ∷ named) (o ∷ others) are also =
      let first : n ≡ o = same_put p n o are.0 also.0 in
      let rest : named ≡ others = same_named paths named others are.1 also.1 in
      cc

  -- each of the paths has its text
  text_at : (before : List (List ℕ)) (path : List ℕ) (behind : List (List ℕ)) (named : List (List ℕ × List ℕ)) → AreFileTexts files (before ++ path ∷ behind) named →
      (put : List ℕ × List ℕ) × IsFileText files path put
  text_at [] path behind [] are = absurd are
  text_at [] path behind (n ∷ named) are = (n, are.0)
  text_at (b ∷ before) path behind [] are = absurd are
  text_at (b ∷ before) path behind (n ∷ named) are = text_at before path behind named are.1

  -- so none of them is unread
  pub no_unread : (paths : List (List ℕ)) (named : List (List ℕ × List ℕ)) → AreFileTexts files paths named → (fault : FileFault) → IsFirstUnread files paths fault →
      ((text : List ℕ) → FitsFile (file_at files (path_of_fault fault)) (found.Text text) → FitsFile (file_at files (path_of_fault fault)) (answer_of_fault fault) → ⊥) → ⊥
  no_unread paths named are fault first apart =
      let there = text_at first.before (path_of_fault fault) first.behind named (subst (λ ps. AreFileTexts files ps named) first.parts are) in
      apart there.0.1 there.1.text first.unread
