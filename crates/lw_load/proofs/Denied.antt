-- Why a file was not opened.
use Rattle.std.proofs.Common.{ℕ, ◌≡◌, ◌+◌, ◌<◌, ◌≤◌, List, length, Option, Some, None, Result, Ok, Err, IfSome, IfOk, IfErr, ◌⊎◌, inl, inr, refl, sym, ap, ◌∙◌, subst}
use Rattle.std.specs.Str.{IsUtf8}
use Rattle.lw_base.specs.declared.limits.TheConstants.{LONGEST_TEXT}
use Rattle.lw_grammar.specs.Size.{size}
use Rattle.lw_io.specs.declared.store.Found.TheVariants.{Text}
use Rattle.lw_io.specs.Store.{file_at, FitsFile, AnswersFile}
use Rattle.lw_gramread.specs.Syntax.{Syntax}
use Rattle.lw_gramread.specs.PlacesWithin.{StandsWithin}
use Rattle.lw_load.specs.declared.limits.TheConstants.{LARGEST_GRAMMAR}
use Rattle.lw_load.specs.declared.fault.LoadFault.{LoadFault}
use Rattle.lw_load.specs.declared.fault.LoadFault.TheVariants.{Read, TooLarge, NoMemory}
use Rattle.lw_load.specs.Loading.{Files, HoldsText}
use Rattle.lw_load.specs.LoadFaults.{CountsLoad}
use Rattle.lw_load.specs.declared.opening.Opened.{Opened}
use Rattle.lw_load.specs.Opening.{SaysOnly, IsFound, IsUnreadable, CannotLoad}

-- a text that a store answers with
text_held : (files : Files) (path text : List ℕ) → FitsFile (file_at files path) (Text text) → HoldsText files path text
text_held files path text fits = by (file_at files path) refl fits
  where
    by : (found : Option (List ℕ)) → file_at files path ≡ found → FitsFile found (Text text) → HoldsText files path text
    by None e h = absurd h
    by (Some bytes) e h = record {
      held = e ∙ ap Some (sym h.0);
      short = subst (λ b. length b ≤ LONGEST_TEXT) (sym h.0) h.1;
      utf8 = subst IsUtf8 (sym h.0) h.2;
    }

-- where the store tells its files
pub text_told : (told : Option Files) (path text : List ℕ) → AnswersFile told path (Text text) → IfSome told (λ files. HoldsText files path text)
text_told None path text answer = tt
text_told (Some files) path text answer = text_held files path text answer

-- and a file that says something
pub found_told : (told : Option Files) (path text : List ℕ) (r : Result Opened LoadFault) → AnswersFile told path (Text text) → length text ≤ LONGEST_TEXT → IfOk r (λ file. file.path ≡ path) →
    IfOk r (λ file. file.text ≡ text) → IfOk r (λ file. SaysOnly text file.says) → IfOk r (λ file. StandsWithin text file.says) → IfOk r (IsFound told path)
found_told told path text (Err e) answer short found same says stands = tt
found_told told path text (Ok file) answer short found same says stands = record {
  found = found;
  holds = subst (λ t. IfSome told (λ files. HoldsText files path t)) (sym same) (text_told told path text answer);
  says = subst (λ t. SaysOnly t file.says) (sym same) says;
  short = subst (λ t. length t ≤ LONGEST_TEXT) (sym same) short;
  stands = subst (λ t. StandsWithin t file.says) (sym same) stands;
}

-- a path holds one text
pub same_text : (files : Files) (path a b : List ℕ) → HoldsText files path a → HoldsText files path b → b ≡ a
same_text files path a b p q = by (sym q.held ∙ p.held)
  where
    by : Some b ≡ Some a → b ≡ a
    by e = cc

-- a text that was not read says nothing
pub unread_text : (files : Files) (path text : List ℕ) (found : LoadFault) → HoldsText files path text → IsUnreadable path text found →
    (before : ℕ) → CannotLoad files before path found
unread_text files path text (Read p found at) holds why before = record {
  fails = λ _ loaded _. (why.0, text, record { holds = holds; refusal = why.2; told = why.1; nothing = why.3 }, why.4);
  large = λ _ other g held says. absurd (why.3 g (subst (λ t. Syntax t g) (same_text files path text other holds held) says));
}
unread_text files path text NoMemory holds why before = record { fails = λ other. absurd (other refl); large = λ h. absurd h }
unread_text files path text _ holds why before = absurd why

-- where the store tells its files
pub unread_told : (told : Option Files) (path text : List ℕ) (found : LoadFault) → IfSome told (λ files. HoldsText files path text) → IsUnreadable path text found →
    IfSome told (λ files. (before : ℕ) → CannotLoad files before path found)
unread_told None path text found holds why = tt
unread_told (Some files) path text found holds why = unread_text files path text found holds why

-- no read of the store failed then
pub unread_counts : {T : Type 0} (before now : ℕ) (path text : List ℕ) (r : Result T LoadFault) → IfErr r (IsUnreadable path text) → now ≡ before → CountsLoad before now r
unread_counts before now path text (Ok x) why same = same
unread_counts before now path text (Err (Read p found at)) why same = same
unread_counts before now path text (Err NoMemory) why same = same
unread_counts before now path text (Err _) why same = absurd why

-- with it the files are too large
too_large : (files : Files) (before : ℕ) (path : List ℕ) (file : Opened) → IsFound (Some files) path file → LARGEST_GRAMMAR < before + size file.says →
    CannotLoad files before path (TooLarge path)
too_large files before path file is large = record {
  fails = λ _ loaded same. (
    refl,
    record {
      text = file.text;
      says = file.says;
      holds = is.holds;
      syntax_ = is.says.says;
      large = subst (λ n. LARGEST_GRAMMAR < n + size file.says) (sym same) large;
    },
  );
  large = λ _ text g holds says.
      let same = is.says.only g (subst (λ t. Syntax t g) (same_text files path file.text text is.holds holds) says) in
      subst (λ h. LARGEST_GRAMMAR < before + size h) (sym same) large;
}

-- where the store tells its files
pub too_large_told : (told : Option Files) (before : ℕ) (path : List ℕ) (file : Opened) (found : LoadFault) → IsFound told path file →
    (found ≡ NoMemory) ⊎ ((found ≡ TooLarge file.path) × (LARGEST_GRAMMAR < before + size file.says)) → IfSome told (λ files. CannotLoad files before path found)
too_large_told None before path file found is why = tt
too_large_told (Some files) before path file found is (inl same) =
    subst (CannotLoad files before path) (sym same) (record { fails = λ other. absurd (other refl); large = λ h. absurd h })
too_large_told (Some files) before path file found is (inr why) =
    subst (CannotLoad files before path) (sym (why.0 ∙ ap TooLarge is.found)) (too_large files before path file is why.1)

-- no read of the store failed then
pub too_large_counts : (T : Type 0) (before now counted : ℕ) (file : Opened) (found : LoadFault) →
    (found ≡ NoMemory) ⊎ ((found ≡ TooLarge file.path) × (LARGEST_GRAMMAR < counted + size file.says)) → now ≡ before → CountsLoad {T = T} before now (Err found)
too_large_counts T before now counted file found (inl same) counts = subst (λ f. CountsLoad {T = T} before now (Err f)) (sym same) counts
too_large_counts T before now counted file found (inr why) counts = subst (λ f. CountsLoad {T = T} before now (Err f)) (sym why.0) counts
