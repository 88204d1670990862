-- A list of changes has one outcome.
use Rattle.std.proofs.Common.{◌≡◌, ℕ, ◌+◌, List, [], ◌∷◌, ◌++◌, length, take, drop, Some, Result, Ok, Err, refl, sym, ap, ap₂, ◌∙◌, subst, arith, All, IsUtf8, append-nil, append_assoc, None, Option, ⊎_elim, inl, inr, ◌⊎◌}
use Rattle.std.proofs.lemmas.Bool.{cases_eq, cases_lt}
use Rattle.std.proofs.lemmas.List.Elements.{All-head, All-tail}
use Rattle.std.proofs.lemmas.Str.{IsUtf8-append, IsUtf8-drop, IsUtf8-take}
use Rattle.std.specs.Option.{IsSomeAnd}
use Rattle.lw_text.specs.Changes.{IsAfter, AreMade, none, next, Changes, made, refused, IsChanged, whole, part, IsMade, IsRefused, bad_range, too_long, HasBadRange}
use Rattle.lw_text.specs.Offset.{IsOffset}
use Rattle.lw_text.specs.declared.change.Change.{Change}
use Rattle.lw_text.specs.declared.change.EditFault.{EditFault}
use Rattle.lw_text.specs.declared.change.EditFault.TheVariants.{TooLong, BadRange}
use Rattle.lw_text.specs.declared.place.Pos.{Pos}
use Rattle.lw_text.specs.declared.units.Encoding.{Encoding}
use Rattle.lw_base.specs.declared.limits.TheConstants.{LONGEST_TEXT}
use Rattle.lw_text.proofs.Making.{AreMade-push}
use Rattle.lw_text.proofs.Offsets.{IsOffset-only, IsOffset-some}

module _ (enc : Encoding) where
  -- ---- one change
  pub IsChanged-only : {text : List ℕ} {change : Change} {a b : List ℕ} → IsChanged enc text change a → IsChanged enc text change b → a ≡ b
  IsChanged-only (whole e) (whole f) = refl
  IsChanged-only (whole e) (part start end f i j) = absurd cc
  IsChanged-only (part start end f i j) (whole e) = absurd cc
  IsChanged-only {text} {change} (part start end {from} {to} e i j) (part start' end' {from = from'} {to = to'} f i' j') =
      let range : Pos × Pos = (start, end) in
      let range' : Pos × Pos = (start', end') in
      let whole : Some range ≡ Some range' = sym e ∙ f in
      let same : range ≡ range' = cc in
      let starts : start ≡ start' = ap (λ r. r.0) same in
      let ends : end ≡ end' = ap (λ r. r.1) same in
      let one = IsOffset-only enc text start' from from' (subst (λ at. IsOffset enc text at from) starts i) i' in
      let two = IsOffset-only enc text end' to to' (subst (λ at. IsOffset enc text at to) ends j) j' in
      ap₂ (λ m n. take m text ++ change.text ++ drop n text) one two

  -- a change is made or refused
  pub not_both : {text new : List ℕ} {change : Change} {number : ℕ} {fault : EditFault} → IsMade enc text change new → ¬ (IsRefused enc text change number fault)
  not_both m (bad_range bad) = m.ordered bad
  not_both m (too_long {new} ordered changed long) = omega (arith, m.fits, ap length (IsChanged-only m.changed changed))

  IsRefused-only : {text : List ℕ} {change : Change} {number : ℕ} {a b : EditFault} → IsRefused enc text change number a → IsRefused enc text change number b → a ≡ b
  IsRefused-only (bad_range bad) (bad_range bad') = refl
  IsRefused-only (bad_range bad) (too_long ordered changed long) = absurd (ordered bad)
  IsRefused-only (too_long ordered changed long) (bad_range bad) = absurd (ordered bad)
  IsRefused-only (too_long ordered changed long) (too_long ordered' changed' long') = ap (λ bytes. TooLong (length bytes)) (IsChanged-only changed changed')

  -- ---- all changes
  AreMade-only : {text a b : List ℕ} {changes : List Change} → AreMade enc text changes a → AreMade enc text changes b → a ≡ b
  AreMade-only none none = refl
  AreMade-only {b} (next {new} {changes} middle m more) (next middle' m' more') =
      let same = IsChanged-only m'.changed m.changed in
      AreMade-only more (subst (λ bytes. AreMade enc bytes changes b) same more')

  -- changes that are all made have none among them that is refused
  made_not_refused : (before : List Change) (change : Change) (after : List Change) {text middle new : List ℕ} {number : ℕ} {fault : EditFault} → AreMade enc text (before ++ change ∷ after) new → AreMade enc text before middle →
      ¬ (IsRefused enc middle change number fault)
  made_not_refused [] change after (next _ m more) none r = not_both m r
  made_not_refused (first ∷ before) change after {middle} (next _ m more) (next _ m' more') r =
      made_not_refused before change after more (subst (λ bytes. AreMade enc bytes before middle) (IsChanged-only m'.changed m.changed) more') r

  same_fault : (before before' : List Change) {text middle middle' : List ℕ} (change change' : Change) (after after' : List Change) (n n' : ℕ) {a b : EditFault} →
      before ++ change ∷ after ≡ before' ++ change' ∷ after' → n + length before' ≡ n' + length before → AreMade enc text before middle → AreMade enc text before' middle' →
      IsRefused enc middle change n a → IsRefused enc middle' change' n' b → a ≡ b
  same_fault [] [] {text} change change' after after' n n' {b} e size none none r r' =
      let same : change' ≡ change = cc in
      let number : n' ≡ n = omega arith in
      IsRefused-only r (subst (λ k. IsRefused enc text change k b) number (subst (λ c. IsRefused enc text c n' b) same r'))
  same_fault [] (first ∷ before') {text} change change' after after' n n' {a} e size none (next _ m more) r r' =
      let same : change ≡ first = cc in
      absurd (not_both m (subst (λ c. IsRefused enc text c n a) same r))
  same_fault (first ∷ before) [] {text} change change' after after' n n' {b} e size (next _ m more) none r r' =
      let same : change' ≡ first = cc in
      absurd (not_both m (subst (λ c. IsRefused enc text c n' b) same r'))
  same_fault (first ∷ before) (first' ∷ before') {text} {middle'} change change' after after' n n' e size (next mid m more) (next mid' m' more') r r' =
      let firsts : first' ≡ first = cc in
      let rest : before ++ change ∷ after ≡ before' ++ change' ∷ after' = cc in
      let same = IsChanged-only (subst (λ c. IsMade enc text c mid') firsts m').changed m.changed in
      same_fault before before' change change' after after' n n' rest (omega arith) more (subst (λ bytes. AreMade enc bytes before' middle') same more') r r'

  pub Changes-only : (text : List ℕ) (changes : List Change) (a b : Result (List ℕ) EditFault) → Changes enc text changes a → Changes enc text changes b → a ≡ b
  Changes-only text changes a b (made m) (made m') = ap (λ new. Ok new) (AreMade-only m m')
  Changes-only text changes a b (made {new} m) (refused before change after middle e some r) = absurd (made_not_refused before change after (subst (λ cs. AreMade enc text cs new) e m) some r)
  Changes-only text changes a b (refused before change after middle e some r) (made {new} m) = absurd (made_not_refused before change after (subst (λ cs. AreMade enc text cs new) e m) some r)
  Changes-only text changes a b (refused before change after middle e some r) (refused before' change' after' middle' e' some' r') =
      ap (λ fault. Err fault) (same_fault before before' change change' after after' (length before) (length before') (sym e ∙ e') (omega arith) some some' r r')

  -- ---- there is one
  -- a change of a text is made or refused
  abbrev Decided : List ℕ → Change → ℕ → Type 0
  Decided text change number = ((new : List ℕ) × IsUtf8 new × IsMade enc text change new) ⊎ ((fault : EditFault) × IsRefused enc text change number fault)

  -- by the length of the text that it makes
  by_length : (text : List ℕ) (change : Change) (number : ℕ) (new : List ℕ) → ¬ (HasBadRange change) → IsUtf8 new → IsChanged enc text change new → Decided text change number
  by_length text change number new ordered utf8 changed =
      ⊎_elim (λ long. inr (TooLong (length new), too_long ordered changed long)) (λ fits. inl (new, utf8, record { ordered = ordered; changed = changed; fits = fits })) (cases_lt LONGEST_TEXT (length new))

  decide_after : (a b : Pos) → (IsAfter a b) ⊎ ¬ (IsAfter a b)
  decide_after a b =
      ⊎_elim (λ less. inl (inl less))
      (λ lines. ⊎_elim
      (λ same. ⊎_elim (λ less. inl (inr (same, less))) (λ characters. inr (λ after. ⊎_elim (λ less. omega arith) (λ w. omega (arith, w.1)) after)) (cases_lt b.character a.character))
      (λ differ. inr (λ after. ⊎_elim (λ less. omega arith) (λ w. differ w.0) after))
      (cases_eq a.line b.line))
      (cases_lt b.line a.line)

  by_range : (text : List ℕ) (change : Change) (number : ℕ) (range : Option (Pos × Pos)) → change.range ≡ range → IsUtf8 text → IsUtf8 change.text → Decided text change number
  by_range text change number None e utf8 new =
      by_length text change number change.text (λ bad. subst (λ r. IsSomeAnd r (λ range. IsAfter range.0 range.1)) e bad) new (whole e)
  by_range text change number (Some range) e utf8 new =
      ⊎_elim
      (λ after. inr (BadRange number, bad_range (subst (λ r. IsSomeAnd r (λ range. IsAfter range.0 range.1)) (sym e) after)))
      (λ ordered. let i = IsOffset-some enc text range.0 utf8 in
      let j = IsOffset-some enc text range.1 utf8 in
      let spelled = IsUtf8-append (take i.0 text ++ change.text) (drop j.0 text) (IsUtf8-append (take i.0 text) change.text (IsUtf8-take text i.0 utf8 i.2) new) (IsUtf8-drop text j.0 utf8 j.2) in
      by_length text change number (take i.0 text ++ change.text ++ drop j.0 text) (λ bad. ordered (subst (λ r. IsSomeAnd r (λ range. IsAfter range.0 range.1)) e bad)) spelled (part range.0 range.1 e i.3 j.3))
      (decide_after range.0 range.1)

  some_from : (first : List ℕ) (all done rest : List Change) (text : List ℕ) → all ≡ done ++ rest → AreMade enc first done text → IsUtf8 text → All (λ change. IsUtf8 change.text) rest →
      (outcome : Result (List ℕ) EditFault) × Changes enc first all outcome
  some_from first all done [] text e so_far utf8 news = (Ok text, made (subst (λ cs. AreMade enc first cs text) (sym (e ∙ append-nil done)) so_far))
  some_from first all done (change ∷ rest) text e so_far utf8 news =
      ⊎_elim
      (λ m. some_from first all (done ++ change ∷ []) rest m.0 (e ∙ sym (append_assoc done (change ∷ []) rest)) (AreMade-push enc so_far m.2) m.1 (All-tail (λ c. IsUtf8 c.text) change rest news))
      (λ r. (Err r.0, refused done change rest text e so_far r.1))
      (by_range text change (length done) change.range refl utf8 (All-head (λ c. IsUtf8 c.text) change rest news))

  pub Changes-some : (text : List ℕ) (changes : List Change) → IsUtf8 text → All (λ change. IsUtf8 change.text) changes → (outcome : Result (List ℕ) EditFault) × Changes enc text changes outcome
  Changes-some text changes utf8 news = some_from text changes [] changes text refl none utf8 news
