-- What changes make of a text.
use Rattle.std.proofs.Common.{◌≡◌, ℕ, ◌+◌, ◌<◌, ◌≤◌, ◌⊎◌, inl, inr, ⊎_elim, List, [], ◌∷◌, ◌++◌, length, get_or, take, drop, Bor, Option, Some, None, unwrap_or, Result, Ok, Err, MatchResult, sym, ap, ◌∙◌, subst, subst₂, arith, length-take-le, take-append-drop}
use Rattle.std.proofs.lemmas.List.{drop_more, take_more}
use Rattle.std.specs.Option.{option_copied}
use Rattle.lw_text.specs.Changes.{AreMade, none, next, Changes, refused, HasBadRange, IsChanged, IsMade, IsRefused, too_long, IsTextOrFault}
use Rattle.lw_text.specs.declared.change.Change.{Change}
use Rattle.lw_text.specs.declared.change.EditFault.{EditFault}
use Rattle.lw_text.specs.declared.change.EditFault.TheVariants.{NoMemory}
use Rattle.lw_base.specs.declared.limits.TheConstants.{LONGEST_TEXT}
use Rattle.lw_text.specs.declared.units.Encoding.{Encoding}

-- ---- one change
-- by whether the text that the change makes could be made
pub one_change : (enc : Encoding) (text : List ℕ) (change : Change) (number : ℕ) (new : List ℕ) (result : Result (List ℕ) EditFault) → ¬ (HasBadRange change) → IsChanged enc text change new → IsTextOrFault new result →
    MatchResult result (IsMade enc text change) (λ fault. (fault ≡ NoMemory) ⊎ IsRefused enc text change number fault)
one_change enc text change number new (Ok doc) ordered changed is =
    record { ordered = ordered; changed = subst (λ bytes. IsChanged enc text change bytes) (sym is.0) changed; fits = subst (λ bytes. length bytes ≤ LONGEST_TEXT) (sym is.0) is.1 }
one_change enc text change number new (Err fault) ordered changed is =
    ⊎_elim (λ refused. inl refused) (λ long. inr (subst (λ f. IsRefused enc text change number f) (sym long.0) (too_long ordered changed long.1))) is

-- ---- one change more
pub AreMade-push : (enc : Encoding) {text middle new : List ℕ} {changes : List Change} {change : Change} → AreMade enc text changes middle → IsMade enc middle change new → AreMade enc text (changes ++ change ∷ []) new
AreMade-push enc {new} none m = next new m none
AreMade-push enc (next first is more) m = next first is (AreMade-push enc more m)

-- in the latest text, which is the one that the changes so far make
pub AreMade-more : (enc : Encoding) (text middle latest new : List ℕ) (changes : List Change) (i : ℕ) (change : Change) → i < length changes → change ≡ get_or changes i change → latest ≡ middle → AreMade enc text (take i changes) middle →
    IsMade enc latest change new → AreMade enc text (take (i + 1) changes) new
AreMade-more enc text middle latest new changes i change within at here so_far is =
    let longer : take (i + 1) changes ≡ take i changes ++ change ∷ [] = take_more changes i change within ∙ ap (λ c. take i changes ++ c ∷ []) (sym at) in
    subst (λ cs. AreMade enc text cs new) (sym longer) (AreMade-push enc so_far (subst (λ bytes. IsMade enc bytes change new) here is))

pub refused_at : (enc : Encoding) (text middle latest : List ℕ) (changes : List Change) (i : ℕ) (change : Change) (fault : EditFault) → i < length changes → change ≡ get_or changes i change → latest ≡ middle → AreMade enc text (take i changes) middle →
    IsRefused enc latest change i fault → Changes enc text changes (Err fault)
refused_at enc text middle latest changes i change fault within at here so_far is =
    let size : length (take i changes) ≡ i = length-take-le i changes (omega arith) in
    let parts : changes ≡ take i changes ++ change ∷ drop (i + 1) changes = sym (take-append-drop i changes) ∙ ap (λ cs. take i changes ++ cs) (drop_more changes i change within ∙ ap (λ c. c ∷ drop (i + 1) changes) (sym at)) in
    refused (take i changes) change (drop (i + 1) changes) middle parts so_far (subst₂ (λ bytes n. IsRefused enc bytes change n fault) here (sym size) is)

-- ---- the text so far
found_text : (latest : Option (List ℕ)) (found : Option (Bor (List ℕ))) (first : Bor (List ℕ)) → option_copied found ≡ latest → (unwrap_or found first).now ≡ unwrap_or latest first.now
found_text latest None first e = ap (λ o. unwrap_or o first.now) e
found_text latest (Some text) first e = ap (λ o. unwrap_or o first.now) e

-- what a reference to the latest text, if there is one, points to
pub latest_text : (latest : Option (List ℕ)) (found : Option (Bor (List ℕ))) (first text : Bor (List ℕ)) → text ≡ unwrap_or found first → option_copied found ≡ latest → text.now ≡ unwrap_or latest first.now
latest_text latest found first text is e = ap (λ r. r.now) is ∙ found_text latest found first e
