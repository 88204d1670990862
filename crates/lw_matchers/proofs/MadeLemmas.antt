-- How far the terminals are gone through.
use Rattle.std.proofs.Common.{◌≡◌, ℕ, List, [], ◌∷◌, ◌++◌, length, length-append, append_assoc, map, take, Some, Result, Err, slice_get, refl, sym, subst, ap, ◌∙◌, arith}
use Rattle.std.proofs.Math.Seq.{get_or-append_seam}
use Rattle.std.proofs.lemmas.List.{append-nil, take_at, map-append}
use Rattle.std.proofs.lemmas.Option.{slice_get-get_or}
use Rattle.lw_matchers.specs.declared.source.TerminalSource.{TerminalSource}
use Rattle.lw_matchers.specs.declared.fault.MakeTokensFault.{MakeTokensFault}
use Rattle.lw_matchers.specs.Made.{AreUsable, AreUnlisted, IsTriedAt}

seam : (done : List TerminalSource) (terminal : TerminalSource) (rest : List TerminalSource) →
    slice_get (done ++ terminal ∷ rest) (length done) ≡ Some terminal
seam done terminal rest =
    slice_get-get_or (done ++ terminal ∷ rest) (length done) terminal (omega (arith, length-append done (terminal ∷ rest)))
    ∙ ap Some (get_or-append_seam done terminal rest terminal)

-- the terminal behind those that are done
pub tried : (listed : List (List ℕ)) (all done : List TerminalSource) (terminal : TerminalSource) (rest : List TerminalSource) → done ++ terminal ∷ rest ≡ all → AreUsable done →
    AreUnlisted listed done → IsTriedAt listed all (length done) terminal
tried listed all done terminal rest parts usable unlisted = record {
  there = subst (λ (xs : List TerminalSource). slice_get xs (length done) ≡ Some terminal) parts (seam done terminal rest);
  before = subst AreUsable front usable;
  unlisted = subst (AreUnlisted listed) front unlisted;
}
  where
    front : done ≡ take (length done) all
    front = sym (take_at done (terminal ∷ rest) (length done) refl) ∙ ap (take (length done)) parts

-- with nothing left all are done
pub all_done : (done rest all : List TerminalSource) → done ++ rest ≡ all → length rest ≡ 0 → done ≡ all
all_done done [] all parts none = sym (append-nil done) ∙ parts
all_done done (x ∷ rest) all parts none = absurd (omega (arith, none))

same_fault : {T : Type 0} (a b : MakeTokensFault) → ◌≡◌ {A = Result T MakeTokensFault} (Err a) (Err b) → a ≡ b
same_fault a b e = cc

-- the fault of a call that was handed on
pub handed_on : {S T : Type 0} (called : Result S MakeTokensFault) (given from to : MakeTokensFault) (answer : Result T MakeTokensFault) →
    called ≡ Err given → answer ≡ Err from → from ≡ given → answer ≡ Err to → called ≡ Err to
handed_on called given from to answer was is same e = was ∙ ap Err (sym same ∙ same_fault from to (sym is ∙ e))

-- one more of what the terminals that are done give
pub one_more : {A B : Type 0} (f : A → B) (front old new : List B) (done : List A) (x : A) (y : B) → new ≡ old ++ y ∷ [] → old ≡ front ++ map f done → y ≡ f x →
    new ≡ front ++ map f (done ++ x ∷ [])
one_more f front old new done x y is before same =
    is ∙ ap (λ l. l ++ y ∷ []) before ∙ append_assoc front (map f done) (y ∷ []) ∙ ap (λ z. front ++ (map f done ++ z ∷ [])) same
    ∙ ap (λ l. front ++ l) (sym (map-append f done (x ∷ [])))
