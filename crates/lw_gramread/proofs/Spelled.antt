-- Which tokens spell a file, and which begin one, from the stack behind them.
use Rattle.std.proofs.Common.{ℕ, ◌≡◌, true, false, List, [], ◌∷◌, ◌++◌, length, Some, None, Ok, Err, refl, sym, ap, ◌∙◌, subst, arith, append_assoc}
use Rattle.lw_grammar.specs.declared.grammar.Grammar.{Grammar}
use Rattle.lw_gramread.specs.declared.lexeme.Lexeme.{Lexeme}
use Rattle.lw_gramread.specs.declared.reader.left.Spot.{Spot}
use Rattle.lw_gramread.specs.declared.reader.left.Stop.{Stop}
use Rattle.lw_gramread.specs.declared.reader.left.Stop.TheVariants as stop
use Rattle.lw_gramread.specs.Syntax.{SpellsFile, IsShallow}
use Rattle.lw_gramread.specs.Forms.{BeginsFile}
use Rattle.lw_gramread.specs.Steps.{Outcome}
use Rattle.lw_gramread.specs.FileSteps.{file}
use Rattle.lw_gramread.proofs.AgainFiles.{file_again}
use Rattle.lw_gramread.proofs.Machine.{AtStart, Stack, after, all_nullable, Verdict, Fine, Stuck, Deep, place}
use Rattle.lw_gramread.proofs.At as at
use Rattle.lw_gramread.proofs.At.{At}
use Rattle.lw_gramread.proofs.AtFiles.{file_at}
use Rattle.lw_gramread.proofs.Reach.{reach, onward, reach_join, finishing, finished, fine_at, fine_from, same_stack, budget, room}

abbrev pub FileAt : List Lexeme → Verdict → Outcome Grammar → Type 0
FileAt ts v r = At v (λ rest. Fine) (λ rest g. (rest ≡ []) × SpellsFile ts g) r

-- tokens that are fine spell a grammar
of_fine : (ts : List Lexeme) (v : Verdict) (r : Outcome Grammar) → FileAt ts v r → v ≡ Fine → (g : Grammar) × SpellsFile ts g
of_fine ts v _ (at.read g rest e p) f = (g, p.1)
of_fine ts v _ (at.stuck e) f = absurd (cc (e, f))
of_fine ts v _ (at.deep e) f = absurd (cc (e, f))

abbrev pub read_as : Grammar → List Lexeme → Outcome Grammar
read_as g rest = Ok (g, rest)

abbrev pub stops_as : Stop → List Lexeme → Outcome Grammar
stops_as s left = Err (s, left)

value_read : Outcome Grammar → Grammar → Grammar
value_read (Ok q) g = q.0
value_read (Err q) g = g

same_read : (h g : Grammar) (us vs : List Lexeme) → read_as h us ≡ read_as g vs → h ≡ g
unfolding value_read
same_read h g us vs e = ap (λ r. value_read r h) e

stop_of : Outcome Grammar → Stop → Stop
stop_of (Ok q) s = s
stop_of (Err q) s = q.0

same_stop : (s t : Stop) (us vs : List Lexeme) → stops_as s us ≡ stops_as t vs → s ≡ t
unfolding stop_of
same_stop s t us vs e = ap (λ r. stop_of r s) e

left_of : Outcome Grammar → List Lexeme → List Lexeme
left_of (Ok q) us = us
left_of (Err q) us = q.1

same_left : (s t : Stop) (us vs : List Lexeme) → stops_as s us ≡ stops_as t vs → us ≡ vs
unfolding left_of
same_left s t us vs e = ap (λ r. left_of r us) e

-- what was read is spelled, to the end
pub of_ok : (ts : List Lexeme) (v : Verdict) (r : Outcome Grammar) → FileAt ts v r → (g : Grammar) (rest : List Lexeme) → r ≡ read_as g rest → (v ≡ Fine) × SpellsFile ts g
of_ok ts v _ (at.read h us e p) g rest f = (e, subst (λ x. SpellsFile ts x) (same_read h g us rest f) p.1)
of_ok ts v _ (at.stuck e) g rest f = absurd (cc f)
of_ok ts v _ (at.deep e) g rest f = absurd (cc f)

-- where the reader stopped at a token that cannot follow
pub of_unexpected : (ts : List Lexeme) (v : Verdict) (r : Outcome Grammar) → FileAt ts v r → (spot : Spot) (left : List Lexeme) → r ≡ stops_as (stop.Unexpected spot) left → v ≡ Stuck spot left
of_unexpected ts v _ (at.read h us e p) spot left f = absurd (cc f)
of_unexpected ts v _ (at.stuck {spot = found} {left = us} e) spot left f =
    e ∙ ap (λ s. Stuck s us) (same_spot found spot (same_stop (stop.Unexpected found) (stop.Unexpected spot) us left f)) ∙
    ap (Stuck spot) (same_left (stop.Unexpected found) (stop.Unexpected spot) us left f)
  where
    same_spot : (x y : Spot) → stop.Unexpected x ≡ stop.Unexpected y → x ≡ y
    same_spot x y h = cc h
of_unexpected ts v _ (at.deep {left = us} e) spot left f = absurd (cc (same_stop stop.TooDeep (stop.Unexpected spot) us left f))

-- and where it stopped at a parenthesis that is too deep
pub of_too_deep : (ts : List Lexeme) (v : Verdict) (r : Outcome Grammar) → FileAt ts v r → (left : List Lexeme) → r ≡ stops_as stop.TooDeep left → v ≡ Deep left
of_too_deep ts v _ (at.read h us e p) left f = absurd (cc f)
of_too_deep ts v _ (at.stuck {spot} {left = us} e) left f = absurd (cc (same_stop (stop.Unexpected spot) stop.TooDeep us left f))
of_too_deep ts v _ (at.deep {left = us} e) left f = e ∙ ap Deep (same_left stop.TooDeep stop.TooDeep us left f)

-- the stack behind tokens that spell a grammar wants nothing
pub spelled_reach : (ts : List Lexeme) (g : Grammar) → SpellsFile ts g → (m : Stack) × (reach AtStart [] ts ≡ Some m) × (all_nullable m.wants ≡ true)
spelled_reach ts g s =
    let r = of_ok ts (place (length ts) AtStart [] ts) (file (length ts) ts) (file_at (length ts) ts) g [] (file_again s (length ts) (omega arith)) in
    fine_at ts (length ts) AtStart [] r.0

-- tokens behind which there is a stack begin a grammar
pub begins_reached : (front : List Lexeme) (m : Stack) → reach AtStart [] front ≡ Some m → BeginsFile front
begins_reached front m e = (finishing m.wants, s.0, s.1)
  where
    whole : List Lexeme
    whole = front ++ finishing m.wants

    end : Stack
    end = record { bottom = m.bottom; wants = [] }

    to_end : reach AtStart [] (front ++ finishing m.wants) ≡ Some (record { bottom = m.bottom; wants = [] })
    to_end = reach_join AtStart [] front (finishing m.wants) ∙ ap (λ o. onward o (λ k. reach k.bottom k.wants (finishing m.wants))) e ∙ finished m.bottom m.wants

    fine : place (length (front ++ finishing m.wants)) AtStart [] (front ++ finishing m.wants) ≡ Fine
    fine = fine_from (front ++ finishing m.wants) (length (front ++ finishing m.wants)) AtStart [] (record { bottom = m.bottom; wants = [] }) to_end refl (omega arith)

    s : (g : Grammar) × SpellsFile (front ++ finishing m.wants) g
    s = of_fine (front ++ finishing m.wants) (place (length (front ++ finishing m.wants)) AtStart [] (front ++ finishing m.wants)) (file (length (front ++ finishing m.wants)) (front ++ finishing m.wants))
        (file_at (length (front ++ finishing m.wants)) (front ++ finishing m.wants)) fine

-- and they spell one where that stack wants nothing
pub whole_spelled : (ts : List Lexeme) (m : Stack) → reach AtStart [] ts ≡ Some m → all_nullable m.wants ≡ true → (g : Grammar) × SpellsFile ts g
whole_spelled ts m e n =
    of_fine ts (place (length ts) AtStart [] ts) (file (length ts) ts) (file_at (length ts) ts) (fine_from ts (length ts) AtStart [] m e n (omega arith))

-- behind a token that cannot follow there is none
pub none_behind : (front : List Lexeme) (t : Lexeme) (more : List Lexeme) (m : Stack) → reach AtStart [] front ≡ Some m → after m.bottom m.wants t ≡ None → reach AtStart [] (front ++ t ∷ more) ≡ None
none_behind front t more m e n =
    reach_join AtStart [] front (t ∷ more) ∙ ap (λ o. onward o (λ k. reach k.bottom k.wants (t ∷ more))) e ∙ ap (λ o. onward o (λ k. reach k.bottom k.wants more)) n

pub not_spelled : (ts : List Lexeme) (g : Grammar) → reach AtStart [] ts ≡ None → ¬ SpellsFile ts g
not_spelled ts g n = λ s. let r = spelled_reach ts g s in cc (sym n ∙ r.1)

pub cannot_follow : (front : List Lexeme) (t : Lexeme) (m : Stack) → reach AtStart [] front ≡ Some m → after m.bottom m.wants t ≡ None → ¬ BeginsFile (front ++ t ∷ [])
cannot_follow front t m e n = λ b.
    not_spelled ((front ++ t ∷ []) ++ b.0) b.1 (ap (reach AtStart []) (append_assoc front (t ∷ []) b.0) ∙ none_behind front t b.0 m e n) b.2

-- a stack that wants something is not behind a grammar
pub unfinished : (ts : List Lexeme) (g : Grammar) (m : Stack) → reach AtStart [] ts ≡ Some m → all_nullable m.wants ≡ false → ¬ SpellsFile ts g
unfinished ts g m e n = λ s.
    let r = spelled_reach ts g s in
    cc (sym n ∙ ap (λ (k : Stack). all_nullable k.wants) (same_stack m r.0 (sym e ∙ r.1)) ∙ r.2)

pub shallow_of : (ts : List Lexeme) (n : ℕ) → budget 64 ts ≡ Some n → IsShallow ts
shallow_of ts n e = λ before after s h. room before after s ts 64 n e h
