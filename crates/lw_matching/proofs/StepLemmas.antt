-- The equations of an NFA over a text with more behind it.
use Rattle.std.proofs.Common.{◌≡◌, ℕ, ◌+◌, ◌<◌, ◌≤◌, Bool, true, false, List, [], ◌∷◌, ◌++◌, length, Option, Some, None, slice_index, not, is_some, option_and_then, refl, sym, ap, ap₂, ◌∙◌, arith}
use Rattle.std.specs.Option.{option_or}
use Rattle.std.proofs.lemmas.Bool.{cond-true, cond-false}
use Rattle.std.proofs.lemmas.Option.{slice_get-get_or}
use Rattle.regex_hir.specs.Looks.{holds, holds_between}
use Rattle.regex_hir.proofs.TextLemmas.{byte_before-zero}
use Rattle.regex_hir.specs.Re.{Trace, Rest, write}
use Rattle.regex_hir.specs.declared.look.Look as the_look
use Rattle.regex_hir.proofs.OptionLemmas.{option_or_assoc, option_or-None}
use Rattle.regex_nfa.specs.States.{next_on, visit, byte_below, IsBelow}
use Rattle.regex_nfa.specs.Run.{state_of}
use Rattle.regex_nfa.specs.declared.state.State.{State}
use Rattle.regex_nfa.specs.declared.state.State.TheVariants.{ByteRange, Sparse, Split, Save, Look, Match, Fail}
use Rattle.regex_nfa.specs.declared.nfa.Nfa.{Nfa}
use Rattle.regex_nfa.proofs.RunLemmas.{run_at, byte_below-length}
use Rattle.lw_matching.proofs.TextLemmas.{slice_get-append}
use Rattle.lw_matching.specs.Steps.{gives_over, match_end, ReadsByte, IsPair}
use Rattle.lw_matching.specs.Walk.{left_over}
use Rattle.lw_matching.specs.declared.walk.Way.{Way}

pub match_end-option_or : (o p : Option Trace) → match_end (option_or o p) ≡ option_or (match_end o) (match_end p)
match_end-option_or None p = refl
match_end-option_or (Some t) p = refl

pub match_end-write : (slot i : ℕ) (o : Option Trace) → match_end (write slot i o) ≡ match_end o
match_end-write slot i None = refl
match_end-write slot i (Some t) = refl

pub pair_below : (nfa : Nfa) (text : List ℕ) (r q i : ℕ) → IsBelow nfa.ranks.items r q → i ≤ length text → IsPair nfa text r i
pair_below nfa text r q i h le = record { state = omega (arith, h.0, nfa.ranks_len); at = le }

module _ (nfa : Nfa) (text more : List ℕ) (q i : ℕ) where
  over_at : (state : State) → state_of nfa q ≡ state →
      gives_over nfa text more q i ≡ visit nfa.transitions.items (text ++ more) (length (text ++ more)) (gives_over nfa text more) state i
  over_at state is = run_at nfa (text ++ more) (length (text ++ more)) q i state is

  pub over_split : (first second : ℕ) → state_of nfa q ≡ Split first second →
      match_end (gives_over nfa text more q i) ≡ option_or (match_end (gives_over nfa text more first i)) (match_end (gives_over nfa text more second i))
  over_split first second is = ap match_end (over_at _ is) ∙ match_end-option_or _ _

  pub over_save : (slot next : ℕ) → state_of nfa q ≡ Save slot next → match_end (gives_over nfa text more q i) ≡ match_end (gives_over nfa text more next i)
  over_save slot next is = ap match_end (over_at _ is) ∙ match_end-write slot i _

  pub over_look : (l : the_look.Look) (next : ℕ) → state_of nfa q ≡ Look l next → holds l (text ++ more) i ≡ true →
      match_end (gives_over nfa text more q i) ≡ match_end (gives_over nfa text more next i)
  over_look l next is h = ap match_end (over_at _ is ∙ cond-true _ _ None h)

  pub over_no_look : (l : the_look.Look) (next : ℕ) → state_of nfa q ≡ Look l next → holds l (text ++ more) i ≡ false →
      match_end (gives_over nfa text more q i) ≡ None
  over_no_look l next is h = ap match_end (over_at _ is ∙ cond-false _ _ None h)

  pub over_match : state_of nfa q ≡ Match → match_end (gives_over nfa text more q i) ≡ Some i
  over_match is = ap match_end (over_at _ is)

  pub over_fail : state_of nfa q ≡ Fail → match_end (gives_over nfa text more q i) ≡ None
  over_fail is = ap match_end (over_at _ is)

  byte_there : i < length text → byte_below (text ++ more) (length (text ++ more)) i ≡ Some (slice_index text i)
  byte_there h = byte_below-length (text ++ more) i ∙ slice_get-append text more i h ∙ slice_get-get_or text i 0 h

  pub over_byte : (state : State) → state_of nfa q ≡ state → ReadsByte state → i < length text →
      gives_over nfa text more q i ≡ option_and_then (λ r. gives_over nfa text more r (i + 1)) (next_on nfa.transitions.items state (slice_index text i))
  over_byte (ByteRange t) is reads h =
      over_at _ is ∙ ap (λ o. option_and_then (λ r. gives_over nfa text more r (i + 1)) (option_and_then (next_on nfa.transitions.items (ByteRange t)) o)) (byte_there h)
  over_byte (Sparse from to) is reads h =
      over_at _ is ∙ ap (λ o. option_and_then (λ r. gives_over nfa text more r (i + 1)) (option_and_then (next_on nfa.transitions.items (Sparse from to)) o)) (byte_there h)
  over_byte (Split first second) is reads h = absurd reads
  over_byte (Save slot next) is reads h = absurd reads
  over_byte (Look l next) is reads h = absurd reads
  over_byte Match is reads h = absurd reads
  over_byte Fail is reads h = absurd reads

-- the last way is tried first
pub left_over-push : (go : ℕ → Rest) (ws : List Way) (w : Way) →
    left_over go (ws ++ w ∷ []) ≡ option_or (match_end (go w.state w.at)) (left_over go ws)
left_over-push go [] w = sym (option_or-None (match_end (go w.state w.at)))
left_over-push go (v ∷ vs) w =
    ap (λ o. option_or o (match_end (go v.state v.at))) (left_over-push go vs w)
    ∙ option_or_assoc (match_end (go w.state w.at)) (left_over go vs) (match_end (go v.state v.at))

-- `\A` holds at the start of every text
pub holds_Start : (l : the_look.Look) (hay : List ℕ) (i : ℕ) → l ≡ the_look.Look.Start → i ≡ 0 → holds l hay i ≡ true
unfolding holds holds_between
holds_Start l hay i e z = ap₂ (λ (x : the_look.Look) (j : ℕ). holds x hay j) e z ∙ ap is_edge_of (byte_before-zero hay)
  where
    is_edge_of : Option ℕ → Bool
    is_edge_of o = not (is_some o)
