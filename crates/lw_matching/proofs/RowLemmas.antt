-- Where the first match ends that goes on from a state, by where those end that go on from the states behind it.
use Rattle.std.proofs.Common.{◌≡◌, ℕ, ◌+◌, ◌-◌, ◌<◌, ◌≤◌, ◌==◌, Bool, true, false, List, length, drop, Option, Some, None, get_or, set, not, is_some, slice_get, slice_index, option_map, option_and_then, refl, sym, ap, ap₂, ◌∙◌, arith, eqb-true, ne_eqb, subst, inl, inr, get_or-drop, get_or-set_same, get_or-set_other, length-drop}
use Rattle.std.specs.Option.{option_or}
use Rattle.std.proofs.lemmas.Bool.{cond-true, cond-false, cases_eq}
use Rattle.std.proofs.lemmas.Bool.Decides.{nat_tests}
use Rattle.std.proofs.lemmas.List.{drop-drop}
use Rattle.std.proofs.lemmas.Option.{slice_get-get_or, slice_get_past}
use Rattle.regex_hir.specs.Looks.{holds, holds_between}
use Rattle.regex_hir.specs.Text.{byte_before}
use Rattle.regex_hir.specs.declared.look.Look as the_look
use Rattle.regex_nfa.specs.States.{next_on, read}
use Rattle.regex_nfa.specs.Run.{run, state_of}
use Rattle.regex_nfa.specs.declared.state.State.{State}
use Rattle.regex_nfa.specs.declared.state.State.TheVariants.{ByteRange, Sparse, Split, Save, Look, Match, Fail}
use Rattle.regex_nfa.specs.declared.nfa.Nfa.{Nfa}
use Rattle.regex_nfa.proofs.RunLemmas.{run_at, byte_below-length}
use Rattle.lw_matching.specs.Steps.{match_end, ReadsByte}
use Rattle.lw_matching.proofs.StepLemmas.{match_end-option_or, match_end-write, holds_Start}
use Rattle.lw_matching.specs.Rows.{AsksForStart, IsEndFrom}

map-or : (f : ℕ → ℕ) (a b : Option ℕ) → option_map f (option_or a b) ≡ option_or (option_map f a) (option_map f b)
map-or f None b = refl
map-or f (Some x) b = refl

-- an end is the same end where the place and the position are both one less
one_back : (p i : ℕ) (a b : Option ℕ) → option_map (λ e. e + (p + 1)) a ≡ option_map (λ e. e + (i + 1)) b →
    option_map (λ e. e + p) a ≡ option_map (λ e. e + i) b
one_back p i None None is = refl
one_back p i None (Some y) is = absurd cc
one_back p i (Some x) None is = absurd cc
one_back p i (Some x) (Some y) is =
    let same : x + (p + 1) ≡ y + (i + 1) = cc in
    let less : x + p ≡ y + i = omega (arith, same) in
    ap Some less

-- behind the start of a text `\A` does not hold
no_start : (hay : List ℕ) (i : ℕ) → (i == 0) ≡ false → i ≤ length hay → holds the_look.Look.Start hay i ≡ false
unfolding holds holds_between byte_before
no_start hay i inside within =
    let below : i - 1 < length hay = grind (nat_tests, inside, within, arith) in
    ap (λ (o : Option ℕ). not (is_some o)) (cond-false (i == 0) None (slice_get hay (i - 1)) inside ∙ slice_get-get_or hay (i - 1) 0 below)

-- one entry of a row is changed
pub row_set : (P : ℕ → Option ℕ → Type 0) (row : List (Option ℕ)) (id : ℕ) (end : Option ℕ) → id < length row → P id end →
    (q : ℕ) → P q (get_or row q None) → P q (get_or (set row id end) q None)
row_set P row id end inside new q old = elim (cases_eq q id) [
  | inl same ↦ subst (λ n. P n (get_or (set row id end) n None)) (sym same) (subst (P id) (sym (get_or-set_same row id end None inside)) new)
  | inr other ↦ subst (P q) (sym (get_or-set_other row id q end None other)) old
]

module _ (nfa : Nfa) (text : List ℕ) (p : ℕ) (starts : Bool) (q : ℕ) where
  abbrev Ends : ℕ → Option ℕ → Type 0
  Ends = IsEndFrom nfa text p starts

  pub end_split : (first second : ℕ) (a b : Option ℕ) → state_of nfa q ≡ Split first second → Ends first a → Ends second b → Ends q (option_or a b)
  end_split first second a b is one other hay i s le same =
      let go = run nfa hay (length hay) in
      ap (option_map (λ e. e + p)) (ap match_end (run_at nfa hay (length hay) q i _ is) ∙ match_end-option_or (go first i) (go second i))
      ∙ map-or (λ e. e + p) (match_end (go first i)) (match_end (go second i))
      ∙ ap₂ option_or (one hay i s le same) (other hay i s le same)
      ∙ sym (map-or (λ e. e + i) a b)

  pub end_save : (slot next : ℕ) (a : Option ℕ) → state_of nfa q ≡ Save slot next → Ends next a → Ends q a
  end_save slot next a is one hay i s le same =
      ap (option_map (λ e. e + p)) (ap match_end (run_at nfa hay (length hay) q i _ is) ∙ match_end-write slot i _)
      ∙ one hay i s le same

  pub end_look : (look : the_look.Look) (next : ℕ) (a : Option ℕ) → AsksForStart nfa → state_of nfa q ≡ Look look next → starts ≡ true →
      Ends next a → Ends q a
  end_look look next a looks is at_start one hay i s le same =
      let here : i ≡ 0 = eqb-true i 0 (s ∙ at_start) in
      ap (option_map (λ e. e + p)) (ap match_end (run_at nfa hay (length hay) q i _ is
      ∙ cond-true _ _ None (holds_Start look hay i (looks q look next is) here)))
      ∙ one hay i s le same

  pub end_no_look : (look : the_look.Look) (next : ℕ) → AsksForStart nfa → state_of nfa q ≡ Look look next → starts ≡ false → Ends q None
  end_no_look look next looks is inside hay i s le same =
      ap (option_map (λ e. e + p)) (ap match_end (run_at nfa hay (length hay) q i _ is
      ∙ cond-false _ _ None (ap (λ l. holds l hay i) (looks q look next is) ∙ no_start hay i (s ∙ inside) le)))

  pub end_match : state_of nfa q ≡ Match → Ends q (Some p)
  end_match is hay i s le same =
      let both : i + p ≡ p + i = omega arith in
      ap (option_map (λ e. e + p)) (ap match_end (run_at nfa hay (length hay) q i _ is)) ∙ ap Some both

  pub end_fail : state_of nfa q ≡ Fail → Ends q None
  end_fail is hay i s le same = ap (option_map (λ e. e + p)) (ap match_end (run_at nfa hay (length hay) q i _ is))

  run_reads : (state : State) → state_of nfa q ≡ state → ReadsByte state → (hay : List ℕ) (i : ℕ) →
      run nfa hay (length hay) q i ≡ read nfa.transitions.items hay (length hay) (run nfa hay (length hay)) state i
  run_reads (ByteRange t) is reads hay i = run_at nfa hay (length hay) q i _ is
  run_reads (Sparse from to) is reads hay i = run_at nfa hay (length hay) q i _ is
  run_reads (Split first second) is reads hay i = absurd reads
  run_reads (Save slot next) is reads hay i = absurd reads
  run_reads (Look l next) is reads hay i = absurd reads
  run_reads Match is reads hay i = absurd reads
  run_reads Fail is reads hay i = absurd reads

  pub end_past : (state : State) → state_of nfa q ≡ state → ReadsByte state → length text ≤ p → Ends q None
  end_past state is reads past hay i s le same =
      let none : length hay ≤ i = omega (arith, ap length same, length-drop i hay, length-drop p text) in
      ap (option_map (λ e. e + p)) (ap match_end (run_reads state is reads hay i
      ∙ ap (λ o. option_and_then (λ r. run nfa hay (length hay) r (i + 1)) (option_and_then (next_on nfa.transitions.items state) o))
      (byte_below-length hay i ∙ slice_get_past hay i none)))

  module _ (state : State) (is : state_of nfa q ≡ state) (reads : ReadsByte state) (within : p < length text) where
    same_byte : (hay : List ℕ) (i : ℕ) → drop i hay ≡ drop p text → slice_index hay i ≡ slice_index text p
    same_byte hay i same =
        let here : i ≡ i + 0 = omega arith in
        let there : p + 0 ≡ p = omega arith in
        ap (λ n. get_or hay n 0) here ∙ sym (get_or-drop i hay 0 0) ∙ ap (λ xs. get_or xs 0 0) same ∙ get_or-drop p text 0 0
        ∙ ap (λ n. get_or text n 0) there

    in_hay : (hay : List ℕ) (i : ℕ) → drop i hay ≡ drop p text → i < length hay
    in_hay hay i same = omega (arith, within, ap length same, length-drop i hay, length-drop p text)

    reads_on : (hay : List ℕ) (i : ℕ) → drop i hay ≡ drop p text → run nfa hay (length hay) q i
        ≡ option_and_then (λ r. run nfa hay (length hay) r (i + 1)) (next_on nfa.transitions.items state (slice_index text p))
    reads_on hay i same =
        run_reads state is reads hay i
        ∙ ap (λ o. option_and_then (λ r. run nfa hay (length hay) r (i + 1)) (option_and_then (next_on nfa.transitions.items state) o))
        (byte_below-length hay i ∙ slice_get-get_or hay i 0 (in_hay hay i same)
        ∙ ap Some (same_byte hay i same))

    pub end_stuck : next_on nfa.transitions.items state (slice_index text p) ≡ None → Ends q None
    end_stuck none hay i s le same =
        ap (option_map (λ e. e + p)) (ap match_end (reads_on hay i same
        ∙ ap (option_and_then (λ r. run nfa hay (length hay) r (i + 1))) none))

    pub end_read : (next : ℕ) (a : Option ℕ) → next_on nfa.transitions.items state (slice_index text p) ≡ Some next →
        IsEndFrom nfa text (p + 1) false next a → Ends q a
    end_read next a on one hay i s le same =
        let beyond : drop (i + 1) hay ≡ drop (p + 1) text = sym (drop-drop 1 i hay) ∙ ap (drop 1) same ∙ drop-drop 1 p text in
        ap (option_map (λ e. e + p)) (ap match_end (reads_on hay i same
        ∙ ap (option_and_then (λ r. run nfa hay (length hay) r (i + 1))) on))
        ∙ one_back p i _ a (one hay (i + 1) (ne_eqb (i + 1) 0 (omega arith)) (omega (arith, in_hay hay i same)) beyond)
