-- That the parts of a workspace still belong together once a document comes, goes or turns.
use Rattle.std.proofs.Common.{◌≡◌, ◌≢◌, ℕ, ◌+◌, ◌-◌, ◌<◌, ◌≤◌, List, [], ◌∷◌, ◌++◌, length, take, drop, set, get_or, cond, length-append, Option, Some, None, refl, sym, ap, subst, ◌∙◌, inl, inr, arith}
use Rattle.std.specs.Option.{option_map_or}
use Rattle.std.specs.BTreeMap as tree
use Rattle.std.specs.BTreeMap.{btree_map_len, IsOrdered}
use Rattle.std.specs.FinMap as all
use Rattle.std.specs.Ordering.{eq_by_cmp}
use Rattle.std.proofs.lemmas.Bool.{cases_eq, cases_lt}
use Rattle.std.proofs.lemmas.List.{get_or_past, get_or-set_same, get_or-set_other, get_or_default, length-set}
use Rattle.std.proofs.Math.Seq.{take-append_seam}
use Rattle.std.proofs.lemmas.Option.{same_Some}
use Rattle.lw_base.specs.declared.numbers.DocId.{DocId}
use Rattle.lw_docs.specs.declared.doc.Doc.{Doc}
use Rattle.lw_machine.specs.declared.state.State.TheVariants.{Validated}
use Rattle.lw_docs.specs.Documents.{ByAddress, IsAt, IsHeld, numbered}
use Rattle.lw_docs.specs.Table.{Slots, Numbers, doc_in, address_in, held_in, AreNamed, AreSpare}
use Rattle.lw_docs.specs.Knockout.{waiting_of, IsKnockout, IsKnockoutBut}
use Rattle.lw_docs.specs.Kept.{AreKept}
use Rattle.lw_docs.proofs.Cells.{Cells, knockout_kept, knockout_but, knockout_still}
use Rattle.lw_docs.proofs.FirstOfAll.{holds_none}
use Rattle.lw_docs.proofs.Spares.{SameBut, spare_more, spare_less}
use Rattle.lw_docs.proofs.View.{address_cmp, doc_of, stands_at, turned_named, turned_held, named_after, came, went, no_doc, no_number}

-- a number that has a document lies in the table
pub in_range : (slots : Slots) (n : ℕ) (x : Doc) → doc_in slots n ≡ Some x → n < length slots
in_range slots n x is = elim (cases_lt n (length slots)) [ inl less ↦ less | inr past ↦ absurd (no_doc x (sym (get_or_past slots n None past) ∙ is)) ]

spare_same : (slots after : Slots) (spare : List ℕ) → AreSpare slots spare → ((n : ℕ) → doc_in slots n ≡ None → doc_in after n ≡ None) → length after ≡ length slots → AreSpare after spare
spare_same slots after spare spares none long = record {
  within = λ i less. let h = spares.within i less in omega (arith, h, long);
  vacant = λ i less. none (get_or spare i 0) (spares.vacant i less);
  apart = spares.apart;
}

module _ (slots after : Slots) (spare : List ℕ) (room : ℕ) (cells : Cells) (numbers : Numbers) (kept : AreKept slots spare room cells numbers)
    (d : DocId) (x y : Doc) (was : doc_in slots d.0 ≡ Some x) (uri : y.uri ≡ x.uri) (same : SameBut d.0 slots after) (now : doc_in after d.0 ≡ Some y) (long : length after ≡ length slots) where
  still_none : (n : ℕ) → doc_in slots n ≡ None → doc_in after n ≡ None
  still_none n none = elim (cases_eq n d.0) [
    | inl own ↦ absurd (no_doc x (sym none ∙ ap (doc_in slots) own ∙ was))
    | inr other ↦ same n other ∙ none
  ]

  -- where the knockout was played again
  pub kept_turned : (played : Cells) → IsKnockout after played → length played ≡ length cells → AreKept after spare room played numbers
  kept_turned played all even = record {
    names = turned_named slots after numbers kept.names d x y was uri same now;
    spares = spare_same slots after spare kept.spares still_none long;
    knockout = all;
    places = even ∙ kept.places ∙ sym long;
    counted = kept.counted ∙ sym long;
    roomy = subst (λ n. n ≤ room) (sym long) kept.roomy;
    few = subst (λ n. n ≤ 65536) (sym long) kept.few;
  }

  abbrev address : Option Doc → List ℕ
  address o = option_map_or (λ (z : Doc). z.uri) o []

  -- where its state is the same
  pub kept_still : y.state ≡ x.state → AreKept after spare room cells numbers
  kept_still state = kept_turned cells (knockout_kept slots after cells waits addresses kept.knockout) refl
    where
      alike : (n : ℕ) (z w : Doc) → w.state ≡ z.state → waiting_of n (Some w) ≡ waiting_of n (Some z)
      alike n z w e = ap (λ s. waiting_of n (Some (record z { state = s }))) e

      waits : (n : ℕ) → waiting_of n (doc_in after n) ≡ waiting_of n (doc_in slots n)
      waits n = elim (cases_eq n d.0) [
        | inl own ↦ ap (λ k. waiting_of n (doc_in after k)) own ∙ ap (waiting_of n) now ∙ alike n x y state ∙ sym (ap (λ k. waiting_of n (doc_in slots k)) own ∙ ap (waiting_of n) was)
        | inr other ↦ ap (waiting_of n) (same n other)
      ]

      addresses : (n : ℕ) → address_in after n ≡ address_in slots n
      addresses n = elim (cases_eq n d.0) [
        | inl own ↦ ap (λ k. address (doc_in after k)) own ∙ ap address now ∙ uri ∙ sym (ap (λ k. address (doc_in slots k)) own ∙ ap address was)
        | inr other ↦ ap address (same n other)
      ]

-- ---- a place of the table is written

module _ (slots after : Slots) (n : ℕ) (o : Option Doc) (within : n < length slots) (written : after ≡ set slots n o) where
  pub written_here : doc_in after n ≡ o
  written_here = ap (λ s. doc_in s n) written ∙ get_or-set_same slots n o None within

  pub written_others : SameBut n slots after
  written_others k other = ap (λ s. doc_in s k) written ∙ get_or-set_other slots n k o None other

  pub written_long : length after ≡ length slots
  written_long = ap length written ∙ length-set slots n o

-- what was read at a place that has a document
pub read_doc : (slots : Slots) (n : ℕ) (x z : Doc) (d : Option Doc) → doc_in slots n ≡ Some x → get_or slots n d ≡ Some z → z ≡ x
read_doc slots n x z d is read = same_Some z x (sym read ∙ sym (get_or_default slots n None d (in_range slots n x is)) ∙ is)

-- the parts under other names
pub kept_as : (slots after : Slots) (spare left : List ℕ) (room space : ℕ) (cells played : Cells) (numbers : Numbers) → after ≡ slots → left ≡ spare → space ≡ room → played ≡ cells →
    AreKept slots spare room cells numbers → AreKept after left space played numbers
kept_as slots after spare left room space cells played numbers a b c e kept =
    subst (λ s. AreKept s left space played numbers) (sym a)
    (subst (λ s. AreKept slots s space played numbers) (sym b)
    (subst (λ n. AreKept slots spare n played numbers) (sym c)
    (subst (λ s. AreKept slots spare room s numbers) (sym e) kept)))

-- a list that is put over one of its length
pub put_over : {X : Type 0} (n : ℕ) (xs ys : List X) → n ≡ length ys → length xs ≡ length ys → take n (xs ++ drop (length xs) ys) ≡ xs
put_over n xs ys all even = ap (λ k. take k (xs ++ drop (length xs) ys)) (all ∙ sym even) ∙ take-append_seam xs (drop (length xs) ys)

-- ---- a document of a number that is held

module _ (slots : Slots) (spare : List ℕ) (room : ℕ) (cells : Cells) (numbers : Numbers) (kept : AreKept slots spare room cells numbers)
    (view : ByAddress) (view_is : held_in slots numbers ≡ view) (d : DocId) where
  pub is_doc : (x : Doc) → IsAt view d x → doc_in slots d.0 ≡ Some x
  is_doc x at = doc_of slots numbers kept.names d x (subst (λ v. IsAt v d x) (sym view_is) at)

  pub is_at_view : (x : Doc) → doc_in slots d.0 ≡ Some x → IsAt view d x
  is_at_view x is = subst (λ v. IsAt v d x) view_is (stands_at slots numbers kept.names d x is)

  module _ (held : IsHeld view d) where
    pub held_within : d.0 < length slots
    held_within = in_range slots d.0 held.0 (is_doc held.0 held.1)

    pub never_none : (e : Option Doc) → get_or slots d.0 e ≡ None → ⊥
    never_none e none = no_doc held.0 (sym none ∙ sym (get_or_default slots d.0 None e held_within) ∙ is_doc held.0 held.1)

    module _ (z : Doc) (e : Option Doc) (read : get_or slots d.0 e ≡ Some z) where
      pub was_read : doc_in slots d.0 ≡ Some z
      was_read = get_or_default slots d.0 None e held_within ∙ read

      pub read_is : (x : Doc) → IsAt view d x → z ≡ x
      read_is x at = same_Some z x (sym was_read ∙ is_doc x at)

      pub set_kept : (y : Doc) → y.uri ≡ z.uri → y.state ≡ z.state → AreKept (set slots d.0 (Some y)) spare room cells numbers
      set_kept y uri state = kept_still slots (set slots d.0 (Some y)) spare room cells numbers kept d z y was_read uri
          (written_others slots (set slots d.0 (Some y)) d.0 (Some y) held_within refl) (written_here slots (set slots d.0 (Some y)) d.0 (Some y) held_within refl)
          (written_long slots (set slots d.0 (Some y)) d.0 (Some y) held_within refl) state

      pub set_turns : (turn : Doc → Doc) → ((x : Doc) → (turn x).uri ≡ x.uri) → (x : Doc) → IsAt view d x →
          held_in (set slots d.0 (Some (turn z))) numbers ≡ all.insert view x.uri (numbered d (turn x))
      set_turns turn uri x at =
          let after : Slots = set slots d.0 (Some (turn z)) in
          let same : z ≡ x = read_is x at in
          turned_held slots after numbers kept.names d z (turn z) was_read (uri z)
          (written_others slots after d.0 (Some (turn z)) held_within refl) (written_here slots after d.0 (Some (turn z)) held_within refl)
          ∙ (λ i. all.insert (view_is i) (same i).uri (numbered d (turn (same i))))

-- ---- a document goes: it is validated first, and then taken out of the table

module _ (slots : Slots) (spare : List ℕ) (room : ℕ) (cells : Cells) (numbers : Numbers) (kept : AreKept slots spare room cells numbers)
    (d : DocId) (x : Doc) (was : doc_in slots d.0 ≡ Some x) (after : Slots) (played : Cells)
    (here : doc_in after d.0 ≡ Some (record x { state = Validated })) (others : SameBut d.0 slots after) (long : length after ≡ length slots)
    (won : IsKnockout after played) (even : length played ≡ length cells) where
  abbrev out : Slots
  out = set after d.0 None

  in_after : d.0 < length after
  in_after = in_range after d.0 (record x { state = Validated }) here

  out_here : doc_in out d.0 ≡ None
  out_here = written_here after out d.0 None in_after refl

  out_others : SameBut d.0 after out
  out_others = written_others after out d.0 None in_after refl

  out_same : SameBut d.0 slots out
  out_same n other = out_others n other ∙ others n other

  out_long : length out ≡ length slots
  out_long = written_long after out d.0 None in_after refl ∙ long

  waits_not : waiting_of d.0 (doc_in after d.0) ≡ None
  waits_not = ap (waiting_of d.0) here

  not_spare : (i : ℕ) → i < length spare → get_or spare i 0 ≢ d.0
  not_spare i less same = no_doc x (sym (kept.spares.vacant i less) ∙ ap (doc_in slots) same ∙ was)

  module _ (later : Numbers) (ordered : IsOrdered address_cmp later)
      (at : (q : List ℕ) → tree.get address_cmp later q ≡ cond (eq_by_cmp address_cmp x.uri q) None (tree.get address_cmp numbers q))
      (fewer : btree_map_len later + 1 ≡ btree_map_len numbers) where
    pub room_for_one : length spare < room
    room_for_one = let a = kept.counted in let b = kept.roomy in omega (arith, fewer, a, b)

    own_uri : (z : Doc) → doc_in slots d.0 ≡ Some z → z.uri ≡ x.uri
    own_uri z is = ap (λ (v : Doc). v.uri) (same_Some z x (sym is ∙ was))

    own_number : (e : DocId) → tree.get address_cmp numbers x.uri ≡ Some e → e ≡ d
    own_number e is = same_Some e d (sym is ∙ kept.names.held d x was)

    pub gone_held : held_in out later ≡ all.remove (held_in slots numbers) x.uri
    gone_held = went slots out numbers later kept.names d x.uri None out_same out_here (λ y e. absurd (no_doc y e)) own_uri own_number ordered at refl

    pub gone_kept : AreKept out (spare ++ d.0 ∷ []) room played later
    gone_kept = record {
      names = named_after slots out numbers later kept.names d x.uri None out_same out_here (λ y e. absurd (no_doc y e)) own_uri own_number ordered at;
      spares = spare_more slots out spare d.0 kept.spares not_spare out_same out_here (let l = in_after in let m = out_long in omega (arith, l, m, long)) (let m = out_long in omega (arith, m));
      knockout = knockout_still after out played d.0 (holds_none after played won d.0 waits_not) out_others waits_not (ap (waiting_of d.0) out_here) won;
      places = even ∙ kept.places ∙ sym out_long;
      counted = let a = kept.counted in let b = length-append spare (d.0 ∷ []) in let m = out_long in omega (arith, a, b, m, fewer);
      roomy = subst (λ n. n ≤ room) (sym out_long) kept.roomy;
      few = subst (λ n. n ≤ 65536) (sym out_long) kept.few;
    }

-- ---- a document comes, under a free number

module _ (slots : Slots) (numbers : Numbers) (names : AreNamed slots numbers) (spare : List ℕ) (spares : AreSpare slots spare) (cells : Cells) (played_out : IsKnockout slots cells)
    (number : ℕ) (some : 0 < length spare) (last : get_or spare (length spare - 1) 0 ≡ number) where
  pub vacant : doc_in slots number ≡ None
  vacant = ap (doc_in slots) (sym last) ∙ spares.vacant (length spare - 1) (omega (arith, some))

  pub new_within : number < length slots
  new_within = subst (λ n. n < length slots) last (spares.within (length spare - 1) (omega (arith, some)))

  module _ (y : Doc) where
    abbrev more : Slots
    more = set slots number (Some y)

    pub new_but : IsKnockoutBut more cells number
    new_but = knockout_but slots more cells number (holds_none slots cells played_out number (ap (waiting_of number) vacant))
        (written_others slots more number (Some y) new_within refl) played_out

    module _ (later : Numbers) (ordered : IsOrdered address_cmp later) (absent : tree.get address_cmp numbers y.uri ≡ None)
        (at : (q : List ℕ) → tree.get address_cmp later q ≡ cond (eq_by_cmp address_cmp y.uri q) (Some (record { 0 = number })) (tree.get address_cmp numbers q)) where
      no_old : (x : Doc) → doc_in slots number ≡ Some x → x.uri ≡ y.uri
      no_old x is = absurd (no_doc x (sym vacant ∙ is))

      no_older : (e : DocId) → tree.get address_cmp numbers y.uri ≡ Some e → e ≡ record { 0 = number }
      no_older e is = absurd (no_number e (sym absent ∙ is))

      new_uri : (x : Doc) → Some y ≡ Some x → x.uri ≡ y.uri
      new_uri x e = ap (λ (v : Doc). v.uri) (sym (same_Some y x e))

      pub new_held : held_in more later ≡ all.insert (held_in slots numbers) y.uri (numbered (record { 0 = number }) y)
      new_held = came slots more numbers later names (record { 0 = number }) y.uri (Some y) (written_others slots more number (Some y) new_within refl)
          (written_here slots more number (Some y) new_within refl) new_uri no_old no_older ordered at y refl

      pub new_kept : (rest : List ℕ) (room : ℕ) (played : Cells) → rest ≡ take (length spare - 1) spare → IsKnockout more played → length played ≡ length slots →
          btree_map_len later + length rest ≡ length slots → length slots ≤ room → length slots ≤ 65536 → AreKept more rest room played later
      new_kept rest room played is won places counted roomy few =
          let long : length more ≡ length slots = written_long slots more number (Some y) new_within refl in
          record {
            names = named_after slots more numbers later names (record { 0 = number }) y.uri (Some y) (written_others slots more number (Some y) new_within refl)
                (written_here slots more number (Some y) new_within refl) new_uri no_old no_older ordered at;
            spares = spare_less slots more spare rest number spares some last is (written_others slots more number (Some y) new_within refl) long;
            knockout = won;
            places = places ∙ sym long;
            counted = counted ∙ sym long;
            roomy = subst (λ n. n ≤ room) (sym long) roomy;
            few = subst (λ n. n ≤ 65536) (sym long) few;
          }
