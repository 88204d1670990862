-- The readings that are handed out: the kept ones, and those at which a value ends directly behind the last token.
use Rattle.std.proofs.Common.{◌≡◌, ◌≢◌, ◌↔◌, ◌⊎◌, inl, inr, ℕ, List, [], ◌∷◌, ◌++◌, All, Any, Contains, map, refl, sym, ap, ◌∙◌, subst, append_assoc, append-nil}
use Rattle.std.proofs.lemmas.List.Elements.{All-head, All-tail, All-append, All-weaker, All-contains, All-contains_itself}
use Rattle.lw_grammar.specs.declared.grammar.Grammar.{Grammar}
use Rattle.lw_grammar.specs.Kinds.{Kinds}
use Rattle.lw_grammar.specs.Marks.{Mark, kinds_of}
use Rattle.lw_grammar.specs.Marks as mark
use Rattle.lw_grammar.proofs.Joined.{kinds_join}
use Rattle.lw_look.specs.Supplied.{IsSupplied}
use Rattle.lw_program.specs.ProgramOf.{ProgramParts}
use Rattle.lw_program.specs.Says.{Task}
use Rattle.lw_program.specs.declared.recipes.mark.TreeMark.{TreeMark}
use Rattle.lw_program.specs.declared.recipes.mark.TreeMark.TheVariants as numbered
use Rattle.lw_program.specs.Meant.{AreMeant}
use Rattle.lw_program.specs.Meant as meant
use Rattle.lw_viable.specs.Gives.{PlacesGive}
use Rattle.lw_viable.specs.Told.{BeginsParts}
use Rattle.lw_viable.specs.Fronts.{IsKnownProgram}
use Rattle.lw_viable.specs.Growing.{HasLists, GrowsLists, marks_of_each}
use Rattle.lw_viable.specs.Growing.{read as front_read}
use Rattle.lw_viable.specs.Marked.{MeanSome}
use Rattle.lw_viable.specs.Moves as move
use Rattle.lw_viable.specs.Readings.{KeptReading, GoesOnFrom, IsCutReading, HasTask, IsAhead, IsKeptReading, Keeps}
use Rattle.lw_viable.specs.Readings as keep
use Rattle.lw_viable.specs.ReadSoFar.{EndsRead, IsReadSoFar}
use Rattle.lw_viable.specs.ReadSoFar as read
use Rattle.lw_viable.specs.Visiting.{AreEnded, AreWithEnded, Arrives, EndsWithToken, IsEnded, IsFound, FindsDue}
use Rattle.lw_viable.specs.declared.due.Due.TheVariants.{End}
use Rattle.lw_viable.specs.declared.front.Front.{Front}
use Rattle.lw_viable.specs.declared.lists.Lists.{Lists}
use Rattle.lw_viable.proofs.Cutting.{cut_twice, quiet_end, same_kinds}
use Rattle.lw_viable.proofs.Exploring.{any_of, of_any, any_mapped, any_cases, any_left, any_right}
use Rattle.lw_viable.proofs.Handed.{any_of_mapped, each_ahead, marks_found}
use Rattle.lw_viable.proofs.Meaning.{meant_joined, meant_cut, one_kinds}
use Rattle.lw_viable.proofs.Moves.Finishing.{places_give}
use Rattle.lw_viable.proofs.Moves.Marking.{token_meant, end_meant}
use Rattle.lw_viable.proofs.Moves.Moving.{moves_give}
use Rattle.lw_viable.proofs.Putting.{all_read_same}

-- ---- marks that end with a token

abbrev TokenLast : List Mark → Type 0
TokenLast m = (before : List Mark) × (k : ℕ) × (m ≡ before ++ mark.Token k ∷ [])

-- two beginnings of one list that end with a token are one, where they have the same kinds
same_beginning : {ks : List ℕ} (a b c d : List Mark) → a ++ b ≡ c ++ d → kinds_of a ≡ ks → kinds_of c ≡ ks → TokenLast a → TokenLast c → a ≡ c
same_beginning a b c d is a_kinds c_kinds (before, j, a_is) (front, k, c_is) = by (cut_twice a b c d is)
  where
    by : ((e : List Mark) × (c ≡ a ++ e) × (b ≡ e ++ d)) ⊎ ((e : List Mark) × (a ≡ c ++ e) × (d ≡ e ++ b)) → a ≡ c
    by (inl (e, is, b_is)) =
        let none = quiet_end front k a e (sym c_is ∙ is) (same_kinds a e a_kinds (sym (ap kinds_of is) ∙ c_kinds)) in
        sym (is ∙ ap (λ e. a ++ e) none ∙ append-nil a)
    by (inr (e, is, d_is)) =
        let none = quiet_end before j c e (sym a_is ∙ is) (same_kinds c e c_kinds (sym (ap kinds_of is) ∙ a_kinds)) in
        is ∙ ap (λ e. c ++ e) none ∙ append-nil c

module _ (g : Grammar) where
  -- what marks mean ends with a token where they do
  token_last : {xs : List TreeMark} {m : List Mark} → EndsWithToken xs → AreMeant g xs m → TokenLast m
  token_last {m} (before, kind, is) means =
      let cut = meant_cut g before (numbered.Token kind ∷ []) (subst (λ xs. AreMeant g xs m) is means) in
      (cut.front, kind.0, cut.are ∙ ap (λ back. cut.front ++ back) (token_meant g cut.behind))

  of_token_last : (before : List Mark) (k : ℕ) {xs : List TreeMark} → AreMeant g xs (before ++ mark.Token k ∷ []) → EndsWithToken xs
  of_token_last [] k (meant.more (meant.token kind) meant.none) = ([], kind, refl)
  of_token_last (m ∷ before) k (meant.more {x} is means) =
      let (others, kind, are) = of_token_last before k means in (x ∷ others, kind, ap (λ xs. x ∷ xs) are)

  -- with the end of a value behind
  end_last : {xs : List TreeMark} {m : List Mark} → AreMeant g xs m → AreMeant g (xs ++ numbered.End ∷ []) (m ++ mark.End ∷ [])
  end_last means = meant_joined g means (meant.more meant.ends meant.none)

-- a reading of some kinds ends with a token
ends_token : {g : Grammar} {kinds : Kinds} {tasks : List Task} {ks : List ℕ} {marks : List TreeMark} → ks ≢ [] → IsCutReading g kinds tasks ks marks → EndsWithToken marks
ends_token some keep.unmarked = absurd (some refl)
ends_token some (keep.opened r) = absurd (some refl)
ends_token some (keep.token marks kind) = (marks, kind, refl)

-- the marks that are handed out, of the readings that are kept and of those that were found
pub handed_are : {old new : Lists} {kept slice ends found : List Front} {all : List (List TreeMark)} → GrowsLists old new → All (HasLists old) kept → slice ≡ kept → ends ≡ found →
    AreWithEnded (marks_of_each new slice) (marks_of_each new ends) all →
    AreWithEnded (map (λ r. r.marks) (map (front_read old) kept)) (map (λ r. r.marks) (map (front_read new) found)) all
handed_are {new} {kept} grows within same same_ends (ended, are, is) = (
  ended,
  subst (λ marks. AreEnded marks ended) (marks_found new same_ends) are,
  is ∙ ap (λ marks. marks ++ ended) (marks_found new same ∙ ap (map (λ r. r.marks)) (all_read_same grows kept within)),
)

-- ---- what was read, and the readings

module _ (g : Grammar) (kinds : Kinds) {program : ProgramParts} {told : BeginsParts} (known : IsKnownProgram g kinds program told) (Whole : List Mark → Type 0) {ks : List ℕ}
    (kept found : List KeptReading) (keeps : Keeps g kinds known.program.tasks Whole ks kept) (finds : FindsDue g kinds known.program.tasks Whole program End ks found)
    (ended : List (List TreeMark)) (are : AreEnded (map (λ r. r.marks) found) ended) where
  abbrev Placed : ℕ → Type 0
  Placed p = HasTask g kinds known.program.tasks p

  abbrev Goes : List Mark → KeptReading → Type 0
  Goes m r = GoesOnFrom g kinds known.program.tasks m r

  abbrev Kept : KeptReading → Type 0
  Kept r = IsKeptReading g kinds known.program.tasks Whole ks r

  abbrev Found : KeptReading → Type 0
  Found r = IsFound g kinds known.program.tasks Whole program End ks r

  abbrev handed : List (List TreeMark)
  handed = map (λ r. r.marks) kept ++ ended

  abbrev Means : List Mark → List TreeMark → Type 0
  Means m marks = AreMeant g marks m

  -- what ended was found
  ended_found : (marks : List TreeMark) → Contains ended marks → (r : KeptReading) × Found r × IsEnded r.marks marks
  ended_found marks has =
      let (r, there, ends) = of_any (λ r. IsEnded r.marks marks) found (any_of_mapped (λ before. IsEnded before marks) (λ r. r.marks) found ((are marks).0 has)) in
      (r, All-contains Found found r finds.each there, ends)

  -- each means some marks
  pub each_read : MeanSome g handed
  each_read =
      let Mean : List TreeMark → Type 0 = λ marks. (m : List Mark) × AreMeant g marks m in
      All-append Mean (map (λ r. r.marks) kept) ended
      (each_ahead g kinds known Whole ks kept (All-weaker Kept (λ r. IsAhead g kinds known.program.tasks Whole ks r) (λ r one. one.ahead) kept keeps.each))
      (All-weaker (Contains ended) Mean (λ marks has.
      let (r, is_found, ends) = ended_found marks has in
      (is_found.0.front ++ mark.End ∷ [], subst (Means (is_found.0.front ++ mark.End ∷ [])) (sym ends.1) (end_last g is_found.0.meant))) ended (All-contains_itself ended))

  module _ (some : ks ≢ []) where
    -- ---- whatever was read is handed out

    at_token : (m others : List Mark) → Whole (m ++ others) → kinds_of m ≡ ks → TokenLast m → Any (Means m) handed
    at_token m others whole kinds_are last =
        let (r, has, on) =
        of_any (Goes (m ++ others)) kept
        (keeps.all (m ++ others) (kinds_of others) whole (kinds_join m others ∙ ap (λ ks. ks ++ kinds_of others) kinds_are)) in
        let one = All-contains Kept kept r keeps.each has in
        let front_kinds = one_kinds g on.meant one.ahead.meant ∙ one.ahead.kinds_are in
        let same = same_beginning m others on.front on.others on.are kinds_are front_kinds last (token_last g (ends_token some one.cut) on.meant) in
        any_left (map (λ r. r.marks) kept) ended (any_mapped (Means m) (λ r. r.marks) kept r has (subst (AreMeant g r.marks) (sym same) on.meant))

    at_end : (before : List Mark) (k : ℕ) (others : List Mark) → Whole ((before ++ mark.Token k ∷ []) ++ mark.End ∷ others) → kinds_of (before ++ mark.Token k ∷ []) ≡ ks →
        Any (Means ((before ++ mark.Token k ∷ []) ++ mark.End ∷ [])) handed
    at_end before k others whole kinds_are =
        let m = before ++ mark.Token k ∷ [] in
        let (r, has, there) = of_any (Arrives g kinds known.program.tasks m (mark.End ∷ others)) found (finds.all m (mark.End ∷ others) whole kinds_are (others, refl)) in
        let marks = r.marks ++ numbered.End ∷ [] in
        let is_ended = (are marks).1 (any_mapped (λ before. IsEnded before marks) (λ r. r.marks) found r has (of_token_last g before k there.meant, refl)) in
        any_right (map (λ r. r.marks) kept) ended (any_of (Means (m ++ mark.End ∷ [])) ended marks is_ended (end_last g there.meant))

    read_handed : (m others : List Mark) → Whole (m ++ others) → kinds_of m ≡ ks → EndsRead m → Any (Means m) handed
    read_handed m others whole kinds_are (read.token before k) = at_token m others whole kinds_are (before, k, refl)
    read_handed m others whole kinds_are (read.value before k) =
        let cut = append_assoc before (mark.Token k ∷ []) (mark.End ∷ []) in
        let no_kind = kinds_join (before ++ mark.Token k ∷ []) (mark.End ∷ []) ∙ append-nil (kinds_of (before ++ mark.Token k ∷ [])) in
        subst (λ m. Any (Means m) handed) cut
        (at_end before k others
        (subst Whole (ap (λ m. m ++ others) (sym cut) ∙ append_assoc (before ++ mark.Token k ∷ []) (mark.End ∷ []) others) whole)
        (sym no_kind ∙ ap kinds_of cut ∙ kinds_are))

    -- ---- and what is handed out was read

    module _ (supplied : IsSupplied g kinds) (m : List Mark) where
      kept_read : (r : KeptReading) → Kept r → AreMeant g r.marks m → IsReadSoFar Whole ks m
      kept_read r one means =
          let (others, give) = places_give g kinds known.program.tasks supplied r.rest one.ahead.placed in
          let (before, k, is) = token_last g (ends_token some one.cut) means in
          record {
            others = others;
            whole = one.ahead.sound (m ++ others) (record { front = m; others = others; meant = means; gives = give; are = refl });
            kinds_are = one_kinds g means one.ahead.meant ∙ one.ahead.kinds_are;
            ends = subst EndsRead (sym is) (read.token before k);
          }

      ended_read : (r : KeptReading) (marks : List TreeMark) → Found r → IsEnded r.marks marks → AreMeant g marks m → IsReadSoFar Whole ks m
      ended_read r marks (ahead, first) (token, marks_are) means =
          let cut = meant_cut g r.marks (numbered.End ∷ []) (subst (λ marks. AreMeant g marks m) marks_are means) in
          let m_is = cut.are ∙ ap (λ back. cut.front ++ back) (end_meant g cut.behind) in
          let placed = subst (All Placed) first.are ahead.placed in
          let (others, give) = places_give g kinds known.program.tasks supplied first.behind (All-tail Placed first.place first.behind placed) in
          let gives =
          moves_give g kinds known.are program known.program told.nodes known.begins.nodes (All-head Placed first.place first.behind placed) (move.ends first.at)
          (meant.more meant.ends meant.none) give in
          let (before, k, is) = token_last g token cut.before in
          record {
            others = others;
            whole = ahead.sound (m ++ others) (record {
              front = cut.front;
              others = mark.End ∷ others;
              meant = cut.before;
              gives = subst (λ rest. PlacesGive g kinds known.program.tasks rest (mark.End ∷ others)) (sym first.are) gives;
              are = ap (λ m. m ++ others) m_is ∙ append_assoc cut.front (mark.End ∷ []) others;
            });
            kinds_are =
                ap kinds_of m_is ∙ kinds_join cut.front (mark.End ∷ []) ∙ append-nil (kinds_of cut.front) ∙ one_kinds g cut.before ahead.meant ∙ ahead.kinds_are;
            ends = subst EndsRead (sym (m_is ∙ ap (λ m. m ++ mark.End ∷ []) is ∙ append_assoc before (mark.Token k ∷ []) (mark.End ∷ []))) (read.value before k);
          }

      handed_read : Any (Means m) handed → IsReadSoFar Whole ks m
      handed_read some = by (any_cases (map (λ r. r.marks) kept) ended some)
        where
          by : Any (Means m) (map (λ r. r.marks) kept) ⊎ Any (Means m) ended → IsReadSoFar Whole ks m
          by (inl some) =
              let (r, has, means) = of_any (λ r. AreMeant g r.marks m) kept (any_of_mapped (Means m) (λ r. r.marks) kept some) in
              kept_read r (All-contains Kept kept r keeps.each has) means
          by (inr some) =
              let (marks, has, means) = of_any (Means m) ended some in
              let (r, is_found, ends) = ended_found marks has in
              ended_read r marks is_found ends means

      pub read_told : IsReadSoFar Whole ks m ↔ Any (Means m) handed
      read_told = (λ was. read_handed m was.others was.whole was.kinds_are was.ends, handed_read)
