-- Readings on their way to where something is due, without a token: a turn keeps what is known of those that are still to be explored and of
-- those that were found.
use Rattle.std.proofs.Common.{◌≡◌, ◌⊎◌, inl, inr, ℕ, List, [], ◌∷◌, ◌++◌, Option, Some, None, All, Any, Contains, Bool, map, slice_get, refl, sym, ap, ◌∙◌, subst, subst₂, append_assoc, append-nil}
use Rattle.std.proofs.lemmas.List.{map-append}
use Rattle.std.proofs.lemmas.List.Elements.{All-nil, All-cons, All-head, All-append, All-same, All-contains, Contains-push}
use Rattle.std.proofs.lemmas.Option.{slice_get_within}
use Rattle.lw_grammar.specs.declared.grammar.Grammar.{Grammar}
use Rattle.lw_grammar.specs.declared.rule.Op.{Op}
use Rattle.lw_grammar.specs.declared.rule.Value0.{Value0}
use Rattle.lw_grammar.specs.Kinds.{Kinds}
use Rattle.lw_grammar.specs.Marks.{Mark, kinds_of}
use Rattle.lw_grammar.specs.Marks as mark
use Rattle.lw_grammar.proofs.Joined.{kinds_join}
use Rattle.lw_reading.specs.Follows.{MakesReference}
use Rattle.lw_program.specs.declared.instr.Instr.TheVariants.{Put}
use Rattle.lw_program.specs.declared.instr.Instr.TheVariants as instr
use Rattle.lw_program.specs.ProgramOf.{ProgramParts}
use Rattle.lw_program.specs.declared.recipes.mark.TreeMark.{TreeMark}
use Rattle.lw_program.specs.declared.recipes.mark.TreeMark.TheVariants as numbered
use Rattle.lw_program.specs.Making.{RecipeLists, AreRecipesOf}
use Rattle.lw_program.specs.Meant.{MeansMark, AreMeant}
use Rattle.lw_program.specs.Meant as meant
use Rattle.lw_viable.specs.Gives.{PlacesGive}
use Rattle.lw_viable.specs.Told.{BeginsParts}
use Rattle.lw_viable.specs.Readings.{KeptReading, GoesOnFrom, HasTask, IsAhead, IsKeptReading, Keeps}
use Rattle.lw_viable.specs.Moves.{left, MovesBy}
use Rattle.lw_viable.specs.Moves as move
use Rattle.lw_viable.specs.Fronts.{IsKnownProgram}
use Rattle.lw_viable.specs.Growing.{HasLists, read, Change, changed}
use Rattle.lw_viable.specs.Turning.{AreQuiet, AreRead}
use Rattle.lw_viable.specs.Visiting.{EndsFirst, IsReferencePut, PutsFirst, StandsFirst, AreNumbered, IsNoted, BeginsDue, IsToldDue, Arrives, IsFound, FindsDue}
use Rattle.lw_viable.specs.Visiting as visit
use Rattle.lw_viable.specs.declared.due.Due.{Due}
use Rattle.lw_viable.specs.declared.due.Due.TheVariants.{Nothing, End, Reference}
use Rattle.lw_viable.specs.declared.front.Front.{Front}
use Rattle.lw_viable.specs.declared.lists.Lists.{Lists}
use Rattle.lw_viable.proofs.Cutting.{front_first}
use Rattle.lw_viable.proofs.Exploring.{any_of, of_any, any_mapped, no_any, any_cases, any_left, any_right, the_one, last_ahead, all_ahead, ahead_more}
use Rattle.lw_viable.proofs.Listing.{IsTokenMove, token_moves, IsPut, each_put}
use Rattle.lw_viable.proofs.Listing as listing
use Rattle.lw_viable.proofs.Made.{reading}
use Rattle.lw_viable.proofs.Meaning.{meant_joined, one_kinds, none_left, quiet_parts}
use Rattle.lw_viable.proofs.Moves.Giving.{nothing_given}
use Rattle.lw_viable.proofs.Moves.Marking.{token_meant}
use Rattle.lw_viable.proofs.Moves.Moved.{Moved}
use Rattle.lw_viable.proofs.Moves.Moving.{moves_all}
use Rattle.lw_viable.proofs.Puts.{put_said}
use Rattle.lw_viable.proofs.ReadingTurns.{TurnsAt}
use Rattle.lw_viable.proofs.ReadingTurns as turn

no_some : {X : Type 0} {x : X} → None ≡ Some x → ⊥
no_some is = cc

no_mark : {m : Mark} {others : List Mark} → [] ≡ m ∷ others → ⊥
no_mark is = cc

-- the move that leaves the mark of a put
put_move : {program : ProgramParts} {nodes : List Bool} {p n : ℕ} {ps : List ℕ} → MovesBy program nodes p (Some (numbered.Put n)) ps →
    (first : ℕ) × (slice_get program.code p ≡ Some (Put n first))
put_move (move.puts {first} at) = (first, at)

-- and the one that leaves the mark of an end
end_move : {program : ProgramParts} {nodes : List Bool} {p : ℕ} {ps : List ℕ} → MovesBy program nodes p (Some numbered.End) ps →
    slice_get program.code p ≡ Some instr.End
end_move (move.ends at) = at

-- what stands first in a reading, and what is noted of it
pub data IsSeen (program : ProgramParts) (due : Due) (r : KeptReading) (found seen : List KeptReading) : Type 0 where
  noted : StandsFirst program due r.rest → seen ≡ found ++ r ∷ [] → IsSeen program due r found seen
  passed : ¬ StandsFirst program due r.rest → seen ≡ found → IsSeen program due r found seen

module _ {program : ProgramParts} {due : Due} (lists : Lists) (front : Front) where
  pub noted_seen : (found after : List Front) → IsNoted program due lists front found after →
      IsSeen program due (read lists front) (map (read lists) found) (map (read lists) after)
  noted_seen found after (visit.noted stands is) = noted stands (ap (map (read lists)) is ∙ map-append (read lists) found (front ∷ []))
  noted_seen found after (visit.passed none is) = passed none (ap (map (read lists)) is)

  pub noted_within : HasLists lists front → (found after : List Front) → All (HasLists lists) found → IsNoted program due lists front found after → All (HasLists lists) after
  noted_within within found after all (visit.noted stands is) =
      All-same (HasLists lists) after (found ++ front ∷ []) is
      (All-append (HasLists lists) found (front ∷ []) all (All-cons (HasLists lists) front [] within (All-nil (HasLists lists))))
  noted_within within found after all (visit.passed none is) = All-same (HasLists lists) after found is all

module _ (g : Grammar) (kinds : Kinds) {program : ProgramParts} {told : BeginsParts} (known : IsKnownProgram g kinds program told) where
  -- each value that is put at the first place has a recipe
  pub numbered_first : {Whole : List Mark → Type 0} {ks : List ℕ} (due : Due) → IsToldDue g due → (r : KeptReading) →
      IsAhead g kinds known.program.tasks Whole ks r → AreNumbered program due r.rest
  numbered_first Nothing is_told r ahead = tt
  numbered_first End is_told r ahead = tt
  numbered_first (Reference recipes) is_told r ahead = λ put value behind puts.
      let placed = subst (All (HasTask g kinds known.program.tasks)) puts.are ahead.placed in
      let said = put_said g kinds known.are program known.program puts.place (All-head (HasTask g kinds known.program.tasks) puts.place behind placed) puts.at in
      let (recipe, made, number, content) = is_told.values put said.site said.property said.op said.value said.numbers said.assigned said.there in
      slice_get_within recipes.now.made put recipe made

  -- a mark that makes a reference is that of a put whose recipe says so
  refers : {recipes : RecipeLists} {p : ℕ} {x : TreeMark} {q : List ℕ} {op : Op} {c : Value0} {ps : List ℕ} (rest : List ℕ) → AreRecipesOf g recipes → MakesReference op c →
      MovesBy program told.nodes p (Some x) ps → MeansMark g x (mark.Put q op c) →
      (put : ℕ) × (value : ℕ) × (behind : List ℕ) × PutsFirst program (p ∷ rest) put value behind × IsReferencePut recipes put
  refers {p} {q} {op} {c} rest is_told makes step (meant.puts {n} {s} numbers assigned there) =
      let (first, at) = put_move step in
      let (recipe, made, number, content) = is_told.values n s q op c numbers assigned there in (
        n,
        first,
        rest,
        record { place = p; are = refl; at = at },
        record { recipe = recipe; made = made; refers = is_told.references n s q op c numbers assigned there makes recipe made },
      )

  -- a move that leaves the mark of an end is made where a value ends
  ends : {p : ℕ} {x : TreeMark} {ps : List ℕ} (rest : List ℕ) → MovesBy program told.nodes p (Some x) ps → MeansMark g x mark.End → EndsFirst program (p ∷ rest)
  ends {p} rest step meant.ends = record { place = p; behind = rest; are = refl; at = end_move step }

  stands_there : (due : Due) {p : ℕ} {x : TreeMark} {m : Mark} {ps : List ℕ} (rest : List ℕ) {b others : List Mark} → IsToldDue g due → BeginsDue due b → b ≡ m ∷ others →
      MovesBy program told.nodes p (Some x) ps → MeansMark g x m → StandsFirst program due (p ∷ rest)
  stands_there Nothing rest is_told begins is step means = absurd (no_mark (sym begins ∙ is))
  stands_there End {x} {m} rest is_told (n, b_is) is step means =
      let same : m ≡ mark.End = cc in ends rest step (subst (MeansMark g x) same means)
  stands_there (Reference recipes) {x} {m} rest is_told (q, op, c, y, b_is, makes) is step means =
      let same : m ≡ mark.Put q op c = cc in refers rest is_told makes step (subst (MeansMark g x) same means)

  -- a change that leaves no token is put on, where none is sought
  quiet_put : {p : ℕ} {change : Change} {own : List Mark} (quiet tokens : List Change) → AreRead None (slice_get program.code p) tokens →
      IsPut program told None p quiet tokens change → AreMeant g (left change.0) own → kinds_of own ≡ [] → Contains quiet change
  quiet_put quiet tokens are_read (listing.quietly has) means none = has
  quiet_put {p} {change} quiet tokens are_read (listing.by_token has) means none =
      let read = All-contains (IsTokenMove program told None p) tokens change (token_moves program told None p tokens (slice_get program.code p) refl are_read) has in
      absurd (no_some read.same)
  quiet_put quiet tokens are_read (listing.misread {k} apart) means none = absurd (a_kind (sym (ap kinds_of (token_meant g means)) ∙ none))
    where
      a_kind : {k : ℕ} → k ∷ [] ≡ [] → ⊥
      a_kind is = cc
  quiet_put quiet tokens are_read (listing.missed at misses) means none = absurd (no_some misses.is)

  pub none_read : (p : ℕ) (tokens : List Change) → AreRead None (slice_get program.code p) tokens → tokens ≡ []
  none_read p [] are_read = refl
  none_read p (change ∷ tokens) are_read =
      let read = All-head (IsTokenMove program told None p) change tokens (token_moves program told None p (change ∷ tokens) (slice_get program.code p) refl are_read) in
      absurd (no_some read.same)

  module _ (Whole : List Mark → Type 0) (due : Due) (ks : List ℕ) where
    abbrev Ahead : KeptReading → Type 0
    Ahead r = IsAhead g kinds known.program.tasks Whole ks r

    abbrev Found : KeptReading → Type 0
    Found r = IsFound g kinds known.program.tasks Whole program due ks r

    abbrev There : List Mark → List Mark → KeptReading → Type 0
    There a b r = Arrives g kinds known.program.tasks a b r

    -- the marks of the reading mean a beginning of a, and its places give what is left of a, without a token, and b
    pub record IsOnTheWay (a b : List Mark) (r : KeptReading) : Type 0 where
      pub front : List Mark
      pub mid : List Mark
      pub meant : AreMeant g r.marks front
      pub gives : PlacesGive g kinds known.program.tasks r.rest (mid ++ b)
      pub quiet : kinds_of mid ≡ []
      pub are : a ≡ front ++ mid

    -- what is still to be explored, and what was found: wherever what is due comes behind the kinds, one is on the way there or has arrived
    pub record IsVisiting (work found : List KeptReading) : Type 0 where
      pub ahead : All Ahead work
      pub each : All Found found
      pub all : (a b : List Mark) → Whole (a ++ b) → kinds_of a ≡ ks → BeginsDue due b → Any (IsOnTheWay a b) work ⊎ Any (There a b) found

    pub visiting_first : (readings : List KeptReading) → Keeps g kinds known.program.tasks Whole ks readings → IsVisiting readings []
    visiting_first readings keeps =
        record { ahead = all_ahead g kinds known Whole readings keeps.each; each = All-nil Found; all = λ a b whole a_kinds begins. inl (on_the_way a b whole a_kinds begins) }
      where
        on_the_way : (a b : List Mark) → Whole (a ++ b) → kinds_of a ≡ ks → BeginsDue due b → Any (IsOnTheWay a b) readings
        on_the_way a b whole a_kinds begins =
            let (r, has, on) =
            of_any (GoesOnFrom g kinds known.program.tasks (a ++ b)) readings
            (keeps.all (a ++ b) (kinds_of b) whole (kinds_join a b ∙ ap (λ ks. ks ++ kinds_of b) a_kinds)) in
            let kept = All-contains (IsKeptReading g kinds known.program.tasks Whole ks) readings r keeps.each has in
            let cut =
            front_first g kinds known.program.tasks due on.front a b on.others kept.cut on.meant (one_kinds g on.meant kept.ahead.meant ∙ kept.ahead.kinds_are) on.are a_kinds
            begins in
            any_of (IsOnTheWay a b) readings r has (record {
              front = on.front;
              mid = cut.mid;
              meant = on.meant;
              gives = subst (PlacesGive g kinds known.program.tasks r.rest) cut.left on.gives;
              quiet = cut.quiet;
              are = cut.are;
            })

    pub visiting_last : (found : List KeptReading) → IsVisiting [] found → FindsDue g kinds known.program.tasks Whole program due ks found
    visiting_last found visited =
        record {
          each = visited.each;
          all = λ a b whole a_kinds begins. elim (visited.all a b whole a_kinds begins) [ inl none ↦ absurd (no_any none) | inr some ↦ some ];
        }

    -- one that is on the way has arrived where what is due stands first, or goes on
    abbrev ArrivesOr : List Mark → List Mark → KeptReading → List KeptReading → Type 0
    ArrivesOr a b r next = (StandsFirst program due r.rest × There a b r) ⊎ Any (IsOnTheWay a b) next

    -- where nothing of a is left
    arrived : {a b : List Mark} {r : KeptReading} (way : IsOnTheWay a b r) → way.mid ≡ [] → There a b r
    arrived {a} {b} {r} way none =
        record {
          meant = subst (AreMeant g r.marks) (sym (way.are ∙ ap (λ mid. way.front ++ mid) none ∙ append-nil way.front)) way.meant;
          gives = subst (PlacesGive g kinds known.program.tasks r.rest) (ap (λ mid. mid ++ b) none) way.gives;
        }

    ends_there : (a b : List Mark) (marks : List TreeMark) → BeginsDue due b → IsOnTheWay a b (reading marks []) → ArrivesOr a b (reading marks []) []
    ends_there a b marks begins way =
        let (mid_is, b_is) = none_left way.mid b (nothing_given g kinds known.program.tasks way.gives) in inl (stands due begins b_is, arrived way mid_is)
      where
        stands : (due : Due) → BeginsDue due b → b ≡ [] → StandsFirst program due []
        stands Nothing begins is = refl
        stands End (n, b_is) is = absurd (no_mark (sym is ∙ b_is))
        stands (Reference recipes) (p, op, c, x, b_is, makes) is = absurd (no_mark (sym is ∙ b_is))

    module _ (is_told : IsToldDue g due) (p : ℕ) (marks : List TreeMark) (rest : List ℕ) (quiet tokens : List Change)
        (are_quiet : AreQuiet program told None p (slice_get program.code p) quiet) (are_read : AreRead None (slice_get program.code p) tokens) where
      abbrev next : List KeptReading
      next = map (changed (reading marks rest)) quiet

      abbrev Here : KeptReading
      Here = reading marks (p ∷ rest)

      -- a move that leaves a part of what is left of a
      goes_on : {a b : List Mark} (way : IsOnTheWay a b Here) (moved : Moved g kinds program known.program told.nodes p rest (way.mid ++ b)) (mid : List Mark) →
          way.mid ≡ moved.own ++ mid → moved.others ≡ mid ++ b → Any (IsOnTheWay a b) next
      goes_on {a} {b} way moved mid mid_is others_is =
          let (own_quiet, mid_quiet) = quiet_parts moved.own mid (sym (ap kinds_of mid_is) ∙ way.quiet) in
          any_mapped (IsOnTheWay a b) (changed (reading marks rest)) quiet (moved.mark, moved.places)
          (quiet_put quiet tokens are_read (each_put program told None p quiet tokens are_quiet are_read moved.move) moved.means own_quiet)
          (record {
            front = way.front ++ moved.own;
            mid = mid;
            meant = meant_joined g way.meant moved.means;
            gives = subst (PlacesGive g kinds known.program.tasks (moved.places ++ rest)) others_is moved.give;
            quiet = mid_quiet;
            are = way.are ∙ ap (λ mid. way.front ++ mid) mid_is ∙ sym (append_assoc way.front moved.own mid);
          })

      -- the mark of a move is the first that is left of a, or a has been read
      by_mark : {a b : List Mark} → BeginsDue due b → (way : IsOnTheWay a b Here) (moved : Moved g kinds program known.program told.nodes p rest (way.mid ++ b)) →
          (l : Option TreeMark) {own : List Mark} → moved.mark ≡ l → moved.own ≡ own → AreMeant g (left l) own → (mid : List Mark) → way.mid ≡ mid →
          mid ++ b ≡ own ++ moved.others → ArrivesOr a b Here next
      by_mark begins way moved None mark_is own_is meant.none mid mid_is are =
          inr (goes_on way moved mid (mid_is ∙ ap (λ own. own ++ mid) (sym own_is)) (sym are))
      by_mark {a} {b} begins way moved (Some x) mark_is own_is (meant.more {m} means meant.none) [] mid_is are =
          inl (stands_there due rest is_told begins are (subst (λ l. MovesBy program told.nodes p l moved.places) mark_is moved.move) means, arrived way mid_is)
      by_mark {a} {b} begins way moved (Some x) mark_is own_is (meant.more {m} means meant.none) (n ∷ mid) mid_is are =
          let same : n ≡ m = cc in
          let others : moved.others ≡ mid ++ b = cc in
          inr (goes_on way moved mid (mid_is ∙ ap (λ m. m ∷ mid) same ∙ ap (λ own. own ++ mid) (sym own_is)) others)

      pub way_on : HasTask g kinds known.program.tasks p → (a b : List Mark) → BeginsDue due b → IsOnTheWay a b Here → ArrivesOr a b Here next
      way_on has a b begins way =
          let moved = moves_all g kinds known.are program known.program told.nodes known.begins.nodes has way.gives in
          by_mark begins way moved moved.mark refl refl moved.means way.mid refl moved.are

    -- one is taken off, and what it goes on to is put on
    one_visited : (r : KeptReading) (work next found seen : List KeptReading) → All Ahead (work ++ next) →
        ((a b : List Mark) → BeginsDue due b → IsOnTheWay a b r → ArrivesOr a b r next) → IsSeen program due r found seen → IsVisiting (work ++ r ∷ []) found →
        IsVisiting (work ++ next) seen
    one_visited r work next found seen ahead goes is_seen visited =
        record {
          ahead = ahead;
          each = each is_seen;
          all = λ a b whole a_kinds begins. elim (visited.all a b whole a_kinds begins) [
            | inl some ↦ here a b begins (any_cases work (r ∷ []) some)
            | inr some ↦ inr (still a b is_seen some)
          ];
        }
      where
        each : {seen : List KeptReading} → IsSeen program due r found seen → All Found seen
        each (noted stands is) =
            subst (All Found) (sym is)
            (All-append Found found (r ∷ []) visited.each
            (All-cons Found r [] ((last_ahead g kinds known Whole work r visited.ahead).1, stands) (All-nil Found)))
        each (passed none is) = subst (All Found) (sym is) visited.each

        still : {seen : List KeptReading} (a b : List Mark) → IsSeen program due r found seen → Any (There a b) found → Any (There a b) seen
        still a b (noted stands is) some = subst (Any (There a b)) (sym is) (any_left found (r ∷ []) some)
        still a b (passed none is) some = subst (Any (There a b)) (sym is) some

        is_noted : {seen : List KeptReading} (a b : List Mark) → IsSeen program due r found seen → StandsFirst program due r.rest → There a b r → Any (There a b) seen
        is_noted a b (noted stands is) first there =
            subst (Any (There a b)) (sym is) (any_right found (r ∷ []) (any_of (There a b) (r ∷ []) r (Contains-push [] r) there))
        is_noted a b (passed none is) first there = absurd (none first)

        there_or_on : (a b : List Mark) → ArrivesOr a b r next → Any (IsOnTheWay a b) (work ++ next) ⊎ Any (There a b) seen
        there_or_on a b (inl (first, there)) = inr (is_noted a b is_seen first there)
        there_or_on a b (inr some) = inl (any_right work next some)

        here : (a b : List Mark) → BeginsDue due b → Any (IsOnTheWay a b) work ⊎ Any (IsOnTheWay a b) (r ∷ []) →
            Any (IsOnTheWay a b) (work ++ next) ⊎ Any (There a b) seen
        here a b begins (inl some) = inl (any_left work next some)
        here a b begins (inr it) = there_or_on a b (goes a b begins (the_one r it))

    pub visiting_on : IsToldDue g due → {r : KeptReading} (work after found seen all : List KeptReading) → IsSeen program due r found seen →
        TurnsAt program told None r work after seen all → IsVisiting (work ++ r ∷ []) found → IsVisiting after all
    visiting_on is_told {r} work after found seen all is_seen (turn.drops marks r_is after_is all_is) visited =
        let there = subst (λ r. IsSeen program due r found seen) r_is is_seen in
        let before = subst (λ r. IsVisiting (work ++ r ∷ []) found) r_is visited in
        let others = (last_ahead g kinds known Whole work (reading marks []) before.ahead).0 in
        subst₂ IsVisiting (append-nil work ∙ sym after_is) (sym all_is)
        (one_visited (reading marks []) work [] found seen (subst (All Ahead) (sym (append-nil work)) others) (λ a b begins way. ends_there a b marks begins way) there before)
    visiting_on is_told {r} work after found seen all is_seen (turn.moves {p} marks rest quiet tokens r_is are_quiet are_read after_is all_is) visited =
        let there = subst (λ r. IsSeen program due r found seen) r_is is_seen in
        let before = subst (λ r. IsVisiting (work ++ r ∷ []) found) r_is visited in
        let one = (last_ahead g kinds known Whole work (reading marks (p ∷ rest)) before.ahead).1 in
        let has = All-head (HasTask g kinds known.program.tasks) p rest one.placed in
        let none : all ≡ seen = all_is ∙ ap (λ tokens. seen ++ map (changed (reading marks rest)) tokens) (none_read p tokens are_read) ∙ append-nil seen in
        subst₂ IsVisiting (sym after_is) (sym none)
        (one_visited (reading marks (p ∷ rest)) work (map (changed (reading marks rest)) quiet) found seen
        (ahead_more g kinds known Whole None p marks rest work quiet are_quiet before.ahead)
        (λ a b begins way. way_on is_told p marks rest quiet tokens are_quiet are_read has a b begins way) there before)
