-- Readings on their way to the next token: a turn keeps what is known of those that are still to be explored and of those that were found.
use Rattle.std.proofs.Common.{◌≡◌, ◌⊎◌, inl, inr, ℕ, zero, suc, ◌<◌, List, [], ◌∷◌, ◌++◌, Option, Some, None, All, Any, Contains, map, slice_get, refl, sym, ap, ◌∙◌, subst, subst₂, append_assoc, append-nil, arith}
use Rattle.std.proofs.lemmas.List.{append_cancel_left}
use Rattle.std.proofs.lemmas.Option.{same_Some}
use Rattle.std.proofs.lemmas.List.Elements.{All-nil, All-head, All-tail, All-append, All-map, All-pop, All-weaker, Contains-append_left, Contains-append_right, Contains-append_cases}
use Rattle.lw_base.specs.declared.numbers.KindId.{KindId}
use Rattle.lw_grammar.specs.declared.grammar.Grammar.{Grammar}
use Rattle.lw_grammar.specs.Kinds.{Kinds, kind_count}
use Rattle.lw_grammar.specs.Marks.{Mark, kinds_of}
use Rattle.lw_grammar.specs.Marks as mark
use Rattle.lw_grammar.proofs.Joined.{kinds_join}
use Rattle.lw_program.specs.declared.instr.Instr.TheVariants.{Token, Call}
use Rattle.lw_program.specs.ProgramOf.{ProgramParts}
use Rattle.lw_program.specs.declared.recipes.mark.TreeMark.{TreeMark}
use Rattle.lw_program.specs.declared.recipes.mark.TreeMark.TheVariants as numbered
use Rattle.lw_program.specs.Meant.{AreMeant}
use Rattle.lw_program.specs.Meant as meant
use Rattle.lw_viable.specs.Gives.{PlacesGive}
use Rattle.lw_viable.specs.Told.{BeginsParts, IsMet}
use Rattle.lw_viable.specs.Readings.{KeptReading, GoesOnFrom, IsCutReading, HasTask, IsAhead, IsKeptReading, Keeps}
use Rattle.lw_viable.specs.Readings as keep
use Rattle.lw_viable.specs.Moves.{left, MovesBy}
use Rattle.lw_viable.specs.Moves as move
use Rattle.lw_viable.specs.Fronts.{IsKnownProgram}
use Rattle.lw_viable.specs.Growing.{Change, changed}
use Rattle.lw_viable.specs.Turning.{AreQuiet, AreRead}
use Rattle.lw_viable.proofs.Made.{reading}
use Rattle.lw_viable.proofs.Listing.{IsQuiet, IsQuietMove, IsTokenMove, quiet_moves, token_moves, IsPut, each_put}
use Rattle.lw_viable.proofs.Listing as listing
use Rattle.lw_viable.proofs.Meaning.{meant_joined, meant_cut, one_kinds}
use Rattle.lw_viable.proofs.Moves.Calling.{call_said}
use Rattle.lw_viable.proofs.Moves.Giving.{nothing_given, first_given}
use Rattle.lw_viable.proofs.Moves.Moving.{moves_placed, moves_mean, moves_give, moves_all}
use Rattle.lw_viable.proofs.Moves.Saying.{said}
use Rattle.lw_viable.proofs.ReadingTurns.{TurnsAt}
use Rattle.lw_viable.proofs.ReadingTurns as turn

pub any_of : {X : Type 0} (P : X → Type 0) (xs : List X) (x : X) → Contains xs x → P x → Any P xs
any_of P xs x (k, within, is) p = (k, x, within, is, p)

pub of_any : {X : Type 0} (P : X → Type 0) (xs : List X) → Any P xs → (x : X) × Contains xs x × P x
of_any P xs (k, x, within, is, p) = (x, (k, within, is), p)

contains_map : {X Y : Type 0} (f : X → Y) (xs : List X) (x : X) → Contains xs x → Contains (map f xs) (f x)
contains_map f (y ∷ xs) x (zero, within, is) = (0, omega arith, ap f is)
contains_map f (y ∷ xs) x (suc k, within, is) = let (j, inside, same) = contains_map f xs x (k, omega arith, is) in (suc j, omega arith, same)
contains_map f [] x (k, within, is) = absurd (omega arith)

pub any_mapped : {X Y : Type 0} (P : Y → Type 0) (f : X → Y) (xs : List X) (x : X) → Contains xs x → P (f x) → Any P (map f xs)
any_mapped P f xs x has p = any_of P (map f xs) (f x) (contains_map f xs x has) p

pub no_any : {X : Type 0} {P : X → Type 0} → Any P [] → ⊥
no_any (k, x, within, is, p) = omega arith

pub any_cases : {X : Type 0} {P : X → Type 0} (xs ys : List X) → Any P (xs ++ ys) → Any P xs ⊎ Any P ys
any_cases {P} xs ys any =
    let (x, has, p) = of_any P (xs ++ ys) any in
    elim (Contains-append_cases xs ys x has) [ inl here ↦ inl (any_of P xs x here p) | inr there ↦ inr (any_of P ys x there p) ]

pub any_left : {X : Type 0} {P : X → Type 0} (xs ys : List X) → Any P xs → Any P (xs ++ ys)
any_left {P} xs ys any = let (x, has, p) = of_any P xs any in any_of P (xs ++ ys) x (Contains-append_left xs ys x has) p

pub any_right : {X : Type 0} {P : X → Type 0} (xs ys : List X) → Any P ys → Any P (xs ++ ys)
any_right {P} xs ys any = let (x, has, p) = of_any P ys any in any_of P (xs ++ ys) x (Contains-append_right xs ys x has) p

pub the_one : {X : Type 0} {P : X → Type 0} (x : X) → Any P (x ∷ []) → P x
the_one {P} x (zero, y, within, is, p) = subst P (sym is) p
the_one x (suc k, y, within, is, p) = absurd (omega arith)

-- a list that begins so begins so with its first part, unless that is empty
first_begins : (ks js : List ℕ) {k : ℕ} {ls : List ℕ} → ks ++ js ≡ k ∷ ls → (ks ≡ []) ⊎ ((ls : List ℕ) × (ks ≡ k ∷ ls))
first_begins [] js is = inl refl
first_begins (j ∷ ks) js {k} is = let same : j ≡ k = cc in inr (ks, ap (λ j. j ∷ ks) same)

same_first : {j k : ℕ} {js ks : List ℕ} → j ∷ js ≡ k ∷ ks → j ≡ k
same_first is = cc

no_first : {k : ℕ} {ks : List ℕ} → [] ≡ k ∷ ks → ⊥
no_first is = cc

module _ (g : Grammar) (kinds : Kinds) {program : ProgramParts} {told : BeginsParts} (known : IsKnownProgram g kinds program told) (Whole : List Mark → Type 0) where
  abbrev Placed : ℕ → Type 0
  Placed p = HasTask g kinds known.program.tasks p

  abbrev Goes : List Mark → KeptReading → Type 0
  Goes m r = GoesOnFrom g kinds known.program.tasks m r

  abbrev Ahead : List ℕ → KeptReading → Type 0
  Ahead ks r = IsAhead g kinds known.program.tasks Whole ks r

  abbrev Kept : List ℕ → KeptReading → Type 0
  Kept ks r = IsKeptReading g kinds known.program.tasks Whole ks r

  -- ---- one move

  sound_on : {p : ℕ} {l : Option TreeMark} {ps : List ℕ} (marks : List TreeMark) (rest : List ℕ) → Placed p → MovesBy program told.nodes p l ps →
      ((m : List Mark) → Goes m (reading marks (p ∷ rest)) → Whole m) → (m : List Mark) → Goes m (changed (reading marks rest) (l, ps)) → Whole m
  sound_on {l} marks rest has step sound m on =
      let cut = meant_cut g marks (left l) on.meant in
      sound m (record {
        front = cut.front;
        others = cut.back ++ on.others;
        meant = cut.before;
        gives = moves_give g kinds known.are program known.program told.nodes known.begins.nodes has step cut.behind on.gives;
        are = on.are ∙ ap (λ front. front ++ on.others) cut.are ∙ append_assoc cut.front cut.back on.others;
      })

  quiet_kinds : (l : Option TreeMark) {m : List Mark} → IsQuiet l → AreMeant g (left l) m → kinds_of m ≡ []
  quiet_kinds None quiet meant.none = refl
  quiet_kinds (Some (numbered.Token k)) quiet means = absurd quiet
  quiet_kinds (Some (numbered.Open r)) quiet (meant.more (meant.opens q) meant.none) = refl
  quiet_kinds (Some numbered.Shut) quiet (meant.more meant.shuts meant.none) = refl
  quiet_kinds (Some (numbered.Put n)) quiet (meant.more (meant.puts at assigned stands) meant.none) = refl
  quiet_kinds (Some numbered.End) quiet (meant.more meant.ends meant.none) = refl
  quiet_kinds (Some (numbered.Act n)) quiet (meant.more (meant.acts at is) meant.none) = refl

  pub ahead_on : {ks : List ℕ} {p : ℕ} (change : Change) (marks : List TreeMark) (rest : List ℕ) → Ahead ks (reading marks (p ∷ rest)) →
      MovesBy program told.nodes p change.0 change.1 → IsQuiet change.0 → Ahead ks (changed (reading marks rest) change)
  ahead_on {p} change marks rest ahead step quiet =
      let has = All-head Placed p rest ahead.placed in
      let (m, means) = moves_mean g kinds known.are program known.program told.nodes known.begins.nodes has step in
      record {
        sound = sound_on marks rest has step ahead.sound;
        front = ahead.front ++ m;
        meant = meant_joined g ahead.meant means;
        kinds_are = kinds_join ahead.front m ∙ ap (λ ls. kinds_of ahead.front ++ ls) (quiet_kinds change.0 quiet means) ∙ append-nil (kinds_of ahead.front) ∙ ahead.kinds_are;
        placed =
            All-append Placed change.1 rest (moves_placed g kinds known.are program known.program told.nodes known.begins.nodes has step)
            (All-tail Placed p rest ahead.placed);
      }

  cut_behind : (ks : List ℕ) (k : ℕ) (marks : List TreeMark) (read : KindId) → IsCutReading g kinds known.program.tasks (ks ++ k ∷ []) (marks ++ numbered.Token read ∷ [])
  cut_behind [] k marks read = keep.token marks read
  cut_behind (j ∷ ks) k marks read = keep.token marks read

  token_kept : {ks : List ℕ} {p : ℕ} (read : KindId) (marks : List TreeMark) (rest : List ℕ) → Ahead ks (reading marks (p ∷ rest)) →
      slice_get program.code p ≡ Some (Token read) → Kept (ks ++ read.0 ∷ []) (reading (marks ++ numbered.Token read ∷ []) rest)
  token_kept {ks} {p} read marks rest ahead at =
      let has = All-head Placed p rest ahead.placed in
      record {
        ahead = record {
          sound = sound_on marks rest has (move.token at) ahead.sound;
          front = ahead.front ++ mark.Token read.0 ∷ [];
          meant = meant_joined g ahead.meant (meant.more (meant.token read) meant.none);
          kinds_are = kinds_join ahead.front (mark.Token read.0 ∷ []) ∙ ap (λ ks. ks ++ read.0 ∷ []) ahead.kinds_are;
          placed = All-tail Placed p rest ahead.placed;
        };
        cut = cut_behind ks read.0 marks read;
      }

  pub found_on : {ks : List ℕ} {p : ℕ} (kind : KindId) (change : Change) (marks : List TreeMark) (rest : List ℕ) → Ahead ks (reading marks (p ∷ rest)) →
      IsTokenMove program told (Some kind) p change → Kept (ks ++ kind.0 ∷ []) (changed (reading marks rest) change)
  found_on {ks} kind change marks rest ahead by =
      subst (λ change. Kept (ks ++ kind.0 ∷ []) (changed (reading marks rest) change)) (sym by.is)
      (subst (λ k. Kept (ks ++ k.0 ∷ []) (reading (marks ++ numbered.Token by.read ∷ []) rest)) (sym (same_Some kind by.read by.same))
      (token_kept by.read marks rest ahead by.at))

  -- ---- every whole goes on by a move

  -- what follows on a reading has the kinds that are left
  pub kinds_left : {ks ls : List ℕ} {r : KeptReading} {m : List Mark} → Ahead ks r → (on : Goes m r) → kinds_of m ≡ ks ++ ls → kinds_of on.others ≡ ls
  kinds_left {ks} {ls} ahead on have =
      append_cancel_left ks (kinds_of on.others) ls
      (ap (λ ks. ks ++ kinds_of on.others) (sym ahead.kinds_are ∙ one_kinds g ahead.meant on.meant) ∙ sym (kinds_join on.front on.others) ∙ sym (ap kinds_of on.are) ∙ have)

  -- a call of a rule gives nothing that begins with a kind which it cannot meet
  no_call : {p r k : ℕ} {rest : List ℕ} {n : List Mark} (ls : List ℕ) → Placed p → slice_get program.code p ≡ Some (Call r) → ¬ IsMet told.meets r k → k < kind_count kinds →
      PlacesGive g kinds known.program.tasks (p ∷ rest) n → kinds_of n ≡ k ∷ ls → ⊥
  no_call {p} {r} {k} ls (t, stands, placed) at not_met within give have =
      let (rule, call) = call_said g kinds known.are known.program.tasks (said g kinds program known.program p stands at) placed in
      let first = first_given g kinds known.program.tasks stands give in
      let parts : kinds_of first.own ++ kinds_of first.others ≡ k ∷ ls = sym (kinds_join first.own first.others) ∙ sym (ap kinds_of first.are) ∙ have in
      not_met ((known.begins.meets r k rule call.there within).0 (first.own, call.gives first.does, first_begins (kinds_of first.own) (kinds_of first.others) parts))

  -- a token gives its own kind
  no_token : {read : KindId} {own : List Mark} (others : List Mark) (k : ℕ) (ls : List ℕ) → AreMeant g (numbered.Token read ∷ []) own → kinds_of (own ++ others) ≡ k ∷ ls →
      read.0 ≡ k
  no_token others k ls (meant.more (meant.token read) meant.none) have = same_first have

  -- m goes on by one of the changes
  abbrev GoesFurther : List Mark → KeptReading → List Change → List Change → Type 0
  GoesFurther m behind quiet tokens = Any (Goes m) (map (changed behind) quiet) ⊎ Any (Goes m) (map (changed behind) tokens)

  further : {ks : List ℕ} (kind : KindId) (ls : List ℕ) (p : ℕ) (marks : List TreeMark) (rest : List ℕ) (quiet tokens : List Change) (m : List Mark) →
      kind.0 < kind_count kinds → kinds_of m ≡ ks ++ kind.0 ∷ ls → Ahead ks (reading marks (p ∷ rest)) → (on : Goes m (reading marks (p ∷ rest))) →
      (change : Change) (own others : List Mark) → IsPut program told (Some kind) p quiet tokens change → AreMeant g (left change.0) own →
      on.others ≡ own ++ others → Goes m (changed (reading marks rest) change) → GoesFurther m (reading marks rest) quiet tokens
  further kind ls p marks rest quiet tokens m within have ahead on change own others (listing.quietly has) means are goes =
      inl (any_mapped (Goes m) (changed (reading marks rest)) quiet change has goes)
  further kind ls p marks rest quiet tokens m within have ahead on change own others (listing.by_token has) means are goes =
      inr (any_mapped (Goes m) (changed (reading marks rest)) tokens change has goes)
  further kind ls p marks rest quiet tokens m within have ahead on change own others (listing.misread apart) means are goes =
      let same = no_token others kind.0 ls means (sym (ap kinds_of are) ∙ kinds_left ahead on have) in absurd (apart (sym (ap (λ k. Some (record { 0 = k })) same)))
  further kind ls p marks rest quiet tokens m within have ahead on change own others (listing.missed {r} at misses) means are goes =
      absurd (no_call ls (All-head Placed p rest ahead.placed) at
      (λ met. misses.not_met (subst (λ k. IsMet told.meets r k.0) (same_Some kind misses.sought misses.is) met)) within on.gives (kinds_left ahead on have))

  goes_further : {ks : List ℕ} (kind : KindId) (ls : List ℕ) (p : ℕ) (marks : List TreeMark) (rest : List ℕ) (quiet tokens : List Change) (m : List Mark) →
      kind.0 < kind_count kinds → AreQuiet program told (Some kind) p (slice_get program.code p) quiet → AreRead (Some kind) (slice_get program.code p) tokens →
      kinds_of m ≡ ks ++ kind.0 ∷ ls → Ahead ks (reading marks (p ∷ rest)) → Goes m (reading marks (p ∷ rest)) → GoesFurther m (reading marks rest) quiet tokens
  goes_further kind ls p marks rest quiet tokens m within are_quiet are_read have ahead on =
      let moved = moves_all g kinds known.are program known.program told.nodes known.begins.nodes (All-head Placed p rest ahead.placed) on.gives in
      further kind ls p marks rest quiet tokens m within have ahead on (moved.mark, moved.places) moved.own moved.others
      (each_put program told (Some kind) p quiet tokens are_quiet are_read moved.move) moved.means moved.are
      (record {
        front = on.front ++ moved.own;
        others = moved.others;
        meant = meant_joined g on.meant moved.means;
        gives = moved.give;
        are = on.are ∙ ap (λ others. on.front ++ others) moved.are ∙ sym (append_assoc on.front moved.own moved.others);
      })

  -- where nothing is left to be done no token comes
  ends_there : {ks : List ℕ} (ls : List ℕ) (k : ℕ) {marks : List TreeMark} {m : List Mark} → Ahead ks (reading marks []) → Goes m (reading marks []) →
      kinds_of m ≡ ks ++ k ∷ ls → ⊥
  ends_there ls k ahead on have = no_first (sym (ap kinds_of (nothing_given g kinds known.program.tasks on.gives)) ∙ kinds_left ahead on have)

  -- ---- one turn

  -- what is still to be explored, and what was found; every whole that begins with these kinds and this one goes on from one of them
  pub record IsExploring (ks : List ℕ) (kind : KindId) (work found : List KeptReading) : Type 0 where
    pub ahead : All (Ahead ks) work
    pub kept : All (Kept (ks ++ kind.0 ∷ [])) found
    pub all : (m : List Mark) (ls : List ℕ) → Whole m → kinds_of m ≡ ks ++ kind.0 ∷ ls → Any (Goes m) work ⊎ Any (Goes m) found

  pub all_ahead : {ks : List ℕ} (readings : List KeptReading) → All (Kept ks) readings → All (Ahead ks) readings
  all_ahead {ks} readings each = All-weaker (Kept ks) (Ahead ks) (λ r kept. kept.ahead) readings each

  pub exploring_first : {ks : List ℕ} (kind : KindId) (readings : List KeptReading) → Keeps g kinds known.program.tasks Whole ks readings → IsExploring ks kind readings []
  exploring_first {ks} kind readings keeps =
      record {
        ahead = all_ahead readings keeps.each;
        kept = All-nil (Kept (ks ++ kind.0 ∷ []));
        all = λ m ls whole have. inl (keeps.all m (kind.0 ∷ ls) whole have);
      }

  pub exploring_last : {ks : List ℕ} (kind : KindId) (found : List KeptReading) → IsExploring ks kind [] found →
      Keeps g kinds known.program.tasks Whole (ks ++ kind.0 ∷ []) found
  exploring_last {ks} kind found explored =
      record {
        each = explored.kept;
        all = λ m ls whole have. elim (explored.all m ls whole (have ∙ append_assoc ks (kind.0 ∷ []) ls)) [ inl none ↦ absurd (no_any none) | inr some ↦ some ];
      }

  pub last_ahead : {ks : List ℕ} (work : List KeptReading) (r : KeptReading) → All (Ahead ks) (work ++ r ∷ []) → All (Ahead ks) work × Ahead ks r
  last_ahead {ks} work r ahead = All-pop (Ahead ks) (work ++ r ∷ []) work (Some r) refl ahead

  -- the others, and what the changes of one of them make
  pub ahead_more : {ks : List ℕ} (kind : Option KindId) (p : ℕ) (marks : List TreeMark) (rest : List ℕ) (work : List KeptReading) (quiet : List Change) →
      AreQuiet program told kind p (slice_get program.code p) quiet → All (Ahead ks) (work ++ reading marks (p ∷ rest) ∷ []) →
      All (Ahead ks) (work ++ map (changed (reading marks rest)) quiet)
  ahead_more {ks} kind p marks rest work quiet are_quiet ahead =
      let (others, one) = last_ahead work (reading marks (p ∷ rest)) ahead in
      let next = changed (reading marks rest) in
      All-append (Ahead ks) work (map next quiet) others
      (All-map (Ahead ks) next quiet
      (All-weaker (IsQuietMove program told kind p) (λ change. Ahead ks (next change)) (λ change (step, is_quiet). ahead_on change marks rest one step is_quiet) quiet
      (quiet_moves program told kind p quiet (slice_get program.code p) refl are_quiet)))

  -- one with nothing left to be done is dropped
  dropped : {ks : List ℕ} {kind : KindId} (marks : List TreeMark) (work found : List KeptReading) → IsExploring ks kind (work ++ reading marks [] ∷ []) found →
      IsExploring ks kind work found
  dropped {ks} {kind} marks work found explored =
      record {
        ahead = (last_ahead work (reading marks []) explored.ahead).0;
        kept = explored.kept;
        all = λ m ls whole have. elim (explored.all m ls whole have) [ inl some ↦ here m ls have (any_cases work (reading marks [] ∷ []) some) | inr some ↦ inr some ];
      }
    where
      here : (m : List Mark) (ls : List ℕ) → kinds_of m ≡ ks ++ kind.0 ∷ ls → Any (Goes m) work ⊎ Any (Goes m) (reading marks [] ∷ []) →
          Any (Goes m) work ⊎ Any (Goes m) found
      here m ls have (inl some) = inl some
      here m ls have (inr it) = absurd (ends_there ls kind.0 (last_ahead work (reading marks []) explored.ahead).1 (the_one (reading marks []) it) have)

  -- one is taken off, and its changes are put on
  moved : {ks : List ℕ} (kind : KindId) (p : ℕ) (marks : List TreeMark) (rest : List ℕ) (work found : List KeptReading) (quiet tokens : List Change) →
      kind.0 < kind_count kinds → IsExploring ks kind (work ++ reading marks (p ∷ rest) ∷ []) found →
      AreQuiet program told (Some kind) p (slice_get program.code p) quiet → AreRead (Some kind) (slice_get program.code p) tokens →
      IsExploring ks kind (work ++ map (changed (reading marks rest)) quiet) (found ++ map (changed (reading marks rest)) tokens)
  moved {ks} kind p marks rest work found quiet tokens within explored are_quiet are_read =
      record {
        ahead = ahead_more (Some kind) p marks rest work quiet are_quiet explored.ahead;
        kept = All-append Next found (map next tokens) explored.kept (All-map Next next tokens each_token);
        all = λ m ls whole have. elim (explored.all m ls whole have) [
          | inl some ↦ here m ls have (any_cases work (reading marks (p ∷ rest) ∷ []) some)
          | inr some ↦ inr (any_left found (map next tokens) some)
        ];
      }
    where
      next : Change → KeptReading
      next = changed (reading marks rest)

      Next : KeptReading → Type 0
      Next r = Kept (ks ++ kind.0 ∷ []) r

      one : Ahead ks (reading marks (p ∷ rest))
      one = (last_ahead work (reading marks (p ∷ rest)) explored.ahead).1

      each_token : All (λ change. Next (next change)) tokens
      each_token =
          All-weaker (IsTokenMove program told (Some kind) p) (λ change. Next (next change)) (λ change by. found_on kind change marks rest one by) tokens
          (token_moves program told (Some kind) p tokens (slice_get program.code p) refl are_read)

      put : (m : List Mark) → GoesFurther m (reading marks rest) quiet tokens → Any (Goes m) (work ++ map next quiet) ⊎ Any (Goes m) (found ++ map next tokens)
      put m (inl some) = inl (any_right work (map next quiet) some)
      put m (inr some) = inr (any_right found (map next tokens) some)

      here : (m : List Mark) (ls : List ℕ) → kinds_of m ≡ ks ++ kind.0 ∷ ls → Any (Goes m) work ⊎ Any (Goes m) (reading marks (p ∷ rest) ∷ []) →
          Any (Goes m) (work ++ map next quiet) ⊎ Any (Goes m) (found ++ map next tokens)
      here m ls have (inl some) = inl (any_left work (map next quiet) some)
      here m ls have (inr it) =
          put m (goes_further kind ls p marks rest quiet tokens m within are_quiet are_read have one (the_one (reading marks (p ∷ rest)) it))

  pub exploring_on : {ks : List ℕ} (kind : KindId) → kind.0 < kind_count kinds → {r : KeptReading} (work after found noted : List KeptReading) →
      TurnsAt program told (Some kind) r work after found noted → IsExploring ks kind (work ++ r ∷ []) found → IsExploring ks kind after noted
  exploring_on {ks} kind within work after found noted (turn.drops marks r_is after_is noted_is) explored =
      subst₂ (IsExploring ks kind) (sym after_is) (sym noted_is) (dropped marks work found (subst (λ r. IsExploring ks kind (work ++ r ∷ []) found) r_is explored))
  exploring_on {ks} kind within work after found noted (turn.moves {p} marks rest quiet tokens r_is are_quiet are_read after_is noted_is) explored =
      subst₂ (IsExploring ks kind) (sym after_is) (sym noted_is)
      (moved kind p marks rest work found quiet tokens within (subst (λ r. IsExploring ks kind (work ++ r ∷ []) found) r_is explored) are_quiet are_read)
