-- What one move does is what its instruction says: the places that are then to be done have tasks of reached rules, one mark is meant, and with
-- what the places give it is given by the task.
use Rattle.std.proofs.Common.{◌≡◌, ◌↔◌, ℕ, ◌+◌, ◌-◌, ◌<◌, ◌≤◌, List, [], ◌∷◌, ◌++◌, Option, Some, None, All, Bool, true, slice_get, sym, ap, ◌∙◌, subst}
use Rattle.std.proofs.lemmas.List.Elements.{All-nil, All-cons}
use Rattle.lw_base.specs.declared.numbers.KindId.{KindId}
use Rattle.lw_base.specs.declared.numbers.PointId.{PointId}
use Rattle.lw_grammar.specs.declared.grammar.Grammar.{Grammar}
use Rattle.lw_grammar.specs.declared.rule.Rule.{Rule}
use Rattle.lw_grammar.specs.declared.rule.Value0.{Value0}
use Rattle.lw_grammar.specs.declared.rule.Value0.TheOpen.{Value0-F}
use Rattle.lw_grammar.specs.Kinds.{Kinds, AreKinds}
use Rattle.lw_grammar.specs.Marks.{Mark}
use Rattle.lw_grammar.specs.Marks as mark
use Rattle.lw_grammar.specs.Yields.{ValueYields, ValueGives}
use Rattle.lw_grammar.specs.Yields as y
use Rattle.lw_look.specs.Sites.{PartSite, ◌▸◌, ValueAt}
use Rattle.lw_look.specs.Sites as site
use Rattle.lw_look.specs.Things as t
use Rattle.lw_base.proofs.Lists.{among}
use Rattle.lw_look.proofs.Standing.{row_part_stands, way_stands, option_stands, repeated_stands}
use Rattle.lw_look.proofs.OneStep.{again_gives, part_reads, leave_gives}
use Rattle.lw_program.specs.declared.instr.Instr.TheVariants.{Token, End, Shut, Act, Row, Choice, Maybe, Loop, Once, Put, Call}
use Rattle.lw_program.specs.ProgramOf.{ProgramParts, IsProgramOf}
use Rattle.lw_program.specs.Says.{Task, Does, Reads, thing_of, SaysTask}
use Rattle.lw_program.specs.Says as say
use Rattle.lw_program.specs.declared.recipes.mark.TreeMark.{TreeMark}
use Rattle.lw_program.specs.declared.recipes.mark.TreeMark.TheVariants as numbered
use Rattle.lw_program.specs.Meant.{AreMeant}
use Rattle.lw_program.specs.Meant as meant
use Rattle.lw_viable.specs.Gives.{OpensNode, TaskGives, PlacesGive}
use Rattle.lw_viable.specs.Gives as gives
use Rattle.lw_viable.specs.Readings.{IsPlacedTask, HasTask}
use Rattle.lw_viable.specs.Readings as place
use Rattle.lw_viable.specs.Moves.{side_by_side, left, MovesBy}
use Rattle.lw_viable.specs.Moves as move
use Rattle.lw_viable.proofs.Moves.Beside.{all_beside, each_item, item_at, beside_yield}
use Rattle.lw_viable.proofs.Moves.Calling.{token_said, call_said, read_itself}
use Rattle.lw_viable.proofs.Moves.Doing.{value_form, thing_placed, does_gives, reads_gives, form_given, read_given, thing_yields}
use Rattle.lw_viable.proofs.Moves.Entering.{node_placed, body_placed, node_given, body_given}
use Rattle.lw_viable.proofs.Moves.Giving.{nothing_given, first_given, of_one_place}
use Rattle.lw_viable.proofs.Moves.Marking.{token_meant, open_meant, shut_meant, end_meant, none_meant, act_meant, put_meant}
use Rattle.lw_viable.proofs.Moves.Saying.{is_calling, loop_said, said, instr_at}

module _ (g : Grammar) (kinds : Kinds) where
  -- a task that leaves this mark and goes on at these places
  pub record IsExact (tasks : List Task) (t : Task) (l : Option TreeMark) (ps : List ℕ) : Type 0 where
    pub placed : All (HasTask g kinds tasks) ps
    pub marks : List Mark
    pub means : AreMeant g (left l) marks
    pub only : {m : List Mark} → AreMeant g (left l) m → m ≡ marks
    pub give : {o : List Mark} → PlacesGive g kinds tasks ps o → TaskGives g kinds t (marks ++ o)

  value_formed : {s : PartSite} {v c : Value0} {f : Value0-F Value0} {m : List Mark} → ValueAt g s v f → ValueGives g kinds v f c m → ValueYields g kinds v c m
  value_formed (site.value_at stands) r = y.reads r

  module _ (are : AreKinds g kinds) (program : ProgramParts) (is : IsProgramOf g kinds program) where
    one_placed : (p : ℕ) → HasTask g kinds is.tasks p → All (HasTask g kinds is.tasks) (p ∷ [])
    one_placed p has = All-cons (HasTask g kinds is.tasks) p [] has (All-nil (HasTask g kinds is.tasks))

    two_placed : (p q : ℕ) → HasTask g kinds is.tasks p → HasTask g kinds is.tasks q → All (HasTask g kinds is.tasks) (p ∷ q ∷ [])
    two_placed p q has other = All-cons (HasTask g kinds is.tasks) p (q ∷ []) has (one_placed q other)

    -- a mark alone is left
    alone : {t : Task} {l : TreeMark} {m : Mark} → AreMeant g (l ∷ []) (m ∷ []) → ((n : List Mark) → AreMeant g (l ∷ []) n → n ≡ m ∷ []) →
        TaskGives g kinds t (m ∷ []) → IsExact is.tasks t (Some l) []
    alone {t} {m} means only given = record {
      placed = All-nil (HasTask g kinds is.tasks);
      marks = m ∷ [];
      means = means;
      only = λ p. only _ p;
      give = λ p. subst (λ o. TaskGives g kinds t (m ∷ o)) (sym (nothing_given g kinds is.tasks p)) given;
    }

    -- no mark is left
    silent : {t : Task} {ps : List ℕ} → All (HasTask g kinds is.tasks) ps → ((o : List Mark) → PlacesGive g kinds is.tasks ps o → TaskGives g kinds t o) →
        IsExact is.tasks t None ps
    silent placed give = record { placed = placed; marks = []; means = meant.none; only = λ p. none_meant g p; give = λ p. give _ p }

    -- nothing is left to be done
    passed : {t : Task} → TaskGives g kinds t [] → IsExact is.tasks t None []
    passed {t} given = silent (All-nil (HasTask g kinds is.tasks)) (λ o p. subst (TaskGives g kinds t) (sym (nothing_given g kinds is.tasks p)) given)

    token_exact : {t : Task} {k : KindId} → SaysTask g kinds is.tasks t (Token k) → IsExact is.tasks t (Some (numbered.Token k)) []
    token_exact {k} says = alone (meant.more (meant.token k) meant.none) (λ n p. token_meant g p) (token_said g kinds are is.tasks says).given

    end_exact : {t : Task} → SaysTask g kinds is.tasks t End → IsExact is.tasks t (Some numbered.End) []
    end_exact say.ends = alone (meant.more meant.ends meant.none) (λ n p. end_meant g p) (gives.does t.leaves)
    end_exact (say.called at by) = absurd (is_calling g kinds by)
    end_exact (say.reads_call at by) = absurd (is_calling g kinds by)

    shut_exact : {t : Task} → SaysTask g kinds is.tasks t Shut → IsExact is.tasks t (Some numbered.Shut) []
    shut_exact say.shuts = alone (meant.more meant.shuts meant.none) (λ n p. shut_meant g p) (gives.does t.leaves)
    shut_exact (say.called at by) = absurd (is_calling g kinds by)
    shut_exact (say.reads_call at by) = absurd (is_calling g kinds by)

    act_exact : {t : Task} {n : ℕ} → SaysTask g kinds is.tasks t (Act n) → IsExact is.tasks t (Some (numbered.Act n)) []
    act_exact (say.acted at numbers) =
        alone (meant.more (meant.acts numbers at) meant.none) (λ n p. act_meant g numbers at p) (form_given g kinds at y.acted)
    act_exact (say.called at by) = absurd (is_calling g kinds by)
    act_exact (say.reads_call at by) = absurd (is_calling g kinds by)

    row_exact : {t : Task} {first end : ℕ} → SaysTask g kinds is.tasks t (Row first end) → IsPlacedTask g t → IsExact is.tasks t None (side_by_side first (end - first))
    row_exact {first} {end} (say.row {s} {es} (site.row at) stand) (place.element stands reached) =
        silent
        (all_beside (HasTask g kinds is.tasks) first (end - first)
        (λ i below.
        let it = each_item is.tasks (λ i e. thing_of (s ▸ i) e) es first end stand i below in
        (thing_of (s ▸ it.number) it.item, it.has, thing_placed g (row_part_stands g at it.at) reached)))
        (λ o p. form_given g kinds at (y.grouped (beside_yield g kinds is.tasks s (λ j e is. row_part_stands g at is) stand p)))
    row_exact (say.called at by) placed = absurd (is_calling g kinds by)
    row_exact (say.reads_call at by) placed = absurd (is_calling g kinds by)

    way_exact : {t : Task} {point : PointId} {first end : ℕ} (w : ℕ) → SaysTask g kinds is.tasks t (Choice point first end) → IsPlacedTask g t → first ≤ w → w < end →
        IsExact is.tasks t None (w ∷ [])
    way_exact {first} {end} w (say.choice {s} {es} at numbers stand) (place.element stands reached) from below =
        let it = item_at is.tasks (λ i e. thing_of (s ▸ i) e) es first end stand w from below in
        let there = way_stands g (site.element at it.at) in
        silent (one_placed _ (thing_of (s ▸ it.number) it.item, it.has, thing_placed g there reached))
        (λ o p. form_given g kinds at (y.chosen (among es it.number it.item it.at) (thing_yields g kinds there (of_one_place g kinds is.tasks it.has p))))
    way_exact {first} {end} w (say.value_choice {p} {op} {s} {v} {vs} at numbers stand) (place.assigned stands assigned reached) from below =
        let it = item_at is.tasks (λ i v. Does (t.Assigned p op (s ▸ i))) vs first end stand w from below in
        let there = way_stands g (site.assigned at it.at) in
        silent (one_placed _ (Does (t.Assigned p op (s ▸ it.number)), it.has, place.assigned there (meant.way it.number assigned at) reached))
        (λ o q.
        let r = part_reads g kinds there (does_gives g kinds (of_one_place g kinds is.tasks it.has q)) in
        read_given g kinds (value_form g at).0 (record {
          read = r.read;
          inner = r.inner;
          reads = value_formed at (y.chosen_value (among vs it.number it.item it.at) r.reads);
          are = r.are;
        }))
    way_exact w (say.called at by) placed from below = absurd (is_calling g kinds by)
    way_exact w (say.reads_call at by) placed from below = absurd (is_calling g kinds by)

    enter_exact : {t : Task} {point : PointId} {inner : ℕ} → SaysTask g kinds is.tasks t (Maybe point inner) → IsPlacedTask g t → IsExact is.tasks t None (inner ∷ [])
    enter_exact (say.maybe {s} {e} (site.optional at) numbers has) (place.element stands reached) =
        let there = option_stands g (site.optional at) in
        silent (one_placed _ (thing_of (s ▸ 0) e, has, thing_placed g there reached))
        (λ o p. form_given g kinds at (y.taken (thing_yields g kinds there (of_one_place g kinds is.tasks has p))))
    enter_exact (say.called at by) placed = absurd (is_calling g kinds by)
    enter_exact (say.reads_call at by) placed = absurd (is_calling g kinds by)

    pass_exact : {t : Task} {point : PointId} {inner : ℕ} → SaysTask g kinds is.tasks t (Maybe point inner) → IsExact is.tasks t None []
    pass_exact (say.maybe (site.optional at) numbers has) = passed (form_given g kinds at y.skipped)
    pass_exact (say.called at by) = absurd (is_calling g kinds by)
    pass_exact (say.reads_call at by) = absurd (is_calling g kinds by)

    -- the body and then the loop, of `*` as of `+`
    again_exact : {t : Task} {point : PointId} {inner p : ℕ} → SaysTask g kinds is.tasks t (Loop point inner) → slice_get is.tasks p ≡ Some t → IsPlacedTask g t →
        IsExact is.tasks t None (inner ∷ p ∷ [])
    again_exact (say.loop {s} {e} at numbers has) here (place.again other reached) =
        silent (two_placed _ _ (thing_of (s ▸ 0) e, has, thing_placed g (repeated_stands g at) reached) (_, here, place.again other reached))
        (λ o q.
        let first = first_given g kinds is.tasks has q in
        subst (TaskGives g kinds (Does (t.Again s))) (sym first.are)
        (gives.does (t.repeats at
        (y.again (thing_yields g kinds (repeated_stands g at) first.does)
        (again_gives g kinds at (does_gives g kinds (of_one_place g kinds is.tasks here first.give)))))))
    again_exact (say.called at by) here placed = absurd (is_calling g kinds by)
    again_exact (say.reads_call at by) here placed = absurd (is_calling g kinds by)

    leave_exact : {t : Task} {point : PointId} {inner : ℕ} → SaysTask g kinds is.tasks t (Loop point inner) → IsExact is.tasks t None []
    leave_exact (say.loop at numbers has) = passed (gives.does (t.repeats at y.stop))
    leave_exact (say.called at by) = absurd (is_calling g kinds by)
    leave_exact (say.reads_call at by) = absurd (is_calling g kinds by)

    once_exact : {t : Task} {point : PointId} {rest inner : ℕ} → SaysTask g kinds is.tasks t (Once rest) → slice_get program.code rest ≡ Some (Loop point inner) →
        IsPlacedTask g t → IsExact is.tasks t None (inner ∷ rest ∷ [])
    once_exact (say.once {s} {e} at behind) loop (place.element stands reached) =
        let there = repeated_stands g (site.some at) in
        let has = loop_said g kinds (said g kinds program is _ behind loop) (site.some at) in
        silent (two_placed _ _ (thing_of (s ▸ 0) e, has, thing_placed g there reached) (_, behind, place.again (site.some at) reached))
        (λ o q.
        let first = first_given g kinds is.tasks has q in
        subst (TaskGives g kinds (Does (t.Do s))) (sym first.are)
        (form_given g kinds at (y.repeated_once (thing_yields g kinds there first.does)
        (again_gives g kinds (site.some at) (does_gives g kinds (of_one_place g kinds is.tasks behind first.give))))))
    once_exact (say.called at by) loop placed = absurd (is_calling g kinds by)
    once_exact (say.reads_call at by) loop placed = absurd (is_calling g kinds by)

    put_exact : {t : Task} {n first : ℕ} → SaysTask g kinds is.tasks t (Put n first) → IsPlacedTask g t →
        IsExact is.tasks t (Some (numbered.Put n)) (first ∷ (first + 1) ∷ [])
    put_exact {first} (say.put {p} {op} {s} {v} stands numbers reads_at ends_at) (place.assigned other assigned reached) = record {
      placed = two_placed _ _ (Reads s, reads_at, place.reads stands reached) (Does (t.Leave mark.End), ends_at, place.leaves);
      marks = mark.Put p op v ∷ [];
      means = meant.more (meant.puts numbers assigned stands) meant.none;
      only = λ q. put_meant g numbers assigned stands q;
      give = λ q.
          let one = first_given g kinds is.tasks reads_at q in
          let ended = leave_gives g kinds (does_gives g kinds (of_one_place g kinds is.tasks ends_at one.give)) in
          let (c, r) = reads_gives g kinds stands one.does in
          let (i, here, says) = instr_at g kinds program is _ reads_at in
          read_given g kinds stands (record {
            read = v;
            inner = one.own;
            reads = subst (λ c. ValueYields g kinds v c one.own) (read_itself g kinds are is.tasks says stands r) r;
            are = ap (λ o. mark.Put p op v ∷ o) (one.are ∙ ap (λ o. one.own ++ o) ended);
          });
    }
    put_exact (say.called at by) placed = absurd (is_calling g kinds by)
    put_exact (say.reads_call at by) placed = absurd (is_calling g kinds by)

    module _ (nodes : List Bool) (told : (r : ℕ) (rule : Rule) → slice_get g.rules r ≡ Some rule → OpensNode g rule ↔ (slice_get nodes r ≡ Some true)) where
      open_exact : {t : Task} {r start : ℕ} → SaysTask g kinds is.tasks t (Call r) → IsPlacedTask g t → slice_get program.starts r ≡ Some (Some start) →
          slice_get nodes r ≡ Some true → IsExact is.tasks t (Some (numbered.Open (record { 0 = r }))) (start ∷ (start + 1) ∷ [])
      open_exact {r} says placed at flag =
          let (rule, call) = call_said g kinds are is.tasks says placed in
          let opens = (told r rule call.there).1 flag in
          record {
            placed = node_placed g kinds program is call.reached call.there at opens;
            marks = mark.Open r ∷ [];
            means = meant.more (meant.opens (record { 0 = r })) meant.none;
            only = λ p. open_meant g p;
            give = λ p. call.given (node_given g kinds program is call.reached call.there at opens p);
          }

      call_exact : {t : Task} {r start : ℕ} → SaysTask g kinds is.tasks t (Call r) → IsPlacedTask g t → slice_get program.starts r ≡ Some (Some start) →
          ¬ (slice_get nodes r ≡ Some true) → IsExact is.tasks t None (start ∷ [])
      call_exact {r} says placed at no_flag =
          let (rule, call) = call_said g kinds are is.tasks says placed in
          silent (body_placed g kinds program is call.reached call.there at)
          (λ o p. call.given (body_given g kinds program is call.reached call.there at (λ opens. no_flag ((told r rule call.there).0 opens)) p))

      -- each move is so
      pub moves_exact : {p : ℕ} {l : Option TreeMark} {ps : List ℕ} {t : Task} → slice_get is.tasks p ≡ Some t → IsPlacedTask g t → MovesBy program nodes p l ps →
          IsExact is.tasks t l ps
      moves_exact stands placed (move.token here) = token_exact (said g kinds program is _ stands here)
      moves_exact stands placed (move.ends here) = end_exact (said g kinds program is _ stands here)
      moves_exact stands placed (move.shuts here) = shut_exact (said g kinds program is _ stands here)
      moves_exact stands placed (move.acts here) = act_exact (said g kinds program is _ stands here)
      moves_exact stands placed (move.row here) = row_exact (said g kinds program is _ stands here) placed
      moves_exact stands placed (move.way w here from below) = way_exact w (said g kinds program is _ stands here) placed from below
      moves_exact stands placed (move.enters here) = enter_exact (said g kinds program is _ stands here) placed
      moves_exact stands placed (move.passes here) = pass_exact (said g kinds program is _ stands here)
      moves_exact stands placed (move.again here) = again_exact (said g kinds program is _ stands here) stands placed
      moves_exact stands placed (move.leaves here) = leave_exact (said g kinds program is _ stands here)
      moves_exact stands placed (move.once here loop) = once_exact (said g kinds program is _ stands here) loop placed
      moves_exact stands placed (move.puts here) = put_exact (said g kinds program is _ stands here) placed
      moves_exact stands placed (move.opens here at flag) = open_exact (said g kinds program is _ stands here) placed at flag
      moves_exact stands placed (move.calls here at no_flag) = call_exact (said g kinds program is _ stands here) placed at no_flag
