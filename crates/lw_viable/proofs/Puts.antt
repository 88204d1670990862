-- What is known of a place at which a value is put: what it gives, and what its number means.
use Rattle.std.proofs.Common.{◌≡◌, ℕ, ◌+◌, List, [], ◌∷◌, ◌++◌, Some, slice_get, refl, ap, ◌∙◌, subst, append_assoc}
use Rattle.lw_grammar.specs.declared.grammar.Grammar.{Grammar}
use Rattle.lw_grammar.specs.declared.rule.Op.{Op}
use Rattle.lw_grammar.specs.declared.rule.Value0.{Value0}
use Rattle.lw_grammar.specs.Kinds.{Kinds, AreKinds}
use Rattle.lw_grammar.specs.Reached.{IsReached}
use Rattle.lw_grammar.specs.Marks.{Mark}
use Rattle.lw_grammar.specs.Marks as mark
use Rattle.lw_look.specs.Sites.{PartSite, rule_of, Value, IsPartAt}
use Rattle.lw_look.specs.Things.{Assigned, Leave}
use Rattle.lw_look.specs.Things as t
use Rattle.lw_look.proofs.OneStep.{part_reads}
use Rattle.lw_program.specs.declared.instr.Instr.TheVariants.{Put}
use Rattle.lw_program.specs.Numbered.{put_sites}
use Rattle.lw_program.specs.ProgramOf.{ProgramParts, IsProgramOf}
use Rattle.lw_program.specs.Says.{Task, Does, Reads, SaysTask}
use Rattle.lw_program.specs.Says as say
use Rattle.lw_program.specs.declared.recipes.mark.TreeMark.TheVariants as numbered
use Rattle.lw_program.specs.Meant.{AssignedAt, MeansMark}
use Rattle.lw_program.specs.Meant as meant
use Rattle.lw_viable.specs.Gives.{PlacesGive}
use Rattle.lw_viable.specs.Gives as gives
use Rattle.lw_viable.specs.Readings.{IsPlacedTask, HasTask}
use Rattle.lw_viable.specs.Readings as place
use Rattle.lw_viable.proofs.Moves.Calling.{read_itself}
use Rattle.lw_viable.proofs.Moves.Doing.{does_gives, reads_gives}
use Rattle.lw_viable.proofs.Moves.Giving.{first_given, one_place_gives, of_one_place}
use Rattle.lw_viable.proofs.Moves.Saying.{is_calling, said, instr_at}

module _ (g : Grammar) (kinds : Kinds) where
  -- the task puts the value of this number, which is read at the place `first`
  pub record PutSaid (tasks : List Task) (t : Task) (n first : ℕ) : Type 0 where
    pub site : PartSite
    pub property : List ℕ
    pub op : Op
    pub value : Value0
    pub there : IsPartAt g site (Value value)
    pub numbers : slice_get (put_sites g) n ≡ Some site
    pub assigned : AssignedAt g site property op
    pub reached : IsReached g (rule_of site)
    pub is : t ≡ Does (Assigned property op site)
    pub reads : slice_get tasks first ≡ Some (Reads site)
    pub ends : slice_get tasks (first + 1) ≡ Some (Does (Leave mark.End))

  says_put : {tasks : List Task} {t : Task} {n first : ℕ} → SaysTask g kinds tasks t (Put n first) → IsPlacedTask g t → PutSaid tasks t n first
  says_put (say.called at calls) placed = absurd (is_calling g kinds calls)
  says_put (say.reads_call at calls) placed = absurd (is_calling g kinds calls)
  says_put (say.put {p} {op} {s} {v} there numbers reads_at ends_at) (place.assigned other assigned reached) = record {
    site = s;
    property = p;
    op = op;
    value = v;
    there = there;
    numbers = numbers;
    assigned = assigned;
    reached = reached;
    is = refl;
    reads = reads_at;
    ends = ends_at;
  }

  module _ (are_kinds : AreKinds g kinds) (program : ProgramParts) (is : IsProgramOf g kinds program) (p : ℕ) {n first : ℕ} (has : HasTask g kinds is.tasks p)
      (at : slice_get program.code p ≡ Some (Put n first)) where
    pub put_said : PutSaid is.tasks has.0 n first
    put_said = says_put (said g kinds program is p has.1 at) has.2

    -- its mark
    pub put_means : MeansMark g (numbered.Put n) (mark.Put put_said.property put_said.op put_said.value)
    put_means = let s = put_said in meant.puts s.numbers s.assigned s.there

    -- where its value is read
    pub value_has : HasTask g kinds is.tasks first
    value_has = let s = put_said in (Reads s.site, s.reads, place.reads s.there s.reached)

    put_stands : slice_get is.tasks p ≡ Some (Does (Assigned put_said.property put_said.op put_said.site))
    put_stands = has.1 ∙ ap Some put_said.is

    -- what it gives: its mark, what the value gives, the end, and what the others give
    pub record PutGives (rest : List ℕ) (m : List Mark) : Type 0 where
      pub inner : List Mark
      pub others : List Mark
      pub value : PlacesGive g kinds is.tasks (first ∷ []) inner
      pub behind : PlacesGive g kinds is.tasks rest others
      pub are : m ≡ mark.Put put_said.property put_said.op put_said.value ∷ (inner ++ mark.End ∷ others)

    pub put_gives : {rest : List ℕ} {m : List Mark} → PlacesGive g kinds is.tasks (p ∷ rest) m → PutGives rest m
    put_gives give =
        let s = put_said in
        let one = first_given g kinds is.tasks put_stands give in
        let read = part_reads g kinds s.there (does_gives g kinds one.does) in
        let (i, there, says) = instr_at g kinds program is first s.reads in
        let itself = read_itself g kinds are_kinds is.tasks says s.there read.reads in
        record {
          inner = read.inner;
          others = one.others;
          value = one_place_gives g kinds is.tasks s.reads (gives.reads s.there read.reads);
          behind = one.give;
          are =
              one.are ∙ ap (λ own. own ++ one.others) (read.are ∙ ap (λ c. mark.Put s.property s.op c ∷ read.inner ++ mark.End ∷ []) itself)
              ∙ ap (λ m. mark.Put s.property s.op s.value ∷ m) (append_assoc read.inner (mark.End ∷ []) one.others);
        }

    pub put_given : {rest : List ℕ} {m n : List Mark} → PlacesGive g kinds is.tasks (first ∷ []) m → PlacesGive g kinds is.tasks rest n →
        PlacesGive g kinds is.tasks (p ∷ rest) (mark.Put put_said.property put_said.op put_said.value ∷ (m ++ mark.End ∷ n))
    put_given {rest} {m} {n} value behind =
        let s = put_said in
        let (c, reads) = reads_gives g kinds s.there (of_one_place g kinds is.tasks s.reads value) in
        let (i, there, says) = instr_at g kinds program is first s.reads in
        let itself = read_itself g kinds are_kinds is.tasks says s.there reads in
        subst (PlacesGive g kinds is.tasks (p ∷ rest))
        (ap (λ c. mark.Put s.property s.op c ∷ (m ++ mark.End ∷ [] ++ n)) itself ∙ ap (λ m. mark.Put s.property s.op s.value ∷ m) (append_assoc m (mark.End ∷ []) n))
        (gives.more put_stands (gives.does (t.value_ s.there reads)) behind)
