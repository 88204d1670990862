-- What is told of places and rules, put together.
use Rattle.std.proofs.Common.{◌≡◌, ℕ, ◌<◌, List, Bool, Some, length, slice_get, ◌↔◌, sym, ◌∙◌, subst, arith}
use Rattle.std.proofs.lemmas.Option.{slice_get_within, same_Some}
use Rattle.lw_grammar.specs.declared.grammar.Grammar.{Grammar}
use Rattle.lw_grammar.specs.declared.rule.Rule.{Rule}
use Rattle.lw_grammar.specs.Kinds.{Kinds, kind_count}
use Rattle.lw_look.specs.Heads.{AreClosedHeads, AreTrueHeads}
use Rattle.lw_first.specs.declared.heads.head.Head.{Head}
use Rattle.lw_first.specs.Sets.{IsInSet}
use Rattle.lw_program.specs.ProgramOf.{ProgramParts, IsProgramOf}
use Rattle.lw_program.specs.Says.{Task, NamesLater}
use Rattle.lw_numbers.specs.Kinship.{AreNodeRules}
use Rattle.lw_viable.specs.BeginsWith.{TellsEmptyHeads, TellsMetKinds, TellsNodes}
use Rattle.lw_viable.specs.EmptyBy.{IsFlagged, AreEmptyFrom, NameLater}
use Rattle.lw_viable.specs.Gives.{OpensNode, MayBeEmpty, MayMeet}
use Rattle.lw_viable.specs.Told.{IsMet}
use Rattle.lw_viable.proofs.ByHeads.{none_is_read, kind_is_met}
use Rattle.lw_viable.proofs.Exact.{item_at, via, all_told}
use Rattle.lw_viable.proofs.NoToken.{RuleNone}

-- the instructions of a program name later places alone
pub names_later : (g : Grammar) (kinds : Kinds) (program : ProgramParts) → IsProgramOf g kinds program → NameLater program.code
names_later g kinds program is p instr at =
    let said = is.said p (slice_get_within program.code p instr at) in
    subst (NamesLater p) (same_Some said.instr instr (sym said.is ∙ at)) said.later

module _ (g : Grammar) (kinds : Kinds) (sets : List (List Head)) (size : length sets ≡ length g.rules) (closed : AreClosedHeads g kinds 1 (IsInSet sets))
    (no_others : AreTrueHeads g kinds 1 (IsInSet sets)) where
  heads_of : (r : ℕ) (rule : Rule) → slice_get g.rules r ≡ Some rule → (heads : List Head) × (slice_get sets r ≡ Some heads)
  heads_of r rule there = item_at sets r (omega (arith, size, slice_get_within g.rules r rule there))

  rules_told : (calls : List Bool) → TellsEmptyHeads sets calls → (r : ℕ) (rule : Rule) → slice_get g.rules r ≡ Some rule → RuleNone g kinds r rule ↔ IsFlagged calls r
  rules_told calls tells r rule there =
      let (heads, at) = heads_of r rule there in
      let told = tells r heads at in
      via (none_is_read g kinds sets closed no_others r rule there heads at) (told.1, told.0)

  pub meets_told : (rows : List (List Bool)) (count : ℕ) → count ≡ kind_count kinds → TellsMetKinds sets count rows → (r k : ℕ) (rule : Rule) →
      slice_get g.rules r ≡ Some rule → k < kind_count kinds → MayMeet g kinds r rule k ↔ IsMet rows r k
  meets_told rows count same tells r k rule there below =
      let (heads, at) = heads_of r rule there in
      let told = tells r k heads at (omega (arith, same, below)) in
      via (kind_is_met g kinds sets closed no_others r rule there heads at k) (told.1, told.0)

  pub places_told : (program : ProgramParts) (is : IsProgramOf g kinds program) (calls empty : List Bool) → TellsEmptyHeads sets calls →
      AreEmptyFrom calls program.code empty 0 → (p : ℕ) (t : Task) → slice_get is.tasks p ≡ Some t → MayBeEmpty g kinds t ↔ IsFlagged empty p
  places_told program is calls empty tells flags = all_told g kinds is.tasks calls empty program.code (rules_told calls tells) is.sized is.said flags

pub nodes_opened : (g : Grammar) (nodes flags : List Bool) → AreNodeRules g nodes → TellsNodes g.rules nodes flags → (r : ℕ) (rule : Rule) →
    slice_get g.rules r ≡ Some rule → OpensNode g rule ↔ IsFlagged flags r
nodes_opened g nodes flags are tells r rule there =
    let told = tells r rule there in
    let makes = are.exact r rule there in
    (λ (is, opens). told.1 (is, makes.0 opens), λ flagged. let (is, set) = told.0 flagged in (is, makes.1 set))
