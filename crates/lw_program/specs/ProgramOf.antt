-- The program of a grammar: at each place stands what its task says, and each rule that can be reached has a start.
use Rattle.std.specs.Prelude.{ℕ, ◌≡◌, ◌+◌, ◌<◌, List, Option, Some, None, false, slice_get, length}
use Rattle.lw_grammar.specs.declared.grammar.Grammar.{Grammar}
use Rattle.lw_grammar.specs.declared.rule.Rule.{Rule}
use Rattle.lw_grammar.specs.Kinds.{Kinds}
use Rattle.lw_grammar.specs.Nodes.{MakesNodes}
use Rattle.lw_grammar.specs.Reached.{IsReached}
use Rattle.lw_grammar.specs.Marks as mark
use Rattle.lw_look.specs.Sites.{body}
use Rattle.lw_look.specs.Things.{Leave}
use Rattle.lw_program.specs.declared.instr.Instr.{Instr}
use Rattle.lw_program.specs.Says.{Task, Does, thing_of, SaidAt}

-- instructions, and by the number of a rule the place of its body
pub record ProgramParts : Type 0 where
  pub code : List Instr
  pub starts : List (Option ℕ)

module _ (g : Grammar) (kinds : Kinds) where
  -- at the place stands the body of the rule, and behind it the end of its node where it makes one
  pub record StartsRuleAt (tasks : List Task) (r : ℕ) (rule : Rule) (start : ℕ) : Type 0 where
    pub whole : slice_get tasks start ≡ Some (thing_of (body r) rule.body)
    pub shut : rule.is_fragment ≡ false → MakesNodes g rule → slice_get tasks (start + 1) ≡ Some (Does (Leave mark.Shut))

  pub record IsProgramOf (program : ProgramParts) : Type 0 where
    pub tasks : List Task
    pub sized : length tasks ≡ length program.code
    pub said : (p : ℕ) → p < length program.code → SaidAt g kinds tasks program.code p
    pub all : length program.starts ≡ length g.rules
    pub reached : (r : ℕ) (rule : Rule) → IsReached g r → slice_get g.rules r ≡ Some rule →
        (start : ℕ) × (slice_get program.starts r ≡ Some (Some start)) × StartsRuleAt tasks r rule start
    pub others : (r : ℕ) → r < length g.rules → ¬ IsReached g r → slice_get program.starts r ≡ Some None
