-- Whether an operator is `?=`, as it is tested.
use Rattle.std.proofs.Common.{◌≡◌, ◌≢◌, true, false, refl, sym, true≢false}
use denote.Enum.Bare.{sameb}
use Rattle.lw_grammar.specs.contracts.rule.Op as the_op
use Rattle.lw_grammar.specs.declared.rule.Op.{Op}
use Rattle.lw_grammar.specs.declared.rule.Op.TheVariants.{One, Add, Flag}

pub is_flag : (op : Op) → true ≡ sameb the_op.the_type op Flag → op ≡ Flag
is_flag One is = absurd (true≢false is)
is_flag Add is = absurd (true≢false is)
is_flag Flag is = refl

pub no_flag : (op : Op) → false ≡ sameb the_op.the_type op Flag → op ≢ Flag
no_flag One is = λ same. cc
no_flag Add is = λ same. cc
no_flag Flag is = absurd (true≢false (sym is))
