-- Too many kinds, or too many terminals among them, by counts that are known.
use Rattle.std.proofs.Common.{◌≡◌, ℕ, ◌+◌, ◌<◌, ◌≤◌, length, sym, subst, arith}
use Rattle.lw_kinds.specs.Rows.{KindRow}
use Rattle.lw_terminals.specs.declared.fault.TheConstants.{MOST_KINDS, MOST_TERMINALS}
use Rattle.lw_terminals.specs.Limits.{count_of_kinds, AreTooMany}
use Rattle.lw_terminals.specs.Limits as limit

pub too_many_kinds : (row : KindRow) (keywords terminals : ℕ) → keywords ≡ length row.keywords → terminals ≡ length row.terminals → MOST_KINDS < keywords + terminals →
    AreTooMany row (keywords + terminals)
too_many_kinds row keywords terminals words places over =
    let all : count_of_kinds row ≡ keywords + terminals = omega (arith, words, places) in
    subst (AreTooMany row) all (limit.kinds (omega (arith, all, over)))

pub too_many_terminals : (row : KindRow) (keywords terminals : ℕ) → keywords ≡ length row.keywords → terminals ≡ length row.terminals →
    keywords + terminals ≤ MOST_KINDS → MOST_TERMINALS < terminals → AreTooMany row terminals
too_many_terminals row keywords terminals words places few over =
    subst (AreTooMany row) (sym places) (limit.terminals (omega (arith, words, places, few)) (omega (arith, places, over)))
