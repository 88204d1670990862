use Rattle.std.proofs.Common.{ℕ, [], subst, sym}
use Rattle.lw_grammar.specs.Named.{IsEntry}
use Rattle.lw_viable.specs.Aims.{Sentence}
use Rattle.lw_parse.proofs.Lent.{lent}
use Rattle.lw_parse.proofs.opened.reading.read_front.Goals as goal

pub start-requires : goal.start-requires
start-requires c =
    let (g, of, tasks, rule, with, entry, are) = c.requires in
    record { known = (g, of, tasks, rule, lent c.program.ensures c.begins.ensures with, subst (λ (n : ℕ). IsEntry g n rule) (sym c.entry.ensures) entry) }

pub read-requires : goal.read-requires
read-requires c =
    let (g, of, tasks, rule, with, entry, are) = c.requires in
    let started = c.in_ok-fronts.ensures g of tasks rule (lent c.program.ensures c.begins.ensures with) (subst (λ (n : ℕ). IsEntry g n rule) (sym c.entry.ensures) entry) in
    (g, of, tasks, Sentence, [], started, are)

pub returns : goal.returns
returns c g of tasks rule with entry are =
    let started = c.in_ok-fronts.ensures g of tasks rule (lent c.program.ensures c.begins.ensures with) (subst (λ (n : ℕ). IsEntry g n rule) (sym c.entry.ensures) entry) in
    c.read.ensures g of tasks Sentence [] started are
