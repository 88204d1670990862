use Rattle.std.proofs.Common.{◌+◌, length, sym, subst, true≢false}
use Rattle.std.proofs.lemmas.Bool.{eqb-true, eq-eqb}
use Rattle.lw_grammar.specs.Named.{IsTerminal, declared_terminal, declared_rule}
use Rattle.lw_grammar.proofs.FirstLemmas.{first_place}
use Rattle.lw_grammar.proofs.Meaning.{one_of_two}
use Rattle.lw_numbers.specs.Numbering as numbering
use Rattle.lw_types.proofs.naming.names.KnownNames.means_terminal.Goals as goal

pub returns-in-Terminal : goal.returns-in-Terminal
returns-in-Terminal c =
    let g = c.args.self.now.g.now in (
      λ told. (c.in-Terminal.field-1.now, subst (λ n. IsTerminal g c.args.name.now n c.in-Terminal.field-1.now) (eqb-true c.in-Terminal.place c.args.i told) c.in-Terminal.ensures),
      λ (x, is). eq-eqb c.in-Terminal.place c.args.i (first_place c.in-Terminal.ensures.first is.first),
    )

pub returns-in-Rule : goal.returns-in-Rule
returns-in-Rule c =
    let g = c.args.self.now.g.now in (
      λ told. absurd (true≢false (sym told)),
      λ (x, is). absurd (one_of_two declared_terminal declared_rule c.args.name.now g.terminals g.rules c.args.i c.in-Rule.field-0 x c.in-Rule.field-1.now is c.in-Rule.ensures),
    )

pub returns-in-Nothing : goal.returns-in-Nothing
returns-in-Nothing c =
    let g = c.args.self.now.g.now in
    (λ told. absurd (true≢false (sym told)), λ (x, is). absurd (c.in-Nothing.ensures (length g.rules + c.args.i) (numbering.terminal c.args.i x is)))
