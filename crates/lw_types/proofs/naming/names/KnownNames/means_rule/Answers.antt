use Rattle.std.proofs.Common.{sym, subst, true≢false}
use Rattle.std.proofs.lemmas.Bool.{eqb-true, eq-eqb}
use Rattle.lw_grammar.specs.Named.{IsRule, declared_rule, declared_terminal}
use Rattle.lw_grammar.proofs.FirstLemmas.{first_place}
use Rattle.lw_grammar.proofs.Meaning.{one_of_two}
use Rattle.lw_numbers.specs.Numbering as numbering
use Rattle.lw_types.proofs.naming.names.KnownNames.means_rule.Goals as goal

pub returns-in-Rule : goal.returns-in-Rule
returns-in-Rule c =
    let g = c.args.self.now.g.now in (
      λ told. (c.in-Rule.field-1.now, subst (λ n. IsRule g c.args.name.now n c.in-Rule.field-1.now) (eqb-true c.in-Rule.place c.args.i told) c.in-Rule.ensures),
      λ (x, is). eq-eqb c.in-Rule.place c.args.i (first_place c.in-Rule.ensures.first is.first),
    )

pub returns-in-Terminal : goal.returns-in-Terminal
returns-in-Terminal c =
    let g = c.args.self.now.g.now in (
      λ told. absurd (true≢false (sym told)),
      λ (x, is). absurd (one_of_two declared_rule declared_terminal c.args.name.now g.rules g.terminals c.args.i c.in-Terminal.field-0 x c.in-Terminal.field-1.now is c.in-Terminal.ensures),
    )

pub returns-in-Nothing : goal.returns-in-Nothing
returns-in-Nothing c =
    let g = c.args.self.now.g.now in
    (λ told. absurd (true≢false (sym told)), λ (x, is). absurd (c.in-Nothing.ensures c.args.i (numbering.rule_ c.args.i x is)))
