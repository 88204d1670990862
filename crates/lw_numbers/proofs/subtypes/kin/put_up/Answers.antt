use Rattle.std.proofs.Common.{◌≡◌, ◌↔◌, sym, ap, subst}
use Rattle.lw_grammar.specs.Leaves.{Leaf, Call}
use Rattle.lw_numbers.specs.Parts.{leaf_of}
use Rattle.lw_numbers.specs.Kin.{Kin, RulePutsUp, PutsUp}
use Rattle.lw_numbers.specs.KinOf.{kin_of}
use Rattle.lw_numbers.proofs.Typing.{answers_alike, called_up}
use Rattle.lw_numbers.proofs.subtypes.kin.put_up.Goals as goal

pub returns-in-Some : goal.returns-in-Some
returns-in-Some c =
    let g = c.args.g.now in
    let number = c.in-Some.number in
    let rule = c.in-Some.rule.now in
    let name = c.in-Call.name.now in
    let is : leaf_of c.args.leaf.now ≡ Call name c.in-Call.field-1 = ap leaf_of c.in-Call.is in
    let same = λ (from : Kin). called_up g name c.in-Call.field-1 number rule c.in-Some.ensures from in
    answers_alike kin_of (RulePutsUp g number rule) (PutsUp g (leaf_of c.args.leaf.now))
    (subst (λ (l : Leaf). (from : Kin) → RulePutsUp g number rule from ↔ PutsUp g l from) (sym is) same) c.put_up_by_rule.result (c.put_up_by_rule.ensures g)
