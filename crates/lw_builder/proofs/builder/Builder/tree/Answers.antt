use Rattle.std.proofs.Common.{Option, ◌∙◌, subst, ap}
use Rattle.std.specs.Prelude.{IfOk}
use Rattle.lw_base.specs.declared.numbers.PropId.{PropId}
use Rattle.lw_tree.specs.Parts.{SameTables}
use Rattle.lw_reading.specs.Trees.{parts_of_tree}
use Rattle.lw_program.specs.Making.{RecipeLists}
use Rattle.lw_builder.specs.Steps.{IsClosing}
use Rattle.lw_builder.proofs.builder.Builder.tree.Goals as goal

pub in_preorder-requires-clause-tables : goal.in_preorder-requires-clause-tables
in_preorder-requires-clause-tables c =
    let r = c.requires.closes in
    let closing : IsClosing r.0 c.args.self r.3 =
    record { brackets = r.2; over = record { recipes = r.4.recipes; parts = r.4.parts; within = r.4.within }; stands = r.4.stands; closes = r.5 } in
    let h = c.in_ok-close.ensures.closed r.0 r.3 closing in
    (r.3, record { nodes = h.finished; values = h.stored; refs = h.refs })

pub returns : goal.returns
returns c = λ g m bs x followed closes.
    let closing : IsClosing g c.args.self x =
    record { brackets = bs; over = record { recipes = followed.recipes; parts = followed.parts; within = followed.within }; stands = followed.stands; closes = closes } in
    let h = c.in_ok-close.ensures.closed g x closing in
    let made = c.in_preorder.ensures x (record { nodes = h.finished; values = h.stored; refs = h.refs }) in
    subst (λ (n : Option PropId). IfOk c.in_preorder.result (λ tree. SameTables tree (parts_of_tree x c.args.tokens.items n)))
    (c.name-name.ensures ∙ ap (λ (l : RecipeLists). l.naming) c.in_ok-close.ensures.reading.over.recipes) made
