use Rattle.std.proofs.Common.{sym, ap, ◌∙◌, subst}
use Rattle.lw_grammar.specs.declared.rule.Value0.{out-Value0}
use Rattle.lw_grammar.specs.declared.rule.Value0.TheViews.{outs-Keyword, outs-Call, outs-Cross}
use Rattle.lw_program.specs.Drafted.{IsContentOf}
use Rattle.lw_program.specs.declared.recipes.recipe.Content.TheVariants.{Keyword}
use Rattle.lw_program.proofs.Contents.{truth_content, keyword_content}
use Rattle.lw_program.proofs.Flags.{is_flag, no_flag}
use Rattle.lw_program.proofs.recipes.content.content_of.Goals as goal

pub returns-then-eq : goal.returns-then-eq
returns-then-eq c = truth_content c.args.lexicon.g.now c.args.op c.args.value.now (is_flag c.args.op c.if-eq.ensures)

pub returns-in_ok-copy-in-Keyword : goal.returns-in_ok-copy-in-Keyword
returns-in_ok-copy-in-Keyword c =
    let g = c.args.lexicon.g.now in
    let v = c.args.value.now in
    let at = c.in-Keyword in
    subst (λ word. IsContentOf g c.args.op v (Keyword word)) (sym c.in_ok-copy-in-Keyword.ensures)
    (keyword_content g c.args.op v at.text at.field-1 (no_flag c.args.op c.if-eq.ensures) (ap out-Value0 at.is ∙ outs-Keyword at.text at.field-1))

pub returns-in-Call : goal.returns-in-Call
returns-in-Call c =
    let at = c.in-Call in
    c.called.ensures c.args.op c.args.value.now at.field-1 (no_flag c.args.op c.if-eq.ensures) (ap out-Value0 at.is ∙ outs-Call at.name at.field-1)

pub returns-in-Cross : goal.returns-in-Cross
returns-in-Cross c =
    let at = c.in-Cross in
    c.referred.ensures c.args.op c.args.value.now at.field-2 (no_flag c.args.op c.if-eq.ensures) (ap out-Value0 at.is ∙ outs-Cross at.wanted at.written at.field-2)
