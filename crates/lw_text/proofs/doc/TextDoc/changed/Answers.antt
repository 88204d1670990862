use Rattle.std.proofs.Common.{inr, sym, subst, ◌∙◌, ◌++◌, take, drop}
use Rattle.std.proofs.lemmas.Bool.{false≢true}
use Rattle.lw_text.specs.Changes.{bad_range, IsChanged, part, whole}
use Rattle.lw_text.proofs.Making.{one_change}
use Rattle.lw_text.proofs.doc.TextDoc.changed.Goals as goal

pub returns-then-has_bad_range : goal.returns-then-has_bad_range
returns-then-has_bad_range c = inr (bad_range (c.has_bad_range.ensures.0 c.if-has_bad_range.true))

pub returns-in_default : goal.returns-in_default
returns-in_default c =
    let changed = subst (λ bytes. IsChanged c.args.enc c.args.self.now c.args.change.now bytes) (sym c.text.ensures.text) (whole c.in_default.is) in
    one_change c.args.enc c.args.self.now c.args.change.now c.args.number c.text.result.now c.from_text.result (λ bad. false≢true (sym c.if-has_bad_range.false ∙ c.has_bad_range.ensures.1 bad)) changed c.from_text.ensures.text

pub returns : goal.returns
returns c =
    let change = c.args.change.now in
    let text = c.args.self.now in
    let from = c.offset-from in
    let to = c.offset-to in
    let changed = subst (λ bytes. IsChanged c.args.enc text change (take from.result text ++ bytes ++ drop to.result text)) (sym c.text-2.ensures.text)
    (part c.in-Some.start c.in-Some.end c.in-Some.is from.ensures.offset to.ensures.offset) in
    one_change c.args.enc text change c.args.number _ c.replaced.result (λ bad. false≢true (sym c.if-has_bad_range.false ∙ c.has_bad_range.ensures.1 bad)) changed c.replaced.ensures
