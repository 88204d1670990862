use Rattle.std.proofs.Common.{ℕ, MatchOption, sym, ap, ◌∙◌, subst, position, bytes_eq}
use Rattle.lw_grammar.specs.Kinds.{IsKeywordKind}
use Rattle.lw_kinds.proofs.FirstTexts.{texts_of}
use Rattle.lw_kinds.proofs.TerminalNumbers.{keyword_found, keyword_missed}
use Rattle.lw_kinds.proofs.kind_table.KindTable.keyword.Goals as goal

pub returns-in_err-number : goal.returns-in_err-number
returns-in_err-number c g kinds are were =
    let text = c.args.text.now in
    let row = c.args.self.now in
    subst (λ r. MatchOption r ((k : ℕ) → ¬ IsKeywordKind kinds text k) (λ id. IsKeywordKind kinds text id.0)) (sym c.from_residual.ensures)
    (keyword_missed g row are kinds were text
    (ap (λ row. position (bytes_eq text) (texts_of row.keywords)) (sym c.self.view_is) ∙ sym c.in_err-number.ensures.index))

pub returns : goal.returns
returns c g kinds are were =
    let text = c.args.text.now in
    let row = c.args.self.now in
    keyword_found g row are kinds were text c.in_ok-number.number
    (ap (λ row. position (bytes_eq text) (texts_of row.keywords)) (sym c.self.view_is) ∙ sym c.in_ok-number.ensures.index)
