use Rattle.std.proofs.Common.{◌+◌, ◌++◌, ℕ, Some, codes, decimal, option_map, ap, ap₂, ◌∙◌}
use Rattle.std.proofs.lemmas.Result.{IfOk-weaker}
use Rattle.lw_docs.specs.Documents.{Numbered}
use Rattle.lw_session.proofs.renaming.rebound_text.Goals as goal

pub returns : goal.returns
returns c =
    let (held, here, text) = c.in-Some.ensures in
    IfOk-weaker c.rebound_line.result _ _
    (λ told is. record {
      text = c.in-Some.text.now;
      there = ap (option_map (λ (h : Numbered). h.doc.text)) here ∙ ap (λ t. Some t) text;
      at = c.position-at.result;
      begins = c.position-at.ensures;
      says = is
          ∙ ap₂ (λ (l : ℕ) (r : ℕ).
          codes "A reference in " ++ c.args.uri.now ++ codes " at " ++ decimal l ++ codes ":" ++ decimal r ++ codes " would change its target.")
          (ap (λ n. n + 1) c.from.ensures) (ap (λ n. n + 1) c.from-2.ensures);
    })
    c.rebound_line.ensures
