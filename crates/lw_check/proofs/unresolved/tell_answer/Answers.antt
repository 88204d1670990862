use Rattle.std.proofs.Common.{List, ℕ, refl, sym, ap, ◌∙◌}
use Rattle.std.proofs.lemmas.Option.{same_Some}
use Rattle.lw_link_rules.specs.TreeDiagnostics.{unresolved_at}
use Rattle.lw_check.specs.Telling.{TellsAnswer}
use Rattle.lw_check.proofs.Once.{told_once}
use Rattle.lw_check.proofs.unresolved.tell_answer.Goals as goal

pub returns-in_ok-push-in-Missing : goal.returns-in_ok-push-in-Missing
returns-in_ok-push-in-Missing c g types =
    let r = c.args.reference.now in
    let type : List ℕ = c.type_name-wanted.result.now in
    let numbered = c.type_name-wanted.ensures g types in
    told_once {P = TellsAnswer g c.args.answer r} c.args.diagnostics.now.items c.push.new.self.items c.in_ok-diagnostic-in-Missing.diagnostic (unresolved_at r.span type r.name)
    c.in_ok-push-in-Missing.ensures.items c.in_ok-diagnostic-in-Missing.ensures (c.in-Missing.is, record { type = type; numbered = numbered; is = refl })
    (λ e tells. tells.1.is ∙ ap (λ (t : List ℕ). unresolved_at r.span t r.name) (same_Some tells.1.type type (sym tells.1.numbered ∙ numbered)))
