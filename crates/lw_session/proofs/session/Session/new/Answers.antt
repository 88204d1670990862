use Rattle.std.proofs.Common.{ap, ◌∙◌}
use Rattle.lw_build.specs.View.{documents_of}
use Rattle.lw_machine.specs.Documents.{Documents}
use Rattle.lw_conversation.specs.Standing.{unborn}
use Rattle.lw_docs.specs.Documents.{ByAddress}
use Rattle.lw_session.proofs.Known.{none_kept}
use Rattle.lw_session.proofs.session.Session.new.Goals as goal

pub returns-clause-standing : goal.returns-clause-standing
returns-clause-standing c =
    ap (λ (m : Documents). record { documents = m; phase = unborn })
    (ap (λ (kept : ByAddress). documents_of c.new.result.is_built kept) c.new.ensures.empty ∙ none_kept c.new.result.is_built)
