use Rattle.lw_conversation.specs.Closing.{ClosesDocument}
use Rattle.lw_conversation.specs.Effects as effect
use Rattle.lw_rpc.specs.declared.message.Message.TheVariants.{DidClose}
use Rattle.lw_session.proofs.Answers.{by_reads, closes}
use Rattle.lw_session.proofs.Handling.{cut_in_message, error_there}
use Rattle.lw_session.proofs.closing.close.Goals as goal

pub returns-in_err-replies-clause-cut_short : goal.returns-in_err-replies-clause-cut_short
returns-in_err-replies-clause-cut_short g c =
    let v = c.args.workspace.now in
    let address = c.args.address.now in
    error_there c.from_residual.result _
    (cut_in_message v c.close_document-replies.new.workspace c.args.phase (DidClose address) (closes c.args.phase c.requires address) c.agrees.ensures.agrees
    c.agrees-2.ensures.agrees c.in_err-replies.ensures.setting (λ m. ClosesDocument v.setting m address) (λ asked n replies does. effect.closes does)
    c.in_err-replies.ensures.lost)

pub returns-clause-answered : goal.returns-clause-answered
returns-clause-answered g c =
    let v = c.args.workspace.now in
    let address = c.args.address.now in
    by_reads (g.F.Store.files c.args.store.now) (g.F.Store.count c.args.store.now) (g.F.Store.count c.close_document-replies.new.store) v
    c.close_document-replies.new.workspace c.args.phase c.requires (DidClose address) (closes c.args.phase c.requires address) (λ m. ClosesDocument v.setting m address)
    (λ asked n replies does. effect.closes does) c.agrees.ensures.agrees c.in_ok-replies.field-0 c.in_ok-replies.ensures.closes
