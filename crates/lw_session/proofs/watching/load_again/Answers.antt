use Rattle.std.proofs.Common.{[], ◌∷◌, List, subst}
use Rattle.lw_conversation.specs.Closing.{failed_log, not_text_log, too_long_log}
use Rattle.lw_conversation.specs.Watching as watching
use Rattle.lw_conversation.specs.Watching.{LoadsAgain}
use Rattle.lw_rpc.specs.declared.reply.Reply.{Reply}
use Rattle.lw_session.specs.Moving.{IsFoundInStore, PutsFile, RemovesHeld}
use Rattle.lw_session.proofs.Moved.{if_lost, if_moved, if_told, loads_absent, loads_text}
use Rattle.lw_session.proofs.watching.load_again.Goals as goal

pub returns-in-Text-clause-loads : goal.returns-in-Text-clause-loads
returns-in-Text-clause-loads g c =
    let v = c.args.workspace.now in
    let address = c.args.address.now in
    let files = g.F.Store.files c.args.store.now in
    let before = g.F.Store.count c.args.store.now in
    let now = g.F.Store.count c.find_file.new.store in
    let text = c.in-Text.text in
    let is = subst (IsFoundInStore files before now address) c.in-Text.is c.in_ok-text.ensures.found in
    if_moved c.put_file.result files before now v (λ m. LoadsAgain v.setting m address) address _ is c.put_file.new.workspace
    (λ m n replies. PutsFile m address text n replies)
    (λ m n replies agrees puts. loads_text v.setting m address is.asked text n replies is.finds puts) c.put_file.ensures.put

pub returns-in-Absent-clause-loads : goal.returns-in-Absent-clause-loads
returns-in-Absent-clause-loads g c =
    let v = c.args.workspace.now in
    let address = c.args.address.now in
    let files = g.F.Store.files c.args.store.now in
    let before = g.F.Store.count c.args.store.now in
    let now = g.F.Store.count c.find_file.new.store in
    let is = subst (IsFoundInStore files before now address) c.in-Absent.is c.in_ok-text.ensures.found in
    if_moved c.remove_document.result files before now v (λ m. LoadsAgain v.setting m address) address _ is c.remove_document.new.workspace
    (λ m n replies. RemovesHeld v.setting m address n replies)
    (λ m n replies agrees removes. loads_absent v.setting m address is.asked n replies is.finds removes) c.remove_document.ensures.removed

pub returns-in-Absent-clause-lost : goal.returns-in-Absent-clause-lost
returns-in-Absent-clause-lost g c =
    let v = c.args.workspace.now in
    let address = c.args.address.now in
    let files = g.F.Store.files c.args.store.now in
    let before = g.F.Store.count c.args.store.now in
    let now = g.F.Store.count c.find_file.new.store in
    let is = subst (IsFoundInStore files before now address) c.in-Absent.is c.in_ok-text.ensures.found in
    if_lost c.remove_document.result v c.remove_document.new.workspace (λ m n. (replies : List Reply) × RemovesHeld v.setting m address n replies)
    (λ m. LoadsAgain v.setting m address)
    (λ m n agrees left. (is.asked, left.0, loads_absent v.setting m address is.asked n left.0 is.finds left.1)) c.remove_document.ensures.lost

pub returns-in-NotUtf8-clause-loads : goal.returns-in-NotUtf8-clause-loads
returns-in-NotUtf8-clause-loads g c =
    let v = c.args.workspace.now in
    let address = c.args.address.now in
    let files = g.F.Store.files c.args.store.now in
    let before = g.F.Store.count c.args.store.now in
    let now = g.F.Store.count c.find_file.new.store in
    let is = subst (IsFoundInStore files before now address) c.in-NotUtf8.is c.in_ok-text.ensures.found in
    if_told c.logs.result files before now v (λ m. LoadsAgain v.setting m address) address _ is (not_text_log address ∷ [])
    (λ m agrees. watching.not_text is.finds) c.logs.ensures

pub returns-in-TooLong-clause-loads : goal.returns-in-TooLong-clause-loads
returns-in-TooLong-clause-loads g c =
    let v = c.args.workspace.now in
    let address = c.args.address.now in
    let files = g.F.Store.files c.args.store.now in
    let before = g.F.Store.count c.args.store.now in
    let now = g.F.Store.count c.find_file.new.store in
    let is = subst (IsFoundInStore files before now address) c.in-TooLong.is c.in_ok-text.ensures.found in
    if_told c.logs-in-TooLong.result files before now v (λ m. LoadsAgain v.setting m address) address _ is (too_long_log address ∷ [])
    (λ m agrees. watching.too_long is.finds) c.logs-in-TooLong.ensures

pub returns-in-Failed-clause-loads : goal.returns-in-Failed-clause-loads
returns-in-Failed-clause-loads g c =
    let v = c.args.workspace.now in
    let address = c.args.address.now in
    let files = g.F.Store.files c.args.store.now in
    let before = g.F.Store.count c.args.store.now in
    let now = g.F.Store.count c.find_file.new.store in
    let is = subst (IsFoundInStore files before now address) c.in-Failed.is c.in_ok-text.ensures.found in
    if_told c.logs-in-Failed.result files before now v (λ m. LoadsAgain v.setting m address) address _ is (failed_log address ∷ [])
    (λ m agrees. watching.failed is.finds) c.logs-in-Failed.ensures
