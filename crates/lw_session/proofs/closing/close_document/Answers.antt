use Rattle.std.proofs.Common.{◌≡◌, [], ◌∷◌, ◌++◌, List, refl, sym, subst, true≢false}
use Rattle.std.proofs.lemmas.Result.{IfOk-weaker}
use Rattle.lw_conversation.specs.Closing as closing
use Rattle.lw_conversation.specs.Closing.{ClosesDocument, not_text_log, too_long_log}
use Rattle.lw_rpc.specs.declared.reply.Reply.{Reply}
use Rattle.lw_session.specs.Moving.{IsFoundInStore, PutsFile, RemovesHeld}
use Rattle.lw_session.proofs.Known.{none_open}
use Rattle.lw_session.proofs.Moved.{closes_absent, closes_not_text, closes_text, closes_too_long, closes_unread, if_lost, if_moved, stays_done}
use Rattle.lw_session.proofs.closing.close_document.Goals as goal

pub returns-then-not-is_open-clause-closes : goal.returns-then-not-is_open-clause-closes
returns-then-not-is_open-clause-closes g c =
    let v = c.args.workspace.now in
    let address = c.args.address.now in
    let count = g.F.Store.count c.args.store.now in
    IfOk-weaker c.logs.result _ _
    (λ replies is.
    stays_done (g.F.Store.files c.args.store.now) count count v (λ m. ClosesDocument v.setting m address) replies refl
    (λ m agrees.
    subst (ClosesDocument v.setting m address [] m) (sym is)
    (closing.unknown (none_open v m agrees address (λ here. true≢false (sym (c.if-not-is_open.ensures.1 here)))))))
    c.logs.ensures

pub returns-in-Text-clause-closes : goal.returns-in-Text-clause-closes
returns-in-Text-clause-closes g c =
    let v = c.args.workspace.now in
    let address = c.args.address.now in
    let files = g.F.Store.files c.args.store.now in
    let before = g.F.Store.count c.args.store.now in
    let now = g.F.Store.count c.find_file.new.store in
    let text = c.in-Text.text in
    let here = c.if-not-is_open.ensures.0 refl in
    let is = subst (IsFoundInStore files before now address) c.in-Text.is c.in_ok-text.ensures.found in
    if_moved c.put_file.result files before now v (λ m. ClosesDocument v.setting m address) address _ is c.put_file.new.workspace
    (λ m n replies. PutsFile m address text n replies)
    (λ m n replies agrees puts. closes_text v address here.0 here.1 here.2 m agrees is.asked text n replies is.finds puts) c.put_file.ensures.put

pub returns-in-Absent-clause-closes : goal.returns-in-Absent-clause-closes
returns-in-Absent-clause-closes g c =
    let v = c.args.workspace.now in
    let address = c.args.address.now in
    let files = g.F.Store.files c.args.store.now in
    let before = g.F.Store.count c.args.store.now in
    let now = g.F.Store.count c.find_file.new.store in
    let here = c.if-not-is_open.ensures.0 refl in
    let is = subst (IsFoundInStore files before now address) c.in-Absent.is c.in_ok-text.ensures.found in
    if_moved c.remove_document.result files before now v (λ m. ClosesDocument v.setting m address) address _ is c.remove_document.new.workspace
    (λ m n replies. RemovesHeld v.setting m address n replies)
    (λ m n replies agrees removes. closes_absent v address here.0 here.1 here.2 m agrees is.asked n replies is.finds removes) c.remove_document.ensures.removed

pub returns-in-Absent-clause-lost : goal.returns-in-Absent-clause-lost
returns-in-Absent-clause-lost g c =
    let v = c.args.workspace.now in
    let address = c.args.address.now in
    let files = g.F.Store.files c.args.store.now in
    let before = g.F.Store.count c.args.store.now in
    let now = g.F.Store.count c.find_file.new.store in
    let here = c.if-not-is_open.ensures.0 refl in
    let is = subst (IsFoundInStore files before now address) c.in-Absent.is c.in_ok-text.ensures.found in
    if_lost c.remove_document.result v c.remove_document.new.workspace (λ m n. (replies : List Reply) × RemovesHeld v.setting m address n replies)
    (λ m. ClosesDocument v.setting m address)
    (λ m n agrees left. (is.asked, left.0, closes_absent v address here.0 here.1 here.2 m agrees is.asked n left.0 is.finds left.1)) c.remove_document.ensures.lost

pub returns-in-NotUtf8-clause-closes : goal.returns-in-NotUtf8-clause-closes
returns-in-NotUtf8-clause-closes g c =
    let v = c.args.workspace.now in
    let address = c.args.address.now in
    let files = g.F.Store.files c.args.store.now in
    let before = g.F.Store.count c.args.store.now in
    let now = g.F.Store.count c.find_file.new.store in
    let here = c.if-not-is_open.ensures.0 refl in
    let is = subst (IsFoundInStore files before now address) c.in-NotUtf8.is c.in_ok-text.ensures.found in
    if_moved c.remove_and_log.result files before now v (λ m. ClosesDocument v.setting m address) address _ is c.remove_and_log.new.workspace
    (λ m n replies. (first : List Reply) × RemovesHeld v.setting m address n first × (replies ≡ first ++ not_text_log address ∷ []))
    (λ m n replies agrees told.
    subst (ClosesDocument v.setting m address is.asked n) (sym told.2)
    (closes_not_text v address here.0 here.1 here.2 m agrees is.asked n told.0 is.finds told.1))
    c.remove_and_log.ensures.removed

pub returns-in-NotUtf8-clause-lost : goal.returns-in-NotUtf8-clause-lost
returns-in-NotUtf8-clause-lost g c =
    let v = c.args.workspace.now in
    let address = c.args.address.now in
    let files = g.F.Store.files c.args.store.now in
    let before = g.F.Store.count c.args.store.now in
    let now = g.F.Store.count c.find_file.new.store in
    let here = c.if-not-is_open.ensures.0 refl in
    let is = subst (IsFoundInStore files before now address) c.in-NotUtf8.is c.in_ok-text.ensures.found in
    if_lost c.remove_and_log.result v c.remove_and_log.new.workspace (λ m n. (replies : List Reply) × RemovesHeld v.setting m address n replies)
    (λ m. ClosesDocument v.setting m address)
    (λ m n agrees left. (
      is.asked,
      left.0 ++ not_text_log address ∷ [],
      closes_not_text v address here.0 here.1 here.2 m agrees is.asked n left.0 is.finds left.1,
    ))
    c.remove_and_log.ensures.lost

pub returns-in-TooLong-clause-closes : goal.returns-in-TooLong-clause-closes
returns-in-TooLong-clause-closes g c =
    let v = c.args.workspace.now in
    let address = c.args.address.now in
    let files = g.F.Store.files c.args.store.now in
    let before = g.F.Store.count c.args.store.now in
    let now = g.F.Store.count c.find_file.new.store in
    let here = c.if-not-is_open.ensures.0 refl in
    let is = subst (IsFoundInStore files before now address) c.in-TooLong.is c.in_ok-text.ensures.found in
    if_moved c.remove_and_log-in-TooLong.result files before now v (λ m. ClosesDocument v.setting m address) address _ is c.remove_and_log-in-TooLong.new.workspace
    (λ m n replies. (first : List Reply) × RemovesHeld v.setting m address n first × (replies ≡ first ++ too_long_log address ∷ []))
    (λ m n replies agrees told.
    subst (ClosesDocument v.setting m address is.asked n) (sym told.2)
    (closes_too_long v address here.0 here.1 here.2 m agrees is.asked n told.0 is.finds told.1))
    c.remove_and_log-in-TooLong.ensures.removed

pub returns-in-TooLong-clause-lost : goal.returns-in-TooLong-clause-lost
returns-in-TooLong-clause-lost g c =
    let v = c.args.workspace.now in
    let address = c.args.address.now in
    let files = g.F.Store.files c.args.store.now in
    let before = g.F.Store.count c.args.store.now in
    let now = g.F.Store.count c.find_file.new.store in
    let here = c.if-not-is_open.ensures.0 refl in
    let is = subst (IsFoundInStore files before now address) c.in-TooLong.is c.in_ok-text.ensures.found in
    if_lost c.remove_and_log-in-TooLong.result v c.remove_and_log-in-TooLong.new.workspace (λ m n. (replies : List Reply) × RemovesHeld v.setting m address n replies)
    (λ m. ClosesDocument v.setting m address)
    (λ m n agrees left. (
      is.asked,
      left.0 ++ too_long_log address ∷ [],
      closes_too_long v address here.0 here.1 here.2 m agrees is.asked n left.0 is.finds left.1,
    ))
    c.remove_and_log-in-TooLong.ensures.lost

pub returns-in-Failed-clause-closes : goal.returns-in-Failed-clause-closes
returns-in-Failed-clause-closes g c =
    let v = c.args.workspace.now in
    let address = c.args.address.now in
    let files = g.F.Store.files c.args.store.now in
    let before = g.F.Store.count c.args.store.now in
    let now = g.F.Store.count c.find_file.new.store in
    let here = c.if-not-is_open.ensures.0 refl in
    let is = subst (IsFoundInStore files before now address) c.in-Failed.is c.in_ok-text.ensures.found in
    closes_unread c.set_closed_and_log.result files before now v c.set_closed_and_log.new.workspace address here.0 here.1 here.2 is c.set_closed_and_log.ensures.told
    c.set_closed_and_log.ensures.closed
