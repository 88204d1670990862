use Rattle.std.proofs.Common.{◌≡◌, ◌∙◌, sym, subst, true, false, IfOk}
use Rattle.std.proofs.lemmas.Bool.{false_from_ne_true}
use Rattle.std.proofs.lemmas.Result.{IfOk-weaker}
use Rattle.std.proofs.lemmas.Str.{IsUtf8-from_is_utf8, is_utf8-from_IsUtf8}
use Rattle.std.specs.Str.{is_utf8}
use Rattle.lw_rpc.specs.Causes.{IsMessage}
use Rattle.lw_rpc.specs.Messages.{message_of}
use Rattle.lw_rpc.specs.declared.message.Message.TheVariants.{BadJson}
use Rattle.lw_rpc.proofs.CauseLemmas.{IsMessage-message_of, message_of-IsMessage, message_of-text, message_of-no_text}
use Rattle.lw_rpc.proofs.reading.read_message.Goals as goal

pub returns-in-Err : goal.returns-in-Err
returns-in-Err c =
    let no_text : is_utf8 c.args.body.now ≡ false = false_from_ne_true _ (λ t. c.in-Err.ensures.cases.0 (IsUtf8-from_is_utf8 _ t)) in
    let same : BadJson ≡ message_of c.args.body.now = sym (message_of-no_text _ no_text) in
    record {
      message = same;
      rule = subst (IsMessage c.args.body.now) (sym same) (IsMessage-message_of c.args.body.now);
      only = λ other is. same ∙ message_of-IsMessage c.args.body.now other is;
    }

pub returns-in-Ok : goal.returns-in-Ok
returns-in-Ok c =
    let is_text : is_utf8 c.args.body.now ≡ true = is_utf8-from_IsUtf8 _ c.in-Ok.ensures.cases.1 in
    let same : IfOk c.text_message.result (λ message. message ≡ message_of c.args.body.now) =
    rw (message_of-text _ is_text, ← c.in-Ok.ensures.cases.0) c.text_message.ensures in
    record {
      message = same;
      rule = IfOk-weaker c.text_message.result _ _ (λ message e. subst (IsMessage c.args.body.now) (sym e) (IsMessage-message_of c.args.body.now)) same;
      only = λ other is. IfOk-weaker c.text_message.result _ _ (λ message e. e ∙ message_of-IsMessage c.args.body.now other is) same;
    }
