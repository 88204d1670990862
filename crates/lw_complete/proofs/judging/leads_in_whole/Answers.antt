use Rattle.std.proofs.Common.{◌+◌, ◌++◌, ℕ, List, IfOk, length, subst}
use Rattle.std.proofs.lemmas.Result.{IfOk-weaker}
use Rattle.lw_reading.specs.Reading.{Reads}
use Rattle.lw_reading.specs.declared.parsed.Parsed.TheVariants.{Broken, Whole}
use Rattle.lw_complete.specs.Judged.{IsJudgement, IsToldOf}
use Rattle.lw_complete.specs.Typing.{grammar_of}
use Rattle.lw_complete.proofs.JudgedTrees.{judged, judged_broken}
use Rattle.lw_complete.proofs.judging.leads_in_whole.Goals as goal

pub returns-in-Whole : goal.returns-in-Whole
returns-in-Whole c trees address one_way among =
    let typing = c.args.typing.now in
    let g = grammar_of typing in
    let front = typing.front.now in
    let name = c.args.name.now in
    let tree = c.in-Whole.tree in
    let reads : Reads g (front ++ name ++ typing.rest.now) (Whole tree) =
    subst (λ (text : List ℕ). Reads g text (Whole tree)) c.in_ok-text.ensures
    (subst (Reads g c.in_ok-text.text) c.in-Whole.is c.in_ok-tree.ensures.reads) in
    let told : IfOk c.leads_in.result (IsToldOf typing trees address tree (length front) (length front + length name) tree.refs) =
    subst (λ (text : List ℕ). IfOk c.leads_in.result (IsToldOf typing trees address tree (length front) (length front + length text) tree.refs)) c.bytes.ensures.bytes
    (subst (λ (text : List ℕ). IfOk c.leads_in.result (IsToldOf typing trees address tree (length text) (length text + length c.bytes.result.now) tree.refs))
    c.bytes-start.ensures.bytes (c.leads_in.ensures trees address among)) in
    IfOk-weaker c.leads_in.result (IsToldOf typing trees address tree (length front) (length front + length name) tree.refs)
    (IsJudgement typing trees address name) (judged typing one_way trees address name tree reads) told

pub returns : goal.returns
returns c trees address one_way among =
    let typing = c.args.typing.now in
    let g = grammar_of typing in
    let issue = c.in-Broken.field-0 in
    judged_broken typing one_way trees address c.args.name.now issue
    (subst (λ (text : List ℕ). Reads g text (Broken issue)) c.in_ok-text.ensures
    (subst (Reads g c.in_ok-text.text) c.in-Broken.is c.in_ok-tree.ensures.reads))
