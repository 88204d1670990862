use Rattle.std.proofs.Common.{◌≡◌, ℕ, List, subst, ◌∙◌}
use Rattle.std.proofs.lemmas.Result.{IfOk-weaker}
use Rattle.lw_text.specs.declared.shown.Shown.{Shown}
use Rattle.lw_link_rules.specs.Faults as fault
use Rattle.lw_link_rules.specs.Faults.{IsShownAt}
use Rattle.lw_check.proofs.document.issue_diagnostic.Goals as goal

-- what is shown with a message is shown with an equal one
shown_as : (text message said : List ℕ) (from to code : ℕ) (shown : Shown) → message ≡ said → IsShownAt text from to code message shown → IsShownAt text from to code said shown
shown_as text message said from to code shown says is = subst (λ m. IsShownAt text from to code m shown) says is

pub returns-in_ok-message-in-Lexical : goal.returns-in_ok-message-in-Lexical
returns-in_ok-message-in-Lexical c g are =
    rw c.in-Lexical.is (fault.lexical (shown_as _ _ _ _ _ _ _ c.in_ok-message-in-Lexical.ensures c.issue_shown.ensures))

pub returns-in_ok-message-in-Syntax : goal.returns-in_ok-message-in-Syntax
returns-in_ok-message-in-Syntax c g are =
    let says : c.from_string.result ≡ fault.unexpected c.kind_text-kind.result.now = c.from_string.ensures ∙ c.in_ok-message-in-Syntax.ensures.ok in
    rw c.in-Syntax.is
    (fault.syntax_ c.kind_text-kind.result.now (c.args.tokens.now.texts, are, c.kind_text-kind.ensures) (shown_as _ _ _ _ _ _ _ says c.issue_shown-in-Syntax.ensures))

pub returns-in_ok-message-in-End : goal.returns-in_ok-message-in-End
returns-in_ok-message-in-End c g are = rw c.in-End.is (fault.end_ (shown_as _ _ _ _ _ _ _ c.in_ok-message-in-End.ensures c.issue_shown-in-End.ensures))

pub returns-in-TooLarge : goal.returns-in-TooLarge
returns-in-TooLarge c g are = rw c.in-TooLarge.is (IfOk-weaker c.too_large.result _ _ (λ shown is. rw is fault.too_large) c.too_large.ensures)
