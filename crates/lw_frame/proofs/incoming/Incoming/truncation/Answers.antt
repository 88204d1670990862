use Rattle.std.proofs.Common.{◌≡◌, ◌∙◌, sym, subst, ap, arith, false, Some, None, if◌then◌else◌}
use Rattle.std.proofs.lemmas.Bool.Decides.{nat_tests}
use Rattle.lw_frame.specs.Lines.{is_empty}
use Rattle.lw_frame.specs.Stage.{IsAt}
use Rattle.lw_frame.proofs.Messages.{truncated_header}
use Rattle.lw_frame.specs.declared.fault.FrameFault.TheVariants.{Truncated}
use Rattle.lw_frame.proofs.incoming.Incoming.truncation.Goals as goal

pub returns-in-Header : goal.returns-in-Header
returns-in-Header c =
    let self = c.args.self.now in
    let at = subst (λ s. IsAt s self.start self.header.items self.body.items) c.in-Header.is c.requires.read in
    let told = truncated_header self.start self.header.items self.body.items c.in-Header.line c.in-Header.given at in
    let test = c.if-not-is_empty.ensures in
    let filled : is_empty self.header.items ≡ false = grind (arith, nat_tests, test) in
    sym (told ∙ ap (λ b. if b then None else Some (Truncated 0)) filled)
