use Rattle.std.proofs.Common.{◌≡◌, ◌++◌, false, length, take, sym, ap, ◌∙◌, subst, arith}
use Rattle.std.proofs.Math.Seq.{take-length}
use Rattle.lw_base.specs.declared.token.Token.{Token as AToken}
use Rattle.lw_tokens.specs.Cut.{kinds, visible}
use Rattle.lw_viable.specs.Fronts.{HoldReadings}
use Rattle.lw_parse.proofs.ReadKinds.{kinds_more}
use Rattle.lw_parse.proofs.opened.reading.read.Goals as goal

abbrev no_token : AToken
no_token = record { kind = record { 0 = 0 }; span = record { start = 0; end = 0 }; hidden = false }

pub step-requires : goal.step-requires
step-requires c =
    let (g, of, tasks, aim, ks, hold, are) = c.requires in
    let i = c.tokens.token-index in
    record { known = (g, of, tasks, aim, ks ++ kinds (visible (take i c.args.tokens.now)), c.tokens.invariant g of tasks aim ks hold are, are i no_token c.tokens-test.true) }

pub tokens-preserved : goal.tokens-preserved
tokens-preserved c g of tasks aim ks hold are =
    let i = c.tokens.token-index in
    let tokens = c.args.tokens.now in
    subst (λ ls. HoldReadings g of tasks aim ls c.step.new.self) (sym (kinds_more ks tokens i no_token c.tokens-test.true))
    (c.in_ok-step.ensures.readings g of tasks aim (ks ++ kinds (visible (take i tokens))) (c.tokens.invariant g of tasks aim ks hold are)
    (are i no_token c.tokens-test.true))

pub returns : goal.returns
returns c g of tasks aim ks hold are =
    let tokens = c.args.tokens.now in
    let end : c.tokens.token-index ≡ length tokens = omega (arith, c.tokens-test.false, c.tokens.auto.token-index-end) in
    subst (λ ts. HoldReadings g of tasks aim (ks ++ kinds (visible ts)) c.tokens.fronts) (ap (λ n. take n tokens) end ∙ take-length tokens)
    (c.tokens.invariant g of tasks aim ks hold are)
