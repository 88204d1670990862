-- Each token can stand, or one is the first that cannot.
use Rattle.std.proofs.Common.{MatchOption, subst}
use Rattle.lw_parse.specs.Outcomes.{CanStand, IsFirstImpossible}
use Rattle.lw_parse.proofs.parser.Parser.fault.Goals as goal

pub returns-in-Ok-None : goal.returns-in-Ok-None
returns-in-Ok-None c = λ g kinds k is supplied all not.
    let tokens = c.args.tokens.now in
    record {
      follows = subst (λ found. MatchOption found (CanStand g kinds tokens) (λ first. IsFirstImpossible g kinds tokens first.0 first.1)) c.in-Ok-None.field-0-is
          (c.in-Ok-None.ensures g kinds k is supplied all);
      not_whole = not;
    }

pub returns-in-Ok-Some : goal.returns-in-Ok-Some
returns-in-Ok-Some c = λ g kinds k is supplied all not.
    let tokens = c.args.tokens.now in
    subst (λ found. MatchOption found (CanStand g kinds tokens) (λ first. IsFirstImpossible g kinds tokens first.0 first.1)) c.in-Ok-Some.field-0-is
    (c.in-Ok-Some.ensures g kinds k is supplied all)
