use Rattle.std.proofs.Common.{inl, inr, rules}
use Rattle.lw_gramcheck.specs.Sites.{site_of}
use Rattle.lw_gramcheck.proofs.BadCallLemmas.{bad_by_rule, bad_by_terminal, bad_by_nothing}
use Rattle.lw_gramcheck.proofs.parts.bad_calls.is_bad_site.Goals as goal

pub returns-in-Rule : goal.returns-in-Rule
returns-in-Rule c =
    let g = c.args.checker.now.g.now in
    let call = site_of c.args.site.now in
    let rule = c.in-Rule.rule.now in (
      λ is. let so = c.crosses_wrongly.ensures.0 is in inr (c.in-Rule.r, rule, c.in-Rule.ensures, so.0, so.1),
      λ bad. c.crosses_wrongly.ensures.1 (bad_by_rule g call c.in-Rule.r rule c.in-Rule.ensures bad),
    )

pub returns-in-Terminal : goal.returns-in-Terminal
returns-in-Terminal c =
    let g = c.args.checker.now.g.now in
    let call = site_of c.args.site.now in
    let x = c.in-Terminal.terminal.now in (
      λ is. inl (c.in-Terminal.field-0, x, c.in-Terminal.ensures, c.is_uncallable.ensures.0 is),
      λ bad. c.is_uncallable.ensures.1 (bad_by_terminal g call c.in-Terminal.field-0 x c.in-Terminal.ensures bad),
    )

pub returns-in-Nothing : goal.returns-in-Nothing
returns-in-Nothing c =
    let g = c.args.checker.now.g.now in
    let call = site_of c.args.site.now in
    (λ is. absurd (let h = is in search rules), λ bad. absurd (bad_by_nothing g call c.in-Nothing.ensures bad))
