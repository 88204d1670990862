use Rattle.std.proofs.Common.{◌∙◌, Some, ap, sym}
use Rattle.lw_viable.proofs.OnlyToken.{gives_token}
use Rattle.lw_viable.proofs.one_token.only_token.Goals as goal

pub returns-in-Some-Token-clause-only : goal.returns-in-Some-Token-clause-only
returns-in-Some-Token-clause-only c g kinds tasks begins by has =
    gives_token g kinds tasks by c.args.place c.in-Some-Token.kind has (sym c.instr_at.ensures ∙ c.in-Some-Token.is ∙ ap Some c.in-Some-Token.field-0-is)
