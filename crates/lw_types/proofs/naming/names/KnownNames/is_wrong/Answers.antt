use Rattle.std.proofs.Common.{◌↔◌, IsTrue, sym, subst}
use Rattle.lw_types.specs.declared.naming.mentions.Role.{Role}
use Rattle.lw_types.specs.Wrong.{IsWrongAs}
use Rattle.lw_types.proofs.naming.names.KnownNames.is_wrong.Goals as goal

pub returns-in-WantsNameRule : goal.returns-in-WantsNameRule
returns-in-WantsNameRule c =
    let m = c.args.mention.now in
    let P : Role → Type 0 = λ role. IsTrue c.is_nameless.result ↔ IsWrongAs c.args.self.now.g.now role m.file m.span m.name.now in
    subst P (sym c.in-WantsNameRule.is) c.is_nameless.ensures
