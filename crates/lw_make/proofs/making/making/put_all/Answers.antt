use Rattle.std.proofs.Common.{refl, subst}
use Rattle.lw_build.specs.Agreeing.{Agrees}
use Rattle.lw_make.proofs.Standing.{none_documents}
use Rattle.lw_make.proofs.making.making.put_all.Goals as goal

pub documents-init : goal.documents-init
documents-init c = record {
  stands = subst (Agrees c.args.workspace.now) (none_documents c.args.workspace.now.is_built c.args.workspace.now.kept c.requires.empty) c.agrees.ensures.agrees;
  setting = refl;
}
