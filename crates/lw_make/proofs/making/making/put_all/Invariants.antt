use Rattle.std.proofs.Common.{◌≡◌}
use Rattle.lw_build.specs.Agreeing.{Agrees}
use Rattle.lw_make.proofs.Putting.{made}
use Rattle.lw_make.proofs.making.making.put_all.Given as goal

abbrev pub invariant-documents : goal.invariant-documents
invariant-documents l = record {
  stands : Agrees l.workspace (made l.count l.document);
  setting : l.workspace.setting ≡ l.fn.workspace.setting;
}
