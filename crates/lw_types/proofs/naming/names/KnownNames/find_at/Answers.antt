use Rattle.std.proofs.Common.{ℕ, ◌≡◌, subst}
use Rattle.std.proofs.lemmas.Result.{on_ok_weaker}
use Rattle.lw_faults.specs.Faults.{fault}
use Rattle.lw_faults.specs.Finding.{Finds}
use Rattle.lw_faults.proofs.Joining.{Finds-where}
use Rattle.lw_types.specs.NameUses.{use_of}
use Rattle.lw_types.specs.Wrong.{IsWrong, fault_number}
use Rattle.lw_types.proofs.naming.names.KnownNames.find_at.Goals as goal

pub returns : goal.returns
returns c =
    let m = c.args.mention.now in
    let wrong : IsWrong c.args.self.now.g.now (use_of m) = c.is_wrong.ensures.0 c.if-not-is_wrong.false in
    let P : ℕ → Type 0 = λ n. Finds (λ f. f ≡ fault n m.file m.span m.name.now) c.args.found.now c.add.new.self in
    on_ok_weaker c.add.result
    (λ finds. Finds-where (IsWrong c.args.self.now.g.now (use_of m)) (fault (fault_number m.role) m.file m.span m.name.now) wrong
    (subst P c.fault_kind-kind.ensures finds)) c.add.ensures
