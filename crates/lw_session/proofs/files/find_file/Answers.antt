use Rattle.std.proofs.Common.{ℕ, List, Option, MatchOption, refl, subst}
use Rattle.lw_io.specs.Paths.{HasNoPath, IsPathOf}
use Rattle.lw_session.proofs.Moved.{asked_once, not_asked}
use Rattle.lw_session.proofs.files.find_file.Goals as goal

pub returns-in_default-clause-found : goal.returns-in_default-clause-found
returns-in_default-clause-found g c =
    let address = c.args.address.now in
    let count = g.F.Store.count c.args.store.now in
    not_asked (g.F.Store.files c.args.store.now) count count address
    (subst (λ (o : Option (List ℕ)). MatchOption o (HasNoPath address) (IsPathOf address)) c.in_default.is c.in_ok-path.ensures) refl

pub returns : goal.returns
returns g c = record {
  found = asked_once (g.F.Store.files c.args.store.now) (g.F.Store.count c.args.store.now) (g.F.Store.count c.read.new.self) c.args.address.now c.in-Some.path c.read.result
      (subst (λ (o : Option (List ℕ)). MatchOption o (HasNoPath c.args.address.now) (IsPathOf c.args.address.now)) c.in-Some.is c.in_ok-path.ensures)
      c.read.ensures.found c.read.ensures.cause;
  limit = c.read.ensures.limit;
  memory = c.in_default-read.not-NoMemory;
  files = c.read.ensures.files;
}
