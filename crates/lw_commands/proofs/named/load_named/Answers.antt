use Rattle.std.proofs.Common.{◌++◌, ◌∷◌, [], ◌∙◌, IfSome, arith, length-append, subst}
use Rattle.lw_commands.specs.Named.{IsFileText}
use Rattle.lw_commands.specs.Reading.{IsUnreadBy}
use Rattle.lw_commands.proofs.Loading.{first_unread, handed_on, one_named_more}
use Rattle.lw_commands.proofs.named.load_named.Goals as goal

pub returns-in_err-load_file-clause-unread : goal.returns-in_err-load_file-clause-unread
returns-in_err-load_file-clause-unread g c =
    let told = g.F.Store.files c.args.store.now in
    let stop = c.in_err-load_file.field-0.0 in
    let path = c.path-item.result in
    let unread : IsUnreadBy told path.now stop = subst (λ t. IsUnreadBy t path.now stop) c.paths.invariant.files c.in_err-load_file.ensures.unread in
    handed_on _ stop c.from_residual.result c.from_residual.ensures.1
    (first_unread c.args.paths.now c.paths.path-index path c.paths-test.true c.path-item.is told c.paths.invariant.loaded.0 stop c.paths.invariant.loaded.3 unread)

pub load_file-requires : goal.load_file-requires
load_file-requires g c =
    let before = c.paths.invariant.loaded in
    (before.0, before.1, omega (arith, before.2, c.paths-test.true, c.requires.few))

pub paths-preserved : goal.paths-preserved
paths-preserved g c =
    let told = g.F.Store.files c.args.store.now in
    let path = c.path-item.result in
    let before = c.paths.invariant.loaded in
    let next = c.in_ok-load_file.ensures.loaded before.0 before.1 in
    let is = subst (λ t. IfSome t (λ files. IsFileText files path.now next.0)) c.paths.invariant.files next.2 in
    record {
      loaded = (
        before.0 ++ next.0 ∷ [],
        next.1,
        omega (arith, length-append before.0 (next.0 ∷ []), before.2),
        one_named_more c.args.paths.now c.paths.path-index path c.paths-test.true c.path-item.is told before.0 next.0 before.3 is,
      );
      setting = c.in_ok-load_file.ensures.setting ∙ c.paths.invariant.setting;
      files = c.in_ok-load_file.ensures.files ∙ c.paths.invariant.files;
      count = c.in_ok-load_file.ensures.store ∙ c.paths.invariant.count;
    }
