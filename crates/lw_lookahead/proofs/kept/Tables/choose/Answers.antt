use Rattle.std.proofs.Common.{◌≤◌, length, ap, sym, ◌∙◌, subst}
use Rattle.lw_look.specs.Looks.{window}
use Rattle.lw_first.specs.Heads.{kinds_in, seen_in}
use Rattle.lw_lookahead.proofs.FoundHeads.{chooses_found, chooses_none, entries_here, entries_known}
use Rattle.lw_lookahead.proofs.kept.Tables.choose.Goals as goal

pub returns-in_err-head : goal.returns-in_err-head
returns-in_err-head c g kinds k s way are at =
    let n = c.args.point.0 in
    let tables = c.args.self.now in
    let entries = c.in_ok-entries.entries.now in
    let items = c.deref.result.now in
    let found = c.in_ok-entries.ensures.lookup in
    let here = entries_here g kinds k n s tables are at entries items c.deref.ensures.value found.3.0 found.1 in
    let known = entries_known g kinds k n s tables are at entries items c.deref.ensures.value found.3.0 found.1 in
    chooses_none g kinds k s entries.entries here known (seen_in c.args.window.now) way c.from_residual-in_err-head.result (subst (λ n. n ≤ 3) are.depth tables.most)
    (λ h few is. c.in_err-head.ensures h few (is ∙ ap (λ k. window k h) (sym are.depth))) c.from_residual-in_err-head.ensures

pub returns : goal.returns
returns c g kinds k s way are at =
    let n = c.args.point.0 in
    let tables = c.args.self.now in
    let entries = c.in_ok-entries.entries.now in
    let items = c.deref.result.now in
    let found = c.in_ok-entries.ensures.lookup in
    let here = entries_here g kinds k n s tables are at entries items c.deref.ensures.value found.3.0 found.1 in
    let known = entries_known g kinds k n s tables are at entries items c.deref.ensures.value found.3.0 found.1 in
    let (shown, short) = c.in_ok-head.ensures in
    chooses_found g kinds k s entries.entries here known (seen_in c.args.window.now) way c.in_ok-head.head c.copied.result
    (shown ∙ ap (λ k. window k (kinds_in c.in_ok-head.head)) are.depth) (subst (λ k. length (kinds_in c.in_ok-head.head) ≤ k) are.depth short)
    (c.copied.ensures ∙ c.get-2.ensures.value)
