use Rattle.std.proofs.Common.{◌≡◌, ◌+◌, ◌-◌, ◌∙◌, suc, Some, None, ap, sym, lit<, take, arith}
use Rattle.std.proofs.lemmas.Str.Pattern.{rfind_char}
use Rattle.lw_load.proofs.PathEnds.{folder_none, folder_at}
use Rattle.lw_load.proofs.paths.folder.Goals as goal

pub returns-in-Some : goal.returns-in-Some
returns-in-Some c =
    let last = rfind_char 47 c.args.path.now (Some c.in-Some.slash) c.in-Some.ensures.cases (lit< tt) in
    let until : c.in-Some.slash + 1 - 0 ≡ suc c.in-Some.slash = omega arith in
    c.range_inclusive.ensures.value ∙ ap (λ n. take n c.args.path.now) until ∙ sym (folder_at c.args.path.now c.in-Some.slash last.0 last.1 last.2)

pub returns-in-None : goal.returns-in-None
returns-in-None c = sym (folder_none c.args.path.now (rfind_char 47 c.args.path.now None c.in-None.ensures.cases (lit< tt)))
