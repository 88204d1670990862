use Rattle.std.proofs.Common.{◌<◌, length, arith}
use Rattle.std.proofs.lemmas.Bool.Decides.{nat_tests}
use Rattle.std.proofs.lemmas.Option.{IfSome_then}
use Rattle.std.proofs.lemmas.Str.{IsCharBoundary-start}
use Rattle.regex.proofs.Utf8Lemmas.{test_of_IsCharBoundary}
use Rattle.lw_matching.proofs.WalkLemmas.{foreseen-stays}
use Rattle.lw_matching.proofs.walk.Walker.foreseen_match.Goals as goal

pub returns-clause-foreseen : goal.returns-clause-foreseen
returns-clause-foreseen c =
    let filled : 0 < length c.args.text.now = grind (arith, nat_tests) in
    let cut = test_of_IsCharBoundary c.args.text.now 0 (IsCharBoundary-start c.args.text.now c.utf8.text) in
    IfSome_then c.foreseen_end.result c.foreseen_end.ensures.foreseen
    (λ bytes stays re same. foreseen-stays c.args.nfa.now re c.args.text.now bytes same filled cut (rw c.as_bytes.ensures.value at stays))
