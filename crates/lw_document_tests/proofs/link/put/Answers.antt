use Rattle.std.proofs.Common.{◌≡◌, ◌-◌, ◌<◌, [], ◌∷◌, sym, ap, ◌∙◌, subst, arith}
use Rattle.std.proofs.lemmas.Result.{on_ok_weaker, on_err_weaker}
use Rattle.lw_index.specs.Lettered.{IsLettered}
use Rattle.lw_index.proofs.LetteredLemmas.{lettered_insert, on_either}
use Rattle.lw_document_tests.proofs.link.put.Goals as goal

pub returns-in-Some : goal.returns-in-Some
returns-in-Some c =
    let number : c.args.number ≡ c.from.result = omega arith in
    let letter : c.in-Some.uri ≡ (122 - c.args.number) ∷ [] = rw c.in-Some.is at c.in_ok-uri.ensures in
    let uri : c.in-Some.uri ≡ (122 - c.from.result) ∷ [] = letter ∙ ap (λ k. (122 - k) ∷ []) number in
    let small : c.from.result < 26 = subst (λ k. k < 26) number c.requires.small in
    on_either c.set.result
    (on_ok_weaker c.set.result (λ e. subst IsLettered (sym e) (lettered_insert c.args.index.now c.from.result (record { uri = c.in-Some.uri; exports = c.args.exports.items }) small uri c.requires.lettered)) c.set.ensures.ok)
    (on_err_weaker c.set.result (λ e. subst IsLettered (sym e) c.requires.lettered) c.set.ensures.refused)
