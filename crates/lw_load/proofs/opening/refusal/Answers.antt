use Rattle.std.proofs.Common.{◌≢◌, refl, subst, rules}
use Rattle.lw_gramread.specs.declared.reader.ReadFault.TheVariants.{NoMemory}
use Rattle.lw_text.specs.Position.{IsPosition}
use Rattle.lw_load.proofs.opening.refusal.Goals as goal

pub returns : goal.returns
returns c =
    let other : c.args.fault ≢ NoMemory = search rules in
    let at = c.position-at.result in
    let place = subst (λ text. IsPosition text c.place_of.result at) c.text.ensures.text c.position-at.ensures.position in
    (refl, other, c.requires.refusal, c.requires.nothing other, subst (λ start. IsPosition c.args.text.now start at) c.place_of.ensures place)
