use Rattle.std.proofs.Common.{ℕ, refl, subst}
use Rattle.lw_text.specs.Position.{IsPosition}
use Rattle.lw_session.proofs.completing.told_item.Goals as goal

pub returns : goal.returns
returns c =
    let is = c.requires in
    record {
      label = c.in_ok-copy.ensures;
      kind = refl;
      front = is.front;
      word = is.word;
      rest = is.rest;
      typed = is.typed;
      begins = subst (λ (n : ℕ). IsPosition c.args.text.now n c.position.result) is.begins c.position.ensures;
      ends = c.position-2.ensures;
    }
