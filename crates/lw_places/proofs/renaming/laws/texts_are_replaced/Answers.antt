-- All of it is computed.
use Rattle.std.proofs.Common.{ℕ, List, [], ◌∷◌, Option, codes, refl, ap}
use Rattle.std.specs.Option.{option_map}
use Rattle.lw_link_rules.specs.Worked.{letter_at}
use Rattle.lw_places.specs.Replacing.{replaced}
use Rattle.lw_places.proofs.renaming.laws.texts_are_replaced.Goals as goal

pub returns : goal.returns
returns c = record {
  all = refl;
  once = refl;
  there = λ texts is. ap (λ (o : Option (List ℕ)). option_map (λ text. replaced (codes "y") text (letter_at 5 ∷ [])) o) is;
}
