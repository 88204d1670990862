-- The kinds of marks that stand behind each other.
use Rattle.std.proofs.Common.{◌≡◌, List, [], ◌∷◌, ◌++◌, refl, ap}
use Rattle.lw_grammar.specs.Marks.{Mark, kinds_of}
use Rattle.lw_grammar.specs.Marks as mark

pub kinds_join : (m n : List Mark) → kinds_of (m ++ n) ≡ kinds_of m ++ kinds_of n
kinds_join [] n = refl
kinds_join (mark.Token k ∷ m) n = ap (λ ks. k ∷ ks) (kinds_join m n)
kinds_join (mark.Open r ∷ m) n = kinds_join m n
kinds_join (mark.Shut ∷ m) n = kinds_join m n
kinds_join (mark.Put p op v ∷ m) n = kinds_join m n
kinds_join (mark.End ∷ m) n = kinds_join m n
kinds_join (mark.Act a ∷ m) n = kinds_join m n
