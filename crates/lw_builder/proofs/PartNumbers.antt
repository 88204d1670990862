-- The numbers of the parts of a tree, where those of the whole are known.
use Rattle.std.proofs.Common.{ℕ, ◌≡◌, ◌+◌, List, [], ◌∷◌, ◌++◌, length, subst, arith}
use Rattle.std.specs.Prelude.{slice_index}
use Rattle.lw_reading.specs.Grown.{Grown, Grow, Held, size, size_of}
use Rattle.lw_builder.specs.Finishing.{numbers, numbers_of}
use Rattle.lw_builder.proofs.Each.{Each, each-front, each-back}
use Rattle.lw_builder.proofs.TreeNumbers.{Reads}
use Rattle.lw_builder.proofs.PreorderLengths.{length-numbers_of}

-- the number of a node stands at the last place of its stretch
pub last_reads : (ns : List ℕ) (b n : ℕ) (x : Grown) (i : ℕ) → i + 1 ≡ b + size x → Each (Reads ns) b (numbers n x) → slice_index ns i ≡ n
last_reads ns b n (Grow t s held) i e reads =
    let own : ℕ = b + size_of held in
    let long : own ≡ b + length (numbers_of (n + 1) held) = omega (arith, length-numbers_of (n + 1) held) in
    let back : Each (Reads ns) own (n ∷ []) = each-back (Reads ns) b own (numbers_of (n + 1) held) (n ∷ []) long reads in
    let P : ℕ → Type 0 = λ j. slice_index ns j ≡ n in
    let there : own ≡ i = omega (arith, e) in
    subst P there back.0

-- the numbers of what was finished before the last child, and those of the child
pub front_reads : (ns : List ℕ) (b n : ℕ) (held : Held) (x : Grown) → Each (Reads ns) b (numbers_of n held ++ numbers (n + size_of held) x) → Each (Reads ns) b (numbers_of n held)
front_reads ns b n held x reads = each-front (Reads ns) b (numbers_of n held) (numbers (n + size_of held) x) reads

pub back_reads : (ns : List ℕ) (b n : ℕ) (held : Held) (x : Grown) → Each (Reads ns) b (numbers_of n held ++ numbers (n + size_of held) x) →
    Each (Reads ns) (b + size_of held) (numbers (n + size_of held) x)
back_reads ns b n held x reads =
    let long : b + size_of held ≡ b + length (numbers_of n held) = omega (arith, length-numbers_of n held) in
    each-back (Reads ns) b (b + size_of held) (numbers_of n held) (numbers (n + size_of held) x) long reads

pub inside_reads : (ns : List ℕ) (b n : ℕ) (held : Held) → Each (Reads ns) b (numbers_of (n + 1) held ++ n ∷ []) → Each (Reads ns) b (numbers_of (n + 1) held)
inside_reads ns b n held reads = each-front (Reads ns) b (numbers_of (n + 1) held) (n ∷ []) reads

pub own_reads : (ns : List ℕ) (b n : ℕ) (held : Held) → Each (Reads ns) b (numbers_of (n + 1) held ++ n ∷ []) → slice_index ns (b + size_of held) ≡ n
own_reads ns b n held reads =
    let long : b + size_of held ≡ b + length (numbers_of (n + 1) held) = omega (arith, length-numbers_of (n + 1) held) in
    (each-back (Reads ns) b (b + size_of held) (numbers_of (n + 1) held) (n ∷ []) long reads).0
