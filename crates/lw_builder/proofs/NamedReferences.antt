-- The references in the order of finishing, named by number, are those of the tree.
use Rattle.std.proofs.Common.{ℕ, ◌≡◌, ◌+◌, List, [], ◌∷◌, map, refl, ap, ◌∙◌}
use Rattle.std.specs.Prelude.{slice_index}
use Rattle.std.proofs.lemmas.List.{map-append}
use Rattle.lw_tree.specs.declared.node.Reference.{Reference}
use Rattle.lw_reading.specs.Grown.{Grown, Grow, Held, Nothing, Puts, Takes, Points, size_of}
use Rattle.lw_reading.specs.Trees.{refs, refs_of}
use Rattle.lw_builder.specs.Finishing.{numbers, numbers_of}
use Rattle.lw_builder.specs.Tables.{pointed, pointed_in}
use Rattle.lw_builder.specs.Renaming.{reference_by_number}
use Rattle.lw_builder.proofs.Each.{Each}
use Rattle.lw_builder.proofs.TreeNumbers.{Reads}
use Rattle.lw_builder.proofs.PartNumbers.{front_reads, back_reads, inside_reads, own_reads}
use Rattle.lw_builder.proofs.Joining.{joined}

-- the references
mutual
  refs_grown : (ns : List ℕ) (b n : ℕ) (x : Grown) → Each (Reads ns) b (numbers n x) → map (reference_by_number ns) (pointed b x) ≡ refs n x
  refs_grown ns b n (Grow t s held) reads = refs_held ns b (b + size_of held) n (n + 1) held (own_reads ns b n held reads) (inside_reads ns b n held reads)

  refs_held : (ns : List ℕ) (b o number n : ℕ) (held : Held) → slice_index ns o ≡ number → Each (Reads ns) b (numbers_of n held) →
      map (reference_by_number ns) (pointed_in (record { 0 = o }) b held) ≡ refs_of number n held
  refs_held ns b o number n Nothing value reads = refl
  refs_held ns b o number n (Puts held p v) value reads = refs_held ns b o number n held value reads
  refs_held ns b o number n (Points held p want name s) value reads =
      let before : List Reference = pointed_in (record { 0 = o }) b held in
      let it : ℕ → Reference = λ k. record { owner = record { 0 = k }; prop = record { 0 = p }; want = record { 0 = want }; name = name; span = s } in
      map-append (reference_by_number ns) before (it o ∷ []) ∙ joined (refs_held ns b o number n held value reads) (ap (λ k. it k ∷ []) value)
  refs_held ns b o number n (Takes held p x) value reads =
      let before : List Reference = pointed_in (record { 0 = o }) b held in
      let these : List Reference = pointed (b + size_of held) x in
      map-append (reference_by_number ns) before these
      ∙ joined
      (refs_held ns b o number n held value (front_reads ns b n held x reads))
      (refs_grown ns (b + size_of held) (n + size_of held) x (back_reads ns b n held x reads))

pub refs_named : (ns : List ℕ) (x : Grown) → Each (Reads ns) 0 (numbers 0 x) → map (reference_by_number ns) (pointed 0 x) ≡ refs 0 x
refs_named ns x reads = refs_grown ns 0 0 x reads
