-- The order of faults is strict, so a grammar has one list of them.
use Rattle.std.proofs.Common.{◌≡◌, ℕ, List, sym, ap, ◌∙◌, arith}
use Rattle.std.specs.Ordering.{nat_cmp, ordering_reverse}
use Rattle.std.specs.declared.cmp.Ordering.TheVariants.{Less, Greater}
use Rattle.std.specs.Cmp.Lexicographic.{slice_cmp}
use Rattle.std.proofs.lemmas.Cmp.{nat_list_cmp_total}
use Rattle.lw_base.proofs.Sorted.{same_list}
use Rattle.lw_grammar.specs.declared.fault.GrammarFault.{GrammarFault}
use Rattle.lw_faults.specs.Faults.{ComesBefore, by_file, by_start, by_number, by_end, by_name, AreFaults}

names_strict : (a b : List ℕ) → slice_cmp nat_cmp a b ≡ Less → slice_cmp nat_cmp b a ≡ Less → ⊥
names_strict a b one other = by (sym one ∙ nat_list_cmp_total.antisymm a b ∙ ap ordering_reverse other)
  where
    by : Less ≡ Greater → ⊥
    by same = cc

strictly : (one other : GrammarFault) → ComesBefore one other → ComesBefore other one → ⊥
strictly one other (by_file a) (by_file b) = omega (arith, a, b)
strictly one other (by_file a) (by_start b _) = omega (arith, a, b)
strictly one other (by_file a) (by_number b _ _) = omega (arith, a, b)
strictly one other (by_file a) (by_end b _ _ _) = omega (arith, a, b)
strictly one other (by_file a) (by_name b _ _ _) = omega (arith, a, b)
strictly one other (by_start a _) (by_file b) = omega (arith, a, b)
strictly one other (by_start _ a) (by_start _ b) = omega (arith, a, b)
strictly one other (by_start _ a) (by_number _ b _) = omega (arith, a, b)
strictly one other (by_start _ a) (by_end _ b _ _) = omega (arith, a, b)
strictly one other (by_start _ a) (by_name _ b _ _) = let start = ap (λ s. s.start) b in omega (arith, a, start)
strictly one other (by_number a _ _) (by_file b) = omega (arith, a, b)
strictly one other (by_number _ a _) (by_start _ b) = omega (arith, a, b)
strictly one other (by_number _ _ a) (by_number _ _ b) = omega (arith, a, b)
strictly one other (by_number _ _ a) (by_end _ _ b _) = omega (arith, a, b)
strictly one other (by_number _ _ a) (by_name _ _ b _) = omega (arith, a, b)
strictly one other (by_end a _ _ _) (by_file b) = omega (arith, a, b)
strictly one other (by_end _ a _ _) (by_start _ b) = omega (arith, a, b)
strictly one other (by_end _ _ a _) (by_number _ _ b) = omega (arith, a, b)
strictly one other (by_end _ _ _ a) (by_end _ _ _ b) = omega (arith, a, b)
strictly one other (by_end _ _ _ a) (by_name _ b _ _) = let end = ap (λ s. s.end) b in omega (arith, a, end)
strictly one other (by_name a _ _ _) (by_file b) = omega (arith, a, b)
strictly one other (by_name _ a _ _) (by_start _ b) = let start = ap (λ s. s.start) a in omega (arith, b, start)
strictly one other (by_name _ _ a _) (by_number _ _ b) = omega (arith, a, b)
strictly one other (by_name _ a _ _) (by_end _ _ _ b) = let end = ap (λ s. s.end) a in omega (arith, b, end)
strictly one other (by_name _ _ _ a) (by_name _ _ _ b) = names_strict one.name other.name a b

-- so one list in this order holds exactly some faults
pub one_list : (IsOne : GrammarFault → Type 0) (a b : List GrammarFault) → AreFaults IsOne a → AreFaults IsOne b → a ≡ b
one_list IsOne a b is was =
    same_list ComesBefore strictly a b is.sorted was.sorted (λ f has. (was.all f).1 ((is.all f).0 has)) (λ f has. (is.all f).1 ((was.all f).0 has))
