-- Places side by side are filled one after the other.
use Rattle.std.proofs.Common.{◌≡◌, ℕ, ◌+◌, ◌<◌, ◌≤◌, List, [], ◌∷◌, length, get_or, take, sym, ◌∙◌, subst, arith}
use Rattle.std.proofs.lemmas.List.{length-take-le}
use Rattle.lw_grammar.specs.declared.grammar.Grammar.{Grammar}
use Rattle.lw_grammar.specs.Kinds.{Kinds}
use Rattle.lw_look.specs.Sites.{PartSite, ◌▸◌}
use Rattle.lw_program.specs.Filled.{Listing, Want, wants_from, Filled}
use Rattle.lw_program.proofs.Parts.{wants_length, wants_next}
use Rattle.lw_program.proofs.Filling.{fills_both}

module _ (g : Grammar) (kinds : Kinds) where
  pub fills_next : {X : Type 0} (want : PartSite → X → Want) (s : PartSite) (xs : List X) (i : ℕ) (x : X) {first : ℕ} {old mid new : Listing} → i < length xs →
      x ≡ get_or xs i x → first + length xs ≤ length old.code → Filled g kinds (wants_from want s 0 (take i xs)) first old mid →
      Filled g kinds (want (s ▸ i) x ∷ []) (first + i) mid new → Filled g kinds (wants_from want s 0 (take (i + 1) xs)) first old new
  fills_next want s xs i x {first} {old} {mid} {new} inside is room before here =
      subst (λ ws. Filled g kinds ws first old new) (sym (wants_next want s xs i x inside is))
      (fills_both g kinds (let l = long in omega (arith, l, room, inside)) before
      (subst (λ n. Filled g kinds (want (s ▸ i) x ∷ []) (first + n) mid new) (sym long) here))
    where
      long : length (wants_from want s 0 (take i xs)) ≡ i
      long = wants_length want s 0 (take i xs) ∙ length-take-le i xs (omega (arith, inside))
