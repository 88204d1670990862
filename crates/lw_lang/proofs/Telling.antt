-- Faults that are told, one behind the other.
use Rattle.std.proofs.Common.{◌≡◌, ◌<◌, ℕ, ◌+◌, List, [], ◌∷◌, ◌++◌, length, take, get_or, sym, subst}
use Rattle.std.proofs.lemmas.List.{take_more}
use Rattle.lw_grammar.specs.declared.grammar.Grammar.{Grammar}
use Rattle.lw_grammar.specs.declared.fault.GrammarFault.{GrammarFault}
use Rattle.lw_lang.specs.Telling.{IsToldAs, AreToldAs, none, more}
use Rattle.lw_lang.specs.declared.told.told.ToldFault.{ToldFault}

module _ (g : Grammar) (texts : List (List ℕ)) where
  pub told_push : {fs : List GrammarFault} {tolds : List ToldFault} {f : GrammarFault} {told : ToldFault} → AreToldAs g texts fs tolds → IsToldAs g texts f told →
      AreToldAs g texts (fs ++ f ∷ []) (tolds ++ told ∷ [])
  told_push none is = more is none
  told_push (more one others) is = more one (told_push others is)

  pub told_more : {tolds now : List ToldFault} (fs : List GrammarFault) (i : ℕ) (f : GrammarFault) (told : ToldFault) → i < length fs → f ≡ get_or fs i f →
      AreToldAs g texts (take i fs) tolds → IsToldAs g texts f told → now ≡ tolds ++ told ∷ [] → AreToldAs g texts (take (i + 1) fs) now
  told_more {tolds} {now} fs i f told inside is before one same =
      let P : List GrammarFault → Type 0 = λ xs. AreToldAs g texts xs now in
      let Q : GrammarFault → Type 0 = λ x. AreToldAs g texts (take i fs ++ x ∷ []) now in
      let R : List ToldFault → Type 0 = λ ts. AreToldAs g texts (take i fs ++ f ∷ []) ts in
      subst P (sym (take_more fs i f inside)) (subst Q is (subst R (sym same) (told_push before one)))
