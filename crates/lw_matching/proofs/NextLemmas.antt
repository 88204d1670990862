-- What stands next stays so, where no keyword goes on behind the text and the terminals that are asked stay.
use Rattle.std.proofs.Common.{◌≡◌, ℕ, ◌<◌, ◌++◌, List, All, length, Option, Some, None, sym, subst}
use Rattle.std.specs.Option.{option_map}
use Rattle.std.proofs.lemmas.Option.{same_Some, slice_get_within}
use Rattle.regex_nfa.specs.declared.nfa.Nfa.{Nfa}
use Rattle.lw_base.specs.declared.numbers.KindId.{KindId}
use Rattle.lw_matching.specs.Nfas.{AreNfas}
use Rattle.lw_tokens.specs.Lexicon.{Lexicon}
use Rattle.lw_tokens.specs.NextToken.{Next, IsNextToken}
use Rattle.lw_matching.specs.Front.{TerminalsStay, counted}
use Rattle.lw_matching.specs.Next.{NextStays}
use Rattle.lw_matching.specs.Stays.{NoneBegun}
use Rattle.lw_matching.proofs.FrontLemmas.{counted_asked}
use Rattle.lw_matching.proofs.StaysLemmas.{next_stays}

no_kind : (next : Next) → ◌≡◌ {A = Option ℕ} (Some next.kind) None → ⊥
no_kind next is = cc

some_kind : (kind : ℕ) → ◌≡◌ {A = Option ℕ} None (Some kind) → ⊥
some_kind kind is = cc

module _ (keywords : List (List ℕ)) (nfas : List Nfa) (text : List ℕ) (none : NoneBegun keywords text) (lexicon : Lexicon) (same : lexicon.keywords ≡ keywords)
    (are : AreNfas lexicon.terminals nfas) (more : List ℕ) (small : All (λ b. b < 256) (text ++ more)) where
  begun : NoneBegun lexicon.keywords text
  begun = subst (λ (ks : List (List ℕ)). NoneBegun ks text) (sym same) none

  some_there : (kind : KindId) → TerminalsStay nfas text (counted (length keywords) (length nfas) kind.0) → (found : Option Next) →
      option_map (λ (next : Next). next.kind) found ≡ Some kind.0 → IsNextToken lexicon text found → IsNextToken lexicon (text ++ more) found
  some_there kind stay None is next = absurd (some_kind kind.0 is)
  some_there kind stay (Some found) is next =
      let at : found.kind ≡ kind.0 = same_Some found.kind kind.0 is in
      next_stays lexicon text more begun (Some found)
      (counted_asked lexicon nfas text more found are
      (subst (λ (k : ℕ). TerminalsStay nfas text (counted (length lexicon.keywords) (length nfas) k)) (sym at)
      (subst (λ (ks : List (List ℕ)). TerminalsStay nfas text (counted (length ks) (length nfas) kind.0)) (sym same) stay)) small) next

  none_there : TerminalsStay nfas text (length nfas) → (found : Option Next) → option_map (λ (next : Next). next.kind) found ≡ None →
      IsNextToken lexicon text found → IsNextToken lexicon (text ++ more) found
  none_there stay (Some found) is next = absurd (no_kind found is)
  none_there stay None is next =
      next_stays lexicon text more begun None
      (λ j form within there.
      stay.stay lexicon.terminals are more small j form
      (subst (λ (n : ℕ). j < n) (sym are.count) (slice_get_within lexicon.terminals j form there)) there) next

module _ (keywords : List (List ℕ)) (nfas : List Nfa) (text : List ℕ) (none : NoneBegun keywords text) where
  pub some_stays : (kind : KindId) → TerminalsStay nfas text (counted (length keywords) (length nfas) kind.0) → NextStays keywords nfas text (Some kind)
  some_stays kind stay = record {
    stays = λ lexicon same are found is next more small. some_there keywords nfas text none lexicon same are more small kind stay found is next;
  }

  pub all_stay : TerminalsStay nfas text (length nfas) → NextStays keywords nfas text None
  all_stay stay = record { stays = λ lexicon same are found is next more small. none_there keywords nfas text none lexicon same are more small stay found is next }
