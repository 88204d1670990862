-- Where a sentence goes on behind a cross-reference that starts, whatever is read as it is tokens alone.
use Rattle.std.proofs.Common.{◌≡◌, ℕ, List, [], ◌∷◌, ◌++◌, Some, All, slice_get, sym, ap, subst, ◌∙◌}
use Rattle.std.proofs.lemmas.List.{append-nil, append_assoc}
use Rattle.std.proofs.lemmas.List.Elements.{All-nil, All-cons}
use Rattle.std.proofs.lemmas.Option.{same_Some}
use Rattle.lw_viable.specs.Gives.{PlacesGive, TaskGives}
use Rattle.lw_viable.specs.Gives as gives
use Rattle.lw_faults.specs.Faults.{IsCheckFault}
use Rattle.lw_grammar.specs.declared.fault.GrammarFault.{GrammarFault}
use Rattle.lw_grammar.specs.declared.grammar.Grammar.{Grammar}
use Rattle.lw_grammar.specs.declared.rule.Op.{Op}
use Rattle.lw_grammar.specs.declared.rule.Value0.{Value0}
use Rattle.lw_grammar.specs.Kinds.{Kinds}
use Rattle.lw_look.specs.Sites.{PartSite, Value, IsPartAt}
use Rattle.lw_look.specs.Supplied.{IsSupplied}
use Rattle.lw_look.proofs.Standing.{one_stands, same_value}
use Rattle.lw_reading.specs.Follows.{IsCross, MakesReference}
use Rattle.lw_places.specs.Starting.{ComesNext, ReferenceNext, marks_with, token_marks}
use Rattle.lw_program.specs.Numbered.{put_sites}
use Rattle.lw_program.specs.Says.{Task, Reads}
use Rattle.lw_program.specs.declared.recipes.mark.TreeMark.TheVariants as numbered
use Rattle.lw_program.specs.Meant.{MeansMark}
use Rattle.lw_program.specs.Meant as meant
use Rattle.lw_grammar.specs.Marks.{Mark, Put, End, kinds_of}
use Rattle.lw_grammar.specs.Marks as mark
use Rattle.lw_grammar.specs.Sentences.{IsSentence}
use Rattle.lw_grammar.specs.Yields.{ValueYields}
use Rattle.lw_viable.specs.Readings.{HasTask}
use Rattle.lw_viable.specs.declared.reference_start.ReferenceStart.{ReferenceStart}
use Rattle.lw_viable.proofs.Moves.Finishing.{places_give}
use Rattle.lw_reading.proofs.Listed.{same_tail}
use Rattle.lw_complete.specs.declared.typing.Typing.{Typing}
use Rattle.lw_complete.specs.Starts.{IsSoundStart, IsStartOf}
use Rattle.lw_complete.specs.Typing.{grammar_of, kinds_before}
use Rattle.lw_complete.proofs.FrontPlain.{cross_tokens}

end_is_no_token : {k : ℕ} {m n : List Mark} → End ∷ m ≡ mark.Token k ∷ n → ⊥
end_is_no_token e = cc

-- what stands behind tokens and an end
pub behind_end : (ks js : List ℕ) (m n : List Mark) → token_marks ks ++ End ∷ m ≡ token_marks js ++ End ∷ n → m ≡ n
behind_end [] [] m n same = same_tail same
behind_end [] (j ∷ js) m n same = absurd (end_is_no_token same)
behind_end (k ∷ ks) [] m n same = absurd (end_is_no_token (sym same))
behind_end (k ∷ ks) (j ∷ js) m n same = behind_end ks js m n (same_tail same)

module _ (g : Grammar) (of : Kinds) (tasks : List Task) (no_check_fault : (f : GrammarFault) → ¬ IsCheckFault g f) where
  reads_tokens : {site : PartSite} {c : Value0} {m : List Mark} → IsPartAt g site (Value c) → IsCross c → TaskGives g of (Reads site) m → (ks : List ℕ) × (m ≡ token_marks ks)
  reads_tokens {site} {c} {m} stands cross (gives.reads {v} {c = d} at yields) =
      cross_tokens g no_check_fault of stands cross (subst (λ (w : Value0). ValueYields g of w d m) (same_value (one_stands g at stands)) yields)

  given_tokens : {site : PartSite} {c : Value0} {p : ℕ} {m : List Mark} → slice_get tasks p ≡ Some (Reads site) → IsPartAt g site (Value c) → IsCross c →
      PlacesGive g of tasks (p ∷ []) m → (ks : List ℕ) × (m ≡ token_marks ks)
  given_tokens {site} there stands cross (gives.more {t} {m} at given gives.nothing) =
      let same : t ≡ Reads site = same_Some t (Reads site) (sym at ∙ there) in
      let (ks, are) = reads_tokens stands cross (subst (λ (u : Task). TaskGives g of u m) same given) in
      (ks, append-nil m ∙ are)

  -- what is read at the place of a cross-reference's value
  pub value_tokens : {site : PartSite} {n p : ℕ} {prop : List ℕ} {op : Op} {c : Value0} {m : List Mark} → slice_get (put_sites g) n ≡ Some site →
      slice_get tasks p ≡ Some (Reads site) → MeansMark g (numbered.Put n) (Put prop op c) → IsCross c → PlacesGive g of tasks (p ∷ []) m →
      (ks : List ℕ) × (m ≡ token_marks ks)
  value_tokens {site} {c} numbers there (meant.puts {s} at assigned stands) cross give =
      given_tokens there (subst (λ (u : PartSite). IsPartAt g u (Value c)) (same_Some s site (sym at ∙ numbers)) stands) cross give

  module _ (next : ReferenceNext) (start : ReferenceStart) (site : PartSite) (is_start : IsStartOf g next start) (makes : MakesReference next.op next.value)
      (numbers : slice_get (put_sites g) start.put ≡ Some site) (reads : slice_get tasks start.value ≡ Some (Reads site))
      (value : HasTask g of tasks start.value) (behind : All (HasTask g of tasks) start.behind)
      (whole : (m n : List Mark) → PlacesGive g of tasks (start.value ∷ []) m → PlacesGive g of tasks start.behind n →
      IsSentence g of (next.before ++ Put next.prop next.op next.value ∷ m ++ End ∷ n)) (supplied : IsSupplied g of) where
    pub goes_on : (n : List Mark) → PlacesGive g of tasks start.behind n → (ks : List ℕ) × IsSentence g of (marks_with next ks ++ n)
    goes_on n give =
        let (m, own) = places_give g of tasks supplied (start.value ∷ []) (All-cons (HasTask g of tasks) start.value [] value (All-nil (HasTask g of tasks))) in
        let (ks, are) = value_tokens numbers reads is_start.puts makes.1 own in (
          ks,
          subst (IsSentence g of)
              (ap (λ (l : List Mark). next.before ++ Put next.prop next.op next.value ∷ l ++ End ∷ n) are
              ∙ sym (append_assoc (next.before ++ Put next.prop next.op next.value ∷ token_marks ks) (End ∷ []) n))
              (whole m n own give),
        )

    -- the reference comes next
    pub start_comes : (typing : Typing) → kinds_of next.before ≡ kinds_before typing → ComesNext g of typing.tokens.now next
    start_comes typing kinds_are =
        let (n, give) = places_give g of tasks supplied start.behind behind in
        let (ks, sentence) = goes_on n give in
        record { kinds_are = kinds_are; makes = makes; some_kinds = ks; after = n; sentence = sentence }

-- a sentence goes on behind a start, with whatever its places behind give
pub sound_start : (typing : Typing) (of : Kinds) (tasks : List Task) → ((f : GrammarFault) → ¬ IsCheckFault (grammar_of typing) f) → (next : ReferenceNext)
    (start : ReferenceStart) (site : PartSite) → IsStartOf (grammar_of typing) next start → MakesReference next.op next.value →
    slice_get (put_sites (grammar_of typing)) start.put ≡ Some site → slice_get tasks start.value ≡ Some (Reads site) →
    HasTask (grammar_of typing) of tasks start.value → All (HasTask (grammar_of typing) of tasks) start.behind →
    ((m n : List Mark) → PlacesGive (grammar_of typing) of tasks (start.value ∷ []) m → PlacesGive (grammar_of typing) of tasks start.behind n →
    IsSentence (grammar_of typing) of (next.before ++ Put next.prop next.op next.value ∷ m ++ End ∷ n)) → IsSupplied (grammar_of typing) of →
    kinds_of next.before ≡ kinds_before typing → IsSoundStart of tasks typing next start
sound_start typing of tasks no_check_fault next start site is_start makes numbers reads value behind whole supplied kinds_are =
    let g = grammar_of typing in record {
      at = record {
        is_start = is_start;
        comes = start_comes g of tasks no_check_fault next start site is_start makes numbers reads value behind whole supplied typing kinds_are;
      };
      behind = behind;
      whole = goes_on g of tasks no_check_fault next start site is_start makes numbers reads value behind whole supplied;
    }
