-- Faults as they are told of rules.
use Rattle.std.proofs.Common.{◌≡◌, ◌≢◌, ℕ, ◌↔◌, List, Bool, Option, Some, None, MatchOption, false, slice_get, refl, sym, ap, ap₂, ◌∙◌, subst}
use Rattle.std.proofs.lemmas.Option.{same_Some}
use Rattle.lw_base.specs.declared.token.Span.{Span}
use Rattle.lw_grammar.specs.declared.fault.GrammarFault.{GrammarFault}
use Rattle.lw_grammar.specs.declared.grammar.Grammar.{Grammar}
use Rattle.lw_grammar.specs.declared.rule.Rule.{Rule}
use Rattle.lw_grammar.specs.Named.{IsEntry}
use Rattle.lw_grammar.proofs.FirstLemmas.{first_place}
use Rattle.lw_graph.specs.Walks.{HasNode}
use Rattle.lw_faults.specs.Faults.{fault}
use Rattle.lw_faults.specs.Reads.{ComesFirstTo}
use Rattle.lw_faults.specs.Derivations.{IsEntryRule, LeftRecursion, left_recursion, ReadsNothing, reads_nothing, RepeatsNothing, repeats_nothing, NeverEnds, never_ends}
use Rattle.lw_faults.specs.Finding.{IsFaultOf}
use Rattle.lw_kinds.specs.Reading.{RuleFlags, IsReadingOf}
use Rattle.lw_kinds.specs.Telling.{SpeaksOf, RepeatsAt, TellsRepeats}

same_fault : (f : GrammarFault) (number file : ℕ) (s : Span) (name : List ℕ) → f.number ≡ number → f.file ≡ file → f.span ≡ s → f.name ≡ name → f ≡ fault number file s name
same_fault f number file s name a b c d = ap₂ (λ n k. fault n k f.span f.name) a b ∙ ap₂ (λ t n. fault number file t n) c d

-- told of rules by their numbers: where it is so of a rule, a fault is told with its file, span and name
module _ (g : Grammar) (number : ℕ) (told : ℕ → Span → List ℕ → Type 0) (so : ℕ → Rule → Type 0) where
  abbrev Comes : ℕ → Span → List ℕ → Type 0
  Comes file s name = (k : ℕ) × (rule : Rule) × (slice_get g.rules k ≡ Some rule) × so k rule × (rule.file ≡ file) × (rule.span ≡ s) × (rule.name ≡ name)

  told_of : ((k : ℕ) (rule : Rule) → slice_get g.rules k ≡ Some rule → so k rule → told rule.file rule.span rule.name) →
      ((file : ℕ) (s : Span) (name : List ℕ) → told file s name → Comes file s name) →
      (f : GrammarFault) → ((k : ℕ) × (rule : Rule) × (slice_get g.rules k ≡ Some rule) × (so k rule × SpeaksOf number rule f)) ↔ IsFaultOf number told f
  told_of makes comes f = (forth, back)
    where
      forth : (k : ℕ) × (rule : Rule) × (slice_get g.rules k ≡ Some rule) × (so k rule × SpeaksOf number rule f) → IsFaultOf number told f
      forth (k, rule, at, (is, of)) = subst (IsFaultOf number told) (sym of) (refl, makes k rule at is)

      named : f.number ≡ number → Comes f.file f.span f.name → (k : ℕ) × (rule : Rule) × (slice_get g.rules k ≡ Some rule) × (so k rule × SpeaksOf number rule f)
      named n (k, rule, at, is, file, s, name) = (k, rule, at, (is, same_fault f number rule.file rule.span rule.name n (sym file) (sym s) (sym name)))

      back : IsFaultOf number told f → (k : ℕ) × (rule : Rule) × (slice_get g.rules k ≡ Some rule) × (so k rule × SpeaksOf number rule f)
      back (n, does) = named n (comes f.file f.span f.name does)

module _ (g : Grammar) (flags : RuleFlags) (are : IsReadingOf g flags) where
  -- ---- left recursion
  module _ (round : List Bool) (goes : (r : ℕ) → HasNode round r ↔ ComesFirstTo g r r) where
    pub told_left : (f : GrammarFault) →
        ((k : ℕ) × (rule : Rule) × (slice_get g.rules k ≡ Some rule) × ((HasNode flags.reached k × HasNode round k) × SpeaksOf 7 rule f)) ↔ IsFaultOf 7 (LeftRecursion g) f
    told_left = told_of g 7 (LeftRecursion g) (λ k rule. HasNode flags.reached k × HasNode round k)
        (λ k rule at is. left_recursion k rule ((are.reached k).0 is.0, at) ((goes k).0 is.1)) (λ file s name does. comes does)
      where
        comes : {file : ℕ} {s : Span} {name : List ℕ} → LeftRecursion g file s name →
            Comes g 7 (LeftRecursion g) (λ k rule. HasNode flags.reached k × HasNode round k) file s name
        comes (left_recursion r rule within first) = (r, rule, within.1, ((are.reached r).1 within.0, (goes r).1 first), refl, refl, refl)

  -- ---- what reads nothing
  module _ (entry : Option ℕ) (is_entry : MatchOption entry ((r : ℕ) (rule : Rule) → ¬ IsEntry g r rule) (λ r. (rule : Rule) × IsEntry g r rule)) where
    abbrev pub SoNothing : ℕ → Rule → Type 0
    SoNothing k rule = HasNode flags.reached k × (rule.is_fragment ≡ false) × (entry ≢ Some k) × HasNode flags.nothing k

    no_entry : (k : ℕ) → entry ≢ Some k → ¬ IsEntryRule g k
    no_entry k differs (rule, is) = by entry is_entry differs
      where
        by : (o : Option ℕ) → MatchOption o ((r : ℕ) (rule : Rule) → ¬ IsEntry g r rule) (λ r. (rule : Rule) × IsEntry g r rule) → o ≢ Some k → ⊥
        by None none apart = none k rule is
        by (Some r) (other, was) apart = apart (ap Some (first_place was is))

    not_first : (k : ℕ) → ¬ IsEntryRule g k → entry ≢ Some k
    not_first k none same = by entry is_entry same
      where
        by : (o : Option ℕ) → MatchOption o ((r : ℕ) (rule : Rule) → ¬ IsEntry g r rule) (λ r. (rule : Rule) × IsEntry g r rule) → o ≡ Some k → ⊥
        by None _ same = cc
        by (Some r) is same = none (subst (IsEntryRule g) (same_Some r k same) is)

    pub told_nothing : (f : GrammarFault) → ((k : ℕ) × (rule : Rule) × (slice_get g.rules k ≡ Some rule) × (SoNothing k rule × SpeaksOf 8 rule f)) ↔ IsFaultOf 8 (ReadsNothing g) f
    told_nothing = told_of g 8 (ReadsNothing g) SoNothing
        (λ k rule at is. reads_nothing k rule ((are.reached k).0 is.0, at) is.1 (no_entry k is.2) ((are.nothing k rule at).0 is.3)) (λ file s name does. comes does)
      where
        comes : {file : ℕ} {s : Span} {name : List ℕ} → ReadsNothing g file s name → Comes g 8 (ReadsNothing g) SoNothing file s name
        comes (reads_nothing r rule within fragment none may) =
            (r, rule, within.1, ((are.reached r).1 within.0, fragment, not_first r none, (are.nothing r rule within.1).1 may), refl, refl, refl)

  -- ---- what never ends
  pub told_ends : (f : GrammarFault) →
      ((k : ℕ) × (rule : Rule) × (slice_get g.rules k ≡ Some rule) × ((HasNode flags.reached k × ¬ HasNode flags.ends k) × SpeaksOf 10 rule f)) ↔ IsFaultOf 10 (NeverEnds g) f
  told_ends = told_of g 10 (NeverEnds g) (λ k rule. HasNode flags.reached k × ¬ HasNode flags.ends k)
      (λ k rule at is. never_ends k rule ((are.reached k).0 is.0, at) (λ n may. is.1 ((are.ends k rule at).1 (n, may)))) (λ file s name does. comes does)
    where
      comes : {file : ℕ} {s : Span} {name : List ℕ} → NeverEnds g file s name →
          Comes g 10 (NeverEnds g) (λ k rule. HasNode flags.reached k × ¬ HasNode flags.ends k) file s name
      comes (never_ends r rule within never) =
          (r, rule, within.1, ((are.reached r).1 within.0, λ has. let may = (are.ends r rule within.1).0 has in never may.0 may.1), refl, refl, refl)

  -- ---- what repeats nothing
  abbrev ComesFrom : ℕ → Span → List ℕ → Type 0
  ComesFrom file s name =
      (k : ℕ) × (rule : Rule) × (slice_get g.rules k ≡ Some rule) × HasNode flags.reached k × RepeatsAt g rule.body s × (rule.file ≡ file) × (rule.name ≡ name)

  pub told_repeats : (f : GrammarFault) →
      ((k : ℕ) × (rule : Rule) × (slice_get g.rules k ≡ Some rule) × (HasNode flags.reached k × TellsRepeats g rule rule.body f)) ↔ IsFaultOf 9 (RepeatsNothing g) f
  told_repeats f = (forth, λ told. back told.0 told.1)
    where
      forth : (k : ℕ) × (rule : Rule) × (slice_get g.rules k ≡ Some rule) × (HasNode flags.reached k × TellsRepeats g rule rule.body f) → IsFaultOf 9 (RepeatsNothing g) f
      forth (k, rule, at, (has, (s, (part, body, held, marked, none), of))) =
          subst (IsFaultOf 9 (RepeatsNothing g)) (sym of) (refl, repeats_nothing k rule part body ((are.reached k).0 has, at) held marked none)

      comes : {file : ℕ} {s : Span} {name : List ℕ} → RepeatsNothing g file s name → ComesFrom file s name
      comes (repeats_nothing r rule part body within held marked none) =
          (r, rule, within.1, (are.reached r).1 within.0, (part, body, held, marked, none), refl, refl)

      named : f.number ≡ 9 → ComesFrom f.file f.span f.name →
          (k : ℕ) × (rule : Rule) × (slice_get g.rules k ≡ Some rule) × (HasNode flags.reached k × TellsRepeats g rule rule.body f)
      named n (k, rule, at, has, repeats, file, name) = (k, rule, at, (has, (f.span, repeats, same_fault f 9 rule.file f.span rule.name n (sym file) refl (sym name))))

      back : f.number ≡ 9 → RepeatsNothing g f.file f.span f.name →
          (k : ℕ) × (rule : Rule) × (slice_get g.rules k ≡ Some rule) × (HasNode flags.reached k × TellsRepeats g rule rule.body f)
      back n does = named n (comes does)
