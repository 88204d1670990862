-- Why a grammar is not compiled, from the parts of the work.
use Rattle.std.proofs.Common.{◌≡◌, ℕ, List, Option, Some, None, Result, Ok, Err, IfSome, IfOk, IfErr, refl, sym, subst}
use Rattle.lw_grammar.specs.declared.grammar.Grammar.{Grammar}
use Rattle.lw_load.specs.declared.fault.LoadFault.{LoadFault}
use Rattle.lw_load.specs.declared.fault.LoadFault.TheVariants as loading
use Rattle.lw_load.specs.declared.loader.Loaded.{Loaded}
use Rattle.lw_load.specs.Loading.{Files, Loads}
use Rattle.lw_load.specs.LoadFaults.{Stops, IsOfFiles}
use Rattle.lw_lang.specs.Language.{LanguageView}
use Rattle.lw_lang.specs.Compiled.{HoldsGrammar, Causes, GrammarCauses, of_load}
use Rattle.lw_lang.specs.declared.fault.CompileFault.{CompileFault}
use Rattle.lw_lang.specs.declared.fault.CompileFault.TheVariants as fault

-- ---- a fault of loading, handed on

module _ (files : Files) (root : List ℕ) (k : ℕ) (refused : Option (List ℕ)) where
  causes_of_load : (found : LoadFault) → Stops files root found → (IsOfFiles found → (other : Loaded) → ¬ Loads files root other) →
      Causes files root k refused (of_load found)
  causes_of_load loading.NoMemory stops nothing = tt
  causes_of_load (loading.Absent p) stops nothing = record { stops = stops; told = λ is. cc; nothing = nothing }
  causes_of_load (loading.NotUtf8 p) stops nothing = record { stops = stops; told = λ is. cc; nothing = nothing }
  causes_of_load (loading.TooLong p) stops nothing = record { stops = stops; told = λ is. cc; nothing = nothing }
  causes_of_load (loading.StoreFault p) stops nothing = record { stops = stops; told = λ is. cc; nothing = nothing }
  causes_of_load (loading.Read p refusal at) stops nothing = record { stops = stops; told = λ is. cc; nothing = nothing }
  causes_of_load (loading.TooLarge p) stops nothing = record { stops = stops; told = λ is. cc; nothing = nothing }

pub load_faults : {T : Type 0} (told : Option Files) (root : List ℕ) (k : ℕ) (refused : Option (List ℕ)) (found : LoadFault) (f : CompileFault) (r : Result T CompileFault) → r ≡ Err f →
    f ≡ of_load found → IfSome told (λ files. Stops files root found) → IfSome told (λ files. IsOfFiles found → (other : Loaded) → ¬ Loads files root other) →
    IfErr r (λ f. IfSome told (λ files. Causes files root k refused f))
load_faults {T} told root k refused found f r is same stops nothing =
    subst (λ (r : Result T CompileFault). IfErr r (λ f. IfSome told (λ files. Causes files root k refused f))) (sym is) (by told stops nothing)
  where
    by : (told : Option Files) → IfSome told (λ files. Stops files root found) → IfSome told (λ files. IsOfFiles found → (other : Loaded) → ¬ Loads files root other) →
        IfSome told (λ files. Causes files root k refused f)
    by None stops nothing = tt
    by (Some files) stops nothing = subst (Causes files root k refused) (sym same) (causes_of_load files root k refused found stops nothing)

-- ---- a grammar that was loaded

module _ (told : Option Files) (root : List ℕ) (loaded : Loaded) (loads : IfSome told (λ files. Loads files root loaded))
    (only : IfSome told (λ files. (other : Loaded) → Loads files root other → other ≡ loaded)) where
  -- it is what the files hold
  pub holds_loaded : (g : Grammar) → g ≡ loaded.grammar → IfSome told (λ files. HoldsGrammar files root g)
  holds_loaded g is = by told loads only
    where
      by : (t : Option Files) → IfSome t (λ files. Loads files root loaded) → IfSome t (λ files. (other : Loaded) → Loads files root other → other ≡ loaded) →
          IfSome t (λ files. HoldsGrammar files root g)
      by None l o = tt
      by (Some files) l o = record { loaded = loaded; loads = l; only = o; same = sym is }

  module _ (texts : List (List ℕ)) (are : texts ≡ loaded.texts) (k : ℕ) (refused : Option (List ℕ)) where
    -- and a cause by it is one by the files
    causes_of_grammar : (f : CompileFault) → GrammarCauses loaded.grammar loaded.texts k refused f → IfSome told (λ files. Causes files root k refused f)
    causes_of_grammar f cause = by told loads only f cause
      where
        by : (t : Option Files) → IfSome t (λ files. Loads files root loaded) → IfSome t (λ files. (other : Loaded) → Loads files root other → other ≡ loaded) →
            (f : CompileFault) → GrammarCauses loaded.grammar loaded.texts k refused f → IfSome t (λ files. Causes files root k refused f)
        by None l o f cause = tt
        by (Some files) l o (fault.Load found) cause = absurd cause
        by (Some files) l o (fault.Faults told) cause = (loaded.grammar, record { loaded = loaded; loads = l; only = o; same = refl }, cause)
        by (Some files) l o (fault.Look told) cause = (loaded.grammar, record { loaded = loaded; loads = l; only = o; same = refl }, cause)
        by (Some files) l o (fault.Term told) cause = (loaded.grammar, record { loaded = loaded; loads = l; only = o; same = refl }, cause)
        by (Some files) l o fault.NoMemory cause = tt

    pub built_faults : {T : Type 0} (r : Result T CompileFault) → IfErr r (GrammarCauses loaded.grammar texts k refused) →
        IfErr r (λ f. IfSome told (λ files. Causes files root k refused f))
    built_faults (Ok x) cause = tt
    built_faults (Err f) cause = causes_of_grammar f (subst (λ ts. GrammarCauses loaded.grammar ts k refused f) are cause)

  pub built_holds : (r : Result LanguageView CompileFault) → IfOk r (λ language. language.grammar ≡ loaded.grammar) →
      IfOk r (λ language. IfSome told (λ files. HoldsGrammar files root language.grammar))
  built_holds (Ok language) is = holds_loaded language.grammar is
  built_holds (Err f) is = tt
