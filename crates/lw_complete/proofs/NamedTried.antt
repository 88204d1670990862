-- Which starts a name is read as, and whether it is offered.
use Rattle.std.proofs.Common.{◌≡◌, ◌↔◌, ◌++◌, ◌⊎◌, inl, inr, ℕ, List, Bool, true, false, Result, IfOk, IsTrue, Contains, refl, sym, subst, true≢false}
use Rattle.std.proofs.lemmas.Result.{IfOk-weaker}
use Rattle.lw_grammar.specs.Kinds.{Kinds}
use Rattle.lw_program.specs.Says.{Task}
use Rattle.lw_scoping.specs.Links.{Trees}
use Rattle.lw_base.specs.declared.token.Token.{Token}
use Rattle.lw_tokens.specs.Cut.{IsCut}
use Rattle.lw_tokens.specs.Lexicon.{Lexicon}
use Rattle.lw_tree.specs.declared.node.Reference.{Reference}
use Rattle.lw_tree.specs.Parts.{Parts}
use Rattle.lw_places.specs.Starting.{ReferenceNext}
use Rattle.lw_places.specs.Words.{BeginsBy}
use Rattle.lw_complete.specs.declared.judging.Judgement.{Judgement}
use Rattle.lw_complete.specs.declared.judging.Judgement.TheVariants.{Leads, LeadsNowhere, NoReference}
use Rattle.lw_complete.specs.declared.known.Known.{Known}
use Rattle.lw_complete.specs.declared.typing.Typing.{Typing}
use Rattle.lw_complete.specs.Judged.{IsJudgement, LeadsWhole, StandsWhole}
use Rattle.lw_complete.specs.Starts.{ComesAt, IsLedBy, IsOfferedBy, IsReadAt, IsReadAsStart}

-- ---- one start

module _ (of : Kinds) (tasks : List Task) (typing : Typing) (leads : Bool) (added : List Token) (name : List ℕ) (one : Known) where
  pub not_led : ¬ (IsTrue leads → Contains one.front.names name) → ¬ IsReadAt of tasks typing leads added name one
  not_led not (next, at, read, has) = not has

  pub read_at : (r : Bool) → (IsTrue leads → Contains one.front.names name) → (next : ReferenceNext) × ComesAt of typing next one.start.now →
      ((next : ReferenceNext) → ComesAt of typing next one.start.now → IsTrue r ↔ IsReadAsStart of tasks typing next one.start.now added name) →
      IsTrue r ↔ IsReadAt of tasks typing leads added name one
  read_at r has (next, at) told = (
    λ yes. (next, at, (told next at).0 yes, has),
    λ (other, there, read, also). (told other there).1 read,
  )

-- ---- whether a name leads somewhere

module _ (of : Kinds) (tasks : List Task) (typing : Typing) (trees : Trees) (address : List ℕ) (known : List Known) (added : List Token) (name : List ℕ) where
  abbrev pub IsLed : Type 0
  IsLed = IsLedBy of tasks typing trees address known added name

  abbrev pub SomeRead : Bool → Type 0
  SomeRead leads = (one : Known) × Contains known one × IsReadAt of tasks typing leads added name one

  not_led_whole : IsJudgement typing trees address name LeadsNowhere → ¬ IsLed
  not_led_whole ((tree, r, stands), nowhere) is = by is.whole
    where
      by : LeadsWhole typing trees address name ⊎ (IsTrue is.judged × ((tree : Parts) (r : Reference) → ¬ StandsWhole typing trees address name tree r)) → ⊥
      by (inl led) = nowhere led
      by (inr (judged, none)) = none tree r stands

  by_whole : IsJudgement typing trees address name Leads → (r : Bool) → IsTrue r ↔ SomeRead false → IsTrue r ↔ IsLed
  by_whole leads r read = (
    λ yes. let (one, among, reads) = read.0 yes in record { one = one; among = among; judged = false; reads = reads; whole = inl leads },
    λ (is : IsLed). (
        let (next, at, read_by, has) = is.reads in
        read.1 (is.one, is.among, (next, at, read_by, λ no. absurd (true≢false (sym no))))
        ),
  )

  by_front : IsJudgement typing trees address name NoReference → (r : Bool) → IsTrue r ↔ SomeRead true → IsTrue r ↔ IsLed
  by_front none r read = (
    λ yes. let (one, among, reads) = read.0 yes in record { one = one; among = among; judged = true; reads = reads; whole = inr (refl, none) },
    λ (is : IsLed). (
        let (next, at, read_by, has) = is.reads in
        read.1 (is.one, is.among, (next, at, read_by, λ yes. has (judged_front is.judged is.whole)))
        ),
  )
    where
      judged_front : (judged : Bool) → LeadsWhole typing trees address name ⊎ (IsTrue judged × ((tree : Parts) (r : Reference) → ¬ StandsWhole typing trees address name tree r)) →
          IsTrue judged
      judged_front judged (inl (tree, r, stands, target)) = absurd (none tree r stands)
      judged_front judged (inr (is, others)) = is

  -- by what is told of it, and of how it is read
  module _ (told : Judgement) (judged : IsJudgement typing trees address name told) where
    pub led_nowhere : told ≡ LeadsNowhere → ¬ IsLed
    led_nowhere is = not_led_whole (subst (IsJudgement typing trees address name) is judged)

    pub led_whole : told ≡ Leads → {E : Type 0} (r : Result Bool E) → IfOk r (λ read. IsTrue read ↔ SomeRead false) → IfOk r (λ led. IsTrue led ↔ IsLed)
    led_whole is r =
        IfOk-weaker r (λ read. IsTrue read ↔ SomeRead false) (λ led. IsTrue led ↔ IsLed) (by_whole (subst (IsJudgement typing trees address name) is judged))

    pub led_front : told ≡ NoReference → {E : Type 0} (r : Result Bool E) → IfOk r (λ read. IsTrue read ↔ SomeRead true) → IfOk r (λ led. IsTrue led ↔ IsLed)
    led_front is r =
        IfOk-weaker r (λ read. IsTrue read ↔ SomeRead true) (λ led. IsTrue led ↔ IsLed) (by_front (subst (IsJudgement typing trees address name) is judged))

-- ---- whether it is offered

module _ (of : Kinds) (lexicon : Lexicon) (tasks : List Task) (typing : Typing) (trees : Trees) (address : List ℕ) (known : List Known) (name : List ℕ) where
  abbrev pub IsOffered : Type 0
  IsOffered = IsOfferedBy of lexicon tasks typing trees address known name

  -- it comes to these tokens behind the text before the word, and to no others
  pub offered_by : BeginsBy typing.word.now name → (added : List Token) → IsCut lexicon (typing.front.now ++ name) (typing.tokens.now ++ added) →
      ((others : List Token) → IsCut lexicon (typing.front.now ++ name) (typing.tokens.now ++ others) → others ≡ added) → (r : Bool) →
      IsTrue r ↔ IsLedBy of tasks typing trees address known added name → IsTrue r ↔ IsOffered
  offered_by begins added cut only r led = (
    λ yes. record { begins = begins; added = added; cut = cut; led = led.0 yes },
    λ (is : IsOffered). led.1 (subst (λ (ts : List Token). IsLedBy of tasks typing trees address known ts name) (only is.added is.cut) is.led),
  )
