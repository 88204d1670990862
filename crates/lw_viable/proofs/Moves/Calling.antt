-- What an instruction gives that reads a token or calls a rule, and what a call of a rule gives from the place of its body on.
use Rattle.std.proofs.Common.{◌≡◌, ℕ, List, [], ◌∷◌, Some, None, slice_get, refl, sym, ap, ◌∙◌, subst, subst₂}
use Rattle.lw_base.specs.declared.token.Span.{Span}
use Rattle.lw_base.specs.declared.numbers.KindId.{KindId}
use Rattle.lw_grammar.specs.declared.grammar.Grammar.{Grammar}
use Rattle.lw_grammar.specs.declared.rule.Element.TheOpen as layer
use Rattle.lw_grammar.specs.declared.rule.Rule.{Rule}
use Rattle.lw_grammar.specs.declared.rule.Value0.{Value0}
use Rattle.lw_grammar.specs.declared.rule.Value0.TheOpen as value
use Rattle.lw_grammar.specs.declared.rule.Value0.TheOpen.{Value0-F}
use Rattle.lw_grammar.specs.Kinds.{Kinds, AreKinds, IsKeywordKind, IsTerminalKind}
use Rattle.lw_grammar.specs.NameRules.{IsNameRule}
use Rattle.lw_grammar.specs.Named.{IsRule}
use Rattle.lw_grammar.specs.Reached.{IsReached}
use Rattle.lw_grammar.proofs.FirstLemmas.{first_place, first_item, one_terminal_kind}
use Rattle.lw_grammar.specs.Marks.{Mark}
use Rattle.lw_grammar.specs.Marks as mark
use Rattle.lw_grammar.specs.Yields.{Yields, Gives, Calls, RuleGives, ValueYields, ValueGives}
use Rattle.lw_grammar.specs.Yields as y
use Rattle.lw_look.specs.Sites.{PartSite, rule_of, body, ◌▸◌, Body, Value, IsPartAt, ElementAt, ValueAt, ValueCallsAt}
use Rattle.lw_look.specs.Sites as site
use Rattle.lw_look.proofs.Apart.{are_apart, no_terminal_is_rule}
use Rattle.lw_grammar.proofs.Naming.{one_name_rule}
use Rattle.lw_look.proofs.Standing.{same_value, one_stands}
use Rattle.lw_look.proofs.Reaching.{calls_reach}
use Rattle.lw_program.specs.declared.instr.Instr.{Instr}
use Rattle.lw_program.specs.declared.instr.Instr.TheVariants.{Token, Call}
use Rattle.lw_program.specs.Says.{Task, Does, Reads, thing_of, CallsBy, SaysTask}
use Rattle.lw_program.specs.Says as say
use Rattle.lw_viable.specs.Gives.{OpensNode, TaskGives, PlacesGive}
use Rattle.lw_viable.specs.Gives as gives
use Rattle.lw_viable.specs.Readings.{IsPlacedTask, HasTask}
use Rattle.lw_viable.specs.Readings as place
use Rattle.lw_viable.proofs.Moves.Doing.{value_form, reads_gives, form_given, form_gives, unlayered_value}

-- ---- a value that is read by a call or a keyword is read as itself

module _ (g : Grammar) (kinds : Kinds) where
  keyword_reads : {v c : Value0} {text : List ℕ} {span : Span} {m : List Mark} → ValueGives g kinds v (value.Keyword text span) c m →
      (c ≡ v) × (k : ℕ) × IsKeywordKind kinds text k × (m ≡ mark.Token k ∷ [])
  keyword_reads (y.keyword_value {k} is) = (refl, k, is, refl)

  call_reads : {v c : Value0} {name : List ℕ} {span : Span} {m : List Mark} → ValueGives g kinds v (value.Call name span) c m → (c ≡ v) × Calls g kinds name m
  call_reads (y.call_value calls) = (refl, calls)

  cross_reads : {v c : Value0} {wanted name : List ℕ} {span : Span} {m : List Mark} → ValueGives g kinds v (value.Cross wanted (Some name) span) c m →
      (c ≡ v) × Calls g kinds name m
  cross_reads (y.cross_value calls) = (refl, calls)

  named_reads : {v c : Value0} {wanted : List ℕ} {span : Span} {m : List Mark} (name : List ℕ) → IsNameRule g wanted name →
      ValueGives g kinds v (value.Cross wanted None span) c m → (c ≡ v) × Calls g kinds name m
  named_reads {wanted} {m} name is (y.cross_by_name other is' calls) =
      (refl, subst (λ n. Calls g kinds n m) (one_name_rule g wanted other name is' is) calls)

  pub formed : {v c : Value0} {s : PartSite} {f : Value0-F Value0} {m : List Mark} → ValueAt g s v f → ValueYields g kinds v c m → ValueGives g kinds v f c m
  formed {v} {c} {m} at r = subst (λ f. ValueGives g kinds v f c m) (value_form g at).1 (unlayered_value g kinds r)

  value_calls : {s : PartSite} {v c : Value0} {name : List ℕ} {m : List Mark} → ValueCallsAt g s v name → ValueYields g kinds v c m →
      (c ≡ v) × Calls g kinds name m
  value_calls (site.calls at) r = call_reads (formed at r)
  value_calls (site.crosses at) r = cross_reads (formed at r)
  value_calls (site.crosses_by_name name at is) r = named_reads name is (formed at r)

  reading : {s : PartSite} {v c : Value0} {f : Value0-F Value0} {m : List Mark} → ValueAt g s v f → ValueGives g kinds v f c m → TaskGives g kinds (Reads s) m
  reading (site.value_at stands) r = gives.reads stands (y.reads r)

  value_called : {s : PartSite} {v : Value0} {name : List ℕ} {m : List Mark} → ValueCallsAt g s v name → Calls g kinds name m → TaskGives g kinds (Reads s) m
  value_called (site.calls at) c = reading at (y.call_value c)
  value_called (site.crosses at) c = reading at (y.cross_value c)
  value_called (site.crosses_by_name name at is) c = reading at (y.cross_by_name name is c)

  value_stands : {s : PartSite} {v : Value0} {name : List ℕ} → ValueCallsAt g s v name → IsPartAt g s (Value v)
  value_stands (site.calls at) = (value_form g at).0
  value_stands (site.crosses at) = (value_form g at).0
  value_stands (site.crosses_by_name name at is) = (value_form g at).0

  -- ---- an instruction that reads a token, or calls a rule

  -- the task gives this token, and nothing else
  pub record GivesToken (t : Task) (k : ℕ) : Type 0 where
    pub given : TaskGives g kinds t (mark.Token k ∷ [])
    pub only : {m : List Mark} → TaskGives g kinds t m → m ≡ mark.Token k ∷ []

  -- the task calls the rule, which can be reached, and gives what a call of it gives
  pub record CallsRule (t : Task) (r : ℕ) (rule : Rule) : Type 0 where
    pub there : slice_get g.rules r ≡ Some rule
    pub reached : IsReached g r
    pub given : {m : List Mark} → RuleGives g kinds r rule m → TaskGives g kinds t m
    pub gives : {m : List Mark} → TaskGives g kinds t m → RuleGives g kinds r rule m

  token_called : {name : List ℕ} {k : ℕ} {m : List Mark} → IsTerminalKind g kinds name k → Calls g kinds name m → m ≡ mark.Token k ∷ []
  token_called {name} {k} is (y.terminal {k = l} is') = ap (λ k. mark.Token k ∷ []) (one_terminal_kind g kinds name l k is' is)
  token_called {name} {k} is (y.rule_ r rule is' p) = absurd (no_terminal_is_rule g kinds name k r rule is is')

  rule_called : {name : List ℕ} {r : ℕ} {rule : Rule} {m : List Mark} → IsRule g name r rule → Calls g kinds name m → RuleGives g kinds r rule m
  rule_called {name} {r} {rule} is (y.terminal {k} is') = absurd (no_terminal_is_rule g kinds name k r rule is' is)
  rule_called {m} is (y.rule_ q other is' p) =
      subst₂ (λ r rule. RuleGives g kinds r rule m) (first_place is'.first is.first) (first_item is'.first is.first) p

  module _ (are : AreKinds g kinds) (tasks : List Task) where
    by_call : {t : Task} {k : KindId} {name : List ℕ} → CallsBy g kinds name (Token k) → ((m : List Mark) → Calls g kinds name m → TaskGives g kinds t m) →
        ((m : List Mark) → TaskGives g kinds t m → Calls g kinds name m) → GivesToken t k.0
    by_call (say.terminal is) to from = record { given = to _ (y.terminal is); only = λ p. token_called is (from _ p) }

    by_rule : {t : Task} {r : ℕ} {name : List ℕ} → CallsBy g kinds name (Call r) → ((rule : Rule) → IsRule g name r rule → IsReached g r) →
        ((m : List Mark) → Calls g kinds name m → TaskGives g kinds t m) → ((m : List Mark) → TaskGives g kinds t m → Calls g kinds name m) →
        (rule : Rule) × CallsRule t r rule
    by_rule {r} (say.rule_ {rule} is) reach to from =
        (rule, record { there = is.first.there; reached = reach rule is; given = λ p. to _ (y.rule_ r rule is p); gives = λ p. rule_called is (from _ p) })

    one_keyword : {text : List ℕ} {k l : ℕ} → IsKeywordKind kinds text k → IsKeywordKind kinds text l → k ≡ l
    one_keyword {text} {k} {l} is other = (are_apart g kinds are).keywords text k l is other

    keyword_given : {text : List ℕ} {span : Span} {k : ℕ} {m : List Mark} → IsKeywordKind kinds text k → Gives g kinds (layer.Keyword text span) m →
        m ≡ mark.Token k ∷ []
    keyword_given is (y.keyword other) = ap (λ k. mark.Token k ∷ []) (one_keyword other is)

    call_given : {name : List ℕ} {span : Span} {m : List Mark} → Gives g kinds (layer.Call name span) m → Calls g kinds name m
    call_given (y.called c) = c

    pub token_said : {t : Task} {k : KindId} → SaysTask g kinds tasks t (Token k) → GivesToken t k.0
    token_said (say.keyword at is) = record { given = form_given g kinds at (y.keyword is); only = λ p. keyword_given is (form_gives g kinds at p) }
    token_said (say.called at by) = by_call by (λ m c. form_given g kinds at (y.called c)) (λ m p. call_given (form_gives g kinds at p))
    token_said (say.reads_keyword at is) = record {
      given = reading at (y.keyword_value is);
      only = λ p.
          let (c, r) = reads_gives g kinds (value_form g at).0 p in
          let (same, k, other, is_token) = keyword_reads (formed at r) in
          is_token ∙ ap (λ k. mark.Token k ∷ []) (one_keyword other is);
    }
    token_said (say.reads_call at by) =
        by_call by (λ m c. value_called at c) (λ m p. (value_calls at (reads_gives g kinds (value_stands at) p).1).1)

    pub call_said : {t : Task} {r : ℕ} → SaysTask g kinds tasks t (Call r) → IsPlacedTask g t → (rule : Rule) × CallsRule t r rule
    call_said (say.called at by) (place.element stands reached) =
        by_rule by (λ rule is. calls_reach g (site.calls at is) reached) (λ m c. form_given g kinds at (y.called c)) (λ m p. call_given (form_gives g kinds at p))
    call_said (say.reads_call at by) (place.reads stands reached) =
        by_rule by (λ rule is. calls_reach g (site.reads at is) reached) (λ m c. value_called at c)
        (λ m p. (value_calls at (reads_gives g kinds (value_stands at) p).1).1)

    -- the text of a value that has a place is read as the value itself
    pub read_itself : {s : PartSite} {v c : Value0} {i : Instr} {m : List Mark} → SaysTask g kinds tasks (Reads s) i → IsPartAt g s (Value v) →
        ValueYields g kinds v c m → c ≡ v
    read_itself {s} {v} {c} {m} (say.reads_keyword {v = w} at is) stands r =
        let same : w ≡ v = same_value (one_stands g (value_form g at).0 stands) in
        (keyword_reads (formed at (subst (λ v. ValueYields g kinds v c m) (sym same) r))).0 ∙ same
    read_itself {s} {v} {c} {m} (say.reads_call {v = w} at by) stands r =
        let same : w ≡ v = same_value (one_stands g (value_stands at) stands) in
        (value_calls at (subst (λ v. ValueYields g kinds v c m) (sym same) r)).0 ∙ same
