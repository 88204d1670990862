-- What an element, a value or a call reads, and which calls it leads to, by its form.
use Rattle.std.proofs.Common.{◌≡◌, ℕ, ◌+◌, List, [], ◌∷◌, Some, None, ◌⊎◌, inl, inr, Contains, refl, sym, subst}
use Rattle.lw_grammar.specs.declared.grammar.Grammar.{Grammar}
use Rattle.lw_grammar.specs.declared.rule.Element.{Element, out-Element}
use Rattle.lw_grammar.specs.declared.rule.Element.TheOpen as layer
use Rattle.lw_grammar.specs.declared.rule.Element.TheOpen.{Element-F}
use Rattle.lw_grammar.specs.declared.rule.Value0.{Value0, out-Value0}
use Rattle.lw_grammar.specs.declared.rule.Value0.TheOpen as value
use Rattle.lw_grammar.specs.declared.rule.Value0.TheOpen.{Value0-F}
use Rattle.lw_grammar.specs.declared.rule.Rule.{Rule}
use Rattle.lw_grammar.specs.Named.{IsRule}
use Rattle.lw_grammar.specs.NameRules.{IsNameRule}
use Rattle.lw_grammar.proofs.FirstLemmas.{first_item}
use Rattle.lw_faults.specs.Reads.{IsTokenCall, MayRead, ReadsLayer, ReadsAll, ReadsAgain, CallReads, ValueReads, ValueReadsLayer, ValueLeads, ValueLeadsLayer, Leads, LeadsLayer, LeadsAll}
use Rattle.lw_faults.specs.Reads as read

module _ (g : Grammar) where
  -- ---- what is read
  abbrev pub ReadsBy : Element-F Element → ℕ → Type 0
  ReadsBy (layer.Keyword text s) n = n ≡ 1
  ReadsBy (layer.Call name s) n = CallReads g name n
  ReadsBy (layer.Assign p op v s) n = ValueReads g v n
  ReadsBy (layer.Act a) n = n ≡ 0
  ReadsBy (layer.Group es s) n = ReadsAll g es n
  ReadsBy (layer.Choice es s) n = (e : Element) × Contains es e × MayRead g e n
  ReadsBy (layer.Maybe e s) n = (n ≡ 0) ⊎ MayRead g e n
  ReadsBy (layer.Many e s) n = ReadsAgain g e n
  ReadsBy (layer.Some1 e s) n = (m : ℕ) × (k : ℕ) × MayRead g e m × ReadsAgain g e k × (n ≡ m + k)

  by_layer : {f : Element-F Element} {n : ℕ} → ReadsLayer g f n → ReadsBy f n
  by_layer read.keyword = refl
  by_layer (read.called does) = does
  by_layer (read.assigned does) = does
  by_layer read.acted = refl
  by_layer (read.grouped does) = does
  by_layer (read.chosen {e} has does) = (e, has, does)
  by_layer read.skipped = inl refl
  by_layer (read.taken does) = inr does
  by_layer (read.repeated does) = does
  by_layer (read.repeated_once {m} {n} does others) = (m, n, does, others, refl)

  to_layer : (f : Element-F Element) (n : ℕ) → ReadsBy f n → ReadsLayer g f n
  to_layer (layer.Keyword text s) n is = subst (ReadsLayer g (layer.Keyword text s)) (sym is) read.keyword
  to_layer (layer.Call name s) n does = read.called does
  to_layer (layer.Assign p op v s) n does = read.assigned does
  to_layer (layer.Act a) n is = subst (ReadsLayer g (layer.Act a)) (sym is) read.acted
  to_layer (layer.Group es s) n does = read.grouped does
  to_layer (layer.Choice es s) n (e, has, does) = read.chosen has does
  to_layer (layer.Maybe e s) n (inl is) = subst (ReadsLayer g (layer.Maybe e s)) (sym is) read.skipped
  to_layer (layer.Maybe e s) n (inr does) = read.taken does
  to_layer (layer.Many e s) n does = read.repeated does
  to_layer (layer.Some1 e s) n (m, k, does, others, is) = subst (ReadsLayer g (layer.Some1 e s)) (sym is) (read.repeated_once does others)

  pub what_reads : {e : Element} {f : Element-F Element} {n : ℕ} → out-Element e ≡ f → MayRead g e n → ReadsBy f n
  what_reads {e} {f} {n} is (read.reads does) = by_layer (subst (λ x. ReadsLayer g x n) is does)

  pub can_read : {e : Element} {f : Element-F Element} {n : ℕ} → out-Element e ≡ f → ReadsBy f n → MayRead g e n
  can_read {e} {f} {n} is does = read.reads (subst (λ x. ReadsLayer g x n) (sym is) (to_layer f n does))

  -- ---- by a row
  pub row_reads : {e : Element} {es : List Element} {n : ℕ} → ReadsAll g (e ∷ es) n → (m : ℕ) × (k : ℕ) × MayRead g e m × ReadsAll g es k × (n ≡ m + k)
  row_reads (read.more {m} {n} first others) = (m, n, first, others, refl)

  pub row_ends : {n : ℕ} → ReadsAll g [] n → n ≡ 0
  row_ends read.none = refl

  -- ---- by a value
  abbrev pub ValueReadsBy : Value0-F Value0 → ℕ → Type 0
  ValueReadsBy (value.Keyword text s) n = n ≡ 1
  ValueReadsBy (value.Call name s) n = CallReads g name n
  ValueReadsBy (value.Cross wanted (Some name) s) n = CallReads g name n
  ValueReadsBy (value.Cross wanted None s) n = ((name : List ℕ) × IsNameRule g wanted name × CallReads g name n) ⊎ (n ≡ 1)
  ValueReadsBy (value.Choice vs s) n = (v : Value0) × Contains vs v × ValueReads g v n

  by_value : {f : Value0-F Value0} {n : ℕ} → ValueReadsLayer g f n → ValueReadsBy f n
  by_value read.keyword_value = refl
  by_value (read.call_value does) = does
  by_value (read.cross_value does) = does
  by_value (read.cross_by_name name is does) = inl (name, is, does)
  by_value (read.cross_by_none none) = inr refl
  by_value (read.chosen_value {v} has does) = (v, has, does)

  pub what_value_reads : {v : Value0} {f : Value0-F Value0} {n : ℕ} → out-Value0 v ≡ f → ValueReads g v n → ValueReadsBy f n
  what_value_reads {v} {f} {n} is (read.value_reads does) = by_value (subst (λ x. ValueReadsLayer g x n) is does)

  -- ---- by a call
  pub token_reads : {name : List ℕ} {n : ℕ} → IsTokenCall g name → CallReads g name n → n ≡ 1
  token_reads none (read.token _) = refl
  token_reads none (read.rule_ r rule is _) = absurd (none r rule is)

  pub rule_reads : {name : List ℕ} {n r : ℕ} {rule : Rule} → IsRule g name r rule → CallReads g name n → MayRead g rule.body n
  rule_reads {name} {n} {r} {rule} is (read.token none) = absurd (none r rule is)
  rule_reads {name} {n} {r} {rule} is (read.rule_ q other was does) = subst (λ (x : Rule). MayRead g x.body n) (first_item was.first is.first) does

  -- ---- which calls come before any token
  abbrev pub LeadsBy : Element-F Element → List ℕ → Type 0
  LeadsBy (layer.Keyword text s) name = ⊥
  LeadsBy (layer.Call called s) name = name ≡ called
  LeadsBy (layer.Assign p op v s) name = ValueLeads g v name
  LeadsBy (layer.Act a) name = ⊥
  LeadsBy (layer.Group es s) name = LeadsAll g es name
  LeadsBy (layer.Choice es s) name = (e : Element) × Contains es e × Leads g e name
  LeadsBy (layer.Maybe e s) name = Leads g e name
  LeadsBy (layer.Many e s) name = Leads g e name
  LeadsBy (layer.Some1 e s) name = Leads g e name

  leads_by_layer : {f : Element-F Element} {name : List ℕ} → LeadsLayer g f name → LeadsBy f name
  leads_by_layer read.called = refl
  leads_by_layer (read.assigned does) = does
  leads_by_layer (read.grouped does) = does
  leads_by_layer (read.chosen {e} has does) = (e, has, does)
  leads_by_layer (read.taken does) = does
  leads_by_layer (read.repeated does) = does
  leads_by_layer (read.repeated_once does) = does

  pub what_leads : {e : Element} {f : Element-F Element} {name : List ℕ} → out-Element e ≡ f → Leads g e name → LeadsBy f name
  what_leads {e} {f} {name} is (read.leads does) = leads_by_layer (subst (λ x. LeadsLayer g x name) is does)

  pub can_lead : {e : Element} {f : Element-F Element} {name : List ℕ} → out-Element e ≡ f → LeadsLayer g f name → Leads g e name
  can_lead {e} {f} {name} is does = read.leads (subst (λ x. LeadsLayer g x name) (sym is) does)

  abbrev pub ValueLeadsBy : Value0-F Value0 → List ℕ → Type 0
  ValueLeadsBy (value.Keyword text s) name = ⊥
  ValueLeadsBy (value.Call called s) name = name ≡ called
  ValueLeadsBy (value.Cross wanted (Some called) s) name = name ≡ called
  ValueLeadsBy (value.Cross wanted None s) name = IsNameRule g wanted name
  ValueLeadsBy (value.Choice vs s) name = (v : Value0) × Contains vs v × ValueLeads g v name

  leads_by_value : {f : Value0-F Value0} {name : List ℕ} → ValueLeadsLayer g f name → ValueLeadsBy f name
  leads_by_value read.call_value = refl
  leads_by_value read.cross_value = refl
  leads_by_value (read.cross_by_name name is) = is
  leads_by_value (read.chosen_value {v} has does) = (v, has, does)

  pub what_value_leads : {v : Value0} {f : Value0-F Value0} {name : List ℕ} → out-Value0 v ≡ f → ValueLeads g v name → ValueLeadsBy f name
  what_value_leads {v} {f} {name} is (read.value_leads does) = leads_by_value (subst (λ x. ValueLeadsLayer g x name) is does)

  pub value_can_lead : {v : Value0} {f : Value0-F Value0} {name : List ℕ} → out-Value0 v ≡ f → ValueLeadsLayer g f name → ValueLeads g v name
  value_can_lead {v} {f} {name} is does = read.value_leads (subst (λ x. ValueLeadsLayer g x name) (sym is) does)
