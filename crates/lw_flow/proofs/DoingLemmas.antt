-- What an element may do, by its form, and what the first of a row may do.
use Rattle.std.proofs.Common.{◌≡◌, ◌↔◌, ◌⊎◌, ℕ, suc, ◌+◌, ◌<◌, get_or, take, add-one, List, [], Result, Ok, Err, IfOk, Some, length, slice_get, Contains, refl, sym, ◌∙◌, subst, inl, inr, arith}
use Rattle.std.specs.HashSet.{HashSet}
use Rattle.std.proofs.lemmas.Option.{same_Some, slice_get_within}
use Rattle.lw_base.specs.declared.token.Span.{Span}
use Rattle.lw_grammar.specs.declared.grammar.Grammar.{Grammar}
use Rattle.lw_grammar.specs.declared.rule.Action.{Action}
use Rattle.lw_grammar.specs.declared.rule.Element.{Element, out-Element}
use Rattle.lw_grammar.specs.declared.rule.Element.TheOpen.{Element-F, Keyword, Call, Assign, Act, Group, Choice, Maybe, Many, Some1}
use Rattle.lw_grammar.specs.declared.rule.Op.{Op}
use Rattle.lw_grammar.specs.declared.rule.Value0.{Value0}
use Rattle.lw_grammar.specs.Leaves.{Leaf}
use Rattle.lw_grammar.proofs.FirstLemmas.{first_place}
use Rattle.lw_flow.specs.declared.callee.Callee.{Callee}
use Rattle.lw_flow.specs.declared.callee.Callee.TheVariants.{Fragment}
use Rattle.lw_flow.specs.Rows.{InTable}
use Rattle.lw_flow.specs.declared.effect.Effect.{Effect}
use Rattle.lw_flow.specs.declared.effect.Effect.TheVariants.{Nothing, Fills, Acts}
use Rattle.lw_flow.specs.Callees.{IsCallee}
use Rattle.lw_flow.specs.Callees as call
use Rattle.lw_flow.specs.Effects.{joined_effect, type_number, StepDoes}
use Rattle.lw_flow.specs.Effects as effect
use Rattle.lw_flow.specs.Passing.{Does, DoesLayer, DoesFirst, DoesTurns, CalleeDoes, CallDoes}
use Rattle.lw_flow.specs.Passing as pass
use Rattle.indexmap.specs.IndexSet.{insert_all}
use Rattle.lw_flow.specs.contracts.effect.EffectPartialEq.TheImpl.{eq-value}
use Rattle.lw_flow.specs.Sets.{AddsFrom, IsJoined}
use Rattle.lw_flow.proofs.CurrentLemmas.{call_does}
use Rattle.lw_flow.proofs.SetLemmas.{adds_step, in_all, effect_exact, nothing_in}

pub via : {A B C : Type 0} → A ↔ B → B ↔ C → A ↔ C
via one two = (λ a. two.0 (one.0 a), λ c. one.1 (two.1 c))

module _ {S E : Type 0} (r : Result (HashSet Effect S) E) where
  -- a set of exactly these is one of exactly those
  pub carry : (A B : Effect → Type 0) → ((x : Effect) → A x ↔ B x) → IfOk r (λ set. (x : Effect) → Contains set.keys x ↔ A x) →
      IfOk r (λ set. (x : Effect) → Contains set.keys x ↔ B x)
  carry A B iff = by r
    where
      by : (r : Result (HashSet Effect S) E) → IfOk r (λ set. (x : Effect) → Contains set.keys x ↔ A x) → IfOk r (λ set. (x : Effect) → Contains set.keys x ↔ B x)
      by (Ok set) h = λ x. via (h x) (iff x)
      by (Err e) h = tt

module _ (g : Grammar) (table : ℕ → Effect → Type 0) where
  step_once : {l : Leaf} {x y : Effect} → StepDoes g l x → StepDoes g l y → x ≡ y
  step_once (effect.reads none) (effect.reads _) = refl
  step_once (effect.reads none) (effect.calls called calls) = absurd (none (called, calls))
  step_once (effect.calls called calls) other = sym (call_does g calls other)
  step_once effect.fills effect.fills = refl
  step_once effect.acts effect.acts = refl

  module _ {e : Element} {f : Element-F Element} (is : out-Element e ≡ f) where
    pub as_layer : (x : Effect) → DoesLayer g table f x ↔ Does g table e x
    as_layer x = (λ may. pass.does (subst (λ f. DoesLayer g table f x) (sym is) may), λ may. out may is)
      where
        out : {e : Element} → Does g table e x → out-Element e ≡ f → DoesLayer g table f x
        out (pass.does may) is = subst (λ f. DoesLayer g table f x) is may

  pub keyword_does : {text : List ℕ} {s : Span} (x : Effect) → (x ≡ Nothing) ↔ DoesLayer g table (Keyword text s) x
  keyword_does {text} {s} x = (λ is. subst (DoesLayer g table (Keyword text s)) (sym is) DoesLayer.keyword, out)
    where
      out : {x : Effect} → DoesLayer g table (Keyword text s) x → x ≡ Nothing
      out DoesLayer.keyword = refl

  pub assign_does : {p : List ℕ} {op : Op} {v : Value0} {s : Span} (x : Effect) → (x ≡ Fills) ↔ DoesLayer g table (Assign p op v s) x
  assign_does {p} {op} {v} {s} x = (λ is. subst (DoesLayer g table (Assign p op v s)) (sym is) DoesLayer.assigned, out)
    where
      out : {x : Effect} → DoesLayer g table (Assign p op v s) x → x ≡ Fills
      out DoesLayer.assigned = refl

  pub act_does : {a : Action} (x : Effect) → (x ≡ Acts (type_number g a.type_name)) ↔ DoesLayer g table (Act a) x
  act_does {a} x = (λ is. subst (DoesLayer g table (Act a)) (sym is) DoesLayer.acted, out)
    where
      out : {x : Effect} → DoesLayer g table (Act a) x → x ≡ Acts (type_number g a.type_name)
      out DoesLayer.acted = refl

  callee_does : {name : List ℕ} {s : Span} {c : Callee} → IsCallee g name c → (x : Effect) → CalleeDoes g table c x ↔ DoesLayer g table (Call name s) x
  callee_does {name} {s} (call.fragment f rule is part) x = (λ there. DoesLayer.put_in f rule (is, part) there, out)
    where
      out : {x : Effect} → DoesLayer g table (Call name s) x → table f x
      out (DoesLayer.called single _) = absurd (single (f, rule, (is, part)))
      out (DoesLayer.put_in {x} other _ also there) = subst (λ n. table n x) (first_place also.0.first is.first) there
  callee_does {name} {s} (call.step y single may) x = (λ is. subst (DoesLayer g table (Call name s)) (sym is) (DoesLayer.called (single s) (may s)), out)
    where
      out : {x : Effect} → DoesLayer g table (Call name s) x → x ≡ y
      out (DoesLayer.called _ does) = step_once does (may s)
      out (DoesLayer.put_in f rule also _) = absurd (single s (f, rule, also))

  pub call_does_so : {name : List ℕ} {s : Span} {effects : List Effect} → CallDoes g table name effects → (x : Effect) → Contains effects x ↔ DoesLayer g table (Call name s) x
  call_does_so so x = via (so.exact x) (callee_does so.is x)

  pub group_does : {es : List Element} {s : Span} (x : Effect) → DoesFirst g table es (length es) x ↔ DoesLayer g table (Group es s) x
  group_does {es} {s} x = (λ first. DoesLayer.grouped first, out)
    where
      out : {x : Effect} → DoesLayer g table (Group es s) x → DoesFirst g table es (length es) x
      out (DoesLayer.grouped first) = first

  pub choice_does : {es : List Element} {s : Span} (x : Effect) → (Contains {X = Effect} [] x ⊎ ((e : Element) × Contains es e × Does g table e x)) ↔ DoesLayer g table (Choice es s) x
  choice_does {es} {s} x = (λ either. elim either [ inl (k, inside, is) ↦ absurd (omega (arith, inside)) | inr (e, has, may) ↦ DoesLayer.chosen has may ], out)
    where
      out : {x : Effect} → DoesLayer g table (Choice es s) x → Contains {X = Effect} [] x ⊎ ((e : Element) × Contains es e × Does g table e x)
      out (DoesLayer.chosen {e} has may) = inr (e, has, may)

  pub maybe_does : {e : Element} {s : Span} (x : Effect) → DoesTurns g table e x ↔ DoesLayer g table (Maybe e s) x
  maybe_does {e} {s} x = (into, out)
    where
      into : {x : Effect} → DoesTurns g table e x → DoesLayer g table (Maybe e s) x
      into pass.no_turn = DoesLayer.skipped
      into (pass.turn may) = DoesLayer.taken may

      out : {x : Effect} → DoesLayer g table (Maybe e s) x → DoesTurns g table e x
      out DoesLayer.skipped = pass.no_turn
      out (DoesLayer.taken may) = pass.turn may

  pub many_does : {e : Element} {s : Span} (x : Effect) → DoesTurns g table e x ↔ DoesLayer g table (Many e s) x
  many_does {e} {s} x = (into, out)
    where
      into : {x : Effect} → DoesTurns g table e x → DoesLayer g table (Many e s) x
      into pass.no_turn = DoesLayer.stopped
      into (pass.turn may) = DoesLayer.repeated may

      out : {x : Effect} → DoesLayer g table (Many e s) x → DoesTurns g table e x
      out DoesLayer.stopped = pass.no_turn
      out (DoesLayer.repeated may) = pass.turn may

  pub some_does : {e : Element} {s : Span} (x : Effect) → Does g table e x ↔ DoesLayer g table (Some1 e s) x
  some_does {e} {s} x = (λ may. DoesLayer.repeated_once may, out)
    where
      out : {x : Effect} → DoesLayer g table (Some1 e s) x → Does g table e x
      out (DoesLayer.repeated_once may) = may

  pub turns_do : {e : Element} (x : Effect) → (Does g table e x ⊎ (x ≡ Nothing)) ↔ DoesTurns g table e x
  turns_do {e} x = (λ either. elim either [ inl may ↦ pass.turn may | inr is ↦ subst (DoesTurns g table e) (sym is) pass.no_turn ], out)
    where
      out : {x : Effect} → DoesTurns g table e x → Does g table e x ⊎ (x ≡ Nothing)
      out pass.no_turn = inr refl
      out (pass.turn may) = inl may

  -- ---- the first of a row

  pub first_none : {es : List Element} (x : Effect) → (x ≡ Nothing) ↔ DoesFirst g table es 0 x
  first_none {es} x = (λ is. subst (DoesFirst g table es 0) (sym is) pass.nothing, out)
    where
      out : {x : Effect} → DoesFirst g table es 0 x → x ≡ Nothing
      out pass.nothing = refl

  pub first_more : {es : List Element} {k : ℕ} {e : Element} → slice_get es k ≡ Some e → (z : Effect) →
      ((x : Effect) × (y : Effect) × DoesFirst g table es k x × Does g table e y × (z ≡ joined_effect x y)) ↔ DoesFirst g table es (suc k) z
  first_more {es} {k} {e} at z = (λ (x, y, first, may, is). subst (DoesFirst g table es (suc k)) (sym is) (pass.one_more first at may), out)
    where
      out : {z : Effect} → DoesFirst g table es (suc k) z → (x : Effect) × (y : Effect) × DoesFirst g table es k x × Does g table e y × (z ≡ joined_effect x y)
      out (pass.one_more {e = d} {x} {y} first also may) = (x, y, first, subst (λ d. Does g table d y) (same_Some d e (sym also ∙ at)) may, refl)

  pub row_step : {es : List Element} {k : ℕ} {e : Element} → slice_get es k ≡ Some e → (all more xs ys : List Effect) → xs ≡ all → ys ≡ more →
      ((x : Effect) → Contains all x ↔ DoesFirst g table es k x) → ((y : Effect) → Contains more y ↔ Does g table e y) → (z : Effect) →
      IsJoined xs ys z ↔ DoesFirst g table es (k + 1) z
  row_step {es} {k} {e} at all more xs ys xs_is ys_is first last z = via (inner z) (subst (λ n. DoesFirst g table es (suc k) z ↔ DoesFirst g table es n z) (sym (add-one k)) (λ d. d, λ d. d))
    where
      inner : (z : Effect) → IsJoined xs ys z ↔ DoesFirst g table es (suc k) z
      inner z = via (
        λ (x, y, hx, hy, is).
            (x, y, (first x).0 (subst (λ zs. Contains zs x) xs_is hx), (last y).0 (subst (λ zs. Contains zs y) ys_is hy), is),
        λ (x, y, dx, dy, is).
            (x, y, subst (λ zs. Contains zs x) (sym xs_is) ((first x).1 dx), subst (λ zs. Contains zs y) (sym ys_is) ((last y).1 dy), is),
      ) (first_more at z)

  pub any_step : (es : List Element) (i : ℕ) (e : Element) → i < length es → e ≡ get_or es i e → (mid new more xs : List Effect) → new ≡ insert_all (eq-value).it mid xs →
      xs ≡ more → ((y : Effect) → Contains more y ↔ Does g table e y) → AddsFrom (Does g table) [] (take i es) mid → AddsFrom (Does g table) [] (take (i + 1) es) new
  any_step es i e inside is mid new more xs put xs_is last before =
      adds_step (Does g table) [] mid new es i e inside before (λ y. via (put_in y) (
        λ either. elim either [ inl old ↦ inl old | inr has ↦ inr (subst (λ d. Does g table d y) is ((last y).0 (subst (λ zs. Contains zs y) xs_is has))) ],
        λ either. elim either [ inl old ↦ inl old | inr may ↦ inr (subst (λ zs. Contains zs y) (sym xs_is) ((last y).1 (subst (λ d. Does g table d y) (sym is) may))) ],
      ))
    where
      put_in : (y : Effect) → Contains new y ↔ (Contains mid y ⊎ Contains xs y)
      put_in y = subst (λ zs. Contains zs y ↔ (Contains mid y ⊎ Contains xs y)) (sym put) (in_all effect_exact mid xs y)

-- a copy of a row of the table
module _ {S : Type 0} (table : List (HashSet Effect S)) (f : ℕ) (row : HashSet Effect S) (at : slice_get table f ≡ Some row) where
  pub copied_row : (keys xs : List Effect) → xs ≡ row.keys → keys ≡ insert_all (eq-value).it [] xs → (x : Effect) → Contains keys x ↔ InTable table f x
  copied_row keys xs xs_is put x = (
    λ has. record { row = row; there = at; has = subst (λ zs. Contains zs x) xs_is (in_xs (subst (λ zs. Contains zs x) put has)) },
    λ there. subst (λ zs. Contains zs x) (sym put) ((in_all effect_exact [] xs x).1 (inr (subst (λ zs. Contains zs x) (sym xs_is) (in_row there)))),
  )
    where
      in_xs : Contains (insert_all (eq-value).it [] xs) x → Contains xs x
      in_xs has = elim ((in_all effect_exact [] xs x).0 has) [ inl none ↦ absurd (nothing_in x none) | inr within ↦ within ]

      in_row : InTable table f x → Contains row.keys x
      in_row there = subst (λ (r : HashSet Effect S). Contains r.keys x) (same_Some there.row row (sym there.there ∙ at)) there.has

pub fragment_within : (g : Grammar) {name : List ℕ} {f n : ℕ} → IsCallee g name (Fragment f) → length g.rules ≡ n → f < n
fragment_within g (call.fragment f rule is part) same = omega (arith, slice_get_within g.rules f rule is.first.there, same)
