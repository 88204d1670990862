-- A property that is put in twice: as a list and not, or alike; and one of a type that is unknown.
use Rattle.std.proofs.Common.{◌≡◌, ◌≢◌, ℕ, ◌<◌, List, [], ◌∷◌, Bool, codes, ◌⊎◌, inl, inr, lit<, Contains, refl, sym, ap, ◌∙◌, subst, arith, true≢false}
use Rattle.std.proofs.lemmas.List.Elements.{All-nil, All-cons}
use Rattle.std.proofs.lemmas.Option.{none-some}
use Rattle.lw_base.specs.declared.token.Span.{Span}
use Rattle.lw_grammar.specs.declared.rule.Rule.{Rule}
use Rattle.lw_grammar.specs.declared.grammar.Grammar.{Grammar}
use Rattle.lw_grammar.specs.declared.rule.Op.{Op}
use Rattle.lw_grammar.specs.declared.rule.Op.TheVariants.{One, Add}
use Rattle.lw_grammar.specs.declared.rule.Element.TheVariants.{Group, Choice}
use Rattle.lw_grammar.specs.declared.rule.RuleResult.TheVariants.{Own, Returns, Infers}
use Rattle.lw_grammar.specs.Leaves as leaf
use Rattle.lw_grammar.specs.Leaves.{Leaf, leaves}
use Rattle.lw_grammar.specs.Subtypes.{IsDeclared, by_interface, by_union}
use Rattle.lw_grammar.proofs.LeafLemmas.{leaf_equations}
use Rattle.lw_grammar.specs.Written.{InfersHere, IsInferredType}
use Rattle.lw_grammar.specs.Written as written
use Rattle.lw_faults.specs.Steps.{Step, step, IsBehind, IsAct, IsNodeCall, IsCurrentType}
use Rattle.lw_faults.specs.Steps as steps
use Rattle.lw_faults.specs.Properties.{MixedProperty, mixed, PutsInto, is_list}
use Rattle.lw_faults.specs.Properties as property
use Rattle.lw_faults.specs.Worked.{StandsAlone, StandsNowhere, place, no_place, both, x_by, calls_id, twice, rule_returning, unknown_twice}
use Rattle.lw_grammar.proofs.Every.{Every, every_of}
use Rattle.lw_faults.proofs.AloneLemmas.{the_rule}
use Rattle.lw_faults.proofs.StepLemmas.{holds_of_step, own_step}
use Rattle.lw_faults.proofs.WorkedSteps.{assign_goes, to_assign, to_first, to_second}

module _ (first second : Op) (s : Span) where
  abbrev G : Grammar
  G = twice first second s

  abbrev A : Rule
  A = the_rule (Group (both (x_by first calls_id (place 19 23)) (x_by second calls_id s)) no_place)

  abbrev x_first : Leaf
  x_first = leaf.Assign (codes "x") first calls_id (place 19 23)

  abbrev x_second : Leaf
  x_second = leaf.Assign (codes "x") second calls_id s

  both_leaves : leaves A.body ≡ x_first ∷ x_second ∷ []
  both_leaves = simp leaf_equations

  undeclared : (name : List ℕ) → ¬ IsDeclared G name
  undeclared name (by_interface i interface is) = none-some interface is.first.there
  undeclared name (by_union u union is) = none-some union is.first.there

  -- what is put in is the one or the other
  abbrev IsEither : Bool → Span → Type 0
  IsEither list t = ((list ≡ is_list first) × (t ≡ place 19 23)) ⊎ ((list ≡ is_list second) × (t ≡ s))

  abbrev IsPut : Rule → Leaf → Type 0
  IsPut rule (leaf.Assign q o w t) = (rule.file ≡ 0) × (q ≡ codes "x") × IsEither (is_list o) t
  IsPut rule (leaf.Act a) = ⊥
  IsPut rule _ = Unit {0}

  only_put : {rule written : Rule} {before : List Step} {l : Leaf} → IsBehind G rule before (step written l) → IsPut written l
  only_put is =
      holds_of_step G IsPut (subst (Every (IsPut A)) (sym both_leaves) ((refl, refl, inl (refl, refl)), ((refl, refl, inr (refl, refl)), tt)), tt) is

  puts_either : {type_name p : List ℕ} {list : Bool} {file : ℕ} {t : Span} → PutsInto G type_name p list file t → (file ≡ 0) × (p ≡ codes "x") × IsEither list t
  puts_either (property.assigned rule written before v is _) = only_put is
  puts_either (property.acted rule written before a put is _) = absurd (only_put is)

  pub alike_nowhere : is_list first ≡ is_list second → StandsNowhere (MixedProperty G)
  alike_nowhere alike file t name (mixed {list} {other} _ _ puts had apart _) = apart (by (puts_either puts).2 (puts_either had).2)
    where
      by : {t u : Span} → IsEither list t → IsEither other u → list ≡ other
      by (inl a) (inl b) = a.0 ∙ sym b.0
      by (inl a) (inr b) = a.0 ∙ alike ∙ sym b.0
      by (inr a) (inl b) = a.0 ∙ sym alike ∙ sym b.0
      by (inr a) (inr b) = a.0 ∙ sym b.0

  module _ (later : 19 < s.start) where
    not_before_first : {list : Bool} {t : Span} → IsEither list t → t.start < 19 → ⊥
    not_before_first (inl a) below = let is = ap (λ (x : Span). x.start) a.1 in omega (arith, below, is)
    not_before_first (inr a) below = let is = ap (λ (x : Span). x.start) a.1 in omega (arith, below, is)

    only_second : (f : ℕ) (t : Span) (n : List ℕ) → MixedProperty G f t n → (f ≡ 0) × (t ≡ s) × (n ≡ codes "x")
    only_second f t n (mixed {list} {other} {before} {t = u} _ _ puts had apart sooner) =
        let one = puts_either puts in
        let earlier = puts_either had in (one.0, by one.2 earlier.2 (starts one.0 earlier.0 sooner), one.1)
      where
        starts : f ≡ 0 → before ≡ 0 → (before < f) ⊎ ((before ≡ f) × (u.start < t.start)) → u.start < t.start
        starts is was (inl below) = absurd (omega (arith, is, was, below))
        starts is was (inr both) = both.1

        by : IsEither list t → IsEither other u → u.start < t.start → t ≡ s
        by (inr a) _ _ = a.1
        by (inl a) earlier below = absurd (not_before_first earlier (let is = ap (λ (x : Span). x.start) a.1 in omega (arith, below, is)))

    pub mixed_found : is_list second ≢ is_list first → StandsAlone (MixedProperty G) 0 s (codes "x")
    mixed_found apart = (
      mixed inferred (undeclared (codes "A")) (property.assigned A A (step A x_first ∷ []) calls_id behind now) (property.assigned A A [] calls_id ahead own) apart
          (inr (refl, later)),
      only_second,
    )
      where
        inferred : IsInferredType G (codes "A")
        inferred = (0, place 16 17, written.own A (0, omega arith, refl) refl refl)

        ahead : IsBehind G A [] (step A x_first)
        ahead = own_step G (0, omega arith, refl) refl (to_first G _ (to_assign G)) (λ is. is.2)

        behind : IsBehind G A (step A x_first ∷ []) (step A x_second)
        behind = own_step G (0, omega arith, refl) refl (to_second G (assign_goes G) (to_assign G)) (λ is. is.2)

        own : IsCurrentType G A [] (codes "A")
        own = steps.own (All-nil (λ (x : Step). ¬ IsAct x.leaf)) (All-nil (λ (x : Step). ¬ IsNodeCall G x.leaf)) (refl, refl)

        now : IsCurrentType G A (step A x_first ∷ []) (codes "A")
        now =
            steps.own
            (All-cons (λ (x : Step). ¬ IsAct x.leaf) (step A x_first) [] (λ is. elim is [ ]) (All-nil (λ (x : Step). ¬ IsAct x.leaf)))
            (All-cons (λ (x : Step). ¬ IsNodeCall G x.leaf) (step A x_first) [] (λ is. elim is.1 [ ]) (All-nil (λ (x : Step). ¬ IsNodeCall G x.leaf)))
            (refl, refl)

pub one_then_list : StandsAlone (MixedProperty (twice One Add (place 24 29))) 0 (place 24 29) (codes "x")
one_then_list = mixed_found One Add (place 24 29) (lit< tt) true≢false

pub list_then_one : StandsAlone (MixedProperty (twice Add One (place 25 29))) 0 (place 25 29) (codes "x")
list_then_one = mixed_found Add One (place 25 29) (lit< tt) (λ is. true≢false (sym is))

pub ones : StandsNowhere (MixedProperty (twice One One (place 24 28)))
ones = alike_nowhere One One (place 24 28) refl

pub lists : StandsNowhere (MixedProperty (twice Add Add (place 25 30)))
lists = alike_nowhere Add Add (place 25 30) refl

-- ---- a type that is unknown

abbrev returns_u : Rule
returns_u = rule_returning (codes "U") (Choice (both (x_by One calls_id (place 29 33)) (x_by Add calls_id (place 36 41))) no_place)

u_leaves : leaves returns_u.body ≡ leaf.Assign (codes "x") One calls_id (place 29 33) ∷ leaf.Assign (codes "x") Add calls_id (place 36 41) ∷ []
u_leaves = simp leaf_equations

-- its rule says what it returns, and has no action
abbrev IsAssignment : Leaf → Type 0
IsAssignment (leaf.Assign p op v s) = Unit {0}
IsAssignment _ = ⊥

abbrev InfersNone : Rule → Type 0
InfersNone rule = (rule.result ≡ Returns (codes "U") no_place) × Every IsAssignment (leaves rule.body)

infers_none : (rule : Rule) → Contains unknown_twice.rules rule → InfersNone rule
infers_none rule has = every_of InfersNone (returns_u ∷ []) rule ((refl, subst (Every IsAssignment) (sym u_leaves) (tt, (tt, tt))), tt) has

none_inferred : (file : ℕ) (s : Span) (name : List ℕ) → ¬ InfersHere unknown_twice file s name
none_inferred file s name (written.own rule has _ is) = absurd (other (sym is ∙ (infers_none rule has).0))
  where
    other : Own ≡ Returns (codes "U") no_place → ⊥
    other same = cc
none_inferred file s name (written.infers rule has _ is) = absurd (other (sym is ∙ (infers_none rule has).0))
  where
    other : Infers name s ≡ Returns (codes "U") no_place → ⊥
    other same = cc
none_inferred file s name (written.acted rule a has there _) = every_of IsAssignment (leaves rule.body) (leaf.Act a) (infers_none rule has).1 there

pub unknown : StandsNowhere (MixedProperty unknown_twice)
unknown file t name (mixed {type_name} (f, s, is) _ _ _ _ _) = none_inferred f s type_name is
