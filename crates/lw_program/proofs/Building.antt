-- The program of the rules so far, which grows by a rule.
use Rattle.std.proofs.Common.{◌≡◌, ℕ, zero, suc, ◌+◌, ◌<◌, ◌≤◌, ◌↔◌, List, [], ◌∷◌, ◌++◌, Bool, true, false, Option, None, Some, IsTrue, length, slice_get, take, drop, refl, sym, ap, ◌∙◌, subst, arith, inl, inr, true≢false}
use Rattle.std.proofs.lemmas.List.{length-append}
use Rattle.std.proofs.lemmas.Option.{none-some, same_Some, slice_get_within}
use Rattle.std.proofs.lemmas.Bool.{cases_lt}
use Rattle.lw_grammar.specs.declared.grammar.Grammar.{Grammar}
use Rattle.lw_grammar.specs.declared.rule.Rule.{Rule}
use Rattle.lw_grammar.specs.Kinds.{Kinds}
use Rattle.lw_grammar.specs.Nodes.{MakesNodes}
use Rattle.lw_grammar.specs.Reached.{IsReached}
use Rattle.lw_look.specs.Choices.{choice_sites}
use Rattle.lw_look.specs.Sites.{PartSite, body}
use Rattle.lw_look.specs.Sites as site
use Rattle.lw_program.specs.declared.counts.Counts.{Counts}
use Rattle.lw_program.specs.Numbered.{put_sites, act_sites}
use Rattle.lw_program.specs.Says.{Task, SaidAt}
use Rattle.lw_program.specs.Counting.{joined_sites, element_sites, rule_sites, AreSitesCounted, AreNext}
use Rattle.lw_program.specs.Filled.{Listing}
use Rattle.lw_program.specs.Placed.{PlacesMore, IsStarted, IsPlaced}
use Rattle.lw_program.specs.Placed as placing
use Rattle.lw_program.specs.ProgramOf.{StartsRuleAt, IsProgramOf}
use Rattle.lw_program.proofs.Lists.{slice_get_more, slice_get_after}
use Rattle.lw_program.proofs.Counted.{both_none, both_assoc, counted_both, front_next, rest_next}
use Rattle.lw_program.proofs.Filling.{said_more}

-- nothing has been counted
abbrev pub no_counts : Counts
no_counts = record { points = 0; puts = 0; acts = 0 }

-- the sites of the rules before one, of it, and of those behind
rules_split : (k : ℕ) (rules : List Rule) (i : ℕ) (rule : Rule) → slice_get rules i ≡ Some rule →
    rule_sites k rules ≡ joined_sites (rule_sites k (take i rules)) (joined_sites (element_sites (body (k + i)) rule.body) (rule_sites (k + i + 1) (drop (suc i) rules)))
rules_split k [] i rule is = absurd (none-some rule is)
rules_split k (x ∷ rules) zero rule is =
    let at : k ≡ k + 0 = omega arith in
    ap (λ n. joined_sites (element_sites (body n) x.body) (rule_sites (n + 1) rules)) at
    ∙ ap (λ (x : Rule). joined_sites (element_sites (body (k + 0)) x.body) (rule_sites (k + 0 + 1) rules)) (same_Some x rule is)
rules_split k (x ∷ rules) (suc i) rule is =
    let at : k + 1 + i ≡ k + suc i = omega arith in
    ap (joined_sites (element_sites (body k) x.body))
    (rules_split (k + 1) rules i rule is
    ∙ ap (λ n. joined_sites (rule_sites (k + 1) (take i rules)) (joined_sites (element_sites (body n) rule.body) (rule_sites (n + 1) (drop (suc i) rules)))) at)
    ∙ sym (both_assoc (element_sites (body k) x.body) (rule_sites (k + 1) (take i rules)) (joined_sites (element_sites (body (k + suc i)) rule.body) (rule_sites (k + suc i + 1) (drop (suc i) rules))))

rules_next : (k : ℕ) (rules : List Rule) (i : ℕ) (rule : Rule) → slice_get rules i ≡ Some rule →
    rule_sites k (take (suc i) rules) ≡ joined_sites (rule_sites k (take i rules)) (element_sites (body (k + i)) rule.body)
rules_next k [] i rule is = absurd (none-some rule is)
rules_next k (x ∷ rules) zero rule is =
    let at : k ≡ k + 0 = omega arith in
    both_none (element_sites (body k) x.body)
    ∙ ap (λ n. element_sites (body n) x.body) at
    ∙ ap (λ (x : Rule). element_sites (body (k + 0)) x.body) (same_Some x rule is)
rules_next k (x ∷ rules) (suc i) rule is =
    let at : k + 1 + i ≡ k + suc i = omega arith in
    ap (joined_sites (element_sites (body k) x.body))
    (rules_next (k + 1) rules i rule is ∙ ap (λ n. joined_sites (rule_sites (k + 1) (take i rules)) (element_sites (body n) rule.body)) at)
    ∙ sym (both_assoc (element_sites (body k) x.body) (rule_sites (k + 1) (take i rules)) (element_sites (body (k + suc i)) rule.body))

module _ (g : Grammar) (kinds : Kinds) where
  -- the rules below i are built
  pub record IsBuilt (i : ℕ) (starts : List (Option ℕ)) (so_far : Listing) : Type 0 where
    pub tasks : List Task
    pub sized : length tasks ≡ length so_far.code
    pub said : (p : ℕ) → p < length so_far.code → SaidAt g kinds tasks so_far.code p
    pub all : length starts ≡ i
    pub counted : AreSitesCounted (rule_sites 0 (take i g.rules)) no_counts so_far.counts
    pub reached : (r : ℕ) (rule : Rule) → r < i → IsReached g r → slice_get g.rules r ≡ Some rule →
        (start : ℕ) × (slice_get starts r ≡ Some (Some start)) × StartsRuleAt g kinds tasks r rule start
    pub others : (r : ℕ) → r < i → ¬ IsReached g r → slice_get starts r ≡ Some None

  pub builds_all : {starts : List (Option ℕ)} {so_far : Listing} (n : ℕ) → length g.rules ≤ n → n ≤ length g.rules → IsBuilt n starts so_far →
      IsProgramOf g kinds record { code = so_far.code; starts = starts }
  builds_all {starts} {so_far} n past within built = record {
    tasks = built.tasks;
    sized = built.sized;
    said = built.said;
    all = let a = built.all in omega (arith, a, past, within);
    reached = λ r rule is there. built.reached r rule (let below = slice_get_within g.rules r rule there in omega (arith, below, past)) is there;
    others = λ r below not. built.others r (omega (arith, below, past)) not;
  }

  module _ (i : ℕ) (rule : Rule) (at : slice_get g.rules i ≡ Some rule) (starts : List (Option ℕ)) (mid : Listing) (before : IsBuilt i starts mid) where
    next_here : AreNext g mid.counts (element_sites (body i) rule.body)
    next_here =
        front_next g (element_sites (body i) rule.body) (rule_sites (i + 1) (drop (suc i) g.rules)) mid.counts
        (rest_next g (rule_sites 0 (take i g.rules)) (joined_sites (element_sites (body i) rule.body) (rule_sites (i + 1) (drop (suc i) g.rules))) no_counts mid.counts
        before.counted (subst (AreNext g no_counts) split all_next))
      where
        all_next : AreNext g no_counts (rule_sites 0 g.rules)
        all_next = record {
          choices = λ j s is. first (choice_sites g) j s is;
          puts = λ j s is. first (put_sites g) j s is;
          acts = λ j s is. first (act_sites g) j s is;
        }
          where
            first : (all : List PartSite) (j : ℕ) (s : PartSite) → slice_get all j ≡ Some s → slice_get all (0 + j) ≡ Some s
            first all j s is = let zero_on : 0 + j ≡ j = omega arith in ap (slice_get all) zero_on ∙ is

        split : rule_sites 0 g.rules ≡ joined_sites (rule_sites 0 (take i g.rules)) (joined_sites (element_sites (body i) rule.body) (rule_sites (i + 1) (drop (suc i) g.rules)))
        split =
            let zero_on : 0 + i ≡ i = omega arith in
            rules_split 0 g.rules i rule at
            ∙ ap (λ n. joined_sites (rule_sites 0 (take i g.rules)) (joined_sites (element_sites (body n) rule.body) (rule_sites (n + 1) (drop (suc i) g.rules)))) zero_on

    counted_here : (new : Listing) → AreSitesCounted (element_sites (body i) rule.body) mid.counts new.counts →
        AreSitesCounted (rule_sites 0 (take (i + 1) g.rules)) no_counts new.counts
    counted_here new here =
        let zero_on : 0 + i ≡ i = omega arith in
        let more : suc i ≡ i + 1 = omega arith in
        subst (λ sites. AreSitesCounted sites no_counts new.counts)
        (ap (λ n. joined_sites (rule_sites 0 (take i g.rules)) (element_sites (body n) rule.body)) (sym zero_on) ∙ sym (rules_next 0 g.rules i rule at)
        ∙ ap (λ n. rule_sites 0 (take n g.rules)) more)
        (counted_both before.counted here)

    starts_long : (start : Option ℕ) → length (starts ++ start ∷ []) ≡ i + 1
    starts_long start = let a = length-append starts (start ∷ []) in let b = before.all in omega (arith, a, b)

    last : (start : Option ℕ) (r : ℕ) → r ≡ i → slice_get (starts ++ start ∷ []) r ≡ Some start
    last start r same =
        let b = before.all in
        let there : r ≡ length starts + 0 = omega (arith, same, b) in
        ap (slice_get (starts ++ start ∷ [])) there ∙ slice_get_after starts (start ∷ []) 0 start refl

    leaves_out : {new : Listing} → ¬ IsReached g i → new.code ≡ mid.code → AreSitesCounted (element_sites (body i) rule.body) mid.counts new.counts →
        IsBuilt (i + 1) (starts ++ None ∷ []) new
    leaves_out {new} not code here = record {
      tasks = before.tasks;
      sized = before.sized ∙ sym (ap length code);
      said = λ p below. subst (λ code. SaidAt g kinds before.tasks code p) (sym code) (before.said p (subst (λ code. p < length code) code below));
      all = starts_long None;
      counted = counted_here new here;
      reached = reached;
      others = others;
    }
      where
        reached : (r : ℕ) (other : Rule) → r < i + 1 → IsReached g r → slice_get g.rules r ≡ Some other →
            (start : ℕ) × (slice_get (starts ++ None ∷ []) r ≡ Some (Some start)) × StartsRuleAt g kinds before.tasks r other start
        reached r other below is there =
            elim (cases_lt r i) [
              | inl less ↦ let old = before.reached r other less is there in (old.0, slice_get_more starts (None ∷ []) r (Some old.0) old.1, old.2)
              | inr most ↦ let same : r ≡ i = omega (arith, below, most) in absurd (not (subst (IsReached g) same is))
            ]

        others : (r : ℕ) → r < i + 1 → ¬ IsReached g r → slice_get (starts ++ None ∷ []) r ≡ Some None
        others r below is_not =
            elim (cases_lt r i) [
              | inl less ↦ slice_get_more starts (None ∷ []) r None (before.others r less is_not)
              | inr most ↦ last None r (omega (arith, below, most))
            ]

    puts_in : {new : Listing} (shuts : Bool) (start : ℕ) → IsReached g i → (rule.is_fragment ≡ false → MakesNodes g rule → shuts ≡ true) →
        IsStarted g kinds (body i) rule.body shuts start mid new → IsBuilt (i + 1) (starts ++ Some start ∷ []) new
    puts_in {new} shuts start is_reached told started = record {
      tasks = before.tasks ++ on.more;
      sized = on.sized;
      said = said;
      all = starts_long (Some start);
      counted = counted_here new started.counted;
      reached = reached;
      others = others;
    }
      where
        on : PlacesMore g kinds (body i) rule.body shuts start mid new before.tasks
        on = started.said before.tasks (site.whole at) before.sized next_here

        said : (p : ℕ) → p < length new.code → SaidAt g kinds (before.tasks ++ on.more) new.code p
        said p below =
            elim (cases_lt p (length mid.code)) [
              | inl less ↦ said_more g kinds before.tasks on.more p (started.kept p less) (before.said p less)
              | inr past ↦ on.said p past below
            ]

        begins : (r : ℕ) (other : Rule) → r ≡ i → slice_get g.rules r ≡ Some other → StartsRuleAt g kinds (before.tasks ++ on.more) r other start
        begins r other same there =
            let one : rule ≡ other = same_Some rule other (sym at ∙ ap (slice_get g.rules) (sym same) ∙ there) in
            subst (λ r. StartsRuleAt g kinds (before.tasks ++ on.more) r other start) (sym same)
            (subst (λ other. StartsRuleAt g kinds (before.tasks ++ on.more) i other start) one
            record { whole = on.whole; shut = λ fragment makes. on.shut (told fragment makes) })

        reached : (r : ℕ) (other : Rule) → r < i + 1 → IsReached g r → slice_get g.rules r ≡ Some other →
            (first : ℕ) × (slice_get (starts ++ Some start ∷ []) r ≡ Some (Some first)) × StartsRuleAt g kinds (before.tasks ++ on.more) r other first
        reached r other below is there =
            elim (cases_lt r i) [
              | inl less ↦
                  let old = before.reached r other less is there in (
                    old.0,
                    slice_get_more starts (Some start ∷ []) r (Some old.0) old.1,
                    record {
                      whole = slice_get_more before.tasks on.more old.0 _ old.2.whole;
                      shut = λ fragment makes. slice_get_more before.tasks on.more (old.0 + 1) _ (old.2.shut fragment makes);
                    },
                  )
              | inr most ↦ let same : r ≡ i = omega (arith, below, most) in (start, last (Some start) r same, begins r other same there)
            ]

        others : (r : ℕ) → r < i + 1 → ¬ IsReached g r → slice_get (starts ++ Some start ∷ []) r ≡ Some None
        others r below is_not =
            elim (cases_lt r i) [
              | inl less ↦ slice_get_more starts (Some start ∷ []) r None (before.others r less is_not)
              | inr most ↦ let same : r ≡ i = omega (arith, below, most) in absurd (is_not (subst (IsReached g) (sym same) is_reached))
            ]

    pub builds_next : {flag shuts : Bool} {start : Option ℕ} {new : Listing} → IsTrue flag ↔ IsReached g i →
        (rule.is_fragment ≡ false → MakesNodes g rule → shuts ≡ true) → IsPlaced g kinds (body i) rule.body flag shuts start mid new →
        IsBuilt (i + 1) (starts ++ start ∷ []) new
    builds_next told makes (placing.left_out code counted) = leaves_out (λ is. true≢false (sym (told.1 is))) code counted
    builds_next told makes (placing.placed {shuts} {start} started) = puts_in shuts start (told.0 refl) makes started
