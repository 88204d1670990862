-- Rules that read nothing, that repeat nothing and that never end, and those beside them that do not.
use Rattle.std.proofs.Common.{◌≡◌, ℕ, zero, suc, List, Some, codes, slice_get, Option, None, ◌+◌, ◌⊎◌, inl, inr, refl, sym, ap, ◌∙◌, subst, arith}
use Rattle.std.proofs.lemmas.Option.{none-some, same_Some}
use Rattle.lw_base.specs.declared.token.Span.{Span}
use Rattle.lw_grammar.specs.declared.grammar.Grammar.{Grammar}
use Rattle.lw_grammar.specs.declared.rule.Rule.{Rule}
use Rattle.lw_grammar.specs.declared.rule.Op.TheVariants.{One}
use Rattle.lw_grammar.specs.declared.rule.Element.{Element, out-Element}
use Rattle.lw_grammar.specs.declared.rule.Element.TheOpen as layer
use Rattle.lw_grammar.specs.declared.rule.Element.TheOpen.{Element-F}
use Rattle.lw_grammar.specs.declared.rule.Element.TheVariants.{Group, Many, Maybe, outs-Assign, outs-Group, outs-Maybe, outs-Many}
use Rattle.lw_grammar.specs.declared.rule.Value0.TheVariants as value
use Rattle.lw_grammar.specs.Named.{IsRule, IsEntry, declared_rule, declared_terminal}
use Rattle.lw_grammar.specs.Reached.{IsReached}
use Rattle.lw_grammar.specs.Reached as reached
use Rattle.lw_grammar.proofs.FirstLemmas.{first_place}
use Rattle.lw_grammar.proofs.LeafLemmas.{leaves-Assign, values-Call}
use Rattle.lw_faults.specs.Reads.{IsTokenCall, MayRead, ReadsAll}
use Rattle.lw_faults.specs.Reads as read
use Rattle.lw_faults.specs.Derivations.{IsEntryRule, ReadsNothing, reads_nothing, RepeatsNothing, repeats_nothing, NeverEnds, never_ends, HasPart, itself}
use Rattle.lw_faults.specs.Worked.{StandsAlone, StandsNowhere, place, no_place, x_id, calling_rule, called_rule, calling_b, alone, repeating, a_a, endless_row, endless}
use Rattle.lw_grammar.proofs.Every.{differ, first_here, first_later, meant, not_meant}
use Rattle.lw_faults.proofs.AloneLemmas.{the_rule, one_entry, one_named, one_no_id, only_one}
use Rattle.lw_faults.proofs.ReadLemmas.{what_reads, can_read, rule_reads, row_reads, row_ends}
use Rattle.lw_faults.proofs.PartLemmas.{what_part}
use Rattle.lw_faults.proofs.WorkedReads.{puts_token, puts_reads, word_reads, word_can_read}

-- ---- a rule that is called and reads nothing

module _ (body : Element) where
  abbrev G : Grammar
  G = calling_b body

  a_entry : IsEntry G 0 calling_rule
  a_entry = first_here (refl, refl)

  b_named : IsRule G (codes "B") 1 (called_rule body)
  b_named =
      meant declared_rule declared_terminal (codes "B") G.rules G.terminals 1 (called_rule body) (first_later (differ _ _ refl) (first_here refl)) (differ _ _ refl, tt)

  no_id : IsTokenCall G (codes "ID")
  no_id r rule = not_meant declared_rule declared_terminal (codes "ID") G.rules G.terminals r rule (differ _ _ refl, (differ _ _ refl, tt))

  b_reached : IsReached G 1
  b_reached =
      reached.called calling_rule (called_rule body) (codes "B") (reached.entry calling_rule a_entry) refl
      (reached.assigns (codes "b") One (value.Call (codes "B") no_place) no_place (rw leaves-Assign (0, omega arith, refl))
      (reached.calls no_place (rw values-Call (0, omega arith, refl)))) b_named

  b_no_entry : ¬ IsEntryRule G 1
  b_no_entry (rule, is) = let same : 1 ≡ 0 = first_place is a_entry in omega (arith, same)

  only_b : (r : ℕ) (rule : Rule) → slice_get G.rules r ≡ Some rule → ¬ IsEntryRule G r → called_rule body ≡ rule
  only_b zero rule at none = absurd (none (calling_rule, a_entry))
  only_b (suc zero) rule at none = same_Some (called_rule body) rule at
  only_b (suc (suc r)) rule at none = absurd (none-some rule at)

  b_alone : MayRead G body 0 → StandsAlone (ReadsNothing G) 0 (place 24 25) (codes "B")
  b_alone none = (reads_nothing 1 (called_rule body) (b_reached, refl) refl b_no_entry none, others)
    where
      others : (file : ℕ) (s : Span) (name : List ℕ) → ReadsNothing G file s name → (file ≡ 0) × (s ≡ place 24 25) × (name ≡ codes "B")
      others file s name (reads_nothing r rule within _ no_entry _) =
          let is : called_rule body ≡ rule = only_b r rule within.1 no_entry in
          (sym (ap (λ (x : Rule). x.file) is), sym (ap (λ (x : Rule). x.span) is), sym (ap (λ (x : Rule). x.name) is))

  b_nowhere : ¬ MayRead G body 0 → StandsNowhere (ReadsNothing G)
  b_nowhere some file s name (reads_nothing r rule within _ no_entry none) =
      some (subst (λ (x : Rule). MayRead G x.body 0) (sym (only_b r rule within.1 no_entry)) none)

pub b_found : StandsAlone (ReadsNothing (calling_b (Maybe x_id no_place))) 0 (place 24 25) (codes "B")
b_found = b_alone (Maybe x_id no_place) (can_read (calling_b (Maybe x_id no_place)) (outs-Maybe x_id no_place) (inl refl))

pub b_not_found : StandsNowhere (ReadsNothing (calling_b x_id))
b_not_found = b_nowhere x_id (λ none. let is = puts_token (calling_b x_id) (no_id x_id) none in omega (arith, is))

-- ---- a rule alone, which is the entry

pub entry_nowhere : (body : Element) → StandsNowhere (ReadsNothing (alone body))
entry_nowhere body file s name (reads_nothing zero rule within _ no_entry _) = no_entry (the_rule body, one_entry body)
entry_nowhere body file s name (reads_nothing (suc r) rule within _ _ _) = none-some rule within.1

-- ---- what is repeated

-- what an element repeats, and its place
abbrev repeated_by : Element-F Element → Option (Element × Span)
repeated_by (layer.Many e s) = Some (e, s)
repeated_by (layer.Some1 e s) = Some (e, s)
repeated_by _ = None

repeats : (e body : Element) (f : Element-F Element) (s : Span) → out-Element e ≡ f → (out-Element e ≡ layer.Many body s) ⊎ (out-Element e ≡ layer.Some1 body s) →
    repeated_by f ≡ Some (body, s)
repeats e body f s is (inl same) = ap repeated_by (sym is ∙ same)
repeats e body f s is (inr same) = ap repeated_by (sym is ∙ same)

abbrev RepeatsNone : Element → Type 0
RepeatsNone e = (body : Element) (s : Span) → ¬ ((out-Element e ≡ layer.Many body s) ⊎ (out-Element e ≡ layer.Some1 body s))

id_repeats_none : (part : Element) → HasPart x_id part → RepeatsNone part
id_repeats_none part has = by (what_part (outs-Assign (codes "x") One (value.Call (codes "ID") no_place) no_place) has)
  where
    by : (x_id ≡ part) ⊎ ((inner : Element) × ⊥ × HasPart inner part) → RepeatsNone part
    by (inl is) =
        subst RepeatsNone is (λ body s marked. none-some (body, s) (repeats _ _ _ _ (outs-Assign (codes "x") One (value.Call (codes "ID") no_place) no_place) marked))
    by (inr (inner, none, _)) = absurd none

optional_repeats_none : (part : Element) → HasPart (Maybe x_id no_place) part → RepeatsNone part
optional_repeats_none part has = by (what_part (outs-Maybe x_id no_place) has)
  where
    by : (Maybe x_id no_place ≡ part) ⊎ ((inner : Element) × (x_id ≡ inner) × HasPart inner part) → RepeatsNone part
    by (inl is) = subst RepeatsNone is (λ body s marked. none-some (body, s) (repeats _ _ _ _ (outs-Maybe x_id no_place) marked))
    by (inr (inner, is, deeper)) = id_repeats_none part (subst (λ e. HasPart e part) (sym is) deeper)

module _ (body : Element) (repeats_none : (part : Element) → HasPart body part → RepeatsNone part) where
  -- the only element that repeats anything is this one
  only_repeated : (rule : Rule) (e inner : Element) (s : Span) → the_rule (Many body (place 19 27)) ≡ rule → HasPart rule.body e →
      (out-Element e ≡ layer.Many inner s) ⊎ (out-Element e ≡ layer.Some1 inner s) → (body ≡ inner) × (s ≡ place 19 27)
  only_repeated rule e inner s is has marked = by (what_part (outs-Many body (place 19 27)) (subst (λ (x : Rule). HasPart x.body e) (sym is) has))
    where
      by : (Many body (place 19 27) ≡ e) ⊎ ((part : Element) × (body ≡ part) × HasPart part e) → (body ≡ inner) × (s ≡ place 19 27)
      by (inl same) =
          let found : (body, place 19 27) ≡ (inner, s) =
          same_Some (body, place 19 27) (inner, s)
          (repeats _ _ _ _ (outs-Many body (place 19 27)) (subst (λ x. (out-Element x ≡ layer.Many inner s) ⊎ (out-Element x ≡ layer.Some1 inner s)) (sym same) marked)) in
          (ap (λ x. x.0) found, sym (ap (λ x. x.1) found))
      by (inr (part, same, deeper)) = absurd (repeats_none e (subst (λ x. HasPart x e) (sym same) deeper) inner s marked)

  repeated_alone : MayRead (repeating body) body 0 → StandsAlone (RepeatsNothing (repeating body)) 0 (place 19 27) (codes "A")
  repeated_alone none = (
    repeats_nothing 0 (the_rule (Many body (place 19 27))) (Many body (place 19 27)) body
        (reached.entry (the_rule (Many body (place 19 27))) (one_entry (Many body (place 19 27))), refl) itself (inl (outs-Many body (place 19 27))) none,
    others,
  )
    where
      others : (file : ℕ) (s : Span) (name : List ℕ) → RepeatsNothing (repeating body) file s name → (file ≡ 0) × (s ≡ place 19 27) × (name ≡ codes "A")
      others file s name (repeats_nothing r rule e inner within has marked _) =
          let is : the_rule (Many body (place 19 27)) ≡ rule = only_one (Many body (place 19 27)) r rule within.1 in
          (sym (ap (λ (x : Rule). x.file) is), (only_repeated rule e inner s is has marked).1, sym (ap (λ (x : Rule). x.name) is))

  repeated_nowhere : ¬ MayRead (repeating body) body 0 → StandsNowhere (RepeatsNothing (repeating body))
  repeated_nowhere some file s name (repeats_nothing r rule e inner within has marked none) =
      let is : the_rule (Many body (place 19 27)) ≡ rule = only_one (Many body (place 19 27)) r rule within.1 in
      some (subst (λ x. MayRead (repeating body) x 0) (sym (only_repeated rule e inner s is has marked).0) none)

pub repeated_found : StandsAlone (RepeatsNothing (repeating (Maybe x_id no_place))) 0 (place 19 27) (codes "A")
repeated_found =
    repeated_alone (Maybe x_id no_place) optional_repeats_none (can_read (repeating (Maybe x_id no_place)) (outs-Maybe x_id no_place) (inl refl))

pub repeated_not_found : StandsNowhere (RepeatsNothing (repeating x_id))
repeated_not_found =
    repeated_nowhere x_id id_repeats_none
    (λ none. let is = puts_token (repeating x_id) (one_no_id (Many x_id (place 19 27))) none in omega (arith, is))

-- ---- a rule without an end

module _ (again : Element) where
  abbrev E : Grammar
  E = endless again

  abbrev e_body : Element
  e_body = Group (endless_row again) no_place

  -- the word, and what comes again
  splits : {n : ℕ} → MayRead E e_body n → (m : ℕ) × (n ≡ m + 1) × MayRead E again m
  splits does =
      let first = row_reads E (what_reads E (outs-Group (endless_row again) no_place) does) in
      let second = row_reads E first.3 in
      let one : first.0 ≡ 1 = word_reads E first.2 in
      let end : second.1 ≡ 0 = row_ends E second.3 in (second.0, omega (arith, first.4, second.4, one, end), second.2)

a_again : {n : ℕ} → MayRead (endless a_a) a_a n → MayRead (endless a_a) (e_body a_a) n
a_again does = rule_reads (endless a_a) (one_named (e_body a_a)) (puts_reads (endless a_a) does)

reads_never : (n : ℕ) → ¬ MayRead (endless a_a) (e_body a_a) n
reads_never zero does = let parts = splits a_a does in omega (arith, parts.1)
reads_never (suc n) does =
    let parts = splits a_a does in
    let same : parts.0 ≡ n = omega (arith, parts.1) in reads_never n (subst (MayRead (endless a_a) (e_body a_a)) same (a_again parts.2))

pub endless_found : StandsAlone (NeverEnds (endless a_a)) 0 (place 16 17) (codes "A")
endless_found = (never_ends 0 (the_rule (e_body a_a)) (reached.entry (the_rule (e_body a_a)) (one_entry (e_body a_a)), refl) reads_never, others)
  where
    others : (file : ℕ) (s : Span) (name : List ℕ) → NeverEnds (endless a_a) file s name → (file ≡ 0) × (s ≡ place 16 17) × (name ≡ codes "A")
    others file s name (never_ends r rule within _) =
        let is : the_rule (e_body a_a) ≡ rule = only_one (e_body a_a) r rule within.1 in
        (sym (ap (λ (x : Rule). x.file) is), sym (ap (λ (x : Rule). x.span) is), sym (ap (λ (x : Rule). x.name) is))

abbrev O : Grammar
O = endless (Maybe a_a no_place)

reads_one : MayRead O (e_body (Maybe a_a no_place)) 1
reads_one =
    can_read O (outs-Group (endless_row (Maybe a_a no_place)) no_place)
    (read.more (word_can_read O (codes "x")) (read.more (can_read O (outs-Maybe a_a no_place) (inl refl)) read.none))

pub endless_not_found : StandsNowhere (NeverEnds O)
endless_not_found file s name (never_ends r rule within never) =
    never 1 (subst (λ (x : Rule). MayRead O x.body 1) (only_one (e_body (Maybe a_a no_place)) r rule within.1) reads_one)
