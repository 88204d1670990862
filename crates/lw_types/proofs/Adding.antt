-- What is gathered of the types that are wanted, with more that is seen.
use Rattle.std.proofs.Common.{◌≡◌, ◌≢◌, ℕ, ◌<◌, List, [], ◌∷◌, ◌++◌, Bool, true, false, cond, ◌==◌, nat_eq, Option, Some, None, filter, length, slice_set, length-set, ◌+◌, slice_get, ◌≤◌, take, drop, refl, sym, ap, ◌∙◌, subst, arith}
use Rattle.std.proofs.lemmas.Bool.{true≢false, eqb-true, ne_eqb, eq-eqb}
use Rattle.std.proofs.lemmas.List.{append-nil, append_assoc, map-append, take_more, take_all, drop_all}
use Rattle.std.proofs.lemmas.List.Elements.{filter-append}
use Rattle.std.proofs.lemmas.Option.{same_Some, slice_get_within, get_or_from_slice_get}
use Rattle.lw_grammar.specs.declared.declared_types.ValueKind.{ValueKind}
use Rattle.lw_grammar.specs.declared.grammar.Grammar.{Grammar}
use Rattle.lw_grammar.specs.declared.rule.Action.{Action}
use Rattle.lw_grammar.specs.Leaves.{Leaf, Act}
use Rattle.lw_flow.specs.declared.before.Before.{Before}
use Rattle.lw_properties.specs.Places.{IsComeTo}
use Rattle.lw_properties.proofs.Marking.{get_set_same, get_set_other}
use Rattle.lw_types.specs.Sightings.{Sighting, sighting, sightings, put_by, SeenAtLeaf, Along}
use Rattle.lw_types.specs.Sightings as along
use Rattle.lw_types.specs.Having.{ArePutInto}
use Rattle.lw_types.specs.Having as put
use Rattle.lw_types.specs.Gathered.{PutsIntoProperty, GathersSightings}
use Rattle.lw_types.specs.Seeing.{AddsTo, Sees}
use Rattle.lw_types.specs.declared.property_table.info.PropertyInfo.{PropertyInfo}
use Rattle.lw_types.proofs.Putting.{puts_in}

-- ---- along two lists

module _ {A B X : Type 0} {Gives : A → B → List X → Type 0} where
  pub along_more : {xs : List A} {ys : List B} {found more : List X} (a : A) (b : B) → Along Gives xs ys found → Gives a b more →
      Along Gives (xs ++ a ∷ []) (ys ++ b ∷ []) (found ++ more)
  along_more {more} a b along.none gives = subst (Along Gives (a ∷ []) (b ∷ [])) (append-nil more) (along.more gives along.none)
  along_more {xs} {ys} {more} a b (along.more {first} {others} gave all) gives =
      subst (Along Gives (xs ++ a ∷ []) (ys ++ b ∷ [])) (sym (append_assoc first others more)) (along.more gave (along_more a b all gives))

-- ---- what is added

pub adds_none : (wanted : List Bool) (now : List (List PropertyInfo)) → AddsTo wanted [] now now
adds_none wanted now seen gathers = subst (λ ys. GathersSightings wanted ys now) (sym (append-nil seen)) gathers

pub adds_both : (wanted : List Bool) {xs ys : List Sighting} {old mid now : List (List PropertyInfo)} → AddsTo wanted xs old mid → AddsTo wanted ys mid now →
    AddsTo wanted (xs ++ ys) old now
adds_both wanted {xs} {ys} {now = now} first then seen gathers =
    subst (λ zs. GathersSightings wanted zs now) (append_assoc seen xs ys) (then (seen ++ xs) (first seen gathers))

-- ---- one more

of_type : (n : ℕ) (seen : List Sighting) (s : Sighting) → s.of ≡ n → filter (λ x. x.of == n) (seen ++ s ∷ []) ≡ filter (λ x. x.of == n) seen ++ s ∷ []
of_type n seen s is =
    filter-append (λ (x : Sighting). x.of == n) seen (s ∷ []) ∙ ap (λ b. filter (λ (x : Sighting). x.of == n) seen ++ cond b (s ∷ []) []) (subst (λ k. nat_eq s.of k ≡ true) is (eq-eqb s.of s.of refl))

of_other : (n : ℕ) (seen : List Sighting) (s : Sighting) → s.of ≢ n → filter (λ x. x.of == n) (seen ++ s ∷ []) ≡ filter (λ x. x.of == n) seen
of_other n seen s apart =
    filter-append (λ (x : Sighting). x.of == n) seen (s ∷ []) ∙ ap (λ b. filter (λ (x : Sighting). x.of == n) seen ++ cond b (s ∷ []) []) (ne_eqb s.of n apart)
    ∙ append-nil (filter (λ (x : Sighting). x.of == n) seen)

module _ (wanted : List Bool) (s : Sighting) where
  -- of a type that is not wanted
  pub adds_unwanted : (now : List (List PropertyInfo)) → (slice_get wanted s.of ≡ Some true → s.of < length now → ⊥) → AddsTo wanted (s ∷ []) now now
  adds_unwanted now unwanted seen gathers = record {
    all = gathers.all;
    each = λ n infos wants there.
        let inside : n < length now = slice_get_within now n infos there in
        let apart : s.of ≢ n = λ e. unwanted (subst (λ k. slice_get wanted k ≡ Some true) (sym e) wants) (subst (λ k. k < length now) (sym e) inside) in
        subst (λ xs. ArePutInto xs [] infos) (sym (of_other n seen s apart)) (gathers.each n infos wants there);
  }

  pub adds_one : (old now : List (List PropertyInfo)) (before infos : List PropertyInfo) → slice_get old s.of ≡ Some before → now ≡ slice_set old s.of infos →
      PutsIntoProperty s.prop s.list s.values before infos → AddsTo wanted (s ∷ []) old now
  adds_one old now before infos had is puts seen gathers = record {
    all = ap length is ∙ length-set old s.of infos ∙ gathers.all;
    each = λ n others wants there. by n others wants there (nat_eq s.of n) refl;
  }
    where
      by : (n : ℕ) (others : List PropertyInfo) → slice_get wanted n ≡ Some true → slice_get now n ≡ Some others → (b : Bool) → nat_eq s.of n ≡ b →
          ArePutInto (filter (λ x. x.of == n) (seen ++ s ∷ [])) [] others
      by n others wants there true e =
          let this : s.of ≡ n = eqb-true s.of n e in
          let same : infos ≡ others = same_Some infos others (sym (get_set_same old s.of infos before had) ∙ ap (λ k. slice_get (slice_set old s.of infos) k) this ∙ ap (λ xs. slice_get xs n) (sym is) ∙ there) in
          subst (ArePutInto (filter (λ (x : Sighting). x.of == n) (seen ++ s ∷ [])) []) same
          (subst (λ xs. ArePutInto xs [] infos) (sym (of_type n seen s this))
          (puts_in (filter (λ (x : Sighting). x.of == n) seen) s (gathers.each n before wants (subst (λ k. slice_get old k ≡ Some before) this had)) refl puts))
      by n others wants there false e =
          let apart : s.of ≢ n = λ is. true≢false (sym (subst (λ k. nat_eq s.of k ≡ true) is (eq-eqb s.of s.of refl)) ∙ e) in
          subst (λ xs. ArePutInto xs [] others) (sym (of_other n seen s apart))
          (gathers.each n others wants (sym (get_set_other old s.of n infos (λ is. apart (sym is))) ∙ ap (λ xs. slice_get xs n) (sym is) ∙ there))

-- ---- along a walk

-- so many types of which nothing is met
pub record AreEmpty (count : ℕ) (gatherings : List (List PropertyInfo)) : Type 0 where
  pub all : length gatherings ≡ count
  pub none : (n : ℕ) (infos : List PropertyInfo) → slice_get gatherings n ≡ Some infos → infos ≡ []

pub empty_gathers : (wanted : List Bool) (gatherings : List (List PropertyInfo)) → AreEmpty (length wanted) gatherings → GathersSightings wanted [] gatherings
empty_gathers wanted gatherings known = record {
  all = known.all;
  each = λ n infos wants there. subst (ArePutInto [] []) (sym (known.none n infos there)) (put.none refl);
}

module _ {A B : Type 0} {Gives : A → B → List Sighting → Type 0} (wanted : List Bool) where
  pub sees_none : (now : List (List PropertyInfo)) → Sees wanted (Along Gives [] []) now now
  sees_none now = record { more = []; gives = along.none; adds = adds_none wanted now }

  pub sees_more : {xs : List A} {ys : List B} {old mid now : List (List PropertyInfo)} (a : A) (b : B) → Sees wanted (Along Gives xs ys) old mid → Sees wanted (Gives a b) mid now →
      Sees wanted (Along Gives (xs ++ a ∷ []) (ys ++ b ∷ [])) old now
  sees_more a b first then = record {
    more = first.more ++ then.more;
    gives = along_more a b first.gives then.gives;
    adds = adds_both wanted first.adds then.adds;
  }

pub sightings_more : (types more : List ℕ) (prop : Option ℕ) (list : Bool) (values : List ValueKind) →
    sightings types prop list values ++ sightings more prop list values ≡ sightings (types ++ more) prop list values
sightings_more types more None list values = refl
sightings_more types more (Some p) list values = sym (map-append (λ of. sighting of p list values) types more)

module _ (g : Grammar) (wanted : List Bool) where
  pub sees_nothing : (l : Leaf) (before : Before) (now : List (List PropertyInfo)) → SeenAtLeaf g l before [] → Sees wanted (SeenAtLeaf g l before) now now
  sees_nothing l before now gives = record { more = []; gives = gives; adds = adds_none wanted now }

  pub sees_action : (before : Before) (a : Action) (old now : List (List PropertyInfo)) (put : Option (List ℕ × Bool)) → IsComeTo before → a.put ≡ put →
      AddsTo wanted (put_by g before a put) old now → Sees wanted (SeenAtLeaf g (Act a) before) old now
  sees_action before a old now put come is adds = record {
    more = put_by g before a put;
    gives = subst (λ p. SeenAtLeaf g (Act a) before (put_by g before a p)) is (along.acted come);
    adds = adds;
  }

pub no_sightings : (prop : Option ℕ) (list : Bool) (values : List ValueKind) → sightings [] prop list values ≡ []
no_sightings None list values = refl
no_sightings (Some p) list values = refl

pub adds_as : (wanted : List Bool) {old now : List (List PropertyInfo)} {types then_types : List ℕ} {prop then_prop : Option ℕ} {list then_list : Bool} {values then_values : List ValueKind} →
    types ≡ then_types → prop ≡ then_prop → list ≡ then_list → values ≡ then_values → AddsTo wanted (sightings types prop list values) old now →
    AddsTo wanted (sightings then_types then_prop then_list then_values) old now
adds_as wanted {old} {now} {types} {then_types} {prop} {then_prop} {list} {then_list} {values} {then_values} a b c d adds =
    subst (λ ts. AddsTo wanted (sightings ts then_prop then_list then_values) old now) a
    (subst (λ p. AddsTo wanted (sightings types p then_list then_values) old now) b
    (subst (λ l. AddsTo wanted (sightings types prop l then_values) old now) c (subst (λ vs. AddsTo wanted (sightings types prop list vs) old now) d adds)))

-- ---- a step of a walk

take_there : {A : Type 0} (xs : List A) (i : ℕ) (x : A) → slice_get xs i ≡ Some x → take (i + 1) xs ≡ take i xs ++ x ∷ []
take_there xs i x there = take_more xs i x (slice_get_within xs i x there) ∙ ap (λ y. take i xs ++ y ∷ []) (get_or_from_slice_get xs i x x there)

module _ {A B : Type 0} {Gives : A → B → List Sighting → Type 0} (wanted : List Bool) {old now : List (List PropertyInfo)} (xs : List A) (ys : List B) (i : ℕ) where
  pub sees_step : {mid : List (List PropertyInfo)} (a : A) (b : B) → slice_get xs i ≡ Some a → slice_get ys i ≡ Some b → Sees wanted (Along Gives (take i xs) (take i ys)) old mid →
      Sees wanted (Gives a b) mid now → Sees wanted (Along Gives (take (i + 1) xs) (take (i + 1) ys)) old now
  sees_step a b at also first then =
      subst (λ zs. Sees wanted (Along Gives zs (take (i + 1) ys)) old now) (sym (take_there xs i a at))
      (subst (λ zs. Sees wanted (Along Gives (take i xs ++ a ∷ []) zs) old now) (sym (take_there ys i b also)) (sees_more wanted a b first then))

  pub sees_all : length xs ≤ i → length ys ≤ i → Sees wanted (Along Gives (take i xs) (take i ys)) old now → Sees wanted (Along Gives xs ys) old now
  sees_all le also sees =
      subst (λ zs. Sees wanted (Along Gives zs ys) old now) (take_all i xs le) (subst (λ zs. Sees wanted (Along Gives (take i xs) zs) old now) (take_all i ys also) sees)

-- a list that was lent as a whole and comes back
pub whole_back : {A : Type 0} (n : ℕ) (new old : List A) → length new ≡ length old → n ≡ length old → take n (new ++ drop (length new) old) ≡ new
whole_back n new old same is =
    ap (λ ys. take n (new ++ ys)) (drop_all (length new) old (omega (arith, same))) ∙ ap (take n) (append-nil new) ∙ take_all n new (omega (arith, same, is))
