-- Parts gone through one after the other.
use Rattle.std.proofs.Common.{◌≡◌, ℕ, ◌+◌, ◌<◌, ◌≤◌, List, [], ◌∷◌, ◌++◌, Result, Ok, Err, length, map, drop, get_or, sym, ap, ◌∙◌, subst}
use Rattle.std.specs.Result.{IsErrAnd}
use Rattle.std.proofs.lemmas.List.{drop_more, drop_all}
use Rattle.lw_grammar.specs.declared.grammar.Grammar.{Grammar}
use Rattle.lw_grammar.specs.Kinds.{Kinds, AreKinds}
use Rattle.lw_first.specs.declared.heads.head.Head.{Head}
use Rattle.lw_look.specs.Sites.{PartSite, ◌▸◌}
use Rattle.lw_look.specs.Choices.{inside}
use Rattle.lw_first.specs.declared.first.First.{First}
use Rattle.lw_lookahead.specs.declared.points.point.Point.{Point}
use Rattle.lw_lookahead.specs.declared.points.point.PointsFault.{PointsFault}
use Rattle.lw_lookahead.specs.Gathering.{IsFollowedBy, PutsPoints, GathersPoints, GathersWhere, site_alone}
use Rattle.lw_lookahead.proofs.PutSteps.{puts_none, puts_on, fails_on, gathers_on}

-- a fault that is handed on
pub handed_on : {X : Type 0} (P : Result X PointsFault → Type 0) (result : Result X PointsFault) (fault : PointsFault) → IsErrAnd result (λ told. told ≡ fault) →
    P (Err fault) → P result
handed_on P (Ok x) fault not holds = absurd not
handed_on P (Err told) fault same holds = subst (λ f. P (Err f)) (sym same) holds

module _ (first : First) (file : ℕ) (is_so : Grammar → PartSite → Type 0) (after : List Head) where
  -- at whichever such site, the first of the choices were put behind the others, and these are left
  abbrev pub PutsWhere : (PartSite → List PartSite) → (PartSite → List PartSite) → List Point → List Point → Type 0
  PutsWhere sites left old new =
      (kinds : Kinds) (followers : List (List Head)) (s : PartSite) → AreKinds first.lexicon.g.now kinds → is_so first.lexicon.g.now s →
      IsFollowedBy first.lexicon.g.now kinds first.k first.heads.now followers s file after →
      PutsPoints first.lexicon.g.now kinds first.k first.heads.now followers (sites s) (left s) old new

  -- wherever this is so at a site, that is so at its part of a number, which these heads may follow
  abbrev pub LeadsTo : ℕ → (Grammar → PartSite → Type 0) → List Head → Type 0
  LeadsTo i is_there behind =
      (kinds : Kinds) (followers : List (List Head)) (s : PartSite) → AreKinds first.lexicon.g.now kinds → is_so first.lexicon.g.now s →
      IsFollowedBy first.lexicon.g.now kinds first.k first.heads.now followers s file after →
      is_there first.lexicon.g.now (s ▸ i) × IsFollowedBy first.lexicon.g.now kinds first.k first.heads.now followers (s ▸ i) file behind

  -- ---- the same said otherwise

  -- no choices are there
  pub gathers_none : (choices : PartSite → List PartSite) (old : List Point) (u : Unit {0}) → ((s : PartSite) → choices s ≡ []) →
      GathersWhere first file is_so after choices old old (Ok u)
  gathers_none choices old u none kinds followers s are at follows =
      subst (λ sites. PutsPoints first.lexicon.g.now kinds first.k first.heads.now followers sites [] old old) (sym (none s))
      (puts_none first.lexicon.g.now kinds first.k first.heads.now followers [] old)

  -- the choices of a part are those of what it is
  pub gathers_as : (is_there : Grammar → PartSite → Type 0) (choices others : PartSite → List PartSite) (old new : List Point)
      (result : Result (Unit {0}) PointsFault) → ((g : Grammar) (s : PartSite) → is_so g s → is_there g s) → ((s : PartSite) → choices s ≡ others s) →
      GathersWhere first file is_there after others old new result → GathersWhere first file is_so after choices old new result
  gathers_as is_there choices others old new result there same gathers kinds followers s are at follows =
      subst (λ sites. GathersPoints first.lexicon.g.now kinds first.k first.heads.now followers sites old new result) (sym (same s))
      (gathers kinds followers s are (there first.lexicon.g.now s at) follows)

  -- those of its one part
  pub gathers_part : (is_there : Grammar → PartSite → Type 0) (behind : List Head) (choices : PartSite → List PartSite) (old new : List Point)
      (result : Result (Unit {0}) PointsFault) → LeadsTo 0 is_there behind → GathersWhere first file is_there behind choices old new result →
      GathersWhere first file is_so after (λ s. choices (s ▸ 0)) old new result
  gathers_part is_there behind choices old new result leads gathers kinds followers s are at follows =
      let there = leads kinds followers s are at follows in gathers kinds followers (s ▸ 0) are there.0 there.1

  -- ---- an outer choice, and then those inside it

  module _ (sites : PartSite → List PartSite) (old mid : List Point) where
    pub outer_fails : (fault : PointsFault) → GathersWhere first file is_so after site_alone old mid (Err fault) →
        GathersWhere first file is_so after (λ s. s ∷ sites s) old mid (Err fault)
    outer_fails fault outer kinds followers s are at follows =
        fails_on first.lexicon.g.now kinds first.k first.heads.now followers (s ∷ sites s) (s ∷ []) (sites s) old old mid fault
        (puts_none first.lexicon.g.now kinds first.k first.heads.now followers (s ∷ sites s) old) (outer kinds followers s are at follows)

    outer_put : (u : Unit {0}) → GathersWhere first file is_so after site_alone old mid (Ok u) → PutsWhere (λ s. s ∷ sites s) sites old mid
    outer_put u outer kinds followers s are at follows =
        puts_on first.lexicon.g.now kinds first.k first.heads.now followers (s ∷ sites s) (s ∷ []) (sites s) old old mid
        (puts_none first.lexicon.g.now kinds first.k first.heads.now followers (s ∷ sites s) old) (outer kinds followers s are at follows)

    -- those inside it, at the same site
    pub outer_then : (u : Unit {0}) (new : List Point) (is_there : Grammar → PartSite → Type 0) (result : Result (Unit {0}) PointsFault) →
        ((g : Grammar) (s : PartSite) → is_so g s → is_there g s) → GathersWhere first file is_so after site_alone old mid (Ok u) →
        GathersWhere first file is_there after sites mid new result → GathersWhere first file is_so after (λ s. s ∷ sites s) old new result
    outer_then u new is_there result there outer inner kinds followers s are at follows =
        gathers_on first.lexicon.g.now kinds first.k first.heads.now followers (s ∷ sites s) (sites s) old mid new result
        (outer_put u outer kinds followers s are at follows) (inner kinds followers s are (there first.lexicon.g.now s at) follows)

  -- those in its one part
  pub outer_then_part : (choices : PartSite → List PartSite) (old mid new : List Point) (u : Unit {0}) (is_there : Grammar → PartSite → Type 0) (behind : List Head)
      (result : Result (Unit {0}) PointsFault) → LeadsTo 0 is_there behind → GathersWhere first file is_so after site_alone old mid (Ok u) →
      GathersWhere first file is_there behind choices mid new result → GathersWhere first file is_so after (λ s. s ∷ choices (s ▸ 0)) old new result
  outer_then_part choices old mid new u is_there behind result leads outer inner kinds followers s are at follows =
      gathers_on first.lexicon.g.now kinds first.k first.heads.now followers (s ∷ choices (s ▸ 0)) (choices (s ▸ 0)) old mid new result
      (outer_put (λ s. choices (s ▸ 0)) old mid u outer kinds followers s are at follows)
      (let there = leads kinds followers s are at follows in inner kinds followers (s ▸ 0) are there.0 there.1)

  -- ---- parts, one after the other

  module _ {X : Type 0} (choices : X → PartSite → List PartSite) (xs : List X) where
    abbrev pub all_inside : PartSite → List PartSite
    all_inside s = inside s 0 (map choices xs)

    abbrev pub left_inside : ℕ → PartSite → List PartSite
    left_inside i s = inside s i (map choices (drop i xs))

    pub loop_begins : (old : List Point) → PutsWhere all_inside (left_inside 0) old old
    loop_begins old kinds followers s are at follows = puts_none first.lexicon.g.now kinds first.k first.heads.now followers (all_inside s) old

    pub loop_ends : (i : ℕ) (old new : List Point) (u : Unit {0}) → length xs ≤ i → PutsWhere all_inside (left_inside i) old new →
        GathersWhere first file is_so after all_inside old new (Ok u)
    loop_ends i old new u past puts kinds followers s are at follows =
        subst (λ left. PutsPoints first.lexicon.g.now kinds first.k first.heads.now followers (all_inside s) left old new) (ap (λ ys. inside s i (map choices ys)) (drop_all i xs past))
        (puts kinds followers s are at follows)

    module _ (i : ℕ) (x : X) (within : i < length xs) (is : x ≡ get_or xs i x) (is_there : Grammar → PartSite → Type 0) (behind : List Head)
        (leads : LeadsTo i is_there behind) (old mid new : List Point) (puts : PutsWhere all_inside (left_inside i) old mid) where
      next_left : (s : PartSite) → left_inside i s ≡ choices x (s ▸ i) ++ left_inside (i + 1) s
      next_left s = ap (λ ys. inside s i (map choices ys)) (drop_more xs i x within ∙ ap (λ y. y ∷ drop (i + 1) xs) (sym is))

      before : PutsWhere all_inside (λ s. choices x (s ▸ i) ++ left_inside (i + 1) s) old mid
      before kinds followers s are at follows =
          subst (λ left. PutsPoints first.lexicon.g.now kinds first.k first.heads.now followers (all_inside s) left old mid) (next_left s) (puts kinds followers s are at follows)

      pub loop_goes_on : (u : Unit {0}) → GathersWhere first file is_there behind (choices x) mid new (Ok u) → PutsWhere all_inside (left_inside (i + 1)) old new
      loop_goes_on u gathers kinds followers s are at follows =
          let there = leads kinds followers s are at follows in
          puts_on first.lexicon.g.now kinds first.k first.heads.now followers (all_inside s) (choices x (s ▸ i)) (left_inside (i + 1) s) old mid new
          (before kinds followers s are at follows) (gathers kinds followers (s ▸ i) are there.0 there.1)

      pub loop_fails : (fault : PointsFault) → GathersWhere first file is_there behind (choices x) mid new (Err fault) →
          GathersWhere first file is_so after all_inside old new (Err fault)
      loop_fails fault gathers kinds followers s are at follows =
          let there = leads kinds followers s are at follows in
          fails_on first.lexicon.g.now kinds first.k first.heads.now followers (all_inside s) (choices x (s ▸ i)) (left_inside (i + 1) s) old mid new fault
          (before kinds followers s are at follows) (gathers kinds followers (s ▸ i) are there.0 there.1)
