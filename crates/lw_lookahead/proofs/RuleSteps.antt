-- Rules gone through one after the other.
use Rattle.std.proofs.Common.{◌≡◌, ℕ, ◌+◌, ◌<◌, ◌≤◌, List, [], ◌∷◌, ◌++◌, Ok, Err, length, drop, get_or, refl, sym, ap, ◌∙◌, subst}
use Rattle.std.proofs.lemmas.List.{drop_more, drop_all}
use Rattle.std.proofs.lemmas.Option.{slice_get_read}
use Rattle.lw_grammar.specs.declared.rule.Rule.{Rule}
use Rattle.lw_grammar.specs.Kinds.{Kinds, AreKinds}
use Rattle.lw_first.specs.declared.heads.head.Head.{Head}
use Rattle.lw_first.specs.Sets.{IsInSet}
use Rattle.lw_look.specs.Sites.{body}
use Rattle.lw_look.specs.Sites as site
use Rattle.lw_look.specs.Choices.{element_choices, rule_choices, choice_sites}
use Rattle.lw_first.specs.declared.first.First.{First}
use Rattle.lw_lookahead.specs.declared.points.point.Point.{Point}
use Rattle.lw_lookahead.specs.declared.points.point.PointsFault.{PointsFault}
use Rattle.lw_lookahead.specs.Ways.{HasExactly}
use Rattle.lw_lookahead.specs.Gathering.{PutsPoints, GathersPoints, GathersWhere, IsElementAt}
use Rattle.lw_lookahead.proofs.FollowForms.{followed_body}
use Rattle.lw_lookahead.proofs.PutSteps.{puts_none, puts_on, fails_on}

module _ (first : First) (followers : List (List Head)) where
  -- the choices of the rules from this number on are left
  abbrev pub IsLeftFrom : ℕ → List Point → Type 0
  IsLeftFrom i points =
      (kinds : Kinds) → AreKinds first.lexicon.g.now kinds →
      PutsPoints first.lexicon.g.now kinds first.k first.heads.now followers (choice_sites first.lexicon.g.now) (rule_choices i (drop i first.lexicon.g.now.rules)) [] points

  pub rules_begin : (points : List Point) → points ≡ [] → IsLeftFrom 0 points
  rules_begin points none kinds are =
      subst (λ new. PutsPoints first.lexicon.g.now kinds first.k first.heads.now followers (choice_sites first.lexicon.g.now) (choice_sites first.lexicon.g.now) [] new) (sym none)
      (puts_none first.lexicon.g.now kinds first.k first.heads.now followers (choice_sites first.lexicon.g.now) [])

  pub rules_end : (i : ℕ) (points : List Point) (kinds : Kinds) → AreKinds first.lexicon.g.now kinds → length first.lexicon.g.now.rules ≤ i → IsLeftFrom i points →
      PutsPoints first.lexicon.g.now kinds first.k first.heads.now followers (choice_sites first.lexicon.g.now) [] [] points
  rules_end i points kinds are past left =
      subst (λ sites. PutsPoints first.lexicon.g.now kinds first.k first.heads.now followers (choice_sites first.lexicon.g.now) sites [] points)
      (ap (rule_choices i) (drop_all i first.lexicon.g.now.rules past)) (left kinds are)

  module _ (i : ℕ) (rule : Rule) (within : i < length first.lexicon.g.now.rules) (is : rule ≡ get_or first.lexicon.g.now.rules i rule) (after : List Head)
      (exact : HasExactly (IsInSet followers i) after) (mid new : List Point) (left : IsLeftFrom i mid) where
    module _ (kinds : Kinds) (are : AreKinds first.lexicon.g.now kinds) where
      before : PutsPoints first.lexicon.g.now kinds first.k first.heads.now followers (choice_sites first.lexicon.g.now)
          (element_choices rule.body (body i) ++ rule_choices (i + 1) (drop (i + 1) first.lexicon.g.now.rules)) [] mid
      before =
          subst (λ sites. PutsPoints first.lexicon.g.now kinds first.k first.heads.now followers (choice_sites first.lexicon.g.now) sites [] mid)
          (ap (rule_choices i) (drop_more first.lexicon.g.now.rules i rule within ∙ ap (λ y. y ∷ drop (i + 1) first.lexicon.g.now.rules) (sym is))) (left kinds are)

    pub rules_go_on : GathersWhere first rule.file (IsElementAt rule.body) after (element_choices rule.body) mid new (Ok tt) → IsLeftFrom (i + 1) new
    rules_go_on gathers kinds are =
        let there = slice_get_read first.lexicon.g.now.rules (length first.lexicon.g.now.rules) i rule refl within is in
        puts_on first.lexicon.g.now kinds first.k first.heads.now followers (choice_sites first.lexicon.g.now) (element_choices rule.body (body i))
        (rule_choices (i + 1) (drop (i + 1) first.lexicon.g.now.rules)) [] mid new (before kinds are)
        (gathers kinds followers (body i) are (site.whole there) (followed_body first.lexicon.g.now kinds first.k first.heads.now followers i rule after there exact))

    pub rules_fail : (fault : PointsFault) → GathersWhere first rule.file (IsElementAt rule.body) after (element_choices rule.body) mid new (Err fault) →
        (kinds : Kinds) → AreKinds first.lexicon.g.now kinds →
        GathersPoints first.lexicon.g.now kinds first.k first.heads.now followers (choice_sites first.lexicon.g.now) [] new (Err fault)
    rules_fail fault gathers kinds are =
        let there = slice_get_read first.lexicon.g.now.rules (length first.lexicon.g.now.rules) i rule refl within is in
        fails_on first.lexicon.g.now kinds first.k first.heads.now followers (choice_sites first.lexicon.g.now) (element_choices rule.body (body i))
        (rule_choices (i + 1) (drop (i + 1) first.lexicon.g.now.rules)) [] mid new fault (before kinds are)
        (gathers kinds followers (body i) are (site.whole there) (followed_body first.lexicon.g.now kinds first.k first.heads.now followers i rule after there exact))
