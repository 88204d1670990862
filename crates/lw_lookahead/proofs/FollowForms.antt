-- What may follow the parts of what stands at a site, where it is known what follows the site.
use Rattle.std.proofs.Common.{◌≡◌, ℕ, ◌<◌, List, Some, length, slice_get, refl, sym, ◌∙◌, subst}
use Rattle.std.proofs.lemmas.Option.{same_Some}
use Rattle.lw_grammar.specs.declared.grammar.Grammar.{Grammar}
use Rattle.lw_grammar.specs.declared.rule.Element.{Element}
use Rattle.lw_grammar.specs.declared.rule.Rule.{Rule}
use Rattle.lw_grammar.specs.Kinds.{Kinds}
use Rattle.lw_first.specs.declared.heads.head.Head.{Head}
use Rattle.lw_first.specs.Sets.{IsAmongHeads, IsInSet}
use Rattle.lw_first.specs.Before.{ManyCanBefore}
use Rattle.lw_first.specs.Followed.{AreBehind}
use Rattle.lw_look.specs.Sites.{PartSite, body, ◌▸◌, RowAt, RepeatedAt}
use Rattle.lw_look.specs.Looks.{EndsWithPart}
use Rattle.lw_look.specs.Heads.{CanFollow}
use Rattle.lw_look.specs.Heads as head
use Rattle.lw_lookahead.specs.Ways.{HasExactly}
use Rattle.lw_lookahead.specs.Gathering.{IsFollowedBy}
use Rattle.lw_lookahead.proofs.SiteForms.{IsOther, row_follow, repeated_follow, other_follow, whole_follow}

module _ (g : Grammar) (kinds : Kinds) (k : ℕ) (heads followers : List (List Head)) where
  -- the body of a rule
  pub followed_body : (r : ℕ) (rule : Rule) (after : List Head) → slice_get g.rules r ≡ Some rule → HasExactly (IsInSet followers r) after →
      IsFollowedBy g kinds k heads followers (body r) rule.file after
  followed_body r rule after there exact = record {
    rule = rule;
    at = there;
    in_file = refl;
    exact = λ h.
        (λ among. head.whole ((exact h).0 among), λ p. (exact h).1 (whole_follow g kinds k (IsInSet heads) (IsInSet followers) p));
  }

  module _ {s : PartSite} {file : ℕ} {after : List Head} (follows : IsFollowedBy g kinds k heads followers s file after) where
    -- the heads are handed on
    pub followed_other : (i : ℕ) → IsOther g s → EndsWithPart g kinds s i → IsFollowedBy g kinds k heads followers (s ▸ i) file after
    followed_other i other ends = record {
      rule = follows.rule;
      at = follows.at;
      in_file = follows.in_file;
      exact = λ h. (
        λ among. head.in_other ends ((follows.exact h).0 among),
        λ p. (follows.exact h).1 (other_follow g kinds k (IsInSet heads) (IsInSet followers) other p),
      );
    }

    -- a part that is repeated
    pub followed_again : (e : Element) (again : List Head) → RepeatedAt g s e → HasExactly (ManyCanBefore g kinds k heads e after) again →
        IsFollowedBy g kinds k heads followers (s ▸ 0) file again
    followed_again e again there all = record { rule = follows.rule; at = follows.at; in_file = follows.in_file; exact = λ h. (forth h, back h) }
      where
        forth : (h : List ℕ) → IsAmongHeads again h → CanFollow g kinds k (IsInSet heads) (IsInSet followers) (s ▸ 0) h
        forth h among = let (a, behind, many) = (all h).0 among in head.in_repeated there many ((follows.exact a).0 behind)

        back : (h : List ℕ) → CanFollow g kinds k (IsInSet heads) (IsInSet followers) (s ▸ 0) h → IsAmongHeads again h
        back h p =
            let (a, many, q) = repeated_follow g kinds k (IsInSet heads) (IsInSet followers) there p in
            (all h).1 (a, (follows.exact a).1 q, many)

    -- a part of a row
    pub followed_in_row : (es : List Element) (behind : List (List Head)) (i : ℕ) (set : List Head) → RowAt g s es → i < length es →
        AreBehind g kinds k heads es after behind → slice_get behind i ≡ Some set → IsFollowedBy g kinds k heads followers (s ▸ i) file set
    followed_in_row es behind i set there inside are at =
        record { rule = follows.rule; at = follows.at; in_file = follows.in_file; exact = λ h. (forth h, back h) }
      where
        forth : (h : List ℕ) → IsAmongHeads set h → CanFollow g kinds k (IsInSet heads) (IsInSet followers) (s ▸ i) h
        forth h among =
            let (a, after_row, can) = (are.each i h inside).0 (set, at, among) in head.in_row there inside can ((follows.exact a).0 after_row)

        among_set : (h : List ℕ) → IsInSet behind i h → IsAmongHeads set h
        among_set h (other, found, among) = subst (λ heads. IsAmongHeads heads h) (same_Some other set (sym found ∙ at)) among

        back : (h : List ℕ) → CanFollow g kinds k (IsInSet heads) (IsInSet followers) (s ▸ i) h → IsAmongHeads set h
        back h p =
            let (a, can, q) = row_follow g kinds k (IsInSet heads) (IsInSet followers) there p in
            among_set h ((are.each i h inside).1 (a, (follows.exact a).1 q, can))
