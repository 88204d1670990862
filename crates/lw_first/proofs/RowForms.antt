-- What a row may begin with, from its last part to its first.
use Rattle.std.proofs.Common.{◌≡◌, ℕ, ◌+◌, ◌<◌, List, [], ◌∷◌, length, drop, get_or, ◌↔◌, sym, ap, ◌∙◌, subst, arith}
use Rattle.std.proofs.lemmas.List.{drop_all, drop_more}
use Rattle.lw_grammar.specs.declared.grammar.Grammar.{Grammar}
use Rattle.lw_grammar.specs.declared.rule.Element.{Element}
use Rattle.lw_grammar.specs.Kinds.{Kinds}
use Rattle.lw_look.specs.Sites.{Body}
use Rattle.lw_look.specs.Heads as can
use Rattle.lw_look.specs.Heads.{Can, RowCan}
use Rattle.lw_first.specs.declared.heads.head.Head.{Head}
use Rattle.lw_first.specs.Sets.{AddsHeads, IsAmongHeads, IsInSet}
use Rattle.lw_first.proofs.HeadLemmas.{adds_to_none}
use Rattle.lw_first.specs.Before.{CanBefore, RowCanBefore}

module _ (g : Grammar) (kinds : Kinds) (k : ℕ) (sets : List (List Head)) (after : List Head) where
  -- the set has exactly what may come where the row stands
  abbrev pub IsRowSet : List Element → List Head → Type 0
  IsRowSet es behind = (h : List ℕ) → IsAmongHeads behind h ↔ RowCanBefore g kinds k sets es after h

  last : (a h : List ℕ) → IsAmongHeads after a → RowCan g kinds k (IsInSet sets) [] a h → IsAmongHeads after h
  last a h among can.none = among

  first : (e : Element) (es : List Element) (a h : List ℕ) → RowCan g kinds k (IsInSet sets) (e ∷ es) a h →
      (b : List ℕ) × RowCan g kinds k (IsInSet sets) es a b × Can g kinds k (IsInSet sets) (Body e) b h
  first e es a h (can.more {b} rest does) = (b, rest, does)

  -- behind the last part stand the heads behind the row
  pub row_none : (es : List Element) (behind : List Head) → AddsHeads (IsAmongHeads after) [] behind → IsRowSet (drop (length es) es) behind
  row_none es behind adds = subst (λ xs. IsRowSet xs behind) (sym (drop_all (length es) es (omega arith)))
      (λ h. let all = adds_to_none behind adds h in (λ among. (h, all.0 among, can.none), λ (a, among, does). all.1 (last a h among does)))

  -- one part further to the front
  pub row_more : (es : List Element) (i : ℕ) (e : Element) → i < length es → e ≡ get_or es i e → (behind before : List Head) → IsRowSet (drop (i + 1) es) behind →
      AddsHeads (CanBefore g kinds k sets (Body e) behind) [] before → IsRowSet (drop i es) before
  row_more es i e inside is behind before rest adds = subst (λ xs. IsRowSet xs before) (sym here) (λ h. let all = adds_to_none before adds h in (
    λ among. forth h (all.0 among),
    λ (a, among, does). all.1 (back a h among (first e (drop (i + 1) es) a h does)),
  ))
    where
      here : drop i es ≡ e ∷ drop (i + 1) es
      here = drop_more es i e inside ∙ ap (λ x. x ∷ drop (i + 1) es) (sym is)

      forth : (h : List ℕ) → CanBefore g kinds k sets (Body e) behind h → RowCanBefore g kinds k sets (e ∷ drop (i + 1) es) after h
      forth h (b, among, does) = let (a, has, row) = (rest b).0 among in (a, has, can.more row does)

      back : (a h : List ℕ) → IsAmongHeads after a → (b : List ℕ) × RowCan g kinds k (IsInSet sets) (drop (i + 1) es) a b × Can g kinds k (IsInSet sets) (Body e) b h → CanBefore g kinds k sets (Body e) behind h
      back a h has (b, row, does) = (b, (rest b).1 (a, has, row), does)
