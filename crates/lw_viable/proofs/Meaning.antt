-- Marks with numbers behind each other, and the kinds of what they mean.
use Rattle.std.proofs.Common.{◌≡◌, List, [], ◌∷◌, ◌++◌, refl, sym, ap, ◌∙◌}
use Rattle.lw_grammar.proofs.Joined.{kinds_join}
use Rattle.lw_grammar.specs.declared.grammar.Grammar.{Grammar}
use Rattle.lw_grammar.specs.Marks.{Mark, kinds_of}
use Rattle.lw_program.specs.declared.recipes.mark.TreeMark.{TreeMark}
use Rattle.lw_program.specs.Meant.{MeansMark, AreMeant}
use Rattle.lw_program.specs.Meant as meant

pub none_left : {X : Type 0} (xs ys : List X) → xs ++ ys ≡ [] → (xs ≡ []) × (ys ≡ [])
none_left [] ys is = (refl, is)
none_left (x ∷ xs) ys is = cc

-- where marks have no token, none of their parts has one
pub quiet_parts : (m n : List Mark) → kinds_of (m ++ n) ≡ [] → (kinds_of m ≡ []) × (kinds_of n ≡ [])
quiet_parts m n quiet = none_left (kinds_of m) (kinds_of n) (sym (kinds_join m n) ∙ quiet)

module _ (g : Grammar) where
  pub meant_joined : {xs ys : List TreeMark} {a b : List Mark} → AreMeant g xs a → AreMeant g ys b → AreMeant g (xs ++ ys) (a ++ b)
  meant_joined meant.none q = q
  meant_joined (meant.more is p) q = meant.more is (meant_joined p q)

  pub record MeantCut (xs ys : List TreeMark) (m : List Mark) : Type 0 where
    pub front : List Mark
    pub back : List Mark
    pub before : AreMeant g xs front
    pub behind : AreMeant g ys back
    pub are : m ≡ front ++ back

  pub meant_cut : (xs ys : List TreeMark) {m : List Mark} → AreMeant g (xs ++ ys) m → MeantCut xs ys m
  meant_cut [] ys {m} p = record { front = []; back = m; before = meant.none; behind = p; are = refl }
  meant_cut (x ∷ xs) ys (meant.more {m} is p) =
      let cut = meant_cut xs ys p in
      record { front = m ∷ cut.front; back = cut.back; before = meant.more is cut.before; behind = cut.behind; are = ap (λ n. m ∷ n) cut.are }

  one_kind : {x : TreeMark} {m n : Mark} (a b : List Mark) → MeansMark g x m → MeansMark g x n → kinds_of a ≡ kinds_of b → kinds_of (m ∷ a) ≡ kinds_of (n ∷ b)
  one_kind a b (meant.token k) (meant.token j) same = ap (λ ks. k.0 ∷ ks) same
  one_kind a b (meant.opens r) (meant.opens q) same = same
  one_kind a b meant.shuts meant.shuts same = same
  one_kind a b (meant.puts at assigned stands) (meant.puts at' assigned' stands') same = same
  one_kind a b meant.ends meant.ends same = same
  one_kind a b (meant.acts at is) (meant.acts at' is') same = same

  -- whatever they mean, the kinds are the same
  pub one_kinds : {xs : List TreeMark} {a b : List Mark} → AreMeant g xs a → AreMeant g xs b → kinds_of a ≡ kinds_of b
  one_kinds meant.none meant.none = refl
  one_kinds (meant.more {ms = a} is p) (meant.more {ms = b} is' q) = one_kind a b is is' (one_kinds p q)
