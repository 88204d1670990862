-- What is gathered, one part after the other.
use Rattle.std.proofs.Common.{◌≡◌, ℕ, ◌↔◌, ◌⊎◌, inl, inr, List, [], ◌∷◌, ◌++◌, Contains, refl, sym, ap, ◌∙◌, subst, arith}
use Rattle.std.proofs.lemmas.List.Concat.{flat_map-append}
use Rattle.std.proofs.lemmas.List.Elements.{Contains-append_left, Contains-append_right, Contains-append_cases}
use Rattle.lw_grammar.specs.declared.grammar.Grammar.{Grammar}
use Rattle.lw_grammar.specs.Leaves.{Leaf, ValueLeaf}
use Rattle.lw_grammar.proofs.Every.{every_of}
use Rattle.lw_kinds.proofs.PassingReads.{at_front}
use Rattle.lw_kinds.specs.declared.gathering.Gathered.{Gathered}
use Rattle.lw_kinds.specs.Calls.{PartCallsName, LeafCallsName, IsTerminalSo, PartsCallTerminal, LeavesCallTerminal}
use Rattle.lw_kinds.specs.Gathering.{Gathers, GathersParts, GathersLeaves, put_uses}
use Rattle.lw_kinds.specs.Uses.{Use, part_keyword_uses, leaf_keyword_uses}
use Rattle.lw_kinds.proofs.FirstTexts.{put_uses-append}
use Rattle.lw_kinds.proofs.MarkLemmas.{Marks-none, Marks-same, Marks-then}

-- ---- one of a list

module _ {X : Type 0} (P : X → Type 0) where
  abbrev pub SomeOf : List X → Type 0
  SomeOf xs = (x : X) × Contains xs x × P x

  pub one_of : (y : X) → SomeOf (y ∷ []) ↔ P y
  one_of y = (λ (x, has, does). subst P (sym (every_of (λ z. y ≡ z) (y ∷ []) x (refl, tt) has)) does, λ does. (y, at_front y [], does))

  pub some_of_both : (xs ys : List X) → SomeOf (xs ++ ys) ↔ (SomeOf xs ⊎ SomeOf ys)
  some_of_both xs ys = (forth, back)
    where
      forth : SomeOf (xs ++ ys) → SomeOf xs ⊎ SomeOf ys
      forth (x, has, does) = elim (Contains-append_cases xs ys x has) [ inl front ↦ inl (x, front, does) | inr behind ↦ inr (x, behind, does) ]

      back : SomeOf xs ⊎ SomeOf ys → SomeOf (xs ++ ys)
      back (inl (x, has, does)) = (x, Contains-append_left xs ys x has, does)
      back (inr (x, has, does)) = (x, Contains-append_right xs ys x has, does)

-- ---- what is gathered

module _ {is_so : ℕ → Type 0} {words : List Use} where
  pub Gathers-same : {was_so : ℕ → Type 0} {others : List Use} {old new : Gathered} → words ≡ others → ((t : ℕ) → is_so t ↔ was_so t) → Gathers words is_so old new →
      Gathers others was_so old new
  Gathers-same {old = old} are same gathers = record { keywords = gathers.keywords ∙ ap (put_uses old.keywords.entries) are; marks = Marks-same same gathers.marks }

  pub Gathers-then : {other both : ℕ → Type 0} {more : List Use} {old mid new : Gathered} → ((t : ℕ) → both t ↔ (is_so t ⊎ other t)) → Gathers words is_so old mid →
      Gathers more other mid new → Gathers (words ++ more) both old new
  Gathers-then {more = more} {old = old} same one two = record {
    keywords = two.keywords ∙ ap (λ uses. put_uses uses more) one.keywords ∙ sym (put_uses-append old.keywords.entries words more);
    marks = Marks-then same one.marks two.marks;
  }

module _ (g : Grammar) (file : ℕ) where
  pub parts-then : (parts more : List ValueLeaf) {old mid new : Gathered} → GathersParts g file parts old mid → GathersParts g file more mid new →
      GathersParts g file (parts ++ more) old new
  parts-then parts more one two =
      Gathers-same {is_so = PartsCallTerminal g (parts ++ more)} (sym (flat_map-append (part_keyword_uses file) parts more)) (λ t. (λ is. is, λ is. is))
      (Gathers-then (λ t. some_of_both (λ part. IsTerminalSo g (PartCallsName g part) t) parts more) one two)

  pub leaves-then : (ls more : List Leaf) {old mid new : Gathered} → GathersLeaves g file ls old mid → GathersLeaves g file more mid new →
      GathersLeaves g file (ls ++ more) old new
  leaves-then ls more one two =
      Gathers-same {is_so = LeavesCallTerminal g (ls ++ more)} (sym (flat_map-append (leaf_keyword_uses file) ls more)) (λ t. (λ is. is, λ is. is))
      (Gathers-then (λ t. some_of_both (λ leaf. IsTerminalSo g (LeafCallsName g leaf) t) ls more) one two)
