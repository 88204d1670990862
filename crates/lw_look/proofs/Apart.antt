-- In the kinds of a grammar a text has one kind, since each keyword stands there once; and no name is that of a terminal and of a rule.
use Rattle.std.proofs.Common.{◌≡◌, ◌≢◌, ℕ, zero, suc, List, [], ◌∷◌, Bool, true, false, ◌||◌, if◌then◌else◌, Contains, All, AllPairs, bytes_eq, refl, sym, ap, ◌∙◌, subst, true≢false, arith}
use Rattle.std.specs.List.{flat_map}
use Rattle.std.proofs.lemmas.List.Elements.{All-nil, All-cons}
use Rattle.std.proofs.lemmas.List.Kept.{AllPairs-cons}
use Rattle.std.proofs.lemmas.Slice.Eq.{bytes_eq-Decides}
use Rattle.lw_grammar.specs.declared.grammar.Grammar.{Grammar}
use Rattle.lw_grammar.specs.declared.rule.Rule.{Rule}
use Rattle.lw_grammar.specs.Leaves.{keywords_in}
use Rattle.lw_grammar.specs.Named.{IsRule, declared_rule, declared_terminal}
use Rattle.lw_grammar.specs.Kinds.{Kinds, AreKinds, IsKeywordKind, IsTerminalKind, first_uses}
use Rattle.lw_grammar.proofs.FirstUses.{stands_in}
use Rattle.lw_base.proofs.Lists.{there}
use Rattle.lw_grammar.proofs.KeywordRows.{keyword_once}
use Rattle.lw_grammar.proofs.Meaning.{one_of_two}

-- a text has one kind, and no name is that of a terminal and of a rule
pub record AreApart (g : Grammar) (kinds : Kinds) : Type 0 where
  pub keywords : (text : List ℕ) (k l : ℕ) → IsKeywordKind kinds text k → IsKeywordKind kinds text l → k ≡ l
  pub names : (name : List ℕ) (k r : ℕ) (rule : Rule) → IsTerminalKind g kinds name k → IsRule g name r rule → ⊥

pub each : {X : Type 0} (P : X → Type 0) (xs : List X) → ((x : X) → Contains xs x → P x) → All P xs
each P [] all = All-nil P
each P (x ∷ xs) all = All-cons P x xs (all x (0, omega arith, refl)) (each P xs (λ y has. all y (there x xs y has)))

neither : (a b : Bool) → (a || b) ≡ false → b ≡ false
neither true b is = absurd (true≢false is)
neither false b is = is

-- what was seen before is left out
fresh : (seen xs : List (List ℕ)) (x : List ℕ) → Contains (first_uses seen xs) x → stands_in x seen ≡ false
fresh seen [] x (i, inside, is) = absurd (omega arith)
fresh seen (text ∷ xs) x has = by (λ more. fresh seen xs x more) (λ more. fresh (text ∷ seen) xs x more) (stands_in text seen) refl has
  where
    by : (Contains (first_uses seen xs) x → stands_in x seen ≡ false) → (Contains (first_uses (text ∷ seen) xs) x → stands_in x (text ∷ seen) ≡ false) →
        (b : Bool) → stands_in text seen ≡ b → Contains (if b then first_uses seen xs else text ∷ first_uses (text ∷ seen) xs) x → stands_in x seen ≡ false
    by old new true is has = old has
    by old new false is (zero, inside, same) = subst (λ x. stands_in x seen ≡ false) same is
    by old new false is (suc i, inside, same) = neither (bytes_eq x text) (stands_in x seen) (new (i, omega arith, same))

uses_differ : (seen xs : List (List ℕ)) → AllPairs (λ a b. a ≢ b) (first_uses seen xs)
uses_differ seen [] = λ i j x below inside. absurd (omega arith)
uses_differ seen (text ∷ xs) = by (uses_differ seen xs) (uses_differ (text ∷ seen) xs) (stands_in text seen)
  where
    others : All (λ y. text ≢ y) (first_uses (text ∷ seen) xs)
    others = each (λ y. text ≢ y) (first_uses (text ∷ seen) xs)
        (λ y has same. true≢false (sym (ap (λ b. b || stands_in y seen) ((bytes_eq-Decides y text).1 (sym same))) ∙ fresh (text ∷ seen) xs y has))

    by : AllPairs (λ a b. a ≢ b) (first_uses seen xs) → AllPairs (λ a b. a ≢ b) (first_uses (text ∷ seen) xs) → (b : Bool) → AllPairs (λ a b. a ≢ b) (if b then first_uses seen xs else text ∷ first_uses (text ∷ seen) xs)
    by old new true = old
    by old new false = AllPairs-cons (λ a b. a ≢ b) text (first_uses (text ∷ seen) xs) others new

pub no_terminal_is_rule : (g : Grammar) (kinds : Kinds) (name : List ℕ) (k r : ℕ) (rule : Rule) → IsTerminalKind g kinds name k → IsRule g name r rule → ⊥
no_terminal_is_rule g kinds name k r rule is was = one_of_two declared_terminal declared_rule name g.terminals g.rules is.place r is.terminal rule is.meant was

pub are_apart : (g : Grammar) (kinds : Kinds) → AreKinds g kinds → AreApart g kinds
are_apart g kinds are = record {
  keywords = keyword_once g kinds (subst (AllPairs (λ a b. a ≢ b)) (sym are.keywords) (uses_differ [] (flat_map (λ (rule : Rule). keywords_in rule.body) are.rules)));
  names = no_terminal_is_rule g kinds;
}
