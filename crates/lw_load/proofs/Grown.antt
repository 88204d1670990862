-- A grammar with one more file: how large it is, and where its things stand.
use Rattle.std.proofs.Common.{ℕ, zero, suc, ◌≡◌, ◌+◌, ◌≤◌, List, [], ◌∷◌, ◌++◌, Some, length, map, sum_by, slice_get, All, refl, sym, ap, ◌∙◌, subst, arith, length-append}
use Rattle.std.proofs.lemmas.List.{length-map}
use Rattle.std.proofs.lemmas.List.Elements.{All-nil, All-cons, All-append, All-push, All-map, All-weaker}
use Rattle.std.proofs.lemmas.List.Sums.{sum_by-append, sum_by-cons}
use Rattle.lw_base.specs.declared.limits.TheConstants.{LONGEST_TEXT}
use Rattle.lw_base.specs.declared.token.Span.{Span}
use Rattle.lw_grammar.specs.declared.grammar.Grammar.{Grammar}
use Rattle.lw_grammar.specs.declared.grammar.Import.{Import}
use Rattle.lw_grammar.specs.declared.rule.Rule.{Rule}
use Rattle.lw_grammar.specs.declared.terminal.Terminal.{Terminal}
use Rattle.lw_grammar.specs.declared.declared_types.Interface.{Interface}
use Rattle.lw_grammar.specs.declared.declared_types.UnionDef.{UnionDef}
use Rattle.lw_grammar.specs.Size.{size, element_size, term_size}
use Rattle.lw_gramread.specs.Syntax.{bare_grammar}
use Rattle.lw_gramread.specs.PlacesWithin.{StandsWithin, IsWithin, rule_spans, terminal_spans, interface_spans, union_spans}
use Rattle.lw_load.specs.Paths.{import_path}
use Rattle.lw_load.specs.Loading.{with_file, imports_in}
use Rattle.lw_load.specs.Standing.{AreIn, Stands}

-- ---- sizes

sum_mapped : {X : Type 0} (f : X → ℕ) (g : X → X) → ((x : X) → f (g x) ≡ f x) → (xs : List X) → sum_by f (map g xs) ≡ sum_by f xs
sum_mapped f g same [] = refl
sum_mapped f g same (x ∷ xs) = omega (arith, sum_by-cons f (g x) (map g xs), sum_by-cons f x xs, same x, sum_mapped f g same xs)

sum_joined : {X : Type 0} (f : X → ℕ) (g : X → X) → ((x : X) → f (g x) ≡ f x) → (xs ys : List X) → sum_by f (xs ++ map g ys) ≡ sum_by f xs + sum_by f ys
sum_joined f g same xs ys = sum_by-append f xs (map g ys) ∙ ap (λ n. sum_by f xs + n) (sum_mapped f g same ys)

-- the sizes add up
pub size_grown : (g : Grammar) (path : List ℕ) (says : Grammar) → size (with_file g path says) ≡ size g + size says
size_grown g path says =
    add _ _ _ _ _ _ _ _ _ _ _ _ _ _ _ imports
    (sum_joined (λ rule. 1 + element_size rule.body) (λ (r : Rule). record r { file = n }) (λ r. refl) g.rules says.rules)
    (sum_joined (λ terminal. 1 + term_size terminal.body) (λ (t : Terminal). record t { file = n }) (λ t. refl) g.terminals says.terminals)
    (sum_joined (λ interface. 1 + sum_by (λ attribute. 1 + length attribute.members) interface.attributes) (λ (i : Interface). record i { file = n }) (λ i. refl) g.interfaces
    says.interfaces)
    (sum_joined (λ union. 1 + length union.members) (λ (u : UnionDef). record u { file = n }) (λ u. refl) g.unions says.unions)
  where
    n : ℕ
    n = length g.files

    imports : length (g.imports ++ imports_in n path says.imports) ≡ length g.imports + length says.imports
    imports =
        length-append g.imports (imports_in n path says.imports)
        ∙ ap (λ k. length g.imports + k) (length-map says.imports (λ i. record { path = import_path path i.path; file = n; span = i.span }))

    add : (a b c d e a' b' c' d' e' i r t f u : ℕ) → i ≡ a + a' → r ≡ b + b' → t ≡ c + c' → f ≡ d + d' → u ≡ e + e' →
        i + r + t + f + u ≡ (a + b + c + d + e) + (a' + b' + c' + d' + e')
    add a b c d e a' b' c' d' e' i r t f u h₁ h₂ h₃ h₄ h₅ = omega arith

-- ---- places

-- the texts with one more behind them
module _ (texts : List (List ℕ)) (text : List ℕ) where
  found_still : (xs : List (List ℕ)) (k : ℕ) (x : List ℕ) → slice_get xs k ≡ Some x → slice_get (xs ++ text ∷ []) k ≡ Some x
  found_still [] k x e = cc
  found_still (y ∷ ys) zero x e = e
  found_still (y ∷ ys) (suc k) x e = found_still ys k x e

  found_last : (xs : List (List ℕ)) → slice_get (xs ++ text ∷ []) (length xs) ≡ Some text
  found_last [] = refl
  found_last (y ∷ ys) = found_last ys

  still : (file : ℕ) (spans : List Span) → AreIn texts file spans → AreIn (texts ++ text ∷ []) file spans
  still file spans a = record { text = a.text; there = found_still texts file a.text a.there; within = a.within }

  here : (n : ℕ) → length texts ≡ n → (spans : List Span) → All (IsWithin text) spans → AreIn (texts ++ text ∷ []) n spans
  here n same spans w = record { text = text; there = ap (slice_get (texts ++ text ∷ [])) (sym same) ∙ found_last texts; within = w }

  -- things that stood, and those that are put behind them with the number of the text
  all_here : {X : Type 0} (n : ℕ) → length texts ≡ n → (file : X → ℕ) (spans : X → List Span) (as_here : X → X) → ((x : X) → file (as_here x) ≡ n) →
      ((x : X) → spans (as_here x) ≡ spans x) → (xs ys : List X) → All (λ x. AreIn texts (file x) (spans x)) xs → All (λ x. All (IsWithin text) (spans x)) ys →
      All (λ x. AreIn (texts ++ text ∷ []) (file x) (spans x)) (xs ++ map as_here ys)
  all_here n same file spans as_here numbered kept xs ys olds news =
      All-append (λ x. AreIn (texts ++ text ∷ []) (file x) (spans x)) xs (map as_here ys)
      (All-weaker (λ x. AreIn texts (file x) (spans x)) (λ x. AreIn (texts ++ text ∷ []) (file x) (spans x)) (λ x a. still (file x) (spans x) a) xs olds)
      (All-map (λ x. AreIn (texts ++ text ∷ []) (file x) (spans x)) as_here ys
      (All-weaker (λ x. All (IsWithin text) (spans x)) (λ x. AreIn (texts ++ text ∷ []) (file (as_here x)) (spans (as_here x)))
      (λ x w. here (file (as_here x)) (same ∙ sym (numbered x)) (spans (as_here x)) (subst (All (IsWithin text)) (sym (kept x)) w)) ys news))

  -- all stands where it stood, and what a file says in the last of the texts
  pub stands_grown : (g : Grammar) (path : List ℕ) (says : Grammar) → length text ≤ LONGEST_TEXT → Stands texts g → StandsWithin text says → Stands (texts ++ text ∷ []) (with_file g path says)
  stands_grown g path says small s w = record {
    files = length-append texts (text ∷ []) ∙ ap (λ n. n + 1) s.files ∙ sym (length-append g.files (path ∷ []));
    short = All-push (λ t. length t ≤ LONGEST_TEXT) texts text s.short small;
    rules = all_here n s.files (λ (r : Rule). r.file) rule_spans (λ r. record r { file = n }) (λ r. refl) (λ r. refl) g.rules says.rules s.rules w.rules;
    terminals = all_here n s.files (λ (t : Terminal). t.file) terminal_spans (λ t. record t { file = n }) (λ t. refl) (λ t. refl) g.terminals says.terminals s.terminals w.terminals;
    interfaces = all_here n s.files (λ (i : Interface). i.file) interface_spans (λ i. record i { file = n }) (λ i. refl) (λ i. refl) g.interfaces says.interfaces s.interfaces w.interfaces;
    unions = all_here n s.files (λ (u : UnionDef). u.file) union_spans (λ u. record u { file = n }) (λ u. refl) (λ u. refl) g.unions says.unions s.unions w.unions;
    imports =
        all_here n s.files (λ (i : Import). i.file) (λ i. i.span ∷ []) (λ i. record { path = import_path path i.path; file = n; span = i.span }) (λ i. refl) (λ i. refl) g.imports
        says.imports s.imports (All-weaker (λ i. IsWithin text i.span) (λ i. All (IsWithin text) (i.span ∷ [])) (λ i v. All-cons (IsWithin text) i.span [] v (All-nil (IsWithin text))) says.imports w.imports);
  }
    where
      n : ℕ
      n = length g.files

-- a grammar that declares nothing
pub stands_bare : (name : List ℕ) → Stands [] (bare_grammar name [])
stands_bare name = record { files = refl; short = All-nil _; rules = All-nil _; terminals = All-nil _; interfaces = All-nil _; unions = All-nil _; imports = All-nil _ }
