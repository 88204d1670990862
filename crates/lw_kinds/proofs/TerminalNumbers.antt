-- Which keyword and which terminal has which number.
use Rattle.std.proofs.Common.{◌≡◌, ℕ, ◌+◌, ◌<◌, ◌≤◌, List, Option, None, Some, MatchOption, MatchResult, Result, Ok, Err, inl, inr, length, get_or, slice_get, option_map, position, Contains, bytes_eq, refl, sym, ap, ◌∙◌, subst, arith}
use Rattle.std.specs.Ordering.{nat_cmp}
use Rattle.std.specs.Result.{result_ok}
use Rattle.std.specs.List.Sorted.{IsBinarySearchResult, IsStrictlyIncreasing}
use Rattle.std.proofs.lemmas.Bool.{cases_lt}
use Rattle.std.proofs.lemmas.List.{length-map}
use Rattle.std.proofs.lemmas.List.Sorted.{searched}
use Rattle.std.proofs.lemmas.List.Kept.{AllPairs-from_increasing}
use Rattle.std.proofs.lemmas.Option.{none-some, same_Some, slice_get-map, slice_get-get_or, slice_get_within, get_or_from_slice_get}
use Rattle.lw_grammar.specs.declared.grammar.Grammar.{Grammar}
use Rattle.lw_grammar.specs.declared.terminal.Terminal.{Terminal}
use Rattle.lw_grammar.specs.Kinds.{Kinds, AreKinds, IsKindTerminal, IsKeywordKind, IsTerminalKind}
use Rattle.lw_grammar.specs.Kinds as kind
use Rattle.lw_grammar.specs.Named.{IsTerminal}
use Rattle.lw_grammar.proofs.FirstLemmas.{first_place, first_item}
use Rattle.lw_grammar.proofs.KindLemmas.{one_kinds}
use Rattle.lw_numbers.proofs.Reaching.{has_place, at_place}
use Rattle.lw_kinds.proofs.TokenCalls.{got_there}
use Rattle.lw_kinds.specs.Rows.{KindRow, AreKindRowOf}
use Rattle.lw_kinds.specs.Uses.{Use}
use Rattle.lw_kinds.proofs.FirstTexts.{texts_of}

of_map : {X Y : Type 0} (f : X → Y) (o : Option X) (y : Y) → option_map f o ≡ Some y → (x : X) × (o ≡ Some x) × (f x ≡ y)
of_map f None y is = absurd (none-some y is)
of_map f (Some x) y is = (x, refl, same_Some (f x) y is)

some_of_map : {X : Type 0} (o : Option X) (x : X) → option_map (λ y. Some y) o ≡ Some (Some x) → o ≡ Some x
some_of_map None x is = absurd (none-some (Some x) is)
some_of_map (Some y) x is = same_Some (Some y) (Some x) is

module _ (g : Grammar) (row : KindRow) (are : AreKindRowOf g row) where
  -- ---- keywords

  module _ (kinds : Kinds) (were : AreKinds g kinds) where
    same_kinds : are.kinds ≡ kinds
    same_kinds = one_kinds g are.kinds kinds are.are were

    texts_are : texts_of row.keywords ≡ kinds.keywords
    texts_are = are.texts ∙ ap (λ (of : Kinds). of.keywords) same_kinds

    pub keyword_found : (text : List ℕ) (k : ℕ) → position (bytes_eq text) (texts_of row.keywords) ≡ Some k → IsKeywordKind kinds text k
    keyword_found text k is = ap (λ texts. slice_get texts k) (sym texts_are) ∙ at_place (texts_of row.keywords) text k is

    pub keyword_missed : (text : List ℕ) → position (bytes_eq text) (texts_of row.keywords) ≡ None → (k : ℕ) → ¬ IsKeywordKind kinds text k
    keyword_missed text none k is =
        let found = has_place (texts_of row.keywords) text (got_there (texts_of row.keywords) k text (ap (λ texts. slice_get texts k) texts_are ∙ is)) in
        none-some found.0 (sym none ∙ found.1)

    pub keyword_here : (k : ℕ) (word : Use) → slice_get row.keywords k ≡ Some word → IsKeywordKind kinds word.0 k
    keyword_here k word there =
        ap (λ texts. slice_get texts k) (sym texts_are) ∙ slice_get-map (λ (x : Use). x.0) row.keywords k ∙ ap (option_map (λ (x : Use). x.0)) there

  -- ---- terminals

  -- what stands at a number: a place, and the terminal there
  at_number : (n : ℕ) → option_map (slice_get g.terminals) (slice_get row.terminals n) ≡ option_map (λ x. Some x) (slice_get are.kinds.terminals n)
  at_number n =
      sym (slice_get-map (slice_get g.terminals) row.terminals n) ∙ ap (λ xs. slice_get xs n) are.terminals ∙ slice_get-map (λ (x : Terminal). Some x) are.kinds.terminals n

  terminal_here : (n t : ℕ) (terminal : Terminal) → slice_get row.terminals n ≡ Some t → slice_get g.terminals t ≡ Some terminal →
      slice_get are.kinds.terminals n ≡ Some terminal
  terminal_here n t terminal place there =
      some_of_map (slice_get are.kinds.terminals n) terminal (sym (at_number n) ∙ ap (option_map (slice_get g.terminals)) place ∙ ap Some there)

  place_here : (n : ℕ) (terminal : Terminal) → slice_get are.kinds.terminals n ≡ Some terminal →
      (t : ℕ) × (slice_get row.terminals n ≡ Some t) × (slice_get g.terminals t ≡ Some terminal)
  place_here n terminal there = of_map (slice_get g.terminals) (slice_get row.terminals n) (Some terminal) (at_number n ∙ ap (option_map (λ x. Some x)) there)

  -- at the place of a kind stands a terminal
  standing : (n t : ℕ) → slice_get row.terminals n ≡ Some t → (terminal : Terminal) × (slice_get g.terminals t ≡ Some terminal)
  standing n t place = by ((are.exact t).0 (got_there row.terminals n t place))
    where
      by : IsKindTerminal g t → (terminal : Terminal) × (slice_get g.terminals t ≡ Some terminal)
      by (kind.hidden terminal there whole hidden) = (terminal, there)
      by (kind.called terminal name r rule means whole is at does) = (terminal, means.first.there)

  pub terminal_within : (n t : ℕ) → slice_get row.terminals n ≡ Some t → t < length g.terminals
  terminal_within n t place = let found = standing n t place in slice_get_within g.terminals t found.0 found.1

  pub terminal_at : (kinds : Kinds) → AreKinds g kinds → (n t : ℕ) → slice_get row.terminals n ≡ Some t → slice_get g.terminals t ≡ slice_get kinds.terminals n
  terminal_at kinds were n t place =
      let found = standing n t place in
      found.1 ∙ sym (terminal_here n t found.0 place found.1) ∙ ap (λ (of : Kinds). slice_get of.terminals n) (same_kinds kinds were)

  -- places rise with numbers
  rise : (m n s t : ℕ) → m < n → slice_get row.terminals m ≡ Some s → slice_get row.terminals n ≡ Some t → s < t
  rise m n s t before one other =
      let less = AllPairs-from_increasing row.terminals are.ascending m n 0 before (slice_get_within row.terminals n t other) in
      omega (arith, less, get_or_from_slice_get row.terminals m s 0 one, get_or_from_slice_get row.terminals n t 0 other)

  module _ (name : List ℕ) (kinds : Kinds) (were : AreKinds g kinds) where
    module _ (t : ℕ) (terminal : Terminal) (means : IsTerminal g name t terminal) where
      pub terminal_found : (n : ℕ) → slice_get row.terminals n ≡ Some t → IsTerminalKind g kinds name (length row.keywords + n)
      terminal_found n place =
          subst (λ of. IsTerminalKind g of name (length row.keywords + n)) (same_kinds kinds were) (record {
            place = t;
            terminal = terminal;
            meant = means;
            number = n;
            kept = record { there = terminal_here n t terminal place means.first.there; does = refl; none_before = none_before };
            behind = ap (λ m. m + n) (sym (length-map row.keywords (λ (x : Use). x.0)) ∙ ap length are.texts);
          })
        where
          none_before : (m : ℕ) (other : Terminal) → m < n → slice_get are.kinds.terminals m ≡ Some other → ¬ (other ≡ terminal)
          none_before m other before there same =
              let found = place_here m other there in
              means.first.none_before found.0 other (rise m n found.0 t before found.1 place) found.2 (ap (λ (x : Terminal). x.name) same ∙ means.first.does)

      pub terminal_missed : ¬ Contains row.terminals t → (k : ℕ) → ¬ IsTerminalKind g kinds name k
      terminal_missed none k is =
          let kept = subst (λ (of : Kinds). slice_get of.terminals is.number ≡ Some is.terminal) (sym (same_kinds kinds were)) is.kept.there in
          let found = place_here is.number is.terminal kept in
          let same = first_item is.meant.first means.first in
          none ((are.exact t).1 (by found.0 (found.2 ∙ ap Some same) ((are.exact found.0).0 (got_there row.terminals is.number found.0 found.1))))
        where
          by : (s : ℕ) → slice_get g.terminals s ≡ Some terminal → IsKindTerminal g s → IsKindTerminal g t
          by s there (kind.hidden other at whole hidden) =
              let same = same_Some other terminal (sym at ∙ there) in
              kind.hidden terminal means.first.there (ap (λ (x : Terminal). x.is_fragment) (sym same) ∙ whole) (ap (λ (x : Terminal). x.is_hidden) (sym same) ∙ hidden)
          by s there (kind.called other called r rule meant whole reached at does) =
              let same = same_Some other terminal (sym meant.first.there ∙ there) in
              let names : called ≡ name = sym meant.first.does ∙ ap (λ (x : Terminal). x.name) same ∙ means.first.does in
              let place = first_place (subst (λ text. IsTerminal g text s other) names meant).first means.first in
              subst (IsKindTerminal g) place (kind.called other called r rule meant whole reached at does)

    pub no_terminal : ((t : ℕ) (terminal : Terminal) → ¬ IsTerminal g name t terminal) → (k : ℕ) → ¬ IsTerminalKind g kinds name k
    no_terminal none k is = none is.place is.terminal is.meant

-- ---- a place among those that rise

pub number_by : (xs : List ℕ) (x : ℕ) (r : Result ℕ ℕ) → IsStrictlyIncreasing xs → IsBinarySearchResult (λ y. nat_cmp y x) xs r →
    MatchOption (result_ok r) (¬ Contains xs x) (λ n. slice_get xs n ≡ Some x)
number_by xs x r ascending found = by r (searched xs x r found in_order)
  where
    in_order : (i j : ℕ) → i ≤ j → j < length xs → get_or xs i 0 ≤ get_or xs j 0
    in_order i j le inside = elim (cases_lt i j) [
      | inl lt ↦ omega (arith, AllPairs-from_increasing xs ascending i j 0 lt inside)
      | inr ge ↦ let same : i ≡ j = omega (arith, le, ge) in omega (arith, ap (λ n. get_or xs n 0) same)
    ]

    by : (r : Result ℕ ℕ) →
        MatchResult r (λ i. (i < length xs) × (get_or xs i 0 ≡ x)) (λ i. (i ≤ length xs) × ((k : ℕ) → k < i → get_or xs k 0 < x) × ((k : ℕ) → i ≤ k → k < length xs → x < get_or xs k 0)) →
        MatchOption (result_ok r) (¬ Contains xs x) (λ n. slice_get xs n ≡ Some x)
    by (Ok n) (inside, is) = slice_get-get_or xs n 0 inside ∙ ap Some is
    by (Err n) (within, below, above) = λ (k, inside, is).
        let here : get_or xs k 0 ≡ x = get_or_from_slice_get xs k x 0 (slice_get-get_or xs k x inside ∙ ap Some is) in
        elim (cases_lt k n) [ inl lt ↦ omega (arith, below k lt, here) | inr ge ↦ omega (arith, above k ge inside, here) ]
