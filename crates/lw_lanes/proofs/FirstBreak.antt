-- The first break of a list, by the first of its front.
use Rattle.std.proofs.Common.{◌≡◌, ◌∙◌, sym, ap, ap₂, ℕ, ◌+◌, ◌-◌, ◌<◌, ◌≤◌, List, Bool, not, cond, nat_lt, nat_eq, length, take, drop, get_or, Option, Some, None, IfSome, IfNone, inl, inr, subst, arith}
use Rattle.std.proofs.lemmas.Bool.{cases_lt}
use Rattle.std.proofs.lemmas.Bool.Decides.{nat_tests}
use Rattle.std.proofs.lemmas.List.{take-append-drop, length-take-le, length-drop, drop-drop, get_or-drop}
use Rattle.std.proofs.lemmas.List.Folds.{prefix_len-append}
use Rattle.std.proofs.lemmas.List.Sums.{prefix_len-le-length, passes_at_first, fails_before_first}
use Rattle.std.specs.List.{position_or_len, prefix_len}
use Rattle.std.specs.Option.{option_map}
use Rattle.lw_lanes.specs.LineBreak.{is_break, next_break, IsLeastBreak, NoBreakBetween}

-- a prefix that reaches over the first n goes on behind them
over_front : (p : ℕ → Bool) (n : ℕ) (xs : List ℕ) → prefix_len p xs ≡ cond (nat_eq (prefix_len p (take n xs)) (length (take n xs))) (length (take n xs) + prefix_len p (drop n xs)) (prefix_len p (take n xs))
over_front p n xs = ap (prefix_len p) (sym (take-append-drop n xs)) ∙ prefix_len-append p (take n xs) (drop n xs)

in_front : (p : ℕ → Bool) (n : ℕ) (xs : List ℕ) → n ≤ length xs → prefix_len p (take n xs) < n → prefix_len p xs ≡ prefix_len p (take n xs)
in_front p n xs room short = grind (arith, nat_tests, over_front p n xs, length-take-le n xs room)

past_front : (p : ℕ → Bool) (n : ℕ) (xs : List ℕ) → n ≤ length xs → n ≤ prefix_len p (take n xs) → prefix_len p xs ≡ n + prefix_len p (drop n xs)
past_front p n xs room full = grind (arith, nat_tests, over_front p n xs, length-take-le n xs room, prefix_len-le-length p (take n xs))

-- the place of a break that stands `before` behind `from`, where so many bytes are left
abbrev place : ℕ → ℕ → ℕ → Option ℕ
place from before left = option_map (λ n. from + n) (cond (nat_lt before left) (Some before) None)

place_here : (from before left : ℕ) → before < left → Some (from + before) ≡ place from before left
place_here from before left here = grind (arith, nat_tests)

place_further : (from n before left : ℕ) → place (from + n) before left ≡ place from (n + before) (n + left)
place_further from n before left = grind (arith, nat_tests)

pub next_break-here : (bytes : List ℕ) (from n : ℕ) → from + n ≤ length bytes → position_or_len is_break (take n (drop from bytes)) < n → Some (from + position_or_len is_break (take n (drop from bytes))) ≡ next_break bytes from
next_break-here bytes from n room short =
    let xs = drop from bytes in
    let long : n ≤ length xs = omega (arith, length-drop from bytes) in
    place_here from (position_or_len is_break (take n xs)) (length xs) (omega arith)
    ∙ ap (λ (before : ℕ). place from before (length xs)) (sym (in_front (λ x. not (is_break x)) n xs long short))

pub next_break-further : (bytes : List ℕ) (from n : ℕ) → from + n ≤ length bytes → n ≤ position_or_len is_break (take n (drop from bytes)) → next_break bytes (from + n) ≡ next_break bytes from
next_break-further bytes from n room full =
    let xs = drop from bytes in
    let long : n ≤ length xs = omega (arith, length-drop from bytes) in
    let behind : drop n xs ≡ drop (from + n) bytes = drop-drop n from bytes in
    let before : n + position_or_len is_break (drop (from + n) bytes) ≡ position_or_len is_break xs =
    ap (λ (ys : List ℕ). n + position_or_len is_break ys) (sym behind) ∙ sym (past_front (λ x. not (is_break x)) n xs long full)
    in
    let left : n + length (drop (from + n) bytes) ≡ length xs = omega (arith, length-drop from bytes, length-drop (from + n) bytes) in
    place_further from n (position_or_len is_break (drop (from + n) bytes)) (length (drop (from + n) bytes))
    ∙ ap₂ (place from) before left

-- what the answer says of the places
first_is_least : (bytes : List ℕ) (from : ℕ) → position_or_len is_break (drop from bytes) < length (drop from bytes) → IsLeastBreak bytes from (from + position_or_len is_break (drop from bytes))
first_is_least bytes from here =
    let xs = drop from bytes in
    record {
      onwards = omega arith;
      within = omega (arith, length-drop from bytes);
      is_one = ap is_break (sym (get_or-drop from bytes (position_or_len is_break xs) 0)) ∙ passes_at_first is_break xs 0 here;
      least = λ k after before.
          let at : from + (k - from) ≡ k = omega arith in
          ap (λ (n : ℕ). is_break (get_or bytes n 0)) (sym at)
          ∙ ap is_break (sym (get_or-drop from bytes (k - from) 0))
          ∙ fails_before_first is_break xs (k - from) 0 (omega arith);
    }

none_between : (bytes : List ℕ) (from : ℕ) → length (drop from bytes) ≤ position_or_len is_break (drop from bytes) → NoBreakBetween bytes from (length bytes)
none_between bytes from past k after before =
    let xs = drop from bytes in
    let at : from + (k - from) ≡ k = omega arith in
    ap (λ (n : ℕ). is_break (get_or bytes n 0)) (sym at)
    ∙ ap is_break (sym (get_or-drop from bytes (k - from) 0))
    ∙ fails_before_first is_break xs (k - from) 0 (omega (arith, length-drop from bytes))

place_past : (from before left : ℕ) → left ≤ before → None ≡ place from before left
place_past from before left past = grind (arith, nat_tests)

pub next_break-least : (bytes : List ℕ) (from : ℕ) (answer : Option ℕ) → answer ≡ next_break bytes from → IfSome answer (IsLeastBreak bytes from)
next_break-least bytes from answer is =
    let xs = drop from bytes in
    elim (cases_lt (position_or_len is_break xs) (length xs)) [
      | inl here ↦ subst (λ (o : Option ℕ). IfSome o (IsLeastBreak bytes from)) (place_here from (position_or_len is_break xs) (length xs) here ∙ sym is) (first_is_least bytes from here)
      | inr past ↦ subst (λ (o : Option ℕ). IfSome o (IsLeastBreak bytes from)) (place_past from (position_or_len is_break xs) (length xs) past ∙ sym is) tt
    ]

pub next_break-none : (bytes : List ℕ) (from : ℕ) (answer : Option ℕ) → answer ≡ next_break bytes from → IfNone answer (NoBreakBetween bytes from (length bytes))
next_break-none bytes from answer is =
    let xs = drop from bytes in
    elim (cases_lt (position_or_len is_break xs) (length xs)) [
      | inl here ↦ subst (λ (o : Option ℕ). IfNone o (NoBreakBetween bytes from (length bytes))) (place_here from (position_or_len is_break xs) (length xs) here ∙ sym is) tt
      | inr past ↦ subst (λ (o : Option ℕ). IfNone o (NoBreakBetween bytes from (length bytes))) (place_past from (position_or_len is_break xs) (length xs) past ∙ sym is) (none_between bytes from past)
    ]
