use Rattle.std.proofs.Common.{◌≡◌, ◌++◌, List, ℕ, Option, OnOk, ap, ap₂, sym, subst, ◌∙◌, append-nil}
use Rattle.lw_complete.specs.Starts.{names_in}
use Rattle.lw_complete.proofs.known.put_names.Goals as goal

pub returns-in-None : goal.returns-in-None
returns-in-None c =
    let old = c.args.found.now.items in
    c.in_ok-put_copies.ensures ∙ ap (λ (names : List (List ℕ)). old ++ names) c.as_slice.ensures ∙ sym (append-nil (old ++ c.args.known.now.front.names))
    ∙ ap (λ (found : Option (List (List ℕ))). old ++ c.args.known.now.front.names ++ names_in found) (sym c.in-None.is)

pub returns-in-Some : goal.returns-in-Some
returns-in-Some c =
    let old = c.args.found.now.items in
    let front = c.args.known.now.front.names in
    let middle : c.put_copies.new.names.items ≡ old ++ front = c.in_ok-put_copies.ensures ∙ ap (λ (names : List (List ℕ)). old ++ names) c.as_slice.ensures in
    let lent : c.as_slice-in-Some.result.now ≡ names_in c.args.known.now.blank = c.as_slice-in-Some.ensures ∙ ap names_in (sym c.in-Some.is) in
    subst (λ (names : List (List ℕ)). OnOk c.put_copies-in-Some.result (c.put_copies-in-Some.new.names.items ≡ names))
    (ap₂ (λ (xs ys : List (List ℕ)). xs ++ ys) middle lent) c.put_copies-in-Some.ensures
