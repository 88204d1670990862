-- Texts that are put in one behind the other.
use Rattle.std.proofs.Common.{◌≡◌, ℕ, List, [], ◌++◌, refl, sym, subst}
use Rattle.std.proofs.lemmas.List.{append-nil, append_assoc}
use Rattle.std.specs.Prelude.{codes}
use Rattle.lw_terminals.specs.declared.patterns.draft.Draft.{Draft}
use Rattle.lw_terminals.specs.Drafts.{IsDraftOf, PutsText, Writes, IsGrouped}

pub PutsText-none : (d : Draft) → PutsText [] d d
PutsText-none d before is = subst (IsDraftOf d) (sym (append-nil before)) is

pub PutsText-then : (p q : List ℕ) (old mid new : Draft) → PutsText p old mid → PutsText q mid new → PutsText (p ++ q) old new
PutsText-then p q old mid new one other before is = subst (IsDraftOf new) (append_assoc before p q) (other (before ++ p) (one before is))

pub PutsText-same : (p q : List ℕ) (old new : Draft) → p ≡ q → PutsText p old new → PutsText q old new
PutsText-same p q old new same puts = subst (λ r. PutsText r old new) same puts

-- a group that ends so
pub Writes-grouped : (P : List ℕ → Type 0) (end : List ℕ) (old one two new : Draft) → PutsText (codes "(?:") old one → Writes P one two → PutsText end two new →
    Writes (IsGrouped P end) old new
Writes-grouped P end old one two new opens (q, holds, puts) ends =
    let open_q = PutsText-then (codes "(?:") q old one two opens puts in
    (codes "(?:" ++ q ++ end, (q, holds, refl), PutsText-then (codes "(?:" ++ q) end old two new open_q ends)
