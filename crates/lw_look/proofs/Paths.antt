-- Which sites lie at another or inside what stands there, and that they lie in one part of it alone.
use Rattle.std.proofs.Common.{◌≡◌, ℕ, suc, ◌≤◌, ◌⊎◌, inl, inr, refl, sym, ap, subst, arith}
use Rattle.lw_look.specs.Sites.{PartSite, rule_of, body, ◌▸◌}

-- the second lies at the first or inside what stands there
abbrev pub LiesAt : PartSite → PartSite → Type 0
LiesAt s (body r) = s ≡ body r
LiesAt s (t ▸ n) = (s ≡ t ▸ n) ⊎ LiesAt s t

pub lies_at_itself : (s : PartSite) → LiesAt s s
lies_at_itself (body r) = refl
lies_at_itself (s ▸ n) = inl refl

abbrev depth : PartSite → ℕ
depth (body r) = 0
depth (s ▸ n) = suc (depth s)

deep : (s t : PartSite) → LiesAt s t → depth s ≤ depth t
deep s (body r) at = omega (arith, ap depth at)
deep s (t ▸ n) (inl is) = omega (arith, ap depth is)
deep s (t ▸ n) (inr at) = omega (arith, deep s t at)

-- a part's site lies where the whole does, but the whole's does not lie at the part
pub lies_at_whole : (s t : PartSite) (n : ℕ) → LiesAt (s ▸ n) t → LiesAt s t
lies_at_whole s (body r) n at = cc
lies_at_whole s (t ▸ m) n (inl is) = let same : s ≡ t = cc in inr (subst (LiesAt s) same (lies_at_itself s))
lies_at_whole s (t ▸ m) n (inr at) = inr (lies_at_whole s t n at)

pub not_at_part : (s : PartSite) (n : ℕ) → ¬ LiesAt (s ▸ n) s
not_at_part s n at = omega (arith, deep (s ▸ n) s at)

-- a site lies in one part
pub one_part : (s t : PartSite) (m n : ℕ) → LiesAt (s ▸ m) t → LiesAt (s ▸ n) t → m ≡ n
one_part s (body r) m n at other = cc
one_part s (t ▸ k) m n (inl is) (inl also) = cc
one_part s (t ▸ k) m n (inl is) (inr other) = let same : s ≡ t = cc in absurd (not_at_part t n (subst (λ s. LiesAt (s ▸ n) t) same other))
one_part s (t ▸ k) m n (inr at) (inl is) = let same : s ≡ t = cc in absurd (not_at_part t m (subst (λ s. LiesAt (s ▸ m) t) same at))
one_part s (t ▸ k) m n (inr at) (inr other) = one_part s t m n at other

-- and in one rule
pub lies_in_rule : (r : ℕ) (t : PartSite) → LiesAt (body r) t → rule_of t ≡ r
lies_in_rule r (body q) at = ap rule_of (sym at)
lies_in_rule r (t ▸ n) (inl is) = cc
lies_in_rule r (t ▸ n) (inr at) = lies_in_rule r t at
