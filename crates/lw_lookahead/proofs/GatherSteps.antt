-- What is gathered from the heads of a way, and from ways, one after the other.
use Rattle.std.proofs.Common.{◌≡◌, ℕ, ◌+◌, ◌<◌, List, [], ◌∷◌, ◌++◌, None, Contains, length, take, get_or, sym, ap, ◌∙◌, subst, append_assoc, append-nil, arith}
use Rattle.lw_first.specs.declared.heads.head.Head.{Head}
use Rattle.lw_lookahead.specs.declared.entries.Entries.{Entries}
use Rattle.lw_lookahead.specs.Entries.{AreUpTo, IsLeastPairOf, of_way, of_ways}
use Rattle.lw_lookahead.specs.Gathered.{AreGatheredWays}
use Rattle.lw_lookahead.proofs.FirstWays.{up_to_more}
use Rattle.lw_lookahead.proofs.WayHeads.{first_up_to, of_way-more, of_ways-more}

-- the first heads of a way are gathered behind these
abbrev pub GathersFirst : ℕ → List Head → ℕ → List (Head × ℕ) → Entries → Type 0
GathersFirst way heads i pairs entries = AreGatheredWays (pairs ++ of_way way (take i heads)) entries × AreUpTo way (pairs ++ of_way way (take i heads))

module _ (way : ℕ) (heads : List Head) (pairs : List (Head × ℕ)) where
  pub gathers_none : (entries : Entries) → AreGatheredWays pairs entries → AreUpTo way pairs → GathersFirst way heads 0 pairs entries
  gathers_none entries gathered up_to =
      subst (λ ps. AreGatheredWays ps entries × AreUpTo way ps) (sym (append-nil pairs)) (gathered, up_to)

  pub gathers_next : (old new : Entries) (i : ℕ) (d : Head) → i < length heads → GathersFirst way heads i pairs old →
      ((ps : List (Head × ℕ)) → AreGatheredWays ps old → AreUpTo way ps → AreGatheredWays (ps ++ (get_or heads i d, way) ∷ []) new) →
      GathersFirst way heads (i + 1) pairs new
  gathers_next old new i d inside (gathered, up_to) put =
      let these = pairs ++ of_way way (take i heads) in
      let head = get_or heads i d in
      subst (λ ps. AreGatheredWays ps new × AreUpTo way ps)
      (append_assoc pairs (of_way way (take i heads)) ((head, way) ∷ []) ∙ ap (λ ps. pairs ++ ps) (sym (of_way-more way heads i d inside)))
      (put these gathered up_to, up_to_more these head way up_to)

-- of no way
pub gathered_none : (entries : Entries) → entries.ways.entries ≡ [] → entries.pair ≡ None → AreGatheredWays [] entries
gathered_none entries empty none = record {
  first = record {
    no_others = λ h w has. let (place, inside, is) = subst (λ es. Contains es (h, w)) empty has in absurd (omega arith);
    first = λ h w o has also. absurd (omega (arith, also.1));
    all = λ h w has. absurd (omega (arith, has.1));
  };
  pair = subst (IsLeastPairOf []) (sym none) (λ w o h both. absurd (omega (arith, both.0.1)));
}

-- of one way more
pub gathered_next : (ways : List (List Head)) (old new : Entries) (i : ℕ) (d heads : List Head) → i < length ways → heads ≡ get_or ways i d →
    AreGatheredWays (of_ways 1 (take i ways)) old →
    ((ps : List (Head × ℕ)) → AreGatheredWays ps old → AreUpTo (i + 1) ps → AreGatheredWays (ps ++ of_way (i + 1) heads) new) →
    AreGatheredWays (of_ways 1 (take (i + 1) ways)) new
gathered_next ways old new i d heads inside is gathered put =
    let here : i + 1 ≡ 1 + i = omega arith in
    let before = of_ways 1 (take i ways) in
    subst (λ ps. AreGatheredWays ps new) (ap (λ hs. before ++ of_way (i + 1) hs) is ∙ sym (of_ways-more 1 ways i (i + 1) d inside here))
    (put before gathered (first_up_to 1 ways i (i + 1) here))
