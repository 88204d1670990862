-- What an element may begin with that is read any number of times: turn by turn, what is new is put before the element.
use Rattle.std.proofs.Common.{ℕ, List, [], ◌⊎◌, inl, inr, ◌↔◌}
use Rattle.lw_grammar.specs.declared.grammar.Grammar.{Grammar}
use Rattle.lw_grammar.specs.declared.rule.Element.{Element}
use Rattle.lw_grammar.specs.Kinds.{Kinds}
use Rattle.lw_look.specs.Sites.{Body}
use Rattle.lw_look.specs.Heads as can
use Rattle.lw_look.specs.Heads.{Can, ManyCan}
use Rattle.lw_first.specs.declared.heads.head.Head.{Head}
use Rattle.lw_first.specs.Sets.{AddsHeads, IsAmongHeads, IsInSet}
use Rattle.lw_first.proofs.HeadLemmas.{adds_to_none, adds_keeps, adds_all, among_none}
use Rattle.lw_first.specs.Before.{CanBefore, ManyCanBefore}
use Rattle.lw_first.specs.Forms.{OnceBefore}
use Rattle.lw_first.specs.New.{AreNew}

module _ (g : Grammar) (kinds : Kinds) (k : ℕ) (sets : List (List Head)) (part : Element) (after : List Head) where
  -- what was met so far, of which the fresh heads were not yet put before the element
  pub record IsMet (fresh met : List Head) : Type 0 where
    pub behind : (h : List ℕ) → IsAmongHeads after h → IsAmongHeads met h
    pub may : (h : List ℕ) → IsAmongHeads met h → ManyCanBefore g kinds k sets part after h
    pub fresh_in : (h : List ℕ) → IsAmongHeads fresh h → IsAmongHeads met h
    pub done : (b : List ℕ) → IsAmongHeads met b → IsAmongHeads fresh b ⊎ ((h : List ℕ) → Can g kinds k (IsInSet sets) (Body part) b h → IsAmongHeads met h)

  pub met_first : (fresh met : List Head) → AddsHeads (IsAmongHeads after) [] met → AreNew fresh [] met → IsMet fresh met
  met_first fresh met adds new = record {
    behind = λ h among. (adds_to_none met adds h).1 among;
    may = λ h among. (h, (adds_to_none met adds h).0 among, can.stop);
    fresh_in = new.there;
    done = λ b among. of b (new.others b among);
  }
    where
      of : (b : List ℕ) → IsAmongHeads [] b ⊎ IsAmongHeads fresh b → IsAmongHeads fresh b ⊎ ((h : List ℕ) → Can g kinds k (IsInSet sets) (Body part) b h → IsAmongHeads met h)
      of b (inl none) = absurd (among_none b none)
      of b (inr is) = inl is

  pub met_more : (fresh met more next : List Head) → IsMet fresh met → AddsHeads (CanBefore g kinds k sets (Body part) fresh) met next → AreNew more met next → IsMet more next
  met_more fresh met more next was adds new = record {
    behind = λ h among. adds_keeps met next adds h (was.behind h among);
    may = λ h among. of h ((adds h).0 among);
    fresh_in = new.there;
    done = λ b among. from b (new.others b among);
  }
    where
      of : (h : List ℕ) → IsAmongHeads met h ⊎ CanBefore g kinds k sets (Body part) fresh h → ManyCanBefore g kinds k sets part after h
      of h (inl old) = was.may h old
      of h (inr (b, among, does)) = let (a, has, many) = was.may b (was.fresh_in b among) in (a, has, can.again many does)

      on : (b : List ℕ) → IsAmongHeads fresh b ⊎ ((h : List ℕ) → Can g kinds k (IsInSet sets) (Body part) b h → IsAmongHeads met h) → (h : List ℕ) → Can g kinds k (IsInSet sets) (Body part) b h → IsAmongHeads next h
      on b (inl is) h does = adds_all met next adds h (b, is, does)
      on b (inr closed) h does = adds_keeps met next adds h (closed h does)

      from : (b : List ℕ) → IsAmongHeads met b ⊎ IsAmongHeads more b → IsAmongHeads more b ⊎ ((h : List ℕ) → Can g kinds k (IsInSet sets) (Body part) b h → IsAmongHeads next h)
      from b (inl old) = inr (on b (was.done b old))
      from b (inr is) = inl is

  -- where nothing is fresh, all is met
  pub met_all : (met : List Head) → IsMet [] met → (h : List ℕ) → IsAmongHeads met h ↔ ManyCanBefore g kinds k sets part after h
  met_all met is h = (is.may h, λ (a, among, many). all (is.behind a among) many)
    where
      on : (b : List ℕ) → IsAmongHeads [] b ⊎ ((h : List ℕ) → Can g kinds k (IsInSet sets) (Body part) b h → IsAmongHeads met h) → (h : List ℕ) → Can g kinds k (IsInSet sets) (Body part) b h → IsAmongHeads met h
      on b (inl none) = absurd (among_none b none)
      on b (inr closed) = closed

      all : {a h : List ℕ} → IsAmongHeads met a → ManyCan g kinds k (IsInSet sets) part a h → IsAmongHeads met h
      all among can.stop = among
      all among (can.again {b} {h} many does) = let before = all among many in on b (is.done b before) h does

  -- what comes before one more of the element
  pub once_before : (behind : List Head) → ((h : List ℕ) → IsAmongHeads behind h ↔ ManyCanBefore g kinds k sets part after h) → (h : List ℕ) →
      CanBefore g kinds k sets (Body part) behind h ↔ OnceBefore g kinds k sets part after h
  once_before behind many h = (λ (b, among, does). (b, (many b).0 among, does), λ (b, before, does). (b, (many b).1 before, does))
