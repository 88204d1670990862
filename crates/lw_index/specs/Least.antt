-- That what was found is the least of all targets of which something holds, by the URI of the document and the number of the node, and that nothing is found only where there is none.
use Rattle.std.specs.Prelude.{◌≡◌, ◌≢◌, ◌⊎◌, ℕ, List, Option, Some, None, IsTrue, MatchOption}
use Rattle.std.specs.FinSet as set
use Rattle.std.specs.Ordering.{nat_cmp}
use Rattle.std.specs.Option.{option_map}
use Rattle.std.specs.Borrow.{Bor}
use Rattle.lw_base.specs.declared.numbers.DocId.{DocId}
use Rattle.lw_index.specs.declared.parts.Target.{Target}
use Rattle.lw_index.specs.Firsts.{IsNotBehind}
use Rattle.lw_index.specs.Slots.{Exporters, slot_in, filled}

-- a target beside the URI of its document
abbrev pub Found : Type 0
Found = List ℕ × Target

abbrev pub seen : Option (Bor (List ℕ) × Target) → Option Found
seen = option_map (λ f. (f.0.now, f.1))

-- a does not come behind b
abbrev pub IsNotAfter : Found → Found → Type 0
IsNotAfter a b = IsNotBehind (a.0, a.1.node.0) (b.0, b.1.node.0)

pub record IsLeastOf (holds : List ℕ → Target → Type 0) (found : Found) : Type 0 where
  pub here : holds found.0 found.1
  pub least : (uri : List ℕ) (x : Target) → holds uri x → IsNotAfter found (uri, x)

abbrev pub IsLeastFound : (List ℕ → Target → Type 0) → Option Found → Type 0
IsLeastFound holds found = MatchOption found ((uri : List ℕ) (x : Target) → ¬ (holds uri x)) (IsLeastOf holds)

-- one of two, and not behind the other
abbrev pub IsLesserOf : Option Found → Option Found → Option Found → Type 0
IsLesserOf None b found = found ≡ b
IsLesserOf (Some a) None found = found ≡ Some a
IsLesserOf (Some a) (Some b) found = ((found ≡ Some a) × IsNotAfter a b) ⊎ ((found ≡ Some b) × IsNotAfter b a)

-- in a slot of a wanted type, and not a certain document's
abbrev pub IsAmongWanted : Exporters → set.FinSet nat_cmp → Option DocId → List ℕ → Target → Type 0
IsAmongWanted es types except uri x = (t : ℕ) × IsTrue (set.contains types t) × (filled (slot_in es (t, uri)) ≡ Some x) × (except ≢ Some x.doc)
