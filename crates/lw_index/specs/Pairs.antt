-- The pairs of documents that an index of references keeps: each document that is led into, with each document that leads there. There may be pairs too many, and none may lack.
use Rattle.std.specs.Prelude.{◌≡◌, ◌≢◌, ℕ, Bool, IsTrue, List, Option, Some, None}
use Rattle.std.specs.Borrow.{Bor}
use Rattle.std.specs.List.{slice_get}
use Rattle.std.specs.declared.cmp.Ordering.{Ordering}
use Rattle.std.specs.Ordering.{nat_cmp, ordering_then}
use Rattle.std.specs.BTreeMap as tree
use Rattle.std.specs.BTreeMap.{BTreeMap}
use Rattle.std.specs.BTreeSet.{BTreeSet, contains}
use Rattle.lw_index.specs.declared.parts.Answer.{Answer}
use Rattle.lw_index.specs.declared.parts.Answer.TheVariants.{Found}
use Rattle.lw_index.specs.declared.parts.Target.{Target}
use Rattle.lw_index.specs.declared.refs.slot.SlotId.{SlotId}

-- a document that is led into, and one that leads there
abbrev pub Pair : Type 0
Pair = ℕ × ℕ

abbrev pub pair_cmp : Pair → Pair → Ordering
pair_cmp a b = ordering_then (nat_cmp a.0 b.0) (nat_cmp a.1 b.1)

abbrev pub is_paired : BTreeSet Pair → Pair → Bool
is_paired pairs p = contains pair_cmp pairs p

-- one of the references with these answers leads into the document
pub record LeadsInto (answers : List Answer) (doc : ℕ) : Type 0 where
  pub reference : ℕ
  pub target : Target
  pub found : slice_get answers reference ≡ Some (Found target)
  pub into : target.doc.0 ≡ doc

-- a pair is of another document than the user, or its document is led into still by what is kept of the user
abbrev pub StaysPaired : ℕ → Option (Bor (List Answer)) → Pair → Type 0
StaysPaired user None p = p.1 ≢ user
StaysPaired user (Some kept) p = p.1 ≡ user → LeadsInto kept.now p.0

-- the documents as they are held
abbrev pub HeldAnswers : Type 0
HeldAnswers = BTreeMap ℕ (List Answer)

abbrev pub held_at : HeldAnswers → ℕ → Option (List Answer)
held_at documents doc = tree.get nat_cmp documents doc

-- no pair lacks
abbrev pub ArePaired : HeldAnswers → BTreeSet Pair → Type 0
ArePaired documents pairs = (user doc : ℕ) (answers : List Answer) → held_at documents user ≡ Some answers → LeadsInto answers doc → IsTrue (is_paired pairs (doc, user))

-- a reference that leads to the node, by the documents as they are held
pub record IsHeldUser (documents : HeldAnswers) (target : Target) (slot : SlotId) : Type 0 where
  pub answers : List Answer
  pub given : held_at documents slot.doc.0 ≡ Some answers
  pub leads : slice_get answers slot.reference.0 ≡ Some (Found target)
