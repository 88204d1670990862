-- One document more is put into the index.
use Rattle.std.proofs.Common.{◌≡◌, ◌≢◌, ℕ, ◌+◌, ◌<◌, false, cond, List, Option, Some, Result, Ok, Err, IfOk, Ordering, Less, Equal, Greater, is_eq, slice_get, refl, sym, ap, ◌∙◌, subst, arith, inl, inr}
use Rattle.std.specs.Cmp.{tied_itself, nat_cmp_total}
use Rattle.std.specs.Ordering.{nat_cmp}
use Rattle.std.specs.FinMap as map
use Rattle.std.specs.FinMap.{get, get-empty, get-insert, insert, nat_cmp-IsAntisymmetric}
use Rattle.std.proofs.lemmas.Bool.{cases_eq, cases_lt}
use Rattle.std.proofs.lemmas.Option.{same_Some, none-some}
use Rattle.lw_index.specs.Indexed.{Indexed, IsFreeFor}
use Rattle.lw_index.specs.declared.parts.Document.{Document}
use Rattle.lw_index.specs.declared.parts.Export.{Export}
use Rattle.lw_link.specs.Indexed.{AreEntriesAt, AreEntriesOf, whole}
use Rattle.lw_query.specs.Built.{tree_seen}
use Rattle.lw_query.specs.declared.view.View.{View}
use Rattle.lw_tree.specs.Parts.{Parts}
use Rattle.lw_rename.specs.Afterwards.{AreApart, StandsWith, later}
use Rattle.lw_rename.specs.Entries.{IsEnteredFor, IsIndexAfter}
use Rattle.lw_rename.proofs.Listing.{one_at}
use Rattle.lw_rename.proofs.Once.{same_number, same_place}

put_here : {X : Type 0} (m : map.FinMap nat_cmp X) (k : ℕ) (x : X) → get (insert m k x) k ≡ Some x
put_here m k x = get-insert nat_cmp_total m k x k ∙ ap (λ b. cond b (Some x) (get m k)) (ap is_eq (tied_itself nat_cmp_total k))

put_elsewhere : {X : Type 0} (m : map.FinMap nat_cmp X) (k : ℕ) (x : X) (q : ℕ) → q ≢ k → get (insert m k x) q ≡ get m q
put_elsewhere m k x q other = get-insert nat_cmp_total m k x q ∙ ap (λ b. cond b (Some x) (get m q)) (by (nat_cmp q k) refl)
  where
    by : (r : Ordering) → nat_cmp q k ≡ r → is_eq r ≡ false
    by Less is = refl
    by Equal is = absurd (other (nat_cmp-IsAntisymmetric q k is))
    by Greater is = refl

module _ (views : List View) (apart : AreApart views) (trees : List (Option Parts)) where
  pub nothing_entered : (index : Indexed) → index ≡ map.empty → IsIndexAfter views trees 0 index
  nothing_entered index empty = record {
    entered = λ doc d at. absurd (none-some d (sym (ap (λ (m : Indexed). get m doc) empty ∙ get-empty nat_cmp doc) ∙ at));
    held = λ k v below. absurd (omega (arith, below));
  }

  module _ (n : ℕ) (v : View) (t : Option Parts) (among : StandsWith views trees n v t) (index : Indexed) (is : IsIndexAfter views trees n index) where
    pub free : IsFreeFor index v.doc.0 v.uri.now
    free other document there same =
        let e = is.entered other document there in
        let place = same_place views apart e.place n e.v v e.among.view among.view (sym e.address ∙ same) in
        let below = e.below in
        absurd (omega (arith, place, below))

    module _ (exports : List Export) (are : AreEntriesAt (later t (tree_seen v)) exports) where
      abbrev After : Indexed
      After = insert index v.doc.0 (record { uri = v.uri.now; exports = exports })

      own : IsEnteredFor views trees (n + 1) v.doc.0 (record { uri = v.uri.now; exports = exports })
      own = record { place = n; below = omega arith; v = v; t = t; among = among; number = refl; address = refl; entries = are }

      wider : (doc : ℕ) (d : Document) → IsEnteredFor views trees n doc d → IsEnteredFor views trees (n + 1) doc d
      wider doc d e = let below = e.below in record {
        place = e.place;
        below = omega (arith, below);
        v = e.v;
        t = e.t;
        among = e.among;
        number = e.number;
        address = e.address;
        entries = e.entries;
      }

      one_entered : IsIndexAfter views trees (n + 1) After
      one_entered = record { entered = entered; held = held }
        where
          entered : (doc : ℕ) (d : Document) → get After doc ≡ Some d → IsEnteredFor views trees (n + 1) doc d
          entered doc d at = elim (cases_eq doc v.doc.0) [
            | inl same ↦
                let one : record { uri = v.uri.now; exports = exports } ≡ d =
                same_Some _ d (sym (put_here index v.doc.0 _) ∙ ap (get After) (sym same) ∙ at) in
                subst (λ k. IsEnteredFor views trees (n + 1) k d) (sym same) (subst (IsEnteredFor views trees (n + 1) v.doc.0) one own)
            | inr other ↦ wider doc d (is.entered doc d (sym (put_elsewhere index v.doc.0 _ doc other) ∙ at))
          ]

          held : (k : ℕ) (w : View) → k < n + 1 → slice_get views k ≡ Some w → (d : Document) × (get After w.doc.0 ≡ Some d) × (d.uri ≡ w.uri.now)
          held k w below at = elim (cases_lt k n) [
            | inl lower ↦
                let (d, there, uri) = is.held k w lower at in
                (d, put_elsewhere index v.doc.0 _ w.doc.0 (λ same. not_here (same_number views apart k n w v at among.view same) lower) ∙ there, uri)
            | inr up ↦
                let place : n ≡ k = omega (arith, below, up) in
                let view : v ≡ w = one_at views k v w (ap (slice_get views) (sym place) ∙ among.view) at in (
                  record { uri = v.uri.now; exports = exports },
                  ap (λ (x : View). get After x.doc.0) (sym view) ∙ put_here index v.doc.0 _,
                  ap (λ (x : View). x.uri.now) view,
                )
          ]
            where
              not_here : k ≡ n → k < n → ⊥
              not_here same lower = omega (arith, same, lower)

      pub entered_more : (after : Indexed) → after ≡ insert index v.doc.0 (record { uri = v.uri.now; exports = exports }) → IsIndexAfter views trees (n + 1) after
      entered_more after same = subst (IsIndexAfter views trees (n + 1)) (sym same) one_entered

-- what a document exports, where it has a tree
pub entries_of : {V E : Type 0} (items : V → List Export) (tree : Option Parts) (t : Parts) (r : Result V E) → tree ≡ Some t → IfOk r (λ found. AreEntriesOf t (items found)) →
    IfOk r (λ found. AreEntriesAt tree (items found))
entries_of items tree t (Err e) same are = tt
entries_of items tree t (Ok found) same are = subst (λ (o : Option Parts). AreEntriesAt o (items found)) (sym same) (whole are)
