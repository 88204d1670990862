-- What is found of the documents that a workspace lends.
use Rattle.std.proofs.Common.{◌≡◌, ℕ, List, [], ◌∷◌, map, Bool, true, false, cond, Option, Some, None, IfSome, option_map, option_and_then, refl, sym, ap, subst, ◌∙◌}
use Rattle.std.specs.Borrow.{Bor}
use Rattle.std.specs.BTreeMap.{is_at}
use Rattle.std.specs.FinMap.{find, get, get-from_entries}
use Rattle.std.specs.Map.{lookup}
use Rattle.std.specs.Ordering.{eq_by_cmp, nat_cmp}
use Rattle.std.proofs.lemmas.Cmp.{nat_cmp_total}
use Rattle.std.proofs.lemmas.Option.{same_Some, none-some}
use Rattle.lw_base.specs.declared.numbers.DocId.{DocId}
use Rattle.lw_docs.specs.Documents.{ByAddress, IsAt, IsHeld, Numbered, numbered}
use Rattle.lw_docs.specs.declared.doc.Doc.{Doc}
use Rattle.lw_index.specs.Led.{Led}
use Rattle.lw_reading.specs.Within.{StandsInText}
use Rattle.lw_tree.specs.Parts.{Parts}
use Rattle.lw_build.specs.Linked.{StandsNumbered}
use Rattle.lw_build.specs.Readings.{HasReading, reading_at, tree_numbered, tree_of}
use Rattle.lw_build.specs.Seen.{AreReadingsSeen, HasFewReferences, IsTextSeen, lent, seen_tree}
use Rattle.lw_build.specs.declared.readings.Reading.{Reading}
use Rattle.lw_build.specs.declared.readings.Readings.{Readings}
use Rattle.lw_build.proofs.Linked.{held_numbered}

-- ---- the trees by number

tree_found : (b : Bool) (reading : Reading) (o : Option (Option Parts)) (p : Option Reading) → o ≡ option_map tree_of p →
    cond b (Some (tree_of reading)) o ≡ option_map tree_of (cond b (Some reading) p)
tree_found true reading o p is = refl
tree_found false reading o p is = is

find_tree : (n : ℕ) (es : List (ℕ × Reading)) → find nat_cmp n (map (λ e. (e.0, tree_of e.1)) es) ≡ option_map tree_of (lookup (is_at (nat_cmp n)) es)
find_tree n [] = refl
find_tree n (e ∷ es) = tree_found (eq_by_cmp nat_cmp n e.0) e.1 _ _ (find_tree n es)

joined : (o : Option Reading) → option_and_then (λ (tree : Option Parts). tree) (option_map tree_of o) ≡ option_and_then tree_of o
joined None = refl
joined (Some reading) = refl

pub tree_lent : (kept : ByAddress) (readings : Readings) (led : Led) (n : ℕ) → seen_tree (lent kept readings led) n ≡ tree_numbered readings n
tree_lent kept readings led n =
    ap (option_and_then (λ (tree : Option Parts). tree))
    (get-from_entries nat_cmp_total (map (λ e. (e.0, tree_of e.1)) readings.texts.entries) n ∙ find_tree n readings.texts.entries)
    ∙ joined (reading_at readings n)

-- ---- the documents

module _ (kept : ByAddress) (readings : Readings) (are : AreReadingsSeen kept readings) where
  -- what was read is held
  pub held_seen : (d : DocId) → HasReading readings d.0 → IsHeld kept d
  held_seen d (reading, is) =
      let r = are.each d.0 reading is in (r.held.doc, r.here ∙ ap Some (λ i. numbered (record { 0 = r.number i }) r.held.doc))

  -- where nothing was read, no document stands
  pub nowhere_seen : (n : ℕ) → reading_at readings n ≡ None → (address : List ℕ) → ¬ StandsNumbered kept n address
  nowhere_seen n none address stands =
      let (held, at, number) = held_numbered kept n address stands in
      let (reading, is) = are.all address held at in
      none-some reading (sym none ∙ ap (reading_at readings) (sym number) ∙ is)

  -- the text of a document
  pub text_seen : (led : Led) (d : DocId) (doc : Doc) → IsAt kept d doc → IsTextSeen (lent kept readings led) d.0 doc.text
  text_seen led d doc at = record {
    address = doc.uri;
    stands = ap (option_map (λ (h : Numbered). h.number.0)) at;
    is_text = ap (option_map (λ (h : Numbered). h.doc.text)) at;
    within = subst (λ (o : Option Parts). IfSome o (StandsInText doc.text)) (sym (tree_lent kept readings led d.0)) (by (reading_at readings d.0) refl);
  }
    where
      by : (o : Option Reading) → reading_at readings d.0 ≡ o → IfSome (option_and_then tree_of o) (StandsInText doc.text)
      by None is = tt
      by (Some reading) is =
          let r = are.each d.0 reading is in
          let uri : r.held.doc.uri ≡ doc.uri = are.numbered.apart r.held.doc.uri doc.uri r.held (numbered d doc) r.here at (λ i. record { 0 = r.number i }) in
          let same : r.held ≡ numbered d doc = same_Some r.held (numbered d doc) (sym r.here ∙ ap (get kept) uri ∙ at) in
          subst (λ (h : Numbered). IfSome (tree_of reading) (StandsInText h.doc.text)) same r.stands

  -- the references of each tree have numbers
  pub few_seen : (n : ℕ) (o : Option (Bor Parts)) → option_map (λ tree. tree.now) o ≡ tree_numbered readings n → IfSome o (λ tree. HasFewReferences tree.now)
  few_seen n None is = tt
  few_seen n (Some tree) is = by (reading_at readings n) refl
    where
      by : (o : Option Reading) → reading_at readings n ≡ o → HasFewReferences tree.now
      by None none = absurd (none-some tree.now (sym (is ∙ ap (option_and_then tree_of) none)))
      by (Some reading) there =
          subst (λ (o : Option Parts). IfSome o HasFewReferences) (sym (is ∙ ap (option_and_then tree_of) there)) (are.each n reading there).few
