-- What the tables of an index answer, told of its documents.
use Rattle.std.proofs.Common.{◌≡◌, ◌≢◌, ℕ, ◌≤◌, List, [], false, Option, Some, None, refl, sym, ap, ◌∙◌, subst}
use Rattle.std.specs.List.{Contains}
use Rattle.std.specs.declared.cmp.Ordering.{Ordering}
use Rattle.std.specs.declared.cmp.Ordering.TheVariants.{Less, Equal, Greater}
use Rattle.std.specs.Ordering.{nat_cmp, ordering_then, is_gt}
use Rattle.std.specs.Cmp.Lexicographic.{slice_cmp}
use Rattle.std.specs.Option.{option_and_then, option_map_or, unwrap_or}
use Rattle.std.specs.BTreeMap as tree
use Rattle.std.specs.FinMap as map
use Rattle.std.specs.FinSet as set
use Rattle.std.proofs.lemmas.Cmp.{tied_itself}
use Rattle.std.proofs.lemmas.Option.{none-some}
use Rattle.lw_base.specs.declared.numbers.DocId.{DocId}
use Rattle.lw_index.specs.declared.parts.Document.{Document}
use Rattle.lw_index.specs.declared.parts.Target.{Target}
use Rattle.lw_index.specs.Indexed.{Indexed, exports_in}
use Rattle.lw_index.specs.Exported.{export_of, IsExported}
use Rattle.lw_index.specs.Firsts.{IsNotBehind, IsFirstExport, NoneWanted}
use Rattle.lw_index.specs.Rivals.{IsLeastRival, HasNoRival}
use Rattle.lw_index.specs.Entered.{Shows, AreEntered}
use Rattle.lw_index.specs.Elsewhere.{IsElsewhere}
use Rattle.lw_index.specs.Least.{Found, IsAmongWanted, IsLeastOf}
use Rattle.lw_index.specs.Others.{HasOther, IsOthers}
use Rattle.lw_index.specs.Slots.{Place, Exporters, Names, name_cmp, slot_in, slot_at, filled}
use Rattle.lw_index.proofs.Orders.{name_cmp_total, by_node}
use Rattle.lw_index.proofs.Wanted.{behind_chain}
use Rattle.lw_index.proofs.View.{shown_of, shown_get}
use Rattle.lw_index.proofs.Entering.{Documents, held, uri_of, WasThere}

no_target : (x : Target) → None ≡ Some x → ⊥
no_target x e = cc

uri_not_behind : (a b : Ordering) → is_gt (ordering_then a b) ≡ false → is_gt a ≡ false
uri_not_behind Less b h = refl
uri_not_behind Equal b h = refl
uri_not_behind Greater b h = h

-- a document's own exports, by what was found under its number
pub exports_held : (documents : Documents) (index : Indexed) (doc : ℕ) (o : Option Document) → shown_of documents ≡ index → o ≡ held documents doc → option_map_or (λ (d : Document). d.exports) o [] ≡ exports_in index doc
exports_held documents index doc o is e = ap (λ o. option_map_or (λ (d : Document). d.exports) o []) (e ∙ sym (shown_get documents doc) ∙ ap (λ i. map.get i doc) is)

other_than : (doc other : DocId) → (other.0 ≡ doc.0 → ⊥) → Some doc ≢ Some other
other_than doc other apart same = apart (ap (λ (d : DocId). d.0) (sym (drop doc other same)))
  where
    drop : (a b : DocId) → Some a ≡ Some b → a ≡ b
    drop a b e = cc

abbrev nothing : Document
nothing = record { uri = []; exports = [] }

exports_or : (o : Option Document) → (unwrap_or o nothing).exports ≡ option_map_or (λ (d : Document). d.exports) o []
exports_or None = refl
exports_or (Some d) = refl

pub gone_is : (documents : Documents) (index : Indexed) (doc : ℕ) (o : Option Document) (r : Document) → shown_of documents ≡ index → o ≡ held documents doc → r ≡ unwrap_or o nothing → r.exports ≡ exports_in index doc
gone_is documents index doc o r is e was = ap (λ (d : Document). d.exports) was ∙ exports_or o ∙ exports_held documents index doc o is e

was_or : (o : Option Document) → WasThere o (unwrap_or o nothing).uri (unwrap_or o nothing).exports
was_or None = refl
was_or (Some d) = (refl, refl)

pub was_there : (o p : Option Document) (r : Document) → o ≡ p → r ≡ unwrap_or o nothing → WasThere p r.uri r.exports
was_there o p r same was = subst (λ (q : Document). WasThere p q.uri q.exports) (sym was) (subst (λ p. WasThere p (unwrap_or o nothing).uri (unwrap_or o nothing).exports) same (was_or o))

module _ (documents : Documents) (names : Names) (entered : AreEntered documents names) where
  -- what a document exports is in a slot
  pub slot_shown : (doc : ℕ) (d : Document) (n : List ℕ) (t m : ℕ) → held documents doc ≡ Some d → Contains d.exports (export_of n t m)
      → (x : Target) × (filled (slot_at names n (t, d.uri)) ≡ Some x) × (x.doc.0 ≡ doc) × (x.node.0 ≤ m)
  slot_shown doc d n t m is c = by (filled (slot_at names n (t, d.uri))) refl (entered.shown doc d is n t)
    where
      by : (o : Option Target) → filled (slot_at names n (t, d.uri)) ≡ o → Shows doc (λ k. Contains d.exports (export_of n t k)) o
          → (x : Target) × (filled (slot_at names n (t, d.uri)) ≡ Some x) × (x.doc.0 ≡ doc) × (x.node.0 ≤ m)
      by None e none = absurd (none m c)
      by (Some x) e least = (x, e, least.doc_is, least.least m c)

  -- what is in a slot is exported
  pub slot_means : (n : List ℕ) (t : ℕ) (u : List ℕ) (x : Target) → filled (slot_at names n (t, u)) ≡ Some x
      → (d : Document) × (held documents x.doc.0 ≡ Some d) × (d.uri ≡ u) × Contains d.exports (export_of n t x.node.0)
  slot_means n t u x some =
      let h = uri_of documents x.doc.0 u (entered.owned n t u x some) in
      let shown : Shows x.doc.0 (λ m. Contains h.0.exports (export_of n t m)) (Some x) =
      subst (Shows x.doc.0 (λ m. Contains h.0.exports (export_of n t m))) (ap (λ v. filled (slot_at names n (t, v))) h.2 ∙ some) (entered.shown x.doc.0 h.0 h.1 n t) in
      (h.0, h.1, h.2, shown.here)

  module _ (index : Indexed) (index_is : shown_of documents ≡ index) (n : List ℕ) where
    held_in : (doc : ℕ) → map.get index doc ≡ held documents doc
    held_in doc = ap (λ i. map.get i doc) (sym index_is) ∙ shown_get documents doc

    exported : (t doc : ℕ) (d : Document) (m : ℕ) → held documents doc ≡ Some d → Contains d.exports (export_of n t m) → IsExported index n t doc d m
    exported t doc d m is c = record { held = held_in doc ∙ is; export = c }

    slot_of : (t doc : ℕ) (d : Document) (m : ℕ) → IsExported index n t doc d m → (x : Target) × (filled (slot_at names n (t, d.uri)) ≡ Some x) × (x.doc.0 ≡ doc) × (x.node.0 ≤ m)
    slot_of t doc d m e = slot_shown doc d n t m (sym (held_in doc) ∙ e.held) e.export

    no_slots : (p : Place) (x : Target) → None ≡ tree.get name_cmp names n → filled (slot_at names n p) ≡ Some x → ⊥
    no_slots p x none some = no_target x (ap (λ es. filled (option_and_then (λ exporters. slot_in exporters p) es)) none ∙ some)

    -- nothing is exported by a name that is not there
    pub none_named : (types : set.FinSet nat_cmp) → None ≡ tree.get name_cmp names n → NoneWanted index n types
    none_named types none doc d m w = let s = slot_of w.type doc d m w.exported in no_slots (w.type, d.uri) s.0 none s.1

    pub no_rival_named : (doc t : ℕ) → None ≡ tree.get name_cmp names n → HasNoRival index doc n t
    no_rival_named doc t none uri r = let s = slot_of t r.other r.document r.node r.exported in no_slots (t, r.document.uri) s.0 none s.1

    module _ (es : Exporters) (es_is : Some es ≡ tree.get name_cmp names n) where
      slots : (p : Place) → slot_at names n p ≡ slot_in es p
      slots p = ap (option_and_then (λ exporters. slot_in exporters p)) (sym es_is)

      pub none_wanted : (types : set.FinSet nat_cmp) → ((uri : List ℕ) (x : Target) → ¬ (IsAmongWanted es types None uri x)) → NoneWanted index n types
      none_wanted types none doc d m w =
          let s = slot_of w.type doc d m w.exported in none d.uri s.0 (w.type, w.wanted, ap filled (sym (slots (w.type, d.uri))) ∙ s.1, none-some s.0.doc)

      pub first_wanted_is : (types : set.FinSet nat_cmp) (found : Found) → IsLeastOf (IsAmongWanted es types None) found → IsFirstExport index n types found.1
      first_wanted_is types found least =
          let h = least.here in
          let d = slot_means n h.0 found.0 found.1 (ap filled (slots (h.0, found.0)) ∙ h.2) in
          record {
            document = d.0;
            wanted = record { type = h.0; wanted = h.1; exported = exported h.0 found.1.doc.0 d.0 found.1.node.0 d.1 d.3 };
            first = λ doc other m w. (
                let s = slot_of w.type doc other m w.exported in
                subst (λ u. IsNotBehind (u, found.1.node.0) (other.uri, m)) (sym d.2)
                (behind_chain (found.0, found.1.node.0) (other.uri, s.0.node.0) (other.uri, m)
                (least.least other.uri s.0 (w.type, w.wanted, ap filled (sym (slots (w.type, other.uri))) ∙ s.1, none-some s.0.doc))
                (by_node other.uri other.uri s.0.node.0 m (tied_itself name_cmp_total other.uri) s.3)));
          }

      abbrev pub IsOther : DocId → ℕ → List ℕ → Target → Type 0
      IsOther doc t uri x = (filled (slot_in es (t, uri)) ≡ Some x) × (Some doc ≢ Some x.doc)

      pub no_rival_found : (doc : DocId) (t : ℕ) → ((uri : List ℕ) (x : Target) → ¬ (IsOther doc t uri x)) → HasNoRival index doc.0 n t
      no_rival_found doc t none uri r =
          let s = slot_of t r.other r.document r.node r.exported in
          none r.document.uri s.0 (ap filled (sym (slots (t, r.document.uri))) ∙ s.1, other_than doc s.0.doc (λ same. r.another (sym s.2 ∙ same)))

      pub least_rival_is : (doc : DocId) (t : ℕ) (found : Found) → IsLeastOf (IsOther doc t) found → IsLeastRival index doc.0 n t found.0
      least_rival_is doc t found least =
          let h = least.here in
          let d = slot_means n t found.0 found.1 (ap filled (slots (t, found.0)) ∙ h.0) in
          record {
            rival = record {
              other = found.1.doc.0;
              document = d.0;
              node = found.1.node.0;
              another = λ same. h.1 (λ i. Some (record { 0 = sym same i }));
              exported = exported t found.1.doc.0 d.0 found.1.node.0 d.1 d.3;
              uri_is = d.2;
            };
            least = λ v r. (
                let s = slot_of t r.other r.document r.node r.exported in
                let le = least.least r.document.uri s.0 (ap filled (sym (slots (t, r.document.uri))) ∙ s.1, other_than doc s.0.doc (λ same. r.another (sym s.2 ∙ same))) in
                subst (λ v. is_gt (slice_cmp nat_cmp found.0 v) ≡ false) r.uri_is (uri_not_behind _ _ le));
          }

      -- ---- of other documents than one

      pub elsewhere_of : (except : DocId) (types : set.FinSet nat_cmp) → HasOther es except types → IsElsewhere index except.0 types n
      elsewhere_of except types (uri, x, (t, wanted, here, other)) =
          let (d, is, _, c) = slot_means n t uri x (ap filled (slots (t, uri)) ∙ here) in
          record {
            doc = x.doc.0;
            document = d;
            node = x.node.0;
            another = λ same. other (λ i. Some (record { 0 = sym same i }));
            wanted = record { type = t; wanted = wanted; exported = exported t x.doc.0 d x.node.0 is c };
          }

      other_of : (except : DocId) (types : set.FinSet nat_cmp) → IsElsewhere index except.0 types n → HasOther es except types
      other_of except types is =
          let (x, here, doc, _) = slot_of is.wanted.type is.doc is.document is.node is.wanted.exported in (
            is.document.uri,
            x,
            (
              is.wanted.type,
              is.wanted.wanted,
              ap filled (sym (slots (is.wanted.type, is.document.uri))) ∙ here,
              other_than except x.doc (λ same. is.another (sym doc ∙ same)),
            ),
          )

    pub others_elsewhere : (except : DocId) (types : set.FinSet nat_cmp) → IsOthers names except types n → IsElsewhere index except.0 types n
    others_elsewhere except types is = elsewhere_of is.exporters (sym is.there) except types is.other

    pub elsewhere_others : (except : DocId) (types : set.FinSet nat_cmp) → IsElsewhere index except.0 types n → IsOthers names except types n
    elsewhere_others except types is = by (tree.get name_cmp names n) refl
      where
        by : (o : Option Exporters) → tree.get name_cmp names n ≡ o → IsOthers names except types n
        by None none = absurd (let s = slot_of is.wanted.type is.doc is.document is.node is.wanted.exported in no_slots (is.wanted.type, is.document.uri) s.0 (sym none) s.1)
        by (Some es) there = record { exporters = es; there = there; other = other_of es (sym there) except types is }
