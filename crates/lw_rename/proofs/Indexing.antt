-- The index of what all documents export once some were read again.
use Rattle.std.proofs.Common.{◌≡◌, ◌≢◌, ℕ, List, [], Option, Some, None, slice_get, length, refl, sym, ap, ◌∙◌, subst}
use Rattle.std.specs.FinMap.{get}
use Rattle.std.specs.Option.{option_map_or}
use Rattle.std.proofs.lemmas.Option.{none-some, slice_get_within}
use Rattle.lw_index.specs.Indexed.{Indexed}
use Rattle.lw_index.specs.declared.parts.Answer.{Answer}
use Rattle.lw_index.specs.declared.parts.Answer.TheVariants.{Found, Missing}
use Rattle.lw_index.specs.declared.parts.Document.{Document}
use Rattle.lw_link.specs.Indexed.{AreEntriesAt, IsDocumentOf, IsIndexOf, address_in, link_of}
use Rattle.lw_query.specs.Built.{tree_seen}
use Rattle.lw_query.specs.declared.view.View.{View}
use Rattle.lw_tree.specs.Parts.{Parts}
use Rattle.lw_rename.specs.Afterwards.{AreApart, StandsWith, later, trees_after}
use Rattle.lw_rename.specs.Entries.{IsIndexAfter}
use Rattle.lw_rename.specs.Leads.{address_among, link_among}
use Rattle.lw_rename.proofs.Addresses.{its_address, no_address}
use Rattle.lw_rename.proofs.Listing.{one_at}
use Rattle.lw_rename.proofs.Once.{IsOnceOrNone, OnceAt, later_at, look, no_later_at, once_address, once_at, once_place, one_of_number, same_place}
use Rattle.lw_rename.proofs.Once as place

module _ (views : List View) (apart : AreApart views) (trees : List (Option Parts)) (long : length trees ≡ length views) (index : Indexed)
    (is : IsIndexAfter views trees (length views) index) where
  pub same_address : (n : ℕ) → address_among views n ≡ address_in index n
  same_address n = by (get index n) refl
    where
      by : (o : Option Document) → get index n ≡ o → address_among views n ≡ option_map_or (λ (d : Document). d.uri) o []
      by None none = no_address views n held
        where
          held : (k : ℕ) (v : View) → slice_get views k ≡ Some v → v.doc.0 ≢ n
          held k v at same =
              let (d, there, _) = is.held k v (slice_get_within views k v at) at in
              none-some d (sym none ∙ ap (get index) (sym same) ∙ there)
      by (Some d) there =
          let e = is.entered n d there in
          ap (address_among views) (sym e.number) ∙ its_address views apart e.place e.v e.among.view ∙ sym e.address

  pub same_link : (answer : Answer) → link_among views answer ≡ link_of index answer
  same_link (Found target) = ap (λ (a : List ℕ). Some (a, target.node.0)) (same_address target.doc.0)
  same_link Missing = refl

  later_here : (k : ℕ) (v : View) (t : Option Parts) → StandsWith views trees k v t → trees_after views trees v.uri.now ≡ later t (tree_seen v)
  later_here k v t at = later_at v.uri.now views trees k v t (once_at views apart k v at.view) at.new

  pub is_index : IsIndexOf (trees_after views trees) index
  is_index = record {
    entries = λ doc d at.
        let e = is.entered doc d at in
        subst (λ (o : Option Parts). AreEntriesAt o d.exports) (sym (ap (trees_after views trees) e.address ∙ later_here e.place e.v e.t e.among)) e.entries;
    held = held;
    apart = λ doc other d e at there same.
        let one = is.entered doc d at in
        let two = is.entered other e there in
        let place = same_place views apart one.place two.place one.v two.v one.among.view two.among.view (sym one.address ∙ same ∙ two.address) in
        let view = one_at views two.place one.v two.v (ap (slice_get views) (sym place) ∙ one.among.view) two.among.view in
        sym one.number ∙ ap (λ (x : View). x.doc.0) view ∙ two.number;
  }
    where
      held : (address : List ℕ) (tree : Parts) → trees_after views trees address ≡ Some tree →
          (n : ℕ) × (d : Document) × (get index n ≡ Some d) × (d.uri ≡ address)
      held address tree there = by (look address views apart)
        where
          by : IsOnceOrNone address views → (n : ℕ) × (d : Document) × (get index n ≡ Some d) × (d.uri ≡ address)
          by (place.nowhere absent) = absurd (none-some tree (sym (no_later_at address views trees absent) ∙ there))
          by (place.once {k = k} {v = v} one) =
              let (d, at, uri) = is.held k v (slice_get_within views k v (once_place one)) (once_place one) in
              (v.doc.0, d, at, uri ∙ once_address one)

  pub is_document : (k : ℕ) (v : View) (t : Option Parts) (tree : Parts) → StandsWith views trees k v t → later t (tree_seen v) ≡ Some tree →
      IsDocumentOf (trees_after views trees) index v.doc.0 v.uri.now tree
  is_document k v t tree at there =
      let (d, held, uri) = is.held k v (slice_get_within views k v at.view) at.view in
      record { document = d; there = held; here = uri; is_tree = later_here k v t at ∙ there }
