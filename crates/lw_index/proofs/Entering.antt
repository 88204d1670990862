-- What stands in the tables once a document came, in place of another or of none, or went.
use Rattle.std.proofs.Common.{◌≡◌, ℕ, List, [], Bool, true, false, cond, Option, Some, None, refl, sym, ap, ◌∙◌, subst, ◌⊎◌, inl, inr, eq-eqb}
use Rattle.std.specs.Prelude.{MatchOption}
use Rattle.std.specs.List.{Contains}
use Rattle.std.specs.Option.{option_map}
use Rattle.std.specs.Ordering.{eq_by_cmp, nat_cmp}
use Rattle.std.specs.Cmp.{unsigned_tied}
use Rattle.std.specs.BTreeMap as tree
use Rattle.std.specs.BTreeMap.{BTreeMap, is_at}
use Rattle.std.specs.Map.{lookup}
use Rattle.std.proofs.lemmas.Bool.{false≢true, cases_eq, eqb-true}
use Rattle.lw_base.specs.declared.numbers.DocId.{DocId}
use Rattle.lw_index.specs.declared.exporters.Slot.{Slot}
use Rattle.lw_index.specs.declared.parts.Document.{Document}
use Rattle.lw_index.specs.declared.parts.Export.{Export}
use Rattle.lw_index.specs.declared.parts.Target.{Target}
use Rattle.lw_index.specs.Exported.{export_of}
use Rattle.lw_index.specs.Entered.{Shows, AreEntered}
use Rattle.lw_index.specs.Slots.{Place, Names, name_cmp, slot_at, filled}
use Rattle.lw_index.specs.Turns.{Turn, reserved, emptied, offered, swept, turned, AreFilledAlike}
use Rattle.lw_index.proofs.Orders.{same_name, itself_name}
use Rattle.lw_index.proofs.AllTurns.{reserved_alike}
use Rattle.lw_index.proofs.Offered.{turned_elsewhere, turned_by_none, swept_alike, emptied_stays_free, emptied_where_exported, emptied_only_frees, emptied_stays_there, reserved_where_exported, offered_shows}

abbrev pub Documents : Type 0
Documents = BTreeMap ℕ Document

abbrev pub held : Documents → ℕ → Option Document
held documents doc = tree.get nat_cmp documents doc

-- what was there of a document that comes or goes: nothing, or this URI and these exports
abbrev pub WasThere : Option Document → List ℕ → List Export → Type 0
WasThere old uri gone = MatchOption old (gone ≡ []) (λ e. (e.uri ≡ uri) × (e.exports ≡ gone))

pub none_document : (e : Document) → None ≡ Some e → ⊥
none_document e h = cc

none_uri : (uri : List ℕ) → None ≡ Some uri → ⊥
none_uri uri h = cc

pub uri_of : (documents : Documents) (doc : ℕ) (uri : List ℕ) → option_map (λ (d : Document). d.uri) (held documents doc) ≡ Some uri → (d : Document) × (held documents doc ≡ Some d) × (d.uri ≡ uri)
uri_of documents doc uri is = by (held documents doc) refl is
  where
    same : (a b : List ℕ) → Some a ≡ Some b → a ≡ b
    same a b e = cc

    by : (o : Option Document) → held documents doc ≡ o → option_map (λ (d : Document). d.uri) o ≡ Some uri → (d : Document) × (held documents doc ≡ Some d) × (d.uri ≡ uri)
    by None e h = absurd (none_uri uri h)
    by (Some d) e h = (d, e, same d.uri uri h)

pub same_document : (a b : Document) → Some a ≡ Some b → a ≡ b
same_document a b e = cc

no_target : (x : Target) → None ≡ Some x → ⊥
no_target x e = cc

not_true : (b : Bool) → (b ≡ true → ⊥) → b ≡ false
not_true true h = absurd (h refl)
not_true false h = refl

tied : (a b : ℕ) → a ≡ b → eq_by_cmp nat_cmp a b ≡ true
tied a b e = unsigned_tied a b ∙ eq-eqb a b e

untied : (a b : ℕ) → (a ≡ b → ⊥) → eq_by_cmp nat_cmp a b ≡ false
untied a b e = not_true _ (λ h. e (eqb-true a b (sym (unsigned_tied a b) ∙ h)))

module _ (documents : Documents) (names : Names) (entered : AreEntered documents names) (d : ℕ) (left : List ℕ) (gone : List Export) (was : WasThere (held documents d) left gone) where
  -- what the document that goes exported is emptied, and else nothing is
  abbrev pub out : List ℕ → Place → Option Slot → Option Slot
  out n p slot = turned (λ _. emptied) left n p slot gone

  was_none : held documents d ≡ None → gone ≡ []
  was_none e = subst (λ o. WasThere o left gone) e was

  was_some : (e : Document) → held documents d ≡ Some e → (e.uri ≡ left) × (e.exports ≡ gone)
  was_some e is = subst (λ o. WasThere o left gone) is was

  -- where a target of that document stood, nothing stands any more
  pub own_emptied : (n : List ℕ) (t : ℕ) (u : List ℕ) (x : Target) (slot : Option Slot) → filled (slot_at names n (t, u)) ≡ Some x → x.doc.0 ≡ d → filled (out n (t, u) slot) ≡ None
  own_emptied n t u x slot some own =
      let h = uri_of documents x.doc.0 u (entered.owned n t u x some) in
      let is : held documents d ≡ Some h.0 = ap (held documents) (sym own) ∙ h.1 in
      let w = was_some h.0 is in
      let shown : Shows d (λ m. Contains h.0.exports (export_of n t m)) (Some x) = subst (Shows d (λ m. Contains h.0.exports (export_of n t m))) (ap (λ v. filled (slot_at names n (t, v))) h.2 ∙ some) (entered.shown d h.0 is n t) in
      let here : Contains gone (export_of n t x.node.0) = subst (λ xs. Contains xs (export_of n t x.node.0)) w.1 shown.here in
      subst (λ v. filled (turned (λ _. emptied) v n (t, u) slot gone) ≡ None) (sym h.2 ∙ w.0) (emptied_where_exported u n t x.node.0 slot gone here)

  -- the places of another document stay
  pub others_stay : (turn : Export → Turn) (doc : ℕ) (e : Document) → held documents doc ≡ Some e → (doc ≡ d → ⊥) → (n : List ℕ) (t : ℕ) (slot : Option Slot) → turned turn left n (t, e.uri) slot gone ≡ slot
  others_stay turn doc e is other n t slot = by (held documents d) refl
    where
      by : (o : Option Document) → held documents d ≡ o → turned turn left n (t, e.uri) slot gone ≡ slot
      by None none = turned_by_none turn left n (t, e.uri) slot gone (was_none none)
      by (Some f) some = turned_elsewhere turn left n (t, e.uri) slot gone (λ same. other (entered.apart doc d e f is some (sym same ∙ sym (was_some f some).0)))

  -- ---- the document goes

  pub entered_without : (after : Documents) (n : Names) → ((q : ℕ) → held after q ≡ cond (eq_by_cmp nat_cmp d q) None (held documents q))
      → ((m : List ℕ) (p : Place) → slot_at n m p ≡ turned (λ _. swept) left m p (turned (λ _. emptied) left m p (slot_at names m p) gone) gone) → AreEntered after n
  entered_without after n at slots = record {
    shown = λ doc e is m t. shown' doc e is m t (cases_eq doc d);
    owned = λ m t u x is. owned' m t u x is (cases_eq x.doc.0 d);
    apart = λ doc other e f is js same. entered.apart doc other e f (before doc e is) (before other f js) same;
  }
    where
      gone_out : (doc : ℕ) (e : Document) → held after doc ≡ Some e → doc ≡ d → ⊥
      gone_out doc e is own = none_document e (sym (at doc ∙ ap (λ b. cond b None (held documents doc)) (tied d doc (sym own))) ∙ is)

      before : (doc : ℕ) (e : Document) → held after doc ≡ Some e → held documents doc ≡ Some e
      before doc e is = ap (λ b. cond b None (held documents doc)) (sym (untied d doc (λ same. gone_out doc e is (sym same)))) ∙ sym (at doc) ∙ is

      shown' : (doc : ℕ) (e : Document) → held after doc ≡ Some e → (m : List ℕ) (t : ℕ) → (doc ≡ d) ⊎ (doc ≡ d → ⊥) → Shows doc (λ k. Contains e.exports (export_of m t k)) (filled (slot_at n m (t, e.uri)))
      shown' doc e is m t (inl own) = absurd (gone_out doc e is own)
      shown' doc e is m t (inr other) =
          subst (Shows doc (λ k. Contains e.exports (export_of m t k)))
          (sym (ap filled (slots m (t, e.uri) ∙ others_stay (λ _. swept) doc e (before doc e is) other m t _ ∙ others_stay (λ _. emptied) doc e (before doc e is) other m t _)))
          (entered.shown doc e (before doc e is) m t)

      stood : (m : List ℕ) (t : ℕ) (u : List ℕ) (x : Target) → filled (slot_at n m (t, u)) ≡ Some x → filled (out m (t, u) (slot_at names m (t, u))) ≡ Some x
      stood m t u x is = sym (ap filled (slots m (t, u)) ∙ swept_alike left m (t, u) (out m (t, u) (slot_at names m (t, u))) gone) ∙ is

      owned' : (m : List ℕ) (t : ℕ) (u : List ℕ) (x : Target) → filled (slot_at n m (t, u)) ≡ Some x → (x.doc.0 ≡ d) ⊎ (x.doc.0 ≡ d → ⊥) → option_map (λ (e : Document). e.uri) (held after x.doc.0) ≡ Some u
      owned' m t u x is (inl own) = absurd (no_target x (sym (own_emptied m t u x (slot_at names m (t, u)) (emptied_only_frees left m (t, u) (slot_at names m (t, u)) gone x (stood m t u x is)) own) ∙ stood m t u x is))
      owned' m t u x is (inr other) =
          ap (option_map (λ (e : Document). e.uri)) (at x.doc.0 ∙ ap (λ b. cond b None (held documents x.doc.0)) (untied d x.doc.0 (λ same. other (sym same))))
          ∙ entered.owned m t u x (emptied_only_frees left m (t, u) (slot_at names m (t, u)) gone x (stood m t u x is))

  -- ---- the document comes, in place of what was there under its number

  module _ (doc : DocId) (doc_is : doc.0 ≡ d) (new : Document) (free : (other : ℕ) (e : Document) → held documents other ≡ Some e → e.uri ≡ new.uri → other ≡ d) where
    abbrev pub ready : List ℕ → Place → Option Slot
    ready m p = turned (λ _. reserved doc) new.uri m p (slot_at names m p) new.exports

    abbrev pub offers : List ℕ → Place → Option Slot → Option Slot
    offers m p slot = turned (λ x. offered doc x.node) new.uri m p slot new.exports

    -- its own places are free before it is offered
    own_free : (m : List ℕ) (t : ℕ) → filled (out m (t, new.uri) (ready m (t, new.uri))) ≡ None
    own_free m t = by (filled (slot_at names m (t, new.uri))) refl
      where
        by : (o : Option Target) → filled (slot_at names m (t, new.uri)) ≡ o → filled (turned (λ _. emptied) left m (t, new.uri) (ready m (t, new.uri)) gone) ≡ None
        by None none = emptied_stays_free left m (t, new.uri) (ready m (t, new.uri)) gone (reserved_alike doc new.uri m (t, new.uri) (slot_at names m (t, new.uri)) new.exports ∙ none)
        by (Some x) some =
            let h = uri_of documents x.doc.0 new.uri (entered.owned m t new.uri x some) in
            own_emptied m t new.uri x (ready m (t, new.uri)) some (free x.doc.0 h.0 h.1 h.2)

    own_shown : (m : List ℕ) (t : ℕ) → Shows d (λ k. Contains new.exports (export_of m t k)) (filled (offers m (t, new.uri) (out m (t, new.uri) (ready m (t, new.uri)))))
    own_shown m t =
        subst (λ k. Shows k (λ k. Contains new.exports (export_of m t k)) (filled (offers m (t, new.uri) (out m (t, new.uri) (ready m (t, new.uri)))))) doc_is
        (offered_shows doc new.uri m t new.exports (out m (t, new.uri) (ready m (t, new.uri)))
        (λ k c. emptied_stays_there left m (t, new.uri) (ready m (t, new.uri)) gone (reserved_where_exported doc new.uri m t k (slot_at names m (t, new.uri)) new.exports c)) (own_free m t))

    -- places of other URIs are only emptied
    other_places : (m : List ℕ) (t : ℕ) (u : List ℕ) → (new.uri ≡ u → ⊥) → offers m (t, u) (out m (t, u) (ready m (t, u))) ≡ out m (t, u) (slot_at names m (t, u))
    other_places m t u other =
        turned_elsewhere (λ x. offered doc x.node) new.uri m (t, u) _ new.exports other
        ∙ ap (out m (t, u)) (turned_elsewhere (λ _. reserved doc) new.uri m (t, u) (slot_at names m (t, u)) new.exports other)

    pub entered_with : (after : Documents) (n : Names) → ((q : ℕ) → held after q ≡ cond (eq_by_cmp nat_cmp d q) (Some new) (held documents q))
        → ((m : List ℕ) (p : Place) → slot_at n m p ≡ turned (λ _. swept) left m p (offers m p (turned (λ _. emptied) left m p (ready m p) gone)) gone) → AreEntered after n
    entered_with after n at slots = record {
      shown = λ k e is m t. shown' k e is m t (cases_eq k d);
      owned = λ m t u x is. owned' m t u x is (eq_by_cmp name_cmp new.uri u) refl (cases_eq x.doc.0 d);
      apart = λ k other e f is js same. apart' k other e f is js same (cases_eq k d) (cases_eq other d);
    }
      where
        here : held after d ≡ Some new
        here = at d ∙ ap (λ b. cond b (Some new) (held documents d)) (tied d d refl)

        else : (k : ℕ) → (k ≡ d → ⊥) → held after k ≡ held documents k
        else k other = at k ∙ ap (λ b. cond b (Some new) (held documents k)) (untied d k (λ same. other (sym same)))

        own : (k : ℕ) (e : Document) → held after k ≡ Some e → k ≡ d → e ≡ new
        own k e is same = same_document e new (sym is ∙ ap (held after) same ∙ here)

        stands : (m : List ℕ) (p : Place) → filled (slot_at n m p) ≡ filled (offers m p (out m p (ready m p)))
        stands m p = ap filled (slots m p) ∙ swept_alike left m p (offers m p (out m p (ready m p))) gone

        shown' : (k : ℕ) (e : Document) → held after k ≡ Some e → (m : List ℕ) (t : ℕ) → (k ≡ d) ⊎ (k ≡ d → ⊥) → Shows k (λ j. Contains e.exports (export_of m t j)) (filled (slot_at n m (t, e.uri)))
        shown' k e is m t (inl same) =
            subst (λ k. Shows k (λ j. Contains e.exports (export_of m t j)) (filled (slot_at n m (t, e.uri)))) (sym same)
            (subst (λ (e : Document). Shows d (λ j. Contains e.exports (export_of m t j)) (filled (slot_at n m (t, e.uri)))) (sym (own k e is same))
            (subst (Shows d (λ j. Contains new.exports (export_of m t j))) (sym (stands m (t, new.uri))) (own_shown m t)))
        shown' k e is m t (inr other) =
            let js = sym (else k other) ∙ is in
            subst (Shows k (λ j. Contains e.exports (export_of m t j)))
            (sym (stands m (t, e.uri) ∙ ap filled (other_places m t e.uri (λ same. other (free k e js (sym same))) ∙ others_stay (λ _. emptied) k e js other m t _)))
            (entered.shown k e js m t)

        owned' : (m : List ℕ) (t : ℕ) (u : List ℕ) (x : Target) → filled (slot_at n m (t, u)) ≡ Some x → (b : Bool) → eq_by_cmp name_cmp new.uri u ≡ b → (x.doc.0 ≡ d) ⊎ (x.doc.0 ≡ d → ⊥)
            → option_map (λ (e : Document). e.uri) (held after x.doc.0) ≡ Some u
        owned' m t u x is true e c =
            let same = same_name new.uri u e in
            let shown : Shows d (λ j. Contains new.exports (export_of m t j)) (Some x) =
            subst (Shows d (λ j. Contains new.exports (export_of m t j))) (ap (λ v. filled (offers m (t, v) (out m (t, v) (ready m (t, v))))) same ∙ sym (stands m (t, u)) ∙ is) (own_shown m t) in
            ap (option_map (λ (e : Document). e.uri)) (ap (held after) shown.doc_is ∙ here) ∙ ap Some same
        owned' m t u x is false e c =
            let other : new.uri ≡ u → ⊥ = λ same. false≢true (sym e ∙ ap (eq_by_cmp name_cmp new.uri) (sym same) ∙ itself_name new.uri) in
            let out_is : filled (out m (t, u) (slot_at names m (t, u))) ≡ Some x = sym (stands m (t, u) ∙ ap filled (other_places m t u other)) ∙ is in
            let was_is = emptied_only_frees left m (t, u) (slot_at names m (t, u)) gone x out_is in
            elim c [
              | inl own ↦ absurd (no_target x (sym (own_emptied m t u x (slot_at names m (t, u)) was_is own) ∙ out_is))
              | inr not_own ↦ ap (option_map (λ (e : Document). e.uri)) (else x.doc.0 not_own) ∙ entered.owned m t u x was_is
            ]

        apart' : (k other : ℕ) (e f : Document) → held after k ≡ Some e → held after other ≡ Some f → e.uri ≡ f.uri → (k ≡ d) ⊎ (k ≡ d → ⊥) → (other ≡ d) ⊎ (other ≡ d → ⊥) → k ≡ other
        apart' k other e f is js same (inl a) (inl b) = a ∙ sym b
        apart' k other e f is js same (inl a) (inr b) = absurd (b (free other f (sym (else other b) ∙ js) (sym same ∙ ap (λ (e : Document). e.uri) (own k e is a))))
        apart' k other e f is js same (inr a) (inl b) = absurd (a (free k e (sym (else k a) ∙ is) (same ∙ ap (λ (e : Document). e.uri) (own other f js b))))
        apart' k other e f is js same (inr a) (inr b) = entered.apart k other e f (sym (else k a) ∙ is) (sym (else other b) ∙ js) same

-- reserved slots, and swept ones, are nothing that is seen
pub entered_alike : (documents : Documents) (names n : Names) → AreFilledAlike names n → AreEntered documents names → AreEntered documents n
entered_alike documents names n alike entered = record {
  shown = λ doc d is m t. subst (Shows doc (λ k. Contains d.exports (export_of m t k))) (sym (alike m (t, d.uri))) (entered.shown doc d is m t);
  owned = λ m t u x is. entered.owned m t u x (sym (alike m (t, u)) ∙ is);
  apart = entered.apart;
}

pub entered_same : (documents after : Documents) (names : Names) → after.entries ≡ documents.entries → AreEntered documents names → AreEntered after names
entered_same documents after names same entered = record {
  shown = λ doc d is. entered.shown doc d (sym (look doc) ∙ is);
  owned = λ m t u x is. ap (option_map (λ (e : Document). e.uri)) (look x.doc.0) ∙ entered.owned m t u x is;
  apart = λ doc other d e is js. entered.apart doc other d e (sym (look doc) ∙ is) (sym (look other) ∙ js);
}
  where
    look : (doc : ℕ) → held after doc ≡ held documents doc
    look doc = ap (λ es. lookup (is_at (nat_cmp doc)) es) same
