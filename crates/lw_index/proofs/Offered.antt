-- What the slot of a name at a place holds once all exports of a document have turned theirs.
use Rattle.std.proofs.Common.{◌≡◌, ℕ, min, List, [], ◌∷◌, Bool, true, false, cond, ◌&&◌, Option, Some, None, refl, sym, ap, ◌∙◌, subst, ◌⊎◌, inl, inr, arith}
use Rattle.std.specs.List.{Contains}
use Rattle.std.specs.Option.{IsSome, is_some}
use Rattle.std.specs.Ordering.{eq_by_cmp}
use Rattle.std.proofs.lemmas.Bool.{false≢true, cases_lt}
use Rattle.std.proofs.lemmas.List.Elements.{Contains-append_left, Contains-append_right, Contains-append_cases, Contains-push, Contains-push_cases}
use Rattle.lw_base.specs.declared.numbers.DocId.{DocId}
use Rattle.lw_base.specs.declared.numbers.NodeId.{NodeId}
use Rattle.lw_index.specs.declared.exporters.Slot.{Slot}
use Rattle.lw_index.specs.declared.parts.Export.{Export}
use Rattle.lw_index.specs.declared.parts.Target.{Target}
use Rattle.lw_index.specs.Exported.{export_of}
use Rattle.lw_index.specs.Entered.{Shows}
use Rattle.lw_index.specs.Slots.{Place, name_cmp, place_cmp, filled}
use Rattle.lw_index.specs.Turns.{Turn, reserved, emptied, offered, swept, is_spot, turned}
use Rattle.lw_index.proofs.Orders.{same_name, same_place, itself_name, itself_place}

-- ---- an element of a list that begins with another

pub contains_cases : (x : Export) (xs : List Export) (y : Export) → Contains (x ∷ xs) y → (x ≡ y) ⊎ Contains xs y
contains_cases x xs y c = elim (Contains-append_cases (x ∷ []) xs y c) [
  | inl one ↦ elim (Contains-push_cases [] x y one) [ inl none ↦ absurd (omega (arith, none.1)) | inr is ↦ inl is ]
  | inr more ↦ inr more
]

pub contains_more : (x : Export) (xs : List Export) (y : Export) → Contains xs y → Contains (x ∷ xs) y
contains_more x xs y c = Contains-append_right (x ∷ []) xs y c

pub contains_first : (x : Export) (xs : List Export) (y : Export) → x ≡ y → Contains (x ∷ xs) y
contains_first x xs y is = subst (Contains (x ∷ xs)) is (Contains-append_left (x ∷ []) xs x (Contains-push [] x))

none_contained : (y : Export) → Contains [] y → ⊥
none_contained y c = omega (arith, c.1)

-- ---- whether an export turns a slot

first_true : (a b : Bool) → (a && b) ≡ true → (a ≡ true) × (b ≡ true)
first_true true b e = (refl, e)
first_true false b e = absurd (false≢true e)

spot_tells : (x : Export) (uri : List ℕ) (n : List ℕ) (p : Place) → is_spot x.name (x.type_id.0, uri) n p ≡ true → (x.name ≡ n) × (x.type_id.0 ≡ p.0) × (uri ≡ p.1)
spot_tells x uri n p e =
    let h = first_true (eq_by_cmp name_cmp x.name n) (eq_by_cmp place_cmp (x.type_id.0, uri) p) e in
    let at = same_place (x.type_id.0, uri) p h.1 in
    (same_name x.name n h.0, ap (λ (q : Place). q.0) at, ap (λ (q : Place). q.1) at)

spot_export : (x : Export) (uri : List ℕ) (n : List ℕ) (t : ℕ) → is_spot x.name (x.type_id.0, uri) n (t, uri) ≡ true → x ≡ export_of n t x.node.0
spot_export x uri n t e = let h = spot_tells x uri n (t, uri) e in λ i. export_of (h.0 i) (h.1 i) x.node.0

and_both : (a b : Bool) → a ≡ true → b ≡ true → (a && b) ≡ true
and_both true b e h = h
and_both false b e h = absurd (false≢true e)

export_spot : (x : Export) (uri : List ℕ) (n : List ℕ) (t m : ℕ) → x ≡ export_of n t m → is_spot x.name (x.type_id.0, uri) n (t, uri) ≡ true
export_spot x uri n t m is = ap (λ (y : Export). is_spot y.name (y.type_id.0, uri) n (t, uri)) is ∙ and_both _ _ (itself_name n) (itself_place (t, uri))

cond_same : {X : Type 0} (b : Bool) (x y : X) → (b ≡ true → ⊥) → cond b x y ≡ y
cond_same true x y h = absurd (h refl)
cond_same false x y h = refl

-- ---- places of other URIs stay

pub turned_elsewhere : (turn : Export → Turn) (uri : List ℕ) (n : List ℕ) (p : Place) (slot : Option Slot) (xs : List Export) → (uri ≡ p.1 → ⊥) → turned turn uri n p slot xs ≡ slot
unfolding turned
turned_elsewhere turn uri n p slot [] other = refl
turned_elsewhere turn uri n p slot (x ∷ xs) other =
    turned_elsewhere turn uri n p (cond (is_spot x.name (x.type_id.0, uri) n p) (turn x slot) slot) xs other
    ∙ cond_same (is_spot x.name (x.type_id.0, uri) n p) (turn x slot) slot (λ e. other (spot_tells x uri n p e).2)

pub turned_by_none : (turn : Export → Turn) (uri : List ℕ) (n : List ℕ) (p : Place) (slot : Option Slot) (xs : List Export) → xs ≡ [] → turned turn uri n p slot xs ≡ slot
unfolding turned
turned_by_none turn uri n p slot xs none = ap (turned turn uri n p slot) none

-- ---- what is swept was free

swept_fills : (s : Slot) (b : Bool) → is_some s.node ≡ b → filled (cond b (Some s) None) ≡ filled (Some s)
swept_fills s true e = refl
swept_fills s false e = free s.node e
  where
    free : (node : Option NodeId) → is_some node ≡ false → None ≡ filled (Some (record { doc = s.doc; node = node }))
    free None h = refl
    free (Some k) h = absurd (false≢true (sym h))

swept_filled : (b : Bool) (s : Option Slot) → filled (cond b (swept s) s) ≡ filled s
swept_filled true None = refl
swept_filled true (Some s) = swept_fills s (is_some s.node) refl
swept_filled false s = refl

pub swept_alike : (uri : List ℕ) (n : List ℕ) (p : Place) (slot : Option Slot) (xs : List Export) → filled (turned (λ _. swept) uri n p slot xs) ≡ filled slot
unfolding turned
swept_alike uri n p slot [] = refl
swept_alike uri n p slot (x ∷ xs) =
    swept_alike uri n p (cond (is_spot x.name (x.type_id.0, uri) n p) (swept slot) slot) xs ∙ swept_filled (is_spot x.name (x.type_id.0, uri) n p) slot

-- ---- what is emptied is free

emptied_free : (s : Option Slot) → filled (emptied s) ≡ None
emptied_free None = refl
emptied_free (Some s) = refl

either_free : (b : Bool) (s : Option Slot) → filled s ≡ None → filled (cond b (emptied s) s) ≡ None
either_free true s e = emptied_free s
either_free false s e = e

pub emptied_stays_free : (uri : List ℕ) (n : List ℕ) (p : Place) (slot : Option Slot) (xs : List Export) → filled slot ≡ None → filled (turned (λ _. emptied) uri n p slot xs) ≡ None
unfolding turned
emptied_stays_free uri n p slot [] free = free
emptied_stays_free uri n p slot (x ∷ xs) free = emptied_stays_free uri n p (cond (is_spot x.name (x.type_id.0, uri) n p) (emptied slot) slot) xs (either_free _ slot free)

pub emptied_where_exported : (uri : List ℕ) (n : List ℕ) (t m : ℕ) (slot : Option Slot) (xs : List Export) → Contains xs (export_of n t m) → filled (turned (λ _. emptied) uri n (t, uri) slot xs) ≡ None
unfolding turned
emptied_where_exported uri n t m slot [] c = absurd (none_contained _ c)
emptied_where_exported uri n t m slot (x ∷ xs) c = elim (contains_cases x xs (export_of n t m) c) [
  | inl is ↦ emptied_stays_free uri n (t, uri) (cond (is_spot x.name (x.type_id.0, uri) n (t, uri)) (emptied slot) slot) xs (ap (λ b. filled (cond b (emptied slot) slot)) (export_spot x uri n t m is) ∙ emptied_free slot)
  | inr more ↦ emptied_where_exported uri n t m (cond (is_spot x.name (x.type_id.0, uri) n (t, uri)) (emptied slot) slot) xs more
]

emptied_before : (b : Bool) (s : Option Slot) (x : Target) → filled (cond b (emptied s) s) ≡ Some x → filled s ≡ Some x
emptied_before true s x e = let h : None ≡ Some x = sym (emptied_free s) ∙ e in cc
emptied_before false s x e = e

-- what stands after emptying stood before
pub emptied_only_frees : (uri : List ℕ) (n : List ℕ) (p : Place) (slot : Option Slot) (xs : List Export) (y : Target) → filled (turned (λ _. emptied) uri n p slot xs) ≡ Some y → filled slot ≡ Some y
unfolding turned
emptied_only_frees uri n p slot [] y e = e
emptied_only_frees uri n p slot (x ∷ xs) y e =
    emptied_before (is_spot x.name (x.type_id.0, uri) n p) slot y (emptied_only_frees uri n p (cond (is_spot x.name (x.type_id.0, uri) n p) (emptied slot) slot) xs y e)

-- ---- slots that are there stay there

emptied_there : (b : Bool) (s : Option Slot) → IsSome s → IsSome (cond b (emptied s) s)
emptied_there true None e = e
emptied_there true (Some s) e = refl
emptied_there false s e = e

pub emptied_stays_there : (uri : List ℕ) (n : List ℕ) (p : Place) (slot : Option Slot) (xs : List Export) → IsSome slot → IsSome (turned (λ _. emptied) uri n p slot xs)
unfolding turned
emptied_stays_there uri n p slot [] e = e
emptied_stays_there uri n p slot (x ∷ xs) e = emptied_stays_there uri n p (cond (is_spot x.name (x.type_id.0, uri) n p) (emptied slot) slot) xs (emptied_there _ slot e)

reserved_there : (doc : DocId) (b : Bool) (s : Option Slot) → IsSome s → IsSome (cond b (reserved doc s) s)
reserved_there doc true s e = refl
reserved_there doc false s e = e

reserved_stays_there : (doc : DocId) (uri : List ℕ) (n : List ℕ) (p : Place) (slot : Option Slot) (xs : List Export) → IsSome slot → IsSome (turned (λ _. reserved doc) uri n p slot xs)
unfolding turned
reserved_stays_there doc uri n p slot [] e = e
reserved_stays_there doc uri n p slot (x ∷ xs) e = reserved_stays_there doc uri n p (cond (is_spot x.name (x.type_id.0, uri) n p) (reserved doc slot) slot) xs (reserved_there doc _ slot e)

-- there is a slot for what is exported
pub reserved_where_exported : (doc : DocId) (uri : List ℕ) (n : List ℕ) (t m : ℕ) (slot : Option Slot) (xs : List Export) → Contains xs (export_of n t m) → IsSome (turned (λ _. reserved doc) uri n (t, uri) slot xs)
unfolding turned
reserved_where_exported doc uri n t m slot [] c = absurd (none_contained _ c)
reserved_where_exported doc uri n t m slot (x ∷ xs) c = elim (contains_cases x xs (export_of n t m) c) [
  | inl is ↦ reserved_stays_there doc uri n (t, uri) (cond (is_spot x.name (x.type_id.0, uri) n (t, uri)) (reserved doc slot) slot) xs (ap (λ b. is_some (cond b (reserved doc slot) slot)) (export_spot x uri n t m is))
  | inr more ↦ reserved_where_exported doc uri n t m (cond (is_spot x.name (x.type_id.0, uri) n (t, uri)) (reserved doc slot) slot) xs more
]

-- ---- what is offered is the least node

pub shows_same : (doc : ℕ) (P Q : ℕ → Type 0) (f : Option Target) → ((m : ℕ) → P m → Q m) → ((m : ℕ) → Q m → P m) → Shows doc P f → Shows doc Q f
shows_same doc P Q None to from h = λ m q. h m (from m q)
shows_same doc P Q (Some x) to from h = record { doc_is = h.doc_is; here = to x.node.0 h.here; least = λ m q. h.least m (from m q) }

abbrev Also : (ℕ → Type 0) → ℕ → ℕ → Type 0
Also holds k m = holds m ⊎ (m ≡ k)

min_of : (holds : ℕ → Type 0) (a b : ℕ) → holds a → Also holds b (min a b)
min_of holds a b h = elim (cases_lt b a) [
  | inl less ↦ inr (omega arith)
  | inr up ↦ inl (let e : a ≡ min a b = omega arith in subst holds e h)
]

offered_least : (doc : DocId) (x : Export) (holds : ℕ → Type 0) (s : Slot) → Shows doc.0 holds (filled (Some s)) → Shows doc.0 (Also holds x.node.0) (filled (offered doc x.node (Some s)))
offered_least doc x holds s h = by s.node h
  where
    by : (node : Option NodeId) → Shows doc.0 holds (filled (Some (record { doc = s.doc; node = node }))) → Shows doc.0 (Also holds x.node.0) (filled (offered doc x.node (Some (record { doc = s.doc; node = node }))))
    by None none = record { doc_is = refl; here = inr refl; least = λ m e. elim e [ inl p ↦ absurd (none m p) | inr is ↦ omega arith ] }
    by (Some k) least = record {
      doc_is = refl;
      here = min_of holds k.0 x.node.0 least.here;
      least = λ m e. elim e [ inl p ↦ (let le = least.least m p in omega arith) | inr is ↦ omega arith ];
    }

some_offered : (doc : DocId) (x : Export) (holds : ℕ → Type 0) (slot : Option Slot) → IsSome slot → Shows doc.0 holds (filled slot) → Shows doc.0 (Also holds x.node.0) (filled (offered doc x.node slot))
some_offered doc x holds None there h = absurd (false≢true there)
some_offered doc x holds (Some s) there h = offered_least doc x holds s h

still_some : (doc : DocId) (x : Export) (b : Bool) (slot : Option Slot) → IsSome slot → IsSome (cond b (offered doc x.node slot) slot)
still_some doc x true None e = e
still_some doc x true (Some s) e = refl
still_some doc x false slot e = e

module _ (doc : DocId) (uri : List ℕ) (n : List ℕ) (t : ℕ) where
  abbrev IsIn : List Export → ℕ → Type 0
  IsIn xs m = Contains xs (export_of n t m)

  offer_one : (x : Export) (holds : ℕ → Type 0) (slot : Option Slot) (b : Bool) → is_spot x.name (x.type_id.0, uri) n (t, uri) ≡ b → (x ≡ export_of n t x.node.0 → IsSome slot)
      → Shows doc.0 holds (filled slot) → Shows doc.0 (λ m. holds m ⊎ (x ≡ export_of n t m)) (filled (cond b (offered doc x.node slot) slot))
  offer_one x holds slot true e there h =
      shows_same doc.0 (Also holds x.node.0) (λ m. holds m ⊎ (x ≡ export_of n t m)) (filled (offered doc x.node slot))
      (λ m a. elim a [ inl p ↦ inl p | inr is ↦ inr (spot_export x uri n t e ∙ ap (export_of n t) (sym is)) ])
      (λ m a. elim a [ inl p ↦ inl p | inr is ↦ inr (ap (λ (y : Export). y.node.0) (sym is)) ])
      (some_offered doc x holds slot (there (spot_export x uri n t e)) h)
  offer_one x holds slot false e there h =
      shows_same doc.0 holds (λ m. holds m ⊎ (x ≡ export_of n t m)) (filled slot) (λ m p. inl p)
      (λ m a. elim a [ inl p ↦ p | inr is ↦ absurd (false≢true (sym e ∙ export_spot x uri n t m is)) ]) h

  offer_more : (xs : List Export) (holds : ℕ → Type 0) (slot : Option Slot) → ((m : ℕ) → IsIn xs m → IsSome slot) → Shows doc.0 holds (filled slot)
      → Shows doc.0 (λ m. holds m ⊎ IsIn xs m) (filled (turned (λ x. offered doc x.node) uri n (t, uri) slot xs))
  unfolding turned
  offer_more [] holds slot there h =
      shows_same doc.0 holds (λ m. holds m ⊎ IsIn [] m) (filled slot) (λ m p. inl p) (λ m a. elim a [ inl p ↦ p | inr none ↦ absurd (none_contained _ none) ]) h
  offer_more (x ∷ xs) holds slot there h =
      let one = offer_one x holds slot (is_spot x.name (x.type_id.0, uri) n (t, uri)) refl (λ is. there x.node.0 (contains_first x xs (export_of n t x.node.0) is)) h in
      shows_same doc.0 (λ m. (holds m ⊎ (x ≡ export_of n t m)) ⊎ IsIn xs m) (λ m. holds m ⊎ IsIn (x ∷ xs) m) _
      (λ m a. elim a [
        | inl b ↦ elim b [ inl p ↦ inl p | inr is ↦ inr (contains_first x xs (export_of n t m) is) ]
        | inr more ↦ inr (contains_more x xs (export_of n t m) more)
      ])
      (λ m a. elim a [
        | inl p ↦ inl (inl p)
        | inr c ↦ elim (contains_cases x xs (export_of n t m) c) [ inl is ↦ inl (inr is) | inr more ↦ inr more ]
      ])
      (offer_more xs (λ m. holds m ⊎ (x ≡ export_of n t m)) (cond (is_spot x.name (x.type_id.0, uri) n (t, uri)) (offered doc x.node slot) slot)
      (λ m c. still_some doc x (is_spot x.name (x.type_id.0, uri) n (t, uri)) slot (there m (contains_more x xs (export_of n t m) c))) one)

  -- in a slot that was free all exports of the document show
  pub offered_shows : (xs : List Export) (slot : Option Slot) → ((m : ℕ) → IsIn xs m → IsSome slot) → filled slot ≡ None → Shows doc.0 (IsIn xs) (filled (turned (λ x. offered doc x.node) uri n (t, uri) slot xs))
  offered_shows xs slot there free =
      shows_same doc.0 (λ m. ⊥ ⊎ IsIn xs m) (IsIn xs) _ (λ m a. elim a [ inl p ↦ absurd p | inr c ↦ c ]) (λ m c. inr c)
      (offer_more xs (λ m. ⊥) slot there (subst (Shows doc.0 (λ m. ⊥)) (sym free) (λ m p. p)))
