-- One list of addresses that wait stands for visits within visits.
use Rattle.std.proofs.Common.{ℕ, ◌≡◌, List, [], ◌∷◌, ◌++◌, ◌⊎◌, inl, inr, refl, subst}
use Rattle.lw_load.specs.Loading.{Files, Address, LoadedFile, root_address, imports_of, IsAmong, LoadsNext, Visits}
use Rattle.lw_load.specs.LoadFaults.{ArrivesAt}

module _ (files : Files) where
  -- visits in turn
  visits_join : {xs ys : List Address} {before inside after : List LoadedFile} → Visits files before xs inside → Visits files inside ys after →
      Visits files before (xs ++ ys) after
  visits_join Visits.none q = q
  visits_join (Visits.known h p) q = Visits.known h (visits_join p q)
  visits_join (Visits.opened o p r) q = Visits.opened o p (visits_join r q)

  -- and back
  visits_split : (xs ys : List Address) {before after : List LoadedFile} → Visits files before (xs ++ ys) after →
      (inside : List LoadedFile) × Visits files before xs inside × Visits files inside ys after
  visits_split [] ys p = (_, Visits.none, p)
  visits_split (x ∷ xs) ys (Visits.known h p) = let r = visits_split xs ys p in (r.0, Visits.known h r.1, r.2)
  visits_split (x ∷ xs) ys (Visits.opened o p q) = let r = visits_split xs ys q in (r.0, Visits.opened o p r.1, r.2)

  -- what comes next among the first addresses, or behind them
  comes_split : (xs ys : List Address) {before now : List LoadedFile} {at : Address} → ArrivesAt files before (xs ++ ys) now at →
      ArrivesAt files before xs now at ⊎ ((inside : List LoadedFile) × Visits files before xs inside × ArrivesAt files inside ys now at)
  comes_split [] ys p = inr (_, Visits.none, p)
  comes_split (x ∷ xs) ys (ArrivesAt.next fresh) = inl (ArrivesAt.next fresh)
  comes_split (x ∷ xs) ys (ArrivesAt.known h p) =
      elim (comes_split xs ys p) [ inl q ↦ inl (ArrivesAt.known h q) | inr q ↦ inr (q.0, Visits.known h q.1, q.2) ]
  comes_split (x ∷ xs) ys (ArrivesAt.within o p) = inl (ArrivesAt.within o p)
  comes_split (x ∷ xs) ys (ArrivesAt.behind o v p) =
      elim (comes_split xs ys p) [ inl q ↦ inl (ArrivesAt.behind o v q) | inr q ↦ inr (q.0, Visits.opened o v q.1, q.2) ]

  -- what was loaded, and the addresses that wait, come to what the root's address comes to
  pub record Leads (root : List ℕ) (loaded : List LoadedFile) (waiting : List Address) : Type 0 where
    pub into : (after : List LoadedFile) → Visits files loaded waiting after → Visits files [] (root_address root ∷ []) after
    pub onto : (after : List LoadedFile) → Visits files [] (root_address root ∷ []) after → Visits files loaded waiting after
    pub comes : (now : List LoadedFile) (at : Address) → ArrivesAt files loaded waiting now at → ArrivesAt files [] (root_address root ∷ []) now at

  pub leads_root : (root : List ℕ) → Leads root [] (root_address root ∷ [])
  leads_root root = record { into = λ after v. v; onto = λ after v. v; comes = λ now at c. c }

  -- no other file is opened at the address
  abbrev pub OpensOnly : List LoadedFile → Address → LoadedFile → Type 0
  OpensOnly loaded address f = (g : LoadedFile) → LoadsNext files loaded address g → g ≡ f

  pass_known : {loaded after : List LoadedFile} {address : Address} {others : List Address} → IsAmong loaded address →
      Visits files loaded (address ∷ others) after → Visits files loaded others after
  pass_known among (Visits.known h v) = v
  pass_known among (Visits.opened o v w) = absurd (o.fresh among)

  -- a file that was loaded is passed
  pub leads_known : {root : List ℕ} {loaded : List LoadedFile} {address : Address} {others : List Address} → IsAmong loaded address →
      Leads root loaded (address ∷ others) → Leads root loaded others
  leads_known among leads = record {
    into = λ after v. leads.into after (Visits.known among v);
    onto = λ after v. pass_known among (leads.onto after v);
    comes = λ now at c. leads.comes now at (ArrivesAt.known among c);
  }

  pass_opened : {loaded after : List LoadedFile} {address : Address} {others : List Address} {f : LoadedFile} → ¬ IsAmong loaded address → OpensOnly loaded address f →
      Visits files loaded (address ∷ others) after → Visits files (loaded ++ f ∷ []) (imports_of f ++ others) after
  pass_opened fresh only (Visits.known h v) = absurd (fresh h)
  pass_opened {loaded = loaded} {after = after} {others = others} fresh only (Visits.opened {inside = inside} {f = g} o v w) =
      subst (λ h. Visits files (loaded ++ h ∷ []) (imports_of h ++ others) after) (only g o) (visits_join v w)

  comes_opened : {loaded now : List LoadedFile} {address at : Address} {others : List Address} {f : LoadedFile} → LoadsNext files loaded address f →
      ArrivesAt files (loaded ++ f ∷ []) (imports_of f ++ others) now at → ArrivesAt files loaded (address ∷ others) now at
  comes_opened {others = others} {f = f} opens c =
      elim (comes_split (imports_of f) others c) [ inl q ↦ ArrivesAt.within opens q | inr q ↦ ArrivesAt.behind opens q.1 q.2 ]

  -- a file that was opened is loaded, and its imports come before what waited
  pub leads_opened : {root : List ℕ} {loaded : List LoadedFile} {address : Address} {others : List Address} {f : LoadedFile} → LoadsNext files loaded address f →
      OpensOnly loaded address f → Leads root loaded (address ∷ others) → Leads root (loaded ++ f ∷ []) (imports_of f ++ others)
  leads_opened {others = others} {f = f} opens only leads = record {
    into = λ after v. let r = visits_split (imports_of f) others v in leads.into after (Visits.opened opens r.1 r.2);
    onto = λ after v. pass_opened opens.fresh only (leads.onto after v);
    comes = λ now at c. leads.comes now at (comes_opened opens c);
  }

  -- where nothing waits all is loaded
  pub leads_end : {root : List ℕ} {loaded : List LoadedFile} → Leads root loaded [] → Visits files [] (root_address root ∷ []) loaded
  leads_end {loaded = loaded} leads = leads.into loaded Visits.none

  end_only : {loaded after : List LoadedFile} → Visits files loaded [] after → after ≡ loaded
  end_only Visits.none = refl

  -- and nothing else is
  pub leads_only : {root : List ℕ} {loaded : List LoadedFile} → Leads root loaded [] → (after : List LoadedFile) → Visits files [] (root_address root ∷ []) after → after ≡ loaded
  leads_only leads after v = end_only (leads.onto after v)

  -- a file that was not loaded comes next
  pub leads_next : {root : List ℕ} {loaded : List LoadedFile} {address : Address} {others : List Address} → ¬ IsAmong loaded address → Leads root loaded (address ∷ others) →
      ArrivesAt files [] (root_address root ∷ []) loaded address
  leads_next fresh leads = leads.comes _ _ (ArrivesAt.next fresh)

  stuck : {loaded after : List LoadedFile} {address : Address} {others : List Address} → ¬ IsAmong loaded address → ((f : LoadedFile) → ¬ LoadsNext files loaded address f) →
      ¬ Visits files loaded (address ∷ others) after
  stuck fresh none (Visits.known h v) = fresh h
  stuck fresh none (Visits.opened {f = f} o v w) = none f o

  -- and where it cannot be opened nothing is loaded
  pub leads_nowhere : {root : List ℕ} {loaded : List LoadedFile} {address : Address} {others : List Address} → ¬ IsAmong loaded address →
      ((f : LoadedFile) → ¬ LoadsNext files loaded address f) → Leads root loaded (address ∷ others) → (after : List LoadedFile) →
      ¬ Visits files [] (root_address root ∷ []) after
  leads_nowhere fresh none leads after = λ v. stuck fresh none (leads.onto after v)
