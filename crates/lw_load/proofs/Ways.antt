-- How far a walk has come: which files were loaded, and what waits.
use Rattle.std.proofs.Common.{ℕ, zero, suc, ◌≡◌, ◌≢◌, ◌+◌, ◌<◌, ◌≤◌, List, [], ◌∷◌, ◌++◌, Option, Some, None, IfSome, Contains, length, map, reverse, get_or, refl, sym, ap, ◌∙◌, subst, arith}
use Rattle.std.proofs.lemmas.List.{map-append, reverse-append, reverse-reverse}
use Rattle.std.proofs.lemmas.List.Sums.{sum_by_push}
use Rattle.std.proofs.lemmas.Simd.{map-map}
use Rattle.lw_grammar.specs.declared.grammar.Grammar.{Grammar}
use Rattle.lw_grammar.specs.declared.grammar.Import.{Import}
use Rattle.lw_grammar.specs.Size.{size}
use Rattle.lw_gramread.specs.Syntax.{Syntax, bare_grammar}
use Rattle.lw_load.specs.declared.limits.TheConstants.{LARGEST_GRAMMAR}
use Rattle.lw_load.specs.declared.fault.LoadFault.{LoadFault}
use Rattle.lw_load.specs.declared.fault.LoadFault.TheVariants.{Absent, NotUtf8, TooLong, StoreFault, Read, TooLarge, NoMemory}
use Rattle.lw_load.specs.declared.loader.Loaded.{Loaded}
use Rattle.lw_load.specs.declared.opening.Opened.{Opened}
use Rattle.lw_load.specs.declared.walk.Walk.{Walk}
use Rattle.lw_load.specs.Paths.{import_path}
use Rattle.lw_load.specs.Loading.{Files, Address, root_address, import_address, LoadedFile, imports_of, IsAmong, size_of_all, LoadsNext, with_file, with_files, as_one, Loads}
use Rattle.lw_load.specs.LoadFaults.{ArrivesAt, StopsAt, Stops, IsOfFiles}
use Rattle.lw_load.specs.Opening.{IsFound, CannotLoad}
use Rattle.lw_load.specs.Walking.{Adds, BeginsWalk, Goes}
use Rattle.lw_load.proofs.Denied.{same_text}
use Rattle.lw_load.proofs.Routes.{Leads, leads_root, leads_known, leads_opened, leads_end, leads_only, leads_next, leads_nowhere}

-- the addresses of paths that wait, the next one first
abbrev pub addresses : List (List ℕ) → List Address
addresses waiting = map import_address (reverse waiting)

-- what was loaded, as the walk has it
pub record IsAfter (loaded : List LoadedFile) (walk : Walk) : Type 0 where
  pub whole : walk.whole ≡ as_one loaded
  pub texts : walk.texts ≡ map (λ f. f.text) loaded
  pub seen : walk.seen.keys ≡ map (λ f. f.address.compared) loaded
  pub size : walk.size ≡ size_of_all loaded

-- the walk leads where the root does
pub record IsOnWay (files : Files) (root : List ℕ) (walk : Walk) : Type 0 where
  pub first : LoadedFile
  pub more : List LoadedFile
  pub after : IsAfter (first ∷ more) walk
  pub leads : Leads files root (first ∷ more) (addresses walk.waiting.items)

-- the next path is taken from those that wait
pub record Takes (old : Walk) (path : List ℕ) (new : Walk) : Type 0 where
  pub whole : new.whole ≡ old.whole
  pub texts : new.texts ≡ old.texts
  pub seen : new.seen.keys ≡ old.seen.keys
  pub size : new.size ≡ old.size
  pub waiting : old.waiting.items ≡ new.waiting.items ++ path ∷ []

-- ---- lists

-- the last of the paths comes first
addresses_last : (waiting : List (List ℕ)) (path : List ℕ) → addresses (waiting ++ path ∷ []) ≡ import_address path ∷ addresses waiting
addresses_last waiting path = ap (map import_address) (reverse-append waiting (path ∷ []))

addresses_more : (waiting paths : List (List ℕ)) → addresses (waiting ++ reverse paths) ≡ map import_address paths ++ addresses waiting
addresses_more waiting paths =
    ap (map import_address) (reverse-append waiting (reverse paths) ∙ ap (λ ps. ps ++ reverse waiting) (reverse-reverse paths)) ∙
    map-append import_address paths (reverse waiting)

with_files_last : (g : Grammar) (fs : List LoadedFile) (f : LoadedFile) → with_files g (fs ++ f ∷ []) ≡ with_file (with_files g fs) f.address.path f.says
with_files_last g [] f = refl
with_files_last g (h ∷ hs) f = with_files_last (with_file g h.address.path h.says) hs f

-- a path that was seen is that of a file that was loaded
among_at : (fs : List LoadedFile) (address : Address) (k : ℕ) → k < length (map (λ f. f.address.compared) fs) →
    get_or (map (λ f. f.address.compared) fs) k address.compared ≡ address.compared → IsAmong fs address
among_at [] address k h e = absurd (omega (arith, h))
among_at (f ∷ fs) address zero h e = (zero, f, omega arith, refl, e)
among_at (f ∷ fs) address (suc k) h e = let r = among_at fs address k (omega (arith, h)) e in (suc r.0, r.1, omega (arith, r.2), r.3, r.4)

among_seen : (fs : List LoadedFile) (address : Address) → Contains (map (λ f. f.address.compared) fs) address.compared → IsAmong fs address
among_seen fs address h = among_at fs address h.0 h.1 h.2

-- and back
seen_at : (fs : List LoadedFile) (address : Address) (k : ℕ) (f : LoadedFile) → k < length fs → get_or fs k f ≡ f → f.address.compared ≡ address.compared →
    (k < length (map (λ g. g.address.compared) fs)) × (get_or (map (λ g. g.address.compared) fs) k address.compared ≡ address.compared)
seen_at [] address k f h e same = absurd (omega (arith, h))
seen_at (g ∷ gs) address zero f h e same = (omega arith, ap (λ x. x.address.compared) e ∙ same)
seen_at (g ∷ gs) address (suc k) f h e same = let r = seen_at gs address k f (omega (arith, h)) e same in (omega (arith, r.0), r.1)

seen_among : (fs : List LoadedFile) (address : Address) → IsAmong fs address → Contains (map (λ f. f.address.compared) fs) address.compared
seen_among fs address h = let r = seen_at fs address h.0 h.1 h.2 h.3 h.4 in (h.0, r.0, r.1)

-- ---- files put in

-- the file as it is loaded
abbrev as_loaded : Address → Opened → LoadedFile
as_loaded address file = record { address = address; text = file.text; says = file.says }

-- its imports come before what waited
imports_wait : (address : Address) (file : Opened) → file.path ≡ address.path → (waiting : List (List ℕ)) →
    addresses (waiting ++ reverse (map (λ i. import_path file.path i.path) file.says.imports)) ≡ imports_of (as_loaded address file) ++ addresses waiting
imports_wait address file same waiting =
    addresses_more waiting (map (λ (i : Import). import_path file.path i.path) file.says.imports) ∙
    ap (λ others. others ++ addresses waiting)
    (map-map import_address (λ (i : Import). import_path file.path i.path) file.says.imports ∙
    ap (λ p. map (λ (i : Import). import_address (import_path p i.path)) file.says.imports) same)

abbrev file_of : Address → List ℕ → Grammar → LoadedFile
file_of address text says = record { address = address; text = text; says = says }

same_file : {f g : LoadedFile} → g.address ≡ f.address → g.text ≡ f.text → g.says ≡ f.says → g ≡ f
same_file {f = f} {g = g} a t s =
    ap (λ address. file_of address g.text g.says) a ∙ ap (λ text. file_of f.address text g.says) t ∙ ap (λ says. file_of f.address f.text says) s

-- how large they are with it
size_with : (loaded : List LoadedFile) (f : LoadedFile) → size_of_all (loaded ++ f ∷ []) ≡ size_of_all loaded + size f.says
size_with loaded f = sum_by_push (λ g. size g.says) loaded f

-- it is opened, and nothing else at its address
module _ (files : Files) (loaded : List LoadedFile) (address : Address) (file : Opened) (fresh : ¬ IsAmong loaded address) (is : IsFound (Some files) address.path file) where
  is_opened : size_of_all loaded + size file.says ≤ LARGEST_GRAMMAR → LoadsNext files loaded address (as_loaded address file)
  is_opened fits = record {
    fresh = fresh;
    found = refl;
    holds = is.holds;
    says = is.says.says;
    fits = subst (λ n. n ≤ LARGEST_GRAMMAR) (sym (size_with loaded (as_loaded address file))) fits;
  }

  opened_only : (g : LoadedFile) → LoadsNext files loaded address g → g ≡ as_loaded address file
  opened_only g o =
      let text = same_text files address.path file.text g.text is.holds o.holds in
      same_file o.found text (is.says.only g.says (subst (λ t. Syntax t g.says) text o.says))

-- what the walk has then
module _ (first : LoadedFile) (more : List LoadedFile) (address : Address) (old new : Walk) (file : Opened) (same : file.path ≡ address.path) (adds : Adds old file new)
    (seen : new.seen.keys ≡ old.seen.keys ++ address.compared ∷ []) where
  after_added : IsAfter (first ∷ more) old → IsAfter ((first ∷ more) ++ as_loaded address file ∷ []) new
  after_added a = record {
    whole =
        adds.whole ∙ ap (λ g. with_file g file.path file.says) a.whole ∙ ap (λ p. with_file (as_one (first ∷ more)) p file.says) same ∙
        sym (with_files_last (with_file (bare_grammar first.says.name []) first.address.path first.says) more (as_loaded address file));
    texts = adds.texts ∙ ap (λ ts. ts ++ file.text ∷ []) a.texts ∙ sym (map-append (λ (f : LoadedFile). f.text) (first ∷ more) (as_loaded address file ∷ []));
    seen = seen ∙ ap (λ ps. ps ++ address.compared ∷ []) a.seen ∙ sym (map-append (λ (f : LoadedFile). f.address.compared) (first ∷ more) (as_loaded address file ∷ []));
    size = adds.size ∙ ap (λ n. n + size file.says) a.size ∙ sym (size_with (first ∷ more) (as_loaded address file));
  }

-- ---- faults

stops_at : (files : Files) (root : List ℕ) (found : LoadFault) → (found ≢ NoMemory → StopsAt files root found) → Stops files root found
stops_at files root NoMemory h = tt
stops_at files root (Absent p) h = h (λ e. cc e)
stops_at files root (NotUtf8 p) h = h (λ e. cc e)
stops_at files root (TooLong p) h = h (λ e. cc e)
stops_at files root (StoreFault p) h = h (λ e. cc e)
stops_at files root (Read p why at) h = h (λ e. cc e)
stops_at files root (TooLarge p) h = h (λ e. cc e)

is_other : (found : LoadFault) → IsOfFiles found → found ≢ NoMemory
is_other found told = λ e. subst IsOfFiles e told

-- no file is opened where none can be loaded
cannot_open : (files : Files) (loaded : List LoadedFile) (address : Address) (before : ℕ) (found : LoadFault) → before ≡ size_of_all loaded →
    CannotLoad files before address.path found → IsOfFiles found → (f : LoadedFile) → ¬ LoadsNext files loaded address f
cannot_open files loaded address before found same why told f = λ o.
    omega (arith, same, why.large told f.text f.says o.holds o.says, size_with loaded f, o.fits)

abbrev grammar_with : Grammar → List (List ℕ) → Loaded
grammar_with g texts = record { grammar = g; texts = texts }

same_loaded : {a : Loaded} {g : Grammar} {texts : List (List ℕ)} → a.grammar ≡ g → a.texts ≡ texts → a ≡ record { grammar = g; texts = texts }
same_loaded {a = a} {g = g} e h = ap (λ x. grammar_with x a.texts) e ∙ ap (λ x. grammar_with g x) h

-- ---- the walk

-- the root was loaded
way_begins : (files : Files) (root : List ℕ) (walk : Walk) → BeginsWalk (Some files) root walk → IsOnWay files root walk
way_begins files root walk b = record {
  first = f;
  more = [];
  after = record {
    whole = b.adds.whole ∙ ap (λ g. with_file g b.file.path b.file.says) b.whole ∙ ap (λ p. with_file (bare_grammar b.file.says.name []) p b.file.says) b.is.found;
    texts = b.adds.texts ∙ ap (λ ts. ts ++ b.file.text ∷ []) b.texts;
    seen = b.seen;
    size = size_first;
  };
  leads = subst (Leads files root (f ∷ [])) waits (leads_opened files opens (opened_only files [] address b.file none b.is) (leads_root files root));
}
  where
    address : Address
    address = root_address root

    f : LoadedFile
    f = as_loaded address b.file

    none : ¬ IsAmong [] address
    none = λ h. omega (arith, h.2)

    size_first : walk.size ≡ size_of_all (f ∷ [])
    size_first = omega (arith, b.adds.size, b.size, size_with [] f)

    opens : LoadsNext files [] address f
    opens = is_opened files [] address b.file none b.is (omega (arith, b.adds.size, b.size, b.adds.fits))

    waits : imports_of f ++ [] ≡ addresses walk.waiting.items
    waits = sym (ap addresses (b.adds.waiting ∙ ap (λ ps. ps ++ reverse (map (λ i. import_path b.file.path i.path) b.file.says.imports)) b.waiting) ∙ imports_wait address b.file b.is.found [])

-- a path was taken from those that wait, and looked at
module _ (files : Files) (root path : List ℕ) (old now : Walk) (way : IsOnWay files root old) (takes : Takes old path now) where
  leads_on : Leads files root (way.first ∷ way.more) (import_address path ∷ addresses now.waiting.items)
  leads_on = subst (Leads files root (way.first ∷ way.more)) (ap addresses takes.waiting ∙ addresses_last now.waiting.items path) way.leads

  after_taken : IsAfter (way.first ∷ way.more) now
  after_taken = record {
    whole = takes.whole ∙ way.after.whole;
    texts = takes.texts ∙ way.after.texts;
    seen = takes.seen ∙ way.after.seen;
    size = takes.size ∙ way.after.size;
  }

  fresh_taken : ¬ Contains now.seen.keys path → ¬ IsAmong (way.first ∷ way.more) (import_address path)
  fresh_taken new = λ h. new (subst (λ ps. Contains ps path) (sym after_taken.seen) (seen_among (way.first ∷ way.more) (import_address path) h))

  way_goes : (new : Walk) → Goes (Some files) path now new → IsOnWay files root new
  way_goes new (Goes.known had same) = record {
    first = way.first;
    more = way.more;
    after = record {
      whole = same.whole ∙ after_taken.whole;
      texts = same.texts ∙ after_taken.texts;
      seen = same.seen ∙ after_taken.seen;
      size = same.size ∙ after_taken.size;
    };
    leads =
        subst (λ ps. Leads files root (way.first ∷ way.more) (addresses ps)) (sym same.waiting)
        (leads_known files (among_seen (way.first ∷ way.more) (import_address path) (subst (λ ps. Contains ps path) after_taken.seen had)) leads_on);
  }
  way_goes new (Goes.opened file first is adds seen) = record {
    first = way.first;
    more = way.more ++ as_loaded (import_address path) file ∷ [];
    after = after_added way.first way.more (import_address path) now new file is.found adds seen after_taken;
    leads =
        subst (Leads files root ((way.first ∷ way.more) ++ as_loaded (import_address path) file ∷ [])) waits
        (leads_opened files opens (opened_only files (way.first ∷ way.more) (import_address path) file (fresh_taken first) is) leads_on);
  }
    where
      opens : LoadsNext files (way.first ∷ way.more) (import_address path) (as_loaded (import_address path) file)
      opens = is_opened files (way.first ∷ way.more) (import_address path) file (fresh_taken first) is (omega (arith, adds.size, adds.fits, after_taken.size))

      waits : imports_of (as_loaded (import_address path) file) ++ addresses now.waiting.items ≡ addresses new.waiting.items
      waits = sym (ap addresses adds.waiting ∙ imports_wait (import_address path) file is.found now.waiting.items)

  -- or its file cannot be loaded
  way_stops : (found : LoadFault) → (found ≢ NoMemory → ¬ Contains now.seen.keys path) → CannotLoad files now.size path found → Stops files root found
  way_stops found first why =
      stops_at files root found
      (λ other. record {
        loaded = way.first ∷ way.more;
        address = import_address path;
        comes = leads_next files (fresh_taken (first other)) leads_on;
        fails = why.fails other (way.first ∷ way.more) (sym after_taken.size);
      })

  way_nowhere : (found : LoadFault) → (found ≢ NoMemory → ¬ Contains now.seen.keys path) → CannotLoad files now.size path found → IsOfFiles found →
      (other : Loaded) → ¬ Loads files root other
  way_nowhere found first why told other = λ loads.
      leads_nowhere files (fresh_taken (first (is_other found told)))
      (cannot_open files (way.first ∷ way.more) (import_address path) now.size found after_taken.size why told) leads_on loads.loaded loads.visits

-- the root's file cannot be loaded
pub root_stops : (files : Files) (root : List ℕ) (found : LoadFault) → CannotLoad files 0 root found → Stops files root found
root_stops files root found why =
    stops_at files root found
    (λ other. record { loaded = []; address = root_address root; comes = ArrivesAt.next (λ h. omega (arith, h.2)); fails = why.fails other [] refl })

pub root_nowhere : (files : Files) (root : List ℕ) (found : LoadFault) → CannotLoad files 0 root found → IsOfFiles found → (other : Loaded) → ¬ Loads files root other
root_nowhere files root found why told other = λ loads.
    leads_nowhere files (λ h. omega (arith, h.2)) (cannot_open files [] (root_address root) 0 found refl why told) (leads_root files root) loads.loaded loads.visits

-- nothing waits any more
module _ (files : Files) (root : List ℕ) (walk : Walk) (way : IsOnWay files root walk) (over : walk.waiting.items ≡ []) where
  leads_over : Leads files root (way.first ∷ way.more) []
  leads_over = subst (λ ps. Leads files root (way.first ∷ way.more) (addresses ps)) over way.leads

  pub way_ends : Loads files root (record { grammar = walk.whole; texts = walk.texts })
  way_ends = record { loaded = way.first ∷ way.more; visits = leads_end files leads_over; grammar = way.after.whole; texts = way.after.texts }

  pub way_only : (other : Loaded) → Loads files root other → other ≡ record { grammar = walk.whole; texts = walk.texts }
  way_only other loads =
      let same = leads_only files leads_over loads.loaded loads.visits in
      same_loaded (loads.grammar ∙ ap as_one same ∙ sym way.after.whole) (loads.texts ∙ ap (map (λ f. f.text)) same ∙ sym way.after.texts)

-- ---- where the store may tell its files

pub told_begins : (told : Option Files) (root : List ℕ) (walk : Walk) → BeginsWalk told root walk → IfSome told (λ files. IsOnWay files root walk)
told_begins None root walk b = tt
told_begins (Some files) root walk b = way_begins files root walk b

pub told_goes : (told : Option Files) (root path : List ℕ) (old now new : Walk) → IfSome told (λ files. IsOnWay files root old) → Takes old path now → Goes told path now new →
    IfSome told (λ files. IsOnWay files root new)
told_goes None root path old now new way takes goes = tt
told_goes (Some files) root path old now new way takes goes = way_goes files root path old now way takes new goes

pub told_stops : (told : Option Files) (root path : List ℕ) (old now : Walk) (found : LoadFault) → IfSome told (λ files. IsOnWay files root old) → Takes old path now →
    (found ≢ NoMemory → ¬ Contains now.seen.keys path) → IfSome told (λ files. CannotLoad files now.size path found) → IfSome told (λ files. Stops files root found)
told_stops None root path old now found way takes first why = tt
told_stops (Some files) root path old now found way takes first why = way_stops files root path old now way takes found first why

pub told_nowhere : (told : Option Files) (root path : List ℕ) (old now : Walk) (found : LoadFault) → IfSome told (λ files. IsOnWay files root old) → Takes old path now →
    (found ≢ NoMemory → ¬ Contains now.seen.keys path) → IfSome told (λ files. CannotLoad files now.size path found) →
    IfSome told (λ files. IsOfFiles found → (other : Loaded) → ¬ Loads files root other)
told_nowhere None root path old now found way takes first why = tt
told_nowhere (Some files) root path old now found way takes first why = way_nowhere files root path old now way takes found first why
