-- What a walk keeps whatever the store tells: sizes, places, and how many paths can come yet.
use Rattle.std.proofs.Common.{ℕ, ◌≡◌, ◌+◌, ◌-◌, ◌<◌, ◌≤◌, List, [], ◌∷◌, ◌++◌, Option, length, map, reverse, sym, ap, ◌∙◌, subst, arith, length-append}
use Rattle.std.proofs.lemmas.List.{length-map, length-reverse}
use Rattle.lw_grammar.specs.declared.grammar.Grammar.{Grammar}
use Rattle.lw_grammar.specs.Size.{size}
use Rattle.lw_load.specs.declared.limits.TheConstants.{LARGEST_GRAMMAR}
use Rattle.lw_load.specs.declared.opening.Opened.{Opened}
use Rattle.lw_load.specs.declared.walk.Walk.{Walk}
use Rattle.lw_load.specs.Paths.{import_path}
use Rattle.lw_load.specs.Loading.{Files, imports_in}
use Rattle.lw_load.specs.Standing.{Stands}
use Rattle.lw_load.specs.Opening.{IsFound}
use Rattle.lw_load.specs.Walking.{Adds, BeginsWalk, Goes}
use Rattle.lw_load.proofs.Grown.{size_grown, stands_grown, stands_bare}
use Rattle.lw_load.proofs.Ways.{Takes}
use Rattle.lw_load.proofs.FileFormed.{text_formed}
use Rattle.lw_load.proofs.JoinFormed.{IsNumbered, numbered_grown, numbered_bare}

-- A path that waits is an import that is counted, and so is each that came but the root.
pub record Keeps (walk : Walk) : Type 0 where
  pub size : walk.size ≡ size walk.whole
  pub fits : walk.size ≤ LARGEST_GRAMMAR
  pub root : 0 < length walk.whole.files
  pub stands : Stands walk.texts walk.whole
  pub formed : IsNumbered walk.whole
  pub room : length walk.whole.files + length walk.waiting.items ≤ length walk.whole.imports + 1

-- how many paths can come yet
abbrev pub paths_left : Walk → ℕ
paths_left walk = (65535 + length walk.waiting.items) - length walk.whole.imports

-- a file was put in
module _ (told : Option Files) (path : List ℕ) (old new : Walk) (file : Opened) (is : IsFound told path file) (adds : Adds old file new) where
  files_added : length new.whole.files ≡ length old.whole.files + 1
  files_added = ap (λ g. length g.files) adds.whole ∙ length-append old.whole.files (file.path ∷ [])

  imports_added : length new.whole.imports ≡ length old.whole.imports + length file.says.imports
  imports_added =
      ap (λ g. length g.imports) adds.whole ∙
      length-append old.whole.imports (imports_in (length old.whole.files) file.path file.says.imports) ∙
      ap (λ n. length old.whole.imports + n)
      (length-map file.says.imports (λ i. record { path = import_path file.path i.path; file = length old.whole.files; span = i.span }))

  waiting_added : length new.waiting.items ≡ length old.waiting.items + length file.says.imports
  waiting_added =
      ap length adds.waiting ∙ length-append old.waiting.items (reverse (map (λ i. import_path file.path i.path) file.says.imports)) ∙
      ap (λ n. length old.waiting.items + n)
      (length-reverse (map (λ i. import_path file.path i.path) file.says.imports) ∙ length-map file.says.imports (λ i. import_path file.path i.path))

  size_added : old.size ≡ size old.whole → new.size ≡ size new.whole
  size_added same = adds.size ∙ ap (λ n. n + size file.says) same ∙ sym (ap size adds.whole ∙ size_grown old.whole file.path file.says)

  stands_added : Stands old.texts old.whole → Stands new.texts new.whole
  stands_added s =
      subst (λ ts. Stands ts new.whole) (sym adds.texts)
      (subst (Stands (old.texts ++ file.text ∷ [])) (sym adds.whole) (stands_grown old.texts file.text old.whole file.path file.says is.short s is.stands))

  formed_added : IsNumbered old.whole → IsNumbered new.whole
  formed_added f =
      subst IsNumbered (sym adds.whole) (numbered_grown old.whole file.path file.says f (text_formed file.text file.says is.says.says))

imports_counted : (g : Grammar) → length g.imports ≤ size g
imports_counted g = omega arith

pub keeps_begins : (told : Option Files) (root : List ℕ) (walk : Walk) → BeginsWalk told root walk → Keeps walk
keeps_begins told root walk b = record {
  size = size_added told root b.empty walk b.file b.is b.adds (b.size ∙ sym (ap size b.whole));
  fits = b.adds.fits;
  root = omega (arith, files_added told root b.empty walk b.file b.is b.adds);
  stands = stands_added told root b.empty walk b.file b.is b.adds
      (subst (λ ts. Stands ts b.empty.whole) (sym b.texts) (subst (Stands []) (sym b.whole) (stands_bare b.file.says.name)));
  formed = formed_added told root b.empty walk b.file b.is b.adds (subst IsNumbered (sym b.whole) (numbered_bare b.file.says.name));
  room = omega (
    arith,
    files_added told root b.empty walk b.file b.is b.adds,
    imports_added told root b.empty walk b.file b.is b.adds,
    waiting_added told root b.empty walk b.file b.is b.adds,
    ap (λ g. length g.files) b.whole,
    ap (λ g. length g.imports) b.whole,
    ap length b.waiting,
  );
}

-- a path was taken from those that wait
module _ (path : List ℕ) (old now : Walk) (keeps : Keeps old) (takes : Takes old path now) where
  was_waiting : length old.waiting.items ≡ length now.waiting.items + 1
  was_waiting = ap length takes.waiting ∙ length-append now.waiting.items (path ∷ [])

  few_imports : length now.whole.imports ≤ 65535
  few_imports = omega (arith, imports_counted now.whole, takes.size, keeps.size, keeps.fits, ap size takes.whole)

  pub keeps_goes : (told : Option Files) (new : Walk) → Goes told path now new → Keeps new
  keeps_goes told new (Goes.known had same) = record {
    size = same.size ∙ takes.size ∙ keeps.size ∙ sym (ap size (same.whole ∙ takes.whole));
    fits = omega (arith, same.size, takes.size, keeps.fits);
    root = omega (arith, keeps.root, ap (λ g. length g.files) (same.whole ∙ takes.whole));
    stands = subst (λ ts. Stands ts new.whole) (sym (same.texts ∙ takes.texts)) (subst (Stands old.texts) (sym (same.whole ∙ takes.whole)) keeps.stands);
    formed = subst IsNumbered (sym (same.whole ∙ takes.whole)) keeps.formed;
    room = omega (arith, was_waiting, keeps.room, ap length same.waiting, ap (λ g. length g.files) (same.whole ∙ takes.whole), ap (λ g. length g.imports) (same.whole ∙ takes.whole));
  }
  keeps_goes told new (Goes.opened file first is adds seen) = record {
    size = size_added told path now new file is adds (takes.size ∙ keeps.size ∙ sym (ap size takes.whole));
    fits = adds.fits;
    root = omega (arith, files_added told path now new file is adds);
    stands = stands_added told path now new file is adds
        (subst (λ ts. Stands ts now.whole) (sym takes.texts) (subst (Stands old.texts) (sym takes.whole) keeps.stands));
    formed = formed_added told path now new file is adds (subst IsNumbered (sym takes.whole) keeps.formed);
    room = omega (
      arith,
      files_added told path now new file is adds,
      imports_added told path now new file is adds,
      waiting_added told path now new file is adds,
      was_waiting,
      keeps.room,
      ap (λ g. length g.files) takes.whole,
      ap (λ g. length g.imports) takes.whole,
    );
  }

  -- fewer can come than before
  pub fewer_left : (told : Option Files) (new : Walk) → Goes told path now new → paths_left new < paths_left old
  fewer_left told new (Goes.known had same) =
      omega (arith, few_imports, was_waiting, ap length same.waiting, ap (λ g. length g.imports) same.whole, ap (λ g. length g.imports) takes.whole)
  fewer_left told new (Goes.opened file first is adds seen) =
      omega (
        arith,
        imports_added told path now new file is adds,
        waiting_added told path now new file is adds,
        was_waiting,
        few_imports,
        ap (λ g. length g.imports) takes.whole,
        imports_counted new.whole,
        (keeps_goes told new (Goes.opened file first is adds seen)).size,
        adds.fits,
      )
