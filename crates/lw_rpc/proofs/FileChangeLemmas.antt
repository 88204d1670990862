-- The change of a file that a value is, is the one that its shape gives.
use Rattle.std.proofs.Common.{◌≡◌, ◌==◌, ℕ, List, Bool, true, false, codes, if◌then◌else◌, Option, Some, None, option_and_then, refl, ap, subst}
use Rattle.std.proofs.lemmas.Bool.{eqb-true}
use Rattle.serde_json.specs.Data.{Data, unsigned, negative, float, null, boolean, number, string, array, object}
use Rattle.serde_json.specs.Find.{get}
use Rattle.lw_rpc.specs.Causes.{number_of_kind, IsFileChange}
use Rattle.lw_rpc.specs.FileChangeParams.{kind_by, kind_of, done_to, file_change_of}
use Rattle.lw_rpc.specs.declared.file_change.FileChange.{FileChange}
use Rattle.lw_rpc.specs.declared.file_change.FileChangeKind.{FileChangeKind}
use Rattle.lw_rpc.specs.declared.file_change.FileChangeKind.TheVariants.{Created, Changed, Deleted}
use Rattle.lw_rpc.proofs.Found.{str_of}

-- ---- from the rules to the shape

kind_by-number_of_kind : (kind : FileChangeKind) → kind_by (number_of_kind kind) ≡ Some kind
kind_by-number_of_kind Created = refl
kind_by-number_of_kind Changed = refl
kind_by-number_of_kind Deleted = refl

pub file_change_of-IsFileChange : (d : Data) (change : FileChange) → IsFileChange d change → file_change_of d ≡ Some change
file_change_of-IsFileChange d change is = rw (is.has_uri, is.has_type, kind_by-number_of_kind change.kind) refl

-- ---- from the shape to the rules

kind_by-parts : (n : ℕ) (kind : FileChangeKind) (one two three : Bool) → (n == 1) ≡ one → (n == 2) ≡ two → (n == 3) ≡ three
    → (if one then Some Created else (if two then Some Changed else (if three then Some Deleted else None))) ≡ Some kind → n ≡ number_of_kind kind
kind_by-parts n kind true two three a b c same = let e : Created ≡ kind = cc in subst (λ own. n ≡ number_of_kind own) e (eqb-true n 1 a)
kind_by-parts n kind false true three a b c same = let e : Changed ≡ kind = cc in subst (λ own. n ≡ number_of_kind own) e (eqb-true n 2 b)
kind_by-parts n kind false false true a b c same = let e : Deleted ≡ kind = cc in subst (λ own. n ≡ number_of_kind own) e (eqb-true n 3 c)
kind_by-parts n kind false false false a b c same = absurd (cc)

kind_of-parts : (d : Data) (kind : FileChangeKind) → kind_of d ≡ Some kind → d ≡ number (unsigned (number_of_kind kind))
kind_of-parts null kind same = absurd (cc)
kind_of-parts (boolean b) kind same = absurd (cc)
kind_of-parts (number (unsigned n)) kind same = ap (λ k. number (unsigned k)) (kind_by-parts n kind _ _ _ refl refl refl same)
kind_of-parts (number (negative z)) kind same = absurd (cc)
kind_of-parts (number (float x)) kind same = absurd (cc)
kind_of-parts (string s) kind same = absurd (cc)
kind_of-parts (array items) kind same = absurd (cc)
kind_of-parts (object _) kind same = absurd (cc)

has_kind : (found : Option Data) (kind : FileChangeKind) → option_and_then kind_of found ≡ Some kind → found ≡ Some (number (unsigned (number_of_kind kind)))
has_kind (Some w) kind same = ap Some (kind_of-parts w kind same)
has_kind None kind same = absurd (cc)

done_to-parts : (uri : Option (List ℕ)) (kind : Option FileChangeKind) (change : FileChange) → done_to uri kind ≡ Some change → (uri ≡ Some change.uri) × (kind ≡ Some change.kind)
done_to-parts (Some uri) (Some kind) change same = let e : record { uri = uri; kind = kind } ≡ change = cc in (ap (λ (c : FileChange). Some c.uri) e, ap (λ (c : FileChange). Some c.kind) e)
done_to-parts (Some uri) None change same = absurd (cc)
done_to-parts None kind change same = absurd (cc)

pub IsFileChange-file_change_of : (d : Data) (change : FileChange) → file_change_of d ≡ Some change → IsFileChange d change
IsFileChange-file_change_of d change same =
    let parts = done_to-parts _ _ change same in
    record { has_uri = str_of _ _ parts.0; has_type = has_kind (get (codes "type") d) change.kind parts.1 }
