-- What a caller knows of the documents once one came, turned or went.
use Rattle.std.proofs.Common.{◌≡◌, ℕ, List, cond, Option, Some, None, refl, sym, ap, subst, ◌∙◌}
use Rattle.std.specs.FinMap as all
use Rattle.std.specs.FinMap.{get, get-insert}
use Rattle.std.specs.Option.{option_map}
use Rattle.std.specs.Prelude.{IfSome, IfNone}
use Rattle.std.proofs.lemmas.Cmp.{nat_list_cmp_total}
use Rattle.lw_base.specs.declared.numbers.DocId.{DocId}
use Rattle.lw_docs.specs.declared.doc.Doc.{Doc}
use Rattle.lw_docs.specs.Documents.{Numbered, ByAddress, AreNumbered, IsAt, IsHeld, numbered}
use Rattle.lw_docs.proofs.View.{tied_with}

-- what is written at an address stands there
pub at_written : (m : ByAddress) (address : List ℕ) (h : Numbered) → get (all.insert m address h) address ≡ Some h
at_written m address h = get-insert nat_list_cmp_total m address h address ∙ ap (λ b. cond b (Some h) (get m address)) (tied_with address address refl)

-- a document that came has its number
pub came_held : (m n : ByAddress) (d : DocId) (y : Doc) → n ≡ all.insert m y.uri (numbered d y) → IsAt n d y
came_held m n d y is = ap (λ v. get v y.uri) is ∙ at_written m y.uri (numbered d y)

-- ---- what a look-up tells

pub found_held : (m : ByAddress) → AreNumbered m → (address : List ℕ) (found : Option DocId) → found ≡ option_map (λ (h : Numbered). h.number) (get m address) → IfSome found (IsHeld m)
found_held m numbers address found is = by (get m address) refl is
  where
    by : (o : Option Numbered) → get m address ≡ o → found ≡ option_map (λ (h : Numbered). h.number) o → IfSome found (IsHeld m)
    by None none e = subst (λ o. IfSome o (IsHeld m)) (sym e) tt
    by (Some h) some e = subst (λ o. IfSome o (IsHeld m)) (sym e) (h.doc, ap (get m) (numbers.addresses address h some) ∙ some)

abbrev is_none : Option Numbered → Type 0
is_none o = o ≡ None

pub not_found : (m : ByAddress) (address : List ℕ) (found : Option DocId) → found ≡ option_map (λ (h : Numbered). h.number) (get m address) → IfNone found (get m address ≡ None)
not_found m address found is = by (get m address) is
  where
    by : (o : Option Numbered) → found ≡ option_map (λ (h : Numbered). h.number) o → IfNone found (is_none o)
    by None e = subst (λ (p : Option DocId). IfNone p (is_none None)) (sym e) refl
    by (Some h) e = subst (λ (p : Option DocId). IfNone p (is_none (Some h))) (sym e) tt
