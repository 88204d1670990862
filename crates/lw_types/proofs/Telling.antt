-- The properties of each type, from what is gathered and what is declared.
use Rattle.std.proofs.Common.{◌≡◌, ℕ, ◌+◌, ◌<◌, List, [], ◌∷◌, ◌++◌, Bool, true, false, Some, MatchBool, length, length-append, get_or, slice_get, inl, inr, sym, ap, ◌∙◌, subst, arith, true≢false}
use Rattle.std.proofs.lemmas.Option.{same_Some, slice_get_within, slice_get-get_or}
use Rattle.lw_grammar.specs.declared.grammar.Grammar.{Grammar}
use Rattle.lw_numbers.specs.Numbering.{type_names}
use Rattle.lw_flow.specs.declared.before.Before.{Before}
use Rattle.lw_flow.specs.Recorded.{AreWaysOf}
use Rattle.lw_flow.proofs.TableLemmas.{get_end}
use Rattle.lw_properties.specs.Mixing.{IsFree}
use Rattle.lw_types.specs.Having.{ArePropertiesOf, ArePropertyTableOf}
use Rattle.lw_types.specs.Having as have
use Rattle.lw_types.specs.Seeing.{AreFreeTypes, AreGathered, AreOfType, AreSeenProperties, AreUnfreeProperties}
use Rattle.lw_types.specs.Seeing as seeing
use Rattle.lw_types.specs.declared.property_table.info.PropertyInfo.{PropertyInfo}

module _ (g : Grammar) (gatherings : List (List PropertyInfo)) where
  pub told_type : (flags : List Bool) → AreFreeTypes g flags → (n : ℕ) (name : List ℕ) (b : Bool) (gathering infos : List PropertyInfo) → slice_get flags n ≡ Some b →
      slice_get (type_names g) n ≡ Some name → slice_get gatherings n ≡ Some gathering → MatchBool b (infos ≡ gathering) (AreUnfreeProperties g name infos) →
      AreOfType g gatherings n infos
  told_type flags known n name true gathering infos flag at there is other named =
      inl ((known.exact n other named).1 flag, there ∙ ap Some (sym is))
  told_type flags known n name false gathering infos flag at there are other named =
      let same : other ≡ name = same_Some other name (sym named ∙ at) in
      inr (λ free. true≢false (same_Some true false (sym ((known.exact n other named).0 free) ∙ flag)), subst (λ t. AreUnfreeProperties g t infos) (sym same) are)

  pub seen_more : (n : ℕ) (table : List (List PropertyInfo)) (infos : List PropertyInfo) → AreSeenProperties g gatherings n table → AreOfType g gatherings n infos →
      AreSeenProperties g gatherings (n + 1) (table ++ infos ∷ [])
  seen_more n table infos known are = record {
    all = length-append table (infos ∷ []) ∙ omega (arith, known.all);
    each = λ m others there. elim (get_end table infos m others there) [
      | inl before ↦ known.each m others before
      | inr last ↦ subst (AreOfType g gatherings m) (sym last.1) (subst (λ k. AreOfType g gatherings k infos) (sym (last.0 ∙ known.all)) are)
    ];
  }

module _ (g : Grammar) (rows : List (List Before)) (ways : AreWaysOf g rows) (free : List Bool) (known : AreFreeTypes g free) (gatherings : List (List PropertyInfo))
    (gathered : AreGathered g rows free gatherings) where
  by_name : (n : ℕ) (infos : List PropertyInfo) (name : List ℕ) → slice_get (type_names g) n ≡ Some name → AreOfType g gatherings n infos → ArePropertiesOf g rows n infos
  by_name n infos name at are = elim (are name at) [
    | inl these ↦
        have.inferred name at these.0
        (record { seen = gathered.seen; in_rules = gathered.in_rules; put_into = gathered.gathers.each n infos ((known.exact n name at).0 these.0) these.1 })
    | inr these ↦ unfree infos these.0 these.1
  ]
    where
      unfree : (infos : List PropertyInfo) → ¬ IsFree g name → AreUnfreeProperties g name infos → ArePropertiesOf g rows n infos
      unfree infos not_free (seeing.declared i own is declared) = have.declared name i own at is declared
      unfree infos not_free (seeing.neither none) = have.neither name at not_free none

  pub table_told : (table : List (List PropertyInfo)) → AreSeenProperties g gatherings (length (type_names g)) table → ArePropertyTableOf g table
  table_told table seen = record {
    rows = rows;
    ways = ways;
    all = seen.all;
    each = λ n infos there.
        let inside : n < length (type_names g) = subst (λ k. n < k) seen.all (slice_get_within table n infos there) in
        by_name n infos (get_or (type_names g) n []) (slice_get-get_or (type_names g) n [] inside) (seen.each n infos there);
  }
