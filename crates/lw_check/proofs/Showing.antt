-- The diagnostics of a tree stand in its text, and are shown one after another.
use Rattle.std.proofs.Common.{◌≡◌, ℕ, ◌-◌, List, [], ◌∷◌, ◌++◌, inl, inr, All, Contains, IfSome, Option, Some, None, length, slice_get, refl, sym, ap, ◌∙◌, subst, append_assoc, append-nil}
use Rattle.std.specs.List.{AllZip}
use Rattle.std.proofs.lemmas.List.{map-append}
use Rattle.std.proofs.lemmas.List.Elements.{All-get_or}
use Rattle.std.proofs.lemmas.Option.{same_Some}
use Rattle.lw_base.specs.declared.numbers.PropId.{PropId}
use Rattle.lw_base.specs.declared.token.Span.{Span}
use Rattle.lw_grammar.specs.declared.grammar.Grammar.{Grammar}
use Rattle.lw_index.specs.declared.parts.Answer.{Answer}
use Rattle.lw_index.specs.Indexed.{Indexed}
use Rattle.lw_base.proofs.Rows.{zip_push}
use Rattle.lw_reading.specs.Within.{IsInText, StandsInText, value_place}
use Rattle.lw_scoping.proofs.Places.{among}
use Rattle.lw_link_rules.specs.Diagnostics.{IsDiagnosticShown}
use Rattle.lw_link_rules.specs.TreeDiagnostics.{Diagnostic}
use Rattle.lw_text.specs.declared.shown.Shown.{Shown}
use Rattle.lw_tree.specs.Parts.{Parts, last_text, name_by, name_of, text_in, text_of, values_at}
use Rattle.lw_tree.specs.declared.node.Reference.{Reference}
use Rattle.lw_tree.specs.declared.node.Value.{Value}
use Rattle.lw_tree.specs.declared.node.Value.TheVariants.{Text, Number, Huge, Raw, Truth, Child, Refers}
use Rattle.lw_check.specs.declared.sorting.KeyedDiagnostic.{KeyedDiagnostic}
use Rattle.lw_check.specs.Sorting.{diagnostic_of, diagnostics_of}
use Rattle.lw_check.specs.Telling.{AreTold, IsTold}
use Rattle.lw_check.proofs.Gathered.{at_some, here, there}

-- ---- where they stand

contained : {X : Type 0} (P : X → Type 0) (xs : List X) (x : X) → All P xs → Contains xs x → P x
contained P xs x all (k, inside, is) = subst P is (All-get_or P xs k x inside all)

text_place : (text : List ℕ) (v : Value) (name : List ℕ) (s : Span) → IfSome (value_place v) (IsInText text) → text_of v ≡ Some (name, s) → IsInText text s
text_place text (Text m r) name s place is = subst (λ (x : List ℕ × Span). IsInText text x.1) (same_Some {A = List ℕ × Span} (m, r) (name, s) is) place
text_place text (Number n r) name s place is = cc
text_place text (Huge r) name s place is = cc
text_place text (Raw m r) name s place is = cc
text_place text (Truth r) name s place is = cc
text_place text (Child n) name s place is = cc
text_place text (Refers r) name s place is = cc

last_place : (text : List ℕ) (vs : List Value) → All (λ v. IfSome (value_place v) (IsInText text)) vs → (name : List ℕ) (s : Span) → last_text vs ≡ Some (name, s) →
    IsInText text s
last_place text vs all name s is = by (slice_get vs (length vs - 1)) refl is
  where
    by : (last : Option Value) → slice_get vs (length vs - 1) ≡ last → text_in last ≡ Some (name, s) → IsInText text s
    by None at is = cc
    by (Some v) at is = text_place text v name s (contained (λ v. IfSome (value_place v) (IsInText text)) vs v all (among vs (length vs - 1) v at)) is

name_place : (text : List ℕ) (tree : Parts) → StandsInText text tree → (n : ℕ) (name : List ℕ) (s : Span) → name_of tree n ≡ Some (name, s) → IsInText text s
name_place text tree stands n name s is = by tree.name is
  where
    by : (p : Option PropId) → name_by p n tree.values ≡ Some (name, s) → IsInText text s
    by None is = cc
    by (Some p) is = last_place text (values_at n p.0 tree.values) (stands.values n p.0) name s is

next_among : (given rest : List KeyedDiagnostic) (d : KeyedDiagnostic) → Contains (diagnostics_of (given ++ d ∷ rest)) (diagnostic_of d)
next_among [] rest d = here (diagnostic_of d) (diagnostics_of rest)
next_among (x ∷ given) rest d = there (diagnostic_of x) (diagnostics_of (given ++ d ∷ rest)) (diagnostic_of d) (next_among given rest d)

module _ (g : Grammar) (tree : Parts) (answers : List Answer) (doc : ℕ) (index : Indexed) (text : List ℕ) (stands : StandsInText text tree) where
  within : (e : Diagnostic) → IsTold g tree answers doc index e → IsInText text e.span
  within e (inl (inl (inl (i, r, at, (answer, there, (missing, tells)))))) =
      subst (λ (d : Diagnostic). IsInText text d.span) (sym tells.is)
      (contained (λ (r : Reference). IsInText text r.span) tree.refs r stands.refs (among tree.refs i r at))
  within e (inl (inl (inr (n, below, tells)))) =
      subst (λ (d : Diagnostic). IsInText text d.span) (sym tells.is) (name_place text tree stands n tells.name tells.named.span tells.named.named)
  within e (inl (inr (n, has, tells))) =
      subst (λ (d : Diagnostic). IsInText text d.span) (sym tells.is) (name_place text tree stands n tells.name tells.named.span tells.named.named)
  within e (inr (Huge s, has, is)) =
      let found = at_some tree.values (Huge s) has in
      subst (λ (d : Diagnostic). IsInText text d.span) (sym is)
      (contained (λ v. IfSome (value_place v) (IsInText text)) (values_at found.0 found.1 tree.values) (Huge s) (stands.values found.0 found.1) found.2)
  within e (inr (Text name s, has, is)) = absurd is
  within e (inr (Number n s, has, is)) = absurd is
  within e (inr (Raw name s, has, is)) = absurd is
  within e (inr (Truth s, has, is)) = absurd is
  within e (inr (Child n, has, is)) = absurd is
  within e (inr (Refers r, has, is)) = absurd is

  -- the next one stands in the text
  pub next_within : (given now all rest : List KeyedDiagnostic) (d : KeyedDiagnostic) → AreTold g tree answers doc index (diagnostics_of all) → given ++ now ≡ all →
      now ≡ d ∷ rest → IsInText text (diagnostic_of d).span
  next_within given now all rest d are left step =
      let has = subst (λ l. Contains (diagnostics_of l) (diagnostic_of d)) (ap (λ l. given ++ l) (sym step) ∙ left) (next_among given rest d) in
      within (diagnostic_of d) ((are.exact (diagnostic_of d)).0 has)

-- ---- how they are shown

pub left_more : {X : Type 0} (given now all rest : List X) (x : X) → given ++ now ≡ all → now ≡ x ∷ rest → (given ++ x ∷ []) ++ rest ≡ all
left_more given now all rest x left step = rw append_assoc (ap (λ l. given ++ l) (sym step) ∙ left)

module _ (text : List ℕ) where
  pub shown_more : (given : List KeyedDiagnostic) (list after : List Shown) (d : KeyedDiagnostic) (shown : Shown) →
      AllZip (IsDiagnosticShown text) (diagnostics_of given) list → IsDiagnosticShown text (diagnostic_of d) shown → after ≡ list ++ shown ∷ [] →
      AllZip (IsDiagnosticShown text) (diagnostics_of (given ++ d ∷ [])) after
  shown_more given list after d shown all one is =
      let pushed = zip_push (IsDiagnosticShown text) (diagnostics_of given) list (diagnostic_of d) shown all one in
      subst (λ l. AllZip (IsDiagnosticShown text) (diagnostics_of (given ++ d ∷ [])) l) (sym is)
      (subst (λ ds. AllZip (IsDiagnosticShown text) ds (list ++ shown ∷ [])) (sym (map-append diagnostic_of given (d ∷ []))) pushed)

  pub shown_all : (given now all : List KeyedDiagnostic) (list : List Shown) → given ++ now ≡ all → now ≡ [] →
      AllZip (IsDiagnosticShown text) (diagnostics_of given) list → AllZip (IsDiagnosticShown text) (diagnostics_of all) list
  shown_all given now all list left end shown =
      subst (λ l. AllZip (IsDiagnosticShown text) (diagnostics_of l) list) (sym (append-nil given) ∙ ap (λ l. given ++ l) (sym end) ∙ left) shown
