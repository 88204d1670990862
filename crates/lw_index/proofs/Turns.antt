-- What references lead to, gathered in their own order: up to a certain one.
use Rattle.std.proofs.Common.{◌≡◌, ◌↔◌, ◌⊎◌, ℕ, ◌+◌, ◌<◌, ◌≤◌, List, [], ◌∷◌, ◌++◌, Some, Contains, AllPairs, length, get_or, sym, ap, subst, ◌∙◌, inl, inr, arith}
use Rattle.std.specs.List.{slice_get}
use Rattle.std.proofs.lemmas.Bool.{cases_lt}
use Rattle.std.proofs.lemmas.List.Elements.{Contains-get_or, Contains-append_left, Contains-push, Contains-push_cases}
use Rattle.std.proofs.lemmas.List.Quantifiers.{all_pairs_push}
use Rattle.std.proofs.lemmas.Option.{slice_get_within, slice_get-get_or}
use Rattle.lw_index.specs.declared.parts.Answer.{Answer}
use Rattle.lw_index.specs.declared.parts.Answer.TheVariants.{Found, Missing}
use Rattle.lw_index.specs.declared.parts.Target.{Target}
use Rattle.lw_index.specs.declared.refs.uses.Use.{Use}
use Rattle.lw_index.specs.Uses.{target_of_use, IsUseOf, AreUsesInTurn}

abbrev pub InTurn : Use → Use → Type 0
InTurn a b = a.reference < b.reference

pub record AreUsesUpTo (answers : List Answer) (count : ℕ) (uses : List Use) : Type 0 where
  pub exact : (u : Use) → Contains uses u ↔ (IsUseOf answers u × (u.reference < count))
  pub in_turn : AllPairs InTurn uses

pub all_of_them : (answers : List Answer) (count : ℕ) (uses : List Use) → length answers ≤ count → AreUsesUpTo answers count uses → AreUsesInTurn answers uses
all_of_them answers count uses all upto = record {
  exact = λ u. (λ has. ((upto.exact u).0 has).0, λ is. (upto.exact u).1 (is, (let h : u.reference < length answers = slice_get_within answers u.reference _ is in omega arith)));
  in_turn = upto.in_turn;
}

same_target : (a b : Target) → Some (Found a) ≡ Some (Found b) → a ≡ b
same_target a b e = cc

not_missing : {G : Type 0} (a : Target) → Some (Found a) ≡ Some Missing → G
not_missing a e = cc

abbrev pub use_of : Target → ℕ → Use
use_of target place = record { doc = target.doc.0; node = target.node.0; reference = place }

same_use : (u : Use) (target : Target) (place : ℕ) → target ≡ target_of_use u → place ≡ u.reference → use_of target place ≡ u
same_use u target place e r = λ i. record { doc = (e i).doc.0; node = (e i).node.0; reference = r i }

module _ (answers : List Answer) (place : ℕ) (uses : List Use) (upto : AreUsesUpTo answers place uses) where
  here_or_before : (u : Use) → u.reference < place + 1 → (place ≡ u.reference) ⊎ (u.reference < place)
  here_or_before u lt = elim (cases_lt u.reference place) [ inl before ↦ inr before | inr after ↦ inl (omega arith) ]

  pub one_missing : slice_get answers place ≡ Some Missing → AreUsesUpTo answers (place + 1) uses
  one_missing is = record {
    exact = λ u. (λ has. (((upto.exact u).0 has).0, omega (arith, ((upto.exact u).0 has).1)), λ h. back u h.0 (here_or_before u h.1));
    in_turn = upto.in_turn;
  }
    where
      back : (u : Use) → IsUseOf answers u → (place ≡ u.reference) ⊎ (u.reference < place) → Contains uses u
      back u leads (inl at) = not_missing (target_of_use u) (sym leads ∙ ap (slice_get answers) (sym at) ∙ is)
      back u leads (inr before) = (upto.exact u).1 (leads, before)

  pub one_found : (target : Target) → slice_get answers place ≡ Some (Found target) → AreUsesUpTo answers (place + 1) (uses ++ use_of target place ∷ [])
  one_found target is = record {
    exact = λ u. (λ has. there u (Contains-push_cases uses (use_of target place) u has), λ h. back u h.0 (here_or_before u h.1));
    in_turn = all_pairs_push InTurn uses (use_of target place) upto.in_turn (λ k d within. ((upto.exact (get_or uses k d)).0 (Contains-get_or uses k d within)).1);
  }
    where
      there : (u : Use) → Contains uses u ⊎ (use_of target place ≡ u) → IsUseOf answers u × (u.reference < place + 1)
      there u (inl has) = (((upto.exact u).0 has).0, omega (arith, ((upto.exact u).0 has).1))
      there u (inr new) = subst (λ (v : Use). IsUseOf answers v × (v.reference < place + 1)) new (is, omega arith)

      back : (u : Use) → IsUseOf answers u → (place ≡ u.reference) ⊎ (u.reference < place) → Contains (uses ++ use_of target place ∷ []) u
      back u leads (inl at) =
          let same : target ≡ target_of_use u = same_target target (target_of_use u) (sym is ∙ ap (slice_get answers) at ∙ leads) in
          subst (Contains (uses ++ use_of target place ∷ [])) (same_use u target place same at) (Contains-push uses (use_of target place))
      back u leads (inr before) = Contains-append_left uses (use_of target place ∷ []) u ((upto.exact u).1 (leads, before))

-- an answer at its place
pub answer_at : (answers : List Answer) (place : ℕ) (d a : Answer) → place < length answers → get_or answers place d ≡ a → slice_get answers place ≡ Some a
answer_at answers place d a lt is = slice_get-get_or answers place d lt ∙ ap Some is
