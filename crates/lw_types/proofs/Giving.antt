-- The values of parts and of members, one after the other.
use Rattle.std.proofs.Common.{◌≡◌, ℕ, List, [], ◌∷◌, ◌++◌, map, Contains, inl, inr, refl, sym, ap, ◌∙◌, subst}
use Rattle.std.proofs.lemmas.List.{append_assoc, append-nil}
use Rattle.std.proofs.lemmas.List.Elements.{Contains-push, Contains-push_cases, Contains-append_left}
use Rattle.lw_grammar.specs.declared.grammar.Grammar.{Grammar}
use Rattle.lw_grammar.specs.declared.declared_types.Member.{Member}
use Rattle.lw_grammar.specs.declared.declared_types.Member.TheVariants as member
use Rattle.lw_grammar.specs.declared.declared_types.UnionDef.{UnionDef}
use Rattle.lw_grammar.specs.declared.declared_types.ValueKind.{ValueKind}
use Rattle.lw_grammar.specs.Leaves.{ValueLeaf}
use Rattle.lw_properties.specs.Kinds.{NamesUnion}
use Rattle.lw_types.specs.Values.{PartGives, PartsGive, TextGives, MemberGives, MembersGive}
use Rattle.lw_types.specs.Values as give
use Rattle.lw_types.proofs.Firsts.{front_cases, at_front, behind_front}

module _ (g : Grammar) where
  -- ---- parts
  pub parts_more : {parts : List ValueLeaf} {values more : List ValueKind} (part : ValueLeaf) → PartsGive g parts values → PartGives g part more →
      PartsGive g (parts ++ part ∷ []) (values ++ more)
  parts_more {more} part give.none gives = subst (PartsGive g (part ∷ [])) (append-nil more) (give.more gives give.none)
  parts_more {more} part (give.more {parts} {first} {others} gave rest) gives =
      subst (PartsGive g _) (sym (append_assoc first others more)) (give.more gave (parts_more part rest gives))

  -- ---- members
  pub same_looked : {had now : List ℕ} {members : List Member} {values : List ValueKind} → ((u : ℕ) → Contains had u → Contains now u) →
      ((u : ℕ) → Contains now u → Contains had u) → MembersGive g had members values → MembersGive g now members values
  same_looked to from give.none = give.none
  same_looked to from (give.value says gives rest) = give.value says gives (same_looked to from rest)
  same_looked to from (give.again u union is was says rest) = give.again u union is (to u was) says (same_looked to from rest)
  same_looked {had} {now} to from (give.union u union is fresh says rest) =
      give.union u union is (λ was. fresh (from u was)) says
      (same_looked (λ v has. elim (front_cases u had v has) [
        | inl this ↦ subst (Contains (u ∷ now)) this (at_front u now)
        | inr was ↦ behind_front u now v (to v was)
      ])
      (λ v has. elim (front_cases u now v has) [
        | inl this ↦ subst (Contains (u ∷ had)) this (at_front u had)
        | inr was ↦ behind_front u had v (from v was)
      ]) rest)

  -- ---- a walk along members that wait
  module _ (members : List Member) where
    -- what those that wait give comes behind the values
    pub record IsGiving (waiting : List Member) (looked : List ℕ) (values : List ValueKind) : Type 0 where
      pub all : (rest : List ValueKind) → MembersGive g looked waiting rest → MembersGive g [] members (values ++ rest)

    pub giving_as : {waiting then_waiting : List Member} {looked then_looked : List ℕ} {values then_values : List ValueKind} → waiting ≡ then_waiting →
        looked ≡ then_looked → values ≡ then_values → IsGiving waiting looked values → IsGiving then_waiting then_looked then_values
    giving_as {waiting} {then_waiting} {looked} {then_looked} {values} {then_values} waits looks gives is =
        subst (IsGiving then_waiting then_looked) gives (subst (λ ls. IsGiving then_waiting ls values) looks (subst (λ ms. IsGiving ms looked values) waits is))

    pub giving_value : (waiting : List Member) (looked : List ℕ) (values text more : List ValueKind) (m : Member) → IsGiving (m ∷ waiting) looked values → TextGives g m text →
        MemberGives g m more → IsGiving waiting looked ((values ++ text) ++ more)
    giving_value waiting looked values text more m is says gives = record {
      all = λ rest others.
          subst (MembersGive g [] members) (sym (append_assoc values (text ++ more) rest) ∙ ap (λ xs. xs ++ rest) (sym (append_assoc values text more)))
          (is.all ((text ++ more) ++ rest) (give.value says gives others));
    }

    enters : (waiting : List Member) (looked : List ℕ) (m : Member) (u : ℕ) (union : UnionDef) (text rest : List ValueKind) → NamesUnion g m u union → ¬ Contains looked u →
        TextGives g m text → MembersGive g (u ∷ looked) (union.members ++ waiting) rest → MembersGive g looked (m ∷ waiting) (text ++ rest)
    enters waiting looked (member.Named name s) u union text rest is fresh says gives = give.union u union is fresh says gives
    enters waiting looked _ u union text rest is fresh says gives = absurd is

    passes : (waiting : List Member) (looked : List ℕ) (m : Member) (u : ℕ) (union : UnionDef) (text rest : List ValueKind) → NamesUnion g m u union → Contains looked u →
        TextGives g m text → MembersGive g looked waiting rest → MembersGive g looked (m ∷ waiting) (text ++ rest)
    passes waiting looked (member.Named name s) u union text rest is was says gives = give.again u union is was says gives
    passes waiting looked _ u union text rest is was says gives = absurd is

    pub giving_enters : (waiting : List Member) (looked : List ℕ) (values text : List ValueKind) (m : Member) (u : ℕ) (union : UnionDef) → IsGiving (m ∷ waiting) looked values →
        TextGives g m text → NamesUnion g m u union → ¬ Contains looked u → IsGiving (union.members ++ waiting) (looked ++ u ∷ []) (values ++ text)
    giving_enters waiting looked values text m u union is says names fresh = record {
      all = λ rest gives. subst (MembersGive g [] members) (sym (append_assoc values text rest)) (is.all (text ++ rest) (enters waiting looked m u union text rest names fresh says
          (same_looked (λ v has. elim (Contains-push_cases looked u v has) [
            | inl was ↦ behind_front u looked v was
            | inr this ↦ subst (Contains (u ∷ looked)) this (at_front u looked)
          ])
          (λ v has. elim (front_cases u looked v has) [
            | inl this ↦ subst (Contains (looked ++ u ∷ [])) this (Contains-push looked u)
            | inr was ↦ Contains-append_left looked (u ∷ []) v was
          ]) gives)));
    }

    pub giving_passes : (waiting : List Member) (looked : List ℕ) (values text : List ValueKind) (m : Member) (u : ℕ) (union : UnionDef) → IsGiving (m ∷ waiting) looked values →
        TextGives g m text → NamesUnion g m u union → Contains looked u → IsGiving waiting looked (values ++ text)
    giving_passes waiting looked values text m u union is says names was = record {
      all = λ rest gives. subst (MembersGive g [] members) (sym (append_assoc values text rest)) (is.all (text ++ rest) (passes waiting looked m u union text rest names was says gives));
    }

    pub giving_ends : (looked : List ℕ) (values : List ValueKind) → IsGiving [] looked values → MembersGive g [] members values
    giving_ends looked values is = subst (MembersGive g [] members) (append-nil values) (is.all [] give.none)

pub all_itself : {A : Type 0} (xs : List A) → map (λ x. x) xs ≡ xs
all_itself [] = refl
all_itself (x ∷ xs) = ap (λ ys. x ∷ ys) (all_itself xs)
