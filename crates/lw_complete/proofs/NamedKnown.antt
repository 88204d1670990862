-- The names that are found at starts.
use Rattle.std.proofs.Common.{◌≡◌, ◌↔◌, ◌⊎◌, inl, inr, ◌+◌, ◌<◌, ◌++◌, ◌∷◌, [], ℕ, List, Option, Some, None, All, Contains, append_assoc, get_or, length, map, take, sym, ap, ◌∙◌, subst, arith}
use Rattle.std.proofs.lemmas.List.{map-append, take_more}
use Rattle.std.proofs.lemmas.List.Elements.{All-contains, Contains-append_cases, Contains-append_left, Contains-append_right, Contains-get_or}
use Rattle.lw_faults.specs.Finding.{Finds}
use Rattle.lw_grammar.specs.Kinds.{Kinds}
use Rattle.lw_places.specs.Starting.{ReferenceNext}
use Rattle.lw_program.specs.Says.{Task}
use Rattle.lw_reading.proofs.Listed.{mapped}
use Rattle.lw_scoping.specs.Links.{Trees}
use Rattle.lw_tokens.specs.Lexicon.{Lexicon}
use Rattle.lw_viable.specs.declared.reference_start.ReferenceStart.{ReferenceStart}
use Rattle.lw_complete.specs.declared.known.Known.{Known}
use Rattle.lw_complete.specs.declared.typing.Typing.{Typing}
use Rattle.lw_complete.specs.Starts.{AreBlankNames, AreFrontNames, ComesAt, IsBlankName, IsNameFoundAt, LeadsInFront, names_in}
use Rattle.lw_complete.specs.Typing.{grammar_of}
use Rattle.lw_complete.proofs.NamedFront.{leads_by}
use Rattle.lw_complete.proofs.NamedOnce.{one_start}

-- what holds of the starts holds of those of which something is known
pub known_all : (P : ReferenceStart → Type 0) (known : List Known) (starts : List ReferenceStart) → map (λ (one : Known). one.start.now) known ≡ starts → All P starts →
    All (λ (one : Known). P one.start.now) known
known_all P known starts are all i d inside =
    All-contains P starts (get_or known i d).start.now all
    (subst (λ (xs : List ReferenceStart). Contains xs (get_or known i d).start.now) are
    (mapped (λ (one : Known). one.start.now) known (get_or known i d) (Contains-get_or known i d inside)))

-- one more start
pub starts_more : (known : List Known) (starts : List ReferenceStart) (i : ℕ) (one : Known) → i < length starts → one.start.now ≡ get_or starts i one.start.now →
    map (λ (one : Known). one.start.now) known ≡ take i starts → map (λ (one : Known). one.start.now) (known ++ one ∷ []) ≡ take (i + 1) starts
starts_more known starts i one inside is same =
    map-append (λ (one : Known). one.start.now) known (one ∷ []) ∙ ap (λ (xs : List ReferenceStart). xs ++ one.start.now ∷ []) same
    ∙ ap (λ (x : ReferenceStart). take i starts ++ x ∷ []) is ∙ sym (take_more starts i one.start.now inside)

-- ---- the names of one start

module _ (of : Kinds) (lexicon : Lexicon) (tasks : List Task) (typing : Typing) (trees : Trees) (address : List ℕ) (known : Known) (next : ReferenceNext)
    (at : ComesAt of typing next known.start.now) (front : AreFrontNames of typing trees address next known.front)
    (blank : AreBlankNames of lexicon tasks typing trees address next known.start.now known.blank) where
  abbrev IsFound : List ℕ → Type 0
  IsFound = IsNameFoundAt of lexicon tasks typing trees address known.start.now

  abbrev IsEither : ReferenceNext → List ℕ → Type 0
  IsEither other name = LeadsInFront of typing trees address other name ⊎ IsBlankName of typing trees address lexicon tasks other known.start.now name

  -- those of the blank trees
  blank_are : (found : Option (List (List ℕ))) → AreBlankNames of lexicon tasks typing trees address next known.start.now found → (name : List ℕ) →
      Contains (names_in found) name ↔ IsBlankName of typing trees address lexicon tasks next known.start.now name
  blank_are None none name = (
    λ (k, inside, is). absurd (omega (arith, inside)),
    λ is. (
        let tree = is.blank.is_tree in
        absurd (none tree.after record { others = tree.others; cut = tree.cut; gives = is.blank.behind; kinds_are = tree.kinds_are })
        ),
  )
  blank_are (Some names) (has, exact) name = exact name

  abbrev both : List (List ℕ)
  both = known.front.names ++ names_in known.blank

  into : (name : List ℕ) → Contains known.front.names name ⊎ Contains (names_in known.blank) name → IsFound name
  into name (inl has) = (next, at, inl (front.tree, front.r, front.is_tree, (front.exact name).0 has))
  into name (inr has) = (next, at, inr ((blank_are known.blank blank name).0 has))

  here : (name : List ℕ) → IsEither next name → Contains both name
  here name (inl leads) =
      Contains-append_left known.front.names (names_in known.blank) name (leads_by of typing trees address next known.front front name leads)
  here name (inr is) = Contains-append_right known.front.names (names_in known.blank) name ((blank_are known.blank blank name).1 is)

  found_here : (name : List ℕ) → Contains both name ↔ IsFound name
  found_here name = (
    λ has. into name (Contains-append_cases known.front.names (names_in known.blank) name has),
    λ (other, also, either).
        here name (subst (λ (x : ReferenceNext). IsEither x name) (one_start (grammar_of typing) other next known.start.now also.is_start at.is_start) either),
  )

  pub start_found : (old new : List (List ℕ)) → new ≡ old ++ known.front.names ++ names_in known.blank → Finds IsFound old new
  start_found old new is = subst (Finds IsFound old) (sym (is ∙ append_assoc old known.front.names (names_in known.blank))) record {
    exact = λ name. (
      λ has. to name (Contains-append_cases old both name has),
      λ has. from name has,
    );
  }
    where
      to : (name : List ℕ) → Contains old name ⊎ Contains both name → Contains old name ⊎ IsFound name
      to name (inl has) = inl has
      to name (inr has) = inr ((found_here name).0 has)

      from : (name : List ℕ) → Contains old name ⊎ IsFound name → Contains (old ++ both) name
      from name (inl has) = Contains-append_left old both name has
      from name (inr is) = Contains-append_right old both name ((found_here name).1 is)
