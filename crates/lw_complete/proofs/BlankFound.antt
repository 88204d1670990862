-- The names that are found in blank trees of one start, and what is known where these are made.
use Rattle.std.proofs.Common.{◌≡◌, ◌≢◌, ◌↔◌, ◌<◌, ◌⊎◌, inl, inr, ℕ, List, [], ◌∷◌, ◌++◌, Option, Some, Result, Ok, Err, IfOk, All, Contains, get_or, map, length, slice_get, refl, sym, ap, subst, ◌∙◌, arith}
use Rattle.std.proofs.lemmas.List.Elements.{All-contains, All-head, Contains-append_cases, Contains-append_left, Contains-append_right}
use Rattle.lw_base.specs.declared.numbers.PropId.{PropId}
use Rattle.lw_base.specs.declared.token.Token.{Token}
use Rattle.lw_viable.specs.Gives.{PlacesGive}
use Rattle.lw_faults.specs.Finding.{Finds, OfSome}
use Rattle.lw_grammar.specs.declared.grammar.Grammar.{Grammar}
use Rattle.lw_grammar.specs.Kinds.{Kinds}
use Rattle.lw_reading.specs.Numbers.{IsNamingProperty}
use Rattle.lw_reading.specs.Trees.{IsTree, parts_of_tree}
use Rattle.lw_places.specs.Starting.{IsBlankTree, IsFrontTree, ReferenceNext, marks_with, moved_by}
use Rattle.lw_parse.specs.Parsers.{AreOfKinds, ParserParts}
use Rattle.lw_program.specs.Says.{Task}
use Rattle.lw_program.specs.declared.recipes.mark.TreeMark.{TreeMark}
use Rattle.lw_program.specs.declared.recipes.mark.TreeMark.TheVariants as numbered
use Rattle.lw_program.specs.Meant.{AreMeant}
use Rattle.lw_program.specs.Meant as meant
use Rattle.lw_reading.specs.Growing.{GrowsRoot}
use Rattle.lw_reading.specs.Within.{StandInRow}
use Rattle.lw_reading.proofs.Rootable.{is_rootable}
use Rattle.lw_scoping.specs.Links.{Trees}
use Rattle.lw_grammar.specs.Marks.{Mark, kinds_of}
use Rattle.lw_tokens.specs.Cut.{kinds, visible}
use Rattle.lw_tokens.specs.Lexicon.{Lexicon}
use Rattle.lw_tree.specs.declared.node.Reference.{Reference}
use Rattle.lw_tree.specs.Parts.{Parts}
use Rattle.lw_viable.specs.Aims.{Aim, Fulfils, Places}
use Rattle.lw_viable.specs.Fronts.{FrontsParts, HoldReadings, IsProgramWith}
use Rattle.lw_viable.specs.Marked.{MeanExactly, MeanSome}
use Rattle.lw_viable.specs.Readings.{HasTask}
use Rattle.lw_viable.specs.declared.reference_start.ReferenceStart.{ReferenceStart}
use Rattle.lw_viable.proofs.Meaning.{meant_joined}
use Rattle.lw_substitution.proofs.Differing.{tables_of}
use Rattle.lw_substitution.proofs.Placed.{front_counts, one_place}
use Rattle.lw_complete.specs.declared.starting.Blank.{Blank}
use Rattle.lw_complete.specs.declared.typing.Typing.{Typing}
use Rattle.lw_complete.specs.Starts.{AreMarksBehind, GoesOnBehind, GrowsReference, HasBlankTree, IsBlank, IsBlankName, IsBlankReady, IsParsedBy, IsSoundStart, IsTreeOfBlank, LeadsInBlank, StandsBehind}
use Rattle.lw_complete.specs.Typing.{IsTypedBy, grammar_of}
use Rattle.lw_complete.proofs.BlankTrees.{blank_grows, blank_reference, marks_are, stand_in_row}

-- what is known where the blank trees of a start are made, by what is known of the reference
abbrev pub ready_for : (of : Kinds) (lexicon : Lexicon) (tasks : List Task) (next : ReferenceNext) (typing : Typing) (parser : ParserParts) (start : ReferenceStart) (before : ℕ)
    (blank : Blank) → IsTypedBy of lexicon typing → IsBlank typing lexicon blank → IsParsedBy of tasks typing parser → IsSoundStart of tasks typing next start →
    StandsBehind of typing next before → IsBlankReady typing parser start before blank
ready_for of lexicon tasks next typing parser start before blank typed is_blank parsed sound (tree, r, front, counted) = record {
  of = of;
  lexicon = lexicon;
  tasks = tasks;
  next = next;
  front_tree = tree;
  r = r;
  typed = typed;
  is_blank = is_blank;
  parsed = parsed;
  sound = sound;
  front = front;
  counted = counted;
}

-- all that is found besides nothing
pub only_found : {X : Type 0} (P : X → Type 0) (xs : List X) → Finds P [] xs → (x : X) → Contains xs x ↔ P x
only_found P xs finds x = (λ has. found ((finds.exact x).0 has), λ is. (finds.exact x).1 (inr is))
  where
    found : Contains [] x ⊎ P x → P x
    found (inl (k, inside, is)) = absurd (omega (arith, inside))
    found (inr is) = is

module _ {typing : Typing} {parser : ParserParts} {start : ReferenceStart} {before : ℕ} {blank : Blank} (ready : IsBlankReady typing parser start before blank) where
  abbrev g : Grammar
  g = grammar_of typing

  abbrev others : List Token
  others = map (moved_by (length typing.front.now)) blank.others.items

  -- behind the reference these marks come, of which the tokens behind the offset have the kinds
  abbrev pub IsAfter : List Mark → Type 0
  IsAfter n = PlacesGive g ready.of ready.tasks start.behind n × (kinds_of n ≡ kinds (visible blank.others.items))

  -- ---- the marks that may come there, all of them, as the readings of the tokens behind the offset have them

  module _ (places : List ℕ) (ts : List Token) (same : places ≡ start.behind) (tokens : ts ≡ blank.others.items) where
    pub placed : All (HasTask g ready.of ready.tasks) places
    placed = subst (All (HasTask g ready.of ready.tasks)) (sym same) ready.sound.behind

    pub of_kinds : AreOfKinds ready.of ts
    of_kinds = subst (AreOfKinds ready.of) (sym tokens) (ready.is_blank.of_kinds ready.of ready.typed.are_kinds)

    -- those that these places give with the kinds of these tokens
    abbrev IsGiven : List ℕ → List Token → List Mark → Type 0
    IsGiven ps us n = PlacesGive g ready.of ready.tasks ps n × (kinds_of n ≡ kinds (visible us))

    all_after : (sentences : List (List TreeMark)) → MeanExactly g (IsGiven places ts) sentences → MeanExactly g IsAfter sentences
    all_after sentences all =
        subst (λ (us : List Token). MeanExactly g (IsGiven start.behind us) sentences) tokens
        (subst (λ (ps : List ℕ). MeanExactly g (IsGiven ps ts) sentences) same all)

    module _ (fronts : FrontsParts) (read : (grammar : Grammar) (of : Kinds) (tasks : List Task) → IsProgramWith grammar of tasks parser.program parser.begins →
        All (HasTask grammar of tasks) places → AreOfKinds of ts → HoldReadings grammar of tasks (Places places) (kinds (visible ts)) fronts) where
      pub hold : HoldReadings g ready.of ready.tasks (Places places) (kinds (visible ts)) fronts
      hold = read g ready.of ready.tasks ready.parsed.program placed of_kinds

      pub are_behind : {X E : Type 0} (r : Result X E) (items : X → List (List TreeMark)) →
          ((grammar : Grammar) (of : Kinds) (tasks : List Task) (aim : Aim) (ks : List ℕ) → HoldReadings grammar of tasks aim ks fronts →
          IfOk r (λ found. MeanExactly grammar (λ (m : List Mark). Fulfils grammar of tasks aim m × (kinds_of m ≡ ks)) (items found))) →
          ((grammar : Grammar) (of : Kinds) (tasks : List Task) (aim : Aim) (ks : List ℕ) → HoldReadings grammar of tasks aim ks fronts →
          IfOk r (λ found. MeanSome grammar (items found))) →
          IfOk r (λ found. AreMarksBehind ready (items found))
      are_behind (Ok found) items all each = record {
        all = all_after (items found) (all g ready.of ready.tasks (Places places) (kinds (visible ts)) hold);
        each = each g ready.of ready.tasks (Places places) (kinds (visible ts)) hold;
      }
      are_behind (Err e) items all each = tt

  -- ---- blank trees

  row : StandInRow typing.front.now 0 (visible typing.tokens.now)
  row = stand_in_row typing.front.now typing.tokens.now ready.typed.tile ready.typed.parts

  -- the blank text and its tokens, as they are put together
  apart : (P : List ℕ → List Token → Type 0) → P blank.text blank.tokens.items → P (typing.front.now ++ typing.rest.now) (typing.tokens.now ++ others)
  apart P is =
      subst (λ (ts : List Token). P (typing.front.now ++ typing.rest.now) ts) ready.is_blank.tokens
      (subst (λ (text : List ℕ). P text blank.tokens.items) ready.is_blank.text is)

  joined : (P : List ℕ → List Token → Type 0) → P (typing.front.now ++ typing.rest.now) (typing.tokens.now ++ others) → P blank.text blank.tokens.items
  joined P is =
      subst (λ (text : List ℕ). P text blank.tokens.items) (sym ready.is_blank.text)
      (subst (λ (ts : List Token). P (typing.front.now ++ typing.rest.now) ts) (sym ready.is_blank.tokens) is)

  -- a tree of a sentence goes on so
  reference_grows : (n : List Mark) → IsAfter n → GrowsReference typing blank before (marks_with ready.next [] ++ n)
  reference_grows n after =
      let (ks, sentence) = ready.sound.whole n after.0 in
      let comes = ready.sound.at.comes in
      let faultless = ready.parsed.faultless in record {
        grows =
            joined (λ (text : List ℕ) (ts : List Token). GrowsRoot g text (marks_with ready.next [] ++ n) (visible ts))
            (blank_grows g ready.of typing.front.now typing.rest.now typing.tokens.now blank.others.items ready.next comes.makes row ready.front_tree ready.r ready.front
            (is_rootable g faultless.types faultless.checks) ks n _ faultless.parser.recipes.name sentence (sym comes.kinds_are) after.1);
        reference = λ tree is.
            let (r, at) =
            blank_reference g ready.of typing.front.now typing.rest.now typing.tokens.now blank.others.items ready.next comes.makes row ready.front_tree ready.r ready.front n
            (typing.tokens.now ++ others) tree
            (apart (λ (text : List ℕ) (ts : List Token). IsTree g text (marks_with ready.next [] ++ n) (visible ts) ts tree) is) in
            (r, ap (λ (i : ℕ). slice_get tree.refs i) ready.counted ∙ at);
      }

  -- the marks with numbers of a blank tree
  marks_meant : (marks all : List TreeMark) (n : List Mark) → AreMeant g marks n → all ≡ start.marks ++ (numbered.Put start.put ∷ numbered.End ∷ marks) →
      AreMeant g all (marks_with ready.next [] ++ n)
  marks_meant marks all n is are =
      let is_start = ready.sound.at.is_start in
      subst (λ (xs : List TreeMark). AreMeant g xs (marks_with ready.next [] ++ n)) (sym are)
      (subst (AreMeant g (start.marks ++ (numbered.Put start.put ∷ numbered.End ∷ marks))) (marks_are ready.next n)
      (meant_joined g is_start.meant (meant.more is_start.puts (meant.more meant.ends is))))

  abbrev blank_tree : (n : List Mark) → IsAfter n → (tree : Parts) (r : Reference) → IsTreeOfBlank typing blank (marks_with ready.next [] ++ n) tree →
      slice_get tree.refs before ≡ Some r →
      IsBlankTree g ready.of ready.lexicon typing.front.now typing.rest.now typing.tokens.now ready.next ready.front_tree tree r
  blank_tree n after tree r is at = record {
    others = blank.others.items;
    cut = ready.is_blank.cut;
    some_kinds = (ready.sound.whole n after.0).0;
    after = n;
    sentence = (ready.sound.whole n after.0).1;
    kinds_are = after.1;
    is_tree = apart (λ (text : List ℕ) (ts : List Token). IsTree g text (marks_with ready.next [] ++ n) (visible ts) ts tree) is;
    reference = ap (λ (i : ℕ). slice_get tree.refs i) (sym ready.counted) ∙ at;
  }

  abbrev has_tree : (n : List Mark) → IsAfter n → (tree : Parts) (r : Reference) → IsTreeOfBlank typing blank (marks_with ready.next [] ++ n) tree →
      slice_get tree.refs before ≡ Some r → HasBlankTree ready.of ready.lexicon ready.tasks typing ready.next start
  has_tree n after tree r is at = record {
    front_tree = ready.front_tree;
    front_r = ready.r;
    is_front = ready.front;
    tree = tree;
    r = r;
    is_tree = blank_tree n after tree r is at;
    behind = after.0;
  }

  some_tree : (m : List Mark) (name : Option PropId) → IsNamingProperty g name → GrowsRoot g blank.text m (visible blank.tokens.items) →
      (tree : Parts) × IsTreeOfBlank typing blank m tree
  some_tree m name named (x, follows) = (
    parts_of_tree x blank.tokens.items name,
    record { grown = x; follows = follows; named = named; parts = tables_of x blank.tokens.items name },
  )

  has_tree_after : (n : List Mark) → IsAfter n → HasBlankTree ready.of ready.lexicon ready.tasks typing ready.next start
  has_tree_after n after =
      let grows = reference_grows n after in
      let (tree, is) = some_tree (marks_with ready.next [] ++ n) _ ready.parsed.faultless.parser.recipes.name grows.grows in
      let (r, at) = grows.reference tree is in
      has_tree n after tree r is at

  pub has_blank_tree : (sentences : List (List TreeMark)) → AreMarksBehind ready sentences → length sentences ≢ 0 →
      HasBlankTree ready.of ready.lexicon ready.tasks typing ready.next start
  has_blank_tree [] behind some = absurd (some refl)
  has_blank_tree (x ∷ xs) behind some =
      let (n, is) = All-head (λ (marks : List TreeMark). (m : List Mark) × AreMeant g marks m) x xs behind.each in
      has_tree_after n ((behind.all n).1 (0, x, omega arith, refl, is))

  -- where there are no such marks, nothing goes on behind the start
  pub goes_on_none : (sentences : List (List TreeMark)) → AreMarksBehind ready sentences → length sentences ≡ 0 → (after : List Mark) →
      ¬ GoesOnBehind ready.of ready.lexicon ready.tasks typing start after
  goes_on_none sentences behind none after on =
      let same : on.others ≡ blank.others.items = ready.is_blank.only on.others on.cut in
      let (i, marks, inside, at, is) = (behind.all after).0 (on.gives, on.kinds_are ∙ ap (λ (ts : List Token). kinds (visible ts)) same) in
      omega (arith, inside, none)

  -- ---- names by which it leads somewhere

  module _ (trees : Trees) (address : List ℕ) where
    abbrev pub IsName : List ℕ → Type 0
    IsName name = IsBlankName ready.of typing trees address ready.lexicon ready.tasks ready.next start name

    -- by this name the reference leads somewhere in a tree of the marks that these mean behind it
    abbrev pub IsFoundBy : List TreeMark → List ℕ → Type 0
    IsFoundBy marks name = (n : List Mark) × AreMeant g marks n × LeadsInBlank typing trees address blank before (marks_with ready.next [] ++ n) name

    blank_name : (n : List Mark) (name : List ℕ) → IsAfter n → LeadsInBlank typing trees address blank before (marks_with ready.next [] ++ n) name → IsName name
    blank_name n name after leads = record { blank = has_tree n after leads.tree leads.r leads.is_tree leads.reference; target = leads.target }

    -- one number of references before it
    one_count : (tree : Parts) (s : Reference) → IsFrontTree g ready.of typing.front.now typing.tokens.now ready.next tree s → before ≡ length tree.refs
    one_count tree s is =
        ready.counted
        ∙ one_place g typing.front.now ready.next (visible typing.tokens.now) (length ready.front_tree.refs) (length tree.refs)
        (front_counts g typing.front.now ready.of typing.tokens.now ready.next ready.front_tree ready.r ready.front)
        (front_counts g typing.front.now ready.of typing.tokens.now ready.next tree s is)

    name_after : (name : List ℕ) → IsName name → (n : List Mark) × IsAfter n × LeadsInBlank typing trees address blank before (marks_with ready.next [] ++ n) name
    name_after name is =
        let found = is.blank in
        let there = found.is_tree in
        let same : there.others ≡ blank.others.items = ready.is_blank.only there.others there.cut in (
          there.after,
          (found.behind, there.kinds_are ∙ ap (λ (ts : List Token). kinds (visible ts)) same),
          record {
            tree = found.tree;
            r = found.r;
            is_tree =
                joined (λ (text : List ℕ) (ts : List Token). IsTree g text (marks_with ready.next [] ++ there.after) (visible ts) ts found.tree)
                (subst (λ (ts : List Token).
                IsTree g (typing.front.now ++ typing.rest.now) (marks_with ready.next [] ++ there.after)
                (visible (typing.tokens.now ++ map (moved_by (length typing.front.now)) ts)) (typing.tokens.now ++ map (moved_by (length typing.front.now)) ts) found.tree)
                same there.is_tree);
            reference = ap (λ (i : ℕ). slice_get found.tree.refs i) (one_count found.front_tree found.front_r found.is_front) ∙ there.reference;
            target = is.target;
          },
        )

  -- ---- those of all sentences

  module _ (sentences : List (List TreeMark)) (behind : AreMarksBehind ready sentences) where
    meant_after : (marks : List TreeMark) (n : List Mark) → Contains sentences marks → AreMeant g marks n → IsAfter n
    meant_after marks n (i, inside, at) means = (behind.all n).1 (i, marks, inside, at, means)

    pub names_of_sentences : (trees : Trees) (address name : List ℕ) → OfSome (IsFoundBy trees address) sentences name ↔ IsName trees address name
    names_of_sentences trees address name = (to, from)
      where
        to : OfSome (IsFoundBy trees address) sentences name → IsName trees address name
        to (marks, has, (n, is, leads)) = blank_name trees address n name (meant_after marks n has is) leads

        from : IsName trees address name → OfSome (IsFoundBy trees address) sentences name
        from is =
            let (n, after, leads) = name_after trees address name is in
            let (i, marks, inside, at, means) = (behind.all n).0 after in
            (marks, (i, inside, at), (n, means, leads))

    -- one of them, and the marks with numbers of its tree
    module _ (i : ℕ) (x : List TreeMark) (inside : i < length sentences) (at : x ≡ get_or sentences i x) (all : List TreeMark)
        (are : all ≡ start.marks ++ (numbered.Put start.put ∷ numbered.End ∷ x)) where
      grows_there : (n : List Mark) → AreMeant g x n → AreMeant g all (marks_with ready.next [] ++ n) × GrowsReference typing blank before (marks_with ready.next [] ++ n)
      grows_there n is = (marks_meant x all n is are, reference_grows n (meant_after x n (i, inside, sym at) is))

      meant_there : (n : List Mark) × AreMeant g x n
      meant_there = All-contains (λ (marks : List TreeMark). (m : List Mark) × AreMeant g marks m) sentences x behind.each (i, inside, sym at)

      pub one_grows : (m : List Mark) × AreMeant g all m × GrowsReference typing blank before m
      one_grows =
          let (n, is) = meant_there in
          let (means, grows) = grows_there n is in
          (marks_with ready.next [] ++ n, means, grows)

      -- the names of one more
      pub found_more : (trees : Trees) (address : List ℕ) (old found : List (List ℕ)) →
          ((m : List Mark) → AreMeant g all m → GrowsReference typing blank before m → (name : List ℕ) →
          Contains found name ↔ LeadsInBlank typing trees address blank before m name) → Finds (IsFoundBy trees address x) old (old ++ found)
      found_more trees address old found told = record { exact = λ name. (to name, from name) }
        where
          exact : (n : List Mark) → AreMeant g x n → (name : List ℕ) → Contains found name ↔ LeadsInBlank typing trees address blank before (marks_with ready.next [] ++ n) name
          exact n is = let (means, grows) = grows_there n is in told (marks_with ready.next [] ++ n) means grows

          to : (name : List ℕ) → Contains (old ++ found) name → Contains old name ⊎ IsFoundBy trees address x name
          to name there = elim (Contains-append_cases old found name there) [
            | inl was ↦ inl was
            | inr here ↦ let (n, is) = meant_there in inr (n, is, (exact n is name).0 here)
          ]

          from : (name : List ℕ) → Contains old name ⊎ IsFoundBy trees address x name → Contains (old ++ found) name
          from name (inl was) = Contains-append_left old found name was
          from name (inr (n, is, leads)) = Contains-append_right old found name ((exact n is name).1 leads)
