-- The trees of the readings so far.
use Rattle.std.proofs.Common.{◌≡◌, ◌+◌, ◌<◌, ◌≤◌, ℕ, List, [], ◌∷◌, ◌++◌, inl, inr, ◌⊎◌, All, AllPairs, Any, Contains, length, take, get_or, sym, subst}
use Rattle.std.proofs.lemmas.List.{get_or_default, take_all, take_more}
use Rattle.std.proofs.lemmas.List.Elements.{All-push, Contains-append_left, Contains-push_cases}
use Rattle.std.proofs.lemmas.List.Quantifiers.{Any-push, all_pairs_push}
use Rattle.lw_base.specs.declared.token.Token.{Token}
use Rattle.lw_grammar.specs.declared.grammar.Grammar.{Grammar}
use Rattle.lw_grammar.specs.Kinds.{Kinds}
use Rattle.lw_reading.specs.Trees.{IsOpenedTree}
use Rattle.lw_program.specs.declared.recipes.mark.TreeMark.{TreeMark}
use Rattle.lw_program.specs.Meant.{AreMeant}
use Rattle.lw_grammar.specs.Marks.{Mark}
use Rattle.lw_tokens.specs.Cut.{kinds, visible}
use Rattle.lw_tree.specs.Parts.{Parts, SameTables}
use Rattle.lw_parse.specs.Readings.{AreOpenTrees, IsOpenOf, IsReading, MeanReadings}
use Rattle.lw_parse.proofs.SameOpened.{same_opened}

abbrev Differ : Parts → Parts → Type 0
Differ one other = ¬ SameTables one other

-- one of the trees has the tables of this one
abbrev pub IsGiven : Parts → List Parts → Type 0
IsGiven tree trees = Any (λ (known : Parts). SameTables known tree) trees

module _ (g : Grammar) (of : Kinds) (entry : ℕ) (text : List ℕ) (tokens : List Token) where
  abbrev IsOpened : List Mark → Parts → Type 0
  IsOpened m tree = IsOpenedTree g text m (visible tokens) tokens tree

  -- each tree is one of a reading, each reading that some of these marks mean has one, and no two are the same
  pub record AreTreesOf (marks : List (List TreeMark)) (trees : List Parts) : Type 0 where
    pub each : All (IsOpenOf g of entry text tokens) trees
    pub all : (ms : List TreeMark) (m : List Mark) → Contains marks ms → AreMeant g ms m → IsReading g of entry (kinds (visible tokens)) m → Any (IsOpened m) trees
    pub once : AllPairs Differ trees

  any_stays : (P : Parts → Type 0) (trees : List Parts) (tree : Parts) → Any P trees → Any P (trees ++ tree ∷ [])
  any_stays P trees tree (i, x, inside, is, so) =
      let (j, within, at) = Contains-append_left trees (tree ∷ []) x (i, inside, is) in (j, x, within, at, so)

  module _ (marks : List (List TreeMark)) (here : List TreeMark) (trees : List Parts) (tree : Parts) (so_far : AreTreesOf marks trees)
      (means : (m : List Mark) × AreMeant g here m × IsReading g of entry (kinds (visible tokens)) m)
      (opened : (m : List Mark) → AreMeant g here m → IsReading g of entry (kinds (visible tokens)) m → IsOpened m tree) where
    -- what has a tree so far has one among more, and what is opened here has this one there
    all_more : (more : List Parts) → ((m : List Mark) → Any (IsOpened m) trees → Any (IsOpened m) more) → ((m : List Mark) → IsOpened m tree → Any (IsOpened m) more) →
        (ms : List TreeMark) (m : List Mark) → Contains marks ms ⊎ (here ≡ ms) → AreMeant g ms m → IsReading g of entry (kinds (visible tokens)) m →
        Any (IsOpened m) more
    all_more more stay has ms m (inl among) are is = stay m (so_far.all ms m among are is)
    all_more more stay has ms m (inr same) are is = has m (opened m (subst (λ (xs : List TreeMark). AreMeant g xs m) (sym same) are) is)

    pub one_more : ¬ IsGiven tree trees → AreTreesOf (marks ++ here ∷ []) (trees ++ tree ∷ [])
    one_more new =
        let (m, are, is) = means in record {
          each = All-push (IsOpenOf g of entry text tokens) trees tree so_far.each (m, is, opened m are is);
          all = λ ms m has are is.
              all_more (trees ++ tree ∷ []) (λ m some. any_stays (IsOpened m) trees tree some) (λ m is. Any-push (IsOpened m) trees tree is) ms m
              (Contains-push_cases marks here ms has) are is;
          once = all_pairs_push Differ trees tree so_far.once (λ k d inside same. new (k, get_or trees k d, inside, get_or_default trees k (get_or trees k d) d inside, same));
        }

    pub same_again : IsGiven tree trees → AreTreesOf (marks ++ here ∷ []) trees
    same_again (k, known, inside, at, same) = record {
      each = so_far.each;
      all = λ ms m has are is.
          all_more trees (λ m some. some) (λ m is. (k, known, inside, at, same_opened same is)) ms m (Contains-push_cases marks here ms has) are is;
      once = so_far.once;
    }

  module _ (readings : List (List TreeMark)) (i : ℕ) (d : List TreeMark) (inside : i < length readings) (trees : List Parts) (tree : Parts)
      (are : MeanReadings g of entry (kinds (visible tokens)) readings) (so_far : AreTreesOf (take i readings) trees)
      (opened : (m : List Mark) → AreMeant g (get_or readings i d) m → IsReading g of entry (kinds (visible tokens)) m → IsOpened m tree) where
    abbrev AreNext : List Parts → Type 0
    AreNext more = AreTreesOf (take (i + 1) readings) more

    pub next_tree : ¬ IsGiven tree trees → AreNext (trees ++ tree ∷ [])
    next_tree new =
        subst (λ (ms : List (List TreeMark)). AreTreesOf ms (trees ++ tree ∷ [])) (sym (take_more readings i d inside))
        (one_more (take i readings) (get_or readings i d) trees tree so_far (are.each i d inside) opened new)

    pub known_tree : IsGiven tree trees → AreNext trees
    known_tree among =
        subst (λ (ms : List (List TreeMark)). AreTreesOf ms trees) (sym (take_more readings i d inside))
        (same_again (take i readings) (get_or readings i d) trees tree so_far (are.each i d inside) opened among)

  pub all_trees : (readings : List (List TreeMark)) (i : ℕ) (trees : List Parts) → length readings ≤ i → MeanReadings g of entry (kinds (visible tokens)) readings →
      AreTreesOf (take i readings) trees → AreOpenTrees g of entry text tokens trees
  all_trees readings i trees past are so_far = record { each = so_far.each; all = λ m is. found m is (are.all m is); once = so_far.once }
    where
      found : (m : List Mark) → IsReading g of entry (kinds (visible tokens)) m → Any (λ (marks : List TreeMark). AreMeant g marks m) readings → Any (IsOpened m) trees
      found m is (n, ms, inside, at, means) =
          so_far.all ms m (subst (λ (xs : List (List TreeMark)). Contains xs ms) (sym (take_all i readings past)) (n, inside, at)) means is
