-- What is gathered from rules is the row of kinds.
use Rattle.std.proofs.Common.{◌≡◌, ℕ, ◌+◌, inl, inr, List, [], ◌∷◌, ◌++◌, Bool, false, Some, length, slice_get, Contains, refl, sym, ap, ◌∙◌, subst, arith}
use Rattle.std.specs.Prelude.{replicate}
use Rattle.std.specs.List.{flat_map}
use Rattle.std.proofs.lemmas.List.{append-nil, take_all, length-replicate}
use Rattle.std.proofs.lemmas.List.Concat.{flat_map-append}
use Rattle.std.proofs.lemmas.Option.{same_Some, slice_get_within}
use Rattle.lw_grammar.specs.declared.grammar.Grammar.{Grammar}
use Rattle.lw_grammar.specs.declared.rule.Rule.{Rule}
use Rattle.lw_grammar.specs.declared.terminal.Terminal.{Terminal}
use Rattle.lw_grammar.specs.Kept.{KeepsPassing}
use Rattle.lw_grammar.specs.Kept as keep
use Rattle.lw_grammar.specs.Kinds.{IsKindTerminal}
use Rattle.lw_grammar.specs.Kinds as kind
use Rattle.lw_grammar.specs.Leaves.{leaves}
use Rattle.lw_grammar.specs.Reached.{IsReached}
use Rattle.lw_graph.specs.Walks.{HasNode}
use Rattle.lw_kinds.specs.Edges.{SomeBelow}
use Rattle.lw_kinds.proofs.BelowLemmas.{below_none, below_more}
use Rattle.lw_kinds.specs.declared.gathering.Gathered.{Gathered}
use Rattle.lw_kinds.specs.Calls.{RuleMarks}
use Rattle.lw_kinds.specs.Gathering.{GathersLeaves, IsGatheredBelow, IsKindBy, ArePlacesBelow, put_uses}
use Rattle.lw_kinds.specs.Rows.{AreKindRowOf}
use Rattle.lw_kinds.specs.Uses.{Use, IsFirstUse, rule_keyword_uses}
use Rattle.lw_kinds.proofs.CalledTerminals.{rule_terminals}
use Rattle.lw_kinds.proofs.FirstTexts.{texts_of, texts-first, put_uses-append, each_first}
use Rattle.lw_kinds.proofs.KeptSteps.{keep_next, leave_next, keeps_same}
use Rattle.lw_kinds.proofs.MarkLemmas.{none_marked}
use Rattle.lw_kinds.proofs.UseTexts.{texts-rules}

module _ (g : Grammar) where
  -- ---- rules, one after the other

  pub gathered_none : (gathered : Gathered) → gathered.keywords.entries ≡ [] → gathered.called.items ≡ replicate (length g.terminals) false →
      IsGatheredBelow g 0 gathered
  gathered_none gathered empty unmarked = record {
    rules = [];
    reached = keep.nothing;
    keywords = empty;
    size = ap length unmarked ∙ length-replicate (length g.terminals) false;
    called = λ t. (
      λ has. absurd (none_marked (length g.terminals) t (subst (λ flags. HasNode flags t) unmarked has)),
      λ some. absurd (below_none (λ r rule. RuleMarks g r rule t) g.rules some),
    );
  }

  module _ (i : ℕ) (rule : Rule) (there : slice_get g.rules i ≡ Some rule) (old new : Gathered) (before : IsGatheredBelow g i old) where
    pub gathered_more : IsReached g i → GathersLeaves g rule.file (leaves rule.body) old new → IsGatheredBelow g (i + 1) new
    gathered_more is gathers = record {
      rules = before.rules ++ rule ∷ [];
      reached = keep_next (IsReached g) g.rules before.rules i rule there is before.reached;
      keywords =
          gathers.keywords
          ∙ ap (λ uses. put_uses uses (rule_keyword_uses rule)) before.keywords
          ∙ sym (put_uses-append [] (flat_map rule_keyword_uses before.rules) (rule_keyword_uses rule))
          ∙ ap (λ uses. put_uses [] (flat_map rule_keyword_uses before.rules ++ uses)) (sym (append-nil (rule_keyword_uses rule)))
          ∙ ap (put_uses []) (sym (flat_map-append rule_keyword_uses before.rules (rule ∷ [])));
      size = gathers.marks.size ∙ before.size;
      called = λ t. (forth t, back t);
    }
      where
        forth : (t : ℕ) → HasNode new.called.items t → SomeBelow (λ r x. RuleMarks g r x t) g.rules (i + 1)
        forth t has = elim ((gathers.marks.exact t).0 has) [
          | inl had ↦ (below_more (λ r x. RuleMarks g r x t) g.rules i rule there).1 (inl ((before.called t).0 had))
          | inr calls ↦ (below_more (λ r x. RuleMarks g r x t) g.rules i rule there).1 (inr (is, (rule_terminals g rule t).0 calls))
        ]

        back : (t : ℕ) → SomeBelow (λ r x. RuleMarks g r x t) g.rules (i + 1) → HasNode new.called.items t
        back t some = elim ((below_more (λ r x. RuleMarks g r x t) g.rules i rule there).0 some) [
          | inl sooner ↦ (gathers.marks.exact t).1 (inl ((before.called t).1 sooner))
          | inr marks ↦ (gathers.marks.exact t).1 (inr ((rule_terminals g rule t).1 marks.1))
        ]

    pub gathered_same : ¬ IsReached g i → new ≡ old → IsGatheredBelow g (i + 1) new
    gathered_same lacks same = subst (IsGatheredBelow g (i + 1)) (sym same) (record {
      rules = before.rules;
      reached = leave_next (IsReached g) g.rules before.rules i rule there lacks before.reached;
      keywords = before.keywords;
      size = before.size;
      called = λ t. (λ has. (below_more (λ r x. RuleMarks g r x t) g.rules i rule there).1 (inl ((before.called t).0 has)), back t);
    })
      where
        back : (t : ℕ) → SomeBelow (λ r x. RuleMarks g r x t) g.rules (i + 1) → HasNode old.called.items t
        back t some = elim ((below_more (λ r x. RuleMarks g r x t) g.rules i rule there).0 some) [
          | inl sooner ↦ (before.called t).1 sooner
          | inr marks ↦ absurd (lacks marks.0)
        ]

  -- ---- the whole row

  module _ (gathered : Gathered) (all : IsGatheredBelow g (length g.rules) gathered) where
    kind_by : (t : ℕ) → IsKindBy gathered.called.items g.terminals t → IsKindTerminal g t
    kind_by t (terminal, there, whole, inl hidden) = kind.hidden terminal there whole hidden
    kind_by t (terminal, there, whole, inr marked) = by ((all.called t).0 marked)
      where
        by : SomeBelow (λ r rule. RuleMarks g r rule t) g.rules (length g.rules) → IsKindTerminal g t
        by (r, rule, below, at, (is, (name, does, other, means))) =
            let same : terminal ≡ other = same_Some terminal other (sym there ∙ means.first.there) in
            kind.called other name r rule means (ap (λ (x : Terminal). x.is_fragment) (sym same) ∙ whole) is at does

    by_kind : (t : ℕ) → IsKindTerminal g t → IsKindBy gathered.called.items g.terminals t
    by_kind t (kind.hidden terminal there whole hidden) = (terminal, there, whole, inl hidden)
    by_kind t (kind.called terminal name r rule means whole is at does) =
        (terminal, means.first.there, whole, inr ((all.called t).1 (r, rule, slice_get_within g.rules r rule at, at, (is, (name, does, terminal, means)))))

    module _ (places : List ℕ) (are : ArePlacesBelow (IsKindBy gathered.called.items g.terminals) g.terminals (length g.terminals) places) where
      reached : KeepsPassing (IsReached g) g.rules all.rules
      reached = subst (λ rules. KeepsPassing (IsReached g) rules all.rules) (take_all (length g.rules) g.rules (omega arith)) all.reached

      kept : KeepsPassing (IsKindTerminal g) g.terminals are.kept
      kept =
          keeps_same (λ k x at is. kind_by (0 + k) is) (λ k x at is. by_kind (0 + k) is)
          (subst (λ terminals. KeepsPassing (IsKindBy gathered.called.items g.terminals) terminals are.kept) (take_all (length g.terminals) g.terminals (omega arith)) are.keeps)

      first : (word : Use) → Contains gathered.keywords.entries word → IsFirstUse g word
      first word has =
          let found = each_first (flat_map rule_keyword_uses all.rules) word (subst (λ uses. Contains uses word) all.keywords has) in
          record { rules = all.rules; reached = reached; place = found.0; first = found.1 }

      row_of : AreKindRowOf g (record { keywords = gathered.keywords.entries; terminals = places })
      row_of = record {
        kinds = record { keywords = texts_of gathered.keywords.entries; terminals = are.kept };
        are = record {
          rules = all.rules;
          reached = reached;
          keywords = ap texts_of all.keywords ∙ texts-first (flat_map rule_keyword_uses all.rules) ∙ ap (kind.first_uses []) (texts-rules all.rules);
          terminals = kept;
        };
        texts = refl;
        first = first;
        terminals = are.items;
        ascending = are.ascending;
        exact = λ t. (
          λ has. kind_by t ((are.exact t).0 has).1,
          λ is. let by = by_kind t is in (are.exact t).1 (slice_get_within g.terminals t by.0 by.1, by),
        );
      }

  -- by what stands for the terminals and for their marks
  pub row_from : (gathered : Gathered) → IsGatheredBelow g (length g.rules) gathered → (terminals : List Terminal) (called : List Bool) (places : List ℕ) →
      terminals ≡ g.terminals → called ≡ gathered.called.items → ArePlacesBelow (IsKindBy called terminals) terminals (length terminals) places →
      AreKindRowOf g (record { keywords = gathered.keywords.entries; terminals = places })
  row_from gathered all terminals called places these those are =
      row_of gathered all places
      (subst (λ xs. ArePlacesBelow (IsKindBy gathered.called.items xs) xs (length xs) places) these
      (subst (λ flags. ArePlacesBelow (IsKindBy flags terminals) terminals (length terminals) places) those are))
