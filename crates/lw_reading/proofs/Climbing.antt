-- Each element of a rule can be read in its place.
use Rattle.std.proofs.Common.{◌≡◌, ℕ, false, List, [], ◌∷◌, ◌++◌, Some, None, slice_get, refl, sym, subst, ◌∙◌, true≢false}
use Rattle.lw_base.specs.declared.token.Span.{Span}
use Rattle.lw_grammar.specs.declared.grammar.Grammar.{Grammar}
use Rattle.lw_grammar.specs.declared.rule.Element.{Element}
use Rattle.lw_grammar.specs.declared.rule.Element.TheOpen as layer
use Rattle.lw_grammar.specs.declared.rule.Element.TheOpen.{Element-F}
use Rattle.lw_grammar.specs.declared.rule.Rule.{Rule}
use Rattle.lw_grammar.specs.declared.rule.Value0.{Value0, out-Value0}
use Rattle.lw_grammar.specs.declared.rule.Value0.TheOpen.{Value0-F}
use Rattle.lw_grammar.specs.Kinds.{Kinds}
use Rattle.lw_grammar.specs.Leaves as leaf
use Rattle.lw_grammar.specs.Leaves.{Leaf, leaves}
use Rattle.lw_grammar.specs.Named.{IsRule}
use Rattle.lw_grammar.specs.Nodes.{MakesNodes}
use Rattle.lw_grammar.specs.Reached as reached
use Rattle.lw_grammar.specs.Marks.{Mark, Open, Shut}
use Rattle.lw_grammar.specs.Yields.{Yields, Gives, YieldsAll, Repeats, Calls, RuleGives, ValueYields, ValueGives}
use Rattle.lw_grammar.specs.Yields as y
use Rattle.lw_faults.specs.Misplaced.{FillsNode}
use Rattle.lw_faults.specs.Misplaced as fills
use Rattle.lw_faults.specs.Steps.{Step, step, PutsInFragment, GoesThrough, GoesLayer, GoesAll, GoesAgain, ComesLayer, ComesAlong, CallsNode}
use Rattle.lw_faults.specs.Steps as steps
use Rattle.lw_base.proofs.Lists.{among}
use Rattle.lw_reading.specs.Grown.{Nothing}
use Rattle.lw_reading.specs.Brackets.{InNode, in_node}
use Rattle.lw_reading.specs.Follows as f
use Rattle.lw_reading.proofs.GoesOn.{CanClose, HoldsNode, GoesOn, AllTokens, tokens_alone}
use Rattle.lw_reading.proofs.GoesOn as on
use Rattle.lw_reading.proofs.Quiet.{makes_none_quiet, tokens_of}
use Rattle.lw_reading.proofs.Acting.{no_fragment_rule, no_fragment_terminal, acts_climb}
use Rattle.lw_reading.proofs.Meant.{IsRead}
use Rattle.lw_reading.proofs.Meant as read
use Rattle.lw_reading.proofs.Rootable.{IsRootable}
use Rattle.lw_reading.proofs.Climbs.{Reaches, Stands, StandsLayer, StandsRow, StandsAgain, is_behind, put_in, rule_begins, at_once, row_behind, turn_next, turns_behind, fills_last, Climbs, in_turn, alone_climbs}
use Rattle.lw_reading.proofs.Nodes.{node_holds, opened, shut}
use Rattle.lw_reading.proofs.Valued.{IsFit, ValueGoes, ReadsValue, fit_part, fit_at, calls_here, crosses_here, token_goes, node_goes, put_climbs}

module _ (g : Grammar) (kinds : Kinds) (text : List ℕ) (root : IsRootable g) where
  -- steps of an element in its place, and of its form, of a row, of a repetition, which its marks go
  abbrev Way : Rule → List Step → Rule → Element → List Mark → Type 0
  Way rule before inside e m = (done : List Step) × GoesThrough g inside e done × Climbs g text before done m

  abbrev WayLayer : Rule → List Step → Rule → Element-F Element → List Mark → Type 0
  WayLayer rule before inside f m = (done : List Step) × GoesLayer g inside f done × Climbs g text before done m

  abbrev WayRow : Rule → List Step → Rule → List Element → List Mark → Type 0
  WayRow rule before inside es m = (done : List Step) × GoesAll g inside es done × Climbs g text before done m

  abbrev WayAgain : Rule → List Step → Rule → Element → List Mark → Type 0
  WayAgain rule before inside e m = (done : List Step) × GoesAgain g inside e done × Climbs g text before done m

  -- a call of a rule that makes nodes: its node takes the place of the one that is open, which holds nothing
  node_climbs : {name : List ℕ} {s : Span} (r : ℕ) (rule : Rule) (done : List Step) {m : List Mark} {caller inside : Rule} (before : List Step) →
      Reaches g caller before inside (leaf.Call name s) → ¬ PutsInFragment g (leaf.Call name s) → CallsNode g (leaf.Call name s) rule →
      slice_get g.rules r ≡ Some rule → rule.is_fragment ≡ false → MakesNodes g rule → Climbs g text [] done m →
      Climbs g text before (step inside (leaf.Call name s) ∷ []) (Open r ∷ m ++ Shut ∷ [])
  node_climbs {name} {s} r rule done {m} {caller} {inside} before reach single calls at is makes climbs ts us bs type from held reads holds empty =
      let at_first : held ≡ Nothing = empty (root.behind caller inside rule before name s (is_behind g reach single) calls) in
      let o = opened g text root r rule done at is makes climbs ts us (InNode type from Nothing ∷ bs) reads (node_holds g text holds) in
      record {
        type_ = o.type;
        held_ = o.held;
        goes = subst (λ held. GoesOn g text ts (InNode type from held ∷ bs) (Open r ∷ m ++ Shut ∷ []) us (InNode o.type from o.held ∷ bs)) (sym at_first)
            (shut g text o in_node (holds o.type from o.held));
        empty = λ none. absurd (none (fills_last g before (step inside (leaf.Call name s)) (fills.calls calls)));
      }

  mutual
    climb : {e : Element} {m : List Mark} → Yields g kinds e m → (rule : Rule) (before : List Step) (inside : Rule) → Stands g rule before inside e →
        Way rule before inside e m
    climb (y.yields p) rule before inside stands =
        let (done, through, climbs) = climb_layer p rule before inside (λ b l gets. stands b l (steps.comes gets)) in (done, steps.goes through, climbs)

    climb_layer : {f : Element-F Element} {m : List Mark} → Gives g kinds f m → (rule : Rule) (before : List Step) (inside : Rule) →
        StandsLayer g rule before inside f → WayLayer rule before inside f m
    climb_layer (y.keyword is) rule before inside stands = ([], GoesLayer.keyword, alone_climbs g text before [] (on.more on.none))
    climb_layer (y.called {s} p) rule before inside stands = climb_call p rule before inside s (at_once g before stands ComesLayer.called)
    climb_layer (y.assigned {p = q} {op} {v} {s} p) rule before inside stands =
        let reach = at_once g before stands ComesLayer.assigned in
        (step inside (leaf.Assign q op v s) ∷ [], GoesLayer.assigned, put_climbs g text before reach (read_value p (fit_at g root reach)))
    climb_layer (y.acted {a}) rule before inside stands =
        (step inside (leaf.Act a) ∷ [], GoesLayer.acted, acts_climb g text before (at_once g before stands ComesLayer.acted))
    climb_layer (y.grouped p) rule before inside stands =
        let (done, through, climbs) = climb_row p rule before inside (λ b l gets. stands b l (ComesLayer.grouped gets)) in (done, GoesLayer.grouped through, climbs)
    climb_layer (y.chosen has p) rule before inside stands =
        let (done, through, climbs) = climb p rule before inside (λ b l gets. stands b l (ComesLayer.chosen has gets)) in (done, GoesLayer.chosen has through, climbs)
    climb_layer y.skipped rule before inside stands = ([], GoesLayer.skipped, alone_climbs g text before [] on.none)
    climb_layer (y.taken p) rule before inside stands =
        let (done, through, climbs) = climb p rule before inside (λ b l gets. stands b l (ComesLayer.taken gets)) in (done, GoesLayer.taken through, climbs)
    climb_layer (y.repeated p) rule before inside stands =
        let (done, through, climbs) = climb_again p rule before inside (λ turns b l others gets. stands (turns ++ b) l (ComesLayer.repeated others gets)) in
        (done, GoesLayer.repeated through, climbs)
    climb_layer (y.repeated_once {e} p q) rule before inside stands =
        let turns : StandsAgain g rule before inside e = λ turns b l others gets. stands (turns ++ b) l (ComesLayer.repeated_once others gets) in
        let (first, through, climbs) = climb p rule before inside (turn_next g before turns) in
        let (others, behind, more) = climb_again q rule (before ++ first) inside (turns_behind g before first turns through) in
        (first ++ others, GoesLayer.repeated_once through behind, in_turn g text before first others climbs more)

    climb_row : {es : List Element} {m : List Mark} → YieldsAll g kinds es m → (rule : Rule) (before : List Step) (inside : Rule) →
        StandsRow g rule before inside es → WayRow rule before inside es m
    climb_row y.none rule before inside stands = ([], GoesAll.none, alone_climbs g text before [] on.none)
    climb_row (y.more p q) rule before inside stands =
        let (first, through, climbs) = climb p rule before inside (λ b l gets. stands b l (ComesAlong.here gets)) in
        let (others, behind, more) = climb_row q rule (before ++ first) inside (row_behind g before first stands through) in
        (first ++ others, GoesAll.more through behind, in_turn g text before first others climbs more)

    climb_again : {e : Element} {m : List Mark} → Repeats g kinds e m → (rule : Rule) (before : List Step) (inside : Rule) →
        StandsAgain g rule before inside e → WayAgain rule before inside e m
    climb_again y.stop rule before inside stands = ([], GoesAgain.stop, alone_climbs g text before [] on.none)
    climb_again (y.again p q) rule before inside stands =
        let (first, through, climbs) = climb p rule before inside (turn_next g before stands) in
        let (others, behind, more) = climb_again q rule (before ++ first) inside (turns_behind g before first stands through) in
        (first ++ others, GoesAgain.again through behind, in_turn g text before first others climbs more)

    climb_call : {name : List ℕ} {m : List Mark} → Calls g kinds name m → (rule : Rule) (before : List Step) (inside : Rule) (s : Span) →
        Reaches g rule before inside (leaf.Call name s) → WayLayer rule before inside (layer.Call name s) m
    climb_call {name} (y.terminal is) rule before inside s reach = (
      step inside (leaf.Call name s) ∷ [],
      GoesLayer.called (no_fragment_terminal g s is.meant),
      alone_climbs g text before (step inside (leaf.Call name s) ∷ []) (on.more on.none),
    )
    climb_call (y.rule_ r called is p) rule before inside s reach = climb_rule p is rule before inside s reach

    climb_rule : {name : List ℕ} {r : ℕ} {called : Rule} {m : List Mark} → RuleGives g kinds r called m → IsRule g name r called → (rule : Rule)
        (before : List Step) (inside : Rule) (s : Span) → Reaches g rule before inside (leaf.Call name s) → WayLayer rule before inside (layer.Call name s) m
    climb_rule {r} {called} (y.fragment whole p) is rule before inside s reach =
        let (done, through, climbs) = climb p rule before called (put_in g r called reach (is, whole)) in (done, GoesLayer.put_in r called (is, whole) through, climbs)
    climb_rule {name} {called} (y.data_type whole none p) is rule before inside s reach = (
      step inside (leaf.Call name s) ∷ [],
      GoesLayer.called (no_fragment_rule g s is whole),
      alone_climbs g text before (step inside (leaf.Call name s) ∷ []) (tokens_of g kinds text p (makes_none_quiet g called none)),
    )
    climb_rule {name} {r} {called} (y.node whole makes p) is rule before inside s reach =
        let (done, through, climbs) = climb p called [] called (rule_begins g called (among g.rules r called is.first.there) whole) in
        let single = no_fragment_rule g s is whole in (
          step inside (leaf.Call name s) ∷ [],
          GoesLayer.called single,
          node_climbs r called done before reach single (steps.node r called is whole makes) is.first.there whole makes climbs,
        )

    read_value : {v c : Value0} {m : List Mark} → ValueYields g kinds v c m → IsFit g v → ReadsValue g text c m
    read_value (y.reads p) fit = read_layer p refl fit

    read_layer : {v c : Value0} {f : Value0-F Value0} {m : List Mark} → ValueGives g kinds v f c m → out-Value0 v ≡ f → IsFit g v → ReadsValue g text c m
    read_layer (y.keyword_value kind) is fit = record { read = read.word is; goes = token_goes g text (on.more on.none) }
    read_layer (y.call_value {name} p) is fit =
        record { read = read.call is (called_by p); goes = read_call p (λ r called named. fit.whole name r called (calls_here g is) named) }
    read_layer (y.cross_value {v} {wanted} {name} {s} p) is fit =
        let (n, number) = fit.wanted wanted (Some name) s (crosses_here g v is) in
        record {
          read = read.refers n (f.written is) number (called_by p);
          goes = read_call p (λ r called named. fit.whole name r called (reached.crosses wanted s (crosses_here g v is)) named);
        }
    read_layer (y.cross_by_name {v} {wanted} {s} name names p) is fit =
        let (n, number) = fit.wanted wanted None s (crosses_here g v is) in
        record {
          read = read.refers n (f.by_type is names) number (called_by p);
          goes = read_call p (λ r called named. fit.whole name r called (reached.crosses_by_name wanted s (crosses_here g v is) names) named);
        }
    read_layer (y.chosen_value has p) is fit = read_value p (fit_part g is has fit)

    called_by : {name : List ℕ} {m : List Mark} → Calls g kinds name m → IsRead g text name
    called_by (y.terminal is) = read.by_terminal is.place is.terminal is.meant
    called_by (y.rule_ r rule is p) = read.by_rule r rule is

    read_call : {name : List ℕ} {m : List Mark} → Calls g kinds name m → ((r : ℕ) (called : Rule) → IsRule g name r called → called.is_fragment ≡ false) →
        ValueGoes g text m
    read_call (y.terminal is) whole = token_goes g text (on.more on.none)
    read_call (y.rule_ r called is p) whole = read_rule p is.first.there (whole r called is)

    read_rule : {r : ℕ} {called : Rule} {m : List Mark} → RuleGives g kinds r called m → slice_get g.rules r ≡ Some called → called.is_fragment ≡ false →
        ValueGoes g text m
    read_rule (y.fragment put p) at whole = absurd (true≢false (sym put ∙ whole))
    read_rule {called} (y.data_type put none p) at whole = token_goes g text (tokens_of g kinds text p (makes_none_quiet g called none))
    read_rule {r} {called} (y.node put makes p) at whole =
        let (done, through, climbs) = climb p called [] called (rule_begins g called (among g.rules r called at) whole) in
        node_goes g text root r called done at whole makes climbs

  -- the node of a rule, with which a text begins
  pub climb_root : (r : ℕ) (rule : Rule) {m : List Mark} → slice_get g.rules r ≡ Some rule → rule.is_fragment ≡ false → Yields g kinds rule.body m →
      (done : List Step) × Climbs g text [] done m
  climb_root r rule at whole p = let (done, through, climbs) = climb p rule [] rule (rule_begins g rule (among g.rules r rule at) whole) in (done, climbs)
