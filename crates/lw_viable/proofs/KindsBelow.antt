-- Marks have no kind past those of the grammar.
use Rattle.std.proofs.Common.{ℕ, ◌<◌, List, [], ◌∷◌, ◌++◌, All, sym, subst, arith}
use Rattle.std.proofs.lemmas.List.Elements.{All-nil, All-cons, All-append, All-contains, Contains-append_left, Contains-push}
use Rattle.std.proofs.lemmas.Option.{slice_get_within}
use Rattle.lw_grammar.specs.declared.grammar.Grammar.{Grammar}
use Rattle.lw_grammar.specs.declared.rule.Element.{Element}
use Rattle.lw_grammar.specs.declared.rule.Element.TheOpen.{Element-F}
use Rattle.lw_grammar.specs.declared.rule.Rule.{Rule}
use Rattle.lw_grammar.specs.declared.rule.Value0.{Value0}
use Rattle.lw_grammar.specs.declared.rule.Value0.TheOpen.{Value0-F}
use Rattle.lw_grammar.specs.Kinds.{Kinds, IsKeywordKind, IsTerminalKind, kind_count}
use Rattle.lw_grammar.specs.Marks.{Mark, Token, End, Shut, kinds_of}
use Rattle.lw_grammar.specs.Yields.{Yields, Gives, YieldsAll, Repeats, Calls, RuleGives, ValueYields, ValueGives}
use Rattle.lw_grammar.specs.Yields as y
use Rattle.lw_grammar.proofs.Joined.{kinds_join}
use Rattle.lw_look.specs.Things.{Leave}
use Rattle.lw_look.specs.Things as t
use Rattle.lw_program.specs.declared.instr.Instr.{Instr}
use Rattle.lw_program.specs.ProgramOf.{ProgramParts, IsProgramOf}
use Rattle.lw_program.specs.Says.{Task, Does, SaysTask}
use Rattle.lw_program.specs.Says as say
use Rattle.lw_viable.specs.Gives.{TaskGives, PlacesGive}
use Rattle.lw_viable.specs.Gives as gives
use Rattle.lw_viable.specs.Aims.{Aim, Sentence, Places, Fulfils, BeginsSome}
use Rattle.lw_viable.proofs.Moves.Saying.{instr_at}

module _ (g : Grammar) (kinds : Kinds) where
  abbrev IsBelow : ℕ → Type 0
  IsBelow k = k < kind_count kinds

  abbrev pub AreBelow : List Mark → Type 0
  AreBelow m = All IsBelow (kinds_of m)

  both_below : (m n : List Mark) → AreBelow m → AreBelow n → AreBelow (m ++ n)
  both_below m n own others = subst (All IsBelow) (sym (kinds_join m n)) (All-append IsBelow (kinds_of m) (kinds_of n) own others)

  token_below : (k : ℕ) → k < kind_count kinds → AreBelow (Token k ∷ [])
  token_below k below = All-cons IsBelow k [] below (All-nil IsBelow)

  keyword_below : {text : List ℕ} (k : ℕ) → IsKeywordKind kinds text k → k < kind_count kinds
  keyword_below {text} k is = let within = slice_get_within kinds.keywords k text is in omega arith

  terminal_below : {name : List ℕ} (k : ℕ) → IsTerminalKind g kinds name k → k < kind_count kinds
  terminal_below k is = let within = slice_get_within kinds.terminals is.number is.terminal is.kept.there in let behind = is.behind in omega arith

  mutual
    yields_below : {e : Element} {m : List Mark} → Yields g kinds e m → AreBelow m
    yields_below (y.yields p) = gives_below p

    gives_below : {f : Element-F Element} {m : List Mark} → Gives g kinds f m → AreBelow m
    gives_below (y.keyword {k} is) = token_below k (keyword_below k is)
    gives_below (y.called p) = calls_below p
    gives_below (y.assigned {m} r) = both_below m (End ∷ []) (value_below r) (All-nil IsBelow)
    gives_below y.acted = All-nil IsBelow
    gives_below (y.grouped p) = all_below p
    gives_below (y.chosen has p) = yields_below p
    gives_below y.skipped = All-nil IsBelow
    gives_below (y.taken p) = yields_below p
    gives_below (y.repeated p) = repeats_below p
    gives_below (y.repeated_once {m} {n} p q) = both_below m n (yields_below p) (repeats_below q)

    all_below : {es : List Element} {m : List Mark} → YieldsAll g kinds es m → AreBelow m
    all_below y.none = All-nil IsBelow
    all_below (y.more {m} {n} p q) = both_below m n (yields_below p) (all_below q)

    repeats_below : {e : Element} {m : List Mark} → Repeats g kinds e m → AreBelow m
    repeats_below y.stop = All-nil IsBelow
    repeats_below (y.again {m} {n} p q) = both_below m n (yields_below p) (repeats_below q)

    calls_below : {name : List ℕ} {m : List Mark} → Calls g kinds name m → AreBelow m
    calls_below (y.terminal {k} is) = token_below k (terminal_below k is)
    calls_below (y.rule_ r rule is p) = rule_below p

    rule_below : {r : ℕ} {rule : Rule} {m : List Mark} → RuleGives g kinds r rule m → AreBelow m
    rule_below (y.fragment is p) = yields_below p
    rule_below (y.data_type is makes p) = yields_below p
    rule_below (y.node {m} is makes p) = both_below m (Shut ∷ []) (yields_below p) (All-nil IsBelow)

    value_below : {v c : Value0} {m : List Mark} → ValueYields g kinds v c m → AreBelow m
    value_below (y.reads r) = value_layer_below r

    value_layer_below : {v c : Value0} {f : Value0-F Value0} {m : List Mark} → ValueGives g kinds v f c m → AreBelow m
    value_layer_below (y.keyword_value {k} is) = token_below k (keyword_below k is)
    value_layer_below (y.call_value p) = calls_below p
    value_layer_below (y.cross_value p) = calls_below p
    value_layer_below (y.cross_by_name name is p) = calls_below p
    value_layer_below (y.chosen_value has r) = value_below r

  leave_below : {tasks : List Task} {l : Mark} {i : Instr} → SaysTask g kinds tasks (Does (Leave l)) i → AreBelow (l ∷ [])
  leave_below say.ends = All-nil IsBelow
  leave_below say.shuts = All-nil IsBelow

  task_below : {tasks : List Task} {t : Task} {i : Instr} {m : List Mark} → SaysTask g kinds tasks t i → TaskGives g kinds t m → AreBelow m
  task_below says (gives.does (t.element stands p)) = yields_below p
  task_below says (gives.does (t.value_ {m} stands r)) = both_below m (End ∷ []) (value_below r) (All-nil IsBelow)
  task_below says (gives.does (t.repeats at r)) = repeats_below r
  task_below says (gives.does t.leaves) = leave_below says
  task_below says (gives.reads stands r) = value_below r

  module _ (program : ProgramParts) (is : IsProgramOf g kinds program) where
    places_below : {ps : List ℕ} {m : List Mark} → PlacesGive g kinds is.tasks ps m → AreBelow m
    places_below gives.nothing = All-nil IsBelow
    places_below (gives.more {p} {m} {n} stands own give) =
        let (i, here, says) = instr_at g kinds program is p stands in both_below m n (task_below says own) (places_below give)

    whole_below : (aim : Aim) (m : List Mark) → Fulfils g kinds is.tasks aim m → AreBelow m
    whole_below Sentence m sentence = rule_below sentence.gives
    whole_below (Places places) m give = places_below give

    -- a kind that comes next is one of the grammar
    pub next_below : (aim : Aim) (ks : List ℕ) (k : ℕ) → BeginsSome (Fulfils g kinds is.tasks aim) (ks ++ k ∷ []) → k < kind_count kinds
    next_below aim ks k (ls, (m, whole, are)) =
        All-contains IsBelow (ks ++ k ∷ [] ++ ls) k (subst (All IsBelow) are (whole_below aim m whole)) (Contains-append_left (ks ++ k ∷ []) ls k (Contains-push ks k))
