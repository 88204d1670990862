-- What gives no marks may read no token.
use Rattle.std.proofs.Common.{◌≡◌, ℕ, List, [], ◌∷◌, ◌++◌, length, ap, arith}
use Rattle.lw_grammar.specs.declared.grammar.Grammar.{Grammar}
use Rattle.lw_grammar.specs.declared.rule.Element.{Element}
use Rattle.lw_grammar.specs.declared.rule.Element.TheOpen.{Element-F}
use Rattle.lw_grammar.specs.declared.rule.Rule.{Rule}
use Rattle.lw_grammar.specs.Kinds.{Kinds}
use Rattle.lw_faults.specs.Reads.{MayRead, ReadsLayer, ReadsAll, ReadsAgain, CallReads}
use Rattle.lw_faults.specs.Reads as read
use Rattle.lw_grammar.specs.Marks.{Mark}
use Rattle.lw_grammar.specs.Yields.{Yields, Gives, YieldsAll, Repeats, Calls, RuleGives}
use Rattle.lw_grammar.specs.Yields as y

front_is : (m n : List Mark) → m ++ n ≡ [] → m ≡ []
front_is [] n none = cc
front_is (x ∷ m) n none = absurd (omega (arith, ap length none))

back_is : (m n : List Mark) → m ++ n ≡ [] → n ≡ []
back_is [] n none = none
back_is (x ∷ m) n none = absurd (omega (arith, ap length none))

not_none : {A : Type 0} (x : Mark) (m : List Mark) → x ∷ m ≡ [] → A
not_none x m none = absurd (omega (arith, ap length none))

module _ (g : Grammar) (kinds : Kinds) where
  mutual
    pub silent_reads : {e : Element} {m : List Mark} → Yields g kinds e m → m ≡ [] → MayRead g e 0
    silent_reads (y.yields p) none = read.reads (layer p none)

    layer : {f : Element-F Element} {m : List Mark} → Gives g kinds f m → m ≡ [] → ReadsLayer g f 0
    layer (y.keyword is) none = not_none _ _ none
    layer (y.called p) none = ReadsLayer.called (call p none)
    layer (y.assigned p) none = not_none _ _ none
    layer (y.acted) none = ReadsLayer.acted
    layer (y.grouped p) none = ReadsLayer.grouped (row p none)
    layer (y.chosen has p) none = ReadsLayer.chosen has (silent_reads p none)
    layer y.skipped none = ReadsLayer.skipped
    layer (y.taken p) none = ReadsLayer.taken (silent_reads p none)
    layer (y.repeated p) none = ReadsLayer.repeated (again p none)
    layer (y.repeated_once {m} {n} p q) none = ReadsLayer.repeated_once (silent_reads p (front_is m n none)) (again q (back_is m n none))

    row : {es : List Element} {m : List Mark} → YieldsAll g kinds es m → m ≡ [] → ReadsAll g es 0
    row y.none none = ReadsAll.none
    row (y.more {m} {n} p q) none = ReadsAll.more (silent_reads p (front_is m n none)) (row q (back_is m n none))

    again : {e : Element} {m : List Mark} → Repeats g kinds e m → m ≡ [] → ReadsAgain g e 0
    again y.stop none = ReadsAgain.stop
    again (y.again {m} {n} p q) none = ReadsAgain.again (silent_reads p (front_is m n none)) (again q (back_is m n none))

    call : {name : List ℕ} {m : List Mark} → Calls g kinds name m → m ≡ [] → CallReads g name 0
    call (y.terminal is) none = not_none _ _ none
    call (y.rule_ r rule is p) none = CallReads.rule_ r rule is (rule_ p none)

    rule_ : {r : ℕ} {rule : Rule} {m : List Mark} → RuleGives g kinds r rule m → m ≡ [] → MayRead g rule.body 0
    rule_ (y.fragment put p) none = silent_reads p none
    rule_ (y.data_type whole not p) none = silent_reads p none
    rule_ (y.node whole makes p) none = not_none _ _ none
