-- What is known where an element of a rule is read, and what its marks do to the node that is open there.
use Rattle.std.proofs.Common.{◌≡◌, ℕ, false, List, [], ◌∷◌, ◌++◌, Any, Contains, refl, sym, ap, subst, ◌∙◌, arith}
use Rattle.std.proofs.lemmas.List.{append-nil, append_assoc}
use Rattle.std.proofs.lemmas.List.Elements.{Contains-append_left, Contains-append_right}
use Rattle.lw_base.specs.declared.token.Token.{Token}
use Rattle.lw_grammar.specs.declared.grammar.Grammar.{Grammar}
use Rattle.lw_grammar.specs.declared.rule.Element.{Element}
use Rattle.lw_grammar.specs.declared.rule.Element.TheOpen.{Element-F}
use Rattle.lw_grammar.specs.declared.rule.Rule.{Rule}
use Rattle.lw_grammar.specs.Leaves.{Leaf, leaves, IsFragmentCall}
use Rattle.lw_grammar.specs.Marks.{Mark, kinds_of}
use Rattle.lw_grammar.proofs.Joined.{kinds_join}
use Rattle.lw_faults.specs.Misplaced.{FillsNode}
use Rattle.lw_faults.specs.Steps.{Step, step, PutsInFragment, GoesThrough, GoesAgain, GetsTo, ComesLayer, ComesAlong, BodyBegins, IsBehind}
use Rattle.lw_faults.specs.Steps as steps
use Rattle.lw_faults.proofs.StepLemmas.{written, inside_rule}
use Rattle.lw_reading.specs.Grown.{Held, Nothing}
use Rattle.lw_reading.specs.Brackets.{Bracket, InNode}
use Rattle.lw_reading.specs.Follows.{ChangesOpen}
use Rattle.lw_reading.specs.Growing.{ReadMarks}
use Rattle.lw_reading.proofs.GoesOn.{CanClose, HoldsNode, GoesOn, join, split, AllTokens, tokens_alone}
use Rattle.lw_reading.proofs.GoesOn as on

-- ---- where an element stands

module _ (g : Grammar) where
  -- behind these steps of the rule its way comes to this leaf, which is written in the body of `inside`
  pub record Reaches (rule : Rule) (before : List Step) (inside : Rule) (l : Leaf) : Type 0 where
    pub outside : List Step
    pub within : List Step
    pub begins : BodyBegins g rule outside inside
    pub comes : GetsTo g inside inside.body within l
    pub all : before ≡ outside ++ within

  -- behind the steps `before` of the rule an element of the body of `inside` comes next; the same by its form, of a row, and of a repetition
  abbrev pub Stands : Rule → List Step → Rule → Element → Type 0
  Stands rule before inside e = (b : List Step) (l : Leaf) → GetsTo g inside e b l → Reaches rule (before ++ b) inside l

  abbrev pub StandsLayer : Rule → List Step → Rule → Element-F Element → Type 0
  StandsLayer rule before inside f = (b : List Step) (l : Leaf) → ComesLayer g inside f b l → Reaches rule (before ++ b) inside l

  abbrev pub StandsRow : Rule → List Step → Rule → List Element → Type 0
  StandsRow rule before inside es = (b : List Step) (l : Leaf) → ComesAlong g inside es b l → Reaches rule (before ++ b) inside l

  abbrev pub StandsAgain : Rule → List Step → Rule → Element → Type 0
  StandsAgain rule before inside e =
      (turns b : List Step) (l : Leaf) → GoesAgain g inside e turns → GetsTo g inside e b l → Reaches rule (before ++ (turns ++ b)) inside l

  pub there : {rule inside : Rule} {before : List Step} {l : Leaf} → Reaches rule before inside l → Contains g.rules inside
  there is = inside_rule g is.begins

  pub stands_in : {rule inside : Rule} {before : List Step} {l : Leaf} → Reaches rule before inside l → Contains (leaves inside.body) l
  stands_in is = written g is.comes

  pub is_behind : {rule inside : Rule} {before : List Step} {l : Leaf} → Reaches rule before inside l → ¬ PutsInFragment g l → IsBehind g rule before (step inside l)
  is_behind is single = record { outside = is.outside; inside = is.within; begins = is.begins; comes = is.comes; single = single; all = is.all }

  -- the body of a fragment that is called there, and that of a rule that begins
  pub put_in : {rule inside : Rule} {before : List Step} {l : Leaf} (r : ℕ) (fragment : Rule) → Reaches rule before inside l → IsFragmentCall g l r fragment →
      Stands rule before fragment fragment.body
  put_in {before} {l = at} r fragment is calls b l gets = record {
    outside = is.outside ++ is.within;
    within = b;
    begins = steps.put_in at r fragment is.begins is.comes calls;
    comes = gets;
    all = ap (λ xs. xs ++ b) is.all;
  }

  pub rule_begins : (rule : Rule) → Contains g.rules rule → rule.is_fragment ≡ false → Stands rule [] rule rule.body
  rule_begins rule has is b l gets = record { outside = []; within = b; begins = steps.itself has is; comes = gets; all = refl }

  at_end : {rule inside : Rule} {l : Leaf} (before : List Step) → Reaches rule (before ++ []) inside l → Reaches rule before inside l
  at_end {rule} {inside} {l} before is = subst (λ xs. Reaches rule xs inside l) (append-nil before) is

  regroup : {rule inside : Rule} {l : Leaf} (before first others : List Step) → Reaches rule (before ++ (first ++ others)) inside l →
      Reaches rule ((before ++ first) ++ others) inside l
  regroup {rule} {inside} {l} before first others is = subst (λ xs. Reaches rule xs inside l) (sym (append_assoc before first others)) is

  pub at_once : {rule inside : Rule} {l : Leaf} {f : Element-F Element} (before : List Step) → StandsLayer rule before inside f → ComesLayer g inside f [] l →
      Reaches rule before inside l
  at_once {l} before stands gets = at_end before (stands [] l gets)

  pub row_behind : {rule inside : Rule} {e : Element} {es : List Element} (before first : List Step) → StandsRow rule before inside (e ∷ es) →
      GoesThrough g inside e first → StandsRow rule (before ++ first) inside es
  row_behind before first stands through b l gets = regroup before first b (stands (first ++ b) l (steps.later through gets))

  pub turn_next : {rule inside : Rule} {e : Element} (before : List Step) → StandsAgain rule before inside e → Stands rule before inside e
  turn_next before stands b l gets = stands [] b l steps.stop gets

  pub turns_behind : {rule inside : Rule} {e : Element} (before first : List Step) → StandsAgain rule before inside e → GoesThrough g inside e first →
      StandsAgain rule (before ++ first) inside e
  turns_behind {rule} {inside} before first stands through turns b l others gets =
      regroup before first (turns ++ b)
      (subst (λ xs. Reaches rule (before ++ xs) inside l) (append_assoc first turns b) (stands (first ++ turns) b l (steps.again through others) gets))

  -- ---- what fills a node

  abbrev pub Fills : List Step → Type 0
  Fills xs = Any (λ x. FillsNode g x.leaf) xs

  pub fills_last : (before : List Step) (x : Step) → FillsNode g x.leaf → Fills (before ++ x ∷ [])
  fills_last before x fills = let (k, inside, is) = Contains-append_right before (x ∷ []) x (0, omega arith, refl) in (k, x, inside, is, fills)

  pub fills_left : (before others : List Step) → Fills before → Fills (before ++ others)
  fills_left before others (j, x, within, at, fills) =
      let (k, inside, is) = Contains-append_left before others x (j, within, at) in (k, x, inside, is, fills)

-- ---- what marks do to the node that is open

-- a mark that is no token reads none
pub read_before : (m : List Mark) (x : Mark) → kinds_of (x ∷ []) ≡ [] → kinds_of (m ++ x ∷ []) ≡ kinds_of m
read_before m x is = kinds_join m (x ∷ []) ∙ ap (λ ks. kinds_of m ++ ks) is ∙ append-nil (kinds_of m)

module _ (g : Grammar) (text : List ℕ) where
  -- marks that end with one that is no token
  pub join_last : {ts us : List Token} {bs mid after : List Bracket} {m : List Mark} {x : Mark} → GoesOn g text ts bs m us mid → ChangesOpen g text (ts ++ us) x mid after →
      CanClose g text after → GoesOn g text ts bs (m ++ x ∷ []) us after
  join_last {ts} {us} {bs} {after} {m} {x} goes change closes =
      subst (λ us. GoesOn g text ts bs (m ++ x ∷ []) us after) (append-nil us) (join g text goes (on.next change closes on.done))

  -- behind these steps of a rule the marks leave its node open, in which there is nothing where no step has filled it
  pub record Climbed (ts us : List Token) (bs : List Bracket) (m : List Mark) (type from : ℕ) (held : Held) (done : List Step) : Type 0 where
    pub type_ : ℕ
    pub held_ : Held
    pub goes : GoesOn g text ts (InNode type from held ∷ bs) m us (InNode type_ from held_ ∷ bs)
    pub empty : ¬ Fills g done → held_ ≡ Nothing

  -- the steps that come before, the steps of the marks, and the marks
  abbrev pub Climbs : List Step → List Step → List Mark → Type 0
  Climbs before more m =
      (ts us : List Token) (bs : List Bracket) (type from : ℕ) (held : Held) → ReadMarks us m → HoldsNode g text bs → (¬ Fills g before → held ≡ Nothing) →
      Climbed ts us bs m type from held (before ++ more)

  -- one after another
  pub in_turn : {m n : List Mark} (before first others : List Step) → Climbs before first m → Climbs (before ++ first) others n →
      Climbs before (first ++ others) (m ++ n)
  in_turn {m} {n} before first others one two ts us bs type from held reads holds empty =
      let s = split m n us reads in
      let a = one ts s.first bs type from held s.reads holds empty in
      let b = two (ts ++ s.first) s.others bs a.type_ from a.held_ s.reads_others holds a.empty in
      record {
        type_ = b.type_;
        held_ = b.held_;
        goes = subst (λ us. GoesOn g text ts (InNode type from held ∷ bs) (m ++ n) us (InNode b.type_ from b.held_ ∷ bs)) (sym s.all) (join g text a.goes b.goes);
        empty = λ none. b.empty (λ fills. none (subst (Fills g) (append_assoc before first others) fills));
      }

  -- tokens alone leave it as it is
  pub alone_climbs : {m : List Mark} (before more : List Step) → AllTokens g text m → Climbs before more m
  alone_climbs {m} before more all ts us bs type from held reads holds empty = record {
    type_ = type;
    held_ = held;
    goes = tokens_alone g text all ts us reads;
    empty = λ none. empty (λ fills. none (fills_left g before more fills));
  }
