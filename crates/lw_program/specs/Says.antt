-- An instruction says what is to be done at its place: a local equation for each place, over what stands at the places that it names.
use Rattle.std.specs.Prelude.{ℕ, ◌≡◌, ◌+◌, ◌<◌, List, Some, slice_get, length}
use Rattle.lw_base.specs.declared.token.Span.{Span}
use Rattle.lw_base.specs.declared.numbers.KindId.{KindId}
use Rattle.lw_base.specs.declared.numbers.PointId.{PointId}
use Rattle.lw_grammar.specs.declared.grammar.Grammar.{Grammar}
use Rattle.lw_grammar.specs.declared.rule.Rule.{Rule}
use Rattle.lw_grammar.specs.declared.rule.Element.{Element, out-Element}
use Rattle.lw_grammar.specs.declared.rule.Element.TheOpen as layer
use Rattle.lw_grammar.specs.declared.rule.Element.TheOpen.{Element-F}
use Rattle.lw_grammar.specs.declared.rule.Value0.{Value0}
use Rattle.lw_grammar.specs.declared.rule.Value0.TheOpen as value
use Rattle.lw_grammar.specs.declared.rule.Op.{Op}
use Rattle.lw_grammar.specs.declared.rule.Action.{Action}
use Rattle.lw_grammar.specs.Named.{IsRule}
use Rattle.lw_grammar.specs.Kinds.{Kinds, IsKeywordKind, IsTerminalKind}
use Rattle.lw_grammar.specs.Marks as mark
use Rattle.lw_look.specs.Sites.{PartSite, ◌▸◌, Value, IsPartAt, ElementAt, ValueAt, RowAt, OptionalAt, RepeatedAt, ValueCallsAt}
use Rattle.lw_look.specs.Things.{Thing, Do, Assigned, Again, Leave}
use Rattle.lw_look.specs.Choices.{choice_sites}
use Rattle.lw_program.specs.declared.instr.Instr.{Instr}
use Rattle.lw_program.specs.declared.instr.Instr.TheVariants.{Token, End, Shut, Act, Row, Choice, Maybe, Loop, Once, Put, Call}
use Rattle.lw_program.specs.Numbered.{put_sites, act_sites}

-- what is to be done at a place: a thing, or the reading of the text of the value at a site
pub data Task : Type 0 where
  Does : Thing → Task
  Reads : PartSite → Task

-- what is to be done at the place of the element at a site: of `*` its loop, of an assignment the value that it assigns, else itself
abbrev pub layer_thing : PartSite → Element-F Element → Task
layer_thing s (layer.Many e span) = Does (Again s)
layer_thing s (layer.Assign p op v span) = Does (Assigned p op (s ▸ 0))
layer_thing s _ = Does (Do s)

abbrev pub thing_of : PartSite → Element → Task
thing_of s e = layer_thing s (out-Element e)

-- the places that an instruction names are greater than its own
abbrev pub NamesLater : ℕ → Instr → Type 0
NamesLater p (Row first end) = p < first
NamesLater p (Choice point first end) = p < first
NamesLater p (Maybe point inner) = p < inner
NamesLater p (Loop point inner) = p < inner
NamesLater p (Once rest) = p < rest
NamesLater p (Put n first) = p < first
NamesLater p _ = Unit {0}

-- of so many items each has its task, side by side from the first place up to the end
pub record StandFrom {X : Type 0} (tasks : List Task) (task : ℕ → X → Task) (items : List X) (first end : ℕ) : Type 0 where
  pub sized : end ≡ first + length items
  pub each : (i : ℕ) (x : X) → slice_get items i ≡ Some x → slice_get tasks (first + i) ≡ Some (task i x)

module _ (g : Grammar) (kinds : Kinds) where
  -- the instruction reads the terminal or calls the rule of this name
  pub data CallsBy : List ℕ → Instr → Type 0 where
    terminal : {name : List ℕ} {k : KindId} → IsTerminalKind g kinds name k.0 → CallsBy name (Token k)
    rule_ : {name : List ℕ} {r : ℕ} {rule : Rule} → IsRule g name r rule → CallsBy name (Call r)

  -- the number of the choice at a site
  abbrev pub IsPoint : PointId → PartSite → Type 0
  IsPoint point s = slice_get (choice_sites g) point.0 ≡ Some s

  module _ (tasks : List Task) where
    pub data SaysTask : Task → Instr → Type 0 where
      keyword : {s : PartSite} {text : List ℕ} {span : Span} {k : KindId} → ElementAt g s (layer.Keyword text span) →
          IsKeywordKind kinds text k.0 → SaysTask (Does (Do s)) (Token k)
      called : {s : PartSite} {name : List ℕ} {span : Span} {instr : Instr} → ElementAt g s (layer.Call name span) → CallsBy name instr →
          SaysTask (Does (Do s)) instr
      acted : {s : PartSite} {a : Action} {n : ℕ} → ElementAt g s (layer.Act a) → slice_get (act_sites g) n ≡ Some s →
          SaysTask (Does (Do s)) (Act n)
      row : {s : PartSite} {es : List Element} {first end : ℕ} → RowAt g s es →
          StandFrom tasks (λ i e. thing_of (s ▸ i) e) es first end → SaysTask (Does (Do s)) (Row first end)
      choice : {s : PartSite} {es : List Element} {span : Span} {point : PointId} {first end : ℕ} → ElementAt g s (layer.Choice es span) →
          IsPoint point s → StandFrom tasks (λ i e. thing_of (s ▸ i) e) es first end → SaysTask (Does (Do s)) (Choice point first end)
      maybe : {s : PartSite} {e : Element} {point : PointId} {inner : ℕ} → OptionalAt g s e → IsPoint point s →
          slice_get tasks inner ≡ Some (thing_of (s ▸ 0) e) → SaysTask (Does (Do s)) (Maybe point inner)
      loop : {s : PartSite} {e : Element} {point : PointId} {inner : ℕ} → RepeatedAt g s e → IsPoint point s →
          slice_get tasks inner ≡ Some (thing_of (s ▸ 0) e) → SaysTask (Does (Again s)) (Loop point inner)
      -- of `+`: the body of the loop at this place is read first
      once : {s : PartSite} {e : Element} {span : Span} {rest : ℕ} → ElementAt g s (layer.Some1 e span) →
          slice_get tasks rest ≡ Some (Does (Again s)) → SaysTask (Does (Do s)) (Once rest)
      value_choice : {p : List ℕ} {op : Op} {s : PartSite} {v : Value0} {vs : List Value0} {span : Span} {point : PointId} {first end : ℕ} →
          ValueAt g s v (value.Choice vs span) → IsPoint point s →
          StandFrom tasks (λ i w. Does (Assigned p op (s ▸ i))) vs first end → SaysTask (Does (Assigned p op s)) (Choice point first end)
      put : {p : List ℕ} {op : Op} {s : PartSite} {v : Value0} {n first : ℕ} → IsPartAt g s (Value v) → slice_get (put_sites g) n ≡ Some s →
          slice_get tasks first ≡ Some (Reads s) → slice_get tasks (first + 1) ≡ Some (Does (Leave mark.End)) →
          SaysTask (Does (Assigned p op s)) (Put n first)
      reads_keyword : {s : PartSite} {v : Value0} {text : List ℕ} {span : Span} {k : KindId} → ValueAt g s v (value.Keyword text span) →
          IsKeywordKind kinds text k.0 → SaysTask (Reads s) (Token k)
      reads_call : {s : PartSite} {v : Value0} {name : List ℕ} {instr : Instr} → ValueCallsAt g s v name → CallsBy name instr → SaysTask (Reads s) instr
      ends : SaysTask (Does (Leave mark.End)) End
      shuts : SaysTask (Does (Leave mark.Shut)) Shut

    -- the equation of one place
    pub record SaidAt (code : List Instr) (p : ℕ) : Type 0 where
      pub task : Task
      pub instr : Instr
      pub stands : slice_get tasks p ≡ Some task
      pub is : slice_get code p ≡ Some instr
      pub says : SaysTask task instr
      pub later : NamesLater p instr
