-- What each form of an element and of a value gathers.
use Rattle.std.proofs.Common.{◌≡◌, ℕ, ◌+◌, ◌<◌, ◌≤◌, List, [], ◌∷◌, ◌++◌, Option, length, take, get_or, refl, sym, ap, ◌∙◌, subst}
use Rattle.std.specs.List.{flat_map}
use Rattle.std.proofs.lemmas.List.{append-nil, take_more, take_all}
use Rattle.std.proofs.lemmas.List.Concat.{flat_map-append}
use Rattle.lw_base.specs.declared.token.Span.{Span}
use Rattle.lw_grammar.specs.declared.grammar.Grammar.{Grammar}
use Rattle.lw_grammar.specs.declared.rule.Action.{Action}
use Rattle.lw_grammar.specs.declared.rule.Element.{Element}
use Rattle.lw_grammar.specs.declared.rule.Op.{Op}
use Rattle.lw_grammar.specs.declared.rule.Value0.{Value0}
use Rattle.lw_grammar.specs.Leaves as leaf
use Rattle.lw_grammar.specs.Leaves.{Leaf, leaves, ValueLeaf, Literal, Calls, Cross, value_leaves}
use Rattle.lw_kinds.specs.Crossing.{IsReadBy}
use Rattle.lw_kinds.specs.declared.gathering.Gathered.{Gathered}
use Rattle.lw_kinds.specs.Calls.{PartCallsName, LeafCallsName, IsTerminalSo, PartsCallTerminal, LeavesCallTerminal, Marks}
use Rattle.lw_kinds.specs.Gathering.{GathersParts, GathersLeaves, put_use, put_uses}
use Rattle.lw_kinds.specs.Uses.{part_keyword_uses}
use Rattle.lw_kinds.proofs.GatherSteps.{one_of, parts-then, leaves-then}
use Rattle.lw_kinds.proofs.MarkLemmas.{Marks-none, Marks-same}

-- ---- lists, one item after the other

module _ {X Y : Type 0} (f : X → List Y) (xs : List X) where
  next_items : (i : ℕ) (x : X) → i < length xs → x ≡ get_or xs i x → flat_map f (take i xs) ++ f x ≡ flat_map f (take (i + 1) xs)
  next_items i x inside is =
      ap (λ ys. flat_map f (take i xs) ++ ys) (sym (append-nil (f x)))
      ∙ sym (flat_map-append f (take i xs) (x ∷ []))
      ∙ ap (λ y. flat_map f (take i xs ++ y ∷ [])) is
      ∙ ap (flat_map f) (sym (take_more xs i x inside))

-- ---- values

module _ (g : Grammar) (file : ℕ) (old new : Gathered) where
  pub value_gathers : {v : Value0} (form : Value0) (parts : List ValueLeaf) → v ≡ form → value_leaves form ≡ parts → GathersParts g file parts old new →
      GathersParts g file (value_leaves v) old new
  value_gathers form parts is are gathers = subst (λ ls. GathersParts g file ls old new) (sym (ap value_leaves is ∙ are)) gathers

  -- a part that is no keyword marks what it calls
  part_marked : (part : ValueLeaf) → part_keyword_uses file part ≡ [] → new.keywords.entries ≡ old.keywords.entries →
      Marks (IsTerminalSo g (PartCallsName g part)) old.called.items new.called.items → GathersParts g file (part ∷ []) old new
  part_marked part no_use keywords marks = record {
    keywords = keywords ∙ ap (λ uses. put_uses old.keywords.entries (uses ++ [])) (sym no_use);
    marks = Marks-same (λ t. let one = one_of (λ part. IsTerminalSo g (PartCallsName g part) t) part in (one.1, one.0)) marks;
  }

  pub value_call_marked : (name : List ℕ) (s : Span) → new.keywords.entries ≡ old.keywords.entries →
      Marks (IsTerminalSo g (λ called. name ≡ called)) old.called.items new.called.items → GathersParts g file (Calls name s ∷ []) old new
  value_call_marked name s = part_marked (Calls name s) refl

  pub cross_marked : (wanted : List ℕ) (rule : Option (List ℕ)) (s : Span) → new.keywords.entries ≡ old.keywords.entries →
      Marks (IsTerminalSo g (IsReadBy g wanted rule)) old.called.items new.called.items → GathersParts g file (Cross wanted rule s ∷ []) old new
  cross_marked wanted rule s = part_marked (Cross wanted rule s) refl

module _ (g : Grammar) (file : ℕ) (vs : List Value0) (old : Gathered) where
  pub values_more : (i : ℕ) (v : Value0) → i < length vs → v ≡ get_or vs i v → (mid new : Gathered) → GathersParts g file (flat_map value_leaves (take i vs)) old mid →
      GathersParts g file (value_leaves v) mid new → GathersParts g file (flat_map value_leaves (take (i + 1) vs)) old new
  values_more i v inside is mid new one two =
      subst (λ ls. GathersParts g file ls old new) (next_items value_leaves vs i v inside is)
      (parts-then g file (flat_map value_leaves (take i vs)) (value_leaves v) one two)

-- ---- elements

module _ (g : Grammar) (file : ℕ) (old new : Gathered) where
  pub element_gathers : {e : Element} (form : Element) (ls : List Leaf) → e ≡ form → leaves form ≡ ls → GathersLeaves g file ls old new →
      GathersLeaves g file (leaves e) old new
  element_gathers form ls is are gathers = subst (λ ms. GathersLeaves g file ms old new) (sym (ap leaves is ∙ are)) gathers

  pub call_marked : (name : List ℕ) (s : Span) → new.keywords.entries ≡ old.keywords.entries →
      Marks (IsTerminalSo g (λ called. name ≡ called)) old.called.items new.called.items → GathersLeaves g file (leaf.Call name s ∷ []) old new
  call_marked name s keywords marks = record {
    keywords = keywords;
    marks = Marks-same (λ t. let one = one_of (λ l. IsTerminalSo g (LeafCallsName g l) t) (leaf.Call name s) in (one.1, one.0)) marks;
  }

  pub assigned : (p : List ℕ) (op : Op) (v : Value0) (s : Span) → GathersParts g file (value_leaves v) old new →
      GathersLeaves g file (leaf.Assign p op v s ∷ []) old new
  assigned p op v s gathers = record {
    keywords = gathers.keywords ∙ ap (put_uses old.keywords.entries) (sym (append-nil (flat_map (part_keyword_uses file) (value_leaves v))));
    marks = Marks-same (λ t. (forth t, back t)) gathers.marks;
  }
    where
      forth : (t : ℕ) → PartsCallTerminal g (value_leaves v) t → LeavesCallTerminal g (leaf.Assign p op v s ∷ []) t
      forth t (part, has, (name, does, terminal, means)) =
          (one_of (λ l. IsTerminalSo g (LeafCallsName g l) t) (leaf.Assign p op v s)).1 (name, (part, has, does), terminal, means)

      back : (t : ℕ) → LeavesCallTerminal g (leaf.Assign p op v s ∷ []) t → PartsCallTerminal g (value_leaves v) t
      back t some = from ((one_of (λ l. IsTerminalSo g (LeafCallsName g l) t) (leaf.Assign p op v s)).0 some)
        where
          from : IsTerminalSo g (LeafCallsName g (leaf.Assign p op v s)) t → PartsCallTerminal g (value_leaves v) t
          from (name, (part, has, does), terminal, means) = (part, has, (name, does, terminal, means))

module _ (g : Grammar) (file : ℕ) (old : Gathered) (es : List Element) where
  pub elements_more : (i : ℕ) (e : Element) → i < length es → e ≡ get_or es i e → (mid new : Gathered) → GathersLeaves g file (flat_map leaves (take i es)) old mid →
      GathersLeaves g file (leaves e) mid new → GathersLeaves g file (flat_map leaves (take (i + 1) es)) old new
  elements_more i e inside is mid new one two =
      subst (λ ls. GathersLeaves g file ls old new) (next_items leaves es i e inside is)
      (leaves-then g file (flat_map leaves (take i es)) (leaves e) one two)
