-- Faults of circles: 19 circular type, 20 circular call.
use Rattle.std.specs.Prelude.{ℕ, ◌≡◌, List, Some, true, map, slice_get, Contains}
use Rattle.lw_base.specs.declared.token.Span.{Span}
use Rattle.lw_grammar.specs.declared.grammar.Grammar.{Grammar}
use Rattle.lw_grammar.specs.declared.rule.Rule.{Rule}
use Rattle.lw_grammar.specs.declared.terminal.Terminal.{Terminal}
use Rattle.lw_grammar.specs.declared.declared_types.Interface.{Interface}
use Rattle.lw_grammar.specs.declared.declared_types.UnionDef.{UnionDef}
use Rattle.lw_grammar.specs.declared.declared_types.Member.TheVariants.{Named}
use Rattle.lw_grammar.specs.Named.{IsRule, IsTerminal, IsInterface, IsUnion}
use Rattle.lw_grammar.specs.Reached.{RuleCalls}
use Rattle.lw_grammar.specs.Written.{term_calls, IsKnownType}

module _ (g : Grammar) where
  -- the interface extends the other, over one step or more, through interfaces alone
  pub data ExtendsType : List ℕ → List ℕ → Type 0 where
    directly : {name above : List ℕ} (i : ℕ) (interface : Interface) → IsInterface g name i interface → Contains (map (λ n. n.0) interface.above) above →
        ExtendsType name above
    over : {name between other : List ℕ} → ExtendsType name between → ExtendsType between other → ExtendsType name other

  -- and the union has the other as a member, through unions
  pub data HasMemberType : List ℕ → List ℕ → Type 0 where
    directly : {name member : List ℕ} (u : ℕ) (union : UnionDef) (s : Span) → IsUnion g name u union → Contains union.members (Named member s) →
        HasMemberType name member
    over : {name between other : List ℕ} → HasMemberType name between → HasMemberType between other → HasMemberType name other

  -- an interface extends itself, or what is no interface; or a union has itself as a member
  pub data CircularType : ℕ → Span → List ℕ → Type 0 where
    interface : (i : ℕ) (interface : Interface) → IsInterface g interface.name i interface → ExtendsType interface.name interface.name →
        CircularType interface.file interface.span interface.name
    union : (u : ℕ) (union : UnionDef) → IsUnion g union.name u union → HasMemberType union.name union.name → CircularType union.file union.span union.name
    no_interface : (interface : Interface) (above : List ℕ) → Contains g.interfaces interface → Contains (map (λ n. n.0) interface.above) above →
        IsKnownType g above → ((i : ℕ) (other : Interface) → ¬ IsInterface g above i other) → CircularType interface.file interface.span interface.name

  -- by their numbers: the fragment calls the other, over one call or more, through fragments alone
  pub data FragmentCalls : ℕ → ℕ → Type 0 where
    directly : {q r : ℕ} (caller fragment : Rule) (name : List ℕ) → slice_get g.rules q ≡ Some caller → caller.is_fragment ≡ true → RuleCalls g caller name →
        IsRule g name r fragment → fragment.is_fragment ≡ true → FragmentCalls q r
    over : {p q r : ℕ} → FragmentCalls p q → FragmentCalls q r → FragmentCalls p r

  -- and the terminal the other, through terminals
  pub data TerminalCalls : ℕ → ℕ → Type 0 where
    directly : {q r : ℕ} (caller called : Terminal) (name : List ℕ) (s : Span) → slice_get g.terminals q ≡ Some caller →
        Contains (term_calls caller.body) (name, s) → IsTerminal g name r called → TerminalCalls q r
    over : {p q r : ℕ} → TerminalCalls p q → TerminalCalls q r → TerminalCalls p r

  -- a fragment or a terminal calls itself
  pub data CircularCall : ℕ → Span → List ℕ → Type 0 where
    fragment_ : (r : ℕ) (fragment : Rule) → slice_get g.rules r ≡ Some fragment → FragmentCalls r r → CircularCall fragment.file fragment.span fragment.name
    terminal : (t : ℕ) (terminal : Terminal) → slice_get g.terminals t ≡ Some terminal → TerminalCalls t t → CircularCall terminal.file terminal.span terminal.name
