-- A call that is no fragment's, and an action, in their places.
use Rattle.std.proofs.Common.{◌≡◌, ℕ, Bool, false, List, [], ◌∷◌, Option, Some, None, Contains, refl, sym, ap, ◌∙◌, true≢false}
use Rattle.lw_base.specs.declared.token.Span.{Span}
use Rattle.lw_base.specs.declared.token.Token.{Token}
use Rattle.lw_grammar.specs.declared.grammar.Grammar.{Grammar}
use Rattle.lw_grammar.specs.declared.rule.Action.{Action}
use Rattle.lw_grammar.specs.declared.rule.Rule.{Rule}
use Rattle.lw_grammar.specs.declared.terminal.Terminal.{Terminal}
use Rattle.lw_grammar.specs.Leaves.{Call, Act, leaves}
use Rattle.lw_grammar.specs.Named.{IsRule, IsTerminal, declared_rule, declared_terminal}
use Rattle.lw_grammar.proofs.FirstLemmas.{first_item}
use Rattle.lw_grammar.specs.Marks as mark
use Rattle.lw_grammar.proofs.Meaning.{one_of_two}
use Rattle.lw_faults.specs.Misplaced as fills
use Rattle.lw_faults.specs.Steps.{Step, step, PutsInFragment}
use Rattle.lw_reading.specs.Grown.{Held, Nothing, Takes}
use Rattle.lw_reading.specs.Brackets.{Bracket, InNode, grown}
use Rattle.lw_reading.specs.Follows.{ChangesOpen}
use Rattle.lw_reading.specs.Follows as f
use Rattle.lw_reading.proofs.GoesOn.{HoldsNode, GoesOn, tokens_alone}
use Rattle.lw_reading.proofs.GoesOn as on
use Rattle.lw_reading.proofs.Numbered.{action_number, taken_number}
use Rattle.lw_reading.proofs.Climbs.{Reaches, there, stands_in, fills_last, Climbs}

module _ (g : Grammar) where
  pub no_fragment_rule : {name : List ℕ} {r : ℕ} {rule : Rule} (s : Span) → IsRule g name r rule → rule.is_fragment ≡ false → ¬ PutsInFragment g (Call name s)
  no_fragment_rule s is whole (other, fragment, (was, put)) = true≢false (sym put ∙ ap (λ (x : Rule). x.is_fragment) (first_item was.first is.first) ∙ whole)

  pub no_fragment_terminal : {name : List ℕ} {n : ℕ} {terminal : Terminal} (s : Span) → IsTerminal g name n terminal → ¬ PutsInFragment g (Call name s)
  no_fragment_terminal {name} {n} {terminal} s is (r, rule, (was, put)) =
      one_of_two declared_terminal declared_rule name g.terminals g.rules n r terminal rule is was

  module _ (text : List ℕ) where
    -- what an action does to the node that is open
    record Acted (ts : List Token) (a : Action) (bs : List Bracket) (type from : ℕ) (held : Held) : Type 0 where
      type_ : ℕ
      held_ : Held
      change : ChangesOpen g text ts (mark.Act a) (InNode type from held ∷ bs) (InNode type_ from held_ ∷ bs)

    acted : (rule : Rule) (a : Action) → Contains g.rules rule → Contains (leaves rule.body) (Act a) → (ts : List Token)
        (bs : List Bracket) (type from : ℕ) (held : Held) → Acted ts a bs type from held
    acted rule a has within ts bs type from held = by a.put refl
      where
        number : ℕ
        number = (action_number g rule a has within).0

        by : (put : Option (List ℕ × Bool)) → a.put ≡ put → Acted ts a bs type from held
        by None same = record { type_ = number; held_ = held; change = f.renames same (action_number g rule a has within).1 }
        by (Some put) same =
            let (p, property) = taken_number g rule a put.0 put.1 has within same in
            record { type_ = number; held_ = Takes Nothing p (grown ts type from held); change = f.wraps same (action_number g rule a has within).1 property }

    pub acts_climb : {rule inside : Rule} {a : Action} (before : List Step) → Reaches g rule before inside (Act a) →
        Climbs g text before (step inside (Act a) ∷ []) (mark.Act a ∷ [])
    acts_climb {inside} {a} before reach ts us bs type from held reads holds empty =
        let x = acted inside a (there g reach) (stands_in g reach) ts bs type from held in
        record {
          type_ = x.type_;
          held_ = x.held_;
          goes = on.next x.change (holds x.type_ from x.held_) (tokens_alone g text on.none ts us reads);
          empty = λ none. absurd (none (fills_last g before (step inside (Act a)) fills.acts));
        }
