-- Marks that are followed leave one list of open brackets, which is closed in one way.
use Rattle.std.proofs.Common.{◌≡◌, ℕ, List, [], ◌∷◌, Some, None, slice_get, length, refl, sym, ap, subst, ◌∙◌, arith}
use Rattle.std.proofs.lemmas.Option.{none-some, same_Some}
use Rattle.lw_base.specs.declared.token.Token.{Token}
use Rattle.lw_grammar.specs.declared.grammar.Grammar.{Grammar}
use Rattle.lw_grammar.specs.declared.rule.Op.{Op}
use Rattle.lw_grammar.specs.declared.rule.Rule.{Rule}
use Rattle.lw_grammar.specs.declared.rule.Action.{Action}
use Rattle.lw_grammar.specs.declared.rule.Value0.{Value0}
use Rattle.lw_grammar.specs.Subtypes.{HasType}
use Rattle.lw_grammar.specs.Marks.{Mark, Token as AToken, Open, Shut, Put, End, Act}
use Rattle.lw_reading.specs.Grown.{Grown, Nothing, Takes}
use Rattle.lw_reading.specs.Numbers.{IsNumberOfType, IsNumberOfProperty}
use Rattle.lw_reading.specs.Brackets.{Bracket, InNode, InValue, Root, grown, Shuts, in_value, in_node, at_root}
use Rattle.lw_reading.specs.Follows.{MakesReference, RefersBy, LooksUp, IsPlain, PutsValueIn, ChangesOpen, FollowsMarks, Closes}
use Rattle.lw_reading.specs.Follows as f
use Rattle.lw_reading.proofs.Listed.{no_end_is_empty, same_front, same_last}
use Rattle.lw_reading.proofs.OneValue.{one_type, one_number_of_type, one_number_of_property, one_put}

-- ---- shutting is a function of what is open

abbrev shut_of : List Token → List Bracket → List Bracket
shut_of ts (InNode type from held ∷ InValue p op c at inner ∷ bs) = InValue p op c at (Some (grown ts type from held)) ∷ bs
shut_of ts (InNode type from held ∷ InNode outer at over ∷ bs) = InNode type at held ∷ bs
shut_of ts (InNode type from held ∷ []) = Root (grown ts type from held) ∷ []
shut_of ts bs = bs

shuts_as : {ts : List Token} {bs after : List Bracket} → Shuts ts bs after → after ≡ shut_of ts bs
shuts_as in_value = refl
shuts_as in_node = refl
shuts_as at_root = refl

-- a node is open
abbrev IsInNode : List Bracket → Type 0
IsInNode (InNode type from held ∷ bs) = Unit {0}
IsInNode bs = ⊥

shuts_node : {ts : List Token} {bs after : List Bracket} → Shuts ts bs after → IsInNode bs
shuts_node in_value = tt
shuts_node in_node = tt
shuts_node at_root = tt

-- ---- marks

module _ (g : Grammar) (text : List ℕ) where
  abbrev form : Mark → ℕ
  form (AToken k) = 0
  form (Open r) = 1
  form Shut = 2
  form (Put name op c) = 3
  form End = 4
  form (Act a) = 5

  same_open : {r q : ℕ} → ◌≡◌ {A = Mark} (Open r) (Open q) → r ≡ q
  same_open h = cc

  same_put : {name other : List ℕ} {op by : Op} {c d : Value0} → ◌≡◌ {A = Mark} (Put name op c) (Put other by d) → (name ≡ other) × (op ≡ by) × (c ≡ d)
  same_put h = (cc, cc, cc)

  same_act : {a b : Action} → ◌≡◌ {A = Mark} (Act a) (Act b) → a ≡ b
  same_act h = cc

  opened : {r q type other : ℕ} {rule by : Rule} {name named : List ℕ} → r ≡ q → slice_get g.rules r ≡ Some rule → slice_get g.rules q ≡ Some by →
      HasType g rule name → HasType g by named → IsNumberOfType g name type → IsNumberOfType g named other → type ≡ other
  opened {r} {q} {type} {other} {rule} {by} {name} {named} same at was has had is number =
      let rules : rule ≡ by = same_Some _ _ (sym at ∙ ap (slice_get g.rules) same ∙ was) in
      let names : name ≡ named = one_type g rule has (subst (λ x. HasType g x named) (sym rules) had) in
      one_number_of_type g name type other is (subst (λ n. IsNumberOfType g n other) (sym names) number)

  module _ {ts : List Token} where
    one_change : {x y : Mark} {bs a b : List Bracket} → ChangesOpen g text ts x bs a → ChangesOpen g text ts y bs b → x ≡ y → a ≡ b
    one_change {bs} (f.opens {r} {type} at has is) (f.opens {r = q} {type = other} was had number) e =
        ap (λ t. InNode t (length ts) Nothing ∷ bs) (opened (same_open e) at was has had is number)
    one_change (f.opens at has is) (f.puts other) e = absurd (omega (arith, ap form e))
    one_change (f.opens at has is) (f.shuts other) e = absurd (omega (arith, ap form e))
    one_change (f.opens at has is) (f.renames none other) e = absurd (omega (arith, ap form e))
    one_change (f.opens at has is) (f.wraps some other p) e = absurd (omega (arith, ap form e))
    one_change (f.opens at has is) (f.ends other) e = absurd (omega (arith, ap form e))
    one_change {bs} (f.puts {name} {p} {op} {c} is) (f.puts {name = other} {p = q} {op = by} {c = d} was) e =
        let (names, ops, values) = same_put e in
        ap (λ n. InValue n op c (length ts) None ∷ bs) (one_number_of_property g name p q is (subst (λ n. IsNumberOfProperty g n q) (sym names) was))
        ∙ ap (λ o. InValue q o c (length ts) None ∷ bs) ops ∙ ap (λ v. InValue q by v (length ts) None ∷ bs) values
    one_change (f.puts is) (f.opens at has was) e = absurd (omega (arith, ap form e))
    one_change (f.puts is) (f.shuts other) e = absurd (omega (arith, ap form e))
    one_change (f.puts is) (f.renames none other) e = absurd (omega (arith, ap form e))
    one_change (f.puts is) (f.wraps some other p) e = absurd (omega (arith, ap form e))
    one_change (f.puts is) (f.ends other) e = absurd (omega (arith, ap form e))
    one_change (f.shuts one) (f.shuts other) e = shuts_as one ∙ sym (shuts_as other)
    one_change (f.shuts one) (f.opens at has was) e = absurd (omega (arith, ap form e))
    one_change (f.shuts one) (f.puts is) e = absurd (omega (arith, ap form e))
    one_change (f.shuts one) (f.renames none other) e = absurd (omega (arith, ap form e))
    one_change (f.shuts one) (f.wraps some other p) e = absurd (omega (arith, ap form e))
    one_change (f.shuts one) (f.ends other) e = absurd (omega (arith, ap form e))
    one_change (f.renames {from} {new = n} {held} {a} {bs} none is) (f.renames {new = k} {a = b} too was) e =
        ap (λ t. InNode t from held ∷ bs) (one_number_of_type g _ n k is (subst (λ x. IsNumberOfType g x.type_name k) (sym (same_act e)) was))
    one_change (f.renames {a} none is) (f.wraps {a = b} some was p) e = absurd (none-some _ (sym none ∙ ap (λ x. x.put) (same_act e) ∙ some))
    one_change (f.renames none is) (f.opens at has was) e = absurd (omega (arith, ap form e))
    one_change (f.renames none is) (f.puts was) e = absurd (omega (arith, ap form e))
    one_change (f.renames none is) (f.shuts was) e = absurd (omega (arith, ap form e))
    one_change (f.wraps {a} some is p) (f.renames {a = b} none was) e = absurd (none-some _ (sym none ∙ sym (ap (λ x. x.put) (same_act e)) ∙ some))
    one_change (f.wraps {type} {from} {new = n} {p} {held} {a} {name} {is_list} {bs} some is property) (f.wraps {new = k} {p = q} {a = b} {name = other} too was own) e =
        let puts : name ≡ other = ap (λ x. x.0) (same_Some _ _ (sym some ∙ ap (λ x. x.put) (same_act e) ∙ too)) in
        ap (λ t. InNode t from (Takes Nothing p (grown ts type from held)) ∷ bs)
        (one_number_of_type g _ n k is (subst (λ x. IsNumberOfType g x.type_name k) (sym (same_act e)) was))
        ∙ ap (λ r. InNode k from (Takes Nothing r (grown ts type from held)) ∷ bs)
        (one_number_of_property g name p q property (subst (λ x. IsNumberOfProperty g x q) (sym puts) own))
    one_change (f.wraps some is p) (f.opens at has was) e = absurd (omega (arith, ap form e))
    one_change (f.wraps some is p) (f.puts was) e = absurd (omega (arith, ap form e))
    one_change (f.wraps some is p) (f.shuts was) e = absurd (omega (arith, ap form e))
    one_change (f.ends {type} {from} {bs} one) (f.ends other) e = ap (λ h. InNode type from h ∷ bs) (one_put g text one other)
    one_change (f.ends one) (f.opens at has was) e = absurd (omega (arith, ap form e))
    one_change (f.ends one) (f.puts was) e = absurd (omega (arith, ap form e))
    one_change (f.ends one) (f.shuts was) e = absurd (omega (arith, ap form e))

    no_token_changes : {x : Mark} {k : ℕ} {bs after : List Bracket} → ChangesOpen g text ts x bs after → x ≡ AToken k → ⊥
    no_token_changes (f.opens at has is) e = absurd (omega (arith, ap form e))
    no_token_changes (f.puts is) e = absurd (omega (arith, ap form e))
    no_token_changes (f.shuts is) e = absurd (omega (arith, ap form e))
    no_token_changes (f.renames none is) e = absurd (omega (arith, ap form e))
    no_token_changes (f.wraps some is p) e = absurd (omega (arith, ap form e))
    no_token_changes (f.ends is) e = absurd (omega (arith, ap form e))

  pub one_follows : {m n : List Mark} {ts us : List Token} {bs other : List Bracket} → FollowsMarks g text m ts bs → FollowsMarks g text n us other → m ≡ n → ts ≡ us → bs ≡ other
  one_follows f.nothing f.nothing e t = refl
  one_follows f.nothing (f.token {m} u was) e t = absurd (no_end_is_empty m _ (sym e))
  one_follows f.nothing (f.next {m} was change) e t = absurd (no_end_is_empty m _ (sym e))
  one_follows (f.token {m} u is) f.nothing e t = absurd (no_end_is_empty m _ e)
  one_follows (f.token {m} {ts} u is) (f.token {m = n} {ts = us} v was) e t = one_follows is was (same_front m n _ _ e) (same_front ts us _ _ t)
  one_follows (f.token {m} u is) (f.next {m = n} was change) e t = absurd (no_token_changes change (sym (same_last m n _ _ e)))
  one_follows (f.next {m} is change) f.nothing e t = absurd (no_end_is_empty m _ e)
  one_follows (f.next {m} is change) (f.token {m = n} u was) e t = absurd (no_token_changes change (same_last m n _ _ e))
  one_follows (f.next {m} {mark} {ts} {bs} {after} is change) (f.next {m = n} {mark = other} {ts = us} {bs = bt} {after = behind} was changed) e t =
      let before : bs ≡ bt = one_follows is was (same_front m n mark other e) t in
      one_change change (subst (λ us. ChangesOpen g text us other bs behind) (sym t) (subst (λ b. ChangesOpen g text us other b behind) (sym before) changed))
      (same_last m n mark other e)

  pub one_close : {ts : List Token} {bs : List Bracket} {x y : Grown} → Closes g text ts bs x → Closes g text ts bs y → x ≡ y
  one_close f.root f.root = refl
  one_close f.root (f.shut was others) = absurd (shuts_node was)
  one_close (f.shut is more) f.root = absurd (shuts_node is)
  one_close {ts} (f.shut {after} is more) (f.shut {after = behind} {x = y} was others) =
      one_close more (subst (λ bs. Closes g text ts bs y) (shuts_as was ∙ sym (shuts_as is)) others)
  one_close (f.shut is more) (f.ended not change others) = absurd (shuts_node is)
  one_close (f.shut is more) (f.left_out was others) = absurd (shuts_node is)
  one_close (f.ended not change more) (f.shut was others) = absurd (shuts_node was)
  one_close {ts} (f.ended {after} not change more) (f.ended {after = behind} {x = y} too changed others) =
      one_close more (subst (λ bs. Closes g text ts bs y) (one_change changed change refl) others)
  one_close (f.ended not change more) (f.left_out is others) = absurd (not is)
  one_close (f.left_out is more) (f.shut was others) = absurd (shuts_node was)
  one_close (f.left_out is more) (f.ended not change others) = absurd (not is)
  one_close (f.left_out is more) (f.left_out was others) = one_close more others
