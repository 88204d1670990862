-- In a grammar without faults what a cross-reference reads is tokens alone.
use Rattle.std.proofs.Common.{◌≡◌, ◌⊎◌, inl, inr, ℕ, List, [], ◌∷◌, ◌++◌, Option, Some, None, map, Contains, refl, sym, ap, subst, ◌∙◌}
use Rattle.std.specs.List.{flat_map}
use Rattle.std.proofs.lemmas.List.{append_assoc}
use Rattle.std.proofs.lemmas.List.Elements.{Contains-append_left, Contains-append_right}
use Rattle.lw_base.specs.declared.token.Span.{Span}
use Rattle.lw_grammar.specs.declared.fault.GrammarFault.{GrammarFault}
use Rattle.lw_grammar.specs.declared.grammar.Grammar.{Grammar}
use Rattle.lw_grammar.specs.declared.rule.Element.{Element, out-Element}
use Rattle.lw_grammar.specs.declared.rule.Element.TheFolds.{map-Element}
use Rattle.lw_grammar.specs.declared.rule.Element.TheOpen.{Element-F}
use Rattle.lw_grammar.specs.declared.rule.Op.{Op}
use Rattle.lw_grammar.specs.declared.rule.Rule.{Rule}
use Rattle.lw_grammar.specs.declared.rule.Value0.{Value0, out-Value0}
use Rattle.lw_grammar.specs.declared.rule.Value0.TheOpen as value
use Rattle.lw_grammar.specs.declared.rule.Value0.TheOpen.{Value0-F}
use Rattle.lw_grammar.specs.Kinds.{Kinds}
use Rattle.lw_grammar.specs.Leaves.{Leaf, Keyword, Call, Assign, Act, leaves, layer_leaves, ValueLeaf, Cross, value_leaves}
use Rattle.lw_grammar.specs.Named.{IsRule}
use Rattle.lw_grammar.specs.NameRules.{IsNameRule}
use Rattle.lw_grammar.specs.Nodes.{MakesNodes}
use Rattle.lw_grammar.proofs.LeafLemmas.{leaves_by, values_by}
use Rattle.lw_faults.specs.BadCalls as bad
use Rattle.lw_faults.specs.Faults.{IsCheckFault, fault}
use Rattle.lw_faults.specs.Faults as list
use Rattle.lw_lang.proofs.Lists.{at_place}
use Rattle.lw_look.specs.Sites.{PartSite, Value, IsPartAt}
use Rattle.lw_look.proofs.Reaching.{in_rule}
use Rattle.lw_reading.specs.Follows.{IsCross}
use Rattle.lw_places.specs.Starting.{token_marks}
use Rattle.lw_reading.proofs.GoesOn.{AllTokens}
use Rattle.lw_reading.proofs.GoesOn as on
use Rattle.lw_reading.proofs.Listed.{alone, in_flat, mapped}
use Rattle.lw_reading.proofs.OneValue.{no_word_crosses, no_call_crosses}
use Rattle.lw_reading.proofs.Quiet.{makes_none_quiet, tokens_of}
use Rattle.lw_grammar.specs.Marks.{Mark, Put, End}
use Rattle.lw_grammar.specs.Marks as mark
use Rattle.lw_grammar.specs.Sentences.{IsSentence}
use Rattle.lw_grammar.specs.Yields.{Yields, Gives, YieldsAll, Repeats, Calls, RuleGives, ValueYields, ValueGives}
use Rattle.lw_grammar.specs.Yields as y

-- a cross-reference is put
abbrev pub IsCrossPut : Mark → Type 0
IsCrossPut (mark.Token k) = ⊥
IsCrossPut (mark.Open r) = ⊥
IsCrossPut mark.Shut = ⊥
IsCrossPut (Put p op c) = IsCross c
IsCrossPut End = ⊥
IsCrossPut (mark.Act a) = ⊥

-- each cross-reference reads tokens alone
pub data ReadPlainly : List Mark → Type 0 where
  none : ReadPlainly []
  other : {x : Mark} {m : List Mark} → ¬ IsCrossPut x → ReadPlainly m → ReadPlainly (x ∷ m)
  plain : {p : List ℕ} {op : Op} {c : Value0} {m : List Mark} (ks : List ℕ) → ReadPlainly m → ReadPlainly (Put p op c ∷ (token_marks ks ++ End ∷ m))

pub both_plain : {m n : List Mark} → ReadPlainly m → ReadPlainly n → ReadPlainly (m ++ n)
both_plain none others = others
both_plain (other not rest) others = other not (both_plain rest others)
both_plain {n} (plain {p} {op} {c} {m} ks rest) others =
    subst (λ (l : List Mark). ReadPlainly (Put p op c ∷ l)) (sym (append_assoc (token_marks ks) (End ∷ m) n)) (plain ks (both_plain rest others))

all_tokens : {g : Grammar} {text : List ℕ} {m : List Mark} → AllTokens g text m → (ks : List ℕ) × (m ≡ token_marks ks)
all_tokens on.none = ([], refl)
all_tokens (on.more {k} rest) = let (ks, same) = all_tokens rest in (k ∷ ks, ap (λ (n : List Mark). mark.Token k ∷ n) same)

no_choice_crosses : {vs : List Value0} {wanted : List ℕ} {rule : Option (List ℕ)} {s t : Span} →
    ◌≡◌ {A = Value0-F Value0} (value.Choice vs s) (value.Cross wanted rule t) → ⊥
no_choice_crosses h = cc

module _ (g : Grammar) where
  -- a cross-reference in the value is read by the rule or terminal of this name
  pub data CrossesIn (v : Value0) : List ℕ → Type 0 where
    written : {wanted name : List ℕ} (s : Span) → Contains (value_leaves v) (Cross wanted (Some name) s) → CrossesIn v name
    by_name : {wanted name : List ℕ} (s : Span) → Contains (value_leaves v) (Cross wanted None s) → IsNameRule g wanted name → CrossesIn v name

  -- none of them by a rule that makes nodes
  abbrev pub IsPlainValue : Value0 → Type 0
  IsPlainValue v = (name : List ℕ) (r : ℕ) (rule : Rule) → CrossesIn v name → IsRule g name r rule → ¬ MakesNodes g rule

  abbrev pub IsPlainLeaf : Leaf → Type 0
  IsPlainLeaf (Keyword t s) = Unit {0}
  IsPlainLeaf (Call name s) = Unit {0}
  IsPlainLeaf (Assign p op v s) = IsPlainValue v
  IsPlainLeaf (Act a) = Unit {0}

  abbrev pub ArePlain : List Leaf → Type 0
  ArePlain ls = (l : Leaf) → Contains ls l → IsPlainLeaf l

  rule_there : {name : List ℕ} {r : ℕ} {rule : Rule} → IsRule g name r rule → Contains g.rules rule
  rule_there {r} {rule} is = at_place g.rules r is.first.there

  module _ (no_check_fault : (f : GrammarFault) → ¬ IsCheckFault g f) where
    plain_leaf : (rule : Rule) → Contains g.rules rule → ArePlain (leaves rule.body)
    plain_leaf rule has (Keyword t s) within = tt
    plain_leaf rule has (Call name s) within = tt
    plain_leaf rule has (Act a) within = tt
    plain_leaf rule has (Assign p op v t) within = by
      where
        by : IsPlainValue v
        by name r called (written {wanted} s is) named makes =
            no_check_fault (fault 21 rule.file s name)
            (list.bad_call (bad.crossed rule r called has (bad.written p op v t wanted within is) named (λ data_type. data_type.1 makes)))
        by name r called (by_name {wanted} s is names) named makes =
            no_check_fault (fault 21 rule.file s name)
            (list.bad_call (bad.crossed rule r called has (bad.by_name p op v t wanted within is names) named (λ data_type. data_type.1 makes)))

    module _ (kinds : Kinds) where
      -- what is read by a call that makes no nodes
      rule_tokens : {r : ℕ} {rule : Rule} {m : List Mark} → RuleGives g kinds r rule m → ¬ MakesNodes g rule → (ks : List ℕ) × (m ≡ token_marks ks)
      rule_tokens {rule} (y.fragment is p) not = all_tokens {g = g} {text = []} (tokens_of g kinds [] p (makes_none_quiet g rule not))
      rule_tokens {rule} (y.data_type is without p) not = all_tokens {g = g} {text = []} (tokens_of g kinds [] p (makes_none_quiet g rule not))
      rule_tokens (y.node is makes p) not = absurd (not makes)

      call_tokens : {name : List ℕ} {m : List Mark} → Calls g kinds name m → ((r : ℕ) (rule : Rule) → IsRule g name r rule → ¬ MakesNodes g rule) →
          (ks : List ℕ) × (m ≡ token_marks ks)
      call_tokens (y.terminal {k} is) quiet = (k ∷ [], refl)
      call_tokens (y.rule_ r rule is p) quiet = rule_tokens p (quiet r rule is)

      in_choice : (v : Value0) (vs : List Value0) (s : Span) (w : Value0) → out-Value0 v ≡ value.Choice vs s → Contains vs w → (l : ValueLeaf) →
          Contains (value_leaves w) l → Contains (value_leaves v) l
      in_choice v vs s w is has l within =
          subst (λ ls. Contains ls l) (sym (values_by v (value.Choice vs s) is))
          (in_flat (λ ls. ls) (map value_leaves vs) (value_leaves w) l (mapped value_leaves vs w has) within)

      crosses_here : (v : Value0) {wanted : List ℕ} {by : Option (List ℕ)} {s : Span} → out-Value0 v ≡ value.Cross wanted by s →
          Contains (value_leaves v) (Cross wanted by s)
      crosses_here v {wanted} {by} {s} is =
          subst (λ ls. Contains ls (Cross wanted by s)) (sym (values_by v (value.Cross wanted by s) is)) (alone (Cross wanted by s))

      wider : {v w : Value0} → ((l : ValueLeaf) → Contains (value_leaves w) l → Contains (value_leaves v) l) → IsPlainValue v → IsPlainValue w
      wider {v} {w} has is name r rule (written {wanted} s there) named = is name r rule (written s (has (Cross wanted (Some name) s) there)) named
      wider {v} {w} has is name r rule (by_name {wanted} s there names) named = is name r rule (by_name s (has (Cross wanted None s) there) names) named

      -- what a value reads is tokens alone, or it is no cross-reference that reads it
      abbrev IsValueRead : Value0 → List Mark → Type 0
      IsValueRead c m = ((¬ IsCross c) × ReadPlainly m) ⊎ ((ks : List ℕ) × (m ≡ token_marks ks))

      no_cross_by_call : (v : Value0) {name : List ℕ} {s : Span} → out-Value0 v ≡ value.Call name s → ¬ IsCross v
      no_cross_by_call v is (wanted, rule, t, was) = no_call_crosses (sym is ∙ was)

      put_plainly : {p : List ℕ} {op : Op} {c : Value0} {m : List Mark} → IsValueRead c m → ReadPlainly (Put p op c ∷ m ++ End ∷ [])
      put_plainly (inl (not, is)) = other not (both_plain is (other (λ (e : ⊥). e) none))
      put_plainly {p} {op} {c} (inr (ks, same)) = subst (λ (n : List Mark). ReadPlainly (Put p op c ∷ n ++ End ∷ [])) (sym same) (plain ks none)

      abbrev RowLeaves : List Element → List Leaf
      RowLeaves es = flat_map (λ ls. ls) (map leaves es)

      mutual
        element_plainly : {e : Element} {m : List Mark} → Yields g kinds e m → ArePlain (leaves e) → ReadPlainly m
        element_plainly {e} (y.yields p) are =
            layer_plainly p (λ l has. are l (subst (λ ls. Contains ls l) (sym (leaves_by e (out-Element e) refl)) has))

        layer_plainly : {f : Element-F Element} {m : List Mark} → Gives g kinds f m → ArePlain (layer_leaves (map-Element Element (List Leaf) leaves f)) →
            ReadPlainly m
        layer_plainly (y.keyword is) are = other (λ (e : ⊥). e) none
        layer_plainly (y.called p) are = call_plainly p
        layer_plainly (y.assigned {p = q} {op} {v} {s} p) are = put_plainly (value_plainly p (are (Assign q op v s) (alone (Assign q op v s))))
        layer_plainly y.acted are = other (λ (e : ⊥). e) none
        layer_plainly (y.grouped p) are = row_plainly p are
        layer_plainly (y.chosen {es} {e} has p) are =
            element_plainly p (λ l within. are l (in_flat (λ ls. ls) (map leaves es) (leaves e) l (mapped leaves es e has) within))
        layer_plainly y.skipped are = none
        layer_plainly (y.taken p) are = element_plainly p are
        layer_plainly (y.repeated p) are = again_plainly p are
        layer_plainly (y.repeated_once p q) are = both_plain (element_plainly p are) (again_plainly q are)

        row_plainly : {es : List Element} {m : List Mark} → YieldsAll g kinds es m → ArePlain (RowLeaves es) → ReadPlainly m
        row_plainly y.none are = none
        row_plainly (y.more {e} {es} p q) are =
            both_plain (element_plainly p (λ l has. are l (Contains-append_left (leaves e) (RowLeaves es) l has)))
            (row_plainly q (λ l has. are l (Contains-append_right (leaves e) (RowLeaves es) l has)))

        again_plainly : {e : Element} {m : List Mark} → Repeats g kinds e m → ArePlain (leaves e) → ReadPlainly m
        again_plainly y.stop are = none
        again_plainly (y.again p q) are = both_plain (element_plainly p are) (again_plainly q are)

        call_plainly : {name : List ℕ} {m : List Mark} → Calls g kinds name m → ReadPlainly m
        call_plainly (y.terminal is) = other (λ (e : ⊥). e) none
        call_plainly (y.rule_ r rule is p) = rule_plainly (rule_there is) p

        rule_plainly : {r : ℕ} {rule : Rule} {m : List Mark} → Contains g.rules rule → RuleGives g kinds r rule m → ReadPlainly m
        rule_plainly {rule} has (y.fragment is p) = element_plainly p (plain_leaf rule has)
        rule_plainly {rule} has (y.data_type is not p) = element_plainly p (plain_leaf rule has)
        rule_plainly {rule} has (y.node is makes p) =
            other (λ (e : ⊥). e) (both_plain (element_plainly p (plain_leaf rule has)) (other (λ (e : ⊥). e) none))

        value_plainly : {v c : Value0} {m : List Mark} → ValueYields g kinds v c m → IsPlainValue v → IsValueRead c m
        value_plainly {v} (y.reads p) are = given_plainly (out-Value0 v) refl p are

        given_plainly : {v c : Value0} {m : List Mark} (f : Value0-F Value0) → out-Value0 v ≡ f → ValueGives g kinds v f c m → IsPlainValue v → IsValueRead c m
        given_plainly f is (y.keyword_value {k} has) are = inr (k ∷ [], refl)
        given_plainly {v} f is (y.call_value p) are = inl (no_cross_by_call v is, call_plainly p)
        given_plainly {v} f is (y.cross_value {wanted} {name} {s} p) are =
            inr (call_tokens p (λ r rule named. are name r rule (written s (crosses_here v is)) named))
        given_plainly {v} f is (y.cross_by_name {wanted} {s} name names p) are =
            inr (call_tokens p (λ r rule named. are name r rule (by_name s (crosses_here v is) names) named))
        given_plainly {v} f is (y.chosen_value {vs} {s} {w} has q) are = value_plainly q (wider (in_choice v vs s w is has) are)

      pub sentence_plainly : {m : List Mark} → IsSentence g kinds m → ReadPlainly m
      sentence_plainly is = rule_plainly (at_place g.rules is.number is.entry.there) is.gives

      cross_read : {v c : Value0} {m : List Mark} (f : Value0-F Value0) (wanted : List ℕ) (by : Option (List ℕ)) (s : Span) → out-Value0 v ≡ f →
          f ≡ value.Cross wanted by s → ValueGives g kinds v f c m → IsPlainValue v → (ks : List ℕ) × (m ≡ token_marks ks)
      cross_read f wanted by s is crosses (y.keyword_value has) are = absurd (no_word_crosses crosses)
      cross_read f wanted by s is crosses (y.call_value p) are = absurd (no_call_crosses crosses)
      cross_read {v} f wanted by s is crosses (y.cross_value {name} {s = t} p) are =
          call_tokens p (λ r rule named. are name r rule (written t (crosses_here v is)) named)
      cross_read {v} f wanted by s is crosses (y.cross_by_name {s = t} name names p) are =
          call_tokens p (λ r rule named. are name r rule (by_name t (crosses_here v is) names) named)
      cross_read f wanted by s is crosses (y.chosen_value has q) are = absurd (no_choice_crosses crosses)

      -- what a cross-reference reads that stands at a site
      pub cross_tokens : {site : PartSite} {v c : Value0} {m : List Mark} → IsPartAt g site (Value v) → IsCross v → ValueYields g kinds v c m →
          (ks : List ℕ) × (m ≡ token_marks ks)
      cross_tokens {v} stands (wanted, by, s, is) (y.reads p) =
          let (rule, there, (q, op, w, t, has, within)) = in_rule g stands in
          cross_read (out-Value0 v) wanted by s refl is p (wider within (plain_leaf rule (at_place g.rules _ there) (Assign q op w t) has))
