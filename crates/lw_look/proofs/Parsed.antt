-- Where the next kinds tell the ways of each choice apart, the parser comes to its end on each sentence; so two with the same kinds are one.
use Rattle.std.proofs.Common.{◌≡◌, ℕ, List, [], ◌∷◌, ◌++◌, sym, subst, append_assoc, append-nil}
use Rattle.lw_grammar.specs.declared.grammar.Grammar.{Grammar}
use Rattle.lw_grammar.specs.Kinds.{AreKinds, Kinds}
use Rattle.lw_grammar.specs.Marks.{Mark, kinds_of}
use Rattle.lw_grammar.specs.Sentences.{IsSentence}
use Rattle.lw_grammar.proofs.Joined.{kinds_join}
use Rattle.lw_look.specs.Looks.{IsLL, window}
use Rattle.lw_look.specs.Things.{Thing, RestGives, StepsTo}
use Rattle.lw_look.specs.Parses.{Parses}
use Rattle.lw_look.specs.Parses as p
use Rattle.lw_look.proofs.Apart.{are_apart}
use Rattle.lw_look.proofs.Invariant.{InContext}
use Rattle.lw_look.proofs.OneStep.{rule_enters}
use Rattle.lw_look.proofs.OneWay.{behind_at, way_looks, step_context}
use Rattle.lw_look.proofs.Parsing.{parse_ends}
use Rattle.lw_look.proofs.Steady.{starts_in_context}
use Rattle.lw_look.proofs.Asking.{WayOrQuiet, asked, quiet, how_done}
use Rattle.lw_look.proofs.Stepwise.{StepsGive, done, step, rest_by_steps, steps_give_rest}

module _ (g : Grammar) (kinds : Kinds) (k : ℕ) (apart : IsLL g kinds k) where
  -- the parser does the step by which what is left was given: at a choice no other way shows its window
  parses_on : {x : Thing} {l o : List Mark} {xs rest : List Thing} (m : List Mark) → WayOrQuiet g kinds x l xs → StepsTo g kinds x l xs →
      InContext g kinds (x ∷ rest) → RestGives g kinds (xs ++ rest) o → Parses g kinds k m (kinds_of (l ++ o)) (x ∷ rest) →
      Parses g kinds k (m ++ l) (kinds_of o) (xs ++ rest)
  parses_on {o} {xs} {rest} m (asked {s} {w} way) goes context gives before =
      subst (λ m. Parses g kinds k m (kinds_of o) (xs ++ rest)) (sym (append-nil m))
      (p.takes m (kinds_of o) rest before way (λ v shown. apart s v w (window k (kinds_of o)) shown (way_looks g kinds k way (behind_at g kinds way context) gives)))
  parses_on {x} {l} {o} {rest} m (quiet none) goes context gives before =
      p.goes m l (kinds_of o) rest (subst (λ ks. Parses g kinds k m ks (x ∷ rest)) (kinds_join l o) before) none goes

  parses_all : {xs : List Thing} {n : List Mark} → StepsGive g kinds xs n → (m : List Mark) → InContext g kinds xs → Parses g kinds k m (kinds_of n) xs →
      Parses g kinds k (m ++ n) [] []
  parses_all done m context before = subst (λ m. Parses g kinds k m [] []) (sym (append-nil m)) before
  parses_all (step {l} {n} goes others) m context before =
      subst (λ m. Parses g kinds k m [] []) (append_assoc m l n)
      (parses_all others (m ++ l) (step_context g kinds goes context)
      (parses_on m (how_done g kinds goes) goes context (steps_give_rest g kinds others) before))

  -- on each sentence the parser comes to its end
  pub sentence_parsed : (m : List Mark) → IsSentence g kinds m → Parses g kinds k m [] []
  sentence_parsed m sentence =
      let e = rule_enters g kinds sentence.entry.there sentence.gives in
      subst (λ m. Parses g kinds k m [] []) (sym e.are)
      (parses_all (rest_by_steps g kinds e.give) e.left (starts_in_context g kinds sentence.entry e.enters) (p.begins (kinds_of e.others) sentence.entry e.enters))

pub same_sentence : (g : Grammar) (kinds : Kinds) (k : ℕ) → AreKinds g kinds → IsLL g kinds k → (m n : List Mark) → IsSentence g kinds m → IsSentence g kinds n →
    kinds_of m ≡ kinds_of n → m ≡ n
same_sentence g kinds k are apart m n first second same =
    (parse_ends g kinds k (are_apart g kinds are) n (sentence_parsed g kinds k apart n second)).1 m first same
