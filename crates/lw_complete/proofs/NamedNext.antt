-- The starts of the readings, and the sentences in which a reference comes next.
use Rattle.std.proofs.Common.{◌≡◌, ◌++◌, ◌∷◌, [], ℕ, List, Some, All, Contains, append_assoc, slice_get, refl, sym, ap, ◌∙◌, subst}
use Rattle.std.proofs.lemmas.List.Elements.{All-contains, All-weaker}
use Rattle.lw_viable.specs.Gives.{PlacesGive}
use Rattle.lw_grammar.specs.declared.grammar.Grammar.{Grammar}
use Rattle.lw_grammar.specs.Kinds.{Kinds}
use Rattle.lw_reading.specs.Follows.{MakesReference}
use Rattle.lw_parse.specs.Parsers.{ParserParts}
use Rattle.lw_program.specs.Says.{Reads, Task}
use Rattle.lw_program.specs.Making.{AreRecipesOf, RecipeLists}
use Rattle.lw_reading.proofs.Listed.{same_head, same_tail}
use Rattle.lw_grammar.specs.Marks.{End, Mark, Put, Token, kinds_of}
use Rattle.lw_grammar.specs.Sentences.{IsSentence}
use Rattle.lw_places.specs.Starting.{ComesNext, ReferenceNext, marks_with, token_marks}
use Rattle.lw_viable.specs.Aims.{EndsSome}
use Rattle.lw_viable.specs.ReferenceStarts.{AreReferenceStarts, IsReferenceStart, StartsAt}
use Rattle.lw_viable.specs.declared.reference_start.ReferenceStart.{ReferenceStart}
use Rattle.lw_viable.proofs.Exploring.{of_any}
use Rattle.lw_viable.proofs.Moves.Finishing.{places_give}
use Rattle.lw_complete.specs.declared.typing.Typing.{Typing}
use Rattle.lw_complete.specs.Starts.{ComesAt, IsParsedBy, IsStartNext, IsStartOf}
use Rattle.lw_complete.specs.Typing.{grammar_of, kinds_before}
use Rattle.lw_complete.proofs.FrontMakes.{makes_reference}
use Rattle.lw_complete.proofs.FrontStarts.{behind_end, sound_start, value_tokens}
use Rattle.lw_complete.proofs.NamedOnce.{one_start}

-- ---- tokens and what ends behind them

kinds_of_tokens : (ks : List ℕ) → kinds_of (token_marks ks) ≡ ks
kinds_of_tokens [] = refl
kinds_of_tokens (k ∷ ks) = ap (λ (l : List ℕ). k ∷ l) (kinds_of_tokens ks)

same_token : {k j : ℕ} → ◌≡◌ {A = Mark} (Token k) (Token j) → k ≡ j
same_token is = cc

no_end_is_token : {k : ℕ} → ◌≡◌ {A = Mark} End (Token k) → ⊥
no_end_is_token is = cc

before_end : (ks js : List ℕ) (m n : List Mark) → token_marks ks ++ End ∷ m ≡ token_marks js ++ End ∷ n → ks ≡ js
before_end [] [] m n same = refl
before_end [] (j ∷ js) m n same = absurd (no_end_is_token (same_head same))
before_end (k ∷ ks) [] m n same = absurd (no_end_is_token (sym (same_head same)))
before_end (k ∷ ks) (j ∷ js) m n same =
    ap (λ (i : ℕ). i ∷ ks) (same_token (same_head same)) ∙ ap (λ (l : List ℕ). j ∷ l) (before_end ks js m n (same_tail same))

-- ---- marks of a sentence with a reference in it

with_tokens : (next : ReferenceNext) (ks : List ℕ) (n : List Mark) →
    next.before ++ Put next.prop next.op next.value ∷ token_marks ks ++ End ∷ n ≡ marks_with next ks ++ n
with_tokens next ks n = sym (append_assoc (next.before ++ Put next.prop next.op next.value ∷ token_marks ks) (End ∷ []) n)

behind_put : (next : ReferenceNext) (ks : List ℕ) (n : List Mark) →
    marks_with next ks ++ n ≡ next.before ++ Put next.prop next.op next.value ∷ (token_marks ks ++ End ∷ n)
behind_put next ks n =
    sym (with_tokens next ks n) ∙ append_assoc next.before (Put next.prop next.op next.value ∷ token_marks ks) (End ∷ n)

module _ (typing : Typing) (of : Kinds) (tasks : List Task) (parser : ParserParts) (parsed : IsParsedBy of tasks typing parser) where
  abbrev g : Grammar
  g = grammar_of typing

  abbrev pub IsStart : ReferenceStart → Type 0
  IsStart = IsReferenceStart g of tasks parser.recipes (IsSentence g of) (kinds_before typing)

  abbrev next_of : (start : ReferenceStart) → IsStart start → ReferenceNext
  next_of start is = record { before = is.before; prop = is.p; op = is.op; value = is.c }

  start_of : (start : ReferenceStart) (is : IsStart start) → IsStartOf g (next_of start is) start
  start_of start is = record { meant = is.meant; puts = is.puts }

  makes : (start : ReferenceStart) (is : IsStart start) → MakesReference is.op is.c
  makes start is =
      let known = parsed.program.known.program in
      makes_reference g of parser.program known parser.recipes parsed.faultless.parser.recipes start.value is.numbers
      (subst (λ (ts : List Task). slice_get ts start.value ≡ Some (Reads is.site)) (sym parsed.program.tasks_are) is.reads) is.puts is.refers

  -- whatever the place of the value gives and those behind it do
  joined : (start : ReferenceStart) (is : IsStart start) (read : List ℕ) (after : List Mark) → EndsSome (PlacesGive g of tasks (start.value ∷ [])) read →
      PlacesGive g of tasks start.behind after → IsSentence g of (marks_with (next_of start is) read ++ after)
  joined start is read after (m, give, has) behind =
      let (ks, are) = value_tokens g of tasks parsed.faultless.checks is.numbers is.reads is.puts (makes start is).1 give in
      let read_are : ks ≡ read = sym (kinds_of_tokens ks) ∙ sym (ap kinds_of are) ∙ has in
      subst (λ (l : List ℕ). IsSentence g of (marks_with (next_of start is) l ++ after)) read_are
      (subst (IsSentence g of) (ap (λ (l : List Mark). is.before ++ Put is.p is.op is.c ∷ l ++ End ∷ after) are ∙ with_tokens (next_of start is) ks after)
      (is.whole m after give behind))

  pub start_next : (start : ReferenceStart) → IsStart start → IsStartNext of tasks typing start
  start_next start is = record {
    next = next_of start is;
    sound =
        sound_start typing of tasks parsed.faultless.checks (next_of start is) start is.site (start_of start is) (makes start is) is.numbers is.reads is.value is.behind
        is.whole parsed.faultless.supplied is.kinds_are;
    value = is.value;
    joins = joined start is;
  }

  -- the starts that were found by these recipes, as they are lent
  abbrev pub AreStarts : RecipeLists → List ReferenceStart → Type 0
  AreStarts recipes starts = AreReferenceStarts g of tasks recipes (IsSentence g of) (kinds_before typing) starts

  pub all_starts : (recipes : RecipeLists) (starts lent : List ReferenceStart) → recipes ≡ parser.recipes → lent ≡ starts →
      (AreRecipesOf g recipes → AreStarts recipes starts) → AreStarts parser.recipes lent
  all_starts recipes starts lent same lends told =
      subst (AreStarts parser.recipes) (sym lends)
      (subst (λ (rs : RecipeLists). AreStarts rs starts) same (told (subst (AreRecipesOf g) (sym same) parsed.faultless.parser.recipes)))

  pub all_next : (starts : List ReferenceStart) → AreStarts parser.recipes starts → All (IsStartNext of tasks typing) starts
  all_next starts all = All-weaker IsStart (IsStartNext of tasks typing) start_next starts all.each

  pub lent_next : (recipes : RecipeLists) (starts lent : List ReferenceStart) → recipes ≡ parser.recipes → lent ≡ starts →
      (AreRecipesOf g recipes → AreStarts recipes starts) → All (IsStartNext of tasks typing) lent
  lent_next recipes starts lent same lends told = all_next lent (all_starts recipes starts lent same lends told)

  -- whatever the place of the value gives is read as the reference of the start
  pub reads_so : (start : ReferenceStart) → IsStart start → (next : ReferenceNext) → ComesAt of typing next start → (read : List ℕ) →
      EndsSome (PlacesGive g of tasks (start.value ∷ [])) read → (after : List Mark) × IsSentence g of (marks_with next read ++ after)
  reads_so start is next at read ends =
      let (n, behind) = places_give g of tasks parsed.faultless.supplied start.behind is.behind in
      let same : next_of start is ≡ next = one_start g (next_of start is) next start (start_of start is) at.is_start in
      (n, subst (λ (x : ReferenceNext). IsSentence g of (marks_with x read ++ n)) same (joined start is read n ends behind))

  -- a start from which a sentence goes on that reads these kinds as a reference and has these marks behind it
  pub record Begins (starts : List ReferenceStart) (next : ReferenceNext) (read : List ℕ) (after : List Mark) : Type 0 where
    pub start : ReferenceStart
    pub among : Contains starts start
    pub is_start : IsStartOf g next start
    pub gives : EndsSome (PlacesGive g of tasks (start.value ∷ [])) read
    pub behind : PlacesGive g of tasks start.behind after

  module _ (starts : List ReferenceStart) (all : AreReferenceStarts g of tasks parser.recipes (IsSentence g of) (kinds_before typing) starts) where
    begun : (next : ReferenceNext) (read : List ℕ) (after : List Mark) → MakesReference next.op next.value → (start : ReferenceStart) → Contains starts start →
        StartsAt g of tasks next.before next.prop next.op next.value (token_marks read ++ End ∷ after) start → Begins starts next read after
    begun next read after makes start among at =
        let is : IsStart start = All-contains IsStart starts start all.each among in
        let (js, are) = value_tokens g of tasks parsed.faultless.checks is.numbers is.reads at.puts makes.1 at.value in
        let same : token_marks read ++ End ∷ after ≡ token_marks js ++ End ∷ at.others = at.are ∙ ap (λ (l : List Mark). l ++ End ∷ at.others) are in
        record {
          start = start;
          among = among;
          is_start = record { meant = at.meant; puts = at.puts };
          gives = (at.inner, at.value, ap kinds_of are ∙ kinds_of_tokens js ∙ sym (before_end read js after at.others same));
          behind = subst (PlacesGive g of tasks start.behind) (sym (behind_end read js after at.others same)) at.behind;
        }

    -- each sentence in which a reference comes next goes on from one
    pub begins : (next : ReferenceNext) → ComesNext g of typing.tokens.now next → (read : List ℕ) (after : List Mark) → IsSentence g of (marks_with next read ++ after) →
        Begins starts next read after
    begins next comes read after sentence =
        let whole : IsSentence g of (next.before ++ Put next.prop next.op next.value ∷ (token_marks read ++ End ∷ after)) =
        subst (IsSentence g of) (behind_put next read after) sentence in
        let (start, among, at) =
        of_any (StartsAt g of tasks next.before next.prop next.op next.value (token_marks read ++ End ∷ after)) starts
        (all.all next.before next.prop next.op next.value (token_marks read ++ End ∷ after) whole comes.kinds_are comes.makes) in
        begun next read after comes.makes start among at
