use Rattle.std.proofs.Common.{◌≡◌, ◌↔◌, ◌+◌, ◌≤◌, Contains, length, ℕ, List, [], ◌∷◌, ◌++◌, Some, get_or, slice_get, map, refl, sym, ap, ◌∙◌, subst, arith, true≢false}
use Rattle.std.specs.List.Sorted.{IsStrictlyIncreasing}
use Rattle.std.proofs.lemmas.Option.{slice_get-get_or}
use Rattle.lw_base.specs.declared.numbers.KindId.{KindId}
use Rattle.lw_complete.proofs.KindNumbers.{counted, keywords_are}
use Rattle.lw_complete.specs.Typing.{CutsBehind, grammar_of}
use Rattle.lw_grammar.specs.Sentences.{Starts}
use Rattle.lw_viable.specs.Aims.{Sentence}
use Rattle.lw_complete.specs.Typing.{kinds_before}
use Rattle.lw_complete.proofs.KeywordsNext.{AreSoFar, all_next, looked_up, none_next, not_next, so_far_start, so_far_pass, so_far_push}
use Rattle.lw_complete.proofs.keywords.keywords.Goals as goal
use Rattle.lw_complete.proofs.keywords.keywords.Goals.{in-Some+in_ok-is_next+then-branch+in_ok-copy+in_ok-push, in-Some+in_ok-is_next+else-branch, in_default}

-- src/keywords.rt:36:20
pub expected-requires-clause-few : goal.expected-requires-clause-few
expected-requires-clause-few c = omega (arith, c.kind_count.ensures.few)

-- src/keywords.rt:36:20
pub expected-requires-clause-known : goal.expected-requires-clause-known
expected-requires-clause-known c =
    let (of, lexicon, tasks, typed, readings, supplied, cuts) = c.requires.known in (
      grammar_of c.args.typing.now,
      of,
      tasks,
      Sentence,
      kinds_before c.args.typing.now,
      readings,
      c.kind_count.ensures.count ∙ counted (grammar_of c.args.typing.now) of c.set-set.result.now.texts typed.are_kinds (rw c.set-set.ensures c.tokens.ensures.named),
    )

pub is_next-requires : goal.is_next-requires
is_next-requires c =
    let (of, lexicon, tasks, typed, readings, supplied, cuts) = c.requires.known in
    record { known = (of, lexicon, typed, subst (CutsBehind lexicon c.args.typing.now) (sym c.kinds.invariant.kept) cuts) }

pub kinds-init : goal.kinds-init
kinds-init c = record {
  so_far = so_far_start c.args.typing.now c.set-set.result.now.lexicon.keywords c.deref-kind-items.result.now c.new-found.result.items c.new-found.ensures.items;
  kept = refl;
}

pub kinds-preserved : goal.kinds-preserved
kinds-preserved c =
    let typing = c.args.typing.now in
    let keywords = c.set-set.result.now.lexicon.keywords in
    let expected = c.deref-kind-items.result.now in
    let i = c.kinds.kind-index in
    let found = c.kinds.found.items in
    let kind = get_or expected i (record { 0 = 0 }) in
    let expects : slice_get expected i ≡ Some kind = slice_get-get_or expected i (record { 0 = 0 }) c.kinds-test.true in
    let rising =
    subst (λ (kinds : List KindId). IsStrictlyIncreasing (map (λ (k : KindId). k.0) kinds)) (sym c.deref-kind-items.ensures.value) c.in_ok-expected.ensures.ascending in
    let distinct = c.keywords.ensures.kinds.keywords.distinct in
    elim c.match-get.branch [
      | in-Some+in_ok-is_next+then-branch+in_ok-copy+in_ok-push w ↦
          let keyword = w.in-Some.keyword.now in
          let (flag, same, inner, (inside, read), other) = w.in-Some.ensures.lookup in
          let at : slice_get keywords kind.0 ≡ Some keyword = looked_up c.keywords.result.now keywords kind.0 keyword c.keywords.ensures.keywords inside (read keyword) in
          let items : c.match-get.found.items ≡ found ++ keyword ∷ [] =
          ap (λ v. v.items) w.found-is ∙ w.in_ok-push.ensures.items ∙ ap (λ copy. found ++ copy ∷ []) w.in_ok-copy.ensures in
          record {
            so_far = subst (AreSoFar typing keywords expected (i + 1)) (sym items)
                (so_far_push typing keywords expected i found keyword distinct rising c.kinds-test.true c.kinds.invariant.so_far
                (record { kind = kind; expects = expects; at = at }) (λ of lexicon typed. (w.in_ok-is_next.ensures.next of lexicon typed).0 w.if-branch.true));
            kept = w.recutter-is ∙ w.in_ok-is_next.ensures.kept ∙ c.kinds.invariant.kept;
          }
      | in-Some+in_ok-is_next+else-branch w ↦
          let keyword = w.in-Some.keyword.now in
          let (flag, same, inner, (inside, read), other) = w.in-Some.ensures.lookup in
          let at : slice_get keywords kind.0 ≡ Some keyword = looked_up c.keywords.result.now keywords kind.0 keyword c.keywords.ensures.keywords inside (read keyword) in
          record {
            kept = w.recutter-is ∙ w.in_ok-is_next.ensures.kept ∙ c.kinds.invariant.kept;
            so_far = subst (AreSoFar typing keywords expected (i + 1)) (sym (ap (λ v. v.items) w.found-is))
                (so_far_pass typing keywords expected i found c.kinds.invariant.so_far
                (not_next typing keywords expected i kind keyword expects at
                (λ of lexicon typed is. true≢false (sym ((w.in_ok-is_next.ensures.next of lexicon typed).1 is) ∙ w.if-branch.false))));
          }
      | in_default w ↦
          let (flag, none, inner, past, other) = w.in_default.ensures.lookup in
          record {
            kept = w.recutter-is ∙ c.kinds.invariant.kept;
            so_far = subst (AreSoFar typing keywords expected (i + 1)) (sym (ap (λ v. v.items) w.found-is))
                (so_far_pass typing keywords expected i found c.kinds.invariant.so_far
                (none_next typing keywords expected i kind expects (subst (λ (xs : List (List ℕ)). length xs ≤ kind.0) c.keywords.ensures.keywords past)));
          }
    ]

pub returns-clause-keywords : goal.returns-clause-keywords
returns-clause-keywords c of lexicon tasks typed readings supplied =
    let typing = c.args.typing.now in
    let g = grammar_of typing in
    let (others, were, is) = c.tokens.ensures.lexicon in
    let count = c.kind_count.ensures.count ∙ counted g of c.set-set.result.now.texts typed.are_kinds (rw c.set-set.ensures c.tokens.ensures.named) in
    let told =
    subst (λ (items : List KindId). (kind : KindId) → Contains items kind ↔ Starts g of (kinds_before typing ++ kind.0 ∷ [])) (sym c.deref-kind-items.ensures.value)
    (c.in_ok-expected.ensures.expected g of tasks Sentence (kinds_before typing) readings count supplied) in
    all_next g of typing c.set-set.result.now.lexicon.keywords c.deref-kind-items.result.now c.kinds.found.items c.kinds.kind-index c.kinds.invariant.so_far
    (omega (arith, c.kinds-test.false)) (keywords_are g of others c.set-set.result.now.lexicon typed.are_kinds were (rw c.set-set.ensures is)) told lexicon typed

pub returns-clause-apart : goal.returns-clause-apart
returns-clause-apart c = c.kinds.invariant.so_far.apart
