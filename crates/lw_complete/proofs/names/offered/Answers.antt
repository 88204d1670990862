use Rattle.std.proofs.Common.{◌≡◌, ◌↔◌, ◌++◌, ◌∷◌, [], ℕ, List, AllPairs, Contains, append_assoc, ap, sym, ◌∙◌, subst, true≢false, arith}
use Rattle.std.specs.Cmp.Lexicographic.{slice_cmp}
use Rattle.std.specs.Ordering.{nat_cmp}
use Rattle.std.specs.Vec.Iter.{into_iter_items}
use Rattle.std.specs.declared.cmp.Ordering.TheVariants.{Less}
use Rattle.std.proofs.lemmas.List.{append-nil}
use Rattle.std.proofs.lemmas.Grind.{common_steps}
use Rattle.lw_complete.specs.Starts.{IsOfferedBy}
use Rattle.lw_complete.specs.Tried.{IsTypedWith}
use Rattle.lw_complete.proofs.NamedOrdered.{among_more, among_pass, kept_more, kept_pass, pairs_more, pairs_pass}
use Rattle.lw_complete.proofs.names.offered.Goals as goal

pub is_offered-requires : goal.is_offered-requires
is_offered-requires c =
    let (of, lexicon, tasks, read, all) = c.requires.known in
    record { known = (of, lexicon, tasks, subst (IsTypedWith of lexicon tasks c.args.typing.now c.args.parser.now) (sym c.names.invariant.kept) read, all) }

pub names-preserved : goal.names-preserved
names-preserved c =
    let done = c.names.yielded in
    let found = c.names.found.items in
    let name = c.in-Some.name in
    let inv = c.names.invariant in record {
      left =
          append_assoc done (name ∷ []) (into_iter_items c.next.new.self) ∙ ap (λ (rest : List (List ℕ)). done ++ rest) (sym c.in-Some.ensures.steps.0) ∙ inv.left;
      offered = λ of lexicon tasks trees address read by.
          kept_pass done found name (IsOfferedBy of lexicon tasks c.args.typing.now trees address c.args.known.now)
          (inv.offered of lexicon tasks trees address read by)
          (λ is.
          true≢false
          (sym ((c.in_ok-is_offered.ensures.offered of lexicon tasks trees address (subst (IsTypedWith of lexicon tasks c.args.typing.now c.args.parser.now) (sym inv.kept) read) by).1 is) ∙ c.if-branch.false));
      among = among_pass done found name inv.among;
      kept = c.is_offered.ensures.same ∙ inv.kept;
      ordered = λ all. pairs_pass (λ one other. slice_cmp nat_cmp one other ≡ Less) done name all found inv.ordered;
    }

pub names-preserved-in-Continue-branch-2 : goal.names-preserved-in-Continue-branch-2
names-preserved-in-Continue-branch-2 c =
    let done = c.names.yielded in
    let found = c.names.found.items in
    let name = c.in-Some.name in
    let inv = c.names.invariant in
    let pushed : c.push.new.self.items ≡ found ++ name ∷ [] = c.in_ok-push.ensures.items in record {
      left =
          append_assoc done (name ∷ []) (into_iter_items c.next.new.self) ∙ ap (λ (rest : List (List ℕ)). done ++ rest) (sym c.in-Some.ensures.steps.0) ∙ inv.left;
      offered = λ of lexicon tasks trees address read by.
          subst (λ (items : List (List ℕ)). (n : List ℕ) → Contains items n ↔
          (Contains (done ++ name ∷ []) n × IsOfferedBy of lexicon tasks c.args.typing.now trees address c.args.known.now n)) (sym pushed)
          (kept_more done found name (IsOfferedBy of lexicon tasks c.args.typing.now trees address c.args.known.now)
          (inv.offered of lexicon tasks trees address read by)
          ((c.in_ok-is_offered.ensures.offered of lexicon tasks trees address (subst (IsTypedWith of lexicon tasks c.args.typing.now c.args.parser.now) (sym inv.kept) read) by).0 c.if-branch.true));
      among =
          subst (λ (items : List (List ℕ)). (n : List ℕ) → Contains items n → Contains (done ++ name ∷ []) n) (sym pushed) (among_more done found name inv.among);
      kept = c.is_offered.ensures.same ∙ inv.kept;
      ordered = λ all.
          subst (AllPairs (λ one other. slice_cmp nat_cmp one other ≡ Less)) (sym pushed)
          (pairs_more (λ one other. slice_cmp nat_cmp one other ≡ Less) done name all found inv.ordered inv.among);
    }

pub returns-clause-offered : goal.returns-clause-offered
returns-clause-offered c of lexicon tasks trees address read by =
    let done = c.names.yielded in
    let inv = c.names.invariant in
    let end : into_iter_items c.names.name-iterator ≡ [] = grind (arith, common_steps, c.in-None.ensures.steps.0) in
    let whole : done ≡ c.args.names.items =
    sym (append-nil done) ∙ ap (λ (rest : List (List ℕ)). done ++ rest) (sym end) ∙ inv.left in
    subst (λ (names : List (List ℕ)). (n : List ℕ) → Contains c.names.found.items n ↔
    (Contains names n × IsOfferedBy of lexicon tasks c.args.typing.now trees address c.args.known.now n)) whole
    (inv.offered of lexicon tasks trees address read by)
