use Rattle.std.proofs.Common.{◌≡◌, ◌∷◌, [], ◌++◌, length, append_assoc, Contains, refl, sym, ap, ◌∙◌, subst, arith}
use Rattle.std.proofs.lemmas.List.{length-map}
use Rattle.std.proofs.lemmas.List.Elements.{All-push}
use Rattle.std.specs.Vec.Iter.{into_iter_items}
use Rattle.std.proofs.lemmas.Result.{err_from_is_err_and}
use Rattle.lw_matchers.specs.Made.{form_of, IsUsable, AreUnlisted}
use Rattle.lw_matchers.specs.declared.fault.MakeTokensFault.TheVariants.{Refused, EmptyMatch}
use Rattle.lw_matchers.proofs.MadeLemmas.{tried, all_done, handed_on, one_more}
use Rattle.lw_matchers.proofs.make.make_terminals.Goals as goal

pub returns-in_err-terminal-clause-refused : goal.returns-in_err-terminal-clause-refused
returns-in_err-terminal-clause-refused g c = λ i e.
    let inv = c.loop-source.invariant in
    let source = c.in-Some.source in
    let done = c.loop-source.yielded in
    let p = err_from_is_err_and c.from_residual-in_err-terminal.result c.from_residual-in_err-terminal.ensures.1 in
    let given = handed_on c.make_terminal.result c.in_err-terminal.field-0.0 p.0 (Refused i) c.from_residual-in_err-terminal.result c.in_err-terminal.was p.1 p.2 e in
    let refused = c.make_terminal.ensures.refused i given in
    let place : i ≡ length done = omega (arith, refused.0, c.len-place.ensures, c.loop-source.terminals.ok.0, ap length inv.terminals, length-map done form_of) in
    let parts = ap (λ xs. done ++ xs) (sym c.in-Some.ensures.steps.0) ∙ inv.left in
    record {
      terminal = source;
      tried = rw place (tried _ c.args.sources.items done source _ parts inv.usable inv.unlisted);
      refused = refused.1;
    }

pub returns-in_err-terminal-clause-empty_match : goal.returns-in_err-terminal-clause-empty_match
returns-in_err-terminal-clause-empty_match g c = λ i e.
    let inv = c.loop-source.invariant in
    let source = c.in-Some.source in
    let done = c.loop-source.yielded in
    let p = err_from_is_err_and c.from_residual-in_err-terminal.result c.from_residual-in_err-terminal.ensures.1 in
    let given = handed_on c.make_terminal.result c.in_err-terminal.field-0.0 p.0 (EmptyMatch i) c.from_residual-in_err-terminal.result c.in_err-terminal.was p.1 p.2 e in
    let empty = c.make_terminal.ensures.empty_match i given in
    let place : i ≡ length done = omega (arith, empty.0, c.len-place.ensures, c.loop-source.terminals.ok.0, ap length inv.terminals, length-map done form_of) in
    let parts = ap (λ xs. done ++ xs) (sym c.in-Some.ensures.steps.0) ∙ inv.left in
    record {
      terminal = source;
      tried = rw place (tried _ c.args.sources.items done source _ parts inv.usable inv.unlisted);
      matches_empty = empty.1;
      not_listed = λ has. empty.2 (subst (λ l. Contains l source.pattern) (sym inv.same_list) has);
    }

pub loop-source-preserved : goal.loop-source-preserved
loop-source-preserved g c =
    let inv = c.loop-source.invariant in
    let source = c.in-Some.source in
    let done = c.loop-source.yielded in
    record {
      can_next = tt;
      finite = tt;
      left = append_assoc done (source ∷ []) (into_iter_items c.next.new.self) ∙ ap (λ xs. done ++ xs) (sym c.in-Some.ensures.steps.0) ∙ inv.left;
      terminals = one_more form_of [] c.loop-source.terminals.items c.push.new.self.items done source c.in_ok-terminal.terminal c.in_ok-push.ensures.items inv.terminals c.in_ok-terminal.ensures.made;
      texts = one_more (λ source. source.name) c.args.texts.now.items c.loop-source.texts.items c.push-in-loop-source.new.self.items done source source.name c.in_ok-push-2.ensures.items inv.texts refl;
      usable = All-push (λ s. IsUsable s.pattern) done source inv.usable c.in_ok-terminal.ensures.usable;
      unlisted = All-push (λ s. ¬ Contains (g.P.Patterns.listed c.args.patterns.now) s.pattern) done source inv.unlisted
          (λ has. c.in_ok-terminal.ensures.unlisted (subst (λ l. Contains l source.pattern) (sym inv.same_list) has));
      same_list = c.in_ok-terminal.ensures.same_list ∙ inv.same_list;
      count = c.in_ok-terminal.ensures.count ∙ inv.count;
      last = c.in_ok-terminal.ensures.last ∙ inv.last;
    }

pub returns-clause-unlisted : goal.returns-clause-unlisted
returns-clause-unlisted g c =
    let inv = c.loop-source.invariant in
    let iterator = c.loop-source.source-iterator in
    let none : length (into_iter_items iterator) ≡ 0 = omega (arith, iterator.rest.ok.0, c.in-None.ensures.steps.0) in
    subst (AreUnlisted _) (all_done c.loop-source.yielded (into_iter_items iterator) _ inv.left none) inv.unlisted
