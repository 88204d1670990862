use Rattle.std.proofs.Common.{◌≡◌, ◌<◌, refl, sym, subst, arith}
use Rattle.std.proofs.lemmas.Option.{slice_get_within}
use Rattle.lw_grammar.specs.Named.{IsTerminal}
use Rattle.lw_grammar.proofs.FirstLemmas.{first_place}
use Rattle.lw_kinds.specs.Calls.{IsTerminalSo}
use Rattle.lw_kinds.proofs.MarkLemmas.{Marks-none, Marks-same, Marks-set}
use Rattle.lw_kinds.proofs.names.Names.mark.Goals as goal

pub index_mut-requires : goal.index_mut-requires
index_mut-requires c =
    let terminals = c.args.self.now.g.now.terminals in
    let place = c.in-Some.place in
    let means = c.in-Some.ensures in omega (arith, slice_get_within terminals place means.0 means.1.first.there, c.requires.marks, c.args.called.now.ok)

pub returns-in-Some : goal.returns-in-Some
returns-in-Some c =
    let g = c.args.self.now.g.now in
    let name = c.args.name.now in
    let place = c.in-Some.place in
    let means = c.in-Some.ensures in
    let inside = subst (λ n. place < n) (sym c.requires.marks) (slice_get_within g.terminals place means.0 means.1.first.there) in
    Marks-same
    (λ t. (
      λ same. subst (IsTerminalSo g (λ called. name ≡ called)) same (name, refl, means.0, means.1),
      λ (called, is, terminal, other). first_place means.1.first (subst (λ text. IsTerminal g text t terminal) (sym is) other).first,
    ))
    (Marks-set c.args.called.now.items place inside)

pub returns-in-None : goal.returns-in-None
returns-in-None c =
    let g = c.args.self.now.g.now in
    Marks-none (λ t (called, is, terminal, means). c.in-None.ensures t terminal (subst (λ text. IsTerminal g text t terminal) (sym is) means)) c.args.called.now.items
