use Rattle.std.proofs.Common.{◌≡◌, ℕ, true, List, [], length, ap, sym, subst, ◌∙◌, arith}
use Rattle.std.specs.FinSet.{contains}
use Rattle.lw_scoping.specs.Symbols.{locals as locals_of}
use Rattle.lw_symbols.specs.Least.{IsInGroup, IsLeastSymbol, IsWantedSymbol}
use Rattle.lw_symbols.specs.declared.symbol.Symbol.{Symbol}
use Rattle.lw_symbols.specs.Hashes.{name_hash}
use Rattle.lw_symbols.proofs.Table.{families_long, no_numbers}
use Rattle.lw_symbols.proofs.Firsts.{first_of_least, none_there}
use Rattle.lw_symbols.proofs.locals.Locals.first_hashed.Goals as goal

pub of-requires : goal.of-requires
of-requires c = omega (arith, c.requires.node, ap length c.requires.locals.named, families_long c.args.tree.now)

pub returns-then-is_empty : goal.returns-then-is_empty
returns-then-is_empty c =
    let empty : locals_of c.args.tree.now c.args.n.0 ≡ [] =
    sym (c.of.ensures c.args.tree.now c.requires.locals) ∙ no_numbers c.of.result.now (sym c.if-is_empty.ensures) in
    none_there (locals_of c.args.tree.now c.args.n.0) empty

pub returns : goal.returns
returns c =
    let P : ℕ → List Symbol → Type 0 = λ h xs. IsLeastSymbol
    (λ (s : Symbol). IsInGroup c.args.n.0 h s × IsWantedSymbol c.args.tree.now c.args.name.now (λ type. contains c.args.fits.now type ≡ true) s) xs c.first_wanted.result in
    first_of_least c.args.tree.now c.args.n.0 c.args.name.now (λ type. contains c.args.fits.now type ≡ true) c.args.self.now.symbols.items c.requires.locals.symbols c.first_wanted.result
    (subst (P (name_hash c.args.name.now)) c.as_slice.ensures.value (subst (λ h. P h c.as_slice.result.now) c.requires.hash c.first_wanted.ensures))
