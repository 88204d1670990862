use Rattle.std.proofs.Common.{◌≡◌, ℕ, List, subst}
use Rattle.lw_symbols.specs.declared.symbol.Symbol.{Symbol}
use Rattle.lw_symbols.specs.Hashes.{name_hash}
use Rattle.lw_symbols.specs.Least.{IsInGroup, IsLeastSymbol, IsWantedSymbol}
use Rattle.lw_symbols.proofs.Firsts.{first_of_least}
use Rattle.lw_symbols.proofs.locals.Locals.first_of_type.Goals as goal

pub returns : goal.returns
returns c =
    let P : ℕ → List Symbol → Type 0 = λ h xs. IsLeastSymbol
    (λ (s : Symbol). IsInGroup c.args.n.0 h s × IsWantedSymbol c.args.tree.now c.args.name.now (λ type. type ≡ c.args.type_id.0) s) xs c.first_of_type.result in
    first_of_least c.args.tree.now c.args.n.0 c.args.name.now (λ type. type ≡ c.args.type_id.0) c.args.self.now.symbols.items c.requires.symbols c.first_of_type.result
    (subst (P (name_hash c.args.name.now)) c.as_slice.ensures.value (subst (λ h. P h c.as_slice.result.now) c.hash_of.ensures c.first_of_type.ensures))
