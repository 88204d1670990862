-- The automata that are held, where there are any, as they are lent.
use Rattle.std.proofs.Common.{◌≡◌, List, Option, Some, IfSome, sym, subst}
use Rattle.std.specs.Prelude.{Vec}
use Rattle.std.specs.declared.alloc.Global.{Global}
use Rattle.regex_nfa.specs.declared.nfa.Nfa.{Nfa}
use Rattle.lw_matching.specs.Nfas.{AreNfas}
use Rattle.lw_tokens.specs.Lexicon.{TerminalForm}

pub lent_automata : (terminals : List TerminalForm) (held : Option (Vec Nfa Global)) (nfas : Vec Nfa Global) (lent : List Nfa) → held ≡ Some nfas →
    lent ≡ nfas.items → IfSome held (λ found. AreNfas terminals found.items) → AreNfas terminals lent
lent_automata terminals held nfas lent is lent_is are =
    subst (AreNfas terminals) (sym lent_is) (subst (λ (found : Option (Vec Nfa Global)). IfSome found (λ nfas. AreNfas terminals nfas.items)) is are)
