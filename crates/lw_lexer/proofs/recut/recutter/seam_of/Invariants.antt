use Rattle.std.proofs.Common.{ℕ, ◌≡◌, ◌++◌, ◌<◌, List, All, take}
use Rattle.lw_matching.specs.Nfas.{AreNfas}
use Rattle.lw_matching.specs.Front.{end_from}
use Rattle.lw_tokens.specs.Cut.{IsCutTo}
use Rattle.lw_lexer.proofs.recut.recutter.seam_of.Given as goal

abbrev pub invariant-tokens : goal.invariant-tokens
invariant-tokens l = record {
  kept : l.lexer ≡ l.fn.lexer;
  cut : (more : List ℕ) → l.keywords ≡ l.fn.lexer.lexicon.keywords → AreNfas l.fn.lexer.lexicon.terminals l.nfas → All (λ b. b < 256) (l.text ++ more) →
      IsCutTo l.fn.lexer.lexicon (l.text ++ more) (end_from 0 (take l.token-index l.it.tokens.items)) (take l.token-index l.it.tokens.items);
}
