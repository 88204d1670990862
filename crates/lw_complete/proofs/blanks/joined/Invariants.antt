use Rattle.std.proofs.Common.{◌≡◌, ◌++◌, length, map, take}
use Rattle.lw_places.specs.Starting.{moved_by}
use Rattle.lw_complete.proofs.blanks.joined.Given as goal

-- those so far stand behind the tokens before the word
abbrev pub invariant-tokens : goal.invariant-tokens
invariant-tokens l = l.tokens.items ≡ l.typing.tokens.now ++ map (moved_by (length l.typing.front.now)) (take l.token-index l.others)
