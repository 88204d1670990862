-- By the front of the three kinds, of as many as the tables look at.
use Rattle.std.proofs.Common.{◌≡◌, ◌↔◌, ◌≤◌, Some, take, ap, ◌∙◌, subst}
use Rattle.lw_first.specs.Heads.{seen_in}
use Rattle.lw_look.specs.Looks.{Look, window}
use Rattle.lw_parse.specs.Running.{state_of}
use Rattle.lw_parse.proofs.Windows.{seen_front}
use Rattle.lw_parse.proofs.run.Run.way.Goals as goal

pub returns : goal.returns
returns c = λ g kinds s w tell at.
    let state = state_of c.args.self.now in
    let seen : seen_in (take c.depth.result c.next_three-seen.result) ≡ window state.parser.k state.unread =
    ap (λ k. seen_in (take k c.next_three-seen.result)) c.depth.ensures.is
    ∙ seen_front state.parser.k c.next_three-seen.result state.unread (subst (λ k. k ≤ 3) c.depth.ensures.is c.depth.ensures.most) c.next_three-seen.ensures in
    subst (λ ks. (c.way.result ≡ Some w) ↔ Look g kinds state.parser.k s w ks) seen (c.way.ensures g kinds state.parser.k s w tell at)
