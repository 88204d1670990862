use Rattle.std.proofs.Common.{◌≡◌, sym, subst, arith}
use Rattle.std.proofs.lemmas.Option.{slice_get_within}
use Rattle.std.proofs.lemmas.Result.{on_ok_weaker}
use Rattle.lw_grammar.proofs.FirstLemmas.{first_place}
use Rattle.lw_grammar.specs.Named.{IsRule}
use Rattle.lw_first.specs.Sets.{IsAmongHeads}
use Rattle.lw_look.proofs.Apart.{no_terminal_is_rule}
use Rattle.lw_first.specs.Calls.{BehindName}
use Rattle.lw_first.proofs.Putting.{puts_none, puts_as}
use Rattle.lw_first.proofs.follow.following.follow_name.Goals as goal

pub put_in-requires : goal.put_in-requires
put_in-requires c =
    let row = c.requires.ready.lexicon.kinds in
    let meant = c.in-Rule.ensures row.kinds row.are in
    omega (arith, c.requires.all, slice_get_within c.args.first.now.lexicon.g.now.rules c.in-Rule.rule meant.0 meant.1.first.there)

pub returns-in-Token : goal.returns-in-Token
returns-in-Token c =
    let g = c.args.first.now.lexicon.g.now in
    let name = c.args.name.now in
    let row = c.requires.ready.lexicon.kinds in
    puts_none (BehindName g name c.args.after.now) (λ r h (among, rule, is). no_terminal_is_rule g row.kinds name c.in-Token.field-0.0 r rule (c.in-Token.ensures row.kinds row.are) is)
    c.args.sets.now

pub returns-in-Rule : goal.returns-in-Rule
returns-in-Rule c =
    let g = c.args.first.now.lexicon.g.now in
    let name = c.args.name.now in
    let after = c.args.after.now in
    let row = c.requires.ready.lexicon.kinds in
    let meant = c.in-Rule.ensures row.kinds row.are in
    on_ok_weaker c.put_in.result
    (puts_as (λ r h. (r ≡ c.in-Rule.rule) × IsAmongHeads after h) (BehindName g name after)
    (λ r h. (
      λ (same, among). (among, meant.0, subst (λ n. IsRule g name n meant.0) (sym same) meant.1),
      λ (among, rule, is). (first_place is.first meant.1.first, among),
    )) c.args.sets.now c.put_in.new.sets)
    c.put_in.ensures

pub returns-in-Nothing : goal.returns-in-Nothing
returns-in-Nothing c =
    let g = c.args.first.now.lexicon.g.now in
    let row = c.requires.ready.lexicon.kinds in
    puts_none (BehindName g c.args.name.now c.args.after.now) (λ r h (among, rule, is). (c.in-Nothing.ensures row.kinds row.are).1 r rule is) c.args.sets.now
