use Rattle.std.proofs.Common.{List, refl, subst₂, arith}
use Rattle.lw_tree.specs.declared.node.Reference.{Reference}
use Rattle.lw_rename.specs.Alike.{IsFirstApartAmong}
use Rattle.lw_rename.proofs.FirstApart.{first_unlike_at, in_either, one_more, same_shape, unlike_apart, unlike_but}
use Rattle.lw_rename.proofs.Listing.{not_both}
use Rattle.lw_rename.proofs.unlike.first_unlike.Goals as goal

pub returns-then-is_told : goal.returns-then-is_told
returns-then-is_told c g count =
    let a = c.args.one.now in
    let b = c.args.other.now in
    let apart = c.first_apart-apart.result in
    let there = in_either a b c.nodes.n (omega (arith, c.max-count.ensures, c.len.ensures, c.len-2.ensures)) in
    first_unlike_at g a b c.args.props count apart (subst₂ (λ (x y : List Reference). IsFirstApartAmong x y c.first_apart-apart.result) c.refs.ensures c.refs-2.ensures c.first_apart-apart.ensures) c.nodes.n there c.nodes.invariant
    (unlike_apart g a b c.args.props count apart (subst₂ (λ (x y : List Reference). IsFirstApartAmong x y c.first_apart-apart.result) c.refs.ensures c.refs-2.ensures c.first_apart-apart.ensures) (record { 0 = c.nodes.n }) (c.is_told.ensures.0 c.if-is_told.true))

pub returns-then-not-are_alike_but : goal.returns-then-not-are_alike_but
returns-then-not-are_alike_but c g count =
    let a = c.args.one.now in
    let b = c.args.other.now in
    let apart = c.first_apart-apart.result in
    let there = in_either a b c.nodes.n (omega (arith, c.max-count.ensures, c.len.ensures, c.len-2.ensures)) in
    first_unlike_at g a b c.args.props count apart (subst₂ (λ (x y : List Reference). IsFirstApartAmong x y c.first_apart-apart.result) c.refs.ensures c.refs-2.ensures c.first_apart-apart.ensures) c.nodes.n there c.nodes.invariant
    (unlike_but g a b c.args.props count c.nodes.n there (λ is. not_both (c.are_alike_but.ensures.1 is) c.if-not-are_alike_but.true))

pub nodes-preserved : goal.nodes-preserved
nodes-preserved c =
    one_more c.args.one.now c.args.other.now c.args.props c.first_apart-apart.result c.nodes.n (record { 0 = c.nodes.n }) refl c.nodes.invariant
    (λ is. not_both (c.is_told.ensures.1 is) c.if-is_told.false) (c.are_alike_but.ensures.0 c.if-not-are_alike_but.false)

pub returns : goal.returns
returns c g count =
    same_shape g c.args.one.now c.args.other.now c.args.props count c.first_apart-apart.result
    (subst₂ (λ (x y : List Reference). IsFirstApartAmong x y c.first_apart-apart.result) c.refs.ensures c.refs-2.ensures c.first_apart-apart.ensures) c.nodes.n
    (omega (arith, c.max-count.ensures, c.len.ensures, c.len-2.ensures)) (omega (arith, c.max-count.ensures, c.len.ensures, c.len-2.ensures)) c.nodes.invariant
