use Rattle.std.proofs.Common.{Vec, Global, length, map, sym, ap, subst}
use Rattle.lw_properties.specs.Typed.{AreTextTypes, AreNodeTypes}
use Rattle.lw_types.specs.Seeing.{AreGathered, AreSeenProperties}
use Rattle.lw_types.specs.declared.property_table.info.PropertyInfo.{PropertyInfo}
use Rattle.lw_types.proofs.Telling.{table_told}
use Rattle.lw_types.proofs.property_table.table.PropertyTable.of.Goals as goal

pub gather-requires-clause-source : goal.gather-requires-clause-source
gather-requires-clause-source c = record {
  numbers = c.requires.numbers;
  nodes = c.requires.nodes;
  texts = subst (AreTextTypes c.args.g.now) (sym c.as_slice.ensures.value) c.in_ok-texts.ensures;
  made = subst (AreNodeTypes c.args.g.now) (sym c.as_slice-2.ensures.value) c.in_ok-made.ensures;
}

pub properties-requires-clause-source : goal.properties-requires-clause-source
properties-requires-clause-source c = record {
  numbers = c.requires.numbers;
  nodes = c.requires.nodes;
  texts = subst (AreTextTypes c.args.g.now) (sym c.as_slice.ensures.value) c.in_ok-texts.ensures;
  made = subst (AreNodeTypes c.args.g.now) (sym c.as_slice-2.ensures.value) c.in_ok-made.ensures;
}

pub returns : goal.returns
returns c =
    let g = c.args.g.now in
    let rows = c.args.ways.now in
    let free = c.in_ok-free.free.items in
    let gatherings = c.in_ok-gatherings.gatherings.items in
    let table = map (λ (v : Vec PropertyInfo Global). v.items) c.in_ok-types.types.items in
    let gathered = subst (λ wanted. AreGathered g rows wanted gatherings) c.as_slice-3.ensures.value c.in_ok-gatherings.ensures in
    let seen = subst (λ gs. AreSeenProperties g gs (length c.args.numbers.now.types) table) c.as_slice-5.ensures.value c.in_ok-types.ensures in
    table_told g rows c.requires.ways free c.in_ok-free.ensures gatherings gathered table (subst (λ n. AreSeenProperties g gatherings n table) (ap length c.requires.numbers.types) seen)
