use Rattle.std.proofs.Common.{◌≡◌, ◌<◌, ◌≤◌, ◌+◌, List, All, get_or, length, map, take, sym, ap, ◌∙◌, subst, arith}
use Rattle.std.proofs.lemmas.List.{take_all}
use Rattle.std.proofs.lemmas.List.Elements.{All-contains, All-nil, All-push}
use Rattle.lw_faults.specs.Finding.{Finds}
use Rattle.lw_faults.proofs.Joining.{Finds-all, Finds-begin, Finds-more}
use Rattle.lw_viable.specs.declared.reference_start.ReferenceStart.{ReferenceStart}
use Rattle.lw_complete.specs.declared.known.Known.{Known}
use Rattle.lw_complete.specs.Starts.{ComesAt, IsBlankKnown, IsNameFoundAt, IsKnownStart, IsStartNext}
use Rattle.lw_complete.proofs.NamedKnown.{start_found, starts_more}
use Rattle.lw_complete.proofs.known.known_starts.Goals as goal

pub known_start-requires : goal.known_start-requires
known_start-requires c =
    let (of, lexicon, tasks, typed, parsed, all) = c.requires.known in
    let starts = c.args.starts.now in
    let i = c.starts.start-index in
    let x = c.start-item.result in
    let inside : i < length starts = omega arith in record {
      known = (
        of,
        lexicon,
        tasks,
        typed,
        parsed,
        All-contains (IsStartNext of tasks c.args.typing.now) starts x all (i, inside, sym c.start-item.is),
        c.in_ok-made.ensures of lexicon typed,
      );
    }

pub starts-init : goal.starts-init
starts-init c = record {
  starts = ap (map (λ (one : Known). one.start.now)) c.new-known.ensures.items;
  known = λ of lexicon trees address typed among.
      subst (All (IsKnownStart of c.args.typing.now trees address)) (sym c.new-known.ensures.items) (All-nil (IsKnownStart of c.args.typing.now trees address));
  blank = λ of lexicon tasks trees address typed parsed all among.
      subst (All (IsBlankKnown of lexicon tasks c.args.typing.now trees address)) (sym c.new-known.ensures.items)
      (All-nil (IsBlankKnown of lexicon tasks c.args.typing.now trees address));
  found = λ of lexicon tasks trees address typed parsed all among.
      Finds-begin (IsNameFoundAt of lexicon tasks c.args.typing.now trees address) c.args.found.now.items c.args.starts.now;
}

pub starts-preserved : goal.starts-preserved
starts-preserved c =
    let typing = c.args.typing.now in
    let starts = c.args.starts.now in
    let inv = c.starts.invariant in
    let i = c.starts.start-index in
    let x = c.start-item.result in
    let one = c.in_ok-one.one in
    let inside : i < length starts = omega arith in record {
      starts =
          subst (λ (known : List Known). map (λ (one : Known). one.start.now) known ≡ take (i + 1) starts) (sym c.in_ok-push.ensures.items)
          (starts_more c.starts.known.items starts i one inside
          (subst (λ (s : ReferenceStart). s ≡ get_or starts i s) (sym c.in_ok-one.ensures.start) c.start-item.is) inv.starts);
      known = λ of lexicon trees address typed among.
          subst (All (IsKnownStart of typing trees address)) (sym c.in_ok-push.ensures.items)
          (All-push (IsKnownStart of typing trees address) c.starts.known.items one (inv.known of lexicon trees address typed among)
          (c.in_ok-one.ensures.known of lexicon trees address typed among));
      blank = λ of lexicon tasks trees address typed parsed all among.
          subst (All (IsBlankKnown of lexicon tasks typing trees address)) (sym c.in_ok-push.ensures.items)
          (All-push (IsBlankKnown of lexicon tasks typing trees address) c.starts.known.items one
          (inv.blank of lexicon tasks trees address typed parsed all among)
          (c.in_ok-one.ensures.blank of lexicon tasks trees address typed parsed
          (All-contains (IsStartNext of tasks typing) starts x all (i, inside, sym c.start-item.is)) (c.in_ok-made.ensures of lexicon typed) among));
      found = λ of lexicon tasks trees address typed parsed all among.
          let next = All-contains (IsStartNext of tasks typing) starts x all (i, inside, sym c.start-item.is) in
          let at : ComesAt of typing next.next one.start.now =
          subst (λ (s : ReferenceStart). ComesAt of typing next.next s) (sym c.in_ok-one.ensures.start) next.sound.at in
          let names = (c.in_ok-one.ensures.known of lexicon trees address typed among).told next.next at in
          let blanks = (c.in_ok-one.ensures.blank of lexicon tasks trees address typed parsed next (c.in_ok-made.ensures of lexicon typed) among).told next.next at in
          Finds-more (IsNameFoundAt of lexicon tasks typing trees address) starts i x inside c.start-item.is (inv.found of lexicon tasks trees address typed parsed all among)
          (subst (λ (s : ReferenceStart). Finds (IsNameFoundAt of lexicon tasks typing trees address s) c.starts.found.items c.put_names.new.found.items)
          c.in_ok-one.ensures.start
          (start_found of lexicon tasks typing trees address one next.next at names blanks c.starts.found.items c.put_names.new.found.items c.in_ok-put_names.ensures));
    }

pub returns-clause-starts : goal.returns-clause-starts
returns-clause-starts c =
    let past : length c.args.starts.now ≤ c.starts.start-index = omega arith in
    c.starts.invariant.starts ∙ take_all c.starts.start-index c.args.starts.now past

pub returns-clause-known : goal.returns-clause-known
returns-clause-known c of lexicon trees address typed among = c.starts.invariant.known of lexicon trees address typed among

pub returns-clause-blank : goal.returns-clause-blank
returns-clause-blank c of lexicon tasks trees address typed parsed all among =
    c.starts.invariant.blank of lexicon tasks trees address typed parsed all among

pub returns-clause-found : goal.returns-clause-found
returns-clause-found c of lexicon tasks trees address typed parsed all among =
    let past : length c.args.starts.now ≤ c.starts.start-index = omega arith in
    Finds-all (IsNameFoundAt of lexicon tasks c.args.typing.now trees address) c.args.starts.now c.starts.start-index past
    (c.starts.invariant.found of lexicon tasks trees address typed parsed all among)
