-- What is counted one after the other is counted together, and has its numbers so.
use Rattle.std.proofs.Common.{◌≡◌, ℕ, ◌+◌, List, [], ◌∷◌, ◌++◌, Some, length, slice_get, refl, sym, ap, ◌∙◌, subst, arith}
use Rattle.std.proofs.lemmas.List.{length-append, append-nil, append_assoc}
use Rattle.lw_grammar.specs.declared.grammar.Grammar.{Grammar}
use Rattle.lw_look.specs.Sites.{PartSite}
use Rattle.lw_look.specs.Choices.{choice_sites}
use Rattle.lw_program.specs.Numbered.{put_sites, act_sites}
use Rattle.lw_program.specs.declared.counts.Counts.{Counts}
use Rattle.lw_program.specs.Counting.{Sites, no_sites, joined_sites, choice_site, put_site, act_site, AreSitesCounted, StandInOrder, AreNext, after_point, after_put, after_act}
use Rattle.lw_program.specs.Filled.{Want, all_sites}
use Rattle.lw_program.proofs.Lists.{slice_get_more, slice_get_after}

pub same_sites : (a b : Sites) → a.choices ≡ b.choices → a.puts ≡ b.puts → a.acts ≡ b.acts → a ≡ b
same_sites a b c p e =
    ap (λ xs. record { choices = xs; puts = a.puts; acts = a.acts }) c
    ∙ ap (λ xs. record { choices = b.choices; puts = xs; acts = a.acts }) p
    ∙ ap (λ xs. record { choices = b.choices; puts = b.puts; acts = xs }) e

pub both_none : (a : Sites) → joined_sites a no_sites ≡ a
both_none a = same_sites (joined_sites a no_sites) a (append-nil a.choices) (append-nil a.puts) (append-nil a.acts)

pub both_assoc : (a b c : Sites) → joined_sites (joined_sites a b) c ≡ joined_sites a (joined_sites b c)
both_assoc a b c =
    same_sites (joined_sites (joined_sites a b) c) (joined_sites a (joined_sites b c)) (append_assoc a.choices b.choices c.choices) (append_assoc a.puts b.puts c.puts) (append_assoc a.acts b.acts c.acts)

pub all_sites-append : (ws vs : List Want) → all_sites (ws ++ vs) ≡ joined_sites (all_sites ws) (all_sites vs)
all_sites-append [] vs = refl
all_sites-append (w ∷ ws) vs = ap (joined_sites w.sites) (all_sites-append ws vs) ∙ sym (both_assoc w.sites (all_sites ws) (all_sites vs))

pub counted_none : (counts : Counts) → AreSitesCounted no_sites counts counts
counted_none counts = record { points = omega arith; puts = omega arith; acts = omega arith }

pub counted_point : (s : PartSite) (old new : Counts) → new ≡ after_point old → AreSitesCounted (choice_site s) old new
counted_point s old new is =
    subst (AreSitesCounted (choice_site s) old) (sym is) record { points = refl; puts = omega arith; acts = omega arith }

pub counted_put : (s : PartSite) (old new : Counts) → new ≡ after_put old → AreSitesCounted (put_site s) old new
counted_put s old new is = subst (AreSitesCounted (put_site s) old) (sym is) record { points = omega arith; puts = refl; acts = omega arith }

pub counted_act : (s : PartSite) (old new : Counts) → new ≡ after_act old → AreSitesCounted (act_site s) old new
counted_act s old new is = subst (AreSitesCounted (act_site s) old) (sym is) record { points = omega arith; puts = omega arith; acts = refl }

pub counted_same : (old new : Counts) → new ≡ old → AreSitesCounted no_sites old new
counted_same old new is = subst (AreSitesCounted no_sites old) (sym is) (counted_none old)

pub counted_both : {a b : Sites} {old mid new : Counts} → AreSitesCounted a old mid → AreSitesCounted b mid new → AreSitesCounted (joined_sites a b) old new
counted_both {a} {b} one other = record {
  points = omega (arith, one.points, other.points, length-append a.choices b.choices);
  puts = omega (arith, one.puts, other.puts, length-append a.puts b.puts);
  acts = omega (arith, one.acts, other.acts, length-append a.acts b.acts);
}

module _ (all xs ys : List PartSite) (from : ℕ) where
  front_stands : StandInOrder all from (xs ++ ys) → StandInOrder all from xs
  front_stands stand i s is = stand i s (slice_get_more xs ys i s is)

  rest_stands : (to : ℕ) → to ≡ from + length xs → StandInOrder all from (xs ++ ys) → StandInOrder all to ys
  rest_stands to at stand i s is =
      let there : to + i ≡ from + (length xs + i) = omega (arith, at) in ap (slice_get all) there ∙ stand (length xs + i) s (slice_get_after xs ys i s is)

module _ (g : Grammar) (a b : Sites) (old : Counts) where
  pub front_next : AreNext g old (joined_sites a b) → AreNext g old a
  front_next next = record {
    choices = front_stands (choice_sites g) a.choices b.choices old.points next.choices;
    puts = front_stands (put_sites g) a.puts b.puts old.puts next.puts;
    acts = front_stands (act_sites g) a.acts b.acts old.acts next.acts;
  }

  pub rest_next : (mid : Counts) → AreSitesCounted a old mid → AreNext g old (joined_sites a b) → AreNext g mid b
  rest_next mid counted next = record {
    choices = rest_stands (choice_sites g) a.choices b.choices old.points mid.points counted.points next.choices;
    puts = rest_stands (put_sites g) a.puts b.puts old.puts mid.puts counted.puts next.puts;
    acts = rest_stands (act_sites g) a.acts b.acts old.acts mid.acts counted.acts next.acts;
  }

-- the first of those that come next
pub first_of : (all : List PartSite) (n : ℕ) (s : PartSite) → slice_get all (n + 0) ≡ Some s → slice_get all n ≡ Some s
first_of all n s is = let at : n ≡ n + 0 = omega arith in ap (slice_get all) at ∙ is
