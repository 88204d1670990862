-- What is put on at a place, in words of the code.
use Rattle.std.proofs.Common.{◌≡◌, ℕ, List, [], Option, Some, slice_get, refl, sym, subst}
use Rattle.lw_base.specs.declared.numbers.KindId.{KindId}
use Rattle.lw_program.specs.declared.instr.Instr.{Instr}
use Rattle.lw_program.specs.declared.instr.Instr.TheVariants.{Token}
use Rattle.lw_program.specs.ProgramOf.{ProgramParts}
use Rattle.lw_viable.specs.Told.{BeginsParts}
use Rattle.lw_viable.specs.Growing.{Change, GrowsLists, ArePut}
use Rattle.lw_viable.specs.Turning.{AreQuiet, AreRead, ReadsToken, IsMovedAt}
use Rattle.lw_viable.specs.declared.front.Front.{Front}
use Rattle.lw_viable.specs.declared.lists.Lists.{Lists}
use Rattle.lw_viable.proofs.Putting.{put_none}

module _ (program : ProgramParts) (told : BeginsParts) (kind : Option KindId) (p : ℕ) where
  pub moved_quietly : {old new : Lists} {front : Front} {before after : List Front} (i : Option Instr) (changes : List Change) (found : List Front) →
      slice_get program.code p ≡ i → GrowsLists old new → AreQuiet program told kind p i changes → AreRead kind i [] → ArePut changes old new front before after →
      IsMovedAt program told kind p old new front before after found found
  moved_quietly {front} i changes found is grows quiet none put =
      record {
        quiet = changes;
        are_quiet = subst (λ i. AreQuiet program told kind p i changes) (sym is) quiet;
        puts = put;
        tokens = [];
        are_read = subst (λ i. AreRead kind i []) (sym is) none;
        finds = put_none grows front found;
      }

  pub moved_by_token : {old new : Lists} {front : Front} {before after : List Front} (k : KindId) (changes : List Change) (work : List Front) →
      slice_get program.code p ≡ Some (Token k) → GrowsLists old new → ReadsToken kind k changes → ArePut changes old new front before after →
      IsMovedAt program told kind p old new front work work before after
  moved_by_token {front} k changes work is grows reads put =
      record {
        quiet = [];
        are_quiet = subst (λ i. AreQuiet program told kind p i []) (sym is) refl;
        puts = put_none grows front work;
        tokens = changes;
        are_read = subst (λ i. AreRead kind i changes) (sym is) reads;
        finds = put;
      }
