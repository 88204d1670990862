use Rattle.lw_substitution.proofs.Differing.{tree_too, opened_too, tree_alike, opened_alike}
use Rattle.lw_substitution.proofs.laws.trees_differ_in_one_name.Goals as goal

pub returns : goal.returns
returns c = record {
  whole = λ g text other next after place front fore mid name rest others tokens behind tree differ is.
      tree_too g text other next place front fore rest others differ mid name after tokens behind tree is;
  alike = λ g text other next after place front fore mid name rest others tokens behind tree too differ is was.
      tree_alike g text other next place front fore rest others differ mid name after tokens behind tree too is was;
  begun = λ g text other next after place front fore mid name rest others tokens behind tree differ leads is.
      opened_too g text other next place front fore rest others differ mid name after tokens behind tree leads is;
  begun_alike = λ g text other next after place front fore mid name rest others tokens behind tree too differ leads is was.
      opened_alike g text other next place front fore rest others differ mid name after tokens behind tree too leads is was;
}
