use Rattle.lw_reading.proofs.Rootable.{is_rootable}
use Rattle.lw_substitution.proofs.Blank.{leads_to_root}
use Rattle.lw_substitution.proofs.Closing.{close_alike, stand_before_root}
use Rattle.lw_substitution.proofs.Differing.{follows_other}
use Rattle.lw_substitution.proofs.laws.other_names_are_read_alike.Goals as goal

pub returns : goal.returns
returns c = record {
  follows = λ g text other next after place front fore mid name rest others bs differ is.
      follows_other g text other next place front fore rest others differ mid name after bs is;
  closes = λ g text other place ts us bs cs x stand like is. close_alike text other place ts us g is stand like;
  stand = λ g text m ts bs leads is. let (more, others, (x, whole)) = leads in stand_before_root g text m more ts others x bs whole is;
  sentences = λ g of text m more ts no_type_fault no_check_fault is reads. leads_to_root g of text (is_rootable g no_type_fault no_check_fault) m more ts is reads;
}
