-- What a session stands for.
use Rattle.lw_session.specs.Answering.{standing_of}
use Rattle.lw_session.specs.View.{SessionView}
use Rattle.lw_session.specs.declared.session.Session.TheInside.{Inside}

abbrev pub seen_session : Inside → SessionView
seen_session s = record { setting = s.workspace.setting; standing = standing_of s.workspace s.phase }
