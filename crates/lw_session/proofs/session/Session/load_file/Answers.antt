use Rattle.lw_session.proofs.Loads.{fits, loaded, not_loaded}
use Rattle.lw_session.proofs.session.Session.load_file.Goals as goal

pub returns-clause-loaded : goal.returns-clause-loaded
returns-clause-loaded c =
    rw (← c.self.view_is)
    (loaded c.self.inside.workspace c.put-outcome.new.self c.self.inside.phase c.args.uri.now c.args.text c.agrees.ensures.agrees c.put-outcome.result
    c.put-outcome.ensures.agrees c.put-outcome.ensures.begun)

pub returns-clause-fits : goal.returns-clause-fits
returns-clause-fits c =
    rw (← c.self.view_is)
    (fits c.self.inside.workspace c.args.uri.now c.args.text c.agrees.ensures.agrees c.put-outcome.result c.agrees.ensures.few c.put-outcome.ensures.fits)

pub returns-clause-fault : goal.returns-clause-fault
returns-clause-fault c =
    rw (← c.self.view_is)
    (not_loaded c.self.inside.workspace c.args.uri.now c.args.text c.agrees.ensures.agrees c.put-outcome.result c.put-outcome.ensures.fault)
