use Rattle.ps_face.proofs.Beginnings.{begins_trans}
use Rattle.ps_desk.proofs.laws.coming_back_shows_what_was_replied.Goals as goal

pub returns-clause-seen : goal.returns-clause-seen
returns-clause-seen g c =
    begins_trans c.args.seen.now c.learn.new.self.list c.read.new.self.list c.learn.ensures.seen c.read.ensures.later
