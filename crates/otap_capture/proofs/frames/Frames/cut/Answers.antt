use Rattle.otap_capture.proofs.Cuts.{cuts_frame, sound_cut, rest_cut, few_cut}
use Rattle.otap_capture.proofs.frames.Frames.cut.Goals as goal

pub invariant_of-self : goal.invariant_of-self
invariant_of-self c = sound_cut c.self.inside c.in-Frame.flag c.in-Frame.size c.self.invariant (rw (← c.self.view_is) at c.in-Frame.ensures)

pub returns-in-Frame-clause-cuts : goal.returns-in-Frame-clause-cuts
returns-in-Frame-clause-cuts c = rw (← c.self.view_is) (cuts_frame c.self.inside c.in-Frame.flag c.in-Frame.size c.self.invariant (rw (← c.self.view_is) at c.in-Frame.ensures))

pub returns-in-Frame-clause-few : goal.returns-in-Frame-clause-few
returns-in-Frame-clause-few c = rw (← c.self.view_is) (few_cut c.self.inside c.in-Frame.flag c.in-Frame.size c.self.invariant (rw (← c.self.view_is) at c.in-Frame.ensures))

pub returns-in-Frame-clause-rest : goal.returns-in-Frame-clause-rest
returns-in-Frame-clause-rest c = rest_cut c.self.inside c.in-Frame.flag c.in-Frame.size c.self.invariant (rw (← c.self.view_is) at c.in-Frame.ensures)
