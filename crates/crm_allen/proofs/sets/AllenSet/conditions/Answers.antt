use Rattle.crm_allen.specs.Possible.{truth_of}
use Rattle.crm_allen.proofs.Listed.{filtered_itself}
use Rattle.crm_allen.proofs.sets.AllenSet.conditions.Goals as goal

pub returns : goal.returns
returns c = rw (← c.self.view_is) (filtered_itself (truth_of c.self.inside.before c.self.inside.meets c.self.inside.overlaps c.self.inside.finished c.self.inside.contains c.self.inside.starts c.self.inside.equal c.self.inside.started c.self.inside.during c.self.inside.finishes c.self.inside.overlapped c.self.inside.met c.self.inside.after))
