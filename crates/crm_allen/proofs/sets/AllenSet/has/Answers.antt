use Rattle.std.proofs.Common.{sym, ap, ◌∙◌, List}
use Rattle.std.specs.List.{filter}
use Rattle.crm_allen.specs.declared.relations.Allen.{Allen}
use Rattle.crm_allen.specs.declared.relations.Allen.TheVariants.{Before, Meets, Overlaps, Finished, Contains, Starts, Equal, Started, During, Finishes, Overlapped, Met, After}
use Rattle.crm_allen.specs.Names.{all_relations, is_among}
use Rattle.crm_allen.specs.Possible.{truth_of}
use Rattle.crm_allen.proofs.Listed.{among_filtered}
use Rattle.crm_allen.proofs.sets.AllenSet.has.Goals as goal

pub returns-in-Before : goal.returns-in-Before
returns-in-Before c =
    sym (among_filtered (truth_of c.self.inside.before c.self.inside.meets c.self.inside.overlaps c.self.inside.finished c.self.inside.contains c.self.inside.starts c.self.inside.equal c.self.inside.started c.self.inside.during c.self.inside.finishes c.self.inside.overlapped c.self.inside.met c.self.inside.after) Before)
    ∙ ap (is_among (filter (truth_of c.self.inside.before c.self.inside.meets c.self.inside.overlaps c.self.inside.finished c.self.inside.contains c.self.inside.starts c.self.inside.equal c.self.inside.started c.self.inside.during c.self.inside.finishes c.self.inside.overlapped c.self.inside.met c.self.inside.after) all_relations)) (sym c.in-Before.is)
    ∙ ap (λ (rs : List Allen). is_among rs c.args.r) c.self.view_is

pub returns-in-Meets : goal.returns-in-Meets
returns-in-Meets c =
    sym (among_filtered (truth_of c.self.inside.before c.self.inside.meets c.self.inside.overlaps c.self.inside.finished c.self.inside.contains c.self.inside.starts c.self.inside.equal c.self.inside.started c.self.inside.during c.self.inside.finishes c.self.inside.overlapped c.self.inside.met c.self.inside.after) Meets)
    ∙ ap (is_among (filter (truth_of c.self.inside.before c.self.inside.meets c.self.inside.overlaps c.self.inside.finished c.self.inside.contains c.self.inside.starts c.self.inside.equal c.self.inside.started c.self.inside.during c.self.inside.finishes c.self.inside.overlapped c.self.inside.met c.self.inside.after) all_relations)) (sym c.in-Meets.is)
    ∙ ap (λ (rs : List Allen). is_among rs c.args.r) c.self.view_is

pub returns-in-Overlaps : goal.returns-in-Overlaps
returns-in-Overlaps c =
    sym (among_filtered (truth_of c.self.inside.before c.self.inside.meets c.self.inside.overlaps c.self.inside.finished c.self.inside.contains c.self.inside.starts c.self.inside.equal c.self.inside.started c.self.inside.during c.self.inside.finishes c.self.inside.overlapped c.self.inside.met c.self.inside.after) Overlaps)
    ∙ ap (is_among (filter (truth_of c.self.inside.before c.self.inside.meets c.self.inside.overlaps c.self.inside.finished c.self.inside.contains c.self.inside.starts c.self.inside.equal c.self.inside.started c.self.inside.during c.self.inside.finishes c.self.inside.overlapped c.self.inside.met c.self.inside.after) all_relations)) (sym c.in-Overlaps.is)
    ∙ ap (λ (rs : List Allen). is_among rs c.args.r) c.self.view_is

pub returns-in-Finished : goal.returns-in-Finished
returns-in-Finished c =
    sym (among_filtered (truth_of c.self.inside.before c.self.inside.meets c.self.inside.overlaps c.self.inside.finished c.self.inside.contains c.self.inside.starts c.self.inside.equal c.self.inside.started c.self.inside.during c.self.inside.finishes c.self.inside.overlapped c.self.inside.met c.self.inside.after) Finished)
    ∙ ap (is_among (filter (truth_of c.self.inside.before c.self.inside.meets c.self.inside.overlaps c.self.inside.finished c.self.inside.contains c.self.inside.starts c.self.inside.equal c.self.inside.started c.self.inside.during c.self.inside.finishes c.self.inside.overlapped c.self.inside.met c.self.inside.after) all_relations)) (sym c.in-Finished.is)
    ∙ ap (λ (rs : List Allen). is_among rs c.args.r) c.self.view_is

pub returns-in-Contains : goal.returns-in-Contains
returns-in-Contains c =
    sym (among_filtered (truth_of c.self.inside.before c.self.inside.meets c.self.inside.overlaps c.self.inside.finished c.self.inside.contains c.self.inside.starts c.self.inside.equal c.self.inside.started c.self.inside.during c.self.inside.finishes c.self.inside.overlapped c.self.inside.met c.self.inside.after) Contains)
    ∙ ap (is_among (filter (truth_of c.self.inside.before c.self.inside.meets c.self.inside.overlaps c.self.inside.finished c.self.inside.contains c.self.inside.starts c.self.inside.equal c.self.inside.started c.self.inside.during c.self.inside.finishes c.self.inside.overlapped c.self.inside.met c.self.inside.after) all_relations)) (sym c.in-Contains.is)
    ∙ ap (λ (rs : List Allen). is_among rs c.args.r) c.self.view_is

pub returns-in-Starts : goal.returns-in-Starts
returns-in-Starts c =
    sym (among_filtered (truth_of c.self.inside.before c.self.inside.meets c.self.inside.overlaps c.self.inside.finished c.self.inside.contains c.self.inside.starts c.self.inside.equal c.self.inside.started c.self.inside.during c.self.inside.finishes c.self.inside.overlapped c.self.inside.met c.self.inside.after) Starts)
    ∙ ap (is_among (filter (truth_of c.self.inside.before c.self.inside.meets c.self.inside.overlaps c.self.inside.finished c.self.inside.contains c.self.inside.starts c.self.inside.equal c.self.inside.started c.self.inside.during c.self.inside.finishes c.self.inside.overlapped c.self.inside.met c.self.inside.after) all_relations)) (sym c.in-Starts.is)
    ∙ ap (λ (rs : List Allen). is_among rs c.args.r) c.self.view_is

pub returns-in-Equal : goal.returns-in-Equal
returns-in-Equal c =
    sym (among_filtered (truth_of c.self.inside.before c.self.inside.meets c.self.inside.overlaps c.self.inside.finished c.self.inside.contains c.self.inside.starts c.self.inside.equal c.self.inside.started c.self.inside.during c.self.inside.finishes c.self.inside.overlapped c.self.inside.met c.self.inside.after) Equal)
    ∙ ap (is_among (filter (truth_of c.self.inside.before c.self.inside.meets c.self.inside.overlaps c.self.inside.finished c.self.inside.contains c.self.inside.starts c.self.inside.equal c.self.inside.started c.self.inside.during c.self.inside.finishes c.self.inside.overlapped c.self.inside.met c.self.inside.after) all_relations)) (sym c.in-Equal.is)
    ∙ ap (λ (rs : List Allen). is_among rs c.args.r) c.self.view_is

pub returns-in-Started : goal.returns-in-Started
returns-in-Started c =
    sym (among_filtered (truth_of c.self.inside.before c.self.inside.meets c.self.inside.overlaps c.self.inside.finished c.self.inside.contains c.self.inside.starts c.self.inside.equal c.self.inside.started c.self.inside.during c.self.inside.finishes c.self.inside.overlapped c.self.inside.met c.self.inside.after) Started)
    ∙ ap (is_among (filter (truth_of c.self.inside.before c.self.inside.meets c.self.inside.overlaps c.self.inside.finished c.self.inside.contains c.self.inside.starts c.self.inside.equal c.self.inside.started c.self.inside.during c.self.inside.finishes c.self.inside.overlapped c.self.inside.met c.self.inside.after) all_relations)) (sym c.in-Started.is)
    ∙ ap (λ (rs : List Allen). is_among rs c.args.r) c.self.view_is

pub returns-in-During : goal.returns-in-During
returns-in-During c =
    sym (among_filtered (truth_of c.self.inside.before c.self.inside.meets c.self.inside.overlaps c.self.inside.finished c.self.inside.contains c.self.inside.starts c.self.inside.equal c.self.inside.started c.self.inside.during c.self.inside.finishes c.self.inside.overlapped c.self.inside.met c.self.inside.after) During)
    ∙ ap (is_among (filter (truth_of c.self.inside.before c.self.inside.meets c.self.inside.overlaps c.self.inside.finished c.self.inside.contains c.self.inside.starts c.self.inside.equal c.self.inside.started c.self.inside.during c.self.inside.finishes c.self.inside.overlapped c.self.inside.met c.self.inside.after) all_relations)) (sym c.in-During.is)
    ∙ ap (λ (rs : List Allen). is_among rs c.args.r) c.self.view_is

pub returns-in-Finishes : goal.returns-in-Finishes
returns-in-Finishes c =
    sym (among_filtered (truth_of c.self.inside.before c.self.inside.meets c.self.inside.overlaps c.self.inside.finished c.self.inside.contains c.self.inside.starts c.self.inside.equal c.self.inside.started c.self.inside.during c.self.inside.finishes c.self.inside.overlapped c.self.inside.met c.self.inside.after) Finishes)
    ∙ ap (is_among (filter (truth_of c.self.inside.before c.self.inside.meets c.self.inside.overlaps c.self.inside.finished c.self.inside.contains c.self.inside.starts c.self.inside.equal c.self.inside.started c.self.inside.during c.self.inside.finishes c.self.inside.overlapped c.self.inside.met c.self.inside.after) all_relations)) (sym c.in-Finishes.is)
    ∙ ap (λ (rs : List Allen). is_among rs c.args.r) c.self.view_is

pub returns-in-Overlapped : goal.returns-in-Overlapped
returns-in-Overlapped c =
    sym (among_filtered (truth_of c.self.inside.before c.self.inside.meets c.self.inside.overlaps c.self.inside.finished c.self.inside.contains c.self.inside.starts c.self.inside.equal c.self.inside.started c.self.inside.during c.self.inside.finishes c.self.inside.overlapped c.self.inside.met c.self.inside.after) Overlapped)
    ∙ ap (is_among (filter (truth_of c.self.inside.before c.self.inside.meets c.self.inside.overlaps c.self.inside.finished c.self.inside.contains c.self.inside.starts c.self.inside.equal c.self.inside.started c.self.inside.during c.self.inside.finishes c.self.inside.overlapped c.self.inside.met c.self.inside.after) all_relations)) (sym c.in-Overlapped.is)
    ∙ ap (λ (rs : List Allen). is_among rs c.args.r) c.self.view_is

pub returns-in-Met : goal.returns-in-Met
returns-in-Met c =
    sym (among_filtered (truth_of c.self.inside.before c.self.inside.meets c.self.inside.overlaps c.self.inside.finished c.self.inside.contains c.self.inside.starts c.self.inside.equal c.self.inside.started c.self.inside.during c.self.inside.finishes c.self.inside.overlapped c.self.inside.met c.self.inside.after) Met)
    ∙ ap (is_among (filter (truth_of c.self.inside.before c.self.inside.meets c.self.inside.overlaps c.self.inside.finished c.self.inside.contains c.self.inside.starts c.self.inside.equal c.self.inside.started c.self.inside.during c.self.inside.finishes c.self.inside.overlapped c.self.inside.met c.self.inside.after) all_relations)) (sym c.in-Met.is)
    ∙ ap (λ (rs : List Allen). is_among rs c.args.r) c.self.view_is

pub returns-in-After : goal.returns-in-After
returns-in-After c =
    sym (among_filtered (truth_of c.self.inside.before c.self.inside.meets c.self.inside.overlaps c.self.inside.finished c.self.inside.contains c.self.inside.starts c.self.inside.equal c.self.inside.started c.self.inside.during c.self.inside.finishes c.self.inside.overlapped c.self.inside.met c.self.inside.after) After)
    ∙ ap (is_among (filter (truth_of c.self.inside.before c.self.inside.meets c.self.inside.overlaps c.self.inside.finished c.self.inside.contains c.self.inside.starts c.self.inside.equal c.self.inside.started c.self.inside.during c.self.inside.finishes c.self.inside.overlapped c.self.inside.met c.self.inside.after) all_relations)) (sym c.in-After.is)
    ∙ ap (λ (rs : List Allen). is_among rs c.args.r) c.self.view_is
