use Rattle.std.proofs.Common.{refl}
use Rattle.crm_type_check.specs.Index.{set_in, parts_at}
use Rattle.crm_type_check.proofs.Noting.{index_starts, index_grows}
use Rattle.crm_type_check.proofs.index.index_of.Goals as goal

pub loop-triple-init : goal.loop-triple-init
loop-triple-init c =
    index_starts c.args.names.now (set_in c.new.result) (parts_at c.new-2.result) (λ node. rw c.new.ensures.empty refl) (λ node. rw c.new-2.ensures.empty refl)

pub loop-triple-preserved : goal.loop-triple-preserved
loop-triple-preserved c =
    index_grows c.args.names.now c.loop-triple.yielded c.in-Some.field-0-0 c.in-Some.triple (set_in c.loop-triple.index.classes) (set_in c.note.new.index.classes)
    (parts_at c.loop-triple.index.relations) (parts_at c.note.new.index.relations) c.loop-triple.invariant c.in_ok-note.ensures.classes c.in_ok-note.ensures.relations
