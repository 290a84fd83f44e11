use Rattle.std.proofs.Common.{ap, ◌∙◌}
use Rattle.crm_type_check.specs.declared.relation.RelationParts.{RelationParts}
use Rattle.crm_type_check.specs.Relations.{relation_by_parts}
use Rattle.crm_type_check.specs.Index.{set_in, parts_at, by_marks}
use Rattle.crm_type_check.proofs.Listing.{relation_noted}
use Rattle.crm_type_check.proofs.relation.relation_of.Goals as goal

pub returns : goal.returns
returns c = λ triples index.
    c.relation_of_parts.ensures
    ∙ ap (λ (parts : RelationParts). relation_by_parts c.args.names.now (by_marks (set_in c.args.index.now.classes)) parts) c.parts_of.ensures
    ∙ relation_noted c.args.names.now triples (set_in c.args.index.now.classes) (parts_at c.args.index.now.relations) index c.args.node
