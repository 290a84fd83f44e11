use Rattle.std.proofs.Common.{rules, arith, ◌≡◌, Some}
use Rattle.std.specs.Prelude.{slice_get}
use Rattle.certificate_trees.specs.declared.refusals.CertRefusal.{CertRefusal}
use Rattle.certificate_trees.specs.LeafGrammar.{LeafOf}
use Rattle.certificate_trees.specs.Parts.{IsPartRefused}
use Rattle.certificate_trees.specs.TreeGrammar.{Tree}
use Rattle.certificate_trees.specs.TreeTexts.{tree_bytes}
use Rattle.certificate_trees.specs.Names.{unknown_leaf}
use Rattle.certificate_trees.proofs.Pieces.{within_text}
use Rattle.certificate_trees.proofs.WordReads.{handed_on}
use Rattle.certificate_trees.proofs.LeafForms.{are_leaves}
use Rattle.certificate_trees.proofs.TreePieces.{ends, weak_read, join_read, weak_places, join_places}
use Rattle.certificate_trees.proofs.Unknown.{noted_at, noted_both, sure_before}
use Rattle.certificate_trees.proofs.TreeReading.{weak_begun, weak_part, weak_end, weak_stands, join_begun, join_first, join_comma, join_second, join_end, join_stands, tip_refused, tip_stands}
use Rattle.certificate_trees.proofs.Shallow.{flat_leaf}
use Rattle.certificate_trees.proofs.trees.+read_tree.Goals as goal
use Rattle.certificate_trees.proofs.trees.+read_tree.Goals.{in_default-via-in-Some+in_default, in_default-via-in_default}

pub returns-in_ok-new-in-Some-eq119-clause-read : goal.returns-in_ok-new-in-Some-eq119-clause-read
returns-in_ok-new-in-Some-eq119-clause-read g t c = λ u. (rw c.in_ok-new-in-Some-eq119.ensures.ok (record {
  read = (weak_read c.args.text.now c.args.at c.in_ok-inside-in-Some-eq119.inside c.in_ok-part-in-Some-eq119.part.to c.in_ok-to-in-Some-eq119.to
      (tree_bytes g.L.LeafForm.text_of c.in_ok-part-in-Some-eq119.part.value) (cc c.in-Some-eq119.ensures)
      c.in_ok-inside-in-Some-eq119.ensures.read ((c.in_ok-part-in-Some-eq119.ensures.read u).read) c.in_ok-to-in-Some-eq119.ensures.read);
  places = (weak_places g.L.LeafForm.text_of c.in_ok-part-in-Some-eq119.part.value c.args.at c.in_ok-inside-in-Some-eq119.inside
      c.args.notes.now.places.items c.read_tree.new.notes.places.items c.push.new.self.items
      c.in_ok-inside-in-Some-eq119.ensures.moves ((c.in_ok-part-in-Some-eq119.ensures.read u).places) c.in_ok-push-in-Some-eq119.ensures.items);
  noted = λ f. (noted_at (λ n. unknown_leaf g.L.LeafForm.text_of (g.L.LeafForm.names_nothing c.args.form.now) c.in_ok-part-in-Some-eq119.part.value n) c.args.notes.now.unknown c.read_tree.new.notes.unknown c.in_ok-inside-in-Some-eq119.inside _
      ((c.in_ok-part-in-Some-eq119.ensures.read u).noted f) (omega (arith, c.in_ok-inside-in-Some-eq119.ensures.moves)));
}))

pub returns-in_ok-right-in-Some-eq106-clause-read : goal.returns-in_ok-right-in-Some-eq106-clause-read
returns-in_ok-right-in-Some-eq106-clause-read g t c = λ u. (let before = sure_before (g.L.LeafForm.kind_of c.args.form.now) c.read_tree-in-Some-eq106.new.notes.unknown c.read_tree-in-Some-eq106-2.new.notes.unknown c.in_ok-second-in-Some-eq106.ensures.sticky u in rw (c.in_ok-left-in-Some-eq106.ensures.ok, c.in_ok-right-in-Some-eq106.ensures.ok) (record {
  read = (join_read c.args.text.now c.args.at c.in_ok-inside-in-Some-eq106.inside c.in_ok-first-in-Some-eq106.first.to c.in_ok-between-in-Some-eq106.between
      c.in_ok-second-in-Some-eq106.second.to c.in_ok-to-in-Some-eq106.to
      (tree_bytes g.L.LeafForm.text_of c.in_ok-first-in-Some-eq106.first.value) (tree_bytes g.L.LeafForm.text_of c.in_ok-second-in-Some-eq106.second.value)
      (cc c.in-Some-eq106.ensures)
      c.in_ok-inside-in-Some-eq106.ensures.read ((c.in_ok-first-in-Some-eq106.ensures.read before).read)
      c.in_ok-between-in-Some-eq106.ensures.read ((c.in_ok-second-in-Some-eq106.ensures.read u).read) c.in_ok-to-in-Some-eq106.ensures.read);
  places = (join_places g.L.LeafForm.text_of c.args.text.now c.in_ok-first-in-Some-eq106.first.value c.in_ok-second-in-Some-eq106.second.value
      c.args.at c.in_ok-inside-in-Some-eq106.inside c.in_ok-first-in-Some-eq106.first.to c.in_ok-between-in-Some-eq106.between
      c.args.notes.now.places.items c.read_tree-in-Some-eq106.new.notes.places.items c.read_tree-in-Some-eq106-2.new.notes.places.items c.push-in-Some-eq106.new.self.items
      c.in_ok-inside-in-Some-eq106.ensures.moves ((c.in_ok-first-in-Some-eq106.ensures.read before).read)
      c.in_ok-between-in-Some-eq106.ensures.moves ((c.in_ok-first-in-Some-eq106.ensures.read before).places)
      ((c.in_ok-second-in-Some-eq106.ensures.read u).places) c.in_ok-push-in-Some-eq106.ensures.items);
  noted = λ f. (noted_both (λ n. unknown_leaf g.L.LeafForm.text_of (g.L.LeafForm.names_nothing c.args.form.now) c.in_ok-first-in-Some-eq106.first.value n) (λ n. unknown_leaf g.L.LeafForm.text_of (g.L.LeafForm.names_nothing c.args.form.now) c.in_ok-second-in-Some-eq106.second.value n)
      c.args.notes.now.unknown c.read_tree-in-Some-eq106.new.notes.unknown c.read_tree-in-Some-eq106-2.new.notes.unknown c.in_ok-inside-in-Some-eq106.inside c.in_ok-between-in-Some-eq106.between _ _
      ((c.in_ok-first-in-Some-eq106.ensures.read before).noted f) ((c.in_ok-second-in-Some-eq106.ensures.read u).noted f) (omega (arith, c.in_ok-inside-in-Some-eq106.ensures.moves))
      (omega (
        arith,
        c.in_ok-inside-in-Some-eq106.ensures.moves,
        c.in_ok-between-in-Some-eq106.ensures.moves,
        ends c.args.text.now c.in_ok-inside-in-Some-eq106.inside c.in_ok-first-in-Some-eq106.first.to (tree_bytes g.L.LeafForm.text_of c.in_ok-first-in-Some-eq106.first.value) ((c.in_ok-first-in-Some-eq106.ensures.read before).read),
      )));
}))

pub returns-in_err-inside-in-Some-eq119-clause-refused : goal.returns-in_err-inside-in-Some-eq119-clause-refused
returns-in_err-inside-in-Some-eq119-clause-refused g t c =
    let k = g.L.LeafForm.kind_of c.args.form.now in
    let P : CertRefusal → Type 0 = IsPartRefused (Tree (LeafOf k)) c.args.depth c.args.text.now c.args.at in
    handed_on c.from_residual.result c.in_err-inside-in-Some-eq119.field-0.0 P c.from_residual.ensures.1
    (weak_begun (LeafOf k) (are_leaves k) c.args.text.now c.args.at (cc c.in-Some-eq119.ensures) c.args.depth c.in_err-inside-in-Some-eq119.field-0.0 c.in_err-inside-in-Some-eq119.ensures.refused)

pub returns-in_err-part-in-Some-eq119-clause-refused : goal.returns-in_err-part-in-Some-eq119-clause-refused
returns-in_err-part-in-Some-eq119-clause-refused g t c =
    let k = g.L.LeafForm.kind_of c.args.form.now in
    let P : CertRefusal → Type 0 = IsPartRefused (Tree (LeafOf k)) c.args.depth c.args.text.now c.args.at in
    handed_on c.from_residual-in_err-part-in-Some-eq119.result c.in_err-part-in-Some-eq119.field-0.0 P c.from_residual-in_err-part-in-Some-eq119.ensures.1
    (weak_part (LeafOf k) (are_leaves k) c.args.text.now c.args.at c.in_ok-inside-in-Some-eq119.inside c.args.depth c.in_ok-inside-in-Some-eq119.ensures.whole c.in_ok-inside-in-Some-eq119.ensures.within (cc c.in-Some-eq119.ensures) c.in_err-part-in-Some-eq119.field-0.0 c.in_err-part-in-Some-eq119.ensures.refused)

pub returns-in_err-to-in-Some-eq119-clause-refused : goal.returns-in_err-to-in-Some-eq119-clause-refused
returns-in_err-to-in-Some-eq119-clause-refused g t c =
    let k = g.L.LeafForm.kind_of c.args.form.now in
    let P : CertRefusal → Type 0 = IsPartRefused (Tree (LeafOf k)) c.args.depth c.args.text.now c.args.at in
    handed_on c.from_residual-in_err-to-in-Some-eq119.result c.in_err-to-in-Some-eq119.field-0.0 P c.from_residual-in_err-to-in-Some-eq119.ensures.1
    (weak_end (LeafOf k) (are_leaves k) c.args.text.now c.args.at c.in_ok-inside-in-Some-eq119.inside c.args.depth c.in_ok-inside-in-Some-eq119.ensures.whole c.in_ok-inside-in-Some-eq119.ensures.within (cc c.in-Some-eq119.ensures) c.in_ok-part-in-Some-eq119.part.to c.in_err-to-in-Some-eq119.field-0.0 c.in_ok-part-in-Some-eq119.ensures.stands c.in_err-to-in-Some-eq119.ensures.refused)

pub returns-in_ok-new-in-Some-eq119-clause-stands : goal.returns-in_ok-new-in-Some-eq119-clause-stands
returns-in_ok-new-in-Some-eq119-clause-stands g t c =
    let k = g.L.LeafForm.kind_of c.args.form.now in
    weak_stands (LeafOf k) (are_leaves k) c.args.text.now c.args.at c.in_ok-inside-in-Some-eq119.inside c.args.depth c.in_ok-inside-in-Some-eq119.ensures.whole c.in_ok-inside-in-Some-eq119.ensures.within (cc c.in-Some-eq119.ensures) c.in_ok-part-in-Some-eq119.part.to c.in_ok-to-in-Some-eq119.to c.in_ok-part-in-Some-eq119.ensures.stands c.in_ok-to-in-Some-eq119.ensures.whole

pub returns-in_err-inside-in-Some-eq106-clause-refused : goal.returns-in_err-inside-in-Some-eq106-clause-refused
returns-in_err-inside-in-Some-eq106-clause-refused g t c =
    let k = g.L.LeafForm.kind_of c.args.form.now in
    let P : CertRefusal → Type 0 = IsPartRefused (Tree (LeafOf k)) c.args.depth c.args.text.now c.args.at in
    handed_on c.from_residual-in_err-inside-in-Some-eq106.result c.in_err-inside-in-Some-eq106.field-0.0 P c.from_residual-in_err-inside-in-Some-eq106.ensures.1
    (join_begun (LeafOf k) (are_leaves k) c.args.text.now c.args.at (cc c.in-Some-eq106.ensures) c.args.depth c.in_err-inside-in-Some-eq106.field-0.0 c.in_err-inside-in-Some-eq106.ensures.refused)

pub returns-in_err-first-in-Some-eq106-clause-refused : goal.returns-in_err-first-in-Some-eq106-clause-refused
returns-in_err-first-in-Some-eq106-clause-refused g t c =
    let k = g.L.LeafForm.kind_of c.args.form.now in
    let P : CertRefusal → Type 0 = IsPartRefused (Tree (LeafOf k)) c.args.depth c.args.text.now c.args.at in
    handed_on c.from_residual-in_err-first-in-Some-eq106.result c.in_err-first-in-Some-eq106.field-0.0 P c.from_residual-in_err-first-in-Some-eq106.ensures.1
    (join_first (LeafOf k) (are_leaves k) c.args.text.now c.args.at c.in_ok-inside-in-Some-eq106.inside c.args.depth c.in_ok-inside-in-Some-eq106.ensures.whole c.in_ok-inside-in-Some-eq106.ensures.within (cc c.in-Some-eq106.ensures) c.in_err-first-in-Some-eq106.field-0.0 c.in_err-first-in-Some-eq106.ensures.refused)

pub read_open-requires-in-Some-eq106 : goal.read_open-requires-in-Some-eq106
read_open-requires-in-Some-eq106 g t c =
    omega (arith, within_text c.args.text.now c.args.at 106 (cc c.in-Some-eq106.ensures))

pub returns-in_err-between-in-Some-eq106-clause-refused : goal.returns-in_err-between-in-Some-eq106-clause-refused
returns-in_err-between-in-Some-eq106-clause-refused g t c =
    let k = g.L.LeafForm.kind_of c.args.form.now in
    let P : CertRefusal → Type 0 = IsPartRefused (Tree (LeafOf k)) c.args.depth c.args.text.now c.args.at in
    handed_on c.from_residual-in_err-between-in-Some-eq106.result c.in_err-between-in-Some-eq106.field-0.0 P c.from_residual-in_err-between-in-Some-eq106.ensures.1
    (join_comma (LeafOf k) (are_leaves k) c.args.text.now c.args.at c.in_ok-inside-in-Some-eq106.inside c.args.depth c.in_ok-inside-in-Some-eq106.ensures.whole c.in_ok-inside-in-Some-eq106.ensures.within (cc c.in-Some-eq106.ensures) c.in_ok-first-in-Some-eq106.first.to c.in_err-between-in-Some-eq106.field-0.0 c.in_ok-first-in-Some-eq106.ensures.stands c.in_err-between-in-Some-eq106.ensures.refused)

pub returns-in_err-second-in-Some-eq106-clause-refused : goal.returns-in_err-second-in-Some-eq106-clause-refused
returns-in_err-second-in-Some-eq106-clause-refused g t c =
    let k = g.L.LeafForm.kind_of c.args.form.now in
    let P : CertRefusal → Type 0 = IsPartRefused (Tree (LeafOf k)) c.args.depth c.args.text.now c.args.at in
    handed_on c.from_residual-in_err-second-in-Some-eq106.result c.in_err-second-in-Some-eq106.field-0.0 P c.from_residual-in_err-second-in-Some-eq106.ensures.1
    (join_second (LeafOf k) (are_leaves k) c.args.text.now c.args.at c.in_ok-inside-in-Some-eq106.inside c.args.depth c.in_ok-inside-in-Some-eq106.ensures.whole c.in_ok-inside-in-Some-eq106.ensures.within (cc c.in-Some-eq106.ensures) c.in_ok-first-in-Some-eq106.first.to c.in_ok-between-in-Some-eq106.between c.in_err-second-in-Some-eq106.field-0.0 c.in_ok-first-in-Some-eq106.ensures.stands c.in_ok-between-in-Some-eq106.ensures.whole c.in_err-second-in-Some-eq106.ensures.refused)

pub returns-in_err-to-in-Some-eq106-clause-refused : goal.returns-in_err-to-in-Some-eq106-clause-refused
returns-in_err-to-in-Some-eq106-clause-refused g t c =
    let k = g.L.LeafForm.kind_of c.args.form.now in
    let P : CertRefusal → Type 0 = IsPartRefused (Tree (LeafOf k)) c.args.depth c.args.text.now c.args.at in
    handed_on c.from_residual-in_err-to-in-Some-eq106.result c.in_err-to-in-Some-eq106.field-0.0 P c.from_residual-in_err-to-in-Some-eq106.ensures.1
    (join_end (LeafOf k) (are_leaves k) c.args.text.now c.args.at c.in_ok-inside-in-Some-eq106.inside c.args.depth c.in_ok-inside-in-Some-eq106.ensures.whole c.in_ok-inside-in-Some-eq106.ensures.within (cc c.in-Some-eq106.ensures) c.in_ok-first-in-Some-eq106.first.to c.in_ok-between-in-Some-eq106.between c.in_ok-second-in-Some-eq106.second.to c.in_err-to-in-Some-eq106.field-0.0 c.in_ok-first-in-Some-eq106.ensures.stands c.in_ok-between-in-Some-eq106.ensures.whole c.in_ok-second-in-Some-eq106.ensures.stands c.in_err-to-in-Some-eq106.ensures.refused)

pub returns-in_ok-right-in-Some-eq106-clause-stands : goal.returns-in_ok-right-in-Some-eq106-clause-stands
returns-in_ok-right-in-Some-eq106-clause-stands g t c =
    let k = g.L.LeafForm.kind_of c.args.form.now in
    join_stands (LeafOf k) (are_leaves k) c.args.text.now c.args.at c.in_ok-inside-in-Some-eq106.inside c.args.depth c.in_ok-inside-in-Some-eq106.ensures.whole c.in_ok-inside-in-Some-eq106.ensures.within (cc c.in-Some-eq106.ensures) c.in_ok-first-in-Some-eq106.first.to c.in_ok-between-in-Some-eq106.between c.in_ok-second-in-Some-eq106.second.to c.in_ok-to-in-Some-eq106.to c.in_ok-first-in-Some-eq106.ensures.stands c.in_ok-between-in-Some-eq106.ensures.whole c.in_ok-second-in-Some-eq106.ensures.stands c.in_ok-to-in-Some-eq106.ensures.whole

pub returns-in_err-leaf-in_default-clause-refused : goal.returns-in_err-leaf-in_default-clause-refused
returns-in_err-leaf-in_default-clause-refused g t c =
    let k = g.L.LeafForm.kind_of c.args.form.now in
    let others : (slice_get c.args.text.now c.args.at ≡ Some 119 → ⊥) × (slice_get c.args.text.now c.args.at ≡ Some 106 → ⊥) =
    elim c.in_default.branch [
      | in_default-via-in-Some+in_default w ↦ (λ e. absurd (search (rules, e, c.byte_at.ensures)), λ e. absurd (search (rules, e, c.byte_at.ensures)))
      | in_default-via-in_default w ↦ (λ e. absurd (search (rules, e, c.byte_at.ensures)), λ e. absurd (search (rules, e, c.byte_at.ensures)))
    ] in
    let P : CertRefusal → Type 0 = IsPartRefused (Tree (LeafOf k)) c.args.depth c.args.text.now c.args.at in
    handed_on c.from_residual-in_err-leaf-in_default.result c.in_err-leaf-in_default.field-0.0 P c.from_residual-in_err-leaf-in_default.ensures.1
    (tip_refused (LeafOf k) (are_leaves k) c.args.text.now c.args.at others.0 others.1 (flat_leaf k) c.args.depth c.in_err-leaf-in_default.field-0.0 c.in_err-leaf-in_default.ensures.refused)

pub returns-in_ok-push-in_default-clause-stands : goal.returns-in_ok-push-in_default-clause-stands
returns-in_ok-push-in_default-clause-stands g t c =
    let k = g.L.LeafForm.kind_of c.args.form.now in
    let others : (slice_get c.args.text.now c.args.at ≡ Some 119 → ⊥) × (slice_get c.args.text.now c.args.at ≡ Some 106 → ⊥) =
    elim c.in_default.branch [
      | in_default-via-in-Some+in_default w ↦ (λ e. absurd (search (rules, e, c.byte_at.ensures)), λ e. absurd (search (rules, e, c.byte_at.ensures)))
      | in_default-via-in_default w ↦ (λ e. absurd (search (rules, e, c.byte_at.ensures)), λ e. absurd (search (rules, e, c.byte_at.ensures)))
    ] in
    tip_stands (LeafOf k) (are_leaves k) c.args.text.now c.args.at others.0 others.1 (flat_leaf k) c.args.depth c.in_ok-leaf-in_default.leaf.to c.in_ok-leaf-in_default.ensures.whole
