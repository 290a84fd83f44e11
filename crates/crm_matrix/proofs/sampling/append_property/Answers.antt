use Rattle.std.proofs.Common.{ℕ, List, ◌++◌}
use Rattle.std.specs.Prelude.{codes}
use Rattle.std.specs.Fmt.{decimal}
use Rattle.crm_matrix.specs.Samples.{span_text}
use Rattle.crm_matrix.proofs.Appended.{appended_then}
use Rattle.crm_matrix.proofs.sampling.append_property.Goals as goal

pub returns : goal.returns
unfolding span_text
returns c =
    let s : List ℕ = c.args.text.now.items in
    let t : List ℕ = c.extend_from_slice.new.self.items in
    let u : List ℕ = c.append_number.new.line.items in
    let v : List ℕ = c.extend_from_slice-2.new.self.items in
    let w : List ℕ = c.extend_from_slice-3.new.self.items in
    let x : List ℕ = c.extend_from_slice-4.new.self.items in
    let number : List ℕ = decimal c.args.i in
    let name : List ℕ = c.args.property.now in
    let property = rw c.as_bytes.ensures.value at c.in_ok-extend_from_slice-3.ensures.items in
    appended_then s t x (codes "_:s") (number ++ (codes " <http://www.cidoc-crm.org/cidoc-crm/" ++ (name ++ codes "> "))) c.in_ok-extend_from_slice.ensures.items
    (appended_then t u x number (codes " <http://www.cidoc-crm.org/cidoc-crm/" ++ (name ++ codes "> ")) c.in_ok-append_number.ensures
    (appended_then u v x (codes " <http://www.cidoc-crm.org/cidoc-crm/") (name ++ codes "> ") c.in_ok-extend_from_slice-2.ensures.items
    (appended_then v w x name (codes "> ") property c.in_ok-extend_from_slice-4.ensures.items)))
