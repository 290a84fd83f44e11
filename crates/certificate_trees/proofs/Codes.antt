-- The class of a code has it.
use Rattle.std.proofs.Common.{arith, ◌≡◌, ◌≤◌, ◌-◌, ◌+◌, ℕ, Option, Some, None, List, [], ◌++◌, length, get_or, take, drop, sym, ap, subst, ◌∙◌}
use Rattle.std.specs.Prelude.{IfSome}
use Rattle.std.specs.Str.{bytes_eq}
use Rattle.std.proofs.lemmas.List.{take-append-drop, drop-drop}
use Rattle.std.proofs.lemmas.List.Quantifiers.{position-Some}
use Rattle.std.proofs.lemmas.Slice.Eq.{bytes_eq-Decides}
use Rattle.std.proofs.Math.ListN.{get_or-map}
use Rattle.crm_classes.specs.Classes.{code_text, class_codes, class_of_text}
use Rattle.crm_classes.specs.Table.{rows}
use Rattle.certificate_trees.specs.Reads.{IsRead}

code_is : (t : List ℕ) (c : ℕ) → class_of_text t ≡ Some c → t ≡ code_text c
code_is t c e =
    let p = position-Some (bytes_eq t) class_codes c [] e in
    (bytes_eq-Decides t (get_or class_codes c [])).0 p.1 ∙ get_or-map (λ row. row.0) rows c ([], [])

slice_read : (text : List ℕ) (at to : ℕ) → at ≤ to → to ≤ length text → IsRead text at to (take (to - at) (drop at text))
slice_read text at to h k =
    let same : at + (to - at) ≡ to = omega (arith, h) in
    record {
      spelled = sym (take-append-drop (to - at) (drop at text)) ∙ ap (λ z. take (to - at) (drop at text) ++ z) (drop-drop (to - at) at text ∙ ap (λ n. drop n text) same);
      onward = h;
      within = k;
    }

pub code_read : (text : List ℕ) (at to : ℕ) (o : Option ℕ) → at ≤ to → to ≤ length text → o ≡ class_of_text (take (to - at) (drop at text)) →
    IfSome o (λ c. IsRead text at to (code_text c))
code_read text at to None h k e = tt
code_read text at to (Some c) h k e =
    let P : List ℕ → Type 0 = IsRead text at to in subst P (code_is (take (to - at) (drop at text)) c (sym e)) (slice_read text at to h k)
