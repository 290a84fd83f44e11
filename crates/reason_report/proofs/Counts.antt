-- Counts over one more item.
use Rattle.std.proofs.Common.{◌≡◌, ℕ, ◌+◌, List, [], ◌∷◌, ◌++◌, take, sym, ◌∙◌, ap, append-nil, Some, slice_get}
use Rattle.std.specs.List.{flat_map}
use Rattle.std.proofs.lemmas.Grind.{flat_map-append}
use Rattle.std.proofs.lemmas.List.Sums.{sum_by-append}
use Rattle.crm_outside.proofs.Lists.{take_one}
use Rattle.reason_report.specs.declared.relations.Relation.{Relation}
use Rattle.reason_report.specs.Relations.{primitives_listed, count_primitives}

pub counts_one : {X : Type 0} (f : X → List Relation) (xs : List X) (k : ℕ) (x : X) → Some x ≡ slice_get xs k
    → count_primitives (flat_map f (take k xs)) + count_primitives (f x) ≡ count_primitives (flat_map f (take (k + 1) xs))
counts_one f xs k x here =
    rw (take_one xs k x here, flat_map-append f (take k xs) (x ∷ []))
    (sym (sum_by-append primitives_listed (flat_map f (take k xs)) (f x)) ∙ ap (λ r. count_primitives (flat_map f (take k xs) ++ r)) (sym (append-nil (f x))))
