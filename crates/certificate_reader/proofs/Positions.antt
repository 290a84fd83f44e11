-- One position more.
use Rattle.std.proofs.Common.{◌≡◌, ◌+◌, ℕ, Some, List, [], ◌∷◌, ◌++◌, sym, ap, subst, ◌∙◌, append_assoc}
use Rattle.std.specs.Prelude.{slice_get}
use Rattle.std.proofs.lemmas.List.{append-nil}
use Rattle.order_laws.specs.declared.Position.{Position}
use Rattle.certificate_trees.specs.Reads.{IsRead}
use Rattle.certificate_reader.specs.OrderTexts.{position_text, positions_text}
use Rattle.certificate_trees.proofs.Pieces.{then_read, byte_read}

positions_push : (ps : List Position) (p : Position) → positions_text (ps ++ p ∷ []) ≡ positions_text ps ++ (32 ∷ position_text p)
positions_push [] p = ap (λ z. 32 ∷ z) (append-nil (position_text p))
positions_push (q ∷ ps) p =
    ap (λ z. 32 ∷ (position_text q ++ z)) (positions_push ps p)
    ∙ ap (λ z. 32 ∷ z) (sym (append_assoc (position_text q) (positions_text ps) (32 ∷ position_text p)))

pub positions_more : (text : List ℕ) (at to end : ℕ) (ps : List Position) (p : Position) → IsRead text at to (positions_text ps) → slice_get text to ≡ Some 32 →
    IsRead text (to + 1) end (position_text p) → IsRead text at end (positions_text (ps ++ p ∷ []))
positions_more text at to end ps p read space next =
    let P : List ℕ → Type 0 = IsRead text at end in
    subst P (sym (positions_push ps p)) (then_read text at to end (positions_text ps) (32 ∷ position_text p) read
    (then_read text to (to + 1) end (32 ∷ []) (position_text p) (byte_read text to 32 space) next))
