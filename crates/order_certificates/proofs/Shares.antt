-- One more order of a chain, and what its front shares.
use Rattle.std.proofs.Common.{◌≡◌, refl, ℕ, ◌+◌, ◌<◌, List, [], ◌++◌, length, take, slice_index_or, append_assoc}
use Rattle.std.proofs.lemmas.List.Sums.{fold_more}
use Rattle.order_certificates.specs.declared.sharing.Part.{Part}
use Rattle.order_certificates.specs.Sharing.{LetSteps, Shared, joined, shared_behind, with_step, kept_part, new_line, step_of}

pub step_shared : (s : Shared) (lets next : LetSteps) (p kept : Part) (line longer old : List ℕ) (n : ℕ) (t : Shared) → t ≡ joined s n
    → p ≡ s.proof → lets ≡ s.lets → line ≡ old ++ s.text
    → kept ≡ kept_part lets (step_of p n) → next ≡ with_step lets (step_of p n) → longer ≡ line ++ new_line lets (step_of p n)
    → (kept ≡ t.proof) × (next ≡ t.lets) × (longer ≡ old ++ t.text)
step_shared s lets next p kept line longer old n t et ep el eline ek en elonger = (
  rw (ek, et, ep, el) refl,
  rw (en, et, ep, el) refl,
  rw (elonger, et, eline, ep, el) (append_assoc old s.text (new_line s.lets (step_of s.proof n))),
)

pub next_shared : (first : LetSteps) (front : Part) (orders : List ℕ) (i : ℕ) (lets next : LetSteps) (p kept : Part) (line longer old : List ℕ) → i < length orders
    → (p ≡ (shared_behind first front (take i orders)).proof) × (lets ≡ (shared_behind first front (take i orders)).lets)
    × (line ≡ old ++ (shared_behind first front (take i orders)).text)
    → kept ≡ kept_part lets (step_of p (slice_index_or orders i 0)) → next ≡ with_step lets (step_of p (slice_index_or orders i 0))
    → longer ≡ line ++ new_line lets (step_of p (slice_index_or orders i 0))
    → (kept ≡ (shared_behind first front (take (i + 1) orders)).proof) × (next ≡ (shared_behind first front (take (i + 1) orders)).lets)
    × (longer ≡ old ++ (shared_behind first front (take (i + 1) orders)).text)
next_shared first front orders i lets next p kept line longer old within inv ek en elonger =
    step_shared (shared_behind first front (take i orders)) lets next p kept line longer old (slice_index_or orders i 0)
    (shared_behind first front (take (i + 1) orders))
    (fold_more joined (record { lets = first; proof = front; text = [] }) orders i 0 within)
    inv.0 inv.1 inv.2 ek en elonger
