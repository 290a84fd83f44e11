-- How the reading of a tree and its refusals add up.
use Rattle.std.proofs.Common.{arith, ◌≡◌, ◌<◌, ◌+◌, ◌-◌, ℕ, Option, Some, None, List, [], ◌∷◌, refl, sym, subst}
use Rattle.std.specs.Prelude.{slice_get}
use Rattle.certificate_trees.specs.declared.refusals.CertRefusal.{CertRefusal}
use Rattle.certificate_trees.specs.declared.refusals.CertRefusal.TheVariants.{K1, K2, K3, K4, K5, K6, Memory}
use Rattle.certificate_trees.specs.Reads.{IsRead}
use Rattle.certificate_trees.specs.Beginnings.{Then, Word, IsWhole, IsTooDeep, IsRefused, count, NoByte, IsDigit, AreLeaves}
use Rattle.certificate_trees.specs.TreeGrammar.{Tree, WeakRest, BothRest, IsUnopened}
use Rattle.certificate_trees.specs.Parts.{IsStanding, IsPartRefused}
use Rattle.certificate_trees.proofs.Cuts.{word_settles, none_avoided}
use Rattle.certificate_trees.proofs.Chains.{first_refused, any_depth, later_inside, behind_word, whole_behind_word}
use Rattle.certificate_trees.proofs.Choices.{first_chosen, first_whole}
use Rattle.certificate_trees.proofs.WordReads.{byte_whole}
use Rattle.certificate_trees.proofs.TreeForms.{tree_form, no_digit, weak_or, both_or, tip_or, weak_tree, both_tree, tip_tree, weak_deep, both_deep}
use Rattle.certificate_trees.proofs.Shallow.{IsFlat, flat_whole, flat_refused, inside_shallow, inside_shallow_till, unopened_shallow}
use Rattle.certificate_trees.proofs.Steps.{Joins, live_both, word_joins, joins_word, joins_then}
use Rattle.certificate_trees.proofs.PartReads.{both_stand, first_part, second_part, word_stands, word_refused}

-- one parenthesis opens
opened : (p : List ℕ) → Word (40 ∷ []) p → count 40 p ≡ count 41 p + 1
opened p t = let P : List ℕ → Type 0 = λ z. count 40 z ≡ count 41 z + 1 in subst P (sym t) refl

-- what stands behind the open parenthesis of a node
abbrev Closing : (List ℕ → Type 0) → List ℕ → Type 0
Closing L = Then (Tree L) (Word (41 ∷ []))

abbrev Parts : (List ℕ → Type 0) → List ℕ → Type 0
Parts L = Then (Tree L) (Then (Word (44 ∷ [])) (Closing L))

closing : (L : List ℕ → Type 0) → AreLeaves L → Joins (Tree L) (Word (41 ∷ [])) IsDigit
closing L are = joins_word (Tree L) IsDigit 41 [] (tree_form L are) (no_digit 41 (omega arith))

comma : (L : List ℕ → Type 0) → AreLeaves L → Joins (Word (44 ∷ [])) (Closing L) NoByte
comma L are = word_joins (44 ∷ []) (Closing L) refl (live_both (closing L are))

parts : (L : List ℕ → Type 0) → AreLeaves L → Joins (Tree L) (Then (Word (44 ∷ [])) (Closing L)) IsDigit
parts L are = joins_then (Tree L) (Closing L) IsDigit 44 [] (tree_form L are) (no_digit 44 (omega arith)) (live_both (closing L are))

module _ (L : List ℕ → Type 0) (are : AreLeaves L) (text : List ℕ) (at : ℕ) where
  -- what is refused in a node is refused
  weak_up : slice_get text at ≡ Some 119 → (depth : Option ℕ) (e : CertRefusal) → IsRefused (WeakRest L) depth text (at + 1) e → IsRefused (Tree L) depth text at e
  weak_up w depth e h = first_chosen (Tree L) (Then (Word (119 ∷ [])) (WeakRest L)) text at (weak_or L are text at w) (weak_tree L are) depth e
      (behind_word (119 ∷ []) (WeakRest L) refl text at (at + 1) (byte_whole text at 119 w) depth e h)

  both_up : slice_get text at ≡ Some 106 → (depth : Option ℕ) (e : CertRefusal) → IsRefused (BothRest L) depth text (at + 1) e → IsRefused (Tree L) depth text at e
  both_up j depth e h = first_chosen (Tree L) (Then (Word (106 ∷ [])) (BothRest L)) text at (both_or L are text at j) (both_tree L are) depth e
      (behind_word (106 ∷ []) (BothRest L) refl text at (at + 1) (byte_whole text at 106 j) depth e h)

  -- no parenthesis opens
  weak_too_deep : slice_get text at ≡ Some 119 → (depth k : ℕ) → k ≡ at + 1 → depth ≡ 0 → slice_get text (at + 1) ≡ Some 40 → IsTooDeep (Tree L) depth text at k
  weak_too_deep w depth k e f h =
      let P : ℕ → Type 0 = λ n. IsTooDeep (Tree L) depth text at n in
      let Q : ℕ → Type 0 = λ n. IsTooDeep (Tree L) n text at (at + 1) in
      subst P (sym e) (subst Q (sym f) (weak_deep L are text at w h))

  both_too_deep : slice_get text at ≡ Some 106 → (depth k : ℕ) → k ≡ at + 1 → depth ≡ 0 → slice_get text (at + 1) ≡ Some 40 → IsTooDeep (Tree L) depth text at k
  both_too_deep j depth k e f h =
      let P : ℕ → Type 0 = λ n. IsTooDeep (Tree L) depth text at n in
      let Q : ℕ → Type 0 = λ n. IsTooDeep (Tree L) n text at (at + 1) in
      subst P (sym e) (subst Q (sym f) (both_deep L are text at j h))

  weak_unopened : slice_get text at ≡ Some 119 → (depth : ℕ) (e : CertRefusal) → IsUnopened depth text (at + 1) e → IsRefused (Tree L) (Some depth) text at e
  weak_unopened w depth (K1 k) h = weak_up w (Some depth) (K1 k) (first_refused (Word (40 ∷ [])) (Closing L) (Some depth) text (at + 1) (K1 k) (live_both (closing L are)) h)
  weak_unopened w depth (K2 k) h = weak_too_deep w depth k h.0 h.1.0 h.1.1
  weak_unopened w depth (K3 k) h = h
  weak_unopened w depth (K4 k) h = h
  weak_unopened w depth (K5 k) h = h
  weak_unopened w depth (K6 k) h = h
  weak_unopened w depth Memory h = absurd h

  both_unopened : slice_get text at ≡ Some 106 → (depth : ℕ) (e : CertRefusal) → IsUnopened depth text (at + 1) e → IsRefused (Tree L) (Some depth) text at e
  both_unopened j depth (K1 k) h = both_up j (Some depth) (K1 k) (first_refused (Word (40 ∷ [])) (Parts L) (Some depth) text (at + 1) (K1 k) (live_both (parts L are)) h)
  both_unopened j depth (K2 k) h = both_too_deep j depth k h.0 h.1.0 h.1.1
  both_unopened j depth (K3 k) h = h
  both_unopened j depth (K4 k) h = h
  both_unopened j depth (K5 k) h = h
  both_unopened j depth (K6 k) h = h
  both_unopened j depth Memory h = absurd h

  -- so many may stand open again
  deeper : (depth : ℕ) (e : CertRefusal) → 0 < depth → IsRefused (Tree L) (Some (1 + (depth - 1))) text at e → IsRefused (Tree L) (Some depth) text at e
  deeper depth e some h =
      let P : ℕ → Type 0 = λ n. IsRefused (Tree L) (Some n) text at e in
      let same : 1 + (depth - 1) ≡ depth = omega (arith, some) in
      subst P same h

  -- what is refused behind the open parenthesis
  weak_inside : slice_get text at ≡ Some 119 → (inside depth : ℕ) (e : CertRefusal) → IsWhole (Word (40 ∷ [])) text (at + 1) inside → 0 < depth →
      IsRefused (Closing L) (Some (depth - 1)) text inside e → IsRefused (Tree L) (Some depth) text at e
  weak_inside w inside depth e op some h = deeper depth e some (weak_up w (Some (1 + (depth - 1))) e
      (later_inside (Word (40 ∷ [])) (Closing L) NoByte (word_settles (40 ∷ [])) (none_avoided (Closing L)) text (at + 1) inside op 1 (depth - 1) e opened h))

  both_inside : slice_get text at ≡ Some 106 → (inside depth : ℕ) (e : CertRefusal) → IsWhole (Word (40 ∷ [])) text (at + 1) inside → 0 < depth →
      IsRefused (Parts L) (Some (depth - 1)) text inside e → IsRefused (Tree L) (Some depth) text at e
  both_inside j inside depth e op some h = deeper depth e some (both_up j (Some (1 + (depth - 1))) e
      (later_inside (Word (40 ∷ [])) (Parts L) NoByte (word_settles (40 ∷ [])) (none_avoided (Parts L)) text (at + 1) inside op 1 (depth - 1) e opened h))

  -- no parenthesis opens behind the letter
  pub weak_begun : slice_get text at ≡ Some 119 → (depth : ℕ) (e : CertRefusal) → IsUnopened depth text (at + 1) e → IsPartRefused (Tree L) depth text at e
  weak_begun w depth e h = record { refused = weak_unopened w depth e h; shallow = unopened_shallow 119 depth text at e (λ e. omega (arith, e)) w h }

  pub join_begun : slice_get text at ≡ Some 106 → (depth : ℕ) (e : CertRefusal) → IsUnopened depth text (at + 1) e → IsPartRefused (Tree L) depth text at e
  join_begun j depth e h = record { refused = both_unopened j depth e h; shallow = unopened_shallow 106 depth text at e (λ e. omega (arith, e)) j h }

  -- a leaf
  pub tip_refused : (slice_get text at ≡ Some 119 → ⊥) → (slice_get text at ≡ Some 106 → ⊥) → IsFlat L → (depth : ℕ) (e : CertRefusal) → IsRefused L None text at e → IsPartRefused (Tree L) depth text at e
  tip_refused w j flat depth e h = record {
    refused = first_chosen (Tree L) L text at (tip_or L are text at w j) (tip_tree L are) (Some depth) e (any_depth L (Some depth) text at e h);
    shallow = flat_refused L flat depth text at e h;
  }

  pub tip_stands : (slice_get text at ≡ Some 119 → ⊥) → (slice_get text at ≡ Some 106 → ⊥) → IsFlat L → (depth to : ℕ) → IsWhole L text at to → IsStanding (Tree L) depth text at to
  tip_stands w j flat depth to h = record {
    whole = first_whole (Tree L) L text at (tip_or L are text at w j) (tip_tree L are) to h;
    shallow = flat_whole L flat depth text at to h;
  }

-- behind the parenthesis of a node one less may stand open
module _ (L : List ℕ → Type 0) (are : AreLeaves L) (text : List ℕ) (at inside depth : ℕ) (op : IsWhole (Word (40 ∷ [])) text (at + 1) inside) (some : 0 < depth) where
  read : IsRead text (at + 1) inside (40 ∷ [])
  read = let P : List ℕ → Type 0 = IsRead text (at + 1) inside in subst P op.whole op.read

  weak_in : slice_get text at ≡ Some 119 → (e : CertRefusal) → IsPartRefused (Closing L) (depth - 1) text inside e → IsPartRefused (Tree L) depth text at e
  weak_in w e h = record {
    refused = weak_inside L are text at w inside depth e op some h.refused;
    shallow = inside_shallow_till 119 depth text at inside e (λ e. omega (arith, e)) w read some h.shallow;
  }

  join_in : slice_get text at ≡ Some 106 → (e : CertRefusal) → IsPartRefused (Parts L) (depth - 1) text inside e → IsPartRefused (Tree L) depth text at e
  join_in j e h = record {
    refused = both_inside L are text at j inside depth e op some h.refused;
    shallow = inside_shallow_till 106 depth text at inside e (λ e. omega (arith, e)) j read some h.shallow;
  }

  pub weak_part : slice_get text at ≡ Some 119 → (e : CertRefusal) → IsPartRefused (Tree L) (depth - 1) text inside e → IsPartRefused (Tree L) depth text at e
  weak_part w e h = weak_in w e (first_part (closing L are) (depth - 1) h)

  pub weak_end : slice_get text at ≡ Some 119 → (mid : ℕ) (e : CertRefusal) → IsStanding (Tree L) (depth - 1) text inside mid → IsRefused (Word (41 ∷ [])) None text mid e →
      IsPartRefused (Tree L) depth text at e
  weak_end w mid e t h = weak_in w e (second_part (closing L are) (depth - 1) t (word_refused (41 ∷ []) refl (depth - 1) h))

  pub weak_stands : slice_get text at ≡ Some 119 → (mid to : ℕ) → IsStanding (Tree L) (depth - 1) text inside mid → IsWhole (Word (41 ∷ [])) text mid to → IsStanding (Tree L) depth text at to
  weak_stands w mid to t c =
      let inner = both_stand (closing L are) (depth - 1) t (word_stands (41 ∷ []) refl (depth - 1) c) in
      record {
        whole = first_whole (Tree L) (Then (Word (119 ∷ [])) (WeakRest L)) text at (weak_or L are text at w) (weak_tree L are) to
            (whole_behind_word (119 ∷ []) (WeakRest L) text at (at + 1) to (byte_whole text at 119 w) (whole_behind_word (40 ∷ []) (Closing L) text (at + 1) inside to op inner.whole));
        shallow = inside_shallow 119 depth text at inside to (λ e. omega (arith, e)) w read some inner.shallow;
      }

  pub join_first : slice_get text at ≡ Some 106 → (e : CertRefusal) → IsPartRefused (Tree L) (depth - 1) text inside e → IsPartRefused (Tree L) depth text at e
  join_first j e h = join_in j e (first_part (parts L are) (depth - 1) h)

  pub join_comma : slice_get text at ≡ Some 106 → (mid : ℕ) (e : CertRefusal) → IsStanding (Tree L) (depth - 1) text inside mid → IsRefused (Word (44 ∷ [])) None text mid e →
      IsPartRefused (Tree L) depth text at e
  join_comma j mid e t h = join_in j e (second_part (parts L are) (depth - 1) t (first_part (comma L are) (depth - 1) (word_refused (44 ∷ []) refl (depth - 1) h)))

  pub join_second : slice_get text at ≡ Some 106 → (mid between : ℕ) (e : CertRefusal) → IsStanding (Tree L) (depth - 1) text inside mid → IsWhole (Word (44 ∷ [])) text mid between →
      IsPartRefused (Tree L) (depth - 1) text between e → IsPartRefused (Tree L) depth text at e
  join_second j mid between e t c h = join_in j e (second_part (parts L are) (depth - 1) t
      (second_part (comma L are) (depth - 1) (word_stands (44 ∷ []) refl (depth - 1) c) (first_part (closing L are) (depth - 1) h)))

  pub join_end : slice_get text at ≡ Some 106 → (mid between last : ℕ) (e : CertRefusal) → IsStanding (Tree L) (depth - 1) text inside mid → IsWhole (Word (44 ∷ [])) text mid between →
      IsStanding (Tree L) (depth - 1) text between last → IsRefused (Word (41 ∷ [])) None text last e → IsPartRefused (Tree L) depth text at e
  join_end j mid between last e t c u h = join_in j e (second_part (parts L are) (depth - 1) t
      (second_part (comma L are) (depth - 1) (word_stands (44 ∷ []) refl (depth - 1) c) (second_part (closing L are) (depth - 1) u (word_refused (41 ∷ []) refl (depth - 1) h))))

  pub join_stands : slice_get text at ≡ Some 106 → (mid between last to : ℕ) → IsStanding (Tree L) (depth - 1) text inside mid → IsWhole (Word (44 ∷ [])) text mid between →
      IsStanding (Tree L) (depth - 1) text between last → IsWhole (Word (41 ∷ [])) text last to → IsStanding (Tree L) depth text at to
  join_stands j mid between last to t c u close =
      let inner = both_stand (parts L are) (depth - 1) t
      (both_stand (comma L are) (depth - 1) (word_stands (44 ∷ []) refl (depth - 1) c) (both_stand (closing L are) (depth - 1) u (word_stands (41 ∷ []) refl (depth - 1) close))) in
      record {
        whole = first_whole (Tree L) (Then (Word (106 ∷ [])) (BothRest L)) text at (both_or L are text at j) (both_tree L are) to
            (whole_behind_word (106 ∷ []) (BothRest L) text at (at + 1) to (byte_whole text at 106 j) (whole_behind_word (40 ∷ []) (Parts L) text (at + 1) inside to op inner.whole));
        shallow = inside_shallow 106 depth text at inside to (λ e. omega (arith, e)) j read some inner.shallow;
      }
