-- How the parts of a line that are read or refused add up.
use Rattle.std.proofs.Common.{arith, ◌≡◌, ◌≤◌, ◌+◌, ℕ, Bool, Option, Some, None, List, [], ◌∷◌, ◌++◌, length, sym, ap, ◌∙◌, append_assoc}
use Rattle.std.proofs.lemmas.List.{append-nil}
use Rattle.std.specs.Fmt.{decimal}
use Rattle.proof_core.specs.declared.trees.Proof.{Proof}
use Rattle.proof_core.specs.Proofs.{node_count}
use Rattle.certificate_trees.specs.declared.refusals.CertRefusal.{CertRefusal}
use Rattle.certificate_trees.specs.declared.rules.Weaken.{Weaken}
use Rattle.certificate_trees.specs.declared.rules.Join.{Join}
use Rattle.certificate_trees.specs.declared.leaves.Notes.{Notes}
use Rattle.certificate_trees.specs.Reads.{IsRead}
use Rattle.certificate_trees.specs.Beginnings.{Then, Word, IsWhole, IsRefused, count}
use Rattle.certificate_trees.specs.Grammar.{Name}
use Rattle.certificate_trees.specs.TreeGrammar.{Tree}
use Rattle.certificate_trees.specs.LeafGrammar.{LeafKind, LeafOf}
use Rattle.certificate_trees.specs.Names.{or_else, unknown_name, IsFaithful}
use Rattle.certificate_trees.specs.Parts.{Part, word_part, name_part, tree_part, both_parts, IsStanding, IsPartRead, IsPartRefused, IsTreeRead}
use Rattle.certificate_trees.proofs.Pieces.{then_read}
use Rattle.certificate_trees.proofs.TreePieces.{ends}
use Rattle.certificate_trees.proofs.Chains.{any_depth}
use Rattle.certificate_trees.proofs.Shallow.{IsFlat, flat_word, flat_name, flat_whole, flat_refused, form_closes, shallow_behind, shallow_behind_till}
use Rattle.certificate_trees.proofs.Steps.{Joins, here, later, both}
use Rattle.certificate_trees.proofs.Unknown.{or_else-None, or_else-assoc}

-- a form without parentheses
pub flat_stands : (T : List ℕ → Type 0) → IsFlat T → (depth : ℕ) {text : List ℕ} {at to : ℕ} → IsWhole T text at to → IsStanding T depth text at to
flat_stands T flat depth {text = text} {at = at} {to = to} w = record { whole = w; shallow = flat_whole T flat depth text at to w }

pub flat_part_refused : (T : List ℕ → Type 0) → IsFlat T → (depth : ℕ) {text : List ℕ} {at : ℕ} {e : CertRefusal} → IsRefused T None text at e → IsPartRefused T depth text at e
flat_part_refused T flat depth {text = text} {at = at} {e = e} h = record { refused = any_depth T (Some depth) text at e h; shallow = flat_refused T flat depth text at e h }

-- a word
pub word_stands : (w : List ℕ) → count 40 w ≡ 0 → (depth : ℕ) {text : List ℕ} {at to : ℕ} → IsWhole (Word w) text at to → IsStanding (Word w) depth text at to
word_stands w none depth h = flat_stands (Word w) (flat_word w none) depth h

pub word_refused : (w : List ℕ) → count 40 w ≡ 0 → (depth : ℕ) {text : List ℕ} {at : ℕ} {e : CertRefusal} → IsRefused (Word w) None text at e → IsPartRefused (Word w) depth text at e
word_refused w none depth h = flat_part_refused (Word w) (flat_word w none) depth h

-- where nothing is noted
same_places : (old : List ℕ) → old ≡ old ++ []
same_places old = sym (append-nil old)

same_noted : (old : Option ℕ) → old ≡ or_else old None
same_noted old = sym (or_else-None old)

pub plain_read : {T : List ℕ → Type 0} {w : List ℕ} (depth : ℕ) {text : List ℕ} {at to : ℕ} (notes : Notes) → IsRead text at to w → IsStanding T depth text at to →
    IsPartRead T depth (word_part w) text at to notes notes
plain_read depth notes read stands = record {
  within = read.within;
  moves = omega (arith, read.onward);
  read = read;
  places = same_places notes.places.items;
  noted = same_noted notes.unknown;
  stands = stands;
}

pub word_read : (w : List ℕ) → count 40 w ≡ 0 → (depth : ℕ) {text : List ℕ} {at to : ℕ} (notes : Notes) → IsRead text at to w → IsWhole (Word w) text at to →
    IsPartRead (Word w) depth (word_part w) text at to notes notes
word_read w none depth notes read whole = plain_read depth notes read (word_stands w none depth whole)

-- a name
pub name_read : (letter limit n : ℕ) → (letter ≡ 40 → ⊥) → (depth : ℕ) {text : List ℕ} {at to : ℕ} (old new : Notes) → IsRead text at to (letter ∷ decimal n) → IsWhole (Name letter) text at to →
    new.places ≡ old.places → new.unknown ≡ or_else old.unknown (unknown_name limit n at) → IsPartRead (Name letter) depth (name_part letter limit n) text at to old new
name_read letter limit n other depth old new read whole places noted = record {
  within = read.within;
  moves = omega (arith, read.onward);
  read = read;
  places = ap (λ z. z.items) places ∙ same_places old.places.items;
  noted = noted;
  stands = flat_stands (Name letter) (flat_name letter other) depth whole;
}

-- a tree
pub tree_read : {L : Type 0} (kind : LeafKind) (leaf : L → List ℕ) (bad : L → Bool) (depth : ℕ) {x : Proof L Weaken Join} {text : List ℕ} {at to : ℕ} {old new : Notes} → IsFaithful kind →
    at + node_count x ≤ to → IsTreeRead kind leaf bad x text at to old new → IsStanding (Tree (LeafOf kind)) depth text at to →
    IsPartRead (Tree (LeafOf kind)) depth (tree_part leaf bad x) text at to old new
tree_read kind leaf bad depth faithful moves tree stands = record {
  within = tree.read.within;
  moves = moves;
  read = tree.read;
  places = tree.places;
  noted = tree.noted faithful;
  stands = stands;
}

module _ {T U : List ℕ → Type 0} {D : ℕ → Type 0} (j : Joins T U D) (depth : ℕ) where
  -- a part and what stands behind it
  pub both_stand : {text : List ℕ} {at mid to : ℕ} → IsStanding T depth text at mid → IsStanding U depth text mid to → IsStanding (Then T U) depth text at to
  both_stand {text = text} {at = at} {mid = mid} {to = to} s t = record {
    whole = both j s.whole t.whole;
    shallow = shallow_behind T (form_closes T D j.form) depth text at mid to s.whole s.shallow t.shallow;
  }

  pub both_read : {a b : Part} {text : List ℕ} {at mid to : ℕ} {old one new : Notes} → IsPartRead T depth a text at mid old one → IsPartRead U depth b text mid to one new →
      IsPartRead (Then T U) depth (both_parts a b) text at to old new
  both_read {a = a} {b = b} {text = text} {at = at} {mid = mid} {to = to} {old = old} {one = one} {new = new} p q =
      let end : mid ≡ at + length a.bytes = ends text at mid a.bytes p.read in
      record {
        within = q.within;
        moves = omega (arith, p.moves, q.moves);
        read = then_read text at mid to a.bytes b.bytes p.read q.read;
        places = q.places ∙ ap (λ z. z ++ b.places mid) p.places ∙ append_assoc old.places.items (a.places at) (b.places mid) ∙ ap (λ n. old.places.items ++ (a.places at ++ b.places n)) end;
        noted = q.noted ∙ ap (λ z. or_else z (b.unknown mid)) p.noted ∙ or_else-assoc old.unknown (a.unknown at) (b.unknown mid) ∙ ap (λ n. or_else old.unknown (or_else (a.unknown at) (b.unknown n))) end;
        stands = both_stand p.stands q.stands;
      }

  -- the first part is refused, or the second behind it
  pub first_part : {text : List ℕ} {at : ℕ} {e : CertRefusal} → IsPartRefused T depth text at e → IsPartRefused (Then T U) depth text at e
  first_part {text = text} {at = at} {e = e} r = record { refused = here j (Some depth) text at e r.refused; shallow = r.shallow }

  pub second_part : {text : List ℕ} {at mid : ℕ} {e : CertRefusal} → IsStanding T depth text at mid → IsPartRefused U depth text mid e → IsPartRefused (Then T U) depth text at e
  second_part {text = text} {at = at} {mid = mid} {e = e} s r = record {
    refused = later j (Some depth) e s.whole r.refused;
    shallow = shallow_behind_till T (form_closes T D j.form) depth text at mid e s.whole s.shallow r.shallow;
  }
