-- The parts of a line, and what it means that one is read or refused.
use Rattle.std.specs.Prelude.{◌≡◌, ◌≤◌, ◌+◌, ℕ, Bool, Option, Some, None, List, [], ◌∷◌, ◌++◌, length}
use Rattle.std.specs.Fmt.{decimal}
use Rattle.proof_core.specs.declared.trees.Proof.{Proof}
use Rattle.proof_core.specs.Proofs.{node_count}
use Rattle.certificate_trees.specs.declared.refusals.CertRefusal.{CertRefusal}
use Rattle.certificate_trees.specs.declared.rules.Weaken.{Weaken}
use Rattle.certificate_trees.specs.declared.rules.Join.{Join}
use Rattle.certificate_trees.specs.declared.leaves.Notes.{Notes}
use Rattle.certificate_trees.specs.Reads.{IsRead}
use Rattle.certificate_trees.specs.Beginnings.{IsWhole, IsRefused, IsShallow, IsShallowTill}
use Rattle.certificate_trees.specs.LeafGrammar.{LeafKind}
use Rattle.certificate_trees.specs.Names.{or_else, unknown_name, unknown_leaf, IsFaithful}
use Rattle.certificate_trees.specs.TreeTexts.{tree_bytes, node_places}

-- a part: its text and how many nodes it has; from where it begins, where its nodes begin and where its first name stands that names nothing
pub record Part : Type 0 where
  pub bytes : List ℕ
  pub nodes : ℕ
  pub places : ℕ → List ℕ
  pub unknown : ℕ → Option ℕ

-- a text without nodes and names
abbrev pub word_part : List ℕ → Part
word_part w = record { bytes = w; nodes = 0; places = λ at. []; unknown = λ at. None }

-- a letter and a number, of which so many name something
abbrev pub name_part : ℕ → ℕ → ℕ → Part
name_part letter limit n = record { bytes = letter ∷ decimal n; nodes = 0; places = λ at. []; unknown = unknown_name limit n }

abbrev pub tree_part : {L : Type 0} → (L → List ℕ) → (L → Bool) → Proof L Weaken Join → Part
tree_part leaf bad x = record { bytes = tree_bytes leaf x; nodes = node_count x; places = node_places leaf x; unknown = unknown_leaf leaf bad x }

-- a part and another behind it
abbrev pub both_parts : Part → Part → Part
both_parts a b = record {
  bytes = a.bytes ++ b.bytes;
  nodes = a.nodes + b.nodes;
  places = λ at. a.places at ++ b.places (at + length a.bytes);
  unknown = λ at. or_else (a.unknown at) (b.unknown (at + length a.bytes));
}

-- from a place to another stands a text of the form, which goes on no further, and nowhere in it stand more than so many parentheses open
pub record IsStanding (T : List ℕ → Type 0) (depth : ℕ) (text : List ℕ) (at to : ℕ) : Type 0 where
  pub whole : IsWhole T text at to
  pub shallow : IsShallow depth text at to

-- a text of the form is read there as the part, which the notes have now
pub record IsPartRead (T : List ℕ → Type 0) (depth : ℕ) (part : Part) (text : List ℕ) (at to : ℕ) (old new : Notes) : Type 0 where
  pub within : to ≤ length text
  pub moves : at + part.nodes ≤ to
  pub read : IsRead text at to part.bytes
  pub places : new.places.items ≡ old.places.items ++ part.places at
  pub noted : new.unknown ≡ or_else old.unknown (part.unknown at)
  pub stands : IsStanding T depth text at to

-- no text of the form stands there, and up to where it ceases to begin one no more than so many parentheses stand open
pub record IsPartRefused (T : List ℕ → Type 0) (depth : ℕ) (text : List ℕ) (at : ℕ) (e : CertRefusal) : Type 0 where
  pub refused : IsRefused T (Some depth) text at e
  pub shallow : IsShallowTill depth text at e

-- a tree is spelled there, its nodes are noted, and where its leaves are read as they are spelled also its first name that names nothing
pub record IsTreeRead {L : Type 0} (kind : LeafKind) (leaf : L → List ℕ) (bad : L → Bool) (x : Proof L Weaken Join) (text : List ℕ) (at to : ℕ) (old new : Notes) : Type 0 where
  pub read : IsRead text at to (tree_bytes leaf x)
  pub places : new.places.items ≡ old.places.items ++ node_places leaf x at
  pub noted : IsFaithful kind → new.unknown ≡ or_else old.unknown (unknown_leaf leaf bad x at)
