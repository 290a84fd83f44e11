-- A line or a part of one that is chosen by the first bytes of what stands at a place.
use Rattle.std.proofs.Common.{◌≡◌, ◌+◌, ◌⊎◌, inl, inr, ℕ, Option, Some, List, [], ◌∷◌, ◌++◌, refl}
use Rattle.std.specs.Prelude.{slice_get}
use Rattle.certificate_trees.specs.declared.refusals.CertRefusal.{CertRefusal}
use Rattle.certificate_trees.specs.Beginnings.{Then, Word, Begins, IsWhole, IsRefused}
use Rattle.certificate_trees.specs.declared.leaves.Notes.{Notes}
use Rattle.certificate_trees.specs.Parts.{Part, IsPartRead, IsPartRefused}
use Rattle.certificate_trees.proofs.Chains.{first_refused}
use Rattle.certificate_trees.proofs.Choices.{Leaves, leaves_more, first_whole, first_chosen, second_whole, second_chosen}

-- another byte doesn't stand there
pub other_byte : (text : List ℕ) (at c d : ℕ) → slice_get text at ≡ Some c → (c ≡ d → ⊥) → slice_get text at ≡ Some d → ⊥
other_byte text at c d e other f = let same : c ≡ d = cc (e, f) in other same

-- what is read or refused as the one is so as the other; a line is one of these with a line feed
pub record Chosen (F G : List ℕ → Type 0) (text : List ℕ) (at : ℕ) : Type 0 where
  pub whole : (to : ℕ) → IsWhole G text at to → IsWhole F text at to
  pub refused : (depth : Option ℕ) (e : CertRefusal) → IsRefused G depth text at e → IsRefused F depth text at e
  pub line : (depth : Option ℕ) (e : CertRefusal) → IsRefused (Then G (Word (10 ∷ []))) depth text at e → IsRefused (Then F (Word (10 ∷ []))) depth text at e

line_each : (F G : List ℕ → Type 0) (text : List ℕ) (at n : ℕ) → ((q : List ℕ) → F q → G q ⊎ Leaves text at n q) → (q : List ℕ) → Then F (Word (10 ∷ [])) q →
    Then G (Word (10 ∷ [])) q ⊎ Leaves text at n q
line_each F G text at n each q t = by_case (each t.first t.one)
  where
    by_case : G t.first ⊎ Leaves text at n t.first → Then G (Word (10 ∷ [])) q ⊎ Leaves text at n q
    by_case (inl g) = inl (record { first = t.first; second = t.second; split = t.split; one = g; two = t.two })
    by_case (inr l) = inr (leaves_more text at n t.first t.second q t.split l)

line_from : (F G : List ℕ → Type 0) → ((q : List ℕ) → G q → F q) → (q : List ℕ) → Then G (Word (10 ∷ [])) q → Then F (Word (10 ∷ [])) q
line_from F G from q t = record { first = t.first; second = t.second; split = t.split; one = from t.first t.one; two = t.two }

pub by_first : (F G : List ℕ → Type 0) (text : List ℕ) (at : ℕ) → ((q : List ℕ) → F q → G q ⊎ Leaves text at 0 q) → ((q : List ℕ) → G q → F q) → Chosen F G text at
by_first F G text at each from = record {
  whole = first_whole F G text at each from;
  refused = first_chosen F G text at each from;
  line = first_chosen (Then F (Word (10 ∷ []))) (Then G (Word (10 ∷ []))) text at (line_each F G text at 0 each) (line_from F G from);
}

pub by_second : (F G : List ℕ → Type 0) (text : List ℕ) (at c : ℕ) → slice_get text at ≡ Some c → Begins G (c ∷ []) →
    ((q : List ℕ) → F q → G q ⊎ Leaves text at 1 q) → ((q : List ℕ) → G q → F q) → Chosen F G text at
by_second F G text at c e b each from = record {
  whole = second_whole F G text at c e b each from;
  refused = second_chosen F G text at c e b each from;
  line = second_chosen (Then F (Word (10 ∷ []))) (Then G (Word (10 ∷ []))) text at c e
      (b.0 ++ 10 ∷ [], record { first = c ∷ b.0; second = 10 ∷ []; split = refl; one = b.1; two = refl }) (line_each F G text at 1 each) (line_from F G from);
}

-- no line begins where none of its form does
no_line : (F G : List ℕ → Type 0) (text : List ℕ) (at : ℕ) → Chosen F G text at → (depth : Option ℕ) (e : CertRefusal) → IsRefused G depth text at e →
    IsRefused (Then F (Word (10 ∷ []))) depth text at e
no_line F G text at k depth e h = k.line depth e (first_refused G (Word (10 ∷ [])) depth text at e (10 ∷ [], refl) h)

-- the same of parts
pub chosen_read : {F G : List ℕ → Type 0} (depth : ℕ) {part : Part} {text : List ℕ} {at to : ℕ} {old new : Notes} → Chosen F G text at → IsPartRead G depth part text at to old new →
    IsPartRead F depth part text at to old new
chosen_read depth {to = to} k p = record {
  within = p.within;
  moves = p.moves;
  read = p.read;
  places = p.places;
  noted = p.noted;
  stands = record { whole = k.whole to p.stands.whole; shallow = p.stands.shallow };
}

pub chosen_refused : {F G : List ℕ → Type 0} (depth : ℕ) {text : List ℕ} {at : ℕ} {e : CertRefusal} → Chosen F G text at → IsPartRefused G depth text at e → IsPartRefused F depth text at e
chosen_refused depth {e = e} k r = record { refused = k.refused (Some depth) e r.refused; shallow = r.shallow }

pub line_refused : {F G : List ℕ → Type 0} (depth : ℕ) {text : List ℕ} {at : ℕ} {e : CertRefusal} → Chosen F G text at → IsPartRefused G depth text at e →
    IsPartRefused (Then F (Word (10 ∷ []))) depth text at e
line_refused {F = F} {G = G} depth {text = text} {at = at} {e = e} k r = record { refused = no_line F G text at k (Some depth) e r.refused; shallow = r.shallow }

pub word_begins : (c : ℕ) (w : List ℕ) (U : List ℕ → Type 0) → Begins U [] → Begins (Then (Word (c ∷ w)) U) (c ∷ [])
word_begins c w U live = (w ++ live.0, record { first = c ∷ w; second = live.0; split = refl; one = refl; two = live.1 })
