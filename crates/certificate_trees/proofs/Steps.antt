-- A step and what is read behind it: what each says of the whole.
use Rattle.std.proofs.Common.{arith, ◌≡◌, ℕ, Option, List, [], ◌∷◌, ◌++◌, refl}
pub use Rattle.certificate_trees.proofs.WordReads.{handed_on}
use Rattle.certificate_trees.specs.declared.refusals.CertRefusal.{CertRefusal}
use Rattle.certificate_trees.specs.Beginnings.{Then, Word, Begins, IsWhole, IsRefused, count, NoByte, IsDigit, IsForm}
use Rattle.certificate_trees.proofs.Cuts.{Avoids, none_avoided, word_form, word_avoids, behind_avoids}
use Rattle.certificate_trees.proofs.Chains.{first_refused, behind, whole_behind}
use Rattle.certificate_trees.proofs.TreeForms.{no_digit}

-- where the first form ends is certain, whatever the second begins with
pub record Joins (T U : List ℕ → Type 0) (D : ℕ → Type 0) : Type 0 where
  pub form : IsForm T D
  pub avoids : Avoids D U
  pub live : Begins U []

-- the first step is refused
pub here : {T U : List ℕ → Type 0} {D : ℕ → Type 0} (j : Joins T U D) (depth : Option ℕ) (text : List ℕ) (at : ℕ) (e : CertRefusal) →
    IsRefused T depth text at e → IsRefused (Then T U) depth text at e
here {T = T} {U = U} j depth text at e h = first_refused T U depth text at e j.live h

-- the first step is read, and what stands behind it is refused
pub later : {T U : List ℕ → Type 0} {D : ℕ → Type 0} (j : Joins T U D) (depth : Option ℕ) {text : List ℕ} {at mid : ℕ} (e : CertRefusal) →
    IsWhole T text at mid → IsRefused U depth text mid e → IsRefused (Then T U) depth text at e
later {T = T} {U = U} {D = D} j depth {text = text} {at = at} {mid = mid} e w h = behind T U D j.form j.avoids text at mid w depth e h

-- both are read
pub both : {T U : List ℕ → Type 0} {D : ℕ → Type 0} (j : Joins T U D) {text : List ℕ} {at mid to : ℕ} → IsWhole T text at mid → IsWhole U text mid to → IsWhole (Then T U) text at to
both {T = T} {U = U} {D = D} j {text = text} {at = at} {mid = mid} {to = to} w v = whole_behind T U D j.form j.avoids text at mid to w v

pub live_both : {T U : List ℕ → Type 0} {D : ℕ → Type 0} (j : Joins T U D) → Begins (Then T U) []
live_both j = (j.form.live.0 ++ j.live.0, record { first = j.form.live.0; second = j.live.0; split = refl; one = j.form.live.1; two = j.live.1 })

-- behind a word anything may follow
pub word_joins : (w : List ℕ) (U : List ℕ → Type 0) → count 40 w ≡ count 41 w → Begins U [] → Joins (Word w) U NoByte
word_joins w U even live = record { form = word_form w even; avoids = none_avoided U; live = live }

-- a form before a word that doesn't go on with it
pub joins_word : (T : List ℕ → Type 0) (D : ℕ → Type 0) (c : ℕ) (w : List ℕ) → IsForm T D → (D c → ⊥) → Joins T (Word (c ∷ w)) D
joins_word T D c w form other = record { form = form; avoids = word_avoids D c w other; live = (c ∷ w, refl) }

pub joins_then : (T U : List ℕ → Type 0) (D : ℕ → Type 0) (c : ℕ) (w : List ℕ) → IsForm T D → (D c → ⊥) → Begins U [] → Joins T (Then (Word (c ∷ w)) U) D
joins_then T U D c w form other live = record {
  form = form;
  avoids = behind_avoids D c w U other;
  live = ((c ∷ w) ++ live.0, record { first = c ∷ w; second = live.0; split = refl; one = refl; two = live.1 });
}

-- a space, and a form that a space ends
pub space : (U : List ℕ → Type 0) → Begins U [] → Joins (Word (32 ∷ [])) U NoByte
space U live = word_joins (32 ∷ []) U refl live

pub spaced : (T U : List ℕ → Type 0) → IsForm T IsDigit → Begins U [] → Joins T (Then (Word (32 ∷ [])) U) IsDigit
spaced T U form live = joins_then T U IsDigit 32 [] form (no_digit 32 (omega arith)) live
