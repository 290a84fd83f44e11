-- Triples of values that are the same but for the numbers of blank nodes.
use Rattle.std.proofs.Common.{◌≡◌, ℕ, ◌<◌, List, refl, sym, ap, ◌∙◌}
use Rattle.std.specs.Prelude.{⊤}
use Rattle.joined_names.specs.Values.{Value, ValueTriple}
use Rattle.joined_names.specs.Values.Value.{Iri, Blank, Lit}
use Rattle.record_laws.proofs.Members.{In}

abbrev pub renamed_value : (ℕ → ℕ) → Value → Value
renamed_value f (Iri text) = Value.Iri text
renamed_value f (Blank n) = Value.Blank (f n)
renamed_value f (Lit literal) = Value.Lit literal

-- the same triple with its blank nodes renamed, wherever it stands
pub record IsMoved (f : ℕ → ℕ) (x y : ValueTriple) : Type 0 where
  pub s : y.s ≡ renamed_value f x.s
  pub p : y.p ≡ renamed_value f x.p
  pub o : y.o ≡ renamed_value f x.o

-- each of the one is, renamed, one of the other
abbrev pub AreMoved : (ℕ → ℕ) → List ValueTriple → List ValueTriple → Type 0
AreMoved f xs ys = (x : ValueTriple) → In x xs → (y : ValueTriple) × In y ys × IsMoved f x y

-- The same are in both, where numbers of blank nodes below a bound stay.
pub record AreAlike (bound : ℕ) (xs ys : List ValueTriple) : Type 0 where
  pub forth : ℕ → ℕ
  pub back : ℕ → ℕ
  pub forth_and_back : (n : ℕ) → back (forth n) ≡ n
  pub back_and_forth : (n : ℕ) → forth (back n) ≡ n
  pub low : (n : ℕ) → n < bound → forth n ≡ n
  pub there : AreMoved forth xs ys
  pub here : AreMoved back ys xs

-- what is so of its blank node
abbrev pub IsSo : (ℕ → Type 0) → Value → Type 0
IsSo P (Iri text) = ⊤
IsSo P (Blank n) = P n
IsSo P (Lit literal) = ⊤

-- what is so of each of its blank nodes
pub record AreSo (P : ℕ → Type 0) (x : ValueTriple) : Type 0 where
  pub s : IsSo P x.s
  pub p : IsSo P x.p
  pub o : IsSo P x.o

value_so : (P Q : ℕ → Type 0) → ((n : ℕ) → P n → Q n) → (v : Value) → IsSo P v → IsSo Q v
value_so P Q then (Iri text) h = tt
value_so P Q then (Blank n) h = then n h
value_so P Q then (Lit literal) h = tt

pub also_so : (P Q : ℕ → Type 0) → ((n : ℕ) → P n → Q n) → (x : ValueTriple) → AreSo P x → AreSo Q x
also_so P Q then x h = record { s = value_so P Q then x.s h.s; p = value_so P Q then x.p h.p; o = value_so P Q then x.o h.o }

value_stays : (f : ℕ → ℕ) (v : Value) → IsSo (λ n. f n ≡ n) v → v ≡ renamed_value f v
value_stays f (Iri text) h = refl
value_stays f (Blank n) h = ap (λ (k : ℕ). Value.Blank k) (sym h)
value_stays f (Lit literal) h = refl

-- A renaming that keeps its blank nodes keeps a triple.
pub stays : (f : ℕ → ℕ) (x : ValueTriple) → AreSo (λ n. f n ≡ n) x → IsMoved f x x
stays f x h = record { s = value_stays f x.s h.s; p = value_stays f x.p h.p; o = value_stays f x.o h.o }

value_twice : (f g : ℕ → ℕ) (v : Value) → renamed_value g (renamed_value f v) ≡ renamed_value (λ n. g (f n)) v
value_twice f g (Iri text) = refl
value_twice f g (Blank n) = refl
value_twice f g (Lit literal) = refl

moved_twice : (f g : ℕ → ℕ) (x y z : ValueTriple) → IsMoved f x y → IsMoved g y z → IsMoved (λ n. g (f n)) x z
moved_twice f g x y z h k = record {
  s = k.s ∙ ap (renamed_value g) h.s ∙ value_twice f g x.s;
  p = k.p ∙ ap (renamed_value g) h.p ∙ value_twice f g x.p;
  o = k.o ∙ ap (renamed_value g) h.o ∙ value_twice f g x.o;
}

all_twice : (f g : ℕ → ℕ) (xs ys zs : List ValueTriple) → AreMoved f xs ys → AreMoved g ys zs → AreMoved (λ n. g (f n)) xs zs
all_twice f g xs ys zs h k = λ x i.
    let y = h x i in
    let z = k y.0 y.1 in
    (z.0, z.1, moved_twice f g x y.0 z.0 y.2 z.2)

value_same : (v : Value) → v ≡ renamed_value (λ n. n) v
value_same (Iri text) = refl
value_same (Blank n) = refl
value_same (Lit literal) = refl

pub alike_same : (bound : ℕ) (xs : List ValueTriple) → AreAlike bound xs xs
alike_same bound xs = record {
  forth = λ n. n;
  back = λ n. n;
  forth_and_back = λ n. refl;
  back_and_forth = λ n. refl;
  low = λ n lt. refl;
  there = λ x i. (x, i, record { s = value_same x.s; p = value_same x.p; o = value_same x.o });
  here = λ x i. (x, i, record { s = value_same x.s; p = value_same x.p; o = value_same x.o });
}

pub alike_on : (bound : ℕ) (xs ys zs : List ValueTriple) → AreAlike bound xs ys → AreAlike bound ys zs → AreAlike bound xs zs
alike_on bound xs ys zs h k = record {
  forth = λ n. k.forth (h.forth n);
  back = λ n. h.back (k.back n);
  forth_and_back = λ n. ap h.back (k.forth_and_back (h.forth n)) ∙ h.forth_and_back n;
  back_and_forth = λ n. ap k.forth (h.back_and_forth (k.back n)) ∙ k.back_and_forth n;
  low = λ n lt. ap k.forth (h.low n lt) ∙ k.low n lt;
  there = all_twice h.forth k.forth xs ys zs h.there k.there;
  here = all_twice k.back h.back zs ys xs k.here h.here;
}
