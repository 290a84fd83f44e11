-- Lists that grow by one item.
use Rattle.std.proofs.Common.{ℕ, suc, ◌≡◌, ◌<◌, ◌+◌, ◌++◌, Option, Some, None, List, [], ◌∷◌, get_or, length, take, refl, sym, ap, ap₂, ◌∙◌, arith}
use Rattle.std.specs.List.{filter_map, flat_map}
use Rattle.std.proofs.Math.Seq.{take-suc}
use Rattle.std.proofs.lemmas.List.{append-nil, flat_map_more}
use Rattle.std.proofs.lemmas.List.Elements.{filter_map-append}

-- what is given of one item more
pub filter_map_none : {X Y : Type 0} (h : X → Option Y) (xs : List X) (x : X) → h x ≡ None → filter_map h xs ≡ filter_map h (xs ++ x ∷ [])
filter_map_none {X} {Y} h xs x e =
    sym (append-nil (filter_map h xs)) ∙ ap (λ (ys : List Y). filter_map h xs ++ ys) (nothing (h x) e) ∙ sym (filter_map-append h xs (x ∷ []))
  where
    nothing : (o : Option Y) → o ≡ None → [] ≡ filter_map (λ (p : X). o) (x ∷ [])
    nothing None e = refl
    nothing (Some y) e = absurd (let never : ⊥ = cc in never)

pub filter_map_some : {X Y : Type 0} (h : X → Option Y) (xs : List X) (x : X) (y : Y) → h x ≡ Some y → filter_map h xs ++ y ∷ [] ≡ filter_map h (xs ++ x ∷ [])
filter_map_some {X} {Y} h xs x y e =
    ap (λ (ys : List Y). filter_map h xs ++ ys) (one (h x) e) ∙ sym (filter_map-append h xs (x ∷ []))
  where
    one : (o : Option Y) → o ≡ Some y → y ∷ [] ≡ filter_map (λ (p : X). o) (x ∷ [])
    one None e = absurd (let never : ⊥ = cc in never)
    one (Some z) e = let same : z ≡ y = cc in ap (λ (v : Y). v ∷ []) (sym same)

-- one item more is read
pub take_grow : {X : Type 0} (rs ss : List X) (i : ℕ) (d : X) → rs ≡ ss → i < length rs → take i ss ++ get_or rs i d ∷ [] ≡ take (i + 1) ss
take_grow {X} rs ss i d e l =
    ap (λ (xs : List X). take i xs ++ get_or rs i d ∷ []) (sym e)
    ∙ sym (take-suc rs i d l)
    ∙ ap₂ (λ (k : ℕ) (xs : List X). take k xs) (let plus : suc i ≡ i + 1 = omega arith in plus) e

-- and what it gives is put behind
pub pieces_grow : {X Y : Type 0} (f : X → List Y) (rs ss : List X) (i : ℕ) (d : X) (old new : List Y) → rs ≡ ss → i < length rs →
    old ≡ flat_map f (take i ss) → new ≡ old ++ f (get_or rs i d) → new ≡ flat_map f (take (i + 1) ss)
pieces_grow {X} {Y} f rs ss i d old new e l before after =
    after
    ∙ ap (λ (ys : List Y). ys ++ f (get_or rs i d)) before
    ∙ flat_map_more f [] (take i ss) (get_or rs i d)
    ∙ ap (flat_map f) (take_grow rs ss i d e l)
