-- A cycle that is the first of all through its points passes none of them twice.
use Rattle.std.proofs.Common.{zero, suc, ◌≡◌, ℕ, List, [], ◌∷◌, ◌++◌, Bool, true, false, ◌+◌, ◌-◌, ◌<◌, ◌≤◌, length, take, drop, get_or, arith, inl, inr, refl, subst, ap, sym, ◌∙◌, length-append}
use Rattle.std.specs.Prelude.{◌||◌}
use Rattle.std.proofs.lemmas.Bool.{cases_Bool, true≢false}
use Rattle.std.proofs.lemmas.List.{get_or-drop, length-drop, length-take-le, take-append-drop}
use Rattle.order_laws.specs.declared.Order.{Order}
use Rattle.order_laws.specs.declared.Point.{Point}
use Rattle.order_laws.specs.Chains.{order_at, IsChain, IsWalk, shows_strict}
use Rattle.order_laws.specs.FirstChains.{IsFirstChain}
use Rattle.order_laws.specs.Lists.{IsAtMost}
use Rattle.order_laws.proofs.Base.{Reaches, walk-append, strict-append}
use Rattle.order_conflicts.specs.Rings.{point_along}

most_length : (xs ys : List ℕ) → IsAtMost xs ys → length xs ≤ length ys
most_length xs ys (inl same) = omega (arith, ap length same)
most_length xs ys (inr (inl short)) = omega arith
most_length xs ys (inr (inr other)) = omega (arith, other.0)

-- what is left of a choice of three
either : (a b c : Bool) → (a || (b || c)) ≡ true → b ≡ false → (a || c) ≡ true
either true b c e other = refl
either false b c e other = rw other at e

module _ (orders : List Order) where
  -- a walk, cut before one of its orders
  record Cut (x y : Point) (ns : List ℕ) (k : ℕ) : Type 0 where
    front : IsWalk orders x (point_along orders ns k) (take k ns)
    back : IsWalk orders (point_along orders ns k) y (drop k ns)

  cut : (x y : Point) (ns : List ℕ) (k : ℕ) → k < length ns → IsWalk orders x y ns → Cut x y ns k
  cut x y [] k h w = absurd (omega arith)
  cut x y (n ∷ ns) zero h w = record { front = sym w.1; back = (w.0, refl, w.2) }
  cut x y (n ∷ ns) (suc k) h w =
      let rest : Cut (order_at orders n).high y ns k = cut (order_at orders n).high y ns k (omega (arith, h)) w.2 in
      record { front = (w.0, w.1, rest.front); back = rest.back }

  shows_cut : (ns : List ℕ) (k : ℕ) → shows_strict orders ns ≡ (shows_strict orders (take k ns) || shows_strict orders (drop k ns))
  shows_cut ns k = ap (shows_strict orders) (sym (take-append-drop k ns)) ∙ strict-append orders (take k ns) (drop k ns)

  weakly : (x y : Point) (ns : List ℕ) → IsWalk orders x y ns → Reaches orders x y false
  weakly x y ns w = record { path = ns; walk = w; shows = λ e. absurd (true≢false (sym e)) }

  -- the first cycle of a point is at most each cycle of a point that it passes
  module _ (z : Point) (ns : List ℕ) (first : IsFirstChain orders z z true ns)
      (others : (y : Point) → Reaches orders z y false → Reaches orders y z false → (ms : List ℕ) → IsChain orders y y ms → shows_strict orders ms ≡ true → IsAtMost ns ms)
      (i j : ℕ) (less : i < j) (below : j < length ns) (e : point_along orders ns i ≡ point_along orders ns j) where
    abbrev here : Point
    here = point_along orders ns i

    abbrev behind : List ℕ
    behind = drop i ns

    within : j - i < length behind
    within = omega (arith, less, below, length-drop i ns)

    outer : Cut z z ns i
    outer = cut z z ns i (omega (arith, less, below)) first.chain.1

    inner : Cut here z behind (j - i)
    inner = cut here z behind (j - i) within outer.back

    again : point_along orders behind (j - i) ≡ here
    again =
        let there : i + (j - i) ≡ j = omega (arith, less) in
        ap (λ n. (order_at orders n).low) (get_or-drop i ns (j - i) 0 ∙ ap (λ k. get_or ns k 0) there) ∙ sym e

    ring : IsWalk orders here here (take (j - i) behind)
    ring = let P : Point → Type 0 = λ q. IsWalk orders here q (take (j - i) behind) in subst P again inner.front

    after : IsWalk orders here z (drop (j - i) behind)
    after = let P : Point → Type 0 = λ q. IsWalk orders q z (drop (j - i) behind) in subst P again inner.back

    ring_length : length (take (j - i) behind) ≡ j - i
    ring_length = length-take-le (j - i) behind (omega (arith, within))

    rest_length : length (take i ns ++ drop (j - i) behind) ≡ i + (length ns - j)
    rest_length =
        omega (arith, less, below, length-append (take i ns) (drop (j - i) behind), length-take-le i ns (omega (arith, less, below)), length-drop (j - i) behind, length-drop i ns)

    shows : (shows_strict orders (take i ns) || (shows_strict orders (take (j - i) behind) || shows_strict orders (drop (j - i) behind))) ≡ true
    shows = ap (λ b. shows_strict orders (take i ns) || b) (sym (shows_cut behind (j - i))) ∙ sym (shows_cut ns i) ∙ first.shows refl

    pub passes_once : ⊥
    passes_once =
        elim (cases_Bool (shows_strict orders (take (j - i) behind))) [
          | inl strict ↦
              omega (
                arith,
                less,
                below,
                ring_length,
                most_length ns (take (j - i) behind)
                    (others here (weakly z here (take i ns) outer.front) (weakly here z behind outer.back) (take (j - i) behind) (omega (arith, less, ring_length), ring) strict),
              )
          | inr weak ↦
              omega (
                arith,
                less,
                below,
                rest_length,
                most_length ns (take i ns ++ drop (j - i) behind)
                    (first.first (take i ns ++ drop (j - i) behind)
                    (omega (arith, below, rest_length), walk-append orders z here z (take i ns) (drop (j - i) behind) outer.front after)
                    (λ _. strict-append orders (take i ns) (drop (j - i) behind) ∙ either (shows_strict orders (take i ns)) (shows_strict orders (take (j - i) behind)) (shows_strict orders (drop (j - i) behind)) shows weak)),
              )
        ]
