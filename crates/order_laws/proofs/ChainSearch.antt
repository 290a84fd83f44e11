-- The computed first chain is the first chain.
use Rattle.std.proofs.Common.{zero, suc, ◌≡◌, ℕ, List, [], ◌∷◌, Bool, true, false, cond, not, ◌+◌, ◌<◌, length, arith, inl, inr, refl, subst, ap, sym, ◌∙◌}
use Rattle.std.specs.Prelude.{◌||◌, ◌&&◌, ◌⊎◌, Option, Some, None, IsSome}
use Rattle.std.specs.Option.{option_map}
use Rattle.std.proofs.lemmas.Bool.{cases_Bool, cases_lt, true≢false}
use Rattle.std.proofs.lemmas.Option.{none-some}
use Rattle.order_laws.specs.declared.Order.{Order}
use Rattle.order_laws.specs.declared.Point.{Point}
use Rattle.order_laws.specs.Chains.{order_at, IsWalk, IsChain, shows_strict}
use Rattle.order_laws.specs.ChainSearch.{first_some, least_walk, enough, first_chain, chain_of, first_cycle}
use Rattle.order_laws.specs.Closure.{reach_between, first_strict_loop}
use Rattle.order_laws.specs.FirstChains.{IsFirstChain, IsChainOf, IsFirstCycle}
use Rattle.order_laws.specs.Lists.{IsLexicographicallyLess, IsAtMost}
use Rattle.order_laws.specs.Points.{is_same}
use Rattle.order_laws.specs.Tables.{is_strict}
use Rattle.order_laws.proofs.Base.{Reaches, follows}
use Rattle.order_laws.proofs.Closure.{Within, sound, entry_follows, follows_entry, same_is, is_itself}
use Rattle.order_laws.proofs.FirstChains.{one_first}
use Rattle.order_laws.proofs.Loops.{loop_is_first, first_is_loop}

some_is : (xs ys : List ℕ) → Some xs ≡ Some ys → xs ≡ ys
some_is xs ys e = ap {A = Option (List ℕ)} (λ o. elim o as (λ _. List ℕ) [ None ↦ xs | Some zs ↦ zs ]) e

pub cases_option : (o : Option (List ℕ)) → (o ≡ None) ⊎ ((ns : List ℕ) × (o ≡ Some ns))
cases_option None = inl refl
cases_option (Some ns) = inr (ns, refl)

record FirstAt (f : ℕ → Option (List ℕ)) (count : ℕ) (ns : List ℕ) : Type 0 where
  at : ℕ
  below : at < count
  there : f at ≡ Some ns
  none_before : (k : ℕ) → k < at → f k ≡ None

none_of_all : (f : ℕ → Option (List ℕ)) (count : ℕ) → first_some f count ≡ None → (k : ℕ) → k < count → f k ≡ None
none_of_all f zero e k h = absurd (omega arith)
none_of_all f (suc count) e k h =
    elim (cases_option (first_some f count)) [
      | inl before ↦ elim (cases_lt k count) [
        | inl less ↦ none_of_all f count before k less
        | inr most ↦
            (let last : f count ≡ None = rw before at e in
            let P : ℕ → Type 0 = λ j. f j ≡ None in
            subst P (omega arith) last)
      ]
      | inr found ↦ absurd (none-some found.0 (let h : Some found.0 ≡ None = rw found.1 at e in sym h))
    ]

first_at : (f : ℕ → Option (List ℕ)) (count : ℕ) (ns : List ℕ) → first_some f count ≡ Some ns → FirstAt f count ns
first_at f zero ns e = absurd (none-some ns e)
first_at f (suc count) ns e =
    elim (cases_option (first_some f count)) [
      | inl before ↦ record {
        at = count;
        below = omega arith;
        there = rw before at e;
        none_before = none_of_all f count before;
      }
      | inr found ↦
          (let same : Some found.0 ≡ Some ns = rw found.1 at e in
          let earlier : FirstAt f count ns = first_at f count ns (found.1 ∙ same) in
          record {
            at = earlier.at;
            below = omega (arith, earlier.below);
            there = earlier.there;
            none_before = earlier.none_before;
          })
    ]

-- a walk of so many orders that shows what is asked for
record Fits (orders : List Order) (count : ℕ) (x y : Point) (strict : Bool) (ns : List ℕ) : Type 0 where
  size : length ns ≡ count
  walk : IsWalk orders x y ns
  shows : strict ≡ true → shows_strict orders ns ≡ true

rest_shows : (a b s : Bool) → (s ≡ true → (a || b) ≡ true) → (s && not a) ≡ true → b ≡ true
rest_shows true b true h k = absurd (true≢false (sym k))
rest_shows true b false h k = absurd (true≢false (sym k))
rest_shows false b true h k = h refl
rest_shows false b false h k = absurd (true≢false (sym k))

whole_shows : (a b s : Bool) → ((s && not a) ≡ true → b ≡ true) → s ≡ true → (a || b) ≡ true
whole_shows true b s h k = refl
whole_shows false b true h k = h refl
whole_shows false b false h k = absurd (true≢false (sym k))

step : List Order → (Point → Bool → Option (List ℕ)) → Point → Bool → ℕ → Option (List ℕ)
step orders rest x strict n =
    cond (is_same (order_at orders n).low x) (option_map (λ ns. n ∷ ns) (rest (order_at orders n).high (strict && not (order_at orders n).strict))) None

record Stepped (orders : List Order) (rest : Point → Bool → Option (List ℕ)) (x : Point) (strict : Bool) (n : ℕ) (ns : List ℕ) : Type 0 where
  tail : List ℕ
  begins : (order_at orders n).low ≡ x
  leads : rest (order_at orders n).high (strict && not (order_at orders n).strict) ≡ Some tail
  whole : ns ≡ n ∷ tail

stepped : (orders : List Order) (rest : Point → Bool → Option (List ℕ)) (x : Point) (strict : Bool) (n : ℕ) (ns : List ℕ) →
    cond (is_same (order_at orders n).low x) (option_map (λ ns. n ∷ ns) (rest (order_at orders n).high (strict && not (order_at orders n).strict))) None ≡ Some ns →
    Stepped orders rest x strict n ns
stepped orders rest x strict n ns e =
    elim (cases_Bool (is_same (order_at orders n).low x)) [
      | inl k ↦
          (let inner : option_map (λ ns. n ∷ ns) (rest (order_at orders n).high (strict && not (order_at orders n).strict)) ≡ Some ns = rw k at e in
          elim (cases_option (rest (order_at orders n).high (strict && not (order_at orders n).strict))) [
            | inl nothing ↦ absurd (none-some ns (let h : None ≡ Some ns = rw nothing at inner in h))
            | inr found ↦ record {
              tail = found.0;
              begins = same_is _ _ k;
              leads = found.1;
              whole = sym (some_is (n ∷ found.0) ns (rw found.1 at inner));
            }
          ])
      | inr k ↦ absurd (none-some ns (rw k at e))
    ]

not_stepped : (orders : List Order) (rest : Point → Bool → Option (List ℕ)) (x : Point) (strict : Bool) (n : ℕ) →
    cond (is_same (order_at orders n).low x) (option_map (λ ns. n ∷ ns) (rest (order_at orders n).high (strict && not (order_at orders n).strict))) None ≡ None →
    (order_at orders n).low ≡ x → rest (order_at orders n).high (strict && not (order_at orders n).strict) ≡ None
not_stepped orders rest x strict n e begins =
    let same : is_same (order_at orders n).low x ≡ true = (let P : Point → Type 0 = λ z. is_same (order_at orders n).low z ≡ true in subst P begins (is_itself (order_at orders n).low)) in
    elim (cases_option (rest (order_at orders n).high (strict && not (order_at orders n).strict))) [
      | inl nothing ↦ nothing
      | inr found ↦ absurd (none-some (n ∷ found.0) (let h : Some (n ∷ found.0) ≡ None = rw (same, found.1) at e in sym h))
    ]

least_fits : (orders : List Order) (count : ℕ) (x y : Point) (strict : Bool) (ns : List ℕ) → least_walk orders count x y strict ≡ Some ns → Fits orders count x y strict ns
least_fits orders zero x y true ns e = absurd (elim (cases_Bool (is_same x y)) [ inl k ↦ none-some ns (rw k at e) | inr k ↦ none-some ns (rw k at e) ])
least_fits orders zero x y false ns e =
    elim (cases_Bool (is_same x y)) [
      | inl k ↦
          (let empty : [] ≡ ns = some_is [] ns (rw k at e) in
          let P : List ℕ → Type 0 = λ ms. Fits orders 0 x y false ms in
          subst P empty (record { size = refl; walk = same_is x y k; shows = λ h. absurd (true≢false (sym h)) }))
      | inr k ↦ absurd (none-some ns (rw k at e))
    ]
least_fits orders (suc count) x y strict ns e =
    let f : FirstAt _ (length orders) ns = first_at _ (length orders) ns e in
    let s : Stepped orders (λ z b. least_walk orders count z y b) x strict f.at ns = stepped orders (λ z b. least_walk orders count z y b) x strict f.at ns f.there in
    let rest : Fits orders count (order_at orders f.at).high y (strict && not (order_at orders f.at).strict) s.tail = least_fits orders count (order_at orders f.at).high y _ s.tail s.leads in
    let P : List ℕ → Type 0 = λ ms. Fits orders (suc count) x y strict ms in
    subst P (sym s.whole) (record {
      size = omega (arith, rest.size);
      walk = (f.below, s.begins, rest.walk);
      shows = whole_shows (order_at orders f.at).strict (shows_strict orders s.tail) strict rest.shows;
    })

-- a walk that is there, and at most the given one
record Best (orders : List Order) (count : ℕ) (x y : Point) (strict : Bool) (ms : List ℕ) : Type 0 where
  list : List ℕ
  there : least_walk orders count x y strict ≡ Some list
  least : (list ≡ ms) ⊎ IsLexicographicallyLess list ms

least_best : (orders : List Order) (count : ℕ) (x y : Point) (strict : Bool) (ms : List ℕ) → Fits orders count x y strict ms → Best orders count x y strict ms
least_best orders zero x y strict (m ∷ ms) w = absurd (omega (arith, w.size))
least_best orders zero x y true [] w = absurd (true≢false (sym (w.shows refl)))
least_best orders zero x y false [] w =
    let same : is_same x y ≡ true = (let P : Point → Type 0 = λ z. is_same x z ≡ true in subst P w.walk (is_itself x)) in
    record { list = []; there = rw same; least = inl refl }
least_best orders (suc count) x y strict [] w = absurd (omega (arith, w.size))
least_best orders (suc count) x y strict (m ∷ ms) w =
    let rest : Point → Bool → Option (List ℕ) = λ z b. least_walk orders count z y b in
    let flag : Bool = strict && not (order_at orders m).strict in
    let inner : Best orders count (order_at orders m).high y flag ms =
    least_best orders count (order_at orders m).high y flag ms
    (record { size = omega (arith, w.size); walk = w.walk.2; shows = rest_shows (order_at orders m).strict (shows_strict orders ms) strict w.shows }) in
    let f : ℕ → Option (List ℕ) = λ n.
    cond (is_same (order_at orders n).low x) (option_map (λ ns. n ∷ ns) (least_walk orders count (order_at orders n).high y (strict && not (order_at orders n).strict))) None in
    let some : f m ≡ None → ⊥ = λ e. none-some inner.list (sym (not_stepped orders rest x strict m e w.walk.1) ∙ inner.there) in
    elim (cases_option (first_some f (length orders))) [
      | inl nothing ↦ absurd (some (none_of_all f (length orders) nothing m w.walk.0))
      | inr found ↦
          (let first : FirstAt f (length orders) found.0 = first_at f (length orders) found.0 found.1 in
          let s : Stepped orders rest x strict first.at found.0 = stepped orders rest x strict first.at found.0 first.there in
          let L : List ℕ → Type 0 = λ ns. (ns ≡ m ∷ ms) ⊎ IsLexicographicallyLess ns (m ∷ ms) in
          record {
            list = found.0;
            there = found.1;
            least = elim (cases_lt first.at m) [
              | inl less ↦ subst L (sym s.whole) (inr (inl less))
              | inr most ↦ elim (cases_lt m first.at) [
                | inl more ↦ absurd (some (first.none_before m more))
                | inr least ↦
                    (let same : first.at ≡ m = omega arith in
                    let Q : ℕ → Type 0 = λ n. least_walk orders count (order_at orders n).high y (strict && not (order_at orders n).strict) ≡ Some s.tail in
                    let tails : s.tail ≡ inner.list = some_is s.tail inner.list (sym (subst Q same s.leads) ∙ inner.there) in
                    let whole : found.0 ≡ m ∷ inner.list = s.whole ∙ ap (λ n. n ∷ s.tail) same ∙ ap (λ ns. m ∷ ns) tails in
                    subst L (sym whole) (elim inner.least [ inl e ↦ inl (ap (λ ns. m ∷ ns) e) | inr l ↦ inr (inr (refl, l)) ]))
              ]
            ];
          })
    ]

-- where a chain leads, a first one is found
found_where : (orders : List Order) (x y : Point) (strict : Bool) (ms : List ℕ) → IsChain orders x y ms → (strict ≡ true → shows_strict orders ms ≡ true) →
    (ns : List ℕ) × (first_chain orders x y strict ≡ Some ns)
found_where orders x y strict [] chain shows = absurd (omega (arith, chain.0))
found_where orders x y strict (m ∷ ms) chain shows =
    let z : Point = (order_at orders m).high in
    let flag : Bool = strict && not (order_at orders m).strict in
    let behind : Reaches orders z y flag =
    record { path = ms; walk = chain.1.2; shows = rest_shows (order_at orders m).strict (shows_strict orders ms) strict shows } in
    let short : Within orders (enough orders) z y flag = sound orders z y flag (follows_entry orders z y flag (follows orders z y flag behind)) in
    let best : Best orders (suc (length short.reach.path)) x y strict (m ∷ short.reach.path) =
    least_best orders (suc (length short.reach.path)) x y strict (m ∷ short.reach.path)
    (record {
      size = omega arith;
      walk = (chain.1.0, chain.1.1, short.reach.walk);
      shows = whole_shows (order_at orders m).strict (shows_strict orders short.reach.path) strict short.reach.shows;
    }) in
    elim (cases_option (first_chain orders x y strict)) [
      | inl nothing ↦ absurd (none-some best.list
          (sym (none_of_all (λ count. least_walk orders (suc count) x y strict) (enough orders + 1) nothing (length short.reach.path) (omega (arith, short.short))) ∙ best.there))
      | inr found ↦ found
    ]

is_there : (o : Option (List ℕ)) (ns : List ℕ) → o ≡ Some ns → IsSome o
is_there o ns e = let P : Option (List ℕ) → Type 0 = λ z. IsSome z in subst P (sym e) refl

pub chain_there : (orders : List Order) (x y : Point) (strict : Bool) (ms : List ℕ) → IsChain orders x y ms → (strict ≡ true → shows_strict orders ms ≡ true) →
    IsSome (first_chain orders x y strict)
chain_there orders x y strict ms chain shows =
    let found = found_where orders x y strict ms chain shows in
    is_there _ found.0 found.1

pub found_first : (orders : List Order) (x y : Point) (strict : Bool) (ns : List ℕ) → first_chain orders x y strict ≡ Some ns → IsFirstChain orders x y strict ns
found_first orders x y strict ns e =
    let f : ℕ → Option (List ℕ) = λ count. least_walk orders (suc count) x y strict in
    let first : FirstAt f (enough orders + 1) ns = first_at f (enough orders + 1) ns e in
    let fits : Fits orders (suc first.at) x y strict ns = least_fits orders (suc first.at) x y strict ns first.there in
    let compare : (c : ℕ) (ms : List ℕ) → length ms ≡ suc c → IsWalk orders x y ms → (strict ≡ true → shows_strict orders ms ≡ true) → IsAtMost ns ms =
    λ c ms size walk shows.
    (let best : Best orders (suc c) x y strict ms = least_best orders (suc c) x y strict ms (record { size = size; walk = walk; shows = shows }) in
    elim (cases_lt c first.at) [
      | inl shorter ↦ absurd (none-some best.list (sym (first.none_before c shorter) ∙ best.there))
      | inr most ↦ elim (cases_lt first.at c) [
        | inl longer ↦ inr (inl (omega (arith, fits.size)))
        | inr least ↦
            (let same : c ≡ first.at = omega arith in
            let Q : ℕ → Type 0 = λ n. least_walk orders (suc n) x y strict ≡ Some best.list in
            let lists : best.list ≡ ns = some_is best.list ns (sym (subst Q same best.there) ∙ first.there) in
            let L : List ℕ → Type 0 = λ l. (l ≡ ms) ⊎ IsLexicographicallyLess l ms in
            elim (subst L lists best.least) [ inl k ↦ inl k | inr k ↦ inr (inr (omega (arith, fits.size), k)) ])
      ]
    ]) in
    record {
      chain = (omega (arith, fits.size), fits.walk);
      shows = fits.shows;
      first = λ ms chain shows.
          (let go : (ls : List ℕ) → 0 < length ls → IsWalk orders x y ls → (strict ≡ true → shows_strict orders ls ≡ true) → IsAtMost ns ls =
          λ ls. elim ls as (λ js. 0 < length js → IsWalk orders x y js → (strict ≡ true → shows_strict orders js ≡ true) → IsAtMost ns js) [
            | [] ↦ λ h w k. absurd (omega arith)
            | j ∷ js ↦ λ h w k. compare (length js) (j ∷ js) (omega arith) w k
          ] in
          go ms chain.0 chain.1 shows);
    }

pub first_found : (orders : List Order) (x y : Point) (strict : Bool) (ns : List ℕ) → IsFirstChain orders x y strict ns → first_chain orders x y strict ≡ Some ns
first_found orders x y strict ns first =
    let found = found_where orders x y strict ns first.chain first.shows in
    found.1 ∙ ap Some (one_first orders x y strict found.0 ns (found_first orders x y strict found.0 found.1) first)

pub reason_is : (orders : List Order) (x y : Point) (ns : List ℕ) → chain_of orders x y ≡ Some ns → IsChainOf orders x y ns
reason_is orders x y ns e =
    elim (cases_Bool (is_strict (reach_between orders x y))) [
      | inl s ↦ record {
        strictly = λ f. found_first orders x y true ns (rw s at e);
        plainly = λ none. absurd (none (entry_follows orders x y true s));
      }
      | inr s ↦ record {
        strictly = λ f. absurd (true≢false (sym (follows_entry orders x y true f) ∙ s));
        plainly = λ none. found_first orders x y false ns (rw s at e);
      }
    ]

pub is_reason : (orders : List Order) (x y : Point) (ns : List ℕ) → IsChainOf orders x y ns → chain_of orders x y ≡ Some ns
is_reason orders x y ns reason =
    elim (cases_Bool (is_strict (reach_between orders x y))) [
      | inl s ↦ rw s (first_found orders x y true ns (reason.strictly (entry_follows orders x y true s)))
      | inr s ↦ rw s (first_found orders x y false ns (reason.plainly (λ f. true≢false (sym (follows_entry orders x y true f) ∙ s))))
    ]

loop_option : (o : Option Point) → (o ≡ None) ⊎ ((x : Point) × (o ≡ Some x))
loop_option None = inl refl
loop_option (Some x) = inr (x, refl)

pub cycle_is : (orders : List Order) (extents dates : ℕ) (ns : List ℕ) → first_cycle orders extents dates ≡ Some ns → IsFirstCycle orders extents dates ns
cycle_is orders extents dates ns e =
    elim (loop_option (first_strict_loop orders extents dates)) [
      | inl nothing ↦ absurd (none-some ns (rw (nothing, first_cycle) at e))
      | inr found ↦ record {
        point = found.0;
        loop = loop_is_first orders extents dates found.0 found.1;
        chain = found_first orders found.0 found.0 true ns (rw (found.1, first_cycle) at e);
      }
    ]

pub is_cycle : (orders : List Order) (extents dates : ℕ) (ns : List ℕ) → IsFirstCycle orders extents dates ns → first_cycle orders extents dates ≡ Some ns
is_cycle orders extents dates ns cycle =
    let at : first_strict_loop orders extents dates ≡ Some cycle.point = first_is_loop orders extents dates cycle.point cycle.loop in
    rw (at, first_cycle) (first_found orders cycle.point cycle.point true ns cycle.chain)
