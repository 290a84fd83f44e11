-- The chain of the node that is picked is the first.
use Rattle.std.proofs.Common.{◌≡◌, ◌≢◌, ℕ, List, Bool, true, false, ◌+◌, ◌*◌, ◌<◌, ◌≤◌, length, get_or, arith, inl, inr, refl, subst, sym, ◌∙◌}
use Rattle.std.proofs.lemmas.Bool.{cases_Bool, cases_eq}
use Rattle.order_laws.specs.declared.Point.{Point}
use Rattle.order_laws.specs.Chains.{IsWalk, IsChain, shows_strict}
use Rattle.order_laws.specs.FirstChains.{IsFirstChain}
use Rattle.order_laws.specs.Lists.{IsAtMost}
use Rattle.order_laws.specs.Points.{number_of}
use Rattle.order_laws.specs.Tables.{IsPoint}
use Rattle.order_core.specs.Sets.{Orders, AreInRange}
use Rattle.order_closure.specs.declared.links.Link.{Link}
use Rattle.order_closure.specs.Links.{IsRoute, shows}
use Rattle.order_closure.specs.Search.{place}
use Rattle.order_closure.proofs.Tabling.{route_of_walk, walk_of_route, shows_same}
use Rattle.chain_certificate.specs.Routes.{Routing, IsRoutesOf, IsPicked, links_of}
use Rattle.chain_certificate.specs.Tree.{chain_of}
use Rattle.chain_certificate.proofs.Linked.{links_are}
use Rattle.chain_certificate.proofs.Lists.{most_trans}

module _ (set : Orders) (source : Point) (routes : Routing) (of : IsRoutesOf set source routes) (target : Point)
    (in_target : IsPoint set.extents (length set.dates) target) where
  abbrev links : List Link
  links = links_of set

  abbrev y : ℕ
  y = number_of set.extents target

  range : AreInRange set.extents (length set.dates) set.list
  range = record { low = of.of_set.orders.low_in_range; high = of.of_set.orders.high_in_range }

  -- the node of a pair of the target
  abbrev node_for : Bool → ℕ
  node_for b = get_or routes.node_of (place (record { point = y; strict = b })) 0

  route_for : (ns : List ℕ) → IsWalk set.list source target ns → IsRoute links (number_of set.extents source) y ns
  route_for ns w = route_of_walk set.extents (length set.dates) set.list links range (links_are set) source target ns w

  shown_for : (ns : List ℕ) → IsWalk set.list source target ns → shows links ns ≡ shows_strict set.list ns
  shown_for ns w = shows_same set.extents (length set.dates) set.list links range (links_are set) source target ns w

  chain_for : (b : Bool) → 0 < node_for b → IsChain set.list source target (chain_of routes.nodes (node_for b))
  chain_for b some =
      let f = (of.whole.reached (record { point = y; strict = b }) some).1 in
      (f.some, walk_of_route set.extents (length set.dates) set.list links range (links_are set) source target (chain_of routes.nodes (node_for b)) of.in_range in_target f.leads)

  -- a chain is matched or beaten by the node of its flag
  beaten_by : (ms : List ℕ) → IsChain set.list source target ms → (b : Bool) → shows_strict set.list ms ≡ b →
      (0 < node_for b) × IsAtMost (chain_of routes.nodes (node_for b)) ms
  beaten_by ms chain b shown =
      let route = route_for ms chain.1 in
      let shown' : shows links ms ≡ b = shown_for ms chain.1 ∙ shown in
      elim (cases_eq (node_for b) 0) [
        | inl none ↦ absurd (of.whole.missed (record { point = y; strict = b }) none ms chain.0 route shown')
        | inr some ↦
            (let some' : 0 < node_for b = omega (arith, some) in
            (some', (of.whole.reached (record { point = y; strict = b }) some').1.first ms chain.0 route shown'))
      ]

  pub strict_first : 0 < node_for true → IsFirstChain set.list source target true (chain_of routes.nodes (node_for true))
  strict_first some =
      let chain = chain_for true some in
      record {
        chain = chain;
        shows = λ _. sym (shown_for (chain_of routes.nodes (node_for true)) chain.1) ∙ (of.whole.reached (record { point = y; strict = true }) some).1.shown;
        first = λ ms other shown. (beaten_by ms other true (shown refl)).1;
      }

  -- the lesser of the two nodes
  pub plain_first : (b : Bool) (node : ℕ) → 0 < node → node ≡ node_for b → (0 < node_for false → node ≤ node_for false) → (0 < node_for true → node ≤ node_for true) →
      IsFirstChain set.list source target false (chain_of routes.nodes node)
  plain_first b node some is below_plain below_strict = record {
    chain = (let P : ℕ → Type 0 = λ z. IsChain set.list source target (chain_of routes.nodes z) in subst P (sym is) (chain_for b (omega (arith, is))));
    shows = λ h. absurd (no_flag h);
    first = λ ms other shown. elim (cases_Bool (shows_strict set.list ms)) [
      | inl e ↦ (let best = beaten_by ms other true e in
          most_trans _ _ _ (of.whole.ascending node (node_for true) (below_strict best.0) (of.whole.reached (record { point = y; strict = true }) best.0).0) best.1)
      | inr e ↦ (let best = beaten_by ms other false e in
          most_trans _ _ _ (of.whole.ascending node (node_for false) (below_plain best.0) (of.whole.reached (record { point = y; strict = false }) best.0).0) best.1)
    ];
  }
    where
      no_flag : false ≡ true → ⊥
      no_flag h = cc

  pub none_first : (b : Bool) → node_for b ≡ 0 → (ms : List ℕ) → IsChain set.list source target ms → shows_strict set.list ms ≢ b
  none_first b none ms chain shown = omega (arith, (beaten_by ms chain b shown).0)

module _ (set : Orders) (source : Point) (routes : Routing) (of : IsRoutesOf set source routes) (target : Point) (strict : Bool) (node : ℕ)
    (in_target : IsPoint routes.extents routes.dates target)
    (picked : IsPicked (get_or routes.node_of (2 * number_of routes.extents target) 0) (get_or routes.node_of (2 * number_of routes.extents target + 1) 0) strict node) where
  in_set : IsPoint set.extents (length set.dates) target
  in_set =
      let P : ℕ → Type 0 = λ e. IsPoint e (length set.dates) target in
      let Q : ℕ → Type 0 = λ d. IsPoint routes.extents d target in
      subst P of.extents (subst Q of.dates in_target)

  abbrev at : Bool → ℕ
  at b = get_or routes.node_of (place (record { point = number_of set.extents target; strict = b })) 0

  picked_in_set : IsPicked (at false) (at true) strict node
  picked_in_set =
      let P : ℕ → Type 0 = λ e. IsPicked (get_or routes.node_of (2 * number_of e target) 0) (get_or routes.node_of (2 * number_of e target + 1) 0) strict node in
      let Q : ℕ → Type 0 = λ z. IsPicked (get_or routes.node_of z 0) (at true) strict node in
      let same : 2 * number_of set.extents target ≡ 2 * number_of set.extents target + 0 = omega arith in
      subst Q same (subst P of.extents picked)

  pub chain_is : 0 < node → IsFirstChain set.list source target strict (chain_of routes.nodes node)
  chain_is some = go strict picked_in_set
    where
      go : (s : Bool) → IsPicked (at false) (at true) s node → IsFirstChain set.list source target s (chain_of routes.nodes node)
      go true p =
          let P : ℕ → Type 0 = λ z. IsFirstChain set.list source target true (chain_of routes.nodes z) in
          subst P (sym (p.strictly refl)) (strict_first set source routes of target in_set (omega (arith, p.strictly refl)))
      go false p =
          elim (p.one refl) [
            | inl e ↦ plain_first set source routes of target in_set false node some e (p.before_plain refl) (p.before_shown refl)
            | inr e ↦ plain_first set source routes of target in_set true node some e (p.before_plain refl) (p.before_shown refl)
          ]

  pub chain_none : node ≡ 0 → (ns : List ℕ) → IsChain set.list source target ns → (strict ≡ true → shows_strict set.list ns ≡ true) → ⊥
  chain_none none ns chain shown = go strict picked_in_set shown
    where
      go : (s : Bool) → IsPicked (at false) (at true) s node → (s ≡ true → shows_strict set.list ns ≡ true) → ⊥
      go true p h = none_first set source routes of target in_set true (sym (p.strictly refl) ∙ none) ns chain (h refl)
      go false p h =
          let both = p.none refl none in
          elim (cases_Bool (shows_strict set.list ns)) [
            | inl e ↦ none_first set source routes of target in_set true both.1 ns chain e
            | inr e ↦ none_first set source routes of target in_set false both.0 ns chain e
          ]
