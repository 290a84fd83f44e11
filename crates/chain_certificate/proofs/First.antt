-- The chains of a tree are first chains.
use Rattle.std.proofs.Common.{zero, suc, ◌≡◌, ℕ, List, [], ◌∷◌, ◌++◌, Bool, true, false, ◌<◌, ◌≤◌, length, get_or, arith, inl, inr, refl, subst, ap, sym, ◌∙◌, append_assoc}
use Rattle.std.specs.Prelude.{◌||◌}
use Rattle.std.proofs.lemmas.Bool.{cases_Bool, cases_eq}
use Rattle.std.proofs.lemmas.List.{length_push}
use Rattle.order_closure.specs.declared.links.Link.{Link}
use Rattle.order_closure.specs.Search.{Pair}
use Rattle.order_closure.specs.Links.{IsRoute, shows, link_at}
use Rattle.order_closure.specs.Search.{place, beyond}
use Rattle.chain_certificate.specs.declared.tree.Node.{Node}
use Rattle.order_laws.specs.Lists.{IsLess, IsAtMost}
use Rattle.chain_certificate.specs.Tree.{node_at, pair_at, chain_to, chain_of, IsEarlier, IsTree, IsFirst}
use Rattle.chain_certificate.proofs.Lists.{most_trans, less_push, less_last, most_push}

module _ (points : ℕ) (links : List Link) (source : ℕ) (nodes : List Node) (node_of : List ℕ) (h n : ℕ)
    (t : IsTree points links source nodes node_of h n) where
  chain_zero : (k : ℕ) → chain_to nodes k 0 ≡ []
  chain_zero zero = refl
  chain_zero (suc k) = refl

  -- enough fuel is as good as more
  chain_fuel : (k m i : ℕ) → i ≤ k → i ≤ m → i < length nodes → chain_to nodes k i ≡ chain_to nodes m i
  chain_fuel k m zero a b l = chain_zero k ∙ sym (chain_zero m)
  chain_fuel zero m (suc i) a b l = absurd (omega arith)
  chain_fuel (suc k) zero (suc i) a b l = absurd (omega arith)
  chain_fuel (suc k) (suc m) (suc i) a b l =
      let p : (node_at nodes (suc i)).parent < suc i = t.parent (suc i) (omega arith) l in
      ap (λ (c : List ℕ). c ++ (node_at nodes (suc i)).order ∷ []) (chain_fuel k m (node_at nodes (suc i)).parent (omega arith) (omega arith) (omega arith))

  pub chain_step : (i : ℕ) → 0 < i → i < length nodes →
      chain_of nodes i ≡ chain_of nodes (node_at nodes i).parent ++ (node_at nodes i).order ∷ []
  chain_step zero a l = absurd (omega arith)
  chain_step (suc i) a l =
      let p : (node_at nodes (suc i)).parent < suc i = t.parent (suc i) a l in
      ap (λ (c : List ℕ). c ++ (node_at nodes (suc i)).order ∷ []) (chain_fuel i (node_at nodes (suc i)).parent (node_at nodes (suc i)).parent (omega arith) (omega arith) (omega arith))

  -- later nodes have greater chains
  pub chains_ascend : (k i j : ℕ) → j ≤ k → i < j → j < length nodes → IsLess (chain_of nodes i) (chain_of nodes j)
  chains_ascend zero i j a b l = absurd (omega arith)
  chains_ascend (suc k) i j a b l =
      let p : (node_at nodes j).parent < j = t.parent j (omega arith) l in
      rw (chain_step j (omega arith) l) (elim (cases_eq i 0) [
        | inl none ↦ (let P : ℕ → Type 0 = λ z. IsLess (chain_of nodes z) (chain_of nodes (node_at nodes j).parent ++ (node_at nodes j).order ∷ []) in
            subst P (sym none) (inl (omega (arith, length_push (chain_of nodes (node_at nodes j).parent) (node_at nodes j).order))))
        | inr some ↦ rw (chain_step i (omega (arith, some)) (omega arith)) (elim (t.ascending i j (omega (arith, some)) b l) [
          | inl earlier ↦ less_push _ _ _ _ (chains_ascend k (node_at nodes i).parent (node_at nodes j).parent (omega arith) earlier (omega arith))
          | inr same ↦ rw same.0 (less_last _ _ _ same.1)
        ])
      ])

  pub chains_mono : (i j : ℕ) → i ≤ j → j < length nodes → IsAtMost (chain_of nodes i) (chain_of nodes j)
  chains_mono i j a l = elim (cases_eq i j) [
    | inl same ↦ inl (ap (chain_of nodes) same)
    | inr other ↦ inr (chains_ascend j i j (omega arith) (omega (arith, other)) l)
  ]

  route-append : (x y z : ℕ) (ms ns : List ℕ) → IsRoute links x y ms → IsRoute links y z ns → IsRoute links x z (ms ++ ns)
  route-append x y z [] ns v w = let P : ℕ → Type 0 = λ p. IsRoute links p z ns in subst P (sym v) w
  route-append x y z (m ∷ ms) ns v w = (v.0, v.1, route-append (link_at links m).high y z ms ns v.2 w)

  shows-append : (ms ns : List ℕ) → shows links (ms ++ ns) ≡ (shows links ms || shows links ns)
  shows-append [] ns = refl
  shows-append (m ∷ ms) ns =
      elim (cases_Bool (link_at links m).strict) [ inl e ↦ rw e | inr e ↦ rw e (shows-append ms ns) ]

  or_false : (b : Bool) → (b || false) ≡ b
  or_false true = refl
  or_false false = refl

  or_assoc : (a b c : Bool) → ((a || b) || c) ≡ (a || (b || c))
  or_assoc true b c = refl
  or_assoc false b c = refl

  -- a node's chain leads to its pair
  record LeadsTo (i : ℕ) : Type 0 where
    route : IsRoute links source (node_at nodes i).point (chain_of nodes i)
    shown : shows links (chain_of nodes i) ≡ (node_at nodes i).strict

  chain_leads : (k i : ℕ) → i ≤ k → i < length nodes → LeadsTo i
  chain_leads k zero a l = record {
    route = sym (ap (λ (q : Pair). q.point) t.root);
    shown = sym (ap (λ (q : Pair). q.strict) t.root);
  }
  chain_leads zero (suc i) a l = absurd (omega arith)
  chain_leads (suc k) (suc i) a l =
      let p : (node_at nodes (suc i)).parent < suc i = t.parent (suc i) (omega arith) l in
      let old : LeadsTo (node_at nodes (suc i)).parent = chain_leads k (node_at nodes (suc i)).parent (omega arith) (omega arith) in
      let lead : pair_at nodes (suc i) ≡ beyond (pair_at nodes (node_at nodes (suc i)).parent) (link_at links (node_at nodes (suc i)).order) = t.leads (suc i) (omega arith) l in
      let step : chain_of nodes (suc i) ≡ chain_of nodes (node_at nodes (suc i)).parent ++ (node_at nodes (suc i)).order ∷ [] = chain_step (suc i) (omega arith) l in
      let P : List ℕ → Type 0 = λ c. IsRoute links source (node_at nodes (suc i)).point c in
      let Q : List ℕ → Type 0 = λ c. shows links c ≡ (node_at nodes (suc i)).strict in
      record {
        route = subst P (sym step) (route-append source (node_at nodes (node_at nodes (suc i)).parent).point (node_at nodes (suc i)).point (chain_of nodes (node_at nodes (suc i)).parent) ((node_at nodes (suc i)).order ∷ [])
            old.route (t.order (suc i) (omega arith) l, t.begins (suc i) (omega arith) l, sym (ap (λ (q : Pair). q.point) lead)));
        shown = subst Q (sym step) (shows-append (chain_of nodes (node_at nodes (suc i)).parent) ((node_at nodes (suc i)).order ∷ [])
            ∙ ap (λ (b : Bool). b || ((link_at links (node_at nodes (suc i)).order).strict || false)) old.shown
            ∙ ap (λ (b : Bool). (node_at nodes (node_at nodes (suc i)).parent).strict || b) (or_false (link_at links (node_at nodes (suc i)).order).strict)
            ∙ sym (ap (λ (q : Pair). q.strict) lead));
      }

  -- a list is matched or beaten, and where it has an order the node is the one that is kept
  pub record Beaten (y : ℕ) (strict : Bool) (list : List ℕ) : Type 0 where
    pub node : ℕ
    pub some : 0 < node
    pub below : node < length nodes
    pub pair : pair_at nodes node ≡ record { point = y; strict = strict }
    pub most : IsAtMost (chain_of nodes node) list
    pub found : get_or node_of (place (record { point = y; strict = strict })) 0 ≡ node

  module _ (done : (i m : ℕ) → i < length nodes → IsEarlier i m h n) where
    step_beaten : (i m : ℕ) (prefix : List ℕ) → i < length nodes → m < length links → (link_at links m).low ≡ (node_at nodes i).point →
        IsAtMost (chain_of nodes i) prefix →
        Beaten (link_at links m).high ((node_at nodes i).strict || (link_at links m).strict) (prefix ++ m ∷ [])
    step_beaten i m prefix l lm low most =
        let j : ℕ = get_or node_of (place (beyond (pair_at nodes i) (link_at links m))) 0 in
        let taken = t.taken i m l lm low (done i m l) in
        let kept : (j < length nodes) × (pair_at nodes j ≡ beyond (pair_at nodes i) (link_at links m)) = t.kept (beyond (pair_at nodes i) (link_at links m)) taken.0 in
        let p : (node_at nodes j).parent < j = t.parent j taken.0 kept.0 in
        let here : IsAtMost (chain_of nodes j) (chain_of nodes i ++ m ∷ []) =
        rw (chain_step j taken.0 kept.0) (elim taken.1 [
          | inl (inl earlier) ↦ inr (less_push _ _ _ _ (chains_ascend i (node_at nodes j).parent i (omega arith) earlier l))
          | inl (inr same) ↦ rw same.0 (inr (less_last _ _ _ same.1))
          | inr same ↦ rw (same.0, same.1) (inl refl)
        ]) in
        record {
          node = j;
          some = taken.0;
          below = kept.0;
          pair = kept.1;
          most = most_trans _ _ _ here (most_push _ _ m most);
          found = refl;
        }

    pub beaten : (ns : List ℕ) (i : ℕ) (prefix : List ℕ) (y : ℕ) → 0 < length ns → i < length nodes → IsAtMost (chain_of nodes i) prefix →
        IsRoute links (node_at nodes i).point y ns → Beaten y ((node_at nodes i).strict || shows links ns) (prefix ++ ns)
    beaten [] i prefix y some l most w = absurd (omega arith)
    beaten (m ∷ []) i prefix y some l most w =
        let b = step_beaten i m prefix l w.0 w.1 most in
        let P : ℕ → Type 0 = λ z. Beaten z ((node_at nodes i).strict || ((link_at links m).strict || false)) (prefix ++ m ∷ []) in
        subst P w.2 (rw (or_false (link_at links m).strict) b)
    beaten (m ∷ k ∷ ns) i prefix y some l most w =
        let b = step_beaten i m prefix l w.0 w.1 most in
        let point : (node_at nodes b.node).point ≡ (link_at links m).high = ap (λ (q : Pair). q.point) b.pair in
        let strict : (node_at nodes b.node).strict ≡ ((node_at nodes i).strict || (link_at links m).strict) = ap (λ (q : Pair). q.strict) b.pair in
        let R : ℕ → Type 0 = λ z. IsRoute links z y (k ∷ ns) in
        let rest : Beaten y ((node_at nodes b.node).strict || shows links (k ∷ ns)) ((prefix ++ m ∷ []) ++ (k ∷ ns)) =
        beaten (k ∷ ns) b.node (prefix ++ m ∷ []) y (omega arith) b.below b.most (subst R (sym point) w.2) in
        let P : Bool → Type 0 = λ z. Beaten y (z || shows links (k ∷ ns)) ((prefix ++ m ∷ []) ++ (k ∷ ns)) in
        let rest' : Beaten y (((node_at nodes i).strict || (link_at links m).strict) || shows links (k ∷ ns)) ((prefix ++ m ∷ []) ++ (k ∷ ns)) = subst P strict rest in
        let Q : Bool → Type 0 = λ z. Beaten y z ((prefix ++ m ∷ []) ++ (k ∷ ns)) in
        let S : List ℕ → Type 0 = λ z. Beaten y ((node_at nodes i).strict || shows links (m ∷ k ∷ ns)) z in
        subst S (append_assoc prefix (m ∷ []) (k ∷ ns)) (subst Q (or_assoc (node_at nodes i).strict (link_at links m).strict (shows links (k ∷ ns))) rest')

    root_point : (node_at nodes 0).point ≡ source
    root_point = ap (λ (q : Pair). q.point) t.root

    root_strict : (node_at nodes 0).strict ≡ false
    root_strict = ap (λ (q : Pair). q.strict) t.root

    -- any route of at least one link from the source is matched or beaten by the chain of its pair's node
    pub all_beaten : (ms : List ℕ) (y : ℕ) → 0 < length ms → IsRoute links source y ms → Beaten y (shows links ms) ms
    all_beaten ms y some w =
        let R : ℕ → Type 0 = λ z. IsRoute links z y ms in
        let P : Bool → Type 0 = λ z. Beaten y (z || shows links ms) ([] ++ ms) in
        subst P root_strict (beaten ms 0 [] y some t.some (inl refl) (subst R (sym root_point) w))

    -- the kept node's chain is the first to its pair
    pub kept_first : (q : Pair) → 0 < get_or node_of (place q) 0 → IsFirst links source q (chain_of nodes (get_or node_of (place q) 0))
    kept_first q some =
        let j : ℕ = get_or node_of (place q) 0 in
        let kept : (j < length nodes) × (pair_at nodes j ≡ q) = t.kept q some in
        let lead : LeadsTo j = chain_leads j j (omega arith) kept.0 in
        let point : (node_at nodes j).point ≡ q.point = ap (λ (r : Pair). r.point) kept.1 in
        let strict : (node_at nodes j).strict ≡ q.strict = ap (λ (r : Pair). r.strict) kept.1 in
        let R : ℕ → Type 0 = λ z. IsRoute links source z (chain_of nodes j) in
        record {
          some = rw (chain_step j some kept.0) (omega (arith, length_push (chain_of nodes (node_at nodes j).parent) (node_at nodes j).order));
          leads = subst R point lead.route;
          shown = lead.shown ∙ strict;
          first = λ ms long w shown.
              (let b = all_beaten ms q.point long w in
              let same : j ≡ b.node = (let P : Bool → Type 0 = λ z. get_or node_of (place (record { point = q.point; strict = z })) 0 ≡ b.node in subst P shown b.found) in
              let S : ℕ → Type 0 = λ z. IsAtMost (chain_of nodes z) ms in
              subst S (sym same) b.most);
        }

    -- a pair with no node has no route of at least one link
    pub none_kept : (q : Pair) → get_or node_of (place q) 0 ≡ 0 → (ms : List ℕ) → 0 < length ms → IsRoute links source q.point ms → shows links ms ≡ q.strict → ⊥
    none_kept q none ms long w shown =
        let b = all_beaten ms q.point long w in
        let same : get_or node_of (place q) 0 ≡ b.node = (let P : Bool → Type 0 = λ z. get_or node_of (place (record { point = q.point; strict = z })) 0 ≡ b.node in subst P shown b.found) in
        omega (arith, b.some)
