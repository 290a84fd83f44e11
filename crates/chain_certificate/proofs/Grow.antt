-- A step of the search keeps the tree.
use Rattle.std.proofs.Common.{zero, suc, ◌≡◌, ◌≢◌, ℕ, List, [], ◌∷◌, ◌++◌, ◌+◌, ◌*◌, ◌<◌, ◌≤◌, length, get_or, set, arith, inl, inr, refl, subst, sym, ◌∙◌, length-set, get_or-set_same, get_or-set_other}
use Rattle.std.specs.Prelude.{◌||◌, ◌⊎◌}
use Rattle.std.proofs.lemmas.Bool.{cases_eq, cases_lt}
use Rattle.std.proofs.lemmas.Bool.Decides.{eqb_tells}
use Rattle.std.proofs.lemmas.List.{length_push, get_or_append_left, get_or_push}
use Rattle.order_closure.specs.declared.links.Link.{Link}
use Rattle.order_closure.specs.Next.{IsNext}
use Rattle.order_closure.specs.Links.{link_at, low_of}
use Rattle.order_closure.specs.Search.{place, beyond}
use Rattle.order_closure.proofs.State.{place_injective, place_within}
use Rattle.chain_certificate.specs.declared.tree.Node.{Node}
use Rattle.chain_certificate.specs.Tree.{no_node, node_at, pair_at, IsEarlier, IsTree, IsSearching, zeros, nodes_after, node_of_after}

zeros-set : (xs : List ℕ) (i v : ℕ) → i < length xs → get_or xs i 0 ≡ 0 → 0 < v → zeros (set xs i v) + 1 ≡ zeros xs
zeros-set [] i v l e p = absurd (omega arith)
zeros-set (x ∷ xs) zero v l e p =
    elim (eqb_tells v 0) [
      | inl yea ↦ absurd (omega (arith, yea.1))
      | inr nay ↦ rw (nay.0, e) (omega arith)
    ]
zeros-set (x ∷ xs) (suc i) v l e p = omega (arith, zeros-set xs i v (omega arith) e p)

earlier_weaken : (i m h n k : ℕ) → n ≤ k → IsEarlier i m h n → IsEarlier i m h k
earlier_weaken i m h n k a (inl e) = inl e
earlier_weaken i m h n k a (inr e) = inr (e.0, omega (arith, e.1))

module _ (points : ℕ) (links : List Link) (source : ℕ) (nodes : List Node) (node_of : List ℕ) (h at next : ℕ)
    (t : IsTree points links source nodes node_of h at) (in_h : h < length nodes) (in_at : at < length links)
    (low : (link_at links at).low ≡ (node_at nodes h).point) (high : (link_at links at).high < points)
    (step : IsNext (low_of links) (length links) (link_at links at).low (at + 1) next) where
  -- between the link and the next one no link begins at the node's point
  only_at : (m : ℕ) → m < length links → (link_at links m).low ≡ (node_at nodes h).point → m < next → (m < at) ⊎ (m ≡ at)
  only_at m l e b = elim (cases_lt m at) [
    | inl below ↦ inl below
    | inr above ↦ elim (cases_eq m at) [
      | inl same ↦ inr same
      | inr other ↦ absurd (step.none_between m (omega (arith, other)) b (e ∙ sym low))
    ]
  ]

  old_step : (i m : ℕ) → i < length nodes → m < length links → (link_at links m).low ≡ (node_at nodes i).point → IsEarlier i m h next →
      IsEarlier i m h at ⊎ ((i ≡ h) × (m ≡ at))
  old_step i m l lm e (inl a) = inl (inl a)
  old_step i m l lm e (inr a) =
      let P : ℕ → Type 0 = λ z. (link_at links m).low ≡ (node_at nodes z).point in
      elim (only_at m lm (subst P a.0 e) a.1) [ inl b ↦ inl (inr (a.0, b)) | inr b ↦ inr (a.0, b) ]

  pub tree_same : 0 < get_or node_of (place (beyond (pair_at nodes h) (link_at links at))) 0 → IsTree points links source nodes node_of h next
  tree_same marked = record {
    some = t.some;
    root = t.root;
    in_range = t.in_range;
    parent = t.parent;
    order = t.order;
    begins = t.begins;
    leads = t.leads;
    ascending = t.ascending;
    behind = λ i a l. earlier_weaken _ _ h at next (omega (arith, step.ahead)) (t.behind i a l);
    size = t.size;
    kept = t.kept;
    taken = λ i m l lm e earlier. elim (old_step i m l lm e earlier) [
      | inl old ↦ t.taken i m l lm e old
      | inr same ↦ rw (same.0, same.1) (marked, inl (t.behind _ marked (t.kept _ marked).0))
    ];
  }

  abbrev pub met : Node
  met = record { point = (link_at links at).high; strict = (node_at nodes h).strict || (link_at links at).strict; parent = h; order = at }

  old_node : (i : ℕ) → i < length nodes → get_or (nodes ++ met ∷ []) i no_node ≡ get_or nodes i no_node
  old_node i l = get_or_append_left nodes (met ∷ []) no_node i l

  new_node : (i : ℕ) → i ≡ length nodes → get_or (nodes ++ met ∷ []) i no_node ≡ met
  new_node i e = get_or_push nodes met no_node i (sym e)

  longer : length (nodes ++ met ∷ []) ≡ length nodes + 1
  longer = length_push nodes met

  -- each index is an old one or the last
  old_or_new : (i : ℕ) → i < length (nodes ++ met ∷ []) → (i < length nodes) ⊎ (i ≡ length nodes)
  old_or_new i l = elim (cases_eq i (length nodes)) [ inl same ↦ inr same | inr other ↦ inl (omega (arith, longer, other)) ]

  within_q : place (beyond (pair_at nodes h) (link_at links at)) < length node_of
  within_q = omega (arith, place_within (beyond (pair_at nodes h) (link_at links at)) points high, t.size)

  pub tree_new : get_or node_of (place (beyond (pair_at nodes h) (link_at links at))) 0 ≡ 0 →
      IsTree points links source (nodes ++ met ∷ []) (set node_of (place (beyond (pair_at nodes h) (link_at links at))) (length nodes)) h next
  tree_new none = record {
    some = omega (arith, longer);
    root = rw (old_node 0 t.some) t.root;
    in_range = λ i l. elim (old_or_new i l) [
      | inl o ↦ rw (old_node i o) (t.in_range i o)
      | inr e ↦ rw (new_node i e) high
    ];
    parent = λ i a l. elim (old_or_new i l) [
      | inl o ↦ rw (old_node i o) (t.parent i a o)
      | inr e ↦ rw (new_node i e) (omega (arith, e))
    ];
    order = λ i a l. elim (old_or_new i l) [
      | inl o ↦ rw (old_node i o) (t.order i a o)
      | inr e ↦ rw (new_node i e) in_at
    ];
    begins = λ i a l. elim (old_or_new i l) [
      | inl o ↦ (let p : (node_at nodes i).parent < length nodes = omega (arith, t.parent i a o) in
          rw (old_node i o, old_node (node_at nodes i).parent p) (t.begins i a o))
      | inr e ↦ rw (new_node i e, old_node h in_h) low
    ];
    leads = λ i a l. elim (old_or_new i l) [
      | inl o ↦ (let p : (node_at nodes i).parent < length nodes = omega (arith, t.parent i a o) in
          rw (old_node i o, old_node (node_at nodes i).parent p) (t.leads i a o))
      | inr e ↦ rw (new_node i e, old_node h in_h) refl
    ];
    ascending = λ i j a b l. elim (old_or_new j l) [
      | inl o ↦ (let oi : i < length nodes = omega arith in rw (old_node i oi, old_node j o) (t.ascending i j a b o))
      | inr e ↦ (let oi : i < length nodes = omega (arith, e) in rw (old_node i oi, new_node j e) (t.behind i a oi))
    ];
    behind = λ i a l. elim (old_or_new i l) [
      | inl o ↦ rw (old_node i o) (earlier_weaken _ _ h at next (omega (arith, step.ahead)) (t.behind i a o))
      | inr e ↦ rw (new_node i e) (inr (refl, omega (arith, step.ahead)))
    ];
    size = length-set node_of _ _ ∙ t.size;
    kept = λ r pos. elim (cases_eq (place r) (place (beyond (pair_at nodes h) (link_at links at)))) [
      | inl same ↦ (let is_q : r ≡ beyond (pair_at nodes h) (link_at links at) = place_injective r _ same in
          let here : get_or (set node_of (place (beyond (pair_at nodes h) (link_at links at))) (length nodes)) (place r) 0 ≡ length nodes =
          (rw same (get_or-set_same node_of _ (length nodes) 0 within_q)) in
          rw here (omega (arith, longer), rw (new_node (length nodes) refl) (sym is_q)))
      | inr other ↦ (let there : get_or (set node_of (place (beyond (pair_at nodes h) (link_at links at))) (length nodes)) (place r) 0 ≡ get_or node_of (place r) 0 =
          get_or-set_other node_of _ (place r) (length nodes) 0 other in
          let old = t.kept r (omega (arith, there)) in
          rw there (omega (arith, longer, old.0), rw (old_node _ old.0) old.1))
    ];
    taken = λ i m l lm e earlier. elim (old_or_new i l) [
      | inl o ↦
          (let e' : (link_at links m).low ≡ (node_at nodes i).point = (rw (old_node i o) at e) in
          rw (old_node i o) (elim (old_step i m o lm e' earlier) [
            | inl old ↦
                (let was = t.taken i m o lm e' old in
                let other : place (beyond (pair_at nodes i) (link_at links m)) ≢ place (beyond (pair_at nodes h) (link_at links at)) =
                (λ same. (let P : ℕ → Type 0 = λ z. 0 < get_or node_of z 0 in let bad : 0 < get_or node_of (place (beyond (pair_at nodes h) (link_at links at))) 0 = subst P same was.0 in omega (arith, none))) in
                let there : get_or (set node_of (place (beyond (pair_at nodes h) (link_at links at))) (length nodes)) (place (beyond (pair_at nodes i) (link_at links m))) 0 ≡ get_or node_of (place (beyond (pair_at nodes i) (link_at links m))) 0 =
                get_or-set_other node_of _ _ (length nodes) 0 other in
                rw there (was.0, rw (old_node _ (t.kept _ was.0).0) was.1))
            | inr same ↦
                (let here : get_or (set node_of (place (beyond (pair_at nodes h) (link_at links at))) (length nodes)) (place (beyond (pair_at nodes h) (link_at links at))) 0 ≡ length nodes =
                get_or-set_same node_of _ (length nodes) 0 within_q in
                rw (same.0, same.1) (rw here (omega (arith, t.some), rw (new_node (length nodes) refl) (inr (refl, refl)))))
          ]))
      | inr e' ↦ absurd (elim earlier [ inl a ↦ omega (arith, e') | inr a ↦ omega (arith, e', a.0) ])
    ];
  }

  pub searching_more : length nodes + zeros node_of ≡ 2 * points + 1 →
      IsSearching points links source (nodes_after node_of nodes met) (node_of_after node_of nodes met) h next
  searching_more room =
      elim (eqb_tells (get_or node_of (place (beyond (pair_at nodes h) (link_at links at))) 0) 0) [
        | inl yea ↦ rw yea.0 (record {
          tree = tree_new yea.1;
          room = omega (arith, longer, room, zeros-set node_of (place (beyond (pair_at nodes h) (link_at links at))) (length nodes) within_q yea.1 t.some);
        })
        | inr nay ↦ rw nay.0 (record { tree = tree_same (omega (arith, nay.1)); room = room })
      ]
