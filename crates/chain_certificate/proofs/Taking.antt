-- The loops of the search.
use Rattle.std.proofs.Common.{zero, suc, ◌≡◌, ◌≢◌, ℕ, List, [], ◌∷◌, ◌++◌, Bool, false, ◌+◌, ◌*◌, ◌<◌, ◌≤◌, length, get_or, replicate, take, drop, arith, inl, inr, refl, subst, ap, sym, ◌∙◌, eqb}
use Rattle.std.specs.Prelude.{◌||◌, ◌⊎◌}
use Rattle.std.proofs.lemmas.Bool.{cases_Bool, cases_eq, cases_lt}
use Rattle.std.proofs.lemmas.List.{length_push, get_or_append_left, length-replicate, get_or-replicate, get_or_past, take_at}
use Rattle.order_closure.specs.declared.links.Link.{Link}
use Rattle.order_closure.specs.Search.{Pair}
use Rattle.order_closure.specs.Next.{IsNext}
use Rattle.order_closure.specs.Links.{link_at, low_of}
use Rattle.order_closure.specs.Search.{place, beyond}
use Rattle.chain_certificate.specs.declared.tree.Node.{Node}
use Rattle.chain_certificate.specs.Tree.{no_node, node_at, pair_at, pair_of, IsEarlier, IsTree, IsSearching, IsTaking, IsWhole, zeros, nodes_after, node_of_after}
use Rattle.chain_certificate.proofs.First.{kept_first, none_kept, chains_mono}
use Rattle.chain_certificate.proofs.Grow.{searching_more}

earlier_weaken : (i m h n k : ℕ) → n ≤ k → IsEarlier i m h n → IsEarlier i m h k
earlier_weaken i m h n k a (inl e) = inl e
earlier_weaken i m h n k a (inr e) = inr (e.0, omega (arith, e.1))

-- where no link of the node stands between n and k
tree_skip : (points : ℕ) (links : List Link) (source : ℕ) (nodes : List Node) (node_of : List ℕ) (h n k : ℕ) → n ≤ k →
    ((m : ℕ) → n ≤ m → m < k → (link_at links m).low ≢ (node_at nodes h).point) →
    IsTree points links source nodes node_of h n → IsTree points links source nodes node_of h k
tree_skip points links source nodes node_of h n k a none t = record {
  some = t.some;
  root = t.root;
  in_range = t.in_range;
  parent = t.parent;
  order = t.order;
  begins = t.begins;
  leads = t.leads;
  ascending = t.ascending;
  behind = λ i b l. earlier_weaken _ _ h n k a (t.behind i b l);
  size = t.size;
  kept = t.kept;
  taken = λ i m l lm e earlier. t.taken i m l lm e (elim earlier [
    | inl o ↦ inl o
    | inr s ↦ elim (cases_lt m n) [
      | inl below ↦ inr (s.0, below)
      | inr above ↦ absurd (none m above s.1 (e ∙ ap (λ (z : ℕ). (node_at nodes z).point) s.0))
    ]
  ]);
}

tree_next : (points : ℕ) (links : List Link) (source : ℕ) (nodes : List Node) (node_of : List ℕ) (h : ℕ) →
    IsTree points links source nodes node_of h (length links) → IsTree points links source nodes node_of (h + 1) 0
tree_next points links source nodes node_of h t = record {
  some = t.some;
  root = t.root;
  in_range = t.in_range;
  parent = t.parent;
  order = t.order;
  begins = t.begins;
  leads = t.leads;
  ascending = t.ascending;
  behind = λ i b l. inl (elim (t.behind i b l) [ inl o ↦ omega arith | inr s ↦ omega (arith, s.0) ]);
  size = t.size;
  kept = t.kept;
  taken = λ i m l lm e earlier. t.taken i m l lm e (elim earlier [
    | inl o ↦ elim (cases_eq i h) [ inl same ↦ inr (same, lm) | inr other ↦ inl (omega (arith, other)) ]
    | inr s ↦ absurd (omega (arith, s.1))
  ]);
}

pub taking_none : (points : ℕ) (links : List Link) (source : ℕ) (nodes : List Node) (node_of : List ℕ) (h at : ℕ) →
    IsNext (low_of links) (length links) (node_at nodes h).point 0 at → IsSearching points links source nodes node_of h 0 → h < length nodes →
    IsTaking points links source nodes node_of h at (node_at nodes h).point (node_at nodes h).strict
taking_none points links source nodes node_of h at next s l = record {
  searching = record {
    tree = tree_skip points links source nodes node_of h 0 _ (omega arith) next.none_between s.tree;
    room = s.room;
  };
  head = l;
  is_point = refl;
  is_strict = refl;
  within = next.within;
  starts = next.begins;
}

pub taking_more : (points : ℕ) (links : List Link) (source : ℕ) (nodes : List Node) (node_of : List ℕ) (h at next point : ℕ) (strict : Bool) (x : Node) →
    (link_at links at).high < points → IsNext (low_of links) (length links) (link_at links at).low (at + 1) next →
    IsTaking points links source nodes node_of h at point strict → at < length links →
    x ≡ record { point = (link_at links at).high; strict = strict || (link_at links at).strict; parent = h; order = at } →
    IsTaking points links source (nodes_after node_of nodes x) (node_of_after node_of nodes x) h next point strict
taking_more points links source nodes node_of h at next point strict x high step s l is_x =
    let met : Node = record { point = (link_at links at).high; strict = (node_at nodes h).strict || (link_at links at).strict; parent = h; order = at } in
    let is_met : x ≡ met = is_x ∙ ap (λ (b : Bool). (let z : Node = record { point = (link_at links at).high; strict = b || (link_at links at).strict; parent = h; order = at } in z)) (sym s.is_strict) in
    let more : IsSearching points links source (nodes_after node_of nodes met) (node_of_after node_of nodes met) h next =
    searching_more points links source nodes node_of h at next s.searching.tree s.head l (s.starts l ∙ sym s.is_point) high step s.searching.room in
    let P : Node → Type 0 = λ z. IsSearching points links source (nodes_after node_of nodes z) (node_of_after node_of nodes z) h next in
    let longer : (length nodes ≤ length (nodes_after node_of nodes x)) × (get_or (nodes_after node_of nodes x) h no_node ≡ get_or nodes h no_node) =
    elim (cases_Bool (eqb (get_or node_of (place (pair_of x)) 0) 0)) [
      | inl e ↦ rw e (omega (arith, length_push nodes x), get_or_append_left nodes (x ∷ []) no_node h s.head)
      | inr e ↦ rw e (omega arith, refl)
    ] in
    record {
      searching = subst P (sym is_met) more;
      head = omega (arith, s.head, longer.0);
      is_point = ap (λ (z : Node). z.point) longer.1 ∙ s.is_point;
      is_strict = ap (λ (z : Node). z.strict) longer.1 ∙ s.is_strict;
      within = step.within;
      starts = λ k. step.begins k ∙ s.starts l;
    }

pub taking_all : (points : ℕ) (links : List Link) (source : ℕ) (nodes : List Node) (node_of : List ℕ) (h at point : ℕ) (strict : Bool) →
    IsTaking points links source nodes node_of h at point strict → length links ≤ at →
    IsSearching points links source nodes node_of (h + 1) 0
taking_all points links source nodes node_of h at point strict s l =
    let P : ℕ → Type 0 = λ z. IsTree points links source nodes node_of h z in
    let last : at ≡ length links = omega (arith, s.within) in
    record { tree = tree_next points links source nodes node_of h (subst P last s.searching.tree); room = s.searching.room }

blank : (n i : ℕ) → get_or (replicate {A = ℕ} n 0) i 0 ≡ 0
blank n i = elim (cases_lt i n) [ inl h ↦ get_or-replicate n i 0 0 h | inr h ↦ get_or_past (replicate {A = ℕ} n 0) i 0 (omega (arith, length-replicate {A = ℕ} n 0)) ]

zeros-replicate : (n : ℕ) → zeros (replicate {A = ℕ} n 0) ≡ n
zeros-replicate zero = refl
zeros-replicate (suc n) = omega (arith, zeros-replicate n)

pub searching_none : (points : ℕ) (links : List Link) (source : ℕ) (x : Node) → x ≡ record { point = source; strict = false; parent = 0; order = 0 } → source < points →
    IsSearching points links source (x ∷ []) (replicate {A = ℕ} (2 * points) 0) 0 0
searching_none points links source x is_x l = record {
  tree = record {
    some = omega arith;
    root = ap pair_of is_x;
    in_range = λ i h. elim (cases_eq i 0) [
      | inl e ↦ (let P : ℕ → Type 0 = λ z. (node_at (x ∷ []) z).point < points in subst P (sym e) (omega (arith, ap (λ (z : Node). z.point) is_x)))
      | inr e ↦ absurd (omega (arith, e))
    ];
    parent = λ i a h. absurd (omega arith);
    order = λ i a h. absurd (omega arith);
    begins = λ i a h. absurd (omega arith);
    leads = λ i a h. absurd (omega arith);
    ascending = λ i j a b h. absurd (omega arith);
    behind = λ i a h. absurd (omega arith);
    size = length-replicate {A = ℕ} (2 * points) 0;
    kept = λ q h. absurd (omega (arith, blank (2 * points) (place q)));
    taken = λ i m h lm e earlier. absurd (elim earlier [ inl a ↦ omega arith | inr a ↦ omega (arith, a.1) ]);
  };
  room = omega (arith, zeros-replicate (2 * points));
}

pub restored : (n : ℕ) (xs ys : List ℕ) → length xs ≡ n → take n (xs ++ drop (length xs) ys) ≡ xs
restored n xs ys e = take_at xs (drop (length xs) ys) n e

-- a later node of the source's own pair leads where the first node led
pub searching_skip : (points : ℕ) (links : List Link) (source : ℕ) (nodes : List Node) (node_of : List ℕ) (h : ℕ) →
    IsSearching points links source nodes node_of h 0 → 0 < h → pair_at nodes h ≡ record { point = source; strict = false } →
    IsSearching points links source nodes node_of (h + 1) 0
searching_skip points links source nodes node_of h s later again =
    let t : IsTree points links source nodes node_of h 0 = s.tree in
    let same : pair_at nodes h ≡ pair_at nodes 0 = again ∙ sym t.root in
    record {
      tree = record {
        some = t.some;
        root = t.root;
        in_range = t.in_range;
        parent = t.parent;
        order = t.order;
        begins = t.begins;
        leads = t.leads;
        ascending = t.ascending;
        behind = λ i b l. inl (elim (t.behind i b l) [ inl o ↦ omega arith | inr o ↦ absurd (omega (arith, o.1)) ]);
        size = t.size;
        kept = t.kept;
        taken = λ i m l lm e earlier. elim (cases_eq i h) [
          | inl is_h ↦
              (let is_pair : pair_at nodes i ≡ pair_at nodes 0 = ap (pair_at nodes) is_h ∙ same in
              let was = t.taken 0 m t.some lm (e ∙ ap (λ (q : Pair). q.point) is_pair) (inl later) in
              let k : Pair → ℕ = λ q. get_or node_of (place (beyond q (link_at links m))) 0 in
              let P : Pair → Type 0 = λ q. (0 < k q) × (IsEarlier (node_at nodes (k q)).parent (node_at nodes (k q)).order i m
              ⊎ (((node_at nodes (k q)).parent ≡ i) × ((node_at nodes (k q)).order ≡ m))) in
              subst P (sym is_pair) (
                was.0,
                inl (elim was.1 [
                  | inl (inl o) ↦ absurd (omega arith)
                  | inl (inr o) ↦ inl (omega (arith, o.0, is_h))
                  | inr o ↦ inl (omega (arith, o.0, is_h))
                ]),
              ))
          | inr other ↦ t.taken i m l lm e (elim earlier [ inl o ↦ inl (omega (arith, other)) | inr o ↦ absurd (omega (arith, o.1)) ])
        ];
      };
      room = s.room;
    }

pub searching_all : (points : ℕ) (links : List Link) (source : ℕ) (nodes : List Node) (node_of : List ℕ) (h : ℕ) →
    IsSearching points links source nodes node_of h 0 → length nodes ≤ h → IsWhole points links source nodes node_of
searching_all points links source nodes node_of h s l = record {
  size = s.tree.size;
  reached = λ q some. ((s.tree.kept q some).0, kept_first points links source nodes node_of h 0 s.tree (λ i m a. inl (omega arith)) q some);
  missed = λ q none ms long w shown. none_kept points links source nodes node_of h 0 s.tree (λ i m a. inl (omega arith)) q none ms long w shown;
  ascending = chains_mono points links source nodes node_of h 0 s.tree;
}
