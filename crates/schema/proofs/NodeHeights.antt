-- Heights by the lists of the edges that leave a node, and the lists as they are made, edge by edge.
use Prim.Native.Nat.{ℕ, zero, suc, ◌+◌, ◌-◌, ◌<◌, ◌≤◌, max}
use mathlib.Core.Path.{◌≡◌, refl, sym, ap, ◌∙◌}
use mathlib.Core.Bool.{Bool, true, false, cond}
use mathlib.Core.List.{List}
use native.Mathlib.Omega.{arith}
use native.Mathlib.Numerals.{add-one}
use borrow.Author.Count.{below_none, below_more}
use borrow.Author.Tests.{eq-eqb, ne_eqb, eqb-true, eqb-false}
use lib.ListN.{length, get_or, set, replicate, get_or-replicate, length-set}
use lib.Seq.{get_or-set_same, get_or-set_other}
use lib.Dec.{eqb}
use Rattle.meaning.specs.Schema.{Graph, source, target, height_over, height_within}
use Rattle.meaning.proofs.Heights.{over_skip, over-here, over-le}
use Rattle.schema.specs.declared.heights.Leaving.{Leaving}
use Rattle.std.proofs.Common.{Option, Some, None}
use Rattle.schema.specs.Heights.{leaving_end, end_of, Lists, height_to}

-- the last edge below k that leaves v is edge e - 1, and the edges from e to k add nothing to the height; or e is 0
record Last (G : Graph) (h : ℕ → ℕ) (v k e : ℕ) : Type 0 where
  within : e ≤ k
  same : height_over G h v k ≡ height_to G h e

last-leaving : (G : Graph) (h : ℕ → ℕ) (v k : ℕ) → Last G h v k (leaving_end G v k)
last-leaving G h v zero = record { within = omega arith; same = refl }
last-leaving G h v (suc k) = go (eqb (source G k) v) refl (last-leaving G h v k)
  where
    go : (b : Bool) → eqb (source G k) v ≡ b → Last G h v k (leaving_end G v k) → Last G h v (suc k) (cond b (suc k) (leaving_end G v k))
    go true p ih =
        let z : suc k - 1 ≡ k = omega arith in
        record { within = omega arith; same = ap (λ (x : ℕ). height_over G h x (suc k)) (sym (eqb-true (source G k) v p) ∙ ap (source G) (sym z)) }
    go false p ih = record {
      within = let w = ih.within in omega arith;
      same = ap (height_over G h v) (sym (add-one k)) ∙ over_skip G h v k (eqb-false (source G k) v p) ∙ ih.same;
    }

-- ---- what the code finds in the lists
module _ {G : Graph} {l : Leaving} (s : Lists G l) where
  -- at a node
  module _ {x v : ℕ} (is : x ≡ v) (low : v < 16) where
    last-is : end_of (get_or l.last x None) ≡ leaving_end G v (length G.edges)
    last-is = rw is (s.last v low)

    pub node-within : end_of (get_or l.last x None) ≤ length G.edges
    node-within = rw last-is (last-leaving G (λ _. 0) v (length G.edges)).within

    pub node-to : (h : ℕ → ℕ) → height_over G h v (length G.edges) ≡ height_to G h (end_of (get_or l.last x None))
    node-to h = rw last-is (last-leaving G h v (length G.edges)).same

  -- at edge e
  module _ {k e : ℕ} (is : k ≡ e) (within : suc e ≤ length G.edges) where
    pub edge_in : k < length G.edges
    edge_in = omega arith

    before-is : end_of (get_or l.before k None) ≡ leaving_end G (source G k) k
    before-is = s.before k edge_in

    pub before-low : end_of (get_or l.before k None) ≤ k
    before-low = rw before-is (last-leaving G (λ _. 0) (source G k) k).within

    pub before-within : end_of (get_or l.before k None) ≤ length G.edges
    before-within = omega (arith, before-low, edge_in)

    pub target_low : get_or l.target k 0 < 16
    target_low = omega (arith, s.to k edge_in, s.low k edge_in)

    pub edge_to : (h : ℕ → ℕ) → height_to G h (suc e) ≡ max (height_to G h (end_of (get_or l.before k None))) (suc (h (get_or l.target k 0)))
    edge_to h =
        let last : suc e - 1 ≡ k = omega arith in
        let up : suc e ≡ k + 1 = omega arith in
        ap (λ (x : ℕ). height_over G h (source G x) (suc e)) last
        ∙ ap (height_over G h (source G k)) up
        ∙ over-here G h (source G k) k refl
        ∙ rw (s.to k edge_in, before-is) (ap (λ (m : ℕ). max m (suc (h (target G k)))) (last-leaving G h (source G k) k).same)

    -- a height cannot be larger than the depth: no edge more can raise it
    pub edge-full : (h : ℕ → ℕ) (d : ℕ) → ((y : ℕ) → h y ≤ d) → height_to G h (end_of (get_or l.before k None)) ≡ d + 1 → height_to G h (suc e) ≡ d + 1
    edge-full h d low full = omega (arith, over-le G h d low (source G (suc e - 1)) (suc e), edge_to h)

pub height-down : (G : Graph) (d n : ℕ) → (d ≡ 0 → ⊥) → height_within G d n ≡ height_over G (height_within G (d - 1)) n (length G.edges)
height-down G zero n q = absurd (q refl)
height-down G (suc d) n q = let z : suc d - 1 ≡ d = omega arith in rw z

-- ---- the lists of the first e edges
pub record Listing (G : Graph) (befores lasts : List (Option ℕ)) (e : ℕ) : Type 0 where
  pub before : (j : ℕ) → j < e → end_of (get_or befores j None) ≡ leaving_end G (source G j) j
  pub last : (v : ℕ) → v < 16 → end_of (get_or lasts v None) ≡ leaving_end G v e
  pub before_long : length befores ≡ 32
  pub last_long : length lasts ≡ 16

pub listing_start : (G : Graph) → Listing G (replicate 32 None) (replicate 16 None) 0
listing_start G = record { before = below_none _; last = λ v l. ap end_of (get_or-replicate {A = Option ℕ} 16 v None None l); before_long = refl; last_long = refl }

pub listing-more : {G : Graph} {befores lasts : List (Option ℕ)} {e : ℕ} → Listing G befores lasts e → e < 32 → (node : ℕ) → node < 16 → source G e ≡ node
    → Listing G (set befores e (get_or lasts node None)) (set lasts node (Some e)) (e + 1)
listing-more {G} {befores} {lasts} {e} s less node low at = record {
  before = below_more (λ j. end_of (get_or (set befores e (get_or lasts node None)) j None) ≡ leaving_end G (source G j) j) e
      (λ j h. let other : j ≡ e → ⊥ = λ q. omega arith in ap end_of (get_or-set_other befores e j (get_or lasts node None) None other) ∙ s.before j h)
      (ap end_of (get_or-set_same befores e (get_or lasts node None) None (omega (arith, s.before_long))) ∙ s.last node low ∙ ap (λ (v : ℕ). leaving_end G v e) (sym at));
  last = λ v l. go v l (eqb v node) refl;
  before_long = length-set befores e (get_or lasts node None) ∙ s.before_long;
  last_long = length-set lasts node (Some e) ∙ s.last_long;
}
  where
    go : (v : ℕ) → v < 16 → (b : Bool) → eqb v node ≡ b → end_of (get_or (set lasts node (Some e)) v None) ≡ leaving_end G v (e + 1)
    go v l true p =
        let i : v ≡ node = eqb-true v node p in
        rw (i, get_or-set_same lasts node (Some e) None (omega (arith, s.last_long)), add-one e, eq-eqb (source G e) node at)
    go v l false p =
        let i : v ≡ node → ⊥ = eqb-false v node p in
        ap end_of (get_or-set_other lasts node v (Some e) None i) ∙ s.last v l ∙ rw (add-one e, ne_eqb (source G e) v (λ q. i (sym q ∙ at)))
