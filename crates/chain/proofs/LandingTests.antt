-- The landing at a place, test by test: old does not fit, does not start where the front ends, does not lead to the longer front, or is replaced.
use Prim.Native.Nat.{ℕ, ◌+◌, ◌<◌, ◌≤◌}
use mathlib.Core.Path.{◌≡◌, refl, sym, ap, ◌∙◌, subst}
use mathlib.Core.List.{List, ◌++◌}
use lib.ListN.{get_or}
use borrow.Author.Tests.{lt-ltb, le-ltb, eq-eqb, ne_eqb}
use Rattle.schema.specs.declared.Path.{Path}
use Rattle.schema.specs.Decoded.{path_of}
use Rattle.paths.specs.PathWalks.{walk_from, WalkIn}
use Rattle.paths.proofs.PathWalks.{within-append}
use Rattle.chain.specs.Places.{rest_edges, landing_at, LandIn}

module _ {end last first rank prefix : List ℕ} {n : ℕ} {old new : Path} {b : ℕ} (h : LandIn end last first rank prefix n old new b) where
  pub land-past : n < b + old.length → 256 ≡ landing_at end last first rank prefix n old new b
  land-past l = rw (lt-ltb n (b + old.length) l) refl

  -- u is the front
  module _ (fits : b + old.length ≤ n) {u : ℕ} (front : u ≡ get_or prefix b 0) where
    pub land-elsewhere : (get_or end u 0 ≡ old.start → ⊥) → 256 ≡ landing_at end last first rank prefix n old new b
    land-elsewhere k = rw (le-ltb n (b + old.length) fits, ne_eqb (get_or end (get_or prefix b 0) 0) old.start (λ e. k (ap (λ (v : ℕ). get_or end v 0) front ∙ e))) refl

    module _ (meets : get_or end u 0 ≡ old.start) where
      meets-front : get_or end (get_or prefix b 0) 0 ≡ old.start
      meets-front = ap (λ (v : ℕ). get_or end v 0) (sym front) ∙ meets

      pub old-walk : WalkIn first rank u (path_of old).edges
      old-walk = subst (λ (v : ℕ). WalkIn first rank v (path_of old).edges) (sym front) (h.old_in fits meets-front)

      -- old leads to path a, and r is the longer front
      module _ {a r : ℕ} (walked : a ≡ walk_from first rank u (path_of old).edges) (longer : r ≡ get_or prefix (b + old.length) 0) where
        walked-front : walk_from first rank (get_or prefix b 0) (path_of old).edges ≡ a
        walked-front = sym (walked ∙ ap (λ (v : ℕ). walk_from first rank v (path_of old).edges) front)

        pub land-apart : (a ≡ r → ⊥) → 256 ≡ landing_at end last first rank prefix n old new b
        land-apart k =
            rw (
              le-ltb n (b + old.length) fits,
              eq-eqb (get_or end (get_or prefix b 0) 0) old.start meets-front,
              ne_eqb (walk_from first rank (get_or prefix b 0) (path_of old).edges) (get_or prefix (b + old.length) 0) (λ e. k (sym walked-front ∙ e ∙ sym longer)),
            ) refl

        module _ (leads : a ≡ r) where
          leads-front : walk_from first rank (get_or prefix b 0) (path_of old).edges ≡ get_or prefix (b + old.length) 0
          leads-front = walked-front ∙ leads ∙ longer

          new_walks : WalkIn first rank u (path_of new).edges × WalkIn first rank (walk_from first rank u (path_of new).edges) (rest_edges last prefix (b + old.length) n)
          new_walks =
              within-append first rank u (path_of new).edges (rest_edges last prefix (b + old.length) n)
              (subst (λ (v : ℕ). WalkIn first rank v ((path_of new).edges ++ rest_edges last prefix (b + old.length) n)) (sym front) (h.new_in fits meets-front leads-front))

          pub new-walk : WalkIn first rank u (path_of new).edges
          new-walk = new_walks.0

          -- new leads to path y
          module _ {y : ℕ} (turned : y ≡ walk_from first rank u (path_of new).edges) where
            pub rest-walk : WalkIn first rank y (rest_edges last prefix (b + old.length) n)
            rest-walk = subst (λ (v : ℕ). WalkIn first rank v (rest_edges last prefix (b + old.length) n)) (sym turned) new_walks.1

            pub landed : {z : ℕ} → z ≡ walk_from first rank y (rest_edges last prefix (b + old.length) n) → z ≡ landing_at end last first rank prefix n old new b
            landed {z} q =
                rw (
                  le-ltb n (b + old.length) fits,
                  eq-eqb (get_or end (get_or prefix b 0) 0) old.start meets-front,
                  eq-eqb (walk_from first rank (get_or prefix b 0) (path_of old).edges) (get_or prefix (b + old.length) 0) leads-front,
                )
                (q ∙ ap (λ (v : ℕ). walk_from first rank v (rest_edges last prefix (b + old.length) n)) (turned ∙ ap (λ (v : ℕ). walk_from first rank v (path_of new).edges) front))
