-- The joined lists of Sigma by arrays: where a node's rows begin, and how many there are.
use Prim.Native.Nat.{ℕ, zero, suc, ◌+◌, ◌<◌, ◌≤◌}
use mathlib.Core.Path.{◌≡◌, refl, ap, ◌∙◌}
use mathlib.Core.Bool.{Bool, true, false, cond}
use mathlib.Core.List.{List, [], ◌∷◌, ◌++◌}
use native.Mathlib.Omega.{arith}
use lib.ListN.{get_or}
use lib.Dec.{eqb}
use Rattle.meaning.specs.Lists.{cons_if}
use Rattle.meaning.specs.Formats.{Instance}
use Rattle.meaning.specs.Views.{node_image, count}
use Rattle.meaning.specs.Sigma.{fibre_below, fibre, rows_in, first_row}
use Rattle.schema.specs.declared.Schema.{Schema}
use Rattle.schema.specs.Decoded.{schema_of}
use Rattle.mapping.specs.declared.Mapping.{Mapping}
use Rattle.mapping.specs.Decoded.{mapping_of}
use Rattle.mapping.proofs.Viewing.{node_at}
use Rattle.lifts.specs.Lifts.{joined_before}

rows_append : (I : Instance) (l k : List ℕ) → rows_in I (l ++ k) ≡ rows_in I l + rows_in I k
rows_append I [] k = omega arith
rows_append I (x ∷ l) k = let e = rows_append I l k in omega arith

-- counts has the rows of each table of I
module _ (s : Schema) (f : Mapping) (I : Instance) (counts : List ℕ) (same : (c : ℕ) → c < s.graph.nodes → count I c ≡ get_or counts c 0) where
  rows-below : (d n : ℕ) → n ≤ s.graph.nodes → rows_in I (fibre_below (mapping_of s f) n d) ≡ joined_before f.node counts d n
  rows-below d zero h = refl
  rows-below d (suc n) h =
      rows_append I (fibre_below (mapping_of s f) n d) (cons_if (eqb (node_image (mapping_of s f) n) d) n [])
      ∙ ap (λ (x : ℕ). x + rows_in I (cons_if (eqb (node_image (mapping_of s f) n) d) n [])) (rows-below d n (omega arith))
      ∙ ap (λ (x : ℕ). joined_before f.node counts d n + rows_in I (cons_if (eqb x d) n [])) (node_at s f n h)
      ∙ ap (λ (x : ℕ). joined_before f.node counts d n + x) (one (eqb (get_or f.node n 0) d))
    where
      one : (b : Bool) → rows_in I (cons_if b n []) ≡ cond b (get_or counts n 0) 0
      one true = omega (arith, same n h)
      one false = refl

  -- the place of c's first row in the joined list at F(c)
  pub first-row : (c : ℕ) → c < s.graph.nodes → first_row (mapping_of s f) I c ≡ joined_before f.node counts (get_or f.node c 0) c
  first-row c h = rows-below (node_image (mapping_of s f) c) c (omega arith) ∙ ap (λ (d : ℕ). joined_before f.node counts d c) (node_at s f c h)

  -- the length of the joined list at d
  pub joined_length : (d : ℕ) → rows_in I (fibre (schema_of s) (mapping_of s f) d) ≡ joined_before f.node counts d s.graph.nodes
  joined_length d = rows-below d s.graph.nodes (omega arith)
