-- The edges of a decoded graph: those that its arrays hold.
use Prim.Native.Nat.{ℕ, ◌<◌}
use mathlib.Core.Path.{◌≡◌, ap}
use mathlib.Core.List.{List}
use lib.ListN.{length, get_or}
use Rattle.theory.proofs.Numbering.{tabulate-length, tabulate-get_or}
use Rattle.meaning.specs.Schema.{Edge, edge_at, source, target}
use Rattle.schema.specs.Decoded.{edges_of, links_of}

module _ (n : ℕ) (sources targets : List ℕ) where
  abbrev edge : ℕ → Edge
  edge k = record { source = get_or sources k 0; target = get_or targets k 0 }

  pub edges-count : length (edges_of n sources targets) ≡ n
  edges-count = tabulate-length n edge

  edge-at : (e : ℕ) → e < n → edge_at (links_of n sources targets) e ≡ edge e
  edge-at e l = tabulate-get_or n edge _ e l

  pub source-at : (e : ℕ) → e < n → source (links_of n sources targets) e ≡ get_or sources e 0
  source-at e l = ap (λ (x : Edge). x.source) (edge-at e l)

  pub target_at : (e : ℕ) → e < n → target (links_of n sources targets) e ≡ get_or targets e 0
  target_at e l = ap (λ (x : Edge). x.target) (edge-at e l)
