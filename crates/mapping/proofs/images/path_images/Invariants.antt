-- `mapping::images::path_images` meets its contract. The invariant: the first k numbers are those of the images.
use Prim.Native.Nat.{ℕ}
use Rattle.paths.specs.Table.{Filled}
use Rattle.mapping.proofs.ImageTable.{Numbered}
use Rattle.mapping.proofs.images.path_images.Given as goal

abbrev pub invariant-loop-k : goal.invariant-loop-k
invariant-loop-k l = (number : ℕ → ℕ) → Numbered l.s.graph.nodes l.count l.parents l.lasts l.first l.rank l.node l.edge number → Filled 256 number l.k l.path
