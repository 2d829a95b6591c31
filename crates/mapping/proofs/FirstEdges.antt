-- The number that a table of paths has for the class of a path is that of its first path, whose edges the table gives.
use Prim.Native.Nat.{ℕ, ◌≤◌, ◌<◌}
use mathlib.Core.Path.{◌≡◌, ap, ◌∙◌}
use mathlib.Core.List.{List}
use native.Mathlib.Omega.{arith}
use lib.ListN.{length, get_or}
use Rattle.theory.specs.Schema.{IsPath}
use Rattle.meaning.specs.Schema as meaning
use Rattle.meaning.specs.PathEquality.{first_path}
use Rattle.meaning.specs.Views as views
use Rattle.agreement.specs.Paths.{path_count, path_at, class_number}
use Rattle.agreement.proofs.Paths.{path-iff, path-short, all_paths-each, number-path}
use Rattle.agreement.proofs.FirstPaths.{first-equal, first-path}
use Rattle.agreement.proofs.Classes.{class-below}
use Rattle.schema.specs.declared.Path.{Path}
use Rattle.schema.specs.declared.Schema.{Schema}
use Rattle.schema.specs.Decoded.{graph_of, path_of, schema_of}
use Rattle.schema.specs.Judged.{Sound, SoundPath}
use Rattle.paths.specs.declared.Paths.{Paths}
use Rattle.paths.specs.Classes.{IsPaths}
use Rattle.paths.specs.PathWalks.{walk_from}
use Rattle.paths.proofs.TablePaths.{formed}
use Rattle.paths.proofs.EquationPairs.{path-class}
use Rattle.mapping.specs.PathEdges.{path_edges}
use Rattle.mapping.proofs.PathEdges.{edges_are}

module _ (t : Schema) (p : Paths) (sound : Sound t) (paths : IsPaths (schema_of t) p) {w : Path} (judged : SoundPath t.graph w)
    {x c : ℕ} (walked : x ≡ walk_from p.first p.rank w.start (path_of w).edges) (class : c ≡ get_or p.class x 0) where
  abbrev S : meaning.Schema
  S = schema_of t

  abbrev G : meaning.Graph
  G = graph_of t.graph

  is-path : IsPath (views.schema_of S) w.start (path_of w).edges
  is-path = (path-iff S sound.well-formed w.start (path_of w).edges).0 judged.path

  first-is-path : IsPath (views.schema_of S) (first_path S (path_of w)).start (first_path S (path_of w)).edges
  first-is-path = first-path S (formed sound) (path_of w) is-path

  number : c ≡ class_number S (path_of w)
  number = class ∙ path-class t p sound paths.table paths.class judged walked

  pub first_below : c < path_count G
  first_below = let h = class-below S (formed sound) (path_of w) is-path in let e = number in omega arith

  first-at : path_at G c ≡ first_path S (path_of w)
  first-at = ap (path_at G) number ∙ number-path G ((all_paths-each S (formed sound) (first_path S (path_of w))).1 first-is-path)

  pub first_short : get_or p.length c 0 ≤ 15
  first_short =
      let l = path-short S (formed sound) (first_path S (path_of w)).start (first_path S (path_of w)).edges first-is-path in
      let b = first_below in
      let e = paths.table.columns.length.each c (omega (arith, paths.table.counted)) ∙ ap (λ (q : meaning.Path). length q.edges) first-at in
      omega (arith, sound.limits.nodes)

  -- with the path's start they are the first path
  pub first-told : {l : List ℕ} → l ≡ path_edges p c → meaning.path w.start l ≡ first_path S (path_of w)
  first-told e =
      let s = (first-equal S (formed sound) (path_of w) is-path).starts in
      let l = e ∙ edges_are G sound.acyclic paths.table c first_below ∙ ap (λ (q : meaning.Path). q.edges) first-at in
      λ i. meaning.path (s i) (l i)
