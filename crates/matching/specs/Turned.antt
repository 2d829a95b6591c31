-- The two turnings over working arrays: the rows of each table of the run are copied between their places in the run's list and in the joined lists of Sigma.
use Rattle.std.specs.Prelude.{ℕ, ◌+◌, ◌≤◌, ◌<◌, ◌≡◌, List, [], length, get_or}
use Rattle.std.proofs.Math.Logic.{ite}
use Rattle.std.proofs.Math.Decide.{ℕ_discrete}
use Rattle.theory.specs.Numbering.{sum}
use Rattle.theory.specs.Instance as theory_instance
use Rattle.theory.specs.Mapping as theory_mapping
use Rattle.theory.specs.Sigma.{share}
use Rattle.meaning.specs.Views as views
use Rattle.meaning.specs.Sigma.{sigma}
use Rattle.schema.specs.declared.Schema.{Schema}
use Rattle.schema.specs.Decoded.{schema_of, category_of}
use Rattle.schema.specs.Judged.{Sound}
use Rattle.instance.specs.declared.Instance.{Instance}
use Rattle.instance.specs.declared.tables.Table.{Table}
use Rattle.instance.specs.Decoded.{tables_of, Limits}
use Rattle.instance.specs.Tables.{no_table}
use Rattle.mapping.specs.declared.Mapping.{Mapping}
use Rattle.mapping.specs.Decoded.{mapping_of}
use Rattle.mapping.specs.Judged.{NodesIn}
use Rattle.matching.specs.Compared.{first_in, count_in}

-- ---- what a turning relies on

-- of a mapping and an instance, as the theory has them, a turning looks at the images of nodes and at the counts alone
abbrev pub mapping_between : Schema → Schema → Mapping → theory_mapping.Mapping
mapping_between s t f = views.mapping_of (schema_of s) (schema_of t) (mapping_of s f)

abbrev pub counts_of : Schema → Instance → theory_instance.Instance ℕ
counts_of t i = views.instance_of (tables_of t i [] [])

-- `pushed` has the counts of Sigma of the run
pub record PushedCounts (s t : Schema) (f : Mapping) (run pushed : Instance) : Type 0 where
  pub s_sound : Sound s
  pub t_sound : Sound t
  pub nodes : NodesIn s t f
  pub run_limits : Limits s run
  pub pushed_limits : Limits t pushed
  pub counts : (tables_of t pushed [] []).counts ≡ (sigma (category_of s) (category_of t) (mapping_of s f) (tables_of s run [] [])).counts

-- ---- places in the joined lists

-- the rows that table k of the run gives to the joined list at d
abbrev pub share_in : List ℕ → List Table → ℕ → ℕ → ℕ
share_in node own d k = ite (ℕ_discrete (get_or node k 0) d) (count_in own k) 0

-- where the rows of table c stand among all pushed rows
abbrev pub place_in : List ℕ → List Table → List Table → ℕ → ℕ
place_in node own joined c = first_in joined (get_or node c 0) + sum (share_in node own (get_or node c 0)) c

pub record Placeable (n : ℕ) (node : List ℕ) (own joined : List Table) : Type 0 where
  pub few : n ≤ 16
  pub long : n ≤ length node
  pub tables : (c : ℕ) → c < n → get_or node c 0 < 16
  pub within : (c : ℕ) → c < n → place_in node own joined c + count_in own c ≤ 512

pub record Placed (n : ℕ) (node : List ℕ) (own joined places : List Table) : Type 0 where
  pub each : (c : ℕ) → c < n → get_or places c no_table ≡ record { first = place_in node own joined c; count = count_in own c }

-- where the rows of each table stand: in the run's list, and among all pushed rows
pub record Placement (s t : Schema) (f : Mapping) (run pushed : Instance) (own joined : List Table) : Type 0 where
  pub own_first : (c : ℕ) → c < s.graph.nodes → first_in own c ≡ sum (counts_of s run).count c
  pub own_count : (c : ℕ) → c < s.graph.nodes → count_in own c ≡ (counts_of s run).count c
  pub joined_first : (c : ℕ) → c < s.graph.nodes →
      first_in joined c ≡ sum (counts_of t pushed).count ((mapping_between s t f).node c) + sum (share (mapping_between s t f) (counts_of s run) ((mapping_between s t f).node c)) c
  pub joined_count : (c : ℕ) → c < s.graph.nodes → count_in joined c ≡ (counts_of s run).count c

-- ---- rows copied

-- the rows of n tables, with the counts of `from`, have places in both lists, and no two the same in the second
pub record Moveable (n : ℕ) (from to : List Table) (list out : List ℕ) : Type 0 where
  pub few : n ≤ 16
  pub here : (c : ℕ) → c < n → first_in from c + count_in from c ≤ length list
  pub there : (c : ℕ) → c < n → first_in to c + count_in from c ≤ length out
  pub apart : (k c : ℕ) → k < c → c < n → (x y : ℕ) → x < count_in from k → y < count_in from c → first_in to k + x ≡ first_in to c + y → ⊥

pub record Moved (n : ℕ) (from to : List Table) (list out : List ℕ) : Type 0 where
  pub each : (c : ℕ) → c < n → (x : ℕ) → x < count_in from c → get_or out (first_in to c + x) 0 ≡ get_or list (first_in from c + x) 0
