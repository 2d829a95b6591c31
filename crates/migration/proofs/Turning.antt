-- The turnings over working arrays look at the counts of Sigma alone, which need no other table of it.
use Prim.Native.Nat.{ℕ, ◌≤◌}
use mathlib.Core.Path.{◌≡◌, sym, ap, subst, ◌∙◌}
use mathlib.Core.List.{List, []}
use lib.ListN.{get_or}
use Rattle.theory.specs.Matching.{partners}
use Rattle.theory.specs.Mapping as theory_mapping
use Rattle.theory.specs.Sigma.{share}
use Rattle.theory.specs.Transposition.{to_raw, to_pushed}
use Rattle.theory.proofs.Numbering.{tabulate-get_or}
use Rattle.meaning.specs.Lists.{sum_of}
use Rattle.meaning.specs.Formats as formats
use Rattle.meaning.specs.Views.{instance_of}
use Rattle.meaning.proofs.Tabulate.{tabulate-upto}
use Rattle.schema.specs.Decoded.{front_of}
use Rattle.instance.specs.declared.Instance.{Instance}
use Rattle.instance.specs.Decoded.{tables_of}
use Rattle.mapping.proofs.Viewing.{node_at}
use Rattle.lifts.proofs.JoinedRows.{joined_length}
use Rattle.sigma.specs.Pushed.{Counted}
use Rattle.matching.specs.Compared.{partners_of}
use Rattle.matching.specs.Turned.{mapping_between, counts_of, PushedCounts}
use Rattle.steps.specs.declared.open.Opened.{Opened}
use Rattle.migration.specs.declared.matchings.Side.TheVariants as side
use Rattle.migration.specs.Turnable.{turnable_of, pushed_of, turned_list, ReadyToTurn}
use Rattle.steps.proofs.Validity.{ready-valid}

module _ {o : Opened} {run : Instance} (R : ReadyToTurn o run) {p : Instance} (C : Counted o.source o.target o.mapping run p) where
  abbrev counts : List ℕ
  counts = front_of o.target.graph.nodes p.counts

  counts_are : counts ≡ (pushed_of (turnable_of o run [])).counts
  counts_are =
      let s = o.source in
      tabulate-upto o.target.graph.nodes (λ d l.
      C.counts.each d l ∙ sym (joined_length s o.mapping (tables_of s run [] []) run.counts (λ c l. tabulate-get_or s.graph.nodes (λ k. get_or run.counts k 0) 0 c l) d))

  rows_are : sum_of counts ≡ sum_of (front_of o.source.graph.nodes run.counts)
  rows_are = ap sum_of counts_are ∙ R.rows

  pub may-turn : PushedCounts o.source o.target o.mapping run p
  may-turn = record {
    s_sound = R.ready.schemas.source;
    t_sound = R.ready.schemas.target;
    nodes = record { each = λ c l. rw (node_at o.source o.mapping c l) at ((ready-valid R.ready).is.node_in c l) };
    run_limits = R.limits;
    pushed_limits = record { rows = subst (λ (n : ℕ). n ≤ 512) (sym rows_are) R.limits.rows; long = C.counts.long };
    counts = counts_are;
  }

  -- a list of either side has as many partners
  same-partners : (list : List ℕ) → partners_of o.target p list ≡ partners_of o.source run list
  same-partners list = ap (λ (n : ℕ). front_of n list) rows_are

  abbrev F : theory_mapping.Mapping
  F = mapping_between o.source o.target o.mapping

  abbrev bare : List ℕ → formats.Instance
  bare counts = record { counts = counts; links = []; values = [] }

  pub to-raw-told : (list out : List ℕ) → partners_of o.source run out ≡ to_raw F (counts_of o.source run) (counts_of o.target p) (partners_of o.target p list)
      → partners_of o.source run out ≡ turned_list side.Pushed (turnable_of o run list)
  unfolding share partners
  to-raw-told list out e =
      let I = instance_of (bare (front_of o.source.graph.nodes run.counts)) in
      e ∙ ap (to_raw F I (instance_of (bare counts))) (same-partners list) ∙ ap (λ (l : List ℕ). to_raw F I (instance_of (bare l)) (partners_of o.source run list)) counts_are

  pub to-pushed-told : (list out : List ℕ) → partners_of o.target p out ≡ to_pushed F (counts_of o.source run) (counts_of o.target p) (partners_of o.source run list)
      → partners_of o.source run out ≡ turned_list side.Raw (turnable_of o run list)
  unfolding share partners
  to-pushed-told list out e =
      let I = instance_of (bare (front_of o.source.graph.nodes run.counts)) in
      sym (same-partners out) ∙ e ∙ ap (λ (l : List ℕ). to_pushed F I (instance_of (bare l)) (partners_of o.source run list)) counts_are
