-- `matching::is_matching` meets its contract.
use mathlib.Core.Path.{◌≡◌, sym, ◌∙◌}
use mathlib.Core.Bool.{true}
use native.Mathlib.Omega.{arith}
use borrow.Author.Rules.{rules}
use Rattle.std.proofs.lemmas.Bool.{false≢true}
use Rattle.matching.proofs.Comparing.{Exist, LinksKept, tables-listed, links-paired, values-paired, partners-fail, links-fail, by_values}
use Rattle.matching.proofs.is_matching.Goals.{Then-links_kept, then-partners_exist, else-partners_exist}
use Rattle.matching.proofs.is_matching.Goals as goal

exist : (c : Then-links_kept) → Exist c.requires c.table_list-tables.result c.table_list-tables.ensures ≡ true
exist c = elim c.if-partners_exist.branch [
  | then-partners_exist w ↦ sym c.partners_exist.ensures ∙ w.if-partners_exist.true
  | else-partners_exist w ↦ absurd (false≢true (sym (w.value-is ∙ w.if-partners_exist.false) ∙ c.if-links_kept.true))
]

links-pass : (c : Then-links_kept) → LinksKept c.requires c.table_list-tables.result c.table_list-tables.ensures (exist c) ≡ true
links-pass c = elim c.if-partners_exist.branch [
  | then-partners_exist w ↦ sym w.links_kept.ensures ∙ sym w.value-is ∙ c.if-links_kept.true
  | else-partners_exist w ↦ absurd (false≢true (sym (w.value-is ∙ w.if-partners_exist.false) ∙ c.if-links_kept.true))
]

pub partners_exist-requires : goal.partners_exist-requires
partners_exist-requires c = let p = c.requires in (tables-listed p c.table_list-tables.result c.table_list-tables.ensures, omega (arith, p.limits'.long, p.sound.limits.nodes))

pub links_kept-requires : goal.links_kept-requires
links_kept-requires c = links-paired c.requires c.table_list-tables.result c.table_list-tables.ensures (sym c.partners_exist.ensures ∙ c.if-partners_exist.true) (search rules) (search rules)

pub values_kept-requires : goal.values_kept-requires
values_kept-requires c = values-paired c.requires c.table_list-tables.result c.table_list-tables.ensures (exist (goal.at.values_kept-requires c).Then-links_kept) (search rules)

pub returns-then-links_kept : goal.returns-then-links_kept
returns-then-links_kept c =
    let t = (goal.at.returns-then-links_kept c).Then-links_kept in
    c.values_kept.ensures ∙ sym (by_values c.requires c.table_list-tables.result c.table_list-tables.ensures (exist t) (links-pass t))

pub returns-else-links_kept : goal.returns-else-links_kept
returns-else-links_kept c =
    let p = c.requires in
    let l = c.table_list-tables.ensures in
    elim c.if-partners_exist.branch [
      | then-partners_exist w ↦
          c.if-links_kept.false
          ∙ sym (links-fail p c.table_list-tables.result l (sym c.partners_exist.ensures ∙ w.if-partners_exist.true) (sym w.links_kept.ensures ∙ sym w.value-is ∙ c.if-links_kept.false))
      | else-partners_exist w ↦ w.value-is ∙ w.if-partners_exist.false ∙ sym (partners-fail p c.table_list-tables.result l (sym c.partners_exist.ensures ∙ w.if-partners_exist.false))
    ]
