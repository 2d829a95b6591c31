-- The size of both migrated tables, and the matching sheet of either side.
use Prim.Native.Nat.{ℕ, ◌≤◌}
use mathlib.Core.Path.{◌≡◌, refl, sym, ap, subst, ◌∙◌}
use mathlib.Core.Bool.{Bool, true, false}
use mathlib.Core.List.{List}
use lib.Dec.{leb}
use lib.ListN.{length}
use borrow.Author.Tests.{le-leb}
use Rattle.meaning.specs.Lists.{sum_of}
use Rattle.meaning.specs.Formats as formats
use Rattle.meaning.specs.Formats.{max_rows}
use Rattle.meaning.specs.Judge.{links_in_range}
use Rattle.meaning.specs.Sigma.{sigma}
use Rattle.meaning.specs.Calls as meaning
use Rattle.meaning.specs.Calls.{Outcome, accepted, ◌>>=◌, ensure}
use Rattle.meaning.specs.Category.{listed_category}
use Rattle.schema.specs.Decoded.{front_of}
use Rattle.instance.specs.declared.Instance.{Instance}
use Rattle.instance.specs.Decoded.{RoomFor}
use Rattle.delta.specs.Pulled.{delta_of}
use Rattle.sigma.specs.Pushed.{Pushed}
use Rattle.matching.specs.Compared.{partners_of, Comparable}
use Rattle.steps.specs.declared.open.Opened.{Opened}
use Rattle.migration.specs.declared.sides.Sides.{Sides}
use Rattle.migration.specs.Sides.{Inputs, sized, sides_of, inputs_of, Migratable}
use Rattle.migration.proofs.Validity.{pushed-valid, pushed-rows, pushed-links-in}

module _ {o : Opened} {x : Sides} {links values links' values' : List ℕ} (M : Migratable o x links values links' values') where
  abbrev y : Inputs
  y = inputs_of o x links values links' values'

  abbrev pulled : formats.Instance
  pulled = delta_of o.source o.target o.mapping x.book links' values'

  -- 15 never arises for Sigma
  fit : leb (sum_of (sigma (listed_category y.m.S) (listed_category y.m.T) y.m.F y.run).counts) max_rows ≡ true
  fit = le-leb (sum_of (sigma (listed_category y.m.S) (listed_category y.m.T) y.m.F y.run).counts) max_rows (pushed-valid M).few_rows

  both-fit : leb (sum_of pulled.counts) max_rows ≡ true → sized y ≡ accepted (sides_of y)
  both-fit e = rw (fit, e)

  one-overfull : leb (sum_of pulled.counts) max_rows ≡ false → sized y ≡ meaning.refused 15 0
  one-overfull e = rw (fit, e)

  -- 15 of Delta's counts alone, which d has, and then a judge
  pub size-told : (d : Instance) → front_of o.source.graph.nodes d.counts ≡ pulled.counts → (k : meaning.Sides → Outcome (List ℕ))
      → (ensure (leb (sum_of (front_of o.source.graph.nodes d.counts)) max_rows) 15 >>= λ _. k (sides_of y)) ≡ (sized y >>= k)
  size-told d C k = rw C (go (leb (sum_of pulled.counts) max_rows) refl)
    where
      go : (b : Bool) → leb (sum_of pulled.counts) max_rows ≡ b → (ensure b 15 >>= λ _. k (sides_of y)) ≡ (sized y >>= k)
      go true e = ap (λ (o : Outcome meaning.Sides). o >>= k) (sym (both-fit e))
      go false e = ap (λ (o : Outcome meaning.Sides). o >>= k) (sym (one-overfull e))

  -- ---- the pushed side: p stands in working arrays with all its tables
  module _ {p : Instance} {followed copied : List ℕ} (P : Pushed o.source o.target o.mapping x.run links values p followed copied) where
    pub pushed-comparable : {list : List ℕ} → RoomFor o.target followed copied → RoomFor o.target links' values' → 512 ≤ length list → Comparable o.target p followed copied x.book links' values' list
    pushed-comparable r r' l = record {
      sound = M.ready.schemas.target;
      limits = record { rows = subst (λ (J : formats.Instance). sum_of J.counts ≤ 512) (sym P.says) (pushed-valid M).few_rows; long = P.long };
      limits' = M.book.limits;
      room = r;
      room' = r';
      links_in = subst (λ (J : formats.Instance). links_in_range y.m.T J ≡ true) (sym P.says) (pushed-links-in M);
      long = l;
    }

    -- the list has as many partners as the run has rows
    pub same-partners : (list : List ℕ) → partners_of o.source x.run list ≡ partners_of o.target p list
    same-partners list = ap (λ (n : ℕ). front_of n list) (sym (ap (λ (J : formats.Instance). sum_of J.counts) P.says ∙ pushed-rows M))
