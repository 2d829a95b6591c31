-- Laws of what is decoded: columns side by side, the limits that the counts are held to, and equations read one by one.
use Prim.Native.Nat.{ℕ, ◌+◌, ◌*◌, ◌<◌, ◌≤◌}
use mathlib.Core.Path.{◌≡◌, refl, sym, ap, ◌∙◌}
use mathlib.Core.Bool.{true, false, ◌&&◌}
use mathlib.Core.List.{List}
use native.Mathlib.Omega.{arith}
use borrow.Author.Count.{below_none}
use borrow.Author.Tests.{leb-true}
use lib.ListN.{length, get_or, set, replicate, length-set, length-replicate}
use lib.Dec.{leb}
use lib.Seq.{get_or-set_same, get_or-set_other}
use Rattle.bits.specs.Field as bits
use Rattle.bits.specs.Field.{tail_ok}
use Rattle.theory.specs.Numbering.{tabulate}
use Rattle.meaning.specs.Sheet.{fails, faulty, sound, judged}
use Rattle.meaning.specs.Schema as meaning
use Rattle.meaning.specs.Formats.{Counts, counts_in_limits, read_equation}
use Rattle.meaning.proofs.Formats.{read_body-fails, read_body-tail, read_body-read}
use Rattle.meaning.proofs.Reading.{Under, under-start, under-step, under-cut, under-done}
use Rattle.meaning.proofs.Tabulate.{tabulate-same, tabulate-store, filled, and_both}
use Rattle.schema.specs.declared.Path.{Path}
use Rattle.schema.specs.declared.Schema.{Schema}
use Rattle.schema.specs.declared.decode.EquationRead.{EquationRead}
use Rattle.schema.specs.Decoded.{Column, EquationTaken, Short, TablesTaken, InLimits, Limits, no_path, equation_of, equations_of, schema_of, on_body}

pub no_bool : false ≡ true → ⊥
no_bool q = let z : ◌≡◌ {A = ℕ} 0 1 = cc in omega arith

pub column-start : (s : List ℕ) (at step width size : ℕ) → Column s at step width size 0 (replicate size 0)
column-start s at step width size = record { each = below_none _; long = length-replicate {A = ℕ} size 0 }

pub column-more : {s : List ℕ} {at step width size n x : ℕ} {l : List ℕ} → Column s at step width size n l → n < size → x ≡ bits.field s (at + step * n) width → Column s at step width size (n + 1) (set l n x)
column-more {s} {at} {step} {width} {n} {x} {l} c h e = record {
  each = filled (λ k y. y ≡ bits.field s (at + step * k) width) 0 l n (let g = c.long in omega arith) e c.each;
  long = length-set l n x ∙ c.long;
}

-- two columns side by side are a list of pairs
module _ {A : Type 0} (f : ℕ → ℕ → A) {s : List ℕ} {p q size n : ℕ} {a b : List ℕ} where
  pub pairs : q ≡ p + 4 → Column s p 8 4 size n a → Column s q 8 4 size n b →
      tabulate n (λ i. f (get_or a i 0) (get_or b i 0)) ≡ tabulate n (λ i. f (bits.field s (p + 8 * i) 4) (bits.field s (p + 8 * i + 4) 4))
  pairs e x y = tabulate-same n (λ i l. ap (λ (u : ℕ). f u (get_or b i 0)) (x.each i l) ∙ ap (f (bits.field s (p + 8 * i) 4)) (y.each i l ∙ ap (λ (u : ℕ). bits.field s u 4) (omega arith)))

pub limits : (c : Counts) → counts_in_limits c ≡ true → InLimits c
limits c h =
    let w4 = leb c.equations 32 in
    let w3 = leb c.attributes 16 in
    let w2 = leb c.edges 32 in
    let w1 = leb c.nodes 16 in
    let w0 = leb 1 c.nodes in
    let x = and_both (w0 && w1 && w2 && w3) w4 h in
    let y = and_both (w0 && w1 && w2) w3 x.0 in
    let z = and_both (w0 && w1) w2 y.0 in
    let w = and_both w0 w1 z.0 in
    record { nodes = leb-true _ _ w.1; edges = leb-true _ _ z.1; attributes = leb-true _ _ y.1; equations = leb-true _ _ x.1 }

-- ---- i equations are read into t, and p is where the next one stands
pub record Kept (c : Counts) (s : List ℕ) (t : Schema) (i p : ℕ) : Type 0 where
  pub room : 22 + 8 * c.edges + 8 * c.attributes ≤ 8 * length s
  pub tables : TablesTaken c s t
  pub some : i ≤ c.equations
  pub inside : p ≤ 8 * length s
  pub near : p ≤ 22 + 8 * c.edges + 8 * c.attributes + 166 * i
  pub read_so_far : Under read_equation c.equations s (22 + 8 * c.edges + 8 * c.attributes) (equations_of i t.left t.right) i p
  pub short : Short i t.left × Short i t.right

pub kept-start : {c : Counts} {s : List ℕ} {t : Schema} → TablesTaken c s t → 22 + 8 * c.edges + 8 * c.attributes ≤ 8 * length s → Kept c s t 0 (22 + 8 * c.edges + 8 * c.attributes)
kept-start {c} {s} {t} k h = record {
  room = h;
  tables = k;
  some = omega arith;
  inside = h;
  near = omega arith;
  read_so_far = under-start read_equation c.equations s (22 + 8 * c.edges + 8 * c.attributes);
  short = (record { each = below_none _ }, record { each = below_none _ });
}

module _ {c : Counts} {s : List ℕ} {t : Schema} {i p : ℕ} (k : Kept c s t i p) where
  module _ {r : EquationRead} (l : i < c.equations) (e : EquationTaken s p r) where
    pub kept_more : c.equations ≤ 32 →
        Kept c s (record { graph = t.graph; attributes = t.attributes; node = t.node; kind = t.kind; equations = t.equations; left = set t.left i r.left; right = set t.right i r.right }) (i + 1) r.next
    kept_more few = record {
      room = k.room;
      tables = record {
        graph = k.tables.graph;
        attributes = k.tables.attributes;
        node = k.tables.node;
        kind = k.tables.kind;
        equations = k.tables.equations;
        long = (length-set t.left i r.left ∙ k.tables.long.0, length-set t.right i r.right ∙ k.tables.long.1);
      };
      some = omega arith;
      inside = e.inside;
      near = omega (arith, e.near, k.near);
      read_so_far = rw (tabulate-store i
          (λ j h. ap (λ (w : Path). equation_of w (get_or (set t.right i r.right) j no_path)) (get_or-set_other t.left i j _ _ (λ q. let z : j ≡ i = q in omega arith))
          ∙ ap (equation_of (get_or t.left j no_path)) (get_or-set_other t.right i j _ _ (λ q. let z : j ≡ i = q in omega arith)))
          (ap (λ (w : Path). equation_of w (get_or (set t.right i r.right) i no_path)) (get_or-set_same t.left i _ _ left-long) ∙ ap (equation_of r.left) (get_or-set_same t.right i _ _ right-long)))
          (under-step k.read_so_far l e.says);
      short = (record { each = filled (λ _ w. w.length ≤ 15) no_path t.left i left-long e.short.0 k.short.0.each }, record { each = filled (λ _ w. w.length ≤ 15) no_path t.right i right-long e.short.1 k.short.1.each });
    }
      where
        left-long : i < length t.left
        left-long = omega (arith, k.tables.long.0)

        right-long : i < length t.right
        right-long = omega (arith, k.tables.long.1)

  pub kept-cut : i < c.equations → read_equation s p ≡ fails 1 → faulty 1 ≡ on_body c s
  kept-cut l e = sym (ap judged (read_body-fails s 22 c k.room (under-cut k.read_so_far l e)))

  module _ (l : c.equations ≤ i) where
    pub kept-tail : tail_ok s p ≡ false → faulty 2 ≡ on_body c s
    kept-tail h = sym (ap judged (read_body-tail s 22 c k.room (under-done k.read_so_far l) h))

    all_read : i ≡ t.equations
    all_read = omega (arith, k.some, k.tables.equations)

    pub kept-read : tail_ok s p ≡ true → sound (schema_of t) ≡ on_body c s
    kept-read h =
        let g = k.tables.graph in
        rw (g.nodes, g.says, k.tables.attributes, ← all_read, pairs {A = meaning.Attribute} (λ x y. record { node = x; kind = y }) refl k.tables.node k.tables.kind)
        (sym (ap judged (read_body-read s 22 c k.room (under-done k.read_so_far l) h)))

    pub kept-limits : InLimits c → Limits t
    kept-limits f =
        let g = k.tables.graph in
        record {
          nodes = omega (arith, g.nodes, f.nodes);
          edges = omega (arith, g.edges, f.edges);
          attributes = omega (arith, k.tables.attributes, f.attributes);
          equations = omega (arith, k.tables.equations, f.equations);
          left = rw all_read at k.short.0;
          right = rw all_read at k.short.1;
        }
