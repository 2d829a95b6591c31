-- Whether a number stands in a column, and whether a row is still held.
use Prim.Native.Nat.{ℕ, zero, suc, ◌+◌, ◌-◌, ◌*◌, ◌<◌, ◌≤◌}
use mathlib.Core.Path.{◌≡◌, refl, sym, ap, ap₂, ◌∙◌}
use mathlib.Core.Bool.{Bool, ◌&&◌, ◌||◌}
use mathlib.Core.List.{List, [], ◌∷◌}
use native.Mathlib.Omega.{arith}
use lib.Dec.{eqb}
use lib.ListN.{length, get_or, take, drop}
use Rattle.std.specs.List.{list_any, range_with_len}
use Rattle.instance.proofs.Chains.{part-column, range-tabulate}
use Rattle.theory.specs.Numbering.{tabulate}
use Rattle.theory.proofs.Numbering.{tabulate-get_or}
use Rattle.meaning.specs.Lists.{upto, any}
use Rattle.meaning.specs.Schema.{target}
use Rattle.meaning.specs.Rows.{is_held}
use Rattle.meaning.proofs.Tabulate.{upto-tabulate, tabulate-same}
use Rattle.schema.specs.declared.Schema.{Schema}
use Rattle.schema.specs.Decoded.{schema_of}
use Rattle.schema.proofs.GraphEdges.{edges-count, target_at}
use Rattle.instance.specs.declared.Instance.{Instance}
use Rattle.instance.specs.Decoded.{rows_of, column_of, tables_of}

-- a test of each of n things goes by what it says of each
any_same : {A B : Type 0} (f : A → Bool) (g : B → Bool) (n : ℕ) (x : ℕ → A) (y : ℕ → B) → ((i : ℕ) → i < n → f (x i) ≡ g (y i)) → any f (tabulate n x) ≡ any g (tabulate n y)
any_same f g zero x y h = refl
any_same f g (suc n) x y h =
    ap₂ (λ (a b : Bool). a || b) (h 0 (omega arith)) (any_same f g n (λ i. x (suc i)) (λ i. y (suc i)) (λ i l. h (suc i) (omega arith)))

-- a test of a part of a list
any-list : {A : Type 0} (g : A → Bool) (xs : List A) → list_any g xs ≡ any g xs
any-list g [] = refl
any-list g (x ∷ xs) = ap (λ (b : Bool). g x || b) (any-list g xs)

pub any-part : (g : ℕ → Bool) (l : List ℕ) (base n : ℕ) → base + n ≤ length l → list_any g (take (base + n - base) (drop base l)) ≡ any g (column_of l base n)
any-part g l base n h = any-list g _ ∙ ap (any g) (part-column l base n h)

pub any-below : (g : ℕ → Bool) (n : ℕ) → list_any g (range_with_len 0 n) ≡ any g (upto n)
any-below g n = any-list g _ ∙ ap (any g) (range-tabulate 0 n ∙ tabulate-same n (λ i m. let e : 0 + i ≡ i = omega arith in e) ∙ sym (upto-tabulate n))

-- a link along edge e leads to row x of table c
abbrev pub held_test : List ℕ → List ℕ → List ℕ → List ℕ → ℕ → ℕ → ℕ → Bool
held_test source target counts links c x e = eqb (get_or target e 0) c && any (eqb x) (column_of links (512 * e) (rows_of source counts e))

pub held_test_lem : (t : Schema) (i : Instance) (links values : List ℕ) (c x : ℕ)
    → is_held (schema_of t) (tables_of t i links values) c x ≡ any (held_test t.graph.source t.graph.target i.counts links c x) (upto t.graph.edges)
held_test_lem t i links values c x =
    rw (edges-count t.graph.edges t.graph.source t.graph.target, upto-tabulate t.graph.edges)
    (any_same _ _ t.graph.edges (λ e. e) (λ e. e) (λ e l.
    ap₂ (λ (d : ℕ) (k : List ℕ). eqb d c && any (eqb x) k)
    (target_at t.graph.edges t.graph.source t.graph.target e l)
    (tabulate-get_or t.graph.edges (λ k. column_of links (512 * k) (rows_of t.graph.source i.counts k)) [] e l)))
