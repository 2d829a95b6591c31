-- Where the rows of each table of the run stand in the joined lists, table by table.
use Prim.Native.Nat.{ℕ, ◌+◌, ◌<◌}
use mathlib.Core.Path.{◌≡◌, sym, ap, ◌∙◌}
use mathlib.Core.List.{List}
use mathlib.Core.Logic.{if_pos, if_neg}
use native.Mathlib.Omega.{arith}
use native.Mathlib.Numerals.{add-one}
use native.Mathlib.Decide.{ℕ_discrete}
use borrow.Author.Count.{below_none}
use lib.ListN.{length, get_or, set, length-set}
use lib.Seq.{get_or-set_same, get_or-set_other}
use Rattle.theory.specs.Numbering.{sum}
use Rattle.meaning.proofs.Tabulate.{filled}
use Rattle.instance.specs.declared.tables.Table.{Table}
use Rattle.instance.specs.Tables.{no_table}
use Rattle.matching.specs.Compared.{first_in, count_in}
use Rattle.matching.specs.Turned.{share_in, place_in, Placed}

-- the first c tables have their places, and `next` says where the next rows of each joined list go
pub record Placing (node : List ℕ) (own joined next places : List Table) (c : ℕ) : Type 0 where
  pub next_is : (d : ℕ) → d < 16 → first_in next d ≡ first_in joined d + sum (share_in node own d) c
  pub placed : Placed c node own joined places
  pub next_long : length next ≡ 16
  pub places_long : length places ≡ 16

sum_more : (w : ℕ → ℕ) (c : ℕ) → sum w (c + 1) ≡ sum w c + w c
unfolding sum
sum_more w c = ap (sum w) (add-one c)

pub placing-start : (node : List ℕ) (own joined : List Table) → length own ≡ 16 → length joined ≡ 16 → Placing node own joined joined own 0
unfolding sum
placing-start node own joined e f = record { next_is = λ d h. omega arith; placed = record { each = below_none _ }; next_long = f; places_long = e }

module _ {node : List ℕ} {own joined next places : List Table} {c : ℕ} (u : Placing node own joined next places c) (low : get_or node c 0 < 16) where
  abbrev d₀ : ℕ
  d₀ = get_or node c 0

  -- the place of table c is the next one of its joined list
  place-next : first_in next d₀ ≡ place_in node own joined c
  place-next = u.next_is d₀ low

  abbrev after : Table
  after = record { first = first_in next d₀ + count_in own c; count = count_in next d₀ }

  next_more : (d : ℕ) → d < 16 → first_in (set next d₀ after) d ≡ first_in joined d + sum (share_in node own d) (c + 1)
  next_more d h = elim (ℕ_discrete d₀ d) [
    | yes e ↦
        let a : first_in (set next d₀ after) d ≡ first_in next d₀ + count_in own c = rw (← e) (ap (λ (x : Table). x.first) (get_or-set_same next d₀ after no_table (omega (arith, u.next_long)))) in
        let b : share_in node own d c ≡ count_in own c = if_pos (ℕ_discrete d₀ d) e (count_in own c) 0 in
        let k : first_in next d₀ ≡ first_in joined d + sum (share_in node own d) c = rw (← e) (u.next_is d₀ low) in
        omega (arith, sum_more (share_in node own d) c)
    | no e ↦
        let a : first_in (set next d₀ after) d ≡ first_in next d = ap (λ (x : Table). x.first) (get_or-set_other next d₀ d after no_table (λ q. e (sym q))) in
        let b : share_in node own d c ≡ 0 = if_neg (ℕ_discrete d₀ d) e (count_in own c) 0 in
        omega (arith, sum_more (share_in node own d) c, u.next_is d h)
  ]

  pub placing-more : c < 16 → Placing node own joined (set next d₀ after) (set places c (record { first = first_in next d₀; count = count_in own c })) (c + 1)
  placing-more l =
      let here : Table = record { first = first_in next d₀; count = count_in own c } in
      record {
        next_is = next_more;
        placed = record {
          each = filled {A = Table} (λ k x. x ≡ record { first = place_in node own joined k; count = count_in own k }) no_table places c (omega (arith, u.places_long))
              (ap (λ (x : ℕ). record { first = x; count = count_in own c }) place-next) u.placed.each;
        };
        next_long = length-set next d₀ after ∙ u.next_long;
        places_long = length-set places c here ∙ u.places_long;
      }
