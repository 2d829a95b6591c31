-- How long the printed text can be: a row's line has at most 311 bytes.
use Prim.Native.Nat.{ℕ, zero, suc, ◌+◌, ◌*◌, ◌≤◌, ◌<◌}
use mathlib.Core.Path.{◌≡◌, refl, ap, ◌∙◌}
use mathlib.Core.Bool.{Bool, true, false}
use mathlib.Core.List.{List, [], ◌∷◌, ◌++◌}
use native.Mathlib.Omega.{arith}
use native.Mathlib.Nat.{mul-suc, mul-add, le_trans, le_of_eq}
use lib.ListN.{length, get_or, drop, length-append}
use lib.Dec.{eqb}
use Rattle.meaning.specs.Lists.{range, concat_map, sum_of}
use Rattle.meaning.specs.Schema.{Schema, source, attribute_at}
use Rattle.meaning.specs.Formats.{Instance, max_nodes, max_edges, max_attributes, max_rows}
use Rattle.meaning.specs.Views.{count, rows, link, value}
use Rattle.meaning.specs.Program.{codes, space, newline, row_line, row_lines, printed}
use Rattle.meaning.proofs.Lists.{get_or-sum}
use Rattle.text.specs.Appended.{digits, part, line_of, header_text, refusal_text}
use Rattle.text.specs.Rows.{part_if}
use Rattle.text.specs.Written.{max_text_bytes}
use Rattle.text.proofs.Digits.{digits-length, digits-few}
use Rattle.text.proofs.Printing.{link_piece, value_piece, link_pieces, value_pieces, row-pieces, header-line}

-- ---- pieces

-- n pieces of at most w bytes
pieces-length : (f : ℕ → List ℕ) (w k n : ℕ) → ((i : ℕ) → i < k + n → length (f i) ≤ w) → length (concat_map f (range k n)) ≤ w * n
pieces-length f w k zero h = omega arith
pieces-length f w k (suc n) h =
    let e = length-append (f k) (concat_map f (range (suc k) n)) in
    omega (arith, h k (omega arith), pieces-length f w (suc k) n (λ i l. h i (omega arith)), mul-suc w n)

sum_drop : (l : List ℕ) (k : ℕ) → sum_of (drop k l) ≡ get_or l k 0 + sum_of (drop (suc k) l)
sum_drop [] zero = refl
sum_drop [] (suc k) = refl
sum_drop (x ∷ l) zero = refl
sum_drop (x ∷ l) (suc k) = sum_drop l k

-- a piece for each table, of at most w bytes a row
tables-length : (f : ℕ → List ℕ) (w : ℕ) (counts : List ℕ) (k n : ℕ) → ((i : ℕ) → i < k + n → length (f i) ≤ w * get_or counts i 0) → length (concat_map f (range k n)) ≤ w * sum_of (drop k counts)
tables-length f w counts k zero h = omega arith
tables-length f w counts k (suc n) h =
    let e = length-append (f k) (concat_map f (range (suc k) n)) in
    let s = ap (λ (m : ℕ). w * m) (sum_drop counts k) ∙ mul-add w (get_or counts k 0) (sum_of (drop (suc k) counts)) in
    omega (arith, h k (omega arith), tables-length f w counts (suc k) n (λ i l. h i (omega arith)))

part_length : (n : ℕ) → length (part n) ≡ 1 + length (digits n)
unfolding part
part_length n = omega arith

part_if-length : (own : Bool) (n : ℕ) → length (part_if own n) ≤ 1 + length (digits n)
unfolding part_if
part_if-length true n = omega (arith, part_length n)
part_if-length false n = omega arith

line-length : (a b c d : List ℕ) → length (line_of a b c d) ≡ length a + length b + length c + length d + 1
unfolding line_of
line-length a b c d =
    let u = length-append a (b ++ (c ++ (d ++ (newline ∷ [])))) in
    let v = length-append b (c ++ (d ++ (newline ∷ []))) in
    let w = length-append c (d ++ (newline ∷ [])) in
    omega (arith, length-append d (newline ∷ []))

pub refusal-length : (number place : ℕ) → length (refusal_text number place) ≤ 30
refusal-length number place =
    omega (arith, line-length (codes "refused") (part number) (part place) [], part_length number, part_length place, digits-few number, digits-few place)

header-length : (tables rows : ℕ) → tables < 100 → rows < 1000 → length (header_text tables rows) ≤ 19
header-length tables rows t r =
    omega (arith, line-length (codes "tables") (part tables) (space ∷ codes "rows") (part rows), part_length tables, part_length rows, digits-length 1 tables t, digits-length 2 rows r)

-- ---- the whole text

module _ (T : Schema) (J : Instance) (nodes : T.graph.nodes ≤ max_nodes) (edges : length T.graph.edges ≤ max_edges) (attributes : length T.attributes ≤ max_attributes)
    (few : sum_of J.counts ≤ max_rows) (targets : (e : ℕ) → e < length T.graph.edges → (r : ℕ) → link J e r < max_rows) where
  module _ (d r : ℕ) where
    links-length : length (link_pieces T J d r) ≤ 4 * length T.graph.edges
    links-length =
        pieces-length (link_piece T J d r) 4 0 (length T.graph.edges)
        (λ e l. le_trans (part_if-length (eqb (source T.graph e) d) (link J e r)) (omega (arith, digits-length 2 (link J e r) (omega (arith, targets e (omega arith) r)))))

    values_length : length (value_pieces T J d r) ≤ 11 * length T.attributes
    values_length =
        pieces-length (value_piece T J d r) 11 0 (length T.attributes)
        (λ b l. le_trans (part_if-length (eqb (attribute_at T b).node d) (value J b r)) (omega (arith, digits-few (value J b r))))

    row-length : d < max_nodes → r < max_rows → length (row_line T J d r) ≤ 311
    row-length h l =
        let e = line-length (digits d) (part r) (link_pieces T J d r) (value_pieces T J d r) in
        le_trans (le_of_eq (ap length (row-pieces T J d r)))
        (omega (arith, e, part_length r, digits-length 1 d (omega arith), digits-length 2 r (omega arith), links-length, values_length))

  table-length : (d : ℕ) → d < max_nodes → length (concat_map (row_line T J d) (rows J d)) ≤ 311 * count J d
  table-length d h = pieces-length (row_line T J d) 311 0 (count J d) (λ r l. row-length d r h (omega (arith, get_or-sum J.counts d)))

  pub printed-length : length (printed (record { schema = T; tables = J })) ≤ max_text_bytes
  printed-length =
      let h = header-length T.graph.nodes (sum_of J.counts) (omega arith) (omega arith) in
      let t = tables-length (λ d. concat_map (row_line T J d) (rows J d)) 311 J.counts 0 T.graph.nodes (λ d l. table-length d (omega arith)) in
      le_trans (le_of_eq (ap (λ (w : List ℕ). length (w ++ row_lines T J)) (header-line T.graph.nodes (sum_of J.counts))))
      (omega (arith, length-append (header_text T.graph.nodes (sum_of J.counts)) (row_lines T J)))
