-- Laws of writing: fields of one width one by one, columns one by one, and whole sheets.
use Prim.Native.Nat.{ℕ, zero, suc, ◌+◌, ◌-◌, ◌*◌, ◌<◌}
use mathlib.Core.Path.{◌≡◌, refl, sym, ap, ap₂, ◌∙◌}
use mathlib.Core.List.{List, [], ◌∷◌, ◌++◌, map, map-append, append-nil}
use native.Mathlib.Omega.{arith}
use native.Mathlib.Nat.{mul-suc, mul-zero, mul-add, zero-add}
use native.Mathlib.Numerals.{add-one}
use lib.ListN.{length, take, drop, get_or, replicate}
use Rattle.std.proofs.lemmas.List.{length-take, get_or-take, get_or-drop}
use Rattle.bits.specs.Field.{bytes_for}
use Rattle.bits.specs.Pack.{total_width, pack}
use Rattle.bits.specs.Put.{put, put_all}
use Rattle.bits.proofs.Writing.{put_all-append}
use Rattle.bits.proofs.Packing.{length-pack, total_width-append, put_all-pack}
use Rattle.theory.specs.Numbering.{tabulate}
use Rattle.theory.proofs.Numbering.{tabulate-length}
use Rattle.meaning.specs.Lists.{concat_map}
use Rattle.meaning.specs.Schema.{path}
use Rattle.meaning.specs.Formats.{fields_of, edges_fields, path_sheet, instance_sheet, matching_sheet, chain_sheet}
use Rattle.meaning.proofs.Tabulate.{tabulate-more, tabulate-same}
use Rattle.meaning.proofs.PathLevels.{concat_map-append}
use Rattle.meaning.proofs.StepNumbers.{step_of, chain-packed}
use Rattle.schema.specs.declared.Schema.{Schema}
use Rattle.schema.specs.Decoded.{front_of}
use Rattle.instance.specs.declared.Instance.{Instance}
use Rattle.instance.specs.Decoded.{rows_of, column_of, columns_of, tables_of}
use Rattle.instance.proofs.Columns.{sum_of-more}
use Rattle.encoding.specs.Written.{Written, rows_in, column_fields, sheet_bits, sheet_bytes}

pub put-none : (s : List ℕ) (at : ℕ) → s ≡ put_all s at []
unfolding put_all
put-none s at = refl

-- an element of a part of an array
pub part-at : (l : List ℕ) (base n i : ℕ) → i < length (take ((base + n) - base) (drop base l)) → get_or (take ((base + n) - base) (drop base l)) i 0 ≡ get_or l (base + i) 0
part-at l base n i h =
    let k : i < (base + n) - base = omega (arith, length-take ((base + n) - base) (drop base l)) in
    rw (get_or-take, get_or-drop)

-- ---- fields of one width
module _ (width : ℕ) where
  fields-more : (n : ℕ) (f : ℕ → ℕ) → fields_of width (tabulate (n + 1) f) ≡ fields_of width (tabulate n f) ++ ((width, f n) ∷ [])
  fields-more n f = ap (λ (m : ℕ). fields_of width (tabulate m f)) (add-one n) ∙ ap (fields_of width) (tabulate-more n f) ∙ map-append (λ v. (width, v)) (tabulate n f) (f n ∷ [])

  pub fields-width : (n : ℕ) (f : ℕ → ℕ) → total_width (fields_of width (tabulate n f)) ≡ width * n
  unfolding total_width
  fields-width zero f = sym (mul-zero width)
  fields-width (suc n) f = rw (fields-width n (λ i. f (suc i)), mul-suc) (omega arith)

  -- one field more
  pub put-more : (s : List ℕ) (at n : ℕ) (f : ℕ → ℕ) → put_all s at (fields_of width (tabulate (n + 1) f)) ≡ put (put_all s at (fields_of width (tabulate n f))) (at + width * n) width (f n)
  unfolding put_all
  put-more s at n f =
      ap (put_all s at) (fields-more n f)
      ∙ put_all-append s at (fields_of width (tabulate n f)) ((width, f n) ∷ [])
      ∙ ap (λ (w : ℕ). put (put_all s at (fields_of width (tabulate n f))) (at + w) width (f n)) (fields-width n f)

  -- ---- columns
  module _ (rows : ℕ → ℕ) (l : List ℕ) where
    columns-step : (n : ℕ) → column_fields width (n + 1) rows l ≡ column_fields width n rows l ++ fields_of width (column_of l (512 * n) (rows n))
    columns-step n =
        ap (λ (m : ℕ). column_fields width m rows l) (add-one n)
        ∙ ap (concat_map (fields_of width)) (tabulate-more n (λ k. column_of l (512 * k) (rows k)))
        ∙ concat_map-append (fields_of width) (columns_of n rows l) (column_of l (512 * n) (rows n) ∷ [])
        ∙ ap (λ (r : List (ℕ × ℕ)). column_fields width n rows l ++ r) (append-nil (fields_of width (column_of l (512 * n) (rows n))))

    rows_more : (n : ℕ) → width * rows_in (n + 1) rows ≡ width * rows_in n rows + width * rows n
    rows_more n = ap (λ (m : ℕ). width * m) (sum_of-more n rows) ∙ mul-add width (rows_in n rows) (rows n)

    pub columns-width : (n : ℕ) → total_width (column_fields width n rows l) ≡ width * rows_in n rows
    unfolding total_width
    columns-width zero = sym (mul-zero width)
    columns-width (suc n) =
        ap (λ (m : ℕ). total_width (column_fields width m rows l)) (sym (add-one n))
        ∙ ap total_width (columns-step n)
        ∙ total_width-append (column_fields width n rows l) (fields_of width (column_of l (512 * n) (rows n)))
        ∙ ap₂ (λ (a b : ℕ). a + b) (columns-width n) (fields-width (rows n) (λ r. get_or l (512 * n + r) 0))
        ∙ sym (rows_more n) ∙ ap (λ (m : ℕ). width * rows_in m rows) (add-one n)

    -- one column more
    pub put_all-more : (s : List ℕ) (at n : ℕ) → put_all s at (column_fields width (n + 1) rows l) ≡ put_all (put_all s at (column_fields width n rows l)) (at + width * rows_in n rows) (fields_of width (column_of l (512 * n) (rows n)))
    put_all-more s at n =
        ap (put_all s at) (columns-step n)
        ∙ put_all-append s at (column_fields width n rows l) (fields_of width (column_of l (512 * n) (rows n)))
        ∙ ap (λ (w : ℕ). put_all (put_all s at (column_fields width n rows l)) (at + w) (fields_of width (column_of l (512 * n) (rows n)))) (columns-width n)

-- ---- fields written into a tray that was cleared as far as they reach
pub packed : (fs : List (ℕ × ℕ)) (tray out : List ℕ) {n : ℕ} → n ≡ bytes_for (total_width fs) → out ≡ put_all (replicate n 0 ++ drop n tray) 0 fs → Written (pack fs) tray n out
packed fs tray out {n} e h = record {
  length_is = e ∙ sym (length-pack fs);
  says = h ∙ ap (λ (m : ℕ). put_all (replicate m 0 ++ drop m tray) 0 fs) e ∙ put_all-pack fs (drop (bytes_for (total_width fs)) tray)
      ∙ ap (λ (m : ℕ). pack fs ++ drop m tray) (sym (length-pack fs));
}

pub in_three : (s : List ℕ) (fs gs hs : List (ℕ × ℕ)) → put_all (put_all (put_all s 0 fs) (total_width fs) gs) (total_width fs + total_width gs) hs ≡ put_all s 0 (fs ++ gs ++ hs)
in_three s fs gs hs =
    sym (put_all-append s 0 (fs ++ gs) hs
    ∙ ap₂ (λ (x : List ℕ) (w : ℕ). put_all x w hs) (put_all-append s 0 fs gs ∙ ap (λ (w : ℕ). put_all (put_all s 0 fs) w gs) (zero-add (total_width fs))) (zero-add (total_width (fs ++ gs)) ∙ total_width-append fs gs))

-- ---- a whole sheet: counts, links and values, one after the other
module _ (t : Schema) (i : Instance) (links values : List ℕ) where
  abbrev count_fields : List (ℕ × ℕ)
  count_fields = fields_of 10 (column_of i.counts 0 t.graph.nodes)

  abbrev link_fields : List (ℕ × ℕ)
  link_fields = column_fields 9 t.graph.edges (rows_of t.graph.source i.counts) links

  abbrev value_fields : List (ℕ × ℕ)
  value_fields = column_fields 32 t.attributes (rows_of t.node i.counts) values

  sheet_is : instance_sheet (tables_of t i links values) ≡ pack (count_fields ++ link_fields ++ value_fields)
  sheet_is =
      ap (λ (l : List ℕ). pack (fields_of 10 l ++ link_fields ++ value_fields)) (tabulate-same t.graph.nodes (λ c h. ap (λ (k : ℕ). get_or i.counts k 0) (sym (zero-add c))))

  counts-width : total_width count_fields ≡ 10 * t.graph.nodes
  counts-width = fields-width 10 t.graph.nodes (λ r. get_or i.counts (0 + r) 0)

  links-width : total_width link_fields ≡ 9 * rows_in t.graph.edges (rows_of t.graph.source i.counts)
  links-width = columns-width 9 (rows_of t.graph.source i.counts) links t.graph.edges

  values-width : total_width value_fields ≡ 32 * rows_in t.attributes (rows_of t.node i.counts)
  values-width = columns-width 32 (rows_of t.node i.counts) values t.attributes

  sheet-width : total_width (count_fields ++ link_fields ++ value_fields) ≡ sheet_bits t i
  sheet-width =
      total_width-append (count_fields ++ link_fields) value_fields
      ∙ omega (arith, total_width-append count_fields link_fields, counts-width, links-width, values-width)

  pub sheet-length : length (instance_sheet (tables_of t i links values)) ≡ sheet_bytes t i
  sheet-length = ap length sheet_is ∙ length-pack (count_fields ++ link_fields ++ value_fields) ∙ ap bytes_for sheet-width

  module _ (tray : List ℕ) {n p : ℕ} {a b c d : List ℕ} where
    pub sheet-written : n ≡ sheet_bytes t i → a ≡ replicate n 0 ++ drop n tray → b ≡ put_all a 0 count_fields → c ≡ put_all b (10 * t.graph.nodes) link_fields
        → p ≡ 10 * t.graph.nodes + 9 * rows_in t.graph.edges (rows_of t.graph.source i.counts) → d ≡ put_all c p value_fields
        → Written (instance_sheet (tables_of t i links values)) tray n d
    sheet-written e ea eb ec ep ed =
        rw sheet_is
        (packed (count_fields ++ link_fields ++ value_fields) tray d (e ∙ ap bytes_for (sym sheet-width))
        (ed ∙ rw (ep, ec, eb, ea, ← counts-width, ← links-width) (in_three (replicate n 0 ++ drop n tray) count_fields link_fields value_fields)))

-- ---- a matching's sheet
module _ (l : List ℕ) (n : ℕ) where
  front_same : front_of n l ≡ column_of l 0 n
  front_same = tabulate-same n (λ c h. ap (λ (k : ℕ). get_or l k 0) (sym (zero-add c)))

  partners-width : total_width (fields_of 9 (column_of l 0 n)) ≡ 9 * n
  partners-width = fields-width 9 n (λ r. get_or l (0 + r) 0)

  pub matching-length : length (matching_sheet (front_of n l)) ≡ bytes_for (9 * n)
  matching-length = ap (λ (x : List ℕ). length (matching_sheet x)) front_same ∙ length-pack (fields_of 9 (column_of l 0 n)) ∙ ap bytes_for partners-width

  pub matching-written : (tray : List ℕ) {m : ℕ} {a b : List ℕ} → m ≡ bytes_for (9 * n) → a ≡ replicate m 0 ++ drop m tray → b ≡ put_all a 0 (fields_of 9 (column_of l 0 n)) → Written (matching_sheet (front_of n l)) tray m b
  matching-written tray {m} {a} {b} e ea eb = rw front_same (packed (fields_of 9 (column_of l 0 n)) tray b (e ∙ ap bytes_for (sym partners-width)) (eb ∙ rw ea))

-- ---- small numbers, which stand as a column
pub column-front : (n : ℕ) (l column : List ℕ) → ((i : ℕ) → i < n → get_or column i 0 ≡ get_or l i 0) → column_of column 0 n ≡ front_of n l
column-front n l column same = sym (front_same column n) ∙ tabulate-same n same

-- ---- edges: their number, then each; and a path's sheet, its start before them
module _ (n : ℕ) (edges : List ℕ) where
  pub edges-width : total_width (edges_fields (front_of n edges)) ≡ 4 + 5 * n
  unfolding total_width
  edges-width = ap (λ (k : ℕ). 4 + k) (fields-width 5 n (λ r. get_or edges r 0))

  pub edges-written : (s : List ℕ) (at : ℕ) {a b : List ℕ} → a ≡ put_all s at (fields_of 4 (n ∷ [])) → b ≡ put_all a (at + 4) (fields_of 5 (front_of n edges)) → b ≡ put_all s at (edges_fields (front_of n edges))
  unfolding put_all
  edges-written s at ea eb =
      eb ∙ rw ea (ap (λ (k : ℕ). put_all (put s at 4 k) (at + 4) (fields_of 5 (front_of n edges))) (sym (tabulate-length n (λ r. get_or edges r 0))))

  pub path-written : (start : ℕ) (tray : List ℕ) {m : ℕ} {a b d : List ℕ} → m ≡ bytes_for (8 + 5 * n) → a ≡ replicate m 0 ++ drop m tray → b ≡ put_all a 0 (fields_of 4 (start ∷ []))
      → d ≡ put_all b 4 (edges_fields (front_of n edges)) → Written (path_sheet (path start (front_of n edges))) tray m d
  unfolding put_all total_width
  path-written start tray {m} {a} {b} {d} e ea eb ed =
      let w : total_width ((4, start) ∷ edges_fields (front_of n edges)) ≡ 8 + 5 * n = let h = edges-width in omega arith in
      packed ((4, start) ∷ edges_fields (front_of n edges)) tray d (e ∙ ap bytes_for (sym w)) (ed ∙ rw (eb, ea))

-- ---- a chain's sheet: the number of steps, and each step as one number
module _ (l : List ℕ) (n : ℕ) where
  abbrev chain_fields : List (ℕ × ℕ)
  chain_fields = (8, n) ∷ fields_of 10 (column_of l 0 n)

  chain-is : chain_sheet (map step_of (front_of n l)) ≡ pack chain_fields
  chain-is =
      ap (λ (x : List ℕ). chain_sheet (map step_of x)) (front_same l n)
      ∙ sym (chain-packed (column_of l 0 n))
      ∙ ap (λ (k : ℕ). pack ((8, k) ∷ fields_of 10 (column_of l 0 n))) (tabulate-length n (λ r. get_or l (0 + r) 0))

  pub chain-written : (tray : List ℕ) {m : ℕ} {a b d : List ℕ} → m ≡ bytes_for (8 + 10 * n) → a ≡ replicate m 0 ++ drop m tray → b ≡ put_all a 0 (fields_of 8 (n ∷ []))
      → d ≡ put_all b 8 (fields_of 10 (column_of l 0 n)) → Written (chain_sheet (map step_of (front_of n l))) tray m d
  unfolding put_all total_width
  chain-written tray {m} {a} {b} {d} e ea eb ed =
      let w : total_width chain_fields ≡ 8 + 10 * n = ap (λ (k : ℕ). 8 + k) (fields-width 10 n (λ r. get_or l (0 + r) 0)) in
      rw chain-is (packed chain_fields tray d (e ∙ ap bytes_for (sym w)) (ed ∙ rw (eb, ea)))
