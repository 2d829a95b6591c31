-- The sheet of an added row (document 02, C-16): its links along the edges from its table, then its values. It reads as that row, and no other sheet does.
use Prim.Native.Nat.{ℕ, ◌^◌, ◌<◌}
use mathlib.Core.Path.{◌≡◌, refl, sym, ap, ap₂, ◌∙◌}
use mathlib.Core.Bool.{Bool, true, false, cond}
use mathlib.Core.List.{List, [], ◌∷◌, ◌++◌, map, Memᴰ}
use mathlib.Core.Logic.{◌↔◌}
use native.Mathlib.Omega.{arith}
use lib.ListN.{length, get_or}
use lib.Dec.{eqb}
use Rattle.bits.specs.Field.{Bytes}
use Rattle.bits.specs.Pack.{pack}
use Rattle.meaning.specs.Lists.{upto, cons_if, filter, concat_map}
use Rattle.meaning.specs.Schema.{Schema, source, attribute_at, leaving}
use Rattle.meaning.specs.Sheet.{sound, on_sheet}
use Rattle.meaning.specs.Formats.{Instance, fields_of, read_tables}
use Rattle.meaning.specs.Views.{count, link, value}
use Rattle.meaning.specs.Evenness.{attributes_at}
use Rattle.meaning.specs.Rows.{one_row, read_row}
use Rattle.meaning.proofs.Lists.{by_place, everywhere, of-upto}
use Rattle.meaning.proofs.Written.{table_fields, tables-sheet-read, tables-read-sheet}
use Rattle.agreement.specs.Paths.{WellFormed}
use Rattle.agreement.specs.Changes.{IsRow, row_sheet}
use Rattle.agreement.proofs.Paths.{schema_is}
use Rattle.agreement.proofs.Rows.{row_read, row_count, row-only}

-- ---- columns of at most one entry

no-entry : (l : List ℕ) → length l ≡ 0 → l ≡ []
no-entry [] e = refl
no-entry (x ∷ l) e = absurd (omega arith)

one_entry : (l : List ℕ) → length l ≡ 1 → l ≡ get_or l 0 0 ∷ []
one_entry [] e = absurd (omega arith)
one_entry (x ∷ l) e = ap (λ (k : List ℕ). x ∷ k) (no-entry l (omega arith))

-- one after the other they are the entries of those that have one
entries : (w : ℕ) (f : ℕ → List ℕ) (test : ℕ → Bool) (es : List ℕ) → ((e : ℕ) → Memᴰ e es → length (f e) ≡ cond (test e) 1 0)
    → concat_map (fields_of w) (map f es) ≡ fields_of w (map (λ e. get_or (f e) 0 0) (filter test es))
entries w f test [] h = refl
entries w f test (e ∷ es) h = go (test e) (h e (Memᴰ.head refl)) (entries w f test es (λ d m. h d (Memᴰ.tail m)))
  where
    go : (t : Bool) → length (f e) ≡ cond t 1 0 → concat_map (fields_of w) (map f es) ≡ fields_of w (map (λ e. get_or (f e) 0 0) (filter test es))
        → concat_map (fields_of w) (map f (e ∷ es)) ≡ fields_of w (map (λ e. get_or (f e) 0 0) (cons_if t e (filter test es)))
    go true k rest = ap₂ (λ (l : List ℕ) (m : List (ℕ × ℕ)). fields_of w l ++ m) (one_entry (f e) k) rest
    go false k rest = ap₂ (λ (l : List ℕ) (m : List (ℕ × ℕ)). fields_of w l ++ m) (no-entry (f e) k) rest

-- the columns of a row, each of a table: link columns, or value columns
module _ {S : Schema} {c : ℕ} {R : Instance} (row : IsRow S c R) (columns : List (List ℕ)) (n : ℕ) (whole : length columns ≡ n) (home : ℕ → ℕ) (home_in : (e : ℕ) → e < n → home e < S.graph.nodes)
    (long : (e : ℕ) → e < n → length (get_or columns e []) ≡ count R (home e)) where
  column-fields : (w : ℕ) → concat_map (fields_of w) columns ≡ fields_of w (map (λ e. get_or (get_or columns e []) 0 0) (filter (λ e. eqb (home e) c) (upto n)))
  column-fields w =
      ap (concat_map (fields_of w)) (by_place columns [] ∙ ap (λ (k : ℕ). map (λ e. get_or columns e []) (upto k)) whole)
      ∙ entries w (λ e. get_or columns e []) (λ e. eqb (home e) c) (upto n) (λ e m. let h = of-upto n m in long e h ∙ row_count row (home e) (home_in e h))

  columns-below : (b : ℕ) → 0 < b → ((e : ℕ) → e < n → home e ≡ c → get_or (get_or columns e []) 0 0 < b) → (e r : ℕ) → get_or (get_or columns e []) r 0 < b
  columns-below b z below =
      everywhere (λ l. (r : ℕ) → get_or l r 0 < b) columns [] (λ r. z) (λ e h.
      let i : e < n = rw whole at h in
      everywhere (λ v. v < b) (get_or columns e []) 0 z (λ r l.
      let k = row-only row (home e) (home_in e i) r (rw (long e i) at l) in
      rw k.1 (below e i k.0)))

-- ---- the sheet

module _ (S : Schema) (formed : WellFormed S) (c : ℕ) where
  row-fields : {R : Instance} → IsRow S c R
      → table_fields R ≡ fields_of 9 (map (λ e. link R e 0) (leaving S.graph c)) ++ fields_of 32 (map (λ a. value R a 0) (attributes_at S c))
  row-fields {R} r =
      let s_is = schema_is S formed.fits in
      ap₂ (λ (l m : List (ℕ × ℕ)). l ++ m)
      (column-fields r R.links (length S.graph.edges) r.shaped.edges (source S.graph) s_is.src_in r.shaped.links 9)
      (column-fields r R.values (length S.attributes) r.shaped.attributes (λ a. (attribute_at S a).node) s_is.home_in r.shaped.values 32)

  row-sheet-read : {R : Instance} → IsRow S c R → on_sheet (read_tables S R.counts) (pack (table_fields R)) ≡ sound R
  row-sheet-read {R} r =
      let s_is = schema_is S formed.fits in
      tables-sheet-read S r.shaped
      (columns-below r R.links (length S.graph.edges) r.shaped.edges (source S.graph) s_is.src_in r.shaped.links (2 ^ 9) (omega arith) r.links)
      (columns-below r R.values (length S.attributes) r.shaped.attributes (λ a. (attribute_at S a).node) s_is.home_in r.shaped.values (2 ^ 32) (omega arith) r.values)

  -- bytes read as a row exactly where they are the row's sheet
  pub row-sheet-iff : c < S.graph.nodes → (row : List ℕ) → Bytes row → (R : Instance) → (on_sheet (read_row S c) row ≡ sound R) ↔ (IsRow S c R × (row ≡ row_sheet S c R))
  row-sheet-iff c-in row b R = (
    λ e. let r = row_read S c c-in row e in (r, tables-read-sheet S (one_row S c) row b e ∙ ap pack (row-fields r)),
    λ h.
        let r = h.0 in
        ap (on_sheet (read_row S c)) (h.1 ∙ ap pack (sym (row-fields r)))
        ∙ ap (λ (counts : List ℕ). on_sheet (read_tables S counts) (pack (table_fields R))) (sym r.counts)
        ∙ row-sheet-read r,
  )
