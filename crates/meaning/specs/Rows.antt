-- A row added to the tables of an instance, judged before it is put there, and a row withdrawn from them (document 02, C-16).
use Rattle.std.specs.Prelude.{ℕ, suc, ◌+◌, ◌-◌, Bool, cond, ◌&&◌, List, ◌++◌, map, length, take, drop, ltb, eqb}
use Rattle.meaning.specs.Lists.{upto, filter, all, any}
use Rattle.meaning.specs.Schema.{Schema, source, target, attribute_at}
use Rattle.meaning.specs.Sheet.{Reader, Judged, sound, on_sheet}
use Rattle.meaning.specs.Formats.{Instance, read_tables, kinds}
use Rattle.meaning.specs.Views.{count, link_column, column, follow}
use Rattle.meaning.specs.Judge.{◌>>=◌, ensure, values_in_range}

-- ---- a row added at its table's end

-- the row counts of one row of table c alone
abbrev pub one_row : Schema → ℕ → List ℕ
one_row S c = map (λ d. cond (eqb d c) 1 0) (upto S.graph.nodes)

-- an added row as a sheet: its links along the edges from c in the order of their numbers, 9 bits each, then its values, 32 bits each, then 0 bits to the
-- byte's end; an instance sheet of that row alone, without its counts
abbrev pub read_row : Schema → ℕ → Reader Instance
read_row S c = read_tables S (one_row S c)

-- the rows of I, and behind them those of R, whose links lead to rows of I
abbrev pub added : Schema → Instance → Instance → Instance
added S I R = record {
  counts = map (λ d. count I d + count R d) (upto S.graph.nodes);
  links = map (λ e. link_column I e ++ link_column R e) (upto (length S.graph.edges));
  values = map (λ a. column I a ++ column R a) (upto (length S.attributes));
}

-- 9 (dangling): the row's target rows are below their tables' counts, which the row does not change: no edge leads from c to c
abbrev pub row_links_in_range : Schema → Instance → Instance → Bool
row_links_in_range S I R = all (λ e. all (λ r. ltb r (count I (target S.graph e))) (link_column R e)) (upto (length S.graph.edges))

-- 11 (bent row): the two sides of an equation lead the row, which is the last of table c, to the same row
abbrev pub row_obeys_equations : Schema → Instance → ℕ → Instance → Bool
row_obeys_equations S I c R =
    all (λ q. eqb (follow (added S I R) q.left.edges (count I c)) (follow (added S I R) q.right.edges (count I c)))
    (filter (λ q. eqb q.left.start c) S.equations)

-- 9, then 10 (off scale), then 11
abbrev pub test_row : Schema → Instance → ℕ → Instance → Judged Instance
test_row S I c R = do
  _ ← ensure (row_links_in_range S I R) 9
  _ ← ensure (values_in_range kinds S R) 10
  _ ← ensure (row_obeys_equations S I c R) 11
  sound R

abbrev pub judge_row : Schema → Instance → ℕ → List ℕ → Judged Instance
judge_row S I c row = do
  R ← on_sheet (read_row S c) row
  test_row S I c R

-- ---- a row withdrawn

module _ {A : Type 0} where
  -- f at table c, nothing at any other table d
  abbrev pub at_table : ℕ → ℕ → (A → A) → A → A
  at_table c d f a = cond (eqb d c) (f a) a

  -- a table's column without row x: later rows move down by one
  abbrev pub without : ℕ → List A → List A
  without x l = take x l ++ drop (suc x) l

-- the new number of row r, which is not x itself, of a table from which row x was taken out
abbrev pub moved_down : ℕ → ℕ → ℕ
moved_down x r = cond (ltb x r) (r - 1) r

-- the tables without row x of table c, links included
abbrev pub withdrawn : Schema → Instance → ℕ → ℕ → Instance
withdrawn S I c x = record {
  counts = map (λ d. at_table c d (λ n. n - 1) (count I d)) (upto S.graph.nodes);
  links = map (λ e. map (at_table c (target S.graph e) (moved_down x)) (at_table c (source S.graph e) (without x) (link_column I e))) (upto (length S.graph.edges));
  values = map (λ a. at_table c (attribute_at S a).node (without x) (column I a)) (upto (length S.attributes));
}

-- 19 (still held): another row links to row x of table c
abbrev pub is_held : Schema → Instance → ℕ → ℕ → Bool
is_held S I c x = any (λ e. eqb (target S.graph e) c && any (eqb x) (link_column I e)) (upto (length S.graph.edges))
