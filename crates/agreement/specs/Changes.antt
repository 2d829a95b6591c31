-- What is shown of the changes of a run (document 02, C-16): what an added row's sheet is, what the changed tables are, that they are an accepted instance of S
-- whose Sigma stands in the pushed tray, and that withdrawing the row just added gives the first run back.
use Rattle.std.specs.Prelude.{ℕ, suc, ◌^◌, ◌<◌, ◌≡◌, cond, ◌↔◌, length, take, drop, leb}
use mathlib.Core.List.{List, [], ◌∷◌, ◌++◌, map, Memᴰ}
use Rattle.bits.specs.Pack.{pack}
use Rattle.theory.specs.Instance as theory_instance
use Rattle.theory.specs.Instance.{IsInstance}
use Rattle.theory.specs.Mapping.{Even}
use Rattle.theory.specs.Matching.{IsHomomorphism}
use Rattle.meaning.specs.Schema.{Schema, source, target, attribute_at, leaving}
use Rattle.meaning.specs.Sheet.{sound}
use Rattle.meaning.specs.Formats.{Mapping, Instance, max_rows, fields_of, instance_sheet, kinds}
use Rattle.meaning.specs.Views.{Shaped, schema_of, mapping_of, count, link, value, instance_of}
use Rattle.meaning.specs.Judge.{links_in_range, values_in_range, obeys_equations, judge_schema, judge_instance}
use Rattle.meaning.specs.Evenness.{attributes_at}
use Rattle.meaning.specs.Calls.{refused, accepted, sigma_tables, sheet_of}
use Rattle.meaning.specs.Rows.{one_row, added, row_links_in_range, row_obeys_equations, at_table, withdrawn}
use Rattle.meaning.specs.Changes.{Run, judge_run, Sheets, addition, withdrawal, add_row, withdraw_row}
use Rattle.agreement.specs.Valid.{ValidInstance, InRange, LinksIn, ValuesIn, ObeysEquations}
use Rattle.agreement.specs.Agrees.{Lendable, Inputs, DeltaOverfull}
use Rattle.agreement.specs.Demand3.{Provided, Clauses, meaning_answers}

-- ---- what is judged first: on accepted sheets 12, or a run

pub record RunAnswers (s t f i : List ℕ) (S T : Schema) (F : Mapping) (I : Instance) : Type 0 where
  pub uneven : (judge_run s t f i ≡ refused 12 0) ↔ (Even (mapping_of S T F) → ⊥)
  pub result : (x : Run) → (judge_run s t f i ≡ accepted x) ↔ (Even (mapping_of S T F) × (x ≡ record { m = record { S = S; T = T; F = F }; tables = I }))

-- ---- an added row and its sheet

-- R has one row, of table c, and each of its numbers has room in its field
pub record IsRow (S : Schema) (c : ℕ) (R : Instance) : Type 0 where
  pub counts : R.counts ≡ one_row S c
  pub shaped : Shaped S R
  pub links : (e : ℕ) → e < length S.graph.edges → source S.graph e ≡ c → link R e 0 < 2 ^ 9
  pub values : (a : ℕ) → a < length S.attributes → (attribute_at S a).node ≡ c → value R a 0 < 2 ^ 32

-- the links of the table's edges in the order of edge numbers, then the values of its attributes
abbrev pub row_sheet : Schema → ℕ → Instance → List ℕ
row_sheet S c R = pack (fields_of 9 (map (λ e. link R e 0) (leaving S.graph c)) ++ fields_of 32 (map (λ a. value R a 0) (attributes_at S c)))

-- ---- tables with a row more

-- J is I with R's row at the end of table c: every row of I keeps its number, its links and its values
pub record Adds (S : Schema) (I : Instance) (c : ℕ) (R J : Instance) : Type 0 where
  pub one_more : count J c ≡ suc (count I c)
  pub others : (d : ℕ) → d < S.graph.nodes → (d ≡ c → ⊥) → count J d ≡ count I d
  pub rows_kept : IsHomomorphism (schema_of S) (instance_of I) (instance_of J) (λ d x. x)
  pub links : (e : ℕ) → e < length S.graph.edges → source S.graph e ≡ c → link J e (count I c) ≡ link R e 0
  pub values : (a : ℕ) → a < length S.attributes → (attribute_at S a).node ≡ c → value J a (count I c) ≡ value R a 0
  pub shaped : Shaped S J

-- the tests 9, 10 and 11 of the whole changed tables are those of the new row: no other row can fail them
pub record RowTestsDecide (S : Schema) (I : Instance) (c : ℕ) (R : Instance) : Type 0 where
  pub test_9 : links_in_range S (added S I R) ≡ row_links_in_range S I R
  pub test_10 : values_in_range kinds S (added S I R) ≡ values_in_range kinds S R
  pub test_11 : obeys_equations S (added S I R) ≡ row_obeys_equations S I c R

-- once the sheets, 12, 18 and the row's 1 and 2 are passed: which number is given, by what the theory has of the changed tables J
pub record AdditionAnswers (x : Run) (c : ℕ) (row : List ℕ) (J : Instance) : Type 0 where
  pub dangling : (addition x.m.S x.tables c row ≡ refused 9 0) ↔ (LinksIn (schema_of x.m.S) (instance_of J) → ⊥)
  pub off_scale : (addition x.m.S x.tables c row ≡ refused 10 0) ↔ (LinksIn (schema_of x.m.S) (instance_of J) × (ValuesIn kinds (schema_of x.m.S) (instance_of J) → ⊥))
  pub bent : (addition x.m.S x.tables c row ≡ refused 11 0)
      ↔ (LinksIn (schema_of x.m.S) (instance_of J) × ValuesIn kinds (schema_of x.m.S) (instance_of J) × (ObeysEquations (schema_of x.m.S) (instance_of J) → ⊥))
  pub overfull : (addition x.m.S x.tables c row ≡ refused 15 0) ↔ (IsInstance (InRange kinds) (schema_of x.m.S) (instance_of J) × (max_rows < theory_instance.rows (schema_of x.m.S) (instance_of J)))
  -- one of them exactly where J is no accepted instance of S
  pub refusal : ((n : ℕ) × Memᴰ n (9 ∷ 10 ∷ 11 ∷ 15 ∷ []) × (addition x.m.S x.tables c row ≡ refused n 0)) ↔ (ValidInstance x.m.S J → ⊥)
  pub result : (K : Instance) → (addition x.m.S x.tables c row ≡ accepted K) ↔ ((K ≡ J) × Lendable x.m.S K)

-- ---- tables with a row less

-- the number that row r had in its table before row x was taken out
abbrev pub skipping : ℕ → ℕ → ℕ
skipping x r = cond (leb x r) (suc r) r

-- J is I without row x of table c: its rows are the other rows of I, in order, with their links and their values
pub record Withdraws (S : Schema) (I : Instance) (c x : ℕ) (J : Instance) : Type 0 where
  pub one_less : suc (count J c) ≡ count I c
  pub others : (d : ℕ) → d < S.graph.nodes → (d ≡ c → ⊥) → count J d ≡ count I d
  pub rows_kept : IsHomomorphism (schema_of S) (instance_of J) (instance_of I) (λ d. at_table c d (skipping x))
  pub shaped : Shaped S J

-- some row's link leads to row x of table c
pub record Held (S : Schema) (I : Instance) (c x : ℕ) : Type 0 where
  pub edge : ℕ
  pub edge_in : edge < length S.graph.edges
  pub to : target S.graph edge ≡ c
  pub row : ℕ
  pub row_in : row < count I (source S.graph edge)
  pub leads : link I edge row ≡ x

-- the named table or row does not exist
abbrev pub Absent : Run → ℕ → ℕ → Type 0
Absent x c r = c < x.m.S.graph.nodes → r < count x.tables c → ⊥

-- once the sheets and 12 are passed
pub record WithdrawalAnswers (x : Run) (c r : ℕ) : Type 0 where
  pub absent : (withdrawal x.m.S x.tables c r ≡ refused 18 0) ↔ Absent x c r
  pub held : (withdrawal x.m.S x.tables c r ≡ refused 19 0) ↔ ((Absent x c r → ⊥) × Held x.m.S x.tables c r)
  pub result : (J : Instance) → (withdrawal x.m.S x.tables c r ≡ accepted J) ↔ ((Absent x c r → ⊥) × (Held x.m.S x.tables c r → ⊥) × (J ≡ withdrawn x.m.S x.tables c r))

-- ---- an accepted change, of the run's sheet i, with the result w

pub record ChangeAgrees (s t f i : List ℕ) (w : Sheets) : Type 0 where
  pub S : Schema
  pub T : Schema
  pub F : Mapping
  pub before : Instance
  pub after : Instance
  pub inputs : Inputs s t f i S T S F before
  pub is-even : Even (mapping_of S T F)
  -- the changed run is an accepted instance
  pub run_sheet : w.run ≡ instance_sheet after
  pub lendable : Lendable S after
  -- "the pushed sheet equals a fresh Sigma of the changed run": it has the bytes that `sigma` gives, lent the run's sheet
  pub pushed : Instance
  pub pushed_by_call : sigma_tables s t f w.run ≡ accepted (record { schema = T; tables = pushed })
  pub pushed-sheet : w.pushed ≡ instance_sheet pushed
  -- "matchings are compared for the run as it then is": demand 3, with every book, of the changed run and the tables that were pushed
  pub compared : (j : List ℕ) {J : Instance} → judge_instance T j ≡ sound J → (DeltaOverfull (mapping_of S T F) (instance_of J) → ⊥)
      → (p : Provided s t f w.run j) × (p.run ≡ after) × (p.pushed ≡ instance_of pushed) × Clauses p (meaning_answers s t f w.run j)

-- ---- a row added and withdrawn again

-- withdrawing the row that an addition has put gives the first run's sheet and its Sigma's back, byte for byte; the trays beyond them keep what the addition wrote
pub record GivesBack (s t f run : List ℕ) (n c : ℕ) (row pushed : List ℕ) (a : ℕ) : Type 0 where
  pub S : Schema
  pub s_accepted : judge_schema s ≡ sound S
  pub first : Instance
  pub first_accepted : judge_instance S (take n run) ≡ sound first
  pub first_pushed : List ℕ
  pub first_pushed_by_call : sheet_of (sigma_tables s t f (take n run)) ≡ accepted first_pushed
  pub back : let x = add_row s t f run n c row pushed in
      withdraw_row s t f x.run a c (count first c) x.pushed ≡ record {
        answer = accepted (length (take n run), length first_pushed);
        run = take n run ++ drop (length (take n run)) x.run;
        pushed = first_pushed ++ drop (length first_pushed) x.pushed;
      }
