-- The starred runs of document 01: one table, what the calls yield beside what the paper says, and one statement. Cases 3, 4,
-- 5, 7, 8 and 9 hold beyond these runs.
use Prim.Native.Nat.{ℕ}
use mathlib.Core.Path.{◌≡◌, refl}
use mathlib.Core.Bool.{Bool, true, false}
use mathlib.Core.List.{List, [], ◌∷◌, map}
use lib.ListN.{length}
use lib.Dec.{eqb}
use Rattle.bits.specs.Field.{field, bit, tail_ok}
use Rattle.bits.specs.Pack.{pack, gather, bits_of, digits, number, total_width}
use Rattle.theory.specs.Numbering.{sum}
use Rattle.meaning.specs.Lists.{upto, filter, concat_map, same_list}
use Rattle.meaning.specs.Schema.{path, leaving}
use Rattle.meaning.specs.Views.{node_image}
use Rattle.meaning.specs.Category.{listed_category}
use Rattle.meaning.specs.Evenness as evenness
use Rattle.meaning.specs.Calls.{Outcome, refused, accepted, ◌>>=◌, check_schema, path_question, Migration, migration, Migrated, delta_tables, sigma_tables, pi_tables, sheet_of, Sides, sides}
use Rattle.meaning.proofs.Examples.{vendor, operator, vendor_to_operator, run, pushed_run, book, arrow, point, arrow_to_point, arrow_run, fork, line, fork_to_line, fork_run, joint_weld, pair, joint_weld_to_pair, joint_weld_run, short_rule, long_rule, ab, cd, abf, cdf, ab_and_byte}
use Rattle.meaning.proofs.Matchings.{matchings}
use Rattle.meaning.proofs.MatchingCase.{OnlyMatchings, only-matchings}
use Rattle.meaning.proofs.RunCases.{ArrowToPoint, arrow-to-point, ForkToLine, fork-to-line}
use Rattle.meaning.proofs.PathCases.{ShortRule, short-rule, LongRule, long-rule}
use Rattle.meaning.proofs.TailCase.{ByteTooMany, byte-too-many}

-- what a run yields, as far as the paper tells it
pub data Answer : Type 0 where
  bytes : List ℕ → Answer
  counts : List ℕ → Answer  -- the rows of each table
  links : List ℕ → List (List ℕ) → Answer  -- the rows of each table, and the links
  lists : List (List ℕ) → Answer  -- the matchings
  lifts : List ℕ → Answer  -- how many each edge has
  equal : Bool → Answer
  checked : Answer

module _ {A : Type 0} where
  abbrev pub told : (A → Answer) → Outcome A → Outcome Answer
  told f o = do
    a ← o
    accepted (f a)

abbrev pub counts_of : Migrated → Answer
counts_of m = counts m.tables.counts

abbrev pub links_of : Migrated → Answer
links_of m = links m.tables.counts m.tables.links

abbrev pub pushed_lists : Sides → Answer
pushed_lists x = lists (matchings x.m.T x.pushed x.book)

abbrev pub raw_lists : Sides → Answer
raw_lists x = lists (matchings x.m.S x.run x.pulled)

-- for each node c of S, the lifts of each edge of T that leaves F(c)
abbrev pub lifts_of : Migration → Answer
lifts_of m = lifts (concat_map (λ c.
    map (λ e. length (evenness.lifts (listed_category m.S) (listed_category m.T) m.F c (path (node_image m.F c) (e ∷ [])))) (leaving m.T.graph (node_image m.F c)))
    (upto m.S.graph.nodes))

-- two path questions: whether their answers are the same
abbrev pub same_answers : List ℕ → List ℕ → List ℕ → Outcome Answer
same_answers s p q = do
  a ← path_question s p
  b ← path_question s q
  accepted (equal (same_list a b))

pub record Case : Type 0 where
  pub number : ℕ
  pub yields : Outcome Answer
  pub paper : Outcome Answer

abbrev pub case : ℕ → Outcome Answer → Outcome Answer → Case
case n y p = record { number = n; yields = y; paper = p }

abbrev pub cases : List Case
cases =
    case 1 (told bytes (sheet_of (sigma_tables vendor operator vendor_to_operator run))) (accepted (bytes pushed_run)) ∷
    case 2 (told counts_of (delta_tables vendor operator vendor_to_operator pushed_run)) (accepted (counts (3 ∷ 2 ∷ 3 ∷ []))) ∷
    case 3 (told pushed_lists (sides vendor operator vendor_to_operator run book)) (accepted (lists ((2 ∷ 0 ∷ 1 ∷ 0 ∷ 1 ∷ []) ∷ []))) ∷
    case 3 (told raw_lists (sides vendor operator vendor_to_operator run book)) (accepted (lists ((2 ∷ 0 ∷ 0 ∷ 1 ∷ 1 ∷ []) ∷ []))) ∷
    case 4 (told counts_of (sigma_tables arrow point arrow_to_point arrow_run)) (refused 12 0) ∷
    case 4 (told counts_of (pi_tables arrow point arrow_to_point arrow_run)) (accepted (counts (3 ∷ []))) ∷
    case 5 (told counts_of (sigma_tables fork line fork_to_line fork_run)) (refused 12 0) ∷
    case 5 (told lifts_of (migration fork line fork_to_line)) (accepted (lifts (1 ∷ 1 ∷ []))) ∷
    case 6 (told links_of (pi_tables joint_weld pair joint_weld_to_pair joint_weld_run))
    (accepted (links (6 ∷ 2 ∷ 3 ∷ []) ((0 ∷ 0 ∷ 0 ∷ 1 ∷ 1 ∷ 1 ∷ []) ∷ (0 ∷ 1 ∷ 2 ∷ 0 ∷ 1 ∷ 2 ∷ []) ∷ []))) ∷
    case 7 (same_answers short_rule abf cdf) (accepted (equal true)) ∷
    case 8 (same_answers long_rule ab cd) (accepted (equal false)) ∷
    case 9 (told (λ _. checked) (check_schema [])) (refused 1 1) ∷
    case 9 (told bytes (path_question short_rule ab_and_byte)) (refused 2 2) ∷
    []

pub cases-hold : map (λ c. c.yields) cases ≡ map (λ c. c.paper) cases
unfolding field bit tail_ok pack gather bits_of digits Rattle.bits.specs.Pack.number total_width sum
cases-hold = refl

-- the table's rows of case n
abbrev pub cases_at : ℕ → List Case
cases_at n = filter (λ c. eqb c.number n) cases

abbrev pub Holds : ℕ → Type 0
Holds n = map (λ c. c.yields) (cases_at n) ≡ map (λ c. c.paper) (cases_at n)

-- each case as in the table, and over every list, sheet or run where the paper's sentence speaks of all
pub record StarredCases : Type 0 where
  pub case_1 : Holds 1
  pub case_2 : Holds 2
  pub case_3 : Holds 3 × OnlyMatchings
  pub case_4 : Holds 4 × ArrowToPoint
  pub case_5 : Holds 5 × ForkToLine
  pub case_6 : Holds 6
  pub case_7 : Holds 7 × ShortRule
  pub case_8 : Holds 8 × LongRule
  pub case_9 : Holds 9 × ByteTooMany

pub starred-cases : StarredCases
unfolding field bit tail_ok pack gather bits_of digits Rattle.bits.specs.Pack.number total_width sum
starred-cases = record {
  case_1 = refl;
  case_2 = refl;
  case_3 = (refl, only-matchings);
  case_4 = (refl, arrow-to-point);
  case_5 = (refl, fork-to-line);
  case_6 = refl;
  case_7 = (refl, short-rule);
  case_8 = (refl, long-rule);
  case_9 = (refl, byte-too-many);
}
