-- Composed mappings (document 02, C-17), computed: images of different lengths joined, the identity as unit, three mappings joined either way, a refusal at
-- each place, and Sigma along a composite in another order than along both.
use Prim.Native.Nat.{ℕ}
use mathlib.Core.Path.{◌≡◌, refl}
use mathlib.Core.List.{List, [], ◌∷◌, ◌++◌, map}
use lib.ListN.{replicate}
use Rattle.bits.specs.Field.{field, bit, tail_ok}
use Rattle.bits.specs.Pack.{pack, gather, bits_of, digits, number, total_width}
use Rattle.meaning.specs.Lists.{upto}
use Rattle.meaning.specs.Schema.{Schema}
use Rattle.meaning.specs.Category.{listed_category}
use Rattle.meaning.specs.Formats.{Mapping, Instance, mapping_sheet}
use Rattle.meaning.specs.Judge.{judge_schema}
use Rattle.meaning.specs.Sigma.{sigma}
use Rattle.meaning.specs.Calls.{Outcome, refused, accepted, ◌>>=◌, at, in_tray}
use Rattle.meaning.specs.Composition.{composite, identity, compose}
use Rattle.meaning.proofs.Examples.{vendor, operator, vendor_to_operator, point}
use Rattle.meaning.proofs.MoreCases.{triangle}

-- ---- sheets

-- each node, edge and attribute to itself
abbrev pub vendor_to_vendor : List ℕ
vendor_to_vendor = 0x01 ∷ 0x21 ∷ 0x00 ∷ 0x84 ∷ 0x04 ∷ []

abbrev pub operator_to_operator : List ℕ
operator_to_operator = 0x01 ∷ 0x10 ∷ 0x00 ∷ []

-- an edge 0 to 1, a station on 1
abbrev pub one_step : List ℕ
one_step = 0x10 ∷ 0x21 ∷ 0x00 ∷ 0x04 ∷ 0x44 ∷ []

-- edges 0 to 1 and 1 to 2, stations on 0 and 2
abbrev pub two_steps : List ℕ
two_steps = 0x18 ∷ 0x42 ∷ 0x00 ∷ 0x04 ∷ 0x48 ∷ 0x04 ∷ 0x84 ∷ []

-- edges 1 to 2, 2 to 3 and 0 to 1, stations on 3 and 0
abbrev pub three_steps : List ℕ
three_steps = 0x20 ∷ 0x62 ∷ 0x00 ∷ 0x48 ∷ 0x8C ∷ 0x04 ∷ 0xC4 ∷ 0x04 ∷ []

-- nodes 0 2; the edge to 0 1; the station to 1
abbrev pub one_to_two : List ℕ
one_to_two = 0x02 ∷ 0x20 ∷ 0x04 ∷ 0x40 ∷ []

-- nodes 0 2 3; the edges to 2 0 and to 1; the stations to 1 and 0
abbrev pub two_to_three : List ℕ
two_to_three = 0x02 ∷ 0x32 ∷ 0x10 ∷ 0x04 ∷ 0x22 ∷ 0x00 ∷ []

-- nodes 0 3; the edge to 2 0 1; the station to 0
abbrev pub one_to_three : List ℕ
one_to_three = 0x03 ∷ 0x31 ∷ 0x00 ∷ 0x20 ∷ []

-- nodes 0 1 1 2; the edges to the trivial path, to 1 and to 0; the stations to 1 and 0
abbrev pub three_to_two : List ℕ
three_to_two = 0x01 ∷ 0x12 ∷ 0x01 ∷ 0x08 ∷ 0x80 ∷ 0x40 ∷ []

-- the triangle's edges without its rule, and the mapping to them that sends each to itself
abbrev pub free_triangle : List ℕ
free_triangle = 0x18 ∷ 0x60 ∷ 0x00 ∷ 0x04 ∷ 0x48 ∷ 0x08 ∷ []

abbrev pub triangle_to_free : List ℕ
triangle_to_free = 0x01 ∷ 0x21 ∷ 0x00 ∷ 0x84 ∷ 0x44 ∷ []

-- ---- tables that change places on the way: nodes 0 1 2 go to 1 0 1, and then all to 0, and so do their stations

abbrev points : ℕ → Schema
points n = record { graph = record { nodes = n; edges = [] }; attributes = map (λ c. record { node = c; kind = 1 }) (upto n); equations = [] }

abbrev pub to_two : Mapping
to_two = record { nodes = 1 ∷ 0 ∷ 1 ∷ []; edges = []; attributes = 1 ∷ 0 ∷ 1 ∷ [] }

abbrev pub to_one : Mapping
to_one = record { nodes = 0 ∷ 0 ∷ []; edges = []; attributes = 0 ∷ 0 ∷ [] }

-- a row in each table
abbrev pub three_rows : Instance
three_rows = record { counts = 1 ∷ 1 ∷ 1 ∷ []; links = []; values = (10 ∷ []) ∷ (20 ∷ []) ∷ (30 ∷ []) ∷ [] }

abbrev along : (m n : ℕ) → Mapping → Instance → Instance
along m n F I = sigma (listed_category (points m)) (listed_category (points n)) F I

-- ---- the cases

abbrev pub identity_sheet : List ℕ → Outcome (List ℕ)
identity_sheet s = do
  S ← at 1 (judge_schema s)
  accepted (mapping_sheet (identity S))

-- from one step over two to three
abbrev pub composed : Outcome (List ℕ)
composed = compose one_step two_steps three_steps one_to_two two_to_three

pub record CompositionCases : Type 0 where
  -- images of two edges and of one, joined
  pub joined : composed ≡ accepted one_to_three
  pub vendor_identity : identity_sheet vendor ≡ accepted vendor_to_vendor
  pub operator_identity : identity_sheet operator ≡ accepted operator_to_operator
  pub identity_first : compose vendor vendor operator vendor_to_vendor vendor_to_operator ≡ accepted vendor_to_operator
  pub identity_last : compose vendor operator operator vendor_to_operator operator_to_operator ≡ accepted vendor_to_operator
  -- three mappings, the first two joined first, and the last two, which together are the identity
  pub first_two : compose one_step three_steps two_steps one_to_three three_to_two ≡ accepted one_to_two
  pub last_two : compose two_steps three_steps two_steps two_to_three three_to_two ≡ identity_sheet two_steps
  pub either_way : (composed >>= (λ h. compose one_step three_steps two_steps h three_to_two)) ≡
      (compose two_steps three_steps two_steps two_to_three three_to_two >>= (λ h. compose one_step two_steps two_steps one_to_two h))
  pub room : in_tray (replicate 5 0xA5) composed ≡ record { answer = accepted 4; tray = one_to_three ++ (0xA5 ∷ []) }
  pub no_room : in_tray (replicate 3 0xA5) composed ≡ record { answer = refused 16 0; tray = replicate 3 0xA5 }
  -- the first of the faulty sheets is refused
  pub first_cut : compose [] [] three_steps one_to_two two_to_three ≡ refused 1 1
  pub second_empty : compose one_step (0x00 ∷ 0x00 ∷ 0x00 ∷ []) [] one_to_two two_to_three ≡ refused 3 2
  pub third_too_long : compose one_step two_steps (three_steps ++ (0x00 ∷ [])) [] two_to_three ≡ refused 2 3
  pub misfit_first : compose one_step two_steps three_steps one_to_three [] ≡ refused 7 4
  pub broken_last : compose point triangle free_triangle (0x00 ∷ []) triangle_to_free ≡ refused 8 5
  -- Sigma in one step and in two: the same rows in another order
  pub one-step : (along 3 1 (composite to_two to_one) three_rows).values ≡ (10 ∷ 20 ∷ 30 ∷ []) ∷ []
  pub two_steps_lem : (along 2 1 to_one (along 3 2 to_two three_rows)).values ≡ (20 ∷ 10 ∷ 30 ∷ []) ∷ []

pub composition-cases : CompositionCases
unfolding field bit tail_ok pack gather bits_of digits number total_width
composition-cases = record {
  joined = refl;
  vendor_identity = refl;
  operator_identity = refl;
  identity_first = refl;
  identity_last = refl;
  first_two = refl;
  last_two = refl;
  either_way = refl;
  room = refl;
  no_room = refl;
  first_cut = refl;
  second_empty = refl;
  third_too_long = refl;
  misfit_first = refl;
  broken_last = refl;
  one-step = refl;
  two_steps_lem = refl;
}
