-- Demand 3, of what the two checkers and the two turnings answer, bytes in and bytes out: its provisos (`Provided`) and its clauses (`Clauses`).
-- Even, Sigma, Delta and matchings are the theory's; what a sheet says and what a call yields are document 01's.
use Rattle.std.specs.Prelude.{◌≡◌, List, ◌++◌, ◌↔◌, ℕ, ◌+◌, ◌*◌, ◌<◌, ◌≤◌, length, take, drop}
use Rattle.bits.specs.Field.{Bytes, field, bytes_for}
use Rattle.theory.specs.Numbering.{sum}
use Rattle.theory.specs.Schema as theory_schema
use Rattle.theory.specs.Instance as theory_instance
use Rattle.theory.specs.Mapping as theory_mapping
use Rattle.theory.specs.Sigma.{IsSigma, place}
use Rattle.theory.specs.Matching.{IsMatching}
use Rattle.meaning.specs.Schema.{Schema}
use Rattle.meaning.specs.Category.{listed_category}
use Rattle.meaning.specs.Sheet.{sound}
use Rattle.meaning.specs.Formats.{Mapping, Instance, max_rows, matching_sheet}
use Rattle.meaning.specs.Views.{schema_of, mapping_of, instance_of}
use Rattle.meaning.specs.Judge.{judge_schema, judge_mapping, judge_instance}
use Rattle.meaning.specs.Calls.{Outcome, refused, accepted, check_pushed, check_raw, pushed_to_raw, raw_to_pushed, Lent, in_tray}

-- ---- what a call answers

abbrev pub Accepts : {A : Type 0} → Outcome A → Type 0
Accepts {A} o = (a : A) × (o ≡ accepted a)

abbrev pub Refuses : {A : Type 0} → Outcome A → Type 0
Refuses o = (n place : ℕ) × (o ≡ refused n place)

-- a call that was lent a tray gives the byte length of r and has written r there; bytes beyond it keep their values
pub record Writes (tray r : List ℕ) (out : Lent) : Type 0 where
  pub says : out.answer ≡ accepted (length r)
  pub written : out.tray ≡ r ++ drop (length r) tray

-- a call that was lent a tray refuses, and has changed no byte of it
pub record RefusesTray (tray : List ℕ) (out : Lent) : Type 0 where
  pub refuses : Refuses out.answer
  pub unchanged : out.tray ≡ tray

abbrev pub Checker : Type 0
Checker = List ℕ → Outcome (Unit {0})

-- of a tray and a list
abbrev pub Turning : Type 0
Turning = List ℕ → List ℕ → Lent

-- the answers of the four calls to a list, the other sheets being lent
pub record Answers : Type 0 where
  pub check-pushed : Checker
  pub check-raw : Checker
  pub to-raw : Turning
  pub to-pushed : Turning

-- those of their meanings
abbrev pub meaning_answers : List ℕ → List ℕ → List ℕ → List ℕ → List ℕ → Answers
meaning_answers s t f i j = record {
  check-pushed = check_pushed s t f i j;
  check-raw = check_raw s t f i j;
  to-raw = λ tray k. in_tray tray (pushed_to_raw s t f i j k);
  to-pushed = λ tray k. in_tray tray (raw_to_pushed s t f i j k);
}

-- ---- the provisos

-- sheets s, t, f, i and j of accepted schemas, an accepted mapping between them that is a discrete op-fibration with matching columns,
-- an accepted run and an accepted book, and both migrated tables accepted: `pushed` is Sigma of the run
pub record Provided (s t f i j : List ℕ) : Type 0 where
  pub S : Schema
  pub T : Schema
  pub F : Mapping
  pub run : Instance
  pub book : Instance
  pub pushed : theory_instance.Instance ℕ
  pub s_accepted : judge_schema s ≡ sound S
  pub t_accepted : judge_schema t ≡ sound T
  pub f_accepted : judge_mapping (listed_category S) (listed_category T) f ≡ sound F
  pub f_even : theory_mapping.Even (mapping_of S T F)
  pub run_accepted : judge_instance S i ≡ sound run
  pub book_accepted : judge_instance T j ≡ sound book
  pub pushed_is : IsSigma (mapping_of S T F) (instance_of run) pushed
  pub pushed_accepted : theory_instance.rows (schema_of T) pushed ≤ max_rows
  pub pulled_accepted : theory_instance.rows (schema_of S) (theory_mapping.delta (mapping_of S T F) (instance_of book)) ≤ max_rows

-- ---- the two sides

-- a side: matchings from A to B, and where in such a list the number for raw row y of c stands
pub record Side : Type 1 where
  pub schema : theory_schema.Schema
  pub A : theory_instance.Instance ℕ
  pub B : theory_instance.Instance ℕ
  pub position : ℕ → ℕ → ℕ

-- a list is a matching if it is the whole sheet of one
pub record MatchingOf (side : Side) (k : List ℕ) : Type 0 where
  pub list : List ℕ
  pub matching : IsMatching side.schema side.A side.B list
  pub whole : k ≡ matching_sheet list

-- the book row that raw row y of c meets: the one whose number the list k has for it
abbrev pub meets : Side → List ℕ → ℕ → ℕ → ℕ
meets side k c y = field k (9 * side.position c y) 9

-- a tray that holds a list of the side
abbrev pub Holds : Side → List ℕ → Type 0
Holds side tray = bytes_for (9 * theory_instance.rows side.schema side.A) ≤ length tray

-- ---- the clauses, of a turning from `here` to `there`, which is lent a tray and a list

-- a checker accepts a list exactly when it is a matching of its side
abbrev pub Checks : Side → Checker → Type 0
Checks side check = (k : List ℕ) → Bytes k → Accepts (check k) ↔ MatchingOf side k

-- a turning takes exactly the matchings of the side it starts from
abbrev pub Takes : Side → Side → Turning → Type 0
Takes here there turn = (k tray : List ℕ) → Bytes k → Holds there tray → Accepts (turn tray k).answer ↔ MatchingOf here k

-- it turns each into one matching of the other side
abbrev pub Turns : Side → Side → Turning → Type 0
Turns here there turn =
    (k : List ℕ) → MatchingOf here k
    → (r : List ℕ) × MatchingOf there r × ((tray : List ℕ) → Holds there tray → Writes tray r (turn tray k) × ((r' : List ℕ) → Writes tray r' (turn tray k) → r' ≡ r))

-- each matching there comes from exactly one here
abbrev pub ComesFromOne : Side → Side → Turning → Type 0
ComesFromOne here there turn =
    (r : List ℕ) → MatchingOf there r
    → (k : List ℕ) × MatchingOf here k × ((tray : List ℕ) → Holds there tray → Writes tray r (turn tray k) × ((k' : List ℕ) → Bytes k' → Writes tray r (turn tray k') → k' ≡ k))

-- turning the result back, cut to its byte length, gives the first list again, byte for byte
abbrev pub TurnsBack : Side → Side → Turning → Turning → Type 0
TurnsBack here there turn back =
    (k tray tray' : List ℕ) (n : ℕ) → MatchingOf here k → Holds there tray → Holds here tray'
    → (turn tray k).answer ≡ accepted n → Writes tray' k (back tray' (take n (turn tray k).tray))

-- each raw row meets the same book row on both sides; `run` has the raw rows
abbrev pub MeetsSame : theory_schema.Schema → theory_instance.Instance ℕ → Side → Side → Turning → Type 0
MeetsSame S run here there turn =
    (k r tray : List ℕ) → MatchingOf here k → Holds there tray → Writes tray r (turn tray k)
    → (c : ℕ) → c < S.nodes → (y : ℕ) → y < run.count c → meets there r c y ≡ meets here k c y

module _ {s t f i j : List ℕ} (x : Provided s t f i j) where
  -- from Sigma's result to the book; a raw row's number stands at its place in the joined list
  abbrev pub pushed_side : Side
  pushed_side =
      let F = mapping_of x.S x.T x.F in
      record {
        schema = schema_of x.T;
        A = x.pushed;
        B = instance_of x.book;
        position = λ c y. sum x.pushed.count (F.node c) + place F (instance_of x.run) c y;
      }

  -- from the run to Delta's result
  abbrev pub raw_side : Side
  raw_side = record {
    schema = schema_of x.S;
    A = instance_of x.run;
    B = theory_mapping.delta (mapping_of x.S x.T x.F) (instance_of x.book);
    position = λ c y. sum (instance_of x.run).count c + y;
  }

  -- of the answers a to the sheets s, t, f, i and j
  pub record Clauses (a : Answers) : Type 0 where
    -- each checker accepts a list exactly when it is a matching of its side
    pub pushed_checked : Checks pushed_side a.check-pushed
    pub raw_checked : Checks raw_side a.check-raw
    -- each turning takes exactly the matchings of the side it starts from
    pub pushed_taken : Takes pushed_side raw_side a.to-raw
    pub raw_taken : Takes raw_side pushed_side a.to-pushed
    -- and turns each into one matching of the other side
    pub pushed_turned : Turns pushed_side raw_side a.to-raw
    pub raw_turned : Turns raw_side pushed_side a.to-pushed
    -- each matching there comes from exactly one here
    pub raw_comes : ComesFromOne pushed_side raw_side a.to-raw
    pub pushed_comes : ComesFromOne raw_side pushed_side a.to-pushed
    -- turning the result back gives the first list again, byte for byte
    pub pushed_back : TurnsBack pushed_side raw_side a.to-raw a.to-pushed
    pub raw_back : TurnsBack raw_side pushed_side a.to-pushed a.to-raw
    -- and each raw row meets the same book row on both sides
    pub pushed_meets : MeetsSame (schema_of x.S) (instance_of x.run) pushed_side raw_side a.to-raw
    pub raw_meets : MeetsSame (schema_of x.S) (instance_of x.run) raw_side pushed_side a.to-pushed

-- ---- where a proviso fails, each of the four calls refuses, whatever list and tray are lent, and no turning changes its tray

pub record AllRefuse (a : Answers) : Type 0 where
  pub pushed_refused : (k : List ℕ) → Refuses (a.check-pushed k)
  pub raw_refused : (k : List ℕ) → Refuses (a.check-raw k)
  pub to_raw_refused : (tray k : List ℕ) → RefusesTray tray (a.to-raw tray k)
  pub to_pushed_refused : (tray k : List ℕ) → RefusesTray tray (a.to-pushed tray k)
