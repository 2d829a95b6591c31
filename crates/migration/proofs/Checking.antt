-- What the sheets of a schema and of two of its paths say together.
use Prim.Native.Nat.{ℕ}
use mathlib.Core.Path.{◌≡◌, ap}
use mathlib.Core.List.{List}
use Rattle.std.specs.Prelude.{Result, Ok, Err}
use Rattle.meaning.specs.Schema as meaning
use Rattle.meaning.specs.Judge.{judge_schema, judge_path}
use Rattle.meaning.specs.Calls.{Outcome, accepted, at, ◌>>=◌}
use Rattle.schema.specs.declared.Path.{Path}
use Rattle.schema.specs.declared.Schema.{Schema}
use Rattle.schema.specs.Decoded.{graph_of, path_of, schema_of}
use Rattle.steps.specs.declared.Refusal.{Refusal}
use Rattle.steps.specs.Answers.{outcome_of}

-- two path sheets, opened over any accepted schema
module _ (s p q : List ℕ) (a b : Schema → Result Path Refusal)
    (P : (t : Schema) → outcome_of path_of (a t) ≡ at 2 (judge_path (graph_of t.graph) p))
    (Q : (t : Schema) → outcome_of path_of (b t) ≡ at 3 (judge_path (graph_of t.graph) q)) where
  -- what is made of the schema and the paths, or the first refusal, is what their judges say
  pub paths-judged : {A : Type 0} (g : meaning.Schema → meaning.Path → meaning.Path → A) (T : Result Schema Refusal) → outcome_of schema_of T ≡ at 1 (judge_schema s)
      → (outcome_of (λ t. t) T >>= λ t. outcome_of path_of (a t) >>= λ x. outcome_of path_of (b t) >>= λ y. accepted (g (schema_of t) x y))
      ≡ (at 1 (judge_schema s) >>= λ S. at 2 (judge_path S.graph p) >>= λ x. at 3 (judge_path S.graph q) >>= λ y. accepted (g S x y))
  paths-judged g (Ok t) h = rw (P t, Q t) (ap (λ X. X >>= λ S. at 2 (judge_path S.graph p) >>= λ x. at 3 (judge_path S.graph q) >>= λ y. accepted (g S x y)) h)
  paths-judged g (Err r) h = ap (λ X. X >>= λ S. at 2 (judge_path S.graph p) >>= λ x. at 3 (judge_path S.graph q) >>= λ y. accepted (g S x y)) h
