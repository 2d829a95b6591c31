-- Meaning's lines as pieces in a row: each part behind the first with its space.
use Prim.Native.Nat.{ℕ, zero, suc, ◌+◌, ◌<◌}
use mathlib.Core.Path.{◌≡◌, refl, sym, ap, ◌∙◌}
use mathlib.Core.Bool.{Bool, true, false}
use mathlib.Core.List.{List, [], ◌∷◌, ◌++◌, map, append_assoc}
use native.Mathlib.Omega.{arith}
use lib.ListN.{length}
use lib.Dec.{eqb}
use Rattle.meaning.specs.Lists.{range, upto, cons_if, filter, concat_map}
use Rattle.meaning.specs.Schema.{Schema, source, attribute_at, leaving}
use Rattle.meaning.specs.Formats.{Instance}
use Rattle.meaning.specs.Views.{link, value}
use Rattle.meaning.specs.Evenness.{attributes_at}
use Rattle.meaning.specs.Program.{codes, newline, space, decimal, line, row_line, shown}
use Rattle.meaning.specs.Calls.{refused}
use Rattle.meaning.proofs.PathLevels.{concat_map-append}
use Rattle.text.specs.Appended.{digits, part, line_of, header_text, refusal_text}
use Rattle.text.specs.Rows.{part_if}

-- ---- lists of pieces

pub pieces-same : (f g : ℕ → List ℕ) (k n : ℕ) → ((i : ℕ) → i < k + n → f i ≡ g i) → concat_map f (range k n) ≡ concat_map g (range k n)
pieces-same f g k zero h = refl
pieces-same f g k (suc n) h = rw (h k (omega arith), pieces-same f g (suc k) n (λ i l. h i (omega arith)))

-- ---- a line

line-pieces : (w : List ℕ) (ns : List ℕ) → line (w ∷ map decimal ns) ≡ w ++ (concat_map part ns ++ (newline ∷ []))
unfolding part digits
line-pieces w [] = refl
line-pieces w (n ∷ ns) = ap (λ (l : List ℕ). w ++ (space ∷ l)) (line-pieces (decimal n) ns ∙ sym (append_assoc (decimal n) (concat_map part ns) (newline ∷ [])))

pub header-line : (tables rows : ℕ) → line (codes "tables" ∷ decimal tables ∷ codes "rows" ∷ decimal rows ∷ []) ≡ header_text tables rows
unfolding line_of part digits
header-line tables rows = refl

pub refusal-line : (number place : ℕ) → shown (refused number place) ≡ refusal_text number place
unfolding line_of part digits
refusal-line number place = refl

-- the parts of the things that pass a test
module _ (p : ℕ → Bool) (g : ℕ → ℕ) where
  passing-one : (x : ℕ) (xs : List ℕ) (b : Bool) → concat_map part (map g (cons_if b x xs)) ≡ part_if b (g x) ++ concat_map part (map g xs)
  unfolding part_if
  passing-one x xs true = refl
  passing-one x xs false = refl

  passing-pieces : (l : List ℕ) → concat_map part (map g (filter p l)) ≡ concat_map (λ k. part_if (p k) (g k)) l
  passing-pieces [] = refl
  passing-pieces (x ∷ l) = passing-one x (filter p l) (p x) ∙ ap (λ (m : List ℕ). part_if (p x) (g x) ++ m) (passing-pieces l)

-- ---- the line of a row

module _ (T : Schema) (J : Instance) (d r : ℕ) where
  abbrev pub link_piece : ℕ → List ℕ
  link_piece e = part_if (eqb (source T.graph e) d) (link J e r)

  abbrev pub value_piece : ℕ → List ℕ
  value_piece b = part_if (eqb (attribute_at T b).node d) (value J b r)

  abbrev pub link_pieces : List ℕ
  link_pieces = concat_map link_piece (upto (length T.graph.edges))

  abbrev pub value_pieces : List ℕ
  value_pieces = concat_map value_piece (upto (length T.attributes))

  pub row-pieces : row_line T J d r ≡ line_of (digits d) (part r) link_pieces value_pieces
  unfolding line_of digits
  row-pieces =
      let ls = map (λ e. link J e r) (leaving T.graph d) in
      let vs = map (λ b. value J b r) (attributes_at T d) in
      line-pieces (decimal d) (r ∷ (ls ++ vs))
      ∙ ap (λ (l : List ℕ). decimal d ++ ((part r ++ l) ++ (newline ∷ []))) (concat_map-append part ls vs)
      ∙ ap (λ (l : List ℕ). decimal d ++ ((part r ++ (l ++ concat_map part vs)) ++ (newline ∷ []))) (passing-pieces (λ e. eqb (source T.graph e) d) (λ e. link J e r) (upto (length T.graph.edges)))
      ∙ ap (λ (l : List ℕ). decimal d ++ ((part r ++ (link_pieces ++ l)) ++ (newline ∷ []))) (passing-pieces (λ b. eqb (attribute_at T b).node d) (λ b. value J b r) (upto (length T.attributes)))
      ∙ ap (λ (l : List ℕ). decimal d ++ l) (append_assoc (part r) (link_pieces ++ value_pieces) (newline ∷ []) ∙ ap (λ (l : List ℕ). part r ++ l) (append_assoc link_pieces value_pieces (newline ∷ [])))
