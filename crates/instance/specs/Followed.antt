-- Links in a working array, followed edge by edge.
use Rattle.std.specs.Prelude.{ℕ, ◌+◌, ◌*◌, ◌<◌, Bool, List, [], ◌∷◌, eqb, length, get_or}
use Rattle.theory.specs.Numbering.{tabulate}
use Rattle.theory.specs.Instance.{follow}
use Rattle.meaning.specs.Lists.{all}

-- the row to which edge e links row r
abbrev pub link_in : List ℕ → ℕ → ℕ → ℕ
link_in links e r = get_or links (512 * e + r) 0

-- edges followed from row r on stay within the array
abbrev pub Stays : List ℕ → List ℕ → ℕ → Type 0
Stays links [] r = Unit {0}
Stays links (e ∷ es) r = (512 * e + r < length links) × Stays links es (link_in links e r)

-- edges can be followed from each of the first rows
pub record Followable (links es : List ℕ) (rows : ℕ) : Type 0 where
  pub stays : (x : ℕ) → x < rows → Stays links es x

-- two lists of edges lead each of the first rows to the same row
abbrev pub agree_on : List ℕ → List ℕ → List ℕ → ℕ → Bool
agree_on links l r rows = all (λ x. eqb (follow (link_in links) l x) (follow (link_in links) r x)) (tabulate rows (λ x. x))
