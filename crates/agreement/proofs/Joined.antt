-- Lists given number by number, and lists joined as Sigma joins tables: for all nodes with one image, ascending. A row's place there is the theory's.
use Prim.Native.Nat.{ℕ, zero, suc, ◌+◌, ◌<◌}
use mathlib.Core.Path.{◌≡◌, refl, sym, ap, ap₂, ◌∙◌}
use mathlib.Core.List.{List, [], ◌∷◌, ◌++◌, map, append-nil}
use mathlib.Core.Logic.{ite}
use native.Mathlib.Omega.{arith}
use native.Mathlib.Decide.{ℕ_discrete}
use native.Mathlib.Nat.{not-suc-le-zero}
use lib.ListN.{length, get_or, length-append, length-map, get_or-append}
use lib.Seq.{get_or-append-add}
use lib.Dec.{eqb}
use borrow.Author.Tests.{eq-eqb, ne_eqb}
use Rattle.theory.specs.Numbering.{sum}
use Rattle.theory.specs.Sigma.{share, place}
use Rattle.theory.proofs.Numbering.{sum_mono}
use Rattle.theory.proofs.Sigma.{share-own}
use Rattle.meaning.specs.Lists.{upto, concat_map, cons_if}
use Rattle.meaning.specs.Schema.{Schema}
use Rattle.meaning.specs.Formats.{Mapping, Instance}
use Rattle.meaning.specs.Views.{node_image, mapping_of, count, rows, instance_of}
use Rattle.meaning.specs.Sigma.{fibre_below, rows_in, first_row}
use Rattle.meaning.proofs.Lists.{upto-length, upto-get_or, get_d_map}
use Rattle.meaning.proofs.PathLevels.{concat_map-append}

-- ---- the list of f 0, f 1, .. f (n - 1)

module _ {A : Type 0} (f : ℕ → A) (n : ℕ) where
  pub map-upto-length : length (map f (upto n)) ≡ n
  map-upto-length = length-map (upto n) f ∙ upto-length n

  pub map-upto-get_or : (d : A) (i : ℕ) → i < n → get_or (map f (upto n)) i d ≡ f i
  map-upto-get_or d i h = get_d_map f (upto n) 0 d i (rw (upto-length n) h) ∙ ap f (upto-get_or n i 0 h)

-- ---- lists of given lengths, one after the other

-- f 0, f 1, .. f (n - 1), joined
abbrev pub join : {A : Type 0} → (ℕ → List A) → ℕ → List A
join f zero = []
join f (suc n) = join f n ++ f n

module _ {A : Type 0} (f : ℕ → List A) (w : ℕ → ℕ) where
  pub join-length : (n : ℕ) → ((c : ℕ) → c < n → length (f c) ≡ w c) → length (join f n) ≡ sum w n
  unfolding sum
  join-length zero h = refl
  join-length (suc n) h = length-append (join f n) (f n) ∙ ap₂ (λ (a b : ℕ). a + b) (join-length n (λ c l. h c (omega arith))) (h n (omega arith))

  -- row x of list c stands at its number
  join-at : (d : A) (n : ℕ) → ((c : ℕ) → c < n → length (f c) ≡ w c) → (c x : ℕ) → c < n → x < w c → get_or (join f n) (sum w c + x) d ≡ get_or (f c) x d
  join-at d zero h c x i l = absurd (not-suc-le-zero i)
  join-at d (suc n) h c x i l = elim (ℕ_discrete c n) [
    | yes e ↦
        let k : length (join f n) ≡ sum w n = join-length n (λ c l. h c (omega arith)) in
        rw (e, ← k) (get_or-append-add (join f n) (f n) x d)
    | no e ↦
        let k : length (join f n) ≡ sum w n = join-length n (λ c l. h c (omega arith)) in
        let m : sum w c + x < sum w n = sum_mono w n c x (omega arith) l in
        get_or-append (join f n) (f n) d (sum w c + x) (rw k m) ∙ join-at d n (λ c l. h c (omega arith)) c x (omega arith) l
  ]

-- ---- the tables over one node

-- what c gives to a list joined at d
abbrev part : {A : Type 0} → Mapping → ℕ → (ℕ → List A) → ℕ → List A
part F d f c = concat_map f (cons_if (eqb (node_image F c) d) c [])

fibre-join : {A : Type 0} (F : Mapping) (d : ℕ) (f : ℕ → List A) (n : ℕ) → concat_map f (fibre_below F n d) ≡ join (part F d f) n
fibre-join F d f zero = refl
fibre-join {A = A} F d f (suc n) =
    concat_map-append f (fibre_below F n d) (cons_if (eqb (node_image F n) d) n [])
    ∙ ap (λ (t : List A). t ++ part F d f n) (fibre-join F d f n)

module _ (S T : Schema) (F : Mapping) (I : Instance) where
  abbrev share_at : ℕ → ℕ → ℕ
  share_at d = share (mapping_of S T F) (instance_of I) d

  module _ {A : Type 0} (d : ℕ) (f : ℕ → List A) where
    part_length : (c : ℕ) → (node_image F c ≡ d → length (f c) ≡ count I c) → length (part F d f c) ≡ share_at d c
    unfolding share
    part_length c h = go (ℕ_discrete (node_image F c) d)
      where
        go : (k : Dec (node_image F c ≡ d)) → length (part F d f c) ≡ ite k (count I c) 0
        go (yes e) = rw (eq-eqb (node_image F c) d e) (ap length (append-nil (f c)) ∙ h e)
        go (no e) = rw (ne_eqb (node_image F c) d e)

    -- lists as long as the tables, joined at d
    pub fibre-length : (n : ℕ) → ((c : ℕ) → c < n → node_image F c ≡ d → length (f c) ≡ count I c) → length (concat_map f (fibre_below F n d)) ≡ sum (share_at d) n
    fibre-length n h = ap length (fibre-join F d f n) ∙ join-length (part F d f) (share_at d) n (λ c l. part_length c (h c l))

  -- the entry for row x of c stands at the row's place
  pub fibre-at : {A : Type 0} (f : ℕ → List A) (z : A) (n c x : ℕ) → ((b : ℕ) → b < n → node_image F b ≡ node_image F c → length (f b) ≡ count I b)
      → c < n → x < count I c → get_or (concat_map f (fibre_below F n (node_image F c))) (place (mapping_of S T F) (instance_of I) c x) z ≡ get_or (f c) x z
  fibre-at {A} f z n c x h i l =
      let d = node_image F c in
      ap (λ (t : List A). get_or t (sum (share_at d) c + x) z) (fibre-join F d f n)
      ∙ join-at (part F d f) (share_at d) z n (λ b k. part_length d f b (h b k)) c x i (rw (share-own (mapping_of S T F) (instance_of I) c) l)
      ∙ ap (λ (t : List A). get_or t x z) (let e : part F d f c ≡ f c = rw (eq-eqb d d refl) (append-nil (f c)) in e)

  pub rows_in-share : (d n : ℕ) → rows_in I (fibre_below F n d) ≡ sum (share_at d) n
  rows_in-share d n = sym (rows-length (fibre_below F n d)) ∙ fibre-length d (rows I) n (λ c l e. upto-length (count I c))
    where
      rows-length : (cs : List ℕ) → length (concat_map (rows I) cs) ≡ rows_in I cs
      rows-length [] = refl
      rows-length (c ∷ cs) = length-append (rows I c) (concat_map (rows I) cs) ∙ ap₂ (λ (a b : ℕ). a + b) (upto-length (count I c)) (rows-length cs)

  -- document 01 numbers a row by its place in the joined list, as the theory does
  pub place_is : (c x : ℕ) → place (mapping_of S T F) (instance_of I) c x ≡ first_row F I c + x
  place_is c x = ap (λ (n : ℕ). n + x) (sym (rows_in-share (node_image F c) c))
