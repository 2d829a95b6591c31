-- Images looked up one by one, and joined one behind the other.
use Prim.Native.Nat.{ℕ, ◌+◌, ◌-◌, ◌≤◌, ◌<◌}
use mathlib.Core.Path.{◌≡◌, sym, ap, ap₂, ◌∙◌}
use mathlib.Core.List.{List, [], ◌∷◌, ◌++◌, map, append-nil}
use native.Mathlib.Omega.{arith}
use native.Mathlib.Numerals.{add-one}
use lib.ListN.{length, get_or, take, length-append}
use borrow.Author.Rules.{rules}
use borrow.Rule.Slice.PartMut.{put_mid}
use Rattle.std.proofs.lemmas.List.{places}
use Rattle.theory.specs.Numbering.{tabulate}
use Rattle.theory.proofs.Numbering.{tabulate-length, tabulate-get_or}
use Rattle.theory.proofs.Mapping.{image-append}
use Rattle.meaning.proofs.Tabulate.{tabulate-more, tabulate-same, tabulate-plus, map-tabulate}
use Rattle.schema.specs.Decoded.{front_of}
use Rattle.instance.specs.Stored.{Counts}
use Rattle.mapping.specs.declared.Image.{Image}
use Rattle.mapping.specs.Decoded.{image_of, no_image}
use Rattle.mapping.specs.Judged.{joined_images}
use Rattle.compose.specs.Composed.{Below}

pub looked-up : {n m : ℕ} (l image : List ℕ) {r : List ℕ} → Below n l m → Counts n (λ k. get_or image (get_or l k 0) 0) r → front_of n r ≡ map (λ c. get_or (front_of m image) c 0) (front_of n l)
looked-up {n} {m} l image b u =
    tabulate-same n (λ i h. u.each i h ∙ sym (tabulate-get_or m (λ j. get_or image j 0) 0 (get_or l i 0) (b.each i h)))
    ∙ sym (map-tabulate (λ c. get_or (front_of m image) c 0) n (λ i. get_or l i 0))

-- n numbers are written behind the first ones
pub written-behind : (base n : ℕ) (xs ys : List ℕ) → base + n ≤ length xs → n ≤ length ys → front_of (base + n) (put_mid base n xs (take n ys)) ≡ front_of base xs ++ front_of n ys
written-behind base n xs ys h l =
    tabulate-plus base n (λ i. get_or (put_mid base n xs (take n ys)) i 0)
    ∙ ap₂ (λ (a b : List ℕ). a ++ b) (tabulate-same base (λ i k. search (rules, places))) (tabulate-same n (λ i k. search (rules, places)))

pub image-length : (i : Image) → length (image_of i) ≡ i.length
image-length i = tabulate-length i.length (λ k. get_or i.edges k 0)

-- ---- the images of the first edges of a path
module _ (edge : List Image) (es : List ℕ) where
  abbrev pub joined_to : ℕ → List ℕ
  joined_to i = joined_images edge (front_of i es)

  abbrev pub image_at : ℕ → List ℕ
  image_at i = image_of (get_or edge (get_or es i 0) no_image)

  pub joined-more : (i : ℕ) → joined_to (i + 1) ≡ joined_to i ++ image_at i
  joined-more i =
      ap joined_to (add-one i)
      ∙ ap (joined_images edge) (tabulate-more i (λ k. get_or es k 0))
      ∙ image-append (λ e. image_of (get_or edge e no_image)) (front_of i es) (get_or es i 0 ∷ [])
      ∙ ap (λ (l : List ℕ). joined_to i ++ l) (append-nil (image_at i))

  -- they are a part of those of all
  pub joined-within : (i n : ℕ) → i ≤ n → length (joined_to i) ≤ length (joined_to n)
  joined-within i n h =
      let q : n ≡ i + (n - i) = omega arith in
      let rest = tabulate (n - i) (λ k. get_or es (i + k) 0) in
      let split : joined_to n ≡ joined_to i ++ joined_images edge rest =
      ap joined_to q
      ∙ ap (joined_images edge) (tabulate-plus i (n - i) (λ k. get_or es k 0))
      ∙ image-append (λ e. image_of (get_or edge e no_image)) (front_of i es) rest
      in
      let e : length (joined_to n) ≡ length (joined_to i) + length (joined_images edge rest) = ap length split ∙ length-append (joined_to i) (joined_images edge rest) in
      omega arith

  -- there is room for the next image
  pub room : {i n : ℕ} → i < n → length (joined_to n) ≤ 15 → (image : Image) → image_of image ≡ joined_to i → image.length + (get_or edge (get_or es i 0) no_image).length ≤ 15
  room {i} {n} h few image e =
      let next = get_or edge (get_or es i 0) no_image in
      let a : length (joined_to (i + 1)) ≡ length (joined_to i) + length (image_at i) = ap length (joined-more i) ∙ length-append (joined_to i) (image_at i) in
      let b = joined-within (i + 1) n (omega arith) in
      let d : image.length ≡ length (joined_to i) = sym (image-length image) ∙ ap length e in
      let k = image-length next in
      omega arith
