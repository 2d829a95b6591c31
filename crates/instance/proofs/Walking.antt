-- Edges followed one by one in an array of links.
use Prim.Native.Nat.{ℕ, ◌+◌, ◌*◌, ◌≤◌, ◌<◌}
use mathlib.Core.Path.{◌≡◌, ap, ◌∙◌}
use mathlib.Core.List.{List, ◌∷◌}
use lib.ListN.{length, get_or, drop}
use Rattle.theory.specs.Instance.{follow}
use Rattle.meaning.proofs.Tabulate.{rest_more, rest-done}
use Rattle.schema.specs.Decoded.{front_of}
use Rattle.instance.specs.Followed.{link_in, Stays}

-- the first i of n edges are followed, and lead to row x
pub record Walked (links edges : List ℕ) (n row i x : ℕ) : Type 0 where
  pub stays : Stays links (drop i (front_of n edges)) x
  pub led : follow (link_in links) (front_of n edges) row ≡ follow (link_in links) (drop i (front_of n edges)) x

module _ {links edges : List ℕ} {n row i x : ℕ} (u : Walked links edges n row i x) where
  next : i < n → drop i (front_of n edges) ≡ get_or edges i 0 ∷ drop (i + 1) (front_of n edges)
  next l = rest_more (λ k. get_or edges k 0) n i l

  pub walked-in : i < n → 512 * get_or edges i 0 + x < length links
  walked-in l = (rw (next l) at u.stays).0

  pub walked_more : i < n → Walked links edges n row (i + 1) (link_in links (get_or edges i 0) x)
  walked_more l = record { stays = (rw (next l) at u.stays).1; led = u.led ∙ ap (λ (es : List ℕ). follow (link_in links) es x) (next l) }

  pub walked-done : n ≤ i → follow (link_in links) (front_of n edges) row ≡ x
  walked-done l = u.led ∙ ap (λ (es : List ℕ). follow (link_in links) es x) (rest-done (λ k. get_or edges k 0) n i l)
