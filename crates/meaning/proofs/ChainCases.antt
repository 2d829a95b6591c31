-- Chains computed: one step and none in cases 7 and 8, and two steps behind an edge.
use mathlib.Core.Path.{◌≡◌, refl}
use mathlib.Core.List.{List, [], ◌∷◌}
use Prim.Native.Nat.{ℕ}
use Rattle.bits.specs.Field.{field, bit, tail_ok}
use Rattle.bits.specs.Pack.{digits, bits_of, number, gather, total_width, pack}
use Rattle.meaning.specs.Calls.{accepted, path_chain}
use Rattle.meaning.proofs.Examples.{short_rule, long_rule, ab, cd, abf, cdf}

-- edges a and b 0 to 1; c, d and e 1 to 2: with c = d and d = e
abbrev pub two_rules : List ℕ
two_rules = 0x18 ∷ 0xA0 ∷ 0x08 ∷ 0x04 ∷ 0x04 ∷ 0x48 ∷ 0x48 ∷ 0x48 ∷ 0x44 ∷ 0x42 ∷ 0x23 ∷ 0x11 ∷ 0x18 ∷ 0x89 ∷ 0x00 ∷ []

abbrev pub ac : List ℕ
ac = 0x02 ∷ 0x00 ∷ 0x80 ∷ []

abbrev pub ae : List ℕ
ae = 0x02 ∷ 0x01 ∷ 0x00 ∷ []

pub record ChainCases : Type 0 where
  -- case 7: with ab = cd, one step, of equation 0, with no edges before
  pub ab_cd : path_chain short_rule ab cd ≡ accepted (1 ∷ 0 ∷ 0 ∷ [])
  pub abf_cdf : path_chain short_rule abf cdf ≡ accepted (1 ∷ 0 ∷ 0 ∷ [])
  -- and back
  pub cd_ab : path_chain short_rule cd ab ≡ accepted (1 ∷ 4 ∷ 0 ∷ [])
  -- from a path to itself: the chain of 0 steps
  pub ab_ab : path_chain short_rule ab ab ≡ accepted (0 ∷ [])
  -- case 8: with only abf = cdf, none
  pub none : path_chain long_rule ab cd ≡ accepted []
  -- two steps: of equation 0, then of equation 1, each with 1 edge before; and back
  pub ac_ae : path_chain two_rules ac ae ≡ accepted (2 ∷ 0 ∷ 66 ∷ 16 ∷ [])
  pub ae_ac : path_chain two_rules ae ac ≡ accepted (2 ∷ 12 ∷ 65 ∷ 16 ∷ [])

pub chain-cases : ChainCases
unfolding field bit tail_ok digits bits_of number gather total_width pack
chain-cases = record { ab_cd = refl; abf_cdf = refl; cd_ab = refl; ab_ab = refl; none = refl; ac_ae = refl; ae_ac = refl }
