-- What the reader of a matching sheet gives.
use Prim.Native.Nat.{ℕ, ◌+◌, ◌*◌, ◌≤◌, ◌<◌}
use mathlib.Core.Path.{◌≡◌, sym, ap, ◌∙◌}
use mathlib.Core.Bool.{true, false}
use mathlib.Core.List.{List}
use native.Mathlib.Omega.{arith}
use native.Mathlib.Nat.{zero-add}
use lib.ListN.{length, get_or}
use Rattle.bits.specs.Field as bits
use Rattle.theory.specs.Numbering.{tabulate}
use Rattle.meaning.specs.Sheet.{fails, reads}
use Rattle.meaning.specs.Formats.{read_partners}
use Rattle.meaning.proofs.Reading.{fixed-field, fixed-times}
use Rattle.meaning.proofs.Tabulate.{tabulate-same}
use Rattle.schema.specs.Decoded.{front_of}
use Rattle.instance.specs.Stored.{Stored}

module _ (s : List ℕ) (n : ℕ) where
  pub partners-cut : 8 * length s < 9 * n → read_partners n s 0 ≡ fails 1
  partners-cut h = rw ((fixed-times n (fixed-field 9)).cut s 0 (omega arith) (omega arith))

  pub partners-tail : 9 * n ≤ 8 * length s → bits.tail_ok s (9 * n) ≡ false → read_partners n s 0 ≡ fails 2
  partners-tail h e = rw ((fixed-times n (fixed-field 9)).here s 0 (omega arith), zero-add (9 * n), e)

  pub partners-read : {l r : List ℕ} → Stored (λ i. bits.field s (0 + 9 * i) 9) n 0 l r → 9 * n ≤ 8 * length s → bits.tail_ok s (9 * n) ≡ true → read_partners n s 0 ≡ reads (front_of n r) (9 * n)
  partners-read {r = r} u h e =
      let f : front_of n r ≡ tabulate n (λ i. bits.field s (0 + 9 * i) 9) = tabulate-same n (λ i l. ap (λ (k : ℕ). get_or r k 0) (sym (zero-add i)) ∙ u.each i l) in
      rw ((fixed-times n (fixed-field 9)).here s 0 (omega arith), zero-add (9 * n), e, f)
