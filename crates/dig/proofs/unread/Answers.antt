-- `dig::unread` meets its contract: it gives as many zeros as it says.
use Rattle.std.proofs.Common.{◌≡◌, ℕ, length, sym}
use Rattle.std.specs.Prelude.{replicate}
use Rattle.std.proofs.lemmas.List.{length-replicate}
use Rattle.dig.proofs.unread.Goals as goal

as_many : (n : ℕ) → n ≡ length {A = ℕ} (replicate n 0)
as_many n = sym (length-replicate {A = ℕ} n 0)

pub returns : goal.returns
returns c = as_many 524296
