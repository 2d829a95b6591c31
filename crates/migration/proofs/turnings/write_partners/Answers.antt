-- `migration::turnings::write_partners` meets its contract.
use native.Mathlib.Omega.{arith}
use Rattle.meaning.specs.Formats.{matching_sheet}
use Rattle.schema.specs.Decoded.{front_of}
use Rattle.encoding.proofs.Writing.{matching-length}
use Rattle.steps.proofs.Trays.{tray-written, tray-small}
use Rattle.migration.proofs.turnings.write_partners.Goals as goal

pub returns-then-matching_length-tray : goal.returns-then-matching_length-tray
returns-then-matching_length-tray c = let a = c.args in tray-small (matching_sheet (front_of a.n a.list.now)) a.tray.now c.of_all.ensures (omega (arith, matching-length a.list.now a.n, c.matching_length.ensures))

pub returns : goal.returns
returns c = let a = c.args in tray-written (matching_sheet (front_of a.n a.list.now)) a.tray.now (omega (arith, matching-length a.list.now a.n, c.matching_length.ensures)) c.write_matching.ensures
