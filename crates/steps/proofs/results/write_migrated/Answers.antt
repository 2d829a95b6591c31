-- `steps::results::write_migrated` meets its contract.
use native.Mathlib.Omega.{arith}
use Rattle.meaning.specs.Formats.{instance_sheet}
use Rattle.instance.specs.Decoded.{tables_of}
use Rattle.encoding.proofs.Writing.{sheet-length}
use Rattle.steps.proofs.Trays.{tray-small}
use Rattle.steps.proofs.results.write_migrated.Goals as goal

pub returns-then-sheet_length-tray : goal.returns-then-sheet_length-tray
returns-then-sheet_length-tray c =
    let a = c.args in
    let m = a.m.now in
    tray-small (instance_sheet (tables_of m.schema m.tables a.links.now a.values.now)) a.tray.now c.of_all.ensures (omega (arith, c.sheet_length.ensures, sheet-length m.schema m.tables a.links.now a.values.now))
