-- `compose::call::write_composite` meets its contract.
use native.Mathlib.Omega.{arith}
use mathlib.Core.Path.{ap, ◌∙◌}
use Rattle.meaning.specs.Formats as formats
use Rattle.meaning.specs.Formats.{mapping_sheet}
use Rattle.meaning.specs.Calls.{written}
use Rattle.mapping.specs.Decoded.{mapping_of}
use Rattle.steps.proofs.Trays.{tray-small}
use Rattle.compose.proofs.SheetFields.{sheet-length}
use Rattle.compose.proofs.call.write_composite.Goals as goal

pub returns-then-mapping_length-tray : goal.returns-then-mapping_length-tray
returns-then-mapping_length-tray c =
    let x = c.args.x.now in
    let h = c.composite-h in
    tray-small (mapping_sheet (mapping_of x.first h.result)) c.args.tray.now c.of_all.ensures (omega (arith, c.mapping_length.ensures, sheet-length x.first h.result))
    ∙ ap (λ (H : formats.Mapping). written c.args.tray.now (mapping_sheet H)) h.ensures.0
