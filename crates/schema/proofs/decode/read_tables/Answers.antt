-- `schema::decode::read_tables` meets its contract: its columns lie in the sheet, one behind the other.
use mathlib.Core.Path.{refl}
use lib.ListN.{length-replicate}
use Rattle.schema.specs.declared.Path.{Path}
use Rattle.schema.proofs.decode.read_tables.Goals as goal

pub returns : goal.returns
returns c =
    record {
      graph = c.read_graph-graph.ensures;
      attributes = refl;
      node = c.column-node.ensures;
      kind = c.column-kind.ensures;
      equations = refl;
      long = (length-replicate {A = Path} 32 c.empty-none.result, length-replicate {A = Path} 32 c.empty-none.result);
    }
