-- `encoding::chains::write_chain` meets its contract.
use Rattle.encoding.proofs.Writing.{chain-written}
use Rattle.encoding.proofs.chains.write_chain.Goals as goal

pub returns : goal.returns
returns c =
    let a = c.args in
    chain-written a.l.now a.n a.tray.now c.chain_length-bytes.ensures c.clear.ensures c.write_column.ensures c.write_column-2.ensures
