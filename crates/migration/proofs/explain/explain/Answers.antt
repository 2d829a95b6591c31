-- `migration::explain::explain` meets its contract.
use native.Mathlib.Omega.{arith}
use Rattle.migration.proofs.Trays.{chain-explained, chain-small}
use Rattle.migration.proofs.explain.explain.Goals as goal

pub returns-then-chain_length-tray : goal.returns-then-chain_length-tray
returns-then-chain_length-tray c = chain-small c.args.tray.now c.first_chain-n.result c.first_chain-n.new.steps c.first_chain-n.ensures (omega (arith, c.if-n-ge-NONE.false)) c.of_all.ensures (omega (arith, c.chain_length.ensures))

pub returns : goal.returns
returns c = chain-explained c.args.tray.now c.first_chain-n.result c.first_chain-n.new.steps c.first_chain-n.ensures (omega (arith, c.if-n-ge-NONE.false)) (omega (arith, c.chain_length.ensures)) c.write_chain.ensures
