-- `migration::turnings::turn` meets its contract.
use Rattle.migration.proofs.Turning.{may-turn, to-raw-told, to-pushed-told}
use Rattle.migration.proofs.turnings.turn.Goals as goal

pub to_raw-requires : goal.to_raw-requires
to_raw-requires c = (may-turn c.requires.0 c.sigma_counts-pushed.ensures, c.requires.1, c.requires.2)

pub to_pushed-requires : goal.to_pushed-requires
to_pushed-requires c = (may-turn c.requires.0 c.sigma_counts-pushed.ensures, c.requires.1, c.requires.2)

pub returns-in-Pushed : goal.returns-in-Pushed
returns-in-Pushed c = rw c.in-Pushed.is (to-raw-told c.requires.0 c.sigma_counts-pushed.ensures c.args.list.now c.to_raw.new.out c.to_raw.ensures)

pub returns-in-Raw : goal.returns-in-Raw
returns-in-Raw c = rw c.in-Raw.is (to-pushed-told c.requires.0 c.sigma_counts-pushed.ensures c.args.list.now c.to_pushed.new.out c.to_pushed.ensures)
