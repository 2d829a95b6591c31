-- `chain::places::landing` meets its contract.
use Prim.Native.Nat.{ℕ, ◌+◌, ◌≤◌}
use mathlib.Core.Path.{◌≡◌, subst}
use native.Mathlib.Omega.{arith}
use lib.ListN.{get_or}
use Rattle.schema.specs.Decoded.{front_of, path_of}
use Rattle.paths.specs.PathWalks.{walk_from}
use Rattle.chain.specs.Places.{rest_edges}
use Rattle.chain.proofs.LandingTests.{new-walk, rest-walk, landed}
use Rattle.chain.proofs.places.landing.Goals.{After-from-2, After-walk-y}
use Rattle.chain.proofs.places.landing.Goals as goal

fits : (c : After-from-2) → c.args.b + c.args.old.length ≤ c.args.n
fits c = rw (← c.from-m.ensures) c.if-n-b.false

walked : (c : After-from-2) → c.walk-a.result ≡ walk_from c.args.p.now.first c.args.p.now.rank c.from-u.result (path_of c.args.old).edges
walked c = subst (λ (m : ℕ). c.walk-a.result ≡ walk_from c.args.p.now.first c.args.p.now.rank c.from-u.result (front_of m c.args.old.edges)) c.from-m.ensures c.walk-a.ensures

longer : (c : After-from-2) → c.from.result ≡ get_or c.args.prefix.now (c.args.b + c.args.old.length) 0
longer c = subst (λ (m : ℕ). c.from.result ≡ get_or c.args.prefix.now (c.args.b + m) 0) c.from-m.ensures c.from.ensures

turned : (c : After-walk-y) → c.walk-y.result ≡ walk_from c.args.p.now.first c.args.p.now.rank c.from-u.result (path_of c.args.new).edges
turned c = subst (λ (m : ℕ). c.walk-y.result ≡ walk_from c.args.p.now.first c.args.p.now.rank c.from-u.result (front_of m c.args.new.edges)) c.from-2.ensures c.walk-y.ensures

pub walk-y-requires : goal.walk-y-requires
walk-y-requires c =
    let o = (goal.at.walk-y-requires c).After-from-2 in
    rw c.from-2.ensures (omega (arith, c.requires.new_short), new-walk c.requires (fits o) c.from-u.ensures c.if-p-u.false (walked o) (longer o) c.if-a-from.false)

pub walk_rest-requires : goal.walk_rest-requires
walk_rest-requires c =
    let o = (goal.at.walk_rest-requires c).After-from-2 in
    rw c.from-m.ensures (c.requires.short, fits o, rest-walk c.requires (fits o) c.from-u.ensures c.if-p-u.false (walked o) (longer o) c.if-a-from.false (turned (goal.at.walk_rest-requires c).After-walk-y))

pub returns : goal.returns
returns c =
    let o = (goal.at.returns c).After-from-2 in
    let a = c.args in
    landed c.requires (fits o) c.from-u.ensures c.if-p-u.false (walked o) (longer o) c.if-a-from.false (turned (goal.at.returns c).After-walk-y)
    (subst (λ (m : ℕ). c.walk_rest.result ≡ walk_from a.p.now.first a.p.now.rank c.walk-y.result (rest_edges a.p.now.last a.prefix.now (a.b + m) a.n)) c.from-m.ensures c.walk_rest.ensures)
