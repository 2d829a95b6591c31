-- What the tests of the mappings and the run's sheet give to the migrations.
use mathlib.Core.Path.{◌≡◌}
use mathlib.Core.List.{List}
use Prim.Native.Nat.{ℕ}
use Rattle.meaning.specs.Calls.{accepted}
use Rattle.meaning.specs.Query.{ensure_mappings}
use Rattle.instance.specs.declared.Instance.{Instance}
use Rattle.instance.proofs.Validity.{accepted-valid}
use Rattle.pi.specs.declared.components.Components.{Components}
use Rattle.pi.specs.Components.{AllComponents}
use Rattle.steps.specs.Opened.{SoundTables}
use Rattle.query.specs.declared.open.Query.{Query}
use Rattle.query.specs.Opened.{query_of, paired, narrow, is_even, Ready, Tested}
use Rattle.query.specs.Steps.{Migratable}
use Rattle.query.proofs.SizeTests.{three-passed}

module _ {q : Query} {k : Components} (R : Ready q) (K : AllComponents q.second.schema q.third.schema q.g q.third.schema.graph.nodes k) (t : accepted tt ≡ ensure_mappings (query_of q)) where
  tested : Tested q k
  tested =
      let p = three-passed (paired q) (narrow q) (is_even q) t in
      record { testable = record { ready = R; components = K }; bijective = p.0; few = p.1; is-even = p.2 }

  pub migratable : {run : Instance} {links values : List ℕ} → SoundTables q.first run links values → Migratable q k run links values
  migratable {run} {links} {values} S = record { tested = tested; limits = S.limits; valid = accepted-valid R.schemas.first run links values S.limits S.accepted }
