-- The path question, chains and migrations on accepted sheets: which refusal of all sheets together, by what it counts, or which result.
use Prim.Native.Nat.{ℕ, zero, suc, ◌<◌, ◌≤◌}
use mathlib.Core.Path.{◌≡◌, refl, sym, ap, ◌∙◌, subst}
use mathlib.Core.Bool.{Bool, true, false}
use mathlib.Core.List.{List, [], ◌∷◌}
use mathlib.Core.Option.{Option, none, some}
use mathlib.Core.Logic.Iff
use mathlib.Core.Logic.{inr, ◌↔◌}
use native.Mathlib.Omega.{arith}
use lib.ListN.{length, get_or, length-map}
use lib.Dec.{leb}
use borrow.Author.Tests.{leb-true, leb-false, lt-leb, le-leb}
use Rattle.theory.specs.Instance as theory
use Rattle.theory.specs.Mapping.{Even, Bijective}
use Rattle.theory.specs.Schema as theory_schema
use Rattle.theory.specs.Schema.{IsPath, endpoint}
use Rattle.theory.specs.Pi.{IsComponents, IsPi}
use Rattle.theory.proofs.Schema.{path-start, chain-path}
use Rattle.theory.proofs.Instance.{alike-rows}
use Rattle.theory.proofs.Family.{components_one}
use Rattle.meaning.specs.Lists.{upto, sum_of}
use Rattle.meaning.specs.Schema.{Path, Schema, target, end, is_path}
use Rattle.meaning.specs.PathChain.{Step, first_chain}
use Rattle.meaning.specs.PathEquality.{first_path}
use Rattle.meaning.specs.Category.{Category, listed_category}
use Rattle.meaning.specs.Sheet.{sound, on_sheet}
use Rattle.meaning.specs.Formats.{Mapping, Instance, max_components, max_paths, max_rows, path_sheet, read_path_sheet, read_chain, chain_sheet}
use Rattle.meaning.specs.Views.{Shaped, schema_of, mapping_of, instance_of}
use Rattle.meaning.specs.Judge.{judge_path, judge_schema}
use Rattle.meaning.specs.Delta.{delta}
use Rattle.meaning.specs.Evenness.{even}
use Rattle.meaning.specs.Sigma.{sigma}
use Rattle.meaning.specs.Pi.{is_bijective, components, has_few_components, pi}
use Rattle.meaning.specs.Calls.{Outcome, refused, accepted, ◌>>=◌, ensure, ensure_fits, path_question, explanation, path_chain, Migrated, delta_tables, sigma_tables, pi_tables, Lent, in_tray}
use Rattle.meaning.proofs.Lists.{no_bool, test-false, all-fails, upto_all, of-upto}
use Rattle.meaning.proofs.Readers.{sound-same, bind-sound, ensure-sound}
use Rattle.meaning.proofs.Facts.{schema-facts}
use Rattle.meaning.proofs.Written.{path-sheet-read, chain-sheet-length, chain-read}
use Rattle.agreement.specs.Paths.{EqualPaths, WellFormed, path_count}
use Rattle.agreement.specs.PathChains.{IsFirstChain, ChainAnswers}
use Rattle.agreement.specs.Valid.{ValidMapping}
use Rattle.agreement.proofs.Valid.{mapping-valid, instance-valid}
use Rattle.agreement.proofs.Tests.{refused-not-accepted, accepted-same, bind-same, bind_assoc, own-refusal, later-refusal, own-result, later-result, not-refused, Settled, settled-next, settled-apart, settled-result}
use Rattle.agreement.proofs.Outcomes.{accepted-tray}
use Rattle.agreement.proofs.Tables.{rows-sum}
use Rattle.agreement.proofs.Paths.{schema_is, path-iff, path-short, identical-iff}
use Rattle.agreement.proofs.FirstChains.{first-chain, chain-some, chain-none-iff, first-chain-fits}
use Rattle.agreement.proofs.FirstPaths.{first-equal, first-least, first-path}
use Rattle.agreement.proofs.Categories.{first-same, equal-paths-iff, schema-well-formed, listed-category}
use Rattle.agreement.proofs.Evenness.{even-iff}
use Rattle.agreement.proofs.Delta.{delta-rows}
use Rattle.agreement.proofs.Sigma.{sigma-never-overfull}
use Rattle.agreement.proofs.Bijections.{bijective-iff}
use Rattle.agreement.proofs.Pi.{pi-shaped, pi-is-pi, pi-only}
use Rattle.agreement.proofs.Components.{as_pair, as_pairs, components_are}
use Rattle.agreement.specs.Agrees.{PathAnswer, PathAnswers, Inputs, DeltaOverfull, DeltaAnswers, SigmaAnswers, Wide, PiOverfull, PiAnswers}

-- a test that is false exactly where A holds is true exactly where A does not
pub true-iff : {A : Type 0} (b : Bool) → (b ≡ false) ↔ A → (b ≡ true) ↔ (A → ⊥)
true-iff true h = (λ e a. no_bool (h.1 a), λ n. refl)
true-iff false h = (λ e a. no_bool (sym e), λ n. absurd (n (h.0 refl)))

-- and the other way
pub false-iff : {A : Type 0} (b : Bool) → (b ≡ true) ↔ A → (b ≡ false) ↔ (A → ⊥)
false-iff true h = (λ e a. no_bool e, λ n. absurd (n (h.0 refl)))
false-iff false h = (λ e a. no_bool (sym (h.1 a)), λ n. refl)

-- ---- what they count

module _ {S T : Category} {F : Mapping} (v : ValidMapping S T F) where
  abbrev few : ℕ → Bool
  few d = leb (length (components S T F d)) max_components

  -- there is one list of components
  as_many : (d : ℕ) → d < T.schema.graph.nodes → (ks : List (ℕ × List ℕ)) → IsComponents (mapping_of S.schema T.schema F) d ks → length ks ≡ length (components S T F d)
  as_many d h ks k = ap length (components_one k (components_are v d h)) ∙ length-map (components S T F d) as_pair

  pub wide-iff : (has_few_components S T F ≡ false) ↔ Wide (mapping_of S.schema T.schema F)
  wide-iff = (
    wide,
    λ w. test-false (has_few_components S T F) (λ e.
        let h = leb-true (length (components S T F w.0)) max_components (upto_all few T.schema.graph.nodes e w.0 w.1) in
        let k = as_many w.0 w.1 w.2 w.3 in
        let l = w.4 in
        omega arith),
  )
    where
      wide : has_few_components S T F ≡ false → Wide (mapping_of S.schema T.schema F)
      wide e =
          let r = all-fails few (upto T.schema.graph.nodes) e in
          let d = r.0 in
          let h = of-upto T.schema.graph.nodes r.1 in
          let c = components_are v d h in
          (d, h, as_pairs (components S T F d), c, rw (as_many d h (as_pairs (components S T F d)) c) (leb-false (length (components S T F d)) max_components r.2))

  module _ (I : Instance) (paired : Bijective (mapping_of S.schema T.schema F)) where
    abbrev total : ℕ
    total = sum_of (pi S T F I).counts

    -- every Pi has as many rows
    as-many-rows : {P : theory.Instance ℕ} → IsPi (mapping_of S.schema T.schema F) (instance_of I) P → theory.rows (schema_of T.schema) P ≡ total
    as-many-rows P-is = alike-rows (pi-only v I paired P-is) ∙ rows-sum T.schema (pi S T F I) (pi-shaped v I).tables

    pub overfull-iff : (leb total max_rows ≡ false) ↔ PiOverfull (mapping_of S.schema T.schema F) (instance_of I)
    overfull-iff = (
      λ e. (instance_of (pi S T F I), pi-is-pi v I paired, rw (as-many-rows (pi-is-pi v I paired)) (leb-false total max_rows e)),
      λ h. lt-leb total max_rows (rw (as-many-rows h.1) at h.2),
    )

module _ {S T : Category} {F : Mapping} (v : ValidMapping S T F) (J : Instance) (shaped : Shaped T.schema J) where
  pub delta-overfull-iff : (leb (sum_of (delta S.schema F J).counts) max_rows ≡ false) ↔ DeltaOverfull (mapping_of S.schema T.schema F) (instance_of J)
  delta-overfull-iff =
      let n = sum_of (delta S.schema F J).counts in
      let e = delta-rows v J shaped in
      (λ h. rw e (leb-false n max_rows h), λ h. lt-leb n max_rows (rw e at h))

-- conditions in a row
pub row-3 : {A B C : Type 0} → (A × (B × C)) ↔ (A × B × C)
row-3 = (λ h. (h.0, h.1.0, h.1.1), λ h. (h.0, (h.1, h.2)))

pub row-4 : {A B C D : Type 0} → (A × (B × (C × D))) ↔ (A × B × C × D)
row-4 = (λ h. (h.0, h.1.0, h.1.1.0, h.1.1.1), λ h. (h.0, (h.1, (h.2, h.3))))

-- what one outcome yields the other does
module _ {A X : Type 0} {p o : Outcome A} (e : p ≡ o) where
  pub outcome-by : {q : Outcome A} → (o ≡ q) ↔ X → (p ≡ q) ↔ X
  outcome-by x = (λ k. x.0 (sym e ∙ k), λ h. e ∙ x.1 h)

  pub result_by : ((a : A) × (o ≡ accepted a)) ↔ X → ((a : A) × (p ≡ accepted a)) ↔ X
  result_by x = (λ k. x.0 (k.0, sym e ∙ k.1), λ h. let r = x.1 h in (r.0, e ∙ r.1))

-- ---- Pi: 13, then 14, then 15

module _ (s t f i : List ℕ) {S T : Schema} {F : Mapping} {I : Instance} (x : Inputs s t f i S T S F I) where
  abbrev paired : Bool
  paired = is_bijective T F

  abbrev narrow : Bool
  narrow = has_few_components (listed_category S) (listed_category T) F

  abbrev fitting : Bool
  fitting = leb (sum_of (pi (listed_category S) (listed_category T) F I).counts) max_rows

  abbrev joined : Outcome Migrated
  joined = accepted (record { schema = T; tables = pi (listed_category S) (listed_category T) F I })

  -- what follows the tests 14 and 13
  abbrev after14 : Outcome Migrated
  after14 = ensure fitting 15 >>= λ _. joined

  abbrev after13 : Outcome Migrated
  after13 = ensure narrow 14 >>= λ _. after14

  yields : pi_tables s t f i ≡ (ensure paired 13 >>= λ _. after13)
  yields =
      rw (x.s_accepted, x.t_accepted, x.f_accepted, x.i_accepted) (
      bind-same (ensure paired 13) (λ _. bind-same (ensure narrow 14) (λ _.
      bind_assoc (ensure fitting 15) (λ _. accepted (pi (listed_category S) (listed_category T) F I)) (λ P. accepted (record { schema = T; tables = P })))))

  settled : Settled 15 after14
  settled = settled-next fitting 15 joined (inr (_, refl))

  -- which refusal of all sheets together, or a result, Pi yields
  pub pi_answers : PiAnswers s t f i (mapping_of S T F) (instance_of I)
  pi_answers =
      let v = mapping-valid s t f x.s_accepted x.t_accepted x.f_accepted in
      let pairs = bijective-iff v in
      let narrows = true-iff narrow (wide-iff v) in
      let full : Bijective (mapping_of S T F) → (after14 ≡ refused 15 0) ↔ PiOverfull (mapping_of S T F) (instance_of I) =
      λ b. own-refusal fitting 15 joined (λ _ e. refused-not-accepted (sym e)) (overfull-iff v I b) in
      record {
        unpaired = outcome-by yields (own-refusal paired 13 after13 (λ _.
            not-refused narrow 14 13 after14 (λ k. omega arith) (settled-apart 15 13 after14 (λ k. omega arith) settled)) (false-iff paired pairs));
        wide = outcome-by yields (later-refusal paired 13 14 after13 (λ k. omega arith) pairs (λ _.
            own-refusal narrow 14 after14 (λ _. settled-apart 15 14 after14 (λ k. omega arith) settled) (wide-iff v)));
        overfull = Iff.trans (outcome-by yields (later-refusal paired 13 15 after13 (λ k. omega arith) pairs (λ b.
            later-refusal narrow 14 15 after14 (λ k. omega arith) narrows (λ _. full b)))) row-3;
        result = Iff.trans (result_by yields (later-result paired 13 after13 pairs (λ b.
            later-result narrow 14 after14 narrows (λ _. settled-result 15 after14 settled (full b))))) row-3;
      }

-- ---- Delta: 15

module _ (s t f j : List ℕ) {S T : Schema} {F : Mapping} {J : Instance} (x : Inputs s t f j S T T F J) where
  pub delta_answers : DeltaAnswers s t f j (mapping_of S T F) (instance_of J)
  delta_answers =
      let v = mapping-valid s t f x.s_accepted x.t_accepted x.f_accepted in
      let b = leb (sum_of (delta S F J).counts) max_rows in
      let pulled : Outcome Migrated = accepted (record { schema = S; tables = delta S F J }) in
      let yields : delta_tables s t f j ≡ (ensure b 15 >>= λ _. pulled) =
      rw (x.s_accepted, x.t_accepted, x.f_accepted, x.i_accepted) (bind_assoc (ensure b 15) (λ _. accepted (delta S F J)) (λ D. accepted (record { schema = S; tables = D }))) in
      let full = own-refusal b 15 pulled (λ _ e. refused-not-accepted (sym e)) (delta-overfull-iff v J (instance-valid T j x.i_accepted).shaped) in
      record {
        overfull = outcome-by yields full;
        result = result_by yields (settled-result 15 (ensure b 15 >>= λ _. pulled) (settled-next b 15 pulled (inr (_, refl))) full);
      }

-- ---- Sigma: 12

module _ (s t f i : List ℕ) {S T : Schema} {F : Mapping} {I : Instance} (x : Inputs s t f i S T S F I) where
  pub sigma_answers : SigmaAnswers s t f i (mapping_of S T F)
  sigma_answers =
      let v = mapping-valid s t f x.s_accepted x.t_accepted x.f_accepted in
      let w = even-iff v in
      let b = even (listed_category S) (listed_category T) F in
      let P = sigma (listed_category S) (listed_category T) F I in
      let pushed : Outcome Migrated = ensure_fits P >>= λ P. accepted (record { schema = T; tables = P }) in
      let yields : sigma_tables s t f i ≡ (ensure b 12 >>= λ _. pushed) = rw (x.s_accepted, x.t_accepted, x.f_accepted, x.i_accepted) in
      let fits : Even (mapping_of S T F) → (M : Migrated) × (pushed ≡ accepted M) =
      λ e. (record { schema = T; tables = P }, rw (sigma-never-overfull v e (instance-valid S i x.i_accepted))) in
      record {
        uneven = outcome-by yields (own-refusal b 12 pushed (λ t e. refused-not-accepted (sym e ∙ (fits (w.0 t)).1)) (false-iff b w));
        result = result_by yields (own-result b 12 pushed w fits);
      }

-- ---- the path question

-- a chain's sheet has a byte, so that no bytes are no chain
some_byte : (c : List Step) → length (chain_sheet c) ≡ 0 → ⊥
some_byte c e = omega (arith, chain-sheet-length c)

no_steps : (x : Option (List Step)) → explanation x ≡ [] → x ≡ none
no_steps none e = refl
no_steps (some c) e = absurd (some_byte c (ap length e))

-- the edges of a path are below as many as there are
pub edge_below : (S : theory_schema.Schema) (k n : ℕ) (p : List ℕ) → S.edges ≤ k → 0 < k → IsPath S n p → (i : ℕ) → get_or p i 0 < k
edge_below S k n [] l z h i = z
edge_below S k n (e ∷ p) l z h zero = omega (arith, h.0)
edge_below S k n (e ∷ p) l z h (suc i) = edge_below S k (S.tgt e) p l z h.2 i

module _ (s : List ℕ) {S : Schema} (a : judge_schema s ≡ sound S) where
  is-path : (p : List ℕ) {P : Path} → judge_path S.graph p ≡ sound P → IsPath (schema_of S) P.start P.edges
  is-path p {P} e =
      let r = bind-sound (on_sheet read_path_sheet p) _ e in
      let t = ensure-sound (is_path S.graph r.0) 4 _ r.2 in
      subst (λ (X : Path). IsPath (schema_of S) X.start X.edges) (sound-same t.1) ((path-iff S (schema-facts s a).well-formed r.0.start r.0.edges).0 t.0)

  formed : WellFormed S
  formed = schema-well-formed (schema-facts s a)

  -- a path's sheet is accepted as that path
  path-lent : (p : Path) → IsPath (schema_of S) p.start p.edges → judge_path S.graph (path_sheet p) ≡ sound p
  path-lent p h =
      let f = schema-facts s a in
      let l = path-short S formed p.start p.edges h in
      let n = path-start (schema_is S f.well-formed) p.start p.edges h in
      let r = path-sheet-read p (omega (arith, f.nodes)) (omega (arith, f.nodes)) (edge_below (schema_of S) 32 p.start p.edges f.edges (omega arith) h) in
      rw (r, (path-iff S f.well-formed p.start p.edges).1 h)

module _ (s p : List ℕ) {S : Schema} {P : Path} (a : judge_schema s ≡ sound S) (b : judge_path S.graph p ≡ sound P) where
  path-yields : path_question s p ≡ accepted (path_sheet (first_path S P))
  path-yields = rw (a, b)

  first-is-path : IsPath (schema_of S) (first_path S P).start (first_path S P).edges
  first-is-path = first-path S (formed s a) P (is-path s a p b)

  -- the first path of the first path's class
  first-again : first_path S (first_path S P) ≡ first_path S P
  first-again = sym (first-same (listed-category S (formed s a)) P (first_path S P) (is-path s a p b) first-is-path (first-equal S (formed s a) P (is-path s a p b)))

  pub path_answer : PathAnswer s p S P
  path_answer =
      let g = first_path S P in
      let r = path-lent s a g first-is-path in
      record {
        first = g;
        answer = path-yields;
        is-path = first-is-path;
        equal = first-equal S (formed s a) P (is-path s a p b);
        none_before = first-least S (formed s a) P (is-path s a p b);
        read_back = r;
        again = λ tray room. rw (a, r, first-again, le-leb (length (path_sheet g)) (length tray) room);
      }

module _ (s p q : List ℕ) {S : Schema} {P Q : Path} (a : judge_schema s ≡ sound S) (b : judge_path S.graph p ≡ sound P) (c : judge_path S.graph q ≡ sound Q) where
  same-iff : (path_question s p ≡ path_question s q) ↔ EqualPaths S P Q
  same-iff =
      let t = equal-paths-iff (listed-category S (formed s a)) P Q (is-path s a p b) (is-path s a q c) in
      let u = identical-iff (first_path S P) (first_path S Q) in (
        λ e.
            let k = accepted-same (sym (path-yields s p a b) ∙ e ∙ path-yields s q a c) in
            t.0 (u.1 (sound-same (sym (path-lent s a (first_path S P) (first-is-path s p a b)) ∙ ap (judge_path S.graph) k ∙ path-lent s a (first_path S Q) (first-is-path s q a c)))),
        λ h. path-yields s p a b ∙ ap (λ (x : Path). accepted (path_sheet x)) (u.0 (t.1 h)) ∙ sym (path-yields s q a c),
      )

  other-ends : (P.start ≡ Q.start → end S.graph P ≡ end S.graph Q → ⊥) → EqualPaths S P Q → ⊥
  other-ends d h = d h.starts ((chain-path (schema_is S (formed s a).fits) P.start h.chain (is-path s a p b)).1 ∙ ap (λ (n : ℕ). endpoint (target S.graph) n Q.edges) h.starts)

  -- ---- the chain between two paths

  explained-by : {x : Option (List Step)} → first_chain S P Q ≡ x → path_chain s p q ≡ accepted (explanation x)
  explained-by e = rw (a, b, c, e)

  none-iff : (path_chain s p q ≡ accepted []) ↔ (EqualPaths S P Q → ⊥)
  none-iff =
      let h = chain-none-iff S (formed s a) P Q (is-path s a p b) in
      (λ e. h.0 (no_steps (first_chain S P Q) (accepted-same (sym (explained-by refl) ∙ e))), λ n. explained-by (h.1 n))

  found : EqualPaths S P Q → (k : List Step) × (path_chain s p q ≡ accepted (chain_sheet k)) × IsFirstChain S P Q k × (on_sheet read_chain (chain_sheet k) ≡ sound k)
  found r =
      let f = schema-facts s a in
      let h = is-path s a p b in
      let k = chain-some S (formed s a) P Q h r in
      let first = first-chain S (formed s a) P Q k.0 h (leb-true (path_count S.graph) max_paths f.few_paths) k.1 in
      (k.0, explained-by k.1, first, chain-read k.0 first.few (first-chain-fits S (formed s a) P Q k.0 h f.equations f.nodes k.1))

  left_alone : path_chain s p q ≡ accepted [] → (tray : List ℕ) → in_tray tray (path_chain s p q) ≡ record { answer = accepted 0; tray = tray }
  left_alone e tray = rw (e, le-leb 0 (length tray) (omega arith))

  pub chain_answers : ChainAnswers s p q S P Q
  chain_answers = record {
    none = none-iff;
    zero = λ tray. (
      λ e r. let k = found r in
          let t = accepted-tray tray (path_chain s p q) e in
          some_byte k.0 (ap length (accepted-same (sym k.1 ∙ t.result)) ∙ t.size),
      λ n. ap (λ (l : Lent). l.answer) (left_alone (none-iff.1 n) tray),
    );
    untouched = left_alone;
    apart = λ h. none-iff.1 (other-ends h);
    chain = found;
  }

  pub path_answers : PathAnswers s p q S P Q
  path_answers = record {
    same = same-iff;
    apart = λ d e. other-ends d (same-iff.0 e);
    none = (λ e h. none-iff.0 e (same-iff.0 h), λ n. none-iff.1 (λ r. n (same-iff.1 r)));
  }
