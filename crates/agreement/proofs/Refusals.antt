-- Each kind of sheet is decided by its tests (specs/SheetTests.antt): the judge's refusal is that of the first test that fails. Readers refuse
-- with 1, 2 and 3 only, so that 6 is given exactly for too many paths, and 10 exactly for a value off scale.
use Prim.Native.Nat.{ℕ, zero, suc, ◌+◌, ◌*◌, ◌<◌, ◌≤◌}
use mathlib.Core.Path.{◌≡◌, refl, sym, ap, ◌∙◌, subst}
use mathlib.Core.Bool.{Bool, true, false, cond, not}
use mathlib.Core.List.{List, [], ◌∷◌}
use mathlib.Core.Logic.{◌↔◌}
use native.Mathlib.Omega.{arith}
use lib.ListN.{length, get_or}
use lib.Dec.{leb}
use borrow.Author.Tests.{leb-false, lt-leb}
use Rattle.bits.specs.Field as bits
use Rattle.meaning.specs.Lists.{sum_of}
use Rattle.meaning.specs.Schema.{Graph, Schema, is_path, all_paths, has_loop}
use Rattle.meaning.specs.Category.{Category}
use Rattle.meaning.specs.Sheet.{Read, fails, reads, Reader, after, ◌>>=◌, give, times, in_turn, field, ensure, finish, Judged, faulty, sound, judged, on_sheet}
use Rattle.meaning.specs.Formats.{Counts, Mapping, Instance, max_paths, max_rows, counts_in_limits, read_edges, read_path, read_counts, read_edge, read_attribute, read_equation, read_lists, read_schema, read_mapping, read_links, read_values, read_tables, read_instance, kinds}
use Rattle.meaning.specs.Judge as judge
use Rattle.meaning.specs.Judge.{is_well_formed, has_few_paths, test_schema, judge_schema, judge_path, judge_mapping, test_instance, judge_instance, images_fit, keeps_equations, links_in_range, values_in_range, obeys_equations}
use Rattle.meaning.specs.Matching.{is_matching, judge_matching}
use Rattle.meaning.specs.Calls.{refused, at}
use Rattle.meaning.specs.Rows.{one_row, row_links_in_range, row_obeys_equations, test_row, judge_row}
use Rattle.meaning.proofs.Lists.{no_bool}
use Rattle.meaning.proofs.Readers.{sound-same}
use Rattle.meaning.proofs.Facts.{instance-shaped}
use Rattle.agreement.specs.Paths.{Crowded}
use Rattle.agreement.specs.Valid.{OffScale}
use Rattle.agreement.proofs.Instances.{links-iff, beyond-iff}
use Rattle.agreement.specs.Tests.{Refusal, Tests, done, test, Decides, holds}
use Rattle.agreement.proofs.Tests.{decides-as}
use Rattle.agreement.specs.SheetTests.{row_sheet_tests, matching_tests, instance_tests, read_links_values, mapping_tests, read_images, schema_tests, path_tests, what_read}

-- ---- which refusals a reader can give

-- m refuses with numbers in P only
record RefusesIn (P : ℕ → Type 0) {A : Type 0} (m : Reader A) : Type 0 where
  so : (s : List ℕ) (p : ℕ) {n : ℕ} → m s p ≡ fails n → P n

-- the only refusal of m is 1 (cut)
abbrev Cuts : {A : Type 0} → Reader A → Type 0
Cuts m = RefusesIn (λ n. n ≡ 1) m

fails-not-reads : {A : Type 0} {n : ℕ} {a : A} {q : ℕ} → ◌≡◌ {A = Read A} (reads a q) (fails n) → ⊥
fails-not-reads e = let w : ◌≡◌ {A = ℕ} 0 1 = cc in omega arith

fails-same : {A : Type 0} {n m : ℕ} → ◌≡◌ {A = Read A} (fails n) (fails m) → n ≡ m
fails-same e = cc

cuts-field : (w : ℕ) → Cuts (field w)
cuts-field w = record { so = λ s p e. go (leb (p + w) (8 * length s)) (bits.field s p w) (p + w) e }
  where
    go : (t : Bool) (v q : ℕ) {n : ℕ} → cond t (reads v q) (fails 1) ≡ fails n → n ≡ 1
    go true v q e = absurd (fails-not-reads e)
    go false v q e = sym (fails-same e)

module _ {P : ℕ → Type 0} where
  refuses-give : {A : Type 0} {a : A} → RefusesIn P (give a)
  refuses-give = record { so = λ s p e. absurd (fails-not-reads e) }

  refuses-bind : {A B : Type 0} {m : Reader A} {k : A → Reader B} → RefusesIn P m → ((a : A) → RefusesIn P (k a)) → RefusesIn P (m >>= k)
  refuses-bind {A} {m = m} {k = k} M K = record { so = λ s p e. go s p (m s p) refl e }
    where
      go : (s : List ℕ) (p : ℕ) (r : Read A) → m s p ≡ r → {n : ℕ} → after s r k ≡ fails n → P n
      go s p (fails j) d e = subst P (fails-same e) (M.so s p d)
      go s p (reads a q) d e = (K a).so s q e

  refuses-times : {A : Type 0} {m : Reader A} (n : ℕ) → RefusesIn P m → RefusesIn P (times n m)
  refuses-times zero M = refuses-give
  refuses-times (suc n) M = refuses-bind M (λ x. refuses-bind (refuses-times n M) (λ xs. refuses-give))

  refuses-in_turn : {A B : Type 0} {m : A → Reader B} (xs : List A) → ((x : A) → RefusesIn P (m x)) → RefusesIn P (in_turn m xs)
  refuses-in_turn [] M = refuses-give
  refuses-in_turn (x ∷ xs) M = refuses-bind (M x) (λ y. refuses-bind (refuses-in_turn xs M) (λ ys. refuses-give))

-- ---- one test of a sheet

module _ {A : Type 0} {rs : List Refusal} (place : ℕ) where
  -- a part of the sheet is read
  decides-read : {B C : Type 0} {m : Reader B} → Cuts m → (s : List ℕ) (p : ℕ) (k : B → Reader C) (g : C → Judged A) {t : B × ℕ → Tests A rs}
      → ((b : B) (q : ℕ) → Decides (t (b, q)) (at place (judge.◌>>=◌ (judged (k b s q)) g))) → Decides (test (1, place) (what_read (m s p)) t) (at place (judge.◌>>=◌ (judged (after s (m s p) k)) g))
  decides-read {B} {m = m} M s p k g {t} T = go (m s p) refl
    where
      go : (r : Read B) → m s p ≡ r → Decides (test (1, place) (what_read r) t) (at place (judge.◌>>=◌ (judged (after s r k)) g))
      go (fails n) e = record { so = ap (λ (n : ℕ). refused n place) (M.so s p e) }
      go (reads b q) e = record { so = (T b q).so }

  -- a condition, while reading
  decides-reader : {C : Type 0} (n : ℕ) (b : Bool) (s : List ℕ) (p : ℕ) (k : Unit {0} → Reader C) (g : C → Judged A) {t : Unit {0} → Tests A rs}
      → Decides (t tt) (at place (judge.◌>>=◌ (judged (k tt s p)) g)) → Decides (test (n, place) (holds b) t) (at place (judge.◌>>=◌ (judged (after s (ensure b n s p) k)) g))
  decides-reader n true s p k g T = record { so = T.so }
  decides-reader n false s p k g T = record { so = refl }

  -- a condition, of what was read
  decides-judge : (n : ℕ) (b : Bool) (k : Unit {0} → Judged A) {t : Unit {0} → Tests A rs} → Decides (t tt) (at place (k tt)) → Decides (test (n, place) (holds b) t) (at place (judge.◌>>=◌ (judge.ensure b n) k))
  decides-judge n true k T = record { so = T.so }
  decides-judge n false k T = record { so = refl }

decides-sound : {A : Type 0} (place : ℕ) (a : A) → Decides (done a) (at place (sound a))
decides-sound place a = record { so = refl }

-- ---- path
cuts-edges : Cuts read_edges
cuts-edges = refuses-bind (cuts-field 4) (λ k. refuses-times k (cuts-field 5))

cuts-path : Cuts read_path
cuts-path = refuses-bind (cuts-field 4) (λ n. refuses-bind cuts-edges (λ es. refuses-give))

pub path-decided : (place : ℕ) (G : Graph) (s : List ℕ) → Decides (path_tests place G s) (at place (judge_path G s))
path-decided place G s =
    decides-read place cuts-path s 0 _ _ (λ p q.
    decides-reader place 2 (bits.tail_ok s q) s q _ _ (
    decides-judge place 4 (is_path G p) _ (
    decides-sound place p)))

-- ---- schema
cuts-counts : Cuts read_counts
cuts-counts = refuses-bind (cuts-field 5) (λ n. refuses-bind (cuts-field 6) (λ e. refuses-bind (cuts-field 5) (λ a. refuses-bind (cuts-field 6) (λ q. refuses-give))))

cuts-edge : Cuts read_edge
cuts-edge = refuses-bind (cuts-field 4) (λ s. refuses-bind (cuts-field 4) (λ t. refuses-give))

cuts-attribute : Cuts read_attribute
cuts-attribute = refuses-bind (cuts-field 4) (λ n. refuses-bind (cuts-field 4) (λ k. refuses-give))

cuts-equation : Cuts read_equation
cuts-equation = refuses-bind cuts-path (λ l. refuses-bind cuts-path (λ r. refuses-give))

cuts-lists : (c : Counts) → Cuts (read_lists c)
cuts-lists c =
    refuses-bind (refuses-times c.edges cuts-edge) (λ es.
    refuses-bind (refuses-times c.attributes cuts-attribute) (λ as'.
    refuses-bind (refuses-times c.equations cuts-equation) (λ qs.
    refuses-give)))

pub schema-decided : (place : ℕ) (s : List ℕ) → Decides (schema_tests place s) (at place (judge_schema s))
schema-decided place s =
    decides-read place cuts-counts s 0 _ _ (λ c p.
    decides-reader place 3 (counts_in_limits c) s p _ _ (
    decides-read place (cuts-lists c) s p _ _ (λ S q.
    decides-reader place 2 (bits.tail_ok s q) s q _ _ (
    decides-judge place 4 (is_well_formed S) _ (
    decides-judge place 5 (not (has_loop S.graph)) _ (
    decides-judge place 6 (has_few_paths S.graph) _ (
    decides-sound place S)))))))

-- ---- refusal 6: reading refuses with less

low-cuts : {A : Type 0} {m : Reader A} → Cuts m → RefusesIn (λ n. n < 4) m
low-cuts M = record { so = λ s p e. let h = M.so s p e in omega arith }

low-ensure : (b : Bool) (n : ℕ) → n < 4 → RefusesIn (λ n. n < 4) (ensure b n)
low-ensure true n h = refuses-give
low-ensure false n h = record { so = λ s p e. let k = fails-same e in omega arith }

low-finish : RefusesIn (λ n. n < 4) finish
low-finish = record { so = λ s p e. (low-ensure (bits.tail_ok s p) 2 (omega arith)).so s p e }

low-schema : RefusesIn (λ n. n < 4) read_schema
low-schema =
    refuses-bind (low-cuts cuts-counts) (λ c.
    refuses-bind (low-ensure (counts_in_limits c) 3 (omega arith)) (λ _.
    refuses-bind (low-cuts (cuts-lists c)) (λ S.
    refuses-bind low-finish (λ _.
    refuses-give))))

module _ {A : Type 0} where
  faulty-same : {n m : ℕ} → ◌≡◌ {A = Judged A} (faulty n) (faulty m) → n ≡ m
  faulty-same e = cc

  sound-not-faulty : {n : ℕ} {a : A} → ◌≡◌ {A = Judged A} (sound a) (faulty n) → ⊥
  sound-not-faulty e = let w : ◌≡◌ {A = ℕ} 0 1 = cc in omega arith

-- a number from 4 up is given exactly where the sheet is read as something whose tests give it
module _ {A : Type 0} {m : Reader A} (low : RefusesIn (λ n. n < 4) m) (test : A → Judged A) (n : ℕ) (high : 4 ≤ n) (s : List ℕ) where
  given-iff : (judge.◌>>=◌ (on_sheet m s) test ≡ faulty n) ↔ ((a : A) × (on_sheet m s ≡ sound a) × (test a ≡ faulty n))
  given-iff = go (m s 0) refl
    where
      go : (r : Read A) → m s 0 ≡ r → (judge.◌>>=◌ (judged r) test ≡ faulty n) ↔ ((a : A) × (on_sheet m s ≡ sound a) × (test a ≡ faulty n))
      go (fails k) e = (
        λ f. let h = low.so s 0 e in let l = faulty-same f in absurd (omega arith),
        λ x. absurd (sound-not-faulty (sym x.1 ∙ ap judged e)),
      )
      go (reads a q) e = (λ f. (a, ap judged e, f), λ x. subst (λ (b : A). test b ≡ faulty n) (sound-same (sym x.1 ∙ ap judged e)) x.2)

-- by the three tests
abbrev tested : Schema → Bool → Bool → Bool → Judged Schema
tested S a b c = judge.◌>>=◌ (judge.ensure a 4) (λ _. judge.◌>>=◌ (judge.ensure (not b) 5) (λ _. judge.◌>>=◌ (judge.ensure c 6) (λ _. sound S)))

tested-iff : (S : Schema) (a b c : Bool) → (tested S a b c ≡ faulty 6) ↔ ((a ≡ true) × (b ≡ false) × (c ≡ false))
tested-iff S false b c = (λ e. let k = faulty-same e in absurd (omega arith), λ h. absurd (no_bool (sym h.0)))
tested-iff S true true c = (λ e. let k = faulty-same e in absurd (omega arith), λ h. absurd (no_bool h.1))
tested-iff S true false true = (λ e. absurd (sound-not-faulty e), λ h. absurd (no_bool h.2))
tested-iff S true false false = (λ e. (refl, refl, refl), λ h. refl)

-- 6 is given exactly where the sheet reads as a well-formed schema without a loop that has more than 256 paths
pub crowd-iff : (s : List ℕ) → (judge_schema s ≡ faulty 6) ↔ ((S : Schema) × Crowded s S)
crowd-iff s =
    let g = given-iff low-schema test_schema 6 (omega arith) s in (
      λ f.
          let x = g.0 f in
          let S = x.0 in
          let t = (tested-iff S (is_well_formed S) (has_loop S.graph) (has_few_paths S.graph)).0 x.2 in
          (S, record { reads = x.1; formed = record { fits = t.0; acyclic = t.1 }; crowd = leb-false (length (all_paths S.graph)) max_paths t.2 }),
      λ x.
          let S = x.0 in
          let t = tested-iff S (is_well_formed S) (has_loop S.graph) (has_few_paths S.graph) in
          g.1 (S, x.1.reads, t.1 (x.1.formed.fits, x.1.formed.acyclic, lt-leb (length (all_paths S.graph)) max_paths x.1.crowd)),
    )

-- ---- readers in a row, regrouped
module _ {A B C : Type 0} (s : List ℕ) where
  after-after : (r : Read A) (f : A → Reader B) (k : B → Reader C) (g : A → Reader C) → ((a : A) (p : ℕ) → after s (f a s p) k ≡ g a s p) → after s (after s r f) k ≡ after s r g
  after-after (fails n) f k g h = refl
  after-after (reads a p) f k g h = h a p

-- ---- mapping

cuts-images : (S : Schema) → Cuts (read_images S)
cuts-images S =
    refuses-bind (refuses-times S.graph.nodes (cuts-field 4)) (λ ns.
    refuses-bind (refuses-times (length S.graph.edges) cuts-edges) (λ es.
    refuses-bind (refuses-times (length S.attributes) (cuts-field 4)) (λ as'.
    refuses-give)))

-- reading, then the end
abbrev finished : {A : Type 0} → A → Reader A
finished a = do
  _ ← finish
  give a

images-finished : (S : Schema) (s : List ℕ) (p : ℕ) → after s (read_images S s p) finished ≡ read_mapping S s p
images-finished S s p =
    after-after s (times S.graph.nodes (field 4) s p) _ _ _ (λ ns p.
    after-after s (times (length S.graph.edges) read_edges s p) _ _ _ (λ es p.
    after-after s (times (length S.attributes) (field 4) s p) _ _ _ (λ as' p. refl)))

pub mapping-decided : (place : ℕ) (S T : Category) (s : List ℕ) → Decides (mapping_tests place S T s) (at place (judge_mapping S T s))
mapping-decided place S T s =
    decides-as (ap (λ (r : Read Mapping). at place (judge.◌>>=◌ (judged r) tests)) (images-finished S.schema s 0)) (
    decides-read place (cuts-images S.schema) s 0 finished tests (λ F q.
    decides-reader place 2 (bits.tail_ok s q) s q _ _ (
    decides-judge place 7 (images_fit S.schema T.schema F) _ (
    decides-judge place 8 (keeps_equations S T F) _ (
    decides-sound place F)))))
  where
    tests : Mapping → Judged Mapping
    tests F = judge.◌>>=◌ (judge.ensure (images_fit S.schema T.schema F) 7) (λ _. judge.◌>>=◌ (judge.ensure (keeps_equations S T F) 8) (λ _. sound F))

-- ---- instance
cuts-links : (S : Schema) (counts : List ℕ) → Cuts (read_links S counts)
cuts-links S counts = refuses-in_turn S.graph.edges (λ e. refuses-times (get_or counts e.source 0) (cuts-field 9))

cuts-values : (S : Schema) (counts : List ℕ) → Cuts (read_values S counts)
cuts-values S counts = refuses-in_turn S.attributes (λ a. refuses-times (get_or counts a.node 0) (cuts-field 32))

cuts-links_values : (S : Schema) (counts : List ℕ) → Cuts (read_links_values S counts)
cuts-links_values S counts = refuses-bind (cuts-links S counts) (λ ls. refuses-bind (cuts-values S counts) (λ vs. refuses-give))

links_values-finished : (S : Schema) (counts s : List ℕ) (p : ℕ) → after s (read_links_values S counts s p) finished ≡ read_tables S counts s p
links_values-finished S counts s p = after-after s (read_links S counts s p) _ _ _ (λ ls p. after-after s (read_values S counts s p) _ _ _ (λ vs p. refl))

pub instance-decided : (place : ℕ) (S : Schema) (s : List ℕ) → Decides (instance_tests place S s) (at place (judge_instance S s))
instance-decided place S s =
    decides-read place (refuses-times S.graph.nodes (cuts-field 10)) s 0 _ tests (λ counts p.
    decides-reader place 3 (leb (sum_of counts) max_rows) s p _ tests (
    decides-as (ap (λ (r : Read Instance). at place (judge.◌>>=◌ (judged r) tests)) (links_values-finished S counts s p)) (
    decides-read place (cuts-links_values S counts) s p finished tests (λ I q.
    decides-reader place 2 (bits.tail_ok s q) s q _ tests (
    decides-judge place 9 (links_in_range S I) _ (
    decides-judge place 10 (values_in_range kinds S I) _ (
    decides-judge place 11 (obeys_equations S I) _ (
    decides-sound place I))))))))
  where
    tests : Instance → Judged Instance
    tests I =
        judge.◌>>=◌ (judge.ensure (links_in_range S I) 9) (λ _.
        judge.◌>>=◌ (judge.ensure (values_in_range kinds S I) 10) (λ _.
        judge.◌>>=◌ (judge.ensure (obeys_equations S I) 11) (λ _.
        sound I)))

-- ---- refusal 10

low-instance : (S : Schema) → RefusesIn (λ n. n < 4) (read_instance S)
low-instance S =
    refuses-bind (low-cuts (refuses-times S.graph.nodes (cuts-field 10))) (λ counts.
    refuses-bind (low-ensure (leb (sum_of counts) max_rows) 3 (omega arith)) (λ _.
    refuses-bind (low-cuts (cuts-links S counts)) (λ ls.
    refuses-bind (low-cuts (cuts-values S counts)) (λ vs.
    refuses-bind low-finish (λ _.
    refuses-give)))))

-- by the three tests
ranged-iff : (I : Instance) (a b c : Bool)
    → (judge.◌>>=◌ (judge.ensure a 9) (λ _. judge.◌>>=◌ (judge.ensure b 10) (λ _. judge.◌>>=◌ (judge.ensure c 11) (λ _. sound I))) ≡ faulty 10) ↔ ((a ≡ true) × (b ≡ false))
ranged-iff I false b c = (λ e. let k = faulty-same e in absurd (omega arith), λ h. absurd (no_bool (sym h.0)))
ranged-iff I true false c = (λ e. (refl, refl), λ h. refl)
ranged-iff I true true false = (λ e. let k = faulty-same e in absurd (omega arith), λ h. absurd (no_bool h.1))
ranged-iff I true true true = (λ e. absurd (sound-not-faulty e), λ h. absurd (no_bool h.1))

-- 10 is given exactly where the sheet reads as an instance whose links are in range, with a value below its kind's smallest or above its largest
pub off-scale-iff : (S : Schema) (s : List ℕ) → (judge_instance S s ≡ faulty 10) ↔ ((I : Instance) × OffScale S s I)
off-scale-iff S s =
    let g = given-iff (low-instance S) (test_instance S) 10 (omega arith) s in (
      λ f.
          let x = g.0 f in
          let I = x.0 in
          let is = instance-shaped S s x.1 in
          let t = (ranged-iff I (links_in_range S I) (values_in_range kinds S I) (obeys_equations S I)).0 x.2 in
          (I, record { reads = x.1; links = (links-iff kinds S I is).0 t.0; value = (beyond-iff kinds S I is).0 t.1 }),
      λ x.
          let I = x.0 in
          let is = instance-shaped S s x.1.reads in
          let t = ranged-iff I (links_in_range S I) (values_in_range kinds S I) (obeys_equations S I) in
          g.1 (I, x.1.reads, t.1 ((links-iff kinds S I is).1 x.1.links, (beyond-iff kinds S I is).1 x.1.value)),
    )

-- ---- matching
pub matching-decided : (place : ℕ) (S : Schema) (A B : Instance) (s : List ℕ) → Decides (matching_tests place S A B s) (at place (judge_matching S A B s))
matching-decided place S A B s =
    decides-read place (refuses-times (sum_of A.counts) (cuts-field 9)) s 0 _ _ (λ l q.
    decides-reader place 2 (bits.tail_ok s q) s q _ _ (
    decides-judge place 17 (is_matching S A B l) _ (
    decides-sound place l)))

-- ---- an added row
pub row-decided : (place : ℕ) (S : Schema) (I : Instance) (c : ℕ) (s : List ℕ) → Decides (row_sheet_tests place S I c s) (at place (judge_row S I c s))
row-decided place S I c s =
    decides-as (ap (λ (r : Read Instance). at place (judge.◌>>=◌ (judged r) (test_row S I c))) (links_values-finished S (one_row S c) s 0)) (
    decides-read place (cuts-links_values S (one_row S c)) s 0 finished (test_row S I c) (λ R q.
    decides-reader place 2 (bits.tail_ok s q) s q _ (test_row S I c) (
    decides-judge place 9 (row_links_in_range S I R) _ (
    decides-judge place 10 (values_in_range kinds S R) _ (
    decides-judge place 11 (row_obeys_equations S I c R) _ (
    decides-sound place R))))))
