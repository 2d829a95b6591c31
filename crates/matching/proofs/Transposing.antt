-- Rows copied between their places in the run's list and in the joined lists are the theory's two turnings.
use Prim.Native.Nat.{ℕ, ◌+◌, ◌≤◌, ◌<◌}
use mathlib.Core.Path.{◌≡◌, sym, ap, ap₂, ◌∙◌}
use mathlib.Core.List.{List, []}
use mathlib.Core.Logic.{ite}
use native.Mathlib.Omega.{arith}
use native.Mathlib.Decide.{ℕ_discrete}
use lib.ListN.{length, get_or}
use Rattle.theory.specs.Numbering.{sum, locate}
use Rattle.theory.specs.Instance as theory_instance
use Rattle.theory.specs.Mapping as theory_mapping
use Rattle.theory.specs.Sigma.{share, size, place, origin}
use Rattle.theory.specs.Matching.{partner}
use Rattle.theory.specs.Transposition.{raw, pushed as pushed_partner, to_raw, to_pushed}
use Rattle.theory.proofs.Numbering.{sum-ext, sum_mono, locate-place, tabulate-length}
use Rattle.theory.proofs.Sigma.{share-own, place-in, origin-place, each_row}
use Rattle.theory.proofs.Matching.{partners-partner}
use Rattle.theory.proofs.Transposition.{pushed-place}
use Rattle.meaning.specs.Lists.{sum_of}
use Rattle.meaning.specs.Formats.{table_list}
use Rattle.meaning.specs.Sigma.{fibre, rows_in}
use Rattle.agreement.proofs.Joined.{map-upto-get_or, rows_in-share}
use Rattle.schema.specs.declared.Schema.{Schema}
use Rattle.schema.specs.Decoded.{schema_of}
use Rattle.instance.specs.declared.Instance.{Instance}
use Rattle.instance.specs.declared.tables.Table.{Table}
use Rattle.instance.specs.Decoded.{tables_of}
use Rattle.instance.specs.Tables.{table_list_of}
use Rattle.mapping.specs.declared.Mapping.{Mapping}
use Rattle.mapping.specs.Decoded.{mapping_of}
use Rattle.mapping.proofs.Viewing.{node_at}
use Rattle.matching.specs.Compared.{partners_of, first_in}
use Rattle.matching.specs.Turned.{mapping_between, counts_of, share_in, place_in, PushedCounts, Placeable, Placed, Placement, Moveable, Moved}
use Rattle.matching.proofs.TableRows.{sum-front, rows_are, first-is, count-is, partner-at}

module _ {s t : Schema} {f : Mapping} {run pushed : Instance} (H : PushedCounts s t f run pushed) where
  abbrev n : ℕ
  n = s.graph.nodes

  abbrev m : ℕ
  m = t.graph.nodes

  abbrev F : theory_mapping.Mapping
  F = mapping_between s t f

  abbrev I : theory_instance.Instance ℕ
  I = counts_of s run

  abbrev P : theory_instance.Instance ℕ
  P = counts_of t pushed

  node_is : (c : ℕ) → c < n → F.node c ≡ get_or f.node c 0
  node_is c l = node_at s f c l

  node_in : (c : ℕ) → c < n → F.node c < m
  node_in c l = rw (node_is c l) (H.nodes.each c l)

  size_is : (d : ℕ) → d < m → P.count d ≡ size F I d
  size_is d l =
      ap (λ (xs : List ℕ). get_or xs d 0) H.counts
      ∙ map-upto-get_or (λ d. rows_in (tables_of s run [] []) (fibre (schema_of s) (mapping_of s f) d)) m 0 d l
      ∙ rows_in-share (schema_of s) (schema_of t) (mapping_of s f) (tables_of s run [] []) d n

  -- where the rows of c begin among all pushed rows, and that they all stand there
  abbrev start : ℕ → ℕ
  start c = sum P.count (F.node c) + sum (share F I (F.node c)) c

  start-within : (c : ℕ) → c < n → start c + I.count c ≤ 512
  start-within c l =
      let a = sum-front (share F I (F.node c)) n c l in
      let b = sum-front P.count m (F.node c) (node_in c l) in
      omega (arith, share-own F I c, size_is (F.node c) (node_in c l), rows_are t pushed, H.pushed_limits.rows)

  -- ---- the places that the code finds
  module _ (own tables : List Table) (own-laid : table_list_of n own ≡ table_list (tables_of s run [] [])) (tables-laid : table_list_of m tables ≡ table_list (tables_of t pushed [] [])) where
    share-is : (d k : ℕ) → k < n → share_in f.node own d k ≡ share F I d k
    unfolding share
    share-is d k l = ap₂ (λ (x y : ℕ). ite (ℕ_discrete x d) y 0) (sym (node_is k l)) (count-is s run own own-laid k l)

    start_is : (c : ℕ) → c < n → place_in f.node own tables c ≡ start c
    start_is c l =
        rw (← node_is c l)
        (ap₂ (λ (x y : ℕ). x + y) (first-is t pushed tables tables-laid (F.node c) (node_in c l)) (sum-ext _ _ c (λ k h. share-is (F.node c) k (omega arith))))

    pub placeable : length f.node ≡ 16 → Placeable n f.node own tables
    placeable e = record {
      few = H.s_sound.limits.nodes;
      long = omega (arith, H.s_sound.limits.nodes);
      tables = λ c l. omega (arith, H.nodes.each c l, H.t_sound.limits.nodes);
      within = λ c l. rw (start_is c l, count-is s run own own-laid c l) (start-within c l);
    }

    pub placement : {joined : List Table} → Placed n f.node own tables joined → Placement s t f run pushed own joined
    placement u = record {
      own_first = first-is s run own own-laid;
      own_count = count-is s run own own-laid;
      joined_first = λ c l. ap (λ (x : Table). x.first) (u.each c l) ∙ start_is c l;
      joined_count = λ c l. ap (λ (x : Table). x.count) (u.each c l) ∙ count-is s run own own-laid c l;
    }

  -- ---- rows copied from place to place
  module _ {own joined : List Table} (L : Placement s t f run pushed own joined) where
    own-within : (c : ℕ) → c < n → first_in own c + I.count c ≤ 512
    own-within c l = omega (arith, L.own_first c l, sum-front I.count n c l, rows_are s run, H.run_limits.rows)

    joined-within : (c : ℕ) → c < n → first_in joined c + I.count c ≤ 512
    joined-within c l = rw (L.joined_first c l) (start-within c l)

    pub raw-moveable : {list out : List ℕ} → 512 ≤ length list → 512 ≤ length out → Moveable n joined own list out
    raw-moveable p q = record {
      few = H.s_sound.limits.nodes;
      here = λ c l. omega (arith, joined-within c l, L.joined_count c l);
      there = λ c l. omega (arith, own-within c l, L.joined_count c l);
      apart = λ k c h l x y i j e.
          let a : sum I.count k + x < sum I.count c = sum_mono I.count c k x h (rw (← L.joined_count k (omega arith)) i) in
          omega (arith, L.own_first k (omega arith), L.own_first c l);
    }

    place-low : (c x : ℕ) → c < n → x < I.count c → place F I c x < P.count (F.node c)
    place-low c x l h = rw (size_is (F.node c) (node_in c l)) (place-in F I c x l h)

    -- the number of a row's place among all pushed rows
    number_is : (c x : ℕ) → c < n → first_in joined c + x ≡ sum P.count (F.node c) + place F I c x
    number_is c x l = omega (arith, L.joined_first c l)

    -- two rows have two places
    apart : (k c : ℕ) → k < c → c < n → (x y : ℕ) → x < I.count k → y < I.count c → first_in joined k + x ≡ first_in joined c + y → ⊥
    apart k c h l x y i j e =
        let a : k < n = omega arith in
        let p : ◌≡◌ {A = ℕ × ℕ} (F.node k, place F I k x) (F.node c, place F I c y) =
        sym (locate-place P.count m (F.node k) (place F I k x) (node_in k a) (place-low k x a i))
        ∙ ap (locate P.count m) (sym (number_is k x a) ∙ e ∙ number_is c y l)
        ∙ locate-place P.count m (F.node c) (place F I c y) (node_in c l) (place-low c y l j)
        in
        let q : ◌≡◌ {A = ℕ × ℕ} (k, x) (c, y) = sym (origin-place F I k x a i) ∙ ap (λ (o : ℕ × ℕ). origin F I o.0 o.1) p ∙ origin-place F I c y l j in
        let z : k ≡ c = ap (λ (o : ℕ × ℕ). o.0) q in
        omega arith

    pub pushed-moveable : {list out : List ℕ} → 512 ≤ length list → 512 ≤ length out → Moveable n own joined list out
    pushed-moveable p q = record {
      few = H.s_sound.limits.nodes;
      here = λ c l. omega (arith, own-within c l, L.own_count c l);
      there = λ c l. omega (arith, joined-within c l, L.own_count c l);
      apart = λ k c h l x y i j. apart k c h l x y (rw (← L.own_count k (omega arith)) i) (rw (← L.own_count c l) j);
    }

    pub raw-is : {list out : List ℕ} → Moved n joined own list out → partners_of s run out ≡ to_raw F I P (partners_of t pushed list)
    raw-is {list} {out} u = sym (partners-partner F.S I (partners_of s run out) (raw F I (partner P (partners_of t pushed list))) (tabulate-length (sum_of (tables_of s run [] []).counts) _ ∙ sym (rows_are s run)) (λ c l x h.
        partner-at t pushed list (F.node c) (place F I c x) (node_in c l) (place-low c x l h)
        ∙ ap (λ (k : ℕ). get_or list k 0) (sym (number_is c x l))
        ∙ sym (u.each c l x (rw (L.joined_count c l) h))
        ∙ ap (λ (k : ℕ). get_or out (k + x) 0) (L.own_first c l)
        ∙ sym (partner-at s run out c x l h)))

    pub pushed_is : {list out : List ℕ} → Moved n own joined list out → partners_of t pushed out ≡ to_pushed F I P (partners_of s run list)
    pushed_is {list} {out} u = sym (partners-partner F.T P (partners_of t pushed out) (pushed_partner F I (partner I (partners_of s run list))) (tabulate-length (sum_of (tables_of t pushed [] []).counts) _ ∙ sym (rows_are t pushed)) (λ d l y h.
        each_row F I (λ d y. d < m → pushed_partner F I (partner I (partners_of s run list)) d y ≡ partner P (partners_of t pushed out) d y)
        (λ c x i r k.
        pushed-place F I (partner I (partners_of s run list)) c x i r
        ∙ partner-at s run list c x i r
        ∙ ap (λ (k : ℕ). get_or list (k + x) 0) (sym (L.own_first c i))
        ∙ sym (u.each c i x (rw (L.own_count c i) r))
        ∙ ap (λ (k : ℕ). get_or out k 0) (number_is c x i)
        ∙ sym (partner-at t pushed out (F.node c) (place F I c x) k (place-low c x i r)))
        d y (rw (size_is d l) at h) l))
