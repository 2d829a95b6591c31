-- Laws of reading: a byte length, the sheet after it, and sheets one after the other.
use Prim.Native.Nat.{ℕ, ◌+◌, ◌-◌, ◌*◌, ◌≤◌, ◌<◌}
use mathlib.Core.Path.{◌≡◌, refl, sym, ap, subst, ◌∙◌}
use mathlib.Core.List.{List, [], ◌∷◌, ◌++◌}
use native.Mathlib.Omega.{arith}
use lib.ListN.{length, take, drop, get_or, length-drop}
use lib.Seq.{drop-drop, take-nil, take_all, take-add, take-take, take-append-le, drop_at, length-take-le, get_or-take}
use borrow.Rule.Slice.PartMut.{put_mid, post_of}
use Rattle.std.specs.Io.KnownBytes.{Consumes, Keeps}
use Rattle.std.proofs.KnownBytes.{Consumes-trans, Consumes-kept}
use Rattle.std.proofs.lemmas.Slice.{take-put_mid_below}
use Rattle.std.proofs.lemmas.List.{drop-take}
use Rattle.std.specs.Prelude.{Option}
use Rattle.meaning.specs.Program.{announced, frames}
use Rattle.agreement.proofs.Framing.{Whole, whole-none, whole-next, whole-last, whole_all}
use Rattle.text.specs.Framed.{max_sheet_bytes, max_frame_bytes, LengthFound}
use Rattle.text.proofs.SheetParts.{length_some}
use Rattle.input.specs.Read.{IsPrefixLen, read_to, ReadFrom, SheetsRead, BrokenOff}

prefix_len_of_le : (n : ℕ) (xs : List ℕ) → n ≤ length xs → IsPrefixLen n xs
prefix_len_of_le n xs h = (h, sym (length-take-le n xs h))

-- ---- bytes read behind others

-- n bytes of a part that was read to
read_there : (at k n : ℕ) (into part : List ℕ) → at ≤ length into → n ≤ length part → take n (drop at (put_mid at k into part)) ≡ take n part
read_there at k n into part within fits =
    let after = post_of at k into in
    ap (take n) (drop_at (take at into) (part ++ after) at (length-take-le at into within)) ∙ take-append-le n part after fits

read_behind : (at k n : ℕ) (into part : List ℕ) → at ≤ length into → n ≤ length part → take (at + n) (put_mid at k into part) ≡ take at into ++ take n part
read_behind at k n into part within fits =
    let new = put_mid at k into part in
    let front : take at new ≡ take at into = take-put_mid_below at k into part at (omega arith) within in
    take-add at n new ∙ ap (◌++ take n (drop at new)) front ∙ ap (take at into ++◌) (read_there at k n into part within fits)

pub consumed_behind : (a b c : Option (List ℕ)) (at k n : ℕ) (into part : List ℕ) → at ≤ length into → n ≤ length part → Consumes a b (take at into) → Consumes b c (take n part) → Consumes a c (take (at + n) (put_mid at k into part))
consumed_behind a b c at k n into part within fits before now =
    subst (Consumes a c) (sym (read_behind at k n into part within fits)) (Consumes-trans a b c _ _ before now)

-- two bytes, and behind them others
two_and_more : (at k m got : ℕ) (old two part : List ℕ) → at + 2 ≤ length old → length two ≡ 2 → length (put_mid at k old two) ≡ length old → got ≤ length part
    → take (2 + got) (drop at (put_mid (at + 2) m (put_mid at k old two) part)) ≡ take 2 two ++ take got part
two_and_more at k m got old two part within size kept fits =
    let first = put_mid at k old two in
    let new = put_mid (at + 2) m first part in
    let inside : at + 2 ≤ length first = omega arith in
    let front : take 2 (drop at new) ≡ take 2 two =
    sym (drop-take at 2 new) ∙ ap (drop at) (take-put_mid_below (at + 2) m first part (at + 2) (omega arith) inside) ∙ drop-take at 2 first ∙ read_there at k 2 old two (omega arith) (omega arith) in
    let back : take got (drop 2 (drop at new)) ≡ take got part = ap (take got) (drop-drop 2 at new) ∙ read_there (at + 2) m got first part inside fits in
    take-add 2 got (drop at new) ∙ ap (◌++ take got (drop 2 (drop at new))) front ∙ ap (take 2 two ++◌) back

pub frame_consumed : (a b c : Option (List ℕ)) (at k m n got : ℕ) (old two part : List ℕ) → at + 2 ≤ length old → length two ≡ 2 → length (put_mid at k old two) ≡ length old → n ≤ 2
    → 2 ≤ n → got ≤ length part → Consumes a b (take n two) → Consumes b c (take got part)
    → Consumes a c (read_to (put_mid (at + 2) m (put_mid at k old two) part) at (at + 2 + got))
frame_consumed a b c at k m n got old two part within size kept few enough fits before now =
    let new = put_mid (at + 2) m (put_mid at k old two) part in
    let n_is : n ≡ 2 = omega arith in
    let count : at + 2 + got - at ≡ 2 + got = omega arith in
    let read : take (at + 2 + got - at) (drop at new) ≡ take n two ++ take got part =
    ap (λ i. take i (drop at new)) count ∙ two_and_more at k m got old two part within size kept fits ∙ ap (λ i. take i two ++ take got part) (sym n_is) in
    subst (Consumes a c) (sym read) (Consumes-trans a b c _ _ before now)

-- ---- what a failed read leaves

-- a read after others fails, and takes nothing
pub broken_behind : (a b c : Option (List ℕ)) (at k : ℕ) (old into part : List ℕ) → at ≤ length into → length (put_mid at k into part) ≡ length into
    → Consumes a b (take at into) → Keeps b c → BrokenOff a c old 0 (put_mid at k into part)
broken_behind a b c at k old into part within kept read none = record {
  before = take-nil 0;
  read = at;
  within = omega arith;
  bytes = subst (Consumes a c) (sym (take-put_mid_below at k into part at (omega arith) within)) (Consumes-kept a b c _ read none);
}

-- a part is read to, and that breaks off
pub broken_part : (a b : Option (List ℕ)) (at k : ℕ) (into part old : List ℕ) → at + length part ≤ length into → length (put_mid at k into part) ≡ length into
    → BrokenOff a b old 0 part → BrokenOff a b into at (put_mid at k into part)
broken_part a b at k into part old within kept broken =
    let n = broken.read in
    let fits : n ≤ length part = let h = broken.within in omega arith in
    record {
      before = take-put_mid_below at k into part at (omega arith) (omega arith);
      read = n;
      within = omega arith;
      bytes = subst (Consumes a b) (sym (read_there at k n into part (omega arith) fits)) broken.bytes;
    }

-- two bytes are read, and what is behind them breaks off
pub broken_sheet : (a b c : Option (List ℕ)) (at k m n : ℕ) (into two part old : List ℕ) → at + 2 ≤ length into → length two ≡ 2 → length (put_mid at k into two) ≡ length into
    → at + 2 + length part ≤ length into → length (put_mid (at + 2) m (put_mid at k into two) part) ≡ length into → n ≤ 2 → 2 ≤ n
    → Consumes a b (take n two) → BrokenOff b c old 0 part → BrokenOff a c into at (put_mid (at + 2) m (put_mid at k into two) part)
broken_sheet a b c at k m n into two part old within size kept inside kept_too few enough read broken =
    let got = broken.read in
    let first = put_mid at k into two in
    let n_is : n ≡ 2 = omega arith in
    let fits : got ≤ length part = let h = broken.within in omega arith in
    let front : take at (put_mid (at + 2) m first part) ≡ take at first = take-put_mid_below (at + 2) m first part at (omega arith) (omega arith) in
    record {
      before = front ∙ take-put_mid_below at k into two at (omega arith) (omega arith);
      read = 2 + got;
      within = omega arith;
      bytes = subst (Consumes a c) (sym (two_and_more at k m got into two part within size kept fits ∙ ap (λ i. take i two ++ take got part) (sym n_is))) (Consumes-trans a b c _ _ read broken.bytes);
    }

-- sheets are read, and the next one breaks off
pub broken_next : (a b c : Option (List ℕ)) (at : ℕ) (old into new : List ℕ) → Consumes a b (take at into) → BrokenOff b c into at new → BrokenOff a c old 0 new
broken_next a b c at old into new read broken = record {
  before = take-nil 0;
  read = at + broken.read;
  within = let h = broken.within in omega arith;
  bytes = subst (Consumes a c) (ap (◌++ take broken.read (drop at new)) (sym broken.before) ∙ sym (take-add at broken.read new)) (Consumes-trans a b c _ _ read broken.bytes);
}

-- ---- a byte length, and the sheet after it

-- a byte length is that of its two bytes
announced-two : (m : ℕ) (l : List ℕ) → announced (take (2 + m) l) ≡ announced l
announced-two m [] = ap announced (take-nil (2 + m))
announced-two m (a ∷ []) = ap announced (take_all (2 + m) (a ∷ []) (omega arith))
announced-two m (a ∷ b ∷ rest) = ap announced (take-add 2 m (a ∷ b ∷ rest))

announced-same : (at : ℕ) (l new : List ℕ) → at + 2 ≤ length l → at + 2 ≤ length new → take (at + 2) new ≡ take (at + 2) l → announced (drop at new) ≡ announced (drop at l)
announced-same at l new long long-new e =
    let first : get_or new at 0 ≡ get_or l at 0 = sym (get_or-take (at + 2) new at 0 (omega arith)) ∙ ap (λ (s : List ℕ). get_or s at 0) e ∙ get_or-take (at + 2) l at 0 (omega arith) in
    let second : get_or new (at + 1) 0 ≡ get_or l (at + 1) 0 = sym (get_or-take (at + 2) new (at + 1) 0 (omega arith)) ∙ ap (λ (s : List ℕ). get_or s (at + 1) 0) e ∙ get_or-take (at + 2) l (at + 1) 0 (omega arith) in
    length_some new at long-new ∙ rw (first, second, length_some l at long)

-- the input had a byte length, read first, and the sheet or less of it
pub frame-some : {old first new : List ℕ} {at size got : ℕ} → at + max_frame_bytes ≤ length old → length first ≡ length old → take at first ≡ take at old → length new ≡ length first → take (at + 2) new ≡ take (at + 2) first → LengthFound first at size → got ≤ size
    → ReadFrom old at (at + 2 + got) new × (size ≤ got → at + 2 + got - at ≡ 2 + announced (read_to new at (at + 2 + got)))
frame-some {old} {first} {new} {at} {size} {got} long first_long first-kept new-long new-kept found count =
    let announced-is : announced (drop at new) ≡ size = announced-same at first new (omega arith) (omega arith) new-kept ∙ sym found.is in
    let count-is : at + 2 + got - at ≡ 2 + got = omega arith in
    let size_is : announced (take (at + 2 + got - at) (drop at new)) ≡ size = rw count-is (announced-two got (drop at new) ∙ announced-is) in
    let within : size ≤ max_sheet_bytes = found.within in (
      record {
        before = sym (take-take at (at + 2) new (omega arith)) ∙ ap (take at) new-kept ∙ take-take at (at + 2) first (omega arith) ∙ first-kept;
        onward = omega arith;
        within = omega arith;
        no_more = rw size_is (omega arith);
      },
      λ h. rw size_is (omega arith),
    )

-- ---- sheets one after the other

-- i whole sheets have been read, and end at a position
pub record ReadSoFar (n : ℕ) (old into : List ℕ) (at i : ℕ) : Type 0 where
  pub long : length into ≡ length old
  pub few : i ≤ n
  pub room : at ≤ i * max_frame_bytes
  pub sheets : Whole i (take at into)

pub none_read : (n : ℕ) (into : List ℕ) → ReadSoFar n into into 0 0
none_read n into = record { long = refl; few = omega arith; room = omega arith; sheets = whole-none }

pub room-left : {n : ℕ} {old into : List ℕ} {at i : ℕ} → ReadSoFar n old into at i → i < n → n * max_frame_bytes ≤ length old → at + max_frame_bytes ≤ length into
room-left S less room = let h = S.long in let k = S.room in omega arith

module _ {n : ℕ} {old into new : List ℕ} {at end i : ℕ} (S : ReadSoFar n old into at i) (less : i < n) (room : n * max_frame_bytes ≤ length old) (F : ReadFrom into at end new) (kept : length new ≡ length into) where
  inside : end ≤ length new
  inside = let h = room-left S less room in let k = F.within in omega arith

  size : length (read_to new at end) ≡ end - at
  size = length-take-le (end - at) (drop at new) (let h = inside in omega (arith, length-drop at new))

  pub joined : take end new ≡ take at into ++ read_to new at end
  joined =
      let e : end ≡ at + (end - at) = let h = F.onward in omega arith in
      ap (λ (m : ℕ). take m new) e ∙ take-add at (end - at) new ∙ ap (◌++ read_to new at end) F.before

  pub next-read : end - at ≡ 2 + announced (read_to new at end) → ReadSoFar n old new end (i + 1)
  next-read e = record {
    long = kept ∙ S.long;
    few = omega arith;
    room = let h = S.room in let k = F.within in omega arith;
    sheets = subst (Whole (i + 1)) (sym joined) (whole-next (read_to new at end) S.sheets (size ∙ e));
  }

  pub last-read : SheetsRead n end new
  last-read = record {
    counts = prefix_len_of_le end new inside;
    no_more = ap (frames n) joined ∙ whole-last (read_to new at end) S.sheets (let h = size in let k = F.no_more in omega arith) n less ∙ sym joined;
  }

pub all_read : {n : ℕ} {old into : List ℕ} {at i : ℕ} → ReadSoFar n old into at i → n ≤ i → n * max_frame_bytes ≤ length old → SheetsRead n at into
all_read {n} {old} {into} {at} {i} S h room =
    let e : i ≡ n = let k = S.few in omega arith in
    record {
      counts = prefix_len_of_le at into (let l = S.long in let k = S.room in omega arith);
      no_more = whole_all (subst (λ (m : ℕ). Whole m (take at into)) e S.sheets);
    }
