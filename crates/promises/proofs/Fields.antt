-- The layouts and the requests are document 01's. Assumes nothing.
use mathlib.Core.Path.{◌≡◌, refl, sym, ap, ◌∙◌}
use mathlib.Core.Bool.{Bool, true, false}
use mathlib.Core.List.{List, [], ◌∷◌, ◌++◌, map}
use Prim.Native.Nat.{ℕ, ◌+◌, ◌-◌, ◌*◌, ◌%◌, ◌^◌, ◌≤◌}
use native.Mathlib.Nat.{mod-eq_of_lt, mod-lt, mod-mod, lt_of_lt_of_le, add-zero}
use native.Mathlib.Omega.{arith}
use lib.Dec.{T, leb, leb→le}
use lib.Pow.{pow_pos, pow_mono}
use Rattle.wire.specs.Words.{both}
use Rattle.wire.specs.Bytes.{bytes, Bytes, value, byte_at, window}
use Rattle.wire.specs.Fields.{Field, end, put, read, Filled, put_all, packed, laid_out, clear_of}
use Rattle.wire.proofs.Fields.{Row, cut, length-packed, bytes_bits, read-packed, read_skipped, read_within, read_whole}
use Rattle.mailbox.specs.Fields.{Name, place, the}
use Rattle.mailbox.specs.declared.sub_index.SubIndex.TheVariants.{Complete, Index}
use Rattle.services.specs.Requests.{packed_of, cut_to}
use Rattle.services.specs.declared.Request.TheVariants.{Upload, Download, Segment, Information}
use Rattle.promises.specs.Fields.{whole, ReadsLowFirst, LaidOut, covers, Packs, UploadPacks, DownloadPacks, SegmentPacks, InformationPacks, CounterCut}

pub laid_out_lem : LaidOut
laid_out_lem = refl

-- ---- low first

module _ (s : List ℕ) (h : Bytes s) (i : ℕ) where
  -- n bytes from i to j
  whole_is : (j n : ℕ) → j + 1 ≡ i + n → 1 ≤ n → read (whole i j) s ≡ value (window n s i)
  whole_is j n e p =
      let at : 8 * i ≡ 8 * i + 0 = omega arith in
      let wide : 8 * (j - i + 1) ≡ 8 * n = omega arith in
      ap (λ (f : ℕ). read (record { first = f; width = 8 * (j - i + 1) }) s) at
      ∙ ap (λ (w : ℕ). read (record { first = 8 * i + 0; width = w }) s) wide
      ∙ read_whole s h i n

  second : i + 1 + 1 ≡ i + 2
  second = omega arith

  third : i + 2 + 1 ≡ i + 3
  third = omega arith

  fourth : i + 3 + 1 ≡ i + 4
  fourth = omega arith

  four_is : value (window 4 s i) ≡ byte_at s i + 256 * byte_at s (i + 1) + 65536 * byte_at s (i + 2) + 16777216 * byte_at s (i + 3)
  four_is = rw (second, third) (omega arith)

  five_is : value (window 5 s i)
      ≡ byte_at s i + 256 * byte_at s (i + 1) + 65536 * byte_at s (i + 2) + 16777216 * byte_at s (i + 3) + 4294967296 * byte_at s (i + 4)
  five_is = rw (second, third, fourth) (omega arith)

pub reads_low_first : ReadsLowFirst
reads_low_first s h =
    record {
      in_a_byte = λ i low high a b. read_within s h i low (high - low + 1) (omega arith);
      one = λ i. whole_is s h i i 1 refl (omega arith) ∙ add-zero (byte_at s i);
      two = λ i. whole_is s h i (i + 1) 2 (omega arith) (omega arith) ∙ omega arith;
      four = λ i. whole_is s h i (i + 3) 4 (omega arith) (omega arith) ∙ four_is s h i;
      five = λ i. whole_is s h i (i + 4) 5 (omega arith) (omega arith) ∙ five_is s h i;
    }

-- ---- skipped bits

abbrev clear_in : ℕ → Filled → List Field → Bool
clear_in n rows [] = true
clear_in n rows (g ∷ gs) = both (both (clear_of rows g) (leb (end g) (8 * n))) (clear_in n rows gs)

pub parts : (a b : Bool) → T (both a b) → T a × T b
parts true b t = (tt, t)
parts false b t = absurd t

skipped_zero : (n : ℕ) (rows : Filled) (gs : List Field) → T (clear_in n rows gs)
    → map (λ (g : Field). read g (packed n rows)) gs ≡ map (λ (g : Field). 0) gs
skipped_zero n rows [] t = refl
skipped_zero n rows (g ∷ gs) t =
    let here = parts (both (clear_of rows g) (leb (end g) (8 * n))) (clear_in n rows gs) t in
    let this = parts (clear_of rows g) (leb (end g) (8 * n)) here.0 in
    ap (λ (x : ℕ). x ∷ map (λ (g : Field). read g (packed n rows)) gs)
    (read_skipped n rows g this.0 (leb→le (end g) (8 * n) this.1))
    ∙ ap (λ (l : List ℕ). 0 ∷ l) (skipped_zero n rows gs here.1)

-- ---- requests

-- rows that are the fields, in order, with no number wider than its field
module _ (n : ℕ) (rows : Filled) (fields : List (Name × ℕ)) (gs : List Field) where
  packs : T (laid_out 0 rows (8 * n)) → T (clear_in n rows gs)
      → map (λ (r : Name × ℕ). the r.0 (packed n rows)) fields ≡ map (λ (r : Row). read r.0 (packed n rows)) rows
      → covers (8 * n) (map (λ (r : Name × ℕ). place r.0) fields ++ gs) ≡ true
      → cut rows ≡ map (λ (r : Name × ℕ). r.1) fields
      → Packs n fields gs (packed n rows)
  packs o c same each values =
      record {
        long = length-packed n rows;
        holds = same ∙ read-packed n rows o ∙ values;
        every_bit = each;
        else_zero = skipped_zero n rows gs c;
      }

pub upload_packs : UploadPacks
unfolding packed_of
upload_packs k i Complete hk hi hb = packs 12 _ _ _ tt tt refl refl (rw (mod-eq_of_lt hk, mod-eq_of_lt hi))
upload_packs k i (Index b) hk hi hb = packs 12 _ _ _ tt tt refl refl (rw (mod-eq_of_lt hk, mod-eq_of_lt hi, mod-eq_of_lt hb))

-- data of up to four bytes fill their field
module _ (v len : ℕ) (h : len ≤ 4) where
  data_fit : v % 256 ^ len % 4294967296 ≡ v % 256 ^ len
  data_fit =
      let small : 8 * len ≤ 32 = omega arith in
      rw (bytes_bits len) (mod-eq_of_lt (lt_of_lt_of_le (mod-lt v (pow_pos (8 * len))) (pow_mono small)))

pub download_packs : DownloadPacks
unfolding packed_of cut_to
download_packs k i Complete v len hk hi hb some most =
    let z : (4 - len) % 4 ≡ 4 - len = omega arith in
    packs 16 _ _ _ tt tt refl refl (rw (mod-eq_of_lt hk, mod-eq_of_lt hi, z, data_fit v len most))
download_packs k i (Index b) v len hk hi hb some most =
    let z : (4 - len) % 4 ≡ 4 - len = omega arith in
    packs 16 _ _ _ tt tt refl refl (rw (mod-eq_of_lt hk, mod-eq_of_lt hi, mod-eq_of_lt hb, z, data_fit v len most))

pub segment_packs : SegmentPacks
unfolding packed_of
segment_packs k true hk = packs 9 _ _ _ tt tt refl refl (rw (mod-eq_of_lt hk))
segment_packs k false hk = packs 9 _ _ _ tt tt refl refl (rw (mod-eq_of_lt hk))

pub information_packs : InformationPacks
unfolding packed_of
information_packs k kind hk h =
    let small : kind % 65536 ≡ kind = omega arith in
    packs 14 _ _ _ tt tt refl refl (rw (mod-eq_of_lt hk, small))

-- ---- the counter

abbrev cut_rows : Filled → Filled
cut_rows rs = map (λ (r : Row). (r.0, r.1 % 2 ^ r.0.width)) rs

put_cut : (rs : Filled) (x : ℕ) → put_all rs x ≡ put_all (cut_rows rs) x
put_cut [] x = refl
put_cut (r ∷ rs) x =
    put_cut rs (put r.0 r.1 x) ∙ ap (put_all (cut_rows rs)) (rw (mod-mod r.1 (2 ^ r.0.width)))

-- rows that are the same once cut pack to the same bytes
same_cut : (n : ℕ) (rs ts : Filled) → cut_rows rs ≡ cut_rows ts → packed n rs ≡ packed n ts
unfolding packed
same_cut n rs ts e = ap (bytes n) (put_cut rs 0 ∙ ap (λ (us : Filled). put_all us 0) e ∙ sym (put_cut ts 0))

pub counter_cut : CounterCut
unfolding packed_of
counter_cut k (Upload i a) = same_cut 12 _ _ (rw (mod-mod k 8))
counter_cut k (Download i a v len) = same_cut 16 _ _ (rw (mod-mod k 8))
counter_cut k (Segment t) = same_cut 9 _ _ (rw (mod-mod k 8))
counter_cut k (Information kind) = same_cut 14 _ _ (rw (mod-mod k 8))
