-- What the exported writers state is the list of conditions and the table of fields. Assumes nothing.
use mathlib.Core.Path.{◌≡◌, refl, sym, ap, ◌∙◌, subst}
use mathlib.Core.Bool.{Bool, true, false, not}
use mathlib.Core.List.{List, [], ◌∷◌}
use mathlib.Core.Option.{none, some, some-injective, some-ne-none}
use Prim.Native.Nat.{ℕ, zero, suc, ◌<◌, ◌≤◌}
use native.Mathlib.Omega.{arith}
use borrow.Author.Tests.{leb-true}
use lib.Dec.{leb, eqb, lit<}
use lib.ListN.{length}
use lib.Seq.{take_all}
use Rattle.std.specs.Prelude.{Err}
use Rattle.wire.specs.Words.{pick, both, within, first_of}
use Rattle.wire.specs.Bytes.{Bytes, value, long_at}
use Rattle.wire.specs.Fields.{Field, packed}
use Rattle.wire.specs.Front.{in_front}
use Rattle.wire.specs.declared.refusal.Refusal.TheVariants.{BadOrder}
use Rattle.wire.proofs.Bytes.{bytes_are}
use Rattle.wire.proofs.Cases.{by}
use Rattle.mailbox.specs.Fields.{Name}
use Rattle.mailbox.specs.declared.sub_index.SubIndex.TheVariants.{Complete, Index}
use Rattle.line.specs.Numbers.{Test}
use Rattle.line.proofs.Rulings.{within_true}
use Rattle.services.specs.Requests.{packed_of}
use Rattle.services.specs.Written.{fits, wrote_of, frame_with, is_flag, access_of, writable, checked_answer, checked_frame, number_of, numbered, Frames}
use Rattle.services.specs.declared.Request.{Request}
use Rattle.services.specs.declared.Request.TheVariants.{Upload, Download, Segment, Information}
use Rattle.services.proofs.Sizes.{packed_fits}
use Rattle.promises.specs.Fields.{Packs, gaps, upload_fields, download_fields, segment_fields}
use Rattle.promises.proofs.Fields.{upload_packs, download_packs, segment_packs, information_packs}
use Rattle.surface.specs.Writers.{Stands, Writes, sub_asked, UploadFrame, DownloadFrame, SegmentFrame, ListFrame}

-- ---- a packed request is bytes

packed-bytes : (counter : ℕ) (r : Request) → Bytes (packed_of counter r)
unfolding packed_of packed
packed-bytes counter (Upload index access) = bytes_are 12 _
packed-bytes counter (Download index access value len) = bytes_are 16 _
packed-bytes counter (Segment toggle) = bytes_are 9 _
packed-bytes counter (Information kind) = bytes_are 14 _

-- ---- the conditions

-- 15 under each of three conditions, and then 16; c is true of a writer that has two
abbrev tested : Bool → Bool → Bool → Bool → List Test
tested a b c room = (not a, 0x15) ∷ (not b, 0x15) ∷ (not c, 0x15) ∷ (not room, 0x16) ∷ []

joint : {A : Type 0} (f w c : Bool) (x y : A) → both f w ≡ c → pick f (pick w x y) y ≡ pick c x y
joint true w c x y e = rw e
joint false w c x y e = rw (← e)

stands : {bytes : ℕ} {fields : List (Name × ℕ)} {skipped : List Field} (counter : ℕ) (r : Request) (n : ℕ)
    → Packs bytes fields skipped (packed_of counter r) → 16 ≤ n → Stands bytes fields skipped n (in_front (packed_of counter r) n)
unfolding in_front
stands counter r n P h = record {
  frame = packed_of counter r;
  in_bytes = packed-bytes counter r;
  packs = P;
  in_front = rw (take_all n (packed_of counter r) (omega (arith, packed_fits counter r)), P.long);
}

module _ {tests : List Test} {bytes : ℕ} {fields : List (Name × ℕ)} {skipped : List Field} {before after : List ℕ} {number : ℕ} where
  refusing : (n : ℕ) → first_of tests ≡ some n → number ≡ n → after ≡ before → Writes tests bytes fields skipped before number after
  refusing n e p q = record {
    refused = λ m f. (p ∙ some-injective n m (sym e ∙ f), q);
    written = λ f. absurd (some-ne-none n (sym e ∙ f));
  }

  writing : first_of {A = ℕ} tests ≡ none → number ≡ 0x02 → Stands bytes fields skipped (length before) after
      → Writes tests bytes fields skipped before number after
  writing e p s = record { refused = λ m f. absurd (some-ne-none m (sym f ∙ e)); written = λ f. (p, s) }

  module _ (counter : ℕ) (r : Request) where
    go : (a b c : Bool) → first_of {A = ℕ} tests ≡ first_of (tested a b c (fits (length before)))
        → number ≡ number_of (numbered (pick (both a (both b c)) (wrote_of (length before)) (Err BadOrder)))
        → after ≡ pick (both a (both b c)) (frame_with (packed_of counter r) before) before
        → (a ≡ true → b ≡ true → c ≡ true → Packs bytes fields skipped (packed_of counter r))
        → Writes tests bytes fields skipped before number after
    unfolding first_of wrote_of frame_with
    go false b c e p q P = refusing 0x15 e p q
    go true false c e p q P = refusing 0x15 e p q
    go true true false e p q P = refusing 0x15 e p q
    go true true true e p q P =
        by (fits (length before))
        (λ y. writing (e ∙ rw y) (p ∙ rw y)
        (subst (Stands bytes fields skipped (length before)) (sym (q ∙ rw y))
        (stands counter r (length before) (P refl refl refl) (within_true 16 1486 (length before) y).0)))
        (λ n. refusing 0x16 (e ∙ rw n) (p ∙ rw n) (q ∙ rw n))

    -- what a writer states, where its tests are these three
    flat : {fine : Bool} (a b c : Bool) → both fine (writable counter r) ≡ both a (both b c)
        → first_of {A = ℕ} tests ≡ first_of (tested a b c (fits (length before)))
        → (a ≡ true → b ≡ true → c ≡ true → Packs bytes fields skipped (packed_of counter r))
        → Frames fine counter r before number after → Writes tests bytes fields skipped before number after
    unfolding checked_answer checked_frame
    flat {fine} a b c same e P F =
        go a b c e
        (F.answer ∙ ap (λ w. number_of (numbered w)) (joint fine (writable counter r) (both a (both b c)) _ _ same))
        (F.frame ∙ joint fine (writable counter r) (both a (both b c)) _ _ same)
        P

-- ---- the four

swap : (f k c : Bool) → both f (both k c) ≡ both k (both f c)
swap true k c = refl
swap false true c = refl
swap false false c = refl

most : (f l k x : Bool) → both (both f l) (both k (both x l)) ≡ both k (both f (both x l))
most true true k x = refl
most true false true true = refl
most true false true false = refl
most true false false x = refl
most false l true x = refl
most false l false x = refl

module _ (counter index sub : ℕ) (hi : index < 65536) (hb : sub < 256) where
  upload_at : (complete : ℕ) → counter < 8 → leb complete 1 ≡ true
      → Packs 12 (upload_fields counter complete index (sub_asked complete sub)) gaps (packed_of counter (Upload index (access_of sub complete)))
  upload_at zero hc h = upload_packs counter index (Index sub) hc hi hb
  upload_at (suc zero) hc h = upload_packs counter index Complete hc hi (lit< tt)
  upload_at (suc (suc n)) hc h = absurd (omega (arith, leb-true (suc (suc n)) 1 h))

  download_at : (complete v len : ℕ) → counter < 8 → leb complete 1 ≡ true → within 1 4 len ≡ true
      → Packs 16 (download_fields counter complete index (sub_asked complete sub) v len) gaps (packed_of counter (Download index (access_of sub complete) v len))
  download_at zero v len hc h w = let l = within_true 1 4 len w in download_packs counter index (Index sub) v len hc hi hb l.0 l.1
  download_at (suc zero) v len hc h w =
      let l = within_true 1 4 len w in download_packs counter index Complete v len hc hi (lit< tt) l.0 l.1
  download_at (suc (suc n)) v len hc h w = absurd (omega (arith, leb-true (suc (suc n)) 1 h))

segment_at_lem : (counter toggle : ℕ) → counter < 8 → leb toggle 1 ≡ true
    → Packs 9 (segment_fields counter toggle) gaps (packed_of counter (Segment (eqb toggle 1)))
segment_at_lem counter zero hc h = segment_packs counter false hc
segment_at_lem counter (suc zero) hc h = segment_packs counter true hc
segment_at_lem counter (suc (suc n)) hc h = absurd (omega (arith, leb-true (suc (suc n)) 1 h))

-- data of up to four bytes are the number that is read of them
pub data_of : (sent : List ℕ) → length sent ≤ 4 → long_at sent 0 ≡ value sent
data_of [] h = refl
data_of (a ∷ []) h = omega arith
data_of (a ∷ b ∷ []) h = omega arith
data_of (a ∷ b ∷ c ∷ []) h = omega arith
data_of (a ∷ b ∷ c ∷ d ∷ []) h = omega arith
data_of (a ∷ b ∷ c ∷ d ∷ e ∷ l) h = absurd (omega arith)

small : (counter : ℕ) → within 1 7 counter ≡ true → counter < 8
small counter h = omega (arith, (within_true 1 7 counter h).1)

module _ {before after : List ℕ} {number : ℕ} (counter : ℕ) where
  pub upload_frame : (index sub complete : ℕ) → index < 65536 → sub < 256
      → Frames (is_flag complete) counter (Upload index (access_of sub complete)) before number after
      → UploadFrame counter index sub complete before number after
  unfolding first_of
  upload_frame index sub complete hi hb F =
      flat counter (Upload index (access_of sub complete)) (within 1 7 counter) (leb complete 1) true
      (swap (is_flag complete) (within 1 7 counter) true) refl
      (λ a b c. upload_at counter index sub hi hb complete (small counter a) b) F

  pub download_frame : (index sub complete : ℕ) (sent : List ℕ) → index < 65536 → sub < 256
      → Frames (both (is_flag complete) (leb (length sent) 4)) counter (Download index (access_of sub complete) (long_at sent 0) (length sent)) before number after
      → DownloadFrame counter index sub complete sent before number after
  unfolding first_of
  download_frame index sub complete sent hi hb F =
      flat counter (Download index (access_of sub complete) (long_at sent 0) (length sent))
      (within 1 7 counter) (leb complete 1) (within 1 4 (length sent))
      (most (is_flag complete) (leb (length sent) 4) (within 1 7 counter) (leb 1 (length sent))) refl
      (λ a b c. subst
      (λ (v : ℕ). Packs 16 (download_fields counter complete index (sub_asked complete sub) v (length sent)) gaps
      (packed_of counter (Download index (access_of sub complete) (long_at sent 0) (length sent))))
      (data_of sent (within_true 1 4 (length sent) c).1)
      (download_at counter index sub hi hb complete (long_at sent 0) (length sent) (small counter a) b c)) F

  pub segment_frame : (toggle : ℕ) → Frames (is_flag toggle) counter (Segment (eqb toggle 1)) before number after
      → SegmentFrame counter toggle before number after
  unfolding first_of
  segment_frame toggle F =
      flat counter (Segment (eqb toggle 1)) (within 1 7 counter) (leb toggle 1) true
      (swap (is_flag toggle) (within 1 7 counter) true) refl
      (λ a b c. segment_at_lem counter toggle (small counter a) b) F

  pub list_frame : (kind : ℕ) → Frames true counter (Information kind) before number after → ListFrame counter kind before number after
  unfolding first_of
  list_frame kind F =
      flat counter (Information kind) (within 1 7 counter) (leb kind 5) true
      (same (within 1 7 counter) (leb kind 5)) refl
      (λ a b c. information_packs counter kind (small counter a) (leb-true kind 5 b)) F
    where
      same : (k l : Bool) → both k l ≡ both k (both l true)
      same true true = refl
      same true false = refl
      same false l = refl
