-- Laws of a line as its digits come. Assumes nothing.
use Rattle.std.specs.Prelude.{Some, None, Option, is_none}
use Prim.Native.Nat.{ℕ, ◌+◌, ◌*◌, ◌<◌, ◌≤◌}
use mathlib.Core.Path.{◌≡◌, refl, sym, ap, ◌∙◌}
use mathlib.Core.Bool.{true, false, true≢false}
use mathlib.Core.List.{List}
use native.Mathlib.Omega.{arith}
use lib.Dec.{ltb, leb}
use lib.ListN.{length, get_or, set, take, length-take}
use lib.Seq.{paste-zero, get_or-take}
use borrow.Author.Tests.{lt-ltb, le-ltb, ltb-true, ltb-false, leb-true, leb-false}
use Rattle.wire.proofs.Cases.{by}
use Rattle.order_text.specs.Digits.{digit_of, byte_of, byte_in}
use Rattle.order_text.specs.Lines.{has_bad, bytes_of}
use Rattle.order_text.proofs.Digits.{byte_high, byte_low, no_byte, one_byte}
use Rattle.order_text.proofs.Lines.{digit_at, byte_turn}
use Rattle.order_text.proofs.Refused.{none_bad}
use Rattle.order_run.specs.Part.{Part, part}
use Rattle.order_run.specs.Feed.{fails, put_part, put_frame, Whole}

pub none≢some : {X : Type 0} {h : ℕ} → ◌≡◌ {A = Option ℕ} None (Some h) → X
none≢some e = absurd (true≢false (ap is_none e))

pub some_is : {g h : ℕ} → ◌≡◌ {A = Option ℕ} (Some g) (Some h) → g ≡ h
some_is {g} e = ap (unwrap_or_zero) e
  where
    unwrap_or_zero : Option ℕ → ℕ
    unwrap_or_zero None = 0
    unwrap_or_zero (Some h) = h

module _ (p : Part) (c : ℕ) where
  pub fails_digit : 15 < digit_of c → fails p c ≡ true
  unfolding fails
  fails_digit h = rw (lt-ltb 15 (digit_of c) h)

  pub fails_room : digit_of c ≤ 15 → p.half ≡ None → fails p c ≡ leb 1486 p.count
  unfolding fails
  fails_room h e = rw (le-ltb 15 (digit_of c) h, e)

  pub fails_not : digit_of c ≤ 15 → {h : ℕ} → p.half ≡ Some h → fails p c ≡ false
  unfolding fails
  fails_not h e = rw (le-ltb 15 (digit_of c) h, e)

module _ (p : Part) (d : ℕ) (f : List ℕ) where
  pub put_first : p.half ≡ None → (part p.count (Some d) ≡ put_part p d) × (f ≡ put_frame p d f)
  unfolding put_part put_frame
  put_first e = (sym (rw e), sym (rw e))

  pub put_second : (h : ℕ) → p.half ≡ Some h → (part (p.count + 1) None ≡ put_part p d) × (set f p.count (16 * h + d) ≡ put_frame p d f)
  unfolding put_part put_frame
  put_second h e = (sym (rw e), sym (rw e))

-- ---- whole bytes

module _ (a b : ℕ) where
  pub is_byte : {x : ℕ} → ◌≡◌ {A = Option ℕ} (byte_in a b) (Some x) → (x ≡ byte_of a b) × (byte_of a b ≤ 255)
  is_byte e =
      by (leb (byte_of a b) 255)
      (λ h. (sym (some_is (one_byte a b (leb-true (byte_of a b) 255 h) ∙ e)), leb-true (byte_of a b) 255 h))
      (λ h. none≢some (no_byte a b (leb-false (byte_of a b) 255 h) ∙ e))

both_digits : (a b : ℕ) → byte_of a b ≤ 255 → (digit_of a ≤ 15) × (digit_of b ≤ 15)
both_digits a b h =
    by (ltb 15 (digit_of a))
    (λ e. absurd (omega (arith, byte_high a b (ltb-true 15 (digit_of a) e))))
    (λ e. by (ltb 15 (digit_of b))
    (λ g. absurd (omega (arith, byte_low a b (ltb-false 15 (digit_of a) e) (ltb-true 15 (digit_of b) g))))
    (λ g. (ltb-false 15 (digit_of a) e, ltb-false 15 (digit_of b) g)))

pair_digits : (t : List ℕ) (k : ℕ) → 2 * k + 1 < length t → byte_of (get_or t (2 * k) 0) (get_or t (2 * k + 1) 0) ≤ 255 → has_bad (take (2 * k) t) ≡ false
    → has_bad (take (2 * (k + 1)) t) ≡ false
pair_digits t k h b g =
    none_bad (take (2 * (k + 1)) t) λ i l.
    let n : i < 2 * (k + 1) = omega (arith, length-take (2 * (k + 1)) t) in
    let e : get_or (take (2 * (k + 1)) t) i 0 ≡ get_or t i 0 = get_or-take (2 * (k + 1)) t i 0 n in
    let two = both_digits (get_or t (2 * k) 0) (get_or t (2 * k + 1) 0) b in
    rw e
    (by (ltb i (2 * k))
    (λ q. let m : i < 2 * k = ltb-true i (2 * k) q in
    (rw (get_or-take (2 * k) t i 0 m) at (digit_at (take (2 * k) t) i g (omega (arith, length-take (2 * k) t)))))
    (λ q. by (ltb (2 * k) i)
    (λ r. let m : i ≡ 2 * k + 1 = omega (arith, ltb-true (2 * k) i r) in rw m two.1)
    (λ r. let m : i ≡ 2 * k = omega (arith, ltb-false i (2 * k) q, ltb-false (2 * k) i r) in rw m two.0)))

module _ {t f : List ℕ} {at : ℕ} where
  pub none_whole : at ≤ 1486 → Whole t at f 0 f
  unfolding has_bad
  none_whole h = record { there = omega arith; room = omega arith; digits = refl; stored = paste-zero f at (bytes_of t) }

  -- one byte more, which two good digits make
  pub pair_whole : {f' : List ℕ} {k b : ℕ} → Whole t at f k f' → b ≡ byte_of (get_or t (2 * k) 0) (get_or t (2 * k + 1) 0) → b ≤ 255 → 2 * k + 1 < length t
      → at + k < 1486 → length f ≡ 1486 → Whole t at f (k + 1) (set f' (at + k) b)
  pair_whole {f'} {k} {b} w e h l r n =
      record {
        there = omega arith;
        room = omega arith;
        digits = pair_digits t k l (omega arith) w.digits;
        stored = rw (w.stored, e) (byte_turn f t at k (at + k) refl (omega arith) l);
      }
