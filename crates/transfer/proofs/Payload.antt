-- One buffer, lent to every receive: after any replies it holds the chunks, joined, from its start. Assumes nothing.
use mathlib.Core.Path.{◌≡◌, sym, ap, ◌∙◌}
use mathlib.Core.List.{List, [], ◌∷◌, ◌++◌}
use Prim.Native.Nat.{ℕ, ◌+◌, ◌≤◌}
use mathlib.Core.Bool.{true}
use native.Mathlib.Omega.{arith}
use lib.Dec.{leb}
use lib.ListN.{length, length-append}
use Rattle.wire.specs.Store.{laid}
use Rattle.judge.specs.Storage.{taken, stored}
use Rattle.judge.proofs.Laid.{laid_nil, laid_front, laid_length, laid_join}
use Rattle.judge.proofs.Payload.{segment_sound, list_sound}
use Rattle.transfer.specs.Due.{due_of}
use Rattle.transfer.specs.Judgement.{judge_reply, budgeted, judged_as}
use Rattle.transfer.specs.Coe.{reply_in, judged}
use Rattle.transfer.specs.Life.{Life, begun, asked, fetched, replied, Filled, opens, asks, fetches, hears, PayloadLies}
use Rattle.transfer.specs.declared.Order.{Order}
use Rattle.transfer.specs.declared.Transfer.{Transfer}
use Rattle.transfer.specs.declared.due.Reply.TheVariants as reply
use Rattle.transfer.proofs.Chunks.{reply_adds, by_reply, not_spent, done_unsettled}
use Rattle.transfer.proofs.Lives.{went, life_true}

-- one chunk more
lays : (d₀ c x d : List ℕ) (e : ℕ) → d ≡ laid d₀ 0 c → e ≡ length c → length c + length x ≤ length d₀ → laid d e x ≡ laid d₀ 0 (c ++ x)
lays d₀ c x d e p q h =
    let z : e ≡ 0 + length c = omega arith in
    ap (λ (b : List ℕ). laid b e x) p ∙ ap (λ (i : ℕ). laid (laid d₀ 0 c) i x) z ∙ laid_join d₀ 0 c x (omega arith)

-- the first
lays_first : (d₀ c x d : List ℕ) (e : ℕ) → d ≡ laid d₀ 0 c → e ≡ length c → length c ≡ 0 → laid d e x ≡ laid d₀ 0 (c ++ x)
lays_first d₀ [] x d e p q h =
    ap (λ (b : List ℕ). laid b e x) (p ∙ sym (laid_nil d₀ 0)) ∙ ap (λ (i : ℕ). laid d₀ i x) q
lays_first d₀ (y ∷ c) x d e p q h = absurd (omega arith)

pub record Holds (o : Order) (d₀ : List ℕ) (t : Transfer) (replies segments : ℕ) (payload d : List ℕ) : Type 0 where
  pub life : Life o t replies segments payload
  pub lies : d ≡ laid d₀ 0 payload
  pub room : length payload ≤ length d₀

pub filled_holds : {o : Order} {d₀ : List ℕ} {t : Transfer} {r k : ℕ} {p d : List ℕ} → Filled o d₀ t r k p d → Holds o d₀ t r k p d
unfolding judged judged_as stored
filled_holds {d₀ = d₀} (opens f) = record { life = begun f; lies = laid_nil d₀ 0; room = omega arith }
filled_holds (asks h F) = let H = filled_holds F in record { life = asked h H.life; lies = H.lies; room = H.room }
filled_holds (fetches h F) = let H = filled_holds F in record { life = fetched h H.life; lies = H.lies; room = H.room }
filled_holds {o} {d₀} (hears {t = t} {u = u} {payload = p} {d = d} s n F e) =
    let H = filled_holds F in
    let T = life_true H.life in
    let v = judge_reply (reply_in (due_of t)) t.sum (length d) s in
    let W = went t u (judged t (length d) s) s e in
    let N = not_spent (leb t.left 1) v W.on in
    let A = reply_adds t.sum (length d) s (reply_in (due_of t)) (rw N.1 at W.on) in
    let x = taken (judged t (length d) s) s in
    let l : length d ≡ length d₀ = ap length H.lies ∙ laid_length d₀ 0 p (omega (arith, H.room)) in
    let f : t.sum + length x ≤ length d = rw N.1 (A.fits (omega (arith, T.sum, l, H.room))) in
    record {
      life = replied d s n H.life e;
      lies = lays d₀ p x d t.sum H.lies T.sum (omega (arith, f, T.sum, l));
      room = omega (arith, f, T.sum, l, length-append p x);
    }

module _ (t : Transfer) (d s : List ℕ) where
  abbrev chunk : List ℕ
  chunk = taken (judge_reply (reply_in (due_of t)) t.sum (length d) s) s

  segment_fits : reply_in (due_of t) ≡ reply.Segment → t.sum ≤ length d → t.sum + length chunk ≤ length d
  unfolding judge_reply
  segment_fits e h = rw e ((segment_sound t.sum (length d) s).fits h)

  fragment_fits : reply_in (due_of t) ≡ reply.Fragment true → t.sum ≤ length d → t.sum + length chunk ≤ length d
  unfolding judge_reply
  fragment_fits e h = rw e ((list_sound t.sum (length d) s true).fits h)

pub payload_lies : PayloadLies
unfolding judged judged_as stored
payload_lies o t r k p d₀ d F s e =
    let H = filled_holds F in
    let T = life_true H.life in
    let v = judge_reply (reply_in (due_of t)) t.sum (length d) s in
    let q : budgeted (leb t.left 1) v ≡ v = done_unsettled (leb t.left 1) v e in
    let x = chunk t d s in
    let l : length d ≡ length d₀ = ap length H.lies ∙ laid_length d₀ 0 p (omega (arith, H.room)) in
    let small : t.sum ≤ length d = omega (arith, T.sum, l, H.room) in
    let fit : t.sum + length x ≤ length d → laid d t.sum x ≡ laid d₀ 0 (p ++ x) =
    λ f. lays d₀ p x d t.sum H.lies T.sum (omega (arith, f, T.sum, l)) in
    let whole : laid d t.sum x ≡ laid d₀ 0 (p ++ x) =
    by_reply t (λ g. fit (segment_fits t d s g small)) (λ g. fit (fragment_fits t d s g small))
    (λ h. lays_first d₀ p x d t.sum H.lies T.sum (T.early h)) in
    rw q (whole ∙ laid_front d₀ (p ++ x))
