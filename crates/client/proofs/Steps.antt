-- One call of the run, by what the call promised. Assumes nothing.
use mathlib.Core.Path.{◌≡◌, refl, sym, ap, ◌∙◌}
use mathlib.Core.Bool.{Bool, true, false, true≢false}
use mathlib.Core.List.{List, [], ◌∷◌}
use Prim.Native.Nat.{ℕ}
use Rattle.line.specs.Desk.{first_counter, Call, Outcome, enter, send, receive, leave, step}
use Rattle.line.specs.Stand.{Event, trace}
use Rattle.line.proofs.Moves.{Move, stays, joins, asks, hears, goes, move}
use Rattle.transfer.specs.declared.Order.{Order}
use Rattle.transfer.specs.Coe.{Told, coe_machine}
use Rattle.desk.specs.Record.{Queue, view_of}
use Rattle.desk.specs.Calls.{lent_after, called_of, Fresh, Gives, GivesLent}
use Rattle.desk.specs.Stand.{lent_by, desk_stand}
use Rattle.desk.specs.declared.Desk.{Desk}
use Rattle.desk.specs.declared.Called.{Called}
use Rattle.client.specs.RunSeen.{event, calls_of, RunSeen}

abbrev Events : Type 0
Events = List (Event coe_machine Told)

-- a call that lends no buffer gives none
abbrev lends : Call coe_machine → Bool
lends (enter s o) = false
lends (send s b) = true
lends (receive s m) = true
lends (leave s) = false

quiet : {k : Call coe_machine} {d : Queue} {r : Queue × Outcome coe_machine} → Move coe_machine k d r → lends k ≡ false → lent_after [] r.1 ≡ []
unfolding lent_after
quiet (stays n) e = refl
quiet (joins s e t a h b) f = refl
quiet (asks s b t r a e f) g = absurd (true≢false g)
quiet (hears s m t r a e f) g = absurd (true≢false g)
quiet (goes s t a h) e = refl

module _ (d : Desk) (k : Call coe_machine) (r : Called) where
  more : (l : List ℕ) (ks : List (Call coe_machine)) (xs : Events) → r ≡ called_of (step coe_machine (view_of d) k)
      → l ≡ lent_after (lent_by k) (step coe_machine (view_of d) k).1 → trace desk_stand r.desk ks ≡ xs
      → trace desk_stand d (k ∷ ks) ≡ event k (r.answer, l) ∷ xs
  unfolding trace
  more l ks xs e f h =
      let told = sym e in
      let lent = sym f in
      let a : desk_stand.answers d k ≡ (r.answer, l) = λ i. ((told i).answer, lent i) in
      let n : trace desk_stand (desk_stand.next d k) ks ≡ xs = ap (λ (c : Called). trace desk_stand c.desk ks) told ∙ h in
      λ i. event k (a i) ∷ n i

  seen : (ks : List (Call coe_machine)) (xs : Events) → Gives d k r → lends k ≡ false → lent_by k ≡ [] → trace desk_stand r.desk ks ≡ xs
      → trace desk_stand d (k ∷ ks) ≡ event k (r.answer, []) ∷ xs
  seen ks xs G q z h =
      more [] ks xs G.told (sym (ap (λ (b : List ℕ). lent_after b (step coe_machine (view_of d) k).1) z ∙ quiet (move coe_machine (view_of d) k) q)) h

  seen_lent : (ks : List (Call coe_machine)) (xs : Events) (before after : List ℕ) → GivesLent d k r before after → lent_by k ≡ before
      → trace desk_stand r.desk ks ≡ xs → trace desk_stand d (k ∷ ks) ≡ event k (r.answer, after) ∷ xs
  seen_lent ks xs before after G z h =
      more after ks xs G.told (G.lent ∙ sym (ap (λ (b : List ℕ). lent_after b (step coe_machine (view_of d) k).1) z)) h

-- the four calls of the client at a fresh desk, each at the record that the one before gave
pub four : (seat : ℕ) (order : Order) (frame reply buffer frame' buffer' : List ℕ) (d : Desk) (a b c e : Called) → Fresh first_counter d
    → Gives d (enter seat order) a
    → GivesLent a.desk (send seat frame) b frame frame'
    → GivesLent b.desk (receive seat (reply, buffer)) c buffer buffer'
    → Gives c.desk (leave seat) e
    → RunSeen seat order frame reply buffer (record { entered = a.answer; sent = b.answer; received = c.answer; left = e.answer }) frame' buffer'
unfolding trace lent_by
four seat order frame reply buffer frame' buffer' d a b c e F A B C E =
    ap (λ (x : Desk). trace desk_stand x (calls_of seat order frame reply buffer)) (sym F.empty)
    ∙ seen d (enter seat order) a (send seat frame ∷ receive seat (reply, buffer) ∷ leave seat ∷ []) _ A refl refl
    (seen_lent a.desk (send seat frame) b (receive seat (reply, buffer) ∷ leave seat ∷ []) _ frame frame' B refl
    (seen_lent b.desk (receive seat (reply, buffer)) c (leave seat ∷ []) _ buffer buffer' C refl
    (seen c.desk (leave seat) e [] [] E refl refl refl)))
