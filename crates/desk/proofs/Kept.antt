-- Every record that calls made from a fresh desk is good, and so a call that gives the step's record gives a good one. Assumes nothing.
use mathlib.Core.Path.{◌≡◌, sym, ap, subst}
use mathlib.Core.Bool.{true}
use mathlib.Core.List.{List, [], ◌∷◌}
use Prim.Native.Nat.{ℕ}
use Rattle.wire.specs.Words.{within}
use Rattle.line.specs.Desk.{Call, pass_at, fresh_at, step}
use Rattle.line.specs.Stand.{after}
use Rattle.line.specs.Sound.{Sound}
use Rattle.line.proofs.Room.{sound}
use Rattle.line.proofs.Kept.{sound_kept}
use Rattle.line.proofs.Counter.{counter_in_range}
use Rattle.transfer.specs.Coe.{coe_machine}
use Rattle.desk.specs.declared.Desk.{Desk}
use Rattle.desk.specs.declared.Called.{Called}
use Rattle.desk.specs.Record.{Queue, view_of, desk_of, empty_at, Good}
use Rattle.desk.specs.Calls.{lent_after, called_of, Fresh, Gives, GivesLent}
use Rattle.desk.proofs.Held.{view_desk}

pub good_desk : (q : Queue) → Sound q.line → within 1 7 q.pass.counter ≡ true → Good (desk_of q)
unfolding desk_of
good_desk q S c = record { laid = ap desk_of (sym (view_desk q)); sound = rw view_desk S; counts = c }

pub good_fresh : (c : ℕ) → within 1 7 c ≡ true → Good (empty_at c)
good_fresh c h = good_desk (fresh_at coe_machine (pass_at c)) (sound [] tt tt) h

pub fresh_is : (c : ℕ) (d : Desk) → within 1 7 c ≡ true → d ≡ empty_at c → Fresh c d
fresh_is c d h e = record { empty = e; good = subst Good (sym e) (good_fresh c h) }

counted : (d : Desk) (k : Call coe_machine) → Good d → within 1 7 (step coe_machine (view_of d) k).0.pass.counter ≡ true
unfolding after view_of
counted d k g = counter_in_range coe_machine (view_of d) (k ∷ []) g.counts

pub good_step : (d : Desk) (k : Call coe_machine) → Good d → Good (desk_of (step coe_machine (view_of d) k).0)
good_step d k g =
    good_desk (step coe_machine (view_of d) k).0 (sound_kept coe_machine (view_of d) k g.sound) (counted d k g)

module _ (d : Desk) (g : Good d) (k : Call coe_machine) (r : Called) (e : r ≡ called_of (step coe_machine (view_of d) k)) where
  kept : Good r.desk
  kept = subst (λ (x : Called). Good x.desk) (sym e) (good_step d k g)

  pub gives : Gives d k r
  gives = record { told = e; good = kept }

  pub gives_lent : (before after : List ℕ) → after ≡ lent_after before (step coe_machine (view_of d) k).1 → GivesLent d k r before after
  gives_lent before after l = record { told = e; good = kept; lent = l }
