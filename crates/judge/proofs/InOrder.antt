-- The rules in their order, as each judge and each reading of headers comes to them: `search order` and its like pick the one that the tests
-- left. Assumes nothing.
use mathlib.Core.Path.{◌≡◌, refl}
use mathlib.Core.Bool.{Bool, true, false}
use mathlib.Core.List.{List}
use Prim.Native.Nat.{ℕ}
use lib.Dec.{eqb}
use Rattle.std.specs.Prelude.{Result, Ok, Err, Option, Some, None, IsErr, IsErrAnd}
use Rattle.wire.specs.Refusal.{number_of}
use Rattle.wire.specs.declared.refusal.Refusal.{Refusal}
use Rattle.wire.specs.declared.refusal.Refusal.TheVariants.{Undecodable, WrongReply}
use Rattle.mailbox.specs.Numbers.{command_number}
use Rattle.mailbox.specs.declared.numbers.CoeCommand.{CoeCommand}
use Rattle.mailbox.specs.declared.numbers.CoeCommand.TheVariants.{Abort}
use Rattle.mailbox.proofs.Unpacking.{handed_on}
use Rattle.judge.specs.Alarm.{emergency_in, abort_in}
use Rattle.judge.specs.Reply.{on_headers, in_order}
use Rattle.judge.specs.Headers.{on_front, on_header}
use Rattle.judge.specs.declared.headers.Front.{Front}
use Rattle.judge.specs.declared.headers.Headers.{Headers}
use Rattle.judge.specs.declared.Verdict.{Verdict}
use Rattle.judge.specs.declared.Verdict.TheVariants.{Refused}

-- an abort's number is 4, and no other's
no_abort : (command : CoeCommand) → (command ≡ Abort → ⊥) → eqb (command_number command) 4 ≡ false
no_abort Abort n = absurd (n refl)
no_abort other n = refl

module _ (s : List ℕ) (command : CoeCommand) (own : Verdict) where
  pub stopped : (wrong : Bool) (v : Verdict) → command ≡ Abort → v ≡ abort_in s → v ≡ in_order s command wrong own
  unfolding in_order
  stopped wrong v is a = rw (is, a)

  module _ (other : command ≡ Abort → ⊥) (w wrong : Bool) (same : w ≡ wrong) where
    pub astray : w ≡ true → Refused (number_of WrongReply) ≡ in_order s command wrong own
    unfolding in_order
    astray t = rw (no_abort command other, ← same, t)

    pub heard : w ≡ false → (v : Verdict) → v ≡ own → v ≡ in_order s command wrong own
    unfolding in_order
    heard f v o = rw (no_abort command other, ← same, f, o)

-- what headers were read
module _ {H : Type 0} (s : List ℕ) (r q : Result (Option (Headers H)) Refusal) (e : r ≡ q) (f : Headers H → Verdict) where
  pub unheaded : (refusal : Refusal) → r ≡ Err refusal → Refused (number_of Undecodable) ≡ on_headers s q f
  unheaded refusal t = rw (← e, t)

  pub alarmed : (v : Verdict) → r ≡ Ok None → v ≡ emergency_in s → v ≡ on_headers s q f
  alarmed v t a = rw (← e, t, a)

  pub headed : (h : Headers H) (v : Verdict) → r ≡ Ok (Some h) → v ≡ f h → v ≡ on_headers s q f
  headed h v t o = rw (← e, t, o)

pub ruleset order = (stopped, astray, heard, unheaded, alarmed, headed)

-- what stands before byte 8, as a reading of headers comes to it
module _ {A : Type 0} (r q : Result (Option Front) Refusal) (e : r ≡ q) (v : Result (Option A) Refusal) (f : Front → Result (Option A) Refusal) where
  pub unfronted : (refusal : Refusal) → r ≡ Err refusal → IsErr v × IsErrAnd v (λ g. g ≡ refusal) → v ≡ on_front q f
  unfronted refusal t u = rw (← e, t) (handed_on v refusal u)

  pub urgent : r ≡ Ok None → v ≡ Ok None → v ≡ on_front q f
  urgent t u = rw (← e, t, u)

  pub fronted : (h : Front) → r ≡ Ok (Some h) → v ≡ f h → v ≡ on_front q f
  fronted h t u = rw (← e, t, u)

-- and each header
module _ {H A : Type 0} (r q : Result H Refusal) (e : r ≡ q) (v : Result A Refusal) (f : H → Result A Refusal) where
  pub no_header : (refusal : Refusal) → r ≡ Err refusal → IsErr v × IsErrAnd v (λ g. g ≡ refusal) → v ≡ on_header q f
  no_header refusal t u = rw (← e, t) (handed_on v refusal u)

  pub a_header : (h : H) → r ≡ Ok h → v ≡ f h → v ≡ on_header q f
  a_header h t u = rw (← e, t, u)

pub ruleset fronts = (unfronted, urgent, fronted, no_header, a_header, refl)
