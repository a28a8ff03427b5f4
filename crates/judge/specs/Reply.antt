-- Rules 1 to 4 of "Judging a reply" in their order, and together as an upload and a download share them. Assumes nothing.
use Rattle.std.specs.Prelude.{Bool, List, ℕ, eqb, Result, Ok, Err, Option, Some, None}
use Rattle.wire.specs.Words.{pick}
use Rattle.wire.specs.Refusal.{number_of}
use Rattle.wire.specs.declared.refusal.Refusal.{Refusal}
use Rattle.wire.specs.declared.refusal.Refusal.TheVariants.{Undecodable, WrongReply}
use Rattle.mailbox.specs.Numbers.{command_number}
use Rattle.mailbox.specs.declared.numbers.CoeCommand.{CoeCommand}
use Rattle.mailbox.specs.declared.sdo.SdoHeader.{SdoHeader}
use Rattle.judge.specs.Headers.{read_headers, wrong_address}
use Rattle.judge.specs.Alarm.{emergency_in, abort_in}
use Rattle.judge.specs.declared.Verdict.{Verdict}
use Rattle.judge.specs.declared.Verdict.TheVariants.{Refused}
use Rattle.judge.specs.declared.headers.Headers.{Headers}

-- "Under 12 bytes, or an unlisted type, service or specifier: 20."; an emergency has its own rule
abbrev pub on_headers : {H : Type 0} → List ℕ → Result (Option (Headers H)) Refusal → (Headers H → Verdict) → Verdict
on_headers s (Err refusal) f = Refused (number_of Undecodable)
on_headers s (Ok None) f = emergency_in s
on_headers s (Ok (Some h)) f = f h

-- behind the headers "Specifier 4"; then "Type not 3, or .. index or sub-index not the request's: 23"; and else what the kind's own rule
-- says
unfoldable pub in_order : List ℕ → CoeCommand → Bool → Verdict → Verdict
in_order s command wrong own = pick (eqb (command_number command) 4) (abort_in s) (pick wrong (Refused (number_of WrongReply)) own)

-- of the reply to an upload or a download, whose own rule is f
unfoldable pub reply_to : ℕ → ℕ → List ℕ → (Headers SdoHeader → Verdict) → Verdict
reply_to index sub s f =
    on_headers s (read_headers s) λ h.
    in_order s h.header.command (wrong_address h index sub) (f h)
