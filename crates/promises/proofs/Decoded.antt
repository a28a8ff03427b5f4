-- The first lines of every table of rules: what a reply's headers are, from its bytes. Assumes nothing.
use mathlib.Core.Path.{◌≡◌, refl, ap, ◌∙◌}
use mathlib.Core.Bool.{Bool, true, false, not}
use mathlib.Core.List.{List}
use mathlib.Core.Option.{Option, some}
use Prim.Native.Nat.{ℕ, ◌≤◌}
use native.Mathlib.Omega.{arith}
use borrow.Author.Tests.{le-ltb, ltb-false}
use lib.Dec.{ltb, eqb, lit≤}
use lib.ListN.{length}
use Rattle.std.specs.Prelude as rust
use Rattle.std.specs.Prelude.{Result, Ok, Err}
use Rattle.wire.specs.Refusal.{number_of}
use Rattle.wire.specs.declared.refusal.Refusal.{Refusal}
use Rattle.wire.specs.declared.refusal.Refusal.TheVariants.{Undecodable}
use Rattle.wire.specs.Words.{pick, both, map_ok}
use Rattle.wire.specs.Bytes.{value}
use Rattle.wire.specs.Fields.{read}
use Rattle.wire.proofs.Cases.{by}
use Rattle.wire.proofs.Bits.{get_within}
use Rattle.mailbox.specs.Fields.{the, mailbox_type, service, specifier, operation}
use Rattle.mailbox.specs.Numbers as names
use Rattle.mailbox.specs.Headers.{read_mailbox_header, mailbox_header_of, read_coe_header, coe_header_of, read_sdo_header, sdo_header_of, read_segmented, segmented_of, read_sdo_info, sdo_info_of}
use Rattle.mailbox.specs.declared.MailboxHeader.{MailboxHeader}
use Rattle.mailbox.specs.declared.numbers.MailboxType.{MailboxType}
use Rattle.mailbox.specs.declared.coe.CoeHeader.{CoeHeader}
use Rattle.mailbox.specs.declared.information.SdoInfoHeader.{SdoInfoHeader}
use Rattle.mailbox.specs.declared.numbers.CoeService.{CoeService}
use Rattle.mailbox.specs.declared.numbers.CoeCommand.{CoeCommand}
use Rattle.mailbox.specs.declared.numbers.SdoInfoOpCode.{SdoInfoOpCode}
use Rattle.judge.specs.Answers.{answer_of, one_of}
use Rattle.judge.specs.Headers.{on_header, on_front, read_front, read_headers, read_segment_headers, read_information_headers}
use Rattle.judge.specs.Reply.{on_headers}
use Rattle.judge.specs.Alarm.{message_in, emergency_in}
use Rattle.judge.specs.declared.headers.Headers.{Headers}
use Rattle.judge.specs.declared.Verdict.{Verdict}
use Rattle.judge.specs.declared.Verdict.TheVariants.{Refused, Emergency}
use Rattle.judge.specs.declared.headers.Front.{Front}
use Rattle.promises.specs.Finding.{Finding, refuse, emergency}
use Rattle.promises.specs.Names.{numbers, types, services, specifiers, operations}
use Rattle.promises.specs.Rules.{under, at, unlisted}
use Rattle.promises.proofs.Lines.{Look, missing, present, look, Tells, line, listed}

-- ---- the listed numbers

type_look : (n : ℕ) → Look names.type_number Ok (Err Undecodable) n (names.type_of n) (one_of (numbers types) n)
unfolding names.type_of
type_look n = look names.type_number Ok (Err Undecodable) n names.types

service_look : (n : ℕ)
    → Look names.service_number Ok (Err Undecodable) n (names.service_of n) (one_of (numbers services) n)
unfolding names.service_of
service_look n = look names.service_number Ok (Err Undecodable) n names.services

specifier_look : (n : ℕ)
    → Look names.command_number Ok (Err Undecodable) n (names.command_of n) (one_of (numbers specifiers) n)
unfolding names.command_of
specifier_look n = look names.command_number Ok (Err Undecodable) n names.commands

pub operation_look : (n : ℕ)
    → Look names.operation_number Ok (Err Undecodable) n (names.operation_of n) (one_of (numbers operations) n)
unfolding names.operation_of
operation_look n = look names.operation_number Ok (Err Undecodable) n names.operations

-- ---- what each kind's headers are, of the first two and of the third as it is read

abbrev pub front_of : MailboxHeader → CoeHeader → Front
front_of m c = record { mailbox = m; service = c.service }

abbrev pub header_in : {H : Type 0} → Front → Result H Refusal → Result (rust.Option (Headers H)) Refusal
header_in h r =
    on_header r λ d. Ok (rust.Some (record { mailbox = h.mailbox; service = h.service; header = d }))

abbrev pub information_in : MailboxHeader → CoeHeader → Result SdoInfoHeader Refusal → Result (Headers SdoInfoHeader) Refusal
information_in m c r =
    on_header r λ i. Ok (record { mailbox = m; service = c.service; header = i })

-- a header that is not read is 20
data Reading {H : Type 0} : Result H Refusal → Type 0 where
  unread : Reading (Err Undecodable)
  was_read : (h : H) → Reading (Ok h)

reading : {A H : Type 0} {number : A → ℕ} {n : ℕ} {q : Result A Refusal} {among : Bool} → Look number Ok (Err Undecodable) n q among
    → (make : A → H) (short : Bool) → Reading (pick short (Err Undecodable) (map_ok make q))
reading l make true = unread
reading (missing e m) make false = rw e unread
reading (present a k e m) make false = rw e (was_read (make a))

nothing_made : {H : Type 0} {a : Result MailboxHeader Refusal} {b : Result CoeHeader Refusal} → Reading a → Reading b
    → (make : MailboxHeader → CoeHeader → Result H Refusal) → ((m : MailboxHeader) (c : CoeHeader) → make m c ≡ Err Undecodable)
    → on_header a (λ m. on_header b (make m)) ≡ Err Undecodable
nothing_made unread q make e = refl
nothing_made (was_read m) unread make e = refl
nothing_made (was_read m) (was_read c) make e = e m c

-- service 1, or what the other services are
abbrev pub unless_one : {H : Type 0} → CoeHeader → Result (rust.Option H) Refusal → Result (rust.Option H) Refusal
unless_one c other = pick (eqb (names.service_number c.service) 1) (Ok rust.None) other

-- what is done with the front is done behind its two headers
module _ {H : Type 0} (f : Front → Result (rust.Option H) Refusal) where
  picked : (b : Bool) (h : Front) → on_front (pick b (Ok rust.None) (Ok (rust.Some h))) f ≡ pick b (Ok rust.None) (f h)
  picked true h = refl
  picked false h = refl

  behind_front : (a : Result MailboxHeader Refusal) (b : Result CoeHeader Refusal)
      → on_front (on_header a λ m. on_header b λ c. unless_one c (Ok (rust.Some (front_of m c)))) f
      ≡ on_header a λ m. on_header b λ c. unless_one c (f (front_of m c))
  behind_front (Err r) b = refl
  behind_front (Ok m) (Err r) = refl
  behind_front (Ok m) (Ok c) = picked (eqb (names.service_number c.service) 1) (front_of m c)

-- ---- an emergency

module _ (s : List ℕ) where
  -- "bytes 8-9, register 10, five data bytes"
  message_told : Tells s (Emergency (message_in s)) (some (emergency (at 8 9 s) (at 10 10 s) (at 11 15 s)))
  unfolding message_in read answer_of
  message_told =
      rw (
        get_within (record { first = 0; width = 16 }) 64 64 (value s) (lit≤ tt),
        get_within (record { first = 16; width = 8 }) 64 64 (value s) (lit≤ tt),
        get_within (record { first = 24; width = 40 }) 64 64 (value s) (lit≤ tt),
      )

  -- what is made of the first two headers, by the type and the service that were looked up
  abbrev pub in_turn : {H : Type 0} → (MailboxHeader → CoeHeader → Result H Refusal) → Result MailboxType Refusal → Result CoeService Refusal
      → Result H Refusal
  in_turn make a b = on_header (map_ok (mailbox_header_of s) a) λ m. on_header (map_ok coe_header_of b) (make m)

  abbrev pub in_reply : {H : Type 0} → (MailboxHeader → CoeHeader → Result H Refusal) → Result H Refusal
  in_reply make = in_turn make (names.type_of (the mailbox_type s)) (names.service_of (the service s))

  -- what is long enough for a rule is long enough for its headers
  longer : (least k : ℕ) → k ≤ least → under least s ≡ false → ltb (length s) k ≡ false
  longer least k h e = le-ltb (length s) k (omega (arith, ltb-false (length s) least e))

  -- a third header is not read under the rule's least length, and is q else
  module _ {H Q : Type 0} (least : ℕ) (h : 8 ≤ least) (none q : Q) where
    read_in_turn : (make : MailboxHeader → CoeHeader → Q → Result H Refusal) → ((m : MailboxHeader) (c : CoeHeader) → make m c none ≡ Err Undecodable)
        → on_header (read_mailbox_header s) (λ m. on_header (read_coe_header s) λ c. make m c (pick (under least s) none q))
        ≡ pick (under least s) (Err Undecodable) (in_reply λ m c. make m c q)
    unfolding read_mailbox_header read_coe_header
    read_in_turn make e =
        by (under least s)
        (λ y. rw y
        (nothing_made (reading (type_look (the mailbox_type s)) (mailbox_header_of s) (ltb (length s) 6))
        (reading (service_look (the service s)) coe_header_of (ltb (length s) 8)) (λ m c. make m c none) e))
        (λ n. rw (n, longer least 6 (omega (arith, h)) n, longer least 8 (omega (arith, h)) n))

    read_behind_front : (make : Front → Q → Result (rust.Option H) Refusal)
        → on_front (read_front least s) (λ f. make f (pick (under least s) none q))
        ≡ pick (under least s) (Err Undecodable) (in_reply λ m c. unless_one c (make (front_of m c) q))
    unfolding read_front read_mailbox_header read_coe_header
    read_behind_front make =
        by (under least s)
        (λ y. rw y)
        (λ n. rw (n, longer least 6 (omega (arith, h)) n, longer least 8 (omega (arith, h)) n)
        (behind_front (λ f. make f q) (map_ok (mailbox_header_of s) (names.type_of (the mailbox_type s))) (map_ok coe_header_of (names.service_of (the service s)))))

  pub sdo_read : read_headers s
      ≡ pick (under 12 s) (Err Undecodable)
      (in_reply λ m c.
      unless_one c (header_in (front_of m c) (map_ok (sdo_header_of s) (names.command_of (the specifier s)))))
  unfolding read_headers read_sdo_header
  sdo_read = read_behind_front 12 (omega arith) (Err Undecodable) _ header_in

  pub segment_read : read_segment_headers s
      ≡ pick (under 9 s) (Err Undecodable)
      (in_reply λ m c.
      unless_one c (header_in (front_of m c) (map_ok (segmented_of s) (names.command_of (the specifier s)))))
  unfolding read_segment_headers read_segmented
  segment_read = read_behind_front 9 (omega arith) (Err Undecodable) _ header_in

  pub information_read : read_information_headers s
      ≡ pick (under 12 s) (Err Undecodable)
      (in_reply λ m c. information_in m c (map_ok (sdo_info_of s) (names.operation_of (the operation s))))
  unfolding read_information_headers read_sdo_info
  information_read = read_in_turn 12 (omega arith) (Err Undecodable) _ information_in (λ m c. refl)

  -- "Under 12 bytes, or an unlisted type, service ..": of any least length, and whatever is made of the first two headers
  module _ (least : ℕ) {H K : Type 0} (on : Result H Refusal → (K → Verdict) → Verdict) (f : K → Verdict) (refused : on (Err Undecodable) f ≡ Refused (number_of Undecodable)) where
    abbrev judged : (MailboxHeader → CoeHeader → Result H Refusal) → Result MailboxType Refusal → Result CoeService Refusal → Verdict
    judged make a b = on (in_turn make a b) f

    on_pick : (b : Bool) (h : Result H Refusal) → on (pick b (Err Undecodable) h) f ≡ pick b (Refused (number_of Undecodable)) (on h f)
    on_pick true h = refused
    on_pick false h = refl

    decoded : (make : MailboxHeader → CoeHeader → Result H Refusal) {x : Option Finding}
        → ((t : MailboxType) (v : CoeService) → names.type_number t ≡ the mailbox_type s → names.service_number v ≡ the service s
        → Tells s (judged make (Ok t) (Ok v)) x)
        → Tells s
        (on (pick (under least s) (Err Undecodable) (in_reply make)) f)
        (pick (under least s) (some (refuse 0x20))
        (pick (unlisted types (the mailbox_type s)) (some (refuse 0x20))
        (pick (unlisted services (the service s)) (some (refuse 0x20)) x)))
    unfolding answer_of
    decoded make p =
        rw (on_pick (under least s))
        (line s (under least s) (Refused (number_of Undecodable)) _
        (listed s (type_look (the mailbox_type s)) (λ a. judged make a (names.service_of (the service s))) refused λ t et.
        listed s (service_look (the service s)) (judged make (Ok t)) refused λ v ev.
        p t v et ev))

    -- a third header that is looked up in a list of its own
    third : {A R : Type 0} {number : A → ℕ} {found : A → R} {none q : R} {n : ℕ} {among : Bool} → Look number found none n q among
        → (make : MailboxHeader → CoeHeader → R → Result H Refusal) → ((m : MailboxHeader) (c : CoeHeader) → make m c none ≡ Err Undecodable)
        → (t : MailboxType) (v : CoeService) {x : Option Finding}
        → ((a : A) → number a ≡ n → Tells s (judged (λ m c. make m c (found a)) (Ok t) (Ok v)) x)
        → Tells s (judged (λ m c. make m c q) (Ok t) (Ok v)) (pick (not among) (some (refuse 0x20)) x)
    third l make no_third t v p =
        listed s l (λ r. judged (λ m c. make m c r) (Ok t) (Ok v)) (ap (λ h. on h f) (no_third _ _) ∙ refused) p

    -- ".. or operation"
    pub information_decoded : (make : MailboxHeader → CoeHeader → Result SdoInfoOpCode Refusal → Result H Refusal)
        → ((m : MailboxHeader) (c : CoeHeader) → make m c (Err Undecodable) ≡ Err Undecodable)
        → {x : Option Finding}
        → ((t : MailboxType) (v : CoeService) (o : SdoInfoOpCode) → names.operation_number o ≡ the operation s
        → Tells s (judged (λ m c. make m c (Ok o)) (Ok t) (Ok v)) x)
        → Tells s
        (on (pick (under least s) (Err Undecodable) (in_reply λ m c. make m c (names.operation_of (the operation s)))) f)
        (pick (under least s) (some (refuse 0x20))
        (pick (unlisted types (the mailbox_type s)) (some (refuse 0x20))
        (pick (unlisted services (the service s)) (some (refuse 0x20))
        (pick (unlisted operations (the operation s)) (some (refuse 0x20)) x))))
    information_decoded make no_third p =
        decoded (λ m c. make m c (names.operation_of (the operation s))) λ t v et ev.
        third (operation_look (the operation s)) make no_third t v (p t v)

  -- ".. or specifier", unless the service is 1: then an emergency, and byte 8 is not judged
  module _ (least : ℕ) {H : Type 0} (f : Headers H → Verdict) where
    pub sdo_decoded : (make : MailboxHeader → CoeHeader → Result CoeCommand Refusal → Result (rust.Option (Headers H)) Refusal)
        → ((m : MailboxHeader) (c : CoeHeader) → make m c (Err Undecodable) ≡ Err Undecodable)
        → {x : Option Finding}
        → ((t : MailboxType) (v : CoeService) (k : CoeCommand) → names.type_number t ≡ the mailbox_type s → names.command_number k ≡ the specifier s
        → Tells s (on_headers s (in_turn (λ m c. make m c (Ok k)) (Ok t) (Ok v)) f) x)
        → Tells s
        (on_headers s (pick (under least s) (Err Undecodable) (in_reply λ m c. unless_one c (make m c (names.command_of (the specifier s))))) f)
        (pick (under least s) (some (refuse 0x20))
        (pick (unlisted types (the mailbox_type s)) (some (refuse 0x20))
        (pick (unlisted services (the service s)) (some (refuse 0x20))
        (pick (both (not (eqb (the service s) 1)) (unlisted specifiers (the specifier s))) (some (refuse 0x20))
        (pick (both (eqb (the service s) 1) (under 16 s)) (some (refuse 0x20))
        (pick (eqb (the service s) 1) (some (emergency (at 8 9 s) (at 10 10 s) (at 11 15 s)))
        x))))))
    unfolding emergency_in answer_of
    sdo_decoded make no_third p =
        decoded least (on_headers {H = H} s) f refl (λ m c. unless_one c (make m c (names.command_of (the specifier s)))) λ t v et ev.
        rw ev
        (by (eqb (the service s) 1)
        (λ y. rw y (line s (under 16 s) _ _ message_told))
        (λ n. rw n (third least (on_headers {H = H} s) f refl (specifier_look (the specifier s)) make no_third t v λ k ek. p t v k et ek)))
