-- Rules 1 and 4 of "Judging a reply": what headers a reply has, and whether they are the transfer's. Assumes nothing.
use Rattle.std.specs.Prelude.{Bool, not, List, ℕ, ltb, eqb, length, Result, Ok, Err, Option, Some, None}
use Rattle.wire.specs.Words.{pick, either}
use Rattle.wire.specs.declared.refusal.Refusal.{Refusal}
use Rattle.wire.specs.declared.refusal.Refusal.TheVariants.{Undecodable}
use Rattle.mailbox.specs.Numbers.{type_number, service_number}
use Rattle.mailbox.specs.Headers.{read_mailbox_header, read_coe_header, read_sdo_header, read_segmented, read_sdo_info}
use Rattle.mailbox.specs.declared.MailboxHeader.{MailboxHeader}
use Rattle.mailbox.specs.declared.sdo.SdoHeader.{SdoHeader}
use Rattle.mailbox.specs.declared.segment.SdoHeaderSegmented.{SdoHeaderSegmented}
use Rattle.mailbox.specs.declared.information.SdoInfoHeader.{SdoInfoHeader}
use Rattle.judge.specs.Places.{segment_least}
use Rattle.judge.specs.declared.headers.Front.{Front}
use Rattle.judge.specs.declared.headers.Headers.{Headers}

-- what is done with a header that was read; of one that was not, its refusal
abbrev pub on_header : {H A : Type 0} → Result H Refusal → (H → Result A Refusal) → Result A Refusal
on_header (Err refusal) f = Err refusal
on_header (Ok h) f = f h

-- what stands before byte 8 of a reply that must have so many bytes; document 02, [5]: "the header reading must not judge byte 8 when
-- the service is 1, and all that use it follow". An emergency is None
unfoldable pub read_front : ℕ → List ℕ → Result (Option Front) Refusal
read_front least s =
    pick (ltb (length s) least) (Err Undecodable)
    (on_header (read_mailbox_header s) λ m.
    on_header (read_coe_header s) λ c.
    pick (eqb (service_number c.service) 1) (Ok None)
    (Ok (Some (record { mailbox = m; service = c.service }))))

-- the same of what stands before byte 8; an emergency goes no further
abbrev pub on_front : {A : Type 0} → Result (Option Front) Refusal → (Front → Result (Option A) Refusal) → Result (Option A) Refusal
on_front (Err refusal) f = Err refusal
on_front (Ok None) f = Ok None
on_front (Ok (Some h)) f = f h

-- and the third header behind it, which `third` reads
abbrev pub read_behind : {H : Type 0} → (List ℕ → Result H Refusal) → ℕ → List ℕ → Result (Option (Headers H)) Refusal
read_behind third least s =
    on_front (read_front least s) λ h.
    on_header (third s) λ d.
    Ok (Some (record { mailbox = h.mailbox; service = h.service; header = d }))

-- "Under 12 bytes, or an unlisted type, service or specifier: 20."
unfoldable pub read_headers : List ℕ → Result (Option (Headers SdoHeader)) Refusal
read_headers s = read_behind read_sdo_header 12 s

-- the same of a segment, whose byte 8 is its whole header; document 02, [1]: "20 now starts below 9 bytes there"
unfoldable pub read_segment_headers : List ℕ → Result (Option (Headers SdoHeaderSegmented)) Refusal
read_segment_headers s = read_behind read_segmented segment_least s

-- "Information replies: .. Under 12 bytes or an unlisted type, service or operation: 20."
unfoldable pub read_information_headers : List ℕ → Result (Headers SdoInfoHeader) Refusal
read_information_headers s =
    on_header (read_mailbox_header s) λ m.
    on_header (read_coe_header s) λ c.
    on_header (read_sdo_info s) λ i.
    Ok (record { mailbox = m; service = c.service; header = i })

-- "Type not 3, or (not for segments) index or sub-index not the request's: 23."
unfoldable pub wrong_type : MailboxHeader → Bool
wrong_type m = not (eqb (type_number m.mailbox_type) 3)

unfoldable pub wrong_address : Headers SdoHeader → ℕ → ℕ → Bool
wrong_address h index sub =
    either (wrong_type h.mailbox)
    (either (not (eqb h.header.index index))
    (not (eqb h.header.sub_index sub)))
