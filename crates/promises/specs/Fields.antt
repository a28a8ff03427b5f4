-- Document 01, "Layouts", a second time: each field where the document's words have it, and what a request's fields hold. The
-- statements say that the table of `mailbox` and the frames of `services` are these. Assumes nothing.
use Rattle.std.specs.Prelude.{◌≡◌, Bool, true, false, cond, List, [], ◌∷◌, ◌++◌, map, ℕ, zero, suc, ◌+◌, ◌-◌, ◌*◌, ◌/◌, ◌%◌, ◌^◌, ◌<◌, ◌≤◌, leb, ltb, length}
use Rattle.wire.specs.Words.{both, either}
use Rattle.wire.specs.Bytes.{Bytes, byte_at}
use Rattle.wire.specs.Fields.{Field, end, read}
use Rattle.mailbox.specs.Fields.{Name, place, the, length_field, priority, mailbox_type, counter, service, size_indicator, expedited, size, complete_access, specifier, index, sub_index, last_segment, unused_count, toggle, operation, incomplete, fragments_left, list_kind, expedited_data, complete_size, abort_code, emergency_code, error_register, emergency_data}
use Rattle.mailbox.specs.declared.sub_index.SubIndex.{SubIndex}
use Rattle.mailbox.specs.declared.sub_index.SubIndex.TheVariants.{Complete, Index}
use Rattle.services.specs.Requests.{packed_of}
use Rattle.services.specs.declared.Request.{Request}
use Rattle.services.specs.declared.Request.TheVariants.{Upload, Download, Segment, Information}

-- "byte 4 bits 6-7": bits 4 6 7
abbrev pub bits : ℕ → ℕ → ℕ → Field
bits byte low high = record { first = 8 * byte + low; width = high - low + 1 }

-- "Bytes 9-10": whole 9 10
abbrev pub whole : ℕ → ℕ → Field
whole from to = record { first = 8 * from; width = 8 * (to - from + 1) }

-- ---- "Numbers are low byte first, bit 0 lowest"

pub record LowFirst (s : List ℕ) : Type 0 where
  pub in_a_byte : (i low high : ℕ) → low ≤ high → high < 8
      → read (bits i low high) s ≡ byte_at s i / 2 ^ low % 2 ^ (high - low + 1)
  pub one : (i : ℕ) → read (whole i i) s ≡ byte_at s i
  pub two : (i : ℕ) → read (whole i (i + 1)) s ≡ byte_at s i + 256 * byte_at s (i + 1)
  pub four : (i : ℕ) → read (whole i (i + 3)) s
      ≡ byte_at s i + 256 * byte_at s (i + 1) + 65536 * byte_at s (i + 2) + 16777216 * byte_at s (i + 3)
  pub five : (i : ℕ) → read (whole i (i + 4)) s
      ≡ byte_at s i + 256 * byte_at s (i + 1) + 65536 * byte_at s (i + 2) + 16777216 * byte_at s (i + 3) + 4294967296 * byte_at s (i + 4)

abbrev pub ReadsLowFirst : Type 0
ReadsLowFirst = (s : List ℕ) → Bytes s → LowFirst s

-- ---- the fields

abbrev pub layouts : List (Name × Field)
layouts =
    -- "Bytes 0-1 length; 2-3 skipped; byte 4 bits 6-7 priority; byte 5 bits 0-3 type, 4-6 counter."
    (length_field, whole 0 1)
    ∷ (priority, bits 4 6 7)
    ∷ (mailbox_type, bits 5 0 3)
    ∷ (counter, bits 5 4 6)
    -- "Byte 7 bits 4-7 service."
    ∷ (service, bits 7 4 7)
    -- "SDO, byte 8: bit 0 size indicator, 1 expedited, 2-3 size, 4 complete access, 5-7 specifier. Bytes 9-10 index, 11
    -- sub-index."
    ∷ (size_indicator, bits 8 0 0)
    ∷ (expedited, bits 8 1 1)
    ∷ (size, bits 8 2 3)
    ∷ (complete_access, bits 8 4 4)
    ∷ (specifier, bits 8 5 7)
    ∷ (index, whole 9 10)
    ∷ (sub_index, whole 11 11)
    -- "Segment, byte 8: bit 0 last, 1-3 unused count, 4 toggle, 5-7 specifier."
    ∷ (last_segment, bits 8 0 0)
    ∷ (unused_count, bits 8 1 3)
    ∷ (toggle, bits 8 4 4)
    ∷ (specifier, bits 8 5 7)
    -- "Information, byte 8: bits 0-6 operation, 7 incomplete; bytes 10-11 fragments left; a request has the list kind in 12-13."
    ∷ (operation, bits 8 0 6)
    ∷ (incomplete, bits 8 7 7)
    ∷ (fragments_left, whole 10 11)
    ∷ (list_kind, whole 12 13)
    -- "Download packs 16 bytes", data of up to 4 behind the 12 of an upload; "Complete size at 12-15"
    ∷ (expedited_data, whole 12 15)
    ∷ (complete_size, whole 12 15)
    -- "22, code at 12-15"
    ∷ (abort_code, whole 12 15)
    -- document 02, [5]: "the error code follows the CoE header: bytes 8-9, register 10, five data bytes"
    ∷ (emergency_code, whole 8 9)
    ∷ (error_register, whole 10 10)
    ∷ (emergency_data, whole 11 15)
    ∷ []

abbrev pub LaidOut : Type 0
LaidOut = map (λ (r : Name × Field). place r.0) layouts ≡ map (λ (r : Name × Field). r.1) layouts

-- ---- requests

abbrev pub in_one : List Field → ℕ → Bool
in_one [] bit = false
in_one (f ∷ fs) bit = either (both (leb f.first bit) (ltb bit (end f))) (in_one fs bit)

-- every bit below n is in one of the fields
abbrev pub covers : ℕ → List Field → Bool
covers zero fs = true
covers (suc n) fs = both (in_one fs n) (covers n fs)

-- A frame of so many bytes whose fields hold these numbers, and whose other bits are "skipped bits .. written 0". Both together
-- leave out no bit of the frame.
pub record Packs (bytes : ℕ) (fields : List (Name × ℕ)) (skipped : List Field) (frame : List ℕ) : Type 0 where
  pub long : length frame ≡ bytes
  pub holds : map (λ (r : Name × ℕ). the r.0 frame) fields ≡ map (λ (r : Name × ℕ). r.1) fields
  pub every_bit : covers (8 * bytes) (map (λ (r : Name × ℕ). place r.0) fields ++ skipped) ≡ true
  pub else_zero : map (λ (f : Field). read f frame) skipped ≡ map (λ (f : Field). 0) skipped

-- no second list of bytes has these fields
abbrev pub PacksOne : Type 0
PacksOne = (bytes : ℕ) (fields : List (Name × ℕ)) (skipped : List Field) (a b : List ℕ) → Bytes a → Bytes b
    → Packs bytes fields skipped a → Packs bytes fields skipped b → a ≡ b

-- "Requests: priority 0, type 3, service 2 (information: 8), length field 10 (information: 8)."
abbrev pub front : ℕ → ℕ → ℕ → List (Name × ℕ)
front long k served =
    (length_field, long)
    ∷ (priority, 0)
    ∷ (mailbox_type, 3)
    ∷ (counter, k)
    ∷ (service, served)
    ∷ []

-- "2-3 skipped", and what the layouts leave out of bytes 4 to 7
abbrev pub gaps : List Field
gaps = whole 2 3 ∷ bits 4 0 5 ∷ bits 5 7 7 ∷ whole 6 6 ∷ bits 7 0 3 ∷ []

-- "Complete access sets its bit and sub-index 1."
abbrev pub bit_of : SubIndex → ℕ
bit_of Complete = 1
bit_of (Index b) = 0

abbrev pub sub_of : SubIndex → ℕ
sub_of Complete = 1
sub_of (Index b) = b

-- "Upload packs 12, specifier 2."; complete is the bit of complete access
abbrev pub upload_fields : ℕ → ℕ → ℕ → ℕ → List (Name × ℕ)
upload_fields k complete i b =
    front 10 k 2
    ++ (size_indicator, 0)
    ∷ (expedited, 0)
    ∷ (size, 0)
    ∷ (complete_access, complete)
    ∷ (specifier, 2)
    ∷ (index, i)
    ∷ (sub_index, b)
    ∷ []

abbrev pub UploadPacks : Type 0
UploadPacks = (k i : ℕ) (a : SubIndex) → k < 8 → i < 65536 → sub_of a < 256
    → Packs 12 (upload_fields k (bit_of a) i (sub_of a)) gaps (packed_of k (Upload i a))

-- "Download packs 16 bytes, specifier 1, both flags set, size 4 minus its data length." The data are the value's first bytes.
abbrev pub download_fields : ℕ → ℕ → ℕ → ℕ → ℕ → ℕ → List (Name × ℕ)
download_fields k complete i b v len =
    front 10 k 2
    ++ (size_indicator, 1)
    ∷ (expedited, 1)
    ∷ (size, 4 - len)
    ∷ (complete_access, complete)
    ∷ (specifier, 1)
    ∷ (index, i)
    ∷ (sub_index, b)
    ∷ (expedited_data, v % 256 ^ len)
    ∷ []

abbrev pub DownloadPacks : Type 0
DownloadPacks = (k i : ℕ) (a : SubIndex) (v len : ℕ) → k < 8 → i < 65536 → sub_of a < 256 → 1 ≤ len → len ≤ 4
    → Packs 16 (download_fields k (bit_of a) i (sub_of a) v len) gaps (packed_of k (Download i a v len))

-- "Segment upload packs 9, specifier 3."
abbrev pub segment_fields : ℕ → ℕ → List (Name × ℕ)
segment_fields k t =
    front 10 k 2
    ++ (last_segment, 0)
    ∷ (unused_count, 0)
    ∷ (toggle, t)
    ∷ (specifier, 3)
    ∷ []

abbrev pub SegmentPacks : Type 0
SegmentPacks = (k : ℕ) (t : Bool) → k < 8 → Packs 9 (segment_fields k (cond t 1 0)) gaps (packed_of k (Segment t))

-- "Information packs 14, operation 1, kind 1-5, or 0 for quantities."
abbrev pub information_fields : ℕ → ℕ → List (Name × ℕ)
information_fields k kind =
    front 8 k 8
    ++ (operation, 1)
    ∷ (incomplete, 0)
    ∷ (fragments_left, 0)
    ∷ (list_kind, kind)
    ∷ []

-- the byte behind the operation is skipped as well
abbrev pub information_gaps : List Field
information_gaps = gaps ++ whole 9 9 ∷ []

abbrev pub InformationPacks : Type 0
InformationPacks = (k kind : ℕ) → k < 8 → kind ≤ 5 → Packs 14 (information_fields k kind) information_gaps (packed_of k (Information kind))

-- The inner writers, `pack` and `write_request` of services, take any counter: they cut it to its three bits, 8 goes out as 0 and 9
-- as 1. What a host calls judges it first.
abbrev pub CounterCut : Type 0
CounterCut = (k : ℕ) (r : Request) → packed_of k r ≡ packed_of (k % 8) r
