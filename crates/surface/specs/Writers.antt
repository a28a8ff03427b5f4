-- The request writers as a host calls them: which numbers are refused, in which order, and every byte of the frame buffer. Document 01:
-- "There 15 also covers a counter not 1 to 7 or an unknown kind, and stands before 16." Assumes nothing.
use Rattle.std.specs.Prelude.{◌≡◌, not, List, [], ◌∷◌, ◌++◌, ℕ, ◌-◌, leb, eqb, length, replicate}
use Rattle.std.proofs.Math.Option.{none, some}
use Rattle.wire.specs.Words.{pick, within, first_of}
use Rattle.wire.specs.Bytes.{Bytes, value}
use Rattle.wire.specs.Fields.{Field}
use Rattle.mailbox.specs.Fields.{Name}
use Rattle.line.specs.Numbers.{Test}
use Rattle.promises.specs.Fields.{Packs, gaps, information_gaps, upload_fields, download_fields, segment_fields, information_fields}

-- ---- when a writer refuses

-- "a counter not 1 to 7"
abbrev pub bad_counter : ℕ → Test
bad_counter c = (not (within 1 7 c), 0x15)

-- a flag is 0 or 1
abbrev pub bad_flag : ℕ → Test
bad_flag f = (not (leb f 1), 0x15)

-- 16: "frame buffer not 16 to 1,486 bytes"
abbrev pub bad_room : List ℕ → Test
bad_room frame = (not (within 16 1486 (length frame)), 0x16)

-- ---- what a writer leaves

-- "A frame stands at the front of the lent buffer; zeros fill the rest.": a frame of so many bytes, by the table of fields, in n bytes
pub record Stands (bytes : ℕ) (fields : List (Name × ℕ)) (skipped : List Field) (n : ℕ) (after : List ℕ) : Type 0 where
  pub frame : List ℕ
  pub in_bytes : Bytes frame
  pub packs : Packs bytes fields skipped frame
  pub in_front : after ≡ frame ++ replicate (n - bytes) 0

-- the number of the first condition that holds, and then "all unchanged, also for all 1x"; else 02, "reply due", and the frame
pub record Writes (tests : List Test) (bytes : ℕ) (fields : List (Name × ℕ)) (skipped : List Field) (before : List ℕ) (number : ℕ) (after : List ℕ) : Type 0 where
  pub refused : (n : ℕ) → first_of tests ≡ some n → (number ≡ n) × (after ≡ before)
  pub written : first_of {A = ℕ} tests ≡ none → (number ≡ 0x02) × Stands bytes fields skipped (length before) after

-- ---- the four

-- "Complete access sets its bit and sub-index 1.", whatever sub-index is handed in
abbrev pub sub_asked : ℕ → ℕ → ℕ
sub_asked complete sub = pick (eqb complete 1) 1 sub

abbrev pub UploadFrame : ℕ → ℕ → ℕ → ℕ → List ℕ → ℕ → List ℕ → Type 0
UploadFrame counter index sub complete before =
    Writes
    (bad_counter counter ∷ bad_flag complete ∷ bad_room before ∷ [])
    12 (upload_fields counter complete index (sub_asked complete sub)) gaps before

-- 15: "data length not 1-4"; the data are the bytes that are handed in, the first lowest
abbrev pub DownloadFrame : ℕ → ℕ → ℕ → ℕ → List ℕ → List ℕ → ℕ → List ℕ → Type 0
DownloadFrame counter index sub complete sent before =
    Writes
    (bad_counter counter ∷ bad_flag complete ∷ (not (within 1 4 (length sent)), 0x15) ∷ bad_room before ∷ [])
    16 (download_fields counter complete index (sub_asked complete sub) (value sent) (length sent)) gaps before

abbrev pub SegmentFrame : ℕ → ℕ → List ℕ → ℕ → List ℕ → Type 0
SegmentFrame counter toggle before =
    Writes
    (bad_counter counter ∷ bad_flag toggle ∷ bad_room before ∷ [])
    9 (segment_fields counter toggle) gaps before

-- "kind 1-5, or 0 for quantities"
abbrev pub ListFrame : ℕ → ℕ → List ℕ → ℕ → List ℕ → Type 0
ListFrame counter kind before =
    Writes
    (bad_counter counter ∷ (not (leb kind 5), 0x15) ∷ bad_room before ∷ [])
    14 (information_fields counter kind) information_gaps before
