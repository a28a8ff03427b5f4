-- Document 01, "Judging a reply", as requests [1] and [5] of document 02 change it, a second time: its rules as lists of conditions on the
-- reply's bytes, each with what is told where it holds. The statements say that the judge tells what the first of them that holds tells.
-- s is the reply, n is this call's N, earlier the sum of the earlier chunks. Assumes nothing.
use Rattle.std.specs.Prelude.{◌≡◌, Bool, true, false, not, List, [], ◌∷◌, ◌++◌, ℕ, ◌+◌, ◌-◌, ◌<◌, ltb, leb, eqb, length, take, drop}
use Rattle.std.proofs.Math.Option.{some}
use Rattle.wire.specs.Words.{pick, both, either, first_of}
use Rattle.wire.specs.Fields.{read}
use Rattle.mailbox.specs.Fields.{Name, the, length_field, mailbox_type, service, expedited, size, specifier, index, sub_index, last_segment, unused_count, operation, incomplete}
use Rattle.mailbox.specs.declared.sub_index.SubIndex.{SubIndex}
use Rattle.judge.specs.Answers.{one_of}
use Rattle.services.specs.Requests.{packed_of, answered}
use Rattle.services.specs.declared.Request.TheVariants.{Upload, Download, Segment, Information}
use Rattle.transfer.specs.Due.{due_of, request_due, awaiting_of}
use Rattle.transfer.specs.Judgement.{judge_reply, budgeted}
use Rattle.transfer.specs.Coe.{request_in, reply_in}
use Rattle.transfer.specs.declared.Transfer.{Transfer}
use Rattle.transfer.specs.declared.due.Reply.{Reply}
use Rattle.transfer.specs.declared.due.Reply.TheVariants as reply
use Rattle.promises.specs.Fields.{whole, sub_of}
use Rattle.promises.specs.Names.{numbers, types, services, specifiers, operations}
use Rattle.promises.specs.Orders.{Fit}
use Rattle.promises.specs.Finding.{Finding, finding, refuse, emergency, aborted, done, then_request, then_reply}

-- ---- a rule: under this condition, this is told

abbrev pub Rule : Type 0
Rule = Bool × Finding

abbrev pub otherwise : Bool
otherwise = true

abbrev pub under : ℕ → List ℕ → Bool
under k s = ltb (length s) k

-- the len bytes from a place on, and whether fewer are there
abbrev pub from : ℕ → ℕ → List ℕ → List ℕ
from place len s = take len (drop place s)

abbrev pub fewer_from : ℕ → ℕ → List ℕ → Bool
fewer_from place len s = ltb (length s - place) len

-- "bytes 8-9": at 8 9
abbrev pub at : ℕ → ℕ → List ℕ → ℕ
at first last s = read (whole first last) s

abbrev pub is_set : Name → List ℕ → Bool
is_set bit s = eqb (the bit s) 1

-- the table does not have the number
abbrev pub unlisted : {A : Type 0} → List (ℕ × A) → ℕ → Bool
unlisted table x = not (one_of (numbers table) x)

-- ---- "SDO replies, in this order:"

-- least is how long the reply must at least be, by what it answers
abbrev pub sdo : ℕ → List ℕ → List Rule
sdo least s =
    -- "1. Under 12 bytes, or an unlisted type, service or specifier: 20."; document 02, [5]: "the header reading must not judge byte 8 when
    -- the service is 1, and all that use it follow"
    (under least s, refuse 0x20)
    ∷ (unlisted types (the mailbox_type s), refuse 0x20)
    ∷ (unlisted services (the service s), refuse 0x20)
    ∷ (both (not (eqb (the service s) 1)) (unlisted specifiers (the specifier s)), refuse 0x20)
    -- 2. Document 02, [5]: "An emergency under 16 bytes is 20, in the place where the 20-byte limit stood."; "the error code follows the CoE
    -- header: bytes 8-9, register 10, five data bytes. .. Answer 21 now also hands back the five bytes."
    ∷ (both (eqb (the service s) 1) (under 16 s), refuse 0x20)
    ∷ (eqb (the service s) 1, emergency (at 8 9 s) (at 10 10 s) (at 11 15 s))
    -- "3. Specifier 4: under 16 bytes is 20; else 22, code at 12-15."
    ∷ (both (eqb (the specifier s) 4) (under 16 s), refuse 0x20)
    ∷ (eqb (the specifier s) 4, aborted (at 12 15 s) (at 9 10 s) (at 11 11 s))
    -- "4. Type not 3 .."
    ∷ (not (eqb (the mailbox_type s) 3), refuse 0x23)
    ∷ []

-- "4. .. or (not for segments) index or sub-index not the request's: 23."
abbrev pub addressed : ℕ → ℕ → List ℕ → List Rule
addressed i b s =
    (not (eqb (the index s) i), refuse 0x23)
    ∷ (not (eqb (the sub_index s) b), refuse 0x23)
    ∷ []

-- "5. By kind: Download: under 16 bytes is 20; else done, P = 0."
abbrev pub download : List ℕ → List Rule
download s =
    (under 16 s, refuse 0x20)
    ∷ (otherwise, done 0 [])
    ∷ []

-- "Expedited upload: P = 4 minus size, from byte 12; not that many there is 25. The size indicator plays no part."
abbrev pub expedited_upload : List ℕ → List Rule
expedited_upload s =
    let p = 4 - the size s in
    (both (is_set expedited s) (fewer_from 12 p s), refuse 0x25)
    ∷ (is_set expedited s, done p (from 12 p s))
    ∷ []

-- "Other upload: under 16 bytes is 20. Complete size at 12-15, above N is 24. Let D be the length field minus 10, at least 0. If
-- complete size is at most D, P = D bytes from 16; missing bytes are 25. Otherwise segments follow"
abbrev pub other_upload : ℕ → List ℕ → List Rule
other_upload n s =
    let complete = at 12 15 s in
    let d = the length_field s - 10 in
    (under 16 s, refuse 0x20)
    ∷ (ltb n complete, refuse 0x24)
    ∷ (both (leb complete d) (fewer_from 16 d s), refuse 0x25)
    ∷ (leb complete d, done d (from 16 d s))
    ∷ (otherwise, then_request [])
    ∷ []

-- "Chunk is length minus 3; if that is exactly 7, take off the unused count."
abbrev pub segment_chunk : List ℕ → ℕ
segment_chunk s =
    let k = the length_field s - 3 in
    pick (eqb k 7) (k - the unused_count s) k

-- document 02, [1]: "By ETG.1000.6 a segment reply's data begin at byte 9. Take the chunk there"
abbrev pub segment_place : ℕ
segment_place = 9

-- "Segment: length below 3 is 26. .. It must be there, and the earlier chunks plus it be at most this call's N, else 25. After the
-- last, P is the sum of chunks."
abbrev pub segment : ℕ → ℕ → List ℕ → List Rule
segment earlier n s =
    let k = segment_chunk s in
    (ltb (the length_field s) 3, refuse 0x26)
    ∷ (fewer_from segment_place k s, refuse 0x25)
    ∷ (ltb n (earlier + k), refuse 0x25)
    ∷ (is_set last_segment s, done (earlier + k) (from segment_place k s))
    ∷ (otherwise, then_request (from segment_place k s))
    ∷ []

-- ---- "Information replies: one request, many replies."

-- "from byte 14 in the first operation 2 reply, from 12 in later ones"
abbrev pub chunk_place : Bool → ℕ
chunk_place false = 14
chunk_place true = 12

abbrev pub information : Bool → ℕ → ℕ → List ℕ → List Rule
information begun earlier n s =
    let k = the length_field s - 8 in
    let place = chunk_place begun in
    -- "Under 12 bytes or an unlisted type, service or operation: 20."
    (under 12 s, refuse 0x20)
    ∷ (unlisted types (the mailbox_type s), refuse 0x20)
    ∷ (unlisted services (the service s), refuse 0x20)
    ∷ (unlisted operations (the operation s), refuse 0x20)
    -- "Operation other than 2: reply due, nothing stored. Length below 8: 26."
    ∷ (not (eqb (the operation s) 2), then_reply [])
    ∷ (ltb (the length_field s) 8, refuse 0x26)
    -- "Chunk is length minus 8 .. It must be there (an empty chunk always is) and fit, else 25."
    ∷ (fewer_from place k s, refuse 0x25)
    ∷ (ltb n (earlier + k), refuse 0x25)
    -- "Incomplete set: reply due; clear: done."
    ∷ (is_set incomplete s, then_reply (from place k s))
    ∷ (otherwise, done (earlier + k) (from place k s))
    ∷ []

-- ---- the statements

-- the rules for a reply, by what it answers; of a segment, document 02, [1]: "20 now starts below 9 bytes there, and a segment abort
-- still needs 16. 01's 11-byte case now speaks of other kinds."
unfoldable pub rules : Reply → ℕ → ℕ → List ℕ → List Rule
rules (reply.Download i b) earlier n s = sdo 12 s ++ addressed i b s ++ download s
rules (reply.Upload i b) earlier n s = sdo 12 s ++ addressed i b s ++ expedited_upload s ++ other_upload n s
rules reply.Segment earlier n s = sdo 9 s ++ segment earlier n s
rules (reply.Fragment begun) earlier n s = information begun earlier n s

-- "Each number is given exactly under its condition", with its values and its chunk.
abbrev pub JudgedByRules : Type 0
JudgedByRules = (due : Reply) (earlier n : ℕ) (s : List ℕ)
    → first_of (rules due earlier n s) ≡ some (finding (judge_reply due earlier n s) s)

-- "When the count reaches the budget and the answer would be 01 or 02, it is 27 and the chunk is not stored."
abbrev pub BudgetRule : Type 0
BudgetRule = (spent : Bool) (due : Reply) (earlier n : ℕ) (s : List ℕ) →
    let would = finding (judge_reply due earlier n s) s in
    let goes_on = either (eqb would.0.number 0x01) (eqb would.0.number 0x02) in
    finding (budgeted spent (judge_reply due earlier n s)) s ≡ pick (both spent goes_on) (refuse 0x27) would

-- "the request's": a reply is held to the kind, index and sub-index that its request's frame has
abbrev pub Answers : List ℕ → Reply → Type 0
Answers frame (reply.Download i b) = (the specifier frame ≡ 1) × (the index frame ≡ i) × (the sub_index frame ≡ b)
Answers frame (reply.Upload i b) = (the specifier frame ≡ 2) × (the index frame ≡ i) × (the sub_index frame ≡ b)
Answers frame reply.Segment = the specifier frame ≡ 3
Answers frame (reply.Fragment begun) = (the service frame ≡ 8) × (begun ≡ false)

-- of every order that is not answered 15, at every counter c
abbrev pub AwaitsAnAnswer : Type 0
AwaitsAnAnswer = (t : Transfer) (c : ℕ) → c < 8 → t.order.index < 65536 → t.order.sub < 256 → Fit t.order
    → request_due t ≡ true
    → Answers (packed_of c (request_in (due_of t))) (reply_in (due_of (awaiting_of t)))

-- the Rust's `validate_response` says of a reply's index i and sub-index b whether they are the request's: "index or sub-index not the
-- request's", "not for segments"; a list's reply names none either
pub record Validates : Type 0 where
  pub upload : (index : ℕ) (a : SubIndex) (i b : ℕ) → answered (Upload index a) i b ≡ both (eqb i index) (eqb b (sub_of a))
  pub download : (index : ℕ) (a : SubIndex) (v len i b : ℕ) → answered (Download index a v len) i b ≡ both (eqb i index) (eqb b (sub_of a))
  pub segment : (t : Bool) (i b : ℕ) → answered (Segment t) i b ≡ true
  pub information : (kind i b : ℕ) → answered (Information kind) i b ≡ true
