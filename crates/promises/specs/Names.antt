-- The names that the standard's numbers have, a second time, by number: document 01's "Listed numbers" and "thirty codes and `Unknown`", with
-- the names of the Rust. Assumes nothing.
use Rattle.std.specs.Prelude.{◌≡◌, false, List, [], ◌∷◌, map, ℕ, ◌%◌, ◌<◌, length, get_or, Ok, Err}
use Rattle.wire.specs.declared.refusal.Refusal.TheVariants.{Undecodable}
use Rattle.mailbox.specs.Numbers.{priority_number, priority_of, type_number, type_of, service_number, service_of, command_number, command_of, operation_number, operation_of}
use Rattle.mailbox.specs.AbortCodes.{abort_rows, abort_number, abort_of}
use Rattle.mailbox.specs.declared.numbers.Priority.{Priority}
use Rattle.mailbox.specs.declared.numbers.Priority.TheVariants.{Lowest, Low, High, Highest}
use Rattle.mailbox.specs.declared.numbers.MailboxType.{MailboxType}
use Rattle.mailbox.specs.declared.numbers.MailboxType.TheVariants.{Aoe, Eoe, Coe, Foe, Soe, VendorSpecific}
use Rattle.mailbox.specs.declared.numbers.CoeService.{CoeService}
use Rattle.mailbox.specs.declared.numbers.CoeService.TheVariants.{Emergency, SdoRequest, SdoResponse, TxPdo, RxPdo, TxPdoRemoteRequest, RxPdoRemoteRequest, SdoInformation}
use Rattle.mailbox.specs.declared.numbers.CoeCommand.{CoeCommand}
use Rattle.mailbox.specs.declared.numbers.CoeCommand.TheVariants.{Segment, Download, Upload, UploadSegment, Abort}
use Rattle.mailbox.specs.declared.numbers.SdoInfoOpCode.{SdoInfoOpCode}
use Rattle.mailbox.specs.declared.numbers.SdoInfoOpCode.TheVariants.{GetObjectDescriptionListRequest, GetObjectDescriptionListResponse, GetObjectDescriptionRequest, GetObjectDescriptionResponse, GetEntryDescriptionRequest, GetEntryDescriptionResponse, SdoInfoErrorRequest}
use Rattle.mailbox.specs.declared.abort_code.CoeAbortCode.{CoeAbortCode}
use Rattle.mailbox.specs.declared.abort_code.CoeAbortCode.TheVariants.{ToggleBit, SdoTimeout, InvalidCommand, OutOfMemory, UnsupportedAccess, WriteOnlyRead, ReadOnlyWrite, IndexOnly, NoCompleteAccess, ObjectTooLarge, DownloadBlocked, NotFound, PdoMappingFailed, PdoTooSmall, Incompatible, Internal, HardwareFailure, DataLengthMismatch, DataTooLong, DataTooShort, SubIndexNotFound, ValueOutOfRange, ValueTooLarge, ValueTooSmall, MaxMin, General, TransferFailed, TransferFailedLocal, InvalidState, NoObjectDictionary, Unknown}
use Rattle.judge.specs.Answers.{one_of}

-- ---- the tables

abbrev pub priorities : List (ℕ × Priority)
priorities = (0, Lowest) ∷ (1, Low) ∷ (2, High) ∷ (3, Highest) ∷ []

-- "types 0-5 and 15"
abbrev pub types : List (ℕ × MailboxType)
types = (0, MailboxType.Err) ∷ (1, Aoe) ∷ (2, Eoe) ∷ (3, Coe) ∷ (4, Foe) ∷ (5, Soe) ∷ (15, VendorSpecific) ∷ []

-- "services 1-8"
abbrev pub services : List (ℕ × CoeService)
services =
    (1, Emergency) ∷ (2, SdoRequest) ∷ (3, SdoResponse) ∷ (4, TxPdo)
    ∷ (5, RxPdo) ∷ (6, TxPdoRemoteRequest) ∷ (7, RxPdoRemoteRequest) ∷ (8, SdoInformation) ∷ []

-- "specifiers 1-4 in the source, and 0, which CiA 301 gives to a segment reply"
abbrev pub specifiers : List (ℕ × CoeCommand)
specifiers = (0, Segment) ∷ (1, Download) ∷ (2, Upload) ∷ (3, UploadSegment) ∷ (4, Abort) ∷ []

-- "operations 1-7"
abbrev pub operations : List (ℕ × SdoInfoOpCode)
operations =
    (1, GetObjectDescriptionListRequest) ∷ (2, GetObjectDescriptionListResponse) ∷ (3, GetObjectDescriptionRequest)
    ∷ (4, GetObjectDescriptionResponse) ∷ (5, GetEntryDescriptionRequest) ∷ (6, GetEntryDescriptionResponse) ∷ (7, SdoInfoErrorRequest) ∷ []

-- ETG.1000.6, Table 41; document 02, [3]: "the numbers and names in one ordered list". docs/ABORT_CODES.md has the words beside them
abbrev pub abort_codes : List (ℕ × CoeAbortCode)
abort_codes =
    (0x05030000, ToggleBit)
    ∷ (0x05040000, SdoTimeout)
    ∷ (0x05040001, InvalidCommand)
    ∷ (0x05040005, OutOfMemory)
    ∷ (0x06010000, UnsupportedAccess)
    ∷ (0x06010001, WriteOnlyRead)
    ∷ (0x06010002, ReadOnlyWrite)
    ∷ (0x06010003, IndexOnly)
    ∷ (0x06010004, NoCompleteAccess)
    ∷ (0x06010005, ObjectTooLarge)
    ∷ (0x06010006, DownloadBlocked)
    ∷ (0x06020000, NotFound)
    ∷ (0x06040041, PdoMappingFailed)
    ∷ (0x06040042, PdoTooSmall)
    ∷ (0x06040043, Incompatible)
    ∷ (0x06040047, Internal)
    ∷ (0x06060000, HardwareFailure)
    ∷ (0x06070010, DataLengthMismatch)
    ∷ (0x06070012, DataTooLong)
    ∷ (0x06070013, DataTooShort)
    ∷ (0x06090011, SubIndexNotFound)
    ∷ (0x06090030, ValueOutOfRange)
    ∷ (0x06090031, ValueTooLarge)
    ∷ (0x06090032, ValueTooSmall)
    ∷ (0x06090036, MaxMin)
    ∷ (0x08000000, General)
    ∷ (0x08000020, TransferFailed)
    ∷ (0x08000021, TransferFailedLocal)
    ∷ (0x08000022, InvalidState)
    ∷ (0x08000023, NoObjectDictionary)
    ∷ []

-- ---- the statement

abbrev pub numbers : {A : Type 0} → List (ℕ × A) → List ℕ
numbers l = map (λ r. r.0) l

abbrev pub names : {A : Type 0} → List (ℕ × A) → List A
names l = map (λ r. r.1) l

-- a table's numbers give its names, its names give its numbers, and a number that it does not have gives none of its names
pub record Named {A R : Type 0} (table : List (ℕ × A)) (number : A → ℕ) (of : ℕ → R) (found : A → R) (unlisted : ℕ → R) : Type 0 where
  pub by_number : map of (numbers table) ≡ map found (names table)
  pub by_name : map number (names table) ≡ numbers table
  pub otherwise : (n : ℕ) → one_of (numbers table) n ≡ false → of n ≡ unlisted n

pub record NamedAsListed : Type 0 where
  -- the field is two bits wide, so that every number in it has a priority
  pub priority : Named priorities priority_number priority_of (λ p. p) (λ n. priority_of (n % 4))
  pub type : Named types type_number type_of Ok (λ n. Err Undecodable)
  pub service : Named services service_number service_of Ok (λ n. Err Undecodable)
  pub specifier : Named specifiers command_number command_of Ok (λ n. Err Undecodable)
  pub operation : Named operations operation_number operation_of Ok (λ n. Err Undecodable)
  -- "thirty codes and `Unknown`"; "one ordered list, looked up by its rule. Each code's answer stays, and `Unknown` keeps its number"
  pub abort_code : Named abort_codes abort_number abort_of (λ a. a) Unknown
  pub thirty : length abort_codes ≡ 30
  pub listed : map (λ r. (r.0, r.1)) abort_rows ≡ abort_codes
  pub ordered : (j k : ℕ) → j < k → k < 30 → get_or (numbers abort_codes) j 0 < get_or (numbers abort_codes) k 0
  pub unknown : (n : ℕ) → abort_number (Unknown n) ≡ n
