-- What an order asks for, by the number of its kind: which entries are 15, the fields of the frame of its first request, and what the
-- first reply is held to. 1 is an upload, 2 an upload with complete access, 3 a download, 4 an object list, 5 the quantities and 6 a
-- download with complete access. Assumes nothing.
use Rattle.std.specs.Prelude.{◌≡◌, Bool, false, not, List, [], ◌∷◌, ℕ, ◌<◌, eqb}
use Rattle.std.proofs.Math.Option.{none, some}
use Rattle.wire.specs.Words.{within, both, either, first_of}
use Rattle.wire.specs.Fields.{Field}
use Rattle.mailbox.specs.Fields.{Name}
use Rattle.services.specs.Requests.{packed_of}
use Rattle.line.specs.Desk.{first_counter}
use Rattle.line.specs.Numbers.{Test}
use Rattle.transfer.specs.Entry.{default_budget}
use Rattle.transfer.specs.Due.{first_request, first_reply}
use Rattle.transfer.specs.declared.Order.{Order}
use Rattle.transfer.specs.declared.due.Reply.{Reply}
use Rattle.transfer.specs.declared.due.Reply.TheVariants as reply
use Rattle.promises.specs.Fields.{upload_fields, download_fields, information_fields, gaps, information_gaps, Packs}

-- ---- 15: "entry: data length not 1-4, list kind not 1-5, budget 0"

abbrev pub unfit : Order → List Test
unfit o =
    -- "budget 0"
    (eqb o.budget 0, 0x15)
    -- none of the six kinds
    ∷ (not (within 1 6 o.kind), 0x15)
    -- "data length not 1-4"
    ∷ (both (either (eqb o.kind 3) (eqb o.kind 6)) (not (within 1 4 o.len)), 0x15)
    -- "list kind not 1-5"
    ∷ (both (eqb o.kind 4) (not (within 1 5 o.index)), 0x15)
    ∷ []

abbrev pub Fit : Order → Type 0
Fit o = first_of {A = ℕ} (unfit o) ≡ none

-- ---- what nobody hands in

pub record Defaults : Type 0 where
  -- "A fresh desk sends 1"
  pub counter : first_counter ≡ 1
  -- document 02, [12]: "The default in the programs and in the linked functions that name no budget becomes 1,024."
  pub budget : default_budget ≡ 1024

-- ---- the first request and its reply

-- a frame of so many bytes, what its fields hold, its other bits, which are 0, and the rules for its reply (Rules)
pub record Asking : Type 0 where
  pub bytes : ℕ
  pub fields : List (Name × ℕ)
  pub skipped : List Field
  pub reply : Reply

abbrev uploads : ℕ → ℕ → ℕ → ℕ → Asking
uploads c complete i b = record { bytes = 12; fields = upload_fields c complete i b; skipped = gaps; reply = reply.Upload i b }

abbrev downloads : ℕ → ℕ → ℕ → ℕ → ℕ → ℕ → Asking
downloads c complete i b v len = record { bytes = 16; fields = download_fields c complete i b v len; skipped = gaps; reply = reply.Download i b }

abbrev lists : ℕ → ℕ → Asking
lists c kind = record { bytes = 14; fields = information_fields c kind; skipped = information_gaps; reply = reply.Fragment false }

-- with the counter c
abbrev pub asks : Order → ℕ → List (Bool × Asking)
asks o c =
    (eqb o.kind 1, uploads c 0 o.index o.sub)
    -- "Complete access sets its bit and sub-index 1.", whatever sub-index the order has
    ∷ (eqb o.kind 2, uploads c 1 o.index 1)
    ∷ (eqb o.kind 3, downloads c 0 o.index o.sub o.value o.len)
    -- "kind 1-5, or 0 for quantities"; the kind of an object list is handed in as the index
    ∷ (eqb o.kind 4, lists c o.index)
    ∷ (eqb o.kind 5, lists c 0)
    ∷ (eqb o.kind 6, downloads c 1 o.index 1 o.value o.len)
    ∷ []

-- what a frame and the rules for its reply have to be
pub record Asked (a : Asking) (frame : List ℕ) (r : Reply) : Type 0 where
  pub packs : Packs a.bytes a.fields a.skipped frame
  pub held : r ≡ a.reply

-- of every order that is not answered 15, at every counter: the first request and reply, which Standing takes, are the table's
abbrev pub AsksAsListed : Type 0
AsksAsListed = (o : Order) (c : ℕ) → c < 8 → o.index < 65536 → o.sub < 256 → Fit o
    → (a : Asking) × (first_of (asks o c) ≡ some a) × Asked a (packed_of c (first_request o)) (first_reply o)
