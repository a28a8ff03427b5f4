-- The client's calls, and what it saw of each. Assumes nothing.
use Rattle.std.specs.Prelude.{◌≡◌, List, [], ◌∷◌, ℕ}
use Rattle.line.specs.Desk.{first, Call, enter, send, receive, leave}
use Rattle.line.specs.Stand.{Event, trace}
use Rattle.transfer.specs.declared.Order.{Order}
use Rattle.transfer.specs.Coe.{Told, coe_machine}
use Rattle.desk.specs.Stand.{desk_stand}
use Rattle.client.specs.declared.Seen.{Seen}

abbrev pub event : Call coe_machine → Told → Event coe_machine Told
event k t = record { call = k; told = t }

abbrev pub calls_of : ℕ → Order → List ℕ → List ℕ → List ℕ → List (Call coe_machine)
calls_of seat order frame reply buffer =
    enter seat order ∷ send seat frame ∷ receive seat (reply, buffer) ∷ leave seat ∷ []

-- the answers and the lent buffers that the client saw are those of the stand's run from a fresh desk
abbrev pub RunSeen : ℕ → Order → List ℕ → List ℕ → List ℕ → Seen → List ℕ → List ℕ → Type 0
RunSeen seat order frame reply buffer r frame' buffer' =
    trace desk_stand (desk_stand.fresh first) (calls_of seat order frame reply buffer)
    ≡ event (enter seat order) (r.entered, [])
    ∷ event (send seat frame) (r.sent, frame')
    ∷ event (receive seat (reply, buffer)) (r.received, buffer')
    ∷ event (leave seat) (r.left, [])
    ∷ []
